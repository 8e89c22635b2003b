-- What holds of the error that a `?` passes on.
use Rattle.std.specs.Prelude.{◌≡◌, Result, Ok, Err, IsErrAnd, IfErr, OnErr}
use Rattle.std.proofs.Common.{sym, subst}

-- what holds of the error that is passed on holds of the result
pub passed : {T E : Type 0} (r : Result T E) (e : E) (P : E → Type 0) → IsErrAnd r (λ y. y ≡ e) → P e → IfErr r P
passed (Ok x) e P is holds = tt
passed (Err y) e P is holds = subst P (sym is) holds

-- so does what holds anyway
pub on_err : {T E P : Type 0} (r : Result T E) → P → OnErr r P
on_err (Ok x) holds = tt
on_err (Err y) holds = holds
