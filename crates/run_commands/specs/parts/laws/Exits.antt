-- Facts at the exits of a function.
use Rattle.std.specs.Prelude.{Result, Ok, Err, IfOk, IfErr}

-- what holds of a value, if something that follows from it is asked
pub ok_also : {T E : Type 0} {P Q : T → Type 0} (r : Result T E) → ((x : T) → P x → Q x) → IfOk r P → IfOk r Q
ok_also (Ok x) also p = also x p
ok_also (Err e) also p = tt

-- the same of what holds of the error
pub if_err_also : {T E : Type 0} {P Q : E → Type 0} (r : Result T E) → ((e : E) → P e → Q e) → IfErr r P → IfErr r Q
if_err_also (Ok x) also p = tt
if_err_also (Err e) also p = also e p
