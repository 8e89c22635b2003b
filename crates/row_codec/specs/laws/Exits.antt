-- The error at the exit of a `?`.
use Rattle.std.proofs.Common.{◌≡◌, Result, Ok, Err, sym, ◌∙◌}
use Rattle.std.specs.Prelude.{IsErrAnd}

-- the error that the call gave is the one that is handed on
pub handed_on : {T E : Type 0} (r : Result T E) (given found : E) → IsErrAnd r (λ y. y ≡ given) → r ≡ Err found → given ≡ found
handed_on (Ok x) given found h e = absurd h
handed_on (Err y) given found h e = sym h ∙ cc
