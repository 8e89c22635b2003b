-- What is in front of tokens.
use Rattle.std.proofs.Common.{◌≡◌, ℤ, List, Option, Some, None, refl, sym, ap, ◌∙◌, option_map, option_and_then}
use Rattle.std.proofs.lemmas.Option.{some_pair_parts}
use Rattle.repl_defs.specs.declared.token.Token.{Token}

-- what is in front of tokens, and the tokens
abbrev pub front : {A : Type 0} → A → List Token → A × List Token
front x ts = (x, ts)

-- what goes on with an option's value, if the option is what is in front
pub goes_on : {A T R : Type 0} (o : Option A) (make : A → T) (ts : List Token) (e : T) (after : List Token) → option_map (λ x. front (make x) ts) o ≡ Some (front e after) → (after ≡ ts) × ((F : T → List Token → Option R) → option_and_then (λ x. F (make x) ts) o ≡ F e after)
goes_on None make ts e after h = absurd (cc)
goes_on (Some x) make ts e after h =
    let p = some_pair_parts (make x) e ts after h in
    (sym p.1, λ F. ap (λ y. F y ts) p.0 ∙ ap (F e) p.1)

-- what stops, if the option is nothing
pub stops : {A T R : Type 0} (o : Option A) (make : A → T) (ts : List Token) → option_map (λ x. front (make x) ts) o ≡ None → (F : A → Option R) → option_and_then F o ≡ None
stops None make ts h F = refl
stops (Some x) make ts h F = absurd (cc)

-- what is made of an integer
pub at_number : {T : Type 0} (make : ℤ → T) (o : Option ℤ) (ts : List Token) → option_map (λ n. front (make n) ts) o ≡ option_map (λ (n : ℤ × List Token). front (make n.0) n.1) (option_map (λ n. front n ts) o)
at_number make None ts = refl
at_number make (Some n) ts = refl
