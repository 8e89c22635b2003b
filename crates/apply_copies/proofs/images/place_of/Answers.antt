use Rattle.std.proofs.Common.{◌≡◌, ℕ, ◌≤◌, Bool, true, false, cond, length, refl, arith, ◌==◌, not, nat_lt, Option, Some, None, ltb-false}
use Rattle.std.specs.List.{position_or_len}
use Rattle.std.proofs.lemmas.List.Sums.{prefix_len-le-length}
use Rattle.std.proofs.lemmas.Option.{none-some, same_Some}
use Rattle.apply_copies.proofs.images.place_of.Goals as goal

-- a number that is given if it is below another
given : (place n : ℕ) (b : Bool) → ◌≡◌ {A = Option ℕ} (Some place) (cond b (Some n) None) → place ≡ n
given place n true is = same_Some place n is
given place n false is = absurd cc

-- and is not given only if it isn't
not_given : (n most : ℕ) (b : Bool) → nat_lt n most ≡ b → n ≤ most → ◌≡◌ {A = Option ℕ} None (cond b (Some n) None) → most ≡ n
not_given n most true e le is = absurd (none-some n is)
not_given n most false e le is = omega (arith, ltb-false n most e, le)

pub returns-in-Some : goal.returns-in-Some
returns-in-Some c =
    let n = position_or_len (λ place. place == c.args.column) c.args.places.now in
    given c.in-Some.place n (nat_lt n (length c.args.places.now)) c.in-Some.ensures

pub returns-in-None : goal.returns-in-None
returns-in-None c =
    let n = position_or_len (λ place. place == c.args.column) c.args.places.now in
    not_given n (length c.args.places.now) (nat_lt n (length c.args.places.now)) refl (prefix_len-le-length (λ place. not (place == c.args.column)) c.args.places.now) c.in-None.ensures
