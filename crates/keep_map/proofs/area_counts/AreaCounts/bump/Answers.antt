use Rattle.std.proofs.Common.{◌≡◌, ◌≢◌, ◌<◌, ◌+◌, ℕ, Bool, true, false, cond, List, length, get_or, refl, sym, ap, ◌∙◌, eqb-true, min, arith}
use Rattle.std.specs.Prelude.{◌==◌}
use Rattle.std.proofs.lemmas.Bool.{eqb-false}
use Rattle.std.proofs.Math.ListN.{set}
use Rattle.std.proofs.lemmas.List.{get_or-set_other}
use Rattle.std.proofs.lemmas.Grind.{get_or-set_at}
use Rattle.repl_types.specs.Area.{area_number}
use Rattle.keep_core.specs.Revealed.{count_max}
use Rattle.keep_map.proofs.area_counts.AreaCounts.bump.Goals as goal

-- the count at each number after one was raised
raised : (xs : List ℕ) (n m at v : ℕ) → at ≡ n → at < length xs → v ≡ min (get_or xs at 0 + 1) count_max → get_or (set xs at v) m 0 ≡ cond (n == m) (min (get_or xs m 0 + 1) count_max) (get_or xs m 0)
raised xs n m at v here within is = by_cases (n == m) refl
  where
    by_cases : (b : Bool) → (n == m) ≡ b → get_or (set xs at v) m 0 ≡ cond b (min (get_or xs m 0 + 1) count_max) (get_or xs m 0)
    by_cases true e =
        let same : m ≡ at = sym (here ∙ eqb-true n m e) in
        get_or-set_at xs at m v 0 same within ∙ is ∙ ap (λ (k : ℕ). min (get_or xs k 0 + 1) count_max) (sym same)
    by_cases false e = let other : m ≢ at = grind (arith, eqb-false n m e) in get_or-set_other xs at m v 0 other

pub returns : goal.returns
returns c = λ i b. raised c.args.self.now.each (area_number c.args.area) (area_number b) c.number-at.result c.saturating_add.result c.number-at.ensures.number (omega arith) c.saturating_add.ensures i
