-- Rows of a target are removed, one after another: proofs.
use Rattle.std.proofs.Common.{◌≡◌, ℕ, true, List, inr, refl, sym, subst, None}
use Rattle.site_store.specs.Words.{Contents, ShownBefore, shown_before}
use Rattle.repl_model.specs.Words.{same_area, Area}
use Rattle.repl_types.specs.declared.area.Area.TheVariants as areas
use Rattle.cd_tables.specs.laws.ClearedTables.{HasCleared, cleared_all}
use Rattle.apply_copies.specs.Clearing.{ClearsNext, Clears}
use Rattle.apply_copies.specs.Rules.{target_rules}

-- on the way no damage is shown that wasn't shown before
pub cleared_shown : (number : ℕ) (after : List ℕ) (c d : Contents) → HasCleared areas.Target number after c d → (m : ℕ) → ShownBefore (target_rules m) c d
cleared_shown number after c d h m = shown_before (target_rules m) (λ a t key f needed. needed, λ a t key value f unfit. unfit) c d (λ a t key value has. inr (h.left a t key value has))

-- there is no next row, so none is left
pub clears_all : (number : ℕ) (after : List ℕ) (c d e : Contents) → HasCleared areas.Target number after c d → ClearsNext number after None d e → Clears number c e
clears_all number after c d e before last = record {
  is = cleared_all areas.Target number after c d e before own last;
  shown = λ m. subst (ShownBefore (target_rules m) c) (sym last.0) (cleared_shown number after c d before m);
}
  where
    own : (a : Area) → same_area areas.Target a ≡ true → areas.Target ≡ a
    own areas.Target same = refl
    own a same = absurd cc
