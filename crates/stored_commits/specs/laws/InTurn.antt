-- Changes apply in turn, each to its own table.
use Rattle.std.proofs.Common.{◌≡◌, ℕ, Bool, true, false, cond, ◌&&◌, List, [], ◌∷◌, Some, refl, sym, ap, subst, ◌∙◌, bytes_eq}
use Rattle.std.specs.List.{list_all}
use Rattle.std.proofs.lemmas.Bool.{both_ways}
use Rattle.std.proofs.lemmas.Option.{same_Some}
use Rattle.std.proofs.lemmas.Slice.Eq.{bytes_eq-Decides}
use Rattle.repl_model.specs.Words.{Change, TableDef, In, at_one, passes_at, all_pass_from, found_in, Rows, table_of, applies, applies_here, after_change, all_apply, table_named}
use Rattle.stored_commits.specs.records.Applying.{applies_to_each, EmptyListApplies, FirstThenOthersApply, AppliesToItsOwn}

-- an empty list of changes applies
pub empty_list_applies : EmptyListApplies
empty_list_applies [] rows = refl
empty_list_applies (def ∷ tables) rows = empty_list_applies tables rows

-- two tests of each element are two tests of all
both_all : {X : Type 0} (p q : X → Bool) (xs : List X) → list_all (λ x. p x && q x) xs ≡ (list_all p xs && list_all q xs)
both_all p q [] = refl
both_all p q (x ∷ xs) = ap (λ (b : Bool). (p x && q x) && b) (both_all p q xs) ∙ turned (p x) (q x) (list_all p xs) (list_all q xs)
  where
    turned : (a b c d : Bool) → ((a && b) && (c && d)) ≡ ((a && c) && (b && d))
    turned false b c d = refl
    turned true false true d = refl
    turned true false false d = refl
    turned true true c d = refl

-- the first change, and then the others
pub first_then_others : FirstThenOthersApply
first_then_others tables change changes rows = both_all (λ def. applies def change (rows def)) (λ def. all_apply def changes (after_change def change (rows def))) tables

-- a change applies to a table of another name, and to its own if it applies there
applies_named : (def : TableDef) (change : Change) (rows : Rows) (b : Bool) → bytes_eq (table_of change) def.name ≡ b → applies def change rows ≡ cond b (applies_here def change rows) true
unfolding applies
applies_named def change rows b e = ap (λ (t : Bool). cond t (applies_here def change rows) true) e

-- a change applies to each table if it does to its own
pub applies_to_own : AppliesToItsOwn
applies_to_own tables change def rows named found = by_test (applies_here def change (rows def)) refl (applies_to_each tables change rows) refl
  where
    own : In def tables × (bytes_eq (table_of change) def.name ≡ true)
    own = found_in (λ (d : TableDef). bytes_eq (table_of change) d.name) tables def found

    -- a table of the change's name is its own
    is_own : (d : TableDef) → In d tables → bytes_eq (table_of change) d.name ≡ true → def ≡ d
    is_own d i e = same_Some def d (sym found ∙ ap (λ (name : List ℕ). table_named name tables) ((bytes_eq-Decides (table_of change) d.name).0 e) ∙ at_one (λ (a : TableDef). table_named a.name tables ≡ Some a) tables d named i)

    each : applies_here def change (rows def) ≡ true → (d : TableDef) → In d tables → (b : Bool) → bytes_eq (table_of change) d.name ≡ b → applies d change (rows d) ≡ true
    each here d i true e = applies_named d change (rows d) true e ∙ subst (λ (a : TableDef). applies_here a change (rows a) ≡ true) (is_own d i e) here
    each here d i false e = applies_named d change (rows d) false e

    by_test : (b : Bool) → applies_here def change (rows def) ≡ b → (a : Bool) → applies_to_each tables change rows ≡ a → applies_to_each tables change rows ≡ applies_here def change (rows def)
    by_test true here a e = all_pass_from (λ (d : TableDef). applies d change (rows d)) tables (λ d i. each here d i (bytes_eq (table_of change) d.name) refl) ∙ sym here
    by_test false here false e = e ∙ sym here
    by_test false here true e = absurd (both_ways (applies def change (rows def)) (applies_named def change (rows def) true own.1 ∙ here) (passes_at (λ (d : TableDef). applies d change (rows d)) tables def e own.0))
