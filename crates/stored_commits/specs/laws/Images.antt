-- What the images of a change row say of the rows that it was captured from: their keys, whether a member
-- selects them, and what it copies of them.
use Rattle.std.proofs.Common.{◌≡◌, ℕ, Bool, true, false, cond, List, ◌++◌, get_or, inl, inr, refl, sym, ◌∙◌, ◌==◌}
use Rattle.std.specs.List.{AllByRecursion}
use Rattle.std.proofs.lemmas.Bool.{both_ways, eq-eqb, or_cases}
use Rattle.std.proofs.lemmas.List.Folds.{list_any-append}
use Rattle.repl_model.specs.Words.{Values, images, CdRow, all_weaker, Member, TargetColumn, update_row, all_places, columns_from, filter_columns, is_among, are_among, SourceTable, imaged_row, is_selected, target_row, key_of, In, any_from, at_each, passes_at}
use Rattle.repl_types.specs.declared.value.Value.TheVariants.{Null}
use Rattle.stored_commits.specs.copies.ChangedCopies.{image_of, value_before, key_before, key_after}
use Rattle.stored_commits.specs.copies.laws.ShownRows.{image_is, key_shown, value_shown}
use Rattle.stored_commits.specs.laws.Agreeing.{Agree, among_one, among_all, map_agrees, same_selection, same_target}

-- What the rules say of a registration and of a copy by its change rows: the columns that the member reads and
-- those of the key are registered; if updates aren't taken apart, those of the key are fixed or have
-- before-images.
pub record KeepsCopies (source : SourceTable) (member : Member) : Type 0 where
  pub table : source.reg.table ≡ source.def.name
  pub places : are_among (all_places source.def) source.reg.after ≡ true
  pub key : are_among source.reg.after source.def.key ≡ true
  pub tested : are_among source.reg.after (filter_columns member) ≡ true
  pub read : AllByRecursion (λ column. are_among source.reg.after (columns_from column.from) ≡ true) member.columns
  pub moves : source.reg.del_ins ≡ false → are_among (source.def.fixed ++ source.reg.before) source.def.key ≡ true

module _ (source : SourceTable) (member : Member) (keeps : KeepsCopies source member) where
  module _ (a b : Values) (agree : Agree a b source.reg.after) where
    -- rows that agree in the registered columns agree in those among them
    agree_among : (places : List ℕ) → are_among source.reg.after places ≡ true → Agree a b places
    agree_among places e = among_all (λ place. get_or a place Null ≡ get_or b place Null) source.reg.after places e agree

    -- they have one key
    pub one_key : key_of source.def a ≡ key_of source.def b
    one_key = map_agrees (λ place. get_or a place Null) (λ place. get_or b place Null) source.def.key (agree_among source.def.key keeps.key)

    -- a member selects both or none
    pub one_selection : is_selected member a ≡ is_selected member b
    one_selection = same_selection a b member (agree_among (filter_columns member) keeps.tested)

    -- and copies the same of both
    pub one_target : target_row member a ≡ target_row member b
    one_target = same_target a b member (all_weaker (λ (column : TargetColumn). are_among source.reg.after (columns_from column.from) ≡ true) (λ column. Agree a b (columns_from column.from)) member.columns (λ column e. agree_among (columns_from column.from) e) keeps.read)

  -- the row of after-images agrees with the whole row in the registered columns
  pub imaged_agrees : (change : CdRow) (row : Values) → change.after ≡ images source.reg.after row → Agree (imaged_row source change) row source.reg.after
  imaged_agrees change row is = at_each (λ place. get_or (imaged_row source change) place Null ≡ get_or row place Null) source.reg.after (λ place i. value_shown source keeps.places change row is place (any_from (λ p. p == place) source.reg.after place i (eq-eqb place place refl)))

  -- so it has the key of the row
  pub key_is : (change : CdRow) (row : Values) → change.after ≡ images source.reg.after row → key_after source change ≡ key_of source.def row
  key_is change row is = key_shown source keeps.places change row is keeps.key

  -- an update that isn't taken apart shows the key from before
  pub key_before_is : (seq pos : ℕ) (before after : Values) → source.reg.del_ins ≡ false → Agree before after source.def.fixed → key_before source (update_row source.reg seq pos before after) ≡ key_of source.def before
  key_before_is seq pos before after whole fixed = map_agrees (value_before source change) (λ place. get_or before place Null) source.def.key
      (at_each (λ place. value_before source change place ≡ get_or before place Null) source.def.key (λ place i. by_before place i (is_among source.reg.before place) refl))
    where
      change : CdRow
      change = update_row source.reg seq pos before after

      -- a column of the key that has no before-image is fixed
      is_fixed : (place : ℕ) → In place source.def.key → is_among source.reg.before place ≡ false → is_among source.def.fixed place ≡ true
      is_fixed place i none = elim (or_cases (is_among source.def.fixed place) (is_among source.reg.before place) (sym (list_any-append (λ p. p == place) source.def.fixed source.reg.before) ∙ passes_at (is_among (source.def.fixed ++ source.reg.before)) source.def.key place (keeps.moves whole) i)) [
        | inl here ↦ here
        | inr other ↦ absurd (both_ways (is_among source.reg.before place) none other)
      ]

      by_before : (place : ℕ) → In place source.def.key → (b : Bool) → is_among source.reg.before place ≡ b → cond b (image_of source.reg.before change.before place) (image_of source.reg.after change.after place) ≡ get_or before place Null
      by_before place i true e = image_is source.reg.before before place e
      by_before place i false e =
          image_is source.reg.after after place (passes_at (is_among source.reg.after) source.def.key place keeps.key i)
          ∙ sym (among_one (λ p. get_or before p Null ≡ get_or after p Null) source.def.fixed place (is_fixed place i e) fixed)
