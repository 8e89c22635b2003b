-- The change rows of one change do to the copy of a table what the change does to the table.
use Rattle.std.proofs.Common.{◌≡◌, ℕ, Bool, true, false, cond, ◌&&◌, ◌||◌, List, [], ◌∷◌, Option, Some, None, is_none, inl, inr, refl, sym, ap, ap₂, subst, ◌∙◌, option_map, bytes_eq}
use Rattle.std.specs.FinMap.{get}
use Rattle.std.proofs.lemmas.Bool.{and_parts, both_ways, or_cases}
use Rattle.world_store.specs.Words.{IsRow, key_spelling, row_spelling, same_is, same_itself}
use Rattle.repl_model.specs.Words.{Values, images, Change, CdRow, Placed, Member, fits, change_fits, is_signal, shows_nothing, insert_row, delete_row, update_row, rows_of, rows_of_placed, SourceTable, imaged_row, is_selected, target_row, Rows, key_of, same_values, table_of, holds, applies_here, applies, after_change, none_is, row_is, same_values_exact}
use Rattle.repl_types.specs.declared.record.Change.TheVariants.{Insert, Update, Delete, Start, Stop}
use Rattle.keep_core.specs.Contents.{Table, same_key, set_key}
use Rattle.stored_commits.specs.records.SourceTables.{rows_table, RowsStand, HasRows, Suits, with_effect}
use Rattle.stored_commits.specs.copies.ChangedCopies.{Storing, key_before, key_after, timed_row, timed_changes, time_after, times_after}
use Rattle.stored_commits.specs.laws.Agreeing.{Agree, agree_from}
use Rattle.stored_commits.specs.laws.Images.{KeepsCopies, imaged_agrees, key_before_is, key_is, one_key, one_selection, one_target}
use Rattle.stored_commits.specs.laws.StoredCopies.{shown, IsCopyOf, Shows, shows_none, shows_row, put_copied, removed_copied}
use Rattle.stored_commits.specs.laws.SourceReads.{stands_at_key}
use Rattle.stored_commits.specs.laws.StoredRows.{change_stored}
use Rattle.stored_commits.specs.records.laws.StandingRows.{key_fits}

-- ---- tests

-- a table that has nothing at a key stays when that key is removed
removed_absent : (t : Table) (k : List ℕ) → t k ≡ None → t ≡ set_key t k None
removed_absent t k none = λ i q. at q (same_key k q) refl i
  where
    at : (q : List ℕ) (b : Bool) → same_key k q ≡ b → t q ≡ cond b None (t q)
    at q true e = ap t (sym (same_is k q e)) ∙ none
    at q false e = refl

-- an update that fits leaves the fixed columns
leaves_fixed : (source : SourceTable) (table : List ℕ) (before after : Values) → change_fits source.def (Update table before after) ≡ true → Agree before after source.def.fixed
unfolding change_fits
leaves_fixed source table before after fit = agree_from before after source.def.fixed (same_values_exact (images source.def.fixed before) (images source.def.fixed after) (and_parts (fits source.def before && fits source.def after) (same_values (images source.def.fixed before) (images source.def.fixed after)) fit).1)

-- a change of the table that applies does so to its rows
applies_own : (source : SourceTable) (change : Change) (rows : Rows) → bytes_eq (table_of change) source.def.name ≡ true → applies source.def change rows ≡ true → applies_here source.def change rows ≡ true
unfolding applies
applies_own source change rows own e = ap (λ (b : Bool). cond b (applies_here source.def change rows) true) (sym own) ∙ e

module _ (stored_as : Storing) (source : SourceTable) (member : Member) (keeps : KeepsCopies source member) where
  -- the spelling of the key of a row
  abbrev spelled : Values → List ℕ
  spelled row = key_spelling (key_of source.def row)

  -- a table is the copy of a stored one, with the time of each key's last change
  abbrev Copies : (List ℕ → ℕ) → Table → Table → Type 0
  Copies time stored copied = IsCopyOf stored_as member time stored copied

  -- a copy has the same of rows that agree in the registered columns
  one_shown : (time : ℕ) (a b : Values) → Agree a b source.reg.after → shown stored_as member time a ≡ shown stored_as member time b
  one_shown time a b agree = ap₂ (λ (selected : Bool) (values : Values). cond selected (Some (stored_as time values)) None) (one_selection source member keeps a b agree) (one_target source member keeps a b agree)

  -- where nothing stands, the row of a change row comes as what the copy has of it
  row_comes : (unit_time : ℕ) (change : CdRow) (row : Values) (t : Table) → change.after ≡ images source.reg.after row → t (spelled row) ≡ None → timed_row stored_as source member unit_time change t ≡ set_key t (spelled row) (shown stored_as member unit_time row)
  row_comes unit_time change row t is none = by_selection (is_selected member image) ∙ ap₂ (λ (key : Values) (value : Option (List ℕ)). set_key t (key_spelling key) value) same_key_of (one_shown unit_time image row agree)
    where
      image : Values
      image = imaged_row source change

      agree : Agree image row source.reg.after
      agree = imaged_agrees source member keeps change row is

      same_key_of : key_of source.def image ≡ key_of source.def row
      same_key_of = one_key source member keeps image row agree

      value : Option (List ℕ)
      value = Some (stored_as unit_time (target_row member image))

      by_selection : (b : Bool) → cond b (set_key t (spelled image) value) t ≡ set_key t (spelled image) (cond b value None)
      by_selection true = refl
      by_selection false = removed_absent t (spelled image) (ap (λ (key : Values). t (key_spelling key)) same_key_of ∙ none)

  module _ (time : List ℕ → ℕ) (stored t : Table) (is : Copies time stored t) (unit_time : ℕ) (change : CdRow) (row : Values) (image : change.after ≡ images source.reg.after row) where
    -- if nothing is stored at its key, a row that is stored there follows in the copy by the row of a change row
    row_follows : IsRow row → stored (spelled row) ≡ None → Copies (time_after source unit_time change time) (set_key stored (spelled row) (Some (row_spelling row))) (timed_row stored_as source member unit_time change t)
    row_follows fit none =
        subst (Copies (time_after source unit_time change time) (set_key stored (spelled row) (Some (row_spelling row)))) (sym (row_comes unit_time change row t image (shows_none stored_as member (time (spelled row)) (stored (spelled row)) (t (spelled row)) (is (spelled row)) none)))
        (subst (λ (key : Values). Copies (λ q. cond (same_key (key_spelling key) q) unit_time (time q)) (set_key stored (spelled row) (Some (row_spelling row))) (set_key t (spelled row) (shown stored_as member unit_time row))) (sym (key_is source member keeps change row image))
        (put_copied stored_as member time stored t is (spelled row) unit_time row fit))

    -- a row that is removed goes from the copy by the removal of a change row's key
    row_goes : Copies (time_after source unit_time change time) (set_key stored (spelled row) None) (set_key t (key_spelling (key_after source change)) None)
    row_goes = subst (λ (key : Values). Copies (λ q. cond (same_key (key_spelling key) q) unit_time (time q)) (set_key stored (spelled row) None) (set_key t (key_spelling key) None)) (sym (key_is source member keeps change row image))
        (removed_copied stored_as member time stored t is (spelled row) (λ q. cond (same_key (spelled row) q) unit_time (time q)) (λ q e. ap (λ (b : Bool). cond b unit_time (time q)) e))

  module _ (rows : Rows) (time : List ℕ → ℕ) (t : Table) (stand : RowsStand source.def rows) (is : Copies time (rows_table rows) t) (times : ℕ → ℕ) where
    -- the stored table of the rows
    abbrev stored : Table
    stored = rows_table rows

    -- the copy is one of a stored table, after change rows
    abbrev CopiesAfter : List CdRow → Table → Type 0
    CopiesAfter changes u = Copies (times_after source times changes time) u (timed_changes stored_as source member times changes t)

    -- at the key of a row stands what the rows have there
    stored_at : (row : Values) → IsRow row → stored (spelled row) ≡ option_map row_spelling (get rows (key_of source.def row))
    stored_at row fit = stands_at_key source.def rows (key_of source.def row) stand (key_fits source.def row fit)

    -- nothing is stored at an absent key
    absent : (row : Values) → IsRow row → is_none (get rows (key_of source.def row)) ≡ true → stored (spelled row) ≡ None
    absent row fit none = stored_at row fit ∙ ap (option_map row_spelling) (none_is (get rows (key_of source.def row)) none)

    -- a row that the rows hold is stored at its key
    present : (row : Values) → IsRow row → holds source.def row rows ≡ true → stored (spelled row) ≡ Some (row_spelling row)
    present row fit held = stored_at row fit ∙ ap (option_map row_spelling) (row_is row (get rows (key_of source.def row)) held)

    module _ (table : List ℕ) (before after : Values) (has : HasRows (Update table before after)) (here : applies_here source.def (Update table before after) rows ≡ true) where
      -- the stored table without the row from before
      abbrev left : Table
      left = set_key stored (spelled before) None

      -- and with the row from after
      abbrev moved : Table
      moved = set_key left (spelled after) (Some (row_spelling after))

      -- the rows hold the before-image, and the new key is the same or absent
      parts : (holds source.def before rows ≡ true) × ((same_values (key_of source.def before) (key_of source.def after) || is_none (get rows (key_of source.def after))) ≡ true)
      parts = and_parts (holds source.def before rows) (same_values (key_of source.def before) (key_of source.def after) || is_none (get rows (key_of source.def after))) here

      -- nothing is stored there at the new key
      left_absent : left (spelled after) ≡ None
      left_absent = by_test (same_key (spelled before) (spelled after)) refl
        where
          by_test : (b : Bool) → same_key (spelled before) (spelled after) ≡ b → cond b None (stored (spelled after)) ≡ None
          by_test true e = refl
          by_test false e = elim (or_cases (same_values (key_of source.def before) (key_of source.def after)) (is_none (get rows (key_of source.def after))) parts.1) [
            | inl same ↦ absurd (both_ways (same_key (spelled before) (spelled after)) e
                (subst (λ (key : Values). same_key (spelled before) (key_spelling key) ≡ true) (same_values_exact (key_of source.def before) (key_of source.def after) same) (same_itself (spelled before))))
            | inr none ↦ absent after has.1 none
          ]

      -- the row from before goes from the copy, and no time changes
      gone_before : Copies time left (set_key t (spelled before) None)
      gone_before = removed_copied stored_as member time stored t is (spelled before) time (λ q e. refl)

      -- an update that changes no registered column leaves the copy
      nothing_moves : shows_nothing source.reg before after ≡ true → Copies time moved t
      nothing_moves nothing q = by_test (same_key (spelled after) q) refl
        where
          agree : Agree before after source.reg.after
          agree = agree_from before after source.reg.after (same_values_exact (images source.reg.after before) (images source.reg.after after) (and_parts source.reg.changes_only (same_values (images source.reg.after before) (images source.reg.after after)) nothing).1)

          same : spelled before ≡ spelled after
          same = ap key_spelling (one_key source member keeps before after agree)

          by_test : (b : Bool) → same_key (spelled after) q ≡ b → Shows stored_as member (time q) (cond b (Some (row_spelling after)) (left q)) (t q)
          by_test true e = inr (
            after,
            has.1,
            refl,
            shows_row stored_as member (time q) (stored q) (t q) before (is q) has.0 (ap stored (sym (same ∙ same_is (spelled after) q e)) ∙ present before has.0 parts.0)
                ∙ one_shown (time q) before after agree,
          )
          by_test false e = subst (λ (b : Bool). Shows stored_as member (time q) (cond b None (stored q)) (t q)) (sym (ap (λ (k : List ℕ). same_key k q) same ∙ e)) (is q)

      -- the change rows of an update
      update_copied : (seq pos : ℕ) → change_fits source.def (Update table before after) ≡ true → CopiesAfter (rows_of source.reg seq pos (Update table before after)) moved
      update_copied seq pos fit = by_kind (shows_nothing source.reg before after) refl source.reg.del_ins refl
        where
          goes : CdRow
          goes = delete_row source.reg seq pos before

          comes : CdRow
          comes = insert_row source.reg seq pos 1 after

          whole : CdRow
          whole = update_row source.reg seq pos before after

          by_kind : (b : Bool) → shows_nothing source.reg before after ≡ b → (d : Bool) → source.reg.del_ins ≡ d → CopiesAfter (cond b [] (cond d (goes ∷ comes ∷ []) (whole ∷ []))) moved
          by_kind true e d f = nothing_moves e
          by_kind false e true f = row_follows (time_after source (times seq) goes time) left (set_key t (key_spelling (key_after source goes)) None) (row_goes time stored t is (times seq) goes before refl) (times seq) comes after refl has.1 left_absent
          by_kind false e false f = row_follows time left (set_key t (key_spelling (key_before source whole)) None)
              (subst (λ (key : Values). Copies time left (set_key t (key_spelling key) None)) (sym (key_before_is source member keeps seq pos before after f (leaves_fixed source table before after fit))) gone_before)
              (times seq) whole after refl has.1 left_absent

    -- the change rows of a change of the table
    own_copied : (seq pos : ℕ) (change : Change) → HasRows change → (is_signal change || change_fits source.def change) ≡ true → applies_here source.def change rows ≡ true → CopiesAfter (rows_of source.reg seq pos change) (with_effect source.def change stored)
    own_copied seq pos (Insert table row) has suits here = row_follows time stored t is (times seq) (insert_row source.reg seq pos 0 row) row refl has (absent row has here)
    own_copied seq pos (Update table before after) has suits here = update_copied table before after has here seq pos suits
    own_copied seq pos (Delete table row) has suits here = row_goes time stored t is (times seq) (delete_row source.reg seq pos row) row refl
    own_copied seq pos (Start table) has suits here = is
    own_copied seq pos (Stop table) has suits here = is

    -- the change rows of a change of any table
    pub change_copied : (seq : ℕ) (placed : Placed) → HasRows placed.change → Suits source.def placed.change → applies source.def placed.change rows ≡ true → CopiesAfter (rows_of_placed source.reg seq placed) (rows_table (after_change source.def placed.change rows))
    change_copied seq placed has suits here =
        subst (CopiesAfter (rows_of_placed source.reg seq placed)) (sym (change_stored source.def placed.change rows stand has))
        (subst (λ (name : List ℕ). CopiesAfter (cond (bytes_eq (table_of placed.change) name) change_rows []) (cond own effect stored)) (sym keeps.table)
        (by_table own refl))
      where
        own : Bool
        own = bytes_eq (table_of placed.change) source.def.name

        effect : Table
        effect = with_effect source.def placed.change stored

        change_rows : List CdRow
        change_rows = rows_of source.reg seq placed.pos placed.change

        by_table : (b : Bool) → own ≡ b → CopiesAfter (cond b change_rows []) (cond b effect stored)
        by_table true e = own_copied seq placed.pos placed.change has (suits e) (applies_own source placed.change rows e here)
        by_table false e = is
