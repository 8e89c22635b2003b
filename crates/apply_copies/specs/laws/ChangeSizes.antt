-- The change rows of a sound log are of rows whose keys can be stored.
use Rattle.std.proofs.Common.{◌≡◌, ℕ, Bool, true, false, cond, [], ◌∷◌, refl, sym, ap, subst, ◌∙◌, ◌&&◌, nat_lt, nat_le, Some, bytes_eq}
use Rattle.std.specs.List.{AllByRecursion}
use Rattle.std.proofs.lemmas.Bool.{and_parts}
use Rattle.world_store.specs.Words.{IsRow, key_spelling}
use Rattle.repl_model.specs.Words.{IsKeySize, Values, images, CdRow, Change, Placed, all_filter, all_weaker, fits, change_fits, table_named, shows_nothing, insert_row, update_row, delete_row, rows_of, rows_of_placed, change_rows, changes_between, RegistrationKeepsRules, all_places, are_among, places_rise, KeepsTable, LogIsSound, units_between, same_values, table_of, units, Registered, Server, ServerTable, tables_of, all_flat_map}
use Rattle.repl_types.specs.declared.record.Change.TheVariants.{Insert, Update, Delete, Start, Stop}
use Rattle.repl_types.specs.declared.unit.Unit.{Unit as LogUnit}
use Rattle.stored_commits.specs.copies.ChangedCopies.{key_after}
use Rattle.stored_commits.specs.copies.laws.LoggedChanges.{Fits, units_fit}
use Rattle.stored_commits.specs.laws.LoggedRows.{UnitHas}
use Rattle.stored_commits.specs.copies.laws.ShownRows.{key_shown}
use Rattle.apply_copies.specs.ChangeRules.{source_of}
use Rattle.stored_commits.specs.laws.StorableRows.{fitting_row}

module _ (t : ServerTable) (r : Registered) (keeps : KeepsTable t) (rules : RegistrationKeepsRules t.def r.reg) where
  -- a change row is of a row whose key can be stored
  abbrev pub HasSize : CdRow → Type 0
  HasSize change = IsKeySize (key_spelling (key_after (source_of t.def r.reg) change))

  -- if its after-images are those of a row that fits the table, it is
  of_row : (change : CdRow) (row : Values) → change.after ≡ images r.reg.after row → IsRow row → fits t.def row ≡ true → HasSize change
  of_row change row is fit own =
      let after = and_parts (places_rise r.reg.after && are_among (all_places t.def) r.reg.after) (are_among r.reg.after t.def.key) rules.after in
      let places = and_parts (places_rise r.reg.after) (are_among (all_places t.def) r.reg.after) after.0 in
      subst (λ (k : Values). IsKeySize (key_spelling k)) (sym (key_shown (source_of t.def r.reg) places.1 change row is after.1)) (fitting_row t row keeps fit own).1

  -- so are the change rows of a change of the table
  of_change : (seq pos : ℕ) (change : Change) → bytes_eq (table_of change) t.def.name ≡ true → Fits t.def change → AllByRecursion HasSize (rows_of r.reg seq pos change)
  unfolding change_fits
  of_change seq pos (Insert table row) own fit = (of_row (insert_row r.reg seq pos 0 row) row refl fit.0 (fit.1 own), tt)
  of_change seq pos (Update table before after) own fit =
      let both = and_parts (fits t.def before && fits t.def after) (same_values (images t.def.fixed before) (images t.def.fixed after)) (fit.1 own) in
      let rows = and_parts (fits t.def before) (fits t.def after) both.0 in
      pick rows.0 rows.1 (shows_nothing r.reg before after) r.reg.del_ins
    where
      pick : fits t.def before ≡ true → fits t.def after ≡ true → (nothing taken_apart : Bool) → AllByRecursion HasSize (cond nothing [] (cond taken_apart (delete_row r.reg seq pos before ∷ insert_row r.reg seq pos 1 after ∷ []) (update_row r.reg seq pos before after ∷ [])))
      pick old new true taken_apart = tt
      pick old new false true = (of_row (delete_row r.reg seq pos before) before refl fit.0.0 old, (of_row (insert_row r.reg seq pos 1 after) after refl fit.0.1 new, tt))
      pick old new false false = (of_row (update_row r.reg seq pos before after) after refl fit.0.1 new, tt)
  of_change seq pos (Delete table row) own fit = (of_row (delete_row r.reg seq pos row) row refl fit.0 (fit.1 own), tt)
  of_change seq pos (Start table) own fit = tt
  of_change seq pos (Stop table) own fit = tt

  -- and those of a unit
  of_unit : (u : LogUnit) → UnitHas (Fits t.def) u → AllByRecursion HasSize (change_rows r.reg u)
  unfolding change_rows
  of_unit u fit = all_flat_map HasSize (rows_of_placed r.reg u.head.seq) u.changes (all_weaker (λ (placed : Placed). Fits t.def placed.change) (λ placed. AllByRecursion HasSize (rows_of_placed r.reg u.head.seq placed)) u.changes (λ placed fits. pick placed fits (bytes_eq (table_of placed.change) r.reg.table) refl) fit)
    where
      pick : (placed : Placed) → Fits t.def placed.change → (own : Bool) → bytes_eq (table_of placed.change) r.reg.table ≡ own → AllByRecursion HasSize (cond own (rows_of r.reg u.head.seq placed.pos placed.change) [])
      pick placed fits true e = of_change u.head.seq placed.pos placed.change (ap (bytes_eq (table_of placed.change)) (sym rules.table) ∙ e) fits
      pick placed fits false e = tt

  -- and those between two points of a sound log
  pub all_sized : (server : Server) → LogIsSound server → table_named t.def.name (tables_of server) ≡ Some t.def → (low high : ℕ) → AllByRecursion HasSize (changes_between server.log r.reg low high)
  unfolding changes_between
  all_sized server sound found low high =
      let within = λ (u : LogUnit). nat_lt low u.head.seq && nat_le u.head.seq high in
      all_flat_map HasSize (change_rows r.reg) (units_between low high server.log) (all_weaker (UnitHas (Fits t.def)) (λ u. AllByRecursion HasSize (change_rows r.reg u)) (units_between low high server.log) of_unit (all_filter (UnitHas (Fits t.def)) within (units server.log) (units_fit server t.def sound found)))
