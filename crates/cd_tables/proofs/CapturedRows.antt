-- The change rows of a change whose rows are rows of values can be stored: proofs.
use Rattle.std.proofs.Common.{ℕ, ◌≤◌, Bool, true, false, cond, List, [], ◌∷◌, map, length, get_or, arith, ◌&&◌, nat_le, bytes_eq}
use Rattle.std.specs.List.{AllByRecursion}
use Rattle.std.proofs.lemmas.Bool.{and_parts, leb-true}
use Rattle.std.proofs.lemmas.List.{length-map}
use Rattle.world_store.specs.Words.{IsChangeRow, change_storable}
use Rattle.repl_model.specs.Words.{row_limit, Values, images, IsValue, CdRow, Registration, Change, Placed, DefinedRegistration, rows_of, rows_of_placed, shows_nothing, insert_row, delete_row, update_row}
use Rattle.repl_types.specs.declared.record.Change.TheVariants.{Insert, Update, Delete, Start, Stop}
use Rattle.repl_types.specs.declared.value.Value.TheVariants.{Null}
use Rattle.stored_commits.specs.records.SourceTables.{HasRows}
use Rattle.stored_commits.specs.units.StoredChanges.{stored_change}
use Rattle.cd_tables.specs.Appending.{CanBeStored}
use Rattle.cd_tables.specs.Rules.{IsRegistrationOf}
use Rattle.cd_tables.specs.laws.SoundChanges.{images_are, nulls_are, of_own}

-- A row of values that isn't too long to be stored.
record IsShort (row : Values) : Type 0 where
  pub typed : AllByRecursion IsValue row
  pub few : length row ≤ row_limit

-- images at so few places make a row that can be stored
short_images : (places : List ℕ) (row : Values) → length places ≤ row_limit → AllByRecursion IsValue row → IsShort (images places row)
short_images places row few all = record { typed = images_are places row all; few = omega (arith, few, length-map places (λ (place : ℕ). get_or row place Null)) }

-- and so do as many of these
short_nulls : (places : List ℕ) → length places ≤ row_limit → IsShort (map (λ place. Null) places)
short_nulls places few = record { typed = nulls_are places; few = omega (arith, few, length-map places (λ (place : ℕ). Null)) }

-- a change row of two such rows can be stored
row_storable : (r : CdRow) → IsShort r.after → IsShort r.before → CanBeStored r
row_storable r after before =
    let fits : IsChangeRow (stored_change r).1 = ((omega (arith, after.few), after.typed), (omega (arith, before.few), before.typed)) in
    (fits, change_storable (stored_change r).1 fits after.few before.few)

module _ (reg : Registration) (after_few : length reg.after ≤ row_limit) (before_few : length reg.before ≤ row_limit) (seq pos : ℕ) where
  -- so can all change rows of a change
  rows_storable : (change : Change) → HasRows change → AllByRecursion CanBeStored (rows_of reg seq pos change)
  rows_storable (Insert table row) typed = (row_storable (insert_row reg seq pos 0 row) (short_images reg.after row after_few typed.1) (short_nulls reg.before before_few), tt)
  rows_storable (Update table before after) typed = pick (shows_nothing reg before after) reg.del_ins
    where
      pick : (nothing del_ins : Bool) → AllByRecursion CanBeStored (cond nothing [] (cond del_ins (delete_row reg seq pos before ∷ insert_row reg seq pos 1 after ∷ []) (update_row reg seq pos before after ∷ [])))
      pick true del_ins = tt
      pick false true = (
        row_storable (delete_row reg seq pos before) (short_images reg.after before after_few typed.0.1) (short_images reg.before before before_few typed.0.1),
        (row_storable (insert_row reg seq pos 1 after) (short_images reg.after after after_few typed.1.1) (short_nulls reg.before before_few), tt),
      )
      pick false false = (row_storable (update_row reg seq pos before after) (short_images reg.after after after_few typed.1.1) (short_images reg.before before before_few typed.0.1), tt)
  rows_storable (Delete table row) typed = (row_storable (delete_row reg seq pos row) (short_images reg.after row after_few typed.1) (short_images reg.before row before_few typed.1), tt)
  rows_storable (Start table) typed = tt
  rows_storable (Stop table) typed = tt

-- for a registration of a table, which has no more columns than that
pub placed_storable : (name : List ℕ) (reg : DefinedRegistration) (seq : ℕ) (placed : Placed) → IsRegistrationOf name reg → HasRows placed.change → AllByRecursion CanBeStored (rows_of_placed reg.registration seq placed)
placed_storable name reg seq placed of typed =
    let after = reg.registration.after in
    let before = reg.registration.before in
    let fits = and_parts (bytes_eq reg.registration.table name) (nat_le (length after) row_limit && nat_le (length before) row_limit) of.is in
    let few = and_parts (nat_le (length after) row_limit) (nat_le (length before) row_limit) fits.1 in
    of_own reg.registration seq (AllByRecursion CanBeStored) placed tt (rows_storable reg.registration (leb-true (length after) row_limit few.0) (leb-true (length before) row_limit few.1) seq placed.pos placed.change typed)
