-- The change rows that a sound server has captured.
use Rattle.std.proofs.Common.{◌≡◌, ℕ, zero, suc, ◌<◌, ◌≤◌, ◌^◌, ◌⊎◌, inl, inr, Bool, true, false, cond, ◌&&◌, List, [], ◌∷◌, map, length, refl, sym, ap, subst, ◌∙◌, arith, max, Option, Some, IfSome, slice_get, slice_index_or, bytes_eq, Ordering, Less, Equal}
use Rattle.std.specs.List.{AllByRecursion}
use Rattle.std.specs.Cmp.{nat_cmp_is}
use Rattle.std.specs.Ordering.{nat_cmp, ordering_then}
use Rattle.std.proofs.lemmas.List.{length-map}
use Rattle.std.proofs.lemmas.Bool.{and_parts}
use Rattle.world_store.specs.Words.{Is16, Is64, IsRow, IsChange, whole_order, IsChangeKey, change_key_spelling, change_key_cmp, IsChangeRow, order_change_key, RowFits}
use Rattle.repl_model.specs.Words.{each_image, bytes_cmp, Values, images, IsValue, all_weaker, Change, CdRow, Registration, Placed, RegistrationKeepsRules, all_places, are_among, places_rise, table_of, units_between, shows_nothing, insert_row, update_row, delete_row, rows_of, rows_of_placed, change_rows, changes_between, LogIsSound, KeepsTable, Registered, Server, ServerTable, among_below, among_first, rising_few, at_place_in, at_one, all_flat_map}
use Rattle.repl_types.specs.declared.record.Change.TheVariants.{Insert, Update, Delete, Start, Stop}
use Rattle.repl_types.specs.declared.unit.Unit.{Unit as LogUnit}
use Rattle.repl_types.specs.declared.value.Value.TheVariants.{Null}
use Rattle.stored_commits.specs.units.StoredChanges.{stored_change}
use Rattle.stored_commits.specs.laws.CapturedUnits.{place_of}
use Rattle.cd_tables.specs.Captured.{ServerIsSound, captured_changes}
use Rattle.cd_tables.specs.StoredRows.{AreChangeRows}
use Rattle.cd_tables.specs.laws.InOrder.{InOrder, Below, all_always, lists_in_order, rows_rise}
use Rattle.cd_tables.specs.laws.SoundUnits.{ChangeFits, UnitFits, seq_of, between_fit, between_rise}

-- a change row has a spelling, under a key that has one
abbrev pub ChangeRowFits : CdRow → Type 0
ChangeRowFits r = RowFits IsChangeKey IsChangeRow (stored_change r)

-- ---- the columns of a registration

-- No more columns have after-images than can be counted in two bytes, nor before-images.
pub record HasFewColumns (reg : Registration) : Type 0 where
  pub after : length reg.after < 2 ^ 16
  pub before : length reg.before < 2 ^ 16

-- so it is for a registration that keeps the rules
pub has_few_columns : (t : ServerTable) (reg : Registration) → KeepsTable t → RegistrationKeepsRules t.def reg → HasFewColumns reg
has_few_columns t reg keeps rules =
    let n = length t.def.columns in
    let few : n ≤ 64 = keeps.1 in
    let after = and_parts (places_rise reg.after && are_among (all_places t.def) reg.after) (are_among reg.after t.def.key) rules.after in
    let rising = and_parts (places_rise reg.after) (are_among (all_places t.def) reg.after) after.0 in
    let before = and_parts (places_rise reg.before) (are_among reg.after reg.before) rules.before in
    let below = among_first n reg.after rising.1 in
    record {
      after = omega (arith, few, rising_few n reg.after rising.0 below);
      before = omega (arith, few, rising_few n reg.before before.0 (among_below n reg.after reg.before below before.1));
    }

-- ---- images

-- the value at a place of a row of values, or NULL, is a value
pub value_at : (row : Values) (place : ℕ) → AllByRecursion IsValue row → IsValue (slice_index_or row place Null)
value_at [] place all = tt
value_at (v ∷ vs) zero all = all.0
value_at (v ∷ vs) (suc place) all = value_at vs place all.1

-- the images of a row of values are values
pub images_are : (places : List ℕ) (row : Values) → AllByRecursion IsValue row → AllByRecursion IsValue (images places row)
images_are [] row all = tt
images_are (place ∷ places) row all = (value_at row place all, images_are places row all)

-- if they can be counted, they are a row of values
imaged : (places : List ℕ) (row : Values) → length places < 2 ^ 16 → IsRow row → IsRow (images places row)
imaged places row few fit = (omega (arith, few, length-map places (λ place. slice_index_or row place Null)), images_are places row fit.1)

-- NULLs are values
pub nulls_are : (places : List ℕ) → AllByRecursion IsValue (map (λ place. Null) places)
nulls_are [] = tt
nulls_are (place ∷ places) = (tt, nulls_are places)

-- if they can be counted, they are a row of values
nulls : (places : List ℕ) → length places < 2 ^ 16 → IsRow (map (λ place. Null) places)
nulls places few = (omega (arith, few, length-map places (λ (place : ℕ). Null)), nulls_are places)

-- ---- the rows of a change

-- the one change row comes before the other: its unit does, or of one unit its place in the log, or of one place its
-- sub-number
abbrev pub Precedes : CdRow → CdRow → Type 0
Precedes q r = (q.commitseq < r.commitseq)
    ⊎ ((q.commitseq ≡ r.commitseq) × ((q.intentseq.position < r.intentseq.position)
    ⊎ ((q.intentseq.position ≡ r.intentseq.position) × (q.intentseq.sub < r.intentseq.sub))))

-- a change row is of a unit
abbrev pub IsOfUnit : LogUnit → CdRow → Type 0
IsOfUnit u r = r.commitseq ≡ u.head.seq

-- a change row is of a change in a unit with this seq
abbrev IsOfChange : ℕ → Placed → CdRow → Type 0
IsOfChange seq placed r = (r.commitseq ≡ seq) × (r.intentseq.position ≡ placed.pos)

module _ (reg : Registration) (seq : ℕ) where
  -- the rows of a change are of the change
  of_change : (placed : Placed) (change : Change) → AllByRecursion (IsOfChange seq placed) (rows_of reg seq placed.pos change)
  of_change placed (Insert table row) = ((refl, refl), tt)
  of_change placed (Update table before after) = pick (shows_nothing reg before after) reg.del_ins
    where
      pick : (nothing taken_apart : Bool) → AllByRecursion (IsOfChange seq placed) (cond nothing [] (cond taken_apart (delete_row reg seq placed.pos before ∷ insert_row reg seq placed.pos 1 after ∷ []) (update_row reg seq placed.pos before after ∷ [])))
      pick true taken_apart = tt
      pick false true = ((refl, refl), ((refl, refl), tt))
      pick false false = ((refl, refl), tt)
  of_change placed (Delete table row) = ((refl, refl), tt)
  of_change placed (Start table) = tt
  of_change placed (Stop table) = tt

  -- they stand in order
  change_in_order : (pos : ℕ) (change : Change) → InOrder Precedes (rows_of reg seq pos change)
  change_in_order pos (Insert table row) = (tt, tt)
  change_in_order pos (Update table before after) = pick (shows_nothing reg before after) reg.del_ins
    where
      pick : (nothing taken_apart : Bool) → InOrder Precedes (cond nothing [] (cond taken_apart (delete_row reg seq pos before ∷ insert_row reg seq pos 1 after ∷ []) (update_row reg seq pos before after ∷ [])))
      pick true taken_apart = tt
      pick false true = ((inr (refl, inr (refl, omega arith)), tt), (tt, tt))
      pick false false = (tt, tt)
  change_in_order pos (Delete table row) = (tt, tt)
  change_in_order pos (Start table) = tt
  change_in_order pos (Stop table) = tt

  -- and of a change in its ranges they have spellings
  change_rows_fit : (pos tx : ℕ) (change : Change) → HasFewColumns reg → Is64 seq → Is64 pos → IsChange tx change → AllByRecursion ChangeRowFits (rows_of reg seq pos change)
  change_rows_fit pos tx change few small at fit = by_change change fit
    where
      inserted : (sub : ℕ) (row : Values) → Is16 sub → IsRow row → ChangeRowFits (insert_row reg seq pos sub row)
      inserted sub row lt fit = ((small, (at, lt)), (imaged reg.after row few.after fit, nulls reg.before few.before))

      deleted : (row : Values) → IsRow row → ChangeRowFits (delete_row reg seq pos row)
      deleted row fit = ((small, (at, omega arith)), (imaged reg.after row few.after fit, imaged reg.before row few.before fit))

      updated : (before after : Values) → IsRow before → IsRow after → ChangeRowFits (update_row reg seq pos before after)
      updated before after old new = ((small, (at, omega arith)), (imaged reg.after after few.after new, imaged reg.before before few.before old))

      by_change : (change : Change) → IsChange tx change → AllByRecursion ChangeRowFits (rows_of reg seq pos change)
      by_change (Insert table row) fit = (inserted 0 row (omega arith) fit.2, tt)
      by_change (Update table before after) fit = pick (shows_nothing reg before after) reg.del_ins
        where
          pick : (nothing taken_apart : Bool) → AllByRecursion ChangeRowFits (cond nothing [] (cond taken_apart (delete_row reg seq pos before ∷ insert_row reg seq pos 1 after ∷ []) (update_row reg seq pos before after ∷ [])))
          pick true taken_apart = tt
          pick false true = (deleted before fit.2, (inserted 1 after (omega arith) fit.3, tt))
          pick false false = (updated before after fit.2 fit.3, tt)
      by_change (Delete table row) fit = (deleted row fit.2, tt)
      by_change (Start table) fit = tt
      by_change (Stop table) fit = tt

  -- what holds of the rows of a change holds if it is of another table, since it has none then
  pub of_own : (P : List CdRow → Type 0) (placed : Placed) → P [] → P (rows_of reg seq placed.pos placed.change) → P (rows_of_placed reg seq placed)
  of_own P placed none some = pick (bytes_eq (table_of placed.change) reg.table)
    where
      pick : (own : Bool) → P (cond own (rows_of reg seq placed.pos placed.change) [])
      pick true = some
      pick false = none

module _ (reg : Registration) where
  -- ---- the rows of a unit

  -- the rows of a unit are of the unit
  pub of_unit : (u : LogUnit) → AllByRecursion (IsOfUnit u) (change_rows reg u)
  unfolding change_rows
  of_unit u = all_flat_map (IsOfUnit u) (rows_of_placed reg u.head.seq) u.changes (all_always (λ placed. AllByRecursion (IsOfUnit u) (rows_of_placed reg u.head.seq placed)) (λ placed.
      of_own reg u.head.seq (AllByRecursion (IsOfUnit u)) placed tt (all_weaker (IsOfChange u.head.seq placed) (IsOfUnit u) (rows_of reg u.head.seq placed.pos placed.change) (λ r is. is.0) (of_change reg u.head.seq placed placed.change))) u.changes)

  -- they stand in order
  unit_in_order : (u : LogUnit) → UnitFits u → InOrder Precedes (change_rows reg u)
  unfolding change_rows
  unit_in_order u fit = lists_in_order (Below place_of) Precedes (IsOfChange seq) (rows_of_placed reg seq) follow
      (λ placed. of_own reg seq (AllByRecursion (IsOfChange seq placed)) placed tt (of_change reg seq placed placed.change))
      u.changes
      (all_always (λ placed. InOrder Precedes (rows_of_placed reg seq placed)) (λ placed. of_own reg seq (InOrder Precedes) placed tt (change_in_order reg seq placed.pos placed.change)) u.changes)
      fit.rise
    where
      seq : ℕ
      seq = u.head.seq

      follow : (p o : Placed) (q r : CdRow) → p.pos < o.pos → IsOfChange seq p q → IsOfChange seq o r → Precedes q r
      follow p o q r lt is of = inr (is.0 ∙ sym of.0, inl (omega (arith, lt, is.1, of.1)))

  -- and have spellings
  unit_rows_fit : HasFewColumns reg → (u : LogUnit) → UnitFits u → AllByRecursion ChangeRowFits (change_rows reg u)
  unfolding change_rows
  unit_rows_fit few u fit = all_flat_map ChangeRowFits (rows_of_placed reg u.head.seq) u.changes (all_weaker ChangeFits (λ placed. AllByRecursion ChangeRowFits (rows_of_placed reg u.head.seq placed)) u.changes
      (λ placed is. of_own reg u.head.seq (AllByRecursion ChangeRowFits) placed tt (change_rows_fit reg u.head.seq placed.pos is.1.0 placed.change few fit.seq is.0 is.1.1)) fit.changes)

  -- ---- the rows of a log

  module _ (server : Server) (sound : LogIsSound server) (low high : ℕ) where
    -- the rows of the units between two points of a sound log stand in order
    pub log_in_order : InOrder Precedes (changes_between server.log reg low high)
    unfolding changes_between
    log_in_order = lists_in_order (Below seq_of) Precedes IsOfUnit (change_rows reg) (λ u v q r lt is of. inl (omega (arith, lt, is, of))) of_unit (units_between low high server.log)
        (all_weaker UnitFits (λ u. InOrder Precedes (change_rows reg u)) (units_between low high server.log) unit_in_order (between_fit server sound low high))
        (between_rise server sound low high)

    -- they have spellings
    pub log_rows_fit : HasFewColumns reg → AllByRecursion ChangeRowFits (changes_between server.log reg low high)
    unfolding changes_between
    log_rows_fit few = all_flat_map ChangeRowFits (change_rows reg) (units_between low high server.log)
        (all_weaker UnitFits (λ u. AllByRecursion ChangeRowFits (change_rows reg u)) (units_between low high server.log) (unit_rows_fit few) (between_fit server sound low high))

-- ---- their keys

-- the key of a change row is before that of a later one
pub key_precedes : (q r : CdRow) → ChangeRowFits q → ChangeRowFits r → Precedes q r → bytes_cmp (change_key_spelling (stored_change q).0) (change_key_spelling (stored_change r).0) ≡ Less
key_precedes q r fit more before = whole_order IsChangeKey change_key_spelling change_key_cmp order_change_key (stored_change q).0 (stored_change r).0 fit.0 more.0 ∙ pick before
  where
    subs : Ordering
    subs = nat_cmp q.intentseq.sub r.intentseq.sub

    places : Ordering
    places = ordering_then (nat_cmp q.intentseq.position r.intentseq.position) subs

    pick : Precedes q r → ordering_then (nat_cmp q.commitseq r.commitseq) places ≡ Less
    pick (inl lt) = ap (λ (o : Ordering). ordering_then o places) (sym (nat_cmp_is q.commitseq r.commitseq Less lt))
    pick (inr (same, inl lt)) =
        ap (λ (o : Ordering). ordering_then o places) (sym (nat_cmp_is q.commitseq r.commitseq Equal same))
        ∙ ap (λ (o : Ordering). ordering_then o subs) (sym (nat_cmp_is q.intentseq.position r.intentseq.position Less lt))
    pick (inr (same, inr (place, lt))) =
        ap (λ (o : Ordering). ordering_then o places) (sym (nat_cmp_is q.commitseq r.commitseq Equal same))
        ∙ ap (λ (o : Ordering). ordering_then o subs) (sym (nat_cmp_is q.intentseq.position r.intentseq.position Equal place))
        ∙ sym (nat_cmp_is q.intentseq.sub r.intentseq.sub Less lt)

-- ---- the change rows of a registration

-- the change rows that a sound server has captured of a registration are rows as they stand in a table
pub change_rows_are : (server : Server) → ServerIsSound server → (n : ℕ) (t : ServerTable) (r : Registered) → slice_get server.tables n ≡ Some t → t.registered ≡ Some r → AreChangeRows (captured_changes server r)
change_rows_are server sound n t r at is = pick r.active
  where
    keeps : KeepsTable t
    keeps = at_one KeepsTable server.tables t sound.tables (at_place_in server.tables n t at)

    few : HasFewColumns r.reg
    few = has_few_columns t r.reg keeps (subst (λ (o : Option Registered). IfSome o (λ q. RegistrationKeepsRules t.def q.reg)) is keeps.2)

    low : ℕ
    low = max r.start r.floor

    rows : List CdRow
    rows = changes_between server.log r.reg low server.captured

    fit : AllByRecursion ChangeRowFits rows
    fit = log_rows_fit r.reg server sound.log low server.captured few

    pick : (active : Bool) → AreChangeRows (cond active (map stored_change rows) [])
    pick true = record {
      rise = rows_rise Precedes ChangeRowFits change_key_spelling stored_change key_precedes rows fit (log_in_order r.reg server sound.log low server.captured);
      fit = each_image (RowFits IsChangeKey IsChangeRow) stored_change rows fit;
    }
    pick false = record { rise = tt; fit = tt }
