-- The change rows of units do to the copy of a table what the units do to the table.
use Rattle.std.proofs.Common.{◌≡◌, ℕ, ◌≤◌, Bool, true, false, ◌&&◌, List, [], ◌∷◌, ◌++◌, None, inl, refl, sym, ap, ap₂, subst, ◌∙◌, nat_lt, nat_le}
use Rattle.std.specs.List.{AllByRecursion, flat_map}
use Rattle.std.specs.FinMap.{empty, entries}
use Rattle.std.proofs.lemmas.Bool.{and_parts}
use Rattle.world_store.specs.Words.{key_spelling, row_spelling, table_from_rows}
use Rattle.repl_model.specs.Words.{all_filter, Change, LogRecord, CdRow, TableDef, Placed, Unit, Member, rows_of_placed, change_rows, changes_between, SourceTable, unplaced, after_units, units_up_to, units_between, source_at, Rows, applies, after_change, after_changes, all_apply, units, entries_empty}
use Rattle.repl_model.specs.laws.Source.{source_onward}
use Rattle.repl_model.specs.laws.Units.{units_split}
use Rattle.keep_core.specs.Contents.{Table}
use Rattle.stored_commits.specs.records.SourceTables.{rows_table, RowsStand, StandsUnderKey, HasRows, Suits}
use Rattle.stored_commits.specs.records.laws.StandingRows.{table_of_entries}
use Rattle.stored_commits.specs.copies.ChangedCopies.{Storing, timed_copy, timed_change, timed_changes, time_after, times_after}
use Rattle.stored_commits.specs.laws.Images.{KeepsCopies}
use Rattle.stored_commits.specs.laws.LoggedRows.{UnitHas}
use Rattle.stored_commits.specs.laws.FirstUnits.{first_units}
use Rattle.stored_commits.specs.laws.CopiedChange.{change_copied}
use Rattle.stored_commits.specs.laws.StoredCopies.{IsCopyOf, one_copy, rows_copied}
use Rattle.stored_commits.specs.laws.StoredRows.{change_stands}

-- ---- lists

-- changes apply if the first ones do, and then the others
all_apply-append : (def : TableDef) (xs ys : List Change) (rows : Rows) → all_apply def (xs ++ ys) rows ≡ (all_apply def xs rows && all_apply def ys (after_changes def xs rows))
all_apply-append def [] ys rows = refl
all_apply-append def (x ∷ xs) ys rows = ap (λ (b : Bool). applies def x rows && b) (all_apply-append def xs ys (after_change def x rows))
    ∙ grouped (applies def x rows) (all_apply def xs (after_change def x rows)) (all_apply def ys (after_changes def xs (after_change def x rows)))
  where
    grouped : (a b c : Bool) → (a && (b && c)) ≡ ((a && b) && c)
    grouped true b c = refl
    grouped false b c = refl

-- a copy takes change rows, and then others
changes_append : (stored_as : Storing) (source : SourceTable) (member : Member) (times : ℕ → ℕ) (xs ys : List CdRow) (t : Table) → timed_changes stored_as source member times (xs ++ ys) t ≡ timed_changes stored_as source member times ys (timed_changes stored_as source member times xs t)
changes_append stored_as source member times [] ys t = refl
changes_append stored_as source member times (x ∷ xs) ys t = changes_append stored_as source member times xs ys (timed_change stored_as source member (times x.commitseq) x t)

-- so do the times of keys
pub times_append : (source : SourceTable) (times : ℕ → ℕ) (xs ys : List CdRow) (time : List ℕ → ℕ) → times_after source times (xs ++ ys) time ≡ times_after source times ys (times_after source times xs time)
times_append source times [] ys time = refl
times_append source times (x ∷ xs) ys time = times_append source times xs ys (time_after source (times x.commitseq) x time)

-- the changes of units
abbrev pub changes_of : List Unit → List Change
changes_of us = flat_map (λ u. unplaced u.changes) us

-- What is known of the units of a sound log: their changes have rows that suit the table, and they apply one
-- after another.
pub record UnitsAreSound (def : TableDef) (log : List LogRecord) : Type 0 where
  pub fit : AllByRecursion (UnitHas (λ change. HasRows change × Suits def change)) (units log)
  pub apply : all_apply def (changes_of (units log)) empty ≡ true

-- if the changes of units and of others apply one after another, those of the first apply, and those of the others to what
-- these make
apply_parts : (def : TableDef) (us vs : List Unit) (rows : Rows) → all_apply def (changes_of (us ++ vs)) rows ≡ true → (all_apply def (changes_of us) rows ≡ true) × (all_apply def (changes_of vs) (after_units def us rows) ≡ true)
apply_parts def [] vs rows apply = (refl, apply)
apply_parts def (u ∷ us) vs rows apply =
    let own = unplaced u.changes in
    let both = and_parts (all_apply def own rows) (all_apply def (changes_of (us ++ vs)) (after_changes def own rows)) (sym (all_apply-append def own (changes_of (us ++ vs)) rows) ∙ apply) in
    let rest = apply_parts def us vs (after_changes def own rows) both.1 in
    (all_apply-append def own (changes_of us) rows ∙ ap₂ (λ (a b : Bool). a && b) both.0 rest.0, rest.1)

module _ (stored_as : Storing) (source : SourceTable) (member : Member) (keeps : KeepsCopies source member) (times : ℕ → ℕ) where
  -- a change's rows are rows of values, and suit the table
  abbrev Fits : Change → Type 0
  Fits change = HasRows change × Suits source.def change

  -- a copy, and the time of each key's last change
  abbrev Timed : Type 0
  Timed = Table × (List ℕ → ℕ)

  -- both after change rows
  abbrev after_rows : List CdRow → Timed → Timed
  after_rows changes copied = (timed_changes stored_as source member times changes copied.0, times_after source times changes copied.1)

  -- rows stand under their keys, and what is copied is a copy of what is stored of them
  abbrev IsCopied : Rows → Timed → Type 0
  IsCopied rows copied = RowsStand source.def rows × IsCopyOf stored_as member copied.1 (rows_table rows) copied.0

  -- both take change rows, and then others
  takes_both : (xs ys : List CdRow) (copied : Timed) → after_rows (xs ++ ys) copied ≡ after_rows ys (after_rows xs copied)
  takes_both xs ys copied = λ i. (changes_append stored_as source member times xs ys copied.0 i, times_append source times xs ys copied.1 i)

  -- the change rows of changes
  changes_copied : (seq : ℕ) (placed : List Placed) (rows : Rows) (copied : Timed) → AllByRecursion (λ p. Fits p.change) placed → all_apply source.def (unplaced placed) rows ≡ true → IsCopied rows copied
      → IsCopied (after_changes source.def (unplaced placed) rows) (after_rows (flat_map (rows_of_placed source.reg seq) placed) copied)
  changes_copied seq [] rows copied fit apply is = is
  changes_copied seq (p ∷ ps) rows copied fit apply is =
      let both = and_parts (applies source.def p.change rows) (all_apply source.def (unplaced ps) (after_change source.def p.change rows)) apply in
      let own = rows_of_placed source.reg seq p in
      subst (IsCopied (after_changes source.def (unplaced (p ∷ ps)) rows)) (sym (takes_both own (flat_map (rows_of_placed source.reg seq) ps) copied))
      (changes_copied seq ps (after_change source.def p.change rows) (after_rows own copied) fit.1 both.1
      (change_stands source.def p.change rows is.0 fit.0.0, change_copied stored_as source member keeps rows copied.1 copied.0 is.0 is.1 times seq p fit.0.0 fit.0.1 both.0))

  -- those of units
  units_copied : (us : List Unit) (rows : Rows) (copied : Timed) → AllByRecursion (UnitHas Fits) us → all_apply source.def (changes_of us) rows ≡ true → IsCopied rows copied
      → IsCopied (after_units source.def us rows) (after_rows (flat_map (change_rows source.reg) us) copied)
  unfolding change_rows
  units_copied [] rows copied fit apply is = is
  units_copied (u ∷ us) rows copied fit apply is =
      let both = and_parts (all_apply source.def (unplaced u.changes) rows) (all_apply source.def (changes_of us) (after_changes source.def (unplaced u.changes) rows)) (sym (all_apply-append source.def (unplaced u.changes) (changes_of us) rows) ∙ apply) in
      subst (IsCopied (after_units source.def (u ∷ us) rows)) (sym (takes_both (change_rows source.reg u) (flat_map (change_rows source.reg) us) copied))
      (units_copied us (after_changes source.def (unplaced u.changes) rows) (after_rows (change_rows source.reg u) copied) fit.1 both.1
      (changes_copied u.head.seq u.changes rows copied fit.0 both.0 is))

  module _ (sound : UnitsAreSound source.def source.log) where
    -- no rows stand, and nothing is their copy
    empty_copied : IsCopied empty ((λ q. None), (λ q. 0))
    empty_copied = (
      subst (AllByRecursion (StandsUnderKey source.def)) (sym entries_empty) tt,
      subst (λ (stored : Table). IsCopyOf stored_as member (λ q. 0) stored (λ q. None)) (sym (table_of_entries (entries empty) ∙ ap (table_from_rows key_spelling row_spelling) entries_empty)) (λ q. inl (refl, refl)),
    )

    -- the units up to a point apply one after another
    first_apply : (point : ℕ) → all_apply source.def (changes_of (units_up_to point source.log)) empty ≡ true
    first_apply point =
        let first = first_units point source.log in
        (apply_parts source.def (units_up_to point source.log) first.0 empty (subst (λ (us : List Unit). all_apply source.def (changes_of us) empty ≡ true) first.1 sound.apply)).0

    -- the rows at a point stand under their keys
    pub rows_stand : (point : ℕ) → RowsStand source.def (source_at source.def source.log point)
    unfolding source_at
    rows_stand point = (units_copied (units_up_to point source.log) empty ((λ q. None), (λ q. 0)) (all_filter (UnitHas Fits) (λ u. nat_le u.head.seq point) (units source.log) sound.fit) (first_apply point) empty_copied).0

    module _ (low high : ℕ) (h : low ≤ high) (time : List ℕ → ℕ) where
      -- the copy of the rows at the first point
      abbrev first_copy : Timed
      first_copy = (timed_copy stored_as time member (entries (source_at source.def source.log low)), time)

      -- the change rows of the units between two points make the copy of the rows at the later one
      interval_copied : IsCopied (source_at source.def source.log high) (after_rows (changes_between source.log source.reg low high) first_copy)
      unfolding source_at changes_between
      interval_copied =
          let stand = rows_stand low in
          let rows = source_at source.def source.log low in
          subst (λ (after : Rows). IsCopied after (after_rows (flat_map (change_rows source.reg) (units_between low high source.log)) first_copy)) (sym (source_onward source.def low high source.log h))
          (units_copied (units_between low high source.log) rows first_copy
          (all_filter (UnitHas Fits) (λ u. nat_lt low u.head.seq && nat_le u.head.seq high) (units source.log) sound.fit)
          (apply_parts source.def (units_up_to low source.log) (units_between low high source.log) empty (subst (λ (us : List Unit). all_apply source.def (changes_of us) empty ≡ true) (units_split low high source.log h) (first_apply high))).1
          (stand, rows_copied stored_as member time source.def rows stand))

      -- so the copy at the first point becomes the one at the later point
      pub copy_taken : timed_changes stored_as source member times (changes_between source.log source.reg low high) (timed_copy stored_as time member (entries (source_at source.def source.log low)))
          ≡ timed_copy stored_as (times_after source times (changes_between source.log source.reg low high) time) member (entries (source_at source.def source.log high))
      copy_taken =
          let rows = source_at source.def source.log high in
          let copied = after_rows (changes_between source.log source.reg low high) first_copy in
          one_copy stored_as member copied.1 (rows_table rows) copied.0 (timed_copy stored_as copied.1 member (entries rows)) interval_copied.1 (rows_copied stored_as member copied.1 source.def rows interval_copied.0)
