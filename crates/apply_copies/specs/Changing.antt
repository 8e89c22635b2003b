-- What taking change rows, one after another, makes of contents.
use Rattle.std.specs.Prelude.{◌≡◌, ◌⊎◌, ℕ, ◌+◌, ◌<◌, ◌≤◌, ◌-◌, ◌^◌, min, true, false, ◌&&◌, nat_lt, nat_le, List, length, map, filter, Option, Some, None, IfSome}
use Rattle.std.specs.declared.cmp.Ordering.TheVariants.{Less}
use Rattle.repl_types.specs.Bytes.{bytes_cmp}
use Rattle.repl_types.specs.Value.{Values}
use Rattle.repl_types.specs.declared.area.Area.{Area}
use Rattle.repl_types.specs.declared.area.Area.TheVariants as areas
use Rattle.repl_types.specs.declared.change_row.CdRow.{CdRow}
use Rattle.repl_types.specs.declared.change_row.Op.{Op}
use Rattle.repl_types.specs.declared.change_row.Op.TheVariants.{I, U, D}
use Rattle.repl_types.specs.declared.fault.Counts.{Counts}
use Rattle.keep_core.specs.Contents.{Contents, IsNextKey, IsLastKey, put_at}
use Rattle.keep_core.specs.Kept.{Kept}
use Rattle.row_codec.specs.Spelling.{key_spelling}
use Rattle.repl_definitions.specs.declared.member.Member.{Member}
use Rattle.repl_records.specs.RecordKeys.{change_key_spelling, IsChangeKey}
use Rattle.repl_records.specs.Capture.{change_row_spelling}
use Rattle.repl_records.specs.declared.record_keys.CdKey.{CdKey}
use Rattle.repl_records.specs.declared.capture.ChangeRow.{ChangeRow}
use Rattle.repl_model.specs.Selection.{SourceTable, is_selected}
use Rattle.site_store.specs.declared.sites.Sites.{Sites}
use Rattle.site_store.specs.Damage.{ShownBefore}
use Rattle.stored_commits.specs.units.StoredChanges.{stored_change}
use Rattle.cd_tables.specs.StoredRows.{change_of, AreChangeRows, HasChangeRows}
use Rattle.cd_tables.specs.laws.SoundChanges.{ChangeRowFits}
use Rattle.stored_commits.specs.copies.ChangedCopies.{with_change, with_changes}
use Rattle.target_steps.specs.Taking.{counts_of, change_reads}
use Rattle.apply_copies.specs.declared.source.Source.{Source}
use Rattle.apply_copies.specs.ChangeRules.{source_of}
use Rattle.apply_copies.specs.Loading.{is_target}
use Rattle.apply_copies.specs.Rules.{target_rules}

-- a registered table of the source
abbrev pub source_as : Source → SourceTable
source_as source = source_of source.table.def source.reg.registration

-- ---- one change row

-- The target with a number took a change row. All other tables are as they were, and no damage is shown that wasn't
-- shown before.
pub record TakesRow (number : ℕ) (source : SourceTable) (member : Member) (change : CdRow) (c d : Contents) : Type 0 where
  pub others : (a : Area) (n : ℕ) → is_target number a n ≡ false → d a n ≡ c a n
  pub shown : (n : ℕ) → ShownBefore (target_rules n) c d
  pub takes : d areas.Target number ≡ with_change source member change (c areas.Target number)

-- The row from before an update was removed, unless the row from after it replaces it: the member selects that, and its key
-- is the same.
abbrev pub RemovesBefore : ℕ → Member → Values → Values → Values → Contents → Contents → Type 0
RemovesBefore number member before key row c d = (d ≡ put_at c areas.Target number (key_spelling before) None) ⊎ ((d ≡ c) × (before ≡ key) × (is_selected member row ≡ true))

-- ---- counts

-- one more, up to the greatest number of 64 bits
abbrev pub one_more : ℕ → ℕ
one_more n = min (n + 1) (2 ^ 64 - 1)

-- the counts with one more change row of an operation
abbrev pub counted : Op → Counts → Counts
counted I counts = record counts { inserts = one_more counts.inserts }
counted U counts = record counts { updates = one_more counts.updates }
counted D counts = record counts { deletes = one_more counts.deletes }

-- ---- change rows in turn

-- change rows were read once at most, at each server
abbrev pub ReadsOnce : {K : Type 0} → (K → Kept) → Sites K → Sites K → Type 0
ReadsOnce kept old new = (s : ℕ) → change_reads kept new s ≤ change_reads kept old s + 1

-- the key after which the change rows of the units after a point stand: no change row has a later one of this seq
abbrev pub start_of : ℕ → CdKey
start_of point = record { commitseq = point; intentseq = record { position = 2 ^ 64 - 1; sub = 2 ^ 16 - 1 } }

-- after a key this change row is the next of a table
abbrev pub NextIs : ℕ → CdKey → CdRow → Contents → Type 0
NextIs table after change c = IsNextKey (c areas.Cd table) (change_key_spelling after) (change_key_spelling (stored_change change).0) (change_row_spelling (stored_change change).1)

-- after a key no change row of a table is of a unit up to a seq: none stands there, or the next one is of a later unit
abbrev pub NoneIs : ℕ → CdKey → ℕ → Contents → Type 0
NoneIs table after upto c = IsLastKey (c areas.Cd table) (change_key_spelling after) ⊎ ((change : CdRow) × ChangeRowFits change × NextIs table after change c × (upto < change.commitseq))

-- this is the next change row of a table after a key, of a unit up to a seq, or there is none
abbrev pub FindsNext : ℕ → CdKey → ℕ → Option CdRow → Contents → Type 0
FindsNext table after upto None c = NoneIs table after upto c
FindsNext table after upto (Some change) c = NextIs table after change c

-- The key of a change row can be stored, and is after another one.
pub record IsLaterChange (after key : CdKey) : Type 0 where
  pub above : bytes_cmp (change_key_spelling after) (change_key_spelling key) ≡ Less
  pub fits : IsChangeKey key

-- A change row that was found after a key, of a unit up to a seq.
pub record IsFound (after : CdKey) (upto : ℕ) (change : CdRow) : Type 0 where
  pub fits : ChangeRowFits change
  pub later : IsLaterChange after (stored_change change).0
  pub early : change.commitseq ≤ upto

-- The next change row of a table was taken, which has this key and this operation; or there is none.
abbrev pub TakesNext : Option Contents → ℕ → ℕ → SourceTable → Member → CdKey → ℕ → Option (CdKey × Op) → Contents → Contents → Type 0
TakesNext saw table number source member after upto None c d = (d ≡ c) × IfSome saw (NoneIs table after upto)
TakesNext saw table number source member after upto (Some next) c d = (change : CdRow) × IsFound after upto change × ((stored_change change).0 ≡ next.0) × (change.op ≡ next.1) × IfSome saw (NextIs table after change) × TakesRow number source member change c d

-- The contents have these change rows of a table, which 64 bits count.
pub record HasChanges (table : ℕ) (rows : List (CdKey × ChangeRow)) (c : Contents) : Type 0 where
  pub is : HasChangeRows table rows c
  pub are : AreChangeRows rows
  pub few : length rows < 2 ^ 64

-- the change rows of the units after one point and up to another
abbrev pub rows_between : ℕ → ℕ → List (CdKey × ChangeRow) → List CdRow
rows_between low high rows = map change_of (filter (λ r. nat_lt low r.0.commitseq && nat_le r.0.commitseq high) rows)

-- The target with a number took the change rows of a table in an interval, which count so. All other tables are as they
-- were, and no damage is shown that wasn't shown before.
pub record TakesAll (saw : Option Contents) (table number : ℕ) (source : SourceTable) (member : Member) (low high : ℕ) (counts : Counts) (c d : Contents) : Type 0 where
  pub others : (a : Area) (n : ℕ) → is_target number a n ≡ false → d a n ≡ c a n
  pub shown : (n : ℕ) → ShownBefore (target_rules n) c d
  pub takes : IfSome saw (λ s. (rows : List (CdKey × ChangeRow)) → HasChanges table rows s
      → (d areas.Target number ≡ with_changes source member (rows_between low high rows) (c areas.Target number)) × (counts ≡ counts_of (rows_between low high rows)))
