-- What the change rows of a registration make of a stored copy.
use Rattle.std.specs.Prelude.{◌≡◌, ℕ, ◌≤◌, true, ◌==◌, if◌then◌else◌, List, [], ◌∷◌, map, filter, slice_get, slice_index_or, Some, None}
use Rattle.std.specs.FinMap.{entries}
use Rattle.std.specs.List.{position_or_len}
use Rattle.repl_types.specs.Value.{Values}
use Rattle.repl_types.specs.declared.value.Value.{Value}
use Rattle.repl_types.specs.declared.value.Value.TheVariants.{Null}
use Rattle.repl_types.specs.declared.change_row.CdRow.{CdRow}
use Rattle.repl_types.specs.declared.change_row.Op.{Op}
use Rattle.repl_types.specs.declared.change_row.Op.TheVariants.{I, U, D}
use Rattle.row_codec.specs.Spelling.{key_spelling}
use Rattle.repl_definitions.specs.declared.member.Member.{Member}
use Rattle.repl_records.specs.TargetSide.{copy_spelling}
use Rattle.keep_core.specs.Contents.{Table, same_key, set_key}
use Rattle.rows_in_order.specs.Rows.{table_from_rows}
use Rattle.repl_model.specs.ChangeRows.{changes_between}
use Rattle.repl_model.specs.MemberCopies.{user_copy}
use Rattle.repl_model.specs.Rules.{is_copy}
use Rattle.repl_model.specs.SourceAt.{source_at}
use Rattle.lists.specs.Lists.{is_among}
use Rattle.repl_model.specs.Selection.{SourceTable, imaged_row, is_selected, target_row}
use Rattle.repl_model.specs.Sound.{IsSound}
use Rattle.repl_model.specs.SoundDefinitions.{read_only_sets}
use Rattle.repl_model.specs.Tables.{key_of}
use Rattle.repl_model.specs.World.{World, KnownSet, known_sets, source_named}
use Rattle.lists.specs.laws.Members.{In}

-- ---- stored copies

-- how a row of a copy is stored under a key whose last change was at a time
abbrev pub Storing : Type 0
Storing = ℕ → Values → List ℕ

-- a row of a user copy, in which no time is stored
abbrev pub as_copy : Storing
as_copy time row = copy_spelling (record { row = row })

-- the stored table of what a member copies of rows; each spelled key has the time of its last change
abbrev pub timed_copy : Storing → (List ℕ → ℕ) → Member → List (Values × Values) → Table
timed_copy stored_as time member rows = table_from_rows key_spelling (λ bytes. bytes) (map (λ r. (r.0, stored_as (time (key_spelling r.0)) (target_row member r.1))) (filter (λ r. is_selected member r.1) rows))

-- the stored table of a user copy of a source at a point
abbrev pub copy_table : SourceTable → Member → ℕ → Table
copy_table source member point = table_from_rows key_spelling copy_spelling (map (λ r. (r.0, record { row = r.1 })) (user_copy source member point))

-- ---- what a change row shows

-- the image of a column, which is NULL if it isn't among the registered ones
abbrev pub image_of : List ℕ → Values → ℕ → Value
image_of places images column = slice_index_or images (position_or_len (λ place. place == column) places) Null

-- the value of a column before an update: its before-image if it has one, and else its after-image, since it is fixed then
abbrev pub value_before : SourceTable → CdRow → ℕ → Value
value_before source change column = if is_among source.reg.before column then image_of source.reg.before change.before column else image_of source.reg.after change.after column

-- the key of the row before an update
abbrev pub key_before : SourceTable → CdRow → Values
key_before source change = map (value_before source change) source.def.key

-- the key of the row after an insert or an update, and of the row that a delete removed
abbrev pub key_after : SourceTable → CdRow → Values
key_after source change = key_of source.def (imaged_row source change)

-- ---- what it makes of a copy

-- the copy with the row of an insert or an update of a unit at a time under its key, if the member selects it
abbrev pub timed_row : Storing → SourceTable → Member → ℕ → CdRow → Table → Table
timed_row stored_as source member unit_time change t = let row = imaged_row source change in
    if is_selected member row then set_key t (key_spelling (key_after source change)) (Some (stored_as unit_time (target_row member row))) else t

-- the copy after an operation: the row from before goes, whether it was selected or not, and the row from after comes
abbrev pub timed_op : Storing → SourceTable → Member → ℕ → CdRow → Op → Table → Table
timed_op stored_as source member unit_time change I t = timed_row stored_as source member unit_time change t
timed_op stored_as source member unit_time change U t = timed_row stored_as source member unit_time change (set_key t (key_spelling (key_before source change)) None)
timed_op stored_as source member unit_time change D t = set_key t (key_spelling (key_after source change)) None

-- the copy after a change row of a unit at a time
abbrev pub timed_change : Storing → SourceTable → Member → ℕ → CdRow → Table → Table
timed_change stored_as source member unit_time change t = timed_op stored_as source member unit_time change change.op t

-- the copy after change rows, one after another, of units whose seqs have these times
abbrev pub timed_changes : Storing → SourceTable → Member → (ℕ → ℕ) → List CdRow → Table → Table
timed_changes stored_as source member times [] t = t
timed_changes stored_as source member times (change ∷ changes) t = timed_changes stored_as source member times changes (timed_change stored_as source member (times change.commitseq) change t)

-- the time of the last change of a key, after a change row of a unit at a time: the unit's, if the row has this key after it
abbrev pub time_after : SourceTable → ℕ → CdRow → (List ℕ → ℕ) → List ℕ → ℕ
time_after source unit_time change time key = if same_key (key_spelling (key_after source change)) key then unit_time else time key

-- the times of the last changes of keys after change rows, one after another
abbrev pub times_after : SourceTable → (ℕ → ℕ) → List CdRow → (List ℕ → ℕ) → List ℕ → ℕ
times_after source times [] time = time
times_after source times (change ∷ changes) time = times_after source times changes (time_after source (times change.commitseq) change time)

-- ---- what it makes of a user copy

-- the copy with the row of an insert or an update
abbrev pub with_row : SourceTable → Member → CdRow → Table → Table
with_row source member change t = timed_row as_copy source member 0 change t

-- the copy after an operation
abbrev pub with_op : SourceTable → Member → CdRow → Op → Table → Table
with_op source member change op t = timed_op as_copy source member 0 change op t

-- the copy after a change row
abbrev pub with_change : SourceTable → Member → CdRow → Table → Table
with_change source member change t = timed_change as_copy source member 0 change t

-- the copy after change rows, one after another
abbrev pub with_changes : SourceTable → Member → List CdRow → Table → Table
with_changes source member changes t = timed_changes as_copy source member (λ seq. 0) changes t

-- ---- the laws

-- a copy in a sound world becomes the copy at a later point by the change rows between the two points, however its rows are
-- stored, and whatever the times of units and of the keys' last changes
abbrev pub TimedCopyTakesChanges : Type 0
TimedCopyTakesChanges = (world : World) (k : KnownSet) (place : ℕ) (member : Member) (source : SourceTable) (low high : ℕ) (stored_as : Storing) (times : ℕ → ℕ) (time : List ℕ → ℕ) → IsSound world → In k (read_only_sets (known_sets world))
    → slice_get k.at_target.def.members place ≡ Some member → source_named member.source k.source ≡ Some source → is_copy member.kind ≡ true → low ≤ high
    → timed_changes stored_as source member times (changes_between source.log source.reg low high) (timed_copy stored_as time member (entries (source_at source.def source.log low)))
    ≡ timed_copy stored_as (times_after source times (changes_between source.log source.reg low high) time) member (entries (source_at source.def source.log high))

-- so does a user copy
abbrev pub CopyTakesChanges : Type 0
CopyTakesChanges = (world : World) (k : KnownSet) (place : ℕ) (member : Member) (source : SourceTable) (low high : ℕ) → IsSound world → In k (read_only_sets (known_sets world))
    → slice_get k.at_target.def.members place ≡ Some member → source_named member.source k.source ≡ Some source → is_copy member.kind ≡ true → low ≤ high
    → with_changes source member (changes_between source.log source.reg low high) (copy_table source member low) ≡ copy_table source member high
