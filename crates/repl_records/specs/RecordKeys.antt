-- The spellings of the keys of records, and their order.
use Rattle.std.specs.Prelude.{ℕ, List, [], ◌∷◌, ◌++◌}
use Rattle.std.specs.Ordering.{nat_cmp, ordering_then}
use Rattle.std.specs.declared.cmp.Ordering.{Ordering}
use Rattle.std.specs.declared.cmp.Ordering.TheVariants.{Equal}
use Rattle.repl_records.specs.declared.record_keys.Single.{Single}
use Rattle.repl_records.specs.declared.record_keys.InFlightKey.{InFlightKey}
use Rattle.repl_records.specs.declared.record_keys.CdKey.{CdKey}
use Rattle.repl_records.specs.declared.record_keys.UnitKey.{UnitKey}
use Rattle.repl_records.specs.declared.record_keys.MemberKey.{MemberKey}
use Rattle.repl_types.specs.Sequence.{sequence_cmp}
use Rattle.row_codec.specs.Spelling.{Is32, Is64, IsSequence, b32, b64, sequence_spelling}

-- the key of a table that has one record: one byte, always the same
abbrev pub single_spelling : Single → List ℕ
single_spelling key = 0x00 ∷ []

-- the one key of such a table ties with itself
abbrev pub single_cmp : Single → Single → Ordering
single_cmp k l = Equal

-- the key of a change in flight: its transaction and its position
abbrev pub in_flight_key_spelling : InFlightKey → List ℕ
in_flight_key_spelling key = b32 key.tx ++ b64 key.pos

-- the keys whose numbers fit in their bytes
abbrev pub IsInFlightKey : InFlightKey → Type 0
IsInFlightKey key = Is32 key.tx × Is64 key.pos

-- by transactions, and then by positions
abbrev pub in_flight_key_cmp : InFlightKey → InFlightKey → Ordering
in_flight_key_cmp k l = ordering_then (nat_cmp k.tx l.tx) (nat_cmp k.pos l.pos)

-- the key of a change row: the seq of its unit, and the place of the change in the log
abbrev pub change_key_spelling : CdKey → List ℕ
change_key_spelling key = b64 key.commitseq ++ sequence_spelling key.intentseq

-- the keys whose numbers fit in their bytes
abbrev pub IsChangeKey : CdKey → Type 0
IsChangeKey key = Is64 key.commitseq × IsSequence key.intentseq

-- by the seqs of their units, and then by the places of the changes in the log
abbrev pub change_key_cmp : CdKey → CdKey → Ordering
change_key_cmp k l = ordering_then (nat_cmp k.commitseq l.commitseq) (sequence_cmp k.intentseq l.intentseq)

-- the key of a decided unit: its set and its seq
abbrev pub unit_key_spelling : UnitKey → List ℕ
unit_key_spelling key = b32 key.set ++ b64 key.seq

-- the keys whose numbers fit in their bytes
abbrev pub IsUnitKey : UnitKey → Type 0
IsUnitKey key = Is32 key.set × Is64 key.seq

-- by sets, and then by seqs
abbrev pub unit_key_cmp : UnitKey → UnitKey → Ordering
unit_key_cmp k l = ordering_then (nat_cmp k.set l.set) (nat_cmp k.seq l.seq)

-- the key of a member: its set, and its place in it
abbrev pub member_key_spelling : MemberKey → List ℕ
member_key_spelling key = b32 key.set ++ b32 key.member

-- the keys whose numbers fit in their bytes
abbrev pub IsMemberKey : MemberKey → Type 0
IsMemberKey key = Is32 key.set × Is32 key.member

-- by sets, and then by the places of the members
abbrev pub member_key_cmp : MemberKey → MemberKey → Ordering
member_key_cmp k l = ordering_then (nat_cmp k.set l.set) (nat_cmp k.member l.member)
