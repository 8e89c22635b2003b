-- What a world calls for at a server, as it is, stays in another world, if the sets whose target it is do.
use Rattle.std.proofs.Common.{◌≡◌, ℕ, zero, suc, ◌/◌, ◌%◌, false, List, [], length, map, sum, Option, slice_get, refl, sym, ap, ◌∙◌}
use Rattle.std.specs.List.{AllByRecursion, enumerate_from}
use Rattle.std.specs.Option.{option_map_or}
use Rattle.std.proofs.lemmas.List.Sums.{sum-map}
use Rattle.repl_model.specs.Words.{Area, Values, CdRow, all_weaker, Member, TargetKind, changes_between, SummaryRow, HistoryEntry, Entry, refresh, block, TargetSide, Server, World, numbered_alike, numbered_lists_alike, place_alike, map_alike, flat_map_alike, at_each, In}
use Rattle.repl_types.specs.declared.area.Area.TheVariants as areas
use Rattle.repl_definitions.specs.declared.member.TargetKind.TheVariants.{BaseAggregate, ChangeAggregate, Ccd}
use Rattle.row_codec.specs.Spelling.{b32, b64}
use Rattle.repl_records.specs.RecordKeys.{member_key_spelling}
use Rattle.repl_records.specs.SetState.{state_spelling, last_number_spelling}
use Rattle.repl_records.specs.Trail.{entry_spelling}
use Rattle.repl_records.specs.declared.record_keys.MemberKey.{MemberKey}
use Rattle.repl_records.specs.declared.set_state.LastNumber.{LastNumber}
use Rattle.repl_records.specs.declared.set_state.SetState.{SetState}
use Rattle.repl_records.specs.declared.trail.TrailEntry.{TrailEntry}
use Rattle.repl_records.specs.declared.trail.TrailEntry.TheVariants as entries
use Rattle.rows_in_order.specs.Contents.{Table}
use Rattle.rows_in_order.specs.Rows.{table_from_rows}
use Rattle.world_store.specs.TargetRows.{source_of, state_of, numbers_given, numbered_members, rows_refreshed, set_rows_refreshed, member_changes, set_changes, count_op, is_insert, is_update, is_delete, trail_entry, trail_rows}
use Rattle.world_store.specs.Tables.{no_rows, member_table, target_table, trail_table, state_table, tables}
use Rattle.world_store.specs.laws.Sides.{MemberStays, SideStays, made_from, made_alone, made_alike}
use Rattle.world_store.specs.laws.MemberReads.{base_reads, change_reads, history_reads, member_reads, block_reads, refresh_reads}

-- the target of a member
abbrev table_of : World → TargetSide → Member → Table
table_of world side member = option_map_or (λ source. member_table source member side.trail) (source_of world side.def member) no_rows

-- the target of the member at a place of a set
abbrev pub table_at : World → ℕ → TargetSide → Table
table_at world place side = option_map_or (table_of world side) (slice_get side.def.members place) no_rows

-- the rows with the last numbers of a set
abbrev pub number_rows : World → ℕ × TargetSide → List (MemberKey × LastNumber)
number_rows world s = map (λ m. (record { set = s.0; member = m.0 }, record { number = numbers_given world s.1.def s.1.trail m.1 })) (numbered_members s.1.def)

-- ---- one set

module _ (before after : World) (side : TargetSide) (stays : SideStays before after side) where
  -- what holds of a member whose source stays holds of each
  each : (P : Member → Type 0) → ((member : Member) → MemberStays before after side member → P member) → AllByRecursion P side.def.members
  each P f = all_weaker (MemberStays before after side) P side.def.members f stays.sources

  -- the targets of its members stay
  pub table_stays : (place : ℕ) → table_at after place side ≡ table_at before place side
  table_stays place = place_alike (table_of after side) (table_of before side) no_rows side.def.members place
      (each (λ member. table_of after side member ≡ table_of before side member) (λ member s. made_alike (member_reads member side.trail) s))

  -- so does its state
  pub state_stays : state_of after side ≡ state_of before side
  state_stays = rw stays.time refl

  -- the numbers that are given in a member's target stay if the member's source does
  numbers_stay : (member : Member) → MemberStays before after side member → numbers_given after side.def side.trail member ≡ numbers_given before side.def side.trail member
  numbers_stay member s = of_kind member.kind
    where
      of_kind : (kind : TargetKind) → numbers_given after side.def side.trail (record member { kind = kind }) ≡ numbers_given before side.def side.trail (record member { kind = kind })
      of_kind BaseAggregate = made_alike (made_from (λ (rows : List SummaryRow). length rows) (base_reads (record member { kind = BaseAggregate }) side.trail)) s
      of_kind ChangeAggregate = made_alike (made_from (λ (rows : List SummaryRow). length rows) (change_reads (record member { kind = ChangeAggregate }) side.trail)) s
      of_kind (Ccd complete false) = made_alike (made_from (λ (es : List (Values × HistoryEntry)). length es) (history_reads (record member { kind = Ccd complete false }) side.trail complete)) s
      of_kind kind = made_alike (made_alone 0) s

  -- so the rows with the last numbers stay
  pub number_rows_stay : (n : ℕ) → number_rows after (n, side) ≡ number_rows before (n, side)
  number_rows_stay n = numbered_alike (λ m. row m.0 (numbers_given after side.def side.trail m.1)) (λ m. row m.0 (numbers_given before side.def side.trail m.1)) 0 side.def.members
      (each (λ member. (place : ℕ) → row place (numbers_given after side.def side.trail member) ≡ row place (numbers_given before side.def side.trail member)) (λ member s place. ap (row place) (numbers_stay member s)))
    where
      row : ℕ → ℕ → MemberKey × LastNumber
      row place number = (record { set = n; member = place }, record { number = number })

  -- the change rows of a block stay
  changes_stay : (low high : ℕ) (q : Option ℕ) → In (block low high q) side.trail → set_changes after side.def low high ≡ set_changes before side.def low high
  changes_stay low high q i = flat_map_alike (member_changes after side.def low high) (member_changes before side.def low high) side.def.members
      (each (λ member. member_changes after side.def low high member ≡ member_changes before side.def low high member) (λ member s. of_kind member (made_alike (block_reads side.trail low high q i) s) member.kind))
    where
      from_source : World → Member → List CdRow
      from_source world member = option_map_or (λ source. changes_between source.log source.reg low high) (source_of world side.def member) []

      of_kind : (member : Member) → from_source after member ≡ from_source before member → (kind : TargetKind) → member_changes after side.def low high (record member { kind = kind }) ≡ member_changes before side.def low high (record member { kind = kind })
      of_kind member same BaseAggregate = refl
      of_kind member same kind = same

  -- and the number of rows that a refresh puts
  refreshed_stay : (p : ℕ) (q : Option ℕ) → In (refresh p q) side.trail → set_rows_refreshed after side.def p q ≡ set_rows_refreshed before side.def p q
  refreshed_stay p q i =
      sym (sum-map (rows after) side.def.members)
      ∙ ap sum (map_alike (rows after) (rows before) side.def.members (each (λ member. rows after member ≡ rows before member) (λ member s. made_alike (refresh_reads member side.trail p q i) s)))
      ∙ sum-map (rows before) side.def.members
    where
      rows : World → Member → ℕ
      rows world member = option_map_or (λ source. rows_refreshed source p q member) (source_of world side.def member) 0

  -- so each entry of the trail stays
  entry_stays : (e : Entry) → In e side.trail → trail_entry after side.def e ≡ trail_entry before side.def e
  entry_stays (refresh p q) i = ap (λ (rows : ℕ). entries.Refresh p rows q) (refreshed_stay p q i)
  entry_stays (block low high q) i = ap (λ (changes : List CdRow). entries.Block low high (count_op is_insert changes) (count_op is_update changes) (count_op is_delete changes) q) (changes_stay low high q i)
  entry_stays e i = refl

  -- and the trail
  trail_stays : trail_rows after side ≡ trail_rows before side
  trail_stays = ap (λ (es : List TrailEntry). enumerate_from 1 es) (map_alike (trail_entry after side.def) (trail_entry before side.def) side.trail (at_each (λ e. trail_entry after side.def e ≡ trail_entry before side.def e) side.trail entry_stays))

-- ---- all sets

module _ (before after : World) (server : Server) (stay : AllByRecursion (SideStays before after) server.target_sets) where
  -- what holds of a set that stays holds of each
  each_side : (P : TargetSide → Type 0) → ((side : TargetSide) → SideStays before after side → P side) → AllByRecursion P server.target_sets
  each_side P f = all_weaker (SideStays before after) P server.target_sets f stay

  -- their targets stay
  targets_stay : (n : ℕ) → target_table after server n ≡ target_table before server n
  targets_stay n =
      let place = n % 64 in
      place_alike (table_at after place) (table_at before place) no_rows server.target_sets (n / 64) (each_side (λ side. table_at after place side ≡ table_at before place side) (λ side stays. table_stays before after side stays place))

  -- so do their trails
  trails_stay : (n : ℕ) → trail_table after server n ≡ trail_table before server n
  trails_stay n =
      let table = λ (world : World) (side : TargetSide). table_from_rows b64 entry_spelling (trail_rows world side) in
      place_alike (table after) (table before) no_rows server.target_sets n
      (each_side (λ side. table after side ≡ table before side) (λ side stays. ap (λ (rows : List (ℕ × TrailEntry)). table_from_rows b64 entry_spelling rows) (trail_stays before after side stays)))

  -- and their states and last numbers
  states_stay : (n : ℕ) → state_table after server n ≡ state_table before server n
  states_stay zero =
      let row : World → ℕ × TargetSide → ℕ × SetState = λ world s. (s.0, state_of world s.1) in
      ap (λ (rows : List (ℕ × SetState)). table_from_rows b32 state_spelling rows)
      (numbered_alike (row after) (row before) 0 server.target_sets (each_side (λ side. (n : ℕ) → row after (n, side) ≡ row before (n, side)) (λ side stays n. ap (λ (state : SetState). (n, state)) (state_stays before after side stays))))
  states_stay (suc zero) =
      ap (λ (rows : List (MemberKey × LastNumber)). table_from_rows member_key_spelling last_number_spelling rows)
      (numbered_lists_alike (number_rows after) (number_rows before) 0 server.target_sets (each_side (λ side. (n : ℕ) → number_rows after (n, side) ≡ number_rows before (n, side)) (number_rows_stay before after)))
  states_stay (suc (suc n)) = refl

  -- A server, as it is, is called for the same tables in two worlds in which the sets whose target it is stay.
  pub tables_stay : (a : Area) (n : ℕ) → tables after server a n ≡ tables before server a n
  unfolding tables
  tables_stay areas.Target n = targets_stay n
  tables_stay areas.SetState n = states_stay n
  tables_stay areas.Trail n = trails_stay n
  tables_stay a n = refl
