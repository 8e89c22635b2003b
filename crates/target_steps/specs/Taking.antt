-- What the step of a set makes of the target of a member.
use Rattle.std.specs.Prelude.{◌≡◌, ◌⊎◌, ℕ, ◌+◌, ◌-◌, ◌*◌, ◌^◌, ◌<◌, ◌≤◌, min, ◌&&◌, ◌==◌, if◌then◌else◌, Bool, true, false, List, [], ◌∷◌, ◌++◌, Option, Some, None, IfSome, slice_get, slice_index_or}
use Rattle.std.specs.List.{AllByRecursion, list_any}
use Rattle.std.specs.Option.{option_map}
use Rattle.repl_types.specs.Area.{same_area}
use Rattle.repl_types.specs.declared.area.Area.{Area}
use Rattle.repl_types.specs.declared.area.Area.TheVariants as areas
use Rattle.repl_types.specs.declared.change_row.CdRow.{CdRow}
use Rattle.repl_types.specs.declared.status.DamageCause.{DamageCause}
use Rattle.repl_types.specs.declared.fault.Counts.{Counts}
use Rattle.keep_core.specs.Contents.{Contents}
use Rattle.keep_core.specs.Kept.{Kept}
use Rattle.repl_definitions.specs.declared.member.Member.{Member}
use Rattle.repl_definitions.specs.declared.member.TargetKind.{TargetKind}
use Rattle.repl_definitions.specs.declared.set.SetDef.{SetDef}
use Rattle.repl_definitions.specs.declared.set.TargetSet.{TargetSet}
use Rattle.repl_model.specs.AfterActions.{is_base_aggregate, base_point}
use Rattle.repl_model.specs.ChangeRows.{changes_between}
use Rattle.repl_model.specs.NextActions.{member_gap}
use Rattle.repl_model.specs.Selection.{SourceTable}
use Rattle.repl_model.specs.SourceAt.{time_at}
use Rattle.repl_model.specs.Trails.{Entry, refresh, block, synchpoint}
use Rattle.repl_model.specs.Units.{last_commit}
use Rattle.repl_model.specs.World.{World, KnownSet, source_named}
use Rattle.repl_model.specs.Sound.{IsSound}
use Rattle.world_store.specs.TargetRows.{rows_refreshed, count_op, is_insert, is_update, is_delete}
use Rattle.world_store.specs.Tables.{member_table}
use Rattle.site_store.specs.declared.sites.Sites.{Sites}
use Rattle.site_store.specs.Views.{sees, reads_in}
use Rattle.set_places.specs.declared.placed_set.PlacedSet.{PlacedSet}
use Rattle.set_places.specs.Places.{IsPlacedAs, IsReadOnly}
use Rattle.set_places.specs.Members.{ForSource}
use Rattle.set_places.specs.Reading.{ReadsOnly}
use Rattle.target_steps.specs.declared.step.BasePoint.{BasePoint}
use Rattle.target_steps.specs.declared.step.Step.{Step}
use Rattle.target_steps.specs.declared.step.Step.TheVariants.{Refresh, Block}

-- ---- steps

-- some member of a set is a base aggregate
abbrev pub has_base_aggregate : SetDef → Bool
has_base_aggregate def = list_any (λ member. is_base_aggregate member.kind) def.members

-- the point at which base aggregates are read in a step of a set, if they are: a refresh's own point, if the set has some, and
-- the one that a block tells
abbrev pub base_of_step : SetDef → Step → Option ℕ
base_of_step def (Refresh point time) = if has_base_aggregate def then Some point else None
base_of_step def (Block low low_time high time base) = option_map (λ at. at.point) base

-- the entry of the trail that a step of a set makes
abbrev pub entry_of : SetDef → Step → Entry
entry_of def (Refresh point time) = refresh point (base_of_step def (Refresh point time))
entry_of def (Block low low_time high time base) = block low high (base_of_step def (Block low low_time high time base))

-- The targets of a set can be loaded at a point: it is the last commit of the set's source, and has this time.
pub record CanLoad (k : KnownSet) (point time : ℕ) : Type 0 where
  pub last : point ≡ last_commit k.source.log
  pub timed : time ≡ time_at k.source.log point

-- A block of a set up to a point tells where base aggregates are read: at the last commit of the source, which has this time,
-- if the set has some and all captured units are taken, and else nowhere.
pub record ReadsBase (k : KnownSet) (high : ℕ) (base : Option BasePoint) : Type 0 where
  pub read : option_map (λ at. at.point) base ≡ (if high == k.source.captured then base_point k else None)
  pub timed : IfSome base (λ at. at.time ≡ time_at k.source.log at.point)

-- The members of a set can take the captured changes of an interval: its targets have reached the interval's start, no member
-- has a gap there, no unit after it is pruned, and the end is captured. Both ends have these times.
pub record CanTake (k : KnownSet) (low low_time high time : ℕ) (base : Option BasePoint) : Type 0 where
  pub from : low ≡ synchpoint k.at_target.trail
  pub gaps : AllByRecursion (λ member. member_gap k.source low member ≡ None) k.at_source.def.members
  pub units : k.source.floor ≤ low
  pub rises : low ≤ high
  pub captured : high ≤ k.source.captured
  pub from_timed : low_time ≡ time_at k.source.log low
  pub timed : time ≡ time_at k.source.log high
  pub reads_base : ReadsBase k high base

-- a set can make a step: a refresh if its targets can be loaded, and a block if its members can take the changes
abbrev pub CanStep : KnownSet → Step → Type 0
CanStep k (Refresh point time) = CanLoad k point time
CanStep k (Block low low_time high time base) = CanTake k low low_time high time base

-- the areas that a block reads
abbrev pub is_of_block : Area → Bool
is_of_block areas.Log = false
is_of_block areas.Source = false
is_of_block areas.Inflight = false
is_of_block areas.Head = false
is_of_block areas.Defs = true
is_of_block areas.Cd = true
is_of_block areas.Uow = true
is_of_block areas.Capture = false
is_of_block areas.Prune = false
is_of_block areas.Spill = false
is_of_block areas.Target = true
is_of_block areas.SetState = true
is_of_block areas.Trail = true

-- a block reads these areas only
abbrev pub ReadsForStep : {K : Type 0} → Step → (K → Kept) → Sites K → Sites K → Type 0
ReadsForStep (Refresh point time) kept old new = Unit {0}
ReadsForStep (Block low low_time high time base) kept old new = ReadsOnly is_of_block kept old new

-- ---- counts

-- how many change rows there are of each operation
abbrev pub counts_of : List CdRow → Counts
counts_of changes = record { rows = 0; inserts = count_op is_insert changes; updates = count_op is_update changes; deletes = count_op is_delete changes }

-- nothing counted
abbrev pub no_counts : Counts
no_counts = record { rows = 0; inserts = 0; updates = 0; deletes = 0 }

-- two numbers together, but no more than 64 bits hold
abbrev pub limited : ℕ → ℕ → ℕ
limited n m = min (n + m) 18446744073709551615

-- two counts together
abbrev pub sum_of : Counts → Counts → Counts
sum_of some more = record { rows = limited some.rows more.rows; inserts = limited some.inserts more.inserts; updates = limited some.updates more.updates; deletes = limited some.deletes more.deletes }

-- the change rows that a member takes in an interval; a base aggregate takes none
abbrev pub changes_taken : SourceTable → Member → ℕ → ℕ → List CdRow
changes_taken source member low high = if is_base_aggregate member.kind then [] else changes_between source.log source.reg low high

-- what is counted of a member at a step of its set: the rows that a refresh puts, or the change rows that it takes in a block
abbrev pub counted : SetDef → Step → SourceTable → Member → Counts
counted def (Refresh point time) source member = record { rows = rows_refreshed source point (base_of_step def (Refresh point time)) member; inserts = 0; updates = 0; deletes = 0 }
counted def (Block low low_time high time base) source member = counts_of (changes_taken source member low high)

-- how many change rows were counted
abbrev pub how_many : Counts → ℕ
how_many counts = counts.inserts + counts.updates + counts.deletes

-- how often the change rows of a server were read
abbrev pub change_reads : {K : Type 0} → (K → Kept) → Sites K → ℕ → ℕ
change_reads kept sites s = slice_index_or (reads_in kept areas.Cd sites) s 0

-- At each server change rows were read as often as some were counted, and so many times more at most, unless numbers have
-- run out.
abbrev pub ReadsCounted : {K : Type 0} → ℕ → (K → Kept) → Sites K → Sites K → Counts → Type 0
ReadsCounted more kept old new counts = how_many counts < 2 ^ 64 - 1 → (s : ℕ) → change_reads kept new s ≤ change_reads kept old s + how_many counts + more

-- so it is in a block
abbrev pub CountsReads : {K : Type 0} → Step → ℕ → (K → Kept) → Sites K → Sites K → Counts → Type 0
CountsReads (Refresh point time) more kept old new counts = Unit {0}
CountsReads (Block low low_time high time base) more kept old new counts = ReadsCounted more kept old new counts

-- ---- members

-- the number of the target of a set's member
abbrev pub number_of : PlacedSet → ℕ → ℕ
number_of set place = 64 * set.at_target.number + place

-- the table is the target with this number
abbrev pub is_target : ℕ → Area → ℕ → Bool
is_target number a n = same_area areas.Target a && (n == number)

module _ {K : Type 0} (kept : K → Kept) (takes : TargetKind → Bool) (sites : Sites K) (set : PlacedSet) (place : ℕ) (step : Step) where
  -- what follows for a member of a set that can make a step, in each sound world, if its kind is taken, the source is seen to
  -- have what the world calls for, and the member's target has what the set's trail makes of it
  abbrev pub ForTaken : Contents → (World → KnownSet → Member → SourceTable → Type 0) → Type 0
  ForTaken c P = ForSource kept sites set (λ w k. (member : Member) (source : SourceTable) → IsReadOnly k → CanStep k step → slice_get k.at_source.def.members place ≡ Some member → source_named member.source k.source ≡ Some source → takes member.kind ≡ true
      → c areas.Target (number_of set place) ≡ member_table source member k.at_target.trail → P w k member source)

  -- A member of a set with a place was taken through a step, with these counts, and no damage is shown that wasn't shown
  -- before. If its target was what the set's trail makes of it, it is what the trail after the step makes of it. All other
  -- tables are as they were.
  pub record TakesMember (shows : Option TargetSet → Area → DamageCause → Option Contents → Type 0) (counts : Counts) (c d : Contents) : Type 0 where
    pub others : (w : World) (k : KnownSet) → IsSound w → IsPlacedAs w k set → (a : Area) (n : ℕ) → is_target (number_of set place) a n ≡ false → d a n ≡ c a n
    pub shown : (a : Area) (cause : DamageCause) → shows (Some set.at_target) a cause (Some d) → shows (Some set.at_target) a cause (Some c)
    pub taken : ForTaken c (λ w k member source. (d areas.Target (number_of set place) ≡ member_table source member (k.at_target.trail ++ entry_of k.at_source.def step ∷ [])) × (counts ≡ counted k.at_source.def step source member))

  -- what follows in each such world, if the target is seen to have this
  abbrev pub ForMember : Type 0 → Type 0
  ForMember P = (c : Contents) → sees kept sites set.target ≡ Some c → ForTaken c (λ w k member source. P)

-- what the source of a set was seen to have shows damage of a source, or what the target was seen to have shows damage of this
-- set's targets
abbrev pub ShowsAtEnds : {K : Type 0} → (K → Kept) → (Option TargetSet → Area → DamageCause → Option Contents → Type 0) → Sites K → PlacedSet → ℕ → Area → DamageCause → Type 0
ShowsAtEnds kept shows sites set s a cause = ((s ≡ set.source) × shows None a cause (sees kept sites s)) ⊎ ((s ≡ set.target) × shows (Some set.at_target) a cause (sees kept sites s))
