-- What a clause sees of a keeper in memory.
use Rattle.std.specs.Prelude.{◌≡◌, ℕ, if◌then◌else◌, [], Some, None, false, slice_index}
use Rattle.repl_types.specs.declared.area.Area.{Area}
use Rattle.keep_core.specs.Contents.{nothing}
use Rattle.repl_types.specs.Area.{area_number}
use Rattle.keep_core.specs.Kept.{Kept}
use Rattle.keep_map.specs.declared.area_counts.AreaCounts.{AreaCounts}
use Rattle.keep_map.specs.declared.map_keeper.MapKeeper.{MapKeeper}
use Rattle.keep_map.specs.Planned.{nothing_planned, after_call}
use Rattle.keep_map.specs.Merged.{values_seen, values_held}
use Rattle.keep_map.specs.Places.{contents_of}

-- the count of an area
abbrev pub count_of : AreaCounts → Area → ℕ
count_of c a = slice_index c.each (area_number a)

-- a keeper in memory reveals what it holds and what its open transaction sees
abbrev pub kept_of : MapKeeper → Kept
kept_of m = record {
  held = Some (contents_of (values_held m.rows));
  open_work = if m.is_open then Some (Some (contents_of (values_seen m.rows))) else None;
  faults = m.plan.faults;
  reads = count_of m.reads;
  writes = count_of m.writes;
}

-- a keeper that holds nothing, with no transaction open and nothing counted
abbrev pub kept_empty : Kept
kept_empty = record { held = Some nothing; open_work = None; faults = 0; reads = λ _. 0; writes = λ _. 0 }

-- A keeper is as one that was just made: it holds nothing, has counted nothing, and no call of it is planned to fail.
pub record IsNew (m : MapKeeper) : Type 0 where
  pub kept : kept_of m ≡ kept_empty
  pub plan : m.plan ≡ nothing_planned
  pub doubt : m.doubt_takes ≡ false

-- one more call was counted, and the rest of what was planned stays
pub record CallIsCounted (old new : MapKeeper) : Type 0 where
  pub plan : new.plan ≡ after_call old.plan
  pub unplanned : old.plan.failing ≡ [] → new.plan.faults ≡ old.plan.faults
  pub doubt : new.doubt_takes ≡ old.doubt_takes
