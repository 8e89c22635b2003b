-- The trail of a set: what was done to its targets, from the first refresh on.
use Rattle.std.specs.Prelude.{ℕ, List, fold, take, Option, Some, None}
use Rattle.std.specs.List.{filter_map}

-- An entry of a trail. Points are positions of the source's log, but the second point of a load and of a
-- settling is one of the replica's.
pub data Entry : Type 0 where
  -- a refresh at a point, and the point at which base aggregates were read, if they were
  refresh : ℕ → Option ℕ → Entry
  -- a block from one point to another, and the point at which base aggregates were read, if they were
  block : ℕ → ℕ → Option ℕ → Entry
  -- a load of a replica: the master's point and the replica's, and how many rows were inserted
  load : ℕ → ℕ → ℕ → Entry
  -- a settling of a replica: the master's point and the replica's, how many of the replica's units were
  -- rejected, and how many of the master's were applied
  settle : ℕ → ℕ → ℕ → ℕ → Entry

-- what was done, in order
abbrev pub Trail : Type 0
Trail = List Entry

-- the point of the source that the targets had reached after an entry
abbrev pub point_after : Entry → ℕ
point_after (refresh p q) = p
point_after (block low high q) = high
point_after (load m f rows) = m
point_after (settle m f rejected applied) = m

-- the point of the source that the targets have reached, 0 if they have none: the synchpoint of a read-only
-- set, and the master's point of a replica set
abbrev pub synchpoint : Trail → ℕ
synchpoint trail = fold (λ point e. point_after e) 0 trail

-- the point of the last refresh, given the one before an entry
abbrev pub base_after : ℕ → Entry → ℕ
base_after base (refresh p q) = p
base_after base (block low high q) = base
base_after base (load m f rows) = base
base_after base (settle m f rejected applied) = base

-- the point of the last refresh, 0 if there is none
abbrev pub base_of : Trail → ℕ
base_of trail = fold base_after 0 trail

-- the replica's point, given the one before an entry
abbrev pub replica_after : ℕ → Entry → ℕ
replica_after point (refresh p q) = point
replica_after point (block low high q) = point
replica_after point (load m f rows) = f
replica_after point (settle m f rejected applied) = f

-- the point up to which a replica's own units are settled, 0 if it isn't loaded
abbrev pub replica_point : Trail → ℕ
replica_point trail = fold replica_after 0 trail

-- the points of the block that an entry is, if it is one
abbrev pub interval_of : Entry → Option (ℕ × ℕ)
interval_of (refresh p q) = None
interval_of (block low high q) = Some (low, high)
interval_of (load m f rows) = None
interval_of (settle m f rejected applied) = None

-- the intervals of the blocks, in order
abbrev pub intervals : Trail → List (ℕ × ℕ)
intervals trail = filter_map interval_of trail

-- the point at which base aggregates were read in an entry, if they were
abbrev pub base_read : Entry → Option ℕ
base_read (refresh p q) = q
base_read (block low high q) = q
base_read (load m f rows) = None
base_read (settle m f rejected applied) = None

-- the points at which base aggregates were read, in order
abbrev pub base_points : Trail → List ℕ
base_points trail = filter_map base_read trail

-- the replica's point of the first entry: where the trail of a replica set begins
abbrev pub loaded_at : Trail → ℕ
loaded_at trail = replica_point (take 1 trail)
