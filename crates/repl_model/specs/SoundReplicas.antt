-- What is sound of loaded replica sets.
use Rattle.std.specs.Prelude.{◌≡◌, ◌⊎◌, ℕ, ◌<◌, ◌≤◌, IsTrue, ◌&&◌, ◌||◌, not, ◌==◌, nat_lt, nat_le, max, List, [], ◌∷◌, ◌++◌, map, filter, IfSome, ⊤}
use Rattle.std.specs.List.{AllByRecursion, AllZip, list_all, list_any}
use Rattle.repl_types.specs.declared.record.Change.{Change}
use Rattle.repl_types.specs.declared.unit.Unit.{Unit}
use Rattle.repl_definitions.specs.Spelling.{Is64}
use Rattle.repl_model.specs.Units.{units, last_commit}
use Rattle.repl_model.specs.SourceAt.{source_at, units_between}
use Rattle.repl_model.specs.Trails.{Trail, refresh, block, load, settle, synchpoint, replica_point, loaded_at}
use Rattle.repl_model.specs.World.{KnownSet, tables_of, source_named, code_in}
use Rattle.repl_model.specs.Replicas.{comes_from, part_of, has_part, meets}

-- the points of a settling are no lower than those before, and one is higher; its counts have eight bytes
abbrev pub SettlesFrom : ℕ → ℕ → Trail → Type 0
SettlesFrom m f [] = ⊤
SettlesFrom m f (settle m' f' rejected applied ∷ trail) = (m ≤ m') × (f ≤ f') × ((m < m') ⊎ (f < f')) × Is64 rejected × Is64 applied × SettlesFrom m' f' trail
SettlesFrom m f (load m' f' rows ∷ trail) = ⊥
SettlesFrom m f (refresh p q ∷ trail) = ⊥
SettlesFrom m f (block low high q ∷ trail) = ⊥

-- the trail of a replica set: one load, whose count has eight bytes, and settlings after it
abbrev pub IsReplicaTrail : Trail → Type 0
IsReplicaTrail [] = ⊤
IsReplicaTrail (load m f rows ∷ trail) = Is64 rows × SettlesFrom m f trail
IsReplicaTrail (settle m f rejected applied ∷ trail) = ⊥
IsReplicaTrail (refresh p q ∷ trail) = ⊥
IsReplicaTrail (block low high q ∷ trail) = ⊥

-- the master's point of a replica set: up to there the replica has the master's units
abbrev pub master_point : KnownSet → ℕ
master_point k = synchpoint k.at_target.trail

-- the replica's point: up to there its own units are settled
abbrev pub settled_point : KnownSet → ℕ
settled_point k = replica_point k.at_target.trail

-- the units of the replica after one point and up to another that aren't from the set
abbrev pub users_units : KnownSet → ℕ → ℕ → List Unit
users_units k low high = filter (λ u. not (comes_from k.at_target.def.id u)) (units_between low high k.target.log)

-- codes by seqs, in order, each 1 to 4 and of one of these units
abbrev pub CodesAreOf : List Unit → ℕ → List (ℕ × ℕ) → Type 0
CodesAreOf us seq [] = ⊤
CodesAreOf us seq (c ∷ codes) = (seq < c.0) × (0 < c.1) × (c.1 ≤ 4) × IsTrue (list_any (λ u. u.head.seq == c.0) us) × CodesAreOf us c.0 codes

-- The replica marks part, of a loaded set: the replica's tables at its point are the master's at the
-- master's point, no number is above what it stands for, each code is that of a user's unit, and the set
-- changed nothing at the replica after its point.
pub record ReplicaMarksAreSound (k : KnownSet) : Type 0 where
  pub rows : AllByRecursion (λ member. IfSome (source_named member.source k.source) (λ s. source_at s.def k.target.log (settled_point k) ≡ source_at s.def k.source.log (master_point k))) k.at_target.def.members
  pub mark : k.at_source.mark ≤ master_point k
  pub master : (master_point k ≤ last_commit k.source.log) × (k.at_source.d ≤ last_commit k.source.log)
  pub replica : (settled_point k ≤ last_commit k.target.log) × (k.at_source.t ≤ k.target.captured)
  pub codes : CodesAreOf (users_units k (loaded_at k.at_target.trail) k.at_source.t) 0 k.at_source.codes
  pub settled : IsTrue (list_all (λ u. not (comes_from k.at_target.def.id u) || nat_le u.head.seq (settled_point k)) (units k.target.log))
  pub trail : IsReplicaTrail k.at_target.trail

-- the units of the replica after a point that were accepted: users' units with a part, decided and not
-- rejected
abbrev pub accepted_after : KnownSet → ℕ → List Unit
accepted_after k low = filter (λ u. has_part k.at_target.def u && code_in k.at_source.codes u.head.seq == 0) (users_units k low (max k.at_source.t (settled_point k)))

-- the units of the master after a point that are from the set and have a part
abbrev pub sent_after : KnownSet → ℕ → List Unit
sent_after k low = filter (λ u. nat_lt low u.head.seq && comes_from k.at_target.def.id u && has_part k.at_target.def u) (units k.source.log)

-- the parts of units for a set
abbrev pub parts_of : KnownSet → List Unit → List (List Change)
parts_of k us = map (part_of k.at_target.def) us

-- The exactly-once part, of a loaded set: the master's units from the set are the parts of the accepted
-- units, each once and in order; those after the master's point are the ones that aren't settled; and none
-- comes after what is decided.
pub record IsExactlyOnce (k : KnownSet) : Type 0 where
  pub sent : parts_of k (sent_after k 0) ≡ parts_of k (accepted_after k (loaded_at k.at_target.trail))
  pub unsettled : parts_of k (sent_after k (master_point k)) ≡ parts_of k (accepted_after k (settled_point k))
  pub decided : IsTrue (list_all (λ u. not (comes_from k.at_target.def.id u) || nat_le u.head.seq (max (master_point k) k.at_source.d)) (units k.source.log))

-- the replica's units that aren't settled, stand before a unit, and were rejected
abbrev pub rejected_before : KnownSet → Unit → List Unit
rejected_before k r = filter (λ u. nat_lt u.head.seq r.head.seq && nat_lt 0 (code_in k.at_source.codes u.head.seq)) (users_units k (settled_point k) k.at_source.t)

-- the master's own units after its point and before a unit
abbrev pub others_before : KnownSet → Unit → List Unit
others_before k x = filter (λ u. nat_lt (master_point k) u.head.seq && nat_lt u.head.seq x.head.seq && not (comes_from k.at_target.def.id u)) (units k.source.log)

-- The independence part, of a loaded set: an accepted unit that isn't settled shares no key with a unit that
-- was rejected before it, or with one of the master's own that stands before the unit made of it.
abbrev pub IsIndependent : KnownSet → Type 0
IsIndependent k = AllZip (λ r x. IsTrue (list_all (λ u. not (meets (tables_of k.source) (part_of k.at_target.def r) (part_of k.at_target.def u))) (rejected_before k r ++ others_before k x))) (accepted_after k (settled_point k)) (sent_after k (master_point k))

-- The captured decisions part, of a loaded set: the master's units that aren't captured and are decided come
-- from the set.
abbrev pub DecisionsAreCaptured : KnownSet → Type 0
DecisionsAreCaptured k = AllByRecursion (λ u. IsTrue (comes_from k.at_target.def.id u)) (units_between k.source.captured k.at_source.d k.source.log)
