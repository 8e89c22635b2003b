-- What a read-only set does next.
use Rattle.std.specs.Prelude.{ℕ, ◌+◌, ◌*◌, Bool, true, false, not, ◌&&◌, ◌||◌, ◌==◌, nat_lt, nat_le, if◌then◌else◌, List, [], ◌∷◌, map, filter, Option, Some, None}
use Rattle.std.specs.List.{filter_map, enumerate_from, last_or, list_any}
use Rattle.std.specs.Option.{option_map_or, option_and_then}
use Rattle.repl_types.specs.declared.refusal.GapPlace.{GapPlace}
use Rattle.repl_types.specs.declared.refusal.GapPlace.TheVariants as gaps
use Rattle.repl_types.specs.declared.unit.Unit.{Unit}
use Rattle.repl_definitions.specs.declared.member.Member.{Member}
use Rattle.repl_definitions.specs.declared.set.SetDef.{SetDef}
use Rattle.repl_model.specs.SourceAt.{units_between}
use Rattle.repl_model.specs.Trails.{Trail, synchpoint, base_of}
use Rattle.repl_model.specs.World.{Registered, Server, KnownSet, server_table}

-- ---- where a block ends

-- The unit with this number, counted from 1, is within the limits of a set on one block that begins with the
-- first of these units: the block takes at most commit_count units, and none that is later than the first one
-- by more than max_minutes. A limit of 0 is none.
abbrev pub is_within : SetDef → Unit → ℕ × Unit → Bool
is_within def first (k, u) = (def.commit_count == 0 || nat_le k def.commit_count) && (def.max_minutes == 0 || nat_le u.head.time (first.head.time + 60 * def.max_minutes))

-- the last of the units that come next which one block takes: it takes at least one
abbrev pub first_cut : SetDef → List Unit → Option Unit
first_cut def [] = None
first_cut def (first ∷ us) = last_or (Some first) (map (λ r. r.1) (filter (is_within def first) (enumerate_from 1 (first ∷ us))))

-- the units up to a time in seconds, or all if there is no such end
abbrev pub units_until : Option ℕ → List Unit → List Unit
units_until None us = us
units_until (Some time) us = filter (λ u. nat_le u.head.time time) us

-- the units that come next at a set: those that are captured, after the point that its targets have reached
abbrev pub next_units : Option ℕ → KnownSet → List Unit
next_units end k = units_until end (units_between (synchpoint k.at_target.trail) k.source.captured k.source.log)

-- ---- gaps

-- A place where changes that a set needs aren't kept, and whether a refresh is forbidden to mend it.
pub record Gap : Type 0 where
  pub place : GapPlace
  pub disabled : Bool

-- the registration of a member's source table, if there is one
abbrev pub registration_of : Server → Member → Option Registered
registration_of server member = option_and_then (λ t. t.registered) (server_table member.source server)

-- A refresh is forbidden for a member.
abbrev pub is_disabled : Server → Member → Bool
is_disabled server member = option_map_or (λ r. r.reg.disable_refresh) (registration_of server member) false

-- where the change rows of a registration after a point aren't kept: it is inactive, or it was started after the
-- point, or its change rows are pruned up to after the point
abbrev pub place_of_gap : List ℕ → ℕ → Registered → Option GapPlace
place_of_gap server point r =
    if not r.active then Some (gaps.Inactive server r.reg.table)
    else if nat_lt point r.start then Some (gaps.Above server r.reg.table r.start)
    else if nat_lt point r.floor then Some (gaps.Above server r.reg.table r.floor)
    else None

-- the gap of a member after a point, if it has one
abbrev pub member_gap : Server → ℕ → Member → Option Gap
member_gap server point member = option_and_then (λ r. option_and_then (λ place. Some (record { place = place; disabled = r.reg.disable_refresh })) (place_of_gap server.name point r)) (registration_of server member)

-- the gap of the unit-of-work table after a point, if it is pruned up to after the point
abbrev pub uow_gap : Server → ℕ → List Member → Option Gap
uow_gap server point members = if nat_lt point server.floor then Some (record { place = gaps.Uow server.name server.floor; disabled = list_any (is_disabled server) members }) else None

-- the gap of a set: that of its first member that has one, or else that of the unit-of-work table
abbrev pub gap_of : KnownSet → Option Gap
gap_of k = first_or (filter_map (member_gap k.source point) k.at_source.def.members)
  where
    point : ℕ
    point = synchpoint k.at_target.trail

    first_or : List Gap → Option Gap
    first_or [] = uow_gap k.source point k.at_source.def.members
    first_or (gap ∷ rest) = Some gap

-- ---- the next action

-- What a read-only set may do next.
pub data Action : Type 0 where
  -- a unit is appended at the source that starts the registrations
  signals : Action
  -- the targets become the copies at the last commit of the source
  refreshes : Action
  -- the targets take the captured changes up to a point
  blocks : ℕ → Action
  -- the source is told which point the targets have reached
  reports : Action
  -- nothing
  idles : Action
  -- nothing, since a refresh is called for and forbidden
  refuses : GapPlace → Action

-- a set was never refreshed
abbrev pub is_new : Trail → Bool
is_new [] = true
is_new (e ∷ trail) = false

-- a refresh is two actions: a signal, unless there was one after the last refresh, and then the refresh
abbrev pub refresh_by_signal : KnownSet → Action
refresh_by_signal k = if nat_le k.at_source.signal (base_of k.at_target.trail) then signals else refreshes

-- what is done if nothing is left to take: a report, unless the source was told which point the targets have reached
abbrev pub at_rest : KnownSet → Action
at_rest k = if nat_lt k.at_source.mark (synchpoint k.at_target.trail) then reports else idles

-- what is done if the targets haven't taken all captured units: a block of those that come next, if there are some up to
-- the end; or, if changes that the set needs aren't kept, a refresh, unless that is forbidden
abbrev pub by_gap : Option ℕ → KnownSet → Option Gap → Action
by_gap end k None = option_map_or (λ u. blocks u.head.seq) (first_cut k.at_source.def (next_units end k)) (at_rest k)
by_gap end k (Some gap) = if gap.disabled then refuses gap.place else refresh_by_signal k

-- What the set does next, if its blocks take only units up to a time: a refresh if it is new or one was asked for; a
-- report, or nothing, if its targets have taken all captured units; and else a refresh if changes that it needs aren't
-- kept, or a block.
abbrev pub next_action_within : Option ℕ → KnownSet → Action
next_action_within end k =
    if is_new k.at_target.trail || k.at_target.flag then refresh_by_signal k
    else if nat_le k.source.captured (synchpoint k.at_target.trail) then at_rest k
    else by_gap end k (gap_of k)

-- what the set does next
abbrev pub next_action : KnownSet → Action
next_action k = next_action_within None k
