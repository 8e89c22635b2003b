-- What sets copy from, in a world and in the world one of whose logs is made longer.
use Rattle.std.proofs.Common.{◌≡◌, ℕ, ◌≤◌, true, List, [], length, Option, Some, None, inl, inr, refl, sym, ap, subst, ◌∙◌, arith, IfSome, is_some, bytes_eq}
use Rattle.std.specs.List.{AllByRecursion}
use Rattle.std.specs.Option.{option_map, option_map_or, option_and_then}
use Rattle.std.proofs.lemmas.Bool.{false≢true}
use Rattle.world_store.specs.Words.{source_of, SourceStays, MemberStays, SideStays, is_same, is_longer, reach_within}
use Rattle.repl_model.specs.Words.{LogRecord, Member, time_at, SourceTable, Trail, synchpoint, base_of, Registered, ServerTable, TargetSide, Server, World, KnownSet, as_source, server_table, source_named, server_named, known_from, SetKeepsLimits, UnknownTarget, ServerKeepsRules, IsSound, EndsWithin, all_of, In, at_one, at_each, find_image, known_stands, known_in, known_side, time_stays_longer}
use Rattle.world_commits.specs.logs.laws.Servers.{more_for, longer, longer_world, source_longer}
use Rattle.stored_commits.specs.laws.Trails.{none_ends, known_ends}

-- ---- in a sound world

-- the trail of a set ends within its source's log, if the source is there, and no lower than its last refresh
abbrev pub SideEnds : World → TargetSide → Type 0
SideEnds world side = IfSome (server_named side.def.source world) (λ source. EndsWithin (length source.log) side.trail) × (base_of side.trail ≤ synchpoint side.trail)

-- an empty trail does
side_none : (world : World) (side : TargetSide) → side.trail ≡ [] → SideEnds world side
side_none world side empty = (at (server_named side.def.source world), subst (λ (trail : Trail). base_of trail ≤ synchpoint trail) (sym empty) (none_ends 0).rises)
  where
    at : (o : Option Server) → IfSome o (λ source. EndsWithin (length source.log) side.trail)
    at None = tt
    at (Some source) = subst (EndsWithin (length source.log)) (sym empty) tt

-- so does that of a known set
side_known : (world : World) → IsSound world → (server : Server) (side : TargetSide) → In server world → In side server.target_sets → (k : KnownSet) → known_from world server side ≡ Some k → SideEnds world side
side_known world sound server side i j k e =
    let known = known_in world server side k i j e in
    let ends = known_ends world sound k known in
    subst (SideEnds world) (known_side world server side k e) (subst (λ (o : Option Server). IfSome o (λ source. EndsWithin (length source.log) k.at_target.trail)) (sym (known_stands world k known).source) ends.within, ends.rises)

-- and that of any set that stands at its target
side_ends : (world : World) → IsSound world → (server : Server) (side : TargetSide) → In server world → In side server.target_sets → SideEnds world side
side_ends world sound server side i j =
    let keeps = at_one (λ (side : TargetSide). (side.def.target ≡ server.name) × SetKeepsLimits world side.def × UnknownTarget world server side) server.target_sets side (at_one (ServerKeepsRules world) world server sound.definitions.servers i).targets j in
    elim keeps.2 [
      | inl stands ↦ at (known_from world server side) refl stands
      | inr fresh ↦ side_none world side fresh.1
    ]
  where
    at : (o : Option KnownSet) → known_from world server side ≡ o → is_some o ≡ true → SideEnds world side
    at None e stands = absurd (false≢true stands)
    at (Some k) e stands = side_known world sound server side i j k e

-- ---- in two worlds

-- what holds of a server's log holds of that of its registered table
of_log : (P : List LogRecord → Type 0) (name : List ℕ) (server : Server) → P server.log → IfSome (source_named name server) (λ source. P source.log)
of_log P name server h = by_table (server_table name server)
  where
    registered : (t : ServerTable) (r : Option Registered) → IfSome (option_map (λ r. record { def = t.def; reg = r.reg; log = server.log }) r) (λ (source : SourceTable). P source.log)
    registered t None = tt
    registered t (Some r) = h

    by_table : (o : Option ServerTable) → IfSome (option_and_then (as_source server) o) (λ source. P source.log)
    by_table None = tt
    by_table (Some t) = registered t t.registered

module _ (name : List ℕ) (more : List LogRecord) (world : World) where
  -- the server of a name is the one before, with its further records
  named_longer : (n : List ℕ) → server_named n (longer_world name more world) ≡ option_map (longer name more) (server_named n world)
  named_longer n = find_image (longer name more) (λ (server : Server). bytes_eq n server.name) world

  -- a set stays if its trail ends within its source's log
  side_stays : (side : TargetSide) → SideEnds world side → SideStays world (longer_world name more world) side
  side_stays side ends = record {
    time = ap (λ (o : Option Server). option_map_or (λ source. time_at source.log point) o 0) (named_longer side.def.source) ∙ time_of (server_named side.def.source world) ends.0;
    sources = all_of (MemberStays world (longer_world name more world) side) side.def.members (λ member. subst (SourceStays side.trail (source_of world side.def member)) (sym (ap (option_and_then (source_named member.source)) (named_longer side.def.source))) (source_in member (server_named side.def.source world) ends.0));
  }
    where
      point : ℕ
      point = synchpoint side.trail

      time_of : (o : Option Server) → IfSome o (λ source. EndsWithin (length source.log) side.trail) → option_map_or (λ (source : Server). time_at source.log point) (option_map (longer name more) o) 0 ≡ option_map_or (λ source. time_at source.log point) o 0
      time_of None within = refl
      time_of (Some source) within = time_stays_longer source.log (more_for name more source) point (reach_within (length source.log) 0 side.trail (omega arith) within)

      source_in : (member : Member) (o : Option Server) → IfSome o (λ source. EndsWithin (length source.log) side.trail) → SourceStays side.trail (option_and_then (source_named member.source) o) (option_and_then (source_named member.source) (option_map (longer name more) o))
      source_in member None within = is_same refl
      source_in member (Some source) within = is_longer (record {
        more = more_for name more source;
        is = source_longer member.source (more_for name more source) source;
        within = of_log (λ log. EndsWithin (length log) side.trail) member.source source within;
        rises = ends.1;
      })

  -- each set whose target is a server of a sound world stays
  pub all_stay : IsSound world → (server : Server) → In server world → AllByRecursion (SideStays world (longer_world name more world)) server.target_sets
  all_stay sound server i = at_each (SideStays world (longer_world name more world)) server.target_sets (λ side j. side_stays side (side_ends world sound server side i j))
