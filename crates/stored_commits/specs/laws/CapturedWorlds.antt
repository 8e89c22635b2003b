-- What servers hold as they are, once one of them has captured units.
use Rattle.std.proofs.Common.{◌≡◌, ℕ, List, Option, Some, None, refl, sym, ap, ◌∙◌, map}
use Rattle.std.specs.Option.{option_map, option_map_or, option_and_then}
use Rattle.world_store.specs.Words.{Holds, source_of, source_time, same_sides, tables_stay}
use Rattle.repl_model.specs.Words.{Unit, Member, SetDef, time_at, Server, World, source_named, server_named}
use Rattle.keep_core.specs.Contents.{Contents}
use Rattle.world_commits.specs.captures.Captures.{captured}
use Rattle.world_commits.specs.captures.laws.Servers.{states_captured, holds_captured}
use Rattle.world_commits.specs.laws.Changed.{States, Rows, own_rows, source_stays, changed, changed_world, named_changed}
use Rattle.world_commits.specs.laws.ChangedSets.{with_own_logs}
use Rattle.stored_commits.specs.captures.CapturedServers.{CapturedHolds, OthersHold}
use Rattle.stored_commits.specs.laws.CapturedStates.{captured_holds}

module _ (states : Server → States) (rows : Server → Rows) (world : World) where
  -- the world whose servers are in these states and have these rows
  abbrev becomes : World
  becomes = changed_world (with_own_logs states rows) world

  -- the source of a member is the same
  same_source : (def : SetDef) (member : Member) → source_of becomes def member ≡ source_of world def member
  same_source def member = ap (option_and_then (source_named member.source)) (named_changed (with_own_logs states rows) world def.source) ∙ at (server_named def.source world)
    where
      at : (o : Option Server) → option_and_then (source_named member.source) (option_map (changed (with_own_logs states rows)) o) ≡ option_and_then (source_named member.source) o
      at None = refl
      at (Some source) = source_stays (states source) (rows source) member.source source

  -- so is the time at a point of a set's source
  same_time : (def : SetDef) (point : ℕ) → source_time becomes def point ≡ source_time world def point
  same_time def point = ap (λ (o : Option Server). option_map_or (λ source. time_at source.log point) o 0) (named_changed (with_own_logs states rows) world def.source) ∙ at (server_named def.source world)
    where
      at : (o : Option Server) → option_map_or (λ (source : Server). time_at source.log point) (option_map (changed (with_own_logs states rows)) o) 0 ≡ option_map_or (λ source. time_at source.log point) o 0
      at None = refl
      at (Some source) = refl

  -- so each server holds, as it is, what that world calls for
  states_leave : (server : Server) (held : Contents) → Holds world server held → Holds becomes server held
  states_leave server held holds = λ a n. holds a n ∙ sym (tables_stay world becomes server (same_sides world becomes same_source same_time server) a n)

-- each server holds, as it is, what the world calls for once one of its servers has captured units
pub still_holds : (name : List ℕ) (us : List Unit) (world : World) (server : Server) (held : Contents) → Holds world server held → Holds (captured name us world) server held
still_holds name us world server held holds = holds_captured (λ g. Holds (map g world) server held) name us
    (states_leave (states_captured name us) (λ s. own_rows) world server held holds)

-- a server that has captured units holds what the world then calls for
pub captures_hold : CapturedHolds
captures_hold name us world server before now sound named next holds becomes = captured_holds us (captured name us world) server before now (still_holds name us world server before holds) becomes

-- the other servers hold what the world then calls for, as they are
pub others_hold_captures : OthersHold
others_hold_captures name us world other held sound i apart = still_holds name us world other held
