-- What sets copy from stays if servers get other rows for their sets.
use Rattle.std.proofs.Common.{◌≡◌, ℕ, Bool, true, false, cond, List, map, Option, Some, None, refl, ap, ◌∙◌, bytes_eq}
use Rattle.std.specs.Option.{option_map, option_map_or, option_and_then}
use Rattle.std.proofs.Math.Path.{fun_ext}
use Rattle.world_store.specs.Words.{source_of, source_time}
use Rattle.repl_model.specs.Words.{Member, SetDef, time_at, SourceSide, TargetSide, Server, World, source_named, server_named, with_server, find_image}

-- a server with other rows for its sets
abbrev pub with_sets : (Server → List SourceSide) → (Server → List TargetSide) → Server → Server
with_sets sources targets server = record server { source_sets = sources server; target_sets = targets server }

module _ (sources : Server → List SourceSide) (targets : Server → List TargetSide) (world : World) where
  -- the world whose servers have these rows
  abbrev pub after : World
  after = map (with_sets sources targets) world

  -- the server of a name is the one before, with its rows
  named_after : (name : List ℕ) → server_named name after ≡ option_map (with_sets sources targets) (server_named name world)
  named_after name = find_image (with_sets sources targets) (λ (server : Server). bytes_eq name server.name) world

  -- the source of a member is the same
  pub same_source : (def : SetDef) (member : Member) → source_of after def member ≡ source_of world def member
  same_source def member = ap (option_and_then (source_named member.source)) (named_after def.source) ∙ at (server_named def.source world)
    where
      at : (o : Option Server) → option_and_then (source_named member.source) (option_map (with_sets sources targets) o) ≡ option_and_then (source_named member.source) o
      at None = refl
      at (Some source) = refl

  -- so is the time at a point of a set's source
  pub same_time : (def : SetDef) (point : ℕ) → source_time after def point ≡ source_time world def point
  same_time def point = ap (λ (o : Option Server). option_map_or (λ source. time_at source.log point) o 0) (named_after def.source) ∙ at (server_named def.source world)
    where
      at : (o : Option Server) → option_map_or (λ (source : Server). time_at source.log point) (option_map (with_sets sources targets) o) 0 ≡ option_map_or (λ source. time_at source.log point) o 0
      at None = refl
      at (Some source) = refl

module _ (sources : Server → List SourceSide) (targets : Server → List TargetSide) (name : List ℕ) (world : World) where
  -- the rows of the server of a name are others
  abbrev pub sources_at : Server → List SourceSide
  sources_at server = cond (bytes_eq name server.name) (sources server) server.source_sets

  -- and so at the targets of sets
  abbrev pub targets_at : Server → List TargetSide
  targets_at server = cond (bytes_eq name server.name) (targets server) server.target_sets

  -- a world one of whose servers gets other rows is one whose servers get rows, most of them their own
  pub one_server : with_server name (with_sets sources targets) world ≡ after sources_at targets_at world
  one_server = ap (λ (f : Server → Server). map f world) (fun_ext (λ server. by_test server (bytes_eq name server.name)))
    where
      by_test : (server : Server) (b : Bool) → cond b (with_sets sources targets server) server ≡ record server { source_sets = cond b (sources server) server.source_sets; target_sets = cond b (targets server) server.target_sets }
      by_test server true = refl
      by_test server false = refl

  -- the time at a point of a set's source stays if one server gets other rows
  pub time_stays : (def : SetDef) (point : ℕ) → source_time (with_server name (with_sets sources targets) world) def point ≡ source_time world def point
  time_stays def point = ap (λ (w : World). source_time w def point) one_server ∙ same_time sources_at targets_at world def point
