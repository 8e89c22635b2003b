-- What a world calls for at a server, as it is, if servers get other rows for their sets.
use Rattle.std.proofs.Common.{◌≡◌, ℕ, List, sym, ap, ◌∙◌}
use Rattle.world_store.specs.Words.{tables, Holds, same_sides, tables_stay}
use Rattle.repl_model.specs.Words.{Area, SourceSide, TargetSide, Server, World, with_server}
use Rattle.keep_core.specs.Contents.{Contents}
use Rattle.stored_commits.specs.actions.laws.Sources.{with_sets, after, same_source, same_time, sources_at, targets_at, one_server}

module _ (sources : Server → List SourceSide) (targets : Server → List TargetSide) (name : List ℕ) (world : World) (server : Server) where
  -- the tables of each server, as it is, are the same once one of the servers got other rows for its sets
  pub same_tables : (a : Area) (n : ℕ) → tables (with_server name (with_sets sources targets) world) server a n ≡ tables world server a n
  same_tables a n =
      let s = sources_at sources targets name world in
      let t = targets_at sources targets name world in
      ap (λ (w : World). tables w server a n) (one_server sources targets name world)
      ∙ tables_stay world (after s t world) server (same_sides world (after s t world) (same_source s t world) (same_time s t world) server) a n

  -- so it holds what the world then calls for
  pub still_holds : (held : Contents) → Holds world server held → Holds (with_server name (with_sets sources targets) world) server held
  still_holds held holds = λ a n. holds a n ∙ sym (same_tables a n)
