use Rattle.std.proofs.Common.{◌≡◌, ◌<◌, ◌≤◌, ℕ, get_or, None}
use Rattle.repl_types.specs.declared.area.Area.{Area}
use Rattle.site_store.specs.Servers.{names_of, held_of, work_of, faults_of, reads_of, writes_of}
use Rattle.site_store.proofs.sites.close_each.Given as goal

abbrev pub invariant-loop-site : goal.invariant-loop-site
invariant-loop-site g l = record {
  names : names_of l.list ≡ names_of l.fn.list;
  held : held_of g.K.Keeper.kept l.list ≡ held_of g.K.Keeper.kept l.fn.list;
  faults : (q : ℕ) → get_or (faults_of g.K.Keeper.kept l.fn.list) q 0 ≤ get_or (faults_of g.K.Keeper.kept l.list) q 0;
  reads : (a : Area) → reads_of g.K.Keeper.kept a l.list ≡ reads_of g.K.Keeper.kept a l.fn.list;
  writes : (a : Area) → writes_of g.K.Keeper.kept a l.list ≡ writes_of g.K.Keeper.kept a l.fn.list;
  closed : (k : ℕ) → k < l.site-index → get_or (work_of g.K.Keeper.kept l.list) k None ≡ None;
}
