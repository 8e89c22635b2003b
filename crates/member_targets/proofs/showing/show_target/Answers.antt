use Rattle.std.proofs.lemmas.Result.{IfErr-weaker}
use Rattle.shows.specs.sets.Showing.{FailsShowing}
use Rattle.apply_copies.specs.Showing as copies
use Rattle.member_targets.specs.Showing.{ShowsDamage}
use Rattle.member_targets.proofs.ByKind.{copy_at, copies_show}
use Rattle.member_targets.proofs.showing.show_target.Goals as goal

pub show_copy-requires : goal.show_copy-requires
show_copy-requires g c = record {
  placed = c.requires.placed;
  closed = c.requires.closed;
  copy = copy_at c.args.target.now.set.at_target.def c.args.target.now.member c.requires.taken;
}

pub returns-clause-fault : goal.returns-clause-fault
returns-clause-fault g c =
    let kept = g.K.Keeper.kept in
    let s0 = c.args.sites.now in
    let s1 = c.show_copy.new.sites in
    let before = g.O.Sink.faults c.args.output.now in
    let now = g.O.Sink.faults c.show_copy.new.output in
    IfErr-weaker c.show_copy.result (FailsShowing kept s0 s1 (copies.ShowsDamage kept s0) before now) (FailsShowing kept s0 s1 (ShowsDamage kept s0) before now) (copies_show kept s0 s1 before now) c.show_copy.ensures.fault
