use Rattle.std.proofs.lemmas.Result.{err_from_is_err_and}
use Rattle.world_store.specs.Words.{b32, mark_spelling, IsMark}
use Rattle.site_store.specs.Words.{reads_of_one, needed_breaks}
use Rattle.repl_types.specs.declared.area.Area.TheVariants as areas
use Rattle.prune_control.specs.Noting.{mark_rules}
use Rattle.prune_control.proofs.StoredMarks.{called_for, mark_read}
use Rattle.prune_control.proofs.marks.read_mark.Goals as goal

pub returns-in_err-known-clause-fault : goal.returns-in_err-known-clause-fault
returns-in_err-known-clause-fault g c =
    let p = err_from_is_err_and c.from_residual.result c.from_residual.ensures.1 in
    let set = c.args.set.now in
    rw (p.1, p.2) (needed_breaks mark_rules g.K.Keeper.kept IsMark mark_spelling c.args.sites.now c.get_needed.new.self set.source areas.Prune 0 (b32 set.at_source.number) (reads_of_one 1 set.source areas.Prune) c.in_err-known.field-0.0 (λ bytes h. h) (called_for g.K.Keeper.kept c.args.sites.now set c.requires.placed) c.in_err-known.ensures.fault)

pub returns-clause-mark : goal.returns-clause-mark
returns-clause-mark g c = mark_read g.K.Keeper.kept c.args.sites.now c.args.set.now c.in_ok-known.known c.in_ok-known.ensures.fits.fits c.in_ok-known.ensures.row
