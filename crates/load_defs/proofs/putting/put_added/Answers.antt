use Rattle.std.proofs.lemmas.Result.{err_from_is_err_and, on_ok_weaker, IfErr-weaker}
use Rattle.std.proofs.Common.{length}
use Rattle.site_store.specs.Words.{NoDamage, writes_of_one, AtServer, Fails}
use Rattle.repl_types.specs.declared.area.Area.TheVariants as areas
use Rattle.load_defs.specs.Putting.{added_written}
use Rattle.load_defs.proofs.Added.{registrations_fail, states_fail, sources_fail, marks_fail, targets_fail, all_added}
use Rattle.load_defs.proofs.putting.put_added.Goals as goal

pub returns-in_err-put_rows-2-clause-fault : goal.returns-in_err-put_rows-2-clause-fault
returns-in_err-put_rows-2-clause-fault g c =
    let p = err_from_is_err_and c.from_residual-in_err-put_rows-2.result c.from_residual-in_err-put_rows-2.ensures.1 in
    rw (p.1, p.2) (registrations_fail g.K.Keeper.kept c.args.server c.args.rows.now c.args.sites.now c.put_rows.new.sites (rw c.as_slice.ensures at c.in_ok-put_rows.ensures.ok) c.put_rows-2.new.sites c.in_err-put_rows-2.field-0.0 (rw c.as_slice-2.ensures at c.in_err-put_rows-2.ensures.fault))

pub returns-in_err-put_rows-3-clause-fault : goal.returns-in_err-put_rows-3-clause-fault
returns-in_err-put_rows-3-clause-fault g c =
    let p = err_from_is_err_and c.from_residual-in_err-put_rows-3.result c.from_residual-in_err-put_rows-3.ensures.1 in
    rw (p.1, p.2) (states_fail g.K.Keeper.kept c.args.server c.args.rows.now c.args.sites.now c.put_rows.new.sites (rw c.as_slice.ensures at c.in_ok-put_rows.ensures.ok) c.put_rows-2.new.sites (rw c.as_slice-2.ensures at c.in_ok-put_rows-2.ensures.ok) c.put_rows-3.new.sites c.in_err-put_rows-3.field-0.0 (rw c.as_slice-3.ensures at c.in_err-put_rows-3.ensures.fault))

pub returns-in_err-put_rows-4-clause-fault : goal.returns-in_err-put_rows-4-clause-fault
returns-in_err-put_rows-4-clause-fault g c =
    let p = err_from_is_err_and c.from_residual-in_err-put_rows-4.result c.from_residual-in_err-put_rows-4.ensures.1 in
    rw (p.1, p.2) (sources_fail g.K.Keeper.kept c.args.server c.args.rows.now c.args.sites.now c.put_rows.new.sites (rw c.as_slice.ensures at c.in_ok-put_rows.ensures.ok) c.put_rows-2.new.sites (rw c.as_slice-2.ensures at c.in_ok-put_rows-2.ensures.ok) c.put_rows-3.new.sites (rw c.as_slice-3.ensures at c.in_ok-put_rows-3.ensures.ok) c.put_rows-4.new.sites c.in_err-put_rows-4.field-0.0 (rw c.as_slice-4.ensures at c.in_err-put_rows-4.ensures.fault))

pub returns-in_err-put_rows-5-clause-fault : goal.returns-in_err-put_rows-5-clause-fault
returns-in_err-put_rows-5-clause-fault g c =
    let p = err_from_is_err_and c.from_residual-in_err-put_rows-5.result c.from_residual-in_err-put_rows-5.ensures.1 in
    rw (p.1, p.2) (marks_fail g.K.Keeper.kept c.args.server c.args.rows.now c.args.sites.now c.put_rows.new.sites (rw c.as_slice.ensures at c.in_ok-put_rows.ensures.ok) c.put_rows-2.new.sites (rw c.as_slice-2.ensures at c.in_ok-put_rows-2.ensures.ok) c.put_rows-3.new.sites (rw c.as_slice-3.ensures at c.in_ok-put_rows-3.ensures.ok) c.put_rows-4.new.sites (rw c.as_slice-4.ensures at c.in_ok-put_rows-4.ensures.ok) c.put_rows-5.new.sites c.in_err-put_rows-5.field-0.0 (rw c.as_slice-5.ensures at c.in_err-put_rows-5.ensures.fault))

pub returns-clause-ok : goal.returns-clause-ok
returns-clause-ok g c = on_ok_weaker c.put_rows-6.result (all_added g.K.Keeper.kept c.args.server c.args.rows.now c.args.sites.now c.put_rows.new.sites (rw c.as_slice.ensures at c.in_ok-put_rows.ensures.ok) c.put_rows-2.new.sites (rw c.as_slice-2.ensures at c.in_ok-put_rows-2.ensures.ok) c.put_rows-3.new.sites (rw c.as_slice-3.ensures at c.in_ok-put_rows-3.ensures.ok) c.put_rows-4.new.sites (rw c.as_slice-4.ensures at c.in_ok-put_rows-4.ensures.ok) c.put_rows-5.new.sites c.put_rows-6.new.sites (rw c.as_slice-5.ensures at c.in_ok-put_rows-5.ensures.ok) c.requires.open) (rw c.as_slice-6.ensures at c.put_rows-6.ensures.ok)

pub returns-clause-fault : goal.returns-clause-fault
returns-clause-fault g c = IfErr-weaker c.put_rows-6.result (Fails g.K.Keeper.kept c.put_rows-5.new.sites c.put_rows-6.new.sites (writes_of_one (length c.args.rows.now.targets) c.args.server areas.Defs) (AtServer c.args.server NoDamage)) (Fails g.K.Keeper.kept c.args.sites.now c.put_rows-6.new.sites (added_written c.args.server c.args.rows.now) (AtServer c.args.server NoDamage)) (targets_fail g.K.Keeper.kept c.args.server c.args.rows.now c.args.sites.now c.put_rows.new.sites (rw c.as_slice.ensures at c.in_ok-put_rows.ensures.ok) c.put_rows-2.new.sites (rw c.as_slice-2.ensures at c.in_ok-put_rows-2.ensures.ok) c.put_rows-3.new.sites (rw c.as_slice-3.ensures at c.in_ok-put_rows-3.ensures.ok) c.put_rows-4.new.sites (rw c.as_slice-4.ensures at c.in_ok-put_rows-4.ensures.ok) c.put_rows-5.new.sites c.put_rows-6.new.sites (rw c.as_slice-5.ensures at c.in_ok-put_rows-5.ensures.ok)) (rw c.as_slice-6.ensures at c.put_rows-6.ensures.fault)
