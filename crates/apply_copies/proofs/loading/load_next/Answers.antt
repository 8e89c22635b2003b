use Rattle.std.proofs.Common.{None, refl, Some}
use Rattle.std.proofs.lemmas.Result.{err_from_is_err_and}
use Rattle.world_store.specs.Words.{IsKey, key_spelling, source_row_spelling, IsSourceRow}
use Rattle.site_store.specs.Words.{reads_of_one, after_key, sees, next_breaks, write_breaks_after}
use Rattle.repl_types.specs.declared.area.Area.TheVariants as areas
use Rattle.apply_copies.specs.Copying.{LoadsNext, LoadsRow}
use Rattle.apply_copies.specs.Rules.{source_rules}
use Rattle.apply_copies.proofs.Elsewhere.{goes_looked, looked_then}
use Rattle.apply_copies.proofs.loading.load_next.Goals as goal

pub returns-in_err-next-clause-fault : goal.returns-in_err-next-clause-fault
returns-in_err-next-clause-fault g c =
    let p = err_from_is_err_and c.from_residual.result c.from_residual.ensures.1 in
    let source = c.args.set.now.source in
    rw (p.1, p.2) (next_breaks source_rules g.K.Keeper.kept IsKey key_spelling IsSourceRow source_row_spelling c.args.sites.now c.next.new.self source areas.Source c.args.table (after_key key_spelling c.args.last) (reads_of_one 1 source areas.Source) c.in_err-next.field-0.0 (λ bytes h. h.1) (λ bytes h. h.1) (rw c.as_ref.ensures.value at c.in_err-next.ensures.fault))

pub returns-in_default-clause-ok : goal.returns-in_default-clause-ok
returns-in_default-clause-ok g c =
    let saw = sees g.K.Keeper.kept c.args.sites.now c.args.set.now.source in
    let after = after_key key_spelling c.args.last in
    goes_looked g.K.Keeper.kept c.args.sites.now c.next.new.self c.args.set.now.target (LoadsNext saw c.args.table c.args.number c.args.member.now after None) c.requires.open (record { most = reads_of_one 1 c.args.set.now.source areas.Source; stays = c.in_ok-next.ensures.ok.stays }) (λ d. (refl, rw (c.in_default.is, c.as_ref.ensures.value) at c.in_ok-next.ensures.row))

pub returns-in_err-put-clause-fault : goal.returns-in_err-put-clause-fault
returns-in_err-put-clause-fault g c =
    let p = err_from_is_err_and c.from_residual-in_err-put.result c.from_residual-in_err-put.ensures.1 in
    let source = c.args.set.now.source in
    rw (p.1, p.2) (write_breaks_after source_rules g.K.Keeper.kept c.args.sites.now c.next.new.self c.load_row.new.sites source c.in_err-put.field-0.0 (record { most = reads_of_one 1 source areas.Source; stays = c.in_ok-next.ensures.ok.stays }) c.in_err-put.ensures.fault)

pub returns-clause-ok : goal.returns-clause-ok
returns-clause-ok g c =
    let kept = g.K.Keeper.kept in
    let set = c.args.set.now in
    let saw = sees kept c.args.sites.now set.source in
    let after = after_key key_spelling c.args.last in
    let key = c.in-Some.key in
    let row = c.in-Some.stored.row in
    let put = c.in_ok-put.put in
    let follows = rw (c.in-Some.is, c.as_ref.ensures.value) at c.in_ok-next.ensures.rises in
    let next = rw (c.in-Some.is, c.as_ref.ensures.value) at c.in_ok-next.ensures.row in
    looked_then kept c.args.sites.now c.next.new.self c.load_row.new.sites set.target (LoadsRow c.args.number c.args.member.now key row put) (LoadsNext saw c.args.table c.args.number c.args.member.now after (Some (key, put))) c.requires.open (record { most = reads_of_one 1 set.source areas.Source; stays = c.in_ok-next.ensures.ok.stays }) c.in_ok-put.ensures.ok (λ d e loads. (row, follows.row.fits, next, loads))
