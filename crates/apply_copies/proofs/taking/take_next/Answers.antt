use Rattle.std.proofs.Common.{◌≡◌, Some, None, inr, refl, sym, ap, subst, ◌∙◌}
use Rattle.std.proofs.lemmas.Result.{err_from_is_err_and}
use Rattle.world_store.specs.Words.{IsKey, IsRow, key_spelling, change_row_spelling, change_key_spelling}
use Rattle.site_store.specs.Words.{reads_of_one, sees, unfit_breaks, write_breaks_after, if_seen}
use Rattle.repl_model.specs.Words.{Values, IsKeySize, imaged_row, key_of}
use Rattle.repl_types.specs.declared.area.Area.TheVariants as areas
use Rattle.stored_commits.specs.units.StoredChanges.{stored_change}
use Rattle.stored_commits.specs.copies.ChangedCopies.{key_after}
use Rattle.apply_copies.specs.ChangeRules.{IsRegisteredIn, change_source_rules}
use Rattle.apply_copies.specs.Changing.{source_as, NextIs, TakesRow, TakesNext}
use Rattle.apply_copies.proofs.Elsewhere.{goes_looked, looked_then}
use Rattle.apply_copies.proofs.ImagedRows.{imaged_fits, has_size, has_no_size}
use Rattle.stored_commits.specs.records.laws.StandingRows.{key_fits}
use Rattle.apply_copies.proofs.taking.take_next.Goals as goal

pub returns-in_default-clause-ok : goal.returns-in_default-clause-ok
returns-in_default-clause-ok g c =
    let kept = g.K.Keeper.kept in
    let set = c.args.set.now in
    let source = c.args.source.now in
    let saw = sees kept c.args.sites.now set.source in
    goes_looked kept c.args.sites.now c.next_row.new.sites set.target (TakesNext saw source.reg.number c.args.number (source_as source) c.args.member.now c.args.after c.args.upto None) c.requires.open (record { most = reads_of_one 1 set.source areas.Cd; stays = c.in_ok-next.ensures.ok.stays }) (λ d. (refl, rw c.in_default.is at c.in_ok-next.ensures.found))

pub returns-then-not-branch-clause-fault : goal.returns-then-not-branch-clause-fault
returns-then-not-branch-clause-fault g c =
    let kept = g.K.Keeper.kept in
    let s0 = c.args.sites.now in
    let server = c.args.set.now.source in
    let source = c.args.source.now in
    let change = c.in-Some.change in
    let saw = sees kept s0 server in
    let key = change_key_spelling (stored_change change).0 in
    let bytes = change_row_spelling (stored_change change).1 in
    let found = rw c.in-Some.is at c.in_ok-next.ensures.found in
    let from = rw c.in-Some.is at c.in_ok-next.ensures.from in
    let own : c.in_ok-key.key ≡ key_after (source_as source) change = c.in_ok-key.ensures ∙ ap (key_of source.table.def) c.in_ok-row.ensures in
    let none = has_no_size (key_spelling c.in_ok-key.key) (sym c.in_ok-is_storable.ensures ∙ c.if-not-branch.true) in
    unfit_breaks change_source_rules kept s0 c.next_row.new.sites c.keyless.new.sites server areas.Cd source.reg.number key bytes c.keyless.result c.in_ok-next.ensures.ok
    (if_seen saw (NextIs source.reg.number c.args.after change) (λ d. d areas.Cd source.reg.number key ≡ Some bytes) (λ d next. next.has) found)
    (if_seen saw (IsRegisteredIn source.reg source.table) (change_source_rules.is_unfit areas.Cd source.reg.number key bytes) (λ d registered. inr (source.reg, source.table, change, record { registered = registered; fits = from.fits; keyless = λ size. none (subst (λ (k : Values). IsKeySize (key_spelling k)) (sym own) size) }, refl, refl, refl)) c.requires.registered)
    c.keyless.ensures.closes c.keyless.ensures.fault

pub take_row-requires-clause-key : goal.take_row-requires-clause-key
take_row-requires-clause-key g c =
    let source = c.args.source.now in
    let from = rw c.in-Some.is at c.in_ok-next.ensures.from in
    let row = imaged_fits (source_as source) c.in-Some.change c.requires.table.1.1.0 from.fits.1.0 in
    let own = c.in_ok-key.ensures ∙ ap (key_of source.table.def) c.in_ok-row.ensures in
    record {
      fits = subst IsKey (sym own) (key_fits source.table.def (imaged_row (source_as source) c.in-Some.change) row);
      size = has_size (key_spelling c.in_ok-key.key) (sym c.in_ok-is_storable.ensures ∙ c.if-not-branch.false);
    }

pub take_row-requires-clause-row : goal.take_row-requires-clause-row
take_row-requires-clause-row g c =
    let from = rw c.in-Some.is at c.in_ok-next.ensures.from in
    subst IsRow (sym c.in_ok-row.ensures) (imaged_fits (source_as c.args.source.now) c.in-Some.change c.requires.table.1.1.0 from.fits.1.0)

pub returns-in_err-take_row-clause-fault : goal.returns-in_err-take_row-clause-fault
returns-in_err-take_row-clause-fault g c =
    let p = err_from_is_err_and c.from_residual-in_err-take_row.result c.from_residual-in_err-take_row.ensures.1 in
    let server = c.args.set.now.source in
    rw (p.1, p.2) (write_breaks_after change_source_rules g.K.Keeper.kept c.args.sites.now c.next_row.new.sites c.take_row.new.sites server c.in_err-take_row.field-0.0 (record { most = reads_of_one 1 server areas.Cd; stays = c.in_ok-next.ensures.ok.stays }) c.in_err-take_row.ensures.fault)

pub returns-clause-ok : goal.returns-clause-ok
returns-clause-ok g c =
    let kept = g.K.Keeper.kept in
    let set = c.args.set.now in
    let source = c.args.source.now in
    let change = c.in-Some.change in
    let saw = sees kept c.args.sites.now set.source in
    let found = rw c.in-Some.is at c.in_ok-next.ensures.found in
    let from = rw c.in-Some.is at c.in_ok-next.ensures.from in
    looked_then kept c.args.sites.now c.next_row.new.sites c.take_row.new.sites set.target (TakesRow c.args.number (source_as source) c.args.member.now change) (TakesNext saw source.reg.number c.args.number (source_as source) c.args.member.now c.args.after c.args.upto (Some ((stored_change change).0, change.op))) c.requires.open (record { most = reads_of_one 1 set.source areas.Cd; stays = c.in_ok-next.ensures.ok.stays }) c.in_ok-take_row.ensures.ok (λ d e took. (change, from, refl, refl, found, took))
