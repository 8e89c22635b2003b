use Rattle.std.proofs.Common.{get_or}
use Rattle.std.proofs.lemmas.Result.{err_from_is_err_and}
use Rattle.world_store.specs.Words.{short_text}
use Rattle.site_store.specs.Words.{reads_of_one, needed_breaks}
use Rattle.repl_model.specs.Words.{defined_registration_spelling, IsDefinedRegistration}
use Rattle.repl_types.specs.declared.area.Area.TheVariants as areas
use Rattle.set_places.specs.Members.{member_rules}
use Rattle.set_places.proofs.MemberRows.{called_for, member_at, registration_is}
use Rattle.set_places.proofs.registrations.read_registration.Goals as goal

pub returns-in_err-reg-clause-fault : goal.returns-in_err-reg-clause-fault
returns-in_err-reg-clause-fault g c =
    let p = err_from_is_err_and c.from_residual.result c.from_residual.ensures.1 in
    let set = c.args.set.now in
    let own = get_or c.as_slice.result.now c.args.member c.index-as_slice-member.result in
    rw (p.1, p.2) (needed_breaks member_rules g.K.Keeper.kept IsDefinedRegistration defined_registration_spelling c.args.sites.now c.get_needed.new.self set.source areas.Defs 1 (short_text own.source) (reads_of_one 1 set.source areas.Defs) c.in_err-reg.field-0.0 (λ bytes h. h)
    (called_for g.K.Keeper.kept c.args.sites.now set c.args.member own (member_at set.at_source.def.members c.as_slice.result.now c.args.member c.index-as_slice-member.result c.as_slice.ensures c.requires.member) c.requires.placed) c.in_err-reg.ensures.fault)

pub returns-clause-registration : goal.returns-clause-registration
returns-clause-registration g c =
    let set = c.args.set.now in
    let own = get_or c.as_slice.result.now c.args.member c.index-as_slice-member.result in
    registration_is g.K.Keeper.kept c.args.sites.now set c.args.member own (member_at set.at_source.def.members c.as_slice.result.now c.args.member c.index-as_slice-member.result c.as_slice.ensures c.requires.member) c.in_ok-reg.reg c.in_ok-reg.ensures.fits.fits c.in_ok-reg.ensures.row
