use Rattle.std.proofs.Common.{◌≡◌, ◌≤◌, ◌<◌, List, inr, length, subst, sym, ◌∙◌, IfSome, Option}
use Rattle.std.proofs.lemmas.Result.{err_from_is_err_and}
use Rattle.site_store.specs.Words.{Contents, sees, breaks_after, looks_sees, looks_open}
use Rattle.repl_model.specs.Words.{row_limit, IsMember, TargetColumn, DefinedRegistration, again_source_set, at_place_in, at_one}
use Rattle.set_places.specs.Members.{ForSource, IsRegistrationOf}
use Rattle.apply_copies.specs.ChangeRules.{IsRegisteredIn, change_source_rules}
use Rattle.apply_copies.specs.Changing.{source_as, TakesAll}
use Rattle.set_places.specs.Targets.{target_number}
use Rattle.apply_copies.specs.Taking.{TakesChanges}
use Rattle.apply_copies.proofs.Elsewhere.{looked_then}
use Rattle.apply_copies.proofs.MemberFaults.{own_at, change_stops, change_member_stops, wide_breaks}
use Rattle.apply_copies.proofs.MemberTakes.{takes_changes}
use Rattle.apply_copies.proofs.taking.apply_member.Goals as goal

pub returns-in_err-reg-clause-fault : goal.returns-in_err-reg-clause-fault
returns-in_err-reg-clause-fault g c =
    let p = err_from_is_err_and c.from_residual.result c.from_residual.ensures.1 in
    rw (p.1, p.2) (change_member_stops g.K.Keeper.kept c.args.sites.now c.args.set.now (target_number c.args.set.now.at_target.number c.args.member) c.read_registration.new.sites c.in_err-reg.field-0.0 c.in_err-reg.ensures.fault)

pub unfit-requires : goal.unfit-requires
unfit-requires g c = again_source_set c.args.set.now.at_source c.requires.source.fits

pub returns-then-as_slice-gt-ROW_LIMIT-clause-fault : goal.returns-then-as_slice-gt-ROW_LIMIT-clause-fault
returns-then-as_slice-gt-ROW_LIMIT-clause-fault g c =
    let kept = g.K.Keeper.kept in
    let s0 = c.args.sites.now in
    let set = c.args.set.now in
    let own = c.index-as_slice-member.result in
    let at = own_at set.at_source.def.members c.as_slice.result.now c.args.member own c.as_slice.ensures c.requires.member c.index-as_slice-member.is in
    let wide : row_limit < length own.columns = subst (λ (l : List TargetColumn). row_limit < length l) c.as_slice-2.ensures c.if-as_slice-gt-ROW_LIMIT.true in
    change_stops kept s0 set (target_number set.at_target.number c.args.member) c.unfit.new.self c.unfit.result (wide_breaks kept s0 set change_source_rules (λ key value d wide. inr wide) c.args.member own at c.requires.source c.read_registration.new.sites c.unfit.new.self c.unfit.result wide c.in_ok-reg.ensures.read c.unfit.ensures.closes c.unfit.ensures.fault)

pub returns-in_err-source-clause-fault : goal.returns-in_err-source-clause-fault
returns-in_err-source-clause-fault g c =
    let kept = g.K.Keeper.kept in
    let s0 = c.args.sites.now in
    let set = c.args.set.now in
    let p = err_from_is_err_and c.from_residual-in_err-source.result c.from_residual-in_err-source.ensures.1 in
    let e = c.in_err-source.field-0.0 in
    rw (p.1, p.2) (change_stops kept s0 set (target_number set.at_target.number c.args.member) c.read_source.new.sites e (breaks_after change_source_rules kept s0 c.read_registration.new.sites c.read_source.new.sites set.source e c.in_ok-reg.ensures.ok c.in_err-source.ensures.fault))

pub take_changes-requires-clause-member : goal.take_changes-requires-clause-member
take_changes-requires-clause-member g c =
    let members = c.args.set.now.at_source.def.members in
    let own = c.index-as_slice-member.result in
    record {
      fits = at_one IsMember members own c.requires.source.fits.1.5.1 (at_place_in members c.args.member own (own_at members c.as_slice.result.now c.args.member own c.as_slice.ensures c.requires.member c.index-as_slice-member.is));
      narrow = subst (λ (l : List TargetColumn). length l ≤ row_limit) c.as_slice-2.ensures c.if-as_slice-gt-ROW_LIMIT.false;
    }

pub returns-in_err-counts-clause-fault : goal.returns-in_err-counts-clause-fault
returns-in_err-counts-clause-fault g c =
    let kept = g.K.Keeper.kept in
    let s0 = c.args.sites.now in
    let s1 = c.read_registration.new.sites in
    let s2 = c.read_source.new.sites in
    let s3 = c.take_changes.new.sites in
    let set = c.args.set.now in
    let p = err_from_is_err_and c.from_residual-in_err-counts.result c.from_residual-in_err-counts.ensures.1 in
    let e = c.in_err-counts.field-0.0 in
    rw (p.1, p.2) (change_stops kept s0 set (target_number set.at_target.number c.args.member) s3 e (breaks_after change_source_rules kept s0 s1 s3 set.source e c.in_ok-reg.ensures.ok (breaks_after change_source_rules kept s1 s2 s3 set.source e c.in_ok-source.ensures.ok c.in_err-counts.ensures.fault)))

pub returns-clause-ok : goal.returns-clause-ok
returns-clause-ok g c =
    let kept = g.K.Keeper.kept in
    let set = c.args.set.now in
    let place = c.args.member in
    let s0 = c.args.sites.now in
    let s1 = c.read_registration.new.sites in
    let s2 = c.read_source.new.sites in
    let s3 = c.take_changes.new.sites in
    let own = c.index-as_slice-member.result in
    let source = c.in_ok-source.source in
    let counts = c.in_ok-counts.counts in
    let number = c.target_number-number.result in
    let first = c.in_ok-reg.ensures.ok in
    let second = c.in_ok-source.ensures.ok in
    let saw0 = sees kept s0 set.source in
    let saw1 : sees kept s1 set.source ≡ saw0 = looks_sees kept s0 s1 first set.source in
    let saw2 : sees kept s2 set.source ≡ saw0 = looks_sees kept s1 s2 second set.source ∙ saw1 in
    let at = own_at set.at_source.def.members c.as_slice.result.now place own c.as_slice.ensures c.requires.member c.index-as_slice-member.is in
    let registered = subst (λ (q : DefinedRegistration). ForSource kept s0 set (λ w k. IsRegistrationOf k place q)) (sym c.in_ok-source.ensures.same) c.in_ok-reg.ensures.registration in
    let stands = subst (λ (o : Option Contents). IfSome o (IsRegisteredIn source.reg source.table)) saw1 c.in_ok-source.ensures.source in
    let T = TakesAll saw0 source.reg.number number (source_as source) own c.args.from c.args.upto counts in
    let R = TakesChanges kept s0 set place c.args.from c.args.upto counts in
    looked_then kept s0 s1 s3 set.target R R c.requires.open first (looked_then kept s1 s2 s3 set.target T R (looks_open kept s0 s1 set.target c.requires.open first) second (rw saw2 at c.in_ok-counts.ensures.ok) (λ d e taken. takes_changes kept s0 set place c.args.from c.args.upto own source at registered stands number counts d e c.target_number-number.ensures taken)) (λ d e taken. taken)
