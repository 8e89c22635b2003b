use Rattle.std.proofs.Common.{take_all, refl, sym, ap, ◌∙◌, arith}
use Rattle.std.specs.List.{list_any}
use Rattle.std.proofs.lemmas.Result.{err_from_is_err_and}
use Rattle.site_store.specs.Words.{breaks_after, looks_none, looks_then}
use Rattle.repl_model.specs.Words.{is_disabled, at_place_in, any_from}
use Rattle.set_places.specs.Members.{IsRegistrationOf}
use Rattle.subs_sets.specs.Rules.{source_rules}
use Rattle.subs_sets.proofs.JoinedRules.{member_breaks}
use Rattle.subs_sets.proofs.Looking.{for_source_back, reads_definitions, reads_then}
use Rattle.subs_sets.proofs.MemberGaps.{as_many, disabled_is}
use Rattle.subs_sets.proofs.MemberLists.{none_more}
use Rattle.subs_sets.proofs.gaps.is_disabled.Goals as goal

pub loop-member-init : goal.loop-member-init
loop-member-init g c = record { look = looks_none g.K.Keeper.kept c.args.sites.now; none = λ w k sound placed reveals. refl; reads = λ s a other. omega arith }

pub returns-in_err-reg-clause-fault : goal.returns-in_err-reg-clause-fault
returns-in_err-reg-clause-fault g c =
    let p = err_from_is_err_and c.from_residual.result c.from_residual.ensures.1 in
    let kept = g.K.Keeper.kept in
    let source = c.args.set.now.source in
    let e = c.in_err-reg.field-0.0 in
    rw (p.1, p.2) (breaks_after source_rules kept c.args.sites.now c.loop-member.sites c.read_registration.new.sites source e c.loop-member.invariant.look (member_breaks kept c.loop-member.sites c.read_registration.new.sites source e c.in_err-reg.ensures.fault))

pub returns-then-reg-clause-ok : goal.returns-then-reg-clause-ok
returns-then-reg-clause-ok g c = looks_then g.K.Keeper.kept c.args.sites.now c.loop-member.sites c.read_registration.new.sites c.loop-member.invariant.look c.in_ok-reg.ensures.ok

pub returns-then-reg-clause-disabled : goal.returns-then-reg-clause-disabled
returns-then-reg-clause-disabled g c = λ w k sound placed reveals.
    let n = c.loop-member.member in
    let reg = c.in_ok-reg.reg in
    let is : IsRegistrationOf k n reg = for_source_back g.K.Keeper.kept c.args.sites.now c.loop-member.sites c.args.set.now (λ w k. IsRegistrationOf k n reg) c.loop-member.invariant.look c.in_ok-reg.ensures.registration w k sound placed reveals in
    sym (any_from (is_disabled k.source) k.at_source.def.members is.own (at_place_in k.at_source.def.members n is.own is.at_place) (sym (disabled_is k n is.own reg is.at_place is) ∙ c.if-reg.true))

pub loop-member-preserved : goal.loop-member-preserved
loop-member-preserved g c =
    let kept = g.K.Keeper.kept in
    let s0 = c.args.sites.now in
    let s1 = c.loop-member.sites in
    let s2 = c.read_registration.new.sites in
    let n = c.loop-member.member in
    let reg = c.in_ok-reg.reg in
    let so_far = c.loop-member.invariant in
    record {
      look = looks_then kept s0 s1 s2 so_far.look c.in_ok-reg.ensures.ok;
      none = λ w k sound placed reveals.
          let is : IsRegistrationOf k n reg = for_source_back kept s0 s1 c.args.set.now (λ w k. IsRegistrationOf k n reg) so_far.look c.in_ok-reg.ensures.registration w k sound placed reveals in
          none_more (is_disabled k.source) k.at_source.def.members n is.own is.at_place (so_far.none w k sound placed reveals) (sym (disabled_is k n is.own reg is.at_place is) ∙ c.if-reg.false);
      reads = reads_then kept s0 s1 s2 so_far.reads (reads_definitions kept s1 s2 c.in_ok-reg.ensures.reads);
    }

pub returns-clause-disabled : goal.returns-clause-disabled
returns-clause-disabled g c = λ w k sound placed reveals.
    let n = c.loop-member.member in
    let same = as_many c.as_slice.result.now k c.args.set.now.at_source.def c.as_slice.ensures placed.source_def in
    sym (ap (list_any (is_disabled k.source)) (sym (take_all n k.at_source.def.members (omega (arith, same, c.loop-member-test.false)))) ∙ c.loop-member.invariant.none w k sound placed reveals)
