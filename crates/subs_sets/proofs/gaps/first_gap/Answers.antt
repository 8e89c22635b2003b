use Rattle.std.proofs.Common.{◌≡◌, take_all, refl, sym, ap, ◌∙◌, arith, filter_map}
use Rattle.std.proofs.lemmas.Result.{err_from_is_err_and}
use Rattle.repl_model.specs.Words.{member_gap, at_within}
use Rattle.site_store.specs.Words.{breaks_after, looks_none, looks_then}
use Rattle.subs_sets.specs.Gaps.{gap_of_found, first_of, AtMember}
use Rattle.subs_sets.specs.Rules.{source_rules}
use Rattle.subs_sets.proofs.Looking.{for_source_back, reads_then}
use Rattle.subs_sets.proofs.MemberLists.{nothing_more, first_given}
use Rattle.subs_sets.proofs.MemberGaps.{as_many, none_found, some_found}
use Rattle.subs_sets.proofs.gaps.first_gap.Goals as goal

pub loop-member-init : goal.loop-member-init
loop-member-init g c = record { look = looks_none g.K.Keeper.kept c.args.sites.now; none = λ w k sound placed reveals. refl; reads = λ s a other. omega arith }

pub returns-in_err-gap-clause-fault : goal.returns-in_err-gap-clause-fault
returns-in_err-gap-clause-fault g c =
    let p = err_from_is_err_and c.from_residual.result c.from_residual.ensures.1 in
    rw (p.1, p.2) (breaks_after source_rules g.K.Keeper.kept c.args.sites.now c.loop-member.sites c.member_gap.new.sites c.args.set.now.source c.in_err-gap.field-0.0 c.loop-member.invariant.look c.in_err-gap.ensures.fault)

pub returns-then-is_some-clause-ok : goal.returns-then-is_some-clause-ok
returns-then-is_some-clause-ok g c = looks_then g.K.Keeper.kept c.args.sites.now c.loop-member.sites c.member_gap.new.sites c.loop-member.invariant.look c.in_ok-gap.ensures.ok

pub returns-then-is_some-clause-gap : goal.returns-then-is_some-clause-gap
returns-then-is_some-clause-gap g c = λ w k sound placed reveals.
    let set = c.args.set.now in
    let n = c.loop-member.member in
    let found = c.in_ok-gap.gap in
    let same = as_many c.as_slice.result.now k set.at_source.def c.as_slice.ensures placed.source_def in
    let own = at_within k.at_source.def.members n (omega (arith, same, c.loop-member-test.true)) in
    let is = for_source_back g.K.Keeper.kept c.args.sites.now c.loop-member.sites set (λ w k. AtMember k n (λ own. gap_of_found found ≡ member_gap k.source c.args.point own)) c.loop-member.invariant.look c.in_ok-gap.ensures.gap w k sound placed reveals own.0 own.1 in
    let gap = some_found found (sym c.is_some.ensures ∙ c.if-is_some.true) in
    let first = first_given (member_gap k.source c.args.point) k.at_source.def.members n own.0 gap.0 own.1 (c.loop-member.invariant.none w k sound placed reveals) (sym is ∙ gap.1) in
    gap.1 ∙ sym (ap first_of first.1)

pub loop-member-preserved : goal.loop-member-preserved
loop-member-preserved g c =
    let kept = g.K.Keeper.kept in
    let s0 = c.args.sites.now in
    let s1 = c.loop-member.sites in
    let s2 = c.member_gap.new.sites in
    let n = c.loop-member.member in
    let found = c.in_ok-gap.gap in
    let so_far = c.loop-member.invariant in
    record {
      look = looks_then kept s0 s1 s2 so_far.look c.in_ok-gap.ensures.ok;
      none = λ w k sound placed reveals.
          let same = as_many c.as_slice.result.now k c.args.set.now.at_source.def c.as_slice.ensures placed.source_def in
          let own = at_within k.at_source.def.members n (omega (arith, same, c.loop-member-test.true)) in
          let is = for_source_back kept s0 s1 c.args.set.now (λ w k. AtMember k n (λ own. gap_of_found found ≡ member_gap k.source c.args.point own)) so_far.look c.in_ok-gap.ensures.gap w k sound placed reveals own.0 own.1 in
          nothing_more (member_gap k.source c.args.point) k.at_source.def.members n own.0 own.1 (so_far.none w k sound placed reveals) (sym is ∙ none_found found (sym c.is_some.ensures ∙ c.if-is_some.false));
      reads = reads_then kept s0 s1 s2 so_far.reads c.in_ok-gap.ensures.reads;
    }

pub returns-clause-gap : goal.returns-clause-gap
returns-clause-gap g c = λ w k sound placed reveals.
    let n = c.loop-member.member in
    let same = as_many c.as_slice.result.now k c.args.set.now.at_source.def c.as_slice.ensures placed.source_def in
    sym (ap first_of (ap (filter_map (member_gap k.source c.args.point)) (sym (take_all n k.at_source.def.members (omega (arith, same, c.loop-member-test.false)))) ∙ c.loop-member.invariant.none w k sound placed reveals))
