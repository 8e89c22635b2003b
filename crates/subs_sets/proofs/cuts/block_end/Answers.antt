use Rattle.std.proofs.Common.{◌≡◌, ◌+◌, sym, ◌∙◌, min}
use Rattle.std.proofs.lemmas.Result.{err_from_is_err_and}
use Rattle.site_store.specs.Words.{breaks_after, looks_then}
use Rattle.repl_model.specs.Words.{at_place_in}
use Rattle.subs_sets.specs.Cuts.{captured_until, first_unit}
use Rattle.subs_sets.specs.Rules.{source_rules}
use Rattle.subs_sets.proofs.BlockCuts.{no_block, begins_with, ends_there, ends_before, goes_past}
use Rattle.subs_sets.proofs.Looking.{for_source_back, reads_then}
use Rattle.subs_sets.proofs.cuts.block_end.Goals as goal

pub returns-in_default-clause-cut : goal.returns-in_default-clause-cut
returns-in_default-clause-cut g c = λ w k sound placed reveals point_is kept_above.
    no_block w k sound (at_place_in w c.args.set.now.source k.source placed.source) c.args.end c.args.point point_is kept_above (sym c.in_default.is ∙ c.in_ok-first.ensures.unit w k sound placed reveals)

pub loop-next-init : goal.loop-next-init
loop-next-init g c = record {
  look = c.in_ok-first.ensures.ok;
  cut = λ w k sound placed reveals point_is kept_above. begins_with w k sound (at_place_in w c.args.set.now.source k.source placed.source) c.args.end c.args.point c.in-Some.cut c.in-Some.time point_is kept_above (sym c.in-Some.is ∙ c.in_ok-first.ensures.unit w k sound placed reveals);
  reads = c.in_ok-first.ensures.reads;
}

pub returns-in_err-next-clause-fault : goal.returns-in_err-next-clause-fault
returns-in_err-next-clause-fault g c =
    let p = err_from_is_err_and c.from_residual-in_err-next.result c.from_residual-in_err-next.ensures.1 in
    rw (p.1, p.2) (breaks_after source_rules g.K.Keeper.kept c.args.sites.now c.loop-next.sites c.next_until-in-loop-next.new.sites c.args.set.now.source c.in_err-next.field-0.0 c.loop-next.invariant.look c.in_err-next.ensures.fault)

pub returns-in_default-next-clause-ok : goal.returns-in_default-next-clause-ok
returns-in_default-next-clause-ok g c = looks_then g.K.Keeper.kept c.args.sites.now c.loop-next.sites c.next_until-in-loop-next.new.sites c.loop-next.invariant.look c.in_ok-next.ensures.ok

pub returns-in_default-next-clause-cut : goal.returns-in_default-next-clause-cut
returns-in_default-next-clause-cut g c = λ w k sound placed reveals point_is kept_above.
    let unit = for_source_back g.K.Keeper.kept c.args.sites.now c.loop-next.sites c.args.set.now (λ w k. c.in_ok-next.next ≡ first_unit (captured_until c.args.end c.loop-next.cut k.source)) c.loop-next.invariant.look c.in_ok-next.ensures.unit w k sound placed reveals in
    ends_there w k sound (at_place_in w c.args.set.now.source k.source placed.source) c.args.end c.in-Some.time c.loop-next.number c.loop-next.cut (c.loop-next.invariant.cut w k sound placed reveals point_is kept_above) (sym c.in_default-next.is ∙ unit)

pub returns-then-not-is_within-clause-ok : goal.returns-then-not-is_within-clause-ok
returns-then-not-is_within-clause-ok g c = looks_then g.K.Keeper.kept c.args.sites.now c.loop-next.sites c.next_until-in-loop-next.new.sites c.loop-next.invariant.look c.in_ok-next.ensures.ok

pub returns-then-not-is_within-clause-cut : goal.returns-then-not-is_within-clause-cut
returns-then-not-is_within-clause-cut g c = λ w k sound placed reveals point_is kept_above.
    let unit = for_source_back g.K.Keeper.kept c.args.sites.now c.loop-next.sites c.args.set.now (λ w k. c.in_ok-next.next ≡ first_unit (captured_until c.args.end c.loop-next.cut k.source)) c.loop-next.invariant.look c.in_ok-next.ensures.unit w k sound placed reveals in
    let more : c.saturating_add-number.result ≡ min (c.loop-next.number + 1) 18446744073709551615 = c.saturating_add-number.ensures in
    ends_before w k sound (at_place_in w c.args.set.now.source k.source placed.source) c.args.end c.in-Some.time c.loop-next.number c.loop-next.cut (c.loop-next.invariant.cut w k sound placed reveals point_is kept_above) c.args.set.now.at_source.def c.saturating_add-number.result c.in-Some-next.seq c.in-Some-next.later placed.source_def more (sym c.in-Some-next.is ∙ unit) (sym c.is_within.ensures ∙ c.if-not-is_within.true)

pub loop-next-preserved : goal.loop-next-preserved
loop-next-preserved g c =
    let kept = g.K.Keeper.kept in
    let s0 = c.args.sites.now in
    let s1 = c.loop-next.sites in
    let s2 = c.next_until-in-loop-next.new.sites in
    let so_far = c.loop-next.invariant in
    record {
      look = looks_then kept s0 s1 s2 so_far.look c.in_ok-next.ensures.ok;
      cut = λ w k sound placed reveals point_is kept_above.
          let unit = for_source_back kept s0 s1 c.args.set.now (λ w k. c.in_ok-next.next ≡ first_unit (captured_until c.args.end c.loop-next.cut k.source)) so_far.look c.in_ok-next.ensures.unit w k sound placed reveals in
          let more : c.saturating_add-number.result ≡ min (c.loop-next.number + 1) 18446744073709551615 = c.saturating_add-number.ensures in
          goes_past w k sound (at_place_in w c.args.set.now.source k.source placed.source) c.args.end c.in-Some.time c.loop-next.number c.loop-next.cut (so_far.cut w k sound placed reveals point_is kept_above) c.args.set.now.at_source.def c.saturating_add-number.result c.in-Some-next.seq c.in-Some-next.later placed.source_def more (sym c.in-Some-next.is ∙ unit) (sym c.is_within.ensures ∙ c.if-not-is_within.false);
      reads = reads_then kept s0 s1 s2 so_far.reads c.in_ok-next.ensures.reads;
    }
