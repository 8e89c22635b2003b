use Rattle.std.proofs.Common.{length, sym, ap, ◌∙◌, arith, drop}
use Rattle.std.proofs.lemmas.List.{take_rest, length-drop}
use Rattle.repl_defs.specs.Tokens.{quoted_len}
use Rattle.repl_defs.specs.laws.Quoted.{is_pair-some, quoted_len-pair, quoted_len-other, quoted_len-more, quoted_len-found, quoted_len-nothing}
use Rattle.repl_defs.proofs.token.quoted_len.Goals as goal

pub loop-first-preserved-then-is_pair : goal.loop-first-preserved-then-is_pair
loop-first-preserved-then-is_pair c =
    let after = c.in-Some.after.now in
    let is = c.in-Some.ensures.cases.0 in
    let long = ap length is in
    let pair = sym c.is_pair.ensures ∙ c.if-is_pair.true in
    let rest = take_rest after 1 in
    let shorter = length-drop 1 after in
    record {
      within = rw rest (omega (arith, long, shorter));
      whole = rw rest (quoted_len-more c.args.quoted.now c.loop-first.rest.now (drop 1 after) 2 _ (omega (arith, long, shorter, is_pair-some c.in-Some.first.now after pair)) c.loop-first.invariant.within c.loop-first.invariant.whole (ap quoted_len is ∙ quoted_len-pair c.in-Some.first.now after pair));
    }

pub returns-then-first-eq39 : goal.returns-then-first-eq39
returns-then-first-eq39 c =
    quoted_len-found c.args.quoted.now c.loop-first.rest.now c.in-Some.after.now c.in-Some.first.now c.in-Some.ensures.cases.0
    (sym c.is_pair.ensures ∙ c.if-is_pair.false) c.if-first-eq39.true c.loop-first.invariant.within c.loop-first.invariant.whole

pub loop-first-preserved : goal.loop-first-preserved
loop-first-preserved c =
    let after = c.in-Some.after.now in
    let is = c.in-Some.ensures.cases.0 in
    let long = ap length is in
    record {
      within = omega (arith, long);
      whole = quoted_len-more c.args.quoted.now c.loop-first.rest.now after 1 _ (omega (arith, long)) c.loop-first.invariant.within c.loop-first.invariant.whole (ap quoted_len is ∙ quoted_len-other c.in-Some.first.now after (sym c.is_pair.ensures ∙ c.if-is_pair.false) c.if-first-eq39.false);
    }

pub returns : goal.returns
returns c = quoted_len-nothing c.args.quoted.now c.loop-first.rest.now c.in_default.ensures.cases c.loop-first.invariant.whole
