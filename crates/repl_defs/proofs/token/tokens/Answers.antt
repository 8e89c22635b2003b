use Rattle.std.proofs.Common.{◌≤◌, length, arith}
use Rattle.std.proofs.lemmas.Result.{err_from_is_err_and}
use Rattle.repl_defs.specs.laws.Rests.{past_blank, past_token, token_shortens, no_token, at_end}
use Rattle.repl_defs.proofs.token.tokens.Goals as goal

pub loop-rest-preserved-then-rest-eq32 : goal.loop-rest-preserved-then-rest-eq32
loop-rest-preserved-then-rest-eq32 c =
    let some : 1 ≤ length c.loop-rest.rest.now = grind arith in
    past_blank c.loop-rest.tokens c.loop-rest.rest.now c.args.text.now some c.if-rest-eq32.true c.loop-rest.invariant

pub returns-in_err-token-clause-refused : goal.returns-in_err-token-clause-refused
returns-in_err-token-clause-refused c = λ bad.
    let some : 1 ≤ length c.loop-rest.rest.now = grind arith in
    let exit = err_from_is_err_and c.from_residual.result c.from_residual.ensures.1 in
    no_token c.loop-rest.tokens c.loop-rest.rest.now c.args.text.now some c.if-rest-eq32.false (c.in_err-token.ensures.refused (cc (exit.1, exit.2))) c.loop-rest.invariant

pub loop-rest-smaller : goal.loop-rest-smaller
loop-rest-smaller c =
    let some : 1 ≤ length c.loop-rest.rest.now = grind arith in
    token_shortens c.loop-rest.rest.now c.in_ok-token.after.now c.in_ok-token.token some c.in_ok-token.ensures.ok

pub loop-rest-preserved : goal.loop-rest-preserved
loop-rest-preserved c =
    let some : 1 ≤ length c.loop-rest.rest.now = grind arith in
    rw c.in_ok-push.ensures.items (past_token c.loop-rest.tokens c.loop-rest.rest.now c.args.text.now c.in_ok-token.after.now c.in_ok-token.token some c.if-rest-eq32.false c.in_ok-token.ensures.ok c.loop-rest.invariant)

pub returns-clause-ok : goal.returns-clause-ok
returns-clause-ok c = at_end c.loop-rest.tokens c.loop-rest.rest.now c.args.text.now (grind arith) c.loop-rest.invariant
