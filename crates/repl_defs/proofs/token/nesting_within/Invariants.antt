use Rattle.std.proofs.Common.{◌≡◌, ◌≤◌, fold, take}
use Rattle.repl_defs.specs.Texts.{nesting_after}
use Rattle.repl_defs.proofs.token.nesting_within.Given as goal

-- the parentheses of the tokens so far
abbrev pub invariant-loop-token : goal.invariant-loop-token
invariant-loop-token l = record {
  few : l.now_open ≤ l.token-index;
  so_far : fold nesting_after (0, 0) (take l.token-index l.tokens) ≡ (l.most, l.now_open);
}
