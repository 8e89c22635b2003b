use Rattle.std.proofs.Common.{◌≡◌, ◌+◌, ◌-◌, ◌≤◌, length, option_map}
use Rattle.repl_defs.specs.Tokens.{quoted_len}
use Rattle.repl_defs.proofs.token.quoted_len.Given as goal

-- what is passed already and what is still looked at are the whole
abbrev pub invariant-loop-first : goal.invariant-loop-first
invariant-loop-first l = record {
  within : length l.rest ≤ length l.quoted;
  whole : option_map (λ n. (length l.quoted - length l.rest) + n) (quoted_len l.rest) ≡ quoted_len l.quoted;
}

abbrev pub decreases-loop-first : goal.decreases-loop-first
decreases-loop-first l = length l.rest
