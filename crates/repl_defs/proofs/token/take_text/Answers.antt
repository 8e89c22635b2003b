use Rattle.std.proofs.Common.{◌≤◌, ◌+◌, length, rules}
use Rattle.repl_defs.specs.laws.Quoted.{word_within}
use Rattle.repl_defs.proofs.token.take_text.Goals as goal

pub overflow_add-len : goal.overflow_add-len
overflow_add-len c =
    let within : c.in-Some.len + 1 ≤ length c.args.text.now = word_within c.args.text.now c.in-Some.len c.requires c.in-Some.ensures in
    search rules

pub split_at-requires : goal.split_at-requires
split_at-requires c = word_within c.args.text.now c.in-Some.len c.requires c.in-Some.ensures
