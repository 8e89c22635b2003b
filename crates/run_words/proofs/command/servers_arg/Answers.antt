use Rattle.std.proofs.Common.{◌≡◌, rules, Some}
use Rattle.run_words.specs.Limits.{server_limit}
use Rattle.run_words.proofs.Ranges.{counts_of}
use Rattle.run_words.proofs.command.servers_arg.Goals as goal

pub returns-clause-rule : goal.returns-clause-rule
returns-clause-rule c =
    let range_is : c.num_args.result.num_vals ≡ Some (record { start_inclusive = 1; end_inclusive = server_limit }) = counts_of _ _ _ 1 server_limit c.num_args.ensures.1 c.new-2.ensures.start c.new-2.ensures.end in
    search (rules, range_is)
