use Rattle.std.proofs.Common.{◌≡◌, rules}
use Rattle.repl_model.specs.Words.{keys_stand}
use Rattle.checked_defs.specs.Rules.{as_source_table}
use Rattle.checked_defs.proofs.members.texts_fit.Goals as goal

pub returns-then-reads_registered : goal.returns-then-reads_registered
returns-then-reads_registered c =
    let stands : c.keys_stand.result ≡ keys_stand (as_source_table c.args.def.now c.args.reg.now) c.args.spelled.now = c.keys_stand.ensures c.args.reg.now in
    search rules
