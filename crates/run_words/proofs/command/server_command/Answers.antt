use Rattle.std.proofs.Common.{◌∙◌, ap₂}
use Rattle.std.proofs.lemmas.Result.{IfOk-weaker}
use Rattle.clap.specs.Words.{with_rule}
use Rattle.run_words.proofs.command.server_command.Goals as goal

pub returns : goal.returns
returns c =
    let cells_is = c.in_ok-arg.ensures.shape c.cells_arg.ensures.local ∙ ap₂ with_rule c.new.ensures.app c.cells_arg.ensures.rule in
    IfOk-weaker c.arg-2.result _ _ (λ command h. h.shape c.servers_arg.ensures.local ∙ ap₂ with_rule cells_is c.servers_arg.ensures.rule) c.arg-2.ensures
