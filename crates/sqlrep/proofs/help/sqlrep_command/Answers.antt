use Rattle.std.proofs.Common.{◌≡◌, ◌∙◌, ap, ap₂, codes, rules}
use Rattle.std.proofs.lemmas.Result.{IfOk-weaker}
use Rattle.clap.specs.Simple.{App, app_of, new_app, with_rule, with_subcommand}
use Rattle.sqlrep.proofs.help.sqlrep_command.Goals as goal

pub returns : goal.returns
returns c =
    let copy_is : app_of c.about-copy.result ≡ new_app (codes "copy") = search rules in
    let cells_are = c.in_ok-arg.ensures.shape c.cells_with_help.ensures.local ∙ ap₂ with_rule c.in_ok-program_command.ensures c.cells_with_help.ensures.rule in
    let servers_are = c.in_ok-arg-2.ensures.shape c.servers_with_help.ensures.local ∙ ap₂ with_rule cells_are c.servers_with_help.ensures.rule in
    IfOk-weaker c.subcommand.result _ _ (λ command h. h.shape (search rules) ∙ ap₂ with_subcommand servers_are (ap (λ (a : App). a.top) copy_is)) c.subcommand.ensures
