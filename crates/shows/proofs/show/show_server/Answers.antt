use Rattle.repl_model.specs.Words.{server_in}
use Rattle.shows.specs.servers.Status.{status_text}
use Rattle.shows.proofs.Contents.{none_damaged}
use Rattle.shows.proofs.Passed.{on_err, passed}
use Rattle.shows.proofs.show.show_server.Goals as goal
use Rattle.shows.proofs.Pieces.{none_taken}

pub returns-in_err-text-clause-err : goal.returns-in_err-text-clause-err
returns-in_err-text-clause-err g c = on_err c.from_residual.result (λ w is_world. none_taken (g.O.Sink.taken c.args.output.now) (status_text (server_in w c.args.server)))

pub returns-in_err-text-clause-undamaged : goal.returns-in_err-text-clause-undamaged
returns-in_err-text-clause-undamaged g c =
    passed c.from_residual.result _ _ c.from_residual.ensures.1 (λ w is_world. none_damaged g.K.Keeper.kept c.args.sites.now c.requires.closed w is_world c.status_text.new.sites c.in_err-text.field-0.0 c.in_err-text.ensures.fault.blames)
