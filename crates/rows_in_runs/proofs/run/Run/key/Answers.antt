use Rattle.std.proofs.Common.{List, ℕ, sym, ap, ◌∙◌}
use Rattle.rows_in_runs.specs.declared.row.RunRow.{RunRow}
use Rattle.rows_in_runs.specs.Rows.{piece_bytes}
use Rattle.rows_in_runs.proofs.Stored.{key_of_row}
use Rattle.rows_in_runs.proofs.run.Run.key.Goals as goal

pub returns-clause-key : goal.returns-clause-key
returns-clause-key c =
    let bytes = c.args.self.now.bytes.items in
    c.piece_of.ensures
    ∙ ap (λ (b : List ℕ). piece_bytes b c.index.result.now.key) c.deref.ensures.value
    ∙ ap (λ (row : RunRow). piece_bytes bytes row.key) c.index.ensures
    ∙ sym (key_of_row bytes c.args.self.now.rows.items c.args.at c.index.result.now c.requires)
