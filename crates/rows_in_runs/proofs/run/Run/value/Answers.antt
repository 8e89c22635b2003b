use Rattle.std.proofs.Common.{List, ℕ, Bor, sym, ap, ◌∙◌}
use Rattle.std.specs.Prelude.{Option, Some}
use Rattle.std.specs.Option.{option_map}
use Rattle.rows_in_runs.specs.declared.row.Piece.{Piece}
use Rattle.rows_in_runs.specs.Rows.{piece_bytes, value_bytes}
use Rattle.rows_in_runs.proofs.Kept.{row_found}
use Rattle.rows_in_runs.proofs.run.Run.value.Goals as goal

pub returns-in_err-now-clause-value : goal.returns-in_err-now-clause-value
returns-in_err-now-clause-value c =
    let r = c.args.self.now in
    row_found r.bytes.items r.rows.items c.args.at c.index.result.now r.rising c.requires c.index.ensures
    ∙ ap (λ (now : Option Piece). Some (value_bytes r.bytes.items now)) c.in_err-now.was
    ∙ sym (ap (λ (o : Option (Bor (List ℕ))). Some (option_map (λ v. v.now) o)) c.from_residual.ensures)

pub returns-clause-value : goal.returns-clause-value
returns-clause-value c =
    let r = c.args.self.now in
    row_found r.bytes.items r.rows.items c.args.at c.index.result.now r.rising c.requires c.index.ensures
    ∙ ap (λ (now : Option Piece). Some (value_bytes r.bytes.items now)) c.in_ok-now.was
    ∙ sym (ap (λ (v : List ℕ). Some (Some v)) (c.piece_of.ensures ∙ ap (λ (b : List ℕ). piece_bytes b c.in_ok-now.now) c.deref.ensures.value))
