use Rattle.std.proofs.Common.{List, ◌≡◌, length, sym, ap, subst, ◌∙◌, arith}
use Rattle.std.specs.List.{All}
use Rattle.std.proofs.lemmas.List.Elements.{All-nil}
use Rattle.rows_in_runs.specs.declared.row.RunRow.{RunRow}
use Rattle.rows_in_runs.specs.declared.row.Old.{Old}
use Rattle.rows_in_runs.specs.Rows.{IsRow, IsOld, IsRising, keys_in, rows_before, held_rows}
use Rattle.rows_in_runs.proofs.Changed.{fit_held, rising_held, length_held}
use Rattle.rows_in_runs.proofs.Kept.{none_changed}
use Rattle.rows_in_runs.proofs.run.Run.undo.Goals as goal

pub invariant_of-self : goal.invariant_of-self
invariant_of-self c =
    let r = c.args.self.now in
    let bytes = r.bytes.items in
    let held : c.put_back.new.rows.items ≡ held_rows r.settled r.rows.items r.olds.items = c.put_back.ensures.rows ∙ ap (λ (rows : List RunRow). rows_before rows r.olds.items) c.truncate.ensures.items in
    record {
      rows_fit = subst (λ (rows : List RunRow). All (IsRow (length bytes)) rows) (sym held) (fit_held (length bytes) r.settled r.rows.items r.olds.items r.rows_fit r.olds_fit);
      olds_fit = subst (λ (olds : List Old). All (IsOld (length bytes)) olds) (sym c.put_back.ensures.olds) (All-nil (IsOld (length bytes)));
      rising = subst (λ (rows : List RunRow). IsRising (keys_in bytes rows)) (sym held) (rising_held bytes r.settled r.rows.items r.olds.items r.rising);
      within = omega (arith, ap length held, length_held r.settled r.rows.items r.olds.items r.within);
    }

pub returns-clause-settled : goal.returns-clause-settled
returns-clause-settled c =
    let r = c.args.self.now in
    let held : c.put_back.new.rows.items ≡ held_rows r.settled r.rows.items r.olds.items = c.put_back.ensures.rows ∙ ap (λ (rows : List RunRow). rows_before rows r.olds.items) c.truncate.ensures.items in
    none_changed c.put_back.new.olds.items r.settled (length c.put_back.new.rows.items) c.put_back.ensures.olds (sym (ap length held ∙ length_held r.settled r.rows.items r.olds.items r.within))
