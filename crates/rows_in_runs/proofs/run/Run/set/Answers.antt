use Rattle.std.proofs.Common.{List, ℕ, length, refl, sym, ap, subst, ◌∙◌, arith}
use Rattle.std.specs.List.{All}
use Rattle.std.specs.Map.{lookup}
use Rattle.keep_core.specs.Contents.{same_key}
use Rattle.rows_in_runs.specs.declared.row.RunRow.{RunRow}
use Rattle.rows_in_runs.specs.Rows.{rows_of, keys_in, IsRow, IsRising}
use Rattle.rows_in_runs.specs.laws.Keys.{keys_set}
use Rattle.rows_in_runs.proofs.Stored.{rows_fit, olds_fit}
use Rattle.rows_in_runs.proofs.Changed.{fit_set, length_set}
use Rattle.rows_in_runs.proofs.Kept.{on_err, rising_stays, found_stays, held_stays, found_changed}
use Rattle.rows_in_runs.proofs.run.Run.set.Goals as goal

pub invariant_of-self : goal.invariant_of-self
invariant_of-self c =
    let r = c.args.self.now in
    let bytes = c.store_value.new.bytes.items in
    let more = c.in_err-now.ensures.more in
    record {
      rows_fit = rows_fit r.bytes.items bytes more r.rows.items r.rows_fit;
      olds_fit = olds_fit r.bytes.items bytes more r.olds.items r.olds_fit;
      rising = rising_stays r.bytes.items bytes more r.rows.items r.rows_fit r.rising;
      within = r.within;
    }

pub returns-in_err-now-clause-err : goal.returns-in_err-now-clause-err
returns-in_err-now-clause-err c =
    let r = c.args.self.now in
    on_err c.from_residual.result _ (found_stays r.bytes.items c.store_value.new.bytes.items c.in_err-now.ensures.more r.rows.items r.rows_fit)

pub returns-in_err-now-clause-held : goal.returns-in_err-now-clause-held
returns-in_err-now-clause-held c =
    let r = c.args.self.now in
    λ k. held_stays r.bytes.items c.store_value.new.bytes.items c.in_err-now.ensures.more r.rows.items r.rows_fit r.settled r.olds.items r.olds_fit _ refl k

pub invariant_of-self-in-Break-branch-2 : goal.invariant_of-self-in-Break-branch-2
invariant_of-self-in-Break-branch-2 c =
    let r = c.args.self.now in
    let bytes = c.store_value.new.bytes.items in
    let more = c.in_ok-now.ensures.more in
    let done = c.in_err-change_row.ensures in
    let fit = rows_fit r.bytes.items bytes more r.rows.items r.rows_fit in
    record {
      rows_fit = subst (λ (rows : List RunRow). All (IsRow (length bytes)) rows) (sym done.err) fit;
      olds_fit = done.olds (length bytes) fit (olds_fit r.bytes.items bytes more r.olds.items r.olds_fit);
      rising = subst (λ (rows : List RunRow). IsRising (keys_in bytes rows)) (sym done.err) (rising_stays r.bytes.items bytes more r.rows.items r.rows_fit r.rising);
      within = omega (arith, r.within, ap length done.err);
    }

pub returns-in_err-change_row-clause-err : goal.returns-in_err-change_row-clause-err
returns-in_err-change_row-clause-err c =
    let r = c.args.self.now in
    on_err c.from_residual-in_err-change_row.result _ (λ k.
    ap (λ (rows : List RunRow). lookup (same_key k) (rows_of c.store_value.new.bytes.items rows)) c.in_err-change_row.ensures.err
    ∙ found_stays r.bytes.items c.store_value.new.bytes.items c.in_ok-now.ensures.more r.rows.items r.rows_fit k)

pub returns-in_err-change_row-clause-held : goal.returns-in_err-change_row-clause-held
returns-in_err-change_row-clause-held c =
    let r = c.args.self.now in
    λ k. held_stays r.bytes.items c.store_value.new.bytes.items c.in_ok-now.ensures.more r.rows.items r.rows_fit r.settled r.olds.items r.olds_fit _ c.in_err-change_row.ensures.held k

pub invariant_of-self-2 : goal.invariant_of-self-2
invariant_of-self-2 c =
    let r = c.args.self.now in
    let bytes = c.store_value.new.bytes.items in
    let more = c.in_ok-now.ensures.more in
    let done = c.in_ok-change_row.ensures in
    let fit = rows_fit r.bytes.items bytes more r.rows.items r.rows_fit in
    record {
      rows_fit = subst (λ (rows : List RunRow). All (IsRow (length bytes)) rows) (sym done.ok) (fit_set (length bytes) r.rows.items c.args.at c.in_ok-now.now fit c.in_ok-now.ensures.size);
      olds_fit = done.olds (length bytes) fit (olds_fit r.bytes.items bytes more r.olds.items r.olds_fit);
      rising = subst (λ (keys : List (List ℕ)). IsRising keys) (sym (ap (keys_in bytes) done.ok ∙ keys_set bytes r.rows.items c.args.at c.in_ok-now.now)) (rising_stays r.bytes.items bytes more r.rows.items r.rows_fit r.rising);
      within = omega (arith, r.within, ap length done.ok, length_set r.rows.items c.args.at c.in_ok-now.now);
    }

pub returns-clause-ok : goal.returns-clause-ok
returns-clause-ok c =
    let r = c.args.self.now in
    λ k. found_changed r.bytes.items c.store_value.new.bytes.items c.in_ok-now.ensures.more r.rows.items r.rows_fit c.change_row.new.rows.items c.args.at c.in_ok-now.now _ r.rising c.requires.place c.in_ok-change_row.ensures.ok c.in_ok-now.ensures.ok k

pub returns-clause-held : goal.returns-clause-held
returns-clause-held c =
    let r = c.args.self.now in
    λ k. held_stays r.bytes.items c.store_value.new.bytes.items c.in_ok-now.ensures.more r.rows.items r.rows_fit r.settled r.olds.items r.olds_fit _ c.in_ok-change_row.ensures.held k
