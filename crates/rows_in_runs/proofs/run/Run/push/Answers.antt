use Rattle.std.proofs.Common.{List, ℕ, sym, ap, subst, ◌∙◌, arith}
use Rattle.std.specs.Prelude.{Option, Some}
use Rattle.std.specs.Map.{lookup, keys_of}
use Rattle.keep_core.specs.Contents.{same_key}
use Rattle.rows_in_runs.specs.declared.row.RunRow.{RunRow}
use Rattle.rows_in_runs.specs.Rows.{rows_of, keys_in, IsRising}
use Rattle.rows_in_runs.specs.laws.Found.{found_pushed, rising_pushed}
use Rattle.rows_in_runs.proofs.Stored.{olds_fit}
use Rattle.rows_in_runs.proofs.Kept.{on_err, rising_stays, found_stays, held_stays, held_pushed, no_fewer}
use Rattle.rows_in_runs.proofs.run.Run.push.Goals as goal

pub invariant_of-self : goal.invariant_of-self
invariant_of-self c =
    let r = c.args.self.now in
    let bytes = c.push_row.new.bytes.items in
    let done = c.in_err-push_row.ensures in
    record {
      rows_fit = done.fit;
      olds_fit = olds_fit r.bytes.items bytes done.more r.olds.items r.olds_fit;
      rising = subst (λ (rows : List RunRow). IsRising (keys_in bytes rows)) (sym done.err) (rising_stays r.bytes.items bytes done.more r.rows.items r.rows_fit r.rising);
      within = omega (arith, r.within, no_fewer r.rows.items c.push_row.new.rows.items done.front);
    }

pub returns-in_err-push_row-clause-err : goal.returns-in_err-push_row-clause-err
returns-in_err-push_row-clause-err c =
    let r = c.args.self.now in
    let done = c.in_err-push_row.ensures in
    on_err c.from_residual.result _ (λ k.
    ap (λ (rows : List RunRow). lookup (same_key k) (rows_of c.push_row.new.bytes.items rows)) done.err
    ∙ found_stays r.bytes.items c.push_row.new.bytes.items done.more r.rows.items r.rows_fit k)

pub returns-in_err-push_row-clause-held : goal.returns-in_err-push_row-clause-held
returns-in_err-push_row-clause-held c =
    let r = c.args.self.now in
    let done = c.in_err-push_row.ensures in
    λ k. held_stays r.bytes.items c.push_row.new.bytes.items done.more r.rows.items r.rows_fit r.settled r.olds.items r.olds_fit _ (held_pushed r.settled r.rows.items c.push_row.new.rows.items r.olds.items r.within done.front) k

pub invariant_of-self-2 : goal.invariant_of-self-2
invariant_of-self-2 c =
    let r = c.args.self.now in
    let bytes = c.push_row.new.bytes.items in
    let done = c.in_ok-push_row.ensures in
    record {
      rows_fit = done.fit;
      olds_fit = olds_fit r.bytes.items bytes done.more r.olds.items r.olds_fit;
      rising = subst (λ (es : List (List ℕ × Option (List ℕ))). IsRising (keys_of es)) (sym done.ok) (rising_pushed (rows_of r.bytes.items r.rows.items) (c.args.key.now, Some c.args.value.now) r.rising c.requires.above);
      within = omega (arith, r.within, no_fewer r.rows.items c.push_row.new.rows.items done.front);
    }

pub returns-clause-ok : goal.returns-clause-ok
returns-clause-ok c =
    let r = c.args.self.now in
    λ k. ap (lookup (same_key k)) c.in_ok-push_row.ensures.ok
    ∙ found_pushed (rows_of r.bytes.items r.rows.items) c.args.key.now (Some c.args.value.now) k c.requires.above

pub returns-clause-held : goal.returns-clause-held
returns-clause-held c =
    let r = c.args.self.now in
    let done = c.in_ok-push_row.ensures in
    λ k. held_stays r.bytes.items c.push_row.new.bytes.items done.more r.rows.items r.rows_fit r.settled r.olds.items r.olds_fit _ (held_pushed r.settled r.rows.items c.push_row.new.rows.items r.olds.items r.within done.front) k
