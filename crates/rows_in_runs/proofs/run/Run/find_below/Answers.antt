use Rattle.std.proofs.Common.{sym, ◌∙◌, arith}
use Rattle.std.proofs.lemmas.Slice.Eq.{bytes_eq-Decides}
use Rattle.rows_in_runs.specs.Rows.{rows_of}
use Rattle.rows_in_runs.specs.laws.Found.{clash}
use Rattle.rows_in_runs.specs.laws.Keys.{length_keys}
use Rattle.rows_in_runs.proofs.Search.{not_there}
use Rattle.rows_in_runs.proofs.run.Run.find_below.Goals.{else-above-gt0-via-then-above-gt0+else-eq, else-above-gt0-via-else-above-gt0}
use Rattle.rows_in_runs.proofs.run.Run.find_below.Goals as goal

pub returns-then-eq-clause-spot : goal.returns-then-eq-clause-spot
returns-then-eq-clause-spot c = (
  omega (arith, c.above-above.ensures.within, length_keys c.args.self.now.bytes.items c.args.self.now.rows.items),
  sym c.key.ensures.key ∙ (bytes_eq-Decides c.key.result.now c.args.key.now).0 (sym c.eq.ensures ∙ c.if-eq.true),
)

pub returns-else-above-gt0-clause-spot : goal.returns-else-above-gt0-clause-spot
returns-else-above-gt0-clause-spot c =
    let r = c.args.self.now in
    not_there (rows_of r.bytes.items r.rows.items) c.args.key.now c.above-above.result r.rising c.above-above.ensures (λ some is. elim c.else-above-gt0.branch [
      | else-above-gt0-via-then-above-gt0+else-eq w ↦ clash ((bytes_eq-Decides w.key.result.now c.args.key.now).1 (w.key.ensures.key ∙ is)) (sym w.eq.ensures ∙ w.if-eq.false)
      | else-above-gt0-via-else-above-gt0 w ↦ absurd (omega (arith, some, w.if-above-gt0.false))
    ])
