-- Trails of a log lie within it.
use Rattle.std.proofs.Common.{List, [], arith, fold, length, ℕ, ◌*◌, ◌+◌, ◌∷◌, ◌≤◌}
use Rattle.std.proofs.lemmas.Bool.{and_parts}
use Rattle.repl_model.specs.Sound.{GoesOn, is_base, is_seq}
use Rattle.repl_model.specs.Trails.{Trail, base_after, block, load, point_after, refresh, replica_after, settle}
use Rattle.repl_types.specs.declared.record.LogRecord.{LogRecord}
use Rattle.repl_model.specs.laws.LongerUnits.{is_seq_within}

-- Entries of a read-only set that go on from two points lie within the log, and each of them moves one of the points.
pub goes_within : (log : List LogRecord) (point base replica : ℕ) (trail : Trail) → point ≤ length log → base ≤ length log → replica ≤ length log → GoesOn log point base trail → (fold (λ point e. point_after e) point trail ≤ length log) × (fold base_after base trail ≤ length log) × (fold replica_after replica trail ≤ length log) × (length trail + point + base ≤ 2 * length log)
goes_within log point base replica [] p b r goes = (p, b, r, omega arith)
goes_within log point base replica (refresh at q ∷ trail) p b r goes =
    let here = is_seq_within log at (and_parts (is_seq log at) (is_base log q) goes.2).0 in
    let rest = goes_within log at at replica trail here here r goes.3 in
    (rest.0, rest.1, rest.2, omega (arith, rest.3, goes.0, goes.1))
goes_within log point base replica (block low high q ∷ trail) p b r goes =
    let here = is_seq_within log high (and_parts (is_seq log high) (is_base log q) goes.3).0 in
    let rest = goes_within log high base replica trail here b r goes.4 in
    (rest.0, rest.1, rest.2, omega (arith, rest.3, goes.0, goes.1))
goes_within log point base replica (load m f rows ∷ trail) p b r goes = absurd goes
goes_within log point base replica (settle m f rejected applied ∷ trail) p b r goes = absurd goes
