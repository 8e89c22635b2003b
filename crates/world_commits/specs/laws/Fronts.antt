-- A log that is read in part: the records up to a position, and the next one.
use Rattle.std.proofs.Common.{◌≡◌, ℕ, ◌+◌, ◌<◌, ◌≤◌, List, [], ◌∷◌, ◌++◌, length, take, drop, Some, sym, ap, ◌∙◌, arith, slice_get}
use Rattle.std.specs.List.{AllByRecursion}
use Rattle.std.proofs.lemmas.List.{length-take-le, take-append-drop, take-take, take_more}
use Rattle.std.proofs.lemmas.Option.{slice_get_within, get_or_from_slice_get}
use Rattle.repl_model.specs.Words.{all_weaker, LogRecord, At, positions, enumerate_within}

-- before the record at a place stand as many records as the place says
pub length_read : (log : List LogRecord) (read : ℕ) (r : LogRecord) → slice_get log read ≡ Some r → length (take read log) ≡ read
length_read log read r e =
    let within : read < length log = slice_get_within log read r e in
    length-take-le read log (omega arith)

-- with the next record they are those that were read, and that one
pub take_next : (log : List LogRecord) (read : ℕ) (r : LogRecord) → slice_get log read ≡ Some r → take (read + 1) log ≡ take read log ++ r ∷ []
take_next log read r e =
    take_more log read r (slice_get_within log read r e)
    ∙ ap (λ (x : LogRecord). take read log ++ x ∷ []) (get_or_from_slice_get log read r r e)

-- the log is what was read, the next record, and the others
pub next_and_others : (log : List LogRecord) (read : ℕ) (r : LogRecord) → slice_get log read ≡ Some r → (take read log ++ r ∷ []) ++ drop (read + 1) log ≡ log
next_and_others log read r e =
    ap (λ (l : List LogRecord). l ++ drop (read + 1) log) (sym (take_next log read r e))
    ∙ take-append-drop (read + 1) log

-- what is read begins with the records up to an earlier point
pub front_and_others : (log : List LogRecord) (point read : ℕ) → point ≤ read → take point log ++ drop point (take read log) ≡ take read log
front_and_others log point read h =
    ap (λ (l : List LogRecord). l ++ drop point (take read log)) (sym (take-take point read log h))
    ∙ take-append-drop point (take read log)

-- ---- positions

-- a position of a log is at most its length
pub positions_to_end : (log : List LogRecord) → AllByRecursion (λ (q : At). q.0 ≤ length log) (positions log)
positions_to_end log = all_weaker {X = At} (λ q. (1 ≤ q.0) × (q.0 < 1 + length log)) (λ q. q.0 ≤ length log) (positions log) (λ q h. omega arith) (enumerate_within 1 log)
