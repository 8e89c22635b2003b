-- What further records do to the units of a log.
use Rattle.std.proofs.Common.{◌≡◌, ℕ, ◌+◌, ◌≤◌, ◌<◌, false, List, [], ◌++◌, length, Bool, nat_lt, filter, le-ltb}
use Rattle.repl_model.specs.Words.{all_weaker, filter_none, LogRecord, Unit, units, seqs_within}

-- the unit stands after a position
abbrev pub is_past : ℕ → Unit → Bool
is_past n u = nat_lt n u.head.seq

-- the units of a longer log after the log
abbrev pub later_units : List LogRecord → List LogRecord → List Unit
later_units log more = filter (is_past (length log)) (units (log ++ more))

-- no unit of a log stands after it
pub none_past_end : (log : List LogRecord) → filter (is_past (length log)) (units log) ≡ []
none_past_end log = filter_none (is_past (length log)) (units log)
    (all_weaker (λ (u : Unit). (0 < u.head.seq) × (u.head.seq ≤ length log)) (λ u. is_past (length log) u ≡ false) (units log) (λ u h. le-ltb (length log) u.head.seq h.1) (seqs_within log))

-- ---- all units of a longer log
