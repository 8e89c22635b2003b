-- Logs made longer by further records: their units are those of the log, and later ones.
use Rattle.std.proofs.Common.{◌≡◌, ℕ, ◌+◌, ◌≤◌, ◌<◌, Bool, true, false, ◌&&◌, ◌||◌, List, [], ◌∷◌, ◌++◌, length, inl, inr, refl, sym, ap, subst, ◌∙◌, arith, append-nil, ◌==◌, nat_lt, nat_le, filter, length-append}
use Rattle.std.specs.List.{AllByRecursion, list_all, list_any, fold}
use Rattle.std.proofs.lemmas.Bool.{and_from, or_left, or_cases, le-leb, ltb-true, eqb-true}
use Rattle.std.proofs.lemmas.List.Elements.{filter-append}
use Rattle.std.proofs.lemmas.List.Folds.{list_all-append, list_any-append}
use Rattle.repl_types.specs.laws.Lists.{all_weaker, filter_alike, filter_all, filter_none}
use Rattle.repl_types.specs.declared.record.LogRecord.{LogRecord}
use Rattle.repl_types.specs.declared.unit.Unit.{Unit}
use Rattle.repl_model.specs.Units.{units, last_commit}
use Rattle.repl_model.specs.SourceAt.{units_up_to, units_between}
use Rattle.repl_model.specs.Sound.{is_seq, is_seq_or_zero}
use Rattle.repl_model.specs.laws.Units.{seqs_within, seqs_to_last, units_split}
use Rattle.repl_model.specs.laws.Longer.{units_up_to_stay_longer}
use Rattle.repl_model.specs.laws.LongerLists.{all_kept, all_first}

-- the units of a longer log after the log
abbrev pub later_units : List LogRecord → List LogRecord → List Unit
later_units log more = filter (λ u. nat_lt (length log) u.head.seq) (units (log ++ more))

-- up to the end of a log there are all its units
units_to_end : (log : List LogRecord) (n : ℕ) → length log ≤ n → units_up_to n log ≡ units log
units_to_end log n h = filter_all {X = Unit} (λ u. nat_le u.head.seq n) (units log)
    (all_weaker {X = Unit} (λ u. (0 < u.head.seq) × (u.head.seq ≤ length log)) (λ u. nat_le u.head.seq n ≡ true) (units log) (λ u within. le-leb u.head.seq n (omega arith)) (seqs_within log))

-- the units of a longer log are those of the log, and later ones
pub units_longer : (log more : List LogRecord) → units (log ++ more) ≡ units log ++ later_units log more
units_longer log more =
    let longer = log ++ more in
    let n = length log + length more in
    let end : length longer ≡ n = length-append log more in
    sym (units_to_end longer n (omega (arith, end)))
    ∙ units_split (length log) n longer (omega arith)
    ∙ ap (λ (us : List Unit). us ++ units_between (length log) n longer) (units_up_to_stay_longer log more (length log) (omega arith) ∙ units_to_end log (length log) (omega arith))
    ∙ ap (λ (us : List Unit). units log ++ us) (filter_alike {X = Unit} (λ u. nat_lt (length log) u.head.seq && nat_le u.head.seq n) (λ u. nat_lt (length log) u.head.seq) (units longer)
    (all_weaker {X = Unit} (λ u. (0 < u.head.seq) × (u.head.seq ≤ length longer)) (λ u. (nat_lt (length log) u.head.seq && nat_le u.head.seq n) ≡ nat_lt (length log) u.head.seq) (units longer)
    (λ u within. with_true (nat_lt (length log) u.head.seq) (nat_le u.head.seq n) (le-leb u.head.seq n (omega (arith, end)))) (seqs_within longer)))
  where
    with_true : (a b : Bool) → b ≡ true → (a && b) ≡ a
    with_true true b e = e
    with_true false b e = refl

-- later units stand after the log
pub later_seqs : (log more : List LogRecord) → AllByRecursion (λ u. length log < u.head.seq) (later_units log more)
later_seqs log more = all_weaker {X = Unit} (λ u. nat_lt (length log) u.head.seq ≡ true) (λ u. length log < u.head.seq) (later_units log more) (λ u e. ltb-true (length log) u.head.seq e) (all_kept (λ (u : Unit). nat_lt (length log) u.head.seq) (units (log ++ more)))

-- a filter that keeps no later unit keeps what it kept
pub kept_stay_longer : (p : Unit → Bool) (log more : List LogRecord) → AllByRecursion (λ u. p u ≡ false) (later_units log more) → filter p (units (log ++ more)) ≡ filter p (units log)
kept_stay_longer p log more none =
    ap (filter p) (units_longer log more)
    ∙ filter-append p (units log) (later_units log more)
    ∙ ap (λ (us : List Unit). filter p (units log) ++ us) (filter_none p (later_units log more) none)
    ∙ append-nil (filter p (units log))

-- a test that all units and all later ones pass, all units of the longer log pass
pub all_longer : (p : Unit → Bool) (log more : List LogRecord) → list_all p (units log) ≡ true → list_all p (later_units log more) ≡ true → list_all p (units (log ++ more)) ≡ true
all_longer p log more here later = ap (list_all p) (units_longer log more) ∙ list_all-append p (units log) (later_units log more) ∙ and_from (list_all p (units log)) (list_all p (later_units log more)) here later

-- ---- seqs

-- the seq of a unit is one in a longer log
pub is_seq_longer : (log more : List LogRecord) (point : ℕ) → is_seq log point ≡ true → is_seq (log ++ more) point ≡ true
is_seq_longer log more point h =
    let here = λ (u : Unit). u.head.seq == point in
    ap (list_any here) (units_longer log more) ∙ list_any-append here (units log) (later_units log more) ∙ or_left (list_any here (units log)) (list_any here (later_units log more)) h

-- the seq of a unit or 0 is one in a longer log
pub is_seq_or_zero_longer : (log more : List LogRecord) (point : ℕ) → is_seq_or_zero log point ≡ true → is_seq_or_zero (log ++ more) point ≡ true
is_seq_or_zero_longer log more point h = by_zero (point == 0) h
  where
    by_zero : (b : Bool) → (b || is_seq log point) ≡ true → (b || is_seq (log ++ more) point) ≡ true
    by_zero true e = refl
    by_zero false e = is_seq_longer log more point e

-- what is at least each of some units' seqs, and the one before, is at least the last
last_at_most : (n last : ℕ) (us : List Unit) → last ≤ n → AllByRecursion (λ u. u.head.seq ≤ n) us → fold (λ last u. u.head.seq) last us ≤ n
last_at_most n last [] h all = h
last_at_most n last (u ∷ us) h all = last_at_most n u.head.seq us all.0 all.1

-- the last commit is a position of the log
pub last_commit_within : (log : List LogRecord) → last_commit log ≤ length log
last_commit_within log = last_at_most (length log) 0 (units log) (omega arith) (all_weaker {X = Unit} (λ u. (0 < u.head.seq) × (u.head.seq ≤ length log)) (λ u. u.head.seq ≤ length log) (units log) (λ u h. h.1) (seqs_within log))

-- the last commit of a longer log is no earlier
pub last_commit_longer : (log more : List LogRecord) → last_commit log ≤ last_commit (log ++ more)
last_commit_longer log more =
    let low = λ (u : Unit). u.head.seq ≤ last_commit (log ++ more) in
    last_at_most (last_commit (log ++ more)) 0 (units log) (omega arith) (all_first low (units log) (later_units log more) (subst (AllByRecursion low) (units_longer log more) (seqs_to_last (log ++ more))))

-- the seq of a unit is a position of the log
pub is_seq_within : (log : List LogRecord) (point : ℕ) → is_seq log point ≡ true → point ≤ length log
is_seq_within log point h = among (units log) (seqs_within log) h
  where
    among : (us : List Unit) → AllByRecursion (λ u. (0 < u.head.seq) × (u.head.seq ≤ length log)) us → list_any (λ u. u.head.seq == point) us ≡ true → point ≤ length log
    among [] all e = absurd cc
    among (u ∷ us) all e = elim (or_cases (u.head.seq == point) (list_any (λ u. u.head.seq == point) us) e) [
      | inl here ↦ omega (arith, eqb-true u.head.seq point here, all.0.1)
      | inr later ↦ among us all.1 later
    ]

-- the seq of a unit or 0 is at most the log's length
pub is_seq_or_zero_within : (log : List LogRecord) (point : ℕ) → is_seq_or_zero log point ≡ true → point ≤ length log
is_seq_or_zero_within log point h = elim (or_cases (point == 0) (is_seq log point) h) [
  | inl zero ↦ omega (arith, eqb-true point 0 zero)
  | inr seq ↦ is_seq_within log point seq
]
