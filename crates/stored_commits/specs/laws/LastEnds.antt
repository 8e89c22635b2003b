-- The last end of a transaction, and which records are changes in flight, after one more record.
use Rattle.std.proofs.Common.{◌≡◌, ℕ, ◌+◌, ◌≤◌, ◌<◌, Bool, true, false, cond, ◌&&◌, not, List, [], ◌∷◌, ◌++◌, length, refl, sym, ap, ◌∙◌, arith, nat_lt, nat_le, fold, length-append}
use Rattle.std.specs.List.{enumerate_from}
use Rattle.std.proofs.lemmas.Bool.{and_right, lt-ltb, le-ltb, le-leb}
use Rattle.std.proofs.lemmas.List.Sums.{fold_push}
use Rattle.repl_model.specs.Words.{Change, LogRecord, At, positions, ends, last_end, is_open_at, positions_push}
use Rattle.repl_types.specs.declared.record.LogRecord.TheVariants as records

-- a log with one more record is one longer
pub length_push : (log : List LogRecord) (r : LogRecord) → length (log ++ r ∷ []) ≡ length log + 1
length_push log r = length-append log (r ∷ []) ∙ omega arith

-- ---- the last end

-- the last end before a position, as a fold takes it
abbrev step : ℕ → ℕ → ℕ → At → ℕ
step tx before last r = cond (ends tx r.1 && nat_lt r.0 before) r.0 last

-- before which position it is looked for doesn't matter if all records are before it
folds_alike : (tx b m l last : ℕ) (log : List LogRecord) → b + length log ≤ m → b + length log ≤ l → fold (step tx m) last (enumerate_from b log) ≡ fold (step tx l) last (enumerate_from b log)
folds_alike tx b m l last [] hm hl = refl
folds_alike tx b m l last (r ∷ log) hm hl =
    folds_alike tx (b + 1) m l (step tx m last (b, r)) log (omega arith) (omega arith)
    ∙ ap (λ (t : Bool). fold (step tx l) (cond (ends tx r && t) b last) (enumerate_from (b + 1) log)) (lt-ltb b m (omega arith) ∙ sym (lt-ltb b l (omega arith)))

-- one more record is the last end if it is one
pub last_end_push : (tx : ℕ) (log : List LogRecord) (r : LogRecord) → last_end tx (length (log ++ r ∷ []) + 1) (log ++ r ∷ []) ≡ cond (ends tx r) (length log + 1) (last_end tx (length log + 1) log)
last_end_push tx log r =
    let n = length log + 1 in
    ap (λ (m : ℕ). fold (step tx (m + 1)) 0 (positions (log ++ r ∷ []))) (length_push log r)
    ∙ ap (fold (step tx (n + 1)) 0) (positions_push log r)
    ∙ fold_push (step tx (n + 1)) 0 (positions log) (n, r)
    ∙ ap (λ (last : ℕ). step tx (n + 1) last (n, r)) (folds_alike tx 1 (n + 1) n 0 log (omega arith) (omega arith))
    ∙ ap (λ (t : Bool). cond t n (last_end tx n log)) (with_true (ends tx r) (nat_lt n (n + 1)) (lt-ltb n (n + 1) (omega arith)))
  where
    with_true : (a b : Bool) → b ≡ true → (a && b) ≡ a
    with_true true b e = e
    with_true false b e = refl

-- the last end before a position is before it
pub end_before : (tx before : ℕ) (log : List LogRecord) → 0 < before → last_end tx before log < before
end_before tx before log some = within (positions log) 0 some
  where
    lower : (last : ℕ) (r : At) (t u : Bool) → nat_lt r.0 before ≡ u → (t && u) ≡ (t && u) → last < before → cond (t && u) r.0 last < before
    lower last r true true e f lt = grind (arith, e)
    lower last r true false e f lt = lt
    lower last r false u e f lt = lt

    within : (ps : List At) (last : ℕ) → last < before → fold (step tx before) last ps < before
    within [] last lt = lt
    within (r ∷ ps) last lt = within ps (step tx before last r) (lower last r (ends tx r.1) (nat_lt r.0 before) refl refl lt)

-- ---- changes in flight

-- whether a record of the log is a change in flight after one more record: it was before, and isn't ended
pub open_push : (log : List LogRecord) (r : LogRecord) (pos t : ℕ) (change : Change) → pos < length log + 1
    → is_open_at (log ++ r ∷ []) (length (log ++ r ∷ [])) (pos, records.Change t change) ≡ (is_open_at log (length log) (pos, records.Change t change) && not (ends t r))
open_push log r pos t change lt =
    let n = length log in
    ap (λ (m : ℕ). nat_le pos m && nat_lt (last_end t (length (log ++ r ∷ []) + 1) (log ++ r ∷ [])) pos) (length_push log r)
    ∙ ap (λ (last : ℕ). nat_le pos (n + 1) && nat_lt last pos) (last_end_push t log r)
    ∙ ap (λ (b : Bool). b && nat_lt (cond (ends t r) (n + 1) (last_end t (n + 1) log)) pos) (le-leb pos (n + 1) (omega arith) ∙ sym (le-leb pos n (omega arith)))
    ∙ by_end (ends t r) (nat_le pos n)
  where
    drop_true : (a : Bool) → a ≡ (a && true)
    drop_true true = refl
    drop_true false = refl

    never : (a : Bool) → false ≡ (a && false)
    never true = refl
    never false = refl

    by_end : (e low : Bool) → (low && nat_lt (cond e (length log + 1) (last_end t (length log + 1) log)) pos) ≡ ((low && nat_lt (last_end t (length log + 1) log) pos) && not e)
    by_end true low = and_right low (nat_lt (length log + 1) pos) (le-ltb (length log + 1) pos (omega arith)) ∙ never (low && nat_lt (last_end t (length log + 1) log) pos)
    by_end false low = drop_true (low && nat_lt (last_end t (length log + 1) log) pos)

-- a change that is the last record is in flight
pub last_is_open : (log : List LogRecord) (tx : ℕ) (change : Change) → is_open_at (log ++ records.Change tx change ∷ []) (length (log ++ records.Change tx change ∷ [])) (length log + 1, records.Change tx change) ≡ true
last_is_open log tx change =
    let r = records.Change tx change in
    let n = length log + 1 in
    ap (λ (m : ℕ). nat_le n m && nat_lt (last_end tx (length (log ++ r ∷ []) + 1) (log ++ r ∷ [])) n) (length_push log r)
    ∙ ap (λ (last : ℕ). nat_le n n && nat_lt last n) (last_end_push tx log r)
    ∙ ap (λ (b : Bool). b && nat_lt (last_end tx n log) n) (le-leb n n (omega arith))
    ∙ lt-ltb (last_end tx n log) n (end_before tx n log (omega arith))
