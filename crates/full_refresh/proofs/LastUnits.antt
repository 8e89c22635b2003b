-- The time at the last commit of a log is that of its last unit: proofs.
use Rattle.std.proofs.Common.{◌≡◌, ℕ, ◌+◌, ◌<◌, ◌≤◌, true, List, [], ◌∷◌, ◌++◌, length, sym, ap, subst, ◌∙◌, arith, nat_le, le-leb, append_assoc, append-nil}
use Rattle.std.specs.List.{AllByRecursion}
use Rattle.repl_model.specs.Words.{all_append, all_weaker, filter_all, Change, LogRecord, open_changes, unit_of, units, last_seq, last_time, last_commit, time_at, last_commit_commit, seqs_within, units_abort, units_change, units_commit}
use Rattle.repl_types.specs.declared.record.LogRecord.TheVariants as records
use Rattle.repl_types.specs.declared.unit.Unit.{Unit as LogUnit}

-- what is so of the empty list, and of a list with one more element if it is so of the list, is so of every list
from_end : {X : Type 0} (P : List X → Type 0) → P [] → ((xs : List X) (x : X) → P xs → P (xs ++ x ∷ [])) → (xs : List X) → P xs
from_end {X} P none more xs = go [] xs none
  where
    go : (front back : List X) → P front → P (front ++ back)
    go front [] p = subst P (sym (append-nil front)) p
    go front (x ∷ back) p = subst P (append_assoc front (x ∷ []) back) (go (front ++ x ∷ []) back (more front x p))

-- no unit lies after the last
abbrev AllBefore : List LogUnit → Type 0
AllBefore us = AllByRecursion (λ (u : LogUnit). u.head.seq ≤ last_seq us) us

none_before : AllBefore (units [])
unfolding units
none_before = tt

one_before : (log : List LogRecord) (x : LogRecord) → AllBefore (units log) → AllBefore (units (log ++ x ∷ []))
one_before log (records.Change tx change) all = subst AllBefore (sym (units_change tx change log)) all
one_before log (records.Commit tx time authid origin) all =
    let last = unit_of (length log + 1) time authid origin (open_changes tx log) in
    let end : last_seq (units log ++ last ∷ []) ≡ length log + 1 = ap last_seq (sym (units_commit tx time authid origin log)) ∙ last_commit_commit tx time authid origin log in
    subst AllBefore (sym (units_commit tx time authid origin log)) (subst (λ (n : ℕ). AllByRecursion (λ (u : LogUnit). u.head.seq ≤ n) (units log ++ last ∷ [])) (sym end)
    (all_append (λ (u : LogUnit). u.head.seq ≤ length log + 1) (units log) (last ∷ []) (all_weaker (λ (u : LogUnit). (0 < u.head.seq) × (u.head.seq ≤ length log)) (λ (u : LogUnit). u.head.seq ≤ length log + 1) (units log) (λ u h. omega (arith, h.1)) (seqs_within log)) (omega arith, tt)))
one_before log (records.Abort tx) all = subst AllBefore (sym (units_abort tx log)) all

-- so the time there is that of the last
pub time_is_last : (log : List LogRecord) → time_at log (last_commit log) ≡ last_time (units log)
unfolding time_at
time_is_last log = ap last_time (filter_all (λ (u : LogUnit). nat_le u.head.seq (last_commit log)) (units log)
    (all_weaker (λ (u : LogUnit). u.head.seq ≤ last_commit log) (λ (u : LogUnit). nat_le u.head.seq (last_commit log) ≡ true) (units log) (λ u h. le-leb u.head.seq (last_commit log) h) (from_end (λ (l : List LogRecord). AllBefore (units l)) none_before one_before log)))
