-- The units of a log up to a point are the first ones.
use Rattle.std.proofs.Common.{◌≡◌, ℕ, ◌+◌, ◌≤◌, Bool, false, cond, List, [], ◌∷◌, ◌++◌, inl, inr, refl, sym, ap, ◌∙◌, arith, nat_le, filter}
use Rattle.std.specs.List.{AllByRecursion, filter_map, enumerate_from}
use Rattle.std.proofs.lemmas.Bool.{cases_lt, le-leb, lt-leb}
use Rattle.repl_model.specs.Words.{all_weaker, filter_none, LogRecord, Unit, units_up_to, changes_up_to, unit_at, unit_of, units}
use Rattle.repl_types.specs.declared.record.LogRecord.TheVariants as records

module _ (whole : List LogRecord) where
  -- the units that end from a position on
  abbrev units_from : ℕ → List LogRecord → List Unit
  units_from k log = filter_map (unit_at whole) (enumerate_from k log)

  -- units that stand at the next position or after it stand at this one or after it
  later_from : (k : ℕ) (us : List Unit) → AllByRecursion (λ u. k + 1 ≤ u.head.seq) us → AllByRecursion (λ u. k ≤ u.head.seq) us
  later_from k us all = all_weaker (λ (u : Unit). k + 1 ≤ u.head.seq) (λ u. k ≤ u.head.seq) us (λ u h. omega (arith, h)) all

  -- units from a position on stand there or after it
  seqs_from : (k : ℕ) (log : List LogRecord) → AllByRecursion (λ u. k ≤ u.head.seq) (units_from k log)
  seqs_from k [] = tt
  seqs_from k (records.Change tx change ∷ log) = later_from k (units_from (k + 1) log) (seqs_from (k + 1) log)
  seqs_from k (records.Commit tx time authid origin ∷ log) = (omega arith, later_from k (units_from (k + 1) log) (seqs_from (k + 1) log))
  seqs_from k (records.Abort tx ∷ log) = later_from k (units_from (k + 1) log) (seqs_from (k + 1) log)

  -- they are those up to a point, and then others
  first_from : (point k : ℕ) (log : List LogRecord) → (others : List Unit) × (units_from k log ≡ filter (λ u. nat_le u.head.seq point) (units_from k log) ++ others)
  first_from point k [] = ([], refl)
  first_from point k (records.Change tx change ∷ log) = first_from point (k + 1) log
  first_from point k (records.Commit tx time authid origin ∷ log) = elim (cases_lt point k) [
    | inl past ↦ (us, ap (λ (vs : List Unit). vs ++ us) (sym (filter_none within us (all_weaker (λ (u : Unit). k ≤ u.head.seq) (λ u. within u ≡ false) us (λ u h. lt-leb u.head.seq point (omega (arith, past, h))) (seqs_from k (records.Commit tx time authid origin ∷ log))))))
    | inr here ↦ let rest = first_from point (k + 1) log in
        (rest.0, ap (λ (vs : List Unit). u ∷ vs) rest.1 ∙ ap (λ (b : Bool). cond b (u ∷ filter within later) (filter within later) ++ rest.0) (sym (le-leb k point here)))
  ]
    where
      within : Unit → Bool
      within v = nat_le v.head.seq point

      later : List Unit
      later = units_from (k + 1) log

      u : Unit
      u = unit_of k time authid origin (changes_up_to tx k whole)

      us : List Unit
      us = u ∷ later
  first_from point k (records.Abort tx ∷ log) = first_from point (k + 1) log

-- the units of a log are those up to a point, and then others
pub first_units : (point : ℕ) (log : List LogRecord) → (others : List Unit) × (units log ≡ units_up_to point log ++ others)
unfolding units
first_units point log = first_from log point 1 log
