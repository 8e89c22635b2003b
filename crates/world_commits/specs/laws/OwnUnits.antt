-- The units of a log that a unit of the program's own follows.
use Rattle.std.proofs.Common.{◌≡◌, ℕ, ◌+◌, ◌⊎◌, Bool, true, false, cond, not, ◌&&◌, ◌||◌, List, [], ◌∷◌, ◌++◌, length, map, Option, inl, inr, refl, sym, ap, ◌∙◌, arith, append-nil, append_assoc, IsTrue, ◌==◌, filter}
use Rattle.std.specs.List.{list_any}
use Rattle.std.proofs.lemmas.Bool.{and_parts, or_left, or_right, false≢true, lt-ltb, eq-eqb}
use Rattle.std.proofs.lemmas.List.{length-append, map-append}
use Rattle.std.proofs.lemmas.List.Elements.{filter-append}
use Rattle.std.proofs.lemmas.List.Folds.{list_any-append}
use Rattle.repl_model.specs.Words.{filter_all, Change, LogRecord, SetId, Placed, Unit, open_changes, unit_of, units, last_time, unplaced, is_of_tx, is_own_change, is_own_abort, begins_with_tx, own_units_are_whole, is_seq_or_zero, is_seq, open_changes_abort, open_changes_change, open_changes_commit, units_change, units_commit}
use Rattle.repl_types.specs.declared.record.LogRecord.TheVariants as records
use Rattle.world_commits.specs.logs.OwnUnits.{own_records}
use Rattle.world_commits.specs.logs.laws.Units.{is_past, later_units, none_past_end}

-- ---- the program's transaction after a log

-- a transaction has nothing in flight after a record that ends it, nor after one of another if it had nothing before
none_after_end : (b : Bool) (before : List Placed) → (before ≡ []) ⊎ (b ≡ true) → cond b [] before ≡ []
none_after_end true before now = refl
none_after_end false before (inl none) = none
none_after_end false before (inr ends) = absurd (false≢true ends)

-- if the program has nothing in flight, or the next record is one of its transaction, this is so after that record too
next_is_own : (log : List LogRecord) (r : LogRecord) (rest : List LogRecord) → (not (is_own_change r) || begins_with_tx 0 rest) ≡ true → (open_changes 0 log ≡ []) ⊎ (is_of_tx 0 r ≡ true) → (open_changes 0 (log ++ r ∷ []) ≡ []) ⊎ (begins_with_tx 0 rest ≡ true)
next_is_own log (records.Change tx change) rest next now = by_tx (tx == 0) (open_changes_change 0 tx change log) next now
  where
    by_tx : (b : Bool) → open_changes 0 (log ++ records.Change tx change ∷ []) ≡ cond b (open_changes 0 log ++ record { pos = length log + 1; change = change } ∷ []) (open_changes 0 log) → (not b || begins_with_tx 0 rest) ≡ true → (open_changes 0 log ≡ []) ⊎ (b ≡ true) → (open_changes 0 (log ++ records.Change tx change ∷ []) ≡ []) ⊎ (begins_with_tx 0 rest ≡ true)
    by_tx true is next now = inr next
    by_tx false is next (inl none) = inl (is ∙ none)
    by_tx false is next (inr own) = absurd (false≢true own)
next_is_own log (records.Commit tx time authid origin) rest next now = inl (open_changes_commit 0 tx time authid origin log ∙ none_after_end (tx == 0) (open_changes 0 log) now)
next_is_own log (records.Abort tx) rest next now = inl (open_changes_abort 0 tx log ∙ none_after_end (tx == 0) (open_changes 0 log) now)

-- the program has nothing in flight after further records that have its units whole
none_after : (log rest : List LogRecord) → own_units_are_whole rest ≡ true → (open_changes 0 log ≡ []) ⊎ (begins_with_tx 0 rest ≡ true) → open_changes 0 (log ++ rest) ≡ []
none_after log [] whole (inl none) = ap (open_changes 0) (append-nil log) ∙ none
none_after log [] whole (inr begins) = absurd (false≢true begins)
none_after log (r ∷ rest) whole now =
    let both = and_parts (not (is_own_abort r) && (not (is_own_change r) || begins_with_tx 0 rest)) (own_units_are_whole rest) whole in
    let next = and_parts (not (is_own_abort r)) (not (is_own_change r) || begins_with_tx 0 rest) both.0 in
    ap (open_changes 0) (sym (append_assoc log (r ∷ []) rest))
    ∙ none_after (log ++ r ∷ []) rest both.1 (next_is_own log r rest next.1 now)

-- the program has nothing in flight after a log that has its units whole
pub none_in_flight : (log : List LogRecord) → own_units_are_whole log ≡ true → open_changes 0 log ≡ []
none_in_flight log whole = none_after [] log whole (inl refl)

-- ---- changes of the program

-- the program's records of some changes
abbrev pub change_records : List Change → List LogRecord
change_records changes = map (λ change. records.Change 0 change) changes

-- they add no unit
changes_add_none : (log : List LogRecord) (changes : List Change) → units (log ++ change_records changes) ≡ units log
changes_add_none log [] = ap units (append-nil log)
changes_add_none log (change ∷ changes) =
    let r = records.Change 0 change in
    ap units (sym (append_assoc log (r ∷ []) (change_records changes)))
    ∙ changes_add_none (log ++ r ∷ []) changes
    ∙ units_change 0 change log

-- and the changes are then in flight, after what was
changes_in_flight : (log : List LogRecord) (changes : List Change) → unplaced (open_changes 0 (log ++ change_records changes)) ≡ unplaced (open_changes 0 log) ++ changes
changes_in_flight log [] = ap (λ (l : List LogRecord). unplaced (open_changes 0 l)) (append-nil log) ∙ sym (append-nil (unplaced (open_changes 0 log)))
changes_in_flight log (change ∷ changes) =
    let r = records.Change 0 change in
    ap (λ (l : List LogRecord). unplaced (open_changes 0 l)) (sym (append_assoc log (r ∷ []) (change_records changes)))
    ∙ changes_in_flight (log ++ r ∷ []) changes
    ∙ ap (λ (before : List Change). before ++ changes) (ap unplaced (open_changes_change 0 0 change log) ∙ map-append (λ (placed : Placed). placed.change) (open_changes 0 log) (record { pos = length log + 1; change = change } ∷ []))
    ∙ append_assoc (unplaced (open_changes 0 log)) (change ∷ []) changes

-- ---- the unit

module _ (changes : List Change) (authid : List ℕ) (origin : Option SetId) (log : List LogRecord) where
  -- the log with the changes
  abbrev with_changes : List LogRecord
  with_changes = log ++ change_records changes

  -- the unit
  abbrev pub own_unit : Unit
  own_unit = unit_of (length with_changes + 1) (last_time (units log)) authid origin (open_changes 0 with_changes)

  -- its commit
  abbrev pub own_commit : LogRecord
  own_commit = records.Commit 0 (last_time (units log)) authid origin

  -- the log with the unit has the changes, and then the commit
  own_log : log ++ own_records changes authid origin log ≡ with_changes ++ own_commit ∷ []
  own_log = sym (append_assoc log (change_records changes) (own_commit ∷ []))

  -- its units are those of the log, and the unit
  pub own_units : units (log ++ own_records changes authid origin log) ≡ units log ++ own_unit ∷ []
  own_units =
      ap units own_log
      ∙ units_commit 0 (last_time (units log)) authid origin with_changes
      ∙ ap (λ (us : List Unit). us ++ own_unit ∷ []) (changes_add_none log changes)

  -- the unit has the changes, and no other
  pub own_changes : own_units_are_whole log ≡ true → unplaced own_unit.changes ≡ changes
  own_changes whole = changes_in_flight log changes ∙ ap (λ (before : List Placed). unplaced before ++ changes) (none_in_flight log whole)

  -- it is the only unit after the log
  pub own_comes : later_units log (own_records changes authid origin log) ≡ own_unit ∷ []
  own_comes =
      ap (filter (is_past (length log))) own_units
      ∙ filter-append (is_past (length log)) (units log) (own_unit ∷ [])
      ∙ ap (λ (us : List Unit). us ++ filter (is_past (length log)) (own_unit ∷ [])) (none_past_end log)
      ∙ filter_all (is_past (length log)) (own_unit ∷ []) (lt-ltb (length log) own_unit.head.seq (omega (arith, length-append log (change_records changes))), tt)

  -- the end of the longer log is the seq of a unit
  pub own_is_seq : IsTrue (is_seq_or_zero (log ++ own_records changes authid origin log) (length (log ++ own_records changes authid origin log)))
  own_is_seq =
      or_right (last == 0) (is_seq (log ++ own_records changes authid origin log) last)
      (ap (list_any ends_here) own_units
      ∙ list_any-append ends_here (units log) (own_unit ∷ [])
      ∙ or_right (list_any ends_here (units log)) (list_any ends_here (own_unit ∷ [])) (or_left (ends_here own_unit) false (eq-eqb own_unit.head.seq last at_last)))
    where
      last : ℕ
      last = length (log ++ own_records changes authid origin log)

      ends_here : Unit → Bool
      ends_here u = u.head.seq == last

      at_last : own_unit.head.seq ≡ last
      at_last = sym (ap (λ (l : List LogRecord). length l) own_log ∙ length-append with_changes (own_commit ∷ []))
