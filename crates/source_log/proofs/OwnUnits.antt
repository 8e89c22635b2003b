-- The program writes its own units whole, so none of its changes is in flight at the end of a log: proofs.
use Rattle.std.proofs.Common.{◌≡◌, ℕ, ◌+◌, ◌<◌, ◌≤◌, Bool, true, false, cond, not, ◌&&◌, ◌||◌, List, [], ◌∷◌, length, Some, None, inl, inr, refl, sym, ap, subst, ◌∙◌, arith, ◌==◌, nat_lt, fold, filter}
use Rattle.std.specs.List.{enumerate_from}
use Rattle.std.proofs.lemmas.Bool.{false≢true, and_from, and_parts, both_ways, eqb-true, lt-ltb, ltb-true, not-true}
use Rattle.std.proofs.lemmas.Option.{none-some, same_Some}
use Rattle.repl_model.specs.Words.{Change, LogRecord, Placed, is_of_tx, is_own_change, is_own_abort, begins_with_tx, own_units_are_whole, At, positions, ends, last_end, change_of, open_changes, In, in_filter, in_filter_map}
use Rattle.repl_types.specs.declared.record.LogRecord.TheVariants as records

-- ---- the last end of the program's transaction

-- the last end before a position so far, after one more record
abbrev step : ℕ → ℕ → At → ℕ
step before last r = cond (ends 0 r.1 && nat_lt r.0 before) r.0 last

-- the last end after records that are numbered from here on
abbrev end_from : ℕ → ℕ → ℕ → List LogRecord → ℕ
end_from before last b log = fold (step before) last (enumerate_from b log)

-- it doesn't fall
never_falls : (before last b : ℕ) (log : List LogRecord) → last ≤ b → last ≤ end_from before last b log
never_falls before last b [] le = omega arith
never_falls before last b (r ∷ log) le = pick (ends 0 r && nat_lt b before) (never_falls before b (b + 1) log (omega arith)) (never_falls before last (b + 1) log (omega arith))
  where
    pick : (t : Bool) → b ≤ end_from before b (b + 1) log → last ≤ end_from before last (b + 1) log → last ≤ end_from before (cond t b last) (b + 1) log
    pick true here there = omega (arith, le, here)
    pick false here there = there

-- ---- whole units

-- what is known of a first record, and of those after it
record WholeParts (r : LogRecord) (log : List LogRecord) : Type 0 where
  pub kept : is_own_abort r ≡ false
  pub next : is_own_change r ≡ true → begins_with_tx 0 log ≡ true
  pub rest : own_units_are_whole log ≡ true

parts_of : (r : LogRecord) (log : List LogRecord) → own_units_are_whole (r ∷ log) ≡ true → WholeParts r log
parts_of r log whole =
    let outer = and_parts (not (is_own_abort r) && (not (is_own_change r) || begins_with_tx 0 log)) (own_units_are_whole log) whole in
    let inner = and_parts (not (is_own_abort r)) (not (is_own_change r) || begins_with_tx 0 log) outer.0 in
    record {
      kept = not-true (is_own_abort r) inner.0;
      next = λ own. sym (ap (λ (t : Bool). not t || begins_with_tx 0 log) own) ∙ inner.1;
      rest = outer.1;
    }

-- a change of the program is before the last end of its transaction
ended : (before last b : ℕ) (r : LogRecord) (log : List LogRecord) → is_own_change r ≡ true → own_units_are_whole (r ∷ log) ≡ true → b + length (r ∷ log) ≤ before → b < end_from before last b (r ∷ log)
ended before last b r [] own whole few = absurd (false≢true ((parts_of r [] whole).next own))
ended before last b r (q ∷ log) own whole few = by_next q (parts.next own) parts.rest (omega (arith, few)) (ended before now (b + 1) q log)
  where
    parts : WholeParts r (q ∷ log)
    parts = parts_of r (q ∷ log) whole

    now : ℕ
    now = step before last (b, r)

    by_next : (q : LogRecord) → is_of_tx 0 q ≡ true → own_units_are_whole (q ∷ log) ≡ true → b + 1 + length (q ∷ log) ≤ before
        → (is_own_change q ≡ true → own_units_are_whole (q ∷ log) ≡ true → b + 1 + length (q ∷ log) ≤ before → b + 1 < end_from before now (b + 1) (q ∷ log)) → b < end_from before now (b + 1) (q ∷ log)
    by_next (records.Change t change) is left less later = omega (arith, later is left less)
    by_next (records.Commit t time authid origin) is left less later =
        let ending : (t == 0 && nat_lt (b + 1) before) ≡ true = and_from (t == 0) (nat_lt (b + 1) before) is (lt-ltb (b + 1) before (omega (arith, less))) in
        let stays : b + 1 ≤ end_from before (b + 1) (b + 1 + 1) log = never_falls before (b + 1) (b + 1 + 1) log (omega arith) in
        subst (λ (t : Bool). b < end_from before (cond t (b + 1) now) (b + 1 + 1) log) (sym ending) (omega (arith, stays))
    by_next (records.Abort t) is left less later = absurd (both_ways (t == 0) (parts_of (records.Abort t) log left).kept is)

-- so is each of them
all_ended : (before last b : ℕ) (log : List LogRecord) → own_units_are_whole log ≡ true → b + length log ≤ before
    → (pos : ℕ) (change : Change) → In (pos, records.Change 0 change) (enumerate_from b log) → pos < end_from before last b log
all_ended before last b [] whole few pos change i = absurd i
all_ended before last b (r ∷ log) whole few pos change (inl is) =
    let own : is_own_change r ≡ true = sym (ap (λ (q : At). is_own_change q.1) is) in
    subst (λ (n : ℕ). n < end_from before last b (r ∷ log)) (sym (ap (λ (q : At). q.0) is)) (ended before last b r log own whole few)
all_ended before last b (r ∷ log) whole few pos change (inr i) = all_ended before (step before last (b, r)) (b + 1) log (parts_of r log whole).rest (omega arith) pos change i

-- ---- open changes

-- a change of a transaction stands where it is found
change_is : (tx : ℕ) (q : At) (placed : Placed) → change_of tx q ≡ Some placed → q ≡ (placed.pos, records.Change tx placed.change)
change_is tx (pos, records.Change t change) placed e = pick (t == tx) refl e
  where
    pick : (b : Bool) → (t == tx) ≡ b → cond b (Some (record { pos = pos; change = change })) None ≡ Some placed
        → ◌≡◌ {A = At} (pos, records.Change t change) (placed.pos, records.Change tx placed.change)
    pick true same is =
        let own : t ≡ tx = eqb-true t tx same in
        let found : record { pos = pos; change = change } ≡ placed = same_Some (record { pos = pos; change = change }) placed is in
        λ i. ((found i).pos, records.Change (own i) (found i).change)
    pick false same is = absurd (none-some placed is)
change_is tx (pos, records.Commit t time authid origin) placed e = absurd (none-some placed e)
change_is tx (pos, records.Abort t) placed e = absurd (none-some placed e)

-- An open change is in the log, after the last end of its transaction.
pub record OpenInLog (tx : ℕ) (log : List LogRecord) (placed : Placed) : Type 0 where
  pub logged : In (placed.pos, records.Change tx placed.change) (positions log)
  pub after : last_end tx (length log + 1) log < placed.pos

-- each of them is
pub open_in_log : (tx : ℕ) (log : List LogRecord) (placed : Placed) → In placed (open_changes tx log) → OpenInLog tx log placed
open_in_log tx log placed i =
    let n = length log + 1 in
    let within : At → Bool = λ r. nat_lt (last_end tx n log) r.0 && nat_lt r.0 n in
    let given = in_filter_map (change_of tx) (filter within (positions log)) placed i in
    let kept = in_filter within (positions log) given.0 given.1 in
    let is : given.0 ≡ (placed.pos, records.Change tx placed.change) = change_is tx given.0 placed given.2 in
    let after : last_end tx n log < given.0.0 = ltb-true (last_end tx n log) given.0.0 (and_parts (nat_lt (last_end tx n log) given.0.0) (nat_lt given.0.0 n) kept.1).0 in
    record {
      logged = subst (λ (q : At). In q (positions log)) is kept.0;
      after = subst (λ (q : At). last_end tx n log < q.0) is after;
    }

-- no open change is the program's
pub none_open : (log : List LogRecord) → own_units_are_whole log ≡ true → (placed : Placed) → In placed (open_changes 0 log) → ⊥
none_open log whole placed i =
    let o = open_in_log 0 log placed i in
    let before : placed.pos < last_end 0 (length log + 1) log = all_ended (length log + 1) 0 1 log whole (omega arith) placed.pos placed.change o.logged in
    omega (arith, before, o.after)
