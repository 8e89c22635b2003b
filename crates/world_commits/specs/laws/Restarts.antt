-- Where a capture after a point begins, by the changes that are in flight there.
use Rattle.std.proofs.Common.{◌≡◌, ℕ, ◌+◌, ◌<◌, ◌≤◌, Bool, true, false, cond, ◌&&◌, ◌⊎◌, inl, inr, List, [], ◌∷◌, length, take, drop, Option, Some, None, refl, sym, ap, subst, ◌∙◌, arith, ◌==◌, nat_lt, nat_le, filter, find, length-take-le, take-append-drop}
use Rattle.std.specs.Bool.{⊤}
use Rattle.std.specs.List.{AllByRecursion, enumerate_from, filter_map, cons_option}
use Rattle.std.specs.Option.{option_map_or}
use Rattle.std.proofs.lemmas.Bool.{false≢true, eqb-true, eq-eqb, le-leb, lt-ltb}
use Rattle.repl_model.specs.Words.{all_weaker, all_filter, filter_all, LogRecord, Placed, At, positions, last_end, change_of, open_changes, is_open_at, restart_after, at_each, in_filter, restart_stays_longer, enumerate_within}
use Rattle.repl_types.specs.declared.record.LogRecord.TheVariants as records
use Rattle.world_commits.specs.readings.Reading.{RestartIsEarly, RestartsAfter, RestartsAtFirst}
use Rattle.world_commits.specs.laws.Fronts.{front_and_others, positions_to_end}
use Rattle.world_commits.specs.laws.InFlight.{changes_at, from_longer}

-- ---- the records in flight

-- the records of a log that are changes in flight at its end
abbrev open_records : List LogRecord → List At
open_records log = filter (is_open_at log (length log)) (positions log)

-- a function gives the same at what two filters keep, if their tests agree where it gives anything
given_alike : {X Y : Type 0} (f : X → Option Y) (p q : X → Bool) (xs : List X) → AllByRecursion (λ x. (f x ≡ None) ⊎ (p x ≡ q x)) xs → filter_map f (filter p xs) ≡ filter_map f (filter q xs)
given_alike f p q [] all = refl
given_alike {X} {Y} f p q (x ∷ xs) all = by_agreement all.0 (given_alike f p q xs all.1)
  where
    skipped : f x ≡ None → (b : Bool) (ys : List X) → filter_map f (cond b (x ∷ ys) ys) ≡ filter_map f ys
    skipped none true ys = ap (λ (o : Option Y). cons_option o (filter_map f ys)) none
    skipped none false ys = refl

    kept : (b : Bool) → filter_map f (filter p xs) ≡ filter_map f (filter q xs) → filter_map f (cond b (x ∷ filter p xs) (filter p xs)) ≡ filter_map f (cond b (x ∷ filter q xs) (filter q xs))
    kept true rest = ap (cons_option (f x)) rest
    kept false rest = rest

    by_agreement : (f x ≡ None) ⊎ (p x ≡ q x) → filter_map f (filter p xs) ≡ filter_map f (filter q xs) → filter_map f (filter p (x ∷ xs)) ≡ filter_map f (filter q (x ∷ xs))
    by_agreement (inl none) rest = skipped none (p x) (filter p xs) ∙ rest ∙ sym (skipped none (q x) (filter q xs))
    by_agreement (inr same) rest = ap (λ (b : Bool). filter_map f (cond b (x ∷ filter p xs) (filter p xs))) same ∙ kept (q x) rest

-- the open changes of a transaction are its changes among them
open_changes_are : (log : List LogRecord) (tx : ℕ) → open_changes tx log ≡ filter_map (change_of tx) (open_records log)
open_changes_are log tx = given_alike (change_of tx) within (is_open_at log n) (positions log) (all_weaker {X = At} (λ q. q.0 ≤ n) (λ q. (change_of tx q ≡ None) ⊎ (within q ≡ is_open_at log n q)) (positions log) agree (positions_to_end log))
  where
    n : ℕ
    n = length log

    within : At → Bool
    within q = nat_lt (last_end tx (n + 1) log) q.0 && nat_lt q.0 (n + 1)

    turned : (a b c : Bool) → b ≡ true → c ≡ true → (a && b) ≡ (c && a)
    turned true true true f g = refl
    turned false true true f g = refl
    turned a false c f g = absurd (false≢true f)
    turned a true false f g = absurd (false≢true g)

    agree : (q : At) → q.0 ≤ n → (change_of tx q ≡ None) ⊎ (within q ≡ is_open_at log n q)
    agree (pos, records.Change t change) h = by_own (t == tx) refl
      where
        placed : Placed
        placed = record { pos = pos; change = change }

        by_own : (b : Bool) → (t == tx) ≡ b → (change_of tx (pos, records.Change t change) ≡ None) ⊎ (within (pos, records.Change t change) ≡ is_open_at log n (pos, records.Change t change))
        by_own true e = inr (
            turned (nat_lt (last_end tx (n + 1) log) pos) (nat_lt pos (n + 1)) (nat_le pos n) (lt-ltb pos (n + 1) (omega arith)) (le-leb pos n h)
            ∙ ap (λ (u : ℕ). nat_le pos n && nat_lt (last_end u (n + 1) log) pos) (sym (eqb-true t tx e)))
        by_own false e = inl (ap (λ (b : Bool). cond b (Some placed) None) e)
    agree (pos, records.Commit t time authid origin) h = inl refl
    agree (pos, records.Abort t) h = inl refl

-- each of them is in flight
all_open : (log : List LogRecord) → AllByRecursion (λ q. is_open_at log (length log) q ≡ true) (open_records log)
all_open log = at_each (λ q. is_open_at log (length log) q ≡ true) (open_records log) (λ q i. (in_filter (is_open_at log (length log)) (positions log) q i).1)

-- ---- the first of them

-- the position of the first of some records, or the one after a point if there is none
abbrev first_position : ℕ → List At → ℕ
first_position point [] = point + 1
first_position point (q ∷ qs) = q.0

-- the first that a filter keeps is the one that is found
first_found : (p : At → Bool) (point : ℕ) (ps : List At) → option_map_or (λ q. q.0) (find p ps) (point + 1) ≡ first_position point (filter p ps)
first_found p point [] = refl
first_found p point (q ∷ qs) = by_test (p q) (first_found p point qs)
  where
    by_test : (b : Bool) → option_map_or (λ (r : At). r.0) (find p qs) (point + 1) ≡ first_position point (filter p qs)
        → option_map_or (λ (r : At). r.0) (cond b (Some q) (find p qs)) (point + 1) ≡ first_position point (cond b (q ∷ filter p qs) (filter p qs))
    by_test true rest = refl
    by_test false rest = rest

-- a capture after the end of a log begins at the first of its records in flight
restart_is : (log : List LogRecord) → restart_after log (length log) ≡ first_position (length log) (open_records log)
unfolding restart_after
restart_is log = first_found (is_open_at log (length log)) (length log) (positions log)

-- the other records stand at the first one's position or after it
abbrev FromFirst : List At → Type 0
FromFirst [] = ⊤
FromFirst (q ∷ qs) = AllByRecursion (λ r. q.0 ≤ r.0) qs

-- so do those that a filter keeps of numbered records
kept_from_first : (p : At → Bool) (b : ℕ) (log : List LogRecord) → FromFirst (filter p (enumerate_from b log))
kept_from_first p b [] = tt
kept_from_first p b (r ∷ log) = by_test (p (b, r)) (kept_from_first p (b + 1) log)
  where
    later : List At
    later = enumerate_from (b + 1) log

    all_later : AllByRecursion (λ (q : At). b ≤ q.0) later
    all_later = all_weaker {X = At} (λ q. (b + 1 ≤ q.0) × (q.0 < b + 1 + length log)) (λ q. b ≤ q.0) later (λ q h. omega arith) (enumerate_within (b + 1) log)

    by_test : (t : Bool) → FromFirst (filter p later) → FromFirst (cond t ((b, r) ∷ filter p later) (filter p later))
    by_test true rest = all_filter (λ (q : At). b ≤ q.0) p later all_later
    by_test false rest = rest

-- and so do the changes of a transaction among them
changes_from_first : (tx point : ℕ) (ps : List At) → FromFirst ps → AllByRecursion (λ placed. first_position point ps ≤ placed.pos) (filter_map (change_of tx) ps)
changes_from_first tx point [] all = tt
changes_from_first tx point (q ∷ qs) all = changes_at (λ pos. q.0 ≤ pos) tx (q ∷ qs) (omega arith, all)

-- ---- nothing in flight is missed

-- what is in flight at the end of a log stands where a capture after it begins, or later
open_from_restart : (log : List LogRecord) (tx : ℕ) → AllByRecursion (λ placed. restart_after log (length log) ≤ placed.pos) (open_changes tx log)
open_from_restart log tx =
    subst (λ (n : ℕ). AllByRecursion (λ placed. n ≤ placed.pos) (open_changes tx log)) (sym (restart_is log))
    (subst (AllByRecursion (λ (placed : Placed). first_position (length log) (open_records log) ≤ placed.pos)) (sym (open_changes_are log tx))
    (changes_from_first tx (length log) (open_records log) (kept_from_first (is_open_at log (length log)) 1 log)))

-- which is right after its end at the latest
restart_to_end : (log : List LogRecord) → restart_after log (length log) ≤ length log + 1
restart_to_end log = subst (λ (n : ℕ). n ≤ length log + 1) (sym (restart_is log)) (by_first (open_records log) (all_filter {X = At} (λ q. q.0 ≤ length log) (is_open_at log (length log)) (positions log) (positions_to_end log)))
  where
    by_first : (ps : List At) → AllByRecursion (λ (q : At). q.0 ≤ length log) ps → first_position (length log) ps ≤ length log + 1
    by_first [] all = omega arith
    by_first (q ∷ qs) all = omega (arith, all.0)

-- a capture after a point begins where one after the records up to the point does
restart_of_front : (log : List LogRecord) (point : ℕ) → point ≤ length log → restart_after log point ≡ restart_after (take point log) (length (take point log))
restart_of_front log point h =
    let front = take point log in
    let size : length front ≡ point = length-take-le point log h in
    ap (λ (l : List LogRecord). restart_after l point) (sym (take-append-drop point log))
    ∙ restart_stays_longer front (drop point log) point (omega (arith, size))
    ∙ ap (restart_after front) (sym size)

-- from the restart on, nothing is missed of what is in flight at a point or later
pub restart_is_early : RestartIsEarly
restart_is_early log point read tx low high =
    ap (λ (n : ℕ). filter (λ (placed : Placed). nat_le n placed.pos) (open_changes tx (take read log))) (restart_of_front log point (omega arith))
    ∙ filter_all (λ (placed : Placed). nat_le start placed.pos) (open_changes tx (take read log))
    (all_weaker (λ (placed : Placed). start ≤ placed.pos) (λ placed. nat_le start placed.pos ≡ true) (open_changes tx (take read log)) (λ placed from. le-leb start placed.pos from)
    (subst (λ (l : List LogRecord). AllByRecursion (λ placed. start ≤ placed.pos) (open_changes tx l)) (front_and_others log point read low)
    (from_longer start front (drop point (take read log)) (restart_to_end front) (open_from_restart front) tx)))
  where
    front : List LogRecord
    front = take point log

    start : ℕ
    start = restart_after front (length front)

-- ---- where it is

-- The record is a change of a transaction.
record IsChange (q : At) : Type 0 where
  tx : ℕ
  placed : Placed
  stands : placed.pos ≡ q.0
  is : change_of tx q ≡ Some placed

-- a record in flight is a change
change_is : (log : List LogRecord) (point : ℕ) (q : At) → is_open_at log point q ≡ true → IsChange q
change_is log point (pos, records.Change t change) e = record {
  tx = t;
  placed = this;
  stands = refl;
  is = ap (λ (b : Bool). cond b (Some this) None) (eq-eqb t t refl);
}
  where
    this : Placed
    this = record { pos = pos; change = change }
change_is log point (pos, records.Commit t time authid origin) e = absurd (false≢true e)
change_is log point (pos, records.Abort t) e = absurd (false≢true e)

-- it is the first of its transaction's changes from there on
first_change : (q : At) (qs : List At) (c : IsChange q) → filter_map (change_of c.tx) (q ∷ qs) ≡ c.placed ∷ filter_map (change_of c.tx) qs
first_change q qs c = ap (λ (o : Option Placed). cons_option o (filter_map (change_of c.tx) qs)) c.is

-- a list with an element isn't empty
some_or_none : (x : Placed) (xs : List Placed) → x ∷ xs ≡ [] → ⊥
some_or_none x xs e = cc

-- if nothing is in flight at the end of a log, a capture after it begins there
restarts_at_end : (log : List LogRecord) → ((tx : ℕ) → open_changes tx log ≡ []) → restart_after log (length log) ≡ length log + 1
restarts_at_end log none = restart_is log ∙ by_first (open_records log) (all_open log) (λ tx. sym (open_changes_are log tx) ∙ none tx)
  where
    by_first : (ps : List At) → AllByRecursion (λ q. is_open_at log (length log) q ≡ true) ps → ((tx : ℕ) → filter_map (change_of tx) ps ≡ []) → first_position (length log) ps ≡ length log + 1
    by_first [] all empty = refl
    by_first (q ∷ qs) all empty =
        let c = change_is log (length log) q all.0 in
        absurd (some_or_none c.placed (filter_map (change_of c.tx) qs) (sym (first_change q qs c) ∙ empty c.tx))

-- else at the first change in flight
restarts_at_change : (log : List LogRecord) (tx : ℕ) (first : Placed) (rest : List Placed) → open_changes tx log ≡ first ∷ rest
    → ((t : ℕ) (placed : Placed) (more : List Placed) → open_changes t log ≡ placed ∷ more → first.pos ≤ placed.pos) → restart_after log (length log) ≡ first.pos
restarts_at_change log tx first rest is least =
    restart_is log
    ∙ by_first (open_records log) (all_open log) (kept_from_first (is_open_at log (length log)) 1 log) (sym (open_changes_are log tx) ∙ is) (λ t placed more e. least t placed more (open_changes_are log t ∙ e))
  where
    by_first : (ps : List At) → AllByRecursion (λ q. is_open_at log (length log) q ≡ true) ps → FromFirst ps → filter_map (change_of tx) ps ≡ first ∷ rest
        → ((t : ℕ) (placed : Placed) (more : List Placed) → filter_map (change_of t) ps ≡ placed ∷ more → first.pos ≤ placed.pos) → first_position (length log) ps ≡ first.pos
    by_first [] all from begins lowest = absurd (some_or_none first rest (sym begins))
    by_first (q ∷ qs) all from begins lowest =
        let c = change_is log (length log) q all.0 in
        let low : q.0 ≤ first.pos = (subst (AllByRecursion (λ (placed : Placed). q.0 ≤ placed.pos)) begins (changes_from_first tx (length log) (q ∷ qs) from)).0 in
        let high : first.pos ≤ c.placed.pos = lowest c.tx c.placed (filter_map (change_of c.tx) qs) (first_change q qs c) in
        let there : c.placed.pos ≡ q.0 = c.stands in
        omega (arith, low, high, there)

-- if nothing is in flight at a point, a capture after it begins there
pub restarts_after : RestartsAfter
restarts_after log point h none =
    restart_of_front log point h
    ∙ restarts_at_end (take point log) none
    ∙ ap (λ (n : ℕ). n + 1) (length-take-le point log h)

-- else at the first change in flight
pub restarts_at_first : RestartsAtFirst
restarts_at_first log point tx first rest h is least = restart_of_front log point h ∙ restarts_at_change (take point log) tx first rest is least
