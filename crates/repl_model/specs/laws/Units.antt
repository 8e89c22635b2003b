-- How a log grows.
use Rattle.std.proofs.Common.{◌≡◌, ℕ, suc, ◌+◌, ◌≤◌, ◌<◌, Bool, true, false, cond, ◌&&◌, List, [], ◌∷◌, ◌++◌, length, Option, Some, None, option_to_list, inl, inr, refl, sym, ap, ◌∙◌, arith, append-nil, append_assoc, ◌==◌, nat_lt, nat_le, if◌then◌else◌}
use Rattle.std.specs.Bool.{⊤}
use Rattle.std.specs.List.{AllByRecursion, filter, filter_map, flat_map, cons_option, fold, enumerate_from}
use Rattle.std.proofs.lemmas.Bool.{cond-true, cond-false, and_right, cases_lt, lt-ltb, le-ltb, le-leb, lt-leb}
use Rattle.std.proofs.lemmas.List.Sums.{fold_push}
use Rattle.std.proofs.lemmas.List.{append_cancel_left}
use Rattle.std.proofs.lemmas.List.Concat.{flat_map-append}
use Rattle.std.proofs.lemmas.List.Elements.{filter-append, filter_map-append}
use Rattle.repl_types.specs.declared.record.Change.{Change}
use Rattle.repl_types.specs.declared.record.SetId.{SetId}
use Rattle.repl_types.specs.declared.record.LogRecord.{LogRecord}
use Rattle.repl_types.specs.declared.record.LogRecord.TheVariants as records
use Rattle.repl_types.specs.declared.unit.Placed.{Placed}
use Rattle.repl_types.specs.declared.unit.Unit.{Unit}
use Rattle.repl_types.specs.declared.change_row.Registration.{Registration}
use Rattle.repl_model.specs.Units.{At, positions, ends, last_end, change_of, changes_up_to, open_changes, unit_of, unit_at, units, last_seq, last_time, last_commit}
use Rattle.repl_model.specs.SourceAt.{units_up_to, units_between}
use Rattle.repl_model.specs.ChangeRows.{change_rows, changes_between}
use Rattle.repl_model.specs.laws.Lists.{each_push, filter_map_alike, fold_alike}
use Rattle.repl_types.specs.laws.Lists.{all_weaker, filter_alike, filter_all, filter_none}
use Rattle.std.proofs.lemmas.List.FromFn.{length-enumerate_from}
use Rattle.lists.specs.laws.Places.{filter_map_few}

-- ---- positions

-- one more record stands at the end
enumerate_push : (k n : ℕ) (log : List LogRecord) (r : LogRecord) → k + length log ≡ n → enumerate_from k (log ++ r ∷ []) ≡ enumerate_from k log ++ (n, r) ∷ []
enumerate_push k n [] r e = ap (λ (m : ℕ). (m, r) ∷ []) (omega arith)
enumerate_push k n (x ∷ log) r e = ap (λ (ps : List At). (k, x) ∷ ps) (enumerate_push (k + 1) n log r (omega arith))

-- one more record has the position after the log's length
pub positions_push : (log : List LogRecord) (r : LogRecord) → positions (log ++ r ∷ []) ≡ positions log ++ (length log + 1, r) ∷ []
positions_push log r = enumerate_push 1 (length log + 1) log r (omega arith)

-- positions from k on are k and above, and end below k and the length
pub enumerate_within : (k : ℕ) (log : List LogRecord) → AllByRecursion (λ (r : At). (k ≤ r.0) × (r.0 < k + length log)) (enumerate_from k log)
enumerate_within k [] = tt
enumerate_within k (x ∷ log) = ((omega arith, omega arith), all_weaker {X = At} (λ r. (k + 1 ≤ r.0) × (r.0 < k + 1 + length log)) (λ r. (k ≤ r.0) × (r.0 < k + length (x ∷ log))) (enumerate_from (k + 1) log) (λ r h. (omega arith, omega arith)) (enumerate_within (k + 1) log))

-- a position is at most the log's length
pub positions_within : (log : List LogRecord) → AllByRecursion (λ (r : At). r.0 < length log + 1) (positions log)
positions_within log = all_weaker {X = At} (λ r. (1 ≤ r.0) × (r.0 < 1 + length log)) (λ r. r.0 < length log + 1) (positions log) (λ r h. omega arith) (enumerate_within 1 log)

-- ---- changes up to a position

-- what stands before a position has the last end that it had
pub last_end_stays : (tx before : ℕ) (log : List LogRecord) (r : LogRecord) → before ≤ length log + 1 → last_end tx before (log ++ r ∷ []) ≡ last_end tx before log
last_end_stays tx before log r h =
    let step = λ (last : ℕ) (r : At). cond (ends tx r.1 && nat_lt r.0 before) r.0 last in
    ap (fold step 0) (positions_push log r) ∙ fold_push step 0 (positions log) (length log + 1, r)
    ∙ cond-false _ _ _ (and_right (ends tx r) (nat_lt (length log + 1) before) (le-ltb (length log + 1) before h))

-- one more record leaves the changes that stand before a position
pub changes_up_to_stays : (tx before : ℕ) (log : List LogRecord) (r : LogRecord) → before ≤ length log + 1 → changes_up_to tx before (log ++ r ∷ []) ≡ changes_up_to tx before log
changes_up_to_stays tx before log r h =
    let between = λ (low : ℕ) (r : At). nat_lt low r.0 && nat_lt r.0 before in
    let low = last_end tx before log in
    ap (λ (e : ℕ). filter_map (change_of tx) (filter (between e) (positions (log ++ r ∷ [])))) (last_end_stays tx before log r h)
    ∙ ap (λ (ps : List At). filter_map (change_of tx) (filter (between low) ps)) (positions_push log r)
    ∙ ap (filter_map (change_of tx)) (filter-append (between low) (positions log) ((length log + 1, r) ∷ [])
    ∙ ap (λ (ps : List At). filter (between low) (positions log) ++ ps) (cond-false _ _ _ (and_right (nat_lt low (length log + 1)) (nat_lt (length log + 1) before) (le-ltb (length log + 1) before h)))
    ∙ append-nil (filter (between low) (positions log)))

-- ---- changes in flight

-- an optional element before no others
cons_option_nil : {X : Type 0} (o : Option X) → cons_option o [] ≡ option_to_list o
cons_option_nil None = refl
cons_option_nil (Some x) = refl

-- the position of a transaction's last end in the whole log, 0 if there is none
final_end : ℕ → List LogRecord → ℕ
final_end tx log = fold (λ last r. cond (ends tx r.1) r.0 last) 0 (positions log)

-- a fold that takes positions below a bound is below it
final_below : (tx m last : ℕ) (ps : List At) → last < m → AllByRecursion (λ (r : At). r.0 < m) ps → fold (λ last (r : At). cond (ends tx r.1) r.0 last) last ps < m
final_below tx m last [] l h = l
final_below tx m last (r ∷ ps) l h = final_below tx m (cond (ends tx r.1) r.0 last) ps (below (ends tx r.1)) h.1
  where
    below : (b : Bool) → cond b r.0 last < m
    below true = h.0
    below false = l

-- the changes in flight stand after the transaction's last end, with no bound above
open_changes_is : (tx : ℕ) (log : List LogRecord) → open_changes tx log ≡ filter_map (change_of tx) (filter (λ r. nat_lt (final_end tx log) r.0) (positions log))
unfolding final_end
open_changes_is tx log =
    let n = length log + 1 in
    let bounded = λ (last : ℕ) (r : At). cond (ends tx r.1 && nat_lt r.0 n) r.0 last in
    let free = λ (last : ℕ) (r : At). cond (ends tx r.1) r.0 last in
    let same : last_end tx n log ≡ final_end tx log = fold_alike bounded free 0 (positions log) (all_weaker {X = At} (λ r. r.0 < n) (λ r. (c : ℕ) → bounded c r ≡ free c r) (positions log) (λ r h c. ap (λ (b : Bool). cond b r.0 c) (with_true (ends tx r.1) (nat_lt r.0 n) (lt-ltb r.0 n h))) (positions_within log)) in
    ap (λ (low : ℕ). filter_map (change_of tx) (filter (λ (r : At). nat_lt low r.0 && nat_lt r.0 n) (positions log))) same
    ∙ ap (filter_map (change_of tx)) (filter_alike {X = At} (λ r. nat_lt (final_end tx log) r.0 && nat_lt r.0 n) (λ r. nat_lt (final_end tx log) r.0) (positions log)
    (all_weaker {X = At} (λ r. r.0 < n) (λ r. (nat_lt (final_end tx log) r.0 && nat_lt r.0 n) ≡ nat_lt (final_end tx log) r.0) (positions log) (λ r h. with_true (nat_lt (final_end tx log) r.0) (nat_lt r.0 n) (lt-ltb r.0 n h)) (positions_within log)))
  where
    with_true : (a b : Bool) → b ≡ true → (a && b) ≡ a
    with_true true b e = e
    with_true false b e = refl

-- the last end is one more record that is an end of the transaction, and else what it was
final_end_push : (tx : ℕ) (log : List LogRecord) (r : LogRecord) → final_end tx (log ++ r ∷ []) ≡ cond (ends tx r) (length log + 1) (final_end tx log)
unfolding final_end
final_end_push tx log r =
    let step = λ (last : ℕ) (r : At). cond (ends tx r.1) r.0 last in
    ap (fold step 0) (positions_push log r) ∙ fold_push step 0 (positions log) (length log + 1, r)

-- one more record: an end of the transaction leaves nothing in flight, and else a change of it is added
open_changes_push : (tx : ℕ) (log : List LogRecord) (r : LogRecord) → open_changes tx (log ++ r ∷ []) ≡ (if ends tx r then [] else open_changes tx log ++ option_to_list (change_of tx (length log + 1, r)))
unfolding final_end
open_changes_push tx log r =
    open_changes_is tx (log ++ r ∷ [])
    ∙ ap (λ (low : ℕ). filter_map (change_of tx) (filter (λ (p : At). nat_lt low p.0) (positions (log ++ r ∷ [])))) (final_end_push tx log r)
    ∙ ap (λ (ps : List At). filter_map (change_of tx) (filter (λ (p : At). nat_lt (cond (ends tx r) (length log + 1) (final_end tx log)) p.0) ps)) (positions_push log r)
    ∙ by_end (ends tx r)
  where
    by_end : (b : Bool) → filter_map (change_of tx) (filter (λ p. nat_lt (cond b (length log + 1) (final_end tx log)) p.0) (positions log ++ (length log + 1, r) ∷ [])) ≡ cond b [] (open_changes tx log ++ option_to_list (change_of tx (length log + 1, r)))
    by_end true =
        let n = length log + 1 in
        let past = λ (p : At). nat_lt n p.0 ≡ false in
        ap (filter_map (change_of tx)) (filter_none {X = At} (λ p. nat_lt n p.0) (positions log ++ (n, r) ∷ [])
        (each_push past (positions log) (n, r) (all_weaker {X = At} (λ p. p.0 < n) past (positions log) (λ p h. le-ltb n p.0 (omega arith)) (positions_within log)) (le-ltb n n (omega arith))))
    by_end false =
        let n = length log + 1 in
        let low = final_end tx log in
        let after = λ (p : At). nat_lt low p.0 in
        let below : low < n = final_below tx n 0 (positions log) (omega arith) (positions_within log) in
        ap (filter_map (change_of tx)) (filter-append after (positions log) ((n, r) ∷ []) ∙ ap (λ (ps : List At). filter after (positions log) ++ ps) (cond-true _ _ _ (lt-ltb low n below)))
        ∙ filter_map-append (change_of tx) (filter after (positions log)) ((n, r) ∷ [])
        ∙ ap (λ (cs : List Placed). cs ++ cons_option (change_of tx (n, r)) []) (sym (open_changes_is tx log))
        ∙ ap (λ (cs : List Placed). open_changes tx log ++ cs) (cons_option_nil (change_of tx (n, r)))

-- a change of the transaction is added at its position, and one of another transaction adds nothing
pub open_changes_change : (tx t : ℕ) (change : Change) (log : List LogRecord) → open_changes tx (log ++ records.Change t change ∷ []) ≡ (if t == tx then open_changes tx log ++ record { pos = length log + 1; change = change } ∷ [] else open_changes tx log)
open_changes_change tx t change log = open_changes_push tx log (records.Change t change) ∙ by_own (t == tx)
  where
    placed : Placed
    placed = record { pos = length log + 1; change = change }

    by_own : (b : Bool) → open_changes tx log ++ option_to_list (cond b (Some placed) None) ≡ cond b (open_changes tx log ++ placed ∷ []) (open_changes tx log)
    by_own true = refl
    by_own false = append-nil (open_changes tx log)

-- the transaction's commit leaves nothing in flight, and that of another leaves what is
pub open_changes_commit : (tx t time : ℕ) (authid : List ℕ) (origin : Option SetId) (log : List LogRecord) → open_changes tx (log ++ records.Commit t time authid origin ∷ []) ≡ (if t == tx then [] else open_changes tx log)
open_changes_commit tx t time authid origin log = open_changes_push tx log (records.Commit t time authid origin) ∙ ap (cond (t == tx) []) (append-nil (open_changes tx log))

-- the transaction's abort leaves nothing in flight, and that of another leaves what is
pub open_changes_abort : (tx t : ℕ) (log : List LogRecord) → open_changes tx (log ++ records.Abort t ∷ []) ≡ (if t == tx then [] else open_changes tx log)
open_changes_abort tx t log = open_changes_push tx log (records.Abort t) ∙ ap (cond (t == tx) []) (append-nil (open_changes tx log))

-- ---- units

-- one more record leaves the units of those before it
units_stay : (log : List LogRecord) (r : LogRecord) → filter_map (unit_at (log ++ r ∷ [])) (positions log) ≡ units log
unfolding units
units_stay log r = filter_map_alike (unit_at (log ++ r ∷ [])) (unit_at log) (positions log)
    (all_weaker {X = At} (λ p. p.0 < length log + 1) (λ p. unit_at (log ++ r ∷ []) p ≡ unit_at log p) (positions log) (λ p h. same p.0 p.1 h) (positions_within log))
  where
    same : (pos : ℕ) (q : LogRecord) → pos < length log + 1 → unit_at (log ++ r ∷ []) (pos, q) ≡ unit_at log (pos, q)
    same pos (records.Change tx change) h = refl
    same pos (records.Commit tx time authid origin) h = ap (λ (changes : List Placed). Some (unit_of pos time authid origin changes)) (changes_up_to_stays tx pos log r (omega arith))
    same pos (records.Abort tx) h = refl

-- one more record adds the unit that it ends
units_push : (log : List LogRecord) (r : LogRecord) → units (log ++ r ∷ []) ≡ units log ++ option_to_list (unit_at (log ++ r ∷ []) (length log + 1, r))
unfolding units
units_push log r =
    let now = unit_at (log ++ r ∷ []) in
    ap (filter_map now) (positions_push log r) ∙ filter_map-append now (positions log) ((length log + 1, r) ∷ [])
    ∙ ap (λ (us : List Unit). us ++ cons_option (now (length log + 1, r)) []) (units_stay log r)
    ∙ ap (λ (us : List Unit). units log ++ us) (cons_option_nil (now (length log + 1, r)))

-- a change ends no unit
pub units_change : (tx : ℕ) (change : Change) (log : List LogRecord) → units (log ++ records.Change tx change ∷ []) ≡ units log
units_change tx change log = units_push log (records.Change tx change) ∙ append-nil (units log)

-- an abort ends no unit
pub units_abort : (tx : ℕ) (log : List LogRecord) → units (log ++ records.Abort tx ∷ []) ≡ units log
units_abort tx log = units_push log (records.Abort tx) ∙ append-nil (units log)

-- a commit ends one unit, of the changes that its transaction has in flight
pub units_commit : (tx time : ℕ) (authid : List ℕ) (origin : Option SetId) (log : List LogRecord) → units (log ++ records.Commit tx time authid origin ∷ []) ≡ units log ++ unit_of (length log + 1) time authid origin (open_changes tx log) ∷ []
units_commit tx time authid origin log =
    let r = records.Commit tx time authid origin in
    units_push log r ∙ ap (λ (changes : List Placed). units log ++ unit_of (length log + 1) time authid origin changes ∷ []) (changes_up_to_stays tx (length log + 1) log r (omega arith))

-- ---- the seqs of units

-- the bounds of one position on, seen from one before
seqs_wider : (k : ℕ) (log : List LogRecord) (us : List Unit) → AllByRecursion (λ u. (k + 1 ≤ u.head.seq) × (u.head.seq < k + 1 + length log)) us → AllByRecursion (λ u. (k ≤ u.head.seq) × (u.head.seq < k + suc (length log))) us
seqs_wider k log us h = all_weaker {X = Unit} (λ u. (k + 1 ≤ u.head.seq) × (u.head.seq < k + 1 + length log)) (λ u. (k ≤ u.head.seq) × (u.head.seq < k + suc (length log))) us (λ u h. (omega arith, omega arith)) h

-- the seqs of the units from position k on are k and above, and end below k and the length
seqs_from : (whole : List LogRecord) (k : ℕ) (log : List LogRecord) → AllByRecursion (λ u. (k ≤ u.head.seq) × (u.head.seq < k + length log)) (filter_map (unit_at whole) (enumerate_from k log))
seqs_from whole k [] = tt
seqs_from whole k (records.Change tx change ∷ log) = seqs_wider k log (filter_map (unit_at whole) (enumerate_from (k + 1) log)) (seqs_from whole (k + 1) log)
seqs_from whole k (records.Commit tx time authid origin ∷ log) = ((omega arith, omega arith), seqs_wider k log (filter_map (unit_at whole) (enumerate_from (k + 1) log)) (seqs_from whole (k + 1) log))
seqs_from whole k (records.Abort tx ∷ log) = seqs_wider k log (filter_map (unit_at whole) (enumerate_from (k + 1) log)) (seqs_from whole (k + 1) log)

-- a unit's seq is a position of the log
pub seqs_within : (log : List LogRecord) → AllByRecursion (λ u. (0 < u.head.seq) × (u.head.seq ≤ length log)) (units log)
unfolding units
seqs_within log = all_weaker {X = Unit} (λ u. (1 ≤ u.head.seq) × (u.head.seq < 1 + length log)) (λ u. (0 < u.head.seq) × (u.head.seq ≤ length log)) (units log) (λ u h. (omega arith, omega arith)) (seqs_from log 1 log)

-- the last seq of the units from position k on, or the one before, is the greatest
last_seq_from : (whole : List LogRecord) (k last : ℕ) (log : List LogRecord) → last < k → (last ≤ fold (λ last u. u.head.seq) last (filter_map (unit_at whole) (enumerate_from k log)))
    × AllByRecursion (λ u. u.head.seq ≤ fold (λ last u. u.head.seq) last (filter_map (unit_at whole) (enumerate_from k log))) (filter_map (unit_at whole) (enumerate_from k log))
last_seq_from whole k last [] h = (omega arith, tt)
last_seq_from whole k last (records.Change tx change ∷ log) h = last_seq_from whole (k + 1) last log (omega arith)
last_seq_from whole k last (records.Commit tx time authid origin ∷ log) h =
    let rest = last_seq_from whole (k + 1) k log (omega arith) in
    (omega arith, (rest.0, rest.1))
last_seq_from whole k last (records.Abort tx ∷ log) h = last_seq_from whole (k + 1) last log (omega arith)

-- no unit has a greater seq than the last commit
pub seqs_to_last : (log : List LogRecord) → AllByRecursion (λ u. u.head.seq ≤ last_commit log) (units log)
unfolding units
seqs_to_last log = (last_seq_from log 1 0 log (omega arith)).1

-- each unit's seq is below those of the later ones
abbrev pub Rising : List Unit → Type 0
Rising [] = ⊤
Rising (u ∷ us) = AllByRecursion (λ v. u.head.seq < v.head.seq) us × Rising us

-- the seqs of the units from one position on rise
rising_from : (whole : List LogRecord) (k : ℕ) (log : List LogRecord) → Rising (filter_map (unit_at whole) (enumerate_from k log))
rising_from whole k [] = tt
rising_from whole k (records.Change tx change ∷ log) = rising_from whole (k + 1) log
rising_from whole k (records.Commit tx time authid origin ∷ log) =
    let rest = filter_map (unit_at whole) (enumerate_from (k + 1) log) in
    (all_weaker {X = Unit} (λ v. (k + 1 ≤ v.head.seq) × (v.head.seq < k + 1 + length log)) (λ v. k < v.head.seq) rest (λ v h. omega arith) (seqs_from whole (k + 1) log), rising_from whole (k + 1) log)
rising_from whole k (records.Abort tx ∷ log) = rising_from whole (k + 1) log

-- the seqs of a log's units rise
pub seqs_rise : (log : List LogRecord) → Rising (units log)
unfolding units
seqs_rise log = rising_from log 1 log

-- units whose seqs rise, up to one point and from there up to a later one
split_rising : (low high : ℕ) (us : List Unit) → low ≤ high → Rising us → filter (λ u. nat_le u.head.seq high) us ≡ filter (λ u. nat_le u.head.seq low) us ++ filter (λ u. nat_lt low u.head.seq && nat_le u.head.seq high) us
split_rising low high [] h rising = refl
split_rising low high (u ∷ us) h rising =
    let ih = split_rising low high us h rising.1 in
    elim (cases_lt low u.head.seq) [
      | inl above ↦ later above
      | inr here ↦ earlier here ih
    ]
  where
    up_to : ℕ → Unit → Bool
    up_to point v = nat_le v.head.seq point

    between : Unit → Bool
    between v = nat_lt low v.head.seq && nat_le v.head.seq high

    earlier : u.head.seq ≤ low → filter (up_to high) us ≡ filter (up_to low) us ++ filter between us → filter (up_to high) (u ∷ us) ≡ filter (up_to low) (u ∷ us) ++ filter between (u ∷ us)
    earlier here ih = rw (le-leb u.head.seq high (omega arith), le-leb u.head.seq low here, le-ltb low u.head.seq here) (ap (λ (vs : List Unit). u ∷ vs) ih)

    later : low < u.head.seq → filter (up_to high) (u ∷ us) ≡ filter (up_to low) (u ∷ us) ++ filter between (u ∷ us)
    later above =
        let all : AllByRecursion (λ v. low < v.head.seq) (u ∷ us) = (above, all_weaker {X = Unit} (λ v. u.head.seq < v.head.seq) (λ v. low < v.head.seq) us (λ v h. omega arith) rising.0) in
        filter_alike (up_to high) between (u ∷ us) (all_weaker {X = Unit} (λ v. low < v.head.seq) (λ v. up_to high v ≡ between v) (u ∷ us) (λ v h. ap (λ (b : Bool). b && nat_le v.head.seq high) (sym (lt-ltb low v.head.seq h))) all)
        ∙ ap (λ (vs : List Unit). vs ++ filter between (u ∷ us)) (sym (filter_none (up_to low) (u ∷ us) (all_weaker {X = Unit} (λ v. low < v.head.seq) (λ v. up_to low v ≡ false) (u ∷ us) (λ v h. lt-leb v.head.seq low h) all)))

-- the units up to a point are those up to an earlier one, and those from there on
pub units_split : (low high : ℕ) (log : List LogRecord) → low ≤ high → units_up_to high log ≡ units_up_to low log ++ units_between low high log
units_split low high log h = split_rising low high (units log) h (seqs_rise log)

-- the units between two points are those up to a point between, and those from there on
pub units_join : (low mid high : ℕ) (log : List LogRecord) → low ≤ mid → mid ≤ high → units_between low high log ≡ units_between low mid log ++ units_between mid high log
units_join low mid high log h k = append_cancel_left (units_up_to low log) (units_between low high log) (units_between low mid log ++ units_between mid high log) (
    sym (units_split low high log (omega arith))
    ∙ units_split mid high log k
    ∙ ap (λ (us : List Unit). us ++ units_between mid high log) (units_split low mid log h)
    ∙ append_assoc (units_up_to low log) (units_between low mid log) (units_between mid high log))

-- up to position 0 there are no units
pub units_up_to_zero : (log : List LogRecord) → units_up_to 0 log ≡ []
units_up_to_zero log = filter_none {X = Unit} (λ u. nat_le u.head.seq 0) (units log)
    (all_weaker {X = Unit} (λ u. (0 < u.head.seq) × (u.head.seq ≤ length log)) (λ u. nat_le u.head.seq 0 ≡ false) (units log) (λ u h. lt-leb u.head.seq 0 h.0) (seqs_within log))

-- a commit is the last commit
pub last_commit_commit : (tx time : ℕ) (authid : List ℕ) (origin : Option SetId) (log : List LogRecord) → last_commit (log ++ records.Commit tx time authid origin ∷ []) ≡ length log + 1
last_commit_commit tx time authid origin log = ap last_seq (units_commit tx time authid origin log) ∙ fold_push (λ (last : ℕ) (u : Unit). u.head.seq) 0 (units log) (unit_of (length log + 1) time authid origin (open_changes tx log))

-- the time of a commit is the last time
pub last_time_commit : (tx time : ℕ) (authid : List ℕ) (origin : Option SetId) (log : List LogRecord) → last_time (units (log ++ records.Commit tx time authid origin ∷ [])) ≡ time
last_time_commit tx time authid origin log = ap last_time (units_commit tx time authid origin log) ∙ fold_push (λ (last : ℕ) (u : Unit). u.head.time) 0 (units log) (unit_of (length log + 1) time authid origin (open_changes tx log))

-- one more record adds no unit that a test of the log's own units passes
kept_units_stay : (p : Unit → Bool) (log : List LogRecord) (r : LogRecord) → ((u : Unit) → length log < u.head.seq → p u ≡ false) → filter p (units (log ++ r ∷ [])) ≡ filter p (units log)
kept_units_stay p log (records.Change tx change) h = ap (filter p) (units_change tx change log)
kept_units_stay p log (records.Commit tx time authid origin) h =
    let u = unit_of (length log + 1) time authid origin (open_changes tx log) in
    ap (filter p) (units_commit tx time authid origin log)
    ∙ filter-append p (units log) (u ∷ [])
    ∙ ap (λ (us : List Unit). filter p (units log) ++ us) (cond-false (p u) (u ∷ []) [] (h u (omega arith)))
    ∙ append-nil (filter p (units log))
kept_units_stay p log (records.Abort tx) h = ap (filter p) (units_abort tx log)

-- one more record leaves the units up to a point of the log
pub units_up_to_stay : (point : ℕ) (log : List LogRecord) (r : LogRecord) → point ≤ length log → units_up_to point (log ++ r ∷ []) ≡ units_up_to point log
units_up_to_stay point log r h = kept_units_stay (λ u. nat_le u.head.seq point) log r (λ u past. lt-leb u.head.seq point (omega arith))

-- one more record leaves the units between points of the log
pub units_between_stay : (low high : ℕ) (log : List LogRecord) (r : LogRecord) → high ≤ length log → units_between low high (log ++ r ∷ []) ≡ units_between low high log
units_between_stay low high log r h = kept_units_stay (λ u. nat_lt low u.head.seq && nat_le u.head.seq high) log r (λ u past. and_right (nat_lt low u.head.seq) (nat_le u.head.seq high) (lt-leb u.head.seq high (omega arith)))

-- up to the last commit there are all units
pub units_up_to_last : (log : List LogRecord) → units_up_to (last_commit log) log ≡ units log
units_up_to_last log = filter_all {X = Unit} (λ u. nat_le u.head.seq (last_commit log)) (units log)
    (all_weaker {X = Unit} (λ u. u.head.seq ≤ last_commit log) (λ u. nat_le u.head.seq (last_commit log) ≡ true) (units log) (λ u h. le-leb u.head.seq (last_commit log) h) (seqs_to_last log))

-- change rows are captured piece by piece
pub changes_join : (log : List LogRecord) (reg : Registration) (low mid high : ℕ) → low ≤ mid → mid ≤ high → changes_between log reg low high ≡ changes_between log reg low mid ++ changes_between log reg mid high
unfolding changes_between
changes_join log reg low mid high h k = ap (flat_map (change_rows reg)) (units_join low mid high log h k) ∙ flat_map-append (change_rows reg) (units_between low mid log) (units_between mid high log)

-- one more record leaves the change rows up to a point of the log
pub changes_stay : (log : List LogRecord) (reg : Registration) (low high : ℕ) (r : LogRecord) → high ≤ length log → changes_between (log ++ r ∷ []) reg low high ≡ changes_between log reg low high
unfolding changes_between
changes_stay log reg low high r h = ap (flat_map (change_rows reg)) (units_between_stay low high log r h)

-- a log has no more units than records
pub units_few : (log : List LogRecord) → length (units log) ≤ length log
unfolding units
units_few log = omega (arith, filter_map_few (unit_at log) (positions log), length-enumerate_from 1 log)

-- the seqs of a log's units lie within the log
pub seqs_at_most : (log : List LogRecord) → AllByRecursion (λ u. u.head.seq ≤ length log) (units log)
seqs_at_most log = all_weaker (λ (u : Unit). (0 < u.head.seq) × (u.head.seq ≤ length log)) (λ u. u.head.seq ≤ length log) (units log) (λ u h. h.1) (seqs_within log)
