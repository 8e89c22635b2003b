-- A read-only set comes to rest: each action that it makes leaves fewer.
use Rattle.std.proofs.Common.{◌≡◌, ℕ, ◌+◌, ◌-◌, ◌<◌, ◌≤◌, Bool, true, false, cond, not, ◌||◌, List, [], ◌∷◌, ◌++◌, length, map, Option, Some, None, refl, sym, ap, ap₂, subst, ◌∙◌, arith, IsTrue, nat_lt, nat_le, fold, option_and_then, length-append}
use Rattle.std.specs.List.{filter_map, cons_option, list_any}
use Rattle.std.proofs.lemmas.Bool.{true≢false, false≢true, le-ltb, ltb-false, lt-leb, leb-false}
use Rattle.std.proofs.lemmas.Option.{none-some}
use Rattle.repl_model.specs.Words.{LogRecord, Unit, GapPlace, Member, SetDef, units, last_time, last_commit, Entry, Trail, refresh, block, load, settle, point_after, synchpoint, base_after, base_of, Registered, Server, World, KnownSet, same_set, known_sets, is_replica_set, read_only_sets, NumbersAreSound, TrailIsSound, EndsWithin, with_more, grown_server, grown, first_cut, next_units, registration_of, is_disabled, place_of_gap, member_gap, uow_gap, Gap, gap_of, Action, signals, refreshes, blocks, reports, idles, refuses, is_new, refresh_by_signal, at_rest, by_gap, next_action, source_tables, signal_records, refresh_entry, block_entry, after_action, In, at_one, kept_by, found_in, source_in, trail_within}
use Rattle.repl_types.specs.declared.record.Change.TheVariants.{Start}
use Rattle.repl_types.specs.declared.record.LogRecord.TheVariants as records
use Rattle.repl_types.specs.declared.refusal.GapPlace.TheVariants as gaps
use Rattle.world_commits.specs.actions.Resting.{commits_world, refresh_steps, report_steps, steps_by_gap, steps_left, NextActionsRest}
use Rattle.world_commits.specs.actions.laws.Signals.{set_stands, signal_is}
use Rattle.world_commits.specs.laws.Commits.{seq_above, seq_or_zero_up_to_last, some_cut}
use Rattle.world_commits.specs.laws.Trails.{cut_or, BlocksNext, block_is_next, next_block_may, reached_with, both_changes}
use Rattle.world_commits.specs.laws.KnownAfter.{grown_named, HasFewerLeft, fewer_at_source, fewer_at_target}

-- ---- gaps

-- a number that isn't above a point isn't above a later one
none_above_later : (low high n : ℕ) → low ≤ high → nat_lt low n ≡ false → nat_lt high n ≡ false
none_above_later low high n later e = le-ltb high n (omega (arith, later, ltb-false low n e))

-- what is kept of a registration after a point is kept after a later one
place_kept : (name : List ℕ) (low high : ℕ) → low ≤ high → (r : Registered) → place_of_gap name low r ≡ None → place_of_gap name high r ≡ None
place_kept name low high later r e = by_tests (not r.active) (nat_lt low r.start) (nat_lt low r.floor) refl refl e
  where
    stopped : Option GapPlace
    stopped = Some (gaps.Inactive name r.reg.table)

    started : Option GapPlace
    started = Some (gaps.Above name r.reg.table r.start)

    pruned : Option GapPlace
    pruned = Some (gaps.Above name r.reg.table r.floor)

    by_tests : (a b c : Bool) → nat_lt low r.start ≡ b → nat_lt low r.floor ≡ c → cond a stopped (cond b started (cond c pruned None)) ≡ None → cond a stopped (cond (nat_lt high r.start) started (cond (nat_lt high r.floor) pruned None)) ≡ None
    by_tests true b c start floor now = absurd cc
    by_tests false true c start floor now = absurd cc
    by_tests false false true start floor now = absurd cc
    by_tests false false false start floor now = ap₂ (λ (b c : Bool). cond b started (cond c pruned None)) (none_above_later low high r.start later start) (none_above_later low high r.floor later floor)

-- a member without a gap after a point has none after a later one
member_kept : (server : Server) (low high : ℕ) → low ≤ high → (member : Member) → member_gap server low member ≡ None → member_gap server high member ≡ None
member_kept server low high later member = by_registration (registration_of server member)
  where
    at_place : Registered → GapPlace → Option Gap
    at_place r place = Some (record { place = place; disabled = r.reg.disable_refresh })

    by_place : (r : Registered) (o : Option GapPlace) → place_of_gap server.name low r ≡ o → option_and_then (at_place r) o ≡ None → option_and_then (at_place r) (place_of_gap server.name high r) ≡ None
    by_place r None is e = ap (option_and_then (at_place r)) (place_kept server.name low high later r is)
    by_place r (Some place) is e = absurd cc

    by_registration : (o : Option Registered) → option_and_then (λ r. option_and_then (at_place r) (place_of_gap server.name low r)) o ≡ None → option_and_then (λ r. option_and_then (at_place r) (place_of_gap server.name high r)) o ≡ None
    by_registration None e = refl
    by_registration (Some r) e = by_place r (place_of_gap server.name low r) refl e

-- so are all members
members_kept : (server : Server) (low high : ℕ) → low ≤ high → (members : List Member) → filter_map (member_gap server low) members ≡ [] → filter_map (member_gap server high) members ≡ []
members_kept server low high later [] e = refl
members_kept server low high later (member ∷ members) e = by_first (members_kept server low high later members) (member_gap server low member) refl e
  where
    by_first : (filter_map (member_gap server low) members ≡ [] → filter_map (member_gap server high) members ≡ []) → (o : Option Gap) → member_gap server low member ≡ o → cons_option o (filter_map (member_gap server low) members) ≡ [] → filter_map (member_gap server high) (member ∷ members) ≡ []
    by_first others None is rest = ap₂ (λ (a : Option Gap) (found : List Gap). cons_option a found) (member_kept server low high later member is) (others rest)
    by_first others (Some gap) is rest = absurd cc

-- the first of some gaps, or another one if there is none
abbrev first_else : Option Gap → List Gap → Option Gap
first_else other [] = other
first_else other (gap ∷ rest) = Some gap

-- if there is no first one and no other, there is none
none_first : (other : Option Gap) (found : List Gap) → first_else other found ≡ None → (found ≡ []) × (other ≡ None)
none_first other [] e = (refl, e)
none_first other (gap ∷ rest) e = absurd cc

-- the gap that a set with these members has after a point
abbrev gap_from : Server → List Member → ℕ → Option Gap
gap_from server members point = first_else (uow_gap server point members) (filter_map (member_gap server point) members)

-- a set without a gap after a point has none after a later one
gap_kept : (server : Server) (members : List Member) (low high : ℕ) → low ≤ high → gap_from server members low ≡ None → gap_from server members high ≡ None
gap_kept server members low high later e =
    let none = none_first (uow_gap server low members) (filter_map (member_gap server low) members) e in
    ap (first_else (uow_gap server high members)) (members_kept server low high later members none.0)
    ∙ by_test (nat_lt low server.floor) refl none.1
  where
    pruned : Gap
    pruned = record { place = gaps.Uow server.name server.floor; disabled = list_any (is_disabled server) members }

    by_test : (b : Bool) → nat_lt low server.floor ≡ b → cond b (Some pruned) None ≡ None → cond (nat_lt high server.floor) (Some pruned) None ≡ None
    by_test true is now = absurd cc
    by_test false is now = ap (λ (b : Bool). cond b (Some pruned) None) (none_above_later low high server.floor later is)

-- ---- a signal

-- the action is a signal or a refresh
abbrev is_of_refresh : Action → Bool
is_of_refresh signals = true
is_of_refresh refreshes = true
is_of_refresh (blocks upto) = false
is_of_refresh reports = false
is_of_refresh idles = false
is_of_refresh (refuses place) = false

-- what is one of both isn't another
not_of_refresh : {A : Type 0} (action next : Action) → is_of_refresh action ≡ true → is_of_refresh next ≡ false → next ≡ action → A
not_of_refresh action next e other now = absurd (true≢false (sym e ∙ ap is_of_refresh (sym now) ∙ other))

-- a refresh that is called for is one of both
refresh_is : (k : KnownSet) → is_of_refresh (refresh_by_signal k) ≡ true
refresh_is k = by_test (nat_le k.at_source.signal (base_of k.at_target.trail))
  where
    by_test : (b : Bool) → is_of_refresh (cond b signals refreshes) ≡ true
    by_test true = refl
    by_test false = refl

-- what is done at rest is neither
rests : (k : KnownSet) → is_of_refresh (at_rest k) ≡ false
rests k = by_test (nat_lt k.at_source.mark (synchpoint k.at_target.trail))
  where
    by_test : (b : Bool) → is_of_refresh (cond b reports idles) ≡ false
    by_test true = refl
    by_test false = refl

-- nor is what is done without a gap
goes_on : (k : KnownSet) (cut : Option Unit) → is_of_refresh (cut_or (at_rest k) cut) ≡ false
goes_on k None = rests k
goes_on k (Some u) = refl

-- If a signal or a refresh is next, a refresh is called for. So it is with any other last signal, and the steps left
-- are those of a refresh.
refresh_next : (k : KnownSet) (action : Action) → is_of_refresh action ≡ true → next_action k ≡ action
    → (refresh_by_signal k ≡ action) × ((signal : ℕ) → let l = record k { at_source = record k.at_source { signal = signal } } in steps_left l ≡ refresh_steps l)
refresh_next k action e next = by_tests (is_new k.at_target.trail || k.at_target.flag) (nat_le k.source.captured (synchpoint k.at_target.trail)) (gap_of k) next
  where
    is_behind : Bool
    is_behind = nat_lt k.at_source.mark (synchpoint k.at_target.trail)

    with_signal : ℕ → KnownSet
    with_signal signal = record k { at_source = record k.at_source { signal = signal } }

    by_disabled : (gap : Gap) (b : Bool) → cond b (refuses gap.place) (refresh_by_signal k) ≡ action
        → (refresh_by_signal k ≡ action) × ((signal : ℕ) → cond b 1 (refresh_steps (with_signal signal)) ≡ refresh_steps (with_signal signal))
    by_disabled gap true now = not_of_refresh action (refuses gap.place) e refl now
    by_disabled gap false now = (now, λ signal. refl)

    by_tests : (a b : Bool) (gap : Option Gap) → cond a (refresh_by_signal k) (cond b (at_rest k) (by_gap None k gap)) ≡ action
        → (refresh_by_signal k ≡ action) × ((signal : ℕ) → cond a (refresh_steps (with_signal signal)) (cond b (cond is_behind 2 1) (steps_by_gap (with_signal signal) gap)) ≡ refresh_steps (with_signal signal))
    by_tests true b gap now = (now, λ signal. refl)
    by_tests false true gap now = not_of_refresh action (at_rest k) e (rests k) now
    by_tests false false None now = not_of_refresh action (by_gap None k None) e (goes_on k (first_cut k.at_source.def (next_units None k))) now
    by_tests false false (Some gap) now = by_disabled gap gap.disabled now

-- a number is below another, if they are two numbers of which that holds
below_by : (m n a b : ℕ) → m ≡ a → n ≡ b → a < b → m < n
below_by m n a b e f h = omega (arith, e, f, h)

-- a signal after the last refresh leaves fewer steps
fewer_by_signal : (k : KnownSet) (seq : ℕ) → base_of k.at_target.trail < seq → next_action k ≡ signals → steps_left (record k { at_source = record k.at_source { signal = seq } }) < steps_left k
fewer_by_signal k seq above next =
    let refresh = refresh_next k signals refl next in
    below_by (steps_left (record k { at_source = record k.at_source { signal = seq } })) (steps_left k) 3 4
    (refresh.1 seq ∙ ap (λ (b : Bool). cond b 4 3) (lt-leb seq (base_of k.at_target.trail) above))
    (refresh.1 k.at_source.signal ∙ by_test (nat_le k.at_source.signal (base_of k.at_target.trail)) refresh.0)
    (omega arith)
  where
    by_test : (b : Bool) → cond b signals refreshes ≡ signals → ◌≡◌ {A = ℕ} (cond b 4 3) 4
    by_test true now = refl
    by_test false now = absurd cc

-- the last refresh is within a log in which the trail ends
base_within : (len base : ℕ) (trail : Trail) → EndsWithin len trail → base ≤ len → fold base_after base trail ≤ len
base_within len base [] ends h = h
base_within len base (refresh p q ∷ trail) ends h = base_within len p trail ends.1 ends.0.0
base_within len base (block low high q ∷ trail) ends h = base_within len base trail ends.1 h
base_within len base (load m f rows ∷ trail) ends h = base_within len base trail ends.1 h
base_within len base (settle m f rejected applied ∷ trail) ends h = base_within len base trail ends.1 h

-- a signal has records
signal_is_long : (def : SetDef) (log : List LogRecord) → 0 < length (signal_records def log)
signal_is_long def log =
    omega (arith, length-append (map (λ table. records.Change 0 (Start table)) (source_tables def)) (records.Commit 0 (last_time (units log)) def.id.qual (Some def.id) ∷ []))

-- ---- a refresh and a block

-- three steps are left before a refresh
three_left : (k : KnownSet) → next_action k ≡ refreshes → steps_left k ≡ 3
three_left k next =
    let refresh = refresh_next k refreshes refl next in
    refresh.1 k.at_source.signal ∙ by_test (nat_le k.at_source.signal (base_of k.at_target.trail)) refresh.0
  where
    by_test : (b : Bool) → cond b signals refreshes ≡ refreshes → ◌≡◌ {A = ℕ} (cond b 4 3) 3
    by_test true now = absurd cc
    by_test false now = refl

-- the steps that a set has left at most, if it was refreshed, no refresh was asked for, and it has no gap
few_left : (k : KnownSet) → is_new k.at_target.trail ≡ false → k.at_target.flag ≡ false → (synchpoint k.at_target.trail < k.source.captured → gap_of k ≡ None) → steps_left k ≤ k.source.captured - synchpoint k.at_target.trail + 2
few_left k old calm no_gap = by_tests (is_new k.at_target.trail || k.at_target.flag) (nat_le k.source.captured (synchpoint k.at_target.trail)) (nat_lt k.at_source.mark (synchpoint k.at_target.trail)) (ap₂ (λ (a b : Bool). a || b) old calm) refl
  where
    left : ℕ
    left = k.source.captured - synchpoint k.at_target.trail + 2

    by_tests : (a b c : Bool) → a ≡ false → nat_le k.source.captured (synchpoint k.at_target.trail) ≡ b → cond a (refresh_steps k) (cond b (cond c 2 1) (steps_by_gap k (gap_of k))) ≤ left
    by_tests true b c e behind = absurd (true≢false e)
    by_tests false true true e behind = omega arith
    by_tests false true false e behind = omega arith
    by_tests false false c e behind = subst (λ (gap : Option Gap). steps_by_gap k gap ≤ left) (sym (no_gap (leb-false k.source.captured (synchpoint k.at_target.trail) behind))) (omega arith)

-- with one more entry a set isn't new
never_new : (trail : Trail) (entry : Entry) → is_new (trail ++ entry ∷ []) ≡ false
never_new [] entry = refl
never_new (e ∷ trail) entry = refl

-- the set with one more entry, and with this flag
abbrev with_entry : KnownSet → Bool → Entry → KnownSet
with_entry k flag entry = record k { at_target = record k.at_target { flag = flag; trail = k.at_target.trail ++ entry ∷ [] } }

-- the steps that it has left at most, if it has no gap after the point of the entry
few_with_entry : (k : KnownSet) (flag : Bool) (entry : Entry) → flag ≡ false → (point_after entry < k.source.captured → gap_from k.source k.at_source.def.members (point_after entry) ≡ None)
    → steps_left (with_entry k flag entry) ≤ k.source.captured - point_after entry + 2
few_with_entry k flag entry calm no_gap =
    let reached = reached_with k.at_target.trail entry in
    subst (λ (point : ℕ). steps_left (with_entry k flag entry) ≤ k.source.captured - point + 2) reached
    (few_left (with_entry k flag entry) (never_new k.at_target.trail entry) calm (subst (λ (point : ℕ). point < k.source.captured → gap_from k.source k.at_source.def.members point ≡ None) (sym reached) no_gap))

-- what is at most 2, since a point is reached, is below 3
falls_to_two : (m n captured point : ℕ) → m ≤ captured - point + 2 → captured ≤ point → n ≡ 3 → m < n
falls_to_two m n captured point few all before = omega (arith, few, all, before)

-- a refresh leaves fewer steps
fewer_by_refresh : (k : KnownSet) → NumbersAreSound k.source → next_action k ≡ refreshes → steps_left (with_entry k false (refresh_entry k)) < steps_left k
fewer_by_refresh k numbers next =
    falls_to_two (steps_left (with_entry k false (refresh_entry k))) (steps_left k) k.source.captured (last_commit k.source.log)
    (few_with_entry k false (refresh_entry k) refl (λ behind. absurd (omega (arith, behind, all)))) all (three_left k next)
  where
    all : k.source.captured ≤ last_commit k.source.log
    all = seq_or_zero_up_to_last k.source.log k.source.captured numbers.captured

-- what is left up to a number falls as a point rises
falls_with_point : (m n captured low high : ℕ) → m ≤ captured - high + 2 → n ≡ captured - low + 2 → low < captured → low < high → m < n
falls_with_point m n captured low high few before ahead above = omega (arith, few, before, ahead, above)

-- a block leaves fewer steps
fewer_by_block : (k : KnownSet) (upto : ℕ) → NumbersAreSound k.source → next_action k ≡ blocks upto → steps_left (with_entry k k.at_target.flag (block_entry k upto)) < steps_left k
fewer_by_block k upto numbers next =
    falls_with_point (steps_left (with_entry k k.at_target.flag (block_entry k upto))) (steps_left k) k.source.captured (synchpoint k.at_target.trail) upto
    (few_with_entry k k.at_target.flag (block_entry k upto) known.calm (λ behind. gap_kept k.source k.at_source.def.members (synchpoint k.at_target.trail) upto (omega (arith, above)) known.gap))
    before known.ahead above
  where
    known : BlocksNext None k upto
    known = block_is_next None k upto next

    above : synchpoint k.at_target.trail < upto
    above = (next_block_may None k upto known).above

    before : steps_left k ≡ k.source.captured - synchpoint k.at_target.trail + 2
    before =
        ap (λ (a : Bool). cond a (refresh_steps k) (cond (nat_le k.source.captured (synchpoint k.at_target.trail)) (report_steps k) (steps_by_gap k (gap_of k)))) (ap₂ (λ (a b : Bool). a || b) known.old known.calm)
        ∙ ap (λ (b : Bool). cond b (report_steps k) (steps_by_gap k (gap_of k))) (lt-leb k.source.captured (synchpoint k.at_target.trail) known.ahead)
        ∙ ap (steps_by_gap k) known.gap

-- ---- a report

-- a report leaves fewer steps
fewer_by_report : (k : KnownSet) → NumbersAreSound k.source → next_action k ≡ reports → steps_left (record k { at_source = record k.at_source { mark = synchpoint k.at_target.trail } }) < steps_left k
fewer_by_report k numbers next = by_tests (is_new k.at_target.trail || k.at_target.flag) (nat_le k.source.captured (synchpoint k.at_target.trail)) refl (gap_of k) next
  where
    after : KnownSet
    after = record k { at_source = record k.at_source { mark = synchpoint k.at_target.trail } }

    no_refresh : {A : Type 0} → refresh_by_signal k ≡ reports → A
    no_refresh now = not_of_refresh (refresh_by_signal k) reports (refresh_is k) refl (sym now)

    by_disabled : {A : Type 0} (gap : Gap) (b : Bool) → cond b (refuses gap.place) (refresh_by_signal k) ≡ reports → A
    by_disabled gap true now = absurd cc
    by_disabled gap false now = no_refresh now

    no_block : {A : Type 0} (cut : Option Unit) → (u : Unit) × (cut ≡ Some u) → cut_or (at_rest k) cut ≡ reports → A
    no_block None some now = absurd (none-some some.0 some.1)
    no_block (Some u) some now = absurd cc

    by_mark : (b : Bool) → cond b reports idles ≡ reports → cond (nat_lt (synchpoint k.at_target.trail) (synchpoint k.at_target.trail)) 2 1 < cond b 2 1
    by_mark true now = subst (λ (b : Bool). cond b 2 1 < 2) (sym (le-ltb (synchpoint k.at_target.trail) (synchpoint k.at_target.trail) (omega arith))) (omega arith)
    by_mark false now = absurd cc

    by_tests : (a b : Bool) → nat_le k.source.captured (synchpoint k.at_target.trail) ≡ b → (gap : Option Gap) → cond a (refresh_by_signal k) (cond b (at_rest k) (by_gap None k gap)) ≡ reports
        → cond a (refresh_steps after) (cond b (report_steps after) (steps_by_gap after gap)) < cond a (refresh_steps k) (cond b (report_steps k) (steps_by_gap k gap))
    by_tests true b behind gap now = no_refresh now
    by_tests false true behind gap now = by_mark (nat_lt k.at_source.mark (synchpoint k.at_target.trail)) now
    by_tests false false behind None now =
        let ahead = leb-false k.source.captured (synchpoint k.at_target.trail) behind in
        no_block (first_cut k.at_source.def (next_units None k))
        (some_cut k.at_source.def k.source.log (synchpoint k.at_target.trail) k.source.captured ahead (seq_above k.source.log (synchpoint k.at_target.trail) k.source.captured ahead numbers.captured)) now
    by_tests false false behind (Some gap) now = by_disabled gap gap.disabled now

-- ---- all actions

-- each action that is a commit leaves fewer steps
pub each_leaves_fewer : NextActionsRest
each_leaves_fewer world k id sound named read_only commits = by_action (next_action k) refl commits
  where
    known : In k (known_sets world)
    known = (found_in (λ (l : KnownSet). same_set id l.at_target.def.id) (known_sets world) k named).0

    i : In k (read_only_sets (known_sets world))
    i = kept_by (λ (l : KnownSet). not (is_replica_set l.at_target.def)) (known_sets world) k known read_only

    numbers : NumbersAreSound k.source
    numbers = at_one NumbersAreSound world k.source sound.numbers (source_in world k (set_stands world k i))

    more : List LogRecord
    more = signal_records k.at_source.def k.source.log

    seq : ℕ
    seq = length k.source.log + length more

    base : base_of k.at_target.trail ≤ length k.source.log
    base = base_within (length k.source.log) 0 k.at_target.trail (trail_within k (at_one TrailIsSound (read_only_sets (known_sets world)) k sound.trails i)) (omega arith)

    by_action : (action : Action) → next_action k ≡ action → IsTrue (commits_world action) → HasFewerLeft (after_action world k action) id k
    by_action signals is c = subst (λ (w : World). HasFewerLeft w id k) (sym (signal_is world k sound i))
        (fewer_at_source (grown k.source.name more world) id (record k { source = with_more more k.source; target = grown_server k.source.name more k.target }) (λ side. record side { signal = seq })
        (record { def = λ side. refl; t = λ side. refl; d = λ side. refl; codes = λ side. refl })
        (grown_named more world id k named)
        (fewer_by_signal k seq (omega (arith, base, signal_is_long k.at_source.def k.source.log)) is))
    by_action refreshes is c = subst (λ (w : World). HasFewerLeft w id k) (sym (both_changes world k (refresh_entry k)))
        (fewer_at_target world id k (λ side. record side { flag = false; trail = side.trail ++ refresh_entry k ∷ [] }) (record { def = λ side. refl; signal = λ side. refl }) named
        (fewer_by_refresh k numbers is))
    by_action (blocks upto) is c = fewer_at_target world id k (λ side. record side { trail = side.trail ++ block_entry k upto ∷ [] }) (record { def = λ side. refl; signal = λ side. refl }) named
        (fewer_by_block k upto numbers is)
    by_action reports is c = fewer_at_source world id k (λ side. record side { mark = synchpoint k.at_target.trail })
        (record { def = λ side. refl; t = λ side. refl; d = λ side. refl; codes = λ side. refl }) named
        (fewer_by_report k numbers is)
    by_action idles is c = absurd (false≢true c)
    by_action (refuses place) is c = absurd (false≢true c)
