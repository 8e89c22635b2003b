-- The changes in flight after one more record, and after further ones.
use Rattle.std.proofs.Common.{◌≡◌, ℕ, ◌+◌, ◌≤◌, Bool, true, false, cond, ◌&&◌, List, [], ◌∷◌, ◌++◌, length, take, Some, None, refl, sym, ap, subst, ◌∙◌, arith, append-nil, append_assoc, ◌==◌, nat_lt, nat_le, filter, IfSome, length-append, length-take}
use Rattle.std.specs.List.{AllByRecursion, filter_map}
use Rattle.std.proofs.lemmas.Bool.{cond-true, le-leb, lt-leb}
use Rattle.std.proofs.lemmas.List.Elements.{filter-append}
use Rattle.repl_model.specs.Words.{all_weaker, all_append, all_filter, filter_none, Change, LogRecord, Placed, At, positions, last_end, change_of, open_changes, each_given, open_changes_abort, open_changes_change, open_changes_commit}
use Rattle.repl_types.specs.declared.record.LogRecord.TheVariants as records
use Rattle.world_commits.specs.readings.Reading.{StartsEmpty, ChangeJoins, EndLeavesNone}
use Rattle.world_commits.specs.laws.Fronts.{length_read, take_next, positions_to_end}

-- ---- positions

-- what holds of the positions of some records holds of those of a transaction's changes among them
pub changes_at : (P : ℕ → Type 0) (tx : ℕ) (ps : List At) → AllByRecursion (λ q. P q.0) ps → AllByRecursion (λ placed. P placed.pos) (filter_map (change_of tx) ps)
changes_at P tx ps all = each_given (λ (placed : Placed). P placed.pos) (change_of tx) ps (all_weaker {X = At} (λ q. P q.0) (λ q. IfSome (change_of tx q) (λ (placed : Placed). P placed.pos)) ps at_one all)
  where
    at_one : (q : At) → P q.0 → IfSome (change_of tx q) (λ (placed : Placed). P placed.pos)
    at_one (pos, records.Change t change) h = by_own (t == tx)
      where
        placed : Placed
        placed = record { pos = pos; change = change }

        by_own : (b : Bool) → IfSome (cond b (Some placed) None) (λ (other : Placed). P other.pos)
        by_own true = h
        by_own false = tt
    at_one (pos, records.Commit t time authid origin) h = tt
    at_one (pos, records.Abort t) h = tt

-- a change in flight stands within the log
open_within : (tx : ℕ) (log : List LogRecord) → AllByRecursion (λ placed. placed.pos ≤ length log) (open_changes tx log)
open_within tx log =
    let within = λ (q : At). nat_lt (last_end tx (length log + 1) log) q.0 && nat_lt q.0 (length log + 1) in
    changes_at (λ pos. pos ≤ length log) tx (filter within (positions log)) (all_filter {X = At} (λ q. q.0 ≤ length log) within (positions log) (positions_to_end log))

-- ---- those from a position on

-- if the position begins after what was read, there are none
pub starts_empty : StartsEmpty
starts_empty start read log tx h =
    let front = take read log in
    let short : length front ≤ read = omega (arith, length-take read log) in
    filter_none (λ (placed : Placed). nat_le start placed.pos) (open_changes tx front)
    (all_weaker (λ (placed : Placed). placed.pos ≤ length front) (λ placed. nat_le start placed.pos ≡ false) (open_changes tx front) (λ placed within. lt-leb start placed.pos (omega arith)) (open_within tx front))

-- a change that is read next joins those of its transaction
pub change_joins : ChangeJoins
change_joins start read log t change tx h e =
    ap (λ (l : List LogRecord). filter from_start (open_changes tx l)) (take_next log read (records.Change t change) e)
    ∙ ap (filter from_start) (open_changes_change tx t change (take read log))
    ∙ ap (λ (n : ℕ). filter from_start (cond (t == tx) (before ++ record { pos = n + 1; change = change } ∷ []) before)) (length_read log read (records.Change t change) e)
    ∙ by_own (t == tx)
  where
    from_start : Placed → Bool
    from_start placed = nat_le start placed.pos

    before : List Placed
    before = open_changes tx (take read log)

    last : List Placed
    last = record { pos = read + 1; change = change } ∷ []

    by_own : (b : Bool) → filter from_start (cond b (before ++ last) before) ≡ cond b (filter from_start before ++ last) (filter from_start before)
    by_own true = filter-append from_start before last ∙ ap (λ (l : List Placed). filter from_start before ++ l) (cond-true _ _ _ (le-leb start (read + 1) h))
    by_own false = refl

-- an end that is read next leaves nothing of its transaction
pub end_leaves_none : EndLeavesNone
end_leaves_none start read log t tx r e = (
  λ time authid origin is. next (records.Commit t time authid origin) is (open_changes_commit tx t time authid origin front),
  λ is. next (records.Abort t) is (open_changes_abort tx t front),
)
  where
    from_start : Placed → Bool
    from_start placed = nat_le start placed.pos

    front : List LogRecord
    front = take read log

    by_own : (b : Bool) → filter from_start (cond b [] (open_changes tx front)) ≡ cond b [] (filter from_start (open_changes tx front))
    by_own true = refl
    by_own false = refl

    next : (last : LogRecord) → r ≡ last → open_changes tx (front ++ last ∷ []) ≡ cond (t == tx) [] (open_changes tx front)
        → filter from_start (open_changes tx (take (read + 1) log)) ≡ cond (t == tx) [] (filter from_start (open_changes tx front))
    next last is law =
        ap (λ (l : List LogRecord). filter from_start (open_changes tx l)) (take_next log read r e ∙ ap (λ (x : LogRecord). front ++ x ∷ []) is)
        ∙ ap (filter from_start) law
        ∙ by_own (t == tx)

-- ---- further records

-- all that transactions have in flight stands at a position or after it
abbrev pub AllFrom : ℕ → List LogRecord → Type 0
AllFrom start log = (tx : ℕ) → AllByRecursion (λ placed. start ≤ placed.pos) (open_changes tx log)

-- so it is after one more record that stands there or later
from_push : (start : ℕ) (log : List LogRecord) (r : LogRecord) → start ≤ length log + 1 → AllFrom start log → AllFrom start (log ++ r ∷ [])
from_push start log (records.Change t change) h all tx = subst (AllByRecursion (λ (placed : Placed). start ≤ placed.pos)) (sym (open_changes_change tx t change log)) (by_own (t == tx))
  where
    last : List Placed
    last = record { pos = length log + 1; change = change } ∷ []

    by_own : (b : Bool) → AllByRecursion (λ (placed : Placed). start ≤ placed.pos) (cond b (open_changes tx log ++ last) (open_changes tx log))
    by_own true = all_append (λ (placed : Placed). start ≤ placed.pos) (open_changes tx log) last (all tx) (h, tt)
    by_own false = all tx
from_push start log (records.Commit t time authid origin) h all tx = subst (AllByRecursion (λ (placed : Placed). start ≤ placed.pos)) (sym (open_changes_commit tx t time authid origin log)) (by_own (t == tx))
  where
    by_own : (b : Bool) → AllByRecursion (λ (placed : Placed). start ≤ placed.pos) (cond b [] (open_changes tx log))
    by_own true = tt
    by_own false = all tx
from_push start log (records.Abort t) h all tx = subst (AllByRecursion (λ (placed : Placed). start ≤ placed.pos)) (sym (open_changes_abort tx t log)) (by_own (t == tx))
  where
    by_own : (b : Bool) → AllByRecursion (λ (placed : Placed). start ≤ placed.pos) (cond b [] (open_changes tx log))
    by_own true = tt
    by_own false = all tx

-- and after further records
pub from_longer : (start : ℕ) (log more : List LogRecord) → start ≤ length log + 1 → AllFrom start log → AllFrom start (log ++ more)
from_longer start log [] h all = subst (AllFrom start) (sym (append-nil log)) all
from_longer start log (r ∷ more) h all = subst (AllFrom start) (append_assoc log (r ∷ []) more)
    (from_longer start (log ++ r ∷ []) more (omega (arith, length-append log (r ∷ []))) (from_push start log r h all))
