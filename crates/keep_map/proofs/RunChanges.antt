-- What changes of one run make of the rows of its table.
use Rattle.std.proofs.Common.{◌≡◌, ◌<◌, ℕ, Bool, true, false, cond, List, length, refl, sym, ap, subst, ◌∙◌}
use Rattle.std.specs.Prelude.{Option, Some, None, is_some, Result, Ok, Err, OnErr}
use Rattle.std.proofs.lemmas.Map.Lookups.{exact_bytes}
use Rattle.std.specs.Ordering.{is_eq}
use Rattle.std.specs.declared.cmp.Ordering.{Ordering}
use Rattle.std.specs.declared.cmp.Ordering.TheVariants.{Less, Equal, Greater}
use Rattle.repl_types.specs.Bytes.{bytes_cmp}
use Rattle.keep_core.specs.Contents.{Table, same_key, set_key}
use Rattle.rows_in_runs.specs.Runs.{row_at, value_in, is_settled, key_at, IsSpot, SameHeld, SameRows, SetsRow, OmitsValueless, HasNoRows}
use Rattle.rows_in_runs.specs.laws.Runs.{held_stands, settled_held, above_has_none, at_has_row}
use Rattle.keep_map.specs.Tables.{TableRows, run_rows, no_rows, seen_in_run, RunBecomes}
use Rattle.rows_in_runs.specs.declared.run.Run.{Run}
use Rattle.rows_in_runs.specs.declared.run.Spot.{Spot}
use Rattle.rows_in_runs.specs.declared.run.Spot.TheVariants as spots

-- keys that are the same are equal
pub same_is : (k q : List ℕ) → same_key k q ≡ true → k ≡ q
same_is k q same = exact_bytes k q (tied (bytes_cmp k q) same)
  where
    tied : (o : Ordering) → is_eq o ≡ true → o ≡ Equal
    tied Equal e = refl
    tied Less e = absurd cc
    tied Greater e = absurd cc

-- there is no row and there is one: that is impossible
pub no_and_some : {A : Type 0} {o : Option A} → is_some o ≡ true → o ≡ None → ⊥
no_and_some some none = let e : true ≡ false = sym some ∙ ap (λ r. is_some r) none in cc

-- a run in which nothing changed has the rows that it had
pub same_rows : (old new : Run) (more : Bool) → SameRows old new → run_rows new more ≡ run_rows old more
same_rows old new more same = λ i. record { now = λ k. same.seen k i; held = λ k. same.held k i; has_more = more; is_settled = same.settled i }

-- a run with no rows is as no run
pub rows_of_new : (r : Run) → HasNoRows r → run_rows r false ≡ no_rows
rows_of_new r h = λ i. record { now = λ k. h.none k i; held = λ k. held_stands r k (h.none k) i; has_more = false; is_settled = h.settled i }

-- what stays as it was sees what it saw
pub stays : (old new : TableRows) → new ≡ old → RunBecomes (seen_in_run old) old new
stays old new same = subst (λ r. RunBecomes (seen_in_run old) old r) (sym same) (record { seen = λ k. refl; held = λ k. refl; rows = λ k none _. none; more = λ e. e })

-- a change after which the transaction sees what it saw, and then another
pub then_becomes : (old mid new : TableRows) (seen : Table → Table) → RunBecomes (seen_in_run old) old mid → RunBecomes (seen (seen_in_run mid)) mid new → RunBecomes (seen (seen_in_run old)) old new
then_becomes old mid new seen first second =
    let same : seen_in_run mid ≡ seen_in_run old = λ i k. first.seen k i in
    let next = subst (λ (t : Table). RunBecomes (seen t) mid new) same second in
    record {
      seen = next.seen;
      held = λ k. next.held k ∙ first.held k;
      rows = λ k none unseen. next.rows k (first.rows k none (ap value_in none)) unseen;
      more = λ e. next.more (first.more e);
    }

module _ (old new : Run) (more : Bool) where
  -- a run without some of its rows that have no value
  pub tidied : is_settled old ≡ true → is_settled new ≡ true → OmitsValueless old new → RunBecomes (seen_in_run (run_rows old more)) (run_rows old more) (run_rows new more)
  tidied before after omits = record {
    seen = omits.seen;
    held = λ k. ap value_in (settled_held new after k) ∙ omits.seen k ∙ ap value_in (sym (settled_held old before k));
    rows = λ k none _. omits.none k none;
    more = λ e. e;
  }

  -- a run with the value at one key set, or removed from a row that it has
  pub sets : (key : List ℕ) (v : Option (List ℕ)) → (v ≡ None → is_some (row_at old key) ≡ true) → SetsRow key v old new → SameHeld old new → RunBecomes (set_key (seen_in_run (run_rows old more)) key v) (run_rows old more) (run_rows new more)
  sets key v there set held = record {
    seen = λ k. ap value_in (set k) ∙ seen_at k (same_key key k);
    held = λ k. ap value_in (held k);
    rows = λ k none unseen. set k ∙ rows_at k (same_key key k) refl none unseen;
    more = λ e. e;
  }
    where
      seen_at : (k : List ℕ) (b : Bool) → value_in (cond b (Some v) (row_at old k)) ≡ cond b v (value_in (row_at old k))
      seen_at k true = refl
      seen_at k false = refl

      rows_at : (k : List ℕ) (b : Bool) → same_key key k ≡ b → row_at old k ≡ None → cond b v (value_in (row_at old k)) ≡ None → cond b (Some v) (row_at old k) ≡ None
      rows_at k false e none unseen = none
      rows_at k true e none unseen = absurd (no_and_some (there unseen) (ap (row_at old) (same_is key k e) ∙ none))

-- a run in which the row at a place was set
pub set_at : (first old new : Run) (more : Bool) (key : List ℕ) (v : Option (List ℕ)) (at : ℕ) → (at < length old.rows.items) × (key_at old at ≡ key) → SameRows first old → SetsRow (key_at old at) v old new → SameHeld old new → RunBecomes (set_key (seen_in_run (run_rows first more)) key v) (run_rows first more) (run_rows new more)
set_at first old new more key v at spot same set held =
    let there : v ≡ None → is_some (row_at old key) ≡ true = λ _. ap (λ k. is_some (row_at old k)) (sym spot.1) ∙ at_has_row old at spot.0 in
    subst (λ r. RunBecomes (set_key (seen_in_run r) key v) r (run_rows new more)) (same_rows first old more same)
    (sets old new more key v there (subst (λ k. SetsRow k v old new) spot.1 set) held)

-- removing a value where none is seen changes nothing
pub unset_none : (old new : TableRows) (key : List ℕ) → seen_in_run old key ≡ None → new ≡ old → RunBecomes (set_key (seen_in_run old) key None) old new
unset_none old new key none same = subst (λ (t : Table). RunBecomes t old new) (λ i k. cell k i) (stays old new same)
  where
    cell : (k : List ℕ) → seen_in_run old k ≡ set_key (seen_in_run old) key None k
    cell k = by_cases (same_key key k) refl
      where
        by_cases : (b : Bool) → same_key key k ≡ b → seen_in_run old k ≡ cond b None (seen_in_run old k)
        by_cases false e = refl
        by_cases true e = ap (seen_in_run old) (sym (same_is key k e)) ∙ none

-- a run has a row at a place
pub has_row_at : (first old : Run) (key : List ℕ) (at : ℕ) → (at < length old.rows.items) × (key_at old at ≡ key) → SameRows first old → row_at first key ≡ None → ⊥
has_row_at first old key at spot same none = no_and_some (ap (λ k. is_some (row_at old k)) (sym spot.1) ∙ at_has_row old at spot.0) (same.seen key ∙ none)

-- where a key has no place among the rows, there is no row
pub no_spot : (r : Run) (k : List ℕ) (s : Spot) → IsSpot r k s → ((at : ℕ) → s ≡ spots.At at → ⊥) → row_at r k ≡ None
no_spot r k (spots.At at) h not_at = absurd (not_at at refl)
no_spot r k spots.Above h not_at = above_has_none r k h
no_spot r k spots.Between h not_at = h

-- what becomes of rows that are the same
pub after_same : (old mid new : TableRows) → mid ≡ old → RunBecomes (seen_in_run mid) mid new → RunBecomes (seen_in_run old) old new
after_same old mid new same becomes = subst (λ (r : TableRows). RunBecomes (seen_in_run r) r new) same becomes

-- what holds in any case holds at an error
pub at_error : {T E P : Type 0} (r : Result T E) → P → OnErr r P
at_error (Ok x) p = tt
at_error (Err e) p = p

-- an option that isn't some is none
pub none_of : {A : Type 0} (o : Option A) → is_some o ≡ false → o ≡ None
none_of None e = refl
none_of (Some x) e = absurd cc
