-- What each call makes of rows in runs and of rows beside them together.
use Rattle.std.proofs.Common.{◌≡◌, ℕ, Bool, true, false, cond, List, inl, inr, refl, sym, ap, subst, ◌∙◌}
use Rattle.std.specs.Prelude.{Option, Some, None, is_some, not, ◌||◌, Result, Ok, Err, OnOk, OnErr}
use Rattle.std.specs.BTreeMap.{BTreeMap}
use Rattle.repl_types.specs.Area.{area_number}
use Rattle.repl_types.specs.declared.area.Area.{Area}
use Rattle.keep_core.specs.Contents.{put_at}
use Rattle.keep_map.specs.Apart.{IsBare, AreDisjoint}
use Rattle.keep_map.specs.Merged.{both}
use Rattle.keep_map.specs.Places.{Place, Values, put_value, contents_of}
use Rattle.keep_map.specs.Put.{RunsPut}
use Rattle.rows_in_runs.specs.Runs.{value_in}
use Rattle.keep_map.specs.Scattered.{row_at, rows_seen, rows_held}
use Rattle.keep_map.specs.Tables.{TablePlace, Tables, seen_in_run, runs_seen, RunsBecome}
use Rattle.keep_map.specs.declared.slot.Slot.{Slot}
use Rattle.keep_map.specs.declared.stored_row.StoredRow.{StoredRow}
use Rattle.keep_map.proofs.Seen.{contents_put, put_same}
use Rattle.keep_map.proofs.Disjoint.{put_first, put_second, remove_both, first_counts, bare, apart_kept, apart_put, apart_beside, apart_removed, apart_same}

-- if a value is put at a place, it is put in the contents there
pub put_there : (f g : Values) (t : TablePlace) (a : Area) (n : ℕ) (k : List ℕ) (v : Option (List ℕ)) → t ≡ (area_number a, n) → g ≡ put_value f (t.0, t.1, k) v → contents_of g ≡ put_at (contents_of f) a n k v
put_there f g t a n k v is put = ap contents_of put ∙ ap (λ (u : TablePlace). contents_of (put_value f (u.0, u.1, k) v)) is ∙ contents_put f a n k v

module _ (f : Tables) (m : BTreeMap Slot StoredRow) (apart : AreDisjoint f m) (t : TablePlace) (k : List ℕ) where
  -- the values at the key
  abbrev here : Place
  here = (t.0, t.1, k)

  -- beside a run that sees a value, or that says that nothing is beside it, the place is bare
  pub bare_beside : (found more : Bool) → is_some (seen_in_run (f t) k) ≡ found → more ≡ (f t).has_more → (found || not more) ≡ true → IsBare m here
  bare_beside true more there has e = apart.rows t k (some ((f t).now k) there)
    where
      some : (r : Option (Option (List ℕ))) → is_some (value_in r) ≡ true → is_some r ≡ true
      some None there = there
      some (Some value) there = refl
  bare_beside false true there has e = absurd cc
  bare_beside false false there has e = apart.more t k (sym has)

  -- what a run gives is given if nothing is beside it
  pub found_in_run : (found more : Bool) (out : List ℕ) → seen_in_run (f t) k ≡ cond found (Some out) None → more ≡ (f t).has_more → (found || not more) ≡ true → both (runs_seen f) (rows_seen m) here ≡ cond found (Some out) None
  found_in_run found more out is has e = first_counts (runs_seen f here) (rows_seen m here) (bare_beside found more (ap (λ (v : Option (List ℕ)). is_some v) is ∙ some found) has e).seen ∙ is
    where
      some : (b : Bool) → is_some (cond b (Some out) None) ≡ b
      some true = refl
      some false = refl

  -- so is whether there is a value
  pub there_in_run : (found more : Bool) → is_some (seen_in_run (f t) k) ≡ found → more ≡ (f t).has_more → (found || not more) ≡ true → is_some (both (runs_seen f) (rows_seen m) here) ≡ found
  there_in_run found more there has e = ap (λ (v : Option (List ℕ)). is_some v) (first_counts (runs_seen f here) (rows_seen m here) (bare_beside found more there has e).seen) ∙ there

  -- a place without a row in the run is bare if that row may be new
  pub bare_for_new : ((f t).now k ≡ None → (f t).has_more ≡ true → row_at m here ≡ None) → (f t).now k ≡ None → IsBare m here
  bare_for_new new none = by_cases (f t).has_more refl
    where
      by_cases : (b : Bool) → (f t).has_more ≡ b → IsBare m here
      by_cases true more = bare m here (new none more)
      by_cases false more = apart.more t k more

-- a run beside which there is nothing has the table
pub all_in_run : (f : Tables) (m : BTreeMap Slot StoredRow) → AreDisjoint f m → (t : TablePlace) → not (f t).has_more ≡ true → seen_in_run (f t) ≡ (λ k. both (runs_seen f) (rows_seen m) (t.0, t.1, k))
all_in_run f m apart t none = λ i k. sym (first_counts (seen_in_run (f t) k) (rows_seen m (t.0, t.1, k)) (apart.more t k (is_false (f t).has_more none)).seen) i
  where
    is_false : (b : Bool) → not b ≡ true → b ≡ false
    is_false false e = refl
    is_false true e = absurd cc

-- ---- a put and a removal

module _ (f g : Tables) (m : BTreeMap Slot StoredRow) (apart : AreDisjoint f m) (t : TablePlace) (k : List ℕ) (a : Area) (n : ℕ) (is : t ≡ (area_number a, n)) where
  -- the place of the key
  abbrev spot : Place
  spot = (t.0, t.1, k)

  -- what holds at the place of the contents holds at the key
  at_spot : (P : Place → Type 0) → P (area_number a, n, k) → P spot
  at_spot P = subst (λ (u : TablePlace). P (u.0, u.1, k)) (sym is)

  -- a value that a run takes is put in the contents
  pub seen_in_place : (value : List ℕ) → RunsPut t k value m f g true → contents_of (both (runs_seen g) (rows_seen m)) ≡ put_at (contents_of (both (runs_seen f) (rows_seen m))) a n k (Some value)
  seen_in_place value puts = put_there (both (runs_seen f) (rows_seen m)) (both (runs_seen g) (rows_seen m)) t a n k (Some value) is (put_first (runs_seen f) (runs_seen g) (rows_seen m) spot value puts.0.seen)

  -- and leaves the rows apart
  pub apart_in_place : (value : List ℕ) → RunsPut t k value m f g true → AreDisjoint g m
  apart_in_place value puts = apart_put f g m apart spot (Some value) (inr (bare_for_new f m apart t k puts.1)) puts.0

  -- a value that is put beside the runs is put in the contents
  pub seen_beside : (o : BTreeMap Slot StoredRow) (value : List ℕ) → RunsPut t k value m f g false → rows_seen o ≡ put_value (rows_seen m) (area_number a, n, k) (Some value) → contents_of (both (runs_seen g) (rows_seen o)) ≡ put_at (contents_of (both (runs_seen f) (rows_seen m))) a n k (Some value)
  seen_beside o value puts put =
      put_there (both (runs_seen f) (rows_seen m)) (both (runs_seen g) (rows_seen o)) t a n k (Some value) is
      (put_second (runs_seen f) (runs_seen g) (rows_seen m) (rows_seen o) spot (Some value) puts.0.seen (ap value_in puts.1) (at_spot (λ (p : Place). rows_seen o ≡ put_value (rows_seen m) p (Some value)) put))

  -- and leaves the rows apart, whether it succeeds or fails
  pub apart_by_put : {T E : Type 0} (r : Result T E) (o : BTreeMap Slot StoredRow) (value : List ℕ) → RunsPut t k value m f g false → OnOk r (rows_seen o ≡ put_value (rows_seen m) (area_number a, n, k) (Some value)) → OnErr r (rows_seen o ≡ rows_seen m) → rows_held o ≡ rows_held m → AreDisjoint g o
  apart_by_put (Ok x) o value puts ok err held = apart_beside g m o t k (Some value) puts.1 puts.2 (at_spot (λ (p : Place). rows_seen o ≡ put_value (rows_seen m) p (Some value)) ok) held (apart_kept f g m apart puts.0)
  apart_by_put (Err e) o value puts ok err held = apart_same g m o err held (apart_kept f g m apart puts.0)

  module _ (becomes : RunsBecome (put_value (runs_seen f) (t.0, t.1, k) None) f g) where
    -- a run from which a value was removed is still apart
    pub apart_by_run : AreDisjoint g m
    apart_by_run = apart_put f g m apart spot None (inl refl) becomes

    -- if the place beside the run is bare, the value is removed from the contents
    pub removed_in_run : IsBare m (t.0, t.1, k) → contents_of (both (runs_seen g) (rows_seen m)) ≡ put_at (contents_of (both (runs_seen f) (rows_seen m))) a n k None
    removed_in_run is_bare = put_there (both (runs_seen f) (rows_seen m)) (both (runs_seen g) (rows_seen m)) t a n k None is (remove_both (runs_seen f) (runs_seen g) (rows_seen m) (rows_seen m) spot becomes.seen (put_same (rows_seen m) spot None is_bare.seen))

    -- so it is if it was removed beside the run
    pub removed_beside : (o : BTreeMap Slot StoredRow) → rows_seen o ≡ put_value (rows_seen m) (area_number a, n, k) None → contents_of (both (runs_seen g) (rows_seen o)) ≡ put_at (contents_of (both (runs_seen f) (rows_seen m))) a n k None
    removed_beside o removed = put_there (both (runs_seen f) (rows_seen m)) (both (runs_seen g) (rows_seen o)) t a n k None is (remove_both (runs_seen f) (runs_seen g) (rows_seen m) (rows_seen o) spot becomes.seen (at_spot (λ (p : Place). rows_seen o ≡ put_value (rows_seen m) p None) removed))

    -- and the rows stay apart, whether that succeeds or fails
    pub apart_by_removal : {T E : Type 0} (r : Result T E) (o : BTreeMap Slot StoredRow) → OnOk r (rows_seen o ≡ put_value (rows_seen m) (area_number a, n, k) None) → OnErr r (rows_seen o ≡ rows_seen m) → rows_held o ≡ rows_held m → AreDisjoint g o
    apart_by_removal (Ok x) o ok err held = apart_removed g m o spot (at_spot (λ (p : Place). rows_seen o ≡ put_value (rows_seen m) p None) ok) held apart_by_run
    apart_by_removal (Err e) o ok err held = apart_same g m o err held apart_by_run
