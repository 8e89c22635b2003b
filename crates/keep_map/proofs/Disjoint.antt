-- Rows in runs and rows beside them stay apart, and what they make together.
use Rattle.std.proofs.Common.{◌≡◌, ℕ, Bool, true, false, cond, List, inl, inr, refl, sym, ap, subst, ◌∙◌}
use Rattle.std.specs.Prelude.{◌⊎◌, Option, Some, None, is_some}
use Rattle.std.specs.Option.{option_or}
use Rattle.std.specs.BTreeMap.{BTreeMap}
use Rattle.keep_map.specs.Apart.{IsBare, AreDisjoint}
use Rattle.keep_map.specs.Merged.{both}
use Rattle.keep_map.specs.Places.{Place, Values, same_place, put_value}
use Rattle.rows_in_runs.specs.Runs.{value_in}
use Rattle.keep_map.specs.Scattered.{row_at, seen_in, held_in, rows_seen, rows_held}
use Rattle.keep_map.specs.Tables.{TablePlace, Tables, no_rows, seen_in_run, runs_seen, RunsBecome, RunsSettle}
use Rattle.keep_map.specs.declared.slot.Slot.{Slot}
use Rattle.keep_map.specs.declared.stored_row.StoredRow.{StoredRow}
use Rattle.keep_map.proofs.Places.{place_is}
use Rattle.keep_map.proofs.RunChanges.{no_and_some}

-- ---- what both make together

-- a value that is put in the first values is put in both
pub put_first : (f g h : Values) (at : Place) (value : List ℕ) → g ≡ put_value f at (Some value) → both g h ≡ put_value (both f h) at (Some value)
put_first f g h at value is = λ i p. (ap (λ (v : Values). option_or (v p) (h p)) is ∙ by_cases p (same_place at p)) i
  where
    by_cases : (p : Place) (b : Bool) → option_or (cond b (Some value) (f p)) (h p) ≡ cond b (Some value) (both f h p)
    by_cases p true = refl
    by_cases p false = refl

-- a value that is put in the second values is put in both, if the first have none there
pub put_second : (f g h j : Values) (at : Place) (value : Option (List ℕ)) → g ≡ f → g at ≡ None → j ≡ put_value h at value → both g j ≡ put_value (both f h) at value
put_second f g h j at value same none is = λ i p. (ap (λ (v : Values). option_or (g p) (v p)) is ∙ by_cases p (same_place at p) refl) i
  where
    by_cases : (p : Place) (b : Bool) → same_place at p ≡ b → option_or (g p) (cond b value (h p)) ≡ cond b value (both f h p)
    by_cases p false e = ap (λ (v : Values). option_or (v p) (h p)) same
    by_cases p true e = ap (λ (v : Option (List ℕ)). option_or v value) (ap g (sym (place_is at p e)) ∙ none)

-- a value that is removed from the first values and from the second is removed from both
pub remove_both : (f g h j : Values) (at : Place) → g ≡ put_value f at None → j ≡ put_value h at None → both g j ≡ put_value (both f h) at None
remove_both f g h j at first second = λ i p. (ap (λ (v : Values). option_or (v p) (j p)) first ∙ ap (λ (v : Values). option_or (put_value f at None p) (v p)) second ∙ by_cases p (same_place at p)) i
  where
    by_cases : (p : Place) (b : Bool) → option_or (cond b None (f p)) (cond b None (h p)) ≡ cond b None (both f h p)
    by_cases p true = refl
    by_cases p false = refl

-- if the second values have none, the first count
pub first_counts : (first second : Option (List ℕ)) → second ≡ None → option_or first second ≡ first
first_counts None second none = none
first_counts (Some value) second none = refl

-- ---- no rows

-- if there are no rows, they are apart
pub none_apart : (f : Tables) (m : BTreeMap Slot StoredRow) → f ≡ (λ _. no_rows) → rows_seen m ≡ (λ _. None) → rows_held m ≡ (λ _. None) → AreDisjoint f m
none_apart f m none seen held = record { rows = λ t k _. bare_at (t.0, t.1, k); more = λ t k _. bare_at (t.0, t.1, k) }
  where
    bare_at : (p : Place) → IsBare m p
    bare_at p = record { seen = ap (λ (h : Values). h p) seen; held = ap (λ (h : Values). h p) held }

-- ---- rows stay apart

-- at a place without a row no value is seen or held
pub bare : (m : BTreeMap Slot StoredRow) (p : Place) → row_at m p ≡ None → IsBare m p
bare m p none = record { seen = ap seen_in none; held = ap held_in none }

module _ (f g : Tables) (m : BTreeMap Slot StoredRow) (apart : AreDisjoint f m) where
  -- rows stay apart if each new row of a run is at a bare place
  pub stay_apart : ((t : TablePlace) (k : List ℕ) → (f t).now k ≡ None → ((g t).now k ≡ None) ⊎ IsBare m (t.0, t.1, k)) → ((t : TablePlace) → (f t).has_more ≡ true → (g t).has_more ≡ true) → AreDisjoint g m
  stay_apart new more = record {
    rows = λ t k some. row_cell t k some ((f t).now k) refl;
    more = λ t k none. apart.more t k (more_cell t none ((f t).has_more) refl);
  }
    where
      new_row : (t : TablePlace) (k : List ℕ) → is_some ((g t).now k) ≡ true → ((g t).now k ≡ None) ⊎ IsBare m (t.0, t.1, k) → IsBare m (t.0, t.1, k)
      new_row t k some (inl none) = absurd (no_and_some some none)
      new_row t k some (inr is_bare) = is_bare

      row_cell : (t : TablePlace) (k : List ℕ) → is_some ((g t).now k) ≡ true → (r : Option (Option (List ℕ))) → (f t).now k ≡ r → IsBare m (t.0, t.1, k)
      row_cell t k some None is = new_row t k some (new t k is)
      row_cell t k some (Some value) is = apart.rows t k (ap (λ (r : Option (Option (List ℕ))). is_some r) is)

      more_cell : (t : TablePlace) → (g t).has_more ≡ false → (b : Bool) → (f t).has_more ≡ b → (f t).has_more ≡ false
      more_cell t none false is = is
      more_cell t none true is = absurd (let e : true ≡ false = sym (more t is) ∙ none in cc)

  -- rows stay apart if the runs see what they saw
  pub apart_kept : RunsBecome (runs_seen f) f g → AreDisjoint g m
  apart_kept becomes = stay_apart (λ t k none. inl (becomes.rows t k none (ap value_in none))) becomes.more

  -- rows stay apart if a value is put in a run, or removed there, unless a new row is at a place that isn't bare
  pub apart_put : (at : Place) (v : Option (List ℕ)) → ((v ≡ None) ⊎ ((f (at.0, at.1)).now at.2 ≡ None → IsBare m at)) → RunsBecome (put_value (runs_seen f) at v) f g → AreDisjoint g m
  apart_put at v is_new becomes = stay_apart (λ t k none. row_cell t k none (same_place at (t.0, t.1, k)) refl) becomes.more
    where
      at_place : (t : TablePlace) (k : List ℕ) → same_place at (t.0, t.1, k) ≡ true → (f t).now k ≡ None → ((v ≡ None) ⊎ ((f (at.0, at.1)).now at.2 ≡ None → IsBare m at)) → ((g t).now k ≡ None) ⊎ IsBare m (t.0, t.1, k)
      at_place t k e none (inl removed) = inl (becomes.rows t k none (ap (λ (b : Bool). cond b v (seen_in_run (f t) k)) e ∙ removed))
      at_place t k e none (inr is_bare) = let same = place_is at (t.0, t.1, k) e in
          inr (subst (λ (p : Place). IsBare m p) same (is_bare (subst (λ (p : Place). (f (p.0, p.1)).now p.2 ≡ None) (sym same) none)))

      row_cell : (t : TablePlace) (k : List ℕ) → (f t).now k ≡ None → (b : Bool) → same_place at (t.0, t.1, k) ≡ b → ((g t).now k ≡ None) ⊎ IsBare m (t.0, t.1, k)
      row_cell t k none false e = inl (becomes.rows t k none (ap (λ (b : Bool). cond b v (seen_in_run (f t) k)) e ∙ ap value_in none))
      row_cell t k none true e = at_place t k e none is_new

-- the place of a key in a table
abbrev place : TablePlace → List ℕ → Place
place t k = (t.0, t.1, k)

-- rows stay apart if those beside the runs change only at a place at which the run has no row, and says that there may be others
pub apart_beside : (f : Tables) (m n : BTreeMap Slot StoredRow) (t : TablePlace) (k : List ℕ) (v : Option (List ℕ)) → (f t).now k ≡ None → (f t).has_more ≡ true → rows_seen n ≡ put_value (rows_seen m) (t.0, t.1, k) v → rows_held n ≡ rows_held m → AreDisjoint f m → AreDisjoint f n
apart_beside f m n t k v none more seen held apart = record {
  rows = λ u q some. other u q (λ same. no_and_some some (subst (λ (p : Place). (f (p.0, p.1)).now p.2 ≡ None) same none)) (apart.rows u q some);
  more = λ u q no_more. other u q (λ same. let e : true ≡ false = sym (subst (λ (p : Place). (f (p.0, p.1)).has_more ≡ true) same more) ∙ no_more in cc) (apart.more u q no_more);
}
  where
    other : (u : TablePlace) (q : List ℕ) → (place t k ≡ place u q → ⊥) → IsBare m (u.0, u.1, q) → IsBare n (u.0, u.1, q)
    other u q differs is_bare = by_cases (same_place (t.0, t.1, k) (u.0, u.1, q)) refl
      where
        by_cases : (b : Bool) → same_place (t.0, t.1, k) (u.0, u.1, q) ≡ b → IsBare n (u.0, u.1, q)
        by_cases true e = absurd (differs (place_is (t.0, t.1, k) (u.0, u.1, q) e))
        by_cases false e = record {
          seen = ap (λ (h : Values). h (u.0, u.1, q)) seen ∙ ap (λ (b : Bool). cond b v (rows_seen m (u.0, u.1, q))) e ∙ is_bare.seen;
          held = ap (λ (h : Values). h (u.0, u.1, q)) held ∙ is_bare.held;
        }

-- rows stay apart if a value beside the runs is removed, or nothing changes there
pub apart_removed : (f : Tables) (m n : BTreeMap Slot StoredRow) (at : Place) → rows_seen n ≡ put_value (rows_seen m) at None → rows_held n ≡ rows_held m → AreDisjoint f m → AreDisjoint f n
apart_removed f m n at seen held apart = record {
  rows = λ u q some. bare_still (u.0, u.1, q) (apart.rows u q some);
  more = λ u q none. bare_still (u.0, u.1, q) (apart.more u q none);
}
  where
    bare_still : (p : Place) → IsBare m p → IsBare n p
    bare_still p is_bare = record {
      seen = ap (λ (h : Values). h p) seen ∙ removed (same_place at p) None (rows_seen m p) refl is_bare.seen;
      held = ap (λ (h : Values). h p) held ∙ is_bare.held;
    }
      where
        removed : (b : Bool) (first second : Option (List ℕ)) → first ≡ None → second ≡ None → cond b first second ≡ None
        removed true first second one two = one
        removed false first second one two = two

-- rows stay apart if nothing changes beside the runs
pub apart_same : (f : Tables) (m n : BTreeMap Slot StoredRow) → rows_seen n ≡ rows_seen m → rows_held n ≡ rows_held m → AreDisjoint f m → AreDisjoint f n
apart_same f m n seen held apart = record {
  rows = λ u q some. bare_still (u.0, u.1, q) (apart.rows u q some);
  more = λ u q none. bare_still (u.0, u.1, q) (apart.more u q none);
}
  where
    bare_still : (p : Place) → IsBare m p → IsBare n p
    bare_still p is_bare = record { seen = ap (λ (h : Values). h p) seen ∙ is_bare.seen; held = ap (λ (h : Values). h p) held ∙ is_bare.held }

-- rows are still apart at the end of a transaction
pub apart_settled : (f g : Tables) (m n : BTreeMap Slot StoredRow) (keep : Bool) → RunsSettle keep f g → rows_seen n ≡ cond keep (rows_seen m) (rows_held m) → rows_held n ≡ rows_seen n → AreDisjoint f m → AreDisjoint g n
apart_settled f g m n keep settles seen held apart = record {
  rows = λ t k some. bare_still (t.0, t.1, k) (row_cell t k some ((f t).now k) refl);
  more = λ t k none. bare_still (t.0, t.1, k) (apart.more t k (sym (settles.more t) ∙ none));
}
  where
    row_cell : (t : TablePlace) (k : List ℕ) → is_some ((g t).now k) ≡ true → (r : Option (Option (List ℕ))) → (f t).now k ≡ r → IsBare m (t.0, t.1, k)
    row_cell t k some None is = absurd (no_and_some some (settles.rows t k is))
    row_cell t k some (Some value) is = apart.rows t k (ap (λ (r : Option (Option (List ℕ))). is_some r) is)

    kept_bare : (p : Place) (b : Bool) → IsBare m p → cond b (rows_seen m) (rows_held m) p ≡ None
    kept_bare p true is_bare = is_bare.seen
    kept_bare p false is_bare = is_bare.held

    bare_still : (p : Place) → IsBare m p → IsBare n p
    bare_still p is_bare =
        let unseen = ap (λ (h : Values). h p) seen ∙ kept_bare p keep is_bare in
        record { seen = unseen; held = ap (λ (h : Values). h p) held ∙ unseen }
