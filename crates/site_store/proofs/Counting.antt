-- What one call of a keeper makes of its counts.
use Rattle.std.proofs.Common.{◌≡◌, ℕ, ◌+◌, ◌<◌, ◌≤◌, Bool, true, false, cond, sym, ap, subst, arith, inl, inr, eq-eqb, refl, min, ◌==◌, ◌&&◌}
use Rattle.repl_types.specs.declared.area.Area.{Area}
use Rattle.repl_types.specs.Area.{same_area, area_number}
use Rattle.repl_types.specs.declared.fault.Fault.{Fault}
use Rattle.repl_types.specs.declared.status.DamageCause.{DamageCause}
use Rattle.keep_core.specs.Kept.{Kept, counted}
use Rattle.keep_core.specs.Revealed.{count_max, Rises}
use Rattle.site_store.specs.Calls.{Bounds, only, no_access, reads_of_one, writes_of_one}
use Rattle.site_store.specs.Records.{Halts}

-- a count that rose has risen still if it is later no less
pub rises_later : (a b c : ℕ) → Rises a b → (c < count_max → b ≤ c) → Rises a c
rises_later a b c rose later lt = let le = later lt in let more = rose (omega (arith, le)) in omega (arith, le, more)

-- the count of this area is one more
counted_here : (counts : Area → ℕ) (a : Area) → counted counts a a ≡ min (counts a + 1) count_max
counted_here counts a = ap (λ (t : Bool). cond t (min (counts a + 1) count_max) (counts a)) (eq-eqb (area_number a) (area_number a) refl)

-- so it rose
pub counted_rises : (counts : Area → ℕ) (a : Area) → Rises (counts a) (counted counts a a)
counted_rises counts a = subst (Rises (counts a)) (sym (counted_here counts a)) (λ lt. omega arith)

-- no count falls
counted_grows : (counts : Area → ℕ) (a b : Area) → counted counts a b < count_max → counts b ≤ counted counts a b
counted_grows counts a b = pick (same_area a b)
  where
    pick : (t : Bool) → cond t (min (counts b + 1) count_max) (counts b) < count_max → counts b ≤ cond t (min (counts b + 1) count_max) (counts b)
    pick true lt = omega arith
    pick false lt = omega arith

-- one area's count rises by one at most, and no other's
counted_once : (counts : Area → ℕ) (s : ℕ) (a b : Area) → counted counts a b ≤ counts b + only 1 s a s b
counted_once counts s a b = pick (same_area a b) (s == s) (eq-eqb s s refl)
  where
    pick : (t u : Bool) → u ≡ true → cond t (min (counts b + 1) count_max) (counts b) ≤ counts b + cond (t && u) 1 0
    pick true true e = omega arith
    pick true false e = absurd cc
    pick false u e = omega arith

-- What a call makes of the counts of the keeper of one server.
pub record Counts (s : ℕ) (old new : Kept) (most : Bounds) : Type 0 where
  pub later : old.faults ≤ new.faults
  pub back : (a : Area) → new.reads a < count_max → old.reads a ≤ new.reads a
  pub kept_up : (a : Area) → new.writes a < count_max → old.writes a ≤ new.writes a
  pub reads : (a : Area) → new.reads a ≤ old.reads a + most.reads s a
  pub writes : (a : Area) → new.writes a ≤ old.writes a + most.writes s a

-- a call that reads and writes nothing
pub counts_none : (s : ℕ) (old new : Kept) → old.faults ≤ new.faults → new.reads ≡ old.reads → new.writes ≡ old.writes → Counts s old new no_access
counts_none s old new later reads writes = record {
  later = later;
  back = λ a lt. omega (arith, ap (λ (f : Area → ℕ). f a) reads);
  kept_up = λ b lt. omega (arith, ap (λ (f : Area → ℕ). f b) writes);
  reads = λ a. omega (arith, ap (λ (f : Area → ℕ). f a) reads);
  writes = λ a. omega (arith, ap (λ (f : Area → ℕ). f a) writes);
}

-- a call that reads one area
pub counts_read : (s : ℕ) (old new : Kept) (a : Area) → old.faults ≤ new.faults → new.reads ≡ counted old.reads a → new.writes ≡ old.writes → Counts s old new (reads_of_one 1 s a)
counts_read s old new a later reads writes = record {
  later = later;
  back = λ b. subst (λ (n : ℕ). n < count_max → old.reads b ≤ n) (sym (ap (λ (f : Area → ℕ). f b) reads)) (counted_grows old.reads a b);
  kept_up = λ b lt. omega (arith, ap (λ (f : Area → ℕ). f b) writes);
  reads = λ b. subst (λ (n : ℕ). n ≤ old.reads b + only 1 s a s b) (sym (ap (λ (f : Area → ℕ). f b) reads)) (counted_once old.reads s a b);
  writes = λ b. omega (arith, ap (λ (f : Area → ℕ). f b) writes);
}

-- a call that writes one area
pub counts_written : (s : ℕ) (old new : Kept) (a : Area) → old.faults ≤ new.faults → new.reads ≡ old.reads → new.writes ≡ counted old.writes a → Counts s old new (writes_of_one 1 s a)
counts_written s old new a later reads writes = record {
  later = later;
  back = λ b lt. omega (arith, ap (λ (f : Area → ℕ). f b) reads);
  kept_up = λ b. subst (λ (n : ℕ). n < count_max → old.writes b ≤ n) (sym (ap (λ (f : Area → ℕ). f b) writes)) (counted_grows old.writes a b);
  reads = λ b. omega (arith, ap (λ (f : Area → ℕ). f b) reads);
  writes = λ b. subst (λ (n : ℕ). n ≤ old.writes b + only 1 s a s b) (sym (ap (λ (f : Area → ℕ). f b) writes)) (counted_once old.writes s a b);
}

-- a failed call counts at most what a whole one does
pub counts_halted : (server s : ℕ) (old whole new : Kept) (damage : Area → DamageCause → Type 0) (e : Fault) (most : Bounds) → Counts s old whole most → Halts server old whole new damage e → Counts s old new most
counts_halted server s old whole new damage e most c h = record {
  later = h.later;
  back = λ a. elim h.reads [
    | inl r ↦ λ lt. omega (arith, ap (λ (f : Area → ℕ). f a) r)
    | inr r ↦ subst (λ (n : ℕ). n < count_max → old.reads a ≤ n) (sym (ap (λ (f : Area → ℕ). f a) r)) (c.back a)
  ];
  kept_up = λ a. elim h.writes [
    | inl w ↦ λ lt. omega (arith, ap (λ (f : Area → ℕ). f a) w)
    | inr w ↦ subst (λ (n : ℕ). n < count_max → old.writes a ≤ n) (sym (ap (λ (f : Area → ℕ). f a) w)) (c.kept_up a)
  ];
  reads = λ a. elim h.reads [
    | inl r ↦ omega (arith, ap (λ (f : Area → ℕ). f a) r)
    | inr r ↦ omega (arith, ap (λ (f : Area → ℕ). f a) r, c.reads a)
  ];
  writes = λ a. elim h.writes [
    | inl w ↦ omega (arith, ap (λ (f : Area → ℕ). f a) w)
    | inr w ↦ omega (arith, ap (λ (f : Area → ℕ). f a) w, c.writes a)
  ];
}
