-- What a keeper in memory reveals, after changes of its parts.
use Rattle.std.proofs.Common.{◌≡◌, ℕ, Bool, true, false, cond, List, refl, ap, ◌∙◌}
use Rattle.std.specs.Prelude.{Option, Some, None, IsTrue}
use Rattle.repl_types.specs.declared.area.Area.{Area}
use Rattle.keep_core.specs.Contents.{Contents, put_at}
use Rattle.keep_core.specs.Kept.{Kept, IsOpen, seen_of, closed_with, committed, counted, changed}
use Rattle.keep_map.specs.Planned.{Planned, fails_next, after_call, one_more}

-- what a keeper reveals that holds and sees these contents
abbrev pub kept_from : (held seen : Contents) (is_open : Bool) (faults : ℕ) (reads writes : Area → ℕ) → Kept
kept_from held seen is_open faults reads writes = record {
  held = Some held;
  open_work = cond is_open (Some (Some seen)) None;
  faults = faults;
  reads = reads;
  writes = writes;
}

-- the plan counts no fault at a call that doesn't fail
pub no_fault : (p q : Planned) → q ≡ after_call p → fails_next p ≡ false → q.faults ≡ p.faults
no_fault p q is fails = ap (λ (r : Planned). r.faults) is ∙ ap (λ (b : Bool). cond b (one_more p.faults) p.faults) fails

-- if what it reveals says that no transaction is open, none is
pub not_open : (is_open : Bool) (work : Option Contents) → cond is_open (Some work) None ≡ None → is_open ≡ false
not_open false work e = refl
not_open true work e = absurd cc

-- a read sees what an open transaction sees, and what is held if that is the same while none is open
pub seen_is : (held seen : Contents) (is_open : Bool) → (is_open ≡ false → held ≡ seen) → seen_of (Some held) (cond is_open (Some (Some seen)) None) ≡ Some seen
seen_is held seen true idle = refl
seen_is held seen false idle = ap (λ (c : Contents). Some c) (idle refl)

module _ (held seen : Contents) (is_open : Bool) (faults : ℕ) (reads writes : Area → ℕ) where
  -- what it reveals after its transaction saw a change
  pub sees_change : (held2 seen2 : Contents) (faults2 : ℕ) (writes2 : Area → ℕ) (a : Area) (t : ℕ) (k : List ℕ) (v : Option (List ℕ)) → IsOpen (kept_from held seen is_open faults reads writes) → held2 ≡ held → seen2 ≡ put_at seen a t k v → faults2 ≡ faults → writes2 ≡ counted writes a → kept_from held2 seen2 is_open faults2 reads writes2 ≡ changed (kept_from held seen is_open faults reads writes) a t k v
  sees_change held2 seen2 faults2 writes2 a t k v is_one same put no_faults count = by_cases is_open is_one
    where
      by_cases : (b : Bool) → IsOpen (kept_from held seen b faults reads writes) → kept_from held2 seen2 b faults2 reads writes2 ≡ changed (kept_from held seen b faults reads writes) a t k v
      by_cases false none = absurd (let e : false ≡ true = none in cc)
      by_cases true one = λ i. kept_from (same i) (put i) true (no_faults i) reads (count i)

  -- what it reveals after its transaction ended
  pub closes : (held2 seen2 : Contents) (keep : Bool) → (IsTrue keep → IsOpen (kept_from held seen is_open faults reads writes)) → held2 ≡ cond keep seen held → kept_from held2 seen2 false faults reads writes ≡ closed_with (cond keep (committed (kept_from held seen is_open faults reads writes)) (kept_from held seen is_open faults reads writes)) faults
  closes held2 seen2 false is_one same = λ i. kept_from (same i) seen2 false faults reads writes
  closes held2 seen2 true is_one same = by_cases is_open (is_one refl)
    where
      by_cases : (b : Bool) → IsOpen (kept_from held seen b faults reads writes) → kept_from held2 seen2 false faults reads writes ≡ closed_with (committed (kept_from held seen b faults reads writes)) faults
      by_cases false none = absurd (let e : false ≡ true = none in cc)
      by_cases true one = λ i. kept_from (same i) seen2 false faults reads writes
