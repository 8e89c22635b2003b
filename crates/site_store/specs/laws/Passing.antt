-- Calls that change nothing, one after another: proofs, and nothing to believe.
use Rattle.std.proofs.Common.{◌≡◌, ℕ, ◌+◌, ◌≤◌, Bool, true, false, cond, List, get_or, refl, ap, ◌∙◌, arith, ◌&&◌, ◌==◌, Option, Some, None, IfSome}
use Rattle.repl_types.specs.Area.{same_area}
use Rattle.repl_types.specs.declared.area.Area.{Area}
use Rattle.repl_types.specs.declared.status.DamageCause.{DamageCause}
use Rattle.repl_types.specs.declared.fault.Fault.TheVariants as faults
use Rattle.keep_core.specs.Contents.{Contents}
use Rattle.keep_core.specs.Kept.{Kept, seen_of}
use Rattle.site_store.specs.declared.sites.Sites.{Sites}
use Rattle.site_store.specs.Servers.{AllClosed}
use Rattle.site_store.specs.Views.{work, sees}
use Rattle.site_store.specs.Calls.{Bounds, both, reads_of_one, Stays, Fails}
use Rattle.site_store.specs.laws.Counts.{IsAtMost, passes_none, passes_within}

-- reads of one area of one server add up
pub reads_more : (m n k s : ℕ) (a : Area) → m + n ≤ k → IsAtMost (both (reads_of_one m s a) (reads_of_one n s a)) (reads_of_one k s a)
reads_more m n k s a le = record { reads = λ q b. pick (same_area a b && (s == q)); writes = λ q b. omega arith }
  where
    pick : (t : Bool) → cond t m 0 + cond t n 0 ≤ cond t k 0
    pick true = le
    pick false = omega arith

-- reads of one area of one server are within more of them
pub reads_within : (m k s : ℕ) (a : Area) → m ≤ k → IsAtMost (reads_of_one m s a) (reads_of_one k s a)
reads_within m k s a le = record { reads = λ q b. pick (same_area a b && (s == q)); writes = λ q b. omega arith }
  where
    pick : (t : Bool) → cond t m 0 ≤ cond t k 0
    pick true = le
    pick false = omega arith

-- nothing is asked of what is seen
pub any_seen : (saw : Option Contents) → IfSome saw (λ _. Unit {0})
any_seen None = tt
any_seen (Some c) = tt

-- what follows from what is seen, if it is seen
pub if_seen : (saw : Option Contents) (P Q : Contents → Type 0) → ((c : Contents) → P c → Q c) → IfSome saw P → IfSome saw Q
if_seen None P Q step h = tt
if_seen (Some c) P Q step h = step c h

-- what follows from two things that are seen
pub if_both_seen : (saw : Option Contents) (N P Q : Contents → Type 0) → ((c : Contents) → N c → P c → Q c) → IfSome saw N → IfSome saw P → IfSome saw Q
if_both_seen None N P Q step g h = tt
if_both_seen (Some c) N P Q step g h = step c g h

module _ {K : Type 0} (kept : K → Kept) where
  -- nothing was called
  pub stays_none : (s0 : Sites K) (x : Bounds) → Stays kept s0 s0 x
  stays_none s0 x = record { passes = passes_none kept s0 x; held = refl; work = refl }

  -- what stays within some bounds stays within wider ones
  pub stays_within : (s0 s1 : Sites K) (x y : Bounds) → Stays kept s0 s1 x → IsAtMost x y → Stays kept s0 s1 y
  stays_within s0 s1 x y stays most = record { passes = passes_within kept s0 s1 x y stays.passes most; held = stays.held; work = stays.work }

  -- each server is seen to have the same
  pub stays_sees : (s0 s1 : Sites K) (x : Bounds) → Stays kept s0 s1 x → (s : ℕ) → sees kept s1 s ≡ sees kept s0 s
  stays_sees s0 s1 x stays s = ap (λ (p : List (Option Contents) × List (Option (Option Contents))). seen_of (get_or p.0 s None) (get_or p.1 s None)) (λ i. (stays.held i, stays.work i))

  -- no transaction is open afterwards if none was
  pub stays_closed : (s0 s1 : Sites K) (x : Bounds) → AllClosed (work kept s0) → Stays kept s0 s1 x → AllClosed (work kept s1)
  stays_closed s0 s1 x closed stays s = ap (λ (l : List (Option (Option Contents))). get_or l s None) stays.work ∙ closed s

  -- memory runs out
  pub no_memory : (s0 s1 : Sites K) (x : Bounds) (damage : ℕ → Area → DamageCause → Type 0) → AllClosed (work kept s0) → Stays kept s0 s1 x → Fails kept s0 s1 x damage faults.Memory
  no_memory s0 s1 x damage closed stays = record {
    closes = record { passes = stays.passes; held = stays.held; closed = stays_closed s0 s1 x closed stays };
    blames = tt;
  }
