-- Reads of servers, one after another.
use Rattle.std.proofs.Common.{◌≡◌, ℕ, List, get_or, refl, sym, ap, subst, Option, None, IfSome}
use Rattle.keep_core.specs.Contents.{Contents}
use Rattle.keep_core.specs.Kept.{Kept, seen_of}
use Rattle.site_store.specs.declared.sites.Sites.{Sites}
use Rattle.site_store.specs.Views.{sees}
use Rattle.site_store.specs.Calls.{no_access, both}
use Rattle.site_store.specs.laws.Counts.{at_most_itself, passes_none, stays_then}
use Rattle.site_store.specs.one_server.Calls.{Looks}

module _ {K : Type 0} (kept : K → Kept) where
  -- nothing was read
  pub looks_none : (s0 : Sites K) → Looks kept s0 s0
  looks_none s0 = record { most = no_access; stays = record { passes = passes_none kept s0 no_access; held = refl; work = refl } }

  -- one read after another
  pub looks_then : (s0 s1 s2 : Sites K) → Looks kept s0 s1 → Looks kept s1 s2 → Looks kept s0 s2
  looks_then s0 s1 s2 a b = record { most = both a.most b.most; stays = stays_then kept s0 s1 s2 a.most b.most (both a.most b.most) a.stays b.stays (at_most_itself (both a.most b.most)) }

  -- what is seen is the same
  pub looks_sees : (s0 s1 : Sites K) → Looks kept s0 s1 → (s : ℕ) → sees kept s1 s ≡ sees kept s0 s
  looks_sees s0 s1 a s = ap (λ (p : List (Option Contents) × List (Option (Option Contents))). seen_of (get_or p.0 s None) (get_or p.1 s None)) (λ i. (a.stays.held i, a.stays.work i))

  -- what was seen before holds of what is seen now
  pub sees_on : (s0 s1 : Sites K) (s : ℕ) (P : Contents → Type 0) → Looks kept s0 s1 → IfSome (sees kept s0 s) P → IfSome (sees kept s1 s) P
  sees_on s0 s1 s P a saw = subst (λ (o : Option Contents). IfSome o P) (sym (looks_sees s0 s1 a s)) saw

  -- and the other way round
  pub sees_back : (s0 s1 : Sites K) (s : ℕ) (P : Contents → Type 0) → Looks kept s0 s1 → IfSome (sees kept s1 s) P → IfSome (sees kept s0 s) P
  sees_back s0 s1 s P a saw = subst (λ (o : Option Contents). IfSome o P) (looks_sees s0 s1 a s) saw
