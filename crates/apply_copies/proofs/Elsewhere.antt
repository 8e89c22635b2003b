-- What one server is seen to have, while calls go on at another: proofs.
use Rattle.std.proofs.Common.{◌≡◌, ◌≢◌, ℕ, List, get_or, ap, sym, subst, Option, Some, None, IsSome}
use Rattle.site_store.specs.Words.{Contents, Kept, seen_of, work, sees, IsOpenAt, IsClosedAt, other_work, Rules, Shows, Damages, Looks, GoesOn, Breaks, stops_as, stops_after, goes_saw, saw_then, any_seen}
use Rattle.site_store.specs.declared.sites.Sites.{Sites}
use Rattle.repl_model.specs.Words.{Fault}

-- a server at which a transaction is open isn't one at which none is
pub open_elsewhere : (w : List (Option (Option Contents))) (s q : ℕ) → IsOpenAt w s → IsClosedAt w q → q ≢ s
open_elsewhere w s q open_at closed same = none (get_or w q None) closed (subst (λ (n : ℕ). IsOpenAt w n) (sym same) open_at)
  where
    none : (o : Option (Option Contents)) → o ≡ None → IsSome o → ⊥
    none None e some = cc
    none (Some c) e some = cc

module _ {K : Type 0} (kept : K → Kept) where
  -- reads anywhere, after which the transaction sees what it saw
  pub goes_looked : (s0 s1 : Sites K) (server : ℕ) (R : Contents → Contents → Type 0) → IsOpenAt (work kept s0) server → Looks kept s0 s1 → ((c : Contents) → R c c) → GoesOn kept s0 s1 server R
  goes_looked s0 s1 server R open_at a step = goes_saw kept s0 s1 server (λ c. Unit {0}) R open_at a (any_seen (sees kept s0 server)) (λ c none. step c)

  -- reads anywhere, and then a step
  pub looked_then : (s0 s1 s2 : Sites K) (server : ℕ) (Q R : Contents → Contents → Type 0) → IsOpenAt (work kept s0) server → Looks kept s0 s1 → GoesOn kept s1 s2 server Q → ((c d : Contents) → Q c d → R c d) → GoesOn kept s0 s2 server R
  looked_then s0 s1 s2 server Q R open_at a b step = saw_then kept s0 s1 s2 server (λ c. Unit {0}) Q R open_at a (any_seen (sees kept s0 server)) b (λ c d none q. step c d q)

  module _ (s0 s1 : Sites K) (server other : ℕ) (P : Contents → Contents → Type 0) (ne : other ≢ server) (goes : GoesOn kept s0 s1 server P) where
    -- another server has open what it had
    pub work_elsewhere : get_or (work kept s1) other None ≡ get_or (work kept s0) other None
    work_elsewhere = other_work (work kept s0) (work kept s1) server other P goes.works.works ne

    -- and is seen to have what it had
    pub sees_elsewhere : sees kept s1 other ≡ sees kept s0 other
    sees_elsewhere = ap (λ (p : Option Contents × Option (Option Contents)). seen_of p.0 p.1) (λ i. (ap (λ (l : List (Option Contents)). get_or l other None) goes.works.held i, work_elsewhere i))

    -- a read there that fails shows the damage that was there before
    pub breaks_elsewhere : (rules : Rules) (s2 : Sites K) (e : Fault) → Breaks rules kept s1 s2 other e → Breaks rules kept s0 s2 other e
    breaks_elsewhere rules s2 e f = stops_after kept s0 s1 s2 goes.most (Damages (λ s. s ≡ other) rules kept s0) e goes.works.passes goes.works.held (stops_as kept s1 s2 (Damages (λ s. s ≡ other) rules kept s1) (Damages (λ s. s ≡ other) rules kept s0) e (λ s a cause h. (h.0, subst (λ (q : ℕ). Shows rules a cause (sees kept s0 q)) (sym h.0) (subst (Shows rules a cause) sees_elsewhere (subst (λ (q : ℕ). Shows rules a cause (sees kept s1 q)) h.0 h.1)))) f)
