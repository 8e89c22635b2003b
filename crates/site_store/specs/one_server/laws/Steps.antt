-- Steps of an open transaction, one after another, and reads among them.
use Rattle.std.proofs.Common.{◌≡◌, ℕ, List, get_or, refl, sym, ap, subst, ◌∙◌, Option, Some, None, IsSome, IfSome, set, get_or-set_same}
use Rattle.repl_types.specs.declared.area.Area.{Area}
use Rattle.keep_core.specs.Contents.{Contents}
use Rattle.keep_core.specs.Kept.{Kept}
use Rattle.site_store.specs.declared.sites.Sites.{Sites}
use Rattle.site_store.specs.Views.{held, work, sees, IsOpenAt}
use Rattle.site_store.specs.Works.{Sets}
use Rattle.site_store.specs.Calls.{no_access, writes_of_one, both, Puts}
use Rattle.site_store.specs.laws.Counts.{at_most_itself, passes_none}
use Rattle.site_store.specs.laws.Steps.{works_on, works_as}
use Rattle.site_store.specs.laws.Transactions.{open_below, works_start, works_seen, seen_work}
use Rattle.site_store.specs.one_server.Calls.{Looks, GoesOn}

module _ {K : Type 0} (kept : K → Kept) where
  -- nothing was done
  pub goes_none : (s0 : Sites K) (server : ℕ) (R : Contents → Contents → Type 0) → IsOpenAt (work kept s0) server → ((c : Contents) → R c c) → GoesOn kept s0 s0 server R
  goes_none s0 server R open_at step = record {
    most = no_access;
    works = record {
      passes = passes_none kept s0 no_access;
      held = refl;
      works = works_seen (work kept s0) (work kept s0) (work kept s0) server (λ c d. d ≡ c) R (open_below (work kept s0) server open_at) (works_start (work kept s0) server open_at) refl (λ c d is same. subst (R c) (sym same) (step c));
    };
  }

  -- reads, after which the transaction sees what it saw
  pub goes_saw : (s0 s1 : Sites K) (server : ℕ) (N : Contents → Type 0) (R : Contents → Contents → Type 0) → IsOpenAt (work kept s0) server → Looks kept s0 s1 → IfSome (sees kept s0 server) N → ((c : Contents) → N c → R c c) → GoesOn kept s0 s1 server R
  goes_saw s0 s1 server N R open_at a saw step = record {
    most = a.most;
    works = record {
      passes = a.stays.passes;
      held = a.stays.held;
      works = works_seen (work kept s0) (work kept s0) (work kept s1) server (λ c d. d ≡ c) R (open_below (work kept s0) server open_at) (works_start (work kept s0) server open_at) a.stays.work (λ c d here same. subst (R c) (sym same) (step c (subst N same (seen_work (held kept s0) (work kept s0) server d N here saw))));
    };
  }

  -- one step after another
  pub goes_then : (s0 s1 s2 : Sites K) (server : ℕ) (P Q R : Contents → Contents → Type 0) → IsOpenAt (work kept s0) server → GoesOn kept s0 s1 server P → GoesOn kept s1 s2 server Q → ((c d e : Contents) → P c d → Q d e → R c e) → GoesOn kept s0 s2 server R
  goes_then s0 s1 s2 server P Q R open_at a b step = record { most = both a.most b.most; works = works_on kept s0 s1 s2 server a.most b.most (both a.most b.most) P Q R open_at (at_most_itself (both a.most b.most)) a.works b.works step }

  -- a step did what follows from what it did
  pub goes_as : (s0 s1 : Sites K) (server : ℕ) (P R : Contents → Contents → Type 0) → IsOpenAt (work kept s0) server → GoesOn kept s0 s1 server P → ((c d : Contents) → P c d → R c d) → GoesOn kept s0 s1 server R
  goes_as s0 s1 server P R open_at a step = record { most = a.most; works = works_as kept s0 s1 server a.most P R open_at a.works step }

  -- a step of which two things hold did both
  pub goes_both : (s0 s1 : Sites K) (server : ℕ) (P Q : Contents → Contents → Type 0) → IsOpenAt (work kept s0) server → GoesOn kept s0 s1 server P → GoesOn kept s0 s1 server Q → GoesOn kept s0 s1 server (λ c d. P c d × Q c d)
  goes_both s0 s1 server P Q open_at a b = record {
    most = a.most;
    works = record {
      passes = a.works.passes;
      held = a.works.held;
      works = record {
        now = a.works.works.now;
        is = a.works.works.is;
        does = λ c here.
            let p = a.works.works.does c here in
            let q = b.works.works.does c here in
            (p.0, p.1, (p.2, subst (Q c) (seen q.0 p.0 (sym q.1 ∙ sym same ∙ p.1)) q.2));
      };
    };
  }
    where
      seen : (c d : Contents) → ◌≡◌ {A = Option Contents} (Some c) (Some d) → c ≡ d
      seen c d e = cc

      inner : (m n : Option Contents) → ◌≡◌ {A = Option (Option Contents)} (Some m) (Some n) → m ≡ n
      inner m n e = cc

      at : (n : Option Contents) → work kept s1 ≡ set (work kept s0) server (Some n) → get_or (work kept s1) server None ≡ Some n
      at n is = ap (λ (l : List (Option (Option Contents))). get_or l server None) is ∙ get_or-set_same (work kept s0) server (Some n) None (open_below (work kept s0) server open_at)

      same : a.works.works.now ≡ b.works.works.now
      same = inner a.works.works.now b.works.works.now (sym (at a.works.works.now a.works.works.is) ∙ at b.works.works.now b.works.works.is)

  -- a write
  pub goes_put : (s0 s1 : Sites K) (server : ℕ) (a : Area) (t : ℕ) (k : List ℕ) (v : Option (List ℕ)) → Puts kept s0 s1 server a t k v → GoesOn kept s0 s1 server (Sets a t k v)
  goes_put s0 s1 server a t k v put = record { most = writes_of_one 1 server a; works = record { passes = put.passes; held = put.held; works = put.works } }

  -- a transaction is open after a step
  pub goes_open : (s0 s1 : Sites K) (server : ℕ) (P : Contents → Contents → Type 0) → IsOpenAt (work kept s0) server → GoesOn kept s0 s1 server P → IsOpenAt (work kept s1) server
  goes_open s0 s1 server P open_at a = subst (λ (o : Option (Option Contents)). IsSome o) (sym (ap (λ (l : List (Option (Option Contents))). get_or l server None) a.works.works.is ∙ get_or-set_same (work kept s0) server (Some a.works.works.now) None (open_below (work kept s0) server open_at))) refl

  -- or after a read
  pub looks_open : (s0 s1 : Sites K) (server : ℕ) → IsOpenAt (work kept s0) server → Looks kept s0 s1 → IsOpenAt (work kept s1) server
  looks_open s0 s1 server open_at a = subst (λ (l : List (Option (Option Contents))). IsOpenAt l server) (sym a.stays.work) open_at

  -- reads, and then a step
  pub saw_then : (s0 s1 s2 : Sites K) (server : ℕ) (N : Contents → Type 0) (Q R : Contents → Contents → Type 0) → IsOpenAt (work kept s0) server → Looks kept s0 s1 → IfSome (sees kept s0 server) N → GoesOn kept s1 s2 server Q → ((c d : Contents) → N c → Q c d → R c d) → GoesOn kept s0 s2 server R
  saw_then s0 s1 s2 server N Q R open_at a saw b step = goes_then s0 s1 s2 server (λ c d. N c × (d ≡ c)) Q R open_at (goes_saw s0 s1 server N (λ c d. N c × (d ≡ c)) open_at a saw (λ c n. (n, refl))) b (λ c d e p q. step c e p.0 (subst (λ (x : Contents). Q x e) p.1 q))
