-- A transaction of one server, the only one that is open.
use Rattle.std.proofs.Common.{◌≡◌, inl, inr, ℕ, ◌<◌, List, length, set, get_or, refl, sym, ap, subst, ◌∙◌, Option, Some, None, IsSome, IfSome}
use Rattle.std.proofs.lemmas.Bool.{cases_eq, cases_lt}
use Rattle.std.proofs.lemmas.List.{get_or-set_same, get_or-set_other, get_or_past, length-set, length-map}
use Rattle.site_store.specs.Words.{Contents, Kept, seen_of, AllClosed, names, held, work, sees, IsOpenAt, Begins, open_below, other_work, Looks, GoesOn, goes_saw}
use Rattle.site_store.specs.declared.sites.Sites.{Sites}
use Rattle.capture_core.specs.Committing.{IsWorking}

module _ {K : Type 0} (kept : K → Kept) where
  -- it is begun
  unfoldable pub working_begun : (s0 s1 : Sites K) (n : ℕ) → AllClosed (work kept s0) → n < length (names s0) → Begins kept s0 s1 n → IsWorking kept s1 n (λ c d. d ≡ c)
  working_begun s0 s1 n closed lt begun =
      let within : n < length (work kept s0) = rw length-map (simp length-map at lt) in
      let h = get_or (held kept s0) n None in
      record {
        now = h;
        is = ap (λ (l : List (Option (Option Contents))). get_or l n None) begun.work ∙ get_or-set_same (work kept s0) n (Some h) None within;
        others = λ q ne. ap (λ (l : List (Option (Option Contents))). get_or l q None) begun.work ∙ get_or-set_other (work kept s0) n q (Some h) None ne ∙ closed q;
        does = λ c is. (c, ap (λ (l : List (Option Contents)). get_or l n None) (sym begun.held) ∙ is, refl);
      }

  module _ (s1 : Sites K) (n : ℕ) (P : Contents → Contents → Type 0) (working : IsWorking kept s1 n P) where
    -- it is open
    pub working_open : IsOpenAt (work kept s1) n
    working_open = subst (λ (o : Option (Option Contents)). IsSome o) (sym working.is) refl

    -- what is seen
    pub working_sees : sees kept s1 n ≡ working.now
    working_sees = ap (seen_of (get_or (held kept s1) n None)) working.is

    -- it goes on
    unfoldable pub working_on : (s2 : Sites K) (Q R : Contents → Contents → Type 0) → GoesOn kept s1 s2 n Q → ((c d e : Contents) → P c d → Q d e → R c e) → IsWorking kept s2 n R
    working_on s2 Q R goes step =
        let works = goes.works.works in
        record {
          now = works.now;
          is = ap (λ (l : List (Option (Option Contents))). get_or l n None) works.is ∙ get_or-set_same (work kept s1) n (Some works.now) None (open_below (work kept s1) n working_open);
          others = λ q ne. other_work (work kept s1) (work kept s2) n q Q works ne ∙ working.others q ne;
          does = λ c is.
              let d = working.does c (ap (λ (l : List (Option Contents)). get_or l n None) (sym goes.works.held) ∙ is) in
              let e = works.does d.0 (working.is ∙ ap (λ (o : Option Contents). Some o) d.1) in
              (e.0, e.1, step c d.0 e.0 d.2 e.2);
        }

    -- something is read in it
    pub working_saw : (s2 : Sites K) (N : Contents → Type 0) → Looks kept s1 s2 → IfSome (sees kept s1 n) N → IsWorking kept s2 n (λ c d. P c d × N d)
    working_saw s2 N looks saw = working_on s2 (λ d e. N d × (e ≡ d)) (λ c d. P c d × N d) (goes_saw kept s1 s2 n N (λ d e. N d × (e ≡ d)) working_open looks saw (λ d n. (n, refl))) (λ c d e p q. subst (λ (x : Contents). P c x × N x) (sym q.1) (p, q.0))

    -- what is held after a commit that took place
    pub working_committed : (h : List (Option Contents)) → h ≡ set (held kept s1) n (sees kept s1 n) → (c : Contents) → get_or (held kept s1) n None ≡ Some c → (d : Contents) × (h ≡ set (held kept s1) n (Some d)) × P c d
    working_committed h commit c is =
        let d = working.does c is in
        (d.0, commit ∙ ap (set (held kept s1) n) (working_sees ∙ d.1), d.2)

    -- after its end no transaction is open
    pub working_closed : (w : List (Option (Option Contents))) → w ≡ set (work kept s1) n None → AllClosed w
    working_closed w ends q = ap (λ (l : List (Option (Option Contents))). get_or l q None) ends ∙ elim (cases_eq q n) [
      | inl e ↦ subst (λ (k : ℕ). get_or (set (work kept s1) n None) k None ≡ None) (sym e) (slot (work kept s1) n)
      | inr ne ↦ get_or-set_other (work kept s1) n q None None ne ∙ working.others q ne
    ]
      where
        slot : (l : List (Option (Option Contents))) (s : ℕ) → get_or (set l s None) s None ≡ None
        slot l s = elim (cases_lt s (length l)) [
          | inl lt ↦ get_or-set_same l s None None lt
          | inr le ↦ get_or_past (set l s None) s None (rw length-set le)
        ]
