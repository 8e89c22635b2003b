-- Laws of transactions: proofs, and nothing to believe. Calls inside a transaction compose by `works_then`
-- and `works_seen`.
use Rattle.std.proofs.Common.{◌≡◌, ◌≢◌, ℕ, ◌<◌, List, length, get_or, refl, sym, ap, subst, ◌∙◌, inl, inr, true, false, Option, Some, None, IsSome, is_some, IfSome, option_map, set}
use Rattle.std.proofs.lemmas.Bool.{cases_eq, cases_lt}
use Rattle.std.proofs.lemmas.List.{get_or-set_same, get_or-set_other, get_or_past, set-set, set-get_or, length-set, length-map}
use Rattle.repl_types.specs.declared.area.Area.{Area}
use Rattle.keep_core.specs.Contents.{Contents, put_at}
use Rattle.keep_core.specs.Kept.{Kept, seen_of}
use Rattle.site_store.specs.declared.sites.Sites.{Sites}
use Rattle.site_store.specs.Servers.{AllClosed}
use Rattle.site_store.specs.Views.{names, held, work, sees, IsOpenAt, IsClosedAt}
use Rattle.site_store.specs.Calls.{Begins}
use Rattle.site_store.specs.Works.{Works, Sets}

-- the contents in an option
inner : (o : Option Contents) (c : Contents) → ◌≡◌ {A = Option (Option Contents)} (Some o) (Some (Some c)) → o ≡ Some c
inner o c e = cc

-- a put is a step of an open transaction
pub works_set : (old new : List (Option (Option Contents))) (s : ℕ) (a : Area) (t : ℕ) (key : List ℕ) (v : Option (List ℕ)) → IsSome (get_or old s None) → new ≡ set old s (option_map (option_map (λ (c : Contents). put_at c a t key v)) (get_or old s None)) → Works old new s (Sets a t key v)
works_set old new s a t key v open_at is = pick (get_or old s None) refl open_at is
  where
    put : Option Contents → Option Contents
    put o = option_map (λ (c : Contents). put_at c a t key v) o

    pick : (o : Option (Option Contents)) → get_or old s None ≡ o → IsSome o → new ≡ set old s (option_map (option_map (λ (c : Contents). put_at c a t key v)) o) → Works old new s (Sets a t key v)
    pick None e some is = absurd cc
    pick (Some w) e some is = record {
      now = option_map (λ (c : Contents). put_at c a t key v) w;
      is = is;
      does = λ c h. (put_at c a t key v, ap (option_map (λ (d : Contents). put_at d a t key v)) (inner w c (sym e ∙ h)), refl);
    }

-- what the transaction sees after its work
now_at : (w0 w1 : List (Option (Option Contents))) (s : ℕ) (P : Contents → Contents → Type 0) (works : Works w0 w1 s P) → s < length w0 → get_or w1 s None ≡ Some works.now
now_at w0 w1 s P works lt = ap (λ (l : List (Option (Option Contents))). get_or l s None) works.is ∙ get_or-set_same w0 s (Some works.now) None lt

-- an open transaction is one of the list's
pub open_below : (w : List (Option (Option Contents))) (s : ℕ) → IsOpenAt w s → s < length w
open_below w s open_at = elim (cases_lt s (length w)) [
  | inl lt ↦ lt
  | inr le ↦ absurd (none_some (sym (ap is_some (get_or_past w s None le)) ∙ open_at))
]
  where
    none_some : false ≡ true → ⊥
    none_some e = cc

-- nothing was done
pub works_start : (w : List (Option (Option Contents))) (s : ℕ) → IsSome (get_or w s None) → Works w w s (λ c d. d ≡ c)
works_start w s open_at = pick (get_or w s None) refl open_at
  where
    pick : (o : Option (Option Contents)) → get_or w s None ≡ o → IsSome o → Works w w s (λ c d. d ≡ c)
    pick None e some = absurd cc
    pick (Some now) e some = record {
      now = now;
      is = sym (ap (set w s) (sym e) ∙ set-get_or w s None);
      does = λ c h. (c, inner now c (sym e ∙ h), refl);
    }

-- one step and then another of one transaction
pub works_then : (w0 w1 w2 : List (Option (Option Contents))) (s : ℕ) (P Q R : Contents → Contents → Type 0) → s < length w0 → Works w0 w1 s P → Works w1 w2 s Q → ((c d e : Contents) → get_or w1 s None ≡ Some (Some d) → P c d → Q d e → R c e) → Works w0 w2 s R
works_then w0 w1 w2 s P Q R lt a b step = record {
  now = b.now;
  is = b.is ∙ ap (λ (l : List (Option (Option Contents))). set l s (Some b.now)) a.is ∙ set-set w0 s (Some a.now) (Some b.now);
  does = λ c h.
      let d = a.does c h in
      let here : get_or w1 s None ≡ Some (Some d.0) = now_at w0 w1 s P a lt ∙ ap (λ (o : Option Contents). Some o) d.1 in
      let e = b.does d.0 here in
      (e.0, e.1, step c d.0 e.0 here d.2 e.2);
}

-- what the transaction sees is known if something is read in it
pub works_seen : (w0 w1 w2 : List (Option (Option Contents))) (s : ℕ) (P R : Contents → Contents → Type 0) → s < length w0 → Works w0 w1 s P → w2 ≡ w1 → ((c d : Contents) → get_or w1 s None ≡ Some (Some d) → P c d → R c d) → Works w0 w2 s R
works_seen w0 w1 w2 s P R lt a same step = record {
  now = a.now;
  is = same ∙ a.is;
  does = λ c h. let d = a.does c h in (d.0, d.1, step c d.0 (now_at w0 w1 s P a lt ∙ ap (λ (o : Option Contents). Some o) d.1) d.2);
}

-- what a read in a transaction says of what it sees
pub seen_work : (h : List (Option Contents)) (w : List (Option (Option Contents))) (s : ℕ) (d : Contents) (P : Contents → Type 0) → get_or w s None ≡ Some (Some d) → IfSome (seen_of (get_or h s None) (get_or w s None)) P → P d
seen_work h w s d P open_at seen = subst (λ (o : Option Contents). IfSome o P) (ap (λ (o : Option (Option Contents)). seen_of (get_or h s None) o) open_at) seen

-- the other transactions see the same
pub other_work : (w0 w1 : List (Option (Option Contents))) (s q : ℕ) (P : Contents → Contents → Type 0) → Works w0 w1 s P → q ≢ s → get_or w1 q None ≡ get_or w0 q None
other_work w0 w1 s q P works ne = ap (λ (l : List (Option (Option Contents))). get_or l q None) works.is ∙ get_or-set_other w0 s q (Some works.now) None ne

-- what each server sees is the same after a transaction was begun
pub begun_sees : {K : Type 0} (kept : K → Kept) (s0 s1 : Sites K) (w : ℕ) → w < length (work kept s0) → IsClosedAt (work kept s0) w → Begins kept s0 s1 w → (s : ℕ) → sees kept s1 s ≡ sees kept s0 s
begun_sees kept s0 s1 w lt closed begin s = elim (cases_eq s w) [
  | inl is ↦ subst (λ (k : ℕ). sees kept s1 k ≡ sees kept s0 k) (sym is) (ap (λ (p : Option Contents × Option (Option Contents)). seen_of p.0 p.1) (λ i. (ap (λ (l : List (Option Contents)). get_or l w None) begin.held i, (ap (λ (l : List (Option (Option Contents))). get_or l w None) begin.work ∙ get_or-set_same (work kept s0) w (Some (get_or (held kept s0) w None)) None lt) i)) ∙ ap (λ (o : Option (Option Contents)). seen_of (get_or (held kept s0) w None) o) (sym closed))
  | inr ne ↦ ap (λ (p : Option Contents × Option (Option Contents)). seen_of p.0 p.1) (λ i. (ap (λ (l : List (Option Contents)). get_or l s None) begin.held i, (ap (λ (l : List (Option (Option Contents))). get_or l s None) begin.work ∙ get_or-set_other (work kept s0) w s (Some (get_or (held kept s0) w None)) None ne) i))
]

-- a transaction of one server: it is begun at s0, works from s1 to s2, and then is committed
module _ {K : Type 0} (kept : K → Kept) (s0 s1 s2 : Sites K) (s : ℕ) (P : Contents → Contents → Type 0) (begin : Begins kept s0 s1 s) (works : Works (work kept s1) (work kept s2) s P) where
  -- what is held after a commit that took place
  pub took : (h3 : List (Option Contents)) (c : Contents) → s < length (names s0) → held kept s2 ≡ held kept s1 → h3 ≡ set (held kept s2) s (sees kept s2 s) → get_or (held kept s0) s None ≡ Some c → (d : Contents) × (h3 ≡ set (held kept s0) s (Some d)) × P c d
  took h3 c lt same commit is =
      let lt0 : s < length (work kept s0) = rw length-map (simp length-map at lt) in
      let lt1 : s < length (work kept s1) = rw (begin.work, length-set) lt0 in
      let open_at : get_or (work kept s1) s None ≡ Some (Some c) = ap (λ (l : List (Option (Option Contents))). get_or l s None) begin.work ∙ get_or-set_same (work kept s0) s (Some (get_or (held kept s0) s None)) None lt0 ∙ ap (λ (o : Option Contents). Some o) is in
      let d = works.does c open_at in
      let now : get_or (work kept s2) s None ≡ Some (Some d.0) = now_at (work kept s1) (work kept s2) s P works lt1 ∙ ap (λ (o : Option Contents). Some o) d.1 in
      (d.0, commit ∙ ap (λ (o : Option (Option Contents)). set (held kept s2) s (seen_of (get_or (held kept s2) s None) o)) now ∙ ap (λ (h : List (Option Contents)). set h s (Some d.0)) (same ∙ begin.held), d.2)

  -- no transaction is open after it
  pub closed_again : (w3 : List (Option (Option Contents))) → AllClosed (work kept s0) → w3 ≡ set (work kept s2) s None → AllClosed w3
  closed_again w3 closed commit q = ap (λ (l : List (Option (Option Contents))). get_or l q None) commit ∙ elim (cases_eq q s) [
    | inl e ↦ subst (λ (k : ℕ). get_or (set (work kept s2) s None) k None ≡ None) (sym e) (slot (work kept s2) s)
    | inr ne ↦ get_or-set_other (work kept s2) s q None None ne ∙ other_work (work kept s1) (work kept s2) s q P works ne ∙ ap (λ (l : List (Option (Option Contents))). get_or l q None) begin.work ∙ get_or-set_other (work kept s0) s q (Some (get_or (held kept s0) s None)) None ne ∙ closed q
  ]
    where
      slot : (l : List (Option (Option Contents))) (s : ℕ) → get_or (set l s None) s None ≡ None
      slot l s = elim (cases_lt s (length l)) [
        | inl lt ↦ get_or-set_same l s None None lt
        | inr le ↦ get_or_past (set l s None) s None (rw length-set le)
      ]
