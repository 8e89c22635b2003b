-- Laws of evidence for damage: proofs, and nothing to believe.
use Rattle.std.proofs.Common.{◌≡◌, ◌≢◌, ℕ, ◌<◌, Bool, true, false, cond, List, ◌∷◌, [], ◌++◌, length, get_or, refl, sym, ap, subst, ◌∙◌, arith, inl, inr, ◌⊎◌, ◌&&◌, ◌==◌, Option, Some, None, IsSome, IfSome, get_or-set_same, get_or-set_other}
use Rattle.std.specs.List.{AllByRecursion}
use Rattle.std.proofs.lemmas.Bool.{cases_eq, eqb-true}
use Rattle.repl_types.specs.Area.{same_area, area_number}
use Rattle.repl_types.specs.declared.area.Area.{Area}
use Rattle.repl_types.specs.declared.area.Area.TheVariants as areas
use Rattle.repl_types.specs.declared.status.DamageCause.{DamageCause}
use Rattle.repl_types.specs.declared.status.DamageCause.TheVariants as causes
use Rattle.repl_types.specs.declared.fault.Fault.{Fault}
use Rattle.repl_types.specs.declared.fault.Fault.TheVariants as faults
use Rattle.keep_core.specs.Contents.{Contents, same_key, put_at, IsNextKey}
use Rattle.keep_core.specs.Kept.{Kept, seen_of}
use Rattle.rows_in_order.specs.Rows.{table_from_rows}
use Rattle.rows_in_order.specs.laws.Found.{row_of}
use Rattle.rows_in_order.specs.laws.Rising.{same_is}
use Rattle.site_store.specs.declared.sites.Sites.{Sites}
use Rattle.site_store.specs.Records.{Misread, Misspelt, MisspeltNext}
use Rattle.site_store.specs.Views.{held, work, sees, IsOpenAt, IsClosedAt}
use Rattle.site_store.specs.Works.{Works}
use Rattle.site_store.specs.Calls.{Bounds, no_access, both, Passes, Stays, Begins, AtServer, Blames, Fails}
use Rattle.site_store.specs.Damage.{Rules, joined, Shows, ShowsMisspelt, Damages, IsUndamaged, IsNoDamage, IsSpelt, AddsOnlySpelt, ShownBefore, AsksForNothing}
use Rattle.site_store.specs.laws.Counts.{IsAtMost, passes_within, passes_then}
use Rattle.site_store.specs.laws.Transactions.{begun_sees}

-- what isn't seen shows no less
pub shown_unseen : (rules : Rules) (a : Area) (cause : DamageCause) (saw : Option Contents) → Shows rules a cause saw → Shows rules a cause None
shown_unseen rules a (causes.Spelling bytes) saw h = elim h.1 [
  | inl k ↦ (h.0, inl (k.0, tt))
  | inr v ↦ (h.0, inr (v.0, tt))
]
shown_unseen rules a (causes.Absent key) saw h = (h.0, tt)
shown_unseen rules a (causes.Unfit bytes) saw h = (h.0, tt)
shown_unseen rules a (causes.NoRest steps) saw h = h

-- ---- the rules of two layers together

-- what is seen to have this has that
if_saw : (saw : Option Contents) (P Q : Contents → Type 0) → ((c : Contents) → P c → Q c) → IfSome saw P → IfSome saw Q
if_saw None P Q weaker h = tt
if_saw (Some c) P Q weaker h = weaker c h

-- what the rules of the first show, both show
pub shown_first : (r q : Rules) (a : Area) (cause : DamageCause) (saw : Option Contents) → Shows r a cause saw → Shows (joined r q) a cause saw
shown_first r q a (causes.Spelling bytes) saw h = elim h.1 [
  | inl k ↦ (h.0, inl ((λ both. k.0 both.0), k.1))
  | inr v ↦ (h.0, inr ((λ both. v.0 both.0), v.1))
]
shown_first r q a (causes.Absent key) saw h = (h.0, if_saw saw (λ c. (c a h.0 key ≡ None) × r.is_needed a h.0 key c) (λ c. (c a h.0 key ≡ None) × (joined r q).is_needed a h.0 key c) (λ c p. (p.0, inl p.1)) h.1)
shown_first r q a (causes.Unfit bytes) saw h = (h.0, if_saw saw (λ c. (key : List ℕ) × (c a h.0 key ≡ Some bytes) × r.is_unfit a h.0 key bytes c) (λ c. (key : List ℕ) × (c a h.0 key ≡ Some bytes) × (joined r q).is_unfit a h.0 key bytes c) (λ c p. (p.0, p.1, inl p.2)) h.1)
shown_first r q a (causes.NoRest steps) saw h = h

-- and what those of the second show
pub shown_second : (r q : Rules) (a : Area) (cause : DamageCause) (saw : Option Contents) → Shows q a cause saw → Shows (joined r q) a cause saw
shown_second r q a (causes.Spelling bytes) saw h = elim h.1 [
  | inl k ↦ (h.0, inl ((λ both. k.0 both.1), k.1))
  | inr v ↦ (h.0, inr ((λ both. v.0 both.1), v.1))
]
shown_second r q a (causes.Absent key) saw h = (h.0, if_saw saw (λ c. (c a h.0 key ≡ None) × q.is_needed a h.0 key c) (λ c. (c a h.0 key ≡ None) × (joined r q).is_needed a h.0 key c) (λ c p. (p.0, inr p.1)) h.1)
shown_second r q a (causes.Unfit bytes) saw h = (h.0, if_saw saw (λ c. (key : List ℕ) × (c a h.0 key ≡ Some bytes) × q.is_unfit a h.0 key bytes c) (λ c. (key : List ℕ) × (c a h.0 key ≡ Some bytes) × (joined r q).is_unfit a h.0 key bytes c) (λ c p. (p.0, p.1, inr p.2)) h.1)
shown_second r q a (causes.NoRest steps) saw h = h

-- ---- from the bytes of one kind of record

-- bytes that are no record's of a kind show damage if only records of the kind are values
pub misspelt_shows : {X : Type 0} (fits : X → Type 0) (spelling : X → List ℕ) (rules : Rules) (a b : Area) (t : ℕ) (key : List ℕ) (saw : Option Contents) (cause : DamageCause) → ((bytes : List ℕ) → rules.is_value a t bytes → (x : X) × fits x × (bytes ≡ spelling x)) → Misread a (Misspelt fits spelling a t key saw) b cause → Shows rules b cause saw
misspelt_shows fits spelling rules a b t key saw (causes.Spelling bytes) only h =
    let wrong : rules.is_value a t bytes → ⊥ = λ is. let x = only bytes is in h.1.0 x.0 x.1 x.2 in
    subst (λ (area : Area). ShowsMisspelt rules area bytes saw) (sym h.0) (t, inr (wrong, there saw h.1.1))
  where
    there : (saw : Option Contents) → IfSome saw (λ c. c a t key ≡ Some bytes) → IfSome saw (λ c. (k : List ℕ) × (c a t k ≡ Some bytes))
    there None h = tt
    there (Some c) h = (key, h)
misspelt_shows fits spelling rules a b t key saw (causes.Absent bytes) only h = absurd h
misspelt_shows fits spelling rules a b t key saw (causes.Unfit bytes) only h = absurd h
misspelt_shows fits spelling rules a b t key saw (causes.NoRest steps) only h = absurd h

-- the same of a key and a value that a search gave
pub misspelt_next_shows : {Y X : Type 0} (key_fits : Y → Type 0) (key_spelling : Y → List ℕ) (fits : X → Type 0) (spelling : X → List ℕ) (rules : Rules) (a b : Area) (t : ℕ) (after : List ℕ) (saw : Option Contents) (cause : DamageCause) → ((bytes : List ℕ) → rules.is_key a t bytes → (y : Y) × key_fits y × (bytes ≡ key_spelling y)) → ((bytes : List ℕ) → rules.is_value a t bytes → (x : X) × fits x × (bytes ≡ spelling x)) → Misread a (MisspeltNext key_fits key_spelling fits spelling a t after saw) b cause → Shows rules b cause saw
misspelt_next_shows key_fits key_spelling fits spelling rules a b t after saw (causes.Spelling bytes) only_key only h =
    subst (λ (area : Area). ShowsMisspelt rules area bytes saw) (sym h.0) (elim h.1 [
      | inl k ↦ (t, inl ((λ is. let y = only_key bytes is in k.0 y.0 y.1 y.2), at_key saw k.1))
      | inr v ↦ (t, inr ((λ is. let x = only bytes is in v.0 x.0 x.1 x.2), at_value saw v.1))
    ])
  where
    at_key : (saw : Option Contents) → IfSome saw (λ c. (value : List ℕ) × IsNextKey (c a t) after bytes value) → IfSome saw (λ c. (value : List ℕ) × (c a t bytes ≡ Some value))
    at_key None h = tt
    at_key (Some c) h = (h.0, h.1.has)

    at_value : (saw : Option Contents) → IfSome saw (λ c. (key : List ℕ) × IsNextKey (c a t) after key bytes) → IfSome saw (λ c. (key : List ℕ) × (c a t key ≡ Some bytes))
    at_value None h = tt
    at_value (Some c) h = (h.0, h.1.has)
misspelt_next_shows key_fits key_spelling fits spelling rules a b t after saw (causes.Absent bytes) only_key only h = absurd h
misspelt_next_shows key_fits key_spelling fits spelling rules a b t after saw (causes.Unfit bytes) only_key only h = absurd h
misspelt_next_shows key_fits key_spelling fits spelling rules a b t after saw (causes.NoRest steps) only_key only h = absurd h

-- damage that a call at one server showed is shown there
pub shows_at : {K : Type 0} (kept : K → Kept) (sites : Sites K) (rules : Rules) (server : ℕ) (damage : Area → DamageCause → Type 0) → ((a : Area) (cause : DamageCause) → damage a cause → Shows rules a cause (sees kept sites server)) → (s : ℕ) (a : Area) (cause : DamageCause) → AtServer server damage s a cause → Shows rules a cause (sees kept sites s)
shows_at kept sites rules server damage shows s a cause h = subst (λ (k : ℕ). Shows rules a cause (sees kept sites k)) (sym h.0) (shows a cause h.1)

-- ---- what contents show

-- what holds of all rows holds of one of them
one_of_all : {X : Type 0} (P : X → Type 0) (front : List X) (x : X) (back : List X) → AllByRecursion P (front ++ x ∷ back) → P x
one_of_all P [] x back all = all.0
one_of_all P (y ∷ ys) x back all = one_of_all P ys x back all.1

-- an entry of a table that is made of rows is a key and a value, if each row is spelt as such
pub rows_spelt : {A X : Type 0} (rules : Rules) (a : Area) (t : ℕ) (key : A → List ℕ) (value : X → List ℕ) (rows : List (A × X)) (k v : List ℕ) → AllByRecursion (λ r. rules.is_key a t (key r.0) × rules.is_value a t (value r.1)) rows → table_from_rows key value rows k ≡ Some v → rules.is_key a t k × rules.is_value a t v
rows_spelt {A} {X} rules a t key value rows k v all has =
    let r = row_of key value rows k v has in
    let P = λ (q : A × X). rules.is_key a t (key q.0) × rules.is_value a t (value q.1) in
    let spelt = one_of_all P r.1.front r.0 r.1.back (subst (AllByRecursion P) r.1.split all) in
    (subst (rules.is_key a t) r.2 spelt.0, subst (rules.is_value a t) r.3 spelt.1)

-- contents of which each entry is spelt show no bytes that aren't
spelt_shows_none : (rules : Rules) (c : Contents) (a : Area) (bytes : List ℕ) → IsSpelt rules c → Shows rules a (causes.Spelling bytes) (Some c) → ⊥
spelt_shows_none rules c a bytes spelt h = elim h.1 [
  | inl k ↦ k.0 (spelt a h.0 bytes k.1.0 k.1.1).0
  | inr v ↦ v.0 (spelt a h.0 v.1.0 bytes v.1.1).1
]

-- contents of which each entry is spelt show no damage, if the rules ask for nothing
pub spelt_undamaged : (rules : Rules) → AsksForNothing rules → (c : Contents) → IsSpelt rules c → IsUndamaged rules c
spelt_undamaged rules asks c spelt a (causes.Spelling bytes) h = spelt_shows_none rules c a bytes spelt h
spelt_undamaged rules asks c spelt a (causes.Absent key) h = asks.0 a h.0 key c h.1.1
spelt_undamaged rules asks c spelt a (causes.Unfit bytes) h = asks.1 a h.0 h.1.0 bytes c h.1.2
spelt_undamaged rules asks c spelt a (causes.NoRest steps) h = h

-- misspelt bytes that are seen after only spelt entries were added stood there before
misspelt_before : (rules : Rules) (c d : Contents) (a : Area) (bytes : List ℕ) → AddsOnlySpelt rules c d → ShowsMisspelt rules a bytes (Some d) → ShowsMisspelt rules a bytes (Some c)
misspelt_before rules c d a bytes adds h = elim h.1 [
  | inl k ↦ (
    h.0,
    inl (
      k.0,
      elim (adds a h.0 bytes k.1.0 k.1.1) [
        | inl new ↦ absurd (k.0 new.0)
        | inr old ↦ (k.1.0, old)
      ],
    ),
  )
  | inr v ↦ (
    h.0,
    inr (
      v.0,
      elim (adds a h.0 v.1.0 bytes v.1.1) [
        | inl new ↦ absurd (v.0 new.1)
        | inr old ↦ (v.1.0, old)
      ],
    ),
  )
]

-- damage that is shown after only spelt entries were added was shown before, if the rules ask for nothing
pub shown_before : (rules : Rules) → AsksForNothing rules → (c d : Contents) → AddsOnlySpelt rules c d → ShownBefore rules c d
shown_before rules asks c d adds a (causes.Spelling bytes) h = misspelt_before rules c d a bytes adds h
shown_before rules asks c d adds a (causes.Absent key) h = absurd (asks.0 a h.0 key d h.1.1)
shown_before rules asks c d adds a (causes.Unfit bytes) h = absurd (asks.1 a h.0 h.1.0 bytes d h.1.2)
shown_before rules asks c d adds a (causes.NoRest steps) h = absurd h

-- nothing was added
pub adds_nothing : (rules : Rules) (c : Contents) → AddsOnlySpelt rules c c
adds_nothing rules c a t key value h = inr h

-- an area is known by its number
area_is : (a b : Area) → same_area a b ≡ true → a ≡ b
area_is a b same = sym (named_by a) ∙ ap named (eqb-true (area_number a) (area_number b) same) ∙ named_by b
  where
    named : ℕ → Area
    named n = cond (n == 1) areas.Log (cond (n == 2) areas.Source (cond (n == 3) areas.Inflight (cond (n == 4) areas.Head (cond (n == 5) areas.Defs (cond (n == 6) areas.Cd (cond (n == 7) areas.Uow (cond (n == 8) areas.Capture (cond (n == 9) areas.Prune (cond (n == 10) areas.Spill (cond (n == 11) areas.Target (cond (n == 12) areas.SetState areas.Trail)))))))))))

    named_by : (a : Area) → named (area_number a) ≡ a
    named_by areas.Log = refl
    named_by areas.Source = refl
    named_by areas.Inflight = refl
    named_by areas.Head = refl
    named_by areas.Defs = refl
    named_by areas.Cd = refl
    named_by areas.Uow = refl
    named_by areas.Capture = refl
    named_by areas.Prune = refl
    named_by areas.Spill = refl
    named_by areas.Target = refl
    named_by areas.SetState = refl
    named_by areas.Trail = refl

-- an entry after a change at one key is the new one, or it stood there before
entry_after : (c : Contents) (a b : Area) (t u : ℕ) (k q : List ℕ) (v : Option (List ℕ)) (w : List ℕ) → put_at c a t k v b u q ≡ Some w → ((a ≡ b) × (t ≡ u) × (k ≡ q) × (v ≡ Some w)) ⊎ (c b u q ≡ Some w)
entry_after c a b t u k q v w h = pick (same_area a b) refl (t == u) refl (same_key k q) refl h
  where
    pick : (x : Bool) → same_area a b ≡ x → (y : Bool) → (t == u) ≡ y → (z : Bool) → same_key k q ≡ z → cond (x && y) (λ (p : List ℕ). cond (same_key k p) v (c a t p)) (c b u) q ≡ Some w → ((a ≡ b) × (t ≡ u) × (k ≡ q) × (v ≡ Some w)) ⊎ (c b u q ≡ Some w)
    pick false ex y ey z ez h = inr h
    pick true ex false ey z ez h = inr h
    pick true ex true ey z ez h = at z ez (area_is a b ex) (eqb-true t u ey) h
      where
        at : (z : Bool) → same_key k q ≡ z → a ≡ b → t ≡ u → cond (same_key k q) v (c a t q) ≡ Some w → ((a ≡ b) × (t ≡ u) × (k ≡ q) × (v ≡ Some w)) ⊎ (c b u q ≡ Some w)
        at true same area table h = inl (area, table, same_is k q same, sym (ap (λ (s : Bool). cond s v (c a t q)) same) ∙ h)
        at false same area table h = inr (sym (λ i. c (area i) (table i) q) ∙ sym (ap (λ (s : Bool). cond s v (c a t q)) same) ∙ h)

-- a record of the table was put
pub adds_put : (rules : Rules) (c : Contents) (a : Area) (t : ℕ) (k v : List ℕ) → rules.is_key a t k → rules.is_value a t v → AddsOnlySpelt rules c (put_at c a t k (Some v))
adds_put rules c a t k v is_key is_value b u q w h = elim (entry_after c a b t u k q (Some v) w h) [
  | inl new ↦ inl (subst (λ (p : Area × ℕ × List ℕ). rules.is_key p.0 p.1 p.2) (λ i. (new.0 i, new.1 i, new.2 i)) is_key, subst (λ (p : Area × ℕ × List ℕ). rules.is_value p.0 p.1 p.2) (λ i. (new.0 i, new.1 i, inside v w new.3 i)) is_value)
  | inr old ↦ inr old
]
  where
    inside : (v w : List ℕ) → ◌≡◌ {A = Option (List ℕ)} (Some v) (Some w) → v ≡ w
    inside v w e = cc

-- what stood at a key was removed
pub adds_remove : (rules : Rules) (c : Contents) (a : Area) (t : ℕ) (k : List ℕ) → AddsOnlySpelt rules c (put_at c a t k None)
adds_remove rules c a t k b u q w h = elim (entry_after c a b t u k q None w h) [
  | inl new ↦ absurd (never w new.3)
  | inr old ↦ inr old
]
  where
    never : (w : List ℕ) → ◌≡◌ {A = Option (List ℕ)} None (Some w) → ⊥
    never w e = cc

-- one change after another
pub adds_then : (rules : Rules) (c d e : Contents) → AddsOnlySpelt rules c d → AddsOnlySpelt rules d e → AddsOnlySpelt rules c e
adds_then rules c d e first second a t key value h = elim (second a t key value h) [
  | inl new ↦ inl new
  | inr old ↦ first a t key value old
]

-- ---- a fault by itself

module _ {K : Type 0} (kept : K → Kept) (s0 s1 : Sites K) where
  -- a fault is blamed by weaker evidence too
  pub blames_by : (D E : ℕ → Area → DamageCause → Type 0) (e : Fault) → Blames kept s0 s1 D e → ((s : ℕ) (a : Area) (cause : DamageCause) → D s a cause → E s a cause) → Blames kept s0 s1 E e
  blames_by D E faults.Memory h weaker = tt
  blames_by D E (faults.Keeper s) h weaker = h
  blames_by D E (faults.Damaged s a cause) h weaker = (h.0, weaker s a cause h.1)
  blames_by D E (faults.Refused refusal) h weaker = h

  -- and so does a call fail
  pub fails_by : (D E : ℕ → Area → DamageCause → Type 0) (x : Bounds) (e : Fault) → Fails kept s0 s1 x D e → ((s : ℕ) (a : Area) (cause : DamageCause) → D s a cause → E s a cause) → Fails kept s0 s1 x E e
  fails_by D E x e f weaker = record { closes = f.closes; blames = blames_by D E e f.blames weaker }

  -- a call fails within wider bounds too
  pub fails_within : (D : ℕ → Area → DamageCause → Type 0) (x y : Bounds) (e : Fault) → Fails kept s0 s1 x D e → IsAtMost x y → Fails kept s0 s1 y D e
  fails_within D x y e f most = record {
    closes = record { passes = passes_within kept s0 s1 x y f.closes.passes most; held = f.closes.held; closed = f.closes.closed };
    blames = f.blames;
  }

  -- no fault is of damage if the servers have contents that show none
  pub no_damage : (servers : ℕ → Type 0) (rules : Rules) (e : Fault) → ((s : ℕ) → servers s → (c : Contents) × (sees kept s0 s ≡ Some c) × IsUndamaged rules c) → Blames kept s0 s1 (Damages servers rules kept s0) e → IsNoDamage e
  no_damage servers rules faults.Memory sound h = tt
  no_damage servers rules (faults.Keeper s) sound h = tt
  no_damage servers rules (faults.Damaged s a cause) sound h = let c = sound s h.1.0 in c.2 a cause (subst (Shows rules a cause) c.1 h.1.1)
  no_damage servers rules (faults.Refused refusal) sound h = h

-- ---- a fault after other calls

module _ {K : Type 0} (kept : K → Kept) (servers : ℕ → Type 0) (rules : Rules) (s0 s1 s2 : Sites K) (x y z : Bounds) (e : Fault) (most : IsAtMost (both x y) z) where
  -- the blame stays, and so does the damage if it was shown before
  blames_then : Passes kept s0 s1 x → Passes kept s1 s2 y → ((s : ℕ) (a : Area) (cause : DamageCause) → Shows rules a cause (sees kept s1 s) → Shows rules a cause (sees kept s0 s)) → (e : Fault) → Blames kept s1 s2 (Damages servers rules kept s1) e → Blames kept s0 s2 (Damages servers rules kept s0) e
  blames_then p q back faults.Memory h = tt
  blames_then p q back (faults.Keeper s) h = λ lt. omega (arith, p.faults s, h lt)
  blames_then p q back (faults.Damaged s a cause) h = ((λ read lt. let rose = h.0 read lt in let le = p.reads a s (omega (arith, rose, lt)) in omega (arith, rose, le)), (h.1.0, back s a cause h.1.1))
  blames_then p q back (faults.Refused refusal) h = h

  -- A call fails after others that changed nothing that is held, and before which its damage was shown.
  pub fails_then : Passes kept s0 s1 x → held kept s1 ≡ held kept s0 → ((s : ℕ) (a : Area) (cause : DamageCause) → Shows rules a cause (sees kept s1 s) → Shows rules a cause (sees kept s0 s)) → Fails kept s1 s2 y (Damages servers rules kept s1) e → Fails kept s0 s2 z (Damages servers rules kept s0) e
  fails_then p same back f = record {
    closes = record {
      passes = passes_then kept s0 s1 s2 x y z p f.closes.passes most;
      held = f.closes.held ∙ same;
      closed = f.closes.closed;
    };
    blames = blames_then p f.closes.passes back e f.blames;
  }

  -- It fails after others that changed nothing.
  pub fails_after : Stays kept s0 s1 x → Fails kept s1 s2 y (Damages servers rules kept s1) e → Fails kept s0 s2 z (Damages servers rules kept s0) e
  fails_after a f = fails_then a.passes a.held (λ s b cause h. subst (Shows rules b cause) (ap (λ (p : List (Option Contents) × List (Option (Option Contents))). seen_of (get_or p.0 s None) (get_or p.1 s None)) (λ i. (a.held i, a.work i))) h) f

  -- It fails after a transaction was begun.
  pub fails_begun : (w : ℕ) → w < length (work kept s0) → IsClosedAt (work kept s0) w → x ≡ no_access → Begins kept s0 s1 w → Fails kept s1 s2 y (Damages servers rules kept s1) e → Fails kept s0 s2 z (Damages servers rules kept s0) e
  fails_begun w lt closed_at none b f = fails_then (subst (Passes kept s0 s1) (sym none) b.passes) b.held (λ s a cause h. subst (Shows rules a cause) (begun_sees kept s0 s1 w lt closed_at b s) h) f

  -- It fails in a transaction of one server whose work shows no damage that wasn't shown before.
  pub fails_in_work : (w : ℕ) (P : Contents → Contents → Type 0) → w < length (work kept s0) → IsOpenAt (work kept s0) w → Passes kept s0 s1 x → held kept s1 ≡ held kept s0 → Works (work kept s0) (work kept s1) w P → ((c d : Contents) → P c d → ShownBefore rules c d) → Fails kept s1 s2 y (Damages servers rules kept s1) e → Fails kept s0 s2 z (Damages servers rules kept s0) e
  fails_in_work w P lt open_at p same works step f = fails_then p same back f
    where
      -- what the others see is as before
      other : (s : ℕ) → s ≢ w → sees kept s1 s ≡ sees kept s0 s
      other s ne = ap (λ (p : List (Option Contents) × Option (Option Contents)). seen_of (get_or p.0 s None) p.1) (λ i. (same i, (ap (λ (l : List (Option (Option Contents))). get_or l s None) works.is ∙ get_or-set_other (work kept s0) w s (Some works.now) None ne) i))

      -- what the server sees
      mine : (o : Option (Option Contents)) → get_or (work kept s0) w None ≡ o → IsSome o → (a : Area) (cause : DamageCause) → Shows rules a cause (sees kept s1 w) → Shows rules a cause (seen_of (get_or (held kept s0) w None) o)
      mine None is some a cause h = absurd cc
      mine (Some None) is some a cause h = shown_unseen rules a cause (sees kept s1 w) h
      mine (Some (Some c)) is some a cause h =
          let d = works.does c is in
          let now : sees kept s1 w ≡ Some d.0 = ap (seen_of (get_or (held kept s1) w None)) (ap (λ (l : List (Option (Option Contents))). get_or l w None) works.is ∙ get_or-set_same (work kept s0) w (Some works.now) None lt) ∙ d.1 in
          step c d.0 d.2 a cause (subst (Shows rules a cause) now h)

      back : (s : ℕ) (a : Area) (cause : DamageCause) → Shows rules a cause (sees kept s1 s) → Shows rules a cause (sees kept s0 s)
      back s a cause h = elim (cases_eq s w) [
        | inl is ↦ subst (λ (k : ℕ). Shows rules a cause (sees kept s0 k)) (sym is) (mine (get_or (work kept s0) w None) refl open_at a cause (subst (λ (k : ℕ). Shows rules a cause (sees kept s1 k)) is h))
        | inr ne ↦ subst (Shows rules a cause) (other s ne) h
      ]
