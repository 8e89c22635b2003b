-- Why the load of a member failed: proofs.
use Rattle.std.proofs.Common.{◌≡◌, ℕ, ◌<◌, List, [], length, get_or, inl, inr, refl, sym, ap, subst, ◌∙◌, arith, Option, Some, None, IfSome, slice_get}
use Rattle.std.proofs.lemmas.Option.{slice_get-get_or}
use Rattle.site_store.specs.Words.{Contents, Kept, Bounds, no_access, both, Passes, Reads, ClosesAll, Blames, IsMemoryOr, Rules, Damages, sees, at_most_itself, passes_then, shown_first, Stops, Breaks, unfit_breaks, stops_as}
use Rattle.site_store.specs.declared.sites.Sites.{Sites}
use Rattle.repl_model.specs.Words.{row_limit, Area, DamageCause, Fault, source_set_spelling, Member, at_place_in}
use Rattle.repl_types.specs.declared.area.Area.TheVariants as areas
use Rattle.repl_types.specs.declared.status.DamageCause.TheVariants as causes
use Rattle.repl_types.specs.declared.fault.Fault.TheVariants as faults
use Rattle.set_places.specs.declared.placed_set.PlacedSet.{PlacedSet}
use Rattle.set_places.specs.Members.{member_rules}
use Rattle.set_places.specs.Places.{HasSourceRow, IsPlacedAtSource}
use Rattle.apply_copies.specs.ChangeRules.{may_be_change_key, may_be_change, calls_for_table, is_unfit_change, change_source_rules, ShowsDamageOfChanges}
use Rattle.apply_copies.specs.Rules.{target_rules, may_be_source_key, may_be_source_row, is_too_wide, source_rules, ShowsDamage}

-- ---- members

-- a member at a place of a list that is made a slice
pub own_at : (members items : List Member) (n : ℕ) (own : Member) → items ≡ members → n < length members → own ≡ get_or items n own → slice_get members n ≡ Some own
own_at members items n own same lt is = slice_get-get_or members n own lt ∙ ap (λ (l : List Member). Some (get_or l n own)) (sym same) ∙ ap Some (sym is)

-- ---- rolling back

module _ {K : Type 0} (kept : K → Kept) (s0 s1 s2 : Sites K) (D : ℕ → Area → DamageCause → Type 0) where
  -- who was to blame is so after a call that keeps what every call keeps
  blames_on : (x : Bounds) (e : Fault) → Passes kept s1 s2 x → Blames kept s0 s1 D e → Blames kept s0 s2 D e
  blames_on x faults.Memory p h = tt
  blames_on x (faults.Keeper s) p h = λ lt. let le = p.faults s in omega (arith, le, h (omega (arith, le, lt)))
  blames_on x (faults.Damaged s a cause) p h = ((λ is lt. let le = p.reads a s lt in omega (arith, le, h.0 is (omega (arith, le, lt)))), h.1)
  blames_on x (faults.Refused refusal) p h = h

  -- a call failed, and then all transactions were closed
  pub stops_closed : (e : Fault) → Stops kept s0 s1 D e → ClosesAll kept s1 s2 no_access → Stops kept s0 s2 D e
  stops_closed e f closes = record {
    most = both f.most no_access;
    passes = passes_then kept s0 s1 s2 f.most no_access (both f.most no_access) f.passes closes.passes (at_most_itself (both f.most no_access));
    held = closes.held ∙ f.held;
    blames = blames_on no_access e closes.passes f.blames;
  }

module _ {K : Type 0} (kept : K → Kept) (s0 : Sites K) (set : PlacedSet) (number : ℕ) where
  -- ---- which damage is shown

  -- damage at the source
  pub source_stops : (s1 : Sites K) (e : Fault) → Breaks source_rules kept s0 s1 set.source e → Stops kept s0 s1 (ShowsDamage kept s0 set number) e
  source_stops s1 e f = stops_as kept s0 s1 (Damages (λ s. s ≡ set.source) source_rules kept s0) (ShowsDamage kept s0 set number) e (λ s a cause h. inl h) f

  -- damage at the source, by the rules of members
  pub member_stops : (s1 : Sites K) (e : Fault) → Breaks member_rules kept s0 s1 set.source e → Stops kept s0 s1 (ShowsDamage kept s0 set number) e
  member_stops s1 e f = stops_as kept s0 s1 (Damages (λ s. s ≡ set.source) member_rules kept s0) (ShowsDamage kept s0 set number) e (λ s a cause h. inl (h.0, shown_first member_rules (record { is_key = may_be_source_key; is_value = may_be_source_row; is_needed = λ a t key c. ⊥; is_unfit = is_too_wide }) a cause (sees kept s0 s) h.1)) f

  -- damage at the target
  pub target_stops : (s1 : Sites K) (e : Fault) → Breaks (target_rules number) kept s0 s1 set.target e → Stops kept s0 s1 (ShowsDamage kept s0 set number) e
  target_stops s1 e f = stops_as kept s0 s1 (Damages (λ s. s ≡ set.target) (target_rules number) kept s0) (ShowsDamage kept s0 set number) e (λ s a cause h. inr h) f

  -- ---- which damage of change rows is shown

  -- damage at the source
  pub change_stops : (s1 : Sites K) (e : Fault) → Breaks change_source_rules kept s0 s1 set.source e → Stops kept s0 s1 (ShowsDamageOfChanges kept s0 set number) e
  change_stops s1 e f = stops_as kept s0 s1 (Damages (λ s. s ≡ set.source) change_source_rules kept s0) (ShowsDamageOfChanges kept s0 set number) e (λ s a cause h. inl h) f

  -- damage at the source, by the rules of members
  pub change_member_stops : (s1 : Sites K) (e : Fault) → Breaks member_rules kept s0 s1 set.source e → Stops kept s0 s1 (ShowsDamageOfChanges kept s0 set number) e
  change_member_stops s1 e f = stops_as kept s0 s1 (Damages (λ s. s ≡ set.source) member_rules kept s0) (ShowsDamageOfChanges kept s0 set number) e (λ s a cause h. inl (h.0, shown_first member_rules (record { is_key = may_be_change_key; is_value = may_be_change; is_needed = calls_for_table; is_unfit = is_unfit_change }) a cause (sees kept s0 s) h.1)) f

-- ---- a set that is too wide

module _ {K : Type 0} (kept : K → Kept) (s0 : Sites K) (set : PlacedSet) (rules : Rules) (unfit : (key value : List ℕ) (c : Contents) → is_too_wide areas.Defs 2 key value c → rules.is_unfit areas.Defs 2 key value c) (place : ℕ) (own : Member) (at : slice_get set.at_source.def.members place ≡ Some own) (placed : IsPlacedAtSource kept s0 set) where
  -- the row of a set that has a member with too many columns is unfit
  pub wide_breaks : (s1 s2 : Sites K) (e : Fault) → row_limit < length own.columns → Reads kept s0 s1 set.source areas.Defs → ClosesAll kept s1 s2 no_access → IsMemoryOr (faults.Damaged set.source areas.Defs (causes.Unfit (source_set_spelling set.at_source))) e → Breaks rules kept s0 s2 set.source e
  wide_breaks s1 s2 e wide read closes fault = by_seen (sees kept s0 set.source) refl placed.row
    where
      bytes : List ℕ
      bytes = source_set_spelling set.at_source

      is_unfit : (key : List ℕ) (c : Contents) → rules.is_unfit areas.Defs 2 key bytes c
      is_unfit key c = unfit key bytes c (set.at_source, placed.fits, refl, (own, at_place_in set.at_source.def.members place own at, wide))

      breaks : (key : List ℕ) → IfSome (sees kept s0 set.source) (λ c. c areas.Defs 2 key ≡ Some bytes) → IfSome (sees kept s0 set.source) (rules.is_unfit areas.Defs 2 key bytes) → Breaks rules kept s0 s2 set.source e
      breaks key stands shown = unfit_breaks rules kept s0 s1 s2 set.source areas.Defs 2 key bytes e read stands shown closes fault

      by_seen : (saw : Option Contents) → sees kept s0 set.source ≡ saw → IfSome saw (HasSourceRow set.at_source) → Breaks rules kept s0 s2 set.source e
      by_seen None is has = breaks [] (subst (λ (o : Option Contents). IfSome o (λ c. c areas.Defs 2 [] ≡ Some bytes)) (sym is) tt) (subst (λ (o : Option Contents). IfSome o (rules.is_unfit areas.Defs 2 [] bytes)) (sym is) tt)
      by_seen (Some c) is has = breaks has.0 (subst (λ (o : Option Contents). IfSome o (λ c. c areas.Defs 2 has.0 ≡ Some bytes)) (sym is) has.1) (subst (λ (o : Option Contents). IfSome o (rules.is_unfit areas.Defs 2 has.0 bytes)) (sym is) (is_unfit has.0 c))
