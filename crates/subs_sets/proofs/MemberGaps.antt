-- The gaps of members, by their registrations that were read.
use Rattle.std.proofs.Common.{◌≡◌, ℕ, Bool, true, false, List, length, refl, sym, ap, ap₂, subst, ◌∙◌, Option, Some, None, IfSome, is_some, slice_get}
use Rattle.std.specs.Option.{option_and_then, option_map_or}
use Rattle.std.proofs.lemmas.Bool.{false≢true}
use Rattle.std.proofs.lemmas.Option.{same_Some}
use Rattle.world_store.specs.Words.{b32, one_whole, registration_state_spelling, IsRegistrationState, RegState, one_registration_state, Reveals}
use Rattle.site_store.specs.Words.{Contents, RowIs}
use Rattle.repl_model.specs.Words.{Registration, GapPlace, DefinedRegistration, Member, SetDef, is_disabled, place_of_gap, member_gap, registration_of, IsSound, Registered, ServerTable, World, KnownSet, at_place_in, given_in}
use Rattle.repl_types.specs.declared.area.Area.TheVariants as areas
use Rattle.repl_model.specs.NextActions as model
use Rattle.set_places.specs.declared.placed_set.PlacedSet.{PlacedSet}
use Rattle.set_places.specs.Members.{IsRegistrationOf}
use Rattle.set_places.specs.Places.{IsPlacedAs}
use Rattle.subs_sets.specs.Gaps.{registered_in, gap_of_found}
use Rattle.subs_sets.specs.declared.gaps.Gap.{Gap}
use Rattle.subs_sets.specs.laws.Captured.{state_of, registered_fits, registration_at}
use Rattle.set_places.specs.laws.Standing.{source_name}

-- the world's set has as many members as the one that was found
pub as_many : (members : List Member) (k : KnownSet) (def : SetDef) → members ≡ def.members → def ≡ k.at_source.def → length members ≡ length k.at_source.def.members
as_many members k def are same = ap (λ (ms : List Member). length ms) are ∙ ap (λ (d : SetDef). length d.members) same

-- a gap that was found
pub some_found : (found : Option Gap) → is_some found ≡ true → (gap : model.Gap) × (gap_of_found found ≡ Some gap)
some_found None some = absurd (false≢true some)
some_found (Some gap) some = (record { place = gap.place; disabled = gap.disabled }, refl)

-- or none
pub none_found : (found : Option Gap) → is_some found ≡ false → gap_of_found found ≡ None
none_found None none = refl
none_found (Some gap) none = absurd (false≢true (sym none))

module _ (k : KnownSet) (member : ℕ) (own : Member) (reg : DefinedRegistration) (at : slice_get k.at_source.def.members member ≡ Some own) (is : IsRegistrationOf k member reg) where
  -- the member that was read is that one
  same_member : own ≡ is.own
  same_member = same_Some own is.own (sym at ∙ is.at_place)

  -- its registration in the world
  pub registration_is : registration_of k.source own ≡ Some is.registered
  registration_is =
      ap (λ (m : Member). registration_of k.source m) same_member
      ∙ ap (option_and_then (λ (t : ServerTable). t.registered)) is.named
      ∙ is.is

  -- whether a refresh is forbidden for it
  pub disabled_is : reg.registration.disable_refresh ≡ is_disabled k.source own
  disabled_is = ap (λ (r : Registration). r.disable_refresh) is.def ∙ sym (ap (λ (o : Option Registered). option_map_or (λ r. r.reg.disable_refresh) o false) registration_is)

  -- the state that was read is that of the registration
  pub state_is : (w : World) (set : PlacedSet) (saw : Option Contents) (state : RegState) → IsSound w → IsPlacedAs w k set → Reveals w k.source saw → IsRegistrationState state → IfSome saw (RowIs registration_state_spelling areas.Capture 1 (b32 reg.number) (Some state)) → state ≡ state_of is.registered
  state_is w set saw state sound placed reveals fits has =
      let i = at_place_in w set.source k.source placed.source in
      let read : reveals.0 areas.Capture 1 (b32 reg.number) ≡ Some (registration_state_spelling state) = subst (λ (o : Option Contents). IfSome o (RowIs registration_state_spelling areas.Capture 1 (b32 reg.number) (Some state))) reveals.1 has in
      one_whole IsRegistrationState registration_state_spelling one_registration_state state (state_of is.registered) fits (registered_fits w k.source sound i is.registered (given_in (λ (t : ServerTable). t.registered) k.source.tables is.table is.registered (at_place_in k.source.tables reg.number is.table is.number) is.is))
      (same_Some (registration_state_spelling state) (registration_state_spelling (state_of is.registered)) (sym read ∙ registration_at w k.source sound i reveals.0 reveals.2 reg.number is.table is.registered is.number is.is))

  -- the gap that was found is the member's
  gap_is : (name : List ℕ) (point : ℕ) (state : RegState) (place : Option GapPlace) → name ≡ k.source.name → state ≡ state_of is.registered → place ≡ place_of_gap name point (registered_in reg.registration state) → option_and_then (λ p. Some (record { place = p; disabled = reg.registration.disable_refresh })) place ≡ member_gap k.source point own
  gap_is name point state place named same found =
      ap (λ (d : Bool). option_and_then (λ (p : GapPlace). made d p) place) (ap (λ (r : Registration). r.disable_refresh) is.def)
      ∙ ap (option_and_then (made is.registered.reg.disable_refresh)) (found ∙ ap₂ (λ (n : List ℕ) (r : Registered). place_of_gap n point r) named (ap₂ registered_in is.def same))
      ∙ sym (ap (option_and_then by_registered) registration_is)
    where
      made : Bool → GapPlace → Option model.Gap
      made d p = Some (record { place = p; disabled = d })

      by_registered : Registered → Option model.Gap
      by_registered r = option_and_then (made r.reg.disable_refresh) (place_of_gap k.source.name point r)

  -- so it is if the state was read
  pub gap_read : (w : World) (set : PlacedSet) (saw : Option Contents) (point : ℕ) (state : RegState) (place : Option GapPlace) → IsSound w → IsPlacedAs w k set → Reveals w k.source saw → IsRegistrationState state → IfSome saw (RowIs registration_state_spelling areas.Capture 1 (b32 reg.number) (Some state)) → place ≡ place_of_gap set.at_source.def.source point (registered_in reg.registration state) → option_and_then (λ p. Some (record { place = p; disabled = reg.registration.disable_refresh })) place ≡ member_gap k.source point own
  gap_read w set saw point state place sound placed reveals fits has found = gap_is set.at_source.def.source point state place (source_name w k set sound placed) (state_is w set saw state sound placed reveals fits has) found
