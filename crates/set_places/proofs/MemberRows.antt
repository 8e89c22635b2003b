-- The registration that is read for a member of a found set.
use Rattle.std.proofs.Common.{◌≡◌, ℕ, ◌<◌, List, length, get_or, refl, sym, ap, subst, ◌∙◌, Option, Some, IfSome, slice_get}
use Rattle.std.proofs.lemmas.Option.{slice_get-get_or}
use Rattle.world_store.specs.Words.{short_text}
use Rattle.site_store.specs.Words.{Contents, Table, Kept, RowIs, sees, if_seen}
use Rattle.site_store.specs.declared.sites.Sites.{Sites}
use Rattle.repl_model.specs.Words.{defined_registration_spelling, IsDefinedRegistration, DefinedRegistration, Member, SetDef, ServerKeepsRules, at_place_in, at_one}
use Rattle.repl_types.specs.declared.area.Area.TheVariants as areas
use Rattle.stored_defs.specs.laws.Standing.{holds_defs}
use Rattle.set_places.specs.declared.placed_set.PlacedSet.{PlacedSet}
use Rattle.set_places.specs.Members.{ForSource, IsRegistrationOf, is_called_for}
use Rattle.set_places.specs.Places.{HasSourceRow, IsPlacedAtSource}
use Rattle.set_places.specs.laws.Registrations.{registration_row_is}

-- a member at a place of a list that is made a slice
pub member_at : (members items : List Member) (n : ℕ) (d : Member) → items ≡ members → n < length members → slice_get members n ≡ Some (get_or items n d)
member_at members items n d same lt = subst (λ (l : List Member). slice_get members n ≡ Some (get_or l n d)) (sym same) (slice_get-get_or members n d lt)

module _ {K : Type 0} (kept : K → Kept) (s0 : Sites K) (set : PlacedSet) (member : ℕ) (own : Member) (at : slice_get set.at_source.def.members member ≡ Some own) where
  -- the member calls for it
  pub called_for : IsPlacedAtSource kept s0 set → IfSome (sees kept s0 set.source) (is_called_for areas.Defs 1 (short_text own.source))
  called_for placed = if_seen (sees kept s0 set.source) (HasSourceRow set.at_source) (is_called_for areas.Defs 1 (short_text own.source))
      (λ c has. (own.source, refl, (has.0, set.at_source, placed.fits, has.1, (own, at_place_in set.at_source.def.members member own at, refl)))) placed.row

  -- what is read is the world's
  pub registration_is : (reg : DefinedRegistration) → IsDefinedRegistration reg → IfSome (sees kept s0 set.source) (RowIs defined_registration_spelling areas.Defs 1 (short_text own.source) (Some reg)) → ForSource kept s0 set (λ w k. IsRegistrationOf k member reg)
  registration_is reg fits saw w k sound placed reveals =
      let keeps : ServerKeepsRules w k.source = at_one (ServerKeepsRules w) w k.source sound.definitions.servers (at_place_in w set.source k.source placed.source) in
      let has = subst (λ (o : Option Contents). IfSome o (RowIs defined_registration_spelling areas.Defs 1 (short_text own.source) (Some reg))) reveals.1 saw in
      let r = registration_row_is w k.source keeps own.source reg fits (ap (λ (u : Table). u (short_text own.source)) (sym (holds_defs w k.source reveals.0 reveals.2 1)) ∙ has) in
      record {
        own = own;
        at_place = ap (λ (def : SetDef). slice_get def.members member) (sym placed.source_def) ∙ at;
        table = r.0;
        named = r.2;
        number = r.3;
        registered = r.1;
        is = r.4;
        def = r.5;
      }
