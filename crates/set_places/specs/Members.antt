-- The registrations that the members of sets are over.
use Rattle.std.specs.Prelude.{◌≡◌, ℕ, suc, zero, List, Some, slice_get}
use Rattle.repl_types.specs.declared.area.Area.{Area}
use Rattle.repl_types.specs.declared.area.Area.TheVariants as areas
use Rattle.keep_core.specs.Contents.{Contents}
use Rattle.keep_core.specs.Kept.{Kept}
use Rattle.row_codec.specs.Spelling.{short_text}
use Rattle.repl_definitions.specs.Defined.{defined_registration_spelling, IsDefinedRegistration}
use Rattle.repl_definitions.specs.Sets.{source_set_spelling, IsSourceSet}
use Rattle.repl_definitions.specs.declared.defined.DefinedRegistration.{DefinedRegistration}
use Rattle.repl_definitions.specs.declared.member.Member.{Member}
use Rattle.repl_definitions.specs.declared.set.SourceSet.{SourceSet}
use Rattle.repl_model.specs.World.{Registered, ServerTable, World, KnownSet, server_table}
use Rattle.repl_model.specs.Sound.{IsSound}
use Rattle.site_store.specs.declared.sites.Sites.{Sites}
use Rattle.site_store.specs.Damage.{Rules}
use Rattle.site_store.specs.Views.{sees}
use Rattle.world_store.specs.Stands.{Reveals}
use Rattle.world_store.specs.SpelledRows.{Spells}
use Rattle.lists.specs.laws.Members.{In}
use Rattle.set_places.specs.declared.placed_set.PlacedSet.{PlacedSet}
use Rattle.set_places.specs.Places.{IsPlacedAs}

-- ---- at servers

-- the contents have this registration
abbrev pub HasRegistration : DefinedRegistration → Contents → Type 0
HasRegistration reg c = (key : List ℕ) × (c areas.Defs 1 key ≡ Some (defined_registration_spelling reg))

-- ---- in a world

-- The registration of a member's table at the source of a set, with the table's number there.
pub record IsRegistrationOf (k : KnownSet) (member : ℕ) (reg : DefinedRegistration) : Type 0 where
  pub own : Member
  pub at_place : slice_get k.at_source.def.members member ≡ Some own
  pub table : ServerTable
  pub named : server_table own.source k.source ≡ Some table
  pub number : slice_get k.source.tables reg.number ≡ Some table
  pub registered : Registered
  pub is : table.registered ≡ Some registered
  pub def : reg.registration ≡ registered.reg

-- what follows for each sound world and each set of it that stands as it was found, if the set's source is seen to
-- have what the world calls for
abbrev pub ForSource : {K : Type 0} → (K → Kept) → Sites K → PlacedSet → (World → KnownSet → Type 0) → Type 0
ForSource kept sites set P = (w : World) (k : KnownSet) → IsSound w → IsPlacedAs w k set → Reveals w k.source (sees kept sites set.source) → P w k

-- and if the set's target is
abbrev pub ForTarget : {K : Type 0} → (K → Kept) → Sites K → PlacedSet → (World → KnownSet → Type 0) → Type 0
ForTarget kept sites set P = (w : World) (k : KnownSet) → IsSound w → IsPlacedAs w k set → Reveals w k.target (sees kept sites set.target) → P w k

-- ---- damage

-- values of registrations
abbrev pub may_be_registration : Area → ℕ → List ℕ → Type 0
may_be_registration areas.Defs (suc zero) bytes = Spells IsDefinedRegistration defined_registration_spelling bytes
may_be_registration a t bytes = Unit {0}

-- the row of a set at its source has a member over a table of this name
abbrev pub HasMemberOver : List ℕ → Contents → Type 0
HasMemberOver name c = (key : List ℕ) × (row : SourceSet) × IsSourceSet row × (c areas.Defs 2 key ≡ Some (source_set_spelling row)) × ((member : Member) × In member row.def.members × (member.source ≡ name))

-- a member of a set calls for the registration of its table
abbrev pub is_called_for : Area → ℕ → List ℕ → Contents → Type 0
is_called_for areas.Defs (suc zero) key c = (name : List ℕ) × (key ≡ short_text name) × HasMemberOver name c
is_called_for a t key c = ⊥

-- what the registrations of members should have
abbrev pub member_rules : Rules
member_rules = record {
  is_key = λ a t bytes. Unit {0};
  is_value = may_be_registration;
  is_needed = is_called_for;
  is_unfit = λ a t key value c. ⊥;
}
