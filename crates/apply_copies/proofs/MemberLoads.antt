-- The target of a member is cleared, and gets the rows of its source: proofs.
use Rattle.std.proofs.Common.{◌≡◌, ℕ, Bool, false, cond, List, length, map, eq-eqb, refl, sym, ap, subst, ◌∙◌, ◌&&◌, Option, Some, IfSome, slice_get, option_map, option_and_then}
use Rattle.std.specs.FinMap.{entries}
use Rattle.std.proofs.lemmas.Option.{same_Some}
use Rattle.world_store.specs.Words.{key_spelling, copy_spelling, table_from_rows, Reveals, no_rows}
use Rattle.site_store.specs.Words.{Contents, Table, Kept, sees}
use Rattle.site_store.specs.declared.sites.Sites.{Sites}
use Rattle.repl_model.specs.Words.{same_area, Values, Area, DefinedRegistration, LogRecord, Member, SetDef, user_copy, SourceTable, selected_rows, IsSound, source_at, table_after, last_commit, Registered, ServerTable, World, KnownSet, source_named, server_table, as_source, at_place_in}
use Rattle.repl_types.specs.declared.area.Area.TheVariants as areas
use Rattle.set_places.specs.declared.placed_set.PlacedSet.{PlacedSet}
use Rattle.set_places.specs.Members.{ForSource, IsRegistrationOf}
use Rattle.set_places.specs.Places.{IsPlacedAs}
use Rattle.apply_copies.specs.Clearing.{cleared, Clears}
use Rattle.apply_copies.specs.Copying.{selected, copied, HasRows, LoadsAll}
use Rattle.set_places.specs.Targets.{target_number}
use Rattle.apply_copies.specs.Loading.{is_target, LoadsCopy}
use Rattle.apply_copies.specs.laws.CopyRows.{copied_are}
use Rattle.apply_copies.specs.laws.SourceRows.{has_committed}
use Rattle.apply_copies.proofs.CopiedRows.{other_number}
use Rattle.stored_commits.specs.laws.EmptyKeys.{cleared_empty}

-- ---- the table

-- the cleared table
clears_here : (number : ℕ) (c d : Contents) → Clears number c d → d areas.Target number ≡ cleared (c areas.Target number)
clears_here number c d clears = ap (λ (f : Contents). f areas.Target number) clears.is ∙ ap (λ (b : Bool). cond b (cleared (c areas.Target number)) (c areas.Target number)) (eq-eqb number number refl)

-- the others
clears_others : (number : ℕ) (c d : Contents) → Clears number c d → (a : Area) (n : ℕ) → is_target number a n ≡ false → d a n ≡ c a n
clears_others number c d clears a n other = ap (λ (f : Contents). f a n) clears.is ∙ ap (λ (b : Bool). cond b (cleared (c areas.Target number)) (c a n)) (ap (λ (b : Bool). same_area areas.Target a && b) (other_number number n) ∙ other)

-- ---- the source

-- a registered table with its log
abbrev pub with_log : List LogRecord → ServerTable → Registered → SourceTable
with_log log t g = record { def = table_after log t.def; reg = g.reg; log = log }

-- the table of a registration is the one that the member at its place names, and with the log it is the member's source
pub source_is : (k : KnownSet) (place : ℕ) (reg : DefinedRegistration) (r : IsRegistrationOf k place reg) (member : Member) (source : SourceTable) → slice_get k.at_source.def.members place ≡ Some member → source_named member.source k.source ≡ Some source → (server_table member.source k.source ≡ Some r.table) × (with_log k.source.log r.table r.registered ≡ source)
source_is k place reg r member source at named =
    let made = with_log k.source.log r.table in
    let found = subst (λ (m : Member). server_table m.source k.source ≡ Some r.table) (same_Some r.own member (sym r.at_place ∙ at)) r.named in
    (found, same_Some (made r.registered) source (sym (ap (option_and_then (as_source k.source)) found ∙ ap (option_map made) r.is) ∙ named))

-- ---- the member

module _ {K : Type 0} (kept : K → Kept) (s0 : Sites K) (set : PlacedSet) (place : ℕ) (own : Member) (reg : DefinedRegistration) (at : slice_get set.at_source.def.members place ≡ Some own) (registered : ForSource kept s0 set (λ w k. IsRegistrationOf k place reg)) where
  -- the target has the copy, and so many rows
  abbrev IsCopyOf : KnownSet → Member → ℕ → Table → SourceTable → Type 0
  IsCopyOf k member rows t source = (t ≡ table_from_rows key_spelling copy_spelling (map (λ r. (r.0, record { row = r.1 })) (user_copy source member (last_commit k.source.log)))) × (rows ≡ length (selected_rows source member (last_commit k.source.log)))

  -- what was copied is the copy of each world that stands
  is_copy : (rows : ℕ) (c d e : Contents) → LoadsAll (sees kept s0 set.source) reg.number (target_number set.at_target.number place) own rows d e → d areas.Target (target_number set.at_target.number place) ≡ no_rows
      → (w : World) (k : KnownSet) → IsSound w → IsPlacedAs w k set → Reveals w k.source (sees kept s0 set.source) → (member : Member) (source : SourceTable) → slice_get k.at_source.def.members place ≡ Some member → source_named member.source k.source ≡ Some source → IsCopyOf k member rows (e areas.Target (target_number set.at_target.number place)) source
  is_copy rows c d e loads empty w k sound placed reveals member source member_at named =
      let r = registered w k sound placed reveals in
      let own_is : own ≡ member = same_Some own member (sym at ∙ ap (λ (def : SetDef). slice_get def.members place) placed.source_def ∙ member_at) in
      let made_of = source_is k place reg r member source member_at named in
      let has = has_committed w k.source reveals.0 sound (at_place_in w set.source k.source placed.source) reveals.2 reg.number r.table r.number in
      let all = entries (source_at r.table.def k.source.log (last_commit k.source.log)) in
      let made = (subst (λ (o : Option Contents). IfSome o (λ s. (rs : List (Values × Values)) → HasRows reg.number rs s → d areas.Target (target_number set.at_target.number place) ≡ no_rows → (e areas.Target (target_number set.at_target.number place) ≡ table_from_rows key_spelling copy_spelling (copied own rs)) × (rows ≡ length (selected own rs)))) reveals.1 loads.copies) all has empty in
      subst (IsCopyOf k member rows (e areas.Target (target_number set.at_target.number place))) made_of.1 (
        made.0 ∙ ap (λ (m : Member). table_from_rows key_spelling copy_spelling (copied m all)) own_is ∙ ap (table_from_rows key_spelling copy_spelling) (sym (copied_are (with_log k.source.log r.table r.registered) member (last_commit k.source.log))),
        made.1 ∙ ap (λ (m : Member). length (selected m all)) own_is,
      )

  -- the target is cleared, and the rows are copied
  pub loads_copy : (number rows : ℕ) (c d e : Contents) → number ≡ target_number set.at_target.number place → Clears number c d → LoadsAll (sees kept s0 set.source) reg.number number own rows d e → LoadsCopy kept s0 set place rows c e
  loads_copy number rows c d e is clears loads =
      let n = target_number set.at_target.number place in
      let clears : Clears n c d = subst (λ (m : ℕ). Clears m c d) is clears in
      let loads : LoadsAll (sees kept s0 set.source) reg.number n own rows d e = subst (λ (m : ℕ). LoadsAll (sees kept s0 set.source) reg.number m own rows d e) is loads in
      record {
        others = λ a m other. loads.others a m other ∙ clears_others n c d clears a m other;
        shown = λ m a cause h. clears.shown m a cause (loads.shown m a cause h);
        copies = λ w k sound placed reveals member source member_at named none. is_copy rows c d e loads (clears_here n c d clears ∙ cleared_empty (c areas.Target n) none) w k sound placed reveals member source member_at named;
      }
