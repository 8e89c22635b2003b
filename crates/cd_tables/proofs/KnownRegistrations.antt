-- Registrations that are known from earlier changes: proofs.
use Rattle.std.proofs.Common.{◌≡◌, ℕ, Bool, true, false, cond, List, length, refl, sym, ap, subst, ◌∙◌, ◌&&◌, nat_le, Some, IfSome, bytes_eq}
use Rattle.std.proofs.lemmas.Bool.{and_parts}
use Rattle.std.proofs.lemmas.Slice.Eq.{bytes_eq-Decides}
use Rattle.world_store.specs.Words.{b32, short_text}
use Rattle.site_store.specs.Words.{Contents, Table}
use Rattle.repl_model.specs.Words.{row_limit, CdRow, Change, Placed, DefinedRegistration, rows_of}
use Rattle.repl_types.specs.declared.area.Area.TheVariants as areas
use Rattle.repl_types.specs.declared.record.Change.TheVariants.{Insert, Update, Delete, Start, Stop}
use Rattle.stored_commits.specs.units.StoredChanges.{with_change_rows, is_captured, with_change}
use Rattle.stored_commits.specs.laws.CapturedPuts.{other_areas}
use Rattle.cd_tables.specs.Known.{IsStatedOf, IsStated, IsFoundAt, IsKnown, known_after}
use Rattle.cd_tables.specs.Rules.{IsRegistrationOf}
use Rattle.cd_tables.specs.declared.stated.StatedRegistration.{StatedRegistration}

-- a registration of the table of a name has the name of that table
pub own_table : (name : List ℕ) (reg : DefinedRegistration) → IsRegistrationOf name reg → reg.registration.table ≡ name
own_table name reg of =
    let short : Bool = nat_le (length reg.registration.after) row_limit && nat_le (length reg.registration.before) row_limit in
    (bytes_eq-Decides reg.registration.table name).0 (and_parts (bytes_eq reg.registration.table name) short of.is).0

module _ (name : List ℕ) (at : StatedRegistration) where
  -- so it is one of its own table
  pub stated_itself : IsStatedOf name at → IsStated at
  stated_itself of = subst (λ (n : List ℕ). IsStatedOf n at) (sym (own_table name at.reg of.0)) of

  -- one that is known stands under the name of its table
  pub known_named : at.reg.registration.table ≡ name → (c : Contents) → IsKnown (Some at) c → IsFoundAt name (Some at) c
  known_named is c known = subst (λ (n : List ℕ). IsFoundAt n (Some at) c) is known

  -- what stands under the name of its table is known
  pub found_known : IsStatedOf name at → (c : Contents) → IsFoundAt name (Some at) c → IsKnown (Some at) c
  found_known of c found = subst (λ (n : List ℕ). IsFoundAt n (Some at) c) (sym (own_table name at.reg of.0)) found

-- what is known after a change is one of its own table
pub stated_after : (change : Change) (at : StatedRegistration) → IsStated at → IfSome (known_after change at) IsStated
stated_after (Insert table row) at of = of
stated_after (Update table before after) at of = of
stated_after (Delete table row) at of = of
stated_after (Start table) at of = tt
stated_after (Stop table) at of = tt

-- what is known after a change stands in the contents that the change makes
pub known_stays : (seq : ℕ) (placed : Placed) (at : StatedRegistration) (c d : Contents) → d ≡ with_change seq placed at.reg at.state c → IsKnown (Some at) c → IsKnown (known_after placed.change at) d
known_stays seq placed at c d made known = by_kind placed.change made
  where
    rows : (b : Bool) (more : List CdRow) → d ≡ cond b (with_change_rows at.reg.number more c) c → IsKnown (Some at) d
    rows true more is =
        let defs : d areas.Defs 1 ≡ c areas.Defs 1 = ap (λ (f : Contents). f areas.Defs 1) is ∙ other_areas at.reg.number 1 areas.Defs more c refl in
        let states : d areas.Capture 1 ≡ c areas.Capture 1 = ap (λ (f : Contents). f areas.Capture 1) is ∙ other_areas at.reg.number 1 areas.Capture more c refl in
        (ap (λ (t : Table). t (short_text at.reg.registration.table)) defs ∙ known.0, record { stands = ap (λ (t : Table). t (b32 at.reg.number)) states ∙ known.1.stands; fits = known.1.fits })
    rows false more is = subst (IsKnown (Some at)) (sym is) known

    by_kind : (change : Change) → d ≡ with_change seq (record placed { change = change }) at.reg at.state c → IsKnown (known_after change at) d
    by_kind (Insert table row) is = rows (is_captured seq at.state) (rows_of at.reg.registration seq placed.pos (Insert table row)) is
    by_kind (Update table before after) is = rows (is_captured seq at.state) (rows_of at.reg.registration seq placed.pos (Update table before after)) is
    by_kind (Delete table row) is = rows (is_captured seq at.state) (rows_of at.reg.registration seq placed.pos (Delete table row)) is
    by_kind (Start table) is = tt
    by_kind (Stop table) is = tt
