-- The target of a member takes the change rows of its source: proofs.
use Rattle.std.proofs.Common.{◌≡◌, ℕ, ◌≤◌, Bool, true, false, cond, not, List, [], ◌∷◌, refl, sym, ap, subst, ◌∙◌, nat_lt, Option, Some, None, IfSome, slice_get, option_and_then, ltb-false}
use Rattle.std.proofs.lemmas.Option.{same_Some, none-some}
use Rattle.world_store.specs.Words.{CdKey, ChangeRow, Reveals}
use Rattle.site_store.specs.Words.{Contents, Table, Kept, sees}
use Rattle.site_store.specs.declared.sites.Sites.{Sites}
use Rattle.repl_model.specs.Words.{CdRow, GapPlace, Counts, Member, SetDef, changes_between, Gap, place_of_gap, member_gap, is_copy, SourceTable, IsSound, KnownSet, Registered, ServerTable, World, server_table, source_named, at_place_in}
use Rattle.repl_types.specs.declared.area.Area.TheVariants as areas
use Rattle.repl_types.specs.declared.refusal.GapPlace.TheVariants as gaps
use Rattle.set_places.specs.declared.placed_set.PlacedSet.{PlacedSet}
use Rattle.set_places.specs.Members.{ForSource, IsRegistrationOf}
use Rattle.set_places.specs.Places.{IsPlacedAs, IsReadOnly}
use Rattle.set_places.specs.laws.Known.{is_among, same_def}
use Rattle.cd_tables.specs.Captured.{captured_changes}
use Rattle.stored_commits.specs.copies.ChangedCopies.{copy_table, with_change, with_changes}
use Rattle.apply_copies.specs.declared.source.Source.{Source}
use Rattle.apply_copies.specs.ChangeRules.{source_of, IsRegisteredIn}
use Rattle.apply_copies.specs.Changing.{source_as, HasChanges, TakesAll, rows_between}
use Rattle.set_places.specs.Targets.{target_number}
use Rattle.target_steps.specs.Taking.{counts_of}
use Rattle.apply_copies.specs.Taking.{IsKept, TakesChanges}
use Rattle.apply_copies.specs.laws.HeldChanges.{IsRegisteredAt, registration_held, table_held, changes_held}
use Rattle.apply_copies.specs.laws.Intervals.{interval_rows}
use Rattle.apply_copies.proofs.MemberLoads.{source_is}
use Rattle.stored_commits.specs.laws.KnownMembers.{copies_take_changes}

-- ---- gaps

-- with no gap after a point a registration is active, and has neither started nor been pruned after it
pub no_gap : (server : List ℕ) (point : ℕ) (r : Registered) → place_of_gap server point r ≡ None → (r.active ≡ true) × (r.start ≤ point) × (r.floor ≤ point)
no_gap server point r none = by_active r.active refl none
  where
    by_floor : (b : Bool) → nat_lt point r.floor ≡ b → ◌≡◌ {A = Option GapPlace} (cond b (Some (gaps.Above server r.reg.table r.floor)) None) None → r.floor ≤ point
    by_floor true e none = absurd (none-some (gaps.Above server r.reg.table r.floor) (sym none))
    by_floor false e none = ltb-false point r.floor e

    by_start : (b : Bool) → nat_lt point r.start ≡ b → ◌≡◌ {A = Option GapPlace} (cond b (Some (gaps.Above server r.reg.table r.start)) (cond (nat_lt point r.floor) (Some (gaps.Above server r.reg.table r.floor)) None)) None → (r.start ≤ point) × (r.floor ≤ point)
    by_start true e none = absurd (none-some (gaps.Above server r.reg.table r.start) (sym none))
    by_start false e none = (ltb-false point r.start e, by_floor (nat_lt point r.floor) refl none)

    by_active : (b : Bool) → r.active ≡ b → ◌≡◌ {A = Option GapPlace} (cond (not b) (Some (gaps.Inactive server r.reg.table)) (cond (nat_lt point r.start) (Some (gaps.Above server r.reg.table r.start)) (cond (nat_lt point r.floor) (Some (gaps.Above server r.reg.table r.floor)) None))) None → (r.active ≡ true) × (r.start ≤ point) × (r.floor ≤ point)
    by_active true e none = let later = by_start (nat_lt point r.start) refl none in (e, later.0, later.1)
    by_active false e none = absurd (none-some (gaps.Inactive server r.reg.table) (sym none))

-- so it is for the registration of a member that has no gap
no_member_gap : (k : KnownSet) (point : ℕ) (member : Member) (t : ServerTable) (r : Registered) → server_table member.source k.source ≡ Some t → t.registered ≡ Some r → member_gap k.source point member ≡ None → place_of_gap k.source.name point r ≡ None
no_member_gap k point member t r found is none = by_place (place_of_gap k.source.name point r) (sym (ap (λ (o : Option Registered). option_and_then gap_at o) (ap (option_and_then (λ (u : ServerTable). u.registered)) found ∙ is)) ∙ none)
  where
    made : Registered → GapPlace → Option Gap
    made q place = Some (record { place = place; disabled = q.reg.disable_refresh })

    gap_at : Registered → Option Gap
    gap_at q = option_and_then (made q) (place_of_gap k.source.name point q)

    by_place : (o : Option GapPlace) → option_and_then (made r) o ≡ None → o ≡ None
    by_place None e = refl
    by_place (Some place) e = absurd cc

-- ---- change rows of a source

-- what change rows make of a copy doesn't depend on the log
same_changes : (source : SourceTable) (member : Member) (changes : List CdRow) (t : Table) → with_changes (source_of source.def source.reg) member changes t ≡ with_changes source member changes t
same_changes source member [] t = refl
same_changes source member (change ∷ changes) t = same_changes source member changes (with_change source member change t)

-- ---- the member

module _ {K : Type 0} (kept : K → Kept) (s0 : Sites K) (set : PlacedSet) (place low high : ℕ) (own : Member) (source : Source) (at : slice_get set.at_source.def.members place ≡ Some own) (registered : ForSource kept s0 set (λ w k. IsRegistrationOf k place source.reg)) (stands : IfSome (sees kept s0 set.source) (IsRegisteredIn source.reg source.table)) where
  -- what was taken is what the changes of each world that stands make of the copy
  is_taken : (counts : Counts) (c d : Contents) → TakesAll (sees kept s0 set.source) source.reg.number (target_number set.at_target.number place) (source_as source) own low high counts c d
      → (w : World) (k : KnownSet) → IsSound w → IsPlacedAs w k set → Reveals w k.source (sees kept s0 set.source) → (member : Member) (table : SourceTable) → IsReadOnly k → slice_get k.at_source.def.members place ≡ Some member → source_named member.source k.source ≡ Some table → is_copy member.kind ≡ true
      → IsKept k member low high → c areas.Target (target_number set.at_target.number place) ≡ copy_table table member low
      → (d areas.Target (target_number set.at_target.number place) ≡ copy_table table member high) × (counts ≡ counts_of (changes_between table.log table.reg low high))
  is_taken counts c d takes w k sound placed reveals member table read_only member_at named copies whole before =
      let i = at_place_in w set.source k.source placed.source in
      let r = registered w k sound placed reveals in
      let here : IsRegisteredAt k.source source.reg.number r.table r.registered = record { at = r.number; is = r.is } in
      let own_is : own ≡ member = same_Some own member (sym at ∙ ap (λ (def : SetDef). slice_get def.members place) placed.source_def ∙ member_at) in
      let made_of = source_is k place source.reg r member table member_at named in
      let seen = subst (λ (o : Option Contents). IfSome o (IsRegisteredIn source.reg source.table)) reveals.1 stands in
      let held = registration_held w k.source reveals.0 sound i reveals.2 source.reg seen.fits seen.stands in
      let one : held.0 ≡ r.table = same_Some held.0 r.table (sym held.2.at ∙ r.number) in
      let def : source.table.def ≡ r.table.def = table_held w k.source reveals.0 sound i reveals.2 source.reg source.table r.table r.registered seen here r.def (subst (λ (t : ServerTable). server_table t.def.name k.source ≡ Some t) one held.4) in
      let gap = no_gap k.source.name low r.registered (no_member_gap k low member r.table r.registered made_of.0 r.is whole.gap) in
      let rows : List (CdKey × ChangeRow) = captured_changes k.source r.registered in
      let interval : rows_between low high rows ≡ changes_between k.source.log r.registered.reg low high = interval_rows k.source r.registered low high gap.0 gap.1 gap.2 whole.captured in
      let made = (subst (λ (o : Option Contents). IfSome o (λ s. (rs : List (CdKey × ChangeRow)) → HasChanges source.reg.number rs s → (d areas.Target n ≡ with_changes (source_as source) own (rows_between low high rs) (c areas.Target n)) × (counts ≡ counts_of (rows_between low high rs)))) reveals.1 takes.takes) rows (changes_held w k.source reveals.0 sound i reveals.2 source.reg.number r.table r.registered here) in
      let log : changes_between k.source.log r.registered.reg low high ≡ changes_between table.log table.reg low high = ap (λ (q : SourceTable). changes_between q.log q.reg low high) made_of.1 in
      let taken = copies_take_changes w k place member table low high sound (is_among w k set placed read_only) (ap (λ (q : SetDef). slice_get q.members place) (sym (same_def w k sound placed.known)) ∙ member_at) named copies whole.rises in (
        made.0
            ∙ ap (λ (l : List CdRow). with_changes (source_as source) own l (c areas.Target n)) (interval ∙ log)
            ∙ (λ j. with_changes (source_of (def j) (r.def j)) (own_is j) (changes_between table.log table.reg low high) (before j))
            ∙ ap (λ (q : SourceTable). with_changes (source_of q.def q.reg) member (changes_between table.log table.reg low high) (copy_table table member low)) made_of.1
            ∙ same_changes table member (changes_between table.log table.reg low high) (copy_table table member low)
            ∙ taken,
        made.1 ∙ ap counts_of (interval ∙ log),
      )
    where
      n : ℕ
      n = target_number set.at_target.number place

  -- so the target takes the changes of the interval
  pub takes_changes : (number : ℕ) (counts : Counts) (c d : Contents) → number ≡ target_number set.at_target.number place → TakesAll (sees kept s0 set.source) source.reg.number number (source_as source) own low high counts c d → TakesChanges kept s0 set place low high counts c d
  takes_changes number counts c d is takes =
      let takes : TakesAll (sees kept s0 set.source) source.reg.number (target_number set.at_target.number place) (source_as source) own low high counts c d = subst (λ (m : ℕ). TakesAll (sees kept s0 set.source) source.reg.number m (source_as source) own low high counts c d) is takes in
      record {
        others = takes.others;
        shown = takes.shown;
        copies = λ w k sound placed reveals member table read_only member_at named copies whole before. is_taken counts c d takes w k sound placed reveals member table read_only member_at named copies whole before;
      }
