-- The load of a copy, and its change rows, take a member through a step: proofs.
use Rattle.std.proofs.Common.{◌≡◌, ℕ, ◌<◌, true, [], length, refl, sym, ap, subst, ◌∙◌, Option, Some, None, Result, Ok, Err, IfOk}
use Rattle.world_store.specs.Words.{rows_refreshed}
use Rattle.site_store.specs.Words.{Contents, Table, Kept, ShownBefore, work, IsOpenAt, GoesOn, goes_as}
use Rattle.site_store.specs.declared.sites.Sites.{Sites}
use Rattle.repl_model.specs.Words.{Area, DamageCause, Counts, Fault, Member, TargetKind, TargetSet, member_gap, is_copy, refresh, last_commit, at_place_in, at_one}
use Rattle.repl_types.specs.declared.area.Area.TheVariants as areas
use Rattle.stored_commits.specs.copies.ChangedCopies.{copy_table}
use Rattle.set_places.specs.declared.placed_set.PlacedSet.{PlacedSet}
use Rattle.target_steps.specs.declared.step.BasePoint.{BasePoint}
use Rattle.target_steps.specs.declared.step.Step.TheVariants.{Refresh, Block}
use Rattle.target_steps.specs.Taking.{base_of_step, entry_of, counts_of, TakesMember}
use Rattle.set_places.specs.Targets.{target_number}
use Rattle.set_places.specs.laws.Targets.{number_is}
use Rattle.apply_copies.specs.Loading.{HasOnlyRows, LoadsCopy}
use Rattle.apply_copies.specs.Rules.{target_rules}
use Rattle.apply_copies.specs.Taking.{TakesChanges}
use Rattle.apply_copies.specs.Copies.{is_user_copy, ShowsCopyDamage}
use Rattle.apply_copies.specs.laws.TargetLaws.{kind_is}
use Rattle.apply_copies.proofs.CopyTables.{table_is, rows_are, changes_are, table_after, copies_keyed}

-- where no damage of a target is shown that wasn't shown before, none is shown of a set's copies
copy_shown : (row : TargetSet) (c d : Contents) → ((n : ℕ) → ShownBefore (target_rules n) c d) → (a : Area) (cause : DamageCause) → ShowsCopyDamage (Some row) a cause (Some d) → ShowsCopyDamage (Some row) a cause (Some c)
copy_shown row c d targets a cause h = (h.0, h.1, targets h.0 a cause h.2)

module _ {K : Type 0} (kept : K → Kept) (sites : Sites K) (set : PlacedSet) (place : ℕ) (counts : Counts) (c d : Contents) (within : place < length set.at_source.def.members) where
  -- if a target became the copy of its source, the member was taken through a refresh
  loads_member : (point time : ℕ) → HasOnlyRows counts → LoadsCopy kept sites set place counts.rows c d → TakesMember kept is_user_copy sites set place (Refresh point time) ShowsCopyDamage counts c d
  loads_member point time only load = record {
    others = λ w k sound placed a n other. load.others a n (rw (number_is w k set place sound placed within) other);
    shown = copy_shown set.at_target c d load.shown;
    taken = λ w k sound placed reveals member source read_only can at named copy was.
        let q = base_of_step k.at_source.def (Refresh point time) in
        let number = number_is w k set place sound placed within in
        let empty : c areas.Target (target_number set.at_target.number place) [] ≡ None = ap (λ (n : ℕ). c areas.Target n []) number ∙ ap (λ (t : Table). t []) (was ∙ table_is source member copy k.at_target.trail) ∙ copies_keyed w k.source sound (at_place_in w set.source k.source placed.source) member.source source member k.at_target.trail named in
        let made = load.copies w k sound placed reveals member source at named empty in (
          ap (λ (n : ℕ). d areas.Target n) (sym number) ∙ made.0 ∙ ap (copy_table source member) (sym can.last) ∙ sym (table_after source member copy k.at_target.trail (refresh point q)),
          λ i. record { rows = (made.1 ∙ sym (rows_are source member copy (last_commit k.source.log) q) ∙ ap (λ (p : ℕ). rows_refreshed source p q member) (sym can.last)) i; inserts = only.0 i; updates = only.1 i; deletes = only.2 i },
        );
  }

  -- if it took the change rows of an interval, the member was taken through a block
  takes_member : (low low_time high time : ℕ) (base : Option BasePoint) → TakesChanges kept sites set place low high counts c d → TakesMember kept is_user_copy sites set place (Block low low_time high time base) ShowsCopyDamage counts c d
  takes_member low low_time high time base takes = record {
    others = λ w k sound placed a n other. takes.others a n (rw (number_is w k set place sound placed within) other);
    shown = copy_shown set.at_target c d takes.shown;
    taken = λ w k sound placed reveals member source read_only can at named copy was.
        let number = number_is w k set place sound placed within in
        let before : c areas.Target (target_number set.at_target.number place) ≡ copy_table source member low = ap (λ (n : ℕ). c areas.Target n) number ∙ was ∙ table_is source member copy k.at_target.trail ∙ ap (copy_table source member) (sym can.from) in
        let gap = at_one (λ (m : Member). member_gap k.source low m ≡ None) k.at_source.def.members member can.gaps (at_place_in k.at_source.def.members place member at) in
        let made = takes.copies w k sound placed reveals member source read_only at named (subst (λ (kind : TargetKind). is_copy kind ≡ true) (kind_is member.kind copy) refl) (record { gap = gap; rises = can.rises; captured = can.captured }) before in (
          ap (λ (n : ℕ). d areas.Target n) (sym number) ∙ made.0 ∙ sym (table_after source member copy k.at_target.trail (entry_of k.at_source.def (Block low low_time high time base))),
          made.1 ∙ ap counts_of (sym (changes_are source member copy low high)),
        );
  }

module _ {K : Type 0} (kept : K → Kept) (s0 s1 : Sites K) (set : PlacedSet) (place : ℕ) (within : place < length set.at_source.def.members) (open_at : IsOpenAt (work kept s0) set.target) where
  -- what a call that loads the copy leaves is what a refresh leaves
  pub load_takes : (point time : ℕ) (result : Result Counts Fault) → IfOk result (λ counts. GoesOn kept s0 s1 set.target (LoadsCopy kept s0 set place counts.rows)) → IfOk result HasOnlyRows → IfOk result (λ counts. GoesOn kept s0 s1 set.target (TakesMember kept is_user_copy s0 set place (Refresh point time) ShowsCopyDamage counts))
  load_takes point time (Ok counts) goes only = goes_as kept s0 s1 set.target (LoadsCopy kept s0 set place counts.rows) (TakesMember kept is_user_copy s0 set place (Refresh point time) ShowsCopyDamage counts) open_at goes
      (λ c d load. loads_member kept s0 set place counts c d within point time only load)
  load_takes point time (Err e) goes only = tt

  -- and what one leaves that takes the change rows of an interval is what a block leaves
  pub changes_take : (low low_time high time : ℕ) (base : Option BasePoint) (result : Result Counts Fault) → IfOk result (λ counts. GoesOn kept s0 s1 set.target (TakesChanges kept s0 set place low high counts)) → IfOk result (λ counts. GoesOn kept s0 s1 set.target (TakesMember kept is_user_copy s0 set place (Block low low_time high time base) ShowsCopyDamage counts))
  changes_take low low_time high time base (Ok counts) goes = goes_as kept s0 s1 set.target (TakesChanges kept s0 set place low high counts) (TakesMember kept is_user_copy s0 set place (Block low low_time high time base) ShowsCopyDamage counts) open_at goes
      (λ c d takes. takes_member kept s0 set place counts c d within low low_time high time base takes)
  changes_take low low_time high time base (Err e) goes = tt
