-- What the change rows of an interval make of a copy.
use Rattle.std.specs.Prelude.{◌≡◌, ℕ, ◌≤◌, Bool, true, false, Some, None, slice_get}
use Rattle.repl_types.specs.declared.area.Area.{Area}
use Rattle.repl_types.specs.declared.area.Area.TheVariants as areas
use Rattle.repl_types.specs.declared.fault.Counts.{Counts}
use Rattle.keep_core.specs.Contents.{Contents}
use Rattle.keep_core.specs.Kept.{Kept}
use Rattle.repl_definitions.specs.declared.member.Member.{Member}
use Rattle.repl_model.specs.ChangeRows.{changes_between}
use Rattle.repl_model.specs.NextActions.{member_gap}
use Rattle.repl_model.specs.Rules.{is_copy}
use Rattle.repl_model.specs.Selection.{SourceTable}
use Rattle.repl_model.specs.World.{KnownSet, source_named}
use Rattle.site_store.specs.declared.sites.Sites.{Sites}
use Rattle.site_store.specs.Damage.{ShownBefore}
use Rattle.stored_commits.specs.copies.ChangedCopies.{copy_table}
use Rattle.target_steps.specs.Taking.{counts_of}
use Rattle.set_places.specs.declared.placed_set.PlacedSet.{PlacedSet}
use Rattle.set_places.specs.Members.{ForSource}
use Rattle.set_places.specs.Places.{IsReadOnly}
use Rattle.set_places.specs.Targets.{target_number}
use Rattle.apply_copies.specs.Loading.{is_target}
use Rattle.apply_copies.specs.Rules.{target_rules}

-- the areas that are read to take change rows
abbrev pub is_of_changes : Area → Bool
is_of_changes areas.Log = false
is_of_changes areas.Source = false
is_of_changes areas.Inflight = false
is_of_changes areas.Head = false
is_of_changes areas.Defs = true
is_of_changes areas.Cd = true
is_of_changes areas.Uow = false
is_of_changes areas.Capture = false
is_of_changes areas.Prune = false
is_of_changes areas.Spill = false
is_of_changes areas.Target = true
is_of_changes areas.SetState = false
is_of_changes areas.Trail = false

-- The interval from one point to another is captured whole for a member of a set: the registration of its source has no
-- gap after the first point, and the second is captured.
pub record IsKept (k : KnownSet) (member : Member) (low high : ℕ) : Type 0 where
  pub gap : member_gap k.source low member ≡ None
  pub rises : low ≤ high
  pub captured : high ≤ k.source.captured

-- The target of a member took the change rows of an interval, which count so. If it was the copy at the interval's start, it
-- is the copy at its end. All other tables are as they were, and no damage is shown that wasn't shown before.
pub record TakesChanges {K : Type 0} (kept : K → Kept) (sites : Sites K) (set : PlacedSet) (place low high : ℕ) (counts : Counts) (c d : Contents) : Type 0 where
  pub others : (a : Area) (n : ℕ) → is_target (target_number set.at_target.number place) a n ≡ false → d a n ≡ c a n
  pub shown : (n : ℕ) → ShownBefore (target_rules n) c d
  pub copies : ForSource kept sites set (λ w k. (member : Member) (source : SourceTable) → IsReadOnly k → slice_get k.at_source.def.members place ≡ Some member → source_named member.source k.source ≡ Some source → is_copy member.kind ≡ true
      → IsKept k member low high → c areas.Target (target_number set.at_target.number place) ≡ copy_table source member low
      → (d areas.Target (target_number set.at_target.number place) ≡ copy_table source member high)
      × (counts ≡ counts_of (changes_between source.log source.reg low high)))
