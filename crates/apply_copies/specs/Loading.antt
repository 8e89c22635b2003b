-- What the load of a copy makes of contents.
use Rattle.std.specs.Prelude.{◌≡◌, ℕ, ◌&&◌, ◌==◌, Bool, false, [], length, Some, None, slice_get, map}
use Rattle.repl_types.specs.Area.{same_area}
use Rattle.repl_types.specs.declared.area.Area.{Area}
use Rattle.repl_types.specs.declared.area.Area.TheVariants as areas
use Rattle.repl_types.specs.declared.fault.Counts.{Counts}
use Rattle.keep_core.specs.Contents.{Contents}
use Rattle.keep_core.specs.Kept.{Kept}
use Rattle.row_codec.specs.Spelling.{key_spelling}
use Rattle.repl_definitions.specs.declared.member.Member.{Member}
use Rattle.repl_records.specs.TargetSide.{copy_spelling}
use Rattle.rows_in_order.specs.Rows.{table_from_rows}
use Rattle.repl_model.specs.MemberCopies.{user_copy}
use Rattle.repl_model.specs.Selection.{SourceTable, selected_rows}
use Rattle.repl_model.specs.Units.{last_commit}
use Rattle.repl_model.specs.World.{source_named}
use Rattle.site_store.specs.declared.sites.Sites.{Sites}
use Rattle.site_store.specs.Damage.{ShownBefore}
use Rattle.set_places.specs.declared.placed_set.PlacedSet.{PlacedSet}
use Rattle.set_places.specs.Members.{ForSource}
use Rattle.set_places.specs.Targets.{target_number}
use Rattle.apply_copies.specs.Rules.{target_rules}

-- the table is the target with this number
abbrev pub is_target : ℕ → Area → ℕ → Bool
is_target number a n = same_area areas.Target a && (n == number)

-- the counts are of rows alone
abbrev pub HasOnlyRows : Counts → Type 0
HasOnlyRows counts = (counts.inserts ≡ 0) × (counts.updates ≡ 0) × (counts.deletes ≡ 0)

-- The target of a member became the copy of its source at the source's last commit, with so many rows. All other
-- tables are as they were, and no damage is shown that wasn't shown before. (No row has the empty key.)
pub record LoadsCopy {K : Type 0} (kept : K → Kept) (sites : Sites K) (set : PlacedSet) (place rows : ℕ) (c d : Contents) : Type 0 where
  pub others : (a : Area) (n : ℕ) → is_target (target_number set.at_target.number place) a n ≡ false → d a n ≡ c a n
  pub shown : (n : ℕ) → ShownBefore (target_rules n) c d
  pub copies : ForSource kept sites set (λ w k. (member : Member) (source : SourceTable) → slice_get k.at_source.def.members place ≡ Some member → source_named member.source k.source ≡ Some source
      → c areas.Target (target_number set.at_target.number place) [] ≡ None
      → (d areas.Target (target_number set.at_target.number place) ≡ table_from_rows key_spelling copy_spelling (map (λ r. (r.0, record { row = r.1 })) (user_copy source member (last_commit k.source.log))))
      × (rows ≡ length (selected_rows source member (last_commit k.source.log))))
