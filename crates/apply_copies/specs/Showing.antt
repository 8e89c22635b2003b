-- The rows of a user copy as they are shown, and what shows that they are damaged.
use Rattle.std.specs.Prelude.{ℕ, ◌<◌, List, [], ◌∷◌, ◌++◌, length, map, Option, Some, IfSome}
use Rattle.std.specs.List.{flat_map}
use Rattle.std.specs.Option.{option_map_or}
use Rattle.repl_types.specs.Value.{Values}
use Rattle.repl_types.specs.declared.area.Area.{Area}
use Rattle.repl_types.specs.declared.status.DamageCause.{DamageCause}
use Rattle.keep_core.specs.Contents.{Contents}
use Rattle.keep_core.specs.Kept.{Kept}
use Rattle.repl_definitions.specs.declared.member.Member.{Member}
use Rattle.repl_definitions.specs.declared.set.TargetSet.{TargetSet}
use Rattle.reply_text.specs.Rows.{row_line}
use Rattle.repl_model.specs.MemberCopies.{user_copy}
use Rattle.repl_model.specs.Trails.{synchpoint}
use Rattle.repl_model.specs.World.{World, KnownSet}
use Rattle.site_store.specs.declared.sites.Sites.{Sites}
use Rattle.site_store.specs.Views.{names, sees}
use Rattle.world_store.specs.TargetRows.{source_of}
use Rattle.set_places.specs.Targets.{DefinesTargets}
use Rattle.shows.specs.tables.Replies.{count_line}
use Rattle.apply_copies.specs.Copies.{ShowsCopyDamage}

-- ---- what is shown

-- the rows of a user copy, under their keys: those of its source as of the point that the set has reached, none if
-- the source isn't there
abbrev pub copied_rows : World → KnownSet → Member → List (Values × Values)
copied_rows w k member = option_map_or (λ source. user_copy source member (synchpoint k.at_target.trail)) (source_of w k.at_target.def member) []

-- the lines of the reply: of each row, in the order of their keys, and of their count
abbrev pub copy_lines : World → KnownSet → Member → List (List ℕ)
copy_lines w k member = map (λ row. row_line row.1) (copied_rows w k member) ++ count_line (length (copied_rows w k member)) ∷ []

-- the lines one after another
abbrev pub copy_text : World → KnownSet → Member → List ℕ
copy_text w k member = flat_map (λ line. line) (copy_lines w k member)

-- ---- what shows damage

-- what was seen of a server shows this damage of a user copy that is seen to be defined there
abbrev pub ShowsRowDamage : Area → DamageCause → Option Contents → Type 0
ShowsRowDamage a cause saw = (row : TargetSet) × IfSome saw (DefinesTargets row) × ShowsCopyDamage (Some row) a cause saw

-- what one of the servers was seen to have shows it
abbrev pub ShowsDamage : {K : Type 0} → (K → Kept) → Sites K → ℕ → Area → DamageCause → Type 0
ShowsDamage kept sites s a cause = (s < length (names sites)) × ShowsRowDamage a cause (sees kept sites s)
