-- What may stand in the tables that a copy is loaded from and in the copy, and what shows that a server is damaged.
use Rattle.std.specs.Prelude.{◌≡◌, ◌⊎◌, ℕ, ◌<◌, zero, suc, Bool, true, false, List, length, map}
use Rattle.repl_types.specs.Sizes.{row_limit}
use Rattle.repl_types.specs.declared.area.Area.{Area}
use Rattle.repl_types.specs.declared.area.Area.TheVariants as areas
use Rattle.repl_types.specs.declared.status.DamageCause.{DamageCause}
use Rattle.keep_core.specs.Contents.{Contents}
use Rattle.keep_core.specs.Kept.{Kept}
use Rattle.row_codec.specs.Spelling.{key_spelling, IsKey}
use Rattle.repl_definitions.specs.Sets.{source_set_spelling, IsSourceSet}
use Rattle.repl_definitions.specs.declared.member.Member.{Member}
use Rattle.repl_definitions.specs.declared.set.SourceSet.{SourceSet}
use Rattle.repl_records.specs.SourceSide.{source_row_spelling, IsSourceRow}
use Rattle.repl_records.specs.TargetSide.{copy_spelling, IsCopy}
use Rattle.repl_model.specs.MemberCopies.{user_copy}
use Rattle.repl_model.specs.Selection.{SourceTable}
use Rattle.repl_model.specs.SoundLogs.{LogIsSound}
use Rattle.rows_in_order.specs.Rows.{table_from_rows}
use Rattle.repl_definitions.specs.Members.{IsMember}
use Rattle.repl_model.specs.World.{Server}
use Rattle.site_store.specs.declared.sites.Sites.{Sites}
use Rattle.site_store.specs.Damage.{Rules, joined, Damages, IsUndamaged}
use Rattle.stored_defs.specs.Reading.{table_rules}
use Rattle.world_store.specs.SpelledRows.{Spells}
use Rattle.lists.specs.laws.Members.{In}
use Rattle.set_places.specs.declared.placed_set.PlacedSet.{PlacedSet}
use Rattle.set_places.specs.Members.{member_rules}

-- the areas that a load reads
abbrev pub is_of_load : Area → Bool
is_of_load areas.Log = false
is_of_load areas.Source = true
is_of_load areas.Inflight = false
is_of_load areas.Head = false
is_of_load areas.Defs = true
is_of_load areas.Cd = false
is_of_load areas.Uow = false
is_of_load areas.Capture = false
is_of_load areas.Prune = false
is_of_load areas.Spill = false
is_of_load areas.Target = true
is_of_load areas.SetState = false
is_of_load areas.Trail = false

-- ---- at the target

-- what a copy should have: keys and rows in the table with its number
abbrev pub target_rules : ℕ → Rules
target_rules number = table_rules IsKey key_spelling IsCopy copy_spelling areas.Target number

-- ---- at the source

-- keys of rows
abbrev pub may_be_source_key : Area → ℕ → List ℕ → Type 0
may_be_source_key areas.Source n bytes = Spells IsKey key_spelling bytes
may_be_source_key a n bytes = Unit {0}

-- and rows of the source
abbrev pub may_be_source_row : Area → ℕ → List ℕ → Type 0
may_be_source_row areas.Source n bytes = Spells IsSourceRow source_row_spelling bytes
may_be_source_row a n bytes = Unit {0}

-- a set doesn't fit that has a member with more columns than a row has values
abbrev pub is_too_wide : Area → ℕ → List ℕ → List ℕ → Contents → Type 0
is_too_wide areas.Defs (suc (suc zero)) key value c = (row : SourceSet) × IsSourceSet row × (value ≡ source_set_spelling row) × ((member : Member) × In member row.def.members × (row_limit < length member.columns))
is_too_wide a t key value c = ⊥

-- what the source of a copy should have
abbrev pub source_rules : Rules
source_rules = joined member_rules (record { is_key = may_be_source_key; is_value = may_be_source_row; is_needed = λ a t key c. ⊥; is_unfit = is_too_wide })

-- what the source or the target with a number was seen to have shows damage by its rules
abbrev pub ShowsDamage : {K : Type 0} → (K → Kept) → Sites K → PlacedSet → ℕ → ℕ → Area → DamageCause → Type 0
ShowsDamage kept sites set number s a cause = Damages (λ q. q ≡ set.source) source_rules kept sites s a cause ⊎ Damages (λ q. q ≡ set.target) (target_rules number) kept sites s a cause

-- a target that has the rows of a user copy of a source of a sound log at a point, and no others, shows no damage
abbrev pub TargetIsUndamaged : Type 0
TargetIsUndamaged = (server : Server) (source : SourceTable) (member : Member) (point number : ℕ) (c : Contents) → LogIsSound server → source.log ≡ server.log → IsMember member
    → c areas.Target number ≡ table_from_rows key_spelling copy_spelling (map (λ r. (r.0, record { row = r.1 })) (user_copy source member point)) → IsUndamaged (target_rules number) c
