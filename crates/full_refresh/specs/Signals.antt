-- The signal of a set.
use Rattle.std.specs.Prelude.{◌≡◌, ℕ, ◌<◌, if◌then◌else◌, List, [], ◌∷◌, ◌++◌, map, Option, Some, None}
use Rattle.std.specs.List.{list_any}
use Rattle.std.specs.Str.{bytes_eq}
use Rattle.repl_types.specs.declared.area.Area.{Area}
use Rattle.repl_types.specs.declared.record.Change.TheVariants.{Start}
use Rattle.repl_types.specs.declared.status.DamageCause.{DamageCause}
use Rattle.repl_types.specs.declared.unit.Placed.{Placed}
use Rattle.repl_types.specs.declared.unit.Unit.{Unit}
use Rattle.repl_types.specs.declared.unit.UnitHead.{UnitHead}
use Rattle.keep_core.specs.Kept.{Kept}
use Rattle.repl_definitions.specs.declared.set.SetDef.{SetDef}
use Rattle.repl_model.specs.World.{World, KnownSet}
use Rattle.repl_model.specs.SoundLogs.{log_limit}
use Rattle.repl_model.specs.NextActions.{signals}
use Rattle.repl_model.specs.AfterActions.{source_tables, after_action}
use Rattle.site_store.specs.declared.sites.Sites.{Sites}
use Rattle.site_store.specs.Damage.{Rules, joined, Damages}
use Rattle.world_commits.specs.actions.StaysSound.{length_signalled}
use Rattle.source_log.specs.Rules.{all_rules}
use Rattle.source_log.specs.Units.{table_rules}
use Rattle.set_places.specs.declared.placed_set.PlacedSet.{PlacedSet}
use Rattle.set_places.specs.Steps.{HasBecome}
use Rattle.prune_control.specs.Noting.{mark_rules}

-- ---- records

-- names with one more, unless it is among them
abbrev pub with_table : List (List ℕ) → List ℕ → List (List ℕ)
with_table names name = if list_any (bytes_eq name) names then names else names ++ name ∷ []

-- the start of a registration, placed anywhere
abbrev pub start_of : List ℕ → Placed
start_of table = record { pos = 0; change = Start table }

-- the head of the unit of a set's signal at a time, with any seq
abbrev pub head_of_signal : SetDef → ℕ → UnitHead
head_of_signal def time = record { seq = 0; time = time; authid = def.id.qual; origin = Some def.id; code = 0 }

-- the unit of a set's signal at a time, with any seq and positions
abbrev pub unit_of_signal : SetDef → ℕ → Unit
unit_of_signal def time = record { head = head_of_signal def time; changes = map start_of (source_tables def) }

-- ---- answers

-- the signal was made, and its seq is the last position of the log with it; or the log has no room for it, and the
-- servers stand for the world for which they stood
abbrev pub HasSignalled : {K : Type 0} → (K → Kept) → Sites K → Sites K → World → KnownSet → Option ℕ → Type 0
HasSignalled kept old new w k None = HasBecome kept old new w × (log_limit < length_signalled k)
HasSignalled kept old new w k (Some seq) = HasBecome kept old new (after_action w k signals) × (seq ≡ length_signalled k)

-- ---- damage

-- what the source of a set should have, for its signal: the log, and the set's mark
abbrev pub signal_rules : SetDef → Rules
signal_rules def = joined (joined all_rules (table_rules (map start_of (source_tables def)))) mark_rules

-- what the source was seen to have shows damage by these rules
abbrev pub ShowsDamage : {K : Type 0} → (K → Kept) → Sites K → PlacedSet → ℕ → Area → DamageCause → Type 0
ShowsDamage kept sites set = Damages (λ s. s ≡ set.source) (signal_rules set.at_source.def) kept sites
