-- What shows that a server is damaged, by the rules of all parts of a run.
use Rattle.std.specs.Prelude.{◌⊎◌, ℕ, ◌<◌, [], length}
use Rattle.repl_types.specs.declared.area.Area.{Area}
use Rattle.repl_types.specs.declared.status.DamageCause.{DamageCause}
use Rattle.keep_core.specs.Kept.{Kept}
use Rattle.site_store.specs.declared.sites.Sites.{Sites}
use Rattle.site_store.specs.Views.{names, sees}
use Rattle.site_store.specs.Damage.{Rules, joined, Shows}
use Rattle.stored_defs.specs.Rules.{rules as stored_rules}
use Rattle.shows.specs.servers.Rules.{rules as status_rules}
use Rattle.shows.specs.tables.Rules.{rules as source_rules}
use Rattle.source_log.specs.Rules.{all_rules as append_rules}
use Rattle.source_log.specs.Units.{table_rules}
use Rattle.capture_core.specs.Rules.{rules as capture_rules}
use Rattle.subs_sets.specs.Rules.{rules as set_rules}
use Rattle.shows.specs.sets.Rules.{rules as shown_rules}
use Rattle.member_targets.specs.Kinds.{ShowsTargetDamage}

-- the rules of what is read of definitions, of how far a server is, of its source, before its log is made longer, when its
-- log is captured, of how far a set is, of tables when a unit of the program's own is appended, and of sets when they are shown
abbrev pub rules : Rules
rules = joined stored_rules (joined status_rules (joined source_rules (joined append_rules (joined capture_rules (joined set_rules (joined (table_rules []) shown_rules))))))

-- what one of the servers was seen to have shows damage by these rules, or by those of targets
abbrev pub ShowsDamage : {K : Type 0} → (K → Kept) → Sites K → ℕ → Area → DamageCause → Type 0
ShowsDamage kept sites s a cause = (s < length (names sites)) × (Shows rules a cause (sees kept sites s) ⊎ ShowsTargetDamage a cause (sees kept sites s))
