-- What may stand in the tables that are read about sets, and what shows that a server is damaged.
use Rattle.std.specs.Prelude.{ℕ, ◌<◌, length}
use Rattle.repl_types.specs.declared.area.Area.{Area}
use Rattle.repl_types.specs.declared.status.DamageCause.{DamageCause}
use Rattle.keep_core.specs.Kept.{Kept}
use Rattle.site_store.specs.declared.sites.Sites.{Sites}
use Rattle.site_store.specs.Views.{names}
use Rattle.site_store.specs.Damage.{Rules, joined, Damages}
use Rattle.stored_defs.specs.Rules.{rules as definition_rules}
use Rattle.prune_control.specs.Noting.{mark_rules}
use Rattle.subs_sets.specs.Rules.{state_rules}

-- what is known of how far a set is: its mark at its source, and its state at its target
abbrev pub status_rules : Rules
status_rules = joined mark_rules state_rules

-- definitions, and how far sets are
abbrev pub rules : Rules
rules = joined definition_rules status_rules

-- what one of the servers was seen to have shows damage by these rules
abbrev pub ShowsDamage : {K : Type 0} → (K → Kept) → Sites K → ℕ → Area → DamageCause → Type 0
ShowsDamage kept sites = Damages (λ s. s < length (names sites)) rules kept sites
