-- What may stand in the tables of definitions.
use Rattle.std.specs.Prelude.{ℕ, zero, suc, ◌<◌, List, length}
use Rattle.repl_types.specs.declared.area.Area.{Area}
use Rattle.repl_types.specs.declared.area.Area.TheVariants as areas
use Rattle.repl_types.specs.declared.status.DamageCause.{DamageCause}
use Rattle.keep_core.specs.Kept.{Kept}
use Rattle.row_codec.specs.Spelling.{short_text, IsName, set_spelling, IsSet}
use Rattle.repl_definitions.specs.Defined.{defined_table_spelling, IsDefinedTable, defined_registration_spelling, IsDefinedRegistration}
use Rattle.repl_definitions.specs.Sets.{source_set_spelling, IsSourceSet, target_set_spelling, IsTargetSet}
use Rattle.site_store.specs.declared.sites.Sites.{Sites}
use Rattle.site_store.specs.Views.{names}
use Rattle.site_store.specs.Damage.{Rules, Damages}
use Rattle.world_store.specs.SpelledRows.{Spells}

-- keys of tables, of registrations, and of sets at their sources and at their targets
abbrev pub may_be_key : Area → ℕ → List ℕ → Type 0
may_be_key areas.Defs zero bytes = Spells IsName short_text bytes
may_be_key areas.Defs (suc zero) bytes = Spells IsName short_text bytes
may_be_key areas.Defs (suc (suc zero)) bytes = Spells IsSet set_spelling bytes
may_be_key areas.Defs (suc (suc (suc zero))) bytes = Spells IsSet set_spelling bytes
may_be_key a t bytes = Unit {0}

-- and their values
abbrev pub may_be_value : Area → ℕ → List ℕ → Type 0
may_be_value areas.Defs zero bytes = Spells IsDefinedTable defined_table_spelling bytes
may_be_value areas.Defs (suc zero) bytes = Spells IsDefinedRegistration defined_registration_spelling bytes
may_be_value areas.Defs (suc (suc zero)) bytes = Spells IsSourceSet source_set_spelling bytes
may_be_value areas.Defs (suc (suc (suc zero))) bytes = Spells IsTargetSet target_set_spelling bytes
may_be_value a t bytes = Unit {0}

-- no record is called for, and each fits
abbrev pub rules : Rules
rules = record {
  is_key = may_be_key;
  is_value = may_be_value;
  is_needed = λ a t key c. ⊥;
  is_unfit = λ a t key value c. ⊥;
}

-- what one of the servers was seen to have shows damage by these rules
abbrev pub ShowsDamage : {K : Type 0} → (K → Kept) → Sites K → ℕ → Area → DamageCause → Type 0
ShowsDamage kept sites = Damages (λ s. s < length (names sites)) rules kept sites
