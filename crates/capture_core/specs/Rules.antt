-- What may stand in the tables that a capture reads, and what shows that a server is damaged.
use Rattle.std.specs.Prelude.{◌≡◌, ℕ, zero, List}
use Rattle.repl_types.specs.declared.area.Area.{Area}
use Rattle.repl_types.specs.declared.area.Area.TheVariants as areas
use Rattle.repl_types.specs.declared.status.DamageCause.{DamageCause}
use Rattle.keep_core.specs.Kept.{Kept}
use Rattle.row_codec.specs.LogRecords.{IsLogRecord, log_spelling}
use Rattle.row_codec.specs.Spelling.{Is64, b64}
use Rattle.repl_records.specs.Capture.{IsCapture, capture_spelling}
use Rattle.site_store.specs.declared.sites.Sites.{Sites}
use Rattle.site_store.specs.Damage.{Rules, Damages, joined}
use Rattle.world_store.specs.SpelledRows.{Spells}
use Rattle.cd_tables.specs.Rules.{rules as unit_rules}

-- keys of log records
abbrev pub may_be_key : Area → ℕ → List ℕ → Type 0
may_be_key areas.Log zero bytes = Spells Is64 b64 bytes
may_be_key a t bytes = Unit {0}

-- and values: log records, and how far capture is
abbrev pub may_be_value : Area → ℕ → List ℕ → Type 0
may_be_value areas.Log zero bytes = Spells IsLogRecord log_spelling bytes
may_be_value areas.Capture zero bytes = Spells IsCapture capture_spelling bytes
may_be_value a t bytes = Unit {0}

-- no record is called for, and each fits
abbrev pub log_rules : Rules
log_rules = record {
  is_key = may_be_key;
  is_value = may_be_value;
  is_needed = λ a t key c. ⊥;
  is_unfit = λ a t key value c. ⊥;
}

-- what a capture finds: in the log, and when it captures a unit
abbrev pub rules : Rules
rules = joined log_rules unit_rules

-- what the server was seen to have shows damage by these rules
abbrev pub ShowsDamage : {K : Type 0} → (K → Kept) → Sites K → ℕ → ℕ → Area → DamageCause → Type 0
ShowsDamage kept sites server = Damages (λ s. s ≡ server) rules kept sites
