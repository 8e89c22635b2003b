-- When a point is noted, and what shows that a source is damaged.
use Rattle.std.specs.Prelude.{◌≡◌, ℕ, zero, Bool, true, false, List, Some}
use Rattle.repl_types.specs.declared.area.Area.{Area}
use Rattle.repl_types.specs.declared.area.Area.TheVariants as areas
use Rattle.repl_types.specs.declared.status.DamageCause.{DamageCause}
use Rattle.keep_core.specs.Contents.{Contents}
use Rattle.keep_core.specs.Kept.{Kept}
use Rattle.row_codec.specs.Spelling.{b32}
use Rattle.repl_definitions.specs.Sets.{source_set_spelling, IsSourceSet}
use Rattle.repl_definitions.specs.declared.set.SourceSet.{SourceSet}
use Rattle.repl_records.specs.Prune.{mark_spelling, IsMark}
use Rattle.repl_model.specs.Trails.{synchpoint}
use Rattle.repl_model.specs.World.{KnownSet}
use Rattle.site_store.specs.declared.sites.Sites.{Sites}
use Rattle.site_store.specs.Damage.{Rules, Damages}
use Rattle.world_store.specs.SpelledRows.{Spells}

-- a report of a set tells this point: its targets have reached it
abbrev pub IsReport : KnownSet → ℕ → Type 0
IsReport k point = point ≡ synchpoint k.at_target.trail

-- the area of marks
abbrev pub is_of_marks : Area → Bool
is_of_marks areas.Log = false
is_of_marks areas.Source = false
is_of_marks areas.Inflight = false
is_of_marks areas.Head = false
is_of_marks areas.Defs = false
is_of_marks areas.Cd = false
is_of_marks areas.Uow = false
is_of_marks areas.Capture = false
is_of_marks areas.Prune = true
is_of_marks areas.Spill = false
is_of_marks areas.Target = false
is_of_marks areas.SetState = false
is_of_marks areas.Trail = false

-- ---- damage

-- values of marks
abbrev pub may_be_mark : Area → ℕ → List ℕ → Type 0
may_be_mark areas.Prune zero bytes = Spells IsMark mark_spelling bytes
may_be_mark a t bytes = Unit {0}

-- a set with a number stands among those whose source the server is
abbrev pub HasSourceNumbered : ℕ → Contents → Type 0
HasSourceNumbered number c = (key : List ℕ) × (row : SourceSet) × IsSourceSet row × (c areas.Defs 2 key ≡ Some (source_set_spelling row)) × (row.number ≡ number)

-- such a set calls for its mark
abbrev pub calls_for_mark : Area → ℕ → List ℕ → Contents → Type 0
calls_for_mark areas.Prune zero key c = (number : ℕ) × (key ≡ b32 number) × HasSourceNumbered number c
calls_for_mark a t key c = ⊥

-- what the marks of sets should be
abbrev pub mark_rules : Rules
mark_rules = record {
  is_key = λ a t bytes. Unit {0};
  is_value = may_be_mark;
  is_needed = calls_for_mark;
  is_unfit = λ a t key value c. ⊥;
}

-- what the source was seen to have shows damage by these rules
abbrev pub ShowsDamage : {K : Type 0} → (K → Kept) → Sites K → ℕ → ℕ → Area → DamageCause → Type 0
ShowsDamage kept sites source = Damages (λ s. s ≡ source) mark_rules kept sites
