-- Which areas a call reads.
use Rattle.std.specs.Prelude.{◌≡◌, ℕ, ◌≤◌, Bool, true, false, slice_index_or}
use Rattle.repl_types.specs.declared.area.Area.{Area}
use Rattle.repl_types.specs.declared.area.Area.TheVariants as areas
use Rattle.keep_core.specs.Kept.{Kept}
use Rattle.site_store.specs.declared.sites.Sites.{Sites}
use Rattle.site_store.specs.Views.{reads_in}

-- no area but these was read more often, at any server
abbrev pub ReadsOnly : {K : Type 0} → (Area → Bool) → (K → Kept) → Sites K → Sites K → Type 0
ReadsOnly these kept old new = (s : ℕ) (a : Area) → these a ≡ false → slice_index_or (reads_in kept a new) s 0 ≤ slice_index_or (reads_in kept a old) s 0

-- the area of definitions
abbrev pub is_of_definitions : Area → Bool
is_of_definitions areas.Log = false
is_of_definitions areas.Source = false
is_of_definitions areas.Inflight = false
is_of_definitions areas.Head = false
is_of_definitions areas.Defs = true
is_of_definitions areas.Cd = false
is_of_definitions areas.Uow = false
is_of_definitions areas.Capture = false
is_of_definitions areas.Prune = false
is_of_definitions areas.Spill = false
is_of_definitions areas.Target = false
is_of_definitions areas.SetState = false
is_of_definitions areas.Trail = false
