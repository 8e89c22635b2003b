-- How often a call reads.
use Rattle.std.specs.Prelude.{◌≡◌, ℕ, ◌≤◌, false, slice_index_or}
use Rattle.repl_types.specs.Area.{same_area}
use Rattle.repl_types.specs.declared.area.Area.{Area}
use Rattle.repl_types.specs.declared.area.Area.TheVariants as areas
use Rattle.keep_core.specs.Kept.{Kept}
use Rattle.site_store.specs.declared.sites.Sites.{Sites}
use Rattle.site_store.specs.Views.{reads_in}

-- no log was read more often
abbrev pub ReadsNoLog : {K : Type 0} → (K → Kept) → Sites K → Sites K → Type 0
ReadsNoLog kept old new = (s : ℕ) → slice_index_or (reads_in kept areas.Log new) s 0 ≤ slice_index_or (reads_in kept areas.Log old) s 0

-- no area but this one was read more often, at any server
abbrev pub ReadsOnlyIn : {K : Type 0} → Area → (K → Kept) → Sites K → Sites K → Type 0
ReadsOnlyIn area kept old new = (s : ℕ) (a : Area) → same_area area a ≡ false → slice_index_or (reads_in kept a new) s 0 ≤ slice_index_or (reads_in kept a old) s 0
