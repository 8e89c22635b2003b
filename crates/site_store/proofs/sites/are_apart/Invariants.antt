use Rattle.std.proofs.Common.{◌≢◌, ◌<◌, ℕ, [], get_or}
use Rattle.site_store.specs.Servers.{names_of}
use Rattle.site_store.proofs.sites.are_apart.Given as goal

abbrev pub invariant-loop-place : goal.invariant-loop-place
invariant-loop-place g l = (i j : ℕ) → i < j → j < l.place → get_or (names_of l.list) i [] ≢ get_or (names_of l.list) j []
