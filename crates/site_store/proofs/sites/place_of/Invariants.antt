use Rattle.std.proofs.Common.{◌≢◌, ◌<◌, ℕ, [], get_or}
use Rattle.site_store.specs.Servers.{names_of}
use Rattle.site_store.proofs.sites.place_of.Given as goal

abbrev pub invariant-loop-place : goal.invariant-loop-place
invariant-loop-place g l = (k : ℕ) → k < l.place → get_or (names_of l.list) k [] ≢ l.name
