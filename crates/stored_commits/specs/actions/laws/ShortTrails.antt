-- The trail of a read-only set has few entries, since their points rise within a log.
use Rattle.std.proofs.Common.{◌*◌, ◌≤◌, length, arith}
use Rattle.repl_model.specs.Words.{World, KnownSet, known_sets, log_limit, LogIsSound, read_only_sets, TrailIsSound, IsSound, In, at_one, source_in, goes_within}
use Rattle.world_commits.specs.actions.laws.Signals.{set_stands}

-- ---- trails

-- the trail of a read-only set of a sound world has few entries
pub trail_short : (world : World) (k : KnownSet) → IsSound world → In k (read_only_sets (known_sets world)) → length k.at_target.trail ≤ 2 * log_limit
trail_short world k sound i =
    let trail = at_one TrailIsSound (read_only_sets (known_sets world)) k sound.trails i in
    let log = at_one LogIsSound world k.source sound.logs (source_in world k (set_stands world k i)) in
    omega (arith, log.short, (goes_within k.source.log 0 0 0 k.at_target.trail (omega arith) (omega arith) (omega arith) trail.goes).3)
