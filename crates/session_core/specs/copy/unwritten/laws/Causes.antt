-- Laws of why a part of a run ends it, beside other parts: proofs, and nothing to believe.
use Rattle.std.proofs.Common.{ℕ, List, arith, Option}
use Rattle.world_store.specs.Words.{Stands}
use Rattle.site_store.specs.Words.{Kept, KeepsServers, names, held}
use Rattle.site_store.specs.declared.sites.Sites.{Sites}
use Rattle.repl_model.specs.Words.{World}
use Rattle.run_commands.specs.parts.Causes.{BlamesStreams, BlamesServers, PartHasCause}
use Rattle.run_commands.specs.parts.ExitStatus.{status_of_error}
use Rattle.run_commands.specs.parts.laws.Parts.{met_later}
use Rattle.run_commands.specs.declared.parts.run_error.RunError.{RunError}
use Rattle.run_commands.specs.declared.parts.run_error.RunError.TheVariants as errors

-- ---- a part whose sink never fails

-- it doesn't fail for its output, so why it failed is a cause with any counts of another
pub cause_unwritten : {K : Type 0} (kept : K → Kept) (s0 s1 : Sites K) (before now : ℕ) (e : RunError) → PartHasCause kept s0 s1 0 0 e → PartHasCause kept s0 s1 before now e
cause_unwritten kept s0 s1 before now errors.Memory cause = record { streams = tt; servers = tt }
cause_unwritten kept s0 s1 before now errors.InputFailed cause = record { streams = cause.streams; servers = tt }
cause_unwritten kept s0 s1 before now errors.InputTooLong cause = record { streams = cause.streams; servers = tt }
cause_unwritten kept s0 s1 before now errors.OutputFailed cause = absurd (omega (arith, cause.streams (omega arith)))
cause_unwritten kept s0 s1 before now (errors.KeeperFailed n) cause = record { streams = tt; servers = cause.servers }
cause_unwritten kept s0 s1 before now (errors.Damaged n a c) cause = record { streams = tt; servers = cause.servers }

-- so are the streams that are to blame for it
pub streams_unwritten : (input : Option (List ℕ)) (in_before in_now before now : ℕ) (e : RunError) → BlamesStreams input in_before in_now 0 0 (status_of_error e) → BlamesStreams input in_before in_now before now (status_of_error e)
streams_unwritten input in_before in_now before now errors.Memory blames = tt
streams_unwritten input in_before in_now before now errors.InputFailed blames = blames
streams_unwritten input in_before in_now before now errors.InputTooLong blames = blames
streams_unwritten input in_before in_now before now errors.OutputFailed blames = absurd (omega (arith, blames (omega arith)))
streams_unwritten input in_before in_now before now (errors.KeeperFailed n) blames = tt
streams_unwritten input in_before in_now before now (errors.Damaged n a c) blames = tt

-- ---- a part that reads no input

-- it doesn't end for one, so the streams are to blame with any input
pub part_blamed : {K : Type 0} (kept : K → Kept) (s0 s1 : Sites K) (input : Option (List ℕ)) (in_before in_now before now : ℕ) (e : RunError) → PartHasCause kept s0 s1 before now e → BlamesStreams input in_before in_now before now (status_of_error e)
part_blamed kept s0 s1 input in_before in_now before now errors.Memory cause = tt
part_blamed kept s0 s1 input in_before in_now before now errors.InputFailed cause = absurd (omega (arith, cause.streams (omega arith)))
part_blamed kept s0 s1 input in_before in_now before now errors.InputTooLong cause = absurd (omega (arith, cause.streams))
part_blamed kept s0 s1 input in_before in_now before now errors.OutputFailed cause = cause.streams
part_blamed kept s0 s1 input in_before in_now before now (errors.KeeperFailed n) cause = tt
part_blamed kept s0 s1 input in_before in_now before now (errors.Damaged n a c) cause = tt

-- ---- a part after another

-- the servers that are to blame for the second are to blame for both
pub servers_later : {K : Type 0} (kept : K → Kept) (s0 s1 s2 : Sites K) (e : RunError) → KeepsServers kept s0 s1 → ((w : World) → Stands (names s0) (held kept s0) w → (v : World) × Stands (names s0) (held kept s1) v)
    → BlamesServers kept s1 s2 (status_of_error e) → BlamesServers kept s0 s2 (status_of_error e)
servers_later kept s0 s1 s2 errors.Memory keeps stands blames = tt
servers_later kept s0 s1 s2 errors.InputFailed keeps stands blames = tt
servers_later kept s0 s1 s2 errors.InputTooLong keeps stands blames = tt
servers_later kept s0 s1 s2 errors.OutputFailed keeps stands blames = tt
servers_later kept s0 s1 s2 (errors.KeeperFailed n) keeps stands blames = λ lt. omega (arith, blames lt, keeps.faults n)
servers_later kept s0 s1 s2 (errors.Damaged n a c) keeps stands blames = met_later kept s0 s1 s2 n a c keeps stands blames
