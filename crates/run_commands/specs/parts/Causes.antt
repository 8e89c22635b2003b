-- Who is to blame for the status of a run.
use Rattle.std.specs.Prelude.{◌≡◌, ℕ, ◌<◌, ◌≤◌, Bool, List, [], length, Option, Some, Result, Ok, Err, slice_index_or}
use Rattle.std.specs.Option.{IfSome}
use Rattle.repl_types.specs.declared.area.Area.{Area}
use Rattle.repl_types.specs.declared.area.Area.TheVariants as areas
use Rattle.repl_types.specs.declared.status.DamageCause.{DamageCause}
use Rattle.repl_types.specs.declared.status.Status.{Status}
use Rattle.repl_types.specs.declared.status.Status.TheVariants as statuses
use Rattle.keep_core.specs.Kept.{Kept}
use Rattle.keep_core.specs.Revealed.{Rises}
use Rattle.line_input.specs.Limits.{input_limit}
use Rattle.repl_model.specs.World.{World}
use Rattle.site_store.specs.Calls.{IsRead}
use Rattle.site_store.specs.Views.{names, held, fault_counts, reads_in}
use Rattle.site_store.specs.declared.sites.Sites.{Sites}
use Rattle.world_store.specs.Stands.{Stands}
use Rattle.run_commands.specs.parts.Damage.{ShowsDamage}
use Rattle.run_commands.specs.parts.ExitStatus.{status_of_error}
use Rattle.run_commands.specs.declared.parts.run_error.RunError.{RunError}
use Rattle.run_commands.specs.declared.parts.run_error.RunError.TheVariants as errors

-- ---- a status

-- A failed input or output has a count of faults that rose; an input that is too long has more bytes than it may have, if
-- it reveals them. These are the bytes that it had left, and the counts of both, before and after.
abbrev pub BlamesStreams : Option (List ℕ) → ℕ → ℕ → ℕ → ℕ → Status → Type 0
BlamesStreams input in_before in_now out_before out_now statuses.InputFault = Rises in_before in_now
BlamesStreams input in_before in_now out_before out_now statuses.InputTooLong = IfSome input (λ bytes. input_limit < length bytes)
BlamesStreams input in_before in_now out_before out_now statuses.OutputFault = Rises out_before out_now
BlamesStreams input in_before in_now out_before out_now status = Unit {0}

-- Damage was met at one of the servers, and these stood for no world before. If it was read, the count of reads of its area
-- rose there, and what the server holds at the end shows it. If it wasn't, a set doesn't come to rest, and the area is the
-- one that says how far its source is captured.
pub record MetDamage {K : Type 0} (kept : K → Kept) (old new : Sites K) (s : ℕ) (a : Area) (cause : DamageCause) : Type 0 where
  pub server : s < length (names old)
  pub read : IsRead cause → Rises (slice_index_or (reads_in kept a old) s 0) (slice_index_or (reads_in kept a new) s 0)
  pub shown : IsRead cause → ShowsDamage kept new s a cause
  pub rest : ¬ (IsRead cause) → a ≡ areas.Capture
  pub unsound : (w : World) → ¬ (Stands (names old) (held kept old) w)

-- a failed keeper has a count of faults that rose, and at a damaged server damage was met
abbrev pub BlamesServers : {K : Type 0} → (K → Kept) → Sites K → Sites K → Status → Type 0
BlamesServers kept old new (statuses.KeeperFault s) = Rises (slice_index_or (fault_counts kept old) s 0) (slice_index_or (fault_counts kept new) s 0)
BlamesServers kept old new (statuses.Damaged s area cause) = MetDamage kept old new s area cause
BlamesServers kept old new status = Unit {0}

-- What a status says of its cause.
pub record HasCause {K : Type 0} (kept : K → Kept) (old new : Sites K) (input : Option (List ℕ)) (in_before in_now out_before out_now : ℕ) (status : Status) : Type 0 where
  pub streams : BlamesStreams input in_before in_now out_before out_now status
  pub servers : BlamesServers kept old new status

-- ---- a part of a run

-- how a run that reads its input ended: at Ok it has read it to its end, and within the limit
abbrev pub HasEnded : Option (List ℕ) → Option (List ℕ) → ℕ → ℕ → ℕ → ℕ → Result Bool RunError → Type 0
HasEnded input left in_before in_now out_before out_now (Ok refused) = IfSome input (λ bytes. (left ≡ Some []) × (length bytes ≤ input_limit))
HasEnded input left in_before in_now out_before out_now (Err e) = BlamesStreams input in_before in_now out_before out_now (status_of_error e)

-- why a part of a run that reads no input failed: as if the input were empty and had never failed
abbrev pub PartHasCause : {K : Type 0} → (K → Kept) → Sites K → Sites K → ℕ → ℕ → RunError → Type 0
PartHasCause kept old new out_before out_now e = HasCause kept old new (Some []) 0 0 out_before out_now (status_of_error e)

-- damage is reported only if it was found by a read
abbrev pub FoundByRead : RunError → Type 0
FoundByRead (errors.Damaged s area cause) = IsRead cause
FoundByRead e = Unit {0}

-- why a call that writes failed: memory ran out, or the output failed
abbrev pub IsOfOutput : ℕ → ℕ → RunError → Type 0
IsOfOutput before now errors.Memory = Unit {0}
IsOfOutput before now errors.OutputFailed = Rises before now
IsOfOutput before now e = ⊥
