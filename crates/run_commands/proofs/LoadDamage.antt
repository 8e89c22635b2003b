-- Why a load failed.
use Rattle.std.proofs.Common.{◌≡◌, ℕ, Some}
use Rattle.site_store.specs.Words.{Kept, KeepsServers, Blames, AllClosed, held, work}
use Rattle.site_store.specs.declared.sites.Sites.{Sites}
use Rattle.repl_model.specs.Words.{Area, DamageCause, Fault}
use Rattle.repl_types.specs.declared.fault.Fault.TheVariants as faults
use Rattle.stored_defs.specs.Rules.{rules, ShowsDamage}
use Rattle.stored_defs.specs.laws.Standing.{none_damaged}
use Rattle.load_defs.specs.Loading.{BlamesOrRefuses}
use Rattle.run_commands.specs.parts.Causes.{PartHasCause}
use Rattle.run_commands.specs.parts.RunErrors.{error_of_fault}
use Rattle.run_commands.specs.declared.parts.run_error.RunError.{RunError}
use Rattle.run_commands.specs.parts.laws.Damage.{all_shown, stored_shown, fault_cause}

module _ {K : Type 0} (kept : K → Kept) (s0 s1 : Sites K) (closed : AllClosed (work kept s0)) (keeps : KeepsServers kept s0 s1) where
  -- who is to blame, if nothing was refused
  blamed : (e : Fault) (error : RunError) → Some error ≡ error_of_fault e → BlamesOrRefuses kept s0 s1 (ShowsDamage kept s0) e → Blames kept s0 s1 (ShowsDamage kept s0) e
  blamed faults.Memory error is blames = blames
  blamed (faults.Keeper n) error is blames = blames
  blamed (faults.Damaged n a cause) error is blames = blames.0
  blamed (faults.Refused refusal) error is blames = absurd cc

  -- if damage was found, the servers hold what they held
  unchanged : (e : Fault) → BlamesOrRefuses kept s0 s1 (ShowsDamage kept s0) e → (n : ℕ) (a : Area) (cause : DamageCause) → e ≡ faults.Damaged n a cause → held kept s1 ≡ held kept s0
  unchanged faults.Memory blames n a cause is = absurd cc
  unchanged (faults.Keeper m) blames n a cause is = absurd cc
  unchanged (faults.Damaged m b other) blames n a cause is = blames.1
  unchanged (faults.Refused refusal) blames n a cause is = absurd cc

  -- why a load failed, if nothing was refused
  pub load_cause : (before now : ℕ) (e : Fault) (error : RunError) → Some error ≡ error_of_fault e → BlamesOrRefuses kept s0 s1 (ShowsDamage kept s0) e → PartHasCause kept s0 s1 before now error
  load_cause before now e error is blames =
      let who = blamed e error is blames in
      fault_cause kept s0 s1 closed keeps (ShowsDamage kept s0) (all_shown kept s0 rules stored_shown) before now e error is who (unchanged e blames) (λ w stands. none_damaged kept s0 closed w stands s1 e who)
