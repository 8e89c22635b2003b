-- Why a run ends early that feeds the lines of an input.
use Rattle.std.proofs.Common.{◌≡◌, ◌≤◌, ◌<◌, ℕ, List, length, Result, Err, subst, arith, Option, Some, None, option_map, IfSome}
use Rattle.site_store.specs.Words.{Kept}
use Rattle.site_store.specs.declared.sites.Sites.{Sites}
use Rattle.line_input.specs.Input.{InputHasCause}
use Rattle.line_input.specs.Limits.{input_limit}
use Rattle.line_input.specs.declared.input.InputError.{InputError}
use Rattle.line_input.specs.declared.input.InputError.TheVariants as inputs
use Rattle.run_commands.specs.parts.Causes.{BlamesStreams, BlamesServers}
use Rattle.run_commands.specs.parts.ExitStatus.{status_of_error}
use Rattle.run_commands.specs.parts.RunErrors.{error_of_input}

-- an input is too long, if so are the bytes that it has in all
too_long : (input : Option (List ℕ)) (total : Option ℕ) → total ≡ option_map (λ bytes. length bytes) input → IfSome total (λ bytes. input_limit < bytes) → IfSome input (λ bytes. input_limit < length bytes)
too_long None total same over = tt
too_long (Some input) total same over = subst (λ (t : Option ℕ). IfSome t (λ bytes. input_limit < bytes)) same over

-- why a run ends at an error of its input
pub input_blamed : {X : Type 0} (input : Option (List ℕ)) (total : Option ℕ) (before between now out_before out_now : ℕ) (result : Result X InputError) (e : InputError) → result ≡ Err e → total ≡ option_map (λ bytes. length bytes) input → before ≤ between → InputHasCause result total between now
    → BlamesStreams input before now out_before out_now (status_of_error (error_of_input e))
input_blamed input total before between now out_before out_now result inputs.Memory is same le cause = tt
input_blamed input total before between now out_before out_now result inputs.Failed is same le cause = λ lt. omega (arith, le, cause.failed is (omega (arith, lt, le, cause.later)))
input_blamed input total before between now out_before out_now result inputs.TooLong is same le cause = too_long input total same (cause.too_long is)

-- no server is to blame for it
pub input_unblamed : {K : Type 0} (kept : K → Kept) (s0 s1 : Sites K) (e : InputError) → BlamesServers kept s0 s1 (status_of_error (error_of_input e))
input_unblamed kept s0 s1 inputs.Memory = tt
input_unblamed kept s0 s1 inputs.Failed = tt
input_unblamed kept s0 s1 inputs.TooLong = tt
