-- Why a load of a text is refused, and which definitions it loads, given what servers keep.
use Rattle.std.specs.Prelude.{◌≡◌, List, Option, Some}
use Rattle.std.specs.Option.{option_map, option_or}
use Rattle.repl_types.specs.declared.refusal.Refusal.{Refusal}
use Rattle.repl_types.specs.declared.refusal.Refusal.TheVariants as refusals
use Rattle.repl_types.specs.declared.fault.Fault.{Fault}
use Rattle.repl_types.specs.declared.fault.Fault.TheVariants as faults
use Rattle.repl_commands.specs.declared.written.RawDefs.{RawDefs}
use Rattle.spelled_defs.specs.Context.{context_of}
use Rattle.spelled_defs.specs.declared.defs.Defs.{Defs}
use Rattle.checked_defs.specs.Broken.{all_rules, first_broken}
use Rattle.load_plan.specs.Refusals.{count_refusal, content_refusal}
use Rattle.load_plan.specs.declared.stored.StoredServer.{StoredServer}
use Rattle.load_laws.specs.planned.Planned.{known_stored}
use Rattle.load_laws.specs.texts.Texts.{defs_beside}

-- the text breaks a rule together with what is known
abbrev pub bad_definition : RawDefs → Defs → Option Refusal
bad_definition raw known = option_map (λ broken. refusals.BadDefinition broken.0 broken.1) (first_broken raw (context_of raw known) all_rules)

-- why a load of definitions that keep the rules is refused
abbrev pub plan_refusal : Defs → List StoredServer → Option Refusal
plan_refusal defs stored = option_or (count_refusal defs stored) (content_refusal defs stored)

-- why a load is refused: a rule is broken, or a limit is passed or a definition differs
abbrev pub load_refusal : RawDefs → List StoredServer → Option Refusal
load_refusal raw stored = option_or (bad_definition raw (known_stored stored)) (plan_refusal (defs_beside raw stored) stored)

-- ---- what a plan answers

-- why the definitions of a text are refused, given what is known
abbrev pub IsRefusedBy : Option Refusal → Fault → Type 0
IsRefusedBy why (faults.Refused refusal) = why ≡ Some refusal
IsRefusedBy why faults.Memory = Unit {0}
IsRefusedBy why (faults.Keeper server) = ⊥
IsRefusedBy why (faults.Damaged server area cause) = ⊥
