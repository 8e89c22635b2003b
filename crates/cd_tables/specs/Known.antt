-- Registrations that are known from earlier changes of a unit.
use Rattle.std.specs.Prelude.{ℕ, List, Option, Some, None}
use Rattle.repl_types.specs.declared.record.Change.{Change}
use Rattle.repl_types.specs.declared.record.Change.TheVariants.{Insert, Update, Delete, Start, Stop}
use Rattle.repl_types.specs.declared.unit.Placed.{Placed}
use Rattle.keep_core.specs.Contents.{Contents}
use Rattle.repl_records.specs.Capture.{IsRegistrationState}
use Rattle.cd_tables.specs.Appending.{AppendsChange}
use Rattle.cd_tables.specs.Rules.{FindsRegistration, HasStateOf, IsRegistrationOf}
use Rattle.cd_tables.specs.declared.stated.StatedRegistration.{StatedRegistration}

-- a registration of the table of this name, and a state that can be spelled
abbrev pub IsStatedOf : List ℕ → StatedRegistration → Type 0
IsStatedOf name at = IsRegistrationOf name at.reg × IsRegistrationState at.state

-- a registration of its own table, and such a state
abbrev pub IsStated : StatedRegistration → Type 0
IsStated at = IsStatedOf at.reg.registration.table at

-- contents have this registration in this state under the name of a table, or none
abbrev pub IsFoundAt : List ℕ → Option StatedRegistration → Contents → Type 0
IsFoundAt name None c = FindsRegistration name None c
IsFoundAt name (Some at) c = FindsRegistration name (Some at.reg) c × HasStateOf at.reg at.state c

-- they have the one that is known, if one is
abbrev pub IsKnown : Option StatedRegistration → Contents → Type 0
IsKnown None c = Unit {0}
IsKnown (Some at) c = IsFoundAt at.reg.registration.table (Some at) c

-- what is known after a change of its table: the same, unless the change starts or stops the registration
abbrev pub known_after : Change → StatedRegistration → Option StatedRegistration
known_after (Insert table row) at = Some at
known_after (Update table before after) at = Some at
known_after (Delete table row) at = Some at
known_after (Start table) at = None
known_after (Stop table) at = None

-- a change is captured, if the contents have the registration that is known; they have the one that is known then
abbrev pub AppendsKnowing : Option StatedRegistration → Option StatedRegistration → ℕ → Placed → ℕ → Contents → Contents → Type 0
AppendsKnowing before now seq placed rows c d = IsKnown before c → AppendsChange seq placed rows c d × IsKnown now d
