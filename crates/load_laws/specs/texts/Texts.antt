-- Texts that are read, that keep the rules, and whose load passes no limit.
use Rattle.std.specs.Prelude.{◌≡◌, IsTrue, nat_lt, List, length, None}
use Rattle.std.specs.List.{AllByRecursion, list_all}
use Rattle.repl_commands.specs.declared.written.RawDefs.{RawDefs}
use Rattle.spelled_defs.specs.Context.{context_of, defs_of}
use Rattle.spelled_defs.specs.declared.defs.Defs.{Defs}
use Rattle.checked_defs.specs.Broken.{all_rules, first_broken}
use Rattle.checked_defs.specs.Whole.{have_kinds, LeavesNothingOut}
use Rattle.load_plan.specs.Differences.{IsSpelledServer}
use Rattle.load_plan.specs.Refusals.{count_refusal}
use Rattle.load_plan.specs.declared.stored.StoredServer.{StoredServer}
use Rattle.load_laws.specs.planned.Planned.{known_stored}

-- Each member of a text has a type that there is, and each set has members.
pub record IsWhole (raw : RawDefs) : Type 0 where
  pub kinds : IsTrue (have_kinds raw)
  pub members : IsTrue (list_all (λ set. nat_lt 0 (length set.members)) raw.sets)

-- the definitions of a text, beside those that are known
abbrev pub text_defs : RawDefs → Defs → Defs
text_defs raw known = defs_of raw (context_of raw known).tables

-- the definitions of a text, beside those that servers keep
abbrev pub defs_beside : RawDefs → List StoredServer → Defs
defs_beside raw stored = text_defs raw (known_stored stored)

-- A text that keeps the rules beside what servers keep. Its load passes no limit on counts.
pub record KeepsRules (raw : RawDefs) (stored : List StoredServer) : Type 0 where
  pub whole : IsWhole raw
  pub kept : first_broken raw (context_of raw (known_stored stored)) all_rules ≡ None
  pub all : LeavesNothingOut raw (context_of raw (known_stored stored)).tables
  pub spelled : AllByRecursion IsSpelledServer stored
  pub counts : count_refusal (defs_beside raw stored) stored ≡ None
