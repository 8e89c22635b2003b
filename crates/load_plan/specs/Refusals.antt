-- Why a load of definitions is refused.
use Rattle.std.specs.Prelude.{◌+◌, Bool, ◌||◌, nat_lt, if◌then◌else◌, List, length, Option, Some}
use Rattle.std.specs.List.{list_any}
use Rattle.std.specs.Option.{option_map, option_or}
use Rattle.repl_types.specs.Sizes.{value_limit}
use Rattle.repl_types.specs.declared.refusal.Refusal.{Refusal}
use Rattle.repl_types.specs.declared.refusal.Refusal.TheVariants as refusals
use Rattle.repl_types.specs.declared.refusal.LimitKind.TheVariants as limits
use Rattle.row_codec.specs.Definitions.{registration_spelling}
use Rattle.repl_definitions.specs.Sets.{set_def_spelling}
use Rattle.spelled_defs.specs.declared.defs.Defs.{Defs}
use Rattle.load_plan.specs.Servers.{missing_server}
use Rattle.load_plan.specs.Limits.{passed_limit}
use Rattle.load_plan.specs.Differences.{first_difference}
use Rattle.load_plan.specs.declared.stored.StoredServer.{StoredServer}

-- a text names a server that isn't there, or a load of it passes a limit on counts
abbrev pub count_refusal : Defs → List StoredServer → Option Refusal
count_refusal defs stored = option_or (option_map refusals.NoSuchServer (missing_server defs stored)) (option_map refusals.LimitReached (passed_limit defs stored))

-- a set of a text is longer than a stored value may be, after its number of four bytes
abbrev pub has_long_set : Defs → Bool
has_long_set defs = list_any (λ def. nat_lt value_limit (length (set_def_spelling def) + 4)) defs.sets

-- a registration of a text is, likewise
abbrev pub has_long_registration : Defs → Bool
has_long_registration defs = list_any (λ r. nat_lt value_limit (length (registration_spelling r.def) + 4)) defs.registrations

-- a set or a registration of a text is too long, or a definition stands already with other contents
abbrev pub content_refusal : Defs → List StoredServer → Option Refusal
content_refusal defs stored = if has_long_set defs || has_long_registration defs then Some (refusals.LimitReached limits.Definition)
    else option_map refusals.DefinitionDiffers (first_difference defs stored)
