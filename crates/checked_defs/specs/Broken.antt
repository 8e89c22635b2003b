-- Which rule a text breaks, and where: the lowest, at the first item.
use Rattle.std.specs.Prelude.{ℕ, ◌+◌, Bool, false, not, if◌then◌else◌, List, [], ◌∷◌, Option, Some, None, option_map}
use Rattle.std.specs.List.{position_from}
use Rattle.std.specs.Option.{option_or}
use Rattle.repl_types.specs.declared.refusal.DefPlace.{DefPlace}
use Rattle.repl_types.specs.declared.refusal.DefPlace.TheVariants as places
use Rattle.repl_commands.specs.declared.written.RawDefs.{RawDefs}
use Rattle.repl_commands.specs.declared.written.RawTable.{RawTable}
use Rattle.repl_commands.specs.declared.written.RawRegistration.{RawRegistration}
use Rattle.repl_commands.specs.declared.written.RawMember.{RawMember}
use Rattle.repl_commands.specs.declared.written.RawSet.{RawSet}
use Rattle.checked_defs.specs.Rules.{table_has_names, registration_has_names, set_has_names, member_has_names, table_stands_once, registration_stands_once, set_stands_once, member_stands_once, has_column_entries, has_key_columns, has_table, has_after_images, has_before_images, has_two_servers, is_source_registered, has_texts, copies_may_move, condensed_rows_may_move, sums_stand_in_aggregates, replicas_stand_alone, is_replica_apart}
use Rattle.checked_defs.specs.declared.rule.Rule.{Rule}
use Rattle.checked_defs.specs.declared.rule.Rule.TheVariants.{Names, Once, Columns, Key, Table, After, Before, Source, Texts, Copies, Condensed, Sums, Replicas}
use Rattle.spelled_defs.specs.declared.context.Context.{Context}

-- the number of a rule
abbrev pub rule_number : Rule → ℕ
rule_number Names = 2
rule_number Once = 3
rule_number Columns = 4
rule_number Key = 5
rule_number Table = 6
rule_number After = 7
rule_number Before = 8
rule_number Source = 9
rule_number Texts = 10
rule_number Copies = 11
rule_number Condensed = 12
rule_number Sums = 13
rule_number Replicas = 14

-- the rules, the lowest first
abbrev pub all_rules : List Rule
all_rules = Names ∷ Once ∷ Columns ∷ Key ∷ Table ∷ After ∷ Before ∷ Source ∷ Texts ∷ Copies ∷ Condensed ∷ Sums ∷ Replicas ∷ []

-- a table of the text breaks a rule
unfoldable pub table_breaks : RawDefs → Context → Rule → RawTable → Bool
table_breaks raw context Names table = not (table_has_names table)
table_breaks raw context Once table = not (table_stands_once raw context table)
table_breaks raw context Columns table = not (has_column_entries table)
table_breaks raw context Key table = not (has_key_columns table)
table_breaks raw context rule table = false

-- a registration of the text breaks a rule
unfoldable pub registration_breaks : RawDefs → Context → Rule → RawRegistration → Bool
registration_breaks raw context Names registration = not (registration_has_names registration)
registration_breaks raw context Once registration = not (registration_stands_once raw registration)
registration_breaks raw context Table registration = not (has_table context registration)
registration_breaks raw context After registration = not (has_after_images context registration)
registration_breaks raw context Before registration = not (has_before_images context registration)
registration_breaks raw context rule registration = false

-- a set of the text breaks a rule
unfoldable pub set_breaks : RawDefs → Rule → RawSet → Bool
set_breaks raw Names set = not (set_has_names set)
set_breaks raw Once set = not (set_stands_once raw set)
set_breaks raw Source set = not (has_two_servers set)
set_breaks raw Replicas set = not (replicas_stand_alone set)
set_breaks raw rule set = false

-- a member of a set of the text breaks a rule
unfoldable pub member_breaks : Context → Rule → RawSet → RawMember → Bool
member_breaks context Names set member = not (member_has_names member)
member_breaks context Once set member = not (member_stands_once context set member)
member_breaks context Source set member = not (is_source_registered context set member)
member_breaks context Texts set member = not (has_texts context set member)
member_breaks context Copies set member = not (copies_may_move context set member)
member_breaks context Condensed set member = not (condensed_rows_may_move context set member)
member_breaks context Sums set member = not (sums_stand_in_aggregates context set member)
member_breaks context Replicas set member = not (is_replica_apart context set member)
member_breaks context rule set member = false

-- the place of a rule's first break in a set: the set, or its first such member. Sets and members are counted
-- from 1
abbrev pub first_in_set : RawDefs → Context → Rule → ℕ → RawSet → Option DefPlace
first_in_set raw context rule number set = if set_breaks raw rule set then Some (places.Set number)
    else option_map (places.Member number) (position_from (member_breaks context rule set) 1 set.members)

-- the place of a rule's first break in sets, the first of which has this number
abbrev pub first_in_sets : RawDefs → Context → Rule → ℕ → List RawSet → Option DefPlace
first_in_sets raw context rule number [] = None
first_in_sets raw context rule number (set ∷ sets) = option_or (first_in_set raw context rule number set) (first_in_sets raw context rule (number + 1) sets)

-- the place of a rule's first break, items counted from 1: tables come first, then registrations, then sets with their members
unfoldable pub first_place : RawDefs → Context → Rule → Option DefPlace
first_place raw context rule =
    option_or (option_map places.Table (position_from (table_breaks raw context rule) 1 raw.tables))
    (option_or (option_map places.Registration (position_from (registration_breaks raw context rule) 1 raw.registrations))
    (first_in_sets raw context rule 1 raw.sets))

-- the number of the first rule that is broken, and the place
abbrev pub first_broken : RawDefs → Context → List Rule → Option (ℕ × DefPlace)
first_broken raw context [] = None
first_broken raw context (rule ∷ others) = option_or (option_map (λ place. (rule_number rule, place)) (first_place raw context rule)) (first_broken raw context others)
