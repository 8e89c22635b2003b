-- Lines of refusals, worked out by hand.
use Rattle.std.specs.Prelude.{ℕ, codes, List, [], ◌∷◌, Some, None}
use Rattle.std.proofs.Common.{refl}
use Rattle.std.specs.Fmt.{digits}
use Rattle.repl_types.specs.Sequence.{hex_digits}
use Rattle.repl_types.specs.declared.refusal.Refusal.TheVariants.{UnknownCommand, BadLine, LineTooLong, BadDefinition, DefinitionDiffers, NoSuchServer, NoSuchTable, NoSuchSet, BadLog, NotApplicable, LogFull, RefreshDisabled, Behind, LimitReached}
use Rattle.repl_types.specs.declared.refusal.DefPlace.TheVariants as places
use Rattle.repl_types.specs.declared.refusal.ItemName.TheVariants as items
use Rattle.repl_types.specs.declared.refusal.GapPlace.TheVariants.{Inactive, Above, Uow, Replica}
use Rattle.repl_types.specs.declared.refusal.LimitKind.TheVariants.{Tables, Registrations, Sets, Columns, Members, LoadBody, Definition, Generate}
use Rattle.reply_text.specs.Refusals.{refusal_line}
use Rattle.text_tests.specs.Lines.{HaveLines, q_s, r_b}

-- the name of a server
abbrev hq : List ℕ
hq = codes "hq"

-- the name of a table
abbrev orders : List ℕ
orders = codes "orders"

-- ---- lines and definitions

pub a_refused_line_has_its_number : HaveLines refusal_line (
    (UnknownCommand 1, codes "refused 1 UnknownCommand line 1\n")
    ∷ (BadLine 20, codes "refused 2 BadLine line 20\n")
    ∷ (LineTooLong 3, codes "refused 3 LineTooLong line 3\n")
    ∷ (BadLog 4_294_967_296, codes "refused 9 BadLog line 4294967296\n")
    ∷ (NotApplicable 5, codes "refused 10 NotApplicable line 5\n")
    ∷ [])
unfolding digits
a_refused_line_has_its_number = refl

pub a_broken_rule_has_its_item : HaveLines refusal_line (
    (BadDefinition 1 places.Whole, codes "refused 4 BadDefinition V1 -\n")
    ∷ (BadDefinition 4 (places.Table 2), codes "refused 4 BadDefinition V4 table 2\n")
    ∷ (BadDefinition 6 (places.Registration 1), codes "refused 4 BadDefinition V6 registration 1\n")
    ∷ (BadDefinition 9 (places.Set 3), codes "refused 4 BadDefinition V9 set 3\n")
    ∷ (BadDefinition 11 (places.Member 1 2), codes "refused 4 BadDefinition V11 set 1 member 2\n")
    ∷ [])
unfolding digits
a_broken_rule_has_its_item = refl

pub a_limit_has_its_word : HaveLines refusal_line (
    (LimitReached Tables, codes "refused 14 LimitReached tables\n")
    ∷ (LimitReached Registrations, codes "refused 14 LimitReached registrations\n")
    ∷ (LimitReached Sets, codes "refused 14 LimitReached sets\n")
    ∷ (LimitReached Columns, codes "refused 14 LimitReached columns\n")
    ∷ (LimitReached Members, codes "refused 14 LimitReached members\n")
    ∷ (LimitReached LoadBody, codes "refused 14 LimitReached load_body\n")
    ∷ (LimitReached Definition, codes "refused 14 LimitReached definition\n")
    ∷ (LimitReached Generate, codes "refused 14 LimitReached generate\n")
    ∷ [])
unfolding digits
a_limit_has_its_word = refl

pub a_definition_that_differs_has_its_name : HaveLines refusal_line (
    (DefinitionDiffers (items.Table hq orders), codes "refused 5 DefinitionDiffers table hq.orders\n")
    ∷ (DefinitionDiffers (items.Registration hq orders), codes "refused 5 DefinitionDiffers registration hq.orders\n")
    ∷ (DefinitionDiffers (items.Set q_s), codes "refused 5 DefinitionDiffers set q/s\n")
    ∷ [])
unfolding digits
a_definition_that_differs_has_its_name = refl

-- ---- names

pub a_server_or_table_that_is_not_known_has_its_name : HaveLines refusal_line (
    (NoSuchServer hq, codes "refused 6 NoSuchServer hq\n")
    ∷ (NoSuchTable (codes "zz") orders, codes "refused 7 NoSuchTable zz.orders\n")
    ∷ [])
unfolding digits
a_server_or_table_that_is_not_known_has_its_name = refl

pub a_set_that_is_not_known_has_its_name : HaveLines refusal_line (
    (NoSuchSet (codes "q") (Some (codes "z")), codes "refused 8 NoSuchSet q/z\n")
    ∷ (NoSuchSet (codes "z") None, codes "refused 8 NoSuchSet z\n")
    ∷ [])
unfolding digits
a_set_that_is_not_known_has_its_name = refl

-- ---- gaps and logs

pub a_gap_of_a_table_has_its_place : HaveLines refusal_line (
    (RefreshDisabled (Inactive hq orders), codes "refused 12 RefreshDisabled hq.orders inactive\n")
    ∷ (RefreshDisabled (Above hq orders 4), codes "refused 12 RefreshDisabled hq.orders 00000000000000040000\n")
    ∷ [])
unfolding digits hex_digits
a_gap_of_a_table_has_its_place = refl

pub a_gap_of_units_and_a_replica_set_have_their_names : HaveLines refusal_line (
    (RefreshDisabled (Uow hq 6), codes "refused 12 RefreshDisabled hq uow 00000000000000060000\n")
    ∷ (RefreshDisabled (Replica r_b), codes "refused 12 RefreshDisabled r/b replica\n")
    ∷ [])
unfolding digits hex_digits
a_gap_of_units_and_a_replica_set_have_their_names = refl

pub a_log_that_is_full_or_not_captured_has_its_server : HaveLines refusal_line (
    (LogFull hq, codes "refused 11 LogFull hq\n")
    ∷ (Behind (codes "branch") 10 12, codes "refused 13 Behind branch 000000000000000a0000 000000000000000c0000\n")
    ∷ [])
unfolding digits hex_digits
a_log_that_is_full_or_not_captured_has_its_server = refl
