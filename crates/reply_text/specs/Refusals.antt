-- The lines of refusals.
use Rattle.std.specs.Prelude.{ℕ, codes, List, [], ◌∷◌, Some, None, decimal}
use Rattle.repl_types.specs.declared.refusal.Refusal.{Refusal}
use Rattle.repl_types.specs.declared.refusal.Refusal.TheVariants as refusals
use Rattle.repl_types.specs.declared.refusal.DefPlace.{DefPlace}
use Rattle.repl_types.specs.declared.refusal.DefPlace.TheVariants as places
use Rattle.repl_types.specs.declared.refusal.ItemName.{ItemName}
use Rattle.repl_types.specs.declared.refusal.ItemName.TheVariants as items
use Rattle.repl_types.specs.declared.refusal.GapPlace.{GapPlace}
use Rattle.repl_types.specs.declared.refusal.GapPlace.TheVariants as gaps
use Rattle.repl_types.specs.declared.refusal.LimitKind.{LimitKind}
use Rattle.repl_types.specs.declared.refusal.LimitKind.TheVariants as limits
use Rattle.reply_text.specs.Lines.{whole_line, position_text, table_text, set_text, rule_text}

-- ---- numbers and words

-- the number of a refusal
abbrev pub refusal_number : Refusal → ℕ
refusal_number (refusals.UnknownCommand line) = 1
refusal_number (refusals.BadLine line) = 2
refusal_number (refusals.LineTooLong line) = 3
refusal_number (refusals.BadDefinition rule place) = 4
refusal_number (refusals.DefinitionDiffers item) = 5
refusal_number (refusals.NoSuchServer server) = 6
refusal_number (refusals.NoSuchTable server table) = 7
refusal_number (refusals.NoSuchSet qual name) = 8
refusal_number (refusals.BadLog line) = 9
refusal_number (refusals.NotApplicable line) = 10
refusal_number (refusals.LogFull server) = 11
refusal_number (refusals.RefreshDisabled gap) = 12
refusal_number (refusals.Behind server captured last) = 13
refusal_number (refusals.LimitReached kind) = 14

-- the word of a refusal
abbrev pub refusal_word : Refusal → List ℕ
refusal_word (refusals.UnknownCommand line) = codes "UnknownCommand"
refusal_word (refusals.BadLine line) = codes "BadLine"
refusal_word (refusals.LineTooLong line) = codes "LineTooLong"
refusal_word (refusals.BadDefinition rule place) = codes "BadDefinition"
refusal_word (refusals.DefinitionDiffers item) = codes "DefinitionDiffers"
refusal_word (refusals.NoSuchServer server) = codes "NoSuchServer"
refusal_word (refusals.NoSuchTable server table) = codes "NoSuchTable"
refusal_word (refusals.NoSuchSet qual name) = codes "NoSuchSet"
refusal_word (refusals.BadLog line) = codes "BadLog"
refusal_word (refusals.NotApplicable line) = codes "NotApplicable"
refusal_word (refusals.LogFull server) = codes "LogFull"
refusal_word (refusals.RefreshDisabled gap) = codes "RefreshDisabled"
refusal_word (refusals.Behind server captured last) = codes "Behind"
refusal_word (refusals.LimitReached kind) = codes "LimitReached"

-- ---- places

-- the item of a text of definitions that breaks a rule
abbrev pub def_place : DefPlace → List (List ℕ)
def_place places.Whole = codes "-" ∷ []
def_place (places.Table number) = codes "table" ∷ decimal number ∷ []
def_place (places.Registration number) = codes "registration" ∷ decimal number ∷ []
def_place (places.Set number) = codes "set" ∷ decimal number ∷ []
def_place (places.Member set member) = codes "set" ∷ decimal set ∷ codes "member" ∷ decimal member ∷ []

-- a definition that is stored with other contents
abbrev pub item_place : ItemName → List (List ℕ)
item_place (items.Table server table) = codes "table" ∷ table_text server table ∷ []
item_place (items.Registration server table) = codes "registration" ∷ table_text server table ∷ []
item_place (items.Set set) = codes "set" ∷ set_text set ∷ []

-- where a set has a gap, or that it is a replica set
abbrev pub gap_place : GapPlace → List (List ℕ)
gap_place (gaps.Inactive server table) = table_text server table ∷ codes "inactive" ∷ []
gap_place (gaps.Above server table seq) = table_text server table ∷ position_text seq ∷ []
gap_place (gaps.Uow server seq) = server ∷ codes "uow" ∷ position_text seq ∷ []
gap_place (gaps.Replica set) = set_text set ∷ codes "replica" ∷ []

-- the word of a limit
abbrev pub limit_word : LimitKind → List ℕ
limit_word limits.Tables = codes "tables"
limit_word limits.Registrations = codes "registrations"
limit_word limits.Sets = codes "sets"
limit_word limits.Columns = codes "columns"
limit_word limits.Members = codes "members"
limit_word limits.LoadBody = codes "load_body"
limit_word limits.Definition = codes "definition"
limit_word limits.Generate = codes "generate"

-- what a refusal speaks of
abbrev pub refusal_place : Refusal → List (List ℕ)
refusal_place (refusals.UnknownCommand line) = codes "line" ∷ decimal line ∷ []
refusal_place (refusals.BadLine line) = codes "line" ∷ decimal line ∷ []
refusal_place (refusals.LineTooLong line) = codes "line" ∷ decimal line ∷ []
refusal_place (refusals.BadDefinition rule place) = rule_text rule ∷ def_place place
refusal_place (refusals.DefinitionDiffers item) = item_place item
refusal_place (refusals.NoSuchServer server) = server ∷ []
refusal_place (refusals.NoSuchTable server table) = table_text server table ∷ []
refusal_place (refusals.NoSuchSet qual None) = qual ∷ []
refusal_place (refusals.NoSuchSet qual (Some name)) = set_text (record { qual = qual; name = name }) ∷ []
refusal_place (refusals.BadLog line) = codes "line" ∷ decimal line ∷ []
refusal_place (refusals.NotApplicable line) = codes "line" ∷ decimal line ∷ []
refusal_place (refusals.LogFull server) = server ∷ []
refusal_place (refusals.RefreshDisabled gap) = gap_place gap
refusal_place (refusals.Behind server captured last) = server ∷ position_text captured ∷ position_text last ∷ []
refusal_place (refusals.LimitReached kind) = limit_word kind ∷ []

-- ---- lines

-- the line of a refusal
abbrev pub refusal_line : Refusal → List ℕ
refusal_line refusal = whole_line (codes "refused" ∷ decimal (refusal_number refusal) ∷ refusal_word refusal ∷ refusal_place refusal)
