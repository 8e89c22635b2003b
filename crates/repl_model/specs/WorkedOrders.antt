-- A table of orders, and what small logs of its changes are written with.
use Rattle.std.specs.Prelude.{ℕ, pos, true, false, List, [], ◌∷◌, codes, Option, Some, None}
use Rattle.repl_types.specs.Value.{Values}
use Rattle.repl_types.specs.declared.value.Value.{Value}
use Rattle.repl_types.specs.declared.value.Value.TheVariants.{Int, Text}
use Rattle.repl_types.specs.declared.table.Kind.TheVariants as kinds
use Rattle.repl_types.specs.declared.table.TableDef.{TableDef}
use Rattle.repl_types.specs.declared.record.Change.TheVariants.{Insert, Update, Delete, Start}
use Rattle.repl_types.specs.declared.record.LogRecord.{LogRecord}
use Rattle.repl_types.specs.declared.record.LogRecord.TheVariants.{Commit}
use Rattle.repl_types.specs.declared.record.LogRecord.TheVariants as records
use Rattle.repl_types.specs.declared.change_row.Registration.{Registration}
use Rattle.repl_definitions.specs.declared.expr.Expr.TheVariants as exprs
use Rattle.repl_definitions.specs.declared.member.ColumnFrom.{ColumnFrom}
use Rattle.repl_definitions.specs.declared.member.ColumnFrom.TheVariants.{Plain}
use Rattle.repl_definitions.specs.declared.member.Member.{Member}
use Rattle.repl_definitions.specs.declared.member.TargetColumn.{TargetColumn}
use Rattle.repl_definitions.specs.declared.member.TargetKind.{TargetKind}
use Rattle.repl_definitions.specs.declared.predicate.Predicate.{Predicate}
use Rattle.repl_model.specs.Selection.{SourceTable}

-- orders: a number, which is the key and fixed, an item, and a quantity that may be NULL
abbrev pub orders : TableDef
orders = record {
  name = codes "orders";
  columns = record { name = codes "id"; kind = kinds.Int; nullable = false } ∷ record { name = codes "item"; kind = kinds.Text; nullable = false } ∷ record { name = codes "qty"; kind = kinds.Int; nullable = true } ∷ [];
  key = 0 ∷ [];
  fixed = 0 ∷ [];
}

-- all after-images, and the before-image of the quantity
abbrev pub with_quantity : Registration
with_quantity = record { table = codes "orders"; after = 0 ∷ 1 ∷ 2 ∷ []; before = 2 ∷ []; del_ins = false; changes_only = false; disable_refresh = false }

-- the orders of a log, registered so
abbrev pub orders_of : List LogRecord → SourceTable
orders_of log = record { def = orders; reg = with_quantity; log = log }

-- the row of an order
abbrev pub order : ℕ → List ℕ → Value → Values
order id thing qty = Int (pos id) ∷ Text thing ∷ qty ∷ []

-- the record that inserts an order
abbrev pub orders_insert : ℕ → ℕ → List ℕ → Value → LogRecord
orders_insert tx id thing qty = records.Change tx (Insert (codes "orders") (order id thing qty))

-- the record that changes the quantity of an order
abbrev pub orders_update : ℕ → ℕ → List ℕ → Value → Value → LogRecord
orders_update tx id thing before after = records.Change tx (Update (codes "orders") (order id thing before) (order id thing after))

-- the record that deletes an order
abbrev pub orders_delete : ℕ → ℕ → List ℕ → Value → LogRecord
orders_delete tx id thing qty = records.Change tx (Delete (codes "orders") (order id thing qty))

-- the record of a user's commit
abbrev pub user_commit : ℕ → List ℕ → ℕ → LogRecord
user_commit tx authid time = Commit tx time authid None

-- the unit of the signal with which each of these logs begins: it starts the registration of orders for a set
-- of the qualifier q, at time 0, and its seq is 2
abbrev pub signal_of : List ℕ → List LogRecord
signal_of set = records.Change 0 (Start (codes "orders")) ∷ Commit 0 0 (codes "q") (Some (record { qual = codes "q"; name = set })) ∷ []

-- a column of a target that is a column of the source
abbrev pub column : List ℕ → ℕ → TargetColumn
column name place = record { name = name; from = Plain (exprs.Column place) }

-- a column of a target that sums up
abbrev pub sum_column : List ℕ → ColumnFrom → TargetColumn
sum_column name from = record { name = name; from = from }

-- a member over orders
abbrev pub orders_member : TargetKind → List TargetColumn → Option Predicate → Member
orders_member kind columns filter = record { source = codes "orders"; target = codes "copy"; kind = kind; columns = columns; filter = filter }
