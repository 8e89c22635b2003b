-- The logs, registrations, members and rows of the worked copies.
use Rattle.std.specs.Prelude.{ℕ, pos, true, false, List, [], ◌∷◌, ◌++◌, codes, Some, None}
use Rattle.repl_types.specs.Value.{Values}
use Rattle.repl_types.specs.declared.value.Value.TheVariants.{Int, Text}
use Rattle.repl_types.specs.declared.table.Kind.TheVariants as kinds
use Rattle.repl_types.specs.declared.table.TableDef.{TableDef}
use Rattle.repl_types.specs.declared.record.Change.TheVariants.{Insert, Update, Start}
use Rattle.repl_types.specs.declared.record.LogRecord.{LogRecord}
use Rattle.repl_types.specs.declared.record.LogRecord.TheVariants.{Commit, Abort}
use Rattle.repl_types.specs.declared.record.LogRecord.TheVariants as records
use Rattle.repl_types.specs.declared.change_row.Registration.{Registration}
use Rattle.repl_definitions.specs.declared.member.Member.{Member}
use Rattle.repl_definitions.specs.declared.member.TargetKind.TheVariants.{UserCopy, PointInTime}
use Rattle.repl_definitions.specs.declared.predicate.CompareOp.TheVariants.{Ge}
use Rattle.repl_definitions.specs.declared.predicate.Operand.TheVariants as operands
use Rattle.repl_definitions.specs.declared.predicate.Predicate.{Predicate}
use Rattle.repl_definitions.specs.declared.predicate.Predicate.TheVariants.{Compare}
use Rattle.repl_model.specs.Selection.{SourceTable}
use Rattle.repl_model.specs.MemberCopies.{MarkedRow}
use Rattle.repl_model.specs.WorkedOrders.{orders_insert, orders_update, user_commit, signal_of, column, orders_member}

-- ---- orders

-- two orders are inserted, and then the one gets a greater quantity and the other a lesser one
abbrev pub changed_log : List LogRecord
changed_log = signal_of (codes "s") ++
    orders_insert 1 1 (codes "pen") (Int (pos 20))
    ∷ orders_insert 1 2 (codes "ink") (Int (pos 5))
    ∷ user_commit 1 (codes "ann") 100
    ∷ orders_update 2 2 (codes "ink") (Int (pos 5)) (Int (pos 12))
    ∷ orders_update 2 1 (codes "pen") (Int (pos 20)) (Int (pos 9))
    ∷ user_commit 2 (codes "bob") 160
    ∷ []

-- one order is inserted, and then only its quantity changes
abbrev pub one_order_log : List LogRecord
one_order_log = signal_of (codes "s") ++
    orders_insert 1 1 (codes "pen") (Int (pos 20))
    ∷ user_commit 1 (codes "ann") 100
    ∷ orders_update 1 1 (codes "pen") (Int (pos 20)) (Int (pos 9))
    ∷ user_commit 1 (codes "ann") 110
    ∷ []

-- a long transaction inserts an order before, and commits after, a short one that inserts another
abbrev pub long_log : List LogRecord
long_log = signal_of (codes "s") ++
    orders_insert 1 1 (codes "pen") (Int (pos 20))
    ∷ orders_insert 2 2 (codes "ink") (Int (pos 15))
    ∷ user_commit 2 (codes "bob") 100
    ∷ user_commit 1 (codes "ann") 160
    ∷ []

-- all after-images and no before-image, with each update taken apart into a delete and an insert
abbrev pub orders_taken_apart : Registration
orders_taken_apart = record { table = codes "orders"; after = 0 ∷ 1 ∷ 2 ∷ []; before = []; del_ins = true; changes_only = false; disable_refresh = false }

-- the after-images of the number and the item, and no before-image; an update that changes neither isn't
-- captured
abbrev pub only_items : Registration
only_items = record { table = codes "orders"; after = 0 ∷ 1 ∷ []; before = []; del_ins = false; changes_only = true; disable_refresh = false }

-- the predicate qty >= 10
abbrev pub many : Predicate
many = Compare (operands.Column 2) Ge (operands.Value (Int (pos 10)))

-- the copy of the numbers and quantities of orders with many pieces
abbrev pub many_orders : Member
many_orders = orders_member UserCopy (column (codes "id") 0 ∷ column (codes "qty") 2 ∷ []) (Some many)

-- the copy of all columns of all orders
abbrev pub all_orders : Member
all_orders = orders_member UserCopy (column (codes "id") 0 ∷ column (codes "item") 1 ∷ column (codes "qty") 2 ∷ []) None

-- ---- parts

-- parts: a code, which is the key and isn't fixed, and a quantity that may be NULL
abbrev pub parts : TableDef
parts = record {
  name = codes "parts";
  columns = record { name = codes "code"; kind = kinds.Text; nullable = false } ∷ record { name = codes "qty"; kind = kinds.Int; nullable = true } ∷ [];
  key = 0 ∷ [];
  fixed = [];
}

-- both after-images, and the before-image of the code
abbrev pub with_code : Registration
with_code = record { table = codes "parts"; after = 0 ∷ 1 ∷ []; before = 0 ∷ []; del_ins = false; changes_only = false; disable_refresh = false }

-- the parts of a log, registered so
abbrev pub parts_of : List LogRecord → SourceTable
parts_of log = record { def = parts; reg = with_code; log = log }

-- the row of a part
abbrev pub part : List ℕ → ℕ → Values
part code qty = Text code ∷ Int (pos qty) ∷ []

-- the record that inserts a part
abbrev pub parts_insert : ℕ → List ℕ → ℕ → LogRecord
parts_insert tx code qty = records.Change tx (Insert (codes "parts") (part code qty))

-- the record that changes the code of a part
abbrev pub parts_rename : ℕ → List ℕ → List ℕ → ℕ → LogRecord
parts_rename tx before after qty = records.Change tx (Update (codes "parts") (part before qty) (part after qty))

-- the registration of parts is started, a part is inserted, and then its code changes
abbrev pub renamed_log : List LogRecord
renamed_log =
    records.Change 0 (Start (codes "parts"))
    ∷ Commit 0 0 (codes "q") (Some (record { qual = codes "q"; name = codes "p" }))
    ∷ parts_insert 1 (codes "a") 1
    ∷ user_commit 1 (codes "ann") 100
    ∷ parts_rename 2 (codes "a") (codes "b") 1
    ∷ user_commit 2 (codes "ann") 130
    ∷ []

-- the point-in-time copy of all columns of all parts
abbrev pub marked_parts : Member
marked_parts = record { source = codes "parts"; target = codes "copy"; kind = PointInTime; columns = column (codes "code") 0 ∷ column (codes "qty") 1 ∷ []; filter = None }

-- what a point-in-time copy has under a key
abbrev pub marked : ℕ → Values → MarkedRow
marked time row = record { marker = time; row = row }

-- ---- orders and parts

-- two transactions at a time change two tables; the second is aborted, and then inserts an order
abbrev pub interleaved_log : List LogRecord
interleaved_log =
    orders_insert 1 1 (codes "pen") (Int (pos 20))
    ∷ parts_insert 2 (codes "a") 5
    ∷ parts_insert 1 (codes "b") 6
    ∷ Abort 2
    ∷ orders_insert 2 2 (codes "ink") (Int (pos 15))
    ∷ user_commit 1 (codes "ann") 50
    ∷ user_commit 2 (codes "bob") 60
    ∷ []
