-- The logs, members and rows of the worked aggregates and histories.
use Rattle.std.specs.Prelude.{ℕ, pos, Bool, List, [], ◌∷◌, ◌++◌, codes, map, Some, None}
use Rattle.repl_types.specs.Value.{Values}
use Rattle.repl_types.specs.declared.value.Value.{Value}
use Rattle.repl_types.specs.declared.value.Value.TheVariants.{Null, Int, Text}
use Rattle.repl_types.specs.declared.change_row.Op.{Op}
use Rattle.repl_types.specs.declared.record.Change.TheVariants.{Start}
use Rattle.repl_types.specs.declared.record.LogRecord.{LogRecord}
use Rattle.repl_types.specs.declared.record.LogRecord.TheVariants.{Commit}
use Rattle.repl_types.specs.declared.record.LogRecord.TheVariants as records
use Rattle.repl_definitions.specs.declared.member.ColumnFrom.TheVariants.{Count, CountOf, Sum, Min, Max}
use Rattle.repl_definitions.specs.declared.member.Member.{Member}
use Rattle.repl_definitions.specs.declared.member.TargetColumn.{TargetColumn}
use Rattle.repl_definitions.specs.declared.member.TargetKind.TheVariants.{BaseAggregate, ChangeAggregate, Ccd}
use Rattle.repl_model.specs.Trails.{Trail, refresh, block}
use Rattle.repl_model.specs.Aggregates.{SummaryRow}
use Rattle.repl_model.specs.History.{HistoryEntry}
use Rattle.repl_model.specs.WorkedOrders.{orders_insert, orders_delete, user_commit, signal_of, column, sum_column, orders_member}
use Rattle.repl_model.specs.WorkedCopies.{changed_log, many}

-- a number as a value
abbrev pub number : ℕ → Value
number n = Int (pos n)

-- ---- trails

-- a refresh and one block from its point on
abbrev pub one_block : ℕ → ℕ → Trail
one_block low high = refresh low None ∷ block low high None ∷ []

-- a refresh and three blocks
abbrev pub three_blocks : Trail
three_blocks = refresh 2 None ∷ block 2 6 None ∷ block 6 10 None ∷ block 10 12 None ∷ []

-- a refresh and a block, and base aggregates were read in both
abbrev pub read_twice : Trail
read_twice = refresh 2 (Some 2) ∷ block 2 5 (Some 5) ∷ []

-- two refreshes, each with a block, and between them a gap
abbrev pub refreshed_twice : Trail
refreshed_twice = refresh 2 None ∷ block 2 4 None ∷ refresh 6 None ∷ block 6 8 None ∷ []

-- ---- aggregates

-- a row of an aggregate, with the times at its two points
abbrev pub summary : ℕ → ℕ → Values → SummaryRow
summary low high row = record { low = low; high = high; row = row }

-- an item, the number of its orders, and the sum or the least of their quantities
abbrev pub item_sums : List ℕ → ℕ → Value → Values
item_sums thing orders qty = Text thing ∷ number orders ∷ qty ∷ []

-- the items with the number of orders of each and the sum of their quantities
abbrev pub item_totals : List TargetColumn
item_totals = column (codes "item") 1 ∷ sum_column (codes "n") Count ∷ sum_column (codes "total") (Sum 2) ∷ []

-- the change aggregate of all changes of orders
abbrev pub changed_totals : Member
changed_totals = orders_member ChangeAggregate item_totals None

-- five orders are inserted, each in a unit of its own
abbrev pub five_orders : List LogRecord
five_orders = signal_of (codes "s") ++
    orders_insert 1 1 (codes "pen") (number 1)
    ∷ user_commit 1 (codes "ann") 100
    ∷ orders_insert 2 2 (codes "pen") (number 2)
    ∷ user_commit 2 (codes "ann") 110
    ∷ orders_insert 3 3 (codes "ink") (number 3)
    ∷ user_commit 3 (codes "ann") 120
    ∷ orders_insert 4 4 (codes "pen") (number 4)
    ∷ user_commit 4 (codes "ann") 130
    ∷ orders_insert 5 5 (codes "ink") (number 5)
    ∷ user_commit 5 (codes "ann") 140
    ∷ []

-- three orders are inserted: those of pens sum up to 2^63, and that of ink has no quantity
abbrev pub large_orders : List LogRecord
large_orders = signal_of (codes "s") ++
    orders_insert 1 1 (codes "pen") (number 9223372036854775807)
    ∷ orders_insert 1 2 (codes "pen") (number 1)
    ∷ orders_insert 1 3 (codes "ink") Null
    ∷ user_commit 1 (codes "ann") 100
    ∷ []

-- two orders are inserted
abbrev pub two_orders : List LogRecord
two_orders = signal_of (codes "s") ++
    orders_insert 1 1 (codes "pen") (number 20)
    ∷ orders_insert 1 2 (codes "ink") (number 5)
    ∷ user_commit 1 (codes "ann") 100
    ∷ []

-- the base aggregate of orders: the items with the number of orders of each and the least quantity
abbrev pub least_quantities : Member
least_quantities = orders_member BaseAggregate (column (codes "item") 1 ∷ sum_column (codes "n") Count ∷ sum_column (codes "low") (Min 2) ∷ []) None

-- two orders are inserted, their quantities are changed, and both are deleted
abbrev pub deleted_log : List LogRecord
deleted_log = changed_log ++
    orders_delete 3 2 (codes "ink") (number 12)
    ∷ orders_delete 3 1 (codes "pen") (number 9)
    ∷ user_commit 3 (codes "ann") 200
    ∷ []

-- a refresh, a block up to the first user's unit, and a block of the two after it
abbrev pub two_blocks : Trail
two_blocks = refresh 2 None ∷ block 2 5 None ∷ block 5 11 None ∷ []

-- the change aggregate of the changes of orders with many pieces
abbrev pub many_totals : Member
many_totals = orders_member ChangeAggregate item_totals (Some many)

-- ---- histories

-- An entry of a consistent-change-data table: its change's position, its number among the change rows of that
-- change, what the change was, the seq and the time of its unit, and the row.
abbrev pub history_entry : ℕ → ℕ → Op → ℕ → ℕ → Values → HistoryEntry
history_entry at sub op seq time row = record { intentseq = record { position = at; sub = sub }; op = op; commitseq = seq; time = time; row = row }

-- an order's number and its quantity
abbrev pub quantity : ℕ → ℕ → Values
quantity id qty = number id ∷ number qty ∷ []

-- the history of the numbers and quantities of orders, complete or not, and condensed or not
abbrev pub quantities : Bool → Bool → Member
quantities complete condensed = orders_member (Ccd complete condensed) (column (codes "id") 0 ∷ column (codes "qty") 2 ∷ []) None

-- an order is inserted and then deleted
abbrev pub withdrawn_log : List LogRecord
withdrawn_log = signal_of (codes "s") ++
    orders_insert 1 1 (codes "pen") (number 1)
    ∷ user_commit 1 (codes "ann") 100
    ∷ orders_delete 2 1 (codes "pen") (number 1)
    ∷ user_commit 2 (codes "ann") 110
    ∷ []

-- an order is inserted, deleted, and inserted again with another quantity
abbrev pub renewed_log : List LogRecord
renewed_log = withdrawn_log ++
    orders_insert 3 1 (codes "pen") (number 7)
    ∷ user_commit 3 (codes "ann") 120
    ∷ []

-- an order is inserted before the signal, and is deleted after it
abbrev pub early_order : List LogRecord
early_order =
    orders_insert 1 1 (codes "pen") (number 20)
    ∷ user_commit 1 (codes "ann") 100
    ∷ records.Change 0 (Start (codes "orders"))
    ∷ Commit 0 100 (codes "q") (Some (record { qual = codes "q"; name = codes "s" }))
    ∷ orders_delete 2 1 (codes "pen") (number 20)
    ∷ user_commit 2 (codes "ann") 150
    ∷ []

-- ---- groups

-- rows of one value each
abbrev pub single_rows : List Value → List Values
single_rows values = map (λ v. v ∷ []) values

-- the least and the greatest value
abbrev pub extremes : Member
extremes = orders_member ChangeAggregate (sum_column (codes "low") (Min 0) ∷ sum_column (codes "high") (Max 0) ∷ []) None

-- the number of rows, and that of the values that aren't NULL
abbrev pub counts : Member
counts = orders_member ChangeAggregate (sum_column (codes "n") Count ∷ sum_column (codes "known") (CountOf 0) ∷ []) None

-- the values with the number of rows of each
abbrev pub tally : Member
tally = orders_member ChangeAggregate (column (codes "value") 0 ∷ sum_column (codes "n") Count ∷ []) None

-- the sum of the values
abbrev pub total : Member
total = orders_member ChangeAggregate (sum_column (codes "total") (Sum 0) ∷ []) None
