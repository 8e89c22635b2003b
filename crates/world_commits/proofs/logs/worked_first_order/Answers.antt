use Rattle.std.proofs.Common.{◌&&◌, true, [], ◌∷◌, Option, codes, refl, ap, arith, pos, IsTrue, is_none}
use Rattle.std.specs.FinMap.{get-empty}
use Rattle.repl_model.specs.Words.{Values, key_cmp, applies, units, source_at, change_fits, is_applicable, tables_of, order, orders_insert, user_commit}
use Rattle.repl_types.specs.declared.value.Value.TheVariants.{Int}
use Rattle.row_codec.specs.Spelling.{IsRow}
use Rattle.world_commits.specs.logs.WorkedRecords.{new_server}
use Rattle.world_commits.proofs.logs.worked_first_order.Goals as goal

-- the order is a row
order_is_row : IsRow (order 1 (codes "pen") (Int (pos 20)))
unfolding lib.Utf8.encode
order_is_row = (omega arith, (record { sfits = omega arith }, ((omega arith, (codes "pen", (refl, refl))), (record { sfits = omega arith }, tt))))

-- the insert is applicable at the new server
insert_applies : IsTrue (is_applicable (tables_of new_server) [] (orders_insert 5 1 (codes "pen") (Int (pos 20))))
unfolding is_applicable change_fits
insert_applies = refl

-- the commit is applicable after it, since no order has the key yet
commit_applies : IsTrue (is_applicable (tables_of new_server) (orders_insert 5 1 (codes "pen") (Int (pos 20)) ∷ []) (user_commit 5 (codes "ann") 100))
unfolding is_applicable applies source_at units
commit_applies = ap (λ (found : Option Values). is_none found && true && true) (get-empty key_cmp (Int (pos 1) ∷ []))

-- both records can follow
pub returns : goal.returns
returns c = (
  record { typed = (omega arith, refl, order_is_row); users = refl; early = tt; applies = insert_applies; short = omega arith },
  (
    record { typed = (omega arith, omega arith, refl, tt); users = refl; early = omega arith; applies = commit_applies; short = omega arith },
    tt,
  ),
)
