use Rattle.std.proofs.Common.{◌++◌, List, sym, ap, subst, ◌∙◌}
use Rattle.std.specs.List.{AllByRecursion}
use Rattle.repl_model.specs.Words.{CdRow, rows_of_placed, table_of}
use Rattle.cd_tables.specs.Appending.{CanBeStored}
use Rattle.cd_tables.proofs.CapturedRows.{placed_storable}
use Rattle.cd_tables.proofs.changes.rows_of.Goals as goal

pub returns-clause-storable : goal.returns-clause-storable
returns-clause-storable c =
    let placed = c.args.placed.now in
    let reg = c.args.reg.now in
    let rows = rows_of_placed reg.registration c.args.seq placed in
    subst (AllByRecursion CanBeStored) (sym (c.in_ok-change_rows_of_change.ensures ∙ ap (λ (l : List CdRow). l ++ rows) c.new-rows.ensures)) (placed_storable (table_of placed.change) reg c.args.seq placed c.requires.of c.requires.typed)
