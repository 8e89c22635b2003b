use Rattle.std.proofs.Common.{◌∙◌, sym}
use Rattle.run_words.proofs.CellCounts.{cells_found, no_cells_found}
use Rattle.run_words.proofs.cells.read_cells.Goals as goal

pub returns-in_err-cells : goal.returns-in_err-cells
returns-in_err-cells c =
    let read = rw (c.from.ensures, c.from-2.ensures, c.as_bytes.ensures.value) at c.read_number.ensures in
    rw (c.from_residual.ensures, c.in-Some.is) (λ cells. no_cells_found c.in-Some.text.now cells (sym read ∙ c.in_err-cells.was))

pub returns : goal.returns
returns c =
    let read = rw (c.from.ensures, c.from-2.ensures, c.as_bytes.ensures.value) at c.read_number.ensures in
    rw c.in-Some.is (cells_found c.in-Some.text.now c.in_ok-cells.cells (sym read ∙ c.in_ok-cells.was))
