use Rattle.std.proofs.Common.{None, Some, option_copied}
use Rattle.std.proofs.lemmas.Result.{err_from_is_err_and}
use Rattle.world_store.specs.Words.{key_spelling, source_row_spelling, SourceRow}
use Rattle.site_store.specs.Words.{after_key, NextRowIs, sees, no_memory, if_seen}
use Rattle.repl_types.specs.declared.area.Area.TheVariants as areas
use Rattle.source_log.specs.Scanning.{ShowsBadRow, IsNextCommitted}
use Rattle.source_log.proofs.Scanned.{scan_fails, none_next, some_next}
use Rattle.source_log.proofs.reads.next_row.Goals as goal

pub returns-in_err-last-clause-fault : goal.returns-in_err-last-clause-fault
returns-in_err-last-clause-fault g c =
    let p = err_from_is_err_and c.from_residual.result c.from_residual.ensures.1 in
    rw (p.1, p.2) (no_memory g.K.Keeper.kept c.args.sites.now (ShowsBadRow g.K.Keeper.kept c.args.sites.now c.args.server c.args.table.now.number))

pub returns-in_err-next-clause-fault : goal.returns-in_err-next-clause-fault
returns-in_err-next-clause-fault g c =
    let p = err_from_is_err_and c.from_residual-in_err-next.result c.from_residual-in_err-next.ensures.1 in
    rw (p.1, p.2) (scan_fails g.K.Keeper.kept c.args.sites.now c.next.new.self c.args.server c.args.table.now.number (after_key key_spelling c.in_ok-last.last) c.in_err-next.field-0.0 (rw c.as_ref.ensures.value at c.in_err-next.ensures.fault))

pub returns-in_default-clause-row : goal.returns-in_default-clause-row
returns-in_default-clause-row g c =
    let table = c.args.table.now in
    let after = option_copied c.args.after in
    if_seen (sees g.K.Keeper.kept c.args.sites.now c.args.server) (NextRowIs {X = SourceRow} key_spelling source_row_spelling areas.Source table.number (after_key key_spelling c.in_ok-last.last) None) (IsNextCommitted table after None)
    (λ d last server has. none_next server table d has after c.in_ok-last.last c.in_ok-last.ensures last)
    (rw (c.in_default.is, c.as_ref.ensures.value) at c.in_ok-next.ensures.row)

pub returns-clause-row : goal.returns-clause-row
returns-clause-row g c =
    let table = c.args.table.now in
    let after = option_copied c.args.after in
    let key = c.in-Some._key in
    let row = c.in-Some.stored in
    let follows = rw (c.in-Some.is, c.as_ref.ensures.value) at c.in_ok-next.ensures.rises in
    if_seen (sees g.K.Keeper.kept c.args.sites.now c.args.server) (NextRowIs key_spelling source_row_spelling areas.Source table.number (after_key key_spelling c.in_ok-last.last) (Some (key, row))) (IsNextCommitted table after (Some row.row))
    (λ d next server has. some_next server table d has after c.in_ok-last.last c.in_ok-last.ensures key row.row follows.fits follows.row.fits next)
    (rw (c.in-Some.is, c.as_ref.ensures.value) at c.in_ok-next.ensures.row)
