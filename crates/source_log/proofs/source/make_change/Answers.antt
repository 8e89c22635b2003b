use Rattle.std.proofs.Common.{◌≡◌, subst, Some, None}
use Rattle.std.proofs.lemmas.Result.{on_ok_weaker}
use Rattle.world_store.specs.Words.{key_spelling, row_spelling}
use Rattle.site_store.specs.Words.{put_at, goes_as}
use Rattle.repl_model.specs.Words.{key_of}
use Rattle.repl_types.specs.declared.area.Area.TheVariants as areas
use Rattle.source_log.specs.Fitting.{CanBeMade}
use Rattle.source_log.specs.Making.{with_made}
use Rattle.source_log.proofs.Makes.{made_insert, made_delete, made_update}
use Rattle.source_log.proofs.MayStand.{insert_may, update_may, no_signal}
use Rattle.source_log.proofs.source.make_change.Goals as goal

pub put_row-requires-clause-row : goal.put_row-requires-clause-row
put_row-requires-clause-row g c = insert_may c.args.table.now.def c.in-Insert.table c.in-Insert.row (subst (CanBeMade c.args.table.now.def) c.in-Insert.is c.requires.can)

pub replace_row-requires-clause-row : goal.replace_row-requires-clause-row
replace_row-requires-clause-row g c = (update_may c.args.table.now.def c.in-Update.table c.in-Update.before c.in-Update.after (subst (CanBeMade c.args.table.now.def) c.in-Update.is c.requires.can)).1

pub returns-in-Insert-clause-ok : goal.returns-in-Insert-clause-ok
returns-in-Insert-clause-ok g c =
    let table = c.args.table.now in
    on_ok_weaker c.put_row.result (λ goes. goes_as g.K.Keeper.kept c.args.sites.now c.put_row.new.sites c.args.server (λ d e. e ≡ put_at d areas.Source table.number (key_spelling (key_of table.def c.in-Insert.row)) (Some (row_spelling c.in-Insert.row))) (λ d e. e ≡ with_made table c.args.change.now d) c.requires.open goes (λ d e p. made_insert table c.args.change.now c.in-Insert.table c.in-Insert.row d e c.in-Insert.is p)) c.put_row.ensures.ok

pub returns-in-Update-clause-ok : goal.returns-in-Update-clause-ok
returns-in-Update-clause-ok g c =
    let table = c.args.table.now in
    on_ok_weaker c.replace_row.result (λ goes. goes_as g.K.Keeper.kept c.args.sites.now c.replace_row.new.sites c.args.server (λ d e. e ≡ put_at (put_at d areas.Source table.number (key_spelling (key_of table.def c.in-Update.before)) None) areas.Source table.number (key_spelling (key_of table.def c.in-Update.after)) (Some (row_spelling c.in-Update.after))) (λ d e. e ≡ with_made table c.args.change.now d) c.requires.open goes (λ d e p. made_update table c.args.change.now c.in-Update.table c.in-Update.before c.in-Update.after d e c.in-Update.is p)) c.replace_row.ensures.ok

pub returns-in-Delete-clause-ok : goal.returns-in-Delete-clause-ok
returns-in-Delete-clause-ok g c =
    let table = c.args.table.now in
    on_ok_weaker c.remove_row.result (λ goes. goes_as g.K.Keeper.kept c.args.sites.now c.remove_row.new.sites c.args.server (λ d e. e ≡ put_at d areas.Source table.number (key_spelling (key_of table.def c.in-Delete.row)) None) (λ d e. e ≡ with_made table c.args.change.now d) c.requires.open goes (λ d e p. made_delete table c.args.change.now c.in-Delete.table c.in-Delete.row d e c.in-Delete.is p)) c.remove_row.ensures.ok

pub returns-in-Start-clause-ok : goal.returns-in-Start-clause-ok
returns-in-Start-clause-ok g c = absurd (no_signal c.args.table.now.def c.args.change.now c.requires.can c.in-Start.is)
