use Rattle.std.proofs.Common.{◌∷◌, [], Some, ap, subst, ◌∙◌}
use Rattle.std.proofs.lemmas.Result.{err_from_is_err_and}
use Rattle.world_store.specs.Words.{log_spelling, b64}
use Rattle.site_store.specs.Words.{Contents, put_at, Sets, breaks_on, no_memory, goes_put, goes_then}
use Rattle.repl_model.specs.Words.{LogRecord}
use Rattle.repl_types.specs.declared.area.Area.TheVariants as areas
use Rattle.source_log.specs.Units.{MakesOwn, PutsOwn, ShowsBadTable, table_rules}
use Rattle.source_log.proofs.UnitTables.{tables_shown}
use Rattle.source_log.proofs.units.put_own.Goals as goal

pub returns-in_err-logged-clause-fault : goal.returns-in_err-logged-clause-fault
returns-in_err-logged-clause-fault g c =
    let p = err_from_is_err_and c.from_residual.result c.from_residual.ensures.1 in
    rw (p.1, p.2) (no_memory g.K.Keeper.kept c.args.sites.now (ShowsBadTable g.K.Keeper.kept c.args.sites.now c.args.server (c.args.placed.now ∷ [])))

pub returns-in_err-make_own-clause-fault : goal.returns-in_err-make_own-clause-fault
returns-in_err-make_own-clause-fault g c =
    let kept = g.K.Keeper.kept in
    let s0 = c.args.sites.now in
    let s1 = c.put.new.self in
    let key = b64 c.args.pos in
    let row = Some (log_spelling c.in_ok-logged.logged) in
    let alone = c.args.placed.now ∷ [] in
    let p = err_from_is_err_and c.from_residual-in_err-make_own.result c.from_residual-in_err-make_own.ensures.1 in
    rw (p.1, p.2) (breaks_on (table_rules alone) kept s0 s1 c.make_own.new.sites c.args.server (Sets areas.Log 0 key row) c.in_err-make_own.field-0.0 c.requires.open (λ d e puts. tables_shown alone d e (ap (λ (x : Contents). x areas.Defs 0) puts)) (goes_put kept s0 s1 c.args.server areas.Log 0 key row c.in_ok-put.ensures.ok) c.in_err-make_own.ensures.fault)

pub returns-clause-ok : goal.returns-clause-ok
returns-clause-ok g c =
    let kept = g.K.Keeper.kept in
    let s0 = c.args.sites.now in
    let s1 = c.put.new.self in
    let key = b64 c.args.pos in
    let row = Some (log_spelling c.in_ok-logged.logged) in
    let placed = c.args.placed.now in
    goes_then kept s0 s1 c.make_own.new.sites c.args.server (Sets areas.Log 0 key row) (MakesOwn placed.change) (PutsOwn c.args.pos placed) c.requires.open (goes_put kept s0 s1 c.args.server areas.Log 0 key row c.in_ok-put.ensures.ok) c.in_ok-make_own.ensures.ok
    (λ d e f puts makes. subst (λ (x : Contents). MakesOwn placed.change x f) (puts ∙ ap (λ (r : LogRecord). put_at d areas.Log 0 key (Some (log_spelling r))) c.in_ok-logged.ensures) makes)
