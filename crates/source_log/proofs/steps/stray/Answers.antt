use Rattle.world_store.specs.Words.{Any, in_flight_spelling}
use Rattle.site_store.specs.Words.{reads_of_one, get_breaks}
use Rattle.repl_types.specs.declared.area.Area.TheVariants as areas
use Rattle.source_log.specs.Rules.{rules, flight_key}
use Rattle.source_log.proofs.Strays.{stray_breaks}
use Rattle.source_log.proofs.steps.stray.Goals as goal

pub returns-in-Ok : goal.returns-in-Ok
returns-in-Ok g c = stray_breaks g.K.Keeper.kept c.args.sites.now c.get.new.self c.unfit.new.self c.args.server c.args.tx c.args.pos c.in-Ok.field-0 c.unfit.result c.in-Ok.ensures.ok c.in-Ok.ensures.row c.requires.stray c.unfit.ensures.closes c.unfit.ensures.fault

pub returns-in-Err : goal.returns-in-Err
returns-in-Err g c = get_breaks rules g.K.Keeper.kept Any in_flight_spelling c.args.sites.now c.get.new.self c.args.server areas.Inflight 0 (flight_key c.args.tx c.args.pos) (reads_of_one 1 c.args.server areas.Inflight) c.in-Err.e (λ bytes h. h) c.in-Err.ensures.fault
