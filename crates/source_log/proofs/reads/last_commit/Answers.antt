use Rattle.world_store.specs.Words.{b64}
use Rattle.site_store.specs.Words.{IsLastKey, sees, if_seen}
use Rattle.repl_types.specs.declared.area.Area.TheVariants as areas
use Rattle.source_log.specs.Rules.{EndIs}
use Rattle.source_log.proofs.Seen.{end_seen, none_seen}
use Rattle.source_log.proofs.reads.last_commit.Goals as goal

pub returns-in-Ok-clause-end : goal.returns-in-Ok-clause-end
returns-in-Ok-clause-end g c =
    let head = c.in-Ok.head in
    if_seen (sees g.K.Keeper.kept c.args.sites.now c.args.server) (λ d. EndIs head d × IsLastKey (d areas.Log 0) (b64 head.last)) (EndIs head) (λ d h. h.0) c.in-Ok.ensures.end

pub returns-in-Ok-clause-world : goal.returns-in-Ok-clause-world
returns-in-Ok-clause-world g c = λ w seen.
    let head = c.in-Ok.head in
    end_seen g.K.Keeper.kept c.args.sites.now c.args.server w seen head c.in-Ok.ensures.fits
    (if_seen (sees g.K.Keeper.kept c.args.sites.now c.args.server) (λ d. EndIs head d × IsLastKey (d areas.Log 0) (b64 head.last)) (EndIs head) (λ d h. h.0) c.in-Ok.ensures.end)

pub returns-in-Err-clause-undamaged : goal.returns-in-Err-clause-undamaged
returns-in-Err-clause-undamaged g c = λ w seen.
    none_seen g.K.Keeper.kept c.args.sites.now c.args.server w seen c.read_end.new.sites c.in-Err.e c.in-Err.ensures.fault.blames
