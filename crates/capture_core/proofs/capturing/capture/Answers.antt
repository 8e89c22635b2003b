use Rattle.site_store.specs.Words.{no_access, keeps_passed, passes_keeps}
use Rattle.capture_core.specs.Ending.{HeldDamage}
use Rattle.capture_core.specs.Rules.{ShowsDamage}
use Rattle.capture_core.proofs.Elsewhere.{elsewhere_on}
use Rattle.capture_core.proofs.Faults.{blames_later, damage_seen}
use Rattle.capture_core.proofs.Whole.{captured_all, stopped_first}
use Rattle.capture_core.proofs.capturing.capture.Goals as goal

pub returns-in-Ok-clause-ok : goal.returns-in-Ok-clause-ok
returns-in-Ok-clause-ok g c = λ w stands. captured_all g.K.Keeper.kept c.args.sites.now c.requires.closed c.args.server c.requires.server c.args.units c.most_units.result c.args.every c.most_units.ensures c.capture_units.new.sites w stands c.in-Ok.captured c.in-Ok.ensures.ok

pub returns-in-Err-clause-fault : goal.returns-in-Err-clause-fault
returns-in-Err-clause-fault g c = λ w stands. stopped_first g.K.Keeper.kept c.args.sites.now c.requires.closed c.args.server c.requires.server c.args.units c.most_units.result c.args.every c.most_units.ensures c.capture_units.new.sites w stands c.rollback_all.new.self c.in-Err.e c.rollback_all.ensures.held c.in-Err.ensures.fault

pub returns-in-Err-clause-blames : goal.returns-in-Err-clause-blames
returns-in-Err-clause-blames g c =
    let kept = g.K.Keeper.kept in
    let s1 = c.capture_units.new.sites in
    let s2 = c.rollback_all.new.self in
    blames_later kept c.args.sites.now s1 s2 no_access (HeldDamage kept s1 c.args.server) (ShowsDamage kept s2 c.args.server) c.in-Err.e c.rollback_all.ensures.passes (damage_seen kept s1 s2 c.args.server c.rollback_all.ensures.held c.rollback_all.ensures.closed) c.in-Err.ensures.fault.blames

pub returns-in-Err-clause-servers : goal.returns-in-Err-clause-servers
returns-in-Err-clause-servers g c =
    let kept = g.K.Keeper.kept in
    let s1 = c.capture_units.new.sites in
    let failed = c.in-Err.ensures.fault in
    passes_keeps kept c.args.sites.now s1 c.rollback_all.new.self failed.bounds failed.passes (keeps_passed kept s1 c.rollback_all.new.self no_access c.rollback_all.ensures.passes c.rollback_all.ensures.closed)

pub returns-in-Err-clause-apart : goal.returns-in-Err-clause-apart
returns-in-Err-clause-apart g c = elsewhere_on g.K.Keeper.kept c.args.server c.args.sites.now c.capture_units.new.sites c.rollback_all.new.self c.capture_units.ensures.apart c.rollback_all.ensures.held
