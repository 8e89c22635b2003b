use Rattle.std.proofs.Common.{◌∙◌}
use Rattle.std.proofs.lemmas.Result.{err_from_is_err_and}
use Rattle.site_store.specs.Words.{no_access, writes_of_one}
use Rattle.repl_types.specs.declared.area.Area.TheVariants as areas
use Rattle.source_log.specs.Units.{AppendsUnit}
use Rattle.set_places.specs.laws.Commits.{begun_open, begun_sees_all, begin_fails, read_fails_begun, write_fails_begun, commits_step, commit_fails}
use Rattle.full_refresh.specs.PutSignals.{PutsSignal}
use Rattle.full_refresh.proofs.PutSignals.{PutsSome, unit_rules, appends, signal_put, some_put}
use Rattle.full_refresh.proofs.signals.put_signal.Goals as goal

pub returns-in_err-begin-clause-fault : goal.returns-in_err-begin-clause-fault
returns-in_err-begin-clause-fault g c =
    let set = c.args.set.now in
    let unit = c.args.unit.now in
    let p = err_from_is_err_and c.from_residual.result c.from_residual.ensures.1 in
    rw (p.1, p.2) (begin_fails g.K.Keeper.kept c.args.sites.now c.begin.new.self set.source c.requires.server c.requires.closed (PutsSome set.at_source.number c.args.known unit) (unit_rules unit) no_access c.in_err-begin.field-0.0 c.in_err-begin.ensures.fault)

pub returns-in_err-seq-clause-fault : goal.returns-in_err-seq-clause-fault
returns-in_err-seq-clause-fault g c =
    let set = c.args.set.now in
    let unit = c.args.unit.now in
    let p = err_from_is_err_and c.from_residual-in_err-seq.result c.from_residual-in_err-seq.ensures.1 in
    rw (p.1, p.2) (read_fails_begun g.K.Keeper.kept c.args.sites.now c.begin.new.self set.source c.requires.server c.requires.closed (PutsSome set.at_source.number c.args.known unit) c.in_ok-begin.ensures.ok c.append.new.sites (unit_rules unit) c.in_err-seq.field-0.0 c.in_err-seq.ensures.closed c.in_err-seq.ensures.fault)

pub returns-in_err-seq-clause-undamaged : goal.returns-in_err-seq-clause-undamaged
returns-in_err-seq-clause-undamaged g c =
    let set = c.args.set.now in
    let p = err_from_is_err_and c.from_residual-in_err-seq.result c.from_residual-in_err-seq.ensures.1 in
    rw (p.1, p.2) (λ server d saw whole fit. c.in_err-seq.ensures.undamaged server d (begun_sees_all g.K.Keeper.kept c.args.sites.now c.begin.new.self set.source c.requires.server c.requires.closed c.in_ok-begin.ensures.ok set.source ∙ saw) whole fit)

pub returns-in_err-put-clause-fault : goal.returns-in_err-put-clause-fault
returns-in_err-put-clause-fault g c =
    let kept = g.K.Keeper.kept in
    let set = c.args.set.now in
    let unit = c.args.unit.now in
    let seq = c.in-Some.seq in
    let p = err_from_is_err_and c.from_residual-in_err-put.result c.from_residual-in_err-put.ensures.1 in
    rw (p.1, p.2) (write_fails_begun kept c.args.sites.now c.begin.new.self set.source c.requires.server c.requires.closed (PutsSome set.at_source.number c.args.known unit) c.in_ok-begin.ensures.ok c.append.new.sites (unit_rules unit) (AppendsUnit unit seq) c.put.new.self (writes_of_one 1 set.source areas.Prune) c.in_err-put.field-0.0
    (appends kept c.begin.new.self c.append.new.sites set.source unit c.in_ok-seq.field-0 seq c.in-Some.is c.in_ok-seq.ensures.ok) c.in_err-put.ensures.fault)

pub returns-in_err-commit-clause-fault : goal.returns-in_err-commit-clause-fault
returns-in_err-commit-clause-fault g c =
    let kept = g.K.Keeper.kept in
    let set = c.args.set.now in
    let s0 = c.args.sites.now in
    let s1 = c.begin.new.self in
    let s2 = c.append.new.sites in
    let s3 = c.put.new.self in
    let unit = c.args.unit.now in
    let seq = c.in-Some.seq in
    let begun = c.in_ok-begin.ensures.ok in
    let p = err_from_is_err_and c.from_residual-in_err-commit.result c.from_residual-in_err-commit.ensures.1 in
    rw (p.1, p.2) (commit_fails kept s0 s1 set.source c.requires.server c.requires.closed (PutsSome set.at_source.number c.args.known unit) begun s3
    (some_put kept s1 s2 s3 set.source set.at_source.number c.args.known unit seq (begun_open kept s0 s1 set.source c.requires.server c.requires.closed begun) (appends kept s1 s2 set.source unit c.in_ok-seq.field-0 seq c.in-Some.is c.in_ok-seq.ensures.ok) c.in_ok-put.ensures.ok)
    c.commit.new.self (unit_rules unit) c.in_err-commit.field-0.0 c.in_err-commit.ensures.fault)

pub returns-clause-ok : goal.returns-clause-ok
returns-clause-ok g c =
    let kept = g.K.Keeper.kept in
    let set = c.args.set.now in
    let s0 = c.args.sites.now in
    let s1 = c.begin.new.self in
    let s2 = c.append.new.sites in
    let s3 = c.put.new.self in
    let unit = c.args.unit.now in
    let seq = c.in-Some.seq in
    let begun = c.in_ok-begin.ensures.ok in
    commits_step kept s0 s1 set.source c.requires.server c.requires.closed (PutsSignal set.at_source.number c.args.known unit seq) begun s3
    (signal_put kept s1 s2 s3 set.source set.at_source.number c.args.known unit seq (begun_open kept s0 s1 set.source c.requires.server c.requires.closed begun) (appends kept s1 s2 set.source unit c.in_ok-seq.field-0 seq c.in-Some.is c.in_ok-seq.ensures.ok) c.in_ok-put.ensures.ok)
    c.commit.new.self c.in_ok-commit.ensures.ok
