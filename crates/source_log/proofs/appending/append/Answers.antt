use Rattle.std.proofs.Common.{inl}
use Rattle.std.proofs.lemmas.Result.{err_from_is_err_and}
use Rattle.site_store.specs.Words.{no_access, held, keeps_passed, passes_keeps}
use Rattle.source_log.specs.Rules.{ShowsDamage}
use Rattle.source_log.proofs.Appended.{ok_as, err_as, opened, stands_broken, stands_ended, stands_doubted, keeps_ended, has_appended, has_not_appended, stops_holding, blames_broken, blames_doubted}
use Rattle.source_log.proofs.appending.append.Goals as goal

pub returns-in-Err-clause-refused : goal.returns-in-Err-clause-refused
returns-in-Err-clause-refused g c = λ w stands.
    let r = stands_broken g.K.Keeper.kept c.args.sites.now c.requires.closed w stands c.args.server c.requires.server c.begin.new.self c.take_all.new.sites c.in-Err.e c.in_ok-begin.ensures.ok c.in-Err.ensures.fault (held g.K.Keeper.kept c.rollback_all.new.self) c.rollback_all.ensures.held in
    (r.0, inl r.1)

pub returns-in_err-commit_taken-clause-refused : goal.returns-in_err-commit_taken-clause-refused
returns-in_err-commit_taken-clause-refused g c =
    let kept = g.K.Keeper.kept in
    let s0 = c.args.sites.now in
    let s1 = c.begin.new.self in
    let s2 = c.take_all.new.sites in
    let s3 = c.commit_taken.new.sites in
    let n = c.args.server in
    let records = c.args.records.now in
    let progress = c.in-Ok.progress in
    let begun = c.in_ok-begin.ensures.ok in
    let goes = c.in-Ok.ensures.ok in
    let open_at = opened kept s0 s1 s2 c.requires.closed n begun c.requires.server in
    let p = err_from_is_err_and c.from_residual-in_err-commit_taken.result c.from_residual-in_err-commit_taken.ensures.1 in
    rw (p.1, p.2) (λ w stands. stands_doubted kept s0 c.requires.closed w stands n c.requires.server records s1 s2 progress begun goes c.requires.records s3 open_at c.in_err-commit_taken.field-0.0 c.in_err-commit_taken.ensures.fault)

pub returns-clause-ok : goal.returns-clause-ok
returns-clause-ok g c =
    let kept = g.K.Keeper.kept in
    let s0 = c.args.sites.now in
    let s1 = c.begin.new.self in
    let s2 = c.take_all.new.sites in
    let s3 = c.commit_taken.new.sites in
    let n = c.args.server in
    let records = c.args.records.now in
    let progress = c.in-Ok.progress in
    let begun = c.in_ok-begin.ensures.ok in
    let goes = c.in-Ok.ensures.ok in
    let open_at = opened kept s0 s1 s2 c.requires.closed n begun c.requires.server in
    ok_as c.answer_of.result (λ last told w stands.
    let stand = stands_ended kept s0 c.requires.closed w stands n c.requires.server records s1 s2 progress begun goes c.requires.records s3 open_at c.in_ok-commit_taken.ensures.none c.in_ok-commit_taken.ensures.some in
    has_appended kept s0 c.requires.closed w stands n c.requires.server records s1 s2 progress begun goes s3 stand last told) c.answer_of.ensures.ok

pub returns-clause-refused : goal.returns-clause-refused
returns-clause-refused g c =
    let kept = g.K.Keeper.kept in
    let s0 = c.args.sites.now in
    let s1 = c.begin.new.self in
    let s2 = c.take_all.new.sites in
    let s3 = c.commit_taken.new.sites in
    let n = c.args.server in
    let records = c.args.records.now in
    let progress = c.in-Ok.progress in
    let begun = c.in_ok-begin.ensures.ok in
    let goes = c.in-Ok.ensures.ok in
    let open_at = opened kept s0 s1 s2 c.requires.closed n begun c.requires.server in
    err_as c.answer_of.result (λ e told w stands.
    let stand = stands_ended kept s0 c.requires.closed w stands n c.requires.server records s1 s2 progress begun goes c.requires.records s3 open_at c.in_ok-commit_taken.ensures.none c.in_ok-commit_taken.ensures.some in
    has_not_appended kept s0 c.requires.closed w stands n c.requires.server records s1 s2 progress begun goes s3 stand e told) c.answer_of.ensures.refused

pub returns-clause-servers : goal.returns-clause-servers
returns-clause-servers g c =
    let kept = g.K.Keeper.kept in
    let s0 = c.args.sites.now in
    let s1 = c.begin.new.self in
    let s2 = c.take_all.new.sites in
    let n = c.args.server in
    let begun = c.in_ok-begin.ensures.ok in
    keeps_ended kept s0 s1 s2 c.requires.closed n begun c.args.records.now c.in-Ok.progress (opened kept s0 s1 s2 c.requires.closed n begun c.requires.server) c.in-Ok.ensures.ok c.commit_taken.new.sites c.in_ok-commit_taken.ensures.none c.in_ok-commit_taken.ensures.some

pub returns-in_err-commit_taken-clause-blames : goal.returns-in_err-commit_taken-clause-blames
returns-in_err-commit_taken-clause-blames g c =
    let kept = g.K.Keeper.kept in
    let s0 = c.args.sites.now in
    let s1 = c.begin.new.self in
    let s2 = c.take_all.new.sites in
    let n = c.args.server in
    let begun = c.in_ok-begin.ensures.ok in
    let p = err_from_is_err_and c.from_residual-in_err-commit_taken.result c.from_residual-in_err-commit_taken.ensures.1 in
    rw (p.1, p.2) (blames_doubted kept s0 s1 s2 c.requires.closed n begun c.args.records.now c.in-Ok.progress (opened kept s0 s1 s2 c.requires.closed n begun c.requires.server) c.in-Ok.ensures.ok c.commit_taken.new.sites (ShowsDamage kept s0 n) c.in_err-commit_taken.field-0.0 c.in_err-commit_taken.ensures.fault)

pub returns-clause-blames : goal.returns-clause-blames
returns-clause-blames g c =
    let kept = g.K.Keeper.kept in
    let s0 = c.args.sites.now in
    let s1 = c.begin.new.self in
    let s2 = c.take_all.new.sites in
    let n = c.args.server in
    let begun = c.in_ok-begin.ensures.ok in
    err_as c.answer_of.result (λ e told. stops_holding kept s0 s1 s2 c.requires.closed n begun c.args.records.now c.in-Ok.progress (opened kept s0 s1 s2 c.requires.closed n begun c.requires.server) c.in-Ok.ensures.ok c.commit_taken.new.sites c.in_ok-commit_taken.ensures.none (ShowsDamage kept s0 n) e told) c.answer_of.ensures.refused

pub returns-in-Err-clause-blames : goal.returns-in-Err-clause-blames
returns-in-Err-clause-blames g c = blames_broken g.K.Keeper.kept c.args.sites.now c.begin.new.self c.take_all.new.sites c.requires.closed c.args.server c.in_ok-begin.ensures.ok c.in-Err.e c.requires.server c.in-Err.ensures.fault c.rollback_all.new.self c.rollback_all.ensures.passes c.rollback_all.ensures.held

pub returns-in-Err-clause-servers : goal.returns-in-Err-clause-servers
returns-in-Err-clause-servers g c =
    let kept = g.K.Keeper.kept in
    let s1 = c.begin.new.self in
    let s2 = c.take_all.new.sites in
    let s3 = c.rollback_all.new.self in
    let stops = c.in-Err.ensures.fault in
    passes_keeps kept c.args.sites.now s1 s3 no_access c.in_ok-begin.ensures.ok.passes (passes_keeps kept s1 s2 s3 stops.most stops.passes (keeps_passed kept s2 s3 no_access c.rollback_all.ensures.passes c.rollback_all.ensures.closed))

pub returns-in_err-commit_taken-clause-servers : goal.returns-in_err-commit_taken-clause-servers
returns-in_err-commit_taken-clause-servers g c =
    let kept = g.K.Keeper.kept in
    let s1 = c.begin.new.self in
    let s2 = c.take_all.new.sites in
    let s3 = c.commit_taken.new.sites in
    let goes = c.in-Ok.ensures.ok in
    let doubt = c.in_err-commit_taken.ensures.fault in
    passes_keeps kept c.args.sites.now s1 s3 no_access c.in_ok-begin.ensures.ok.passes (passes_keeps kept s1 s2 s3 goes.most goes.works.passes (keeps_passed kept s2 s3 doubt.most doubt.passes doubt.closed))
