use Rattle.std.proofs.lemmas.Result.{err_from_is_err_and}
use Rattle.site_store.specs.Words.{ShownBefore, goes_as, goes_both}
use Rattle.cd_tables.specs.Appending.{CapturesUnit}
use Rattle.cd_tables.specs.Rules.{rules as unit_rules}
use Rattle.capture_core.specs.Reading.{TakesCommit}
use Rattle.capture_core.proofs.Calls.{unit_breaks}
use Rattle.capture_core.proofs.Shown.{unit_shown}
use Rattle.capture_core.proofs.reading.take_commit.Goals as goal

pub returns-in_err-rows-clause-fault : goal.returns-in_err-rows-clause-fault
returns-in_err-rows-clause-fault g c =
    let p = err_from_is_err_and c.from_residual.result c.from_residual.ensures.1 in
    rw (p.1, p.2) (unit_breaks g.K.Keeper.kept c.args.sites.now c.append_changes.new.sites c.args.server c.in_err-rows.field-0.0 c.in_err-rows.ensures.fault)

pub returns-clause-ok : goal.returns-clause-ok
returns-clause-ok g c =
    let kept = g.K.Keeper.kept in
    let s0 = c.args.sites.now in
    let s1 = c.append_changes.new.sites in
    let n = c.args.server in
    let p = c.args.progress.now in
    let u = c.args.unit.now in
    let rows = c.in_ok-rows.rows in
    let restart = c.restart_at.result in
    goes_as kept s0 s1 n (λ d e. CapturesUnit u rows d e × ShownBefore unit_rules d e) (TakesCommit p (record p {
      state = record { captured = u.head.seq; restart = restart; floor = p.state.floor };
      units = c.saturating_add-progress.result;
      rows = c.saturating_add-progress-2.result;
      waiting = c.saturating_add-progress-3.result;
    }) u) c.requires.open
    (goes_both kept s0 s1 n (CapturesUnit u rows) (ShownBefore unit_rules) c.requires.open c.in_ok-rows.ensures.ok c.in_ok-rows.ensures.shown)
    (λ d e both. record {
      restart = restart;
      begins = c.restart_at.ensures;
      rows = rows;
      captures = both.0;
      leaves = record { others = both.0.others; shown = unit_shown d e both.0.others both.1 };
      progress = λ i. record p {
        state = record { captured = u.head.seq; restart = restart; floor = p.state.floor };
        units = c.saturating_add-progress.ensures i;
        rows = c.saturating_add-progress-2.ensures i;
        waiting = c.saturating_add-progress-3.ensures i;
      };
    })
