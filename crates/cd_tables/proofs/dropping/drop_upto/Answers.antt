use Rattle.std.proofs.Common.{Some, None, ◌<◌, ℕ, List, length, sym, subst, arith}
use Rattle.std.proofs.lemmas.Result.{err_from_is_err_and}
use Rattle.world_store.specs.Words.{change_key_spelling}
use Rattle.site_store.specs.Words.{after_key, breaks_on, goes_none, goes_then, goes_open}
use Rattle.cd_tables.specs.Dropping.{DropsNext, DropsUpto}
use Rattle.cd_tables.specs.StoredRows.{row_rules}
use Rattle.cd_tables.specs.laws.ChangeKeys.{rank_rises, rank_small}
use Rattle.cd_tables.proofs.DroppedRows.{HasDropped, dropped_none, dropped_next, dropped_all}
use Rattle.cd_tables.proofs.dropping.drop_upto.Goals as goal

pub loop-key-init : goal.loop-key-init
loop-key-init g c = record {
  reads = λ s a other. omega arith;
  fits = tt;
  goes = goes_none g.K.Keeper.kept c.args.sites.now c.args.server (HasDropped c.args.reg c.args.floor 0 (after_key change_key_spelling None)) c.requires.open (λ d. dropped_none c.args.reg c.args.floor d);
}

pub drop_next-requires-clause-server : goal.drop_next-requires-clause-server
drop_next-requires-clause-server g c = subst (λ (l : List (List ℕ)). c.args.server < length l) (sym c.loop-key.invariant.goes.works.passes.names) c.requires.server

pub drop_next-requires-clause-open : goal.drop_next-requires-clause-open
drop_next-requires-clause-open g c = goes_open g.K.Keeper.kept c.args.sites.now c.loop-key.sites c.args.server (HasDropped c.args.reg c.args.floor c.loop-key.count (after_key change_key_spelling c.loop-key.last)) c.requires.open c.loop-key.invariant.goes

pub returns-in_err-key-clause-fault : goal.returns-in_err-key-clause-fault
returns-in_err-key-clause-fault g c =
    let p = err_from_is_err_and c.from_residual.result c.from_residual.ensures.1 in
    rw (p.1, p.2) (breaks_on row_rules g.K.Keeper.kept c.args.sites.now c.loop-key.sites c.drop_next.new.sites c.args.server (HasDropped c.args.reg c.args.floor c.loop-key.count (after_key change_key_spelling c.loop-key.last)) c.in_err-key.field-0.0 c.requires.open (λ d e dropped. dropped.shown) c.loop-key.invariant.goes c.in_err-key.ensures.fault)

pub returns-in_default-clause-ok : goal.returns-in_default-clause-ok
returns-in_default-clause-ok g c =
    let reg = c.args.reg in
    let floor = c.args.floor in
    let count = c.loop-key.count in
    let after = after_key change_key_spelling c.loop-key.last in
    goes_then g.K.Keeper.kept c.args.sites.now c.loop-key.sites c.drop_next.new.sites c.args.server (HasDropped reg floor count after) (DropsNext reg floor after None) (DropsUpto reg floor count) c.requires.open c.loop-key.invariant.goes (rw c.in_default.is at c.in_ok-key.ensures.ok) (λ d e f before step. dropped_all reg floor count after d e f before step)

pub loop-key-smaller : goal.loop-key-smaller
loop-key-smaller g c =
    let is = rw c.in-Some.is at c.in_ok-key.ensures.rises in
    omega (arith, rank_rises c.loop-key.last c.in-Some.key c.loop-key.invariant.fits is.fits is.above, rank_small (Some c.in-Some.key) is.fits)

pub loop-key-preserved : goal.loop-key-preserved
loop-key-preserved g c =
    let is = rw c.in-Some.is at c.in_ok-key.ensures.rises in
    let reg = c.args.reg in
    let floor = c.args.floor in
    let count = c.loop-key.count in
    let more = c.saturating_add-count.result in
    let after = after_key change_key_spelling c.loop-key.last in
    let key = c.in-Some.key in
    record {
      reads = λ s a other. omega (arith, c.loop-key.invariant.reads s a other, c.in_ok-key.ensures.reads s a other);
      fits = is.fits;
      goes = goes_then g.K.Keeper.kept c.args.sites.now c.loop-key.sites c.drop_next.new.sites c.args.server (HasDropped reg floor count after) (DropsNext reg floor after (Some key)) (HasDropped reg floor more (change_key_spelling key)) c.requires.open c.loop-key.invariant.goes (rw c.in-Some.is at c.in_ok-key.ensures.ok) (λ d e f before step. dropped_next reg floor count after d e f before key more c.saturating_add-count.ensures is.low step);
    }
