use Rattle.std.proofs.Common.{Some, None, ◌<◌, ℕ, List, length, sym, subst, arith}
use Rattle.std.proofs.lemmas.Result.{err_from_is_err_and}
use Rattle.world_store.specs.Words.{change_key_spelling}
use Rattle.site_store.specs.Words.{after_key, breaks_on, goes_none, goes_then, goes_open}
use Rattle.repl_types.specs.declared.area.Area.TheVariants as areas
use Rattle.stored_commits.specs.units.StoredChanges.{with_cleared}
use Rattle.cd_tables.specs.Appending.{Becomes}
use Rattle.cd_tables.specs.Clearing.{ClearsNext}
use Rattle.cd_tables.specs.Rules.{rules}
use Rattle.cd_tables.specs.laws.ChangeKeys.{rank_rises, rank_small}
use Rattle.cd_tables.specs.laws.ClearedTables.{HasCleared, cleared_none, cleared_next}
use Rattle.cd_tables.proofs.Shown.{cleared_shown, becomes_cleared}
use Rattle.cd_tables.proofs.clearing.clear_changes.Goals as goal

pub loop-key-init : goal.loop-key-init
loop-key-init g c = record { reads = λ s. omega arith; fits = tt; goes = goes_none g.K.Keeper.kept c.args.sites.now c.args.server (HasCleared areas.Cd c.args.number (after_key change_key_spelling None)) c.requires.open (λ d. cleared_none areas.Cd c.args.number d) }

pub clear_next-requires-clause-server : goal.clear_next-requires-clause-server
clear_next-requires-clause-server g c = subst (λ (l : List (List ℕ)). c.args.server < length l) (sym c.loop-key.invariant.goes.works.passes.names) c.requires.server

pub clear_next-requires-clause-open : goal.clear_next-requires-clause-open
clear_next-requires-clause-open g c = goes_open g.K.Keeper.kept c.args.sites.now c.loop-key.sites c.args.server (HasCleared areas.Cd c.args.number (after_key change_key_spelling c.loop-key.last)) c.requires.open c.loop-key.invariant.goes

pub returns-in_err-key-clause-fault : goal.returns-in_err-key-clause-fault
returns-in_err-key-clause-fault g c =
    let after = after_key change_key_spelling c.loop-key.last in
    let p = err_from_is_err_and c.from_residual.result c.from_residual.ensures.1 in
    rw (p.1, p.2) (breaks_on rules g.K.Keeper.kept c.args.sites.now c.loop-key.sites c.clear_next.new.sites c.args.server (HasCleared areas.Cd c.args.number after) c.in_err-key.field-0.0 c.requires.open (λ d e cleared. cleared_shown c.args.number after d e cleared) c.loop-key.invariant.goes c.in_err-key.ensures.fault)

pub returns-in_default-clause-ok : goal.returns-in_default-clause-ok
returns-in_default-clause-ok g c =
    let number = c.args.number in
    let after = after_key change_key_spelling c.loop-key.last in
    goes_then g.K.Keeper.kept c.args.sites.now c.loop-key.sites c.clear_next.new.sites c.args.server (HasCleared areas.Cd number after) (ClearsNext number after None) (Becomes (with_cleared number)) c.requires.open c.loop-key.invariant.goes (rw c.in_default.is at c.in_ok-key.ensures.ok) (λ d e f cleared last. becomes_cleared number after d e f cleared last)

pub loop-key-smaller : goal.loop-key-smaller
loop-key-smaller g c =
    let is = rw c.in-Some.is at c.in_ok-key.ensures.rises in
    omega (arith, rank_rises c.loop-key.last c.in-Some.key c.loop-key.invariant.fits is.fits is.above, rank_small (Some c.in-Some.key) is.fits)

pub loop-key-preserved : goal.loop-key-preserved
loop-key-preserved g c =
    let is = rw c.in-Some.is at c.in_ok-key.ensures.rises in
    let number = c.args.number in
    let after = after_key change_key_spelling c.loop-key.last in
    let key = c.in-Some.key in
    record {
      reads = λ s. omega (arith, c.loop-key.invariant.reads s, c.in_ok-key.ensures.reads s);
      fits = is.fits;
      goes = goes_then g.K.Keeper.kept c.args.sites.now c.loop-key.sites c.clear_next.new.sites c.args.server (HasCleared areas.Cd number after) (ClearsNext number after (Some key)) (HasCleared areas.Cd number (change_key_spelling key)) c.requires.open c.loop-key.invariant.goes (rw c.in-Some.is at c.in_ok-key.ensures.ok) (λ d e f cleared next. cleared_next areas.Cd number after d e f cleared (change_key_spelling key) is.above next);
    }
