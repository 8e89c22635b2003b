use Rattle.std.proofs.Common.{Some, None, ◌≢◌, ◌<◌, ℕ, List, length, sym, subst, arith}
use Rattle.std.proofs.lemmas.Result.{err_from_is_err_and}
use Rattle.world_store.specs.Words.{key_spelling}
use Rattle.site_store.specs.Words.{after_key, work, sees, goes_none, goes_then, goes_open}
use Rattle.apply_copies.specs.Copying.{LoadsNext, LoadsAll}
use Rattle.apply_copies.specs.Rules.{source_rules}
use Rattle.apply_copies.proofs.CopiedRows.{HasLoaded, loaded_none, loaded_next, loaded_all}
use Rattle.apply_copies.proofs.Elsewhere.{open_elsewhere, sees_elsewhere, breaks_elsewhere}
use Rattle.apply_copies.proofs.KeyRanks.{rank_rises, rank_small}
use Rattle.apply_copies.proofs.loading.load_all.Goals as goal

pub loop-key-init : goal.loop-key-init
loop-key-init g c =
    let kept = g.K.Keeper.kept in
    let set = c.args.set.now in
    let saw = sees kept c.args.sites.now set.source in
    record { stored = tt; goes = goes_none kept c.args.sites.now set.target (HasLoaded saw c.args.table c.args.number c.args.member.now (after_key key_spelling None) 0) c.requires.open (λ d. loaded_none saw c.args.table c.args.number c.args.member.now d); reads = λ s a none. omega arith }

pub load_next-requires-clause-source : goal.load_next-requires-clause-source
load_next-requires-clause-source g c = subst (λ (l : List (List ℕ)). c.args.set.now.source < length l) (sym c.loop-key.invariant.goes.works.passes.names) c.requires.source

pub load_next-requires-clause-target : goal.load_next-requires-clause-target
load_next-requires-clause-target g c = subst (λ (l : List (List ℕ)). c.args.set.now.target < length l) (sym c.loop-key.invariant.goes.works.passes.names) c.requires.target

pub load_next-requires-clause-open : goal.load_next-requires-clause-open
load_next-requires-clause-open g c =
    let kept = g.K.Keeper.kept in
    let set = c.args.set.now in
    goes_open kept c.args.sites.now c.loop-key.sites set.target (HasLoaded (sees kept c.args.sites.now set.source) c.args.table c.args.number c.args.member.now (after_key key_spelling c.loop-key.last) c.loop-key.rows) c.requires.open c.loop-key.invariant.goes

pub returns-in_err-key-clause-fault : goal.returns-in_err-key-clause-fault
returns-in_err-key-clause-fault g c =
    let kept = g.K.Keeper.kept in
    let set = c.args.set.now in
    let p = err_from_is_err_and c.from_residual.result c.from_residual.ensures.1 in
    let P = HasLoaded (sees kept c.args.sites.now set.source) c.args.table c.args.number c.args.member.now (after_key key_spelling c.loop-key.last) c.loop-key.rows in
    let ne : set.source ≢ set.target = open_elsewhere (work kept c.args.sites.now) set.target set.source c.requires.open c.requires.closed in
    rw (p.1, p.2) (breaks_elsewhere kept c.args.sites.now c.loop-key.sites set.target set.source P ne c.loop-key.invariant.goes source_rules c.load_next.new.sites c.in_err-key.field-0.0 c.in_err-key.ensures.fault)

pub returns-in_default-clause-ok : goal.returns-in_default-clause-ok
returns-in_default-clause-ok g c =
    let kept = g.K.Keeper.kept in
    let set = c.args.set.now in
    let saw = sees kept c.args.sites.now set.source in
    let after = after_key key_spelling c.loop-key.last in
    let member = c.args.member.now in
    let rows = c.loop-key.rows in
    let P = HasLoaded saw c.args.table c.args.number member after rows in
    let ne : set.source ≢ set.target = open_elsewhere (work kept c.args.sites.now) set.target set.source c.requires.open c.requires.closed in
    goes_then kept c.args.sites.now c.loop-key.sites c.load_next.new.sites set.target P (LoadsNext saw c.args.table c.args.number member after None) (LoadsAll saw c.args.table c.args.number member rows) c.requires.open c.loop-key.invariant.goes (rw (c.in_default.is, sees_elsewhere kept c.args.sites.now c.loop-key.sites set.target set.source P ne c.loop-key.invariant.goes) at c.in_ok-key.ensures.ok) (λ d e f loaded last. loaded_all saw c.args.table c.args.number member after rows d e f loaded last)

pub loop-key-smaller : goal.loop-key-smaller
loop-key-smaller g c =
    let is = rw c.in-Some.is at c.in_ok-key.ensures.rises in
    omega (arith, rank_rises c.loop-key.last c.in-Some.key c.loop-key.invariant.stored is.stored is.above, rank_small (Some c.in-Some.key) is.stored)

pub loop-key-preserved : goal.loop-key-preserved
loop-key-preserved g c =
    let kept = g.K.Keeper.kept in
    let set = c.args.set.now in
    let saw = sees kept c.args.sites.now set.source in
    let after = after_key key_spelling c.loop-key.last in
    let member = c.args.member.now in
    let rows = c.loop-key.rows in
    let key = c.in-Some.key in
    let put = c.in-Some.put in
    let P = HasLoaded saw c.args.table c.args.number member after rows in
    let ne : set.source ≢ set.target = open_elsewhere (work kept c.args.sites.now) set.target set.source c.requires.open c.requires.closed in
    let is = rw c.in-Some.is at c.in_ok-key.ensures.rises in
    record {
      stored = is.stored;
      goes = goes_then kept c.args.sites.now c.loop-key.sites c.load_next.new.sites set.target P (LoadsNext saw c.args.table c.args.number member after (Some (key, put))) (HasLoaded saw c.args.table c.args.number member (key_spelling key) c.saturating_add-rows.result) c.requires.open c.loop-key.invariant.goes (rw (c.in-Some.is, sees_elsewhere kept c.args.sites.now c.loop-key.sites set.target set.source P ne c.loop-key.invariant.goes) at c.in_ok-key.ensures.ok) (λ d e f loaded next. loaded_next saw c.args.table c.args.number member after rows c.saturating_add-rows.result put key d e f is.stored.fits c.saturating_add-rows.ensures loaded next);
      reads = λ s a none. omega (arith, c.loop-key.invariant.reads s a none, c.in_ok-key.ensures.reads s a none);
    }
