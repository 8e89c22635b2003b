use Rattle.std.proofs.lemmas.Result.{err_from_is_err_and}
use Rattle.site_store.specs.Words.{writes_of_one}
use Rattle.repl_types.specs.declared.area.Area.TheVariants as areas
use Rattle.set_places.specs.laws.Commits.{begun_open, read_fails_begun, write_fails_begun, commits_step, commit_fails}
use Rattle.subs_sets.specs.Flagging.{PutsFlag}
use Rattle.subs_sets.specs.Rules.{state_rules}
use Rattle.subs_sets.proofs.PutFlags.{went_on, flag_put}
use Rattle.subs_sets.proofs.flags.put_flag.Goals as goal

pub returns-in_err-known-clause-fault : goal.returns-in_err-known-clause-fault
returns-in_err-known-clause-fault g c =
    let set = c.args.set.now in
    let p = err_from_is_err_and c.from_residual-in_err-known.result c.from_residual-in_err-known.ensures.1 in
    rw (p.1, p.2) (read_fails_begun g.K.Keeper.kept c.args.sites.now c.begin.new.self set.target c.requires.placed.within c.requires.closed (PutsFlag set) c.in_ok-begin.ensures.ok c.read_only_state.new.sites state_rules c.in_err-known.field-0.0 c.in_err-known.ensures.closed c.in_err-known.ensures.fault)

pub returns-in_err-put-clause-fault : goal.returns-in_err-put-clause-fault
returns-in_err-put-clause-fault g c =
    let kept = g.K.Keeper.kept in
    let set = c.args.set.now in
    let s0 = c.args.sites.now in
    let s1 = c.begin.new.self in
    let begun = c.in_ok-begin.ensures.ok in
    let open_at = begun_open kept s0 s1 set.target c.requires.placed.within c.requires.closed begun in
    let p = err_from_is_err_and c.from_residual-in_err-put.result c.from_residual-in_err-put.ensures.1 in
    rw (p.1, p.2) (write_fails_begun kept s0 s1 set.target c.requires.placed.within c.requires.closed (PutsFlag set) begun c.read_only_state.new.sites state_rules (λ c d. Unit {0}) c.put.new.self (writes_of_one 1 set.target areas.SetState) c.in_err-put.field-0.0 (went_on kept s1 c.read_only_state.new.sites set open_at c.in_ok-known.ensures.ok) c.in_err-put.ensures.fault)

pub returns-in_err-commit-clause-fault : goal.returns-in_err-commit-clause-fault
returns-in_err-commit-clause-fault g c =
    let kept = g.K.Keeper.kept in
    let set = c.args.set.now in
    let s0 = c.args.sites.now in
    let s1 = c.begin.new.self in
    let begun = c.in_ok-begin.ensures.ok in
    let open_at = begun_open kept s0 s1 set.target c.requires.placed.within c.requires.closed begun in
    let goes = flag_put kept s1 c.read_only_state.new.sites set open_at c.in_ok-known.ensures.ok c.put.new.self c.in_ok-known.known c.requires.read_only c.in_ok-known.ensures.state c.in_ok-put.ensures.ok in
    let p = err_from_is_err_and c.from_residual-in_err-commit.result c.from_residual-in_err-commit.ensures.1 in
    rw (p.1, p.2) (commit_fails kept s0 s1 set.target c.requires.placed.within c.requires.closed (PutsFlag set) begun c.put.new.self goes c.commit.new.self state_rules c.in_err-commit.field-0.0 c.in_err-commit.ensures.fault)

pub returns-clause-ok : goal.returns-clause-ok
returns-clause-ok g c =
    let kept = g.K.Keeper.kept in
    let set = c.args.set.now in
    let s0 = c.args.sites.now in
    let s1 = c.begin.new.self in
    let begun = c.in_ok-begin.ensures.ok in
    let open_at = begun_open kept s0 s1 set.target c.requires.placed.within c.requires.closed begun in
    let goes = flag_put kept s1 c.read_only_state.new.sites set open_at c.in_ok-known.ensures.ok c.put.new.self c.in_ok-known.known c.requires.read_only c.in_ok-known.ensures.state c.in_ok-put.ensures.ok in
    commits_step kept s0 s1 set.target c.requires.placed.within c.requires.closed (PutsFlag set) begun c.put.new.self goes c.commit.new.self c.in_ok-commit.ensures.ok
