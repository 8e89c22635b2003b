use Rattle.std.proofs.Common.{◌≡◌, ◌∙◌, List, [], refl, sym, subst, Option, append-nil}
use Rattle.std.proofs.lemmas.Result.{err_from_is_err_and, on_ok_weaker, IfErr-weaker}
use Rattle.world_store.specs.Words.{Stands}
use Rattle.site_store.specs.Words.{Contents, Damages, names, sees, keeps_then, looks_none}
use Rattle.set_places.specs.laws.Staying.{placed_before}
use Rattle.subs_sets.specs.Rules.{source_rules}
use Rattle.target_steps.specs.laws.AtServers.{captured_undamaged}
use Rattle.apply_cycle.specs.Cycling.{ForCycle, HasBrokenAfter, IsCaused, TellsNoRest, IsSource, Adds}
use Rattle.apply_cycle.proofs.StepCases.{stands_on}
use Rattle.apply_cycle.proofs.CycleSteps.{looked_keeps, may_make, broken_unchanged, caused_blames, caused_by, caused_later, shown_read, tells_read, tells_of, rested_looked, broken_looked}
use Rattle.apply_cycle.proofs.cycles.cycle.Goals as goal

pub make_steps-requires : goal.make_steps-requires
make_steps-requires g c =
    let kept = g.K.Keeper.kept in
    let s0 = c.args.sites.now in
    let s1 = c.find_read_only.new.sites in
    let s2 = c.most_steps.new.sites in
    let first = c.in_ok-set.ensures.ok in
    let then = c.in_ok-most.ensures.ok in
    record {
      most = may_make kept s0 s1 first c.args.id.now c.in_ok-set.set c.in_ok-set.ensures.read_only c.in_ok-set.ensures.known s2 then c.in_ok-most.most c.in_ok-most.ensures.most;
      closed = (looked_keeps kept s1 s2 then c.in_ok-set.ensures.servers.closed).closed;
    }

-- no set was found
pub returns-in_err-set-clause-fault : goal.returns-in_err-set-clause-fault
returns-in_err-set-clause-fault g c =
    let p = err_from_is_err_and c.from_residual.result c.from_residual.ensures.1 in
    rw (p.1, p.2) ([], sym (append-nil c.args.done.now), λ w stands each. (w, refl, c.in_err-set.ensures.fault w stands))

-- how many steps may be made wasn't found
pub returns-in_err-most-clause-fault : goal.returns-in_err-most-clause-fault
returns-in_err-most-clause-fault g c =
    let kept = g.K.Keeper.kept in
    let s0 = c.args.sites.now in
    let s1 = c.find_read_only.new.sites in
    let s2 = c.most_steps.new.sites in
    let set = c.in_ok-set.set in
    let looks = c.in_ok-set.ensures.ok in
    let e = c.in_err-most.field-0.0 in
    let f = c.in_err-most.ensures.fault in
    let p = err_from_is_err_and c.from_residual-in_err-most.result c.from_residual-in_err-most.ensures.1 in
    rw (p.1, p.2) (
      [],
      sym (append-nil c.args.done.now),
      λ w stands each.
          let k = c.in_ok-set.ensures.known w stands in (
            w,
            refl,
            broken_unchanged kept s0 s2 c.args.id.now w e (subst (λ (h : List (Option Contents)). Stands (names s0) h w) (sym (f.held ∙ looks.stays.held)) stands)
                (captured_undamaged kept set s1 s1 c.in_ok-set.ensures.servers.closed w k.0 (stands_on kept s0 s1 looks w stands) k.2 (looks_none kept s1) s2 e f),
          ),
    )

pub returns-in_err-most-clause-cause : goal.returns-in_err-most-clause-cause
returns-in_err-most-clause-cause g c =
    let kept = g.K.Keeper.kept in
    let s0 = c.args.sites.now in
    let s1 = c.find_read_only.new.sites in
    let s2 = c.most_steps.new.sites in
    let source = c.in_ok-set.set.source in
    let done = c.args.done.now in
    let e = c.in_err-most.field-0.0 in
    let tells = TellsNoRest (IsSource kept s0) done done in
    let p = err_from_is_err_and c.from_residual-in_err-most.result c.from_residual-in_err-most.ensures.1 in
    rw (p.1, p.2) (caused_later kept s0 s1 s2 tells e c.in_ok-set.ensures.servers
    (caused_blames kept s1 s2 (Damages (λ s. s ≡ source) source_rules kept s1) tells (λ s a cause shown. tells_read done done s a (IsSource kept s0) cause (shown_read source_rules a cause (sees kept s1 s) shown.1)) e c.in_err-most.ensures.fault.blames))

-- the steps were made, or one failed
pub returns-clause-ok : goal.returns-clause-ok
returns-clause-ok g c =
    let kept = g.K.Keeper.kept in
    let takes = g.T.Targets.takes in
    let s0 = c.args.sites.now in
    let s1 = c.find_read_only.new.sites in
    let s2 = c.most_steps.new.sites in
    let s3 = c.make_steps.new.sites in
    let id = c.args.id.now in
    on_ok_weaker c.make_steps.result (λ added. (added.0, added.1, rested_looked kept takes s0 s1 c.in_ok-set.ensures.ok s3 id added.0 (rested_looked kept takes s1 s2 c.in_ok-most.ensures.ok s3 id added.0 added.2))) c.make_steps.ensures.ok

pub returns-clause-fault : goal.returns-clause-fault
returns-clause-fault g c =
    let kept = g.K.Keeper.kept in
    let takes = g.T.Targets.takes in
    let s0 = c.args.sites.now in
    let s1 = c.find_read_only.new.sites in
    let s2 = c.most_steps.new.sites in
    let s3 = c.make_steps.new.sites in
    let id = c.args.id.now in
    let before = c.args.done.now in
    let now = c.make_steps.new.done in
    IfErr-weaker c.make_steps.result (λ e. Adds before now (λ answers. ForCycle kept takes s2 id (HasBrokenAfter kept s2 s3 id answers e))) (λ e. Adds before now (λ answers. ForCycle kept takes s0 id (HasBrokenAfter kept s0 s3 id answers e)))
    (λ e added. (added.0, added.1, broken_looked kept takes s0 s1 c.in_ok-set.ensures.ok s3 id added.0 e (broken_looked kept takes s1 s2 c.in_ok-most.ensures.ok s3 id added.0 e added.2))) c.make_steps.ensures.fault

pub returns-clause-cause : goal.returns-clause-cause
returns-clause-cause g c =
    let kept = g.K.Keeper.kept in
    let s0 = c.args.sites.now in
    let s1 = c.find_read_only.new.sites in
    let s2 = c.most_steps.new.sites in
    let s3 = c.make_steps.new.sites in
    let set = c.in_ok-set.set in
    let before = c.args.done.now in
    let now = c.make_steps.new.done in
    let here = TellsNoRest (λ s. s ≡ set.source) before now in
    let tells = TellsNoRest (IsSource kept s0) before now in
    let placed = placed_before kept s0 s1 c.in_ok-set.ensures.ok set c.in_ok-set.ensures.placed in
    let keeps = keeps_then kept s0 s1 s2 c.in_ok-set.ensures.servers (looked_keeps kept s1 s2 c.in_ok-most.ensures.ok c.in_ok-set.ensures.servers.closed) in
    IfErr-weaker c.make_steps.result (IsCaused kept s2 s3 here) (IsCaused kept s0 s3 tells)
    (λ e caused. caused_later kept s0 s2 s3 tells e keeps (caused_by kept s2 s3 here tells (λ s a cause told. tells_of before now s a (λ q. q ≡ set.source) (IsSource kept s0) (λ is. (set, placed, is)) cause told) e caused)) c.make_steps.ensures.cause

pub returns-clause-servers : goal.returns-clause-servers
returns-clause-servers g c =
    let kept = g.K.Keeper.kept in
    let s0 = c.args.sites.now in
    let s1 = c.find_read_only.new.sites in
    let s2 = c.most_steps.new.sites in
    let s3 = c.make_steps.new.sites in
    keeps_then kept s0 s1 s3 c.in_ok-set.ensures.servers (keeps_then kept s1 s2 s3 (looked_keeps kept s1 s2 c.in_ok-most.ensures.ok c.in_ok-set.ensures.servers.closed) c.make_steps.ensures.servers)
