use Rattle.std.proofs.Common.{◌≡◌, List, set, sym, ap, subst, ◌∙◌, inl, inr, Option}
use Rattle.std.proofs.lemmas.Result.{err_from_is_err_and}
use Rattle.site_store.specs.Words.{Contents, no_access, names, held, work, sees, keeps_passed, passes_keeps, closed_again}
use Rattle.load_plan.specs.Additions.{additions_at}
use Rattle.load_laws.specs.worlds.Loads.{load_first}
use Rattle.load_laws.specs.planned.PlannedLoads.{adds_nothing}
use Rattle.load_defs.specs.Putting.{MayBePutAll, added_rows, with_added, added_written}
use Rattle.load_defs.proofs.Faults.{blames_after}
use Rattle.load_defs.proofs.OneServer.{added_may, stands_idle, stands_committed}
use Rattle.load_defs.proofs.Standing.{stands_held}
use Rattle.load_defs.proofs.servers.load_server.Goals as goal

pub returns-then-adds_nothing-clause-ok : goal.returns-then-adds_nothing-clause-ok
returns-then-adds_nothing-clause-ok g c = λ raw w may is stands. stands_idle raw w c.args.defs.now may c.args.server c.args.stored.now is g.K.Keeper.kept c.args.sites.now c.requires.server stands (ap adds_nothing (sym c.in_ok-added.ensures) ∙ sym c.adds_nothing.ensures ∙ c.if-adds_nothing.true)

pub put_added-requires-clause-rows : goal.put_added-requires-clause-rows
put_added-requires-clause-rows g c = subst MayBePutAll (sym (c.in_ok-rows.ensures ∙ ap added_rows c.in_ok-added.ensures)) (added_may (additions_at c.args.defs.now c.args.stored.now) c.requires.loads.rows)

pub returns-in_err-commit-clause-fault : goal.returns-in_err-commit-clause-fault
returns-in_err-commit-clause-fault g c =
    let kept = g.K.Keeper.kept in
    let s0 = c.args.sites.now in
    let p = err_from_is_err_and c.from_residual-in_err-commit.result c.from_residual-in_err-commit.ensures.1 in
    rw (p.1, p.2) (λ raw w may is stands. elim c.in_err-commit.ensures.fault.held [
      | inl before ↦ inl (stands_held (names s0) (held kept s0) (held kept c.commit.new.self) (load_first c.args.defs.now c.args.server w) (before ∙ c.in_ok-put_added.ensures.ok.held ∙ c.in_ok-begin.ensures.ok.held) stands)
      | inr took ↦ inr (took.0, stands_committed raw w c.args.defs.now may c.args.server c.args.stored.now is kept s0 c.requires.server stands c.in_ok-rows.rows (c.in_ok-rows.ensures ∙ ap added_rows c.in_ok-added.ensures) c.begin.new.self c.put_added.new.sites _ c.in_ok-begin.ensures.ok c.in_ok-put_added.ensures.ok (held kept c.commit.new.self) took.1)
    ])

pub returns-in_err-commit-clause-blames : goal.returns-in_err-commit-clause-blames
returns-in_err-commit-clause-blames g c =
    let kept = g.K.Keeper.kept in
    let e = c.in_err-commit.field-0.0 in
    let p = err_from_is_err_and c.from_residual-in_err-commit.result c.from_residual-in_err-commit.ensures.1 in
    rw (p.1, p.2) (blames_after kept c.args.sites.now c.begin.new.self c.commit.new.self (λ s a cause. ⊥) (λ s a cause. ⊥) e (λ s a cause h. h) c.in_ok-begin.ensures.ok.passes.faults (blames_after kept c.begin.new.self c.put_added.new.sites c.commit.new.self (λ s a cause. ⊥) (λ s a cause. ⊥) e (λ s a cause h. h) c.in_ok-put_added.ensures.ok.passes.faults c.in_err-commit.ensures.fault.blames))

pub returns-clause-ok : goal.returns-clause-ok
returns-clause-ok g c = λ raw w may is stands.
    stands_committed raw w c.args.defs.now may c.args.server c.args.stored.now is g.K.Keeper.kept c.args.sites.now c.requires.server stands c.in_ok-rows.rows (c.in_ok-rows.ensures ∙ ap added_rows c.in_ok-added.ensures) c.begin.new.self c.put_added.new.sites _ c.in_ok-begin.ensures.ok c.in_ok-put_added.ensures.ok (held g.K.Keeper.kept c.commit.new.self) c.in_ok-commit.ensures.ok.held

pub returns-in_err-commit-clause-held : goal.returns-in_err-commit-clause-held
returns-in_err-commit-clause-held g c =
    let kept = g.K.Keeper.kept in
    let s2 = c.put_added.new.sites in
    let n = c.args.server in
    let same = c.in_ok-put_added.ensures.ok.held ∙ c.in_ok-begin.ensures.ok.held in
    let p = err_from_is_err_and c.from_residual-in_err-commit.result c.from_residual-in_err-commit.ensures.1 in
    rw (p.1, p.2) (elim c.in_err-commit.ensures.fault.held [
      | inl before ↦ inl (before ∙ same)
      | inr took ↦ inr (n, sees kept s2 n, took.0, took.1 ∙ ap (λ (l : List (Option Contents)). set l n (sees kept s2 n)) same)
    ])

pub returns-clause-servers : goal.returns-clause-servers
returns-clause-servers g c =
    let kept = g.K.Keeper.kept in
    let s1 = c.begin.new.self in
    let s2 = c.put_added.new.sites in
    passes_keeps kept c.args.sites.now s1 c.commit.new.self no_access c.in_ok-begin.ensures.ok.passes
    (passes_keeps kept s1 s2 c.commit.new.self (added_written c.args.server c.in_ok-rows.rows) c.in_ok-put_added.ensures.ok.passes
    (keeps_passed kept s2 c.commit.new.self no_access c.in_ok-commit.ensures.ok.passes
    (closed_again kept c.args.sites.now s1 s2 c.args.server (λ d e. e ≡ with_added c.in_ok-rows.rows d) c.in_ok-begin.ensures.ok c.in_ok-put_added.ensures.ok.works (work kept c.commit.new.self) c.requires.closed c.in_ok-commit.ensures.ok.work)))

pub returns-in_err-put_added-clause-servers : goal.returns-in_err-put_added-clause-servers
returns-in_err-put_added-clause-servers g c =
    let kept = g.K.Keeper.kept in
    let s1 = c.begin.new.self in
    let s2 = c.put_added.new.sites in
    let closes = c.in_err-put_added.ensures.fault.closes in
    passes_keeps kept c.args.sites.now s1 s2 no_access c.in_ok-begin.ensures.ok.passes (keeps_passed kept s1 s2 (added_written c.args.server c.in_ok-rows.rows) closes.passes closes.closed)

pub returns-in_err-commit-clause-servers : goal.returns-in_err-commit-clause-servers
returns-in_err-commit-clause-servers g c =
    let kept = g.K.Keeper.kept in
    let s1 = c.begin.new.self in
    let s2 = c.put_added.new.sites in
    let s3 = c.commit.new.self in
    let doubt = c.in_err-commit.ensures.fault in
    passes_keeps kept c.args.sites.now s1 s3 no_access c.in_ok-begin.ensures.ok.passes (passes_keeps kept s1 s2 s3 (added_written c.args.server c.in_ok-rows.rows) c.in_ok-put_added.ensures.ok.passes (keeps_passed kept s2 s3 no_access doubt.passes doubt.closed))
