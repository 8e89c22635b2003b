use Rattle.std.proofs.Common.{Some, ◌∙◌, inl, inr}
use Rattle.std.proofs.lemmas.Result.{err_from_is_err_and}
use Rattle.world_store.specs.Words.{single_spelling, capture_spelling}
use Rattle.site_store.specs.Words.{no_access, both, at_most_itself, passes_then, blames_after, goes_put}
use Rattle.repl_types.specs.declared.area.Area.TheVariants as areas
use Rattle.capture_core.proofs.committing.commit_units.Goals as goal

pub returns-in_err-commit-clause-fault : goal.returns-in_err-commit-clause-fault
returns-in_err-commit-clause-fault g c =
    let kept = g.K.Keeper.kept in
    let s0 = c.args.sites.now in
    let s1 = c.put.new.self in
    let s2 = c.commit.new.self in
    let doubt = c.in_err-commit.ensures.fault in
    let goes = goes_put kept s0 s1 c.args.server areas.Capture 0 (single_spelling (record {})) (Some (capture_spelling c.args.state.now)) c.in_ok-put.ensures.ok in
    let p = err_from_is_err_and c.from_residual-in_err-commit.result c.from_residual-in_err-commit.ensures.1 in
    rw (p.1, p.2) (record {
      most = both goes.most no_access;
      passes = passes_then kept s0 s1 s2 goes.most no_access (both goes.most no_access) goes.works.passes doubt.passes (at_most_itself (both goes.most no_access));
      held = elim doubt.held [
        | inl same ↦ inl (same ∙ goes.works.held)
        | inr took ↦ inr (took.0, record { before = s1; puts = goes; held = took.1 })
      ];
      blames = blames_after kept s0 s1 s2 goes.most (λ s a cause. ⊥) c.in_err-commit.field-0.0 goes.works.passes doubt.blames;
    })

pub returns-clause-ok : goal.returns-clause-ok
returns-clause-ok g c = record {
  before = c.put.new.self;
  puts = goes_put g.K.Keeper.kept c.args.sites.now c.put.new.self c.args.server areas.Capture 0 (single_spelling (record {})) (Some (capture_spelling c.args.state.now)) c.in_ok-put.ensures.ok;
  commits = c.in_ok-commit.ensures.ok;
}
