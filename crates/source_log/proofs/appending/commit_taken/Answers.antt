use Rattle.std.proofs.Common.{Some, ◌∙◌, inl, inr}
use Rattle.std.proofs.lemmas.Result.{err_from_is_err_and}
use Rattle.world_store.specs.Words.{single_spelling, head_spelling}
use Rattle.site_store.specs.Words.{no_access, writes_of_one, both, at_most_itself, passes_then, put_fails, blames_after, goes_put}
use Rattle.repl_types.specs.declared.area.Area.TheVariants as areas
use Rattle.source_log.proofs.appending.commit_taken.Goals as goal

pub returns-in_err-put-clause-fault : goal.returns-in_err-put-clause-fault
returns-in_err-put-clause-fault g c =
    let p = err_from_is_err_and c.from_residual.result c.from_residual.ensures.1 in
    let f = put_fails g.K.Keeper.kept c.args.sites.now c.put.new.self c.args.server (writes_of_one 1 c.args.server areas.Head) c.in_err-put.field-0.0 c.in_err-put.ensures.fault in
    rw (p.1, p.2) (record { most = f.most; passes = f.passes; held = inl f.held; closed = c.in_err-put.ensures.fault.closes.closed; blames = f.blames })

pub returns-in_err-commit-clause-fault : goal.returns-in_err-commit-clause-fault
returns-in_err-commit-clause-fault g c =
    let kept = g.K.Keeper.kept in
    let s0 = c.args.sites.now in
    let s1 = c.put.new.self in
    let s2 = c.commit.new.self in
    let key = single_spelling (record {}) in
    let row = head_spelling c.args.progress.now.end in
    let doubt = c.in_err-commit.ensures.fault in
    let goes = goes_put kept s0 s1 c.args.server areas.Head 0 key (Some row) c.in_ok-put.ensures.ok in
    let p = err_from_is_err_and c.from_residual-in_err-commit.result c.from_residual-in_err-commit.ensures.1 in
    rw (p.1, p.2) (record {
      most = both goes.most no_access;
      passes = passes_then kept s0 s1 s2 goes.most no_access (both goes.most no_access) goes.works.passes doubt.passes (at_most_itself (both goes.most no_access));
      held = elim doubt.held [
        | inl same ↦ inl (same ∙ goes.works.held)
        | inr took ↦ inr (took.0, record { before = s1; puts = goes; held = took.1 })
      ];
      closed = doubt.closed;
      blames = blames_after kept s0 s1 s2 goes.most (λ s a cause. ⊥) c.in_err-commit.field-0.0 goes.works.passes doubt.blames;
    })

pub returns-clause-some : goal.returns-clause-some
returns-clause-some g c = λ some. record {
  before = c.put.new.self;
  puts = goes_put g.K.Keeper.kept c.args.sites.now c.put.new.self c.args.server areas.Head 0 (single_spelling (record {})) (Some (head_spelling c.args.progress.now.end)) c.in_ok-put.ensures.ok;
  commits = c.in_ok-commit.ensures.ok;
}
