use Rattle.std.proofs.Common.{◌≡◌, ℕ, List, false, sym, ◌∙◌}
use Rattle.std.proofs.lemmas.Result.{err_from_is_err_and}
use Rattle.site_store.specs.Words.{Damages, sees, breaks_after, no_memory, looks_then, sees_back, if_seen, if_both_seen}
use Rattle.repl_types.specs.declared.record.Change.TheVariants.{Update}
use Rattle.source_log.specs.Making.{Tells}
use Rattle.source_log.specs.Reading.{FindsRow, HasFreeKey}
use Rattle.source_log.specs.Rules.{rules}
use Rattle.source_log.proofs.Decides.{update_tells, update_tells_none}
use Rattle.source_log.proofs.source.update_applies.Goals as goal

pub returns-in_err-old_key-clause-fault : goal.returns-in_err-old_key-clause-fault
returns-in_err-old_key-clause-fault g c =
    let p = err_from_is_err_and c.from_residual.result c.from_residual.ensures.1 in
    rw (p.1, p.2) (no_memory g.K.Keeper.kept c.args.sites.now (Damages (λ s. s ≡ c.args.server) rules g.K.Keeper.kept c.args.sites.now))

pub returns-in_err-free-clause-fault : goal.returns-in_err-free-clause-fault
returns-in_err-free-clause-fault g c =
    let p = err_from_is_err_and c.from_residual-in_err-free.result c.from_residual-in_err-free.ensures.1 in
    rw (p.1, p.2) (breaks_after rules g.K.Keeper.kept c.args.sites.now c.find_row.new.sites c.key_is_free.new.sites c.args.server c.in_err-free.field-0.0 c.in_ok-found.ensures.ok c.in_err-free.ensures.fault)

pub returns-then-not-is_row-clause-tells : goal.returns-then-not-is_row-clause-tells
returns-then-not-is_row-clause-tells g c = if_seen (sees g.K.Keeper.kept c.args.sites.now c.args.server) (FindsRow c.args.table.now.number c.in_ok-old_key.old_key c.in_ok-found.found) (λ d. (name : List ℕ) → Tells c.args.table.now (Update name c.args.before.now c.args.after.now) false d) (λ d f. update_tells_none c.args.table.now c.args.before.now c.args.after.now c.in_ok-old_key.old_key c.in_ok-found.found d c.requires.values c.requires.after c.in_ok-old_key.ensures f (sym c.is_row.ensures ∙ c.if-not-is_row.true)) c.in_ok-found.ensures.row

pub returns-clause-ok : goal.returns-clause-ok
returns-clause-ok g c = looks_then g.K.Keeper.kept c.args.sites.now c.find_row.new.sites c.key_is_free.new.sites c.in_ok-found.ensures.ok c.in_ok-free.ensures.ok

pub returns-clause-tells : goal.returns-clause-tells
returns-clause-tells g c = if_both_seen (sees g.K.Keeper.kept c.args.sites.now c.args.server) (FindsRow c.args.table.now.number c.in_ok-old_key.old_key c.in_ok-found.found) (HasFreeKey c.args.table.now c.in_ok-old_key.old_key c.args.after.now c.in_ok-free.free) (λ d. (name : List ℕ) → Tells c.args.table.now (Update name c.args.before.now c.args.after.now) c.in_ok-free.free d) (λ d f free. update_tells c.args.table.now c.args.before.now c.args.after.now c.in_ok-old_key.old_key c.in_ok-found.found d c.requires.values c.requires.after c.in_ok-old_key.ensures f c.in_ok-free.free (sym c.is_row.ensures ∙ c.if-not-is_row.false) free) c.in_ok-found.ensures.row (sees_back g.K.Keeper.kept c.args.sites.now c.find_row.new.sites c.args.server (HasFreeKey c.args.table.now c.in_ok-old_key.old_key c.args.after.now c.in_ok-free.free) c.in_ok-found.ensures.ok c.in_ok-free.ensures.free)
