use Rattle.std.proofs.Common.{◌≡◌, true, sym, ◌∙◌}
use Rattle.std.proofs.lemmas.Result.{err_from_is_err_and}
use Rattle.site_store.specs.Words.{Damages, sees, no_memory, looks_none, if_seen, any_seen}
use Rattle.source_log.specs.Reading.{FindsRow, HasFreeKey}
use Rattle.source_log.specs.Rules.{rules}
use Rattle.source_log.proofs.Decides.{free_same, free_found, none_says}
use Rattle.source_log.proofs.source.key_is_free.Goals as goal

pub returns-in_err-new_key-clause-fault : goal.returns-in_err-new_key-clause-fault
returns-in_err-new_key-clause-fault g c =
    let p = err_from_is_err_and c.from_residual.result c.from_residual.ensures.1 in
    rw (p.1, p.2) (no_memory g.K.Keeper.kept c.args.sites.now (Damages (λ s. s ≡ c.args.server) rules g.K.Keeper.kept c.args.sites.now))

pub returns-then-same_values-clause-free : goal.returns-then-same_values-clause-free
returns-then-same_values-clause-free g c = if_seen (sees g.K.Keeper.kept c.args.sites.now c.args.server) (λ _. Unit {0}) (HasFreeKey c.args.table.now c.args.old_key.now c.args.after.now true) (λ d u. free_same c.args.table.now c.args.old_key.now c.args.after.now c.in_ok-new_key.new_key d c.in_ok-new_key.ensures (sym c.same_values.ensures ∙ c.if-same_values.true)) (any_seen (sees g.K.Keeper.kept c.args.sites.now c.args.server))

pub returns-clause-free : goal.returns-clause-free
returns-clause-free g c = if_seen (sees g.K.Keeper.kept c.args.sites.now c.args.server) (FindsRow c.args.table.now.number c.in_ok-new_key.new_key c.in_ok-other.other) (HasFreeKey c.args.table.now c.args.old_key.now c.args.after.now c.is_none.result) (λ d f. free_found c.args.table.now c.args.old_key.now c.args.after.now c.in_ok-new_key.new_key c.in_ok-other.other c.is_none.result d c.in_ok-new_key.ensures (sym c.same_values.ensures ∙ c.if-same_values.false) (none_says c.in_ok-other.other c.is_none.result c.is_none.ensures) f) c.in_ok-other.ensures.row

pub returns-then-same_values-clause-ok : goal.returns-then-same_values-clause-ok
returns-then-same_values-clause-ok g c = looks_none g.K.Keeper.kept c.args.sites.now
