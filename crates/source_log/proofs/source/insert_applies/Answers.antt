use Rattle.std.proofs.Common.{◌≡◌, List, ℕ}
use Rattle.std.proofs.lemmas.Result.{err_from_is_err_and}
use Rattle.site_store.specs.Words.{Damages, sees, no_memory, if_seen}
use Rattle.repl_types.specs.declared.record.Change.TheVariants.{Insert}
use Rattle.source_log.specs.Making.{Tells}
use Rattle.source_log.specs.Reading.{FindsRow}
use Rattle.source_log.specs.Rules.{rules}
use Rattle.source_log.proofs.Decides.{insert_tells, none_says}
use Rattle.source_log.proofs.source.insert_applies.Goals as goal

pub returns-in_err-key-clause-fault : goal.returns-in_err-key-clause-fault
returns-in_err-key-clause-fault g c =
    let p = err_from_is_err_and c.from_residual.result c.from_residual.ensures.1 in
    rw (p.1, p.2) (no_memory g.K.Keeper.kept c.args.sites.now (Damages (λ s. s ≡ c.args.server) rules g.K.Keeper.kept c.args.sites.now))

pub returns-clause-tells : goal.returns-clause-tells
returns-clause-tells g c = if_seen (sees g.K.Keeper.kept c.args.sites.now c.args.server) (FindsRow c.args.table.now.number c.in_ok-key.key c.in_ok-found.found) (λ d. (name : List ℕ) → Tells c.args.table.now (Insert name c.args.row.now) c.is_none.result d) (λ d f. insert_tells c.args.table.now c.args.row.now c.in_ok-key.key c.in_ok-found.found c.is_none.result d c.requires.values c.in_ok-key.ensures (none_says c.in_ok-found.found c.is_none.result c.is_none.ensures) f) c.in_ok-found.ensures.row
