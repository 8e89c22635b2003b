use Rattle.std.proofs.Common.{None, refl, Some}
use Rattle.std.proofs.lemmas.Result.{err_from_is_err_and}
use Rattle.world_store.specs.Words.{IsCopy, copy_spelling, IsKey, key_spelling}
use Rattle.site_store.specs.Words.{Contents, IsNextKey, IsLastKey, reads_of_one, writes_of_one, after_key, Sets, next_breaks, write_breaks_after, put_fails, goes_saw, goes_put, saw_then}
use Rattle.repl_types.specs.declared.area.Area.TheVariants as areas
use Rattle.apply_copies.specs.Clearing.{ClearsNext}
use Rattle.apply_copies.specs.Rules.{target_rules}
use Rattle.apply_copies.proofs.clearing.clear_next.Goals as goal

pub returns-in_err-row-clause-fault : goal.returns-in_err-row-clause-fault
returns-in_err-row-clause-fault g c =
    let p = err_from_is_err_and c.from_residual.result c.from_residual.ensures.1 in
    rw (p.1, p.2) (next_breaks (target_rules c.args.number) g.K.Keeper.kept IsKey key_spelling IsCopy copy_spelling c.args.sites.now c.next.new.self c.args.target areas.Target c.args.number (after_key key_spelling c.args.last) (reads_of_one 1 c.args.target areas.Target) c.in_err-row.field-0.0 (λ bytes h. h refl refl) (λ bytes h. h refl refl) (rw c.as_ref.ensures.value at c.in_err-row.ensures.fault))

pub returns-in_default-clause-ok : goal.returns-in_default-clause-ok
returns-in_default-clause-ok g c =
    let after = after_key key_spelling c.args.last in
    goes_saw g.K.Keeper.kept c.args.sites.now c.next.new.self c.args.target (λ d. IsLastKey (d areas.Target c.args.number) after) (ClearsNext c.args.number after None) c.requires.open (record { most = reads_of_one 1 c.args.target areas.Target; stays = c.in_ok-row.ensures.ok.stays }) (rw (c.in_default.is, c.as_ref.ensures.value) at c.in_ok-row.ensures.row) (λ d last. (refl, last))

pub returns-in_err-remove-clause-fault : goal.returns-in_err-remove-clause-fault
returns-in_err-remove-clause-fault g c =
    let p = err_from_is_err_and c.from_residual-in_err-remove.result c.from_residual-in_err-remove.ensures.1 in
    rw (p.1, p.2) (write_breaks_after (target_rules c.args.number) g.K.Keeper.kept c.args.sites.now c.next.new.self c.remove.new.self c.args.target c.in_err-remove.field-0.0 (record { most = reads_of_one 1 c.args.target areas.Target; stays = c.in_ok-row.ensures.ok.stays }) (put_fails g.K.Keeper.kept c.next.new.self c.remove.new.self c.args.target (writes_of_one 1 c.args.target areas.Target) c.in_err-remove.field-0.0 c.in_err-remove.ensures.fault))

pub returns-clause-ok : goal.returns-clause-ok
returns-clause-ok g c =
    let kept = g.K.Keeper.kept in
    let server = c.args.target in
    let number = c.args.number in
    let after = after_key key_spelling c.args.last in
    let key = key_spelling c.in-Some.key in
    let N = λ (d : Contents). IsNextKey (d areas.Target number) after key (copy_spelling c.in-Some._row) in
    saw_then kept c.args.sites.now c.next.new.self c.remove.new.self server N (Sets areas.Target number key None) (ClearsNext number after (Some c.in-Some.key)) c.requires.open (record { most = reads_of_one 1 server areas.Target; stays = c.in_ok-row.ensures.ok.stays }) (rw (c.in-Some.is, c.as_ref.ensures.value) at c.in_ok-row.ensures.row) (goes_put kept c.next.new.self c.remove.new.self server areas.Target number key None c.in_ok-remove.ensures.ok) (λ d e next sets. (sets, next.least))
