use Rattle.std.proofs.Common.{◌≡◌, ◌<◌, ◌++◌, ◌∷◌, ℕ, List, [], Some, length, map, refl, sym, ap, subst, ◌∙◌, arith}
use Rattle.std.proofs.lemmas.Iterator.Adapters.{YieldsList-from_vec}
use Rattle.std.proofs.lemmas.Iterator.Consumers.{YieldsList-turn, YieldsList-end}
use Rattle.std.proofs.lemmas.Result.{err_from_is_err_and}
use Rattle.world_store.specs.Words.{IsStorable, HasChangeRowSpelling, change_row_spelling, change_key_spelling, ChangeRow, CdKey}
use Rattle.site_store.specs.Words.{writes_of_one, Sets, put_fails, write_fails_on, goes_none, goes_as, goes_put, goes_then, goes_open}
use Rattle.repl_model.specs.Words.{CdRow}
use Rattle.repl_types.specs.declared.area.Area.TheVariants as areas
use Rattle.stored_defs.specs.laws.Standing.{all_at_place}
use Rattle.stored_commits.specs.units.StoredChanges.{with_change_rows}
use Rattle.cd_tables.specs.Appending.{CanBeStored, Becomes}
use Rattle.cd_tables.proofs.PutRows.{rows_next}
use Rattle.cd_tables.proofs.Shown.{becomes_itself}
use Rattle.cd_tables.proofs.changes.put_change_rows.Goals as goal

-- a list is given as it is
map_itself : {X : Type 0} (xs : List X) → map (λ x. x) xs ≡ xs
map_itself [] = refl
map_itself {X} (x ∷ xs) = ap (λ (l : List X). x ∷ l) (map_itself xs)

pub loop-row-init : goal.loop-row-init
loop-row-init g c = record {
  reads = λ s. omega arith;
  goes = goes_none g.K.Keeper.kept c.args.sites.now c.args.server (Becomes (with_change_rows c.args.number [])) c.requires.open (λ d. becomes_itself d);
}

pub put-requires-clause-server : goal.put-requires-clause-server
put-requires-clause-server g c = subst (λ (l : List (List ℕ)). c.args.server < length l) (sym c.loop-row.invariant.goes.works.passes.names) c.requires.server

pub put-requires-clause-open : goal.put-requires-clause-open
put-requires-clause-open g c = goes_open g.K.Keeper.kept c.args.sites.now c.loop-row.sites c.args.server (Becomes (with_change_rows c.args.number c.loop-row.yielded)) c.requires.open c.loop-row.invariant.goes

pub put-requires-clause-value : goal.put-requires-clause-value
put-requires-clause-value g c =
    let t = YieldsList-turn (YieldsList-from_vec c.args.rows (c.into_iter-row-iterator.ensures.into_iter_gives.0 ∙ c.into_vec-row-items.ensures) (c.into_iter-row-iterator.ensures.into_iter_gives.1 ∙ c.into_vec-row-items.result.ok.0 ∙ ap length c.into_vec-row-items.ensures)) c.loop-row.yielded c.loop-row.row-iterator c.loop-row.yielded_by c.next.result c.next.new.self c.in-Some.row c.in-Some.is c.next.ensures.steps in
    let can : CanBeStored c.in-Some.row = subst CanBeStored (sym t.1) (all_at_place CanBeStored c.args.rows (length c.loop-row.yielded) c.in-Some.row c.requires.storable t.0) in
    subst (λ (s : CdKey × ChangeRow). IsStorable HasChangeRowSpelling change_row_spelling s.1) (sym c.stored_change-stored.ensures.stored) can.1

pub returns-in_err-put-clause-fault : goal.returns-in_err-put-clause-fault
returns-in_err-put-clause-fault g c =
    let p = err_from_is_err_and c.from_residual.result c.from_residual.ensures.1 in
    rw (p.1, p.2) (write_fails_on g.K.Keeper.kept c.args.sites.now c.loop-row.sites c.put.new.self c.args.server (Becomes (with_change_rows c.args.number c.loop-row.yielded)) c.in_err-put.field-0.0 c.loop-row.invariant.goes (put_fails g.K.Keeper.kept c.loop-row.sites c.put.new.self c.args.server (writes_of_one 1 c.args.server areas.Cd) c.in_err-put.field-0.0 c.in_err-put.ensures.fault))

pub loop-row-preserved : goal.loop-row-preserved
loop-row-preserved g c =
    let kept = g.K.Keeper.kept in
    let server = c.args.server in
    let number = c.args.number in
    let rows = c.loop-row.yielded in
    let row = c.in-Some.row in
    let stored = c.stored_change-stored.result in
    let key = change_key_spelling stored.0 in
    let value = change_row_spelling stored.1 in
    let t = YieldsList-turn (YieldsList-from_vec c.args.rows (c.into_iter-row-iterator.ensures.into_iter_gives.0 ∙ c.into_vec-row-items.ensures) (c.into_iter-row-iterator.ensures.into_iter_gives.1 ∙ c.into_vec-row-items.result.ok.0 ∙ ap length c.into_vec-row-items.ensures)) rows c.loop-row.row-iterator c.loop-row.yielded_by c.next.result c.next.new.self row c.in-Some.is c.next.ensures.steps in
    let can : CanBeStored row = subst CanBeStored (sym t.1) (all_at_place CanBeStored c.args.rows (length rows) row c.requires.storable t.0) in
    record {
      reads = λ s. omega (arith, c.loop-row.invariant.reads s, c.in_ok-put.ensures.ok.passes.within.reads s areas.Log);
      goes = goes_then kept c.args.sites.now c.loop-row.sites c.put.new.self server (Becomes (with_change_rows number rows)) (Sets areas.Cd number key (Some value)) (Becomes (with_change_rows number (rows ++ row ∷ []))) c.requires.open c.loop-row.invariant.goes (goes_put kept c.loop-row.sites c.put.new.self server areas.Cd number key (Some value) c.in_ok-put.ensures.ok) (λ d e f before sets. rows_next number rows row stored d e f c.stored_change-stored.ensures.stored c.stored_change-stored.ensures.key can before sets);
    }

pub returns-clause-ok : goal.returns-clause-ok
returns-clause-ok g c =
    let all = YieldsList-end (YieldsList-from_vec c.args.rows (c.into_iter-row-iterator.ensures.into_iter_gives.0 ∙ c.into_vec-row-items.ensures) (c.into_iter-row-iterator.ensures.into_iter_gives.1 ∙ c.into_vec-row-items.result.ok.0 ∙ ap length c.into_vec-row-items.ensures)) c.loop-row.yielded c.loop-row.row-iterator c.loop-row.yielded_by c.next.result c.next.new.self c.in-None.is c.next.ensures.steps in
    let whole : c.loop-row.yielded ≡ c.args.rows = sym (map_itself c.loop-row.yielded) ∙ all.0 in
    goes_as g.K.Keeper.kept c.args.sites.now c.loop-row.sites c.args.server (Becomes (with_change_rows c.args.number c.loop-row.yielded)) (Becomes (with_change_rows c.args.number c.args.rows)) c.requires.open c.loop-row.invariant.goes (λ d e now. subst (λ (l : List CdRow). Becomes (with_change_rows c.args.number l) d e) whole now)
