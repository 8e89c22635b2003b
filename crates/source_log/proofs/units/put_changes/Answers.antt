use Rattle.std.proofs.Common.{◌≡◌, ◌+◌, ℕ, List, ◌∷◌, [], ◌++◌, take, length, refl, sym, ap, subst, ◌∙◌, arith}
use Rattle.std.proofs.lemmas.List.{take_more, length-take-le}
use Rattle.std.proofs.lemmas.Result.{err_from_is_err_and}
use Rattle.site_store.specs.Words.{breaks_on, goes_none, goes_then}
use Rattle.repl_model.specs.Words.{Placed, In}
use Rattle.repl_types.specs.declared.area.Area.TheVariants as areas
use Rattle.stored_defs.specs.laws.Standing.{in_at, all_at_place}
use Rattle.source_log.specs.Units.{own_change, MayBePut, PutsOwn, PutsChanges, table_rules}
use Rattle.source_log.proofs.OwnChanges.{puts_none, puts_more}
use Rattle.source_log.proofs.UnitTables.{tables_shown, bad_of_some}
use Rattle.source_log.proofs.units.put_changes.Goals as goal

pub changes-init : goal.changes-init
changes-init g c = goes_none g.K.Keeper.kept c.args.sites.now c.args.server (PutsChanges c.args.last []) c.requires.open (puts_none c.args.last)

pub returns-in_err-put_own-clause-fault : goal.returns-in_err-put_own-clause-fault
returns-in_err-put_own-clause-fault g c =
    let kept = g.K.Keeper.kept in
    let s0 = c.args.sites.now in
    let s1 = c.changes.sites in
    let s2 = c.put_own.new.sites in
    let server = c.args.server in
    let changes = c.args.changes.now in
    let n = c.changes.done in
    let placed = c.index-changes-done.result in
    let e = c.in_err-put_own.field-0.0 in
    let there : In placed changes = subst (λ (q : Placed). In q changes) (sym c.index-changes-done.is) (in_at changes n placed c.changes-test.true) in
    let p = err_from_is_err_and c.from_residual.result c.from_residual.ensures.1 in
    rw (p.1, p.2) (breaks_on (table_rules changes) kept s0 s1 s2 server (PutsChanges c.args.last (take n changes)) e c.requires.open (λ d f puts. tables_shown changes d f (puts.others areas.Defs 0 refl)) c.changes.invariant (bad_of_some kept s1 s2 server changes placed there e c.in_err-put_own.ensures.fault))

pub changes-preserved : goal.changes-preserved
changes-preserved g c =
    let kept = g.K.Keeper.kept in
    let last = c.args.last in
    let changes = c.args.changes.now in
    let n = c.changes.done in
    let lt = c.changes-test.true in
    let placed = c.index-changes-done.result in
    let is = c.index-changes-done.is in
    let count : length (take n changes) ≡ n = length-take-le n changes (omega (arith, lt)) in
    let more : take n changes ++ placed ∷ [] ≡ take (n + 1) changes = ap (λ (q : Placed). take n changes ++ q ∷ []) is ∙ sym (take_more changes n placed lt) in
    let may : MayBePut (own_change placed) = subst (λ (q : Placed). MayBePut (own_change q)) (sym is) (all_at_place (λ (q : Placed). MayBePut (own_change q)) changes n placed c.requires.records lt) in
    goes_then kept c.args.sites.now c.changes.sites c.put_own.new.sites c.args.server (PutsChanges last (take n changes)) (PutsOwn (last + n + 1) placed) (PutsChanges last (take (n + 1) changes)) c.requires.open c.changes.invariant c.in_ok-put_own.ensures.ok
    (λ d e f puts own. subst (λ (l : List Placed). PutsChanges last l d f) more
    (puts_more last (take n changes) placed may (omega (arith, count, lt, c.requires.room)) d e f puts (subst (λ (m : ℕ). PutsOwn (last + m + 1) placed e f) (sym count) own)))
