use Rattle.std.specs.Prelude.{None}
use Rattle.world_store.specs.Words.{key_spelling}
use Rattle.site_store.specs.Words.{Sets, goes_as, goes_put}
use Rattle.repl_types.specs.declared.area.Area.TheVariants as areas
use Rattle.apply_copies.specs.Changing.{source_as, TakesRow}
use Rattle.apply_copies.specs.Copying.{LoadsRow}
use Rattle.apply_copies.proofs.TakenRows.{takes_insert, takes_delete}
use Rattle.apply_copies.proofs.changing.take_row.Goals as goal

pub returns-in_ok-load_row-in-I-clause-ok : goal.returns-in_ok-load_row-in-I-clause-ok
returns-in_ok-load_row-in-I-clause-ok g c =
    let number = c.args.number in
    let member = c.args.member.now in
    let change = c.args.change.now in
    let source = source_as c.args.source.now in
    let put = c.in_ok-load_row-in-I.field-0 in
    goes_as g.K.Keeper.kept c.args.sites.now c.load_row.new.sites c.args.target (LoadsRow number member c.args.key.now c.args.row.now put) (TakesRow number source member change) c.requires.open c.in_ok-load_row-in-I.ensures.ok (λ d e loads. takes_insert number source member change c.args.key.now c.args.row.now put d e c.in-I.is c.requires.own c.requires.image loads)

pub returns-in_ok-remove-in-D-clause-ok : goal.returns-in_ok-remove-in-D-clause-ok
returns-in_ok-remove-in-D-clause-ok g c =
    let kept = g.K.Keeper.kept in
    let s0 = c.args.sites.now in
    let s1 = c.remove.new.self in
    let target = c.args.target in
    let number = c.args.number in
    let member = c.args.member.now in
    let change = c.args.change.now in
    let source = source_as c.args.source.now in
    let key = c.args.key.now in
    let S = Sets areas.Target number (key_spelling key) None in
    goes_as kept s0 s1 target S (TakesRow number source member change) c.requires.open (goes_put kept s0 s1 target areas.Target number (key_spelling key) None c.in_ok-remove-in-D.ensures.ok) (λ d e removed. takes_delete number source member change key d e c.in-D.is c.requires.own removed)
