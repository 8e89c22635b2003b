use Rattle.std.proofs.Common.{inl, inr, refl, None}
use Rattle.world_store.specs.Words.{key_spelling}
use Rattle.site_store.specs.Words.{Sets, goes_as, goes_none, goes_put}
use Rattle.repl_types.specs.declared.area.Area.TheVariants as areas
use Rattle.apply_copies.specs.Changing.{RemovesBefore}
use Rattle.apply_copies.proofs.changing.remove_before.Goals as goal

pub returns-then-replaces-clause-ok : goal.returns-then-replaces-clause-ok
returns-then-replaces-clause-ok g c =
    let yes = c.if-replaces.true in
    goes_none g.K.Keeper.kept c.args.sites.now c.args.target (RemovesBefore c.args.number c.args.member.now c.args.before.now c.args.key.now c.args.row.now) c.requires.open (λ d. inr (refl, c.replaces.ensures.same yes, c.replaces.ensures.selected yes))

pub returns-clause-ok : goal.returns-clause-ok
returns-clause-ok g c =
    let kept = g.K.Keeper.kept in
    let s0 = c.args.sites.now in
    let s1 = c.remove.new.self in
    let target = c.args.target in
    let number = c.args.number in
    let key = key_spelling c.args.before.now in
    goes_as kept s0 s1 target (Sets areas.Target number key None) (RemovesBefore number c.args.member.now c.args.before.now c.args.key.now c.args.row.now) c.requires.open (goes_put kept s0 s1 target areas.Target number key None c.in_ok-remove.ensures.ok) (λ d e removed. inl removed)
