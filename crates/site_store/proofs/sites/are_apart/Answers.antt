use Rattle.std.proofs.Common.{sym, ◌∙◌, take}
use Rattle.site_store.specs.Servers.{names_of, IsPlace, HasNone}
use Rattle.site_store.proofs.Names.{not_apart, apart_more, at_some, at_none}
use Rattle.site_store.proofs.sites.are_apart.Goals as goal

pub returns-then-is_some : goal.returns-then-is_some
returns-then-is_some g c =
    let xs = c.args.list.now in
    let n = c.loop-place.place in
    let site = c.index-list-place.result in
    let earlier = names_of (take n xs) in
    let place = at_some (HasNone earlier site.name) (IsPlace earlier site.name) c.place_of.result (sym c.is_some.ensures ∙ c.if-is_some.true) c.place_of.ensures in
    (λ no. absurd cc, λ apart. absurd (not_apart xs n place.0 site c.loop-place-test.true c.index-list-place.is place.1 apart))

pub loop-place-preserved : goal.loop-place-preserved
loop-place-preserved g c =
    let xs = c.args.list.now in
    let n = c.loop-place.place in
    let site = c.index-list-place.result in
    let earlier = names_of (take n xs) in
    apart_more xs n site c.loop-place-test.true c.index-list-place.is (at_none (HasNone earlier site.name) (IsPlace earlier site.name) c.place_of.result (sym c.is_some.ensures ∙ c.if-is_some.false) c.place_of.ensures) c.loop-place.invariant
