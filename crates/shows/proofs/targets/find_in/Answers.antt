use Rattle.std.proofs.Common.{◌<◌, List, ℕ, length, subst}
use Rattle.site_store.specs.Words.{looks_none}
use Rattle.shows.proofs.FoundTargets.{named_if_found, none_if_elsewhere, none_if_unknown, placed_if_found}
use Rattle.shows.proofs.targets.find_in.Goals as goal

pub returns-then-is_none-clause-ok : goal.returns-then-is_none-clause-ok
returns-then-is_none-clause-ok g c = looks_none g.K.Keeper.kept c.args.sites.now

pub returns-in_default-clause-found : goal.returns-in_default-clause-found
returns-in_default-clause-found g c = λ w stands. none_if_unknown g.K.Keeper.kept c.args.sites.now c.requires.closed w stands c.args.server c.requires.server c.args.def.now c.args.name.now ((rw c.in_default.is at c.in_ok-set.ensures.known) w stands)

pub returns-then-set-server-clause-found : goal.returns-then-set-server-clause-found
returns-then-set-server-clause-found g c = λ w stands.
    let set = c.in-Some.set in
    let within = subst (λ (l : List (List ℕ)). set.target < length l) c.in_ok-set.ensures.ok.stays.passes.names (rw c.in-Some.is at c.in_ok-set.ensures.placed).target.within in
    none_if_elsewhere g.K.Keeper.kept c.args.sites.now c.requires.closed w stands c.args.server c.requires.server c.args.def.now c.args.name.now set ((rw c.in-Some.is at c.in_ok-set.ensures.known) w stands) within c.if-set-server.true

pub returns-clause-placed : goal.returns-clause-placed
returns-clause-placed g c = placed_if_found g.K.Keeper.kept c.args.name.now c.in-Some.set c.find_set.new.sites c.args.server c.target_of.result c.target_of.ensures (rw c.in-Some.is at c.in_ok-set.ensures.placed) c.if-set-server.false

pub returns-clause-found : goal.returns-clause-found
returns-clause-found g c = named_if_found g.K.Keeper.kept c.args.name.now c.in-Some.set c.args.sites.now c.requires.closed c.args.server c.requires.server c.args.def.now c.target_of.result c.target_of.ensures c.if-set-server.false (rw c.in-Some.is at c.in_ok-set.ensures.known)
