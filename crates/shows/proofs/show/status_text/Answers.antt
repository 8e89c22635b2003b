use Rattle.std.proofs.Common.{◌+◌, ◌*◌, ◌++◌, ℕ, List, ap, ◌∙◌, arith, flat_map}
use Rattle.world_store.specs.Words.{definition_limit}
use Rattle.site_store.specs.Words.{stays_then}
use Rattle.repl_model.specs.Words.{server_in}
use Rattle.stored_defs.specs.laws.Standing.{stands_on}
use Rattle.shows.specs.servers.Status.{registration_text, set_text, last_line}
use Rattle.shows.specs.servers.Rules.{reads_at, status_reads}
use Rattle.shows.proofs.Contents.{status_parts}
use Rattle.shows.proofs.ReadingOne.{at_more, fails_on}
use Rattle.shows.proofs.Passed.{passed}
use Rattle.shows.proofs.show.status_text.Goals as goal

pub returns-in_err-add_sets-clause-fault : goal.returns-in_err-add_sets-clause-fault
returns-in_err-add_sets-clause-fault g c =
    let half = 2 * definition_limit in
    passed c.from_residual-in_err-add_sets.result _ _ c.from_residual-in_err-add_sets.ensures.1 (fails_on g.K.Keeper.kept c.args.sites.now c.add_registrations.new.sites c.add_sets.new.sites (reads_at half c.args.server) (reads_at half c.args.server) (reads_at status_reads c.args.server) c.in_err-add_sets.field-0.0 (at_more half half status_reads c.args.server (omega arith)) c.in_ok-add_registrations.ensures.ok c.in_err-add_sets.ensures.fault)

pub returns-in_err-add_last_line-clause-fault : goal.returns-in_err-add_last_line-clause-fault
returns-in_err-add_last_line-clause-fault g c =
    let kept = g.K.Keeper.kept in
    let half = 2 * definition_limit in
    let both = stays_then kept c.args.sites.now c.add_registrations.new.sites c.add_sets.new.sites (reads_at half c.args.server) (reads_at half c.args.server) (reads_at (half + half) c.args.server) c.in_ok-add_registrations.ensures.ok c.in_ok-add_sets.ensures.ok (at_more half half (half + half) c.args.server (omega arith)) in
    passed c.from_residual-in_err-add_last_line.result _ _ c.from_residual-in_err-add_last_line.ensures.1 (fails_on kept c.args.sites.now c.add_sets.new.sites c.add_last_line.new.sites (reads_at (half + half) c.args.server) (reads_at 2 c.args.server) (reads_at status_reads c.args.server) c.in_err-add_last_line.field-0.0 (at_more (half + half) 2 status_reads c.args.server (omega arith)) both c.in_err-add_last_line.ensures.fault)

pub returns-clause-text : goal.returns-clause-text
returns-clause-text g c = λ w is_world.
    let kept = g.K.Keeper.kept in
    let half = 2 * definition_limit in
    let server = server_in w c.args.server in
    let first = stands_on kept c.args.sites.now c.add_registrations.new.sites (reads_at half c.args.server) w c.in_ok-add_registrations.ensures.ok is_world in
    let second = stands_on kept c.add_registrations.new.sites c.add_sets.new.sites (reads_at half c.args.server) w c.in_ok-add_sets.ensures.ok first in
    c.in_ok-add_last_line.ensures.added w second
    ∙ ap (λ (l : List ℕ). l ++ last_line server) (c.in_ok-add_sets.ensures.added w first ∙ ap (λ (l : List ℕ). l ++ flat_map set_text server.source_sets) (c.in_ok-add_registrations.ensures.added w is_world ∙ ap (λ (l : List ℕ). l ++ flat_map registration_text server.tables) c.new-text.ensures.items))
    ∙ status_parts server
