use Rattle.std.proofs.Common.{◌≡◌, ◌<◌, ◌+◌, ◌*◌, ◌++◌, ℕ, List, length, take, take_all, append-nil, append_assoc, sym, ap, subst, ◌∙◌, arith, Option, IfSome, flat_map}
use Rattle.world_store.specs.Words.{set_spelling, IsSet, definition_limit}
use Rattle.site_store.specs.Words.{Contents, names, sees, reads_of_one, stays_then, stays_closed, stays_sees, stays_within}
use Rattle.repl_model.specs.Words.{source_set_spelling, IsSourceSet, SourceSet, SourceSide, server_in}
use Rattle.repl_types.specs.declared.area.Area.TheVariants as areas
use Rattle.stored_defs.specs.Reading.{AllStand}
use Rattle.stored_defs.specs.laws.Blaming.{fails_by_table}
use Rattle.stored_defs.specs.laws.Standing.{stands_on}
use Rattle.shows.specs.servers.Status.{set_text, text_at}
use Rattle.shows.specs.servers.Rules.{rules, reads_at}
use Rattle.shows.proofs.Contents.{sets_read, sets_few}
use Rattle.shows.proofs.Numbered.{text_more}
use Rattle.shows.proofs.ReadingOne.{at_more, at_within, fails_on, one_at}
use Rattle.shows.proofs.Passed.{passed}
use Rattle.shows.proofs.sets.add_sets.Goals as goal

pub returns-in_err-rows-clause-fault : goal.returns-in_err-rows-clause-fault
returns-in_err-rows-clause-fault g c =
    let s0 = c.args.sites.now in
    passed c.from_residual.result _ _ c.from_residual.ensures.1 (fails_by_table IsSet set_spelling IsSourceSet source_set_spelling areas.Defs 2 rules (λ bytes h. h) (λ bytes h. h) g.K.Keeper.kept (λ s. s < length (names s0)) s0 c.read_records.new.sites c.args.server (reads_of_one definition_limit c.args.server areas.Defs) (reads_at (2 * definition_limit) c.args.server) c.in_err-rows.field-0.0 c.requires.server (one_at definition_limit (2 * definition_limit) c.args.server areas.Defs (omega arith)) c.in_err-rows.ensures.fault)

pub loop-number-init : goal.loop-number-init
loop-number-init g c = record {
  stays = stays_within g.K.Keeper.kept c.args.sites.now c.read_records.new.sites (reads_of_one definition_limit c.args.server areas.Defs) (reads_at (definition_limit + 0) c.args.server) c.in_ok-rows.ensures.ok (one_at definition_limit (definition_limit + 0) c.args.server areas.Defs (omega arith));
  text = λ w is_world. sym (append-nil c.args.text.now.items);
}

pub add_set-requires-clause-server : goal.add_set-requires-clause-server
add_set-requires-clause-server g c = subst (λ (l : List (List ℕ)). c.args.server < length l) (sym c.loop-number.invariant.stays.passes.names) c.requires.server

pub add_set-requires-clause-closed : goal.add_set-requires-clause-closed
add_set-requires-clause-closed g c = stays_closed g.K.Keeper.kept c.args.sites.now c.loop-number.sites (reads_at (definition_limit + c.loop-number.number) c.args.server) c.requires.closed c.loop-number.invariant.stays

pub add_set-requires-clause-stand : goal.add_set-requires-clause-stand
add_set-requires-clause-stand g c =
    let kept = g.K.Keeper.kept in
    let rows : c.in_ok-rows.rows ≡ c.as_slice.result.now = sym c.as_slice.ensures in
    subst (λ (l : List SourceSet). IfSome (sees kept c.loop-number.sites c.args.server) (AllStand source_set_spelling areas.Defs 2 l)) rows
    (subst (λ (o : Option Contents). IfSome o (AllStand source_set_spelling areas.Defs 2 c.in_ok-rows.rows)) (sym (stays_sees kept c.args.sites.now c.loop-number.sites (reads_at (definition_limit + c.loop-number.number) c.args.server) c.loop-number.invariant.stays c.args.server)) c.in_ok-rows.ensures.stand)

pub returns-in_err-add_set-clause-fault : goal.returns-in_err-add_set-clause-fault
returns-in_err-add_set-clause-fault g c = passed c.from_residual-in_err-add_set.result _ _ c.from_residual-in_err-add_set.ensures.1 (fails_on g.K.Keeper.kept c.args.sites.now c.loop-number.sites c.add_set.new.sites (reads_at (definition_limit + c.loop-number.number) c.args.server) (reads_at 1 c.args.server) (reads_at (2 * definition_limit) c.args.server) c.in_err-add_set.field-0.0 (at_more (definition_limit + c.loop-number.number) 1 (2 * definition_limit) c.args.server (omega (arith, c.loop-number-test.true))) c.loop-number.invariant.stays c.in_err-add_set.ensures.fault)

pub loop-number-preserved : goal.loop-number-preserved
loop-number-preserved g c =
    let kept = g.K.Keeper.kept in
    let s0 = c.args.sites.now in
    let n = c.loop-number.number in
    let so_far = reads_at (definition_limit + n) c.args.server in
    record {
      stays = stays_then kept s0 c.loop-number.sites c.add_set.new.sites so_far (reads_at 1 c.args.server) (reads_at (definition_limit + (n + 1)) c.args.server) c.loop-number.invariant.stays c.in_ok-add_set.ensures.ok (at_more (definition_limit + n) 1 (definition_limit + (n + 1)) c.args.server (omega arith));
      text = λ w is_world.
          let things : List SourceSide = (server_in w c.args.server).source_sets in
          c.in_ok-add_set.ensures.added w (stands_on kept s0 c.loop-number.sites so_far w c.loop-number.invariant.stays is_world) (c.as_slice.ensures ∙ sets_read kept s0 c.requires.closed w is_world c.args.server c.requires.server c.in_ok-rows.rows c.in_ok-rows.ensures.records)
          ∙ ap (λ (l : List ℕ). l ++ text_at set_text things n) (c.loop-number.invariant.text w is_world)
          ∙ append_assoc c.args.text.now.items (flat_map set_text (take n things)) (text_at set_text things n)
          ∙ ap (λ (l : List ℕ). c.args.text.now.items ++ l) (sym (text_more set_text things n));
    }

pub returns-clause-ok : goal.returns-clause-ok
returns-clause-ok g c = stays_within g.K.Keeper.kept c.args.sites.now c.loop-number.sites (reads_at (definition_limit + c.loop-number.number) c.args.server) (reads_at (2 * definition_limit) c.args.server) c.loop-number.invariant.stays (at_within (definition_limit + c.loop-number.number) (2 * definition_limit) c.args.server (omega (arith, c.loop-number.auto.number-end)))

pub returns-clause-added : goal.returns-clause-added
returns-clause-added g c = λ w is_world.
    let things : List SourceSide = (server_in w c.args.server).source_sets in
    c.loop-number.invariant.text w is_world
    ∙ ap (λ (l : List SourceSide). c.args.text.now.items ++ flat_map set_text l) (take_all c.loop-number.number things (omega (arith, c.loop-number-test.false, sets_few g.K.Keeper.kept c.args.sites.now c.requires.closed w is_world c.args.server c.requires.server)))
