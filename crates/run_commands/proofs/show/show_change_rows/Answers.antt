use Rattle.std.proofs.Common.{◌∙◌, true, refl, rules, sym, subst}
use Rattle.world_store.specs.Words.{Stands}
use Rattle.site_store.specs.Words.{names, held}
use Rattle.repl_model.specs.Words.{World}
use Rattle.repl_types.specs.declared.refusal.Refusal.TheVariants as refusals
use Rattle.shows.specs.tables.Replies.{registered_named, change_lines}
use Rattle.shows.specs.tables.Rules.{change_reads}
use Rattle.run_commands.specs.show.ShowEvents.{registered_events, changes_events}
use Rattle.run_commands.specs.parts.Parts.{WritesRefusal}
use Rattle.run_commands.specs.parts.laws.Composing.{part_as, part_refused, part_written}
use Rattle.run_commands.proofs.ShowEvents.{at_none, table_written, table_begun, table_refused, refusal_started, fails_holds, show_cause}
use Rattle.run_commands.proofs.show.show_change_rows.Goals as goal

pub returns-in_default : goal.returns-in_default
returns-in_default g c =
    let name = c.args.name in
    part_as (changes_events name c.args.table) (at_none g.K.Keeper.kept c.args.sites.now c.requires name (registered_events name c.args.table) c.in_default.ensures) (part_refused (λ refused. refused) c.requires refl c.refuse.ensures)

pub returns-then-registered : goal.returns-then-registered
returns-then-registered g c =
    let kept = g.K.Keeper.kept in
    let s0 = c.args.sites.now in
    let found = λ (w : World) (stands : Stands (names s0) (held kept s0) w). sym c.if-registered.true ∙ c.in-Ok.ensures.found w stands in
    record {
      ok = table_written kept s0 c.requires c.args.name c.in-Some.server c.in-Some.ensures c.show_changes.new.sites c.in-Ok.ensures.stays.held (g.O.Sink.taken c.args.output.now) (g.O.Sink.taken c.show_changes.new.output) c.args.table (registered_named c.args.table) change_lines found c.in-Ok.ensures.ok;
      stopped = tt;
      servers = search rules;
      cause = tt;
      counts = search rules;
    }

pub returns : goal.returns
returns g c =
    let kept = g.K.Keeper.kept in
    let s0 = c.args.sites.now in
    let s1 = c.show_changes.new.sites in
    let name = c.args.name in
    let table = c.args.table in
    let n = c.in-Some.server in
    let held_same = c.in-Ok.ensures.stays.held in
    let t = g.O.Sink.taken c.args.output.now in
    let u = g.O.Sink.taken c.refuse-2.new.output in
    let none = λ (w : World) (stands : Stands (names s0) (held kept s0) w). sym c.if-registered.false ∙ c.in-Ok.ensures.found w stands in
    let same = c.in-Ok.ensures.unwritten c.if-registered.false in
    let wrote = subst (λ o. WritesRefusal g.O.Sink.taken g.O.Sink.faults o c.refuse-2.new.output (refusals.NoSuchTable name table) true c.refuse-2.result) same c.refuse-2.ensures in
    part_written wrote.line (changes_events name table) (λ refused. refused) (search rules)
    (λ took. table_refused kept s0 c.requires name n c.in-Some.ensures s1 held_same t u table (registered_named table) change_lines none true (refl, took))
    (refusal_started kept s0 c.requires name n c.in-Some.ensures s1 held_same t u table (registered_named table) change_lines none)

pub returns-in-Err : goal.returns-in-Err
returns-in-Err g c =
    let kept = g.K.Keeper.kept in
    let s0 = c.args.sites.now in
    let s1 = c.show_changes.new.sites in
    let name = c.args.name in
    let n = c.in-Some.server in
    let before = g.O.Sink.faults c.args.output.now in
    let now = g.O.Sink.faults c.show_changes.new.output in
    let error = c.in-Err.error in
    let fails = c.in-Err.ensures.fault in
    record {
      ok = tt;
      stopped = table_begun kept s0 c.requires name n c.in-Some.ensures s1 (fails_holds kept s0 c.requires name s1 (change_reads n) before now error fails) (g.O.Sink.taken c.args.output.now) (g.O.Sink.taken c.show_changes.new.output) c.args.table (registered_named c.args.table) change_lines c.in-Err.ensures.err;
      servers = search rules;
      cause = show_cause kept s0 c.requires name s1 (change_reads n) before now error c.error_of_reply.result c.error_of_reply.ensures fails c.in-Err.ensures.undamaged;
      counts = search rules;
    }
