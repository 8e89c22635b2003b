use Rattle.std.proofs.Common.{◌≡◌, ◌∙◌, true, false, refl, sym, subst, arith}
use Rattle.world_store.specs.Words.{Stands}
use Rattle.site_store.specs.Words.{names, held}
use Rattle.repl_model.specs.Words.{Fault, World}
use Rattle.load_defs.specs.Loading.{HasNotLoaded}
use Rattle.run_commands.specs.load.LoadEvents.{has_carried_out_sets, raw_events}
use Rattle.run_commands.specs.parts.laws.Composing.{part_as, part_refused, part_written}
use Rattle.run_commands.proofs.LoadDamage.{load_cause}
use Rattle.run_commands.proofs.LoadEvents.{not_carried_out, load_written, load_begun, refused_load, refused_load_begun, stopped_load}
use Rattle.run_commands.proofs.load.loading.load_raw.Goals as goal

pub returns-then-not-has_carried_out_sets : goal.returns-then-not-has_carried_out_sets
returns-then-not-has_carried_out_sets g c =
    let raw = c.args.raw.now in
    let other : has_carried_out_sets raw ≡ false = sym c.has_carried_out_sets.ensures ∙ c.if-not-has_carried_out_sets.true in
    part_as (raw_events raw) (λ w stands. not_carried_out raw c.bad_text.result c.bad_text.ensures other w) (part_refused (λ refused. refused) c.requires.closed refl c.refuse.ensures)

pub returns-in-Ok : goal.returns-in-Ok
returns-in-Ok g c =
    let kept = g.K.Keeper.kept in
    let s0 = c.args.sites.now in
    let s1 = c.load.new.sites in
    let raw = c.args.raw.now in
    let t = g.O.Sink.taken c.args.output.now in
    let u = g.O.Sink.taken c.write_counts.new.output in
    let carried : has_carried_out_sets raw ≡ true = sym c.has_carried_out_sets.ensures ∙ c.if-not-has_carried_out_sets.false in
    part_written c.write_counts.ensures (raw_events raw) (λ refused. refused) c.load.ensures.servers
    (λ took. load_written kept s0 s1 raw carried t u c.in-Ok.loaded c.in-Ok.ensures.ok false (refl, took))
    (load_begun kept s0 s1 raw carried t u c.in-Ok.loaded c.in-Ok.ensures.ok)

pub returns-in-Err-Refused : goal.returns-in-Err-Refused
returns-in-Err-Refused g c =
    let kept = g.K.Keeper.kept in
    let s0 = c.args.sites.now in
    let s1 = c.load.new.sites in
    let raw = c.args.raw.now in
    let refusal = c.in-Err-Refused.refusal in
    let t = g.O.Sink.taken c.args.output.now in
    let u = g.O.Sink.taken c.refuse-in-Err-Refused.new.output in
    let carried : has_carried_out_sets raw ≡ true = sym c.has_carried_out_sets.ensures ∙ c.if-not-has_carried_out_sets.false in
    let has_not = subst (λ (e : Fault). (w : World) → Stands (names s0) (held kept s0) w → HasNotLoaded kept s0 s1 raw w e) c.in-Err-Refused.field-0-is c.in-Err-Refused.ensures.fault in
    part_written c.refuse-in-Err-Refused.ensures.line (raw_events raw) (λ refused. refused) c.load.ensures.servers
    (λ took. refused_load kept s0 s1 raw carried t u refusal has_not true (refl, took))
    (refused_load_begun kept s0 s1 raw carried t u refusal has_not)

pub returns-in-Err : goal.returns-in-Err
returns-in-Err g c =
    let kept = g.K.Keeper.kept in
    let s0 = c.args.sites.now in
    let s1 = c.load.new.sites in
    let raw = c.args.raw.now in
    let count = g.O.Sink.faults c.args.output.now in
    let carried : has_carried_out_sets raw ≡ true = sym c.has_carried_out_sets.ensures ∙ c.if-not-has_carried_out_sets.false in
    let keeps = c.load.ensures.servers in
    record {
      ok = tt;
      stopped = stopped_load kept s0 s1 raw carried (g.O.Sink.taken c.args.output.now) c.in-Err.fault c.error_of_fault.result c.error_of_fault.ensures c.in-Err.ensures.fault;
      servers = keeps;
      cause = load_cause kept s0 s1 c.requires.closed keeps count count c.in-Err.fault c.error_of_fault.result c.error_of_fault.ensures c.in-Err.ensures.blames;
      counts = omega arith;
    }
