use Rattle.std.proofs.Common.{◌≡◌, ◌∙◌, ℕ, List, ap, refl, rules, subst, sym, None, slice_index_or, is_none}
use Rattle.world_store.specs.Words.{Stands}
use Rattle.site_store.specs.Words.{names, held}
use Rattle.repl_model.specs.Words.{AppendError, World}
use Rattle.repl_types.specs.declared.call_errors.AppendError.TheVariants as errors
use Rattle.repl_types.specs.declared.refusal.Refusal.TheVariants as refusals
use Rattle.source_log.specs.Appending.{HasNotAppended, BlamesOrStops}
use Rattle.source_log.specs.Rules.{ShowsDamage}
use Rattle.run_commands.specs.feed.FeedEvents.{batch_events}
use Rattle.run_commands.specs.parts.Parts.{WritesRefusal}
use Rattle.run_commands.specs.parts.Refusing.{refused}
use Rattle.run_commands.specs.parts.laws.Composing.{no_memory, no_value, err_value, part_err, part_refused}
use Rattle.run_commands.proofs.Batches.{server_refused, all_appended, last_is, record_refused, ends_run, append_failed}
use Rattle.run_commands.proofs.feed.batch.commit_batch.Goals as goal

pub append-requires : goal.append-requires
append-requires g c = record { server = c.in-Some.ensures.within; closed = c.requires.closed; records = rw c.as_slice.ensures c.requires.feed.users }

pub error_of_fault-requires : goal.error_of_fault-requires
error_of_fault-requires g c =
    let kept = g.K.Keeper.kept in
    let s0 = c.args.sites.now in
    let s1 = c.append.new.sites in
    let n = c.in-Some.server in
    ends_run kept g.O.Sink.taken g.O.Sink.faults s0 c.requires.closed c.args.feed.now n c.in-Some.ensures s1 c.append.ensures.servers c.args.output.now c.in-Err-Fault.fault
    (subst (λ (e : AppendError). BlamesOrStops kept s0 s1 (ShowsDamage kept s0 n) e) c.in-Err-Fault.field-0-is c.in-Err-Fault.ensures.blames)

-- ---- no server has the name

pub returns-in_err-clone : goal.returns-in_err-clone
returns-in_err-clone g c =
    let r = c.from_residual.result in
    let is = c.from_residual.ensures.1 in
    record { part = part_err r is (no_memory (batch_events c.args.feed.now) c.requires.closed); last = err_value _ _ r is }

pub returns-in_default : goal.returns-in_default
returns-in_default g c =
    let taken = g.O.Sink.taken in
    let faults = g.O.Sink.faults in
    let feed = c.args.feed.now in
    let o = c.args.output.now in
    let p = c.refuse_by.new.output in
    let r = c.refuse_by.result in
    let same : c.in_ok-clone.field-0 ≡ feed.server = search rules in
    let wrote = subst (λ (name : List ℕ). WritesRefusal taken faults o p (refusals.NoSuchServer name) None r) same c.refuse_by.ensures in
    record { part = server_refused g.K.Keeper.kept taken faults c.args.sites.now c.requires.closed feed c.in_default.ensures o p r wrote; last = no_value _ r wrote.line }

-- ---- all records were appended

pub returns-in-Ok : goal.returns-in-Ok
returns-in-Ok g c =
    let kept = g.K.Keeper.kept in
    let taken = g.O.Sink.taken in
    let faults = g.O.Sink.faults in
    let s0 = c.args.sites.now in
    let s1 = c.append.new.sites in
    let feed = c.args.feed.now in
    let n = c.in-Some.server in
    let o = c.args.output.now in
    let has = rw c.as_slice.ensures at c.in-Ok.ensures.ok in
    record {
      part = all_appended kept taken faults s0 c.requires.closed feed n c.in-Some.ensures s1 c.append.ensures.servers o c.in-Ok.last has;
      last = last_is kept taken faults s0 c.requires.closed feed n c.in-Some.ensures s1 c.append.ensures.servers o c.in-Ok.last has;
    }

-- ---- one wasn't

pub returns-in-Err-NotApplicable : goal.returns-in-Err-NotApplicable
returns-in-Err-NotApplicable g c =
    let kept = g.K.Keeper.kept in
    let s0 = c.args.sites.now in
    let s1 = c.append.new.sites in
    let n = c.in-Some.server in
    let feed = c.args.feed.now in
    let keeps = c.append.ensures.servers in
    let r = c.refuse_by-in-Err-NotApplicable.result in
    let wrote = c.refuse_by-in-Err-NotApplicable.ensures in
    let has = subst (λ (e : AppendError). (w : World) → Stands (names s0) (held kept s0) w → HasNotAppended kept s0 s1 n feed.records w e) c.in-Err-NotApplicable.field-0-is
    (rw c.as_slice.ensures at c.in-Err-NotApplicable.ensures.refused) in
    let place = c.in-Err-NotApplicable.place in
    let line = c.line_at-line.result in
    let says : refused (refusals.NotApplicable (slice_index_or feed.lines place 0)) ≡ refused (refusals.NotApplicable line) = ap (λ (l : ℕ). refused (refusals.NotApplicable l))
    (sym (c.line_at-line.ensures ∙ ap (λ (l : List ℕ). slice_index_or l place 0) c.as_slice-in-Err-NotApplicable.ensures)) in
    record {
      part = record_refused kept g.O.Sink.taken g.O.Sink.faults s0 c.requires.closed feed n c.in-Some.ensures s1 keeps c.args.output.now (errors.NotApplicable place) has (refusals.NotApplicable line) says (part_refused is_none keeps.closed refl wrote);
      last = no_value _ r wrote.line;
    }

pub returns-in_err-clone-in-Err-LogFull : goal.returns-in_err-clone-in-Err-LogFull
returns-in_err-clone-in-Err-LogFull g c =
    let kept = g.K.Keeper.kept in
    let s0 = c.args.sites.now in
    let s1 = c.append.new.sites in
    let n = c.in-Some.server in
    let feed = c.args.feed.now in
    let keeps = c.append.ensures.servers in
    let r = c.from_residual-in_err-clone-in-Err-LogFull.result in
    let is = c.from_residual-in_err-clone-in-Err-LogFull.ensures.1 in
    let refusal = refusals.LogFull feed.server in
    let has = subst (λ (e : AppendError). (w : World) → Stands (names s0) (held kept s0) w → HasNotAppended kept s0 s1 n feed.records w e) c.in-Err-LogFull.field-0-is
    (rw c.as_slice.ensures at c.in-Err-LogFull.ensures.refused) in
    record {
      part = record_refused kept g.O.Sink.taken g.O.Sink.faults s0 c.requires.closed feed n c.in-Some.ensures s1 keeps c.args.output.now (errors.LogFull c.in-Err-LogFull.field-0-0) has refusal refl
          (part_err r is (no_memory (λ w. refused refusal) keeps.closed));
      last = err_value _ _ r is;
    }

pub returns-in_ok-clone-in-Err-LogFull : goal.returns-in_ok-clone-in-Err-LogFull
returns-in_ok-clone-in-Err-LogFull g c =
    let kept = g.K.Keeper.kept in
    let taken = g.O.Sink.taken in
    let faults = g.O.Sink.faults in
    let s0 = c.args.sites.now in
    let s1 = c.append.new.sites in
    let n = c.in-Some.server in
    let feed = c.args.feed.now in
    let o = c.args.output.now in
    let p = c.refuse_by-in-Err-LogFull.new.output in
    let keeps = c.append.ensures.servers in
    let r = c.refuse_by-in-Err-LogFull.result in
    let has = subst (λ (e : AppendError). (w : World) → Stands (names s0) (held kept s0) w → HasNotAppended kept s0 s1 n feed.records w e) c.in-Err-LogFull.field-0-is
    (rw c.as_slice.ensures at c.in-Err-LogFull.ensures.refused) in
    let same : c.in_ok-clone-in-Err-LogFull.field-0 ≡ feed.server = search rules in
    let wrote = subst (λ (name : List ℕ). WritesRefusal taken faults o p (refusals.LogFull name) None r) same c.refuse_by-in-Err-LogFull.ensures in
    record {
      part = record_refused kept taken faults s0 c.requires.closed feed n c.in-Some.ensures s1 keeps o (errors.LogFull c.in-Err-LogFull.field-0-0) has (refusals.LogFull feed.server) refl (part_refused is_none keeps.closed refl wrote);
      last = no_value _ r wrote.line;
    }

pub returns-in-Err-Fault : goal.returns-in-Err-Fault
returns-in-Err-Fault g c =
    let kept = g.K.Keeper.kept in
    let s0 = c.args.sites.now in
    let s1 = c.append.new.sites in
    let n = c.in-Some.server in
    let feed = c.args.feed.now in
    let blames = subst (λ (e : AppendError). BlamesOrStops kept s0 s1 (ShowsDamage kept s0 n) e) c.in-Err-Fault.field-0-is c.in-Err-Fault.ensures.blames in
    let has = subst (λ (e : AppendError). (w : World) → Stands (names s0) (held kept s0) w → HasNotAppended kept s0 s1 n feed.records w e) c.in-Err-Fault.field-0-is
    (rw c.as_slice.ensures at c.in-Err-Fault.ensures.refused) in
    record {
      part = append_failed kept g.O.Sink.taken g.O.Sink.faults s0 c.requires.closed feed n c.in-Some.ensures s1 c.append.ensures.servers c.args.output.now c.in-Err-Fault.fault c.error_of_fault.result c.error_of_fault.ensures blames has;
      last = tt;
    }
