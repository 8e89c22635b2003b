use Rattle.std.proofs.Common.{◌≡◌, ◌∙◌, ℕ, inl, inr, ap, Option, Some, None}
use Rattle.std.proofs.lemmas.Result.{err_from_is_err_and}
use Rattle.world_store.specs.Words.{Head, head_of}
use Rattle.site_store.specs.Words.{looks_then}
use Rattle.repl_model.specs.Words.{after_action, source_tables, signal_records, signals}
use Rattle.repl_types.specs.declared.unit.Unit.{Unit as LogUnit}
use Rattle.source_log.specs.Units.{unit_records}
use Rattle.full_refresh.specs.Signals.{HasSignalled}
use Rattle.full_refresh.proofs.PutSignals.{PutsSome}
use Rattle.full_refresh.proofs.SignalSteps.{mark_blames, end_blames, unit_blames, answered_after, seen_as, place_is, mark_undamaged, records_made}
use Rattle.target_steps.specs.laws.AtServers.{unchanged, stepped_after, revealed, revealed_after}
use Rattle.full_refresh.proofs.Signalled.{whole, may_have_signalled, has_answered, signal_fits}
use Rattle.full_refresh.proofs.signals.signal_step.Goals as goal

pub returns-in_err-known-clause-fault : goal.returns-in_err-known-clause-fault
returns-in_err-known-clause-fault g c =
    let kept = g.K.Keeper.kept in
    let s0 = c.args.sites.now in
    let s1 = c.read_mark.new.sites in
    let set = c.args.set.now in
    let e = c.in_err-known.field-0.0 in
    let f = c.in_err-known.ensures.fault in
    let p = err_from_is_err_and c.from_residual.result c.from_residual.ensures.1 in
    rw (p.1, p.2) (λ w k stands placed read_only. unchanged kept set s0 s1 w (after_action w k signals) e f.held stands (mark_undamaged kept set s0 s1 c.requires.closed w k stands placed e f))

pub returns-in_err-known-clause-blames : goal.returns-in_err-known-clause-blames
returns-in_err-known-clause-blames g c =
    let p = err_from_is_err_and c.from_residual.result c.from_residual.ensures.1 in
    rw (p.1, p.2) (mark_blames g.K.Keeper.kept c.args.set.now c.args.sites.now c.read_mark.new.sites c.in_err-known.field-0.0 c.in_err-known.ensures.fault)

pub returns-in_err-head-clause-fault : goal.returns-in_err-head-clause-fault
returns-in_err-head-clause-fault g c =
    let kept = g.K.Keeper.kept in
    let s0 = c.args.sites.now in
    let s1 = c.read_mark.new.sites in
    let s2 = c.last_commit.new.sites in
    let set = c.args.set.now in
    let e = c.in_err-head.field-0.0 in
    let looks = c.in_ok-known.ensures.ok in
    let f = c.in_err-head.ensures.fault in
    let p = err_from_is_err_and c.from_residual-in_err-head.result c.from_residual-in_err-head.ensures.1 in
    rw (p.1, p.2) (λ w k stands placed read_only. unchanged kept set s0 s2 w (after_action w k signals) e (f.held ∙ looks.stays.held) stands (c.in_err-head.ensures.undamaged w (seen_as kept set s0 s1 c.requires.closed w k stands placed looks)))

pub returns-in_err-head-clause-blames : goal.returns-in_err-head-clause-blames
returns-in_err-head-clause-blames g c =
    let p = err_from_is_err_and c.from_residual-in_err-head.result c.from_residual-in_err-head.ensures.1 in
    rw (p.1, p.2) (end_blames g.K.Keeper.kept c.args.set.now c.args.sites.now c.read_mark.new.sites c.in_ok-known.ensures.ok c.last_commit.new.sites c.in_err-head.field-0.0 c.in_err-head.ensures.fault)

pub returns-in_err-seq-clause-fault : goal.returns-in_err-seq-clause-fault
returns-in_err-seq-clause-fault g c =
    let kept = g.K.Keeper.kept in
    let s0 = c.args.sites.now in
    let s1 = c.read_mark.new.sites in
    let s2 = c.last_commit.new.sites in
    let s3 = c.put_signal.new.sites in
    let set = c.args.set.now in
    let known = c.in_ok-known.known in
    let unit = c.in_ok-unit.unit in
    let head = c.in_ok-head.head in
    let first = c.in_ok-known.ensures.ok in
    let looks = looks_then kept s0 s1 s2 first c.in_ok-head.ensures.ok in
    let may = c.in_err-seq.ensures.fault in
    let p = err_from_is_err_and c.from_residual-in_err-seq.result c.from_residual-in_err-seq.ensures.1 in
    rw (p.1, p.2) (λ w k stands placed read_only.
    let marked : known ≡ record { mark = k.at_source.mark; signal = k.at_source.signal } = c.in_ok-known.ensures.mark w k stands.sound placed (revealed kept set s0 s1 c.requires.closed w k stands placed) in
    let end : head ≡ head_of k.source = c.in_ok-head.ensures.world w (seen_as kept set s0 s1 c.requires.closed w k stands placed first) ∙ ap head_of (place_is kept set s0 s1 c.requires.closed w k stands placed) in
    let records : unit_records unit ≡ signal_records k.at_source.def k.source.log = records_made kept set w k unit head.time placed c.in_ok-unit.ensures.unit (ap (λ (h : Head). h.time) end) in
    let r = revealed_after kept set s0 s2 c.requires.closed w k stands placed looks in
    record {
      stands = may_have_signalled w k set stands.sound placed read_only unit records known marked kept s0 s3 stands c.in_err-seq.field-0.0 (elim may.stepped [
        | inl same ↦ inl (same ∙ looks.stays.held)
        | inr stepped ↦ inr (stepped.0, stepped_after kept set s0 s2 s3 set.source (PutsSome set.at_source.number known unit) looks.stays.held stepped.1)
      ]);
      undamaged = c.in_err-seq.ensures.undamaged k.source r.0 r.1 (whole w k set stands.sound placed read_only unit records known marked r.0 r.2)
          (signal_fits k.source unit (source_tables set.at_source.def) (ap (λ (u : LogUnit). u.changes) c.in_ok-unit.ensures.unit));
    })

pub returns-in_err-seq-clause-blames : goal.returns-in_err-seq-clause-blames
returns-in_err-seq-clause-blames g c =
    let kept = g.K.Keeper.kept in
    let s0 = c.args.sites.now in
    let s2 = c.last_commit.new.sites in
    let looks = looks_then kept s0 c.read_mark.new.sites s2 c.in_ok-known.ensures.ok c.in_ok-head.ensures.ok in
    let p = err_from_is_err_and c.from_residual-in_err-seq.result c.from_residual-in_err-seq.ensures.1 in
    rw (p.1, p.2) (unit_blames kept c.args.set.now s0 s2 looks c.put_signal.new.sites c.in_ok-unit.unit c.in_err-seq.field-0.0 (ap (λ (u : LogUnit). u.changes) c.in_ok-unit.ensures.unit) c.in_err-seq.ensures.fault.blames)

pub returns-clause-ok : goal.returns-clause-ok
returns-clause-ok g c = λ w k stands placed read_only.
    let kept = g.K.Keeper.kept in
    let s0 = c.args.sites.now in
    let s1 = c.read_mark.new.sites in
    let s2 = c.last_commit.new.sites in
    let s3 = c.put_signal.new.sites in
    let set = c.args.set.now in
    let known = c.in_ok-known.known in
    let unit = c.in_ok-unit.unit in
    let head = c.in_ok-head.head in
    let first = c.in_ok-known.ensures.ok in
    let looks = looks_then kept s0 s1 s2 first c.in_ok-head.ensures.ok in
    let marked : known ≡ record { mark = k.at_source.mark; signal = k.at_source.signal } = c.in_ok-known.ensures.mark w k stands.sound placed (revealed kept set s0 s1 c.requires.closed w k stands placed) in
    let end : head ≡ head_of k.source = c.in_ok-head.ensures.world w (seen_as kept set s0 s1 c.requires.closed w k stands placed first) ∙ ap head_of (place_is kept set s0 s1 c.requires.closed w k stands placed) in
    let records : unit_records unit ≡ signal_records k.at_source.def k.source.log = records_made kept set w k unit head.time placed c.in_ok-unit.ensures.unit (ap (λ (h : Head). h.time) end) in
    let r = revealed_after kept set s0 s2 c.requires.closed w k stands placed looks in
    answered_after kept set s0 s2 s3 known unit r.0 c.in_ok-seq.seq looks.stays.held r.1 c.in_ok-seq.ensures.ok (λ (answer : Option ℕ). HasSignalled kept s0 s3 w k answer)
    (λ full. has_answered w k set stands.sound placed read_only unit records known marked kept s0 s3 stands r.0 r.2 None full)
    (λ seq put. has_answered w k set stands.sound placed read_only unit records known marked kept s0 s3 stands r.0 r.2 (Some seq) put)
