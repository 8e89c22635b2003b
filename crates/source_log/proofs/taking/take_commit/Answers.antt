use Rattle.std.proofs.Common.{◌≡◌, ◌+◌, ◌<◌, ℕ, List, Some, refl, sym, ap, subst, ◌∙◌, arith, IfSome, ltb-true}
use Rattle.std.proofs.lemmas.Result.{err_from_is_err_and}
use Rattle.world_store.specs.Words.{log_spelling, b64, log_storable}
use Rattle.site_store.specs.Words.{Contents, put_at, sees, GoesOn, breaks_after, write_breaks_after, write_fails_on, looks_then, sees_back, goes_none, goes_then, saw_then, if_both_seen}
use Rattle.repl_model.specs.Words.{log_limit}
use Rattle.repl_types.specs.declared.area.Area.TheVariants as areas
use Rattle.source_log.specs.Making.{MakesAll, AreSteps}
use Rattle.source_log.specs.Reading.{ArePositions, with_dropped}
use Rattle.source_log.specs.Rules.{rules, IsKnown}
use Rattle.source_log.specs.Storing.{TakesKnowing}
use Rattle.source_log.specs.declared.outcome.Outcome.{Outcome}
use Rattle.source_log.specs.declared.outcome.Outcome.TheVariants as outcomes
use Rattle.source_log.specs.declared.step.Step.{Step}
use Rattle.source_log.proofs.Commits.{commit_stays, commit_made}
use Rattle.source_log.proofs.EndsTaken.{commit_late}
use Rattle.source_log.proofs.KnownTables.{known_stays}
use Rattle.source_log.proofs.MayStand.{commit_short}
use Rattle.source_log.proofs.taking.take_commit.Goals as goal

pub returns-then-time-head-clause-ok : goal.returns-then-time-head-clause-ok
returns-then-time-head-clause-ok g c = goes_none g.K.Keeper.kept c.args.sites.now c.args.server (TakesKnowing c.args.known.now c.args.known.now c.args.head.now c.args.logged.now outcomes.NotApplicable) c.requires.open (λ d. λ k. (commit_late c.args.head.now c.args.tx d c.args.time c.args.logged.now c.requires.is c.if-time-head.true, k))

pub returns-in_err-steps-clause-fault : goal.returns-in_err-steps-clause-fault
returns-in_err-steps-clause-fault g c =
    let p = err_from_is_err_and c.from_residual-in_err-steps.result c.from_residual-in_err-steps.ensures.1 in
    rw (p.1, p.2) (breaks_after rules g.K.Keeper.kept c.args.sites.now c.positions_of.new.sites c.read_steps.new.sites c.args.server c.in_err-steps.field-0.0 c.in_ok-positions.ensures.ok c.in_err-steps.ensures.fault)

pub returns-in_err-outcome-clause-fault : goal.returns-in_err-outcome-clause-fault
returns-in_err-outcome-clause-fault g c =
    let kept = g.K.Keeper.kept in
    let looks = looks_then kept c.args.sites.now c.positions_of.new.sites c.read_steps.new.sites c.in_ok-positions.ensures.ok c.in_ok-steps.ensures.ok in
    let p = err_from_is_err_and c.from_residual-in_err-outcome.result c.from_residual-in_err-outcome.ensures.1 in
    rw (p.1, p.2) (breaks_after rules kept c.args.sites.now c.read_steps.new.sites c.make_all.new.sites c.args.server c.in_err-outcome.field-0.0 looks c.in_err-outcome.ensures.fault)

pub returns-in_default-clause-ok : goal.returns-in_default-clause-ok
returns-in_default-clause-ok g c =
    let kept = g.K.Keeper.kept in
    let s0 = c.args.sites.now in
    let s1 = c.positions_of.new.sites in
    let s2 = c.read_steps.new.sites in
    let s3 = c.make_all.new.sites in
    let server = c.args.server in
    let tx = c.args.tx in
    let head = c.args.head.now in
    let logged = c.args.logged.now in
    let positions = c.in_ok-positions.positions in
    let steps = c.in_ok-steps.steps in
    let room = c.has_room.result in
    let looks = looks_then kept s0 s1 s2 c.in_ok-positions.ensures.ok c.in_ok-steps.ensures.ok in
    let before = c.args.known.now in
    let now = c.read_steps.new.known in
    let N = λ (d : Contents). ArePositions tx positions d × (IsKnown before d → AreSteps tx positions steps d × IsKnown now d) in
    let A = λ (ps : List ℕ) (d : Contents). IsKnown before d → AreSteps tx ps steps d × IsKnown now d in
    let saw : IfSome (sees kept s0 server) N = if_both_seen (sees kept s0 server) (ArePositions tx positions) (A c.as_slice.result.now) N (λ d f a. (f, subst (λ (ps : List ℕ). A ps d) c.as_slice.ensures a)) c.in_ok-positions.ensures.positions (sees_back kept s0 s1 server (A c.as_slice.result.now) c.in_ok-positions.ensures.ok c.in_ok-steps.ensures.steps) in
    let outcome = c.in_ok-outcome.outcome in
    let made : GoesOn kept s2 s3 server (MakesAll steps room outcome) = subst (λ (l : List Step). GoesOn kept s2 s3 server (MakesAll l room outcome)) c.as_slice-2.ensures c.in_ok-outcome.ensures.ok in
    saw_then kept s0 s2 s3 server N (MakesAll steps room outcome) (TakesKnowing before now head logged outcome) c.requires.open looks saw made (λ d e n m. λ k.
    let read = n.1 k in
    let takes = commit_stays head tx c.args.time logged c.requires.is positions steps c.in_ok-steps.ensures.can (omega (arith, c.if-time-head.false)) room d n.0 read.0 outcome e c.in_default.not-Taken c.has_room.ensures m in
    (takes, known_stays now d e (takes.others areas.Defs 0 refl) read.1))

pub returns-in_default-clause-room : goal.returns-in_default-clause-room
returns-in_default-clause-room g c = λ is. absurd (c.in_default.not-Taken is)

pub overflow_add-head : goal.overflow_add-head
overflow_add-head g c =
    let room : c.args.head.now.last < log_limit = ltb-true c.args.head.now.last log_limit (sym c.has_room.ensures ∙ c.in_ok-outcome.ensures.room c.in-Taken.is) in
    omega (arith, room)

pub returns-in_err-put_end-clause-fault : goal.returns-in_err-put_end-clause-fault
returns-in_err-put_end-clause-fault g c =
    let kept = g.K.Keeper.kept in
    let s0 = c.args.sites.now in
    let s2 = c.read_steps.new.sites in
    let s3 = c.make_all.new.sites in
    let s4 = c.put_end.new.sites in
    let looks = looks_then kept s0 c.positions_of.new.sites s2 c.in_ok-positions.ensures.ok c.in_ok-steps.ensures.ok in
    let fails = write_fails_on kept s2 s3 s4 c.args.server (MakesAll c.as_slice-2.result.now c.has_room.result c.in_ok-outcome.outcome) c.in_err-put_end.field-0.0 c.in_ok-outcome.ensures.ok c.in_err-put_end.ensures.fault in
    let p = err_from_is_err_and c.from_residual-in_err-put_end.result c.from_residual-in_err-put_end.ensures.1 in
    rw (p.1, p.2) (write_breaks_after rules kept s0 s2 s4 c.args.server c.in_err-put_end.field-0.0 looks fails)

pub returns-clause-ok : goal.returns-clause-ok
returns-clause-ok g c =
    let kept = g.K.Keeper.kept in
    let s0 = c.args.sites.now in
    let s1 = c.positions_of.new.sites in
    let s2 = c.read_steps.new.sites in
    let s3 = c.make_all.new.sites in
    let server = c.args.server in
    let tx = c.args.tx in
    let head = c.args.head.now in
    let logged = c.args.logged.now in
    let positions = c.in_ok-positions.positions in
    let steps = c.in_ok-steps.steps in
    let room = c.has_room.result in
    let looks = looks_then kept s0 s1 s2 c.in_ok-positions.ensures.ok c.in_ok-steps.ensures.ok in
    let before = c.args.known.now in
    let now = c.read_steps.new.known in
    let N = λ (d : Contents). ArePositions tx positions d × (IsKnown before d → AreSteps tx positions steps d × IsKnown now d) in
    let A = λ (ps : List ℕ) (d : Contents). IsKnown before d → AreSteps tx ps steps d × IsKnown now d in
    let saw : IfSome (sees kept s0 server) N = if_both_seen (sees kept s0 server) (ArePositions tx positions) (A c.as_slice.result.now) N (λ d f a. (f, subst (λ (ps : List ℕ). A ps d) c.as_slice.ensures a)) c.in_ok-positions.ensures.positions (sees_back kept s0 s1 server (A c.as_slice.result.now) c.in_ok-positions.ensures.ok c.in_ok-steps.ensures.steps) in
    let s4 = c.put_end.new.sites in
    let short : head.last < log_limit = ltb-true head.last log_limit (sym c.has_room.ensures ∙ c.in_ok-outcome.ensures.room c.in-Taken.is) in
    let made : GoesOn kept s2 s3 server (MakesAll steps room outcomes.Taken) = subst (λ (l : List Step). GoesOn kept s2 s3 server (MakesAll l room outcomes.Taken)) c.as_slice-2.ensures (subst (λ (o : Outcome). GoesOn kept s2 s3 server (MakesAll c.as_slice-2.result.now room o)) c.in-Taken.is c.in_ok-outcome.ensures.ok) in
    let P = λ (d e : Contents). N d × MakesAll steps room outcomes.Taken d e in
    let goes : GoesOn kept s0 s3 server P = saw_then kept s0 s2 s3 server N (MakesAll steps room outcomes.Taken) P c.requires.open looks saw made (λ d e n m. (n, m)) in
    let Q = λ (d e : Contents). e ≡ with_dropped tx c.as_slice-3.result.now (put_at d areas.Log 0 (b64 (head.last + 1)) (Some (log_spelling logged))) in
    goes_then kept s0 s3 s4 server P Q (TakesKnowing before now head logged outcomes.Taken) c.requires.open goes c.in_ok-put_end.ensures.ok (λ d e f p q. λ k.
    let read = p.0.1 k in
    let takes = commit_made head tx c.args.time logged c.requires.is positions steps c.in_ok-steps.ensures.can (omega (arith, c.if-time-head.false)) room d p.0.0 read.0 e f c.requires.typed short p.1
    (q ∙ ap (λ (ps : List ℕ). with_dropped tx ps (put_at e areas.Log 0 (b64 (head.last + 1)) (Some (log_spelling logged)))) c.as_slice-3.ensures) in
    (takes, known_stays now d f (takes.others areas.Defs 0 refl) read.1))

pub returns-clause-room : goal.returns-clause-room
returns-clause-room g c = λ is. ltb-true c.args.head.now.last log_limit (sym c.has_room.ensures ∙ c.in_ok-outcome.ensures.room c.in-Taken.is)

pub put_end-requires-clause-storable : goal.put_end-requires-clause-storable
put_end-requires-clause-storable g c = log_storable c.args.logged.now c.requires.typed (commit_short c.args.tx c.args.time c.args.logged.now c.requires.is)
