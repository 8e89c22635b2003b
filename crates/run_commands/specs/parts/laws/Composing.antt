-- Parts of a run as wholes: one after another, by other words, and after reads.
use Rattle.std.proofs.Common.{◌≡◌, ◌≤◌, ◌∙◌, ◌||◌, ℕ, List, [], ◌∷◌, Bool, true, false, sym, ap, subst, arith, Option, Some, None, Result, Ok, Err, IfOk, IfSome, IsErrAnd}
use Rattle.std.proofs.lemmas.Result.{err_from_is_err_and, on_err_weaker}
use Rattle.world_store.specs.Words.{Stands}
use Rattle.site_store.specs.Words.{Kept, Takes, TakesPrefix, KeepsServers, IsNoDamage, AllClosed, names, held, work, keeps_itself, keeps_then, Looks, Stops}
use Rattle.site_store.specs.declared.sites.Sites.{Sites}
use Rattle.repl_model.specs.Words.{Area, DamageCause, Fault, Refusal, World}
use Rattle.run_core.specs.Runs.{Event, writes}
use Rattle.run_commands.specs.parts.Parts.{then_events, Happened, StoppedIn, IsPart, WritesLine, WritesRefusal}
use Rattle.run_commands.specs.parts.Refusing.{refused}
use Rattle.run_commands.specs.parts.RunErrors.{error_of_fault}
use Rattle.run_commands.specs.declared.parts.run_error.RunError.{RunError}
use Rattle.run_commands.specs.declared.parts.run_error.RunError.TheVariants as errors
use Rattle.run_commands.specs.parts.laws.Damage.{IsOfRun}
use Rattle.run_commands.specs.parts.laws.Exits.{ok_also, if_err_also}
use Rattle.run_commands.specs.parts.laws.Lines.{none_begun}
use Rattle.run_commands.specs.parts.laws.Looking.{happened_looked, stopped_looked, keeps_after, cause_looked, stops_keeps, stops_before, stops_cause}
use Rattle.run_commands.specs.parts.laws.Parts.{happened_as, stopped_as, refusal_written, refusal_begun, line_written, line_begun, nothing_done, all_done, output_cause, output_later, later_cause, happened_both, stopped_first, stopped_second, stands_after}

module _ {K O : Type 0} {kept : K → Kept} {taken : O → Option (List ℕ)} {faults : O → ℕ} where
  -- ---- one part

  module _ {T : Type 0} {s0 s1 : Sites K} {o p : O} {events : World → List (Event World)} {refuses : T → Bool} where
    -- a part, by other words for the same events
    pub part_as : {r : Result T RunError} (others : World → List (Event World)) → ((w : World) → Stands (names s0) (held kept s0) w → events w ≡ others w) → IsPart kept taken faults s0 s1 o p events refuses r → IsPart kept taken faults s0 s1 o p others refuses r
    part_as {r = r} others same part = record {
      ok = ok_also r (λ x. happened_as kept s0 s1 (taken o) (taken p) events others same (refuses x)) part.ok;
      stopped = on_err_weaker r (stopped_as kept s0 s1 (taken o) (taken p) events others same) part.stopped;
      servers = part.servers;
      cause = part.cause;
      counts = part.counts;
    }

    -- a part that went well, with another value that says the same of it
    pub part_gives : {U : Type 0} {x : T} (refuses_now : U → Bool) (y : U) → refuses x ≡ refuses_now y → IsPart kept taken faults s0 s1 o p events refuses (Ok x) → IsPart kept taken faults s0 s1 o p events refuses_now (Ok y)
    part_gives refuses_now y same part = record {
      ok = subst (Happened kept s0 s1 (taken o) (taken p) events) same part.ok;
      stopped = tt;
      servers = part.servers;
      cause = tt;
      counts = part.counts;
    }

    -- a part that failed, for values of another type
    pub part_failed : {U : Type 0} {e : RunError} (refuses_now : U → Bool) → IsPart kept taken faults s0 s1 o p events refuses (Err e) → IsPart kept taken faults s0 s1 o p events refuses_now (Err e)
    part_failed refuses_now part = record {
      ok = tt;
      stopped = part.stopped;
      servers = part.servers;
      cause = part.cause;
      counts = part.counts;
    }

    -- a part that failed is one whose result is its error
    pub part_err : {e : RunError} (r : Result T RunError) → IsErrAnd r (λ y. y ≡ e) → IsPart kept taken faults s0 s1 o p events refuses (Err e) → IsPart kept taken faults s0 s1 o p events refuses r
    part_err r is part =
        let found = err_from_is_err_and r is in
        subst (IsPart kept taken faults s0 s1 o p events refuses) (ap Err (sym found.2) ∙ sym found.1) part

  -- nothing was done, since memory ran out
  pub no_memory : {T : Type 0} {s : Sites K} {o : O} {refuses : T → Bool} (events : World → List (Event World)) → AllClosed (work kept s) → IsPart kept taken faults s s o o events refuses (Err errors.Memory)
  no_memory {s = s} {o = o} events closed = record {
    ok = tt;
    stopped = nothing_done kept s (taken o) events;
    servers = keeps_itself kept s closed;
    cause = record { streams = tt; servers = tt };
    counts = omega arith;
  }

  -- nothing was to be done
  pub nothing_to_do : {T : Type 0} {s : Sites K} {o : O} (refuses : T → Bool) (x : T) → AllClosed (work kept s) → refuses x ≡ false → IsPart kept taken faults s s o o (λ w. []) refuses (Ok x)
  nothing_to_do {s = s} {o = o} refuses x closed not = record {
    ok = subst (Happened kept s s (taken o) (taken o) (λ w. [])) (sym not) (all_done kept s (taken o));
    stopped = tt;
    servers = keeps_itself kept s closed;
    cause = tt;
    counts = omega arith;
  }

  -- ---- two parts in turn

  module _ {T : Type 0} {s0 s1 : Sites K} {o p : O} {first : World → List (Event World)} {refuses : T → Bool} where
    -- the first failed
    pub first_fails : {U : Type 0} {e : RunError} (second : World → List (Event World)) (refuses_now : U → Bool) → IsPart kept taken faults s0 s1 o p first refuses (Err e) → IsPart kept taken faults s0 s1 o p (then_events first second) refuses_now (Err e)
    first_fails second refuses_now part = record {
      ok = tt;
      stopped = stopped_first kept s0 s1 (taken o) (taken p) first second part.stopped;
      servers = part.servers;
      cause = part.cause;
      counts = part.counts;
    }

    -- the first went well, and then the second was made
    pub part_then : {U : Type 0} {s2 : Sites K} {q : O} {second : World → List (Event World)} {refuses_now : U → Bool} {x : T} {r : Result U RunError}
        → IsPart kept taken faults s0 s1 o p first refuses (Ok x) → IsPart kept taken faults s1 s2 p q second refuses_now r → IsPart kept taken faults s0 s2 o q (then_events first second) (λ y. refuses x || refuses_now y) r
    part_then {s2 = s2} {q = q} {second = second} {refuses_now = refuses_now} {x = x} {r = r} one two = record {
      ok = ok_also r (λ y. happened_both kept s0 s1 s2 one.servers.names (taken o) (taken p) (taken q) first second (refuses x) (refuses_now y) one.ok) two.ok;
      stopped = on_err_weaker r (stopped_second kept s0 s1 s2 one.servers.names (taken o) (taken p) (taken q) first second (refuses x) one.ok) two.stopped;
      servers = keeps_then kept s0 s1 s2 one.servers two.servers;
      cause = if_err_also r (λ e. later_cause kept s0 s1 s2 (faults o) (faults p) (faults q) e one.servers (stands_after kept s0 s1 (taken o) (taken p) first second (refuses x) one.ok) one.counts) two.cause;
      counts = omega (arith, one.counts, two.counts);
    }

  -- ---- a line

  module _ {T : Type 0} {s0 s1 : Sites K} {o p : O} {line : List ℕ} {answer : T} {r : Result T RunError} (wrote : WritesLine taken faults o p line answer r) (events : World → List (Event World)) (refuses : T → Bool) (keeps : KeepsServers kept s0 s1) where
    -- a part that writes it last
    pub part_ended : {before : O} → faults before ≤ faults o → (Takes (taken o) (taken p) line → Happened kept s0 s1 (taken before) (taken p) events (refuses answer)) → (TakesPrefix (taken o) (taken p) line → StoppedIn kept s0 s1 (taken before) (taken p) events)
        → IsPart kept taken faults s0 s1 before p events refuses r
    part_ended {before = before} le happened began = record {
      ok = ok_also r (λ x took. subst (λ (y : T). Happened kept s0 s1 (taken before) (taken p) events (refuses y)) (sym took.0) (happened took.1)) wrote.ok;
      stopped = on_err_weaker r began wrote.stopped;
      servers = keeps;
      cause = if_err_also r (λ e out. output_cause kept s0 s1 (faults before) (faults p) e (output_later (faults before) (faults o) (faults p) e le out)) wrote.cause;
      counts = omega (arith, le, wrote.counts);
    }

    -- a part that writes nothing before it
    pub part_written : (Takes (taken o) (taken p) line → Happened kept s0 s1 (taken o) (taken p) events (refuses answer)) → (TakesPrefix (taken o) (taken p) line → StoppedIn kept s0 s1 (taken o) (taken p) events) → IsPart kept taken faults s0 s1 o p events refuses r
    part_written happened began = part_ended (omega arith) happened began

  -- a part that only writes the line of a reply
  pub part_replied : {T : Type 0} {s : Sites K} {o p : O} {line : List ℕ} {answer : T} {r : Result T RunError} (refuses : T → Bool) → AllClosed (work kept s) → refuses answer ≡ false → WritesLine taken faults o p line answer r → IsPart kept taken faults s s o p (λ w. writes line ∷ []) refuses r
  part_replied {s = s} {o = o} {p = p} {line = line} {answer = answer} refuses closed not wrote = part_written wrote (λ w. writes line ∷ []) refuses (keeps_itself kept s closed)
      (λ took. line_written kept s (taken o) (taken p) line (refuses answer) (not, took))
      (line_begun kept s (taken o) (taken p) line)

  -- a part that only writes the line of a refusal
  pub part_refused : {T : Type 0} {s : Sites K} {o p : O} {refusal : Refusal} {answer : T} {r : Result T RunError} (refuses : T → Bool) → AllClosed (work kept s) → refuses answer ≡ true → WritesRefusal taken faults o p refusal answer r → IsPart kept taken faults s s o p (λ w. refused refusal) refuses r
  part_refused {s = s} {o = o} {p = p} {refusal = refusal} {answer = answer} refuses closed is wrote = part_written wrote.line (λ w. refused refusal) refuses (keeps_itself kept s closed)
      (λ took. refusal_written kept s (taken o) (taken p) refusal (refuses answer) (is, took))
      (refusal_begun kept s (taken o) (taken p) refusal)

  -- ---- reads

  -- a part after reads was made from where these began
  pub part_looked : {T : Type 0} {s0 s1 s2 : Sites K} {o p : O} {events : World → List (Event World)} {refuses : T → Bool} {r : Result T RunError} → Looks kept s0 s1 → AllClosed (work kept s0) → IsPart kept taken faults s1 s2 o p events refuses r → IsPart kept taken faults s0 s2 o p events refuses r
  part_looked {s0 = s0} {s1 = s1} {s2 = s2} {o = o} {p = p} {events = events} {refuses = refuses} {r = r} looks closed part = record {
    ok = ok_also r (λ x. happened_looked kept s0 s1 looks s2 (taken o) (taken p) events (refuses x)) part.ok;
    stopped = on_err_weaker r (stopped_looked kept s0 s1 looks s2 (taken o) (taken p) events) part.stopped;
    servers = keeps_after kept s0 s1 looks closed s2 part.servers;
    cause = if_err_also r (cause_looked kept s0 s1 looks closed s2 (faults o) (faults p)) part.cause;
    counts = part.counts;
  }

  -- nothing was done, since reads failed
  pub reads_failed : {T : Type 0} {s0 s1 : Sites K} {o : O} {damage : ℕ → Area → DamageCause → Type 0} → IsOfRun kept s0 damage → (e : Fault) → Stops kept s0 s1 damage e → AllClosed (work kept s0) → AllClosed (work kept s1)
      → ((w : World) → Stands (names s0) (held kept s0) w → IsNoDamage e) → (events : World → List (Event World)) (refuses : T → Bool) (error : RunError) → Some error ≡ error_of_fault e → IsPart kept taken faults s0 s1 o o events refuses (Err error)
  reads_failed {s0 = s0} {s1 = s1} {o = o} {damage = damage} shown e stops closed after none events refuses error is = record {
    ok = tt;
    stopped = stops_before kept s0 s1 damage shown e stops (taken o) events;
    servers = stops_keeps kept s0 s1 damage shown e stops after;
    cause = stops_cause kept s0 s1 damage shown e stops closed after none (faults o) (faults o) error is;
    counts = omega arith;
  }

-- no line was written, since memory ran out
pub nothing_written : {O T : Type 0} {taken : O → Option (List ℕ)} {faults : O → ℕ} {o : O} (r : Result T RunError) → IsErrAnd r (λ y. y ≡ errors.Memory) → (line : List ℕ) (answer : T) → WritesLine taken faults o o line answer r
nothing_written {taken = taken} {faults = faults} {o = o} r is line answer =
    let found = err_from_is_err_and r is in
    subst (WritesLine taken faults o o line answer) (ap Err (sym found.2) ∙ sym found.1) (record {
      ok = tt;
      stopped = none_begun (taken o) line;
      cause = tt;
      counts = omega arith;
    })

-- what holds of the answer of a call that writes a line holds of its value
pub answered : {O T : Type 0} {taken : O → Option (List ℕ)} {faults : O → ℕ} {o p : O} {line : List ℕ} {answer : T} (P : T → Type 0) (r : Result T RunError) → WritesLine taken faults o p line answer r → P answer → IfOk r P
answered P r wrote holds = ok_also r (λ x took. subst P (sym took.0) holds) wrote.ok

-- a call that answers None gives no value
pub no_value : {O T : Type 0} {taken : O → Option (List ℕ)} {faults : O → ℕ} {o p : O} {line : List ℕ} (P : T → Type 0) (r : Result (Option T) RunError) → WritesLine taken faults o p line None r → IfOk r (λ x. IfSome x P)
no_value P r wrote = answered (λ x. IfSome x P) r wrote tt

-- nor does an error
pub err_value : {T : Type 0} (P : T → Type 0) (Q : RunError → Type 0) (r : Result T RunError) → IsErrAnd r Q → IfOk r P
err_value P Q (Ok x) is = absurd is
err_value P Q (Err e) is = tt
