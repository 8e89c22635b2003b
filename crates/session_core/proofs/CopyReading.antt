-- Parts of a run that read its input, after parts that don't.
use Rattle.std.proofs.Common.{◌≡◌, ◌∙◌, ◌||◌, ℕ, List, Bool, false, sym, ap, subst, arith, Option, Some, None, Result, Ok, Err, IsErrAnd}
use Rattle.std.proofs.lemmas.Result.{err_from_is_err_and, on_err_weaker}
use Rattle.world_store.specs.Words.{Stands}
use Rattle.site_store.specs.Words.{Contents, Kept, AllClosed, names, held, work, keeps_itself, keeps_then}
use Rattle.site_store.specs.declared.sites.Sites.{Sites}
use Rattle.repl_model.specs.Words.{World}
use Rattle.run_core.specs.Runs.{Event, last_world, Went, Stopped, is_refused}
use Rattle.run_core.specs.laws.Runs.{refused_append, went_both, stopped_in_first, stopped_in_second}
use Rattle.run_commands.specs.parts.Parts.{then_events, Happened, IsPart}
use Rattle.run_commands.specs.parts.laws.Exits.{ok_also, if_err_also}
use Rattle.run_commands.specs.parts.laws.Parts.{stands_after}
use Rattle.run_commands.specs.declared.parts.run_error.RunError.{RunError}
use Rattle.run_commands.specs.declared.parts.run_error.RunError.TheVariants as errors
use Rattle.session_core.specs.Inputs.{OfInput}
use Rattle.session_core.specs.Reading.{ReadsAll, StopsReading, IsReading}
use Rattle.session_core.specs.copy.unwritten.laws.Causes.{part_blamed, servers_later}
use Rattle.session_core.proofs.ReadInputs.{of_any, of_input_also, nothing_read}

-- after all of what was read the servers stand for a world
pub reads_stand : {K : Type 0} (kept : K → Kept) (s0 s1 : Sites K) (input t u : Option (List ℕ)) (events : List ℕ → World → List (Event World)) (any : Bool) → ReadsAll kept s0 s1 input t u events any
    → (w : World) → Stands (names s0) (held kept s0) w → (v : World) × Stands (names s0) (held kept s1) v
reads_stand kept s0 s1 None t u events any read w at = let here = read w at in (last_world w (events here.0 w), here.1.0.stands)
reads_stand kept s0 s1 (Some bytes) t u events any read w at = (last_world w (events bytes w), (read w at).0.stands)

module _ {K : Type 0} (kept : K → Kept) (s0 s1 s2 : Sites K) (same : names s1 ≡ names s0) (t u : Option (List ℕ)) (first : World → List (Event World)) (rest : List ℕ → World → List (Event World)) where
  -- for which world servers stand, by their names at the beginning
  abbrev Means : List (Option Contents) → World → Type 0
  Means h w = Stands (names s0) h w

  -- a part that wrote nothing and refused nothing, and then one that reads the input
  reads_after : (input : Option (List ℕ)) (any : Bool) → Happened kept s0 s1 t t first false → ReadsAll kept s1 s2 input t u rest any → ReadsAll kept s0 s2 input t u (λ bytes. then_events first (rest bytes)) any
  reads_after input any one two = λ w at.
      let here = one w at in
      let v = last_world w (first w) in
      let later = subst (λ (n : List (List ℕ)). (v : World) → Stands n (held kept s1) v → OfInput input (λ bytes. Went (Stands n) (rest bytes v) v (held kept s2) t u × (any ≡ is_refused (rest bytes v)))) same two v here.0.stands in
      of_input_also input (λ bytes. Went Means (rest bytes v) v (held kept s2) t u × (any ≡ is_refused (rest bytes v)))
      (λ bytes. Went Means (then_events first (rest bytes) w) w (held kept s2) t u × (any ≡ is_refused (then_events first (rest bytes) w)))
      (λ bytes second. (
        went_both Means w (first w) (rest bytes v) (held kept s1) (held kept s2) t t u here.0 second.0,
        second.1 ∙ ap (λ (was : Bool). was || is_refused (rest bytes v)) here.1 ∙ sym (refused_append (first w) (rest bytes v)),
      )) later

  -- the second stopped
  stops_after : (input : Option (List ℕ)) → Happened kept s0 s1 t t first false → StopsReading kept s1 s2 input t u rest → StopsReading kept s0 s2 input t u (λ bytes. then_events first (rest bytes))
  stops_after input one two = λ w at.
      let here = one w at in
      let v = last_world w (first w) in
      let later = subst (λ (n : List (List ℕ)). (v : World) → Stands n (held kept s1) v → OfInput input (λ bytes. Stopped (Stands n) (rest bytes v) v (held kept s2) t u)) same two v here.0.stands in
      of_input_also input (λ bytes. Stopped Means (rest bytes v) v (held kept s2) t u) (λ bytes. Stopped Means (then_events first (rest bytes) w) w (held kept s2) t u)
      (λ bytes second. stopped_in_second Means w (first w) (rest bytes v) (held kept s1) (held kept s2) t t u here.0 second) later

-- ---- parts as wholes

module _ {K O : Type 0} {kept : K → Kept} {taken : O → Option (List ℕ)} {faults : O → ℕ} where
  -- a part that writes nothing does to an output what it does to any
  pub silent_part : {T : Type 0} {s0 s1 : Sites K} {o : O} {events : World → List (Event World)} {refuses : T → Bool} {r : Result T RunError}
      → ((bytes : Option (List ℕ)) (count : ℕ) → IsPart kept (λ b. b) (λ b. count) s0 s1 bytes bytes events refuses r) → IsPart kept taken faults s0 s1 o o events refuses r
  silent_part {o = o} whatever =
      let part = whatever (taken o) (faults o) in
      record { ok = part.ok; stopped = part.stopped; servers = part.servers; cause = part.cause; counts = part.counts }

  module _ {I : Type 0} {left : I → Option (List ℕ)} {in_faults : I → ℕ} where
    -- a part that failed is one whose result is its error
    pub reading_err : {s0 s1 : Sites K} {i j : I} {o p : O} {events : List ℕ → World → List (Event World)} {e : RunError} (r : Result Bool RunError) → IsErrAnd r (λ y. y ≡ e)
        → IsReading kept left in_faults taken faults s0 s1 i j o p events (Err e) → IsReading kept left in_faults taken faults s0 s1 i j o p events r
    reading_err {s0 = s0} {s1 = s1} {i = i} {j = j} {o = o} {p = p} {events = events} r is part =
        let found = err_from_is_err_and r is in
        subst (IsReading kept left in_faults taken faults s0 s1 i j o p events) (ap Err (sym found.2) ∙ sym found.1) part

    -- nothing was done, since memory ran out
    pub nothing_read_part : {s : Sites K} {i : I} {o : O} (events : List ℕ → World → List (Event World)) → AllClosed (work kept s) → IsReading kept left in_faults taken faults s s i i o o events (Err errors.Memory)
    nothing_read_part {s = s} {i = i} {o = o} events closed = record {
      ok = tt;
      stopped = λ w at. nothing_read (Stands (names s)) (left i) events w (held kept s) (taken o) at;
      ended = tt;
      servers = keeps_itself kept s closed;
      cause = tt;
      counts = omega arith;
    }

    -- a part before it failed, which reads no input
    pub first_fails_unread : {T : Type 0} {s0 s1 : Sites K} {i : I} {o p : O} {first : World → List (Event World)} {refuses : T → Bool} {e : RunError} (rest : List ℕ → World → List (Event World)) → IsPart kept taken faults s0 s1 o p first refuses (Err e)
        → IsReading kept left in_faults taken faults s0 s1 i i o p (λ bytes. then_events first (rest bytes)) (Err e)
    first_fails_unread {s0 = s0} {s1 = s1} {i = i} {o = o} {p = p} {first = first} {e = e} rest part = record {
      ok = tt;
      stopped = λ w at. of_any (left i) (λ bytes. Stopped (Stands (names s0)) (then_events first (rest bytes) w) w (held kept s1) (taken o) (taken p)) (λ bytes. stopped_in_first (Stands (names s0)) w (first w) (rest bytes (last_world w (first w))) (held kept s1) (taken o) (taken p) (part.stopped w at));
      ended = part_blamed kept s0 s1 (left i) (in_faults i) (in_faults i) (faults o) (faults p) e part.cause;
      servers = part.servers;
      cause = part.cause.servers;
      counts = part.counts;
    }

    -- a part that writes nothing and refuses nothing, and then one that reads the input
    pub reads_then : {T : Type 0} {s0 s1 s2 : Sites K} {i j : I} {o p : O} {first : World → List (Event World)} {rest : List ℕ → World → List (Event World)} {refuses : T → Bool} {x : T} {r : Result Bool RunError}
        → IsPart kept taken faults s0 s1 o o first refuses (Ok x) → refuses x ≡ false → IsReading kept left in_faults taken faults s1 s2 i j o p rest r → IsReading kept left in_faults taken faults s0 s2 i j o p (λ bytes. then_events first (rest bytes)) r
    reads_then {s0 = s0} {s1 = s1} {s2 = s2} {i = i} {o = o} {p = p} {first = first} {rest = rest} {r = r} one not two =
        let happened = subst (Happened kept s0 s1 (taken o) (taken o) first) not one.ok in
        record {
          ok = ok_also r (λ any. reads_after kept s0 s1 s2 one.servers.names (taken o) (taken p) first rest (left i) any happened) two.ok;
          stopped = on_err_weaker r (stops_after kept s0 s1 s2 one.servers.names (taken o) (taken p) first rest (left i) happened) two.stopped;
          ended = two.ended;
          servers = keeps_then kept s0 s1 s2 one.servers two.servers;
          cause = if_err_also r (λ e. servers_later kept s0 s1 s2 e one.servers (stands_after kept s0 s1 (taken o) (taken o) first first false happened)) two.cause;
          counts = two.counts;
        }
