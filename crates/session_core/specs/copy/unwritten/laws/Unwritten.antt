-- Laws of parts of a run whose lines aren't written: proofs, and nothing to believe.
use Rattle.std.proofs.Common.{◌≡◌, ◌∙◌, ℕ, List, [], ◌∷◌, ◌++◌, Bool, false, refl, sym, ap, subst, arith, Option, Ok, Err}
use Rattle.world_store.specs.Words.{Stands}
use Rattle.site_store.specs.Words.{Contents, Kept, Takes, takes_nothing, names, held}
use Rattle.site_store.specs.declared.sites.Sites.{Sites}
use Rattle.repl_model.specs.Words.{World}
use Rattle.run_core.specs.Runs.{Event, commits, writes, refuses, last_world, lines_of, is_refused, Went, Stopped}
use Rattle.run_core.specs.laws.Runs.{no_part}
use Rattle.run_commands.specs.parts.Parts.{IsPart}
use Rattle.run_commands.specs.declared.parts.run_error.RunError.{RunError}
use Rattle.session_core.specs.copy.unwritten.laws.Causes.{cause_unwritten}
use Rattle.session_core.specs.copy.unwritten.Unwritten.{unwritten}

-- ---- events without their lines

-- they lead to the same world
pub unwritten_world : {W : Type 0} (w : W) (events : List (Event W)) → last_world w (unwritten events) ≡ last_world w events
unwritten_world w [] = refl
unwritten_world w (commits v ∷ events) = unwritten_world v events
unwritten_world w (writes line ∷ events) = unwritten_world w events
unwritten_world w (refuses line ∷ events) = unwritten_world w events

-- nothing is written
pub unwritten_lines : {W : Type 0} (events : List (Event W)) → lines_of (unwritten events) ≡ []
unwritten_lines [] = refl
unwritten_lines (commits v ∷ events) = unwritten_lines events
unwritten_lines (writes line ∷ events) = unwritten_lines events
unwritten_lines (refuses line ∷ events) = unwritten_lines events

-- nothing is refused
pub unwritten_refused : {W : Type 0} (events : List (Event W)) → is_refused (unwritten events) ≡ false
unwritten_refused [] = refl
unwritten_refused (commits v ∷ events) = unwritten_refused events
unwritten_refused (writes line ∷ events) = unwritten_refused events
unwritten_refused (refuses line ∷ events) = unwritten_refused events

-- of two lists of events in turn, each is without its lines
pub unwritten_append : {W : Type 0} (xs ys : List (Event W)) → unwritten (xs ++ ys) ≡ unwritten xs ++ unwritten ys
unwritten_append [] ys = refl
unwritten_append {W = W} (commits v ∷ xs) ys = ap (λ (events : List (Event W)). commits v ∷ events) (unwritten_append xs ys)
unwritten_append (writes line ∷ xs) ys = unwritten_append xs ys
unwritten_append (refuses line ∷ xs) ys = unwritten_append xs ys

-- a sink that took nothing took their lines
takes_unwritten : {W : Type 0} (t : Option (List ℕ)) (events : List (Event W)) → Takes t t (lines_of (unwritten events))
takes_unwritten t events = subst (Takes t t) (sym (unwritten_lines events)) (takes_nothing t)

-- ---- a part whose lines aren't written

module _ {W : Type 0} (Means : List (Option Contents) → W → Type 0) (events : List (Event W)) (w : W) (h : List (Option Contents)) (before now t : Option (List ℕ)) where
  -- it happened without its lines, whatever its sink took
  pub went_unwritten : Went Means events w h before now → Went Means (unwritten events) w h t t
  went_unwritten went = record {
    stands = subst (Means h) (sym (unwritten_world w events)) went.stands;
    bytes = takes_unwritten t events;
  }

  -- or it stopped without them
  pub stopped_unwritten : Stopped Means events w h before now → Stopped Means (unwritten events) w h t t
  stopped_unwritten stopped = record {
    done = unwritten stopped.done;
    rest = unwritten stopped.rest;
    part = [];
    split = ap unwritten stopped.split ∙ unwritten_append stopped.done stopped.rest;
    stands = subst (Means h) (sym (unwritten_world w stopped.done)) stopped.stands;
    bytes = subst (Takes t t) (sym (ap (λ (x : List ℕ). x ++ []) (unwritten_lines stopped.done))) (takes_nothing t);
    is_part = no_part (unwritten stopped.rest);
  }

module _ {K O : Type 0} {kept : K → Kept} {taken : O → Option (List ℕ)} {faults : O → ℕ} {s0 s1 : Sites K} {o p : O} {events : World → List (Event World)} {T : Type 0} {refuses : T → Bool} (bytes : Option (List ℕ)) (count : ℕ) where
  -- so did a part at servers, which refuses nothing then
  pub part_unwritten : {U : Type 0} {x : T} (y : U) → IsPart kept taken faults s0 s1 o p events refuses (Ok x) → IsPart kept (λ (b : Option (List ℕ)). b) (λ b. count) s0 s1 bytes bytes (λ w. unwritten (events w)) (λ (z : U). false) (Ok y)
  part_unwritten y part = record {
    ok = λ w stands. (went_unwritten (Stands (names s0)) (events w) w (held kept s1) (taken o) (taken p) bytes (part.ok w stands).0, sym (unwritten_refused (events w)));
    stopped = tt;
    servers = part.servers;
    cause = tt;
    counts = omega arith;
  }

module _ {K O : Type 0} {kept : K → Kept} {taken : O → Option (List ℕ)} {s0 s1 : Sites K} {o p : O} {events : World → List (Event World)} {T : Type 0} {refuses : T → Bool} (bytes : Option (List ℕ)) (count : ℕ) where
  -- or it failed, if its sink never does
  pub failed_unwritten : {U : Type 0} {e : RunError} → IsPart kept taken (λ _. 0) s0 s1 o p events refuses (Err e) → IsPart kept (λ (b : Option (List ℕ)). b) (λ b. count) s0 s1 bytes bytes (λ w. unwritten (events w)) (λ (z : U). false) (Err e)
  failed_unwritten {e = e} part = record {
    ok = tt;
    stopped = λ w stands. stopped_unwritten (Stands (names s0)) (events w) w (held kept s1) (taken o) (taken p) bytes (part.stopped w stands);
    servers = part.servers;
    cause = cause_unwritten kept s0 s1 count count e part.cause;
    counts = omega arith;
  }
