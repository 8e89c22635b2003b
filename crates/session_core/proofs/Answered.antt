-- The answers to the lines of a script, and to its end, as parts of its run.
use Rattle.std.proofs.Common.{◌≡◌, ◌≤◌, ◌+◌, ◌++◌, ◌∷◌, [], ℕ, List, Bool, sym, subst, Option, Some, ◌||◌, option_map, IfSome}
use Rattle.world_store.specs.Words.{Stands}
use Rattle.site_store.specs.Words.{Contents, Kept, names, held}
use Rattle.site_store.specs.declared.sites.Sites.{Sites}
use Rattle.repl_model.specs.Words.{World}
use Rattle.run_core.specs.Runs.{Went, Stopped, is_refused}
use Rattle.line_input.specs.Lines.{ScriptLine}
use Rattle.line_input.specs.Script.{next_kind, line_number, line_text, next_line, line_of, lines_left, IsLineOf}
use Rattle.line_input.specs.laws.MadeLines.{MakesLine, makes_line}
use Rattle.line_input.specs.declared.kind.LineKind.{LineKind}
use Rattle.line_input.specs.declared.script.Script.{Script}
use Rattle.run_commands.specs.parts.Parts.{Happened, StoppedIn}
use Rattle.run_commands.specs.parts.laws.Parts.{happened_since, stopped_since}
use Rattle.session_core.specs.Answers.{Follows}
use Rattle.session_core.specs.Inputs.{OfInput}
use Rattle.session_core.specs.Lines.{GoesOn}
use Rattle.session_core.specs.Talk.{line_events, bodies_after, end_events, script_events}
use Rattle.session_core.specs.declared.bodies.Answer.{Answer}
use Rattle.session_core.specs.declared.bodies.Bodies.{Bodies}
use Rattle.session_core.proofs.Going.{none_left, line_first, takes_line, stops_at_line, takes_end, stops_at_end}

-- The servers are those at the beginning of the run, before the answer and after it, and the output likewise.
module _ {K : Type 0} (kept : K → Kept) (s0 s1 s2 : Sites K) (same : names s1 ≡ names s0) (input t u u2 : Option (List ℕ)) (bodies : Bodies) (any : Bool) where
  -- for which world servers stand, by their names at the beginning
  abbrev Means : List (Option Contents) → World → Type 0
  Means h w = Stands (names s0) h w

  -- the run goes on after the line with a number, with these lines left
  abbrev Goes : ℕ → Option (List (ℕ × ScriptLine)) → Type 0
  Goes last left = (w : World) → Means (held kept s0) w → GoesOn Means input w bodies last left (held kept s1) t u any

  module _ (last : ℕ) (s : Script) (kind : LineKind) (number : ℕ) (text : List ℕ) (before left now : Option (List (ℕ × ScriptLine)))
      (goes : Goes last before) (rest : left ≡ before) (is : next_kind s ≡ Some kind) (same_number : number ≡ line_number s) (same_text : text ≡ line_text s)
      (first : left ≡ option_map (λ lines. next_line s ++ lines) now) (whole : IsLineOf kind (line_text s)) (later : last + 1 ≤ number) where
    -- the line is the first that is left
    goes_at : (w : World) → Means (held kept s0) w → GoesOn Means input w bodies last (option_map (λ lines. ((number, line_of kind text) ∷ []) ++ lines) now) (held kept s1) t u any
    goes_at w at = line_first Means input w (held kept s1) t u bodies any last s kind number text before left now (goes w at) rest is same_number same_text first

    -- and it can be the next line of some bytes
    makes : MakesLine last number (line_of kind text)
    makes = makes_line kind text last number (subst (IsLineOf kind) (sym same_text) whole) later

    -- after its answer the run goes on
    pub line_answered : (answer : Answer) → Happened kept s1 s2 u u2 (line_events bodies number (line_of kind text)) answer.refused → Follows kept s1 (bodies_after bodies number (line_of kind text)) (number + 1) answer
        → (w : World) → Means (held kept s0) w → GoesOn Means input w answer.bodies number now (held kept s2) t u2 (any || answer.refused)
    line_answered answer happened follows w at =
        let line = line_of kind text in
        takes_line Means w (held kept s1) (held kept s2) t u u2 bodies any number line last makes input now answer.bodies answer.refused (goes_at w at)
        (subst (λ (n : List (List ℕ)). (v : World) → Stands n (held kept s1) v → answer.bodies ≡ bodies_after bodies number line v) same follows.bodies)
        (happened_since kept s0 s1 s2 same u u2 (line_events bodies number line) answer.refused happened)

    -- or it stopped in the answer
    pub line_stopped : StoppedIn kept s1 s2 u u2 (line_events bodies number (line_of kind text)) → (w : World) → Means (held kept s0) w → OfInput input (λ bytes. Stopped Means (script_events bytes w) w (held kept s2) t u2)
    line_stopped stopped w at =
        let line = line_of kind text in
        stops_at_line Means w (held kept s1) (held kept s2) t u u2 bodies any number line last makes input now (goes_at w at) (stopped_since kept s0 s1 s2 same u u2 (line_events bodies number line) stopped)

  module _ (script peeked : Script) (later now : Option (List ℕ)) (goes : Goes (line_number script) (lines_left script later)) (rest : lines_left peeked now ≡ lines_left script later) (none : IfSome later (λ _. (now ≡ Some []) × (lines_left peeked now ≡ Some []))) where
    -- no line is left
    no_line : (w : World) → Means (held kept s0) w → IfSome input (λ _. lines_left script later ≡ Some [])
    no_line w at = none_left Means input later script peeked now w bodies (held kept s1) t u any (goes w at) rest none

    -- after the end of the last body the whole run happened
    pub end_answered : (was : Bool) → Happened kept s1 s2 u u2 (end_events bodies) was
        → (w : World) → Means (held kept s0) w → OfInput input (λ bytes. Went Means (script_events bytes w) w (held kept s2) t u2 × ((any || was) ≡ is_refused (script_events bytes w)))
    end_answered was happened w at =
        takes_end Means w (held kept s1) (held kept s2) t u u2 bodies any input (line_number script) (lines_left script later) (goes w at) (no_line w at) was (happened_since kept s0 s1 s2 same u u2 (end_events bodies) was happened)

    -- or it stopped at that end
    pub end_stopped : StoppedIn kept s1 s2 u u2 (end_events bodies) → (w : World) → Means (held kept s0) w → OfInput input (λ bytes. Stopped Means (script_events bytes w) w (held kept s2) t u2)
    end_stopped stopped w at =
        stops_at_end Means w (held kept s1) (held kept s2) t u u2 bodies any input (line_number script) (lines_left script later) (goes w at) (no_line w at) (stopped_since kept s0 s1 s2 same u u2 (end_events bodies) stopped)
