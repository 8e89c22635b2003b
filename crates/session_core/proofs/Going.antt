-- How a run of a script goes on, line by line.
use Rattle.std.proofs.Common.{◌≡◌, ℕ, ◌+◌, List, [], ◌∷◌, ◌++◌, append_assoc, refl, sym, ap, ap₂, subst, ◌∙◌, Bool, false, Option, Some, None, ◌||◌, option_map, IfSome, append-nil}
use Rattle.std.specs.Str.Lines.{lines}
use Rattle.site_store.specs.Words.{Contents, Takes, takes_nothing}
use Rattle.repl_model.specs.Words.{World}
use Rattle.run_core.specs.Runs.{Event, last_world, lines_of, is_refused, Going, Went, Stopped}
use Rattle.run_core.specs.laws.Runs.{refused_append, went_both, stopped_in_second, goes_on, done_after, stops_in, no_part}
use Rattle.line_input.specs.Lines.{ScriptLine, script_from, script_of}
use Rattle.line_input.specs.Script.{next_kind, line_number, line_text, next_line, line_of, lines_left}
use Rattle.line_input.specs.laws.MadeLines.{MakesLine}
use Rattle.line_input.specs.declared.kind.LineKind.{LineKind}
use Rattle.line_input.specs.declared.script.Script.{Script}
use Rattle.run_commands.specs.parts.Parts.{then_events}
use Rattle.session_core.specs.Talk.{line_events, bodies_after, end_events, talk, script_events}
use Rattle.session_core.specs.Inputs.{OfInput}
use Rattle.session_core.specs.Lines.{IsGoing, GoesOn}
use Rattle.session_core.specs.declared.bodies.Bodies.{Bodies}
use Rattle.session_core.specs.declared.bodies.Bodies.TheVariants.{Refused}

-- the line that was read and not taken is the first that is left
waits : (s : Script) (kind : LineKind) (number : ℕ) (text : List ℕ) (left now : Option (List (ℕ × ScriptLine))) → next_kind s ≡ Some kind → number ≡ line_number s → text ≡ line_text s
    → left ≡ option_map (λ lines. next_line s ++ lines) now → left ≡ option_map (λ lines. ((number, line_of kind text) ∷ []) ++ lines) now
waits s kind number text left now is same_number same_text e =
    let line : next_line s ≡ (number, line_of kind text) ∷ [] = rw (is, same_number, same_text) refl in
    e ∙ ap (λ (first : List (ℕ × ScriptLine)). option_map (λ lines. first ++ lines) now) line

-- at the end of the source no line is left
pub none_left : (Means : List (Option Contents) → World → Type 0) (input before : Option (List ℕ)) (s t : Script) (now : Option (List ℕ)) (w : World) (bodies : Bodies) (h : List (Option Contents)) (taken later : Option (List ℕ)) (any : Bool)
    → GoesOn Means input w bodies (line_number s) (lines_left s before) h taken later any → lines_left t now ≡ lines_left s before → IfSome before (λ _. (now ≡ Some []) × (lines_left t now ≡ Some [])) → IfSome input (λ _. lines_left s before ≡ Some [])
none_left Means None before s t now w bodies h taken later any goes same end = tt
none_left Means (Some input) None s t now w bodies h taken later any goes same end = absurd goes
none_left Means (Some input) (Some bytes) s t now w bodies h taken later any goes same end = sym same ∙ end.1

module _ (Means : List (Option Contents) → World → Type 0) where
  -- ---- the beginning

  module _ (w : World) (h : List (Option Contents)) (t : Option (List ℕ)) (at : Means h w) where
    -- nothing happened yet
    all_left : (input : List ℕ) → IsGoing Means input w Refused (script_of input) h t t false
    all_left input = record {
      going = record { done = []; split = refl; stands = at; bytes = takes_nothing t };
      refused = refl;
    }

    -- and no line was read
    pub begins : (input : Option (List ℕ)) (number : ℕ) (left : Option (List (ℕ × ScriptLine))) → number ≡ 0 → left ≡ option_map script_of input → GoesOn Means input w Refused number left h t t false
    begins None number left none e = ([], λ rest. subst (λ (n : ℕ). IsGoing Means rest w Refused (script_from (n + 1) (lines rest)) h t t false) (sym none) (all_left rest))
    begins (Some input) number left none e = subst (λ (l : Option (List (ℕ × ScriptLine))). GoesOn Means (Some input) w Refused number l h t t false) (sym e) (all_left input)

  -- ---- between two lines

  module _ (w : World) (h : List (Option Contents)) (t u : Option (List ℕ)) (bodies : Bodies) (any : Bool) where
    -- the run stopped with these lines left
    stops_with : (input : List ℕ) (left : List (ℕ × ScriptLine)) → IsGoing Means input w bodies left h t u any → Stopped Means (script_events input w) w h t u
    stops_with input left goes =
        let going = goes.going in
        record {
          done = going.done;
          rest = talk bodies left (last_world w going.done);
          part = [];
          split = going.split;
          stands = going.stands;
          bytes = subst (Takes t u) (sym (append-nil (lines_of going.done))) going.bytes;
          is_part = no_part (talk bodies left (last_world w going.done));
        }

    module _ (input : Option (List ℕ)) (number : ℕ) (left : Option (List (ℕ × ScriptLine))) (goes : GoesOn Means input w bodies number left h t u any) where
      -- the servers stand for a world
      pub stands_now : (v : World) × Means h v
      stands_now = pick input left goes
        where
          pick : (input : Option (List ℕ)) (left : Option (List (ℕ × ScriptLine))) → GoesOn Means input w bodies number left h t u any → (v : World) × Means h v
          pick None left goes = let going = (goes.1 []).going in (last_world w going.done, going.stands)
          pick (Some input) None goes = absurd goes
          pick (Some input) (Some left) goes = (last_world w goes.going.done, goes.going.stands)

      -- the run stopped between two lines
      pub stops_here : OfInput input (λ bytes. Stopped Means (script_events bytes w) w h t u)
      stops_here = pick input left goes
        where
          pick : (input : Option (List ℕ)) (left : Option (List (ℕ × ScriptLine))) → GoesOn Means input w bodies number left h t u any → OfInput input (λ bytes. Stopped Means (script_events bytes w) w h t u)
          pick None left goes = (goes.0 ++ [], stops_with (goes.0 ++ []) (script_from (number + 1) (lines [])) (goes.1 []))
          pick (Some input) None goes = absurd goes
          pick (Some input) (Some left) goes = stops_with input left goes

  -- the line that waits is the first that is left
  pub line_first : (input : Option (List ℕ)) (w : World) (h : List (Option Contents)) (t u : Option (List ℕ)) (bodies : Bodies) (any : Bool) (last : ℕ) (s : Script) (kind : LineKind) (number : ℕ) (text : List ℕ) (before left now : Option (List (ℕ × ScriptLine)))
      → GoesOn Means input w bodies last before h t u any → left ≡ before → next_kind s ≡ Some kind → number ≡ line_number s → text ≡ line_text s → left ≡ option_map (λ lines. next_line s ++ lines) now
      → GoesOn Means input w bodies last (option_map (λ lines. ((number, line_of kind text) ∷ []) ++ lines) now) h t u any
  line_first input w h t u bodies any last s kind number text before left now goes same is same_number same_text e =
      subst (λ (l : Option (List (ℕ × ScriptLine))). GoesOn Means input w bodies last l h t u any) (sym same ∙ waits s kind number text left now is same_number same_text e) goes

  -- ---- at a line

  module _ (w : World) (h h2 : List (Option Contents)) (t u u2 : Option (List ℕ)) (bodies : Bodies) (any : Bool) (number : ℕ) (line : ScriptLine) where
    -- the events of the line
    abbrev events : World → List (Event World)
    events v = line_events bodies number line v

    -- the first line that is left was taken and answered, and the program does with body lines what a run does
    takes_first : (input : List ℕ) (left : List (ℕ × ScriptLine)) (next : Bodies) (was : Bool) → IsGoing Means input w bodies ((number, line) ∷ left) h t u any
        → ((v : World) → Means h v → next ≡ bodies_after bodies number line v)
        → ((v : World) → Means h v → Went Means (events v) v h2 u u2 × (was ≡ is_refused (events v)))
        → IsGoing Means input w next left h2 t u2 (any || was)
    takes_first input left next was goes after happened =
        let was_going = goes.going in
        let v = last_world w was_going.done in
        let here = happened v was_going.stands in
        let going : Going Means (script_events input w) w (then_events events (talk next left)) h t u = record {
          done = was_going.done;
          split = was_going.split ∙ ap (λ (b : Bodies). was_going.done ++ then_events events (talk b left) v) (sym (after v was_going.stands));
          stands = was_going.stands;
          bytes = was_going.bytes;
        } in
        record {
          going = goes_on Means (script_events input w) w h h2 t u u2 events (talk next left) going here.0;
          refused = ap₂ (λ (a b : Bool). a || b) goes.refused here.1 ∙ sym (refused_append was_going.done (events v))
              ∙ ap is_refused (sym (done_after Means (script_events input w) w h h2 t u u2 events (talk next left) going here.0));
        }

    -- or the run stopped in its answer
    stops_in_first : (input : List ℕ) (left : List (ℕ × ScriptLine)) → IsGoing Means input w bodies ((number, line) ∷ left) h t u any
        → ((v : World) → Means h v → Stopped Means (events v) v h2 u u2) → Stopped Means (script_events input w) w h2 t u2
    stops_in_first input left goes stopped =
        let was_going = goes.going in
        let v = last_world w was_going.done in
        let later = talk (bodies_after bodies number line v) left in
        let going : Going Means (script_events input w) w (then_events events later) h t u = record {
          done = was_going.done;
          split = was_going.split;
          stands = was_going.stands;
          bytes = was_going.bytes;
        } in
        stops_in Means (script_events input w) w h h2 t u u2 events later going (stopped v was_going.stands)

    module _ (last : ℕ) (makes : MakesLine last number line) where
      -- bytes of which the lines up to this one are made have it as the first that is left
      made_first : (goes : (bytes : List ℕ) × ((rest : List ℕ) → IsGoing Means (bytes ++ rest) w bodies (script_from (last + 1) (lines rest)) h t u any)) (rest : List ℕ)
          → IsGoing Means (goes.0 ++ (makes.bytes ++ rest)) w bodies ((number, line) ∷ script_from (number + 1) (lines rest)) h t u any
      made_first goes rest = subst (λ (left : List (ℕ × ScriptLine)). IsGoing Means (goes.0 ++ (makes.bytes ++ rest)) w bodies left h t u any) (makes.made rest) (goes.1 (makes.bytes ++ rest))

      -- a line was taken and answered
      pub takes_line : (input : Option (List ℕ)) (left : Option (List (ℕ × ScriptLine))) (next : Bodies) (was : Bool) → GoesOn Means input w bodies last (option_map (λ lines. ((number, line) ∷ []) ++ lines) left) h t u any
          → ((v : World) → Means h v → next ≡ bodies_after bodies number line v)
          → ((v : World) → Means h v → Went Means (events v) v h2 u u2 × (was ≡ is_refused (events v)))
          → GoesOn Means input w next number left h2 t u2 (any || was)
      takes_line None left next was goes after happened = (
        goes.0 ++ makes.bytes,
        λ rest. subst (λ (bytes : List ℕ). IsGoing Means bytes w next (script_from (number + 1) (lines rest)) h2 t u2 (any || was)) (sym (append_assoc goes.0 makes.bytes rest))
            (takes_first (goes.0 ++ (makes.bytes ++ rest)) (script_from (number + 1) (lines rest)) next was (made_first goes rest) after happened),
      )
      takes_line (Some input) None next was goes after happened = absurd goes
      takes_line (Some input) (Some left) next was goes after happened = takes_first input left next was goes after happened

      -- the run stopped in the answer to a line
      pub stops_at_line : (input : Option (List ℕ)) (left : Option (List (ℕ × ScriptLine))) → GoesOn Means input w bodies last (option_map (λ lines. ((number, line) ∷ []) ++ lines) left) h t u any
          → ((v : World) → Means h v → Stopped Means (events v) v h2 u u2)
          → OfInput input (λ bytes. Stopped Means (script_events bytes w) w h2 t u2)
      stops_at_line None left goes stopped = (goes.0 ++ (makes.bytes ++ []), stops_in_first (goes.0 ++ (makes.bytes ++ [])) (script_from (number + 1) (lines [])) (made_first goes []) stopped)
      stops_at_line (Some input) None goes stopped = absurd goes
      stops_at_line (Some input) (Some left) goes stopped = stops_in_first input left goes stopped

  -- ---- at the end

  module _ (w : World) (h h2 : List (Option Contents)) (t u u2 : Option (List ℕ)) (bodies : Bodies) (any : Bool) where
    -- no line was left, and the last body was ended
    takes_last : (input : List ℕ) (was : Bool) → IsGoing Means input w bodies [] h t u any → ((v : World) → Means h v → Went Means (end_events bodies v) v h2 u u2 × (was ≡ is_refused (end_events bodies v)))
        → Went Means (script_events input w) w h2 t u2 × ((any || was) ≡ is_refused (script_events input w))
    takes_last input was ends happened =
        let going = ends.going in
        let v = last_world w going.done in
        let here = happened v going.stands in (
          subst (λ (events : List (Event World)). Went Means events w h2 t u2) (sym going.split) (went_both Means w going.done (end_events bodies v) h h2 t u u2 (record { stands = going.stands; bytes = going.bytes }) here.0),
          ap₂ (λ (a b : Bool). a || b) ends.refused here.1 ∙ sym (refused_append going.done (end_events bodies v)) ∙ ap is_refused (sym going.split),
        )

    -- or the run stopped at its end
    stops_in_last : (input : List ℕ) → IsGoing Means input w bodies [] h t u any → ((v : World) → Means h v → Stopped Means (end_events bodies v) v h2 u u2) → Stopped Means (script_events input w) w h2 t u2
    stops_in_last input ends stopped =
        let going = ends.going in
        let v = last_world w going.done in
        subst (λ (events : List (Event World)). Stopped Means events w h2 t u2) (sym going.split) (stopped_in_second Means w going.done (end_events bodies v) h h2 t u u2 (record { stands = going.stands; bytes = going.bytes }) (stopped v going.stands))

    module _ (input : Option (List ℕ)) (number : ℕ) (left : Option (List (ℕ × ScriptLine))) (goes : GoesOn Means input w bodies number left h t u any) (none : IfSome input (λ _. left ≡ Some [])) where
      -- at the end of the input the whole run happened
      pub takes_end : (was : Bool) → ((v : World) → Means h v → Went Means (end_events bodies v) v h2 u u2 × (was ≡ is_refused (end_events bodies v)))
          → OfInput input (λ bytes. Went Means (script_events bytes w) w h2 t u2 × ((any || was) ≡ is_refused (script_events bytes w)))
      takes_end was happened = pick input goes none
        where
          pick : (input : Option (List ℕ)) → GoesOn Means input w bodies number left h t u any → IfSome input (λ _. left ≡ Some []) → OfInput input (λ bytes. Went Means (script_events bytes w) w h2 t u2 × ((any || was) ≡ is_refused (script_events bytes w)))
          pick None goes none = (goes.0 ++ [], takes_last (goes.0 ++ []) was (goes.1 []) happened)
          pick (Some input) goes none = takes_last input was (subst (λ (l : Option (List (ℕ × ScriptLine))). GoesOn Means (Some input) w bodies number l h t u any) none goes) happened

      -- or it stopped there
      pub stops_at_end : ((v : World) → Means h v → Stopped Means (end_events bodies v) v h2 u u2) → OfInput input (λ bytes. Stopped Means (script_events bytes w) w h2 t u2)
      stops_at_end stopped = pick input goes none
        where
          pick : (input : Option (List ℕ)) → GoesOn Means input w bodies number left h t u any → IfSome input (λ _. left ≡ Some []) → OfInput input (λ bytes. Stopped Means (script_events bytes w) w h2 t u2)
          pick None goes none = (goes.0 ++ [], stops_in_last (goes.0 ++ []) (goes.1 []) stopped)
          pick (Some input) goes none = stops_in_last input (subst (λ (l : Option (List (ℕ × ScriptLine))). GoesOn Means (Some input) w bodies number l h t u any) none goes) stopped
