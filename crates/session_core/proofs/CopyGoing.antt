-- How a run goes on that feeds the lines of an input, line by line.
use Rattle.std.proofs.Common.{◌≡◌, ◌≢◌, ◌∙◌, ◌||◌, ℕ, ◌+◌, List, [], ◌∷◌, ◌++◌, append_assoc, Bool, refl, sym, ap, subst, Option, Some, None, is_none, append-nil}
use Rattle.std.specs.Str.Lines.{lines}
use Rattle.site_store.specs.Words.{Contents, Takes}
use Rattle.repl_model.specs.Words.{World}
use Rattle.line_input.specs.Input.{NextLineIs, ReadsLine, IsLineText}
use Rattle.line_input.specs.laws.Lines.{next_line_made}
use Rattle.line_input.specs.declared.input.Next.{Next}
use Rattle.line_input.specs.declared.input.Next.TheVariants.{End}
use Rattle.run_core.specs.Runs.{Event, last_world, lines_of, is_refused, Going, Went, Stopped}
use Rattle.run_core.specs.laws.Runs.{refused_append, stopped_in_first, went_both, stopped_in_second, goes_on, done_after, stops_in, no_part}
use Rattle.run_commands.specs.parts.Parts.{then_events}
use Rattle.run_commands.specs.feed.FeedEvents.{begin_events, begun}
use Rattle.run_commands.specs.declared.feed.feed.Feed.{Feed}
use Rattle.session_core.specs.Inputs.{OfInput}
use Rattle.session_core.specs.copy.fed.FedInput.{lines_events, input_events}
use Rattle.session_core.specs.copy.fed.Feeding.{IsFeeding, GoesOn}
use Rattle.session_core.specs.copy.fed.Lines.{next_events, next_after, end_events}
use Rattle.session_core.proofs.CopyFirstLines.{line_first, none_first}
use Rattle.session_core.proofs.ReadInputs.{of_any}

module _ (Means : List (Option Contents) → World → Type 0) (server : List ℕ) where
  -- ---- the beginning

  module _ (w : World) (h : List (Option Contents)) (t u : Option (List ℕ)) where
    -- the feed was begun, and all lines are left
    all_left : (input : List ℕ) (feed : Option Feed) → feed ≡ begun server w → Went Means (begin_events server w) w h t u × (is_none feed ≡ is_refused (begin_events server w)) → IsFeeding Means server input w feed 1 (lines input) h t u
    all_left input feed is happened =
        let first = begin_events server w in record {
          going = record {
            done = first;
            split = ap (λ (f : Option Feed). first ++ lines_events f 1 (lines input) (last_world w first)) (sym is);
            stands = happened.0.stands;
            bytes = happened.0.bytes;
          };
          refused = happened.1;
        }

    -- and no line was read
    pub begins : (input left : Option (List ℕ)) (feed : Option Feed) → left ≡ input → feed ≡ begun server w → Went Means (begin_events server w) w h t u × (is_none feed ≡ is_refused (begin_events server w)) → GoesOn Means server input w feed 1 left h t u
    begins None left feed same is happened = ([], λ rest. all_left rest feed is happened)
    begins (Some input) left feed same is happened = subst (λ (l : Option (List ℕ)). GoesOn Means server (Some input) w feed 1 l h t u) (sym same) (all_left input feed is happened)

    -- or the run stopped there
    pub stops_first : (input : Option (List ℕ)) → Stopped Means (begin_events server w) w h t u → OfInput input (λ bytes. Stopped Means (input_events server bytes w) w h t u)
    stops_first input stopped = of_any input (λ bytes. Stopped Means (input_events server bytes w) w h t u)
        (λ bytes. stopped_in_first Means w (begin_events server w) (lines_events (begun server w) 1 (lines bytes) (last_world w (begin_events server w))) h t u stopped)

  -- ---- between two lines

  -- the servers stand for a world
  pub stands_now : (input left : Option (List ℕ)) (w : World) (h : List (Option Contents)) (t u : Option (List ℕ)) (feed : Option Feed) (number : ℕ) → GoesOn Means server input w feed number left h t u → (v : World) × Means h v
  stands_now None left w h t u feed number goes = let going = (goes.1 []).going in (last_world w going.done, going.stands)
  stands_now (Some input) None w h t u feed number goes = absurd goes
  stands_now (Some input) (Some left) w h t u feed number goes = (last_world w goes.going.done, goes.going.stands)

  -- the run stopped with these lines left
  stops_with : (input : List ℕ) (left : List (List ℕ)) (w : World) (h : List (Option Contents)) (t u : Option (List ℕ)) (feed : Option Feed) (number : ℕ) → IsFeeding Means server input w feed number left h t u → Stopped Means (input_events server input w) w h t u
  stops_with input left w h t u feed number goes =
      let going = goes.going in
      record {
        done = going.done;
        rest = lines_events feed number left (last_world w going.done);
        part = [];
        split = going.split;
        stands = going.stands;
        bytes = subst (Takes t u) (sym (append-nil (lines_of going.done))) going.bytes;
        is_part = no_part (lines_events feed number left (last_world w going.done));
      }

  -- the run stopped
  pub stops_here : (input left : Option (List ℕ)) (w : World) (h : List (Option Contents)) (t u : Option (List ℕ)) (feed : Option Feed) (number : ℕ) → GoesOn Means server input w feed number left h t u → OfInput input (λ bytes. Stopped Means (input_events server bytes w) w h t u)
  stops_here None left w h t u feed number goes = (goes.0 ++ [], stops_with (goes.0 ++ []) (lines []) w h t u feed number (goes.1 []))
  stops_here (Some input) None w h t u feed number goes = absurd goes
  stops_here (Some input) (Some left) w h t u feed number goes = stops_with input (lines left) w h t u feed number goes

  -- ---- at a line

  module _ (w : World) (h h2 : List (Option Contents)) (t u u2 : Option (List ℕ)) (feed : Option Feed) (number : ℕ) (next : Next) (line : List ℕ) (more : next ≢ End) where
    -- the events of the line
    abbrev events : World → List (Event World)
    events v = next_events feed number next line v

    -- the line is the first that is left, and this is the feed after it
    at_line : (input bytes rest : List ℕ) (after : Option Feed) → IsFeeding Means server input w feed number (lines bytes) h t u → NextLineIs next line bytes rest → ((v : World) → Means h v → after ≡ next_after feed number next line v)
        → Going Means (input_events server input w) w (then_events events (lines_events after (number + 1) (lines rest))) h t u
    at_line input bytes rest after feeding reads is =
        let going = feeding.going in
        let v = last_world w going.done in
        record {
          done = going.done;
          split = going.split ∙ ap (λ (es : List (Event World)). going.done ++ es)
              (line_first feed number next line bytes rest v more reads ∙ ap (λ (f : Option Feed). then_events events (lines_events f (number + 1) (lines rest)) v) (sym (is v going.stands)));
          stands = going.stands;
          bytes = going.bytes;
        }

    -- the first of the lines that are left was fed
    takes_first : (input bytes rest : List ℕ) (after : Option Feed) → IsFeeding Means server input w feed number (lines bytes) h t u → NextLineIs next line bytes rest
        → ((v : World) → Means h v → after ≡ next_after feed number next line v)
        → ((v : World) → Means h v → Went Means (events v) v h2 u u2 × (is_none after ≡ (is_none feed || is_refused (events v))))
        → IsFeeding Means server input w after (number + 1) (lines rest) h2 t u2
    unfolding at_line
    takes_first input bytes rest after goes reads is happened =
        let was = goes.going in
        let v = last_world w was.done in
        let here = happened v was.stands in
        let going = at_line input bytes rest after goes reads is in
        let left = lines_events after (number + 1) (lines rest) in
        record {
          going = goes_on Means (input_events server input w) w h h2 t u u2 events left going here.0;
          refused = here.1 ∙ ap (λ (any : Bool). any || is_refused (events v)) goes.refused ∙ sym (refused_append was.done (events v))
              ∙ ap is_refused (sym (done_after Means (input_events server input w) w h h2 t u u2 events left going here.0));
        }

    -- or the run stopped at it
    stops_in_first_line : (input bytes rest : List ℕ) → IsFeeding Means server input w feed number (lines bytes) h t u → NextLineIs next line bytes rest
        → ((v : World) → Means h v → Stopped Means (events v) v h2 u u2) → Stopped Means (input_events server input w) w h2 t u2
    stops_in_first_line input bytes rest goes reads stopped =
        let was = goes.going in
        let v = last_world w was.done in
        let later = lines_events (next_after feed number next line v) (number + 1) (lines rest) in
        let going : Going Means (input_events server input w) w (then_events events later) h t u = record {
          done = was.done;
          split = was.split ∙ ap (λ (es : List (Event World)). was.done ++ es) (line_first feed number next line bytes rest v more reads);
          stands = was.stands;
          bytes = was.bytes;
        } in
        stops_in Means (input_events server input w) w h h2 t u u2 events later going (stopped v was.stands)

    module _ (text : IsLineText next line) where
      -- the bytes of a line that are made up
      abbrev made : List ℕ
      made = line ++ 13 ∷ 10 ∷ []

      -- the line was fed
      pub takes_line : (input before now : Option (List ℕ)) (after : Option Feed) → GoesOn Means server input w feed number before h t u → ReadsLine next line before now
          → ((v : World) → Means h v → after ≡ next_after feed number next line v)
          → ((v : World) → Means h v → Went Means (events v) v h2 u u2 × (is_none after ≡ (is_none feed || is_refused (events v))))
          → GoesOn Means server input w after (number + 1) now h2 t u2
      takes_line None before now after goes reads is happened = (
        goes.0 ++ made,
        λ rest. subst (λ (input : List ℕ). IsFeeding Means server input w after (number + 1) (lines rest) h2 t u2)
            (sym (append_assoc goes.0 made rest ∙ ap (λ (bytes : List ℕ). goes.0 ++ bytes) (append_assoc line (13 ∷ 10 ∷ []) rest)))
            (takes_first (goes.0 ++ (line ++ 13 ∷ 10 ∷ rest)) (line ++ 13 ∷ 10 ∷ rest) rest after (goes.1 (line ++ 13 ∷ 10 ∷ rest)) (next_line_made next line rest more text) is happened),
      )
      takes_line (Some input) None now after goes reads is happened = absurd goes
      takes_line (Some input) (Some bytes) None after goes reads is happened = absurd reads
      takes_line (Some input) (Some bytes) (Some rest) after goes reads is happened = takes_first input bytes rest after goes reads is happened

      -- the run stopped at the line
      pub stops_at_line : (input before now : Option (List ℕ)) → GoesOn Means server input w feed number before h t u → ReadsLine next line before now
          → ((v : World) → Means h v → Stopped Means (events v) v h2 u u2)
          → OfInput input (λ bytes. Stopped Means (input_events server bytes w) w h2 t u2)
      stops_at_line None before now goes reads stopped = (goes.0 ++ made, stops_in_first_line (goes.0 ++ made) made [] (goes.1 made) (next_line_made next line [] more text) stopped)
      stops_at_line (Some input) None now goes reads stopped = absurd goes
      stops_at_line (Some input) (Some bytes) None goes reads stopped = absurd reads
      stops_at_line (Some input) (Some bytes) (Some rest) goes reads stopped = stops_in_first_line input bytes rest goes reads stopped

  -- ---- at the end

  module _ (w : World) (h h2 : List (Option Contents)) (t u u2 : Option (List ℕ)) (feed : Option Feed) (number : ℕ) (line : List ℕ) where
    -- no lines are left
    at_end : (input bytes : List ℕ) (feeding : IsFeeding Means server input w feed number (lines bytes) h t u) → bytes ≡ [] → input_events server input w ≡ feeding.going.done ++ end_events feed (last_world w feeding.going.done)
    at_end input bytes feeding none =
        let going = feeding.going in
        going.split ∙ ap (λ (es : List (Event World)). going.done ++ es) (none_first feed number bytes (last_world w going.done) none)

    -- so the feed was ended
    takes_last : (input bytes : List ℕ) (any : Bool) → IsFeeding Means server input w feed number (lines bytes) h t u → bytes ≡ []
        → ((v : World) → Means h v → Went Means (end_events feed v) v h2 u u2 × (any ≡ (is_none feed || is_refused (end_events feed v))))
        → Went Means (input_events server input w) w h2 t u2 × (any ≡ is_refused (input_events server input w))
    takes_last input bytes any goes none happened =
        let going = goes.going in
        let v = last_world w going.done in
        let here = happened v going.stands in
        let split = at_end input bytes goes none in (
          subst (λ (events : List (Event World)). Went Means events w h2 t u2) (sym split) (went_both Means w going.done (end_events feed v) h h2 t u u2 (record { stands = going.stands; bytes = going.bytes }) here.0),
          here.1 ∙ ap (λ (was : Bool). was || is_refused (end_events feed v)) goes.refused ∙ sym (refused_append going.done (end_events feed v)) ∙ ap is_refused (sym split),
        )

    -- or the run stopped there
    stops_in_last : (input bytes : List ℕ) → IsFeeding Means server input w feed number (lines bytes) h t u → bytes ≡ []
        → ((v : World) → Means h v → Stopped Means (end_events feed v) v h2 u u2) → Stopped Means (input_events server input w) w h2 t u2
    stops_in_last input bytes goes none stopped =
        let going = goes.going in
        let v = last_world w going.done in
        subst (λ (events : List (Event World)). Stopped Means events w h2 t u2) (sym (at_end input bytes goes none))
        (stopped_in_second Means w going.done (end_events feed v) h h2 t u u2 (record { stands = going.stands; bytes = going.bytes }) (stopped v going.stands))

    -- the feed was ended at the end of the input
    pub takes_end : (input before now : Option (List ℕ)) (any : Bool) → GoesOn Means server input w feed number before h t u → ReadsLine End line before now
        → ((v : World) → Means h v → Went Means (end_events feed v) v h2 u u2 × (any ≡ (is_none feed || is_refused (end_events feed v))))
        → OfInput input (λ bytes. Went Means (input_events server bytes w) w h2 t u2 × (any ≡ is_refused (input_events server bytes w)))
    takes_end None before now any goes reads happened = (goes.0 ++ [], takes_last (goes.0 ++ []) [] any (goes.1 []) refl happened)
    takes_end (Some input) None now any goes reads happened = absurd goes
    takes_end (Some input) (Some bytes) None any goes reads happened = absurd reads
    takes_end (Some input) (Some bytes) (Some rest) any goes reads happened = takes_last input bytes any goes reads.0 happened

    -- or the run stopped there
    pub stops_at_end : (input before now : Option (List ℕ)) → GoesOn Means server input w feed number before h t u → ReadsLine End line before now
        → ((v : World) → Means h v → Stopped Means (end_events feed v) v h2 u u2)
        → OfInput input (λ bytes. Stopped Means (input_events server bytes w) w h2 t u2)
    stops_at_end None before now goes reads stopped = (goes.0 ++ [], stops_in_last (goes.0 ++ []) [] (goes.1 []) refl stopped)
    stops_at_end (Some input) None now goes reads stopped = absurd goes
    stops_at_end (Some input) (Some bytes) None goes reads stopped = absurd reads
    stops_at_end (Some input) (Some bytes) (Some rest) goes reads stopped = stops_in_last input bytes goes reads.0 stopped
