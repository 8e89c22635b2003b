-- What is read of an input, as its next line.
use Rattle.std.proofs.Common.{◌≡◌, ◌≢◌, ◌∙◌, ℕ, ◌+◌, ◌<◌, ◌≤◌, Bool, List, [], ◌∷◌, length, refl, sym, ap, arith, Option, Some, None, if◌then◌else◌, option_map, IfSome, lt-ltb, le-ltb}
use Rattle.std.specs.Str.Lines.{lines}
use Rattle.std.proofs.lemmas.Option.{same_Some}
use Rattle.std.proofs.lemmas.List.{nil_from_length, length-append}
use Rattle.repl_model.specs.Words.{World}
use Rattle.line_input.specs.Limits.{line_limit, input_limit}
use Rattle.line_input.specs.Input.{piece_left, left_of, total_of, NextLineIs, ReadsLine}
use Rattle.line_input.specs.declared.input.Input.{Input}
use Rattle.line_input.specs.declared.input.Next.{Next}
use Rattle.line_input.specs.declared.input.Next.TheVariants.{End, Line, LongLine}
use Rattle.repl_types.specs.declared.refusal.Refusal.TheVariants as refusals
use Rattle.run_core.specs.Runs.{Event}
use Rattle.run_commands.specs.parts.Parts.{then_events}
use Rattle.run_commands.specs.feed.FeedEvents.{refused_events}
use Rattle.run_commands.specs.declared.feed.feed.Feed.{Feed}
use Rattle.session_core.specs.copy.fed.FedInput.{lines_events}
use Rattle.session_core.specs.FedLines.{short_line_events, short_line_after}
use Rattle.session_core.specs.copy.fed.Lines.{next_events, next_after, end_events}

-- the events at a line, and then those at the lines after it
abbrev pub line_and_more : Option Feed → ℕ → Next → List ℕ → List (List ℕ) → World → List (Event World)
line_and_more feed number next line more w = then_events (next_events feed number next line) (lines_events (next_after feed number next line w) (number + 1) more) w

-- what is done at a line within the limit, and at those after it
short_first : (feed : Feed) (number : ℕ) (line : List ℕ) (more : List (List ℕ)) (w : World) → length line ≤ line_limit → lines_events (Some feed) number (line ∷ more) w ≡ line_and_more (Some feed) number Line line more w
short_first feed number line more w short =
    ap (λ (long : Bool). then_events (λ v. if long then refused_events feed (refusals.LineTooLong number) v else short_line_events feed number line v) (lines_events (if long then None else short_line_after feed number line w) (number + 1) more) w)
    (le-ltb line_limit (length line) short)

-- at one over the limit, of which other bytes are kept
long_first : (feed : Feed) (number : ℕ) (text line : List ℕ) (more : List (List ℕ)) (w : World) → line_limit < length text → lines_events (Some feed) number (text ∷ more) w ≡ line_and_more (Some feed) number LongLine line more w
long_first feed number text line more w long =
    ap (λ (long : Bool). then_events (λ v. if long then refused_events feed (refusals.LineTooLong number) v else short_line_events feed number text v) (lines_events (if long then None else short_line_after feed number text w) (number + 1) more) w)
    (lt-ltb line_limit (length text) long)

-- what is done at the lines of some bytes is what is done at the next line, and at those of the bytes after it
pub line_first : (feed : Option Feed) (number : ℕ) (next : Next) (line bytes rest : List ℕ) (w : World) → next ≢ End → NextLineIs next line bytes rest → lines_events feed number (lines bytes) w ≡ line_and_more feed number next line (lines rest) w
line_first None number next line bytes rest w more is = refl
line_first (Some feed) number End line bytes rest w more is = absurd (more refl)
line_first (Some feed) number Line line bytes rest w more is = ap (λ (left : List (List ℕ)). lines_events (Some feed) number left w) is.0 ∙ short_first feed number line (lines rest) w is.1
line_first (Some feed) number LongLine line bytes rest w more is = ap (λ (left : List (List ℕ)). lines_events (Some feed) number left w) is.1 ∙ long_first feed number is.0 line (lines rest) w is.2

-- at the end there are no lines
pub none_first : (feed : Option Feed) (number : ℕ) (bytes : List ℕ) (w : World) → bytes ≡ [] → lines_events feed number (lines bytes) w ≡ end_events feed w
none_first feed number bytes w none = ap (λ (left : List ℕ). lines_events feed number (lines left) w) none ∙ by_feed feed
  where
    by_feed : (feed : Option Feed) → lines_events feed number (lines []) w ≡ end_events feed w
    by_feed None = refl
    by_feed (Some feed) = refl

-- an input that was read to its end has no bytes left, and had no more than it may have
pub all_read : (input before later : Option (List ℕ)) (i j : Input) (line : List ℕ) → total_of i before ≡ option_map (λ bytes. length bytes) input → ReadsLine End line (left_of i before) (left_of j later) → total_of j later ≡ total_of i before → j.taken ≤ input_limit
    → IfSome input (λ bytes. (later ≡ Some []) × (length bytes ≤ input_limit))
all_read None before later i j line total reads same limited = tt
all_read (Some input) None later i j line total reads same limited = absurd cc
all_read (Some input) (Some bytes) None i j line total reads same limited = absurd reads
all_read (Some input) (Some bytes) (Some rest) i j line total reads same limited =
    let none : rest ≡ [] = nil_from_length rest (omega (arith, sym (length-append (piece_left j) rest) ∙ ap length reads.1)) in
    let count : j.taken + length rest ≡ length input = same_Some (j.taken + length rest) (length input) (same ∙ total) in
    (ap (λ (left : List ℕ). Some left) none, omega (arith, count, ap length none, limited))
