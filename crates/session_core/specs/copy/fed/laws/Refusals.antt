-- Laws of what is refused as an input is fed: proofs, and nothing to believe.
use Rattle.std.proofs.Common.{◌≡◌, ◌∙◌, ℕ, ◌+◌, List, [], ◌∷◌, ◌++◌, length, Bool, true, false, ◌||◌, refl, sym, ap, subst, Option, Some, None, is_some, nat_lt, if◌then◌else◌}
use Rattle.std.specs.Option.{option_map, option_map_or}
use Rattle.std.specs.Str.Lines.{lines}
use Rattle.repl_model.specs.Words.{AppendError, LogRecord, Refusal, Server, World, server_named}
use Rattle.repl_types.specs.declared.call_errors.AppendError.TheVariants as errors
use Rattle.line_input.specs.Limits.{line_limit}
use Rattle.log_text.specs.Records.{record_of}
use Rattle.repl_types.specs.declared.refusal.Refusal.TheVariants as refusals
use Rattle.reply_text.specs.Replies.{reply_line}
use Rattle.reply_text.specs.declared.reply.Reply.TheVariants as replies
use Rattle.run_core.specs.Runs.{Event, writes, last_world, is_refused}
use Rattle.run_core.specs.laws.Runs.{refused_append}
use Rattle.run_commands.specs.parts.Refusing.{refused}
use Rattle.run_commands.specs.Appending.{taken, append_error}
use Rattle.run_commands.specs.feed.Feeds.{new_feed, with_record, is_full}
use Rattle.run_commands.specs.feed.FeedEvents.{commit_events, error_events, server_events, batch_events, record_events, refused_events, feed_line_events, feed_end_events, after_record, feed_after, last_position}
use Rattle.run_commands.specs.declared.feed.feed.Feed.{Feed}
use Rattle.session_core.specs.copy.unwritten.laws.Refusals.{HasNoReplies, no_replies_both}
use Rattle.session_core.specs.FedLines.{is_blank}
use Rattle.session_core.specs.copy.fed.FedInput.{input_line_events, input_line_after, lines_events, input_events}

-- ---- records that are committed together

-- records are committed without a line
commits_silent : (name : List ℕ) (records : List LogRecord) (w : World) → HasNoReplies (commit_events name records w)
commits_silent name [] w = tt
commits_silent name (r ∷ rs) w = tt

-- the only line of a record that isn't taken refuses it
error_silent : (feed : Feed) (e : Option AppendError) → HasNoReplies (option_map_or (error_events feed) e [])
error_silent feed None = tt
error_silent feed (Some (errors.Fault fault)) = tt
error_silent feed (Some (errors.NotApplicable place)) = tt
error_silent feed (Some (errors.LogFull place)) = tt

-- or that of no server
batch_at : (feed : Feed) (w : World) (server : Option Server) → HasNoReplies (option_map_or (server_events feed w) server (refused (refusals.NoSuchServer feed.server)))
batch_at feed w None = tt
batch_at feed w (Some server) =
    no_replies_both (commit_events feed.server (taken server feed.records) w) (option_map_or (error_events feed) (append_error server feed.records) [])
    (commits_silent feed.server (taken server feed.records) w) (error_silent feed (append_error server feed.records))

-- so the records that wait write no line that is no refusal
batch_silent : (feed : Feed) (w : World) → HasNoReplies (batch_events feed w)
batch_silent feed w = batch_at feed w (server_named feed.server w)

-- some events and then more, if none of the first refused something, write no line that is no refusal, if neither do
more_silent : (batch more : List (Event World)) → HasNoReplies batch → HasNoReplies more → HasNoReplies (batch ++ (if is_refused batch then [] else more))
more_silent batch more first second = no_replies_both batch (if is_refused batch then [] else more) first (by_answer (is_refused batch))
  where
    by_answer : (b : Bool) → HasNoReplies (if b then [] else more)
    by_answer true = tt
    by_answer false = second

-- what is so of one of two is so of the first, if it isn't of the second
in_first : (a b : Bool) → b ≡ false → (a || b) ≡ true → a ≡ true
in_first true b none is = refl
in_first false b none is = absurd cc

-- or if what follows refuses nothing, and something is refused
first_silent : (batch more : List (Event World)) → HasNoReplies batch → is_refused more ≡ false → is_refused (batch ++ (if is_refused batch then [] else more)) ≡ true → HasNoReplies (batch ++ (if is_refused batch then [] else more))
first_silent batch more first none is = by_answer (is_refused batch) refl
  where
    by_answer : (b : Bool) → is_refused batch ≡ b → HasNoReplies (batch ++ (if is_refused batch then [] else more))
    by_answer true same = subst (λ (b : Bool). HasNoReplies (batch ++ (if b then [] else more))) (sym same) (no_replies_both batch [] first tt)
    by_answer false same =
        let all : is_refused (batch ++ more) ≡ true = subst (λ (b : Bool). is_refused (batch ++ (if b then [] else more)) ≡ true) same is in
        let early : is_refused batch ≡ true = in_first (is_refused batch) (is_refused more) none (sym (refused_append batch more) ∙ all) in
        absurd cc

-- ---- the lines of a feed

-- a line that is refused
refused_silent : (feed : Feed) (refusal : Refusal) (w : World) → HasNoReplies (refused_events feed refusal w)
refused_silent feed refusal w = more_silent (batch_events feed w) (refused refusal) (batch_silent feed w) tt

-- a record
record_silent : (feed : Feed) (number : ℕ) (r : LogRecord) (w : World) → HasNoReplies (record_events feed number r w)
record_silent feed number r w = by_form (is_full (with_record number r feed) r)
  where
    by_form : (full : Bool) → HasNoReplies (if full then batch_events (with_record number r feed) w else [])
    by_form true = batch_silent (with_record number r feed) w
    by_form false = tt

-- a body line
line_silent : (feed : Feed) (number : ℕ) (text : List ℕ) (w : World) → HasNoReplies (feed_line_events feed number text w)
line_silent feed number text w = by_record (record_of text)
  where
    by_record : (logged : Option LogRecord) → HasNoReplies (option_map_or (λ r. record_events feed number r w) logged (refused_events feed (refusals.BadLog number) w))
    by_record None = refused_silent feed (refusals.BadLog number) w
    by_record (Some r) = record_silent feed number r w

-- the end of a feed, if something is refused there
end_silent : (feed : Feed) (w : World) → is_refused (feed_end_events feed w) ≡ true → HasNoReplies (feed_end_events feed w)
end_silent feed w is = first_silent (batch_events feed w) (writes (reply_line (replies.Fed (feed.fed + length feed.records) (last_position feed w))) ∷ []) (batch_silent feed w) refl is

-- ---- the lines of an input

-- a line of an input
input_line_silent : (feed : Feed) (number : ℕ) (line : List ℕ) (w : World) → HasNoReplies (input_line_events feed number line w)
input_line_silent feed number line w = by_form (nat_lt line_limit (length line)) (is_blank line)
  where
    by_form : (long blank : Bool) → HasNoReplies (if long then refused_events feed (refusals.LineTooLong number) w else if blank then [] else feed_line_events feed number line w)
    by_form true blank = refused_silent feed (refusals.LineTooLong number) w
    by_form false true = tt
    by_form false false = line_silent feed number line w

-- no feed is left if something was refused at it
none_after : (feed : Feed) (number : ℕ) (line : List ℕ) (w : World) → is_refused (input_line_events feed number line w) ≡ true → input_line_after feed number line w ≡ None
none_after feed number line w = by_form (nat_lt line_limit (length line)) (is_blank line)
  where
    by_form : (long blank : Bool) → is_refused (if long then refused_events feed (refusals.LineTooLong number) w else if blank then [] else feed_line_events feed number line w) ≡ true
        → (if long then None else if blank then Some feed else feed_after feed number line w) ≡ None
    by_form true blank is = refl
    by_form false true is = absurd cc
    by_form false false is = ap (λ (b : Bool). if b then None else option_map (after_record feed number) (record_of line)) is

-- the lines after it, if something is refused at it or at them
later_silent : (feed : Feed) (number : ℕ) (line : List ℕ) (w v : World) (next : ℕ) (more : List (List ℕ)) (b : Bool)
    → is_refused (lines_events (input_line_after feed number line w) next more v) ≡ b
    → (is_refused (lines_events (input_line_after feed number line w) next more v) ≡ true → HasNoReplies (lines_events (input_line_after feed number line w) next more v))
    → (is_refused (input_line_events feed number line w) || is_refused (lines_events (input_line_after feed number line w) next more v)) ≡ true
    → HasNoReplies (lines_events (input_line_after feed number line w) next more v)
later_silent feed number line w v next more true same silent is = silent same
later_silent feed number line w v next more false same silent is =
    let here = in_first (is_refused (input_line_events feed number line w)) (is_refused (lines_events (input_line_after feed number line w) next more v)) same is in
    subst (λ (after : Option Feed). HasNoReplies (lines_events after next more v)) (sym (none_after feed number line w here)) tt

-- all lines of an input, if something is refused
lines_silent : (feed : Option Feed) (number : ℕ) (left : List (List ℕ)) (w : World) → is_refused (lines_events feed number left w) ≡ true → HasNoReplies (lines_events feed number left w)
lines_silent None number left w is = tt
lines_silent (Some feed) number [] w is = end_silent feed w is
lines_silent (Some feed) number (line ∷ more) w is =
    let events = input_line_events feed number line w in
    let v = last_world w events in
    let after = input_line_after feed number line w in
    let later = lines_events after (number + 1) more v in
    no_replies_both events later (input_line_silent feed number line w)
    (later_silent feed number line w v (number + 1) more (is_refused later) refl (lines_silent after (number + 1) more v) (sym (refused_append events later) ∙ is))

-- If something is refused as an input is fed, then no line is written that is no refusal.
pub input_silent : (server input : List ℕ) (w : World) → is_refused (input_events server input w) ≡ true → HasNoReplies (input_events server input w)
input_silent server input w = by_server (is_some (server_named server w))
  where
    by_server : (known : Bool)
        → is_refused ((if known then [] else refused (refusals.NoSuchServer server)) ++ lines_events (if known then Some (new_feed server) else None) 1 (lines input) (last_world w (if known then [] else refused (refusals.NoSuchServer server)))) ≡ true
        → HasNoReplies ((if known then [] else refused (refusals.NoSuchServer server)) ++ lines_events (if known then Some (new_feed server) else None) 1 (lines input) (last_world w (if known then [] else refused (refusals.NoSuchServer server))))
    by_server true is = lines_silent (Some (new_feed server)) 1 (lines input) w is
    by_server false is = tt
