-- What a run does at the lines of a feed, one after another.
use Rattle.std.proofs.Common.{◌≡◌, ◌+◌, ℕ, List, length, [], ◌∷◌, ◌++◌, Bool, true, false, sym, ap, ◌∙◌, Option, Some, None, Result, Ok, Err, IfOk, IfSome, is_some, is_none, if◌then◌else◌, append-nil}
use Rattle.std.specs.Option.{option_map, option_map_or}
use Rattle.world_store.specs.Words.{Stands}
use Rattle.site_store.specs.Words.{Kept, AllClosed, HasNone, IsPlace, names, held, work}
use Rattle.site_store.specs.declared.sites.Sites.{Sites}
use Rattle.repl_model.specs.Words.{LogRecord, Server, World}
use Rattle.repl_types.specs.declared.refusal.Refusal.TheVariants as refusals
use Rattle.log_text.specs.Records.{record_of}
use Rattle.reply_text.specs.Replies.{reply_line}
use Rattle.reply_text.specs.declared.reply.Reply.TheVariants as replies
use Rattle.run_core.specs.Runs.{Event, writes, last_world, is_refused}
use Rattle.run_core.specs.laws.Runs.{stopped_in_first}
use Rattle.stored_defs.specs.laws.Standing.{server_at_place, no_server}
use Rattle.run_commands.specs.parts.Parts.{IsPart}
use Rattle.run_commands.specs.declared.parts.run_error.RunError.{RunError}
use Rattle.run_commands.specs.parts.Refusing.{refused}
use Rattle.run_commands.specs.parts.laws.Composing.{part_as, part_gives, part_then}
use Rattle.run_commands.specs.feed.FeedEvents.{batch_events, batch_and, begin_events, begun, record_events, refused_events, feed_line_events, after_record, feed_after, last_position}
use Rattle.run_commands.specs.feed.Feeds.{new_feed, with_record, committed, is_full}
use Rattle.run_commands.specs.declared.feed.feed.Feed.{Feed}

-- ---- the line of the command

module _ {K : Type 0} (kept : K → Kept) (s0 : Sites K) (closed : AllClosed (work kept s0)) (name : List ℕ) where
  -- at a server that is there nothing is done
  pub nothing_begins : (n : ℕ) → IsPlace (names s0) name n → (w : World) → Stands (names s0) (held kept s0) w → [] ≡ begin_events name w
  nothing_begins n place w stands = ap (λ (o : Option Server). if is_some o then [] else refused (refusals.NoSuchServer name)) (sym (server_at_place kept s0 closed w stands name n s0.servers.apart place))

  -- and a feed of it begins
  pub feed_begins : (n : ℕ) → IsPlace (names s0) name n → (w : World) → Stands (names s0) (held kept s0) w → Some (new_feed name) ≡ begun name w
  feed_begins n place w stands = ap (λ (o : Option Server). if is_some o then Some (new_feed name) else None) (sym (server_at_place kept s0 closed w stands name n s0.servers.apart place))

  -- one that isn't there is refused
  pub name_refused : HasNone (names s0) name → (w : World) → Stands (names s0) (held kept s0) w → refused (refusals.NoSuchServer name) ≡ begin_events name w
  name_refused none w stands = ap (λ (o : Option Server). if is_some o then [] else refused (refusals.NoSuchServer name)) (sym (no_server kept s0 closed w stands name none))

  -- and no feed begins
  pub none_begins : HasNone (names s0) name → (w : World) → Stands (names s0) (held kept s0) w → None ≡ begun name w
  none_begins none w stands = ap (λ (o : Option Server). if is_some o then Some (new_feed name) else None) (sym (no_server kept s0 closed w stands name none))

-- ---- a record

module _ (feed : Feed) (number : ℕ) (r : LogRecord) where
  -- a record waits if there are too few, and nothing is done
  pub nothing_fed : is_full (with_record number r feed) r ≡ false → (w : World) → [] ≡ record_events feed number r w
  nothing_fed few w = ap (λ (full : Bool). if full then batch_events (with_record number r feed) w else []) (sym few)

  -- then it is one that waits
  pub waits : is_full (with_record number r feed) r ≡ false → with_record number r feed ≡ after_record feed number r
  waits few = ap (λ (full : Bool). if full then committed (with_record number r feed) else with_record number r feed) (sym few)

  -- if there are enough, those that wait are committed
  pub batch_fed : is_full (with_record number r feed) r ≡ true → (w : World) → batch_events (with_record number r feed) w ≡ record_events feed number r w
  batch_fed full w = ap (λ (b : Bool). if b then batch_events (with_record number r feed) w else []) (sym full)

  -- then none waits
  pub none_waits : is_full (with_record number r feed) r ≡ true → committed (with_record number r feed) ≡ after_record feed number r
  none_waits full = ap (λ (b : Bool). if b then committed (with_record number r feed) else with_record number r feed) (sym full)

  -- what is after the records that wait are committed is the feed after the record
  pub after_batch : is_full (with_record number r feed) r ≡ true → (more : Feed) → more ≡ with_record number r feed → (after : Option Feed) → IfSome after (λ f. f ≡ committed more) → IfSome after (λ f. f ≡ after_record feed number r)
  after_batch full more is None same = tt
  after_batch full more is (Some f) same = same ∙ ap committed is ∙ none_waits full

-- ---- a body line

module _ (feed : Feed) (number : ℕ) (text : List ℕ) where
  -- the feed after a line, by whether something was refused, and by the record
  abbrev chosen : Bool → Option LogRecord → Option Feed
  chosen refuses o = if refuses then None else option_map (after_record feed number) o

  -- a line that is read is a record
  pub line_read : (r : LogRecord) → record_of text ≡ Some r → (w : World) → record_events feed number r w ≡ feed_line_events feed number text w
  line_read r is w = ap (λ (o : Option LogRecord). option_map_or (λ entry. record_events feed number entry w) o (refused_events feed (refusals.BadLog number) w)) (sym is)

  -- the feed after it is that after the record
  pub after_read : (r : LogRecord) → record_of text ≡ Some r → (after : Option Feed) (w : World) → is_none after ≡ is_refused (record_events feed number r w) → IfSome after
      (λ f. f ≡ after_record feed number r) → after ≡ feed_after feed number text w
  after_read r is None w refuses may = ap (λ (b : Bool). chosen b (record_of text)) (refuses ∙ ap is_refused (line_read r is w))
  after_read r is (Some f) w refuses may =
      ap (λ (x : Feed). Some x) may
      ∙ ap (chosen false) (sym is)
      ∙ ap (λ (b : Bool). chosen b (record_of text)) (refuses ∙ ap is_refused (line_read r is w))

  -- a line that isn't is refused
  pub line_unread : record_of text ≡ None → (w : World) → refused_events feed (refusals.BadLog number) w ≡ feed_line_events feed number text w
  line_unread none w = ap (λ (o : Option LogRecord). option_map_or (λ entry. record_events feed number entry w) o (refused_events feed (refusals.BadLog number) w)) (sym none)

  -- there is no feed after it
  pub after_unread : record_of text ≡ None → (w : World) → true ≡ is_refused (refused_events feed (refusals.BadLog number) w) → None ≡ feed_after feed number text w
  after_unread none w refuses = ap (λ (b : Bool). chosen b (record_of text)) (refuses ∙ ap is_refused (line_unread none w))

-- ---- a commit of the records that wait, and then something more

-- the commit, and what follows by whether something was refused
abbrev chosen_after : Feed → (World → List (Event World)) → World → Bool → List (Event World)
chosen_after feed more w refuses = batch_events feed w ++ (if refuses then [] else more w)

module _ {K O : Type 0} {kept : K → Kept} {taken : O → Option (List ℕ)} {faults : O → ℕ} {s0 s1 : Sites K} {o p : O} (feed : Feed) (more : World → List (Event World)) where
  -- it failed, and nothing follows
  pub batch_fails : {U : Type 0} {e : RunError} (refuses : U → Bool) → IsPart kept taken faults s0 s1 o p (batch_events feed) (is_none {T = ℕ}) (Err e) → IsPart kept taken faults s0 s1 o p (λ w. batch_and feed (more w) w) refuses (Err e)
  batch_fails refuses part = record {
    ok = tt;
    stopped = λ w stands. stopped_in_first (Stands (names s0)) w (batch_events feed w) (if is_refused (batch_events feed w) then [] else more w) (held kept s1) (taken o) (taken p) (part.stopped w stands);
    servers = part.servers;
    cause = part.cause;
    counts = part.counts;
  }

  -- if something was refused, nothing follows
  pub batch_refused : {U : Type 0} (refuses : U → Bool) (y : U) → true ≡ refuses y → IsPart kept taken faults s0 s1 o p (batch_events feed) (is_none {T = ℕ}) (Ok None) → IsPart kept taken faults s0 s1 o p (λ w. batch_and feed (more w) w) refuses (Ok y)
  batch_refused refuses y is part = part_as (λ w. batch_and feed (more w) w) (λ w stands. sym (append-nil (batch_events feed w)) ∙ ap (chosen_after feed more w) (part.ok w stands).1) (part_gives refuses y is part)

  -- else this does
  pub batch_then : {U : Type 0} {s2 : Sites K} {q : O} {refuses : U → Bool} {last : ℕ} {r : Result U RunError} (next : World → List (Event World)) → ((w : World) → Stands (names s0) (held kept s0) w → (v : World) → next v ≡ more w)
      → IsPart kept taken faults s0 s1 o p (batch_events feed) (is_none {T = ℕ}) (Ok (Some last)) → IsPart kept taken faults s1 s2 p q next refuses r → IsPart kept taken faults s0 s2 o q (λ w. batch_and feed (more w) w) refuses r
  batch_then next are part later = part_as (λ w. batch_and feed (more w) w)
      (λ w stands. ap (λ (es : List (Event World)). batch_events feed w ++ es) (are w stands (last_world w (batch_events feed w))) ∙ ap (chosen_after feed more w) (part.ok w stands).1)
      (part_then part later)

-- the line that says how many records were fed
abbrev told : ℕ → ℕ → List (Event World)
told records last = writes (reply_line (replies.Fed records last)) ∷ []

-- at the end of a feed
abbrev pub fed_line : Feed → World → List (Event World)
fed_line feed w = told (feed.fed + length feed.records) (last_position feed w)

-- it is the one that the feed calls for
pub told_same : (feed : Feed) (w : World) (count last : ℕ) → count ≡ length feed.records → last ≡ last_position feed w → told (feed.fed + count) last ≡ told (feed.fed + length feed.records) (last_position feed w)
told_same feed w count last counted position = λ i. told (feed.fed + counted i) (position i)

-- what follows from two facts of a value that is answered
pub ok_both : {T E : Type 0} {P Q R : T → Type 0} (r : Result T E) → ((x : T) → P x → Q x → R x) → IfOk r P → IfOk r Q → IfOk r R
ok_both (Ok x) follows p q = follows x p q
ok_both (Err e) follows p q = tt
