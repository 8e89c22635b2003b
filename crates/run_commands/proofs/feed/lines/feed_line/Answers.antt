use Rattle.std.proofs.Common.{◌∙◌, ◌+◌, ◌≤◌, Err, length, ap, subst, sym, Option, IfSome, is_none}
use Rattle.run_commands.specs.parts.laws.Composing.{no_memory, part_as}
use Rattle.run_commands.specs.parts.laws.Exits.{ok_also}
use Rattle.run_commands.specs.feed.FeedEvents.{feed_line_events}
use Rattle.run_commands.specs.feed.Feeds.{IsFeed}
use Rattle.run_commands.specs.declared.feed.feed.Feed.{Feed}
use Rattle.run_commands.proofs.BodyLines.{line_read, after_read, line_unread, after_unread, ok_both}
use Rattle.run_commands.proofs.Feeds.{feed_within}
use Rattle.run_commands.proofs.feed.lines.feed_line.Goals as goal

pub feed_record-requires : goal.feed_record-requires
feed_record-requires g c = record {
  closed = c.requires.closed;
  feed = c.requires.feed;
  later = c.requires.later;
  few = c.requires.few;
  may = c.records_of_lines_may_be_appended.ensures c.args.text.now c.in-Ok.logged c.in-Ok.ensures.ok;
}

pub refuse_text-requires : goal.refuse_text-requires
refuse_text-requires g c = record { closed = c.requires.closed; feed = c.requires.feed }

pub returns-in-Ok : goal.returns-in-Ok
returns-in-Ok g c =
    let feed = c.args.feed in
    let number = c.args.number in
    let text = c.args.text.now in
    let r = c.in-Ok.logged in
    let is = c.in-Ok.ensures.ok in
    let part = c.feed_record.ensures.part in
    let may = c.records_of_lines_may_be_appended.ensures text r is in
    record {
      part = part_as (feed_line_events feed number text) (λ w stands. line_read feed number text r is w) part;
      after = ok_both c.feed_record.result (λ after happened same w stands. after_read feed number text r is after w (happened w stands).1 same) part.ok c.feed_record.ensures.after;
      feed = ok_also c.feed_record.result (feed_within feed number r c.requires.feed c.requires.later c.requires.few may) c.feed_record.ensures.after;
    }

pub returns-in-Err-Memory : goal.returns-in-Err-Memory
returns-in-Err-Memory g c = record { part = no_memory (feed_line_events c.args.feed c.args.number c.args.text.now) c.requires.closed; after = tt; feed = tt }

pub returns : goal.returns
returns g c =
    let feed = c.args.feed in
    let number = c.args.number in
    let text = c.args.text.now in
    let r = c.refuse_text.result in
    let part = c.refuse_text.ensures.part in
    let none = c.in-Err-BadLog.ensures.bad (ap Err c.in-Err-BadLog.field-0-is) in
    record {
      part = part_as (feed_line_events feed number text) (λ w stands. line_unread feed number text none w) part;
      after = ok_both r (λ after same happened w stands. same ∙ after_unread feed number text none w (ap is_none (sym same) ∙ (happened w stands).1)) c.refuse_text.ensures.none part.ok;
      feed = ok_also r (λ after same. subst (λ (o : Option Feed). IfSome o (λ f. IsFeed f × (f.fed + length f.records ≤ number))) (sym same) tt) c.refuse_text.ensures.none;
    }
