use Rattle.std.proofs.Common.{◌≡◌, ◌∙◌, true, false, refl, sym, ap, subst, arith, Some, is_none}
use Rattle.run_commands.specs.parts.laws.Composing.{no_memory, nothing_to_do, part_as, part_err, err_value}
use Rattle.run_commands.specs.parts.laws.Exits.{ok_also}
use Rattle.run_commands.specs.feed.FeedEvents.{batch_events, record_events}
use Rattle.run_commands.specs.feed.Feeds.{is_full, IsFeed}
use Rattle.run_commands.specs.declared.feed.feed.Feed.{Feed}
use Rattle.run_commands.proofs.BodyLines.{nothing_fed, waits, batch_fed, after_batch}
use Rattle.run_commands.proofs.Feeds.{not_full, full_at_end, full_by_count, one_more}
use Rattle.run_commands.proofs.feed.lines.feed_record.Goals.{else-not-ends-via-then-not-ends+else-len-lt-BATCH_LIMIT, else-not-ends-via-else-not-ends}
use Rattle.run_commands.proofs.feed.lines.feed_record.Goals as goal

pub commit_waiting-requires : goal.commit_waiting-requires
commit_waiting-requires g c = record {
  closed = c.requires.closed;
  feed = subst IsFeed (sym c.in_ok-more.ensures) (one_more c.args.feed c.args.number c.args.logged c.requires.feed c.requires.later c.requires.few c.requires.may);
}

pub returns-in_err-more : goal.returns-in_err-more
returns-in_err-more g c =
    let r = c.from_residual.result in
    let is = c.from_residual.ensures.1 in
    record { part = part_err r is (no_memory (record_events c.args.feed c.args.number c.args.logged) c.requires.closed); after = err_value _ _ r is }

pub returns-then-len-lt-BATCH_LIMIT : goal.returns-then-len-lt-BATCH_LIMIT
returns-then-len-lt-BATCH_LIMIT g c =
    let feed = c.args.feed in
    let number = c.args.number in
    let r = c.args.logged in
    let more = c.in_ok-more.more in
    let few = subst (λ (f : Feed). is_full f r ≡ false) c.in_ok-more.ensures (not_full more r (sym c.ends_transaction-ends.ensures ∙ c.if-not-ends.true) (omega (arith, c.if-len-lt-BATCH_LIMIT.true, c.len.ensures.len))) in
    record {
      part = part_as (record_events feed number r) (λ w stands. nothing_fed feed number r few w) (nothing_to_do is_none (Some more) c.requires.closed refl);
      after = c.in_ok-more.ensures ∙ waits feed number r few;
    }

pub returns : goal.returns
returns g c =
    let feed = c.args.feed in
    let number = c.args.number in
    let r = c.args.logged in
    let more = c.in_ok-more.more in
    let full : is_full more r ≡ true = elim c.else-not-ends.branch [
      | else-not-ends-via-then-not-ends+else-len-lt-BATCH_LIMIT w ↦ full_by_count more r (omega (arith, w.if-len-lt-BATCH_LIMIT.false, w.len.ensures.len))
      | else-not-ends-via-else-not-ends w ↦ full_at_end more r (sym c.ends_transaction-ends.ensures ∙ w.if-not-ends.false)
    ] in
    let fills = subst (λ (f : Feed). is_full f r ≡ true) c.in_ok-more.ensures full in
    record {
      part = part_as (record_events feed number r) (λ w stands. ap (λ (f : Feed). batch_events f w) c.in_ok-more.ensures ∙ batch_fed feed number r fills w) c.commit_waiting.ensures.part;
      after = ok_also c.commit_waiting.result (after_batch feed number r fills more c.in_ok-more.ensures) c.commit_waiting.ensures.after;
    }
