-- Feeds after their lines.
use Rattle.std.proofs.Common.{◌≡◌, ◌<◌, ◌≤◌, ◌+◌, ℕ, [], ◌∷◌, ◌++◌, length, Bool, true, false, refl, sym, subst, arith, Option, Some, None, IfSome, ◌||◌, nat_le, if◌then◌else◌, length-append}
use Rattle.std.proofs.lemmas.Bool.Decides.{nat_tests}
use Rattle.std.proofs.lemmas.List.Elements.{All-from_recursion, All-push, recursion_from_All}
use Rattle.repl_model.specs.Words.{LogRecord}
use Rattle.line_input.specs.Limits.{input_limit}
use Rattle.source_log.specs.Storing.{MayAppend}
use Rattle.run_commands.specs.feed.FeedEvents.{after_record}
use Rattle.run_commands.specs.feed.Feeds.{batch_limit, ends_transaction, with_record, committed, is_full, IsFeed}
use Rattle.run_commands.specs.declared.feed.feed.Feed.{Feed}

-- ---- enough records

-- too few records wait
too_few : (n : ℕ) → n < batch_limit → nat_le batch_limit n ≡ false
too_few n few = grind (arith, nat_tests)

-- enough do
enough : (n : ℕ) → batch_limit ≤ n → nat_le batch_limit n ≡ true
enough n many = grind (arith, nat_tests)

-- a record waits if it doesn't end its transaction and too few wait
pub not_full : (feed : Feed) (r : LogRecord) → ends_transaction r ≡ false → length feed.records < batch_limit → is_full feed r ≡ false
not_full feed r goes few = rw (goes, too_few (length feed.records) few) refl

-- it doesn't if it ends its transaction
pub full_at_end : (feed : Feed) (r : LogRecord) → ends_transaction r ≡ true → is_full feed r ≡ true
full_at_end feed r ends = rw ends refl

-- nor if enough wait
pub full_by_count : (feed : Feed) (r : LogRecord) → batch_limit ≤ length feed.records → is_full feed r ≡ true
full_by_count feed r many = pick (ends_transaction r)
  where
    pick : (ends : Bool) → (ends || nat_le batch_limit (length feed.records)) ≡ true
    pick true = refl
    pick false = enough (length feed.records) many

-- ---- feeds

-- a feed of which no more records were read than this many lines
abbrev IsWithin : ℕ → Feed → Type 0
IsWithin number feed = IsFeed feed × (feed.fed + length feed.records ≤ number)

module _ (feed : Feed) (number : ℕ) (r : LogRecord) (is : IsFeed feed) (later : feed.fed + length feed.records < number) (few : number ≤ input_limit) (may : MayAppend r) where
  -- with one more record it is one
  pub one_more : IsFeed (with_record number r feed)
  one_more = record {
    users = recursion_from_All MayAppend (feed.records ++ r ∷ []) (All-push MayAppend feed.records r (All-from_recursion MayAppend feed.records is.users) may);
    few = omega (arith, length-append feed.records (r ∷ []), later, few);
  }

  -- and within the lines that were read
  more_within : IsWithin number (with_record number r feed)
  more_within = (one_more, omega (arith, length-append feed.records (r ∷ []), later))

  -- also after its records are committed
  committed_within : IsWithin number (committed (with_record number r feed))
  committed_within = (record { users = tt; few = omega (arith, one_more.few) }, omega (arith, more_within.1))

  -- so the feed after the record is one
  pub feed_within : (after : Option Feed) → IfSome after (λ f. f ≡ after_record feed number r) → IfSome after (λ f. IsFeed f × (f.fed + length f.records ≤ number))
  feed_within None is = tt
  feed_within (Some f) is = subst (IsWithin number) (sym is) (pick (is_full (with_record number r feed) r))
    where
      pick : (full : Bool) → IsWithin number (if full then committed (with_record number r feed) else with_record number r feed)
      pick true = committed_within
      pick false = more_within
