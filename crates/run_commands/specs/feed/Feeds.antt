-- A feed whose body is read in part, and which records of it are committed together.
use Rattle.std.specs.Prelude.{ℕ, ◌+◌, ◌≤◌, Bool, true, false, ◌||◌, nat_le, List, [], ◌∷◌, ◌++◌, length}
use Rattle.std.specs.List.{AllByRecursion}
use Rattle.repl_types.specs.declared.record.LogRecord.{LogRecord}
use Rattle.repl_types.specs.declared.record.LogRecord.TheVariants as records
use Rattle.line_input.specs.Limits.{input_limit}
use Rattle.source_log.specs.Storing.{MayAppend}
use Rattle.run_commands.specs.declared.feed.feed.Feed.{Feed}

-- how many records of changes are committed together at most
abbrev pub batch_limit : ℕ
batch_limit = 1000

-- a record ends its transaction
abbrev pub ends_transaction : LogRecord → Bool
ends_transaction (records.Change tx change) = false
ends_transaction (records.Commit tx time authid origin) = true
ends_transaction (records.Abort tx) = true

-- a feed of a server of which no record is read
abbrev pub new_feed : List ℕ → Feed
new_feed server = record { server = server; fed = 0; lines = []; records = [] }

-- a feed with one more record that waits for its commit, and the number of its line
abbrev pub with_record : ℕ → LogRecord → Feed → Feed
with_record number r feed = record feed { lines = feed.lines ++ number ∷ []; records = feed.records ++ r ∷ [] }

-- a feed after its records that waited are committed
abbrev pub committed : Feed → Feed
committed feed = record feed { fed = feed.fed + length feed.records; lines = []; records = [] }

-- the records that wait are committed after this one: it ends its transaction, or they are as many as may be
abbrev pub is_full : Feed → LogRecord → Bool
is_full feed r = ends_transaction r || nat_le batch_limit (length feed.records)

-- What holds of each feed: the records that wait are a user's, and no more records were read than an input has lines.
pub record IsFeed (feed : Feed) : Type 0 where
  pub users : AllByRecursion MayAppend feed.records
  pub few : feed.fed + length feed.records ≤ input_limit
