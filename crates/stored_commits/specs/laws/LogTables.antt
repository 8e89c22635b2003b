-- The stored log and its end after one more record.
use Rattle.std.proofs.Common.{ℕ, ◌^◌, ◌≤◌, ◌<◌, List, [], ◌∷◌, length, ap, ◌∙◌, arith, Some, fold, length-append}
use Rattle.std.specs.List.{AllByRecursion}
use Rattle.world_store.specs.Words.{Is64, b64, log_spelling, order64, whole_order, SpellsInOrder, numbered_push, Head}
use Rattle.repl_model.specs.Words.{time_limit, Unit, all_weaker, units, last_seq, last_time, last_commit, log_limit, seqs_within, units_change, units_abort, last_commit_commit, last_time_commit}
use Rattle.keep_core.specs.Contents.{set_key}
use Rattle.stored_commits.specs.records.LongerTables.{LogGetsRow, HeadGoesOn, HeadFits, log_table}
use Rattle.repl_types.specs.declared.record.LogRecord.TheVariants as records

-- spelled numbers lie in the order of the numbers
pub numbers_in_order : SpellsInOrder b64 (2 ^ 64)
numbers_in_order a b la lb = whole_order Is64 b64 _ order64 a b la lb

-- one more record is a row that is put at the position after the end of the log
pub log_gets_row : LogGetsRow
log_gets_row server r short =
    numbered_push b64 (2 ^ 64) numbers_in_order log_spelling 1 server.log r (omega arith)
    ∙ ap (λ (n : ℕ). set_key (log_table server) (b64 n) (Some (log_spelling r))) (omega arith)

-- what holds of 0 and of each unit holds of what the last of them has
last_of : (P : ℕ → Type 0) (part : Unit → ℕ) (us : List Unit) (n : ℕ) → P n → AllByRecursion (λ u. P (part u)) us → P (fold (λ last u. part u) n us)
last_of P part [] n first all = first
last_of P part (u ∷ us) n first all = last_of P part us (part u) all.0 all.1

-- the end of a sound log has a spelling
pub head_fits : HeadFits
head_fits server sound =
    let log = server.log in
    let short : length log ≤ log_limit = sound.short in
    let commit : last_commit log ≤ length log = last_of (λ n. n ≤ length log) (λ u. u.head.seq) (units log) 0 (omega arith) (all_weaker (λ (u : Unit). (0 < u.head.seq) × (u.head.seq ≤ length log)) (λ u. u.head.seq ≤ length log) (units log) (λ u h. h.1) (seqs_within log)) in
    let time : last_time (units log) ≤ time_limit = last_of (λ n. n ≤ time_limit) (λ u. u.head.time) (units log) 0 (omega arith) sound.early in
    (omega arith, omega arith, omega arith)

-- the end of a log of some length and with some units
abbrev end_at : ℕ → List Unit → Head
end_at len us = record { last = len; commit = last_seq us; time = last_time us }

-- the end of a log follows from the end before one more record, and from the record
pub head_goes_on : HeadGoesOn
head_goes_on server (records.Change tx change) = λ i. end_at (length-append server.log (records.Change tx change ∷ []) i) (units_change tx change server.log i)
head_goes_on server (records.Commit tx time authid origin) = λ i. record {
  last = length-append server.log (records.Commit tx time authid origin ∷ []) i;
  commit = last_commit_commit tx time authid origin server.log i;
  time = last_time_commit tx time authid origin server.log i;
}
head_goes_on server (records.Abort tx) = λ i. end_at (length-append server.log (records.Abort tx ∷ []) i) (units_abort tx server.log i)
