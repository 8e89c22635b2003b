-- Proofs that the records of a log have one spelling each. There is nothing to believe here.
use Rattle.std.proofs.Common.{ℕ, List, drop, refl, ap}
use Rattle.repl_types.specs.declared.record.Change.TheVariants.{Insert, Update, Delete, Start, Stop}
use Rattle.repl_types.specs.declared.record.LogRecord.TheVariants as records
use Rattle.repl_types.specs.declared.record.SetId.{SetId}
use Rattle.repl_types.specs.declared.value.Value.{Value}
use Rattle.std.specs.Prelude.{Option}
use Rattle.row_codec.specs.laws.Tags.{other_tag}
use Rattle.row_codec.specs.Takes.{One, PairFits, pair_spelling}
use Rattle.row_codec.specs.laws.Ones.{one_pair}
use Rattle.row_codec.specs.laws.Numbers.{one32, one64}
use Rattle.row_codec.specs.laws.Names.{one_name, one_origin}
use Rattle.row_codec.specs.laws.Values.{one_row}
use Rattle.row_codec.specs.Spelling.{Is32, Is64, IsName, IsOrigin, IsRow, b32, b64, short_text, origin, row_spelling}
use Rattle.row_codec.specs.LogRecords.{IsLogRecord, log_spelling}

-- a transaction and a table
pub one_transaction_table : One (PairFits Is32 IsName) (pair_spelling b32 short_text)
one_transaction_table = one_pair Is32 IsName b32 short_text one32 one_name

-- a transaction, a table and a row
pub one_changed_row : One (PairFits (PairFits Is32 IsName) IsRow) (pair_spelling (pair_spelling b32 short_text) row_spelling)
one_changed_row = one_pair (PairFits Is32 IsName) IsRow (pair_spelling b32 short_text) row_spelling one_transaction_table one_row

-- a transaction, a table and two rows
pub one_update : One (PairFits (PairFits (PairFits Is32 IsName) IsRow) IsRow) (pair_spelling (pair_spelling (pair_spelling b32 short_text) row_spelling) row_spelling)
one_update = one_pair (PairFits (PairFits Is32 IsName) IsRow) IsRow (pair_spelling (pair_spelling b32 short_text) row_spelling) row_spelling one_changed_row one_row

-- a transaction, a time, a user and an origin
pub one_commit : One (PairFits (PairFits (PairFits Is32 Is64) IsName) IsOrigin) (pair_spelling (pair_spelling (pair_spelling b32 b64) short_text) origin)
one_commit = one_pair (PairFits (PairFits Is32 Is64) IsName) IsOrigin (pair_spelling (pair_spelling b32 b64) short_text) origin (one_pair (PairFits Is32 Is64) IsName (pair_spelling b32 b64) short_text (one_pair Is32 Is64 b32 b64 one32 one64) one_name) one_origin

-- records of a log
pub one_log_record : One IsLogRecord log_spelling
one_log_record (records.Change tx (Insert table row)) (records.Change tx' (Insert table' row')) a b fx fy e =
    let same = one_changed_row ((tx, table), row) ((tx', table'), row') a b ((fx.0, fx.1), fx.2) ((fy.0, fy.1), fy.2) (ap (drop 1) e) in
    (ap (λ (p : (ℕ × List ℕ) × List Value). records.Change (p.0.0) (Insert (p.0.1) (p.1))) same.0, same.1)
one_log_record (records.Change tx (Update table before after)) (records.Change tx' (Update table' before' after')) a b fx fy e =
    let same = one_update (((tx, table), before), after) (((tx', table'), before'), after') a b (((fx.0, fx.1), fx.2), fx.3) (((fy.0, fy.1), fy.2), fy.3) (ap (drop 1) e) in
    (ap (λ (p : ((ℕ × List ℕ) × List Value) × List Value). records.Change (p.0.0.0) (Update (p.0.0.1) (p.0.1) (p.1))) same.0, same.1)
one_log_record (records.Change tx (Delete table row)) (records.Change tx' (Delete table' row')) a b fx fy e =
    let same = one_changed_row ((tx, table), row) ((tx', table'), row') a b ((fx.0, fx.1), fx.2) ((fy.0, fy.1), fy.2) (ap (drop 1) e) in
    (ap (λ (p : (ℕ × List ℕ) × List Value). records.Change (p.0.0) (Delete (p.0.1) (p.1))) same.0, same.1)
one_log_record (records.Change tx (Start table)) (records.Change tx' (Start table')) a b fx fy e =
    let same = one_transaction_table (tx, table) (tx', table') a b fx fy (ap (drop 1) e) in
    (ap (λ (p : ℕ × List ℕ). records.Change (p.0) (Start (p.1))) same.0, same.1)
one_log_record (records.Change tx (Stop table)) (records.Change tx' (Stop table')) a b fx fy e =
    let same = one_transaction_table (tx, table) (tx', table') a b fx fy (ap (drop 1) e) in
    (ap (λ (p : ℕ × List ℕ). records.Change (p.0) (Stop (p.1))) same.0, same.1)
one_log_record (records.Commit tx time authid from) (records.Commit tx' time' authid' from') a b fx fy e =
    let same = one_commit (((tx, time), authid), from) (((tx', time'), authid'), from') a b (((fx.0, fx.1), fx.2), fx.3) (((fy.0, fy.1), fy.2), fy.3) (ap (drop 1) e) in
    (ap (λ (p : ((ℕ × ℕ) × List ℕ) × Option SetId). records.Commit (p.0.0.0) (p.0.0.1) (p.0.1) (p.1)) same.0, same.1)
one_log_record (records.Abort tx) (records.Abort tx') a b fx fy e =
    let same = one32 tx tx' a b fx fy (ap (drop 1) e) in
    (ap (λ (n : ℕ). records.Abort n) same.0, same.1)
one_log_record (records.Commit tx time authid from) (records.Change tx' (Insert table' row')) a b fx fy e = absurd (other_tag _ _ _ _ e refl)
one_log_record (records.Abort tx) (records.Change tx' (Insert table' row')) a b fx fy e = absurd (other_tag _ _ _ _ e refl)
one_log_record x y a b fx fy e = absurd (other_tag _ _ _ _ e refl)
