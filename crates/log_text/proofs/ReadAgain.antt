-- The lines of users' records are read as the records.
use Rattle.std.proofs.Common.{◌≡◌, ℕ, ◌≤◌, false, List, [], ◌∷◌, ◌++◌, map, Option, Some, None, refl, sym, ap, ◌∙◌, inl, inr, arith, IsTrue}
use Rattle.std.specs.Prelude.{codes}
use Rattle.std.specs.Fmt.{decimal}
use Rattle.std.specs.List.{All, before_first}
use Rattle.std.specs.Option.{option_map}
use Rattle.std.proofs.lemmas.Bool.{cases_Bool}
use Rattle.std.proofs.lemmas.List.Elements.{All-nil, All-cons, All-head, All-tail, All-append, All-map, All-weaker}
use Rattle.std.proofs.lemmas.Option.{none-some}
use Rattle.repl_types.specs.Value.{Values}
use Rattle.repl_types.specs.declared.value.Value.{Value}
use Rattle.repl_types.specs.declared.record.Change.{Change}
use Rattle.repl_types.specs.declared.record.Change.TheVariants.{Insert, Update, Delete, Start, Stop}
use Rattle.repl_types.specs.declared.record.LogRecord.{LogRecord}
use Rattle.repl_types.specs.declared.record.LogRecord.TheVariants as records
use Rattle.repl_types.specs.Name.{is_name}
use Rattle.repl_types.specs.ValueText.{value_text, IsValue}
use Rattle.repl_types.specs.laws.Names.{name_again}
use Rattle.repl_types.specs.laws.Numbers.{number_again}
use Rattle.repl_types.specs.laws.ValueText.{value_again}
use Rattle.log_text.specs.Records.{◌>>=◌, is_arrow, from_arrow, time_of, values_of, row_of, update_of, table_change_of, change_of_words, commit_of, tx_record_of, record_of_words, record_of}
use Rattle.log_text.specs.RecordText.{record_words, record_text, IsUserTx, IsRecordRow, IsWritable}
use Rattle.log_text.specs.Words.{words}
use Rattle.log_text.proofs.Values.{before-arrow, before-word, from-word, from-arrow, after-arrow, arrow_is_no_value, as_map, row_taken, update_is}
use Rattle.log_text.proofs.Written.{Whole, plain_whole, decimal_whole, name_whole, value_whole, words-line_of}

-- ---- rows

-- the texts of values spell the values
values_again : (row : Values) → All IsValue row → values_of (map value_text row) ≡ Some row
unfolding values_of
values_again [] all = refl
values_again (v ∷ vs) all =
    ap (λ (first : Option Value). first >>= λ value. values_of (map value_text vs) >>= λ values. Some (value ∷ values)) (value_again v (All-head IsValue v vs all))
    ∙ as_map v (values_of (map value_text vs)) ∙ ap (option_map (λ values. v ∷ values)) (values_again vs (All-tail IsValue v vs all))

-- the texts of a row's values spell the row
row_again : (row : Values) → IsRecordRow row → Some row ≡ row_of (map value_text row)
row_again row is = row_taken (map value_text row) row (sym (values_again row is.2)) (omega (arith, is.0)) is.1

-- the text of a value is no arrow
no_arrow : (v : Value) → IsValue v → is_arrow (value_text v) ≡ false
no_arrow v is = elim (cases_Bool (is_arrow (value_text v))) [
  | inl arrow ↦ absurd (none-some v (sym (arrow_is_no_value (value_text v) arrow) ∙ value_again v is))
  | inr plain ↦ plain
]

-- what stands between the rows of an update
abbrev arrow : List ℕ
arrow = codes "->"

-- the texts of values before an arrow
before_again : (row : Values) (rest : List (List ℕ)) → All IsValue row → before_first is_arrow (map value_text row ++ arrow ∷ rest) ≡ map value_text row
before_again [] rest all = before-arrow arrow rest refl
before_again (v ∷ vs) rest all =
    before-word (value_text v) (map value_text vs ++ arrow ∷ rest) (no_arrow v (All-head IsValue v vs all))
    ∙ ap (λ (ws : List (List ℕ)). value_text v ∷ ws) (before_again vs rest (All-tail IsValue v vs all))

-- what stands from the arrow on
from_again : (row : Values) (rest : List (List ℕ)) → All IsValue row → from_arrow (map value_text row ++ arrow ∷ rest) ≡ arrow ∷ rest
from_again [] rest all = from-arrow arrow rest refl
from_again (v ∷ vs) rest all =
    from-word (value_text v) (map value_text vs ++ arrow ∷ rest) (no_arrow v (All-head IsValue v vs all)) ∙ from_again vs rest (All-tail IsValue v vs all)

-- the two rows of an update
update_again : (table : List ℕ) (before after : Values) → IsRecordRow before → IsRecordRow after
    → Some (Update table before after) ≡ update_of table (map value_text before ++ arrow ∷ map value_text after)
update_again table before after is is_after =
    let ws = map value_text before ++ arrow ∷ map value_text after in
    let rest = after-arrow ws arrow (map value_text after) (from_again before (map value_text after) is.2) in
    update_is table ws before (row_again before is ∙ ap row_of (sym (before_again before (map value_text after) is.2))) after (row_again after is_after ∙ ap row_of (sym rest))

-- ---- records from their words

-- a change from the words after its transaction
change_from : (verb table : List ℕ) (ws : List (List ℕ)) (change : Change) → IsTrue (is_name table) → Some change ≡ table_change_of verb table ws → change_of_words verb (table ∷ ws) ≡ Some change
unfolding change_of_words
change_from verb table ws change is e = ap (λ (name : Option (List ℕ)). name >>= λ t. table_change_of verb t ws) (name_again table is) ∙ sym e

-- a record from its words
record_from : (verb : List ℕ) (tx : ℕ) (ws : List (List ℕ)) (entry : LogRecord) → IsUserTx tx → tx_record_of verb tx ws ≡ Some entry → record_of_words (verb ∷ decimal tx ∷ ws) ≡ Some entry
unfolding record_of_words
record_from verb tx ws entry is e =
    ap (λ (number : Option ℕ). number >>= λ t. tx_record_of verb t ws) (number_again 1 4294967295 tx (omega arith) is.0 is.1) ∙ e

-- a commit from its user and its time
commit_again : (tx time : ℕ) (authid : List ℕ) → time ≤ 1000000000000 → IsTrue (is_name authid) → commit_of tx (authid ∷ decimal time ∷ []) ≡ Some (records.Commit tx time authid None)
unfolding commit_of
commit_again tx time authid small is =
    ap (λ (name : Option (List ℕ)). name >>= λ a. time_of (decimal time) >>= λ seconds. Some (records.Commit tx seconds a None)) (name_again authid is)
    ∙ ap (λ (number : Option ℕ). number >>= λ seconds. Some (records.Commit tx seconds authid None)) (number_again 0 1000000000000 time (omega arith) (omega arith) small)

-- the words of a user's record are read as the record
words_again : (entry : LogRecord) → IsWritable entry → record_of_words (record_words entry) ≡ Some entry
words_again (records.Change tx (Insert table row)) is =
    record_from (codes "insert") tx (table ∷ map value_text row) _ is.0
    (ap (option_map (λ change. records.Change tx change)) (change_from (codes "insert") table (map value_text row) (Insert table row) is.1.0 (ap (option_map (λ r. Insert table r)) (row_again row is.1.1))))
words_again (records.Change tx (Update table before after)) is =
    let ws = map value_text before ++ arrow ∷ map value_text after in
    record_from (codes "update") tx (table ∷ ws) _ is.0
    (ap (option_map (λ change. records.Change tx change)) (change_from (codes "update") table ws (Update table before after) is.1.0 (update_again table before after is.1.1 is.1.2)))
words_again (records.Change tx (Delete table row)) is =
    record_from (codes "delete") tx (table ∷ map value_text row) _ is.0
    (ap (option_map (λ change. records.Change tx change)) (change_from (codes "delete") table (map value_text row) (Delete table row) is.1.0 (ap (option_map (λ r. Delete table r)) (row_again row is.1.1))))
words_again (records.Change tx (Start table)) is = absurd is.1
words_again (records.Change tx (Stop table)) is = absurd is.1
words_again (records.Commit tx time authid None) is = record_from (codes "commit") tx (authid ∷ decimal time ∷ []) _ is.0 (commit_again tx time authid is.1 is.2)
words_again (records.Commit tx time authid (Some set)) is = absurd is
words_again (records.Abort tx) is = record_from (codes "abort") tx [] _ is refl

-- ---- the words are whole

-- the number of a user's transaction is whole
tx_whole : (tx : ℕ) → IsUserTx tx → Whole (decimal tx)
tx_whole tx is = decimal_whole tx (omega (arith, is.1))

-- the texts of values are whole
values_whole : (row : Values) → All IsValue row → All Whole (map value_text row)
values_whole row all = All-map Whole value_text row (All-weaker IsValue (λ v. Whole (value_text v)) value_whole row all)

-- the words after a verb, if those after the name are whole
after_verb : (tx : ℕ) (name : List ℕ) (ws : List (List ℕ)) → IsUserTx tx → IsTrue (is_name name) → All Whole ws → All Whole (decimal tx ∷ name ∷ ws)
after_verb tx name ws is named all = All-cons Whole (decimal tx) (name ∷ ws) (tx_whole tx is) (All-cons Whole name ws (name_whole name named) all)

-- the words of a line that is written are those of the record
pub record_text-words : (entry : LogRecord) → IsWritable entry → words (record_text entry) ≡ record_words entry
record_text-words (records.Change tx (Insert table row)) is =
    words-line_of (codes "insert") _ (plain_whole (codes "insert") (omega arith) refl) (after_verb tx table (map value_text row) is.0 is.1.0 (values_whole row is.1.1.2))
record_text-words (records.Change tx (Update table before after)) is =
    words-line_of (codes "update") _ (plain_whole (codes "update") (omega arith) refl)
    (after_verb tx table (map value_text before ++ arrow ∷ map value_text after) is.0 is.1.0 (All-append Whole (map value_text before) (arrow ∷ map value_text after) (values_whole before is.1.1.2)
    (All-cons Whole arrow (map value_text after) (plain_whole arrow (omega arith) refl) (values_whole after is.1.2.2))))
record_text-words (records.Change tx (Delete table row)) is =
    words-line_of (codes "delete") _ (plain_whole (codes "delete") (omega arith) refl) (after_verb tx table (map value_text row) is.0 is.1.0 (values_whole row is.1.1.2))
record_text-words (records.Change tx (Start table)) is = absurd is.1
record_text-words (records.Change tx (Stop table)) is = absurd is.1
record_text-words (records.Commit tx time authid None) is =
    words-line_of (codes "commit") _ (plain_whole (codes "commit") (omega arith) refl)
    (after_verb tx authid (decimal time ∷ []) is.0 is.2 (All-cons Whole (decimal time) [] (decimal_whole time (omega (arith, is.1))) (All-nil Whole)))
record_text-words (records.Commit tx time authid (Some set)) is = absurd is
record_text-words (records.Abort tx) is = words-line_of (codes "abort") _ (plain_whole (codes "abort") (omega arith) refl) (All-cons Whole (decimal tx) [] (tx_whole tx is) (All-nil Whole))

-- the line of a user's record is read as the record
pub record_again : (entry : LogRecord) → IsWritable entry → record_of (record_text entry) ≡ Some entry
record_again entry is = ap record_of_words (record_text-words entry is) ∙ words_again entry is
