-- The words that are read as a record are those that the record is written as.
use Rattle.std.proofs.Common.{◌≡◌, ℕ, ◌≤◌, Bool, true, false, cond, leb, List, [], ◌∷◌, ◌++◌, length, map, Option, Some, None, refl, sym, ap, subst, ◌∙◌, inl, inr, arith, IsTrue}
use Rattle.std.specs.Prelude.{codes, ◌&&◌}
use Rattle.std.specs.Fmt.{decimal}
use Rattle.std.specs.List.{All, before_first, after_first, position_or_len}
use Rattle.std.specs.Option.{option_map}
use Rattle.std.specs.Str.{bytes_eq}
use Rattle.std.proofs.lemmas.Bool.{cases_Bool, and_parts, leb-true}
use Rattle.std.proofs.lemmas.List.{take-append-drop, length-map}
use Rattle.std.proofs.lemmas.List.Elements.{All-nil, All-cons}
use Rattle.std.proofs.lemmas.Option.{none-some, same_Some, cond_some, option_and_then_some}
use Rattle.std.proofs.lemmas.Slice.Eq.{bytes_eq-Decides}
use Rattle.repl_types.specs.Value.{Values}
use Rattle.repl_types.specs.declared.record.Change.{Change}
use Rattle.repl_types.specs.declared.record.Change.TheVariants.{Insert, Update, Delete}
use Rattle.repl_types.specs.declared.record.LogRecord.{LogRecord}
use Rattle.repl_types.specs.declared.record.LogRecord.TheVariants as records
use Rattle.repl_types.specs.Name.{is_name, name_of}
use Rattle.repl_types.specs.Numbers.{is_numeral, number_of}
use Rattle.std.specs.Str.Parse.{digits_value}
use Rattle.repl_types.specs.ValueText.{value_text, value_of, IsValue}
use Rattle.repl_types.specs.laws.Names.{name_found}
use Rattle.repl_types.specs.laws.Numbers.{number_found}
use Rattle.repl_types.specs.laws.ValueText.{value_found}
use Rattle.log_text.specs.Records.{◌>>=◌, is_arrow, from_arrow, tx_of, time_of, values_of, row_of, update_of, table_change_of, change_of_words, commit_of, abort_of, tx_record_of, record_of_words}
use Rattle.log_text.specs.RecordText.{change_words, record_words, IsUserTx, IsRecordRow, IsUserChange, IsWritable}
use Rattle.log_text.proofs.Values.{from-word, from-arrow, after-arrow, after-none, values_len}

-- ---- options

-- a test that did not fail
taken : {A : Type 0} (b : Bool) (o : Option A) (x : A) → cond b o None ≡ Some x → (b ≡ true) × (o ≡ Some x)
taken true o x h = (refl, h)
taken false o x h = absurd (none-some x h)

-- what a map gave it gave of something
mapped : {A B P : Type 0} (f : A → B) (o : Option A) (y : B) → option_map f o ≡ Some y → ((x : A) → o ≡ Some x → f x ≡ y → P) → P
mapped f None y h then = absurd (none-some y h)
mapped f (Some x) y h then = then x refl (same_Some (f x) y h)

-- a number that a word spells is within the bounds
number_within : (low high n : ℕ) (word : List ℕ) → number_of low high word ≡ Some n → (low ≤ n) × (n ≤ high)
number_within low high n word h =
    let p = cond_some (is_numeral word && leb low (digits_value 10 word) && leb (digits_value 10 word) high) (digits_value 10 word) n h in
    let q = and_parts _ _ p.0 in
    let above = leb-true low (digits_value 10 word) (and_parts _ _ q.0).1 in
    let below = leb-true (digits_value 10 word) high q.1 in
    subst (λ (k : ℕ). (low ≤ k) × (k ≤ high)) p.1 (above, below)

-- ---- rows

-- words that spell values are their texts
values_found : (ws : List (List ℕ)) (row : Values) → values_of ws ≡ Some row → (map value_text row ≡ ws) × All IsValue row
unfolding values_of
values_found [] row h = subst (λ (vs : Values). (map value_text vs ≡ []) × All IsValue vs) (same_Some [] row h) (refl, All-nil IsValue)
values_found (word ∷ ws) row h =
    option_and_then_some (λ value. values_of ws >>= λ values. Some (value ∷ values)) (value_of word) row h (λ value first f.
    option_and_then_some (λ values. Some (value ∷ values)) (values_of ws) row f (λ values more g.
    let p = value_found word value first in
    let q = values_found ws values more in
    subst (λ (vs : Values). (map value_text vs ≡ word ∷ ws) × All IsValue vs) (same_Some (value ∷ values) row g)
    (ap (λ (w : List ℕ). w ∷ map value_text values) p.0 ∙ ap (λ (more : List (List ℕ)). word ∷ more) q.0, All-cons IsValue value values p.1 q.1)))

-- words that spell a row are the texts of its values
row_found : (ws : List (List ℕ)) (row : Values) → row_of ws ≡ Some row → (map value_text row ≡ ws) × IsRecordRow row
unfolding row_of
row_found ws row h =
    let p = taken (leb 1 (length ws) && leb (length ws) 64) (values_of ws) row h in
    let q = and_parts (leb 1 (length ws)) (leb (length ws) 64) p.0 in
    let same = values_len ws row p.1 in
    let v = values_found ws row p.1 in
    (v.0, (omega (arith, leb-true 1 (length ws) q.0), omega (arith, leb-true (length ws) 64 q.1), v.1))

-- what the words from the first arrow on begin with is an arrow
first_arrow : (ws : List (List ℕ)) (word : List ℕ) (rest : List (List ℕ)) → from_arrow ws ≡ word ∷ rest → word ≡ codes "->"
first_arrow [] word rest e = absurd cc
first_arrow (w ∷ ws) word rest e = elim (cases_Bool (is_arrow w)) [
  | inl arrow ↦
      let same : w ∷ ws ≡ word ∷ rest = sym (from-arrow w ws arrow) ∙ e in
      let first : word ≡ w = cc in
      first ∙ (bytes_eq-Decides w (codes "->")).0 arrow
  | inr plain ↦ first_arrow ws word rest (sym (from-word w ws plain) ∙ e)
]

-- the words of the two rows of an update, an arrow between them
update_found : (table : List ℕ) (ws : List (List ℕ)) (before after : Values) → row_of (before_first is_arrow ws) ≡ Some before → row_of (after_first is_arrow ws) ≡ Some after
    → (map value_text before ++ codes "->" ∷ map value_text after ≡ ws) × IsRecordRow before × IsRecordRow after
update_found table ws before after h k = by (from_arrow ws) refl
  where
    b : (map value_text before ≡ before_first is_arrow ws) × IsRecordRow before
    b = row_found (before_first is_arrow ws) before h

    a : (map value_text after ≡ after_first is_arrow ws) × IsRecordRow after
    a = row_found (after_first is_arrow ws) after k

    by : (rest : List (List ℕ)) → from_arrow ws ≡ rest → (map value_text before ++ codes "->" ∷ map value_text after ≡ ws) × IsRecordRow before × IsRecordRow after
    by [] none = let long = a.1.0 in let few : length after ≡ 0 = sym (length-map after value_text) ∙ ap length (a.0 ∙ after-none ws none) in absurd (omega arith)
    by (word ∷ rest) found = (
      ap (λ (front : List (List ℕ)). front ++ codes "->" ∷ map value_text after) b.0
          ∙ ap (λ (back : List (List ℕ)). before_first is_arrow ws ++ codes "->" ∷ back) (a.0 ∙ after-arrow ws word rest found)
          ∙ ap (λ (w : List ℕ). before_first is_arrow ws ++ w ∷ rest) (sym (first_arrow ws word rest found))
          ∙ ap (λ (back : List (List ℕ)). before_first is_arrow ws ++ back) (sym found)
          ∙ take-append-drop (position_or_len is_arrow ws) ws,
      b.1,
      a.1,
    )

-- ---- changes

-- what the words of a change say: they are those that the change is written as, and it is a user's
abbrev ChangeIs : List ℕ → List ℕ → List (List ℕ) → Change → Type 0
ChangeIs verb table ws change = ((tx : ℕ) → change_words tx change ≡ verb ∷ decimal tx ∷ table ∷ ws) × IsUserChange change

-- the words of a change with one row
one_row : (verb named table : List ℕ) (ws : List (List ℕ)) (row : Values) (tx : ℕ) → bytes_eq verb named ≡ true → map value_text row ≡ ws → named ∷ decimal tx ∷ table ∷ map value_text row ≡ verb ∷ decimal tx ∷ table ∷ ws
one_row verb named table ws row tx same e =
    ap (λ (w : List ℕ). w ∷ decimal tx ∷ table ∷ map value_text row) (sym ((bytes_eq-Decides verb named).0 same)) ∙ ap (λ (more : List (List ℕ)). verb ∷ decimal tx ∷ table ∷ more) e

-- an insert
insert_found : (verb table : List ℕ) (ws : List (List ℕ)) (change : Change) → IsTrue (is_name table) → bytes_eq verb (codes "insert") ≡ true → option_map (λ row. Insert table row) (row_of ws) ≡ Some change → ChangeIs verb table ws change
insert_found verb table ws change is same e =
    mapped (λ row. Insert table row) (row_of ws) change e (λ row found made.
    let p = row_found ws row found in
    subst (ChangeIs verb table ws) made (λ tx. one_row verb (codes "insert") table ws row tx same p.0, (is, p.1)))

-- a delete
delete_found : (verb table : List ℕ) (ws : List (List ℕ)) (change : Change) → IsTrue (is_name table) → bytes_eq verb (codes "delete") ≡ true → option_map (λ row. Delete table row) (row_of ws) ≡ Some change → ChangeIs verb table ws change
delete_found verb table ws change is same e =
    mapped (λ row. Delete table row) (row_of ws) change e (λ row found made.
    let p = row_found ws row found in
    subst (ChangeIs verb table ws) made (λ tx. one_row verb (codes "delete") table ws row tx same p.0, (is, p.1)))

-- an update
two_rows : (verb table : List ℕ) (ws : List (List ℕ)) (change : Change) → IsTrue (is_name table) → bytes_eq verb (codes "update") ≡ true → update_of table ws ≡ Some change → ChangeIs verb table ws change
unfolding update_of
two_rows verb table ws change is same e =
    option_and_then_some (λ before. row_of (after_first is_arrow ws) >>= λ after. Some (Update table before after)) (row_of (before_first is_arrow ws)) change e (λ before h f.
    option_and_then_some (λ after. Some (Update table before after)) (row_of (after_first is_arrow ws)) change f (λ after k g.
    let p = update_found table ws before after h k in
    subst (ChangeIs verb table ws) (same_Some (Update table before after) change g) (
      λ tx. ap (λ (w : List ℕ). w ∷ decimal tx ∷ table ∷ map value_text before ++ codes "->" ∷ map value_text after) (sym ((bytes_eq-Decides verb (codes "update")).0 same))
          ∙ ap (λ (more : List (List ℕ)). verb ∷ decimal tx ∷ table ∷ more) p.0,
      (is, p.1, p.2),
    )))

-- a change of a table
table_change_found : (verb table : List ℕ) (ws : List (List ℕ)) (change : Change) → IsTrue (is_name table) → table_change_of verb table ws ≡ Some change → ChangeIs verb table ws change
table_change_found verb table ws change is e = elim (cases_Bool (bytes_eq verb (codes "insert"))) [
  | inl same ↦ insert_found verb table ws change is same (rw same at e)
  | inr no_insert ↦ elim (cases_Bool (bytes_eq verb (codes "delete"))) [
    | inl same ↦ delete_found verb table ws change is same (rw (no_insert, same) at e)
    | inr no_delete ↦ elim (cases_Bool (bytes_eq verb (codes "update"))) [
      | inl same ↦ two_rows verb table ws change is same (rw (no_insert, no_delete, same) at e)
      | inr no_update ↦ absurd (none-some change (rw (no_insert, no_delete, no_update) at e))
    ]
  ]
]

-- ---- records

-- what the words of a record say: they are those that the record is written as, and it is a user's
abbrev RecordIs : List (List ℕ) → LogRecord → Type 0
RecordIs ws entry = (record_words entry ≡ ws) × IsWritable entry

-- a change
change_found : (verb : List ℕ) (tx : ℕ) (ws : List (List ℕ)) (change : Change) → IsUserTx tx → change_of_words verb ws ≡ Some change → RecordIs (verb ∷ decimal tx ∷ ws) (records.Change tx change)
unfolding change_of_words
change_found verb tx [] change is e = absurd (none-some change e)
change_found verb tx (name ∷ ws) change is e =
    option_and_then_some (λ table. table_change_of verb table ws) (name_of name) change e (λ table found f.
    let p = name_found name table found in
    let q = table_change_found verb table ws change p.1 f in
    (q.0 tx ∙ ap (λ (t : List ℕ). verb ∷ decimal tx ∷ t ∷ ws) p.0, (is, q.1)))

-- a commit
commit_found : (verb : List ℕ) (tx : ℕ) (ws : List (List ℕ)) (entry : LogRecord) → IsUserTx tx → bytes_eq verb (codes "commit") ≡ true → commit_of tx ws ≡ Some entry → RecordIs (verb ∷ decimal tx ∷ ws) entry
unfolding commit_of
commit_found verb tx [] entry is same e = absurd (none-some entry e)
commit_found verb tx (name ∷ []) entry is same e = absurd (none-some entry e)
commit_found verb tx (name ∷ time ∷ []) entry is same e =
    option_and_then_some (λ authid. time_of time >>= λ seconds. Some (records.Commit tx seconds authid None)) (name_of name) entry e (λ authid named f.
    option_and_then_some (λ seconds. Some (records.Commit tx seconds authid None)) (time_of time) entry f (λ seconds timed g.
    let p = name_found name authid named in
    subst (RecordIs (verb ∷ decimal tx ∷ name ∷ time ∷ [])) (same_Some (records.Commit tx seconds authid None) entry g) (
      ap (λ (w : List ℕ). w ∷ decimal tx ∷ authid ∷ decimal seconds ∷ []) (sym ((bytes_eq-Decides verb (codes "commit")).0 same))
          ∙ ap (λ (w : List ℕ). verb ∷ decimal tx ∷ w ∷ decimal seconds ∷ []) p.0
          ∙ ap (λ (w : List ℕ). verb ∷ decimal tx ∷ name ∷ w ∷ []) (number_found 0 1000000000000 seconds time (omega arith) timed),
      (is, (number_within 0 1000000000000 seconds time timed).1, p.1),
    )))
commit_found verb tx (name ∷ time ∷ more ∷ ws) entry is same e = absurd (none-some entry e)

-- an abort
abort_found : (verb : List ℕ) (tx : ℕ) (ws : List (List ℕ)) (entry : LogRecord) → IsUserTx tx → bytes_eq verb (codes "abort") ≡ true → abort_of tx ws ≡ Some entry → RecordIs (verb ∷ decimal tx ∷ ws) entry
abort_found verb tx [] entry is same e =
    subst (RecordIs (verb ∷ decimal tx ∷ [])) (same_Some (records.Abort tx) entry e) (ap (λ (w : List ℕ). w ∷ decimal tx ∷ []) (sym ((bytes_eq-Decides verb (codes "abort")).0 same)), is)
abort_found verb tx (word ∷ ws) entry is same e = absurd (none-some entry e)

-- the record of a transaction
tx_record_found : (verb : List ℕ) (tx : ℕ) (ws : List (List ℕ)) (entry : LogRecord) → IsUserTx tx → tx_record_of verb tx ws ≡ Some entry → RecordIs (verb ∷ decimal tx ∷ ws) entry
tx_record_found verb tx ws entry is e = elim (cases_Bool (bytes_eq verb (codes "commit"))) [
  | inl same ↦ commit_found verb tx ws entry is same (rw same at e)
  | inr no_commit ↦ elim (cases_Bool (bytes_eq verb (codes "abort"))) [
    | inl same ↦ abort_found verb tx ws entry is same (rw (no_commit, same) at e)
    | inr no_abort ↦ mapped (λ change. records.Change tx change) (change_of_words verb ws) entry (rw (no_commit, no_abort) at e) (λ change found made.
        subst (RecordIs (verb ∷ decimal tx ∷ ws)) made (change_found verb tx ws change is found))
  ]
]

-- words that are read as a record are those that it is written as, and it is a user's
pub record_found : (ws : List (List ℕ)) (entry : LogRecord) → record_of_words ws ≡ Some entry → (record_words entry ≡ ws) × IsWritable entry
unfolding record_of_words
record_found [] entry e = absurd (none-some entry e)
record_found (verb ∷ []) entry e = absurd (none-some entry e)
record_found (verb ∷ number ∷ ws) entry e =
    option_and_then_some (λ tx. tx_record_of verb tx ws) (tx_of number) entry e (λ tx found f.
    let p = tx_record_found verb tx ws entry (number_within 1 4294967295 tx number found) f in
    (p.0 ∙ ap (λ (w : List ℕ). verb ∷ w ∷ ws) (number_found 1 4294967295 tx number (omega arith) found), p.1))
