-- The first row above a key, and the first with a value from there on.
use Rattle.std.proofs.Common.{◌≡◌, ◌≢◌, ℕ, ◌+◌, ◌-◌, ◌<◌, ◌≤◌, Bool, true, false, ◌⊎◌, inl, inr, List, [], length, refl, sym, ap, subst, ◌∙◌, arith}
use Rattle.std.specs.Prelude.{Option, Some, None, IsSome, get_or, slice_get}
use Rattle.std.specs.List.{All}
use Rattle.std.specs.List.Sorted.{IsPartitionedBy, IsPartitionPoint}
use Rattle.std.specs.Map.{lookup, keys_of}
use Rattle.std.specs.Ordering.{is_lt, is_ge, ordering_reverse}
use Rattle.std.specs.declared.cmp.Ordering.{Ordering}
use Rattle.std.specs.declared.cmp.Ordering.TheVariants.{Less, Equal, Greater}
use Rattle.std.proofs.lemmas.Bool.{cases_lt}
use Rattle.std.proofs.lemmas.Cmp.{nat_list_cmp_total, tied_itself}
use Rattle.std.proofs.lemmas.List.Elements.{All-from_get_or}
use Rattle.std.proofs.lemmas.Option.{slice_get_cases, get_or_from_slice_get}
use Rattle.repl_types.specs.Bytes.{bytes_cmp}
use Rattle.keep_core.specs.Contents.{same_key, IsNextKey}
use Rattle.rows_in_runs.specs.declared.row.Piece.{Piece}
use Rattle.rows_in_runs.specs.declared.row.RunRow.{RunRow}
use Rattle.rows_in_runs.specs.Rows.{piece_bytes, value_bytes, rows_of, keys_in, IsRising, IsFirstAbove, NoValues, IsFirstValue}
use Rattle.rows_in_runs.specs.Runs.{value_in}
use Rattle.rows_in_runs.specs.laws.Found.{same_is, same_itself, differs, clash, greater_back, found_at, none_has, no_value}
use Rattle.rows_in_runs.specs.laws.Keys.{length_keys, length_rows}
use Rattle.rows_in_runs.proofs.Stored.{key_of_row, value_of_row}

-- a row, for places past the end
pub some_row : RunRow
some_row = record { key = record { at = 0; len = 0 }; now = None }

-- ---- the search

-- a key isn't before the row's key
abbrev pub has_upto : List ℕ → List ℕ → RunRow → Bool
has_upto bytes key row = is_ge (bytes_cmp key (piece_bytes bytes row.key))

-- what tests of an order say
not_less : (o : Ordering) → is_ge o ≡ true → is_lt o ≡ false
not_less Less e = absurd cc
not_less Equal e = refl
not_less Greater e = refl

less : (o : Ordering) → is_ge o ≡ false → o ≡ Less
less Less e = refl
less Equal e = absurd cc
less Greater e = absurd cc

-- rows up to a key come before those above it
pub upto_first : (bytes : List ℕ) (rows : List RunRow) (key : List ℕ) → IsRising (keys_in bytes rows) → IsPartitionedBy (has_upto bytes key) rows
upto_first bytes rows key rising = λ i j d le within passes. elim (cases_lt i j) [
  | inl lt ↦ pick (piece_bytes bytes (get_or rows i d).key) (piece_bytes bytes (get_or rows j d).key) passes
      (ap (λ (k : List ℕ). bytes_cmp k (piece_bytes bytes (get_or rows j d).key)) (sym (key_of_row bytes rows i d (omega arith)))
      ∙ ap (bytes_cmp (get_or (keys_in bytes rows) i [])) (sym (key_of_row bytes rows j d within))
      ∙ rising i j [] lt (omega (arith, length_keys bytes rows)))
      (bytes_cmp key (piece_bytes bytes (get_or rows i d).key)) refl
  | inr ge ↦ let same : i ≡ j = omega arith in subst (λ (n : ℕ). has_upto bytes key (get_or rows n d) ≡ true) (sym same) passes
]
  where
    pick : (k q : List ℕ) → is_ge (bytes_cmp key q) ≡ true → bytes_cmp k q ≡ Less → (o : Ordering) → bytes_cmp key k ≡ o → is_ge (bytes_cmp key k) ≡ true
    pick k q passes low Less is = absurd (clash passes (ap is_ge (nat_list_cmp_total.trans key k q is low)))
    pick k q passes low Equal is = ap is_ge is
    pick k q passes low Greater is = ap is_ge is

-- the place that the search answers
pub first_above_is : (bytes : List ℕ) (rows : List RunRow) (key : List ℕ) (at : ℕ) → at ≤ length rows → IsPartitionPoint (λ r. has_upto bytes key r ≡ true) (λ r. has_upto bytes key r ≡ false) rows at → IsFirstAbove (keys_in bytes rows) key at
first_above_is bytes rows key at within point = record {
  within = omega (arith, length_keys bytes rows);
  upto = λ i low. ap (λ (k : List ℕ). is_lt (bytes_cmp key k)) (key_of_row bytes rows i some_row (omega arith)) ∙ not_less (bytes_cmp key (piece_bytes bytes (get_or rows i some_row).key)) (point.0 i some_row (omega arith) low);
  above = λ i high there.
      let in' : i < length rows = omega (arith, length_keys bytes rows) in
      ap (bytes_cmp key) (key_of_row bytes rows i some_row in') ∙ less (bytes_cmp key (piece_bytes bytes (get_or rows i some_row).key)) (point.1 i some_row high in');
}

-- if a row has the key, the first above it is the next
pub next_above : (keys : List (List ℕ)) (key : List ℕ) (at : ℕ) → IsRising keys → at < length keys → get_or keys at [] ≡ key → IsFirstAbove keys key (at + 1)
next_above keys key at rising within is = record {
  within = omega arith;
  upto = λ i low. elim (cases_lt i at) [
    | inl lt ↦ ap is_lt (nat_list_cmp_total.antisymm key (get_or keys i []) ∙ ap ordering_reverse (ap (bytes_cmp (get_or keys i [])) (sym is) ∙ rising i at [] lt within))
    | inr ge ↦
        let same : i ≡ at = omega arith in
        ap (λ (n : ℕ). is_lt (bytes_cmp key (get_or keys n []))) same ∙ ap (λ (k : List ℕ). is_lt (bytes_cmp key k)) is ∙ ap is_lt (tied_itself nat_list_cmp_total key)
  ];
  above = λ i high there. ap (λ (k : List ℕ). bytes_cmp k (get_or keys i [])) (sym is) ∙ rising at i [] (omega arith) there;
}

-- ---- where a key belongs

-- a key above the last is above all
pub above_all : (keys : List (List ℕ)) (key : List ℕ) (last : ℕ) → IsRising keys → last + 1 ≡ length keys → bytes_cmp key (get_or keys last []) ≡ Greater → All (λ q. bytes_cmp q key ≡ Less) keys
above_all keys key last rising ends greater = All-from_get_or (λ q. bytes_cmp q key ≡ Less) keys [] (λ i within. elim (cases_lt i last) [
  | inl lt ↦ nat_list_cmp_total.trans (get_or keys i []) (get_or keys last []) key (rising i last [] lt (omega arith)) (greater_back key (get_or keys last []) greater)
  | inr ge ↦
      let same : i ≡ last = omega arith in
      subst (λ (n : ℕ). bytes_cmp (get_or keys n []) key ≡ Less) (sym same) (greater_back key (get_or keys last []) greater)
])

-- if the row before the first above the key hasn't the key, no row has it
pub not_there : {X : Type 0} (es : List (List ℕ × X)) (key : List ℕ) (at : ℕ) → IsRising (keys_of es) → IsFirstAbove (keys_of es) key at → (0 < at → get_or (keys_of es) (at - 1) [] ≢ key) → lookup (same_key key) es ≡ None
not_there es key at rising first other = none_has es key (All-from_get_or (λ q. same_key key q ≡ false) (keys_of es) [] (λ i within. by_cases i within (same_key key (get_or (keys_of es) i [])) refl))
  where
    low : (i : ℕ) → i < at → same_key key (get_or (keys_of es) i []) ≡ true → ⊥
    low i lt same =
        let is : key ≡ get_or (keys_of es) i [] = same_is key (get_or (keys_of es) i []) same in
        elim (cases_lt i (at - 1)) [
          | inl less ↦ clash (ap is_lt (ap (λ (k : List ℕ). bytes_cmp k (get_or (keys_of es) (at - 1) [])) is ∙ rising i (at - 1) [] less (omega (arith, first.within)))) (first.upto (at - 1) (omega arith))
          | inr ge ↦
              let last : i ≡ at - 1 = omega arith in
              other (omega arith) (ap (λ (n : ℕ). get_or (keys_of es) n []) (sym last) ∙ sym is)
        ]

    by_cases : (i : ℕ) → i < length (keys_of es) → (b : Bool) → same_key key (get_or (keys_of es) i []) ≡ b → same_key key (get_or (keys_of es) i []) ≡ false
    by_cases i within false is = is
    by_cases i within true is = elim (cases_lt i at) [
      | inl lt ↦ absurd (low i lt is)
      | inr ge ↦ absurd (clash is (differs key (get_or (keys_of es) i []) (first.above i ge within)))
    ]

-- ---- the next key with a value

-- what the rows make of a key
abbrev pub seen_in : List ℕ → List RunRow → List ℕ → Option (List ℕ)
seen_in bytes rows k = value_in (lookup (same_key k) (rows_of bytes rows))

module _ (bytes : List ℕ) (rows : List RunRow) (after : List ℕ) (from : ℕ) (rising : IsRising (keys_in bytes rows)) (first : IsFirstAbove (keys_in bytes rows) after from) where
  -- no value is seen at a key above, if no row from there up to a place has a value, and no row
  -- from that place on has the key
  unseen : (to : ℕ) → NoValues rows from to → (k : List ℕ) → bytes_cmp after k ≡ Less → ((i : ℕ) → to ≤ i → i < length (keys_in bytes rows) → get_or (keys_in bytes rows) i [] ≢ k) → seen_in bytes rows k ≡ None
  unseen to none k high others = no_value (rows_of bytes rows) k (λ i within is.
      let there : i < length rows = omega (arith, length_rows bytes rows) in
      let has_key : i < length (keys_in bytes rows) = omega (arith, length_keys bytes rows) in
      elim (cases_lt i to) [
        | inl lt ↦ elim (cases_lt i from) [
          | inl low ↦ absurd (clash (ap is_lt (ap (bytes_cmp after) is ∙ high)) (first.upto i low))
          | inr ge ↦ value_of_row bytes rows i some_row ([], None) there ∙ ap (value_bytes bytes) (none i some_row ge lt)
        ]
        | inr ge ↦ absurd (others i ge has_key is)
      ])

  -- if no row from there on has a value, no key above is seen
  pub is_last : NoValues rows from (length rows) → (k : List ℕ) → bytes_cmp after k ≡ Less → seen_in bytes rows k ≡ None
  is_last none k high = unseen (length rows) none k high (λ i ge within is. absurd (omega (arith, length_keys bytes rows)))

  module _ (at : ℕ) (value : IsFirstValue rows from at) where
    -- the value of the row
    pub its_value : (v : List ℕ) × (value_bytes bytes (get_or rows at some_row).now ≡ Some v)
    its_value = some (get_or rows at some_row).now (value.some some_row)
      where
        some : (now : Option Piece) → IsSome now → (v : List ℕ) × (value_bytes bytes now ≡ Some v)
        some (Some p) is = (piece_bytes bytes p, refl)
        some None is = absurd cc

    -- the first row with a value from there on has the next key
    pub is_next : IsNextKey (seen_in bytes rows) after (get_or (keys_in bytes rows) at []) its_value.0
    is_next =
        let there : at < length (keys_in bytes rows) = omega (arith, length_keys bytes rows, value.within) in
        record {
          above = first.above at value.low there;
          has = ap value_in (found_at (rows_of bytes rows) at ([], None) rising (omega (arith, length_rows bytes rows, value.within)))
              ∙ value_of_row bytes rows at some_row ([], None) value.within ∙ its_value.1;
          least = λ q high low. unseen at value.none q high (λ i ge within is. other q low i ge within is);
        }
      where
        other : (q : List ℕ) → bytes_cmp q (get_or (keys_in bytes rows) at []) ≡ Less → (i : ℕ) → at ≤ i → i < length (keys_in bytes rows) → get_or (keys_in bytes rows) i [] ≡ q → ⊥
        other q low i ge within is = elim (cases_lt at i) [
          | inl lt ↦ clash (same_itself q) (differs q q (nat_list_cmp_total.trans q (get_or (keys_in bytes rows) at []) q low (ap (bytes_cmp (get_or (keys_in bytes rows) at [])) (sym is) ∙ rising at i [] lt within)))
          | inr le ↦
              let same : i ≡ at = omega arith in
              clash (same_itself q) (differs q q (ap (bytes_cmp q) (sym is ∙ ap (λ (n : ℕ). get_or (keys_in bytes rows) n []) same) ∙ low))
        ]

-- ---- the last row

-- the last row has the last key
pub last_key : (bytes same : List ℕ) (rows : List RunRow) (row : RunRow) (piece : List ℕ) → Some row ≡ slice_get rows (length rows - 1) → same ≡ bytes → piece ≡ piece_bytes same row.key → (length rows - 1 + 1 ≡ length (keys_in bytes rows)) × (get_or (keys_in bytes rows) (length rows - 1) [] ≡ piece)
last_key bytes same rows row piece there alike is = by_cases (slice_get_cases rows (length rows - 1)).1
  where
    within : length rows - 1 < length rows → (length rows - 1 + 1 ≡ length (keys_in bytes rows)) × (get_or (keys_in bytes rows) (length rows - 1) [] ≡ piece)
    within lt = (
      omega (arith, length_keys bytes rows),
      key_of_row bytes rows (length rows - 1) row lt
          ∙ ap (λ (r : RunRow). piece_bytes bytes r.key) (get_or_from_slice_get rows (length rows - 1) row row (sym there))
          ∙ ap (λ (b : List ℕ). piece_bytes b row.key) (sym alike)
          ∙ sym is,
    )

    by_cases : ((x : RunRow) × (length rows - 1 < length rows) × (slice_get rows (length rows - 1) ≡ Some x) × (get_or rows (length rows - 1) x ≡ x)) ⊎ ((length rows ≤ length rows - 1) × (slice_get rows (length rows - 1) ≡ None)) → (length rows - 1 + 1 ≡ length (keys_in bytes rows)) × (get_or (keys_in bytes rows) (length rows - 1) [] ≡ piece)
    by_cases (inl h) = within h.1
    by_cases (inr h) = let e : Some row ≡ None = there ∙ h.1 in absurd cc

-- a key above all is above the last
pub above_last : (keys : List (List ℕ)) (key : List ℕ) (last : ℕ) → All (λ q. bytes_cmp q key ≡ Less) keys → last + 1 ≡ length keys → bytes_cmp key (get_or keys last []) ≡ Greater
above_last keys key last above ends = nat_list_cmp_total.antisymm key (get_or keys last []) ∙ ap ordering_reverse (above last [] (omega arith))
