-- Change rows that are put one after another into a stored table.
use Rattle.std.proofs.Common.{◌≡◌, ◌≢◌, ℕ, ◌<◌, false, ◌⊎◌, inl, inr, List, [], ◌∷◌, ◌++◌, map, refl, sym, ap, ◌∙◌, append-nil, append_assoc, Some, Ordering, Less, Equal}
use Rattle.std.specs.List.{AllByRecursion}
use Rattle.std.specs.Cmp.{nat_cmp_is}
use Rattle.std.specs.Ordering.{nat_cmp, ordering_then}
use Rattle.std.proofs.lemmas.List.{map-append}
use Rattle.world_store.specs.Words.{Is16, Is64, whole_order, change_key_spelling, IsChangeKey, change_key_cmp, change_row_spelling, CdKey, order_change_key, table_from_rows, put_other_table, put_other_area, written_last}
use Rattle.repl_model.specs.Words.{same_area, bytes_cmp, Area, CdRow, each_image}
use Rattle.repl_types.specs.declared.area.Area.TheVariants as areas
use Rattle.keep_core.specs.Contents.{Contents, Table}
use Rattle.stored_commits.specs.units.StoredChanges.{stored_change, with_change_row, with_change_rows}

-- ---- rows in turn

-- the spelled key of a change row
abbrev pub key_of_row : CdRow → List ℕ
key_of_row r = change_key_spelling (stored_change r).0

-- the stored table of change rows
abbrev pub stored_rows : List CdRow → Table
stored_rows rows = table_from_rows change_key_spelling change_row_spelling (map stored_change rows)

-- all these rows come before a key
abbrev pub ComeBefore : List ℕ → List CdRow → Type 0
ComeBefore key rows = AllByRecursion (λ q. bytes_cmp (key_of_row q) key ≡ Less) rows

-- each of some rows comes after the rows before it
abbrev pub FollowInTurn : List CdRow → List CdRow → Type 0
FollowInTurn rows [] = Unit {0}
FollowInTurn rows (r ∷ rs) = ComeBefore (key_of_row r) rows × FollowInTurn (rows ++ r ∷ []) rs

-- one that is put goes to the end
row_put : (number : ℕ) (rows : List CdRow) (r : CdRow) (c : Contents) → c areas.Cd number ≡ stored_rows rows → ComeBefore (key_of_row r) rows → with_change_row number r c areas.Cd number ≡ stored_rows (rows ++ r ∷ [])
row_put number rows r c is before =
    written_last change_key_spelling change_row_spelling c areas.Cd number (stored_change r) (map stored_change rows) is (each_image (λ q. bytes_cmp (change_key_spelling q.0) (key_of_row r) ≡ Less) stored_change rows before)
    ∙ ap (table_from_rows change_key_spelling change_row_spelling) (sym (map-append stored_change rows (r ∷ [])))

-- and so do several
pub rows_put : (number : ℕ) (new rows : List CdRow) (c : Contents) → c areas.Cd number ≡ stored_rows rows → FollowInTurn rows new → with_change_rows number new c areas.Cd number ≡ stored_rows (rows ++ new)
rows_put number [] rows c is turn = is ∙ ap stored_rows (sym (append-nil rows))
rows_put number (r ∷ rs) rows c is turn =
    rows_put number rs (rows ++ r ∷ []) (with_change_row number r c) (row_put number rows r c is turn.0) turn.1
    ∙ ap stored_rows (append_assoc rows (r ∷ []) rs)

-- the tables of the other registrations stay
pub other_tables : (number n : ℕ) (rows : List CdRow) (c : Contents) → number ≢ n → with_change_rows number rows c areas.Cd n ≡ c areas.Cd n
other_tables number n [] c ne = refl
other_tables number n (r ∷ rs) c ne =
    other_tables number n rs (with_change_row number r c) ne
    ∙ put_other_table c areas.Cd number n (key_of_row r) (Some (change_row_spelling (stored_change r).1)) ne

-- so do those of other areas
pub other_areas : (number n : ℕ) (a : Area) (rows : List CdRow) (c : Contents) → same_area areas.Cd a ≡ false → with_change_rows number rows c a n ≡ c a n
other_areas number n a [] c apart = refl
other_areas number n a (r ∷ rs) c apart =
    other_areas number n a rs (with_change_row number r c) apart
    ∙ put_other_area c areas.Cd a number n (key_of_row r) (Some (change_row_spelling (stored_change r).1)) apart

-- ---- rows of earlier changes

-- the key of a change row of a unit, at a place in the log
abbrev pub change_key : ℕ → ℕ → ℕ → CdKey
change_key seq pos sub = record { commitseq = seq; intentseq = record { position = pos; sub = sub } }

-- A change row is of an earlier unit than this, or of this unit and an earlier change.
pub record IsEarlier (seq pos : ℕ) (r : CdRow) : Type 0 where
  pub fits : IsChangeKey (stored_change r).0
  pub earlier : (r.commitseq < seq) ⊎ ((r.commitseq ≡ seq) × (r.intentseq.position < pos))

-- spelled keys lie in the order of the keys
pub keys_in_order : (k l : CdKey) → IsChangeKey k → IsChangeKey l → bytes_cmp (change_key_spelling k) (change_key_spelling l) ≡ change_key_cmp k l
keys_in_order = whole_order IsChangeKey change_key_spelling change_key_cmp order_change_key

-- its key comes before those of the change
pub earlier_before : (seq pos sub : ℕ) (r : CdRow) → Is64 seq → Is64 pos → Is16 sub → IsEarlier seq pos r → bytes_cmp (key_of_row r) (change_key_spelling (change_key seq pos sub)) ≡ Less
earlier_before seq pos sub r ls lp lb is = keys_in_order (stored_change r).0 (change_key seq pos sub) is.fits (ls, (lp, lb)) ∙ pick is.earlier
  where
    places : Ordering
    places = ordering_then (nat_cmp r.intentseq.position pos) (nat_cmp r.intentseq.sub sub)

    pick : (r.commitseq < seq) ⊎ ((r.commitseq ≡ seq) × (r.intentseq.position < pos)) → ordering_then (nat_cmp r.commitseq seq) places ≡ Less
    pick (inl lt) = ap (λ (o : Ordering). ordering_then o places) (sym (nat_cmp_is r.commitseq seq Less lt))
    pick (inr (same, lt)) =
        ap (λ (o : Ordering). ordering_then o places) (sym (nat_cmp_is r.commitseq seq Equal same))
        ∙ ap (λ (o : Ordering). ordering_then o (nat_cmp r.intentseq.sub sub)) (sym (nat_cmp_is r.intentseq.position pos Less lt))
