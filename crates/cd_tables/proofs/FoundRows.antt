-- The first rows of stored tables after a key: proofs.
use Rattle.std.proofs.Common.{◌≡◌, ℕ, ◌<◌, ◌≤◌, ◌^◌, Bool, true, false, cond, ◌&&◌, List, ◌∷◌, ◌++◌, sym, ap, subst, ◌∙◌, arith, nat_lt, nat_le, filter, Option, Some, None, option_map, Less}
use Rattle.std.specs.List.{AllByRecursion}
use Rattle.std.specs.Ordering.{nat_cmp, is_lt}
use Rattle.std.proofs.lemmas.Bool.{ltb-true, le-leb, lt-leb, and_right}
use Rattle.world_store.specs.Words.{Is64, b64, one_whole, one64, whole_order, order64, IsChangeRow, change_row_spelling, IsUow, uow_spelling, IsChangeKey, change_key_spelling, change_key_cmp, one_uow, ChangeRow, UowRow, CdKey, is_before, NoneAfter, SpellsApart, NextRow, key_is_before, fits_next, no_row, RowFits}
use Rattle.site_store.specs.Words.{Contents, Table, IsNextKey, IsLastKey, Follows}
use Rattle.repl_model.specs.Words.{bytes_cmp, all_parts, filter_none, CdRow, UnitHead, Server}
use Rattle.repl_types.specs.declared.area.Area.TheVariants as areas
use Rattle.cd_tables.specs.StoredRows.{first_of, change_of, AreChangeRows, HasChangeRows, AreUnitRows, HasUnitRows, head_of, row_of}
use Rattle.stored_commits.specs.units.StoredCaptures.{HasCaptured}
use Rattle.cd_tables.specs.Captured.{ServerIsSound, captured_units, next_captured, captured_changes}
use Rattle.rows_in_order.specs.laws.Rising.{at_seam}
use Rattle.cd_tables.specs.laws.InOrder.{all_both}
use Rattle.cd_tables.specs.laws.ChangeKeys.{changes_apart, units_rise}
use Rattle.cd_tables.specs.laws.CapturedRows.{has_units, has_changes, first_captured}
use Rattle.cd_tables.specs.laws.SoundChanges.{change_rows_are}
use Rattle.cd_tables.specs.laws.SoundUnits.{unit_rows_are}
use Rattle.cd_tables.specs.Finding.{first_unit, first_change, FindsUnit, IsUnitAbove, is_from, FindsChange, IsChangeFrom}
use Rattle.stored_commits.specs.laws.CapturedPuts.{keys_in_order}

-- ---- rows that pass a test

module _ {A X : Type 0} (key : A → List ℕ) (fits : A × X → Type 0) (p : A × X → Bool) (after : List ℕ) (early : (r : A × X) → fits r → is_before after (key r.0) ≡ false → p r ≡ false) where
  -- rows up to a key fail, if what is up to it does
  upto_fail : (rows : List (A × X)) → AllByRecursion fits rows → NoneAfter key after rows → AllByRecursion (λ r. p r ≡ false) rows
  upto_fail rows = all_both fits (λ r. is_before after (key r.0) ≡ false) (λ r. p r ≡ false) rows early

  -- with no row after the key, none is the first that passes
  none_first : (rows : List (A × X)) → AllByRecursion fits rows → NoneAfter key after rows → first_of (filter p rows) ≡ None
  none_first rows fit none = ap first_of (filter_none p rows (upto_fail rows fit none))

  module _ (rows : List (A × X)) (row : A × X) (fit : AllByRecursion fits rows) (next : NextRow key rows after row) where
    -- all rows fit, those up to the key, the next one and those after it
    parts : AllByRecursion fits next.front × AllByRecursion fits (row ∷ next.back)
    parts = all_parts fits next.front (row ∷ next.back) (subst (AllByRecursion fits) next.split fit)

    -- those that pass are the next one, if it does, and some after it
    passing : (t : Bool) → p row ≡ t → filter p rows ≡ cond t (row ∷ filter p next.back) (filter p next.back)
    passing t e =
        ap (filter p) next.split
        ∙ at_seam key p next.front next.back row t e
        ∙ ap (λ (l : List (A × X)). l ++ cond t (row ∷ filter p next.back) (filter p next.back)) (filter_none p next.front (upto_fail next.front parts.0 next.passed))

    -- so the next one is the first that passes
    next_first : p row ≡ true → first_of (filter p rows) ≡ Some row
    next_first pass = ap first_of (passing true pass)

    -- or none is, if what is after it fails too
    next_past : ((r : A × X) → fits r → bytes_cmp (key row.0) (key r.0) ≡ Less → p r ≡ false) → p row ≡ false → first_of (filter p rows) ≡ None
    next_past late fail = ap first_of (passing false fail ∙ filter_none p next.back (all_both fits (λ r. bytes_cmp (key row.0) (key r.0) ≡ Less) (λ r. p r ≡ false) next.back late parts.1.1 next.later))

-- ---- units

-- units that are spelled alike are one
units_apart : SpellsApart (RowFits Is64 IsUow) b64 uow_spelling
units_apart r s fr fs keys values = λ i. (one_whole Is64 b64 one64 r.0 s.0 fr.0 fs.0 keys i, one_whole IsUow uow_spelling one_uow r.1 s.1 fr.1 fs.1 values i)

-- the order of spelled seqs is that of the seqs
seq_before : (a b : ℕ) → Is64 a → Is64 b → is_before (b64 a) (b64 b) ≡ nat_lt a b
seq_before a b fa fb = key_is_before b64 (2 ^ 64) (λ x y fx fy. whole_order Is64 b64 nat_cmp order64 x y fx fy) a b fa fb

module _ (after : ℕ) (small : Is64 after) (c : Contents) where
  -- units up to the seq aren't above it
  unit_early : (r : ℕ × UowRow) → RowFits Is64 IsUow r → is_before (b64 after) (b64 r.0) ≡ false → nat_lt after r.0 ≡ false
  unit_early r fit none = sym (seq_before after r.0 small fit.0) ∙ none

  -- the first of all rows is that of the captured ones
  unit_captured : (found : Option UnitHead) → ((rows : List (ℕ × UowRow)) → AreUnitRows rows → HasUnitRows rows c → found ≡ first_unit after rows) → (server : Server) → ServerIsSound server → HasCaptured server c → found ≡ next_captured after server
  unit_captured found first server sound has = first (captured_units server) (unit_rows_are server sound) (has_units server c has) ∙ first_captured after server

  -- the unit that is read is the first above the seq
  pub finds_unit : (seq : ℕ) (row : UowRow) (head : UnitHead) → head ≡ head_of (seq, row) → Is64 seq → IsUow row → IsNextKey (c areas.Uow 0) (b64 after) (b64 seq) (uow_spelling row) → FindsUnit after (Some head) c
  finds_unit seq row head is fits_seq fits next =
      let first : (rows : List (ℕ × UowRow)) → AreUnitRows rows → HasUnitRows rows c → ◌≡◌ {A = Option UnitHead} (Some head) (first_unit after rows) = λ rows are has.
      let at : NextRow b64 rows (b64 after) (seq, row) = fits_next (RowFits Is64 IsUow) b64 uow_spelling rows (b64 after) (seq, row) units_apart are.fit (fits_seq, fits) are.rise (subst (λ (t : Table). IsNextKey t (b64 after) (b64 seq) (uow_spelling row)) has next) in
      let above : nat_lt after seq ≡ true = sym (seq_before after seq small fits_seq) ∙ ap is_lt at.above in
      ap (λ (h : UnitHead). Some h) is ∙ ap (option_map head_of) (sym (next_first b64 (RowFits Is64 IsUow) (λ r. nat_lt after r.0) (b64 after) unit_early rows (seq, row) are.fit at above)) in
      record {
        stands = subst (λ (h : UnitHead). c areas.Uow 0 (b64 h.seq) ≡ Some (uow_spelling (row_of h))) (sym is) next.has;
        first = first;
        captured = unit_captured (Some head) first;
      }

  -- if none is read, there is none above it
  pub finds_no_unit : IsLastKey (c areas.Uow 0) (b64 after) → FindsUnit after None c
  finds_no_unit last =
      let first : (rows : List (ℕ × UowRow)) → AreUnitRows rows → HasUnitRows rows c → ◌≡◌ {A = Option UnitHead} None (first_unit after rows) = λ rows are has. ap (option_map head_of) (sym (none_first b64 (RowFits Is64 IsUow) (λ r. nat_lt after r.0) (b64 after) unit_early rows are.fit (no_row b64 uow_spelling rows (b64 after) (subst (λ (t : Table). IsLastKey t (b64 after)) has last)))) in
      record { stands = tt; first = first; captured = unit_captured None first }

-- ---- change rows

-- the first row that is read after a key is the next of the rows
pub next_of_rows : (number : ℕ) (rows : List (CdKey × ChangeRow)) (c : Contents) (after : List ℕ) (key : CdKey) (row : ChangeRow) → AreChangeRows rows → HasChangeRows number rows c → IsChangeKey key → IsChangeRow row → IsNextKey (c areas.Cd number) after (change_key_spelling key) (change_row_spelling row) → NextRow change_key_spelling rows after (key, row)
next_of_rows number rows c after key row are has key_fits fits next = fits_next (RowFits IsChangeKey IsChangeRow) change_key_spelling change_row_spelling rows after (key, row) changes_apart are.fit (key_fits, fits) are.rise (subst (λ (t : Table). IsNextKey t after (change_key_spelling key) (change_row_spelling row)) has next)

-- with none read there is none of them
pub none_of_rows : (number : ℕ) (rows : List (CdKey × ChangeRow)) (c : Contents) (after : List ℕ) → HasChangeRows number rows c → IsLastKey (c areas.Cd number) after → NoneAfter change_key_spelling after rows
none_of_rows number rows c after has last = no_row change_key_spelling change_row_spelling rows after (subst (λ (t : Table). IsLastKey t after) has last)

module _ (number : ℕ) (after : CdKey) (upto : ℕ) (small : IsChangeKey after) (c : Contents) where
  -- rows up to the key aren't after it
  change_early : (r : CdKey × ChangeRow) → RowFits IsChangeKey IsChangeRow r → is_before (change_key_spelling after) (change_key_spelling r.0) ≡ false → is_from after upto r ≡ false
  change_early r fit none = ap (λ (b : Bool). b && nat_le r.0.commitseq upto) (ap is_lt (sym (keys_in_order after r.0 small fit.0)) ∙ none)

  -- the first of all rows is that of the captured ones
  change_found : (found : Option CdRow) → ((rows : List (CdKey × ChangeRow)) → AreChangeRows rows → HasChangeRows number rows c → found ≡ first_change after upto rows) → FindsChange number after upto found c
  change_found found first = record { first = first; captured = λ server t r sound has at is. first (captured_changes server r) (change_rows_are server sound number t r at is) (has_changes server c has number t r at is) }

  -- the row that is read is the first after it
  pub finds_change : (key : CdKey) (row : ChangeRow) (found : CdRow) → found ≡ change_of (key, row) → IsChangeKey key → IsChangeRow row → key.commitseq ≤ upto → IsNextKey (c areas.Cd number) (change_key_spelling after) (change_key_spelling key) (change_row_spelling row) → FindsChange number after upto (Some found) c
  finds_change key row found is key_fits fits le next = change_found (Some found) (λ rows are has.
      let at = next_of_rows number rows c (change_key_spelling after) key row are has key_fits fits next in
      let less : is_lt (change_key_cmp after key) ≡ true = ap is_lt (sym (keys_in_order after key small key_fits) ∙ at.above) in
      let pass : is_from after upto (key, row) ≡ true = (λ i. less i && le-leb key.commitseq upto le i) in
      ap (λ (r : CdRow). Some r) is ∙ ap (option_map change_of) (sym (next_first change_key_spelling (RowFits IsChangeKey IsChangeRow) (is_from after upto) (change_key_spelling after) change_early rows (key, row) are.fit at pass)))

  -- none is, if it is of a later unit
  pub finds_no_change : (key : CdKey) (row : ChangeRow) → IsChangeKey key → IsChangeRow row → upto < key.commitseq → IsNextKey (c areas.Cd number) (change_key_spelling after) (change_key_spelling key) (change_row_spelling row) → FindsChange number after upto None c
  finds_no_change key row key_fits fits lt next = change_found None (λ rows are has.
      let at = next_of_rows number rows c (change_key_spelling after) key row are has key_fits fits next in
      ap (option_map change_of) (sym (next_past change_key_spelling (RowFits IsChangeKey IsChangeRow) (is_from after upto) (change_key_spelling after) change_early rows (key, row) are.fit at (λ r fit later. fails r.0 (omega (arith, lt, units_rise key r.0 key_fits fit.0 later))) (fails key lt))))
    where
      fails : (k : CdKey) → upto < k.commitseq → (is_lt (change_key_cmp after k) && nat_le k.commitseq upto) ≡ false
      fails k late = and_right (is_lt (change_key_cmp after k)) (nat_le k.commitseq upto) (lt-leb k.commitseq upto late)

  -- nor if there is none
  pub finds_last_change : IsLastKey (c areas.Cd number) (change_key_spelling after) → FindsChange number after upto None c
  finds_last_change last = change_found None (λ rows are has. ap (option_map change_of) (sym (none_first change_key_spelling (RowFits IsChangeKey IsChangeRow) (is_from after upto) (change_key_spelling after) change_early rows are.fit (none_of_rows number rows c (change_key_spelling after) has last))))

-- ---- what is known of them for any contents

-- the unit that is read is above the seq, and has a spelling
pub unit_above : (after : ℕ) → Is64 after → (seq : ℕ) (row : UowRow) (head : UnitHead) → head ≡ head_of (seq, row) → Follows Is64 b64 IsUow uow_spelling (b64 after) (seq, row) → IsUnitAbove after head
unit_above after small seq row head is follows = subst (IsUnitAbove after) (sym is) (record {
  above = ltb-true after seq (sym (seq_before after seq small follows.fits) ∙ ap is_lt follows.above);
  small = follows.fits;
  fits = follows.row.fits;
})

-- the change row that is read is after the key, and has a spelling
pub change_from : (after : CdKey) (upto : ℕ) → IsChangeKey after → (key : CdKey) (row : ChangeRow) (found : CdRow) → found ≡ change_of (key, row) → Follows IsChangeKey change_key_spelling IsChangeRow change_row_spelling (change_key_spelling after) (key, row) → key.commitseq ≤ upto → IsChangeFrom after upto found
change_from after upto small key row found is follows le = subst (IsChangeFrom after upto) (sym is) (record {
  above = sym (keys_in_order after key small follows.fits) ∙ follows.above;
  upto_seq = le;
  fits = (follows.fits, follows.row.fits);
})
