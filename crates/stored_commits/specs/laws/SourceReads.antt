-- What a read of a stored table of the source tells.
use Rattle.std.proofs.Common.{◌≡◌, ℕ, Bool, true, false, cond, ◌&&◌, ◌||◌, List, [], ◌∷◌, Option, Some, None, refl, sym, ap, subst, ◌∙◌, IfSome, is_none, option_map}
use Rattle.std.specs.FinMap.Entries.{find}
use Rattle.std.specs.List.{AllByRecursion}
use Rattle.std.specs.Ordering.{eq_by_cmp}
use Rattle.std.proofs.lemmas.Option.{none-some, same_Some}
use Rattle.std.specs.FinMap.{get, entries, get-entries}
use Rattle.world_store.specs.Words.{IsKey, IsRow, key_spelling, row_spelling, one_whole, order_key, one_row, SourceRow, source_row_spelling, IsSourceRow, table_finds}
use Rattle.repl_model.specs.Words.{all_weaker, Values, key_cmp, key_cmp_total, TableDef, Rows, key_of, is_row}
use Rattle.stored_commits.specs.records.SourceTables.{StandsUnderKey, RowsStand}
use Rattle.stored_commits.specs.records.SourceReads.{RowStandsAtKey, Found, values_read, ReadFindsRow, InsertIsDecided, DeleteIsDecided, UpdateIsDecided, MoveIsDecided}
use Rattle.stored_commits.specs.laws.StoredRows.{entries_fit, entries_table}
use Rattle.stored_commits.specs.records.laws.StandingRows.{key_fits}

-- at the spelling of a key stands the row of the key
pub stands_at_key : RowStandsAtKey
stands_at_key def rows key stand fits =
    ap (λ (t : List ℕ → Option (List ℕ)). t (key_spelling key)) (entries_table rows)
    ∙ table_finds key_spelling IsKey key_cmp key_cmp_total order_key row_spelling key (entries rows) fits (entries_fit def rows stand)
    ∙ ap (option_map row_spelling) (sym (get-entries rows key))

-- ---- the row of a key

-- what is found at a key is a row of values, if all are
found_row : (es : List (Values × Values)) (key : Values) (o : Option Values) → AllByRecursion (λ e. IsRow e.1) es → find key_cmp key es ≡ o → IfSome o IsRow
found_row [] key None all e = tt
found_row [] key (Some row) all e = absurd cc
found_row (x ∷ es) key o all e = by_test (eq_by_cmp key_cmp key x.0) (found_row es key o all.1) e
  where
    by_test : (b : Bool) → (find key_cmp key es ≡ o → IfSome o IsRow) → cond b (Some x.1) (find key_cmp key es) ≡ o → IfSome o IsRow
    by_test true later e = subst (λ (o : Option Values). IfSome o IsRow) e all.0
    by_test false later e = later e

-- so the row of a key is
row_at : (def : TableDef) (rows : Rows) (key : Values) → RowsStand def rows → IfSome (get rows key) IsRow
row_at def rows key stand = found_row (entries rows) key (get rows key) (all_weaker (StandsUnderKey def) (λ entry. IsRow entry.1) (entries rows) (λ entry s. s.row) stand) (sym (get-entries rows key))

-- rows that are spelled alike are one
one_read : (o : Option Values) (found : Option SourceRow) → IfSome o IsRow → IfSome found IsSourceRow → option_map row_spelling o ≡ option_map source_row_spelling found → o ≡ values_read found
one_read None None fo ff e = refl
one_read None (Some r) fo ff e = absurd (none-some (source_row_spelling r) e)
one_read (Some row) None fo ff e = absurd (none-some (row_spelling row) (sym e))
one_read (Some row) (Some r) fo ff e = ap Some (one_whole IsRow row_spelling one_row row r.row fo ff (same_Some (row_spelling row) (source_row_spelling r) e))

-- what is found is the row of the key
pub read_finds_row : ReadFindsRow
read_finds_row def rows key found stand fits read = one_read (get rows key) found (row_at def rows key stand) read.fits (sym (stands_at_key def rows key stand fits) ∙ read.stands)

-- ---- whether a change applies

-- nothing is read if no row is
none_read : (found : Option SourceRow) → is_none (values_read found) ≡ is_none found
none_read None = refl
none_read (Some r) = refl

-- no row of values is the key's if none is read
none_at : (def : TableDef) (rows : Rows) (row : Values) (found : Option SourceRow) → RowsStand def rows → IsRow row → Found rows (key_of def row) found → is_none (get rows (key_of def row)) ≡ is_none found
none_at def rows row found stand fits read = ap (λ (o : Option Values). is_none o) (read_finds_row def rows (key_of def row) found stand (key_fits def row fits) read) ∙ none_read found

-- an insert
pub insert_decided : InsertIsDecided
insert_decided def rows table row found stand fits read = none_at def rows row found stand fits read

-- the row of a row's key is the row if it is read
holds_read : (def : TableDef) (rows : Rows) (row : Values) (found : Option SourceRow) → RowsStand def rows → IsRow row → Found rows (key_of def row) found → is_row row (get rows (key_of def row)) ≡ is_row row (values_read found)
holds_read def rows row found stand fits read = ap (is_row row) (read_finds_row def rows (key_of def row) found stand (key_fits def row fits) read)

-- a delete
pub delete_decided : DeleteIsDecided
delete_decided def rows table row found stand fits read = holds_read def rows row found stand fits read

-- an update that keeps the key
pub update_decided : UpdateIsDecided
update_decided def rows table before after found stand fits read same =
    let held = is_row before (get rows (key_of def before)) in
    ap (λ (b : Bool). held && (b || is_none (get rows (key_of def after)))) same
    ∙ all_true held
    ∙ holds_read def rows before found stand fits read
  where
    all_true : (b : Bool) → (b && true) ≡ b
    all_true true = refl
    all_true false = refl

-- one that moves the key
pub move_decided : MoveIsDecided
move_decided def rows table before after old new stand fb fa read_old read_new moved =
    let held = is_row before (get rows (key_of def before)) in
    ap (λ (b : Bool). held && (b || is_none (get rows (key_of def after)))) moved
    ∙ ap (λ (b : Bool). b && is_none (get rows (key_of def after))) (holds_read def rows before old stand fb read_old)
    ∙ ap (λ (b : Bool). is_row before (values_read old) && b) (none_at def rows after new stand fa read_new)
