-- What reads of rows tell of changes: proofs.
use Rattle.std.proofs.Common.{◌≡◌, ℕ, Bool, true, false, List, refl, sym, ap, subst, ◌∙◌, Option, Some, None, [], not, ◌&&◌, ◌||◌, is_none, is_some, option_map}
use Rattle.std.specs.FinMap.{get}
use Rattle.world_store.specs.Words.{not_both, same_itself, IsRow, key_spelling, row_spelling, source_row_spelling, SourceRow}
use Rattle.site_store.specs.Words.{Contents, Table, same_key}
use Rattle.repl_model.specs.Words.{Values, DefinedTable, Rows, key_of, same_values, is_row, holds, same_values_exact}
use Rattle.repl_types.specs.declared.area.Area.TheVariants as areas
use Rattle.repl_types.specs.declared.record.Change.TheVariants.{Insert, Update, Delete}
use Rattle.stored_commits.specs.records.SourceTables.{RowsStand, rows_table}
use Rattle.stored_commits.specs.records.SourceReads.{Found, values_read}
use Rattle.source_log.specs.Making.{Tells}
use Rattle.source_log.specs.Reading.{FindsRow, HasFreeKey}
use Rattle.source_log.proofs.Makes.{back_by_table, insert_back, delete_back, update_back}
use Rattle.stored_commits.specs.laws.SourceReads.{delete_decided, insert_decided}

-- if nothing was found, nothing stands there
nothing_found : (found : Option SourceRow) → is_none found ≡ true → option_map source_row_spelling found ≡ None
nothing_found None e = refl
nothing_found (Some r) e = absurd cc

-- if a row was found, it stands there
row_found : (row : Values) (found : Option SourceRow) → is_row row (values_read found) ≡ true → option_map source_row_spelling found ≡ Some (row_spelling row)
row_found row None e = absurd cc
row_found row (Some r) e = ap (λ (v : Values). Some (row_spelling v)) (same_values_exact r.row row e)

-- what was found of rows that make the table
found_of : (table : DefinedTable) (rows : Rows) (key : Values) (found : Option SourceRow) (c : Contents) → FindsRow table.number key found c → c areas.Source table.number ≡ rows_table rows → Found rows key found
found_of table rows key found c f has = record { stands = sym (ap (λ (t : Table). t (key_spelling key)) has) ∙ f.stands; fits = f.fits }

-- whether an insert applies
pub insert_tells : (table : DefinedTable) (row key : Values) (found : Option SourceRow) (answer : Bool) (c : Contents) → IsRow row → key ≡ key_of table.def row → answer ≡ is_none found → FindsRow table.number key found c → (name : List ℕ) → Tells table (Insert name row) answer c
insert_tells table row key found answer c values is says f name =
    let g : FindsRow table.number (key_of table.def row) found c = subst (λ (k : Values). FindsRow table.number k found c) is f in
    record {
      decides = λ rows stand has. says ∙ sym (insert_decided table.def rows name row found stand values (found_of table rows (key_of table.def row) found c g has));
      back = λ yes. back_by_table table (Insert name row) c (insert_back (c areas.Source table.number) (key_spelling (key_of table.def row)) (row_spelling row) (g.stands ∙ nothing_found found (sym says ∙ yes)));
    }

-- whether a delete does
pub delete_tells : (table : DefinedTable) (row key : Values) (found : Option SourceRow) (answer : Bool) (c : Contents) → IsRow row → key ≡ key_of table.def row → answer ≡ is_row row (values_read found) → FindsRow table.number key found c → (name : List ℕ) → Tells table (Delete name row) answer c
delete_tells table row key found answer c values is says f name =
    let g : FindsRow table.number (key_of table.def row) found c = subst (λ (k : Values). FindsRow table.number k found c) is f in
    record {
      decides = λ rows stand has. says ∙ sym (delete_decided table.def rows name row found stand values (found_of table rows (key_of table.def row) found c g has));
      back = λ yes. back_by_table table (Delete name row) c (delete_back (c areas.Source table.number) (key_spelling (key_of table.def row)) (row_spelling row) (g.stands ∙ row_found row found (sym says ∙ yes)));
    }

-- what a test for nothing says
pub none_says : (found : Option SourceRow) (answer : Bool) → is_some found ≡ not answer → answer ≡ is_none found
none_says None true e = refl
none_says None false e = absurd cc
none_says (Some r) true e = absurd cc
none_says (Some r) false e = refl

-- whether an update applies
module _ (table : DefinedTable) (before after key : Values) (found : Option SourceRow) (c : Contents) (values : IsRow before) (fresh : IsRow after) (is : key ≡ key_of table.def before) (f : FindsRow table.number key found c) where
  -- the before-image is in the table if it was found
  held_before : (rows : Rows) → RowsStand table.def rows → c areas.Source table.number ≡ rows_table rows → holds table.def before rows ≡ is_row before (values_read found)
  held_before rows stand has = delete_decided table.def rows [] before found stand values (found_of table rows (key_of table.def before) found c (subst (λ (k : Values). FindsRow table.number k found c) is f) has)

  -- it doesn't if the before-image isn't there
  pub update_tells_none : is_row before (values_read found) ≡ false → (name : List ℕ) → Tells table (Update name before after) false c
  update_tells_none differs name = record {
    decides = λ rows stand has. sym (ap (λ (b : Bool). b && (same_values (key_of table.def before) (key_of table.def after) || is_none (get rows (key_of table.def after)))) (held_before rows stand has ∙ differs));
    back = λ yes. absurd cc;
  }

  -- and if it is there, it depends on the other key
  pub update_tells : (answer : Bool) → is_row before (values_read found) ≡ true → HasFreeKey table key after answer c → (name : List ℕ) → Tells table (Update name before after) answer c
  update_tells answer there free name =
      let old = key_of table.def before in
      let new = key_of table.def after in
      let says : answer ≡ (same_values old new || is_none free.found) = free.says ∙ ap (λ (k : Values). same_values k new || is_none free.found) is in
      let looked : same_values old new ≡ false → FindsRow table.number new free.found c = λ e. free.looked (ap (λ (k : Values). same_values k new) is ∙ e) in
      let g : FindsRow table.number old found c = subst (λ (k : Values). FindsRow table.number k found c) is f in
      record {
        decides = λ rows stand has.
            says
            ∙ either (same_values old new) refl (is_none free.found) (is_none (get rows new)) (λ e. sym (insert_decided table.def rows name after free.found stand fresh (found_of table rows new free.found c (looked e) has)))
            ∙ sym (ap (λ (b : Bool). b && (same_values old new || is_none (get rows new))) (held_before rows stand has ∙ there));
        back = λ yes. back_by_table table (Update name before after) c (update_back (c areas.Source table.number) (key_spelling old) (key_spelling new) (row_spelling before) (row_spelling after) (g.stands ∙ row_found before found there) (λ differ.
            let other : same_values old new ≡ false = apart (same_values old new) refl differ in
            (looked other).stands ∙ nothing_found free.found (sym (ap (λ (b : Bool). b || is_none free.found) other) ∙ sym says ∙ yes)));
      }
    where
      either : (b : Bool) → same_values (key_of table.def before) (key_of table.def after) ≡ b → (x y : Bool) → (same_values (key_of table.def before) (key_of table.def after) ≡ false → x ≡ y) → (b || x) ≡ (b || y)
      either true e x y h = refl
      either false e x y h = h e

      apart : (b : Bool) → same_values (key_of table.def before) (key_of table.def after) ≡ b → same_key (key_spelling (key_of table.def after)) (key_spelling (key_of table.def before)) ≡ false → same_values (key_of table.def before) (key_of table.def after) ≡ false
      apart false e d = e
      apart true e d = absurd (not_both (same_key (key_spelling (key_of table.def after)) (key_spelling (key_of table.def before))) (subst (λ (k : Values). same_key (key_spelling k) (key_spelling (key_of table.def before)) ≡ true) (same_values_exact (key_of table.def before) (key_of table.def after) e) (same_itself (key_spelling (key_of table.def before)))) d)

-- the other key is the same
pub free_same : (table : DefinedTable) (old_key after new_key : Values) (c : Contents) → new_key ≡ key_of table.def after → same_values old_key new_key ≡ true → HasFreeKey table old_key after true c
free_same table old_key after new_key c is same =
    let e : same_values old_key (key_of table.def after) ≡ true = subst (λ (k : Values). same_values old_key k ≡ true) is same in
    record { found = None; says = sym (ap (λ (b : Bool). b || true) e); looked = λ other. absurd (not_both (same_values old_key (key_of table.def after)) e other) }

-- or it was looked for
pub free_found : (table : DefinedTable) (old_key after new_key : Values) (found : Option SourceRow) (answer : Bool) (c : Contents) → new_key ≡ key_of table.def after → same_values old_key new_key ≡ false → answer ≡ is_none found → FindsRow table.number new_key found c → HasFreeKey table old_key after answer c
free_found table old_key after new_key found answer c is other says f = record {
  found = found;
  says = says ∙ sym (ap (λ (b : Bool). b || is_none found) (subst (λ (k : Values). same_values old_key k ≡ false) is other));
  looked = λ e. subst (λ (k : Values). FindsRow table.number k found c) is f;
}
