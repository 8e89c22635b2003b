-- The content of a table, and what a change does to it.
use Rattle.std.specs.Prelude.{ℕ, Bool, true, false, ◌&&◌, ◌||◌, if◌then◌else◌, List, [], ◌∷◌, Option, Some, None, is_none}
use Rattle.std.specs.Ordering.{is_eq}
use Rattle.std.specs.Str.{bytes_eq}
use Rattle.std.specs.FinMap.{FinMap, get, insert, remove}
use Rattle.repl_types.specs.Value.{Values, key_cmp, images}
use Rattle.repl_types.specs.declared.table.TableDef.{TableDef}
use Rattle.repl_types.specs.declared.record.Change.{Change}
use Rattle.repl_types.specs.declared.record.Change.TheVariants.{Insert, Update, Delete, Start, Stop}

-- the content of a table: its rows by their keys
abbrev pub Rows : Type 0
Rows = FinMap key_cmp Values

-- the key of a row of a table
abbrev pub key_of : TableDef → Values → Values
key_of def row = images def.key row

-- the two lists of values are alike
abbrev pub same_values : Values → Values → Bool
same_values a b = is_eq (key_cmp a b)

-- the table that a change is of
abbrev pub table_of : Change → List ℕ
table_of (Insert table row) = table
table_of (Update table before after) = table
table_of (Delete table row) = table
table_of (Start table) = table
table_of (Stop table) = table

-- the rows of the changed table after the change: an insert adds its row, a delete removes the row of its
-- key, an update does both. A start or a stop changes no row.
abbrev pub effect : TableDef → Change → Rows → Rows
effect def (Insert table row) rows = insert rows (key_of def row) row
effect def (Update table before after) rows = insert (remove rows (key_of def before)) (key_of def after) after
effect def (Delete table row) rows = remove rows (key_of def row)
effect def (Start table) rows = rows
effect def (Stop table) rows = rows

-- the rows of the table after a change of any table
unfoldable pub after_change : TableDef → Change → Rows → Rows
after_change def change rows = if bytes_eq (table_of change) def.name then effect def change rows else rows

-- the change that takes a change back: a delete for an insert, an insert for a delete, and the update back
-- for an update
abbrev pub inverse : Change → Change
inverse (Insert table row) = Delete table row
inverse (Update table before after) = Update table after before
inverse (Delete table row) = Insert table row
inverse (Start table) = Start table
inverse (Stop table) = Stop table

-- what stands at a key is this row
abbrev pub is_row : Values → Option Values → Bool
is_row row None = false
is_row row (Some found) = same_values found row

-- the rows hold this row at its key
abbrev pub holds : TableDef → Values → Rows → Bool
holds def row rows = is_row row (get rows (key_of def row))

-- whether a change applies to the rows of its own table: an insert if its key is absent, a delete if the
-- row of its key is its row, and an update if the row of the before-image's key is the before-image and
-- the new key is the same or absent
abbrev pub applies_here : TableDef → Change → Rows → Bool
applies_here def (Insert table row) rows = is_none (get rows (key_of def row))
applies_here def (Update table before after) rows = holds def before rows
    && (same_values (key_of def before) (key_of def after) || is_none (get rows (key_of def after)))
applies_here def (Delete table row) rows = holds def row rows
applies_here def (Start table) rows = true
applies_here def (Stop table) rows = true

-- whether a change of any table applies: one of another table always does
unfoldable pub applies : TableDef → Change → Rows → Bool
applies def change rows = if bytes_eq (table_of change) def.name then applies_here def change rows else true

-- the rows after changes, one after another
abbrev pub after_changes : TableDef → List Change → Rows → Rows
after_changes def [] rows = rows
after_changes def (change ∷ changes) rows = after_changes def changes (after_change def change rows)

-- each change applies after those before it
abbrev pub all_apply : TableDef → List Change → Rows → Bool
all_apply def [] rows = true
all_apply def (change ∷ changes) rows = applies def change rows && all_apply def changes (after_change def change rows)
