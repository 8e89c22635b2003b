-- Whether changes apply to the rows of a table, evaluated over the rows' entries.
use Rattle.std.proofs.Common.{◌≡◌, ℕ, Bool, true, cond, ◌&&◌, ◌||◌, List, [], ◌∷◌, Option, refl, ap, ◌∙◌, nat_le, is_none, bytes_eq}
use Rattle.std.specs.FinMap.Entries.{find}
use Rattle.std.specs.List.{list_all}
use Rattle.std.specs.FinMap.{empty, get, entries, get-entries}
use Rattle.repl_types.specs.Value.{Values, key_cmp}
use Rattle.repl_types.specs.declared.table.TableDef.{TableDef}
use Rattle.repl_types.specs.declared.record.Change.{Change}
use Rattle.repl_types.specs.declared.record.Change.TheVariants.{Insert, Update, Delete, Start, Stop}
use Rattle.repl_types.specs.declared.record.SetId.{SetId}
use Rattle.repl_types.specs.declared.record.LogRecord.{LogRecord}
use Rattle.repl_types.specs.declared.record.LogRecord.TheVariants as records
use Rattle.repl_model.specs.Tables.{Rows, key_of, same_values, table_of, is_row, applies_here, applies, after_change, all_apply}
use Rattle.repl_model.specs.Units.{units, last_commit, last_time, open_changes}
use Rattle.repl_model.specs.SourceAt.{unplaced, units_up_to, source_at}
use Rattle.repl_model.specs.Applicable.{is_applicable}
use Rattle.repl_model.specs.laws.Evaluate.{Entries, effect_on, units_on, entries_empty, changes_entries, source_entries}

-- whether a change applies to the entries of its own table
abbrev pub applies_on : TableDef → Change → Entries → Bool
applies_on def (Insert table row) es = is_none (find key_cmp (key_of def row) es)
applies_on def (Update table before after) es = is_row before (find key_cmp (key_of def before) es)
    && (same_values (key_of def before) (key_of def after) || is_none (find key_cmp (key_of def after) es))
applies_on def (Delete table row) es = is_row row (find key_cmp (key_of def row) es)
applies_on def (Start table) es = true
applies_on def (Stop table) es = true

-- whether changes of any table apply, each after those before it
abbrev pub all_apply_on : TableDef → List Change → Entries → Bool
all_apply_on def [] es = true
all_apply_on def (change ∷ changes) es =
    cond (bytes_eq (table_of change) def.name) (applies_on def change es) true
    && all_apply_on def changes (cond (bytes_eq (table_of change) def.name) (effect_on def change es) es)

-- whether a change applies to rows of its own table, by their entries
applies_here_entries : (def : TableDef) (change : Change) (rows : Rows) → applies_here def change rows ≡ applies_on def change (entries rows)
applies_here_entries def (Insert table row) rows = ap is_none (get-entries rows (key_of def row))
applies_here_entries def (Update table before after) rows =
    ap (λ (found : Option Values). is_row before found && (same_values (key_of def before) (key_of def after) || is_none (get rows (key_of def after)))) (get-entries rows (key_of def before))
    ∙ ap (λ (found : Option Values). is_row before (find key_cmp (key_of def before) (entries rows)) && (same_values (key_of def before) (key_of def after) || is_none found)) (get-entries rows (key_of def after))
applies_here_entries def (Delete table row) rows = ap (is_row row) (get-entries rows (key_of def row))
applies_here_entries def (Start table) rows = refl
applies_here_entries def (Stop table) rows = refl

-- whether changes apply to rows, by their entries
all_apply_entries : (def : TableDef) (changes : List Change) (rows : Rows) → all_apply def changes rows ≡ all_apply_on def changes (entries rows)
unfolding applies
all_apply_entries def [] rows = refl
all_apply_entries def (change ∷ changes) rows =
    ap (λ (b : Bool). cond (bytes_eq (table_of change) def.name) b true && all_apply def changes (after_change def change rows)) (applies_here_entries def change rows)
    ∙ ap (λ (b : Bool). cond (bytes_eq (table_of change) def.name) (applies_on def change (entries rows)) true && b) (all_apply_entries def changes (after_change def change rows) ∙ ap (all_apply_on def changes) (changes_entries def (change ∷ []) rows))

-- whether changes apply to no rows, evaluated
pub all_apply_first : (def : TableDef) (changes : List Change) → all_apply def changes empty ≡ all_apply_on def changes []
all_apply_first def changes = all_apply_entries def changes empty ∙ ap (all_apply_on def changes) entries_empty

-- whether changes apply to the rows of each of some tables at a point, by their entries
tables_apply : (tables : List TableDef) (changes : List Change) (log : List LogRecord) (point : ℕ) → list_all (λ def. all_apply def changes (source_at def log point)) tables ≡ list_all (λ def. all_apply_on def changes (units_on def (units_up_to point log) [])) tables
tables_apply [] changes log point = refl
tables_apply (def ∷ tables) changes log point =
    ap (λ (b : Bool). b && list_all (λ d. all_apply d changes (source_at d log point)) tables) (all_apply_entries def changes (source_at def log point) ∙ ap (all_apply_on def changes) (source_entries def log point))
    ∙ ap (λ (b : Bool). all_apply_on def changes (units_on def (units_up_to point log) []) && b) (tables_apply tables changes log point)

-- whether a commit is applicable after a log, evaluated
pub commit_applicable : (tables : List TableDef) (log : List LogRecord) (tx time : ℕ) (authid : List ℕ) (origin : Option SetId) → is_applicable tables log (records.Commit tx time authid origin) ≡ (nat_le (last_time (units log)) time && list_all (λ def. all_apply_on def (unplaced (open_changes tx log)) (units_on def (units_up_to (last_commit log) log) [])) tables)
unfolding is_applicable
commit_applicable tables log tx time authid origin = ap (λ (b : Bool). nat_le (last_time (units log)) time && b) (tables_apply tables (unplaced (open_changes tx log)) log (last_commit log))
