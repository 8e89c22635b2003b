-- What puts of the rows of a load make of contents.
use Rattle.std.specs.Prelude.{◌≡◌, ℕ, false, List, length}
use Rattle.std.specs.List.{AllByRecursion}
use Rattle.repl_types.specs.declared.area.Area.{Area}
use Rattle.repl_types.specs.declared.area.Area.TheVariants as areas
use Rattle.keep_core.specs.Contents.{Contents, with_table}
use Rattle.row_codec.specs.Spelling.{Any, b32, short_text, set_spelling}
use Rattle.row_codec.specs.Storable.{IsStorable}
use Rattle.repl_definitions.specs.Defined.{defined_table_spelling, HasDefinedTableSpelling, defined_registration_spelling, HasDefinedRegistrationSpelling}
use Rattle.repl_definitions.specs.Sets.{source_set_spelling, HasSourceSetSpelling, target_set_spelling, HasTargetSetSpelling}
use Rattle.repl_records.specs.Capture.{registration_state_spelling}
use Rattle.repl_records.specs.Prune.{mark_spelling}
use Rattle.site_store.specs.Calls.{Bounds, writes_of_one, both}
use Rattle.spelled_defs.specs.declared.defs.Defs.{Defs}
use Rattle.load_plan.specs.Limits.{has_many_tables, has_many_sets}
use Rattle.load_plan.specs.Additions.{additions_at}
use Rattle.load_plan.specs.declared.stored.StoredServer.{StoredServer}
use Rattle.load_plan.specs.declared.additions.Additions.{Additions}
use Rattle.load_laws.specs.planned.Planned.{with_rows, table_additions, registration_additions, state_additions, source_additions, mark_additions, target_additions}
use Rattle.load_laws.specs.texts.AcceptedTexts.{AreStorable}
use Rattle.load_defs.specs.declared.rows.AddedRows.{AddedRows}

-- ---- rows

-- the rows for what a server gets
abbrev pub added_rows : Additions → AddedRows
added_rows added = record {
  tables = table_additions added;
  registrations = registration_additions added;
  states = state_additions added;
  sources = source_additions added;
  marks = mark_additions added;
  targets = target_additions added;
}

-- a key and a record may be stored
abbrev pub MayBePut : {A X : Type 0} → (A → Type 0) → (X → Type 0) → A × X → Type 0
MayBePut key value row = key row.0 × value row.1

-- the rows may be stored. Keys, states and marks always may
pub record MayBePutAll (rows : AddedRows) : Type 0 where
  pub tables : AllByRecursion (MayBePut Any (IsStorable HasDefinedTableSpelling defined_table_spelling)) rows.tables
  pub registrations : AllByRecursion (MayBePut Any (IsStorable HasDefinedRegistrationSpelling defined_registration_spelling)) rows.registrations
  pub states : AllByRecursion (MayBePut Any Any) rows.states
  pub sources : AllByRecursion (MayBePut Any (IsStorable HasSourceSetSpelling source_set_spelling)) rows.sources
  pub marks : AllByRecursion (MayBePut Any Any) rows.marks
  pub targets : AllByRecursion (MayBePut Any (IsStorable HasTargetSetSpelling target_set_spelling)) rows.targets

-- A server has room for what it gets by a load, and the rows of it may be stored.
pub record CanBeLoaded (defs : Defs) (stored : StoredServer) : Type 0 where
  pub tables : has_many_tables defs stored ≡ false
  pub sets : has_many_sets defs stored ≡ false
  pub rows : AreStorable (additions_at defs stored)

-- ---- contents

-- contents after rows were put into one of their tables
abbrev pub with_put : {A X : Type 0} → (A → List ℕ) → (X → List ℕ) → Area → ℕ → List (A × X) → Contents → Contents
with_put key value a t rows c = with_table c a t (with_rows key value rows (c a t))

-- contents after all rows of a load were put
abbrev pub with_added : AddedRows → Contents → Contents
with_added rows c =
    let tables = with_put short_text defined_table_spelling areas.Defs 0 rows.tables c in
    let registrations = with_put short_text defined_registration_spelling areas.Defs 1 rows.registrations tables in
    let states = with_put b32 registration_state_spelling areas.Capture 1 rows.states registrations in
    let sources = with_put set_spelling source_set_spelling areas.Defs 2 rows.sources states in
    let marks = with_put b32 mark_spelling areas.Prune 0 rows.marks sources in
    with_put set_spelling target_set_spelling areas.Defs 3 rows.targets marks

-- how often is written, at most
abbrev pub added_written : ℕ → AddedRows → Bounds
added_written server rows =
    both (writes_of_one (length rows.tables) server areas.Defs)
    (both (writes_of_one (length rows.registrations) server areas.Defs)
    (both (writes_of_one (length rows.states) server areas.Capture)
    (both (writes_of_one (length rows.sources) server areas.Defs)
    (both (writes_of_one (length rows.marks) server areas.Prune)
    (writes_of_one (length rows.targets) server areas.Defs)))))
