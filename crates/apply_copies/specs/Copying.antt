-- What copying the rows of a source, one after another, makes of contents.
use Rattle.std.specs.Prelude.{◌≡◌, ℕ, ◌<◌, ◌≤◌, ◌^◌, Bool, true, false, List, [], length, map, filter, Option, Some, None, IfSome}
use Rattle.std.specs.List.{AllByRecursion}
use Rattle.repl_types.specs.Sizes.{row_limit}
use Rattle.repl_types.specs.Value.{Values}
use Rattle.repl_types.specs.declared.area.Area.{Area}
use Rattle.repl_types.specs.declared.area.Area.TheVariants as areas
use Rattle.keep_core.specs.Contents.{Contents, IsNextKey, IsLastKey, put_at}
use Rattle.row_codec.specs.Spelling.{IsKey, IsRow, key_spelling, row_spelling}
use Rattle.repl_definitions.specs.Members.{IsMember}
use Rattle.repl_definitions.specs.declared.member.Member.{Member}
use Rattle.repl_records.specs.TargetSide.{copy_spelling}
use Rattle.repl_records.specs.declared.target_side.CopyRow.{CopyRow}
use Rattle.rows_in_order.specs.Rows.{table_from_rows, AllAfter, IsRising}
use Rattle.repl_model.specs.Selection.{is_selected, target_row}
use Rattle.world_store.specs.Tables.{no_rows}
use Rattle.site_store.specs.Damage.{ShownBefore}
use Rattle.world_store.specs.SpelledRows.{RowFits}
use Rattle.apply_copies.specs.Loading.{is_target}
use Rattle.apply_copies.specs.Rules.{target_rules}

-- The member is one that can be stored, and no row of its target is too long.
pub record CanBeCopied (member : Member) : Type 0 where
  pub fits : IsMember member
  pub narrow : length member.columns ≤ row_limit

-- no area is read, since a row is only put
abbrev pub no_area : Area → Bool
no_area a = false

-- if a row is selected, the row that it makes is put under a key, and else nothing
abbrev pub LoadsSelected : Bool → ℕ → Member → Values → Values → ℕ → Contents → Contents → Type 0
LoadsSelected true number member key row put c d = (put ≡ 1) × (d ≡ put_at c areas.Target number (key_spelling key) (Some (row_spelling (target_row member row))))
LoadsSelected false number member key row put c d = (put ≡ 0) × (d ≡ c)

-- A row of the source was copied, if the member selects it. So many rows were put, and no damage is shown that wasn't
-- shown before.
pub record LoadsRow (number : ℕ) (member : Member) (key row : Values) (put : ℕ) (c d : Contents) : Type 0 where
  pub shown : (n : ℕ) → ShownBefore (target_rules n) c d
  pub loads : LoadsSelected (is_selected member row) number member key row put c d

-- ---- rows in turn

-- The contents have these rows in a table of the source: they are rows of values in the order of their keys, each key
-- has a byte, and 64 bits count them.
pub record HasRows (table : ℕ) (rows : List (Values × Values)) (c : Contents) : Type 0 where
  pub is : c areas.Source table ≡ table_from_rows key_spelling row_spelling rows
  pub rises : IsRising key_spelling rows
  pub some : AllAfter key_spelling [] rows
  pub fit : AllByRecursion (RowFits IsKey IsRow) rows
  pub few : length rows < 2 ^ 64

-- the rows that a member selects
abbrev pub selected : Member → List (Values × Values) → List (Values × Values)
selected member rows = filter (λ r. is_selected member r.1) rows

-- the rows that they make
abbrev pub copied : Member → List (Values × Values) → List (Values × CopyRow)
copied member rows = map (λ r. (r.0, record { row = target_row member r.1 })) (selected member rows)

-- The first row of a table of the source after a key was copied: this was its key, and so many rows were put. Or there
-- is no such row.
abbrev pub LoadsNext : Option Contents → ℕ → ℕ → Member → List ℕ → Option (Values × ℕ) → Contents → Contents → Type 0
LoadsNext saw table number member after None c d = (d ≡ c) × IfSome saw (λ s. IsLastKey (s areas.Source table) after)
LoadsNext saw table number member after (Some next) c d = (row : Values) × IsRow row × IfSome saw (λ s. IsNextKey (s areas.Source table) after (key_spelling next.0) (row_spelling row)) × LoadsRow number member next.0 row next.1 c d

-- All rows of a table of the source were copied to a target that had none, and so many were put. All other tables are
-- as they were, and no damage is shown that wasn't shown before.
pub record LoadsAll (saw : Option Contents) (table number : ℕ) (member : Member) (put : ℕ) (c d : Contents) : Type 0 where
  pub others : (a : Area) (n : ℕ) → is_target number a n ≡ false → d a n ≡ c a n
  pub shown : (n : ℕ) → ShownBefore (target_rules n) c d
  pub copies : IfSome saw (λ s. (rows : List (Values × Values)) → HasRows table rows s → c areas.Target number ≡ no_rows
      → (d areas.Target number ≡ table_from_rows key_spelling copy_spelling (copied member rows)) × (put ≡ length (selected member rows)))
