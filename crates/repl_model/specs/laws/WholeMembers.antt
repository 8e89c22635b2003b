-- A user copy of all rows, each as it is, is the copy of the source.
use Rattle.std.proofs.Common.{◌≡◌, ℕ, Bool, true, false, cond, List, [], ◌∷◌, length, map, Option, None, refl, sym, ap, subst, ◌∙◌, IsTrue, slice_index_or, nat_le, bytes_eq, Less, Equal, Greater}
use Rattle.std.specs.List.{AllByRecursion, filter_map, cons_option, range_with_len}
use Rattle.std.specs.Option.{option_map_or}
use Rattle.std.specs.FinMap.{put, entries}
use Rattle.std.specs.FinMap.Entries.{by_order}
use Rattle.std.proofs.lemmas.List.FromFn.{fill_by_all}
use Rattle.repl_types.specs.Value.{Values, key_cmp, images}
use Rattle.repl_types.specs.laws.Lists.{all_weaker, all_filter, filter_all}
use Rattle.repl_types.specs.declared.value.Value.{Value}
use Rattle.repl_types.specs.declared.value.Value.TheVariants.{Null}
use Rattle.repl_types.specs.declared.table.TableDef.{TableDef}
use Rattle.repl_types.specs.declared.record.Change.{Change}
use Rattle.repl_types.specs.declared.record.Change.TheVariants.{Insert, Update, Delete, Start, Stop}
use Rattle.repl_types.specs.declared.record.LogRecord.{LogRecord}
use Rattle.repl_types.specs.declared.unit.Placed.{Placed}
use Rattle.repl_types.specs.declared.unit.Unit.{Unit}
use Rattle.repl_definitions.specs.declared.expr.Expr.TheVariants as exprs
use Rattle.repl_definitions.specs.declared.predicate.Predicate.{Predicate}
use Rattle.repl_definitions.specs.declared.member.ColumnFrom.TheVariants.{Plain}
use Rattle.repl_definitions.specs.declared.member.Member.{Member}
use Rattle.repl_definitions.specs.declared.member.TargetColumn.{TargetColumn}
use Rattle.repl_model.specs.Tables.{key_of, table_of}
use Rattle.repl_model.specs.Units.{units}
use Rattle.repl_model.specs.SourceAt.{unplaced, units_up_to}
use Rattle.repl_model.specs.Copies.{copy_at, IsWhole, LeavesKey, LeavesKeys}
use Rattle.repl_model.specs.Expressions.{is_true_of}
use Rattle.repl_model.specs.Selection.{SourceTable, is_selected, plain_value, target_row}
use Rattle.repl_model.specs.MemberCopies.{user_copy}
use Rattle.repl_model.specs.WholeMembers.{CopiesWholeRows}
use Rattle.repl_model.specs.laws.Trees.{value_column}
use Rattle.repl_model.specs.laws.CopyByRows.{PlacedLeavesKey, units_leave}
use Rattle.repl_model.specs.laws.Evaluate.{Entries, without, effect_on, changes_on, units_on, source_entries}

-- ---- all rows, each as it is

-- the row of an entry is as a member copies it
abbrev pub AsItIs : Member → Values × Values → Type 0
AsItIs member r = target_row member r.1 ≡ r.1

-- entries whose rows are as they are stay the same
copied : (member : Member) (es : Entries) → AllByRecursion (AsItIs member) es → map (λ r. (r.0, target_row member r.1)) es ≡ es
copied member [] h = refl
copied member (r ∷ es) h =
    ap (λ (row : Values). (r.0, row) ∷ map (λ s. (s.0, target_row member s.1)) es) h.0
    ∙ ap (λ (rest : Entries). r ∷ rest) (copied member es h.1)

-- a member with no predicate that copies each row as it is copies the source
pub copies_source : (source : SourceTable) (member : Member) (point : ℕ) → member.filter ≡ None → AllByRecursion (AsItIs member) (entries (copy_at source.def source.log point)) → user_copy source member point ≡ entries (copy_at source.def source.log point)
unfolding user_copy
copies_source source member point none h =
    let es = entries (copy_at source.def source.log point) in
    ap (map (λ (r : Values × Values). (r.0, target_row member r.1))) (filter_all (λ (r : Values × Values). is_selected member r.1) es (all_weaker (AsItIs member) (λ r. is_selected member r.1 ≡ true) es (λ r _. ap (λ (f : Option Predicate). option_map_or (is_true_of r.1) f true) none) h))
    ∙ copied member es h

-- ---- all columns

-- the values of a row at some places are those of the columns there
of_columns : (row : Values) (places : List ℕ) → filter_map (plain_value row) (map (λ place. Plain (exprs.Column place)) places) ≡ images places row
of_columns row [] = refl
of_columns row (place ∷ places) =
    ap (λ (v : Value). v ∷ filter_map (plain_value row) (map (λ p. Plain (exprs.Column p)) places)) (value_column row place)
    ∙ ap (λ (vs : Values). slice_index_or row place Null ∷ vs) (of_columns row places)

-- the values of columns are those of what they come from
by_from : (row : Values) (columns : List TargetColumn) → filter_map (λ column. plain_value row column.from) columns ≡ filter_map (plain_value row) (map (λ column. column.from) columns)
by_from row [] = refl
by_from row (column ∷ columns) = ap (cons_option (plain_value row column.from)) (by_from row columns)

-- a member that copies whole rows copies a whole row as it is
pub whole_row : (def : TableDef) (member : Member) (row : Values) → CopiesWholeRows def member → IsWhole def row → target_row member row ≡ row
whole_row def member row all whole =
    by_from row member.columns
    ∙ ap (filter_map (plain_value row)) all.columns
    ∙ of_columns row (range_with_len 0 (length def.columns))
    ∙ sym (fill_by_all (λ place. slice_index_or row place Null) row (length def.columns) Null whole (λ k h. refl))

-- ---- whole rows

-- the row of an entry is whole
abbrev pub HasWholeRow : TableDef → Values × Values → Type 0
HasWholeRow def r = IsWhole def r.1

-- a whole row put among whole rows leaves whole rows
whole_put : (def : TableDef) (key row : Values) (es : Entries) → IsWhole def row → AllByRecursion (HasWholeRow def) es → AllByRecursion (HasWholeRow def) (put key_cmp key row es)
whole_put def key row [] whole h = (whole, tt)
whole_put def key row (e ∷ es) whole h = elim (key_cmp key e.0) as (λ o. AllByRecursion (HasWholeRow def) (by_order o ((key, row) ∷ e ∷ es) ((e.0, row) ∷ es) (e ∷ put key_cmp key row es))) [
  | Less ↦ (whole, h)
  | Equal ↦ (whole, h.1)
  | Greater ↦ (h.0, whole_put def key row es whole h.1)
]

-- a key removed leaves whole rows
whole_without : (def : TableDef) (key : Values) (es : Entries) → AllByRecursion (HasWholeRow def) es → AllByRecursion (HasWholeRow def) (without key es)
whole_without def key es h = all_filter (HasWholeRow def) _ es h

-- a change with whole rows leaves whole rows
whole_effect : (def : TableDef) (change : Change) (es : Entries) → LeavesKey def change → AllByRecursion (HasWholeRow def) es → AllByRecursion (HasWholeRow def) (effect_on def change es)
whole_effect def (Insert table row) es k h = whole_put def (key_of def row) row es k h
whole_effect def (Update table before after) es k h = whole_put def (key_of def after) after (without (key_of def before) es) k.1 (whole_without def (key_of def before) es h)
whole_effect def (Delete table row) es k h = whole_without def (key_of def row) es h
whole_effect def (Start table) es k h = h
whole_effect def (Stop table) es k h = h

-- changes with whole rows leave whole rows
whole_changes : (def : TableDef) (changes : List Placed) (es : Entries) → AllByRecursion (PlacedLeavesKey def) changes → AllByRecursion (HasWholeRow def) es → AllByRecursion (HasWholeRow def) (changes_on def (unplaced changes) es)
whole_changes def [] es k h = h
whole_changes def (placed ∷ changes) es k h = whole_changes def changes _ k.1 (of_table (bytes_eq (table_of placed.change) def.name) k.0)
  where
    of_table : (named : Bool) → (IsTrue named → LeavesKey def placed.change) → AllByRecursion (HasWholeRow def) (cond named (effect_on def placed.change es) es)
    of_table true leaves = whole_effect def placed.change es (leaves refl) h
    of_table false leaves = h

-- units whose changes have whole rows leave whole rows
whole_units : (def : TableDef) (us : List Unit) (es : Entries) → AllByRecursion (λ u. AllByRecursion (PlacedLeavesKey def) u.changes) us → AllByRecursion (HasWholeRow def) es → AllByRecursion (HasWholeRow def) (units_on def us es)
whole_units def [] es k h = h
whole_units def (u ∷ us) es k h = whole_units def us _ k.1 (whole_changes def u.changes es k.0 h)

-- if a log leaves the keys, the rows at each point are whole
whole_source : (def : TableDef) (log : List LogRecord) (point : ℕ) → LeavesKeys def log → AllByRecursion (HasWholeRow def) (entries (copy_at def log point))
whole_source def log point leaves = subst (AllByRecursion (HasWholeRow def)) (sym (source_entries def log point)) (whole_units def (units_up_to point log) [] (all_filter (λ (u : Unit). AllByRecursion (PlacedLeavesKey def) u.changes) (λ u. nat_le u.head.seq point) (units log) (units_leave def log leaves)) tt)

-- if a log leaves the keys, a member that copies whole rows copies the source
pub copies_whole : (source : SourceTable) (member : Member) (point : ℕ) → CopiesWholeRows source.def member → LeavesKeys source.def source.log → user_copy source member point ≡ entries (copy_at source.def source.log point)
copies_whole source member point all leaves = copies_source source member point all.filter (all_weaker (HasWholeRow source.def) (AsItIs member) (entries (copy_at source.def source.log point)) (λ r whole. whole_row source.def member r.1 all whole) (whole_source source.def source.log point leaves))
