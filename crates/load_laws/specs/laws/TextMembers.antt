-- The rules that the members of a text keep, and those that they keep over their sources.
use Rattle.std.proofs.Common.{◌≡◌, ℕ, ◌<◌, Bool, true, false, not, ◌&&◌, ◌||◌, ◌⊎◌, inl, inr, List, [], length, Option, Some, None, refl, sym, ap, ap₂, subst, ◌∙◌, arith, ◌==◌, is_some, nat_lt, bytes_eq}
use Rattle.std.specs.List.{filter_map, list_all}
use Rattle.std.specs.Option.{option_map, option_map_or, option_and_then}
use Rattle.std.proofs.lemmas.Bool.{and_parts, and_from, both_ways, eqb-false, lt-ltb, not-true, or_cases}
use Rattle.std.proofs.lemmas.Option.{same_Some}
use Rattle.repl_model.specs.Words.{is_name, name_of, Registration, ColumnDef, TableDef, ColumnFrom, Member, TargetColumn, Predicate, columns_from, from_fits, filter_columns, kinds_fit, keys_stand, copy_may_move, condensed_may_move, sums_fit, MemberKeepsRules, all_differ, are_among, SourceTable, In, passes_at, all_pass_from, in_filter_map, not_not}
use Rattle.repl_commands.specs.declared.written.RawDefs.{RawDefs}
use Rattle.repl_commands.specs.declared.written.RawMember.{RawMember}
use Rattle.repl_commands.specs.declared.written.RawSet.{RawSet}
use Rattle.repl_defs.specs.Entries.{target_name, source_part}
use Rattle.repl_defs.specs.Trees.{source_tree, predicate_tree}
use Rattle.spelled_defs.specs.Context.{is_replica_item}
use Rattle.spelled_defs.specs.Spelled.{columns_at, target_column, spelled_member_at}
use Rattle.spelled_defs.specs.declared.context.Context.{Context}
use Rattle.spelled_defs.specs.declared.defs.TableAt.{TableAt}
use Rattle.checked_defs.specs.Broken.{all_rules, member_breaks, first_broken}
use Rattle.checked_defs.specs.Rules.{entries_of, has_target_name, member_has_names, texts_differ, member_stands_once, registered_source, is_source_registered, member_over_source, member_passes, texts_are_read, is_target_entry, reads_registered, texts_fit, has_texts, copies_may_move, condensed_rows_may_move, sums_stand_in_aggregates, is_replica_apart}
use Rattle.checked_defs.specs.declared.rule.Rule.TheVariants.{Names, Once, Source, Texts, Copies, Condensed, Sums, Replicas}
use Rattle.load_laws.specs.rules.laws.Lists.{given_length, named_apart}
use Rattle.load_laws.specs.rules.laws.Kept.{member_kept}
use Rattle.load_laws.specs.rules.laws.Items.{from_step, name_given, member_def, member_spelled}
use Rattle.load_laws.specs.laws.Context.{registered_is}
use Rattle.repl_defs.specs.laws.TextTrees.{predicates_fit, sources_fit}

-- ---- texts

-- the column of a target that an entry spells has the name in the entry, and comes from the tree of a text
column_spelled : (columns : List ColumnDef) (entry : List ℕ) (column : TargetColumn) → target_column columns entry ≡ Some column → (target_name entry ≡ Some column.name) × (is_name column.name ≡ true) × ((text : List ℕ) × (source_tree columns text ≡ Some column.from))
unfolding target_column
column_spelled columns entry column e =
    let word = from_step _ (target_name entry) column e in
    let name = from_step _ (name_of word.0) column word.2 in
    let text = from_step _ (source_part entry) column name.2 in
    let from = from_step _ (source_tree columns text.0) column text.2 in
    let given = name_given word.0 name.0 name.1 in
    let made = same_Some (with_name name.0 from.0) column from.2 in
    let same : word.0 ≡ column.name = sym given.0 ∙ ap (λ (c : TargetColumn). c.name) made in
    (word.1 ∙ ap Some same, subst (λ (n : List ℕ). is_name n ≡ true) same given.1, (text.0, from.1 ∙ ap (λ (c : TargetColumn). Some c.from) made))
  where
    with_name : List ℕ → ColumnFrom → TargetColumn
    with_name name from = record { name = name; from = from }

-- ---- the rules of members

-- The rules that a member of a text keeps.
pub record ItemKeepsRules (context : Context) (set : RawSet) (item : RawMember) : Type 0 where
  pub names : member_has_names item ≡ true
  pub once : member_stands_once context set item ≡ true
  pub source : is_source_registered context set item ≡ true
  pub texts : has_texts context set item ≡ true
  pub copies : copies_may_move context set item ≡ true
  pub condensed : condensed_rows_may_move context set item ≡ true
  pub sums : sums_stand_in_aggregates context set item ≡ true
  pub apart : is_replica_apart context set item ≡ true

-- if no rule is broken, each member of a text keeps the rules
pub item_rules : (raw : RawDefs) (context : Context) → first_broken raw context all_rules ≡ None → (set : RawSet) (item : RawMember) → In set raw.sets → In item set.members → ItemKeepsRules context set item
unfolding member_breaks
item_rules raw context h set item i j = record {
  names = not_not (member_has_names item) (member_kept raw context h Names set item i j);
  once = not_not (member_stands_once context set item) (member_kept raw context h Once set item i j);
  source = not_not (is_source_registered context set item) (member_kept raw context h Source set item i j);
  texts = not_not (has_texts context set item) (member_kept raw context h Texts set item i j);
  copies = not_not (copies_may_move context set item) (member_kept raw context h Copies set item i j);
  condensed = not_not (condensed_rows_may_move context set item) (member_kept raw context h Condensed set item i j);
  sums = not_not (sums_stand_in_aggregates context set item) (member_kept raw context h Sums set item i j);
  apart = not_not (is_replica_apart context set item) (member_kept raw context h Replicas set item i j);
}

-- what a member passes with its source holds of both
passes_over : (test : SourceTable → Member → Bool) (context : Context) (set : RawSet) (item : RawMember) (source : SourceTable) (member : Member) → registered_source context set.source item.source ≡ Some source → spelled_member_at context.tables set.source item ≡ Some member → member_passes test context set item ≡ true → test source member ≡ true
passes_over test context set item source member registered spells e = sym (ap (λ (o : Option (SourceTable × Member)). option_map_or (λ over. test over.0 over.1) o true) both) ∙ e
  where
    both : member_over_source context set item ≡ Some (source, member)
    both = ap (option_and_then (λ (s : SourceTable). option_map (λ (m : Member). (s, m)) (spelled_member_at context.tables set.source item))) registered ∙ ap (option_map (λ (m : Member). (source, m))) spells

-- the columns of a registered table of the context are those that texts are read over
columns_of_source : (context : Context) (server name : List ℕ) (source : SourceTable) → registered_source context server name ≡ Some source → columns_at context.tables server name ≡ source.def.columns
columns_of_source context server name source registered =
    let is = registered_is context server name source registered in
    ap (λ (o : Option TableAt). option_map_or (λ table. table.def.columns) o []) is.table_found ∙ sym (ap (λ def. def.columns) is.def)

-- the rules that a member keeps over a source are those of its definition and its registration
pub whatever_the_log : (source other : SourceTable) (member : Member) → other.def ≡ source.def → other.reg ≡ source.reg → MemberKeepsRules source member → MemberKeepsRules other member
whatever_the_log source other member def reg rules = subst (λ (s : SourceTable). MemberKeepsRules s member) (ap₂ with_log (sym def) (sym reg)) with_its
  where
    with_log : TableDef → Registration → SourceTable
    with_log def reg = record { def = def; reg = reg; log = other.log }

    with_its : MemberKeepsRules (with_log source.def source.reg) member
    with_its = record {
      names = rules.names;
      differ = rules.differ;
      columns = rules.columns;
      keys = rules.keys;
      copies = rules.copies;
      condensed = rules.condensed;
      sums = rules.sums;
    }

-- a member of a text that isn't a replica keeps the rules over its source
pub member_keeps_rules : (context : Context) (set : RawSet) (item : RawMember) (source : SourceTable) (member : Member) → ItemKeepsRules context set item → registered_source context set.source item.source ≡ Some source → spelled_member_at context.tables set.source item ≡ Some member → is_replica_item item ≡ false → MemberKeepsRules source member
member_keeps_rules context set item source member rules registered spells copy = record {
  names = and_from (is_name member.source && is_name member.target) (list_all (λ column. is_name column.name) member.columns)
      (and_from (is_name member.source) (is_name member.target) (ap (λ (m : Member). is_name m.source) is ∙ item_names.0) (ap (λ (m : Member). is_name m.target) is ∙ item_names.1))
      (all_pass_from (λ (column : TargetColumn). is_name column.name) member.columns (λ column i. let of = entry_of column i in (column_spelled columns of.0 column of.2).1));
  differ = ap (λ (m : Member). all_differ (λ a b. bytes_eq a.name b.name) m.columns) is
      ∙ named_apart (λ (column : TargetColumn). column.name) bytes_eq (target_column columns) target_name (λ entry column e. (column_spelled columns entry column e).0) (entries_of item) (and_parts (texts_differ (filter_map target_name (entries_of item))) _ (and_parts _ _ rules.once).0).0;
  columns = and_from (nat_lt 0 (length member.columns) && list_all reads_and_fits member.columns && are_among source.reg.after (filter_columns member)) (option_map_or (kinds_fit source.def.columns) member.filter true)
      (and_from (nat_lt 0 (length member.columns) && list_all reads_and_fits member.columns) (are_among source.reg.after (filter_columns member))
      (and_from (nat_lt 0 (length member.columns)) (list_all reads_and_fits member.columns) (lt-ltb 0 (length member.columns) has_columns)
      (all_pass_from reads_and_fits member.columns (λ column i. and_from (are_among source.reg.after (columns_from column.from)) (from_fits source.def.columns column.from)
      (passes_at (λ (c : TargetColumn). are_among source.reg.after (columns_from c.from)) member.columns column reads.0 i) (column_fits column i))))
      reads.1)
      (ap (λ (o : Option Predicate). option_map_or (kinds_fit source.def.columns) o true) (ap (λ (m : Member). m.filter) is) ∙ filter_fits item.filter);
  keys = (and_parts _ (keys_stand source member) texts).1;
  copies = passes_over copy_may_move context set item source member registered spells rules.copies;
  condensed = passes_over condensed_may_move context set item source member registered spells rules.condensed;
  sums = passes_over sums_fit context set item source member registered spells rules.sums;
}
  where
    columns : List ColumnDef
    columns = columns_at context.tables set.source item.source

    columns_are : columns ≡ source.def.columns
    columns_are = columns_of_source context set.source item.source source registered

    is : member ≡ member_def columns item item.source item.target member.kind
    is = (member_spelled columns item member spells).1

    item_names : (is_name item.source ≡ true) × (is_name item.target ≡ true)
    item_names = and_parts (is_name item.source) (is_name item.target) (and_parts _ (list_all has_target_name (entries_of item)) rules.names).0

    -- a column and the entry that spells it
    entry_of : (column : TargetColumn) → In column member.columns → (entry : List ℕ) × In entry (entries_of item) × (target_column columns entry ≡ Some column)
    entry_of column i = in_filter_map (target_column columns) (entries_of item) column (subst (λ (m : Member). In column m.columns) is i)

    texts : texts_fit item source member ≡ true
    texts = passes_over (texts_fit item) context set item source member registered spells rules.texts

    both : (texts_are_read source.def.columns item ≡ true) × (reads_registered source.reg member ≡ true)
    both = and_parts (texts_are_read source.def.columns item) (reads_registered source.reg member) (and_parts _ (keys_stand source member) texts).0

    reads : (list_all (λ column. are_among source.reg.after (columns_from column.from)) member.columns ≡ true) × (are_among source.reg.after (filter_columns member) ≡ true)
    reads = and_parts _ (are_among source.reg.after (filter_columns member)) both.1

    reads_and_fits : TargetColumn → Bool
    reads_and_fits column = are_among source.reg.after (columns_from column.from) && from_fits source.def.columns column.from

    are_read : (list_all (is_target_entry source.def.columns) (entries_of item) ≡ true) × ((is_replica_item item || not (length (entries_of item) == 0)) ≡ true)
    are_read = ((and_parts _ _ (and_parts _ _ both.0).0).0, (and_parts _ (is_replica_item item || not (length (entries_of item) == 0)) both.0).1)

    as_many : length member.columns ≡ length (entries_of item)
    as_many = ap (λ (m : Member). length m.columns) is ∙ ap (λ (c : List ColumnDef). length (filter_map (target_column c) (entries_of item))) columns_are
        ∙ given_length (target_column source.def.columns) (entries_of item) (all_pass_from (λ entry. is_some (target_column source.def.columns entry)) (entries_of item) (λ entry i.
        (and_parts _ (is_some (target_column source.def.columns entry)) (passes_at (is_target_entry source.def.columns) (entries_of item) entry are_read.0 i)).1))

    some_entry : (is_replica_item item ≡ true) ⊎ (not (length (entries_of item) == 0) ≡ true) → 0 < length (entries_of item)
    some_entry (inl replica) = absurd (both_ways (is_replica_item item) copy replica)
    some_entry (inr some) = let other = eqb-false (length (entries_of item)) 0 (not-true (length (entries_of item) == 0) some) in omega arith

    has_columns : 0 < length member.columns
    has_columns = subst (λ n. 0 < n) (sym as_many) (some_entry (or_cases (is_replica_item item) (not (length (entries_of item) == 0)) are_read.1))

    column_fits : (column : TargetColumn) → In column member.columns → from_fits source.def.columns column.from ≡ true
    column_fits column i =
        let of = entry_of column i in
        let text = (column_spelled columns of.0 column of.2).2 in
        sources_fit source.def.columns text.0 column.from (subst (λ (c : List ColumnDef). source_tree c text.0 ≡ Some column.from) columns_are text.1)

    tree_fits : (text : List ℕ) (o : Option Predicate) → predicate_tree columns text ≡ o → option_map_or (kinds_fit source.def.columns) o true ≡ true
    tree_fits text None e = refl
    tree_fits text (Some predicate) e = predicates_fit source.def.columns text predicate (subst (λ (c : List ColumnDef). predicate_tree c text ≡ Some predicate) columns_are e)

    filter_fits : (o : Option (List ℕ)) → option_map_or (kinds_fit source.def.columns) (option_and_then (predicate_tree columns) o) true ≡ true
    filter_fits None = refl
    filter_fits (Some text) = tree_fits text (predicate_tree columns text) refl
