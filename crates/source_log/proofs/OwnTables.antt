-- The stored definition of a table is that of the server's table of the name: proofs.
use Rattle.std.proofs.Common.{◌≡◌, ℕ, zero, suc, ◌≤◌, Bool, true, false, List, [], ◌∷◌, length, map, refl, sym, ap, subst, ◌∙◌, Option, Some, None, not, is_some, slice_get, option_map, bytes_eq}
use Rattle.std.specs.List.{AllByRecursion, list_any}
use Rattle.std.proofs.lemmas.Bool.{and_parts}
use Rattle.world_store.specs.Words.{IsName, short_text, table_from_rows, not_both, table_rows, RowFits, table_rows_are}
use Rattle.site_store.specs.Words.{Contents, Table}
use Rattle.repl_model.specs.Words.{TableDef, defined_table_spelling, IsDefinedTable, DefinedTable, table_named, TableKeepsRules, all_differ, KeepsTable, column_limit, ServerTable, Server, server_table, tables_of, at_place_in, at_one, first_alone, find_image, name_itself}
use Rattle.repl_types.specs.declared.area.Area.TheVariants as areas
use Rattle.stored_commits.specs.records.Applying.{AllAreFound}
use Rattle.stored_defs.specs.laws.NamedTables.{table_stands, table_numbered}
use Rattle.source_log.specs.Making.{TablesApart}
use Rattle.source_log.specs.Storing.{IsKept, Stores}
use Rattle.stored_commits.specs.laws.SourceLogs.{tables_are_found}

-- ---- tables at their numbers

-- two tables have one name
abbrev same_table : ServerTable → ServerTable → Bool
same_table a b = bytes_eq a.def.name b.def.name

-- tables with one definition have one name
alike : (t u : ServerTable) → t.def ≡ u.def → same_table t u ≡ true
alike t u same = subst (λ (def : TableDef). bytes_eq t.def.name def.name ≡ true) same (name_itself t.def.name)

-- nothing stands at a place past the end of a list
past_end : {X : Type 0} (n : ℕ) (x : X) → slice_get [] n ≡ Some x → ⊥
past_end n x at = cc

-- what stands at the first place is the first
first_is : {X : Type 0} (x y : X) (xs : List X) → slice_get (x ∷ xs) 0 ≡ Some y → x ≡ y
first_is x y xs at = cc

-- a definition stands at one number of tables whose names differ
one_number : (ts : List ServerTable) → all_differ same_table ts ≡ true → (m n : ℕ) (t u : ServerTable) → slice_get ts m ≡ Some t → slice_get ts n ≡ Some u → t.def ≡ u.def → m ≡ n
one_number [] differ m n t u at_m at_n same = absurd (past_end m t at_m)
one_number (x ∷ ts) differ zero zero t u at_m at_n same = refl
one_number (x ∷ ts) differ zero (suc n) t u at_m at_n same = absurd (first_alone same_table x ts differ u (at_place_in ts n u at_n) (alike x u (ap (λ (s : ServerTable). s.def) (first_is x t ts at_m) ∙ same)))
one_number (x ∷ ts) differ (suc m) zero t u at_m at_n same = absurd (first_alone same_table x ts differ t (at_place_in ts m t at_m) (alike x t (ap (λ (s : ServerTable). s.def) (first_is x u ts at_n) ∙ sym same)))
one_number (x ∷ ts) differ (suc m) (suc n) t u at_m at_n same = ap suc (one_number ts (and_parts (not (list_any (same_table x) ts)) (all_differ same_table ts) differ).1 m n t u at_m at_n same)

-- the tables are found by their names, each at one number
pub tables_apart : (server : Server) → IsKept server → TablesApart server
tables_apart server kept = record {
  found = subst (λ (ts : List ServerTable). AllAreFound (map (λ t. t.def) ts)) kept.tables (tables_are_found kept.world kept.before kept.keeps);
  apart = one_number server.tables (subst (λ (ts : List ServerTable). all_differ same_table ts ≡ true) kept.tables kept.keeps.differ);
}

-- ---- stored definitions

-- The definition that stands under a name is that of the server's table of the name.
pub record OwnTable (server : Server) (name : List ℕ) (table : DefinedTable) : Type 0 where
  pub own : ServerTable
  pub at_number : slice_get server.tables table.number ≡ Some own
  pub def : own.def ≡ table.def
  pub named : table_named name (tables_of server) ≡ Some table.def

-- the definitions of the tables of a server that keeps the rules are stored
kept_stands : (server : Server) (c : Contents) (name : List ℕ) (kept : IsKept server) → Stores server c → table_from_rows short_text defined_table_spelling (table_rows kept.before) (short_text name) ≡ c areas.Defs 0 (short_text name)
kept_stands server c name kept stores =
    ap (λ (ts : List ServerTable). table_from_rows short_text defined_table_spelling (table_rows (record server { tables = ts })) (short_text name)) kept.tables
    ∙ sym (ap (λ (t : Table). t (short_text name)) stores.defs)

-- the definition that is found by a name is that of the table of the name
named_is : (server : Server) (name : List ℕ) (kept : IsKept server) (o : Option ServerTable) → server_table name kept.before ≡ o → table_named name (tables_of server) ≡ option_map (λ t. t.def) o
named_is server name kept o is =
    find_image (λ (t : ServerTable). t.def) (λ (def : TableDef). bytes_eq name def.name) server.tables
    ∙ ap (λ (ts : List ServerTable). option_map (λ (t : ServerTable). t.def) (server_table name (record server { tables = ts }))) (sym kept.tables)
    ∙ ap (option_map (λ (t : ServerTable). t.def)) is

pub own_table : (server : Server) (c : Contents) (name : List ℕ) (table : DefinedTable) → IsKept server → Stores server c → c areas.Defs 0 (short_text name) ≡ Some (defined_table_spelling table) → IsDefinedTable table → OwnTable server name table
own_table server c name table kept stores stands fits =
    let own = table_numbered kept.world kept.before kept.keeps name table fits (kept_stands server c name kept stores ∙ stands) in
    record {
      own = own.0;
      at_number = ap (λ (ts : List ServerTable). slice_get ts table.number) (sym kept.tables) ∙ own.1;
      def = own.3;
      named = named_is server name kept (Some own.0) own.2 ∙ ap Some own.3;
    }

-- the tables of a server keep the rules
pub own_tables_keep : (server : Server) → IsKept server → AllByRecursion KeepsTable server.tables
own_tables_keep server kept = subst (λ (ts : List ServerTable). AllByRecursion KeepsTable ts) kept.tables kept.keeps.tables

-- it keeps the rules, and has no more columns than it may
pub own_keeps : (server : Server) (name : List ℕ) (table : DefinedTable) → IsKept server → OwnTable server name table → TableKeepsRules table.def × (length table.def.columns ≤ column_limit)
own_keeps server name table kept own =
    let keeps = at_one KeepsTable server.tables own.own (own_tables_keep server kept) (at_place_in server.tables table.number own.own own.at_number) in
    subst (λ (def : TableDef). TableKeepsRules def × (length def.columns ≤ column_limit)) own.def (keeps.0, keeps.1)

-- if none stands there, the server has no table of the name
pub no_table : (server : Server) (c : Contents) (name : List ℕ) → IsKept server → Stores server c → c areas.Defs 0 (short_text name) ≡ None → table_named name (tables_of server) ≡ None
no_table server c name kept stores none = by_found (server_table name kept.before) refl
  where
    missing : is_some (server_table name kept.before) ≡ false
    missing = sym (table_stands kept.world kept.before kept.keeps name) ∙ ap (λ (o : Option (List ℕ)). is_some o) (kept_stands server c name kept stores ∙ none)

    by_found : (o : Option ServerTable) → server_table name kept.before ≡ o → table_named name (tables_of server) ≡ None
    by_found None is = named_is server name kept None is
    by_found (Some t) is = absurd (not_both (is_some (server_table name kept.before)) (ap (λ (o : Option ServerTable). is_some o) is) missing)

-- the definitions of a server's tables can be stored
pub own_rows_fit : (server : Server) → IsKept server → AllByRecursion (RowFits IsName IsDefinedTable) (table_rows server)
own_rows_fit server kept = subst (λ (ts : List ServerTable). AllByRecursion (RowFits IsName IsDefinedTable) (table_rows (record server { tables = ts }))) kept.tables (table_rows_are kept.world kept.before kept.keeps).fit
