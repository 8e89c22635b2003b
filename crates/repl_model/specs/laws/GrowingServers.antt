-- Servers that get tables, registrations and sets, and what is found there by name.
use Rattle.std.proofs.Common.{◌≡◌, ℕ, true, false, ◌⊎◌, List, [], ◌++◌, Option, Some, None, refl, sym, ap, ap₂, subst, ◌∙◌, append-nil, is_some, IfSome, option_map, option_and_then, bytes_eq}
use Rattle.std.specs.List.{AllByRecursion, AllZip}
use Rattle.std.proofs.lemmas.Bool.{false≢true, and_parts, and_from}
use Rattle.std.proofs.lemmas.Option.{none-some}
use Rattle.std.proofs.lemmas.Slice.Eq.{bytes_eq-Decides}
use Rattle.repl_types.specs.declared.record.SetId.{SetId}
use Rattle.repl_types.specs.declared.record.LogRecord.{LogRecord}
use Rattle.repl_types.specs.declared.table.TableDef.{TableDef}
use Rattle.repl_model.specs.Selection.{SourceTable}
use Rattle.repl_model.specs.World.{Registered, ServerTable, SourceSide, TargetSide, Server, World, same_set, server_table, as_source, source_named, server_named, source_side, target_side}
use Rattle.repl_model.specs.SoundDefinitions.{IsFresh}
use Rattle.lists.specs.laws.Members.{In, found_first, found_beside, beside_itself}

-- ---- names

-- names that are alike are one
pub same_name : (a b : List ℕ) → bytes_eq a b ≡ true → a ≡ b
same_name a b = (bytes_eq-Decides a b).0

-- a name is like itself
pub name_itself : (a : List ℕ) → bytes_eq a a ≡ true
name_itself a = (bytes_eq-Decides a a).1 refl

-- names of sets that are alike are one
pub same_id : (a b : SetId) → same_set a b ≡ true → a ≡ b
same_id a b e =
    let both = and_parts (bytes_eq a.qual b.qual) (bytes_eq a.name b.name) e in
    ap₂ (λ (qual name : List ℕ). record { qual = qual; name = name }) (same_name a.qual b.qual both.0) (same_name a.name b.name both.1)

-- a set's name is like itself
pub id_itself : (a : SetId) → same_set a a ≡ true
id_itself a = and_from (bytes_eq a.qual a.qual) (bytes_eq a.name a.name) (name_itself a.qual) (name_itself a.name)

-- ---- a server that gets tables and sets

-- a registration that says nothing yet
abbrev pub IsNewRegistration : Registered → Type 0
IsNewRegistration r = (r.start ≡ 0) × (r.floor ≡ 0)

-- a table stands as it did, but that it may get a registration
abbrev pub TableGrows : ServerTable → ServerTable → Type 0
TableGrows t u = (u.def ≡ t.def) × ((r : Registered) → t.registered ≡ Some r → u.registered ≡ Some r) × (t.registered ≡ None → IfSome u.registered IsNewRegistration)

-- a table is new at a server: no table has its name, and its registration says nothing yet
abbrev pub IsNewTable : Server → ServerTable → Type 0
IsNewTable server t = (server_table t.def.name server ≡ None) × IfSome t.registered IsNewRegistration

-- a set's row at its source says nothing yet
abbrev pub IsNewSource : SourceSide → Type 0
IsNewSource side = IsFresh side × (side.signal ≡ 0)

-- a set's row at its target says nothing yet
abbrev pub IsNewTarget : TargetSide → Type 0
IsNewTarget side = (side.flag ≡ false) × (side.trail ≡ []) × (side.signal ≡ 0)

-- a server with other tables and sets
abbrev pub with_lists : List ServerTable → List SourceSide → List TargetSide → Server → Server
with_lists tables sources targets server = record server { tables = tables; source_sets = sources; target_sets = targets }

-- A server becomes another: its tables and sets stand as they did, further ones follow, and all else stays.
pub record ServerGrows (s u : Server) : Type 0 where
  pub kept : List ServerTable
  pub more_tables : List ServerTable
  pub more_sources : List SourceSide
  pub more_targets : List TargetSide
  pub same : u ≡ with_lists (kept ++ more_tables) (s.source_sets ++ more_sources) (s.target_sets ++ more_targets) s
  pub tables : AllZip TableGrows s.tables kept
  pub new_tables : AllByRecursion (IsNewTable s) more_tables
  pub new_sources : AllByRecursion IsNewSource more_sources
  pub new_targets : AllByRecursion IsNewTarget more_targets

-- each server becomes another
abbrev pub WorldGrows : World → World → Type 0
WorldGrows w v = AllZip ServerGrows w v

-- Each server of a world is one of the world before, or one of the world after, and became that from one of
-- the world before.
abbrev pub IsBetween : World → World → World → Type 0
IsBetween before world after = (t : Server) → In t world → In t before ⊎ ((s : Server) × In s before × ServerGrows s t × In t after)

-- a table that stays as it is
table_stays : (t : ServerTable) → TableGrows t t
table_stays t = (refl, λ r e. e, λ e. subst (λ (o : Option Registered). IfSome o IsNewRegistration) (sym e) tt)

-- a server may become itself
pub server_stays : (s : Server) → ServerGrows s s
server_stays s = record {
  kept = s.tables;
  more_tables = [];
  more_sources = [];
  more_targets = [];
  same = ap (λ (tables : List ServerTable). with_lists tables s.source_sets s.target_sets s) (sym (append-nil s.tables))
      ∙ ap (λ (sources : List SourceSide). with_lists (s.tables ++ []) sources s.target_sets s) (sym (append-nil s.source_sets))
      ∙ ap (λ (targets : List TargetSide). with_lists (s.tables ++ []) (s.source_sets ++ []) targets s) (sym (append-nil s.target_sets));
  tables = beside_itself TableGrows table_stays s.tables;
  new_tables = tt;
  new_sources = tt;
  new_targets = tt;
}

-- what holds of the server with its further tables and sets holds of what it becomes
pub holds_after : (P : Server → Type 0) (s u : Server) (g : ServerGrows s u) → P (with_lists (g.kept ++ g.more_tables) (s.source_sets ++ g.more_sources) (s.target_sets ++ g.more_targets) s) → P u
holds_after P s u g = subst P (sym g.same)

-- a server becomes the one with its further tables and sets
abbrev pub literal : (s u : Server) (g : ServerGrows s u) → ServerGrows s (with_lists (g.kept ++ g.more_tables) (s.source_sets ++ g.more_sources) (s.target_sets ++ g.more_targets) s)
literal s u g = record {
  kept = g.kept;
  more_tables = g.more_tables;
  more_sources = g.more_sources;
  more_targets = g.more_targets;
  same = refl;
  tables = g.tables;
  new_tables = g.new_tables;
  new_sources = g.new_sources;
  new_targets = g.new_targets;
}

-- the name stays
pub name_stays : (s u : Server) → ServerGrows s u → u.name ≡ s.name
name_stays s u g = ap (λ (a : Server). a.name) g.same

-- the log stays
pub log_stays : (s u : Server) → ServerGrows s u → u.log ≡ s.log
log_stays s u g = ap (λ (a : Server). a.log) g.same

-- ---- what is found by name

-- a table that has a name has it after
pub table_found : (name : List ℕ) (s u : Server) (t : ServerTable) → ServerGrows s u → server_table name s ≡ Some t → (t' : ServerTable) × (server_table name u ≡ Some t') × TableGrows t t'
table_found name s u t g e =
    let r = found_beside TableGrows (λ (a : ServerTable). bytes_eq name a.def.name) (λ (b : ServerTable). bytes_eq name b.def.name) (λ a b h. ap (λ (def : TableDef). bytes_eq name def.name) h.0) s.tables g.kept t g.tables e in
    (r.0, ap (λ (a : Server). server_table name a) g.same ∙ found_first (λ (b : ServerTable). bytes_eq name b.def.name) g.kept g.more_tables r.0 r.1, r.2)

-- if no table has a name after, none has it
pub no_table : (name : List ℕ) (s u : Server) → ServerGrows s u → server_table name u ≡ None → server_table name s ≡ None
no_table name s u g none = by_found (server_table name s) refl
  where
    by_found : (o : Option ServerTable) → server_table name s ≡ o → o ≡ None
    by_found None e = refl
    by_found (Some t) e = let r = table_found name s u t g e in absurd (none-some r.0 (sym none ∙ r.1))

-- a registered table that has a name has it after, and is the same source
pub source_found : (name : List ℕ) (s u : Server) (source : SourceTable) → ServerGrows s u → source_named name s ≡ Some source → source_named name u ≡ Some source
source_found name s u source g = by_table (server_table name s) refl
  where
    registered : (t t' : ServerTable) → TableGrows t t' → (o : Option Registered) → t.registered ≡ o → option_map (λ r. record { def = t.def; reg = r.reg; log = s.log }) o ≡ Some source → as_source u t' ≡ Some source
    registered t t' h None e found = absurd (none-some source found)
    registered t t' h (Some r) e found =
        ap (option_map (λ r. record { def = t'.def; reg = r.reg; log = u.log })) (h.1 r e)
        ∙ ap₂ (λ (def : TableDef) (log : List LogRecord). Some (record { def = def; reg = r.reg; log = log })) h.0 (log_stays s u g)
        ∙ found

    by_table : (o : Option ServerTable) → server_table name s ≡ o → option_and_then (as_source s) o ≡ Some source → source_named name u ≡ Some source
    by_table None e found = absurd (none-some source found)
    by_table (Some t) e found =
        let r = table_found name s u t g e in
        ap (option_and_then (as_source u)) r.1 ∙ registered t r.0 r.2 t.registered refl found

-- a registered table that stands before and after is the same source
pub same_source : (name : List ℕ) (s u : Server) (source : SourceTable) → ServerGrows s u → is_some (source_named name s) ≡ true → source_named name u ≡ Some source → source_named name s ≡ Some source
same_source name s u source g stands found = by_source (source_named name s) refl stands
  where
    by_source : (o : Option SourceTable) → source_named name s ≡ o → is_some o ≡ true → o ≡ Some source
    by_source None e stands = absurd (false≢true stands)
    by_source (Some before) e stands = sym (source_found name s u before g e) ∙ found

-- a set that stands at its source stands there after, with the same row
pub source_side_found : (id : SetId) (s u : Server) (side : SourceSide) → ServerGrows s u → source_side id s ≡ Some side → source_side id u ≡ Some side
source_side_found id s u side g e = ap (λ (a : Server). source_side id a) g.same ∙ found_first (λ (a : SourceSide). same_set id a.def.id) s.source_sets g.more_sources side e

-- a set that stands at its target stands there after, with the same row
pub target_side_found : (id : SetId) (s u : Server) (side : TargetSide) → ServerGrows s u → target_side id s ≡ Some side → target_side id u ≡ Some side
target_side_found id s u side g e = ap (λ (a : Server). target_side id a) g.same ∙ found_first (λ (a : TargetSide). same_set id a.def.id) s.target_sets g.more_targets side e

-- a server of a name has it after
pub server_found : (name : List ℕ) (w v : World) (s : Server) → WorldGrows w v → server_named name w ≡ Some s → (u : Server) × (server_named name v ≡ Some u) × ServerGrows s u
server_found name w v s g e = found_beside ServerGrows (λ (a : Server). bytes_eq name a.name) (λ (b : Server). bytes_eq name b.name) (λ a b h. ap (bytes_eq name) (name_stays a b h)) w v s g e
