-- Reads of the tables of definitions of one server, one after another.
use Rattle.std.proofs.Common.{◌≡◌, ℕ, ◌+◌, ◌<◌, ◌≤◌, List, [], length, map, get_or, sym, ap, subst, ◌∙◌, arith, Option, IfSome}
use Rattle.std.proofs.Math.ListN.{get_or-map}
use Rattle.world_store.specs.Words.{table_from_rows, table_rows, registration_rows, source_set_rows, target_set_rows, definition_table, Stands, definition_limit, AreRows, Spells}
use Rattle.site_store.specs.Words.{Contents, Kept, AllClosed, names, held, work, sees, Stays, Fails, reads_of_one, Damages, stays_then, stays_sees, stays_within}
use Rattle.site_store.specs.declared.sites.Sites.{Sites}
use Rattle.repl_model.specs.Words.{Fault, DefinedTable, DefinedRegistration, SourceSet, TargetSet, empty_server, Server, World, server_in}
use Rattle.repl_types.specs.declared.area.Area.TheVariants as areas
use Rattle.stored_defs.specs.DefinitionReads.{in_defs, server_reads}
use Rattle.stored_defs.specs.Reading.{HasRecords, table_rules}
use Rattle.stored_defs.specs.Rules.{rules, may_be_key, may_be_value, ShowsDamage}
use Rattle.stored_defs.specs.laws.Blaming.{fails_by_table, fails_later}
use Rattle.stored_defs.specs.laws.DefinitionReads.{defs_more, one_in_defs}
use Rattle.stored_defs.specs.laws.Standing.{read_is}
use Rattle.load_plan.specs.declared.stored.StoredServer.{StoredServer}
use Rattle.load_laws.specs.planned.Planned.{stored_server}

module _ {K : Type 0} (kept : K → Kept) (s0 : Sites K) (server : ℕ) where
  -- a table was read
  pub after_one : (s1 : Sites K) → Stays kept s0 s1 (reads_of_one definition_limit server areas.Defs) → Stays kept s0 s1 (in_defs definition_limit)
  after_one s1 first = stays_within kept s0 s1 (reads_of_one definition_limit server areas.Defs) (in_defs definition_limit) first (one_in_defs definition_limit server)

  -- a table was read after others
  read_on : (n : ℕ) (s1 s2 : Sites K) → Stays kept s0 s1 (in_defs n) → Stays kept s1 s2 (reads_of_one definition_limit server areas.Defs) → Stays kept s0 s2 (in_defs (n + definition_limit))
  read_on n s1 s2 stays read = stays_then kept s0 s1 s2 (in_defs n) (in_defs definition_limit) (in_defs (n + definition_limit)) stays (stays_within kept s1 s2 (reads_of_one definition_limit server areas.Defs) (in_defs definition_limit) read (one_in_defs definition_limit server)) (defs_more n definition_limit (n + definition_limit) (omega arith))

  -- two tables were read
  pub after_two : (s1 s2 : Sites K) → Stays kept s0 s1 (reads_of_one definition_limit server areas.Defs) → Stays kept s1 s2 (reads_of_one definition_limit server areas.Defs) → Stays kept s0 s2 (in_defs (definition_limit + definition_limit))
  after_two s1 s2 first second = read_on definition_limit s1 s2 (after_one s1 first) second

  -- three tables were read
  pub after_three : (s1 s2 s3 : Sites K) → Stays kept s0 s1 (reads_of_one definition_limit server areas.Defs) → Stays kept s1 s2 (reads_of_one definition_limit server areas.Defs) → Stays kept s2 s3 (reads_of_one definition_limit server areas.Defs) → Stays kept s0 s3 (in_defs (definition_limit + definition_limit + definition_limit))
  after_three s1 s2 s3 first second third = read_on (definition_limit + definition_limit) s2 s3 (after_two s1 s2 first second) third

module _ {K : Type 0} (kept : K → Kept) (s0 s1 : Sites K) (server n : ℕ) (stays : Stays kept s0 s1 (in_defs n)) where
  module _ (within : server < length (names s0)) {A X : Type 0} (key_fits : A → Type 0) (key : A → List ℕ) (fits : X → Type 0) (spelling : X → List ℕ) (t : ℕ) where
    -- a read of a table fails after others
    pub read_fails : ((bytes : List ℕ) → may_be_key areas.Defs t bytes → Spells key_fits key bytes) → ((bytes : List ℕ) → may_be_value areas.Defs t bytes → Spells fits spelling bytes) → n + definition_limit ≤ server_reads → (s2 : Sites K) (e : Fault) → Fails kept s1 s2 (reads_of_one definition_limit server areas.Defs) (Damages (λ s. s ≡ server) (table_rules key_fits key fits spelling areas.Defs t) kept s1) e → Fails kept s0 s2 (in_defs server_reads) (ShowsDamage kept s0) e
    read_fails keys values few s2 e fails = fails_later kept s0 s1 s2 (in_defs n) (in_defs definition_limit) (in_defs server_reads) e (defs_more n definition_limit server_reads few) stays
        (fails_by_table key_fits key fits spelling areas.Defs t rules keys values kept (λ s. s < length (names s1)) s1 s2 server (reads_of_one definition_limit server areas.Defs) (in_defs definition_limit) e (subst (λ (l : List (List ℕ)). server < length l) (sym stays.passes.names) within) (one_in_defs definition_limit server) fails)

    module _ (closed : AllClosed (work kept s0)) (w : World) (stands : Stands (names s0) (held kept s0) w) where
      -- the records that are read after others are those of the world
      pub records_are : (rows : List (A × X)) (records : List X) → AreRows key_fits key fits rows → definition_table (server_in w server) t ≡ table_from_rows key spelling rows → IfSome (sees kept s1 server) (HasRecords key_fits key fits spelling areas.Defs t records) → records ≡ map (λ row. row.1) rows
      records_are rows records are is read = read_is kept s0 closed w stands key_fits key fits spelling t server rows records within are is
          (subst (λ (saw : Option Contents). IfSome saw (HasRecords key_fits key fits spelling areas.Defs t records)) (stays_sees kept s0 s1 (in_defs n) stays server) read)

-- a name and the records that stand at a server are what it keeps
pub server_is : {K : Type 0} (kept : K → Kept) (s0 : Sites K) (w : World) (n : ℕ) → Stands (names s0) (held kept s0) w → (name : List ℕ) (tables : List DefinedTable) (registrations : List DefinedRegistration) (sources : List SourceSet) (targets : List TargetSet)
    → name ≡ get_or (names s0) n []
    → tables ≡ map (λ row. row.1) (table_rows (server_in w n))
    → registrations ≡ map (λ row. row.1) (registration_rows (server_in w n))
    → sources ≡ map (λ row. row.1) (source_set_rows (server_in w n))
    → targets ≡ map (λ row. row.1) (target_set_rows (server_in w n))
    → record { name = name; tables = tables; registrations = registrations; sources = sources; targets = targets } ≡ stored_server (server_in w n)
server_is kept s0 w n stands name tables registrations sources targets named has_tables has_registrations has_sources has_targets =
    let place : name ≡ (server_in w n).name = named ∙ ap (λ (l : List (List ℕ)). get_or l n []) (sym stands.named) ∙ get_or-map (λ (server : Server). server.name) w n (empty_server []) in
    (λ i. stored (place i) (has_tables i) (has_registrations i) (has_sources i) (has_targets i))
  where
    stored : List ℕ → List DefinedTable → List DefinedRegistration → List SourceSet → List TargetSet → StoredServer
    stored name tables registrations sources targets = record { name = name; tables = tables; registrations = registrations; sources = sources; targets = targets }
