-- Worlds whose servers a commit changes: what becomes of the servers and of the known sets.
use Rattle.std.proofs.Common.{◌≡◌, ℕ, Bool, true, ◌&&◌, ◌||◌, not, List, map, Option, Some, None, refl, sym, ap, ap₂, subst, ◌∙◌, IsTrue, is_some, IfSome, map-id, filter_map, option_map, option_and_then, bytes_eq, ◌==◌}
use Rattle.std.specs.FinMap.{empty}
use Rattle.std.specs.List.{AllByRecursion, flat_map, list_all, list_any}
use Rattle.std.specs.Option.{option_map_or}
use Rattle.std.proofs.lemmas.Iterator.Adapters.{option_map_id}
use Rattle.std.proofs.lemmas.Simd.{map-map}
use Rattle.std.proofs.Math.Path.{fun_ext}
use Rattle.repl_model.specs.Words.{all_weaker, LogRecord, Registration, SetId, TableDef, Unit, all_apply, units, unplaced, is_change_applicable, is_signal_applicable, table_after, SourceTable, Trail, Registered, ServerTable, SourceSide, TargetSide, Server, World, KnownSet, as_source, tables_of, registered_of, server_table, source_named, same_set, server_named, source_side, target_side, known_from, known_sets, is_known, is_replica, is_replica_set, RegistrationKeepsRules, record_fits, LogIsSound, KeepsTable, has_sources, has_replicas, stands_at_target, has_origin, replica_sets, read_only_sets, In, in_filter, any_image, each_image, find_image, HaveSameNames, filter_images, given_images, listed_images, image_stands}
use Rattle.repl_types.specs.declared.record.LogRecord.TheVariants as records
use Rattle.world_commits.specs.captures.Captures.{with_registration}

-- ---- what a commit changes

-- The states of a server: whether each registration is active, where it started, and up to where its change rows are
-- pruned; up to where the server has captured, and up to where its units are pruned; and the codes that it shows.
pub record States : Type 0 where
  pub active : Registered → Bool
  pub start : Registered → ℕ
  pub pruned : Registered → ℕ
  pub captured : ℕ
  pub floor : ℕ
  pub shown : List (ℕ × ℕ)

-- What the rows of a server's sets become: the mark and the last signal of each at its source, and the flag
-- and the trail of each at its target.
pub record Rows : Type 0 where
  pub mark : SourceSide → ℕ
  pub signal : SourceSide → ℕ
  pub flag : TargetSide → Bool
  pub trail : TargetSide → Trail

-- What a commit makes of a server: its log, its states, and the rows of its sets.
pub record ServerChange : Type 0 where
  pub log : List LogRecord
  pub states : States
  pub rows : Rows

-- a registration in other states
abbrev pub in_states : States → Registered → Registered
in_states s r = record r { active = s.active r; start = s.start r; floor = s.pruned r }

-- what a set's row at its source becomes
abbrev pub source_row : Rows → SourceSide → SourceSide
source_row rows side = record side { mark = rows.mark side; signal = rows.signal side }

-- what a set's row at its target becomes
abbrev pub target_row : Rows → TargetSide → TargetSide
target_row rows side = record side { flag = rows.flag side; trail = rows.trail side }

-- a server after a commit
abbrev pub after_commit : ServerChange → Server → Server
after_commit c server = record {
  name = server.name;
  log = c.log;
  tables = map (with_registration (in_states c.states)) server.tables;
  captured = c.states.captured;
  floor = c.states.floor;
  shown = c.states.shown;
  source_sets = map (source_row c.rows) server.source_sets;
  target_sets = map (target_row c.rows) server.target_sets;
}

-- a server with other rows for its sets
abbrev pub with_rows : Rows → Server → Server
with_rows rows server = record server { source_sets = map (source_row rows) server.source_sets; target_sets = map (target_row rows) server.target_sets }

-- a server in other states
abbrev pub with_states : States → Server → Server
with_states s server = record server { tables = map (with_registration (in_states s)) server.tables; captured = s.captured; floor = s.floor; shown = s.shown }

-- ---- what a commit leaves

-- the states that a server has
abbrev pub own_states : Server → States
own_states server = record { active = λ r. r.active; start = λ r. r.start; pruned = λ r. r.floor; captured = server.captured; floor = server.floor; shown = server.shown }

-- the rows that sets have
abbrev pub own_rows : Rows
own_rows = record { mark = λ side. side.mark; signal = λ side. side.signal; flag = λ side. side.flag; trail = λ side. side.trail }

-- tables whose registrations keep their states stay
pub own_tables : (server : Server) → map (with_registration (in_states (own_states server))) server.tables ≡ server.tables
own_tables server = ap (λ (f : ServerTable → ServerTable). map f server.tables) (fun_ext stays) ∙ map-id server.tables
  where
    stays : (t : ServerTable) → with_registration (in_states (own_states server)) t ≡ t
    stays t = ap (λ (r : Option Registered). record t { registered = r }) (option_map_id t.registered)

-- a commit may change the log and the states alone
pub states_change : (log : List LogRecord) (s : States) (server : Server) → record (with_states s server) { log = log } ≡ after_commit (record { log = log; states = s; rows = own_rows }) server
states_change log s server = ap₂ (λ (sources : List SourceSide) (targets : List TargetSide). record { name = server.name; log = log; tables = map (with_registration (in_states s)) server.tables; captured = s.captured; floor = s.floor; shown = s.shown; source_sets = sources; target_sets = targets })
    (sym (map-id server.source_sets)) (sym (map-id server.target_sets))

-- or the log alone
pub log_changes : (log : List LogRecord) (server : Server) → record server { log = log } ≡ after_commit (record { log = log; states = own_states server; rows = own_rows }) server
log_changes log server = ap (λ (tables : List ServerTable). record server { log = log; tables = tables }) (sym (own_tables server)) ∙ states_change log (own_states server) server

-- or the rows of sets alone
pub rows_change : (rows : Rows) (server : Server) → with_rows rows server ≡ after_commit (record { log = server.log; states = own_states server; rows = rows }) server
rows_change rows server = ap (λ (tables : List ServerTable). record (with_rows rows server) { tables = tables }) (sym (own_tables server))

-- ---- registrations

-- the registrations of tables whose registrations are made others are these others
pub registrations_made : (f : Registered → Registered) (tables : List ServerTable) → filter_map (λ t. t.registered) (map (with_registration f) tables) ≡ map f (filter_map (λ t. t.registered) tables)
registrations_made f tables = given_images (with_registration f) f (λ (t : ServerTable). t.registered) (λ (t : ServerTable). t.registered) (λ t. refl) tables

-- a table keeps the rules, whatever the states of its registration
pub tables_keep : (s : States) (tables : List ServerTable) → AllByRecursion KeepsTable tables → AllByRecursion KeepsTable (map (with_registration (in_states s)) tables)
tables_keep s tables h = each_image KeepsTable (with_registration (in_states s)) tables (all_weaker KeepsTable (λ t. KeepsTable (with_registration (in_states s) t)) tables (λ t k. (k.0, k.1, by_registration t.def t.registered k.2)) h)
  where
    by_registration : (def : TableDef) (r : Option Registered) → IfSome r (λ r. RegistrationKeepsRules def r.reg) → IfSome (option_map (in_states s) r) (λ r. RegistrationKeepsRules def r.reg)
    by_registration def None k = tt
    by_registration def (Some r) k = k

-- a source with another log
abbrev pub with_log : List LogRecord → SourceTable → SourceTable
with_log log source = record source { log = log }

-- the registered tables of a server have its log
own_log : (name : List ℕ) (server : Server) → option_map (with_log server.log) (source_named name server) ≡ source_named name server
own_log name server = by_table (server_table name server)
  where
    registered : (def : TableDef) (r : Option Registered) → option_map (with_log server.log) (as_source server (record { def = def; registered = r })) ≡ as_source server (record { def = def; registered = r })
    registered def None = refl
    registered def (Some r) = refl

    by_table : (o : Option ServerTable) → option_map (with_log server.log) (option_and_then (as_source server) o) ≡ option_and_then (as_source server) o
    by_table None = refl
    by_table (Some t) = registered t.def t.registered

-- ---- one server

module _ (c : ServerChange) (server : Server) where
  -- the tables stay
  pub tables_stay : tables_of (after_commit c server) ≡ tables_of server
  tables_stay = map-map (λ (t : ServerTable). table_after c.log t.def) (with_registration (in_states c.states)) server.tables

  -- what is registered stays
  regs_stay : map (λ r. r.reg) (registered_of (after_commit c server)) ≡ map (λ r. r.reg) (registered_of server)
  regs_stay =
      ap (map (λ (r : Registered). r.reg)) (registrations_made (in_states c.states) server.tables)
      ∙ map-map (λ (r : Registered). r.reg) (in_states c.states) (registered_of server)

  -- the table of a name is the one before, with its registration in its states
  pub table_changed : (name : List ℕ) → server_table name (after_commit c server) ≡ option_map (with_registration (in_states c.states)) (server_table name server)
  table_changed name = find_image (with_registration (in_states c.states)) (λ (t : ServerTable). bytes_eq name t.def.name) server.tables

  -- the registered table of a name is the same source, with the log of the server
  pub source_changed : (name : List ℕ) → source_named name (after_commit c server) ≡ option_map (with_log c.log) (source_named name server)
  source_changed name = ap (option_and_then (as_source (after_commit c server))) (table_changed name) ∙ by_table (server_table name server)
    where
      registered : (def : TableDef) (r : Option Registered) → as_source (after_commit c server) (record { def = def; registered = option_map (in_states c.states) r }) ≡ option_map (with_log c.log) (as_source server (record { def = def; registered = r }))
      registered def None = refl
      registered def (Some r) = refl

      by_table : (o : Option ServerTable) → option_and_then (as_source (after_commit c server)) (option_map (with_registration (in_states c.states)) o) ≡ option_map (with_log c.log) (option_and_then (as_source server) o)
      by_table None = refl
      by_table (Some t) = registered t.def t.registered

  -- it stands as it did
  source_stands : (name : List ℕ) → is_some (source_named name (after_commit c server)) ≡ is_some (source_named name server)
  source_stands name = ap (λ (o : Option SourceTable). is_some o) (source_changed name) ∙ image_stands (with_log c.log) (source_named name server)

  -- the members of a set have their sources as they did
  pub sources_stand : (side : SourceSide) → has_sources (after_commit c server) side ≡ has_sources server side
  sources_stand side = ap (λ (stands : List ℕ → Bool). list_all (λ member. stands member.source) side.def.members) (fun_ext source_stands)

  -- and their replicas
  pub replicas_stand : (side : TargetSide) → has_replicas (after_commit c server) side ≡ has_replicas server side
  replicas_stand side = ap (λ (stands : List ℕ → Bool). list_all (λ member. not (is_replica member.kind) || stands member.target) side.def.members) (fun_ext source_stands)

  -- a record that fits the server fits it as it did
  record_stays : (r : LogRecord) → record_fits (after_commit c server) r ≡ record_fits server r
  record_stays (records.Change tx change) = ap₂ (λ (tables : List TableDef) (regs : List Registration). is_change_applicable tables change || (tx == 0 && is_signal_applicable regs change)) tables_stay regs_stay
  record_stays (records.Commit tx time authid origin) = refl
  record_stays (records.Abort tx) = refl

  -- the log is sound if it is that of the server, whatever its states and rows
  pub log_stays_sound : LogIsSound (record server { log = c.log }) → LogIsSound (after_commit c server)
  log_stays_sound h = record {
    short = h.short;
    typed = h.typed;
    fits = all_weaker (λ (r : LogRecord). IsTrue (record_fits server r)) (λ r. IsTrue (record_fits (after_commit c server) r)) c.log (λ r e. record_stays r ∙ e) h.fits;
    apply = subst (AllByRecursion (λ (def : TableDef). IsTrue (all_apply def (flat_map (λ u. unplaced u.changes) (units c.log)) empty))) (sym tables_stay) h.apply;
    times = h.times;
    early = h.early;
    own = h.own;
    signals = h.signals;
  }

  -- the row that is found for a set at its source is the one before, with what it becomes
  source_side_changed : (id : SetId) → source_side id (after_commit c server) ≡ option_map (source_row c.rows) (source_side id server)
  source_side_changed id = find_image (source_row c.rows) (λ (side : SourceSide). same_set id side.def.id) server.source_sets

  -- the row that is found for a set at its target is the one before, with what it becomes
  target_side_changed : (id : SetId) → target_side id (after_commit c server) ≡ option_map (target_row c.rows) (target_side id server)
  target_side_changed id = find_image (target_row c.rows) (λ (side : TargetSide). same_set id side.def.id) server.target_sets

  -- a set has a row at the server as it did
  side_stands : (id : SetId) → (is_some (source_side id (after_commit c server)) || is_some (target_side id (after_commit c server))) ≡ (is_some (source_side id server) || is_some (target_side id server))
  side_stands id = ap₂ (λ (a b : Bool). a || b)
      (ap (λ (o : Option SourceSide). is_some o) (source_side_changed id) ∙ image_stands (source_row c.rows) (source_side id server))
      (ap (λ (o : Option TargetSide). is_some o) (target_side_changed id) ∙ image_stands (target_row c.rows) (target_side id server))

-- the registered table of a name is the same source, if the server keeps its log
pub source_stays : (s : States) (rows : Rows) (name : List ℕ) (server : Server) → source_named name (after_commit (record { log = server.log; states = s; rows = rows }) server) ≡ source_named name server
source_stays s rows name server = source_changed (record { log = server.log; states = s; rows = rows }) server name ∙ own_log name server

-- ---- the servers and the known sets

-- a server with the changes that are given for it
abbrev pub changed : (Server → ServerChange) → Server → Server
changed f server = after_commit (f server) server

-- the servers with the changes that are given for them
abbrev pub changed_world : (Server → ServerChange) → World → World
changed_world f world = map (changed f) world

-- a known set with the changes that are given for its servers
abbrev pub changed_set : (Server → ServerChange) → KnownSet → KnownSet
changed_set f k = record {
  source = changed f k.source;
  at_source = source_row (f k.source).rows k.at_source;
  target = changed f k.target;
  at_target = target_row (f k.target).rows k.at_target;
}

module _ (f : Server → ServerChange) (world : World) where
  -- the server of a name is the one before, with its changes
  pub named_changed : (name : List ℕ) → server_named name (changed_world f world) ≡ option_map (changed f) (server_named name world)
  named_changed name = find_image (changed f) (λ (server : Server). bytes_eq name server.name) world

  -- the names of servers stay
  pub names_stay : HaveSameNames world (changed_world f world)
  names_stay name = ap (λ (o : Option Server). is_some o) (named_changed name) ∙ image_stands (changed f) (server_named name world)

  -- a set at its target is known as it was
  known_changed : (target : Server) (side : TargetSide) → known_from (changed_world f world) (changed f target) (target_row (f target).rows side) ≡ option_map (changed_set f) (known_from world target side)
  known_changed target side = ap (option_and_then (with_source (changed f target) (target_row (f target).rows side))) (named_changed side.def.source) ∙ by_source (server_named side.def.source world)
    where
      with_side : Server → Server → TargetSide → SourceSide → KnownSet
      with_side source at at_target at_source = record { source = source; at_source = at_source; target = at; at_target = at_target }

      with_source : Server → TargetSide → Server → Option KnownSet
      with_source at at_target source = option_map (with_side source at at_target) (source_side at_target.def.id source)

      by_side : (source : Server) (o : Option SourceSide) → option_map (with_side (changed f source) (changed f target) (target_row (f target).rows side)) (option_map (source_row (f source).rows) o) ≡ option_map (changed_set f) (option_map (with_side source target side) o)
      by_side source None = refl
      by_side source (Some at_source) = refl

      by_source : (o : Option Server) → option_and_then (with_source (changed f target) (target_row (f target).rows side)) (option_map (changed f) o) ≡ option_map (changed_set f) (option_and_then (with_source target side) o)
      by_source None = refl
      by_source (Some source) =
          ap (option_map (with_side (changed f source) (changed f target) (target_row (f target).rows side))) (source_side_changed (f source) source side.def.id)
          ∙ by_side source (source_side side.def.id source)

  -- the known sets are those before, with the changes of their servers
  pub sets_changed : known_sets (changed_world f world) ≡ map (changed_set f) (known_sets world)
  unfolding known_sets
  sets_changed = listed_images (changed f) (changed_set f) (λ (target : Server). filter_map (known_from (changed_world f world) target) target.target_sets) (λ (target : Server). filter_map (known_from world target) target.target_sets)
      (λ target. given_images (target_row (f target).rows) (changed_set f) (known_from (changed_world f world) (changed f target)) (known_from world target) (known_changed target) target.target_sets)
      world

  -- the replica sets are those before
  pub replica_sets_changed : replica_sets (known_sets (changed_world f world)) ≡ map (changed_set f) (replica_sets (known_sets world))
  replica_sets_changed = ap replica_sets sets_changed ∙ filter_images (changed_set f) (λ (k : KnownSet). is_replica_set k.at_target.def) (known_sets world)

  -- the read-only sets are those before
  pub read_only_sets_changed : read_only_sets (known_sets (changed_world f world)) ≡ map (changed_set f) (read_only_sets (known_sets world))
  read_only_sets_changed = ap read_only_sets sets_changed ∙ filter_images (changed_set f) (λ (k : KnownSet). not (is_replica_set k.at_target.def)) (known_sets world)

  -- ---- what is known

  -- the names of known sets stay
  known_stays : (id : SetId) → is_known (changed_world f world) id ≡ is_known world id
  known_stays id =
      ap (list_any (λ (k : KnownSet). same_set id k.at_target.def.id)) sets_changed
      ∙ any_image (changed_set f) (λ (k : KnownSet). same_set id k.at_target.def.id) (known_sets world)

  -- a set at its source stands at its target as it did
  pub stands_as_before : (server : Server) (side : SourceSide) → stands_at_target (changed_world f world) (changed f server) (source_row (f server).rows side) ≡ stands_at_target world server side
  stands_as_before server side =
      ap (list_any (λ (k : KnownSet). bytes_eq server.name k.source.name && same_set side.def.id k.at_target.def.id)) sets_changed
      ∙ any_image (changed_set f) (λ (k : KnownSet). bytes_eq server.name k.source.name && same_set side.def.id k.at_target.def.id) (known_sets world)

  -- a set at its target stands at its source as it did
  pub known_as_before : (server : Server) (side : TargetSide) → is_some (known_from (changed_world f world) (changed f server) (target_row (f server).rows side)) ≡ is_some (known_from world server side)
  known_as_before server side = ap (λ (o : Option KnownSet). is_some o) (known_changed server side) ∙ image_stands (changed_set f) (known_from world server side)

  -- the origin of a unit is known as it was
  pub origin_stays : (server : Server) (u : Unit) → has_origin (changed_world f world) (changed f server) u ≡ has_origin world server u
  origin_stays server u =
      ap₂ (λ (known stands : SetId → Bool). option_map_or (λ id. known id && stands id) u.head.origin true) (fun_ext known_stays) (fun_ext (side_stands (f server) server))

-- ---- kinds of sets

-- a replica set is a known set
pub replica_is_known : (world : World) (k : KnownSet) → In k (replica_sets (known_sets world)) → In k (known_sets world) × (is_replica_set k.at_target.def ≡ true)
replica_is_known world k = in_filter (λ (a : KnownSet). is_replica_set a.at_target.def) (known_sets world) k

-- a read-only set is a known set
pub read_only_is_known : (world : World) (k : KnownSet) → In k (read_only_sets (known_sets world)) → In k (known_sets world) × IsTrue (not (is_replica_set k.at_target.def))
read_only_is_known world k = in_filter (λ (a : KnownSet). not (is_replica_set a.at_target.def)) (known_sets world) k
