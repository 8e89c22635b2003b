-- The signal of a set is a unit of the program's own that may follow at the set's source.
use Rattle.std.proofs.Common.{◌≡◌, ℕ, ◌≤◌, ◌+◌, true, cond, List, [], ◌∷◌, ◌++◌, length, map, Option, Some, None, refl, sym, ap, subst, ◌∙◌, IsTrue, fold, is_some, IfSome, option_map, option_and_then, bytes_eq}
use Rattle.std.specs.List.{AllByRecursion, list_all, list_any}
use Rattle.std.proofs.lemmas.Bool.{and_parts, false≢true, cond_both}
use Rattle.std.proofs.lemmas.Simd.{map-map}
use Rattle.repl_model.specs.Words.{is_name, all_append, Change, LogRecord, SetDef, Registration, Member, units, last_time, SourceTable, Registered, ServerTable, SourceSide, Server, World, registered_of, server_table, as_source, source_named, RegistrationKeepsRules, SetKeepsLimits, KeepsTable, UnknownSource, has_sources, ServerKeepsRules, log_limit, source_tables, signal_records, In, at_one, at_each, passes_at, any_from, given_in, image_in, each_image, found_in, same_name}
use Rattle.repl_types.specs.declared.record.Change.TheVariants.{Start}
use Rattle.repl_types.specs.declared.record.LogRecord.TheVariants as records
use Rattle.world_commits.specs.logs.OwnUnits.{own_records, MaySignal, MayFollow}

-- the starts of some tables
abbrev pub starts : List (List ℕ) → List Change
starts tables = map (λ table. Start table) tables

-- the records of a set's signal are those of a unit of the program's own
pub signal_is_own : (def : SetDef) (log : List LogRecord) → signal_records def log ≡ own_records (starts (source_tables def)) def.id.qual (Some def.id) log
signal_is_own def log = ap (λ (rs : List LogRecord). rs ++ records.Commit 0 (last_time (units log)) def.id.qual (Some def.id) ∷ []) (sym (map-map (λ (change : Change). records.Change 0 change) (λ table. Start table) (source_tables def)))

-- ---- the tables that a signal starts

-- a start of a table may stand in a server's log
abbrev MayStart : Server → List ℕ → Type 0
MayStart server table = MaySignal server (Start table)

-- a registered table of a server whose tables keep the rules may start
may_start : (server : Server) → AllByRecursion KeepsTable server.tables → (table : List ℕ) → is_some (source_named table server) ≡ true → MayStart server table
may_start server keep table = by_table (server_table table server) refl
  where
    of_registration : ServerTable → Registered → SourceTable
    of_registration t r = record { def = t.def; reg = r.reg; log = server.log }

    by_registration : (t : ServerTable) → In t server.tables → bytes_eq table t.def.name ≡ true → KeepsTable t → (o : Option Registered) → t.registered ≡ o → IfSome o (λ r. RegistrationKeepsRules t.def r.reg) → is_some (option_map (of_registration t) o) ≡ true → MayStart server table
    by_registration t i e keeps None is rules stands = absurd (false≢true stands)
    by_registration t i e keeps (Some r) is rules stands = record {
      named = subst (λ (name : List ℕ). IsTrue (is_name name)) (sym (same_name table t.def.name e)) (and_parts (is_name t.def.name) (list_all (λ column. is_name column.name) t.def.columns) keeps.0.names).0;
      registered = any_from (λ (reg : Registration). bytes_eq table reg.table) (map (λ r. r.reg) (registered_of server)) r.reg
          (image_in (λ (a : Registered). a.reg) (registered_of server) r (given_in (λ (a : ServerTable). a.registered) server.tables t r i is))
          (ap (bytes_eq table) rules.table ∙ e);
    }

    by_table : (o : Option ServerTable) → server_table table server ≡ o → is_some (option_and_then (as_source server) o) ≡ true → MayStart server table
    by_table None is stands = absurd (false≢true stands)
    by_table (Some t) is stands =
        let found = found_in (λ (a : ServerTable). bytes_eq table a.def.name) server.tables t is in
        let keeps = at_one KeepsTable server.tables t keep found.0 in
        by_registration t found.0 found.1 keeps t.registered refl keeps.2 stands

-- what holds of the sources of members, and of some tables before, holds of each once in order
each_source : (P : List ℕ → Type 0) (members : List Member) (names : List (List ℕ)) → AllByRecursion (λ member. P member.source) members → AllByRecursion P names
    → AllByRecursion P (fold (λ names member. cond (list_any (bytes_eq member.source) names) names (names ++ member.source ∷ [])) names members)
each_source P [] names all before = before
each_source P (member ∷ members) names all before =
    let more = names ++ member.source ∷ [] in
    each_source P members (cond (list_any (bytes_eq member.source) names) names more) all.1
    (cond_both (list_any (bytes_eq member.source) names) names more (AllByRecursion P) (λ _. before) (λ _. all_append P names (member.source ∷ []) before (all.0, tt)))

-- the source tables of a set that stands at its source may start there
tables_may_start : (world : World) (server : Server) (side : SourceSide) → ServerKeepsRules world server → In side server.source_sets → AllByRecursion (MayStart server) (source_tables side.def)
tables_may_start world server side rules i =
    let stand = passes_at (has_sources server) server.source_sets side rules.source_members i in
    each_source (MayStart server) side.def.members []
    (at_each (λ (member : Member). MayStart server member.source) side.def.members (λ member j. may_start server rules.tables member.source (passes_at (λ (m : Member). is_some (source_named m.source server)) side.def.members member stand j))) tt

-- ---- the signal

-- the signal of a set whose source a server is may follow there, if the log has room for it
pub signal_may_follow : (world : World) (server : Server) (side : SourceSide) → ServerKeepsRules world server → In side server.source_sets
    → length server.log + length (signal_records side.def server.log) ≤ log_limit
    → MayFollow server (starts (source_tables side.def)) side.def.id.qual (Some side.def.id)
signal_may_follow world server side rules i room = record {
  each = each_image (MaySignal server) (λ table. Start table) (source_tables side.def) (tables_may_start world server side rules i);
  spelled = (limits.spelled.0.0, limits.spelled.0);
  room = subst (λ (rs : List LogRecord). length server.log + length rs ≤ log_limit) (signal_is_own side.def server.log) room;
}
  where
    limits : SetKeepsLimits world side.def
    limits = (at_one (λ (a : SourceSide). (a.def.source ≡ server.name) × SetKeepsLimits world a.def × UnknownSource world server a) server.source_sets side rules.sources i).1
