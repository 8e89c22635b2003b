-- The records of a set's signal can be put into a log: proofs.
use Rattle.std.proofs.Common.{◌≡◌, ℕ, Bool, true, false, cond, List, [], ◌∷◌, ◌++◌, map, ap, arith, Some, fold, bytes_eq}
use Rattle.std.specs.List.{AllByRecursion, list_any}
use Rattle.std.proofs.lemmas.Simd.{map-map}
use Rattle.world_store.specs.Words.{IsLogRecord, Is64, IsName, log_storable}
use Rattle.repl_model.specs.Words.{LogRecord, all_append, IsMember, IsSetDef, Member, SetDef, source_tables, signal_records, units, last_time}
use Rattle.repl_types.specs.declared.record.LogRecord.TheVariants as records
use Rattle.source_log.specs.Units.{own_change, own_commit, unit_records, MayBePut, MayAppendUnit}
use Rattle.full_refresh.specs.Signals.{with_table, start_of, head_of_signal, unit_of_signal}

-- ---- names

-- one more name keeps all names
with_name : (names : List (List ℕ)) (name : List ℕ) → AllByRecursion IsName names → IsName name → AllByRecursion IsName (with_table names name)
with_name names name all is = by_test (list_any (bytes_eq name) names)
  where
    by_test : (b : Bool) → AllByRecursion IsName (cond b names (names ++ name ∷ []))
    by_test true = all
    by_test false = all_append IsName names (name ∷ []) all (is, tt)

-- so do the tables of members
with_names : (members : List Member) (names : List (List ℕ)) → AllByRecursion IsName names → AllByRecursion IsMember members → AllByRecursion IsName (fold (λ names member. with_table names member.source) names members)
with_names [] names all are = all
with_names (m ∷ ms) names all are = with_names ms (with_table names m.source) (with_name names m.source all are.0.0) are.1

-- the tables of a set's members have names
tables_named : (def : SetDef) → IsSetDef def → AllByRecursion IsName (source_tables def)
tables_named def is = with_names def.members [] tt is.5.1

-- ---- records

-- those of the unit of a signal at the time of a log's last commit are those of the signal
pub signal_is_unit : (def : SetDef) (log : List LogRecord) → unit_records (unit_of_signal def (last_time (units log))) ≡ signal_records def log
signal_is_unit def log = ap (λ (l : List LogRecord). l ++ records.Commit 0 (last_time (units log)) def.id.qual (Some def.id) ∷ []) (map-map own_change start_of (source_tables def))

-- each of them can be put
starts_may : (names : List (List ℕ)) → AllByRecursion IsName names → AllByRecursion MayBePut (map own_change (map start_of names))
starts_may [] all = tt
starts_may (name ∷ names) all =
    let typed : IsLogRecord (own_change (start_of name)) = (omega arith, all.0) in
    (record { typed = typed; storable = log_storable (own_change (start_of name)) typed tt }, starts_may names all.1)

-- and so can all records of a signal
pub signal_may : (def : SetDef) (time : ℕ) → IsSetDef def → Is64 time → MayAppendUnit (unit_of_signal def time)
signal_may def time is small =
    let typed : IsLogRecord (own_commit (head_of_signal def time)) = (omega arith, small, is.0.0, is.0) in
    let commit : MayBePut (own_commit (head_of_signal def time)) = record { typed = typed; storable = log_storable (own_commit (head_of_signal def time)) typed tt } in
    all_append MayBePut (map own_change (map start_of (source_tables def))) (own_commit (head_of_signal def time) ∷ []) (starts_may (source_tables def) (tables_named def is)) (commit, tt)
