-- Changes in flight that are damaged: proofs.
use Rattle.std.proofs.Common.{◌≡◌, ℕ, true, false, List, refl, sym, subst, ◌∙◌, Option, Some, None, IfSome, option_map}
use Rattle.world_store.specs.Words.{not_both, IsLogRecord, log_spelling, b64, short_text, one_whole, one_log_record, in_flight_spelling, InFlight}
use Rattle.site_store.specs.Words.{Contents, Kept, RowIs, sees, no_access, Reads, ClosesAll, IsMemoryOr, Breaks, unfit_breaks, if_seen, if_both_seen}
use Rattle.site_store.specs.declared.sites.Sites.{Sites}
use Rattle.repl_model.specs.Words.{Change, LogRecord, Fault, defined_table_spelling, IsDefinedTable, DefinedTable, one_defined_table, table_of}
use Rattle.repl_types.specs.declared.area.Area.TheVariants as areas
use Rattle.repl_types.specs.declared.record.LogRecord.TheVariants as records
use Rattle.repl_types.specs.declared.status.DamageCause.TheVariants as causes
use Rattle.repl_types.specs.declared.fault.Fault.TheVariants as faults
use Rattle.source_log.specs.Fitting.{may_stand}
use Rattle.source_log.specs.Rules.{rules, flight_key, IsInFlight, IsLogged, HasTable, IsKeptChange}
use Rattle.source_log.proofs.Extending.{some_none}
use Rattle.source_log.specs.laws.Whole.{same_value}

-- the log has no change of a transaction at a position that may stand at its table
abbrev pub IsStray : ℕ → ℕ → Contents → Type 0
IsStray tx pos c = IsInFlight tx c pos × ((change : Change) → IsKeptChange tx c pos change → ⊥)

-- the log has another record there
pub other_record : (tx pos : ℕ) (r : LogRecord) (c : Contents) → IsInFlight tx c pos → IsLogRecord r → ((change : Change) → r ≡ records.Change tx change → ⊥) → c areas.Log 0 (b64 pos) ≡ Some (log_spelling r) → IsStray tx pos c
other_record tx pos r c flight typed other stands = (flight, λ change kept. other change (one_whole IsLogRecord log_spelling one_log_record r (records.Change tx change) typed kept.typed (same_value (sym stands ∙ kept.logged))))

-- or a change that may not stand at its table
pub other_table : (tx pos : ℕ) (change : Change) (table : DefinedTable) (c : Contents) → IsInFlight tx c pos → IsLogRecord (records.Change tx change) → IsLogged tx c pos change → c areas.Defs 0 (short_text (table_of change)) ≡ Some (defined_table_spelling table) → IsDefinedTable table → may_stand table.def change ≡ false → IsStray tx pos c
other_table tx pos change table c flight typed logged stands fits refused = (
  flight,
  λ other kept.
      let is : records.Change tx other ≡ records.Change tx change = one_whole IsLogRecord log_spelling one_log_record (records.Change tx other) (records.Change tx change) kept.typed typed (same_value (sym kept.logged ∙ logged)) in
      let has = subst (AtTable c) is (kept.table, kept.has) in
      let same : has.0 ≡ table = one_whole IsDefinedTable defined_table_spelling one_defined_table has.0 table has.1.fits fits (same_value (sym has.1.stands ∙ stands)) in
      not_both (may_stand table.def change) (subst (λ (t : DefinedTable). may_stand t.def change ≡ true) same has.1.may) refused,
)
  where
    AtTable : Contents → LogRecord → Type 0
    AtTable c (records.Change t ch) = (table : DefinedTable) × HasTable c ch table
    AtTable c (records.Commit t time authid origin) = Unit {0}
    AtTable c (records.Abort t) = Unit {0}

module _ {K : Type 0} (kept : K → Kept) where
  -- a stray change in flight is damage
  pub stray_breaks : (s0 s1 s2 : Sites K) (server tx pos : ℕ) (row : Option InFlight) (e : Fault) → Reads kept s0 s1 server areas.Inflight → IfSome (sees kept s0 server) (RowIs in_flight_spelling areas.Inflight 0 (flight_key tx pos) row) → IfSome (sees kept s0 server) (IsStray tx pos) → ClosesAll kept s1 s2 no_access → IsMemoryOr (faults.Damaged server areas.Inflight (causes.Unfit (in_flight_spelling (record {})))) e → Breaks rules kept s0 s2 server e
  stray_breaks s0 s1 s2 server tx pos row e read saw stray closes fault =
      let seen = sees kept s0 server in
      let key = flight_key tx pos in
      let bytes = in_flight_spelling (record {}) in
      let stands = if_both_seen seen (RowIs in_flight_spelling areas.Inflight 0 key row) (IsStray tx pos) (λ c. c areas.Inflight 0 key ≡ Some bytes) (λ c is h. there row h.0.value (c areas.Inflight 0 key) is h.0.stands) saw stray in
      let unfit = if_seen seen (IsStray tx pos) (rules.is_unfit areas.Inflight 0 key bytes) (λ c h. (tx, pos, refl, h.0, h.1)) stray in
      unfit_breaks rules kept s0 s1 s2 server areas.Inflight 0 key bytes e read stands unfit closes fault
    where
      there : (row : Option InFlight) (v : List ℕ) (o : Option (List ℕ)) → o ≡ option_map in_flight_spelling row → o ≡ Some v → o ≡ Some (in_flight_spelling (record {}))
      there None v o is has = absurd (some_none (sym has ∙ is))
      there (Some r) v o is has = is
