-- Contents in which a log goes on show no damage that wasn't shown before: proofs.
use Rattle.std.proofs.Common.{◌≡◌, ℕ, zero, List, [], ◌∷◌, refl, sym, ap, subst, ◌∙◌, inl, inr, ◌⊎◌, Option, Some, None}
use Rattle.repl_types.specs.declared.area.Area.TheVariants as areas
use Rattle.repl_types.specs.declared.record.Change.TheVariants.{Insert, Update, Delete, Start, Stop}
use Rattle.repl_types.specs.declared.record.LogRecord.TheVariants as records
use Rattle.repl_types.specs.declared.status.DamageCause.TheVariants as causes
use Rattle.source_log.specs.Fitting.{CanBeMade}
use Rattle.source_log.specs.Making.{StepCanBeMade, with_made, all_made}
use Rattle.source_log.specs.Rules.{rules, may_be_key, may_be_value, is_called_for, is_stray, flight_key, IsInFlight, HasTable, IsKeptChange}
use Rattle.source_log.specs.Storing.{MayBeLogged, Extends}
use Rattle.source_log.specs.declared.step.Step.{Step}
use Rattle.std.specs.List.{AllByRecursion}
use Rattle.world_store.specs.Words.{IsLogRecord, log_spelling, b64, short_text, key_spelling, row_spelling, one_whole, one_log_record, in_flight_key_spelling, IsInFlightKey, InFlightKey, one_in_flight_key}
use Rattle.site_store.specs.Words.{Contents, Table, put_at, Rules, ShownBefore, AddsOnlySpelt, adds_nothing, adds_put, adds_remove, adds_then, shown_before}
use Rattle.repl_model.specs.Words.{Area, Change, LogRecord, DefinedTable, key_of, table_of}
use Rattle.source_log.proofs.Makes.{put_twice}
use Rattle.source_log.proofs.MayStand.{no_signal}
use Rattle.source_log.specs.laws.Whole.{same_value}

-- a value is no missing one
pub some_none : {v : List ℕ} → ◌≡◌ {A = Option (List ℕ)} (Some v) None → ⊥
some_none e = cc

-- ---- one after another

-- nothing was done
pub extends_none : (c : Contents) → Extends c c
extends_none c = record { defs = refl; log = λ key. inl refl; in_flight = λ key value h. inl h; adds = adds_nothing rules c }

-- a table stands where it stood
table_back : (c d : Contents) (change : Change) (table : DefinedTable) → d areas.Defs 0 ≡ c areas.Defs 0 → HasTable d change table → HasTable c change table
table_back c d change table same has = record { stands = sym (ap (λ (t : Table). t (short_text (table_of change))) same) ∙ has.stands; fits = has.fits; may = has.may }

may_back : (c d : Contents) → d areas.Defs 0 ≡ c areas.Defs 0 → (r : LogRecord) → MayBeLogged d r → MayBeLogged c r
may_back c d same (records.Change tx change) h = (h.0, table_back c d change h.0 same h.1)
may_back c d same (records.Commit tx time authid origin) h = tt
may_back c d same (records.Abort tx) h = tt

-- a change that stands in the log goes on doing so
pub kept_on : (c d : Contents) (tx pos : ℕ) (change : Change) → Extends c d → IsKeptChange tx c pos change → IsKeptChange tx d pos change
kept_on c d tx pos change x k = record {
  typed = k.typed;
  logged = elim (x.log (b64 pos)) [
    | inl same ↦ same ∙ k.logged
    | inr g ↦ absurd (some_none (sym k.logged ∙ g.free))
  ];
  table = k.table;
  has = table_back d c change k.table (sym x.defs) k.has;
}

pub extends_then : (c d e : Contents) → Extends c d → Extends d e → Extends c e
extends_then c d e first second = record {
  defs = second.defs ∙ first.defs;
  log = λ key. elim (second.log key) [
    | inl same ↦ elim (first.log key) [
      | inl before ↦ inl (same ∙ before)
      | inr g ↦ inr (record { free = g.free; r = g.r; stands = same ∙ g.stands; typed = g.typed; may = g.may })
    ]
    | inr g ↦ elim (first.log key) [
      | inl before ↦ inr (record { free = sym before ∙ g.free; r = g.r; stands = g.stands; typed = g.typed; may = may_back c d first.defs g.r g.may })
      | inr f ↦ absurd (some_none (sym f.stands ∙ g.free))
    ]
  ];
  in_flight = λ key value h. elim (second.in_flight key value h) [
    | inl old ↦ elim (first.in_flight key value old) [
      | inl older ↦ inl older
      | inr g ↦ inr (record { tx = g.tx; pos = g.pos; fits = g.fits; is = g.is; change = g.change; kept = kept_on d e g.tx g.pos g.change second g.kept })
    ]
    | inr g ↦ inr g
  ];
  adds = adds_then rules c d e first.adds second.adds;
}

-- ---- damage

-- rules that ask for nothing
abbrev spelling_rules : Rules
spelling_rules = record { is_key = may_be_key; is_value = may_be_value; is_needed = λ a t key c. ⊥; is_unfit = λ a t key value c. ⊥ }

module _ (c d : Contents) (x : Extends c d) where
  -- a change in flight was in flight before, or it stands in the log
  in_flight_back : (tx pos : ℕ) → IsInFlight tx d pos → IsInFlight tx c pos ⊎ ((change : Change) × IsKeptChange tx d pos change)
  in_flight_back tx pos h = elim (x.in_flight (flight_key tx pos) h.value h.stands) [
    | inl old ↦ inl (record { fits = h.fits; value = h.value; stands = old })
    | inr g ↦
        let same : record { tx = g.tx; pos = g.pos } ≡ record { tx = tx; pos = pos } = one_whole IsInFlightKey in_flight_key_spelling one_in_flight_key (record { tx = g.tx; pos = g.pos }) (record { tx = tx; pos = pos }) g.fits h.fits (sym g.is) in
        inr (g.change, subst (λ (k : InFlightKey). IsKeptChange k.tx d k.pos g.change) same g.kept)
  ]

  -- a record that is missing was missing before
  log_back : (key : List ℕ) → d areas.Log 0 key ≡ None → c areas.Log 0 key ≡ None
  log_back key none = elim (x.log key) [
    | inl same ↦ sym same ∙ none
    | inr g ↦ g.free
  ]

  -- what is called for and missing was so before
  absent_back : (a : Area) (t : ℕ) (key : List ℕ) → d a t key ≡ None → is_called_for a t key d → (c a t key ≡ None) × is_called_for a t key c
  absent_back areas.Log zero key none h = elim (in_flight_back h.0 h.1 h.3) [
    | inl old ↦ (log_back key none, (h.0, h.1, h.2, old))
    | inr kept ↦ absurd (some_none (sym kept.1.logged ∙ ap (d areas.Log 0) (sym h.2) ∙ none))
  ]
  absent_back areas.Defs zero key none h =
      let before : c areas.Defs 0 key ≡ None = sym (ap (λ (t : Table). t key) x.defs) ∙ none in
      elim (in_flight_back h.0 h.1 h.4) [
        | inl old ↦ elim (x.log (b64 h.1)) [
          | inl same ↦ (before, (h.0, h.1, h.2, h.3, old, h.5, sym same ∙ h.6))
          | inr g ↦
              let is : g.r ≡ records.Change h.0 h.2 = one_whole IsLogRecord log_spelling one_log_record g.r (records.Change h.0 h.2) g.typed h.5 (same_value (sym g.stands ∙ h.6)) in
              let table = subst (MayBeLogged c) is g.may in
              absurd (some_none (sym table.1.stands ∙ ap (c areas.Defs 0) (sym h.3) ∙ before))
        ]
        | inr kept ↦
            let is : records.Change h.0 kept.0 ≡ records.Change h.0 h.2 = one_whole IsLogRecord log_spelling one_log_record (records.Change h.0 kept.0) (records.Change h.0 h.2) kept.1.typed h.5 (same_value (sym kept.1.logged ∙ h.6)) in
            let table = subst (MayBeLogged d) is (kept.1.table, kept.1.has) in
            absurd (some_none (sym table.1.stands ∙ ap (d areas.Defs 0) (sym h.3) ∙ none))
      ]
  absent_back a t key none h = absurd h

  -- a stray change in flight was so before
  stray_back : (a : Area) (t : ℕ) (key value : List ℕ) → d a t key ≡ Some value → is_stray a t key value d → (c a t key ≡ Some value) × is_stray a t key value c
  stray_back areas.Inflight zero key value has h = elim (x.in_flight key value has) [
    | inl old ↦ (old, (h.0, h.1, h.2, record { fits = h.3.fits; value = value; stands = ap (c areas.Inflight 0) (sym h.2) ∙ old }, (λ change kept. h.4 change (kept_on c d h.0 h.1 change x kept))))
    | inr g ↦
        let same : record { tx = g.tx; pos = g.pos } ≡ record { tx = h.0; pos = h.1 } = one_whole IsInFlightKey in_flight_key_spelling one_in_flight_key (record { tx = g.tx; pos = g.pos }) (record { tx = h.0; pos = h.1 }) g.fits h.3.fits (sym g.is ∙ h.2) in
        absurd (h.4 g.change (subst (λ (k : InFlightKey). IsKeptChange k.tx d k.pos g.change) same g.kept))
  ]
  stray_back a t key value has h = absurd h

  -- no other damage is shown
  pub extended_shown : ShownBefore rules c d
  extended_shown a (causes.Spelling bytes) h = shown_before spelling_rules (λ a t key c h. h, λ a t key value c h. h) c d x.adds a (causes.Spelling bytes) h
  extended_shown a (causes.Absent key) h = let b = absent_back a h.0 key h.1.0 h.1.1 in (h.0, b)
  extended_shown a (causes.Unfit bytes) h = let b = stray_back a h.0 h.1.0 bytes h.1.1 h.1.2 in (h.0, (h.1.0, b.0, b.1))
  extended_shown a (causes.NoRest steps) h = h

-- ---- the source

-- a change of the source adds only rows that are spelled so
pub made_extends : (table : DefinedTable) (change : Change) (c : Contents) → CanBeMade table.def change → Extends c (with_made table change c)
made_extends table change c can = record { defs = refl; log = λ key. inl refl; in_flight = λ key value h. inl h; adds = by_kind change can }
  where
    n : ℕ
    n = table.number

    by_kind : (change : Change) → CanBeMade table.def change → AddsOnlySpelt rules c (with_made table change c)
    by_kind (Insert name row) can = adds_put rules c areas.Source n (key_spelling (key_of table.def row)) (row_spelling row) tt (record { row = row }, can.rows, refl)
    by_kind (Update name before after) can =
        let k = key_spelling (key_of table.def before) in
        let l = key_spelling (key_of table.def after) in
        let d = put_at c areas.Source n k None in
        subst (AddsOnlySpelt rules c) (put_twice c areas.Source n k l None (Some (row_spelling after))) (adds_then rules c d (put_at d areas.Source n l (Some (row_spelling after))) (adds_remove rules c areas.Source n k) (adds_put rules d areas.Source n l (row_spelling after) tt (record { row = after }, can.rows.1, refl)))
    by_kind (Delete name row) can = adds_remove rules c areas.Source n (key_spelling (key_of table.def row))
    by_kind (Start name) can = absurd (no_signal table.def (Start name) can (inl (name, refl)))
    by_kind (Stop name) can = absurd (no_signal table.def (Stop name) can (inr (name, refl)))

-- so do all changes of a commit
pub all_made_extends : (steps : List Step) (c : Contents) → AllByRecursion StepCanBeMade steps → Extends c (all_made steps c)
all_made_extends [] c can = extends_none c
all_made_extends (step ∷ steps) c can =
    let d = with_made step.table step.change c in
    extends_then c d (all_made steps d) (made_extends step.table step.change c can.0) (all_made_extends steps d can.1)
