-- Changes of the program's own are put into the log and made, one after another: proofs.
use Rattle.std.proofs.Common.{◌≡◌, inl, inr, ℕ, ◌+◌, ◌<◌, Bool, true, false, cond, List, [], ◌∷◌, ◌++◌, length, map, refl, sym, ap, subst, ◌∙◌, append_assoc, arith, Option, Some, ◌==◌, ◌&&◌, bytes_eq}
use Rattle.std.proofs.lemmas.List.{map-append, length-map, length-append}
use Rattle.world_store.specs.Words.{log_spelling, b64, short_text, put_here}
use Rattle.site_store.specs.Words.{Contents, Table, set_key, put_at}
use Rattle.repl_model.specs.Words.{same_area, Area, Change, LogRecord, TableDef, Placed, DefinedTable, is_signal, with_more, log_limit, unplaced, Rows, table_of, after_change, after_changes, Server}
use Rattle.repl_types.specs.declared.area.Area.TheVariants as areas
use Rattle.repl_types.specs.declared.record.Change.TheVariants.{Insert, Update, Delete, Start, Stop}
use Rattle.stored_commits.specs.records.LongerTables.{log_table}
use Rattle.stored_commits.specs.records.SourceTables.{with_effect}
use Rattle.source_log.specs.Making.{HasSource, SourceStands, IsOfServer, StepCanBeMade}
use Rattle.source_log.specs.Rules.{HasTable}
use Rattle.source_log.specs.Storing.{IsKept, Stores}
use Rattle.source_log.specs.Units.{own_change, MayBePut, committed, MakesOwn, PutsOwn, HasChanges, PutsChanges}
use Rattle.source_log.specs.declared.step.Step.{Step}
use Rattle.source_log.proofs.EndsTaken.{source_stand}
use Rattle.source_log.proofs.LogEnds.{others_apart}
use Rattle.source_log.proofs.OwnTables.{own_table, tables_apart}
use Rattle.source_log.proofs.TakenFirst.{same_server}
use Rattle.source_log.proofs.Turns.{made_source}
use Rattle.stored_commits.specs.laws.LogTables.{log_gets_row}
use Rattle.stored_commits.specs.laws.StoredRows.{typed_rows}

-- ---- one change

-- making a change leaves the tables outside the source
own_leaves : (change : Change) (c d : Contents) (a : Area) (n : ℕ) → MakesOwn change c d → same_area areas.Source a ≡ false → d a n ≡ c a n
own_leaves change c d a n (inl h) other = ap (λ (x : Contents). x a n) h.1
own_leaves change c d a n (inr h) other =
    let t = with_effect h.0.def change (c areas.Source h.0.number) in
    ap (λ (x : Contents). x a n) h.2 ∙ ap (λ (b : Bool). cond (b && (h.0.number == n)) t (c a n)) other

-- a start or a stop changes no row
signal_leaves : (def : TableDef) (change : Change) (rows : Rows) → is_signal change ≡ true → after_change def change rows ≡ rows
unfolding after_change
signal_leaves def (Insert name row) rows e = absurd cc
signal_leaves def (Update name before after) rows e = absurd cc
signal_leaves def (Delete name row) rows e = absurd cc
signal_leaves def (Start name) rows e = either (bytes_eq name def.name)
  where
    either : (b : Bool) → cond b rows rows ≡ rows
    either true = refl
    either false = refl
signal_leaves def (Stop name) rows e = either (bytes_eq name def.name)
  where
    either : (b : Bool) → cond b rows rows ≡ rows
    either true = refl
    either false = refl

-- one more change is made last
change_last : (def : TableDef) (changes : List Placed) (p : Placed) (rows : Rows) → after_changes def (unplaced (changes ++ p ∷ [])) rows ≡ after_change def p.change (after_changes def (unplaced changes) rows)
change_last def [] p rows = refl
change_last def (q ∷ qs) p rows = change_last def qs p (after_change def q.change rows)

-- ---- a server

-- a server with one more change of the program's own
own_longer : (server : Server) (changes : List Placed) (p : Placed) → with_more (own_change p ∷ []) (with_more (map own_change changes) server) ≡ with_more (map own_change (changes ++ p ∷ [])) server
own_longer server changes p = ap (λ (l : List LogRecord). record server { log = l })
    (append_assoc server.log (map own_change changes) (own_change p ∷ []) ∙ ap (λ (l : List LogRecord). server.log ++ l) (sym (map-append own_change changes (p ∷ []))))

-- how long its log is
pub own_length : (server : Server) (changes : List Placed) → length (with_more (map own_change changes) server).log ≡ length server.log + length changes
own_length server changes = length-append server.log (map own_change changes) ∙ ap (λ (n : ℕ). length server.log + n) (length-map changes own_change)

-- nothing was put
pub puts_none : (last : ℕ) (c : Contents) → PutsChanges last [] c c
puts_none last c = record {
  others = λ a n other. refl;
  end = refl;
  in_flight = refl;
  has = λ server kept is stores. record {
    log = stores.log ∙ sym (ap log_table (same_server server));
    source = stores.source;
    stand = source_stand server kept;
  };
}

module _ (last : ℕ) (changes : List Placed) (p : Placed) (may : MayBePut (own_change p)) (room : last + length changes < log_limit) (c d e : Contents) (puts : PutsChanges last changes c d) (own : PutsOwn (last + length changes + 1) p d e) where
  -- the key of its record
  abbrev key : List ℕ
  key = b64 (last + length changes + 1)

  -- the record
  abbrev row : Option (List ℕ)
  row = Some (log_spelling (own_change p))

  -- the contents with the record, before the change is made
  abbrev logged : Contents
  logged = put_at d areas.Log 0 key row

  module _ (server : Server) (kept : IsKept server) (is : last ≡ length server.log) (stores : Stores server c) where
    -- what was put before
    before : HasChanges server changes d
    before = puts.has server kept is stores

    -- the rows of each table before
    abbrev rows : TableDef → Rows
    rows def = after_changes def (unplaced changes) (committed server.log def)

    -- and after it
    abbrev rows_now : TableDef → Rows
    rows_now def = after_changes def (unplaced (changes ++ p ∷ [])) (committed server.log def)

    -- the log gets the record
    log_more : e areas.Log 0 ≡ log_table (with_more (map own_change (changes ++ p ∷ [])) server)
    log_more =
        let here = with_more (map own_change changes) server in
        let len : length here.log ≡ last + length changes = own_length server changes ∙ ap (λ (n : ℕ). n + length changes) (sym is) in
        own_leaves p.change logged e areas.Log 0 own refl
        ∙ put_here d areas.Log 0 key row
        ∙ (λ i. set_key (before.log i) (b64 (sym len i + 1)) row)
        ∙ sym (log_gets_row here (own_change p) (omega (arith, len, room)))
        ∙ ap log_table (own_longer server changes p)

    -- the source has the change made
    source_more : MakesOwn p.change logged e → HasSource server rows_now e × SourceStands server rows_now
    source_more (inl signal) =
        let same : rows ≡ rows_now = λ i def. sym (change_last def changes p (committed server.log def) ∙ signal_leaves def p.change (rows def) signal.0) i in
        subst (λ (r : TableDef → Rows). HasSource server r e × SourceStands server r) same ((λ n. ap (λ (x : Contents). x areas.Source n) signal.1 ∙ before.source n), before.stand)
    source_more (inr made) =
        let table : DefinedTable = made.0 in
        let has : HasTable logged p.change table = made.1 in
        let step : Step = record { table = table; change = p.change } in
        let stands = sym (ap (λ (t : Table). t (short_text (table_of p.change))) (puts.others areas.Defs 0 refl)) ∙ has.stands in
        let t = own_table server c (table_of p.change) table kept stores stands has.fits in
        let of : IsOfServer server step = record { table = t.own; at_number = t.at_number; def = t.def; named = t.named } in
        let can : StepCanBeMade step = record { rows = typed_rows 0 p.change may.typed; stands = has.may } in
        let both = made_source server (tables_apart server kept) (step ∷ []) rows logged before.stand before.source (of, tt) (can, tt) in
        let same : (λ (def : TableDef). after_change def p.change (rows def)) ≡ rows_now = λ i def. sym (change_last def changes p (committed server.log def)) i in
        subst (λ (r : TableDef → Rows). HasSource server r e × SourceStands server r) same ((λ n. ap (λ (x : Contents). x areas.Source n) made.2 ∙ both.0 n), both.1)

  -- one more change was put and made
  pub puts_more : PutsChanges last (changes ++ p ∷ []) c e
  puts_more = record {
    others = λ a n other.
        let apart = others_apart a n other in
        own_leaves p.change logged e a n own apart.1 ∙ ap (λ (b : Bool). cond b (set_key (d areas.Log 0) key row) (d a n)) apart.0 ∙ puts.others a n other;
    end = own_leaves p.change logged e areas.Head 0 own refl ∙ puts.end;
    in_flight = own_leaves p.change logged e areas.Inflight 0 own refl ∙ puts.in_flight;
    has = λ server kept is stores.
        let source = source_more server kept is stores own in
        record { log = log_more server kept is stores; source = source.0; stand = source.1 };
  }
