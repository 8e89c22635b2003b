-- What is left in the tables after changes in flight are removed: proofs.
use Rattle.std.proofs.Common.{◌≡◌, ℕ, Bool, true, false, cond, List, [], ◌∷◌, ◌++◌, map, append_assoc, refl, sym, ap, subst, ◌∙◌, None, ◌==◌, ◌&&◌, not, eqb-true}
use Rattle.world_store.specs.Words.{in_flight_key_spelling, in_flight_spelling, table_from_rows, IsRising, without_row, rises_without, without_split, written_removed}
use Rattle.site_store.specs.Words.{Contents, Table, put_at, set_key}
use Rattle.repl_model.specs.Words.{same_area, Area}
use Rattle.repl_types.specs.declared.area.Area.TheVariants as areas
use Rattle.stored_commits.specs.records.InFlight.{InFlightRow, of_transaction, of_others}
use Rattle.source_log.specs.Reading.{with_dropped}
use Rattle.source_log.specs.Rules.{flight_key}

-- every other table stays
pub dropped_elsewhere : (tx : ℕ) (positions : List ℕ) (a : Area) (n : ℕ) (c : Contents) → (same_area areas.Inflight a && (0 == n)) ≡ false → with_dropped tx positions c a n ≡ c a n
dropped_elsewhere tx [] a n c other = refl
dropped_elsewhere tx (p ∷ positions) a n c other =
    let k = flight_key tx p in
    dropped_elsewhere tx positions a n (put_at c areas.Inflight 0 k None) other ∙ ap (λ (b : Bool). cond b (set_key (c areas.Inflight 0) k None) (c a n)) other

-- the table of changes in flight that are these rows
abbrev table_of_rows : List InFlightRow → Table
table_of_rows rows = table_from_rows in_flight_key_spelling in_flight_spelling rows

-- the positions of the rows of a transaction
abbrev positions_in : ℕ → List InFlightRow → List ℕ
positions_in tx rows = map (λ row. row.0.pos) (of_transaction tx rows)

-- this is what is left of rows if those of a transaction are removed
abbrev Leaves : ℕ → List InFlightRow → List InFlightRow → Contents → Type 0
Leaves tx front rows c = IsRising in_flight_key_spelling (front ++ rows) → c areas.Inflight 0 ≡ table_of_rows (front ++ rows)
    → with_dropped tx (positions_in tx rows) c areas.Inflight 0 ≡ table_of_rows (front ++ of_others tx rows)

-- the rows of the others are left
pub dropped_rows : (tx : ℕ) (front rows : List InFlightRow) (c : Contents) → Leaves tx front rows c
dropped_rows tx front [] c rise has = has
dropped_rows tx front (r ∷ rows) c rise has = pick (r.0.tx == tx) refl (λ (f : List InFlightRow) (d : Contents). dropped_rows tx f rows d)
  where
    key : List ℕ
    key = in_flight_key_spelling r.0

    left : without_row in_flight_key_spelling key (front ++ r ∷ rows) ≡ front ++ rows
    left = without_split in_flight_key_spelling r front rows rise

    moved : (front ++ r ∷ []) ++ rows ≡ front ++ r ∷ rows
    moved = append_assoc front (r ∷ []) rows

    pick : (b : Bool) → (r.0.tx == tx) ≡ b → ((f : List InFlightRow) (d : Contents) → Leaves tx f rows d)
        → with_dropped tx (map (λ (row : InFlightRow). row.0.pos) (cond b (r ∷ of_transaction tx rows) (of_transaction tx rows))) c areas.Inflight 0
        ≡ table_of_rows (front ++ cond (not b) (r ∷ of_others tx rows) (of_others tx rows))
    pick true e rest =
        let d = put_at c areas.Inflight 0 key None in
        let rises = subst (IsRising in_flight_key_spelling) left (rises_without in_flight_key_spelling key (front ++ r ∷ rows) rise) in
        let now = written_removed in_flight_key_spelling in_flight_spelling c areas.Inflight 0 key (front ++ r ∷ rows) has ∙ ap table_of_rows left in
        ap (λ (t : ℕ). with_dropped tx (positions_in tx rows) (put_at c areas.Inflight 0 (flight_key t r.0.pos) None) areas.Inflight 0) (sym (eqb-true r.0.tx tx e)) ∙ rest front d rises now
    pick false e rest =
        let rises = subst (IsRising in_flight_key_spelling) (sym moved) rise in
        rest (front ++ r ∷ []) c rises (has ∙ ap table_of_rows (sym moved)) ∙ ap table_of_rows (append_assoc front (r ∷ []) (of_others tx rows))
