-- The changes that a transaction has in flight, one after another: proofs.
use Rattle.std.proofs.Common.{◌≡◌, ℕ, ◌^◌, ◌<◌, Bool, true, false, cond, List, [], ◌∷◌, ◌++◌, length, map, drop, append_assoc, append-nil, refl, sym, ap, subst, ◌∙◌, arith, Some, None, ◌==◌, Ordering, Less, eq-eqb}
use Rattle.std.specs.List.{AllByRecursion}
use Rattle.std.specs.Ordering.{nat_cmp, ordering_then}
use Rattle.std.specs.Cmp.{ranked}
use Rattle.std.proofs.lemmas.Cmp.{tied_itself, nat_cmp_total}
use Rattle.world_store.specs.Words.{Is32, b32, b64, one32, one_whole, whole_order, in_flight_key_spelling, in_flight_key_cmp, IsInFlightKey, in_flight_spelling, one_in_flight_key, order_in_flight_key, InFlightKey, InFlight, rows_after, NoneAfter, is_before, begins_with, SpellsApart, NextRow, after_all, after_first, after_next, not_both, filters_commute, fits_next, next_of, begins_longer, begins_parts, prefix_next, prefix_last, prefix_past, no_row}
use Rattle.site_store.specs.Words.{Contents, Table, IsNextKey, IsLastKey}
use Rattle.repl_model.specs.Words.{bytes_cmp, all_append}
use Rattle.repl_types.specs.declared.area.Area.TheVariants as areas
use Rattle.stored_commits.specs.records.InFlight.{InFlightRow, of_transaction}
use Rattle.source_log.specs.Reading.{positions_after, OfRows, IsNextPosition, IsAbove, ArePositions}
use Rattle.source_log.specs.Rules.{flight_key, IsInFlight}
use Rattle.stored_commits.specs.laws.Transactions.{transaction_is_prefix, transaction_starts}

-- a row of a change in flight
abbrev FitsRow : InFlightRow → Type 0
FitsRow row = IsInFlightKey row.0 × (0 < row.0.pos)

-- rows that are spelled alike are one
apart : SpellsApart FitsRow in_flight_key_spelling in_flight_spelling
apart r s fr fs keys values = λ i. (one_whole IsInFlightKey in_flight_key_spelling one_in_flight_key r.0 s.0 fr.0 fs.0 keys i, r.1)

-- if no row is after a key, the rows after it are none
after_nothing : (rows : List InFlightRow) (k : List ℕ) → NoneAfter in_flight_key_spelling k rows → rows_after in_flight_key_spelling k rows ≡ []
after_nothing [] k none = refl
after_nothing (r ∷ rows) k none = ap (λ (b : Bool). cond b (r ∷ rows_after in_flight_key_spelling k rows) (rows_after in_flight_key_spelling k rows)) none.0 ∙ after_nothing rows k none.1

-- the positions after one are those of the transaction's rows after its key
positions_are : (tx after : ℕ) (rows : List InFlightRow) → positions_after tx after rows ≡ map (λ row. row.0.pos) (rows_after in_flight_key_spelling (flight_key tx after) (of_transaction tx rows))
positions_are tx after rows = ap (map (λ row. row.0.pos)) (filters_commute (λ row. row.0.tx == tx) (λ row. is_before (flight_key tx after) (in_flight_key_spelling row.0)) rows)

-- there are none if none of the rows is after its key
none_after : (tx after : ℕ) (rows : List InFlightRow) → NoneAfter in_flight_key_spelling (flight_key tx after) (of_transaction tx rows) → positions_after tx after rows ≡ []
none_after tx after rows none = positions_are tx after rows ∙ ap (map (λ row. row.0.pos)) (after_nothing (of_transaction tx rows) (flight_key tx after) none)

-- with no next key there is none
pub none_last : (tx after : ℕ) (c : Contents) → Is32 tx → IsLastKey (c areas.Inflight 0) (flight_key tx after) → IsNextPosition tx after None c
none_last tx after c ft last rows are has =
    let over = subst (λ (t : Table). IsLastKey t (flight_key tx after)) has last in
    none_after tx after rows (subst (NoneAfter in_flight_key_spelling (flight_key tx after)) (transaction_is_prefix tx rows ft are) (prefix_last in_flight_key_spelling (b32 tx) rows (flight_key tx after) (no_row in_flight_key_spelling in_flight_spelling rows (flight_key tx after) over)))

-- a key begins with the number of its transaction, and of no other
begins_other : (k : InFlightKey) (tx : ℕ) → k.tx < 2 ^ 32 → tx < 2 ^ 32 → (k.tx == tx) ≡ false → begins_with (b32 tx) (in_flight_key_spelling k) ≡ false
begins_other k tx fk ft ne = pick (begins_with (b32 tx) (in_flight_key_spelling k)) refl
  where
    pick : (b : Bool) → begins_with (b32 tx) (in_flight_key_spelling k) ≡ b → begins_with (b32 tx) (in_flight_key_spelling k) ≡ false
    pick false f = f
    pick true f = absurd (not_both (k.tx == tx) (eq-eqb k.tx tx (one32 k.tx tx (b64 k.pos) (drop (length (b32 tx)) (in_flight_key_spelling k)) fk ft (begins_parts (b32 tx) (in_flight_key_spelling k) f)).0) ne)

-- nor if the next key is another transaction's
pub none_past : (tx after : ℕ) (k : InFlightKey) (e : InFlight) (c : Contents) → Is32 tx → IsInFlightKey k → (k.tx == tx) ≡ false → IsNextKey (c areas.Inflight 0) (flight_key tx after) (in_flight_key_spelling k) (in_flight_spelling e) → IsNextPosition tx after None c
none_past tx after k e c ft fk ne read rows are has =
    let here = subst (λ (t : Table). IsNextKey t (flight_key tx after) (in_flight_key_spelling k) (in_flight_spelling e)) has read in
    let n = next_of in_flight_key_spelling in_flight_spelling rows (flight_key tx after) (in_flight_key_spelling k) (in_flight_spelling e) are.rise here in
    let past : begins_with (b32 tx) (in_flight_key_spelling n.0.0) ≡ false = ap (begins_with (b32 tx)) n.2 ∙ begins_other k tx fk.0 ft ne in
    none_after tx after rows (subst (NoneAfter in_flight_key_spelling (flight_key tx after)) (transaction_is_prefix tx rows ft are) (prefix_past in_flight_key_spelling (b32 tx) rows (flight_key tx after) n.0 n.1 (begins_longer (b32 tx) (b64 after)) past))

-- the next key is the transaction's
pub next_at : (tx after : ℕ) (k : InFlightKey) (e : InFlight) (c : Contents) → Is32 tx → IsInFlightKey k → after < k.pos → k.tx ≡ tx → IsNextKey (c areas.Inflight 0) (flight_key tx after) (in_flight_key_spelling k) (in_flight_spelling e) → IsNextPosition tx after (Some k.pos) c
next_at tx after k e c ft fk above own read =
    let pos = k.pos in
    let same : in_flight_key_spelling k ≡ flight_key tx pos = ap (λ (n : ℕ). flight_key n pos) own in
    let at = subst (λ (q : List ℕ). IsNextKey (c areas.Inflight 0) (flight_key tx after) q (in_flight_spelling e)) same read in (
      record { fits = (ft, fk.1); value = in_flight_spelling e; stands = at.has },
      λ rows are has.
          let row : InFlightRow = (record { tx = tx; pos = pos }, e) in
          let here = subst (λ (t : Table). IsNextKey t (flight_key tx after) (flight_key tx pos) (in_flight_spelling e)) has at in
          let next : NextRow in_flight_key_spelling rows (flight_key tx after) row = fits_next FitsRow in_flight_key_spelling in_flight_spelling rows (flight_key tx after) row apart are.fit ((ft, fk.1), omega (arith, above)) are.rise here in
          let among : NextRow in_flight_key_spelling (of_transaction tx rows) (flight_key tx after) row = subst (λ (l : List InFlightRow). NextRow in_flight_key_spelling l (flight_key tx after) row) (transaction_is_prefix tx rows ft are) (prefix_next in_flight_key_spelling (b32 tx) rows (flight_key tx after) row next (begins_longer (b32 tx) (b64 pos))) in
          positions_are tx after rows
          ∙ ap (map (λ (r : InFlightRow). r.0.pos)) (after_first in_flight_key_spelling (of_transaction tx rows) (flight_key tx after) row among)
          ∙ ap (λ (l : List ℕ). pos ∷ l) (sym (positions_are tx pos rows ∙ ap (map (λ (r : InFlightRow). r.0.pos)) (after_next in_flight_key_spelling (of_transaction tx rows) (flight_key tx after) row among))),
    )

-- keys of one transaction lie in the order of their positions
keys_at : (tx after pos : ℕ) → tx < 2 ^ 32 → after < 2 ^ 64 → pos < 2 ^ 64 → bytes_cmp (flight_key tx after) (flight_key tx pos) ≡ nat_cmp after pos
keys_at tx after pos ft fa fp = whole_order IsInFlightKey in_flight_key_spelling in_flight_key_cmp order_in_flight_key (record { tx = tx; pos = after }) (record { tx = tx; pos = pos }) (ft, fa) (ft, fp) ∙ ap (λ (o : Ordering). ordering_then o (nat_cmp after pos)) (tied_itself nat_cmp_total tx)

-- the position of a later key of the transaction is later
pub position_above : (tx after : ℕ) (k : InFlightKey) → k.tx ≡ tx → after < 2 ^ 64 → IsInFlightKey k → bytes_cmp (flight_key tx after) (in_flight_key_spelling k) ≡ Less → IsAbove after k.pos
position_above tx after k own fa fk above =
    let ft : tx < 2 ^ 32 = subst (λ (n : ℕ). n < 2 ^ 32) own fk.0 in
    let less : bytes_cmp (flight_key tx after) (flight_key tx k.pos) ≡ Less = subst (λ (n : ℕ). bytes_cmp (flight_key tx after) (flight_key n k.pos) ≡ Less) own above in
    (ranked after k.pos Less (sym less ∙ keys_at tx after k.pos ft fa fk.1), fk.1)

-- ---- all of them

-- the positions up to one, at which a transaction has changes in flight
pub record SoFar (tx last : ℕ) (positions : List ℕ) (c : Contents) : Type 0 where
  pub stand : AllByRecursion (IsInFlight tx c) positions
  pub left : OfRows c (λ rows. positions ++ positions_after tx last rows ≡ positions_after tx 0 rows)

pub none_yet : (tx : ℕ) (c : Contents) → SoFar tx 0 [] c
none_yet tx c = record { stand = tt; left = λ rows are has. refl }

pub one_more : (tx last pos : ℕ) (positions more : List ℕ) (c : Contents) → more ≡ positions ++ pos ∷ [] → SoFar tx last positions c → IsNextPosition tx last (Some pos) c → SoFar tx pos more c
one_more tx last pos positions more c is so_far next = subst (λ (l : List ℕ). SoFar tx pos l c) (sym is) (record {
  stand = all_append (IsInFlight tx c) positions (pos ∷ []) so_far.stand (next.0, tt);
  left = λ rows are has.
      append_assoc positions (pos ∷ []) (positions_after tx pos rows)
      ∙ ap (λ (l : List ℕ). positions ++ l) (sym (next.1 rows are has))
      ∙ so_far.left rows are has;
})

pub all_found : (tx last : ℕ) (positions : List ℕ) (c : Contents) → Is32 tx → SoFar tx last positions c → IsNextPosition tx last None c → ArePositions tx positions c
all_found tx last positions c ft so_far next = record {
  stand = so_far.stand;
  all = λ rows are has.
      sym (append-nil positions)
      ∙ ap (λ (l : List ℕ). positions ++ l) (sym (next rows are has))
      ∙ so_far.left rows are has
      ∙ positions_are tx 0 rows
      ∙ ap (map (λ (row : InFlightRow). row.0.pos)) (after_all in_flight_key_spelling (flight_key tx 0) (of_transaction tx rows) (transaction_starts tx rows ft are));
}
