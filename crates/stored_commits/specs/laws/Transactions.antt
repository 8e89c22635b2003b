-- The rows of a transaction among the changes in flight lie together.
use Rattle.std.proofs.Common.{◌≡◌, ℕ, ◌<◌, Bool, true, false, cond, List, [], ◌∷◌, length, drop, refl, sym, ap, subst, ◌∙◌, arith, ◌==◌, Ordering, Less, eq-eqb, eqb-true}
use Rattle.std.specs.List.{AllByRecursion}
use Rattle.std.specs.Ordering.{nat_cmp, ordering_then}
use Rattle.std.specs.Cmp.{nat_cmp_is}
use Rattle.std.proofs.lemmas.Cmp.{tied_itself, nat_cmp_total}
use Rattle.world_store.specs.Words.{Is32, b32, b64, one32, InFlightKey, in_flight_key_spelling, IsInFlightKey, AllAfter, begins_with, not_both, begins_longer, begins_parts}
use Rattle.repl_model.specs.Words.{bytes_cmp, all_weaker, filter_alike}
use Rattle.stored_commits.specs.records.InFlight.{InFlightRow, of_transaction, TransactionIsPrefix, TransactionStarts}
use Rattle.stored_commits.specs.laws.InFlightRows.{FitsRow, spelled_in_order}

-- a key begins with the number of its transaction, and of no other
begins_own : (k : InFlightKey) (tx : ℕ) → Is32 k.tx → Is32 tx → begins_with (b32 tx) (in_flight_key_spelling k) ≡ (k.tx == tx)
begins_own k tx fk ft = pick (k.tx == tx) refl (begins_with (b32 tx) (in_flight_key_spelling k)) refl
  where
    pick : (t : Bool) → (k.tx == tx) ≡ t → (b : Bool) → begins_with (b32 tx) (in_flight_key_spelling k) ≡ b → begins_with (b32 tx) (in_flight_key_spelling k) ≡ t
    pick true e b f = subst (λ (n : ℕ). begins_with (b32 n) (in_flight_key_spelling k) ≡ true) (eqb-true k.tx tx e) (begins_longer (b32 k.tx) (b64 k.pos))
    pick false e false f = f
    pick false e true f = absurd (not_both (k.tx == tx) (eq-eqb k.tx tx (one32 k.tx tx (b64 k.pos) (drop (length (b32 tx)) (in_flight_key_spelling k)) fk ft (begins_parts (b32 tx) (in_flight_key_spelling k) f)).0) e)

-- so the rows of a transaction are those whose keys begin with its number
pub transaction_is_prefix : TransactionIsPrefix
transaction_is_prefix tx rows small are = filter_alike (λ r. begins_with (b32 tx) (in_flight_key_spelling r.0)) (λ r. r.0.tx == tx) rows
    (all_weaker FitsRow (λ r. begins_with (b32 tx) (in_flight_key_spelling r.0) ≡ (r.0.tx == tx)) rows (λ r f. begins_own r.0 tx f.0.0 small) are.fit)

-- a row of the transaction comes after its position 0
after_start : (tx : ℕ) (k : InFlightKey) → Is32 tx → IsInFlightKey k → 0 < k.pos → (k.tx == tx) ≡ true → bytes_cmp (in_flight_key_spelling (record { tx = tx; pos = 0 })) (in_flight_key_spelling k) ≡ Less
after_start tx k small fits some e =
    spelled_in_order (record { tx = tx; pos = 0 }) k (small, omega arith) fits
    ∙ ap (λ (n : ℕ). ordering_then (nat_cmp tx n) (nat_cmp 0 k.pos)) (eqb-true k.tx tx e)
    ∙ ap (λ (o : Ordering). ordering_then o (nat_cmp 0 k.pos)) (tied_itself nat_cmp_total tx)
    ∙ sym (nat_cmp_is 0 k.pos Less some)

-- so do all of them
starts : (tx : ℕ) → Is32 tx → (rows : List InFlightRow) → AllByRecursion FitsRow rows → AllAfter in_flight_key_spelling (in_flight_key_spelling (record { tx = tx; pos = 0 })) (of_transaction tx rows)
starts tx small [] fit = tt
starts tx small (r ∷ rs) fit = pick (r.0.tx == tx) refl (starts tx small rs fit.1)
  where
    start : List ℕ
    start = in_flight_key_spelling (record { tx = tx; pos = 0 })

    pick : (t : Bool) → (r.0.tx == tx) ≡ t → AllAfter in_flight_key_spelling start (of_transaction tx rs) → AllAfter in_flight_key_spelling start (cond t (r ∷ of_transaction tx rs) (of_transaction tx rs))
    pick true e rest = (after_start tx r.0 small fit.0.0 fit.0.1 e, rest)
    pick false e rest = rest

-- the rows of a transaction come after its position 0
pub transaction_starts : TransactionStarts
transaction_starts tx rows small are = starts tx small rows are.fit
