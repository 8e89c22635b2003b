-- The change rows of a registration on the way through a unit.
use Rattle.std.proofs.Common.{◌≡◌, ℕ, ◌<◌, ◌≤◌, Bool, true, false, cond, ◌&&◌, inl, inr, List, [], ◌∷◌, ◌++◌, map, refl, sym, ap, ◌∙◌, arith, max, nat_lt, nat_le, bytes_eq}
use Rattle.std.specs.List.{AllByRecursion, flat_map}
use Rattle.std.proofs.lemmas.Bool.{and_parts, and_cases, le-ltb}
use Rattle.std.proofs.lemmas.Bool.Decides.{nat_tests}
use Rattle.world_store.specs.Words.{CdKey, ChangeRow}
use Rattle.repl_model.specs.Words.{filter_none, LogRecord, CdRow, Registration, Placed, Unit, table_of, units, rows_of, rows_of_placed, change_rows, changes_between, Registered, Server}
use Rattle.world_commits.specs.captures.Captures.{registered_after, registered_after_change}
use Rattle.stored_commits.specs.units.StoredChanges.{stored_change, is_captured}
use Rattle.stored_commits.specs.units.StoredCaptures.{rows_so_far}
use Rattle.stored_commits.specs.laws.Registrations.{state_of, after_push, push_other, rows_other, rows_own}

-- a number is above the higher of two if it is above both
pub below_higher : (a b n : ℕ) → nat_lt (max a b) n ≡ (nat_lt a n && nat_lt b n)
below_higher a b n = grind (arith, nat_tests)

-- no change row is after a point and up to one that isn't above it
none_between : (log : List LogRecord) (reg : Registration) (low high : ℕ) → high ≤ low → changes_between log reg low high ≡ []
unfolding changes_between
none_between log reg low high le = ap (flat_map (change_rows reg)) (filter_none (λ (u : Unit). nat_lt low u.head.seq && nat_le u.head.seq high) (units log) (none (units log)))
  where
    none : (us : List Unit) → AllByRecursion (λ u. (nat_lt low u.head.seq && nat_le u.head.seq high) ≡ false) us
    none [] = tt
    none (u ∷ us) = (outside u.head.seq, none us)
      where
        outside : (n : ℕ) → (nat_lt low n && nat_le n high) ≡ false
        outside n = grind (arith, nat_tests)

-- the change rows of earlier units, for a registration that is so now
abbrev pub earlier_rows : Server → Registration → Registered → List CdRow
earlier_rows server reg now = changes_between server.log reg (max now.start now.floor) server.captured

-- its change rows: if it is active, those and these of the unit, if the unit stands above the start and the floor
abbrev pub rows_with : Server → ℕ → Registration → Registered → List CdRow → List (CdKey × ChangeRow)
rows_with server seq reg now rows = cond now.active (map stored_change (earlier_rows server reg now ++ cond (nat_lt (max now.start now.floor) seq) rows [])) []

module _ (server : Server) (seq : ℕ) (reg : Registration) (now : Registered) where
  -- if changes are captured, these are all rows
  pub rows_captured_so : (rows : List CdRow) → is_captured seq (state_of now) ≡ true → rows_with server seq reg now rows ≡ map stored_change (earlier_rows server reg now ++ rows)
  rows_captured_so rows e =
      let parts = and_parts now.active (nat_lt now.start seq && nat_lt now.floor seq) e in
      ap (λ (t : Bool). cond t (map stored_change (earlier_rows server reg now ++ cond (nat_lt (max now.start now.floor) seq) rows [])) []) parts.0
      ∙ ap (λ (t : Bool). map stored_change (earlier_rows server reg now ++ cond t rows [])) (below_higher now.start now.floor seq ∙ parts.1)

  -- if they aren't, it doesn't matter which rows they have
  pub rows_not_captured : (rows others : List CdRow) → is_captured seq (state_of now) ≡ false → rows_with server seq reg now rows ≡ rows_with server seq reg now others
  rows_not_captured rows others e = elim (and_cases now.active (nat_lt now.start seq && nat_lt now.floor seq) e) [
    | inl inactive ↦ ap (λ (t : Bool). cond t (stored rows) []) inactive ∙ sym (ap (λ (t : Bool). cond t (stored others) []) inactive)
    | inr low ↦ ap (λ (t : Bool). cond now.active (map stored_change (earlier_rows server reg now ++ cond t rows [])) []) (below_higher now.start now.floor seq ∙ low)
        ∙ sym (ap (λ (t : Bool). cond now.active (map stored_change (earlier_rows server reg now ++ cond t others [])) []) (below_higher now.start now.floor seq ∙ low))
  ]
    where
      stored : List CdRow → List (CdKey × ChangeRow)
      stored xs = map stored_change (earlier_rows server reg now ++ cond (nat_lt (max now.start now.floor) seq) xs [])

  -- a registration that isn't active has none
  pub rows_inactive : (rows : List CdRow) → now.active ≡ false → rows_with server seq reg now rows ≡ []
  rows_inactive rows e = ap (λ (t : Bool). cond t (map stored_change (earlier_rows server reg now ++ cond (nat_lt (max now.start now.floor) seq) rows [])) []) e

  -- and one that starts at the unit has none yet
  pub rows_started : (rows : List CdRow) → server.captured < seq → now.start ≡ seq → rows_with server seq reg now rows ≡ []
  rows_started rows lt start =
      ap (λ (l : List CdRow). cond now.active (map stored_change (l ++ cond (nat_lt (max now.start now.floor) seq) rows [])) []) (none_between server.log reg (max now.start now.floor) server.captured (omega (arith, start, lt)))
      ∙ ap (λ (t : Bool). cond now.active (map stored_change (cond t rows [])) []) (le-ltb (max now.start now.floor) seq (omega (arith, start)))
      ∙ both_none now.active
    where
      nothing : List (CdKey × ChangeRow)
      nothing = []

      both_none : (t : Bool) → cond t nothing nothing ≡ nothing
      both_none true = refl
      both_none false = refl

-- one more change of another table leaves the rows
pub rows_stay : (server : Server) (seq : ℕ) (changes : List Placed) (placed : Placed) (r : Registered) → bytes_eq (table_of placed.change) r.reg.table ≡ false → rows_so_far server seq (changes ++ placed ∷ []) r ≡ rows_so_far server seq changes r
rows_stay server seq changes placed r other =
    ap (λ (now : Registered). rows_with server seq r.reg now (flat_map (rows_of_placed r.reg seq) (changes ++ placed ∷ []))) (push_other seq changes placed r other)
    ∙ ap (rows_with server seq r.reg (registered_after seq changes r)) (rows_other seq changes placed r.reg other)

-- what one more change of its own table makes of them
pub rows_go_on : (server : Server) (seq : ℕ) (changes : List Placed) (placed : Placed) (r : Registered) → bytes_eq (table_of placed.change) r.reg.table ≡ true
    → rows_so_far server seq (changes ++ placed ∷ []) r ≡ rows_with server seq r.reg (registered_after_change seq (registered_after seq changes r) placed.change) (flat_map (rows_of_placed r.reg seq) changes ++ rows_of r.reg seq placed.pos placed.change)
rows_go_on server seq changes placed r own =
    ap (λ (now : Registered). rows_with server seq r.reg now (flat_map (rows_of_placed r.reg seq) (changes ++ placed ∷ []))) (after_push seq changes placed r)
    ∙ ap (rows_with server seq r.reg (registered_after_change seq (registered_after seq changes r) placed.change)) (rows_own seq changes placed r.reg own)
