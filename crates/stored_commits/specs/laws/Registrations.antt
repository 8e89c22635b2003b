-- A registration after some changes of a unit.
use Rattle.std.proofs.Common.{◌≡◌, ℕ, Bool, true, false, cond, ◌||◌, not, inl, inr, List, [], ◌∷◌, ◌++◌, refl, sym, ap, ◌∙◌, bytes_eq, append-nil}
use Rattle.std.specs.List.{list_all, list_any, flat_map}
use Rattle.std.proofs.lemmas.Bool.{true≢false, not-true, and_left, and_parts, or_cases, or_parts}
use Rattle.std.proofs.lemmas.List.Sums.{fold_push}
use Rattle.std.proofs.lemmas.List.Concat.{flat_map-append}
use Rattle.world_store.specs.Words.{RegState}
use Rattle.repl_model.specs.Words.{Change, CdRow, Registration, Placed, Unit, table_of, unplaced, is_signal, signals_stand_alone, rows_of, rows_of_placed, Registered}
use Rattle.repl_types.specs.declared.record.Change.TheVariants.{Insert, Update, Delete, Start, Stop}
use Rattle.world_commits.specs.captures.Captures.{registered_after_change, registered_after}
use Rattle.world_commits.specs.captures.laws.Servers.{unit_keeps_rest}

-- the state of a registration, as it is stored
abbrev pub state_of : Registered → RegState
state_of r = record { active = r.active; start = r.start; floor = r.floor }

-- ---- what stays

-- changes leave the definition of a registration
pub reg_stays : (seq : ℕ) (changes : List Placed) (r : Registered) → (registered_after seq changes r).reg ≡ r.reg
reg_stays seq changes r = ap (λ (x : Registered). x.reg) (unit_keeps_rest seq changes r)

-- and its floor
pub floor_stays : (seq : ℕ) (changes : List Placed) (r : Registered) → (registered_after seq changes r).floor ≡ r.floor
floor_stays seq changes r = ap (λ (x : Registered). x.floor) (unit_keeps_rest seq changes r)

-- ---- one more change

-- one more change is the last of them
pub after_push : (seq : ℕ) (changes : List Placed) (placed : Placed) (r : Registered) → registered_after seq (changes ++ placed ∷ []) r ≡ registered_after_change seq (registered_after seq changes r) placed.change
after_push seq changes placed r = fold_push (λ (before : Registered) (p : Placed). registered_after_change seq before p.change) r changes placed

-- its rows come last
rows_push : (reg : Registration) (seq : ℕ) (changes : List Placed) (placed : Placed) → flat_map (rows_of_placed reg seq) (changes ++ placed ∷ []) ≡ flat_map (rows_of_placed reg seq) changes ++ rows_of_placed reg seq placed
rows_push reg seq changes placed =
    flat_map-append (rows_of_placed reg seq) changes (placed ∷ [])
    ∙ ap (λ (l : List CdRow). flat_map (rows_of_placed reg seq) changes ++ l) (append-nil (rows_of_placed reg seq placed))

-- a change of another table leaves a registration
after_other : (seq : ℕ) (r : Registered) (change : Change) → bytes_eq (table_of change) r.reg.table ≡ false → registered_after_change seq r change ≡ r
after_other seq r (Insert table row) other = refl
after_other seq r (Update table before after) other = refl
after_other seq r (Delete table row) other = refl
after_other seq r (Start table) other = ap (λ (t : Bool). cond t (record r { active = true; start = seq }) r) (and_left (bytes_eq table r.reg.table) (not r.active) other)
after_other seq r (Stop table) other = ap (λ (t : Bool). cond t (record r { active = false }) r) other

-- so does one more
pub push_other : (seq : ℕ) (changes : List Placed) (placed : Placed) (r : Registered) → bytes_eq (table_of placed.change) r.reg.table ≡ false → registered_after seq (changes ++ placed ∷ []) r ≡ registered_after seq changes r
push_other seq changes placed r other =
    let now : Registered = registered_after seq changes r in
    after_push seq changes placed r
    ∙ after_other seq now placed.change (ap (λ (reg : Registration). bytes_eq (table_of placed.change) reg.table) (reg_stays seq changes r) ∙ other)

-- and it has no rows there
pub rows_other : (seq : ℕ) (changes : List Placed) (placed : Placed) (reg : Registration) → bytes_eq (table_of placed.change) reg.table ≡ false → flat_map (rows_of_placed reg seq) (changes ++ placed ∷ []) ≡ flat_map (rows_of_placed reg seq) changes
rows_other seq changes placed reg other =
    rows_push reg seq changes placed
    ∙ ap (λ (t : Bool). flat_map (rows_of_placed reg seq) changes ++ cond t (rows_of reg seq placed.pos placed.change) []) other
    ∙ append-nil (flat_map (rows_of_placed reg seq) changes)

-- a change of its own table has its rows there
pub rows_own : (seq : ℕ) (changes : List Placed) (placed : Placed) (reg : Registration) → bytes_eq (table_of placed.change) reg.table ≡ true → flat_map (rows_of_placed reg seq) (changes ++ placed ∷ []) ≡ flat_map (rows_of_placed reg seq) changes ++ rows_of reg seq placed.pos placed.change
rows_own seq changes placed reg own =
    rows_push reg seq changes placed
    ∙ ap (λ (t : Bool). flat_map (rows_of_placed reg seq) changes ++ cond t (rows_of reg seq placed.pos placed.change) []) own

-- ---- changes of rows alone

-- a change of rows leaves a registration
after_plain : (seq : ℕ) (r : Registered) (change : Change) → is_signal change ≡ false → registered_after_change seq r change ≡ r
after_plain seq r (Insert table row) plain = refl
after_plain seq r (Update table before after) plain = refl
after_plain seq r (Delete table row) plain = refl
after_plain seq r (Start table) plain = absurd (true≢false plain)
after_plain seq r (Stop table) plain = absurd (true≢false plain)

-- so do several
several_plain : (seq : ℕ) (changes more : List Placed) (r : Registered) → list_any is_signal (unplaced (changes ++ more)) ≡ false → registered_after seq changes r ≡ r
several_plain seq [] more r none = refl
several_plain seq (p ∷ ps) more r none =
    let parts = or_parts (is_signal p.change) (list_any is_signal (unplaced (ps ++ more))) none in
    ap (registered_after seq ps) (after_plain seq r p.change parts.0) ∙ several_plain seq ps more r parts.1

-- before a change of rows in a unit whose signals stand alone, registrations are as before the unit
pub plain_unit : (u : Unit) (changes : List Placed) (placed : Placed) (more : List Placed) (r : Registered) → signals_stand_alone u ≡ true → u.changes ≡ changes ++ placed ∷ more → is_signal placed.change ≡ false → registered_after u.head.seq changes r ≡ r
plain_unit u changes placed more r alone split plain =
    let all : List Change = unplaced (changes ++ placed ∷ more) in
    let here : (list_all is_signal all || not (list_any is_signal all)) ≡ true = ap (λ (l : List Placed). list_all is_signal (unplaced l) || not (list_any is_signal (unplaced l))) (sym split) ∙ alone in
    elim (or_cases (list_all is_signal all) (not (list_any is_signal all)) here) [
      | inl every ↦ absurd (true≢false (sym (last changes every) ∙ plain))
      | inr none ↦ several_plain u.head.seq changes (placed ∷ more) r (not-true (list_any is_signal all) none)
    ]
  where
    last : (ps : List Placed) → list_all is_signal (unplaced (ps ++ placed ∷ more)) ≡ true → is_signal placed.change ≡ true
    last [] every = (and_parts (is_signal placed.change) (list_all is_signal (unplaced more)) every).0
    last (p ∷ ps) every = last ps (and_parts (is_signal p.change) (list_all is_signal (unplaced (ps ++ placed ∷ more))) every).1
