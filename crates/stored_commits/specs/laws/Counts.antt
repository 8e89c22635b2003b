-- How many change rows are captured.
use Rattle.std.proofs.Common.{◌≡◌, ℕ, ◌+◌, ◌≤◌, ◌<◌, Bool, true, false, cond, ◌&&◌, List, [], ◌∷◌, ◌++◌, length, Option, Some, None, refl, sym, ap, ◌∙◌, arith, length-append, nat_lt, sum_by, IfSome, bytes_eq, lt-ltb}
use Rattle.std.specs.List.{AllByRecursion, cons_option, filter_map, flat_map}
use Rattle.std.proofs.lemmas.List.Elements.{filter_map-append}
use Rattle.std.proofs.lemmas.List.Sums.{sum_by-cons, sum_by-append}
use Rattle.repl_model.specs.Words.{Change, CdRow, Placed, table_of, is_signal, rows_of, rows_of_placed, Registered, ServerTable}
use Rattle.repl_types.specs.declared.record.Change.TheVariants.{Insert, Update, Delete, Start, Stop}
use Rattle.stored_commits.specs.units.StoredChanges.{is_captured}
use Rattle.stored_commits.specs.laws.Registrations.{state_of, rows_other, rows_own}
use Rattle.stored_commits.specs.laws.Slots.{IsOther}

-- how many change rows of some changes a registration gets, if it is active before the unit
abbrev pub count_of : ℕ → List Placed → Registered → ℕ
count_of seq changes r = cond r.active (length (flat_map (rows_of_placed r.reg seq) changes)) 0

-- the registrations of some tables
abbrev pub registered_in : List ServerTable → List Registered
registered_in ts = filter_map (λ t. t.registered) ts

-- one more change adds none to the registrations of other tables
pub counts_stay : (seq : ℕ) (changes : List Placed) (placed : Placed) (ts : List ServerTable) → AllByRecursion (IsOther (table_of placed.change)) ts → sum_by (count_of seq (changes ++ placed ∷ [])) (registered_in ts) ≡ sum_by (count_of seq changes) (registered_in ts)
counts_stay seq changes placed [] all = refl
counts_stay seq changes placed (t ∷ ts) all = pick t.registered all.0 (counts_stay seq changes placed ts all.1)
  where
    before : Registered → ℕ
    before = count_of seq changes

    after : Registered → ℕ
    after = count_of seq (changes ++ placed ∷ [])

    pick : (o : Option Registered) → IfSome o (λ r. bytes_eq (table_of placed.change) r.reg.table ≡ false) → sum_by after (registered_in ts) ≡ sum_by before (registered_in ts) → sum_by after (cons_option o (registered_in ts)) ≡ sum_by before (cons_option o (registered_in ts))
    pick None other rest = rest
    pick (Some r) other rest =
        let same : after r ≡ before r = ap (λ (l : List CdRow). cond r.active (length l) 0) (rows_other seq changes placed r.reg other) in
        sum_by-cons after r (registered_in ts) ∙ (λ i. same i + rest i) ∙ sym (sum_by-cons before r (registered_in ts))

-- the sum around one registration
sum_around : (h : Registered → ℕ) (front : List ServerTable) (t : ServerTable) (back : List ServerTable) (r : Registered) → t.registered ≡ Some r → sum_by h (registered_in (front ++ t ∷ back)) ≡ sum_by h (registered_in front) + (h r + sum_by h (registered_in back))
sum_around h front t back r has =
    ap (sum_by h) (filter_map-append (λ (q : ServerTable). q.registered) front (t ∷ back))
    ∙ sum_by-append h (registered_in front) (cons_option t.registered (registered_in back))
    ∙ ap (λ (o : Option Registered). sum_by h (registered_in front) + sum_by h (cons_option o (registered_in back))) has
    ∙ ap (λ (n : ℕ). sum_by h (registered_in front) + n) (sum_by-cons h r (registered_in back))

-- one more change adds its rows to the registration of its table
pub counts_push : (seq : ℕ) (changes : List Placed) (placed : Placed) (front : List ServerTable) (t : ServerTable) (back : List ServerTable) (r : Registered) → t.registered ≡ Some r
    → AllByRecursion (IsOther (table_of placed.change)) front → AllByRecursion (IsOther (table_of placed.change)) back → bytes_eq (table_of placed.change) r.reg.table ≡ true
    → sum_by (count_of seq (changes ++ placed ∷ [])) (registered_in (front ++ t ∷ back)) ≡ sum_by (count_of seq changes) (registered_in (front ++ t ∷ back)) + cond r.active (length (rows_of r.reg seq placed.pos placed.change)) 0
counts_push seq changes placed front t back r has before behind own =
    let old = count_of seq changes in
    let new = count_of seq (changes ++ placed ∷ []) in
    let more : new r ≡ old r + cond r.active (length (rows_of r.reg seq placed.pos placed.change)) 0 = ap (λ (l : List CdRow). cond r.active (length l) 0) (rows_own seq changes placed r.reg own) ∙ both r.active in
    omega (arith, sum_around new front t back r has, sum_around old front t back r has, counts_stay seq changes placed front before, counts_stay seq changes placed back behind, more)
  where
    both : (t : Bool) → cond t (length (flat_map (rows_of_placed r.reg seq) changes ++ rows_of r.reg seq placed.pos placed.change)) 0 ≡ cond t (length (flat_map (rows_of_placed r.reg seq) changes)) 0 + cond t (length (rows_of r.reg seq placed.pos placed.change)) 0
    both true = length-append (flat_map (rows_of_placed r.reg seq) changes) (rows_of r.reg seq placed.pos placed.change)
    both false = refl

-- so many are put: those of a registration that is active before the unit
pub count_put : (seq captured pos : ℕ) (change : Change) (r now : Registered) → captured < seq → r.start ≤ captured → r.floor ≤ captured → (is_signal change ≡ false → now ≡ r)
    → cond (is_captured seq (state_of now)) (length (rows_of r.reg seq pos change)) 0 ≡ cond r.active (length (rows_of r.reg seq pos change)) 0
count_put seq captured pos change r now lt start floor plain = by_change change plain
  where
    active : (t : Bool) → (t && (nat_lt r.start seq && nat_lt r.floor seq)) ≡ t
    active true = (λ i. lt-ltb r.start seq (omega arith) i && lt-ltb r.floor seq (omega arith) i)
    active false = refl

    same : (n : ℕ) → now ≡ r → cond (is_captured seq (state_of now)) n 0 ≡ cond r.active n 0
    same n is = ap (λ (q : Registered). cond (is_captured seq (state_of q)) n 0) is ∙ ap (λ (t : Bool). cond t n 0) (active r.active)

    nothing : ℕ
    nothing = 0

    none : (a b : Bool) → cond a nothing nothing ≡ cond b nothing nothing
    none true true = refl
    none true false = refl
    none false true = refl
    none false false = refl

    by_change : (x : Change) → (is_signal x ≡ false → now ≡ r) → cond (is_captured seq (state_of now)) (length (rows_of r.reg seq pos x)) 0 ≡ cond r.active (length (rows_of r.reg seq pos x)) 0
    by_change (Insert table row) is = same (length (rows_of r.reg seq pos (Insert table row))) (is refl)
    by_change (Update table old new) is = same (length (rows_of r.reg seq pos (Update table old new))) (is refl)
    by_change (Delete table row) is = same (length (rows_of r.reg seq pos (Delete table row))) (is refl)
    by_change (Start table) is = none (is_captured seq (state_of now)) r.active
    by_change (Stop table) is = none (is_captured seq (state_of now)) r.active
