-- The stored states of registrations, and the one that a change makes another.
use Rattle.std.proofs.Common.{◌≡◌, ℕ, ◌+◌, ◌<◌, ◌^◌, Bool, true, false, cond, List, [], ◌∷◌, ◌++◌, length, map, Option, Some, None, refl, sym, ap, subst, ◌∙◌, arith, IfSome, option_map, bytes_eq, Less}
use Rattle.std.specs.List.{AllByRecursion, cons_option, enumerate_from, filter_map}
use Rattle.std.proofs.lemmas.Bool.{both_ways}
use Rattle.std.proofs.lemmas.List.{length-map, map-append}
use Rattle.std.proofs.lemmas.List.Elements.{filter_map-append}
use Rattle.world_store.specs.Words.{Is32, b32, whole_order, order32, registration_state_spelling, RegState, table_from_rows, AllBefore, SpellsInOrder, all_before, numbered_below, numbered_parts, same_itself, same_is, differ, at_head, past_head}
use Rattle.repl_model.specs.Words.{bytes_cmp, all_weaker, Placed, table_of, Registered, ServerTable, each_given}
use Rattle.keep_core.specs.Contents.{Table, same_key, set_key}
use Rattle.world_commits.specs.captures.Captures.{registered_after, with_registration}
use Rattle.stored_commits.specs.laws.Registrations.{state_of, push_other}
use Rattle.stored_commits.specs.laws.Slots.{IsOther}

-- ---- one of several rows

module _ {A X : Type 0} (key : A → List ℕ) (value : X → List ℕ) where
  -- at a row's key stands its value, if the rows in front are before it
  row_behind : (front : List (A × X)) (k : A) (x : X) (back : List (A × X)) → AllBefore key (key k) front → table_from_rows key value (front ++ (k, x) ∷ back) (key k) ≡ Some (value x)
  row_behind [] k x back before = at_head key value (k, x) back
  row_behind (r ∷ rs) k x back before = past_head key value r (rs ++ (k, x) ∷ back) (key k) (differ (key r.0) (key k) before.0) ∙ row_behind rs k x back before.1

  -- another value that is put there takes its place
  row_replaced : (front : List (A × X)) (k : A) (x y : X) (back : List (A × X)) → AllBefore key (key k) front → table_from_rows key value (front ++ (k, y) ∷ back) ≡ set_key (table_from_rows key value (front ++ (k, x) ∷ back)) (key k) (Some (value y))
  row_replaced front k x y back before = λ i q. at q front before i
    where
      hidden : (t : Bool) (o : Option (List ℕ)) → cond t (Some (value y)) o ≡ cond t (Some (value y)) (cond t (Some (value x)) o)
      hidden true o = refl
      hidden false o = refl

      apart : (q l : List ℕ) → bytes_cmp l (key k) ≡ Less → same_key l q ≡ true → same_key (key k) q ≡ true → ⊥
      apart q l lt a b = both_ways (same_key l (key k)) (differ l (key k) lt) (ap (λ (m : List ℕ). same_key m (key k)) (same_is l q a ∙ sym (same_is (key k) q b)) ∙ same_itself (key k))

      turned : (a b : Bool) (v : List ℕ) (n o : Option (List ℕ)) → (a ≡ true → b ≡ true → ⊥) → n ≡ cond b (Some (value y)) o → cond a (Some v) n ≡ cond b (Some (value y)) (cond a (Some v) o)
      turned true true v n o never e = absurd (never refl refl)
      turned true false v n o never e = refl
      turned false b v n o never e = e

      at : (q : List ℕ) (rows : List (A × X)) → AllBefore key (key k) rows → table_from_rows key value (rows ++ (k, y) ∷ back) q ≡ set_key (table_from_rows key value (rows ++ (k, x) ∷ back)) (key k) (Some (value y)) q
      at q [] all = hidden (same_key (key k) q) (table_from_rows key value back q)
      at q (r ∷ rs) all = turned (same_key (key r.0) q) (same_key (key k) q) (value r.1) (table_from_rows key value (rs ++ (k, y) ∷ back) q) (table_from_rows key value (rs ++ (k, x) ∷ back) q) (apart q (key r.0) all.0) (at q rs all.1)

-- what stands at a key may be put there again
pub put_again : (t : Table) (k : List ℕ) (v : Option (List ℕ)) → t k ≡ v → set_key t k v ≡ t
put_again t k v is = λ i q. at q (same_key k q) refl i
  where
    at : (q : List ℕ) (s : Bool) → same_key k q ≡ s → cond (same_key k q) v (t q) ≡ t q
    at q true e = ap (λ (b : Bool). cond b v (t q)) e ∙ sym is ∙ ap t (same_is k q e)
    at q false e = ap (λ (b : Bool). cond b v (t q)) e

-- ---- the states

-- the state of a table's registration, under the table's number
abbrev pub state_row : ℕ × ServerTable → Option (ℕ × RegState)
state_row t = option_map (λ r. (t.0, state_of r)) t.1.registered

-- the states of registrations, under the numbers of their tables from one on
abbrev pub states_from : ℕ → List ServerTable → List (ℕ × RegState)
states_from b ts = filter_map state_row (enumerate_from b ts)

-- their stored table
abbrev pub states_table : List (ℕ × RegState) → Table
states_table rows = table_from_rows b32 registration_state_spelling rows

-- spelled numbers lie in the order of the numbers
small_in_order : SpellsInOrder b32 (2 ^ 32)
small_in_order a b la lb = whole_order Is32 b32 _ order32 a b la lb

-- states of the first tables stand before the number of the next
first_before : (ts : List ServerTable) → length ts < 256 → AllBefore b32 (b32 (length ts)) (states_from 0 ts)
first_before ts few = all_before b32 (2 ^ 32) small_in_order (length ts) (states_from 0 ts) (omega (arith, few))
    (each_given (λ (row : ℕ × RegState). row.0 < length ts) state_row (enumerate_from 0 ts)
    (all_weaker (λ (t : ℕ × ServerTable). t.0 < length ts) (λ t. IfSome (state_row t) (λ row. row.0 < length ts)) (enumerate_from 0 ts) (λ t lt. one t t.1.registered lt) (numbered_below 0 (length ts) ts (omega arith))))
  where
    row_of : ℕ × ServerTable → Registered → ℕ × RegState
    row_of t r = (t.0, state_of r)

    one : (t : ℕ × ServerTable) (o : Option Registered) → t.0 < length ts → IfSome (option_map (row_of t) o) (λ row. row.0 < length ts)
    one t None lt = tt
    one t (Some r) lt = lt

-- the states around one
states_around : (f : Registered → Registered) (front : List ServerTable) (t : ServerTable) (back : List ServerTable) (r : Registered) → t.registered ≡ Some r
    → states_from 0 (map (with_registration f) (front ++ t ∷ back)) ≡ states_from 0 (map (with_registration f) front) ++ (length front, state_of (f r)) ∷ states_from (length front + 1) (map (with_registration f) back)
states_around f front t back r has =
    ap (states_from 0) (map-append with_f front (t ∷ back))
    ∙ ap (filter_map state_row) (numbered_parts 0 (map with_f front) (with_f t ∷ map with_f back))
    ∙ filter_map-append state_row (enumerate_from 0 (map with_f front)) (enumerate_from (0 + length (map with_f front)) (with_f t ∷ map with_f back))
    ∙ ap (λ (n : ℕ). states_from 0 (map with_f front) ++ states_from n (with_f t ∷ map with_f back)) number
    ∙ ap (λ (o : Option Registered). states_from 0 (map with_f front) ++ cons_option (option_map (λ (q : Registered). (length front, state_of q)) (option_map f o)) (states_from (length front + 1) (map with_f back))) has
  where
    with_f : ServerTable → ServerTable
    with_f = with_registration f

    number : 0 + length (map with_f front) ≡ length front
    number = omega (arith, length-map front with_f)

-- ---- one more change

-- one more change leaves the registrations of other tables
pub others_stay : (seq : ℕ) (changes : List Placed) (placed : Placed) (ts : List ServerTable) → AllByRecursion (IsOther (table_of placed.change)) ts → map (with_registration (registered_after seq (changes ++ placed ∷ []))) ts ≡ map (with_registration (registered_after seq changes)) ts
others_stay seq changes placed [] all = refl
others_stay seq changes placed (t ∷ ts) all = λ i. record t { registered = one t.registered all.0 i } ∷ others_stay seq changes placed ts all.1 i
  where
    one : (o : Option Registered) → IfSome o (λ r. bytes_eq (table_of placed.change) r.reg.table ≡ false) → option_map (registered_after seq (changes ++ placed ∷ [])) o ≡ option_map (registered_after seq changes) o
    one None other = refl
    one (Some r) other = ap (λ (q : Registered). Some q) (push_other seq changes placed r other)

module _ (seq : ℕ) (changes : List Placed) (front : List ServerTable) (t : ServerTable) (back : List ServerTable) (r : Registered) (has : t.registered ≡ Some r) (few : length front < 256) where
  -- the states in front of a registration
  front_states : List (ℕ × RegState)
  front_states = states_from 0 (map (with_registration (registered_after seq changes)) front)

  -- and those behind it
  back_states : List (ℕ × RegState)
  back_states = states_from (length front + 1) (map (with_registration (registered_after seq changes)) back)

  -- the states in front are under lower numbers
  front_before : AllBefore b32 (b32 (length front)) front_states
  unfolding front_states
  front_before =
      let ts : List ServerTable = map (with_registration (registered_after seq changes)) front in
      let long : length ts ≡ length front = length-map front (with_registration (registered_after seq changes)) in
      subst (λ (n : ℕ). AllBefore b32 (b32 n) front_states) long (first_before ts (omega (arith, long, few)))

  -- the state that is stored of it
  pub state_stored : states_table (states_from 0 (map (with_registration (registered_after seq changes)) (front ++ t ∷ back))) (b32 (length front)) ≡ Some (registration_state_spelling (state_of (registered_after seq changes r)))
  unfolding front_states back_states
  state_stored =
      ap (λ (rows : List (ℕ × RegState)). states_table rows (b32 (length front))) (states_around (registered_after seq changes) front t back r has)
      ∙ row_behind b32 registration_state_spelling front_states (length front) (state_of (registered_after seq changes r)) back_states front_before

  -- one more change of its table makes its state another
  pub state_put : (placed : Placed) → AllByRecursion (IsOther (table_of placed.change)) front → AllByRecursion (IsOther (table_of placed.change)) back
      → states_table (states_from 0 (map (with_registration (registered_after seq (changes ++ placed ∷ []))) (front ++ t ∷ back)))
      ≡ set_key (states_table (states_from 0 (map (with_registration (registered_after seq changes)) (front ++ t ∷ back)))) (b32 (length front)) (Some (registration_state_spelling (state_of (registered_after seq (changes ++ placed ∷ []) r))))
  unfolding front_states back_states
  state_put placed before behind =
      let key = b32 (length front) in
      let old : RegState = state_of (registered_after seq changes r) in
      let new : RegState = state_of (registered_after seq (changes ++ placed ∷ []) r) in
      ap states_table (states_around (registered_after seq (changes ++ placed ∷ [])) front t back r has)
      ∙ (λ i. states_table (states_from 0 (others_stay seq changes placed front before i) ++ (length front, new) ∷ states_from (length front + 1) (others_stay seq changes placed back behind i)))
      ∙ row_replaced b32 registration_state_spelling front_states (length front) old new back_states front_before
      ∙ ap (λ (rows : List (ℕ × RegState)). set_key (states_table rows) key (Some (registration_state_spelling new))) (sym (states_around (registered_after seq changes) front t back r has))
