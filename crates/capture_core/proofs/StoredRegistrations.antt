-- The registrations that a server stores, and their states.
use Rattle.std.proofs.Common.{◌≡◌, ◌≢◌, ℕ, ◌+◌, ◌<◌, ◌≤◌, ◌^◌, Bool, true, false, List, [], ◌∷◌, length, refl, sym, ap, subst, ◌∙◌, arith, ◌&&◌, nat_le, Option, Some, None, IfSome, fold, option_map, bytes_eq, Ordering, Less, Equal, Greater}
use Rattle.std.specs.FinMap.Entries.{by_order, put}
use Rattle.std.specs.List.{AllByRecursion, cons_option, enumerate_from, filter_map}
use Rattle.std.specs.Ordering.{ordering_then, is_eq, nat_cmp}
use Rattle.std.proofs.lemmas.Bool.{le-leb, and_parts}
use Rattle.world_store.specs.Words.{name_cmp, IsName, b32, short_text, one_whole, registration_state_spelling, IsRegistrationState, RegState, table_from_rows, fits_each, row_of, same_is, no_row_at, registration_state_rows, defined_registration, registration_rows, numbered_tables, definition_table, RowFits, registration_rows_are}
use Rattle.repl_model.specs.Words.{bytes_cmp, row_limit, Registration, defined_registration_spelling, IsDefinedRegistration, DefinedRegistration, one_defined_registration, RegistrationKeepsRules, all_places, are_among, places_rise, KeepsTable, ServerKeepsRules, by_key, Registered, ServerTable, Server, World, registered_of, name_itself, at_one, at_each, each_given, all_numbered, among_first, among_below, rising_few}
use Rattle.cd_tables.specs.Rules.{is_of_table}

-- ---- entries by their keys

-- names that tie are equal
name_tie : (x y : List ℕ) → name_cmp x y ≡ Equal → x ≡ y
name_tie x y e = same_is x y (ap is_eq (pick (nat_cmp (length x) (length y)) (bytes_cmp x y) e))
  where
    pick : (a b : Ordering) → ordering_then a b ≡ Equal → b ≡ Equal
    pick Less b e = absurd cc
    pick Equal b e = e
    pick Greater b e = absurd cc

module _ {X : Type 0} (R : List ℕ × X → Type 0) where
  -- what holds of entries holds of them after a put by name
  put_keeps : (k : List ℕ) (v : X) (rows : List (List ℕ × X)) → R (k, v) → AllByRecursion R rows → AllByRecursion R (put name_cmp k v rows)
  put_keeps k v [] one all = (one, tt)
  put_keeps k v (r ∷ rs) one all = pick (name_cmp k r.0) refl (put_keeps k v rs one all.1)
    where
      pick : (o : Ordering) → name_cmp k r.0 ≡ o → AllByRecursion R (put name_cmp k v rs) → AllByRecursion R (by_order o ((k, v) ∷ r ∷ rs) ((r.0, v) ∷ rs) (r ∷ put name_cmp k v rs))
      pick Less is rest = (one, all)
      pick Equal is rest = (subst (λ (q : List ℕ). R (q, v)) (name_tie k r.0 is) one, all.1)
      pick Greater is rest = (all.0, rest)

  puts_keep : (entries rows : List (List ℕ × X)) → AllByRecursion R entries → AllByRecursion R rows → AllByRecursion R (fold (λ sorted e. put name_cmp e.0 e.1 sorted) rows entries)
  puts_keep [] rows all more = more
  puts_keep (e ∷ es) rows all more = puts_keep es (put name_cmp e.0 e.1 rows) all.1 (put_keeps e.0 e.1 rows all.0 more)

  -- and in the order of their names
  by_name : (entries : List (List ℕ × X)) → AllByRecursion R entries → AllByRecursion R (by_key name_cmp entries)
  unfolding by_key
  by_name entries all = puts_keep entries [] all tt

-- ---- one registration

-- a registration has no more columns than a table may have
few_columns : (t : ServerTable) (reg : Registration) → KeepsTable t → RegistrationKeepsRules t.def reg → (length reg.after ≤ row_limit) × (length reg.before ≤ row_limit)
few_columns t reg keeps rules =
    let def = t.def in
    let n = length def.columns in
    let after = and_parts (places_rise reg.after && are_among (all_places def) reg.after) (are_among reg.after def.key) rules.after in
    let rising = and_parts (places_rise reg.after) (are_among (all_places def) reg.after) after.0 in
    let before = and_parts (places_rise reg.before) (are_among reg.after reg.before) rules.before in
    let after_below = among_first n reg.after rising.1 in
    let before_below = among_below n reg.after reg.before after_below before.1 in
    (omega (arith, keeps.1, rising_few n reg.after rising.0 after_below), omega (arith, keeps.1, rising_few n reg.before before.0 before_below))

-- the row of a registration's state
abbrev state_row : ℕ × ServerTable → Option (ℕ × RegState)
state_row t = option_map (λ r. (t.0, record { active = r.active; start = r.start; floor = r.floor })) t.1.registered

-- if no state has a number, no registration has it
uncalled : (n b : ℕ) (tables : List ServerTable) → AllByRecursion (λ r. b32 r.0 ≢ b32 n) (filter_map state_row (enumerate_from b tables)) → AllByRecursion (λ e. e.1.number ≢ n) (filter_map defined_registration (enumerate_from b tables))
uncalled n b [] all = tt
uncalled n b (t ∷ ts) all = pick t.registered all (uncalled n (b + 1) ts)
  where
    pick : (o : Option Registered)
        → AllByRecursion (λ r. b32 r.0 ≢ b32 n) (cons_option (option_map (λ (r : Registered). (b, record { active = r.active; start = r.start; floor = r.floor })) o) (filter_map state_row (enumerate_from (b + 1) ts)))
        → (AllByRecursion (λ r. b32 r.0 ≢ b32 n) (filter_map state_row (enumerate_from (b + 1) ts)) → AllByRecursion (λ e. e.1.number ≢ n) (filter_map defined_registration (enumerate_from (b + 1) ts)))
        → AllByRecursion (λ e. e.1.number ≢ n) (cons_option (option_map (λ (r : Registered). (t.def.name, record { number = b; registration = r.reg })) o) (filter_map defined_registration (enumerate_from (b + 1) ts)))
    pick None all rest = rest all
    pick (Some r) all rest = ((λ e. all.0 (ap b32 e)), rest all.1)

-- the states have spellings, if no start or floor is above some number
states_fit : (limit b : ℕ) (tables : List ServerTable) → limit < 2 ^ 64 → AllByRecursion (λ r. (r.start ≤ limit) × (r.floor ≤ limit)) (filter_map (λ t. t.registered) tables) → AllByRecursion (λ r. IsRegistrationState r.1) (filter_map state_row (enumerate_from b tables))
states_fit limit b [] small all = tt
states_fit limit b (t ∷ ts) small all = pick t.registered all (states_fit limit (b + 1) ts small)
  where
    pick : (o : Option Registered)
        → AllByRecursion (λ r. (r.start ≤ limit) × (r.floor ≤ limit)) (cons_option o (filter_map (λ t. t.registered) ts))
        → (AllByRecursion (λ r. (r.start ≤ limit) × (r.floor ≤ limit)) (filter_map (λ t. t.registered) ts) → AllByRecursion (λ r. IsRegistrationState r.1) (filter_map state_row (enumerate_from (b + 1) ts)))
        → AllByRecursion (λ r. IsRegistrationState r.1) (cons_option (option_map (λ (r : Registered). (b, record { active = r.active; start = r.start; floor = r.floor })) o) (filter_map state_row (enumerate_from (b + 1) ts)))
    pick None all rest = rest all
    pick (Some r) all rest = ((omega (arith, small, all.0.0), omega (arith, small, all.0.1)), rest all.1)

-- ---- the rows of a server

-- A registration stands under the name of its table, has few columns, and has a state.
pub record IsPlaced (server : Server) (row : List ℕ × DefinedRegistration) : Type 0 where
  pub under : row.1.registration.table ≡ row.0
  pub few : (length row.1.registration.after ≤ row_limit) × (length row.1.registration.before ≤ row_limit)
  pub called : table_from_rows b32 registration_state_spelling (registration_state_rows server) (b32 row.1.number) ≡ None → ⊥

module _ (world : World) (server : Server) (keeps : ServerKeepsRules world server) where
  -- so does each that a server stores
  all_placed : AllByRecursion (IsPlaced server) (registration_rows server)
  all_placed = by_name (IsPlaced server) entries (at_each (IsPlaced server) entries (λ e i. record {
    under = (at_one Defined entries e all_defined i).0;
    few = (at_one Defined entries e all_defined i).1;
    called = λ none. at_one (λ (d : List ℕ × DefinedRegistration). d.1.number ≢ e.1.number) entries e (uncalled e.1.number 0 server.tables (no_row_at b32 registration_state_spelling (registration_state_rows server) (b32 e.1.number) none)) i refl;
  }))
    where
      entries : List (List ℕ × DefinedRegistration)
      entries = filter_map defined_registration (numbered_tables server)

      Defined : List ℕ × DefinedRegistration → Type 0
      Defined e = (e.1.registration.table ≡ e.0) × ((length e.1.registration.after ≤ row_limit) × (length e.1.registration.before ≤ row_limit))

      one : (m : ℕ) (t : ServerTable) → KeepsTable t → IfSome (defined_registration (m, t)) Defined
      one m t k = pick t.registered k.2
        where
          pick : (o : Option Registered) → IfSome o (λ r. RegistrationKeepsRules t.def r.reg) → IfSome (option_map (λ (r : Registered). (t.def.name, record { number = m; registration = r.reg })) o) Defined
          pick None h = tt
          pick (Some r) h = (h.table, few_columns t r.reg k h)

      all_defined : AllByRecursion Defined entries
      all_defined = each_given Defined defined_registration (numbered_tables server) (all_numbered KeepsTable (λ t. IfSome (defined_registration t) Defined) 256 0 server.tables (omega (arith, keeps.count)) keeps.tables (λ m t lt k. one m t k))

  -- what stands under a key
  row_at : (key value : List ℕ) → definition_table server 1 key ≡ Some value → (row : List ℕ × DefinedRegistration) × (short_text row.0 ≡ key) × (defined_registration_spelling row.1 ≡ value) × IsDefinedRegistration row.1 × IsPlaced server row
  row_at key value has =
      let r = row_of short_text defined_registration_spelling (registration_rows server) key value has in
      (r.0, r.2, r.3, (fits_each (RowFits IsName IsDefinedRegistration) (registration_rows server) r.0 (registration_rows_are world server keeps).fit r.1).1, fits_each (IsPlaced server) (registration_rows server) r.0 all_placed r.1)

  -- it has a spelling
  pub spelt_registration : (key value : List ℕ) → definition_table server 1 key ≡ Some value → (reg : DefinedRegistration) × IsDefinedRegistration reg × (value ≡ defined_registration_spelling reg)
  spelt_registration key value has = let r = row_at key value has in (r.0.1, r.3, sym r.2)

  -- the registration that stands under a name is the one of its spelling
  placed_at : (name : List ℕ) (reg : DefinedRegistration) → IsDefinedRegistration reg → definition_table server 1 (short_text name) ≡ Some (defined_registration_spelling reg) → IsPlaced server (name, reg)
  placed_at name reg fits has =
      let r = row_at (short_text name) (defined_registration_spelling reg) has in
      let same : r.0.1 ≡ reg = one_whole IsDefinedRegistration defined_registration_spelling one_defined_registration r.0.1 reg r.3 fits r.2 in
      subst (IsPlaced server) (λ i. (tail_is r.0.0 name r.1 i, same i)) r.4
    where
      tail_is : (x y : List ℕ) → short_text x ≡ short_text y → x ≡ y
      tail_is x y e = cc

  -- it has a state
  pub has_state : (name : List ℕ) (reg : DefinedRegistration) → IsDefinedRegistration reg → definition_table server 1 (short_text name) ≡ Some (defined_registration_spelling reg) → table_from_rows b32 registration_state_spelling (registration_state_rows server) (b32 reg.number) ≡ None → ⊥
  has_state name reg fits has = (placed_at name reg fits has).called

  -- and is one of its table
  pub of_its_table : (name : List ℕ) (reg : DefinedRegistration) → IsDefinedRegistration reg → definition_table server 1 (short_text name) ≡ Some (defined_registration_spelling reg) → is_of_table name reg ≡ true
  of_its_table name reg fits has =
      let p = placed_at name reg fits has in
      all_true (bytes_eq reg.registration.table name) (nat_le (length reg.registration.after) row_limit) (nat_le (length reg.registration.before) row_limit)
      (ap (λ (l : List ℕ). bytes_eq l name) p.under ∙ name_itself name)
      (le-leb (length reg.registration.after) row_limit p.few.0)
      (le-leb (length reg.registration.before) row_limit p.few.1)
    where
      all_true : (a b c : Bool) → a ≡ true → b ≡ true → c ≡ true → (a && (b && c)) ≡ true
      all_true true true true x y z = refl
      all_true true true false x y z = absurd cc
      all_true true false c x y z = absurd cc
      all_true false b c x y z = absurd cc

-- the states of a server have spellings, if no start or floor is above some number
pub all_states_fit : (server : Server) (limit : ℕ) → limit < 2 ^ 64 → AllByRecursion (λ r. (r.start ≤ limit) × (r.floor ≤ limit)) (registered_of server) → AllByRecursion (λ r. IsRegistrationState r.1) (registration_state_rows server)
all_states_fit server limit small all = states_fit limit 0 server.tables small all
