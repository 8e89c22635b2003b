-- The least position among the first changes of a map's lists.
use Rattle.std.proofs.Common.{◌≡◌, ℕ, ◌≤◌, Bool, true, false, cond, ◌⊎◌, inl, inr, List, [], ◌∷◌, Option, Some, None, refl, sym, ap, subst, ◌∙◌, arith}
use Rattle.std.specs.Prelude.{min, IfSome}
use Rattle.std.specs.Option.{unwrap_or}
use Rattle.std.specs.Ordering.{nat_cmp}
use Rattle.std.specs.List.{All, AllByRecursion, filter_map, fold, reduce}
use Rattle.std.specs.Map.{lookup}
use Rattle.std.specs.BTreeMap.{get, is_at}
use Rattle.std.proofs.Math.Nat.{min-le_left, min-le_right}
use Rattle.std.proofs.lemmas.Bool.{cases_lt}
use Rattle.std.proofs.lemmas.List.Elements.{recursion_from_All}
use Rattle.std.proofs.lemmas.Option.{same_Some}
use Rattle.repl_types.specs.declared.unit.Placed.{Placed}
use Rattle.txn_buffer.specs.declared.buffer.Buffer.{Buffer}
use Rattle.txn_buffer.specs.Buffer.{changes_in, first_position, IsLeastFirst}

-- the entries of a map: transactions with their changes
abbrev pub Entries : Type 0
Entries = List (ℕ × List Placed)

-- the positions of the first changes
abbrev pub firsts : Entries → List ℕ
firsts es = filter_map (λ e. first_position e.1) es

-- what holds of no changes and of those of each entry holds of those that a transaction has
of_each : (P : List Placed → Type 0) → P [] → (es : Entries) → AllByRecursion (λ e. P e.1) es → (tx : ℕ) → P (unwrap_or (lookup (is_at (nat_cmp tx)) es) [])
of_each P none [] all tx = none
of_each P none (e ∷ es) all tx = by_cases (is_at (nat_cmp tx) e.0) all.0 (of_each P none es all.1 tx)
  where
    by_cases : (b : Bool) → P e.1 → P (unwrap_or (lookup (is_at (nat_cmp tx)) es) []) → P (unwrap_or (cond b (Some e.1) (lookup (is_at (nat_cmp tx)) es)) [])
    by_cases true here more = here
    by_cases false here more = more

-- if there is no least position, no entry has a change
all_empty : (es : Entries) → reduce min (firsts es) ≡ None → AllByRecursion (λ e. e.1 ≡ []) es
all_empty [] none = tt
all_empty ((tx, []) ∷ es) none = (refl, all_empty es none)
all_empty ((tx, p ∷ ps) ∷ es) none = absurd cc

-- an entry of which this holds begins at this position
abbrev Begins : (ℕ → List Placed → Type 0) → ℕ → Type 0
Begins P position = (tx : ℕ) × (changes : List Placed) × P tx changes × (first_position changes ≡ Some position)

-- the lesser of two numbers is one of them
min_is : (a b : ℕ) → (min a b ≡ a) ⊎ (min a b ≡ b)
min_is a b = elim (cases_lt a b) [ inl h ↦ inl (omega arith) | inr h ↦ inr (omega arith) ]

-- the least of a number and the positions is that number, or an entry begins there
begins : (P : ℕ → List Placed → Type 0) (a : ℕ) (es : Entries) → AllByRecursion (λ e. P e.0 e.1) es → (fold min a (firsts es) ≡ a) ⊎ Begins P (fold min a (firsts es))
begins P a [] all = inl refl
begins P a ((tx, []) ∷ es) all = begins P a es all.1
begins P a ((tx, p ∷ ps) ∷ es) all = elim (begins P (min a p.pos) es all.1) [
  | inl e ↦ elim (min_is a p.pos) [
    | inl left ↦ inl (e ∙ left)
    | inr right ↦ inr (tx, p ∷ ps, all.0, ap Some (sym (e ∙ right)))
  ]
  | inr more ↦ inr more
]

-- it is no more than that number
below_start : (a : ℕ) (es : Entries) → fold min a (firsts es) ≤ a
below_start a [] = omega arith
below_start a ((tx, []) ∷ es) = below_start a es
below_start a ((tx, p ∷ ps) ∷ es) = omega (arith, below_start (min a p.pos) es, min-le_left a p.pos)

-- and no more than each of the positions
below_each : (a : ℕ) (es : Entries) → AllByRecursion (λ e. IfSome (first_position e.1) (λ p. fold min a (firsts es) ≤ p)) es
below_each a [] = tt
below_each a ((tx, []) ∷ es) = (tt, below_each a es)
below_each a ((tx, p ∷ ps) ∷ es) = (omega (arith, below_start (min a p.pos) es, min-le_right a p.pos), below_each (min a p.pos) es)

-- at the least position an entry begins, and none begins below it
least_begins : (P : ℕ → List Placed → Type 0) (es : Entries) (position : ℕ) → reduce min (firsts es) ≡ Some position → AllByRecursion (λ e. P e.0 e.1) es
    → Begins P position × AllByRecursion (λ e. IfSome (first_position e.1) (λ p. position ≤ p)) es
least_begins P [] position is all = absurd cc
least_begins P ((tx, []) ∷ es) position is all = let more = least_begins P es position is all.1 in (more.0, (tt, more.1))
least_begins P ((tx, p ∷ ps) ∷ es) position is all =
    let e = same_Some (fold min p.pos (firsts es)) position is in
    subst (λ (m : ℕ). Begins P m × AllByRecursion (λ (x : ℕ × List Placed). IfSome (first_position x.1) (λ q. m ≤ q)) ((tx, p ∷ ps) ∷ es)) e
    ((elim (begins P p.pos es all.1) [ inl here ↦ (tx, p ∷ ps, all.0, ap Some (sym here)) | inr more ↦ more ]), (below_start p.pos es, below_each p.pos es))

-- ---- in a buffer

-- the least position among the first changes of a buffer, if there is a change
abbrev pub least_in : Buffer → Option ℕ
least_in buffer = reduce min (firsts buffer.map.entries)

-- if there is none, no transaction has a change
pub none_in_flight : (buffer : Buffer) → least_in buffer ≡ None → (tx : ℕ) → changes_in buffer tx ≡ []
unfolding changes_in
none_in_flight buffer none tx = of_each (λ changes. changes ≡ []) refl buffer.map.entries (all_empty buffer.map.entries none) tx

-- it is the position of a first change, and that of no transaction has a lower one
pub least_in_flight : (buffer : Buffer) (first : Option ℕ) → first ≡ least_in buffer → All (λ e. get nat_cmp buffer.map e.0 ≡ Some e.1) buffer.map.entries → IfSome first (IsLeastFirst buffer)
unfolding changes_in
least_in_flight buffer None is found = tt
least_in_flight buffer (Some position) is found =
    let least = least_begins (λ tx changes. get nat_cmp buffer.map tx ≡ Some changes) buffer.map.entries position (sym is) (recursion_from_All (λ (e : ℕ × List Placed). get nat_cmp buffer.map e.0 ≡ Some e.1) buffer.map.entries found) in
    record {
      tx = least.0.0;
      here = ap (λ (o : Option (List Placed)). first_position (unwrap_or o [])) least.0.2 ∙ least.0.3;
      least = of_each (λ changes. IfSome (first_position changes) (λ p. position ≤ p)) tt buffer.map.entries least.1;
    }
