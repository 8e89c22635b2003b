-- The order of spellings.
use Rattle.std.specs.Prelude.{◌≡◌, ℕ, List, length, ◌++◌}
use Rattle.std.specs.Ordering.{nat_cmp, ordering_then}
use Rattle.std.specs.declared.cmp.Ordering.{Ordering}
use Rattle.repl_types.specs.Bytes.{bytes_cmp}
use Rattle.repl_types.specs.declared.record.SetId.{SetId}

-- spellings are in the order of what they spell; if that ties, what follows decides
abbrev pub Ordered : {X : Type 0} → (X → Type 0) → (X → List ℕ) → (X → X → Ordering) → Type 0
Ordered {X} fits spelling cmp = (x y : X) (a b : List ℕ) → fits x → fits y → bytes_cmp (spelling x ++ a) (spelling y ++ b) ≡ ordering_then (cmp x y) (bytes_cmp a b)

-- pairs are in the order of their first parts, and then of their second parts
abbrev pub pair_cmp : {A B : Type 0} → (A → A → Ordering) → (B → B → Ordering) → A × B → A × B → Ordering
pair_cmp first second p q = ordering_then (first p.0 q.0) (second p.1 q.1)

-- a short text is spelled by its length first, so shorter names come before longer ones
abbrev pub name_cmp : List ℕ → List ℕ → Ordering
name_cmp x y = ordering_then (nat_cmp (length x) (length y)) (bytes_cmp x y)

-- sets are in the order of their qualifiers, and then of their names
abbrev pub set_cmp : SetId → SetId → Ordering
set_cmp x y = ordering_then (name_cmp x.qual y.qual) (name_cmp x.name y.name)
