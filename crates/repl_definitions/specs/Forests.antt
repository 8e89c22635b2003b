-- Trees as lists of nodes: the root, then the tree at its left, then that at its right.
use Rattle.std.specs.Prelude.{ℕ, zero, suc, List, [], ◌∷◌}
use Rattle.std.specs.List.{flat_map, AllByRecursion}
use Rattle.repl_definitions.specs.declared.nested.Root.{Root}
use Rattle.repl_definitions.specs.declared.nested.Root.TheVariants.{Single, Joined}

-- the nodes are this many trees, one after another: a leaf is a tree, and so is a joint with the two
-- trees that follow it
abbrev pub IsForest : {L J : Type 0} → ℕ → List (Root L J) → Type 0
IsForest zero [] = Unit {0}
IsForest zero (node ∷ nodes) = ⊥
IsForest (suc n) [] = ⊥
IsForest (suc n) (Single leaf ∷ nodes) = IsForest n nodes
IsForest (suc n) (Joined joint ∷ nodes) = IsForest (suc (suc n)) nodes

-- the spellings of nodes, one after another
abbrev pub nodes_spelling : {X : Type 0} → (X → List ℕ) → List X → List ℕ
nodes_spelling = flat_map

-- each node meets what is asked of it
abbrev pub NodesFit : {X : Type 0} → (X → Type 0) → List X → Type 0
NodesFit = AllByRecursion

-- the nodes that join nothing
abbrev pub IsLeaf : {L J : Type 0} → Root L J → Type 0
IsLeaf (Single leaf) = Unit {0}
IsLeaf (Joined joint) = ⊥
