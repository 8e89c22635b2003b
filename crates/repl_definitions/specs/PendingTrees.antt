-- Trees that are being read.
use Rattle.std.specs.Prelude.{ℕ, ◌+◌, List, [], ◌∷◌, ◌++◌, Option, Some, None}
use Rattle.repl_definitions.specs.declared.nested.Root.{Root}
use Rattle.repl_definitions.specs.declared.nested.Root.TheVariants.{Joined}
use Rattle.repl_definitions.specs.declared.nested.Pending.{Pending}

-- the nodes of the left tree, if it is read
abbrev pub left_nodes : {L J T : Type 0} → (T → List (Root L J)) → Option T → List (Root L J)
left_nodes nodes None = []
left_nodes nodes (Some tree) = nodes tree

-- the nodes that are read, the first read first
abbrev pub pending_nodes : {L J T : Type 0} → (T → List (Root L J)) → List (Pending J T) → List (Root L J)
pending_nodes nodes [] = []
pending_nodes nodes (node ∷ after) = Joined node.joint ∷ left_nodes nodes node.left ++ pending_nodes nodes after

-- 1 if the left tree isn't read
abbrev pub owed_at : {T : Type 0} → Option T → ℕ
owed_at None = 1
owed_at (Some tree) = 0

-- how many right trees are still to come once the tree that is being read is whole
abbrev pub owed : {J T : Type 0} → List (Pending J T) → ℕ
owed [] = 0
owed (node ∷ after) = owed_at node.left + owed after
