-- Trees that are being read or written.
use Rattle.std.proofs.Common.{◌≡◌, ℕ, ◌+◌, List, [], ◌∷◌, ◌++◌, sym, ap, subst, ◌∙◌, arith, length, length-append, append_assoc, append-nil, Some, None}
use Rattle.repl_definitions.specs.declared.nested.Root.{Root}
use Rattle.repl_definitions.specs.declared.nested.Root.TheVariants.{Joined}
use Rattle.repl_definitions.specs.declared.nested.Pending.{Pending}
use Rattle.repl_definitions.specs.Forests.{nodes_spelling, NodesFit}
use Rattle.repl_definitions.specs.PendingTrees.{left_nodes, pending_nodes, owed_at, owed}

-- the node that was pushed last is read last
pub pending_nodes-push : {L J T : Type 0} (nodes : T → List (Root L J)) (ps : List (Pending J T)) (p : Pending J T) → pending_nodes nodes (ps ++ p ∷ []) ≡ pending_nodes nodes ps ++ Joined p.joint ∷ left_nodes nodes p.left
pending_nodes-push nodes [] p = append-nil (Joined p.joint ∷ left_nodes nodes p.left)
pending_nodes-push nodes (q ∷ ps) p =
    let below = pending_nodes-push nodes ps p in
    ap (λ s. Joined q.joint ∷ (left_nodes nodes q.left ++ s)) below ∙ sym (append_assoc (Joined q.joint ∷ left_nodes nodes q.left) (pending_nodes nodes ps) (Joined p.joint ∷ left_nodes nodes p.left))

-- and owes a tree if its left one isn't read
pub owed-push : {J T : Type 0} (ps : List (Pending J T)) (p : Pending J T) → owed (ps ++ p ∷ []) ≡ owed ps + owed_at p.left
owed-push [] p = omega arith
owed-push (q ∷ ps) p = omega (arith, owed-push ps p)

-- the nodes of the trees on a stack, the top first
abbrev pub stacked : {R X : Type 0} → (R → List X) → List R → List X
stacked nodes [] = []
stacked nodes (tree ∷ above) = stacked nodes above ++ nodes tree

-- the tree that was pushed last comes first
pub stacked-push : {R X : Type 0} (nodes : R → List X) (trees : List R) (tree : R) → stacked nodes (trees ++ tree ∷ []) ≡ nodes tree ++ stacked nodes trees
stacked-push nodes [] tree = sym (append-nil (nodes tree))
stacked-push nodes (other ∷ trees) tree = ap (λ s. s ++ nodes other) (stacked-push nodes trees tree) ∙ append_assoc (nodes tree) (stacked nodes trees) (nodes other)

-- two trees that are joined have the nodes that were pending
pub pending-joined : {L J T : Type 0} (nodes : T → List (Root L J)) (ps all : List (Pending J T)) (p : Pending J T) (left right whole : T) → all ≡ ps ++ p ∷ [] → p.left ≡ Some left → nodes whole ≡ Joined p.joint ∷ nodes left ++ nodes right → (pending_nodes nodes ps ++ nodes whole ≡ pending_nodes nodes all ++ nodes right) × (owed ps ≡ owed all)
pending-joined nodes ps all p left right whole e of_left made =
    let read = ap (pending_nodes nodes) e ∙ pending_nodes-push nodes ps p in
    let left_is = ap (left_nodes nodes) of_left in
    let none = ap owed_at of_left in
    let assoc = append_assoc (pending_nodes nodes ps) (Joined p.joint ∷ left_nodes nodes p.left) (nodes right) in
    (cc, omega (arith, ap owed e, owed-push ps p, none))

-- a tree that is put at the left of its node is read, and the node owes one tree less
pub pending-left : {L J T : Type 0} (nodes : T → List (Root L J)) (ps all new : List (Pending J T)) (p q : Pending J T) (tree : T) → all ≡ ps ++ p ∷ [] → p.left ≡ None → new ≡ ps ++ q ∷ [] → q.joint ≡ p.joint → q.left ≡ Some tree → (pending_nodes nodes new ≡ pending_nodes nodes all ++ nodes tree) × (owed new + 1 ≡ owed all)
pending-left nodes ps all new p q tree e no_left f joint of_left =
    let before = ap (pending_nodes nodes) e ∙ pending_nodes-push nodes ps p in
    let after = ap (pending_nodes nodes) f ∙ pending_nodes-push nodes ps q in
    let p_left = ap (left_nodes nodes) no_left in
    let q_left = ap (left_nodes nodes) of_left in
    let assoc = append_assoc (pending_nodes nodes ps) (Joined p.joint ∷ left_nodes nodes p.left) (nodes tree) in
    let p_owes = ap owed_at no_left in
    let q_owes = ap owed_at of_left in
    (cc, omega (arith, ap owed e, owed-push ps p, p_owes, ap owed f, owed-push ps q, q_owes))

-- what the top of a stack begins with
pub stacked-top : {R X : Type 0} (nodes : R → List X) (all trees : List R) (tree : R) (top : X) (below : List X) → all ≡ trees ++ tree ∷ [] → nodes tree ≡ top ∷ below → stacked nodes all ≡ top ∷ (below ++ stacked nodes trees)
stacked-top nodes all trees tree top below e first = ap (stacked nodes) e ∙ stacked-push nodes trees tree ∙ ap (λ s. s ++ stacked nodes trees) first

-- a node gives way to the two trees below it
pub stacked-below : {R X : Type 0} (nodes : R → List X) (all trees more new : List R) (tree left right : R) (top : X) → all ≡ trees ++ tree ∷ [] → nodes tree ≡ top ∷ nodes left ++ nodes right → more ≡ trees ++ right ∷ [] → new ≡ more ++ left ∷ [] → stacked nodes all ≡ top ∷ stacked nodes new
stacked-below nodes all trees more new tree left right top e first f h =
    let under = stacked-top nodes all trees tree top (nodes left ++ nodes right) e first in
    let right_last = ap (stacked nodes) f ∙ stacked-push nodes trees right in
    let left_last = ap (stacked nodes) h ∙ stacked-push nodes more left in
    let seam = append_assoc (nodes left) (nodes right) (stacked nodes trees) in
    let moved = ap (λ s. nodes left ++ s) right_last in
    cc

-- what is kept while the nodes of a tree are written
abbrev pub Writes : {X : Type 0} → (X → List ℕ) → (X → Type 0) → (X → Type 0) → List ℕ → List X → List ℕ → List X → Type 0
Writes spelling has fits before all out left = (out ++ nodes_spelling spelling left ≡ before ++ nodes_spelling spelling all) × NodesFit has left × (NodesFit fits left → NodesFit fits all)

-- one more node is written
pub writes-more : {X : Type 0} (spelling : X → List ℕ) (has fits : X → Type 0) (before out after : List ℕ) (all left less : List X) (top : X) → left ≡ top ∷ less → after ≡ out ++ spelling top → fits top → Writes spelling has fits before all out left → Writes spelling has fits before all after less
writes-more spelling has fits before out after all left less top e f here kept =
    let seam = append_assoc out (spelling top) (nodes_spelling spelling less) in
    let made = ap (λ s. out ++ nodes_spelling spelling s) e in
    (ap (λ s. s ++ nodes_spelling spelling less) f ∙ seam ∙ sym made ∙ kept.0, (subst (NodesFit has) e kept.1).1, λ rest. kept.2 (subst (NodesFit fits) (sym e) (here, rest)))

-- the node at the top of a tree is copied, and the two trees below it wait
pub copies-joined : {L J T R : Type 0} (nodes : T → List (Root L J)) (seen : R → List (Root L J)) (whole : List (Root L J)) (old fresh : List (Pending J T)) (p : Pending J T) (all trees more new : List R) (tree left right : R) → whole ≡ pending_nodes nodes old ++ stacked seen all → owed old + 1 ≡ length all → all ≡ trees ++ tree ∷ [] → seen tree ≡ Joined p.joint ∷ seen left ++ seen right → more ≡ trees ++ right ∷ [] → new ≡ more ++ left ∷ [] → fresh ≡ old ++ p ∷ [] → p.left ≡ None → (whole ≡ pending_nodes nodes fresh ++ stacked seen new) × (owed fresh + 1 ≡ length new)
copies-joined nodes seen whole old fresh p all trees more new tree left right kept owes e first f h pushed no_left =
    let below = stacked-below seen all trees more new tree left right (Joined p.joint) e first f h in
    let made = ap (pending_nodes nodes) pushed ∙ pending_nodes-push nodes old p in
    let none = ap (left_nodes nodes) no_left in
    let seam = append_assoc (pending_nodes nodes old) (Joined p.joint ∷ []) (stacked seen new) in
    let one = ap owed_at no_left in
    (cc, omega (arith, owes, ap owed pushed, owed-push old p, one, ap length e, length-append trees (tree ∷ []), ap length f, length-append trees (right ∷ []), ap length h, length-append more (left ∷ [])))

-- a tree that is one leaf is copied, and is put below the node that waits for it
pub copies-leaf : {L J T R : Type 0} (nodes : T → List (Root L J)) (seen : R → List (Root L J)) (whole : List (Root L J)) (old fresh : List (Pending J T)) (copy : T) (all trees : List R) (tree : R) → whole ≡ pending_nodes nodes old ++ stacked seen all → owed old + 1 ≡ length all → all ≡ trees ++ tree ∷ [] → nodes copy ≡ seen tree → pending_nodes nodes fresh ≡ pending_nodes nodes old ++ nodes copy → owed fresh + 1 ≡ owed old → (whole ≡ pending_nodes nodes fresh ++ stacked seen trees) × (owed fresh + 1 ≡ length trees)
copies-leaf nodes seen whole old fresh copy all trees tree kept owes e same put fewer =
    let last = ap (stacked seen) e ∙ stacked-push seen trees tree in
    let seam = append_assoc (pending_nodes nodes old) (nodes copy) (stacked seen trees) in
    (cc, omega (arith, owes, fewer, ap length e, length-append trees (tree ∷ [])))
