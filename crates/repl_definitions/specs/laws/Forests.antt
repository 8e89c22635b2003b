-- Proofs that trees have one spelling each. There is nothing to believe here.
use Rattle.std.proofs.Common.{◌≡◌, ℕ, zero, suc, List, [], ◌∷◌, ◌++◌, refl, sym, ap, subst, ◌∙◌, append_assoc, append-nil}
use Rattle.repl_definitions.specs.declared.nested.Root.{Root}
use Rattle.repl_definitions.specs.declared.nested.Root.TheVariants.{Single, Joined}
use Rattle.row_codec.specs.Takes.{One}
use Rattle.repl_definitions.specs.Forests.{IsForest, nodes_spelling, NodesFit}

-- bytes begin with the spellings of at most one list of this many trees
pub one_forest : {L J : Type 0} (fits : Root L J → Type 0) (spelling : Root L J → List ℕ) → One fits spelling → (n : ℕ) (x y : List (Root L J)) (a b : List ℕ) → IsForest n x → IsForest n y → NodesFit fits x → NodesFit fits y → nodes_spelling spelling x ++ a ≡ nodes_spelling spelling y ++ b → (x ≡ y) × (a ≡ b)
one_forest fits spelling one zero [] [] a b _ _ _ _ e = (refl, e)
one_forest fits spelling one zero [] (v ∷ y) a b _ forest _ _ e = absurd forest
one_forest fits spelling one zero (u ∷ x) y a b forest _ _ _ e = absurd forest
one_forest fits spelling one (suc n) [] y a b forest _ _ _ e = absurd forest
one_forest fits spelling one (suc n) (Single l ∷ x) [] a b _ forest _ _ e = absurd forest
one_forest fits spelling one (suc n) (Joined j ∷ x) [] a b _ forest _ _ e = absurd forest
one_forest fits spelling one (suc n) (Single l ∷ x) (Single m ∷ y) a b fx fy gx gy e =
    let first = one (Single l) (Single m) (nodes_spelling spelling x ++ a) (nodes_spelling spelling y ++ b) gx.0 gy.0 (sym (append_assoc (spelling (Single l)) (nodes_spelling spelling x) a) ∙ e ∙ append_assoc (spelling (Single m)) (nodes_spelling spelling y) b) in
    let rest = one_forest fits spelling one n x y a b fx fy gx.1 gy.1 first.1 in
    (λ i. first.0 i ∷ rest.0 i, rest.1)
one_forest fits spelling one (suc n) (Joined j ∷ x) (Joined k ∷ y) a b fx fy gx gy e =
    let first = one (Joined j) (Joined k) (nodes_spelling spelling x ++ a) (nodes_spelling spelling y ++ b) gx.0 gy.0 (sym (append_assoc (spelling (Joined j)) (nodes_spelling spelling x) a) ∙ e ∙ append_assoc (spelling (Joined k)) (nodes_spelling spelling y) b) in
    let rest = one_forest fits spelling one (suc (suc n)) x y a b fx fy gx.1 gy.1 first.1 in
    (λ i. first.0 i ∷ rest.0 i, rest.1)
one_forest fits spelling one (suc n) (Single l ∷ x) (Joined k ∷ y) a b fx fy gx gy e =
    let first = one (Single l) (Joined k) (nodes_spelling spelling x ++ a) (nodes_spelling spelling y ++ b) gx.0 gy.0 (sym (append_assoc (spelling (Single l)) (nodes_spelling spelling x) a) ∙ e ∙ append_assoc (spelling (Joined k)) (nodes_spelling spelling y) b) in
    let other = first.0 in absurd cc
one_forest fits spelling one (suc n) (Joined j ∷ x) (Single m ∷ y) a b fx fy gx gy e =
    let first = one (Joined j) (Single m) (nodes_spelling spelling x ++ a) (nodes_spelling spelling y ++ b) gx.0 gy.0 (sym (append_assoc (spelling (Joined j)) (nodes_spelling spelling x) a) ∙ e ∙ append_assoc (spelling (Single m)) (nodes_spelling spelling y) b) in
    let other = first.0 in absurd cc

-- what is to be known of a type of trees: that each of its values is a leaf or is joined of two, and
-- which nodes these have
pub record Trees (L J T : Type 0) : Type 1 where
  pub nodes : T → List (Root L J)
  pub leaf : L → T
  pub joined : J → T → T → T
  pub at_leaf : (l : L) → nodes (leaf l) ≡ Single l ∷ []
  pub at_joined : (j : J) (left right : T) → nodes (joined j left right) ≡ Joined j ∷ nodes left ++ nodes right
  pub each : (P : T → Type 0) → ((l : L) → P (leaf l)) → ((j : J) (left right : T) → P left → P right → P (joined j left right)) → (tree : T) → P tree

-- the two trees on top of a list, joined
join_top : {L J T : Type 0} → Trees L J T → J → List T → List T
join_top k j [] = []
join_top k j (left ∷ []) = []
join_top k j (left ∷ right ∷ trees) = k.joined j left right ∷ trees

-- the trees that nodes are of
trees_of : {L J T : Type 0} → Trees L J T → List (Root L J) → List T
trees_of k [] = []
trees_of k (Single l ∷ nodes) = k.leaf l ∷ trees_of k nodes
trees_of k (Joined j ∷ nodes) = join_top k j (trees_of k nodes)

-- a tree before other trees
pub forest_before : {L J T : Type 0} (k : Trees L J T) (tree : T) (n : ℕ) (rest : List (Root L J)) → IsForest n rest → IsForest (suc n) (k.nodes tree ++ rest)
forest_before {L} {J} {T} k = k.each (λ tree. (n : ℕ) (rest : List (Root L J)) → IsForest n rest → IsForest (suc n) (k.nodes tree ++ rest))
    (λ l n rest forest. subst (λ nodes. IsForest (suc n) (nodes ++ rest)) (sym (k.at_leaf l)) forest)
    (λ j left right on_left on_right n rest forest. subst (λ nodes. IsForest (suc n) (nodes ++ rest)) (sym (k.at_joined j left right))
    (subst (IsForest (suc (suc n))) (sym (append_assoc (k.nodes left) (k.nodes right) rest)) (on_left (suc n) (k.nodes right ++ rest) (on_right n rest forest))))

-- the nodes of a tree are one tree
pub one_tree : {L J T : Type 0} (k : Trees L J T) (tree : T) → IsForest 1 (k.nodes tree)
one_tree k tree = subst (IsForest 1) (append-nil (k.nodes tree)) (forest_before k tree 0 [] tt)

-- a tree is made again of its nodes
made_again : {L J T : Type 0} (k : Trees L J T) (tree : T) (rest : List (Root L J)) → trees_of k (k.nodes tree ++ rest) ≡ tree ∷ trees_of k rest
unfolding trees_of join_top
made_again {L} {J} {T} k = k.each (λ tree. (rest : List (Root L J)) → trees_of k (k.nodes tree ++ rest) ≡ tree ∷ trees_of k rest)
    (λ l rest. ap (λ nodes. trees_of k (nodes ++ rest)) (k.at_leaf l))
    (λ j left right on_left on_right rest. ap (λ nodes. trees_of k (nodes ++ rest)) (k.at_joined j left right)
    ∙ ap (λ nodes. join_top k j (trees_of k nodes)) (append_assoc (k.nodes left) (k.nodes right) rest)
    ∙ ap (join_top k j) (on_left (k.nodes right ++ rest) ∙ ap (λ trees. left ∷ trees) (on_right rest)))

-- trees of equal nodes are equal
pub same_tree : {L J T : Type 0} (k : Trees L J T) (x y : T) → k.nodes x ≡ k.nodes y → x ≡ y
same_tree k x y e =
    let of_x = made_again k x [] in
    let of_y = made_again k y [] in
    let both = ap (λ nodes. trees_of k (nodes ++ [])) e in
    cc

-- trees have one spelling each
pub one_nested : {L J T : Type 0} (k : Trees L J T) (fits : Root L J → Type 0) (spelling : Root L J → List ℕ) → One fits spelling → One (λ tree. NodesFit fits (k.nodes tree)) (λ tree. nodes_spelling spelling (k.nodes tree))
one_nested k fits spelling one x y a b fx fy e =
    let same = one_forest fits spelling one 1 (k.nodes x) (k.nodes y) a b (one_tree k x) (one_tree k y) fx fy e in
    (same_tree k x y same.0, same.1)

-- and each has a first node
pub has_first : {L J T : Type 0} (k : Trees L J T) (top : T → Root L J) → ((l : L) → top (k.leaf l) ≡ Single l) → ((j : J) (left right : T) → top (k.joined j left right) ≡ Joined j) → (tree : T) → (rest : List (Root L J)) × (k.nodes tree ≡ top tree ∷ rest)
has_first {L} {J} k top at_leaf at_joined = k.each (λ tree. (rest : List (Root L J)) × (k.nodes tree ≡ top tree ∷ rest))
    (λ l. ([], k.at_leaf l ∙ ap (λ node. node ∷ []) (sym (at_leaf l))))
    (λ j left right _ _. (k.nodes left ++ k.nodes right, k.at_joined j left right ∙ ap (λ node. node ∷ k.nodes left ++ k.nodes right) (sym (at_joined j left right))))
