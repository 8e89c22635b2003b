-- Reading trees node after node.
use Rattle.std.proofs.Common.{◌≡◌, ℕ, suc, ◌+◌, ◌<◌, List, [], ◌∷◌, ◌++◌, length, refl, sym, ap, subst, ◌∙◌, arith, append_assoc, append-nil, length-append}
use Rattle.std.proofs.lemmas.Grind.{flat_map-append}
use Rattle.repl_definitions.specs.declared.nested.Root.{Root}
use Rattle.repl_definitions.specs.declared.nested.Root.TheVariants.{Single, Joined}
use Rattle.repl_types.specs.laws.Lists.{all_append}
use Rattle.row_codec.specs.Takes.{One}
use Rattle.repl_definitions.specs.Forests.{IsForest, nodes_spelling, NodesFit}

-- one more node that fits
pub NodesFit-push : {X : Type 0} (fits : X → Type 0) (nodes : List X) (node : X) → NodesFit fits nodes → fits node → NodesFit fits (nodes ++ node ∷ [])
NodesFit-push fits nodes node all here = all_append fits nodes (node ∷ []) all (here, tt)

-- the bytes of the nodes read so far, and those that are left
pub node_read : {X : Type 0} (spelling : X → List ℕ) (old new : List X) (node : X) (bytes left after : List ℕ) → new ≡ old ++ node ∷ [] → bytes ≡ nodes_spelling spelling old ++ left → left ≡ spelling node ++ after → bytes ≡ nodes_spelling spelling new ++ after
node_read spelling old new node bytes left after e f h =
    let seam = append_assoc (nodes_spelling spelling old) (spelling node) after in
    let both = flat_map-append spelling old (node ∷ []) in
    let last = append-nil (spelling node) in
    let made = ap (nodes_spelling spelling) e in
    cc

-- the bytes begin with n trees
abbrev pub Begins : {L J : Type 0} → (Root L J → Type 0) → (Root L J → List ℕ) → ℕ → List ℕ → List ℕ → Type 0
Begins {L} {J} fits spelling n bytes rest = (us : List (Root L J)) × IsForest n us × NodesFit fits us × (bytes ≡ nodes_spelling spelling us ++ rest)

-- a leaf is one of the trees that the bytes begin with
pub begins-single : {L J : Type 0} (fits : Root L J → Type 0) (spelling : Root L J → List ℕ) → One fits spelling → (n m : ℕ) (node : Root L J) (leaf : L) (left after rest : List ℕ) → fits node → node ≡ Single leaf → left ≡ spelling node ++ after → m + 1 ≡ n → (us : List (Root L J)) → IsForest (suc n) us → NodesFit fits us → left ≡ nodes_spelling spelling us ++ rest → Begins fits spelling (suc m) after rest
begins-single fits spelling one n m node leaf left after rest here is e owes [] forest all same = absurd forest
begins-single fits spelling one n m node leaf left after rest here is e owes (u ∷ us) forest all same =
    let alike = one node u after (nodes_spelling spelling us ++ rest) here all.0 (sym e ∙ same ∙ append_assoc (spelling u) (nodes_spelling spelling us) rest) in
    let below : IsForest n us = subst (λ v. IsForest (suc n) (v ∷ us)) (sym alike.0 ∙ is) forest in
    let fewer : n ≡ suc m = omega arith in
    (us, subst (λ k. IsForest k us) fewer below, all.1, alike.1)

-- a node that joins two trees leaves one more to come
pub begins-joined : {L J : Type 0} (fits : Root L J → Type 0) (spelling : Root L J → List ℕ) → One fits spelling → (n m : ℕ) (node : Root L J) (joint : J) (left after rest : List ℕ) → fits node → node ≡ Joined joint → left ≡ spelling node ++ after → m ≡ n + 1 → (us : List (Root L J)) → IsForest (suc n) us → NodesFit fits us → left ≡ nodes_spelling spelling us ++ rest → Begins fits spelling (suc m) after rest
begins-joined fits spelling one n m node joint left after rest here is e owes [] forest all same = absurd forest
begins-joined fits spelling one n m node joint left after rest here is e owes (u ∷ us) forest all same =
    let alike = one node u after (nodes_spelling spelling us ++ rest) here all.0 (sym e ∙ same ∙ append_assoc (spelling u) (nodes_spelling spelling us) rest) in
    let below : IsForest (suc (suc n)) us = subst (λ v. IsForest (suc n) (v ∷ us)) (sym alike.0 ∙ is) forest in
    let more : suc (suc n) ≡ suc m = omega arith in
    (us, subst (λ k. IsForest k us) more below, all.1, alike.1)

-- a node takes some of the bytes
pub shorter : (s left after : List ℕ) → (s ≡ [] → ⊥) → left ≡ s ++ after → length after < length left
shorter [] left after some e = absurd (some refl)
shorter (b ∷ s) left after some e = omega (arith, ap length e, length-append s after)
