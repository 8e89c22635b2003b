-- Names of servers that agree, names that don't, and bytes that are no text.
use Rattle.std.proofs.Common.{◌≡◌, ◌<◌, ℕ, List, [], ◌∷◌, length, get_or, map, refl, sym, ap, ap₂, ◌∙◌, true, false, zero, suc, arith, not}
use Rattle.std.specs.Str.{bytes_eq, IsUtf8, is_utf8}
use Rattle.std.proofs.lemmas.Str.{IsUtf8-from_is_utf8}
use Rattle.std.proofs.lemmas.Bool.{false≢true, false_from_ne_true}
use Rattle.std.proofs.lemmas.Slice.Eq.{bytes_eq-Decides}
use Rattle.run_words.specs.declared.opening.ServerWord.{ServerWord}

-- the names of servers
abbrev names_of : List ServerWord → List (List ℕ)
names_of servers = map (λ server. server.name) servers

-- names that agree at each place are the same
pub same_names : (servers : List ServerWord) (names : List (List ℕ)) → length servers ≡ length names → ((k : ℕ) (d : ServerWord) → k < length servers → (get_or servers k d).name ≡ get_or names k []) → names_of servers ≡ names
same_names [] [] e at = refl
same_names [] (n ∷ ns) e at = absurd (omega arith)
same_names (s ∷ ss) [] e at = absurd (omega arith)
same_names (s ∷ ss) (n ∷ ns) e at = ap₂ (λ (x : List ℕ) (xs : List (List ℕ)). x ∷ xs) (at 0 s (omega arith)) (same_names ss ns (omega arith) (λ k d lt. at (suc k) d (omega arith)))

-- the name of the server at a place
name_at : (servers : List ServerWord) (k : ℕ) (d : ServerWord) → k < length servers → get_or (names_of servers) k [] ≡ (get_or servers k d).name
name_at [] k d lt = absurd (omega arith)
name_at (s ∷ ss) zero d lt = refl
name_at (s ∷ ss) (suc k) d lt = name_at ss k d (omega arith)

-- names that agree as bytes are equal, and others aren't
pub same_bytes : (a b : List ℕ) → not (bytes_eq a b) ≡ false → a ≡ b
same_bytes a b same = (bytes_eq-Decides a b).0 (grind (arith, same))

-- names that differ at a place differ
pub other_names : (servers : List ServerWord) (names : List (List ℕ)) (k : ℕ) (s : ServerWord) (n : List ℕ) → k < length servers → s ≡ get_or servers k s → n ≡ get_or names k [] → not (bytes_eq s.name n) ≡ true → names_of servers ≡ names → ⊥
other_names servers names k s n lt is at differ same =
    let e : s.name ≡ n = ap (λ (x : ServerWord). x.name) is ∙ sym (name_at servers k s lt) ∙ ap (λ (x : List (List ℕ)). get_or x k []) same ∙ sym at in
    let yes : bytes_eq s.name n ≡ true = (bytes_eq-Decides s.name n).1 e in
    false≢true (sym (ap not yes) ∙ differ)

-- two names
pub two_names : (a b : List ℕ) (names : List (List ℕ)) → length names ≡ 2 → a ≡ get_or names 0 [] → b ≡ get_or names 1 [] → a ∷ b ∷ [] ≡ names
two_names a b [] e first second = absurd (omega arith)
two_names a b (x ∷ []) e first second = absurd (omega arith)
two_names a b (x ∷ y ∷ []) e first second = ap₂ (λ (u v : List ℕ). u ∷ v ∷ []) first second
two_names a b (x ∷ y ∷ z ∷ more) e first second = absurd (omega arith)

-- bytes that aren't UTF-8 don't pass the test
pub not_text : (bytes : List ℕ) → ¬ (IsUtf8 bytes) → is_utf8 bytes ≡ false
not_text bytes other = false_from_ne_true (is_utf8 bytes) (λ is. other (IsUtf8-from_is_utf8 bytes is))

-- two names that aren't those of two servers
pub not_two_names : (a b : List ℕ) (names : List (List ℕ)) (n : List ℕ) → n ≡ get_or names 1 [] → a ∷ b ∷ [] ≡ names → bytes_eq n b ≡ true
not_two_names a b names n is same = (bytes_eq-Decides n b).1 (is ∙ ap (λ (x : List (List ℕ)). get_or x 1 []) (sym same))
