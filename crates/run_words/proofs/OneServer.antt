-- A word is of one server at most.
use Rattle.std.proofs.Common.{◌≡◌, ◌≢◌, ℕ, zero, suc, ◌+◌, ◌<◌, true, List, [], ◌∷◌, ◌++◌, length, get_or, take, map, IsTrue, Option, Bor, refl, sym, ap, ◌∙◌, arith, lit<}
use Rattle.std.specs.List.{All, AllByRecursion, list_all}
use Rattle.std.specs.Option.{MatchOption}
use Rattle.std.proofs.lemmas.Bool.{and_parts}
use Rattle.std.proofs.lemmas.Bool.Decides.{nat_tests}
use Rattle.std.proofs.lemmas.List.{get_or-map, length-map, map-append, map_more}
use Rattle.std.proofs.lemmas.Str.Pattern.{IsSplitOnceResult, split_after}
use Rattle.repl_types.specs.Name.{is_letter, is_name_byte, is_name}
use Rattle.run_words.specs.declared.opening.ServerWord.{ServerWord}
use Rattle.run_words.specs.Openings.{word_of, IsServerWord}

-- no byte is `=`
abbrev pub IsPlain : List ℕ → Type 0
IsPlain bytes = AllByRecursion (λ b. b ≢ 61) bytes

plain_letter : (b : ℕ) → is_letter b ≡ true → b ≢ 61
plain_letter b h = grind (arith, nat_tests)

plain_byte : (b : ℕ) → is_name_byte b ≡ true → b ≢ 61
plain_byte b h = grind (arith, nat_tests)

plain_bytes : (bytes : List ℕ) → list_all is_name_byte bytes ≡ true → IsPlain bytes
plain_bytes [] h = tt
plain_bytes (b ∷ bytes) h = let p = and_parts _ _ h in (plain_byte b p.0, plain_bytes bytes p.1)

-- no byte of a name is `=`
name_plain : (name : List ℕ) → IsTrue (is_name name) → IsPlain name
name_plain [] h = tt
name_plain (b ∷ bytes) h = let p = and_parts _ _ h in (plain_letter b (and_parts _ _ p.0).0, plain_bytes bytes p.1)

plain_at : (bytes : List ℕ) → IsPlain bytes → (i : ℕ) → i < length bytes → get_or bytes i 0 ≢ 61
plain_at [] plain i lt = absurd (omega arith)
plain_at (b ∷ bytes) plain zero lt = plain.0
plain_at (b ∷ bytes) plain (suc i) lt = plain_at bytes plain.1 i (omega arith)

-- a server's word is split into its name and its path
pub split_server : (word : List ℕ) (server : ServerWord) (parts : Option (Bor (List ℕ) × Bor (List ℕ))) → IsSplitOnceResult 61 word parts → IsServerWord server → word ≡ word_of server
    → MatchOption parts ⊥ (λ found. (found.0.now ≡ server.name) × (found.1.now ≡ server.path))
split_server word server parts split right same = split_after 61 word server.name server.path parts split (lit< tt) same (plain_at server.name (name_plain server.name right.name))

-- bytes are split at their first `=` in one way
one_split : (a b x y : List ℕ) → IsPlain a → IsPlain b → a ++ 61 ∷ x ≡ b ++ 61 ∷ y → (a ≡ b) × (x ≡ y)
one_split [] [] x y p q e = (refl, cc)
one_split [] (c ∷ b) x y p q e = absurd (q.0 cc)
one_split (c ∷ a) [] x y p q e = absurd (p.0 cc)
one_split (c ∷ a) (d ∷ b) x y p q e = let r = one_split a b x y p.1 q.1 cc in (cc, r.1)

-- servers of one name and one path are one
same_parts : (a b : ServerWord) → a.name ≡ b.name → a.path ≡ b.path → a ≡ b
same_parts a b e f =
    let named : (name : List ℕ) → ServerWord = λ name. record { name = name; path = a.path } in
    let kept : (path : List ℕ) → ServerWord = λ path. record { name = b.name; path = path } in
    ap named e ∙ ap kept f

-- two servers with one word are one
one_server_of_word : (a b : ServerWord) → IsServerWord a → IsServerWord b → word_of a ≡ word_of b → a ≡ b
one_server_of_word a b p q e =
    let r = one_split a.name b.name a.path b.path (name_plain a.name p.name) (name_plain b.name q.name) e in
    same_parts a b r.0 r.1

-- servers with the same words are the same
pub same_servers : (xs ys : List ServerWord) → All IsServerWord xs → All IsServerWord ys → map word_of xs ≡ map word_of ys → xs ≡ ys
same_servers [] [] p q e = refl
same_servers [] (y ∷ ys) p q e = absurd cc
same_servers (x ∷ xs) [] p q e = absurd cc
same_servers (x ∷ xs) (y ∷ ys) p q e =
    let first : x ≡ y = one_server_of_word x y (p 0 x (omega arith)) (q 0 y (omega arith)) cc in
    let rest : xs ≡ ys = same_servers xs ys (λ k d lt. p (suc k) d (omega arith)) (λ k d lt. q (suc k) d (omega arith)) cc in
    cc

-- a server more has a word more
pub one_word_more : {X Y Z : Type 0} (f : X → Y) (g : Z → Y) (xs : List X) (i : ℕ) (d : X) (zs : List Z) (z : Z) → i < length xs → f (get_or xs i d) ≡ g z → map f (take i xs) ≡ map g zs
    → map f (take (i + 1) xs) ≡ map g (zs ++ z ∷ [])
one_word_more {X} {Y} f g xs i d zs z lt same before =
    map_more f xs i d lt ∙ ap (λ (ys : List Y). ys ++ f (get_or xs i d) ∷ []) before ∙ ap (λ (y : Y). map g zs ++ y ∷ []) same ∙ sym (map-append g zs (z ∷ []))

-- a word that is of no server isn't among the words of servers
pub no_server_at : (words : List (List ℕ)) (servers : List ServerWord) (i : ℕ) (word : List ℕ) → i < length words → word ≡ get_or words i [] → ((server : ServerWord) → IsServerWord server → word ≢ word_of server)
    → All IsServerWord servers → words ≢ map word_of servers
no_server_at words servers i word lt is none each same =
    let missing : ServerWord = record { name = []; path = [] } in
    let within : i < length servers = omega (arith, ap length same, length-map servers word_of) in
    none (get_or servers i missing) (each i missing within) (is ∙ ap (λ (ws : List (List ℕ)). get_or ws i []) same ∙ get_or-map word_of servers i missing [] within)
