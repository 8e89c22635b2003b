-- Words are of one opening at most.
use Rattle.std.proofs.Common.{◌≡◌, ◌≢◌, ℕ, ◌<◌, List, [], ◌∷◌, ◌++◌, Some, codes, length, get_or, map, refl, sym, ap, ap₂, subst, ◌∙◌, arith}
use Rattle.std.proofs.lemmas.Option.{same_Some}
use Rattle.clap.specs.Words.{Row, all_of, first_of, matches_of}
use Rattle.clap.proofs.OnLiterals.{clap_on_literals}
use Rattle.run_words.specs.declared.opening.Opening.{Opening}
use Rattle.run_words.specs.declared.opening.Opening.TheVariants.{Copy, Servers}
use Rattle.run_words.specs.declared.opening.ServerWord.{ServerWord}
use Rattle.run_words.specs.Command.{rows, server_app, with_program}
use Rattle.run_words.specs.Openings.{word_of, AreServerWords, IsCellCount, SaysCells, AreScriptWords, AreWordsOf}
use Rattle.run_words.proofs.CellCounts.{one_count}
use Rattle.run_words.proofs.OneServer.{IsPlain, same_servers}

-- bytes with `=` among them aren't plain
has_sign : (a x : List ℕ) → IsPlain (a ++ 61 ∷ x) → ⊥
has_sign [] x plain = plain.0 refl
has_sign (b ∷ a) x plain = has_sign a x plain.1

-- no server has the word `copy`
no_copy : (server : ServerWord) → codes "copy" ≡ word_of server → ⊥
no_copy server e = has_sign server.name server.path (subst IsPlain e ((λ h. omega arith), ((λ h. omega arith), ((λ h. omega arith), ((λ h. omega arith), tt)))))

-- words of servers aren't the one word `copy`
servers_or_copy : (servers : List ServerWord) → codes "copy" ∷ [] ≡ map word_of servers → ⊥
servers_or_copy [] e = cc
servers_or_copy (server ∷ servers) e = no_copy server cc

-- the command reads the one word `copy` as that of a server
copy_as_server : all_of (codes "servers") (rows (codes "copy" ∷ [])) ≡ Some (codes "copy" ∷ [])
unfolding clap_on_literals rows
copy_as_server = refl

-- so it isn't the words of a script
script_or_copy : (words : List (List ℕ)) (cells : ℕ) (servers : List ServerWord) → words ≡ codes "copy" ∷ [] → AreScriptWords words cells servers → ⊥
script_or_copy words cells servers copy script = servers_or_copy servers (same_Some _ _ (sym copy_as_server ∙ ap (λ (ws : List (List ℕ)). all_of (codes "servers") (rows ws)) (sym copy) ∙ script.values))

-- words are of one opening at most
pub one_opening : (words : List (List ℕ)) (first second : Opening) → AreWordsOf words first → AreWordsOf words second → first ≡ second
one_opening words Copy Copy p q = refl
one_opening words Copy (Servers n ys) p q = absurd (script_or_copy words n ys p.spelled q.spelled)
one_opening words (Servers m xs) Copy p q = absurd (script_or_copy words m xs q.spelled p.spelled)
one_opening words (Servers m xs) (Servers n ys) p q =
    let cells = one_count _ m n p.right.0 q.right.0 p.spelled.option q.spelled.option in
    let servers = same_servers xs ys p.right.1.each q.right.1.each (same_Some _ _ (sym p.spelled.values ∙ q.spelled.values)) in
    ap₂ Servers cells servers

-- the rows of a parse are those of the words
pub rows_read : (found : List Row) (all words : List (List ℕ)) → found ≡ matches_of server_app all → all ≡ with_program words → found ≡ rows words
unfolding rows
rows_read found all words is same = is ∙ ap (matches_of server_app) same

-- words whose option says no number of cells are of no opening
pub no_cells : (words : List (List ℕ)) (opening : Opening) → words ≢ codes "copy" ∷ []
    → ((cells : ℕ) → IsCellCount cells → SaysCells (first_of (codes "cells") (rows words)) cells → ⊥) → AreWordsOf words opening → ⊥
no_cells words Copy other none asked = other asked.spelled
no_cells words (Servers cells servers) other none asked = none cells asked.right.0 asked.spelled.option

-- nor are those of which the command reads no servers of one run
pub no_servers : (words : List (List ℕ)) (opening : Opening) → words ≢ codes "copy" ∷ []
    → ((servers : List ServerWord) → AreServerWords servers → all_of (codes "servers") (rows words) ≢ Some (map word_of servers)) → AreWordsOf words opening → ⊥
no_servers words Copy other none asked = other asked.spelled
no_servers words (Servers cells servers) other none asked = none servers asked.right.1 asked.spelled.values

-- a list of one element
pub one_element : {X Y : Type 0} (f : X → Y) (xs : List X) (x : X) → 0 < length xs → length xs < 2 → x ≡ get_or xs 0 x → map f xs ≡ f x ∷ []
one_element f [] x some few is = absurd (omega arith)
one_element f (y ∷ []) x some few is = ap (λ (z : _). f z ∷ []) (sym is)
one_element f (y ∷ z ∷ more) x some few is = absurd (omega arith)
