-- The servers that a run needs are servers.
use Rattle.std.proofs.Common.{◌≡◌, ◌<◌, ℕ, List, [], ◌∷◌, length, get_or, map, codes, refl, sym, ◌∙◌, zero, suc, arith, AllPairs}
use Rattle.std.proofs.lemmas.Bool.{false≢true}
use Rattle.std.proofs.lemmas.List.{length-map}
use Rattle.std.proofs.lemmas.Slice.Eq.{bytes_eq-Decides}
use Rattle.site_store.specs.Words.{AreServers, AreApart}
use Rattle.run_words.specs.declared.opening.Opening.{Opening}
use Rattle.run_words.specs.declared.opening.Opening.TheVariants.{Copy, Servers}
use Rattle.run_words.specs.declared.opening.ServerWord.{ServerWord}
use Rattle.run_words.specs.Openings.{IsOpening, GoTogether}
use Rattle.session_core.specs.Session.{server_names}
use Rattle.sqlrep.specs.Opened.{needed_servers}

-- the name at a place
name_at : (servers : List ServerWord) (k : ℕ) (d : ServerWord) → k < length servers → get_or (map (λ s. s.name) servers) k [] ≡ (get_or servers k d).name
name_at [] k d lt = absurd (omega arith)
name_at (s ∷ ss) zero d lt = refl
name_at (s ∷ ss) (suc k) d lt = name_at ss k d (omega arith)

-- some server, if there is one at a place
a_server : (servers : List ServerWord) (k : ℕ) → k < length servers → ServerWord
a_server [] k lt = absurd (omega arith)
a_server (s ∷ ss) k lt = s

-- servers that go together have names of their own
apart : (servers : List ServerWord) → AllPairs GoTogether servers → AreApart (map (λ s. s.name) servers)
apart servers pairs i j before within =
    let at : j < length servers = omega (arith, length-map {A = ServerWord} {B = List ℕ}) in
    let d = a_server servers j at in λ same.
    (pairs i j d before at).names (sym (name_at servers i d (omega arith)) ∙ same ∙ name_at servers j d at)

-- the two of `copy` have
two_apart : AreApart (server_names Copy)
two_apart zero zero before within same = absurd (omega arith)
two_apart zero (suc zero) before within same = false≢true ((bytes_eq-Decides (codes "src") (codes "dst")).1 same)
two_apart zero (suc (suc j)) before within same = absurd (omega arith)
two_apart (suc i) zero before within same = absurd (omega arith)
two_apart (suc i) (suc zero) before within same = absurd (omega arith)
two_apart (suc i) (suc (suc j)) before within same = absurd (omega arith)

-- the servers that a run needs are servers
pub are_needed : (opening : Opening) → IsOpening opening → AreServers (server_names opening)
are_needed Copy is = record { some = omega arith; few = omega arith; apart = two_apart }
are_needed (Servers cells servers) is = record {
  some = omega (arith, is.1.some, length-map {A = ServerWord} {B = List ℕ});
  few = omega (arith, is.1.few, length-map {A = ServerWord} {B = List ℕ});
  apart = apart servers is.1.together;
}

-- they have the names of the words that say how they are kept
pub names_needed : (opening : Opening) → map (λ word. word.name) (needed_servers opening) ≡ server_names opening
names_needed Copy = refl
names_needed (Servers cells servers) = refl
