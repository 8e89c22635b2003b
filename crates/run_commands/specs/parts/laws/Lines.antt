-- Parts of a run that write lines and commit nothing.
use Rattle.std.proofs.Common.{◌≡◌, ℕ, List, [], ◌∷◌, ◌++◌, map, false, refl, sym, ap, subst, Option, flat_map}
use Rattle.world_store.specs.Words.{Stands}
use Rattle.site_store.specs.Words.{Kept, Takes, TakesPrefix, takes_nothing, names, held}
use Rattle.site_store.specs.declared.sites.Sites.{Sites}
use Rattle.repl_model.specs.Words.{World}
use Rattle.run_core.specs.Runs.{Event, writes, lines_of, is_refused}
use Rattle.run_core.specs.laws.Quiet.{IsQuiet}
use Rattle.run_commands.specs.parts.Parts.{Happened, StoppedIn}
use Rattle.run_commands.specs.parts.laws.Parts.{happened_quiet, stopped_quietly}

-- no bytes are a prefix of any line
pub none_begun : (t : Option (List ℕ)) (line : List ℕ) → TakesPrefix t t line
none_begun t line = record { prefix = []; rest = line; parts = refl; taken = takes_nothing t }

-- some lines
abbrev written : List (List ℕ) → List (Event World)
written lines = map writes lines

-- they commit nothing
pub lines_quiet : (lines : List (List ℕ)) → IsQuiet (written lines)
lines_quiet [] = tt
lines_quiet (l ∷ lines) = lines_quiet lines

-- they are written one after another
pub lines_in_turn : (lines : List (List ℕ)) → lines_of (written lines) ≡ flat_map (λ line. line) lines
lines_in_turn [] = refl
lines_in_turn (l ∷ lines) = ap (λ (x : List ℕ). l ++ x) (lines_in_turn lines)

-- and none of them refuses anything
pub none_refused : (lines : List (List ℕ)) → false ≡ is_refused (written lines)
none_refused [] = refl
none_refused (l ∷ lines) = none_refused lines

module _ {K : Type 0} (kept : K → Kept) (s0 s1 : Sites K) (same : held kept s1 ≡ held kept s0) (t u : Option (List ℕ)) (events : World → List (Event World)) (lines : World → List (List ℕ)) (are : (w : World) → Stands (names s0) (held kept s0) w → map writes (lines w) ≡ events w) where
  -- a part whose events are lines happened, if a sink took them
  pub lines_written : ((w : World) → Stands (names s0) (held kept s0) w → Takes t u (flat_map (λ line. line) (lines w))) → Happened kept s0 s1 t u events false
  lines_written took = happened_quiet kept s0 s1 same t u events false (λ w stands.
      subst (λ (es : List (Event World)). IsQuiet es × Takes t u (lines_of es) × (false ≡ is_refused es)) (are w stands) (lines_quiet (lines w), subst (Takes t u) (sym (lines_in_turn (lines w))) (took w stands), none_refused (lines w)))

  -- it stopped on its way, if the sink took a prefix of them
  pub lines_begun : ((w : World) → Stands (names s0) (held kept s0) w → TakesPrefix t u (flat_map (λ line. line) (lines w))) → StoppedIn kept s0 s1 t u events
  lines_begun took = stopped_quietly kept s0 s1 same t u events (λ w stands.
      subst (λ (es : List (Event World)). IsQuiet es × TakesPrefix t u (lines_of es)) (are w stands) (lines_quiet (lines w), subst (TakesPrefix t u) (sym (lines_in_turn (lines w))) (took w stands)))
