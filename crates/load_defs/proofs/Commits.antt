-- The commits of a load, server by server.
use Rattle.std.proofs.Common.{◌≡◌, ℕ, zero, suc, ◌<◌, ◌≤◌, Bool, true, false, cond, List, [], ◌∷◌, ◌++◌, length, map, drop, refl, sym, ap, ap₂, subst, ◌∙◌, arith, append_assoc, append-nil, Option, drop-cons}
use Rattle.site_store.specs.Words.{Contents, Takes, takes_nothing}
use Rattle.repl_model.specs.Words.{empty_server, Server, World}
use Rattle.run_core.specs.Runs.{Event, commits, last_world, lines_of, Went, Stopped}
use Rattle.run_core.specs.laws.Runs.{last_append, lines_append, no_part}
use Rattle.spelled_defs.specs.declared.defs.Defs.{Defs}
use Rattle.load_laws.specs.worlds.Loads.{load_server, server_at, load_first}
use Rattle.load_laws.specs.planned.Path.{gains, commits_from}
use Rattle.load_defs.specs.Loading.{load_commits}
use Rattle.load_defs.proofs.Worlds.{none_loaded}
use Rattle.load_laws.specs.laws.Gains.{stays_without_gains}

-- the commit at the next server, if it gets something new
abbrev commit_at : Defs → World → ℕ → List (Event World)
commit_at defs w n = cond (gains defs (server_at w n)) (commits (load_first defs (suc n) w) ∷ []) []

-- the commits at the first servers
abbrev pub done : Defs → World → ℕ → List (Event World)
done defs w zero = []
done defs w (suc n) = done defs w n ++ commit_at defs w n

-- the commits that are left
abbrev pub left : Defs → World → ℕ → List (Event World)
left defs w n = map commits (commits_from defs w n (drop n w))

-- the commit at the next server is the first that is left
next_left : (defs : Defs) (w : World) (n : ℕ) → n < length w → left defs w n ≡ commit_at defs w n ++ left defs w (suc n)
next_left defs w n lt =
    ap (λ (servers : World). map commits (commits_from defs w n servers)) (drop-cons w n (empty_server []) lt)
    ∙ pick (gains defs (server_at w n))
  where
    later : List World
    later = commits_from defs w (suc n) (drop (suc n) w)

    pick : (b : Bool) → map commits (cond b (load_first defs (suc n) w ∷ later) later) ≡ cond b (commits (load_first defs (suc n) w) ∷ []) [] ++ map commits later
    pick true = refl
    pick false = refl

-- the commits of a load are those that were done and those that are left
pub parted : (defs : Defs) (w : World) (n : ℕ) → n ≤ length w → load_commits defs w ≡ done defs w n ++ left defs w n
parted defs w zero le = refl
parted defs w (suc n) le =
    parted defs w n (omega arith)
    ∙ ap (λ (l : List (Event World)). done defs w n ++ l) (next_left defs w n (omega arith))
    ∙ sym (append_assoc (done defs w n) (commit_at defs w n) (left defs w (suc n)))

-- none of them writes a line
pub no_lines : (defs : Defs) (w : World) (n : ℕ) → lines_of (done defs w n) ≡ []
no_lines defs w zero = refl
no_lines defs w (suc n) = lines_append (done defs w n) (commit_at defs w n) ∙ ap₂ (λ (a b : List ℕ). a ++ b) (no_lines defs w n) (pick (gains defs (server_at w n)))
  where
    pick : (b : Bool) → lines_of (cond b (commits (load_first defs (suc n) w) ∷ []) []) ≡ []
    pick true = refl
    pick false = refl

-- a server that gets nothing new leaves the world as it is
pub same_world : (defs : Defs) (w : World) (n : ℕ) → gains defs (server_at w n) ≡ false → load_first defs (suc n) w ≡ load_first defs n w
same_world defs [] zero none = refl
same_world defs [] (suc n) none = refl
same_world defs (s ∷ ss) zero none = ap (λ (u : Server). u ∷ ss) (stays_without_gains defs s none)
same_world defs (s ∷ ss) (suc n) none = ap (λ (l : World). load_server defs s ∷ l) (same_world defs ss n none)

-- the last world that was committed is that of the servers which are loaded
pub last_done : (defs : Defs) (w : World) (n : ℕ) → last_world w (done defs w n) ≡ load_first defs n w
last_done defs w zero = sym (none_loaded defs w)
last_done defs w (suc n) = last_append w (done defs w n) (commit_at defs w n) ∙ ap (λ (v : World). last_world v (commit_at defs w n)) (last_done defs w n) ∙ pick (gains defs (server_at w n)) refl
  where
    pick : (b : Bool) → gains defs (server_at w n) ≡ b → last_world (load_first defs n w) (cond b (commits (load_first defs (suc n) w) ∷ []) []) ≡ load_first defs (suc n) w
    pick true e = refl
    pick false e = sym (same_world defs w n e)

module _ (Means : List (Option Contents) → World → Type 0) (defs : Defs) (w : World) (h : List (Option Contents)) (t : Option (List ℕ)) where
  -- a load that came to some server stopped there
  pub stopped_at : (n : ℕ) → n ≤ length w → Means h (load_first defs n w) → Stopped Means (load_commits defs w) w h t t
  stopped_at n le at = record {
    done = done defs w n;
    rest = left defs w n;
    part = [];
    split = parted defs w n le;
    stands = subst (Means h) (sym (last_done defs w n)) at;
    bytes = subst (Takes t t) (sym (append-nil (lines_of (done defs w n)) ∙ no_lines defs w n)) (takes_nothing t);
    is_part = no_part (left defs w n);
  }

  -- a load that came to all servers happened
  pub went_all : (n : ℕ) → n ≡ length w → Means h (load_first defs n w) → Went Means (load_commits defs w) w h t t
  went_all n all at = record {
    stands = subst (Means h) (sym (ap (last_world w) whole ∙ last_done defs w n)) at;
    bytes = subst (Takes t t) (sym (ap lines_of whole ∙ no_lines defs w n)) (takes_nothing t);
  }
    where
      none_left : (servers : World) (m : ℕ) → m ≡ length servers → drop m servers ≡ []
      none_left [] zero e = refl
      none_left [] (suc m) e = refl
      none_left (s ∷ ss) zero e = absurd (omega arith)
      none_left (s ∷ ss) (suc m) e = none_left ss m (omega arith)

      whole : load_commits defs w ≡ done defs w n
      whole = parted defs w n (omega arith) ∙ ap (λ (servers : World). done defs w n ++ map commits (commits_from defs w n servers)) (none_left w n all) ∙ append-nil (done defs w n)
