-- The worlds on the way of a load, server by server.
use Rattle.std.proofs.Common.{◌≡◌, ℕ, zero, suc, [], ◌∷◌, length, refl, ap}
use Rattle.repl_model.specs.Words.{World}
use Rattle.spelled_defs.specs.declared.defs.Defs.{Defs}
use Rattle.load_laws.specs.worlds.Loads.{load_server, server_at, load_at, load_first}

-- after none is loaded the world is as it was
pub none_loaded : (defs : Defs) (w : World) → load_first defs 0 w ≡ w
none_loaded defs [] = refl
none_loaded defs (s ∷ ss) = refl

-- the next server is as it was
pub next_server : (defs : Defs) (n : ℕ) (w : World) → server_at (load_first defs n w) n ≡ server_at w n
next_server defs zero [] = refl
next_server defs zero (s ∷ ss) = refl
next_server defs (suc n) [] = refl
next_server defs (suc n) (s ∷ ss) = next_server defs n ss

-- once it is loaded too, one more is
pub next_loaded : (defs : Defs) (n : ℕ) (w : World) → load_at defs n (load_first defs n w) ≡ load_first defs (suc n) w
next_loaded defs zero [] = refl
next_loaded defs zero (s ∷ ss) = refl
next_loaded defs (suc n) [] = refl
next_loaded defs (suc n) (s ∷ ss) = ap (λ (l : World). load_server defs s ∷ l) (next_loaded defs n ss)

-- there are as many servers
pub first_length : (defs : Defs) (n : ℕ) (w : World) → length (load_first defs n w) ≡ length w
first_length defs zero [] = refl
first_length defs zero (s ∷ ss) = refl
first_length defs (suc n) [] = refl
first_length defs (suc n) (s ∷ ss) = ap suc (first_length defs n ss)
