-- The servers stand for the next world of a load once one more of them holds what that calls for.
use Rattle.std.proofs.Common.{◌≡◌, ℕ, zero, suc, ◌<◌, List, [], ◌∷◌, length, map, set, get_or, refl, sym, ap, subst, ◌∙◌, arith, Option, Some, None}
use Rattle.std.specs.List.{AllZip}
use Rattle.std.proofs.lemmas.List.{length-map}
use Rattle.world_store.specs.Words.{Holds, Becomes, Reveals, Stands}
use Rattle.site_store.specs.Words.{Contents}
use Rattle.repl_model.specs.Words.{IsSound, empty_server, Server, World}
use Rattle.stored_defs.specs.laws.Standing.{zip_at_place}
use Rattle.spelled_defs.specs.declared.defs.Defs.{Defs}
use Rattle.load_laws.specs.worlds.Loads.{load_server, server_at, load_at}
use Rattle.load_laws.specs.stored.LoadedServers.{is_loaded}
use Rattle.load_laws.specs.laws.StoredServers.{loaded_server_holds, others_hold_load}

-- what holds of two lists place by place, by what holds at each place
zip_others : {X Y : Type 0} (R S : X → Y → Type 0) (d : X) (xs : List X) (ys : List Y) → AllZip R xs ys → ((m : ℕ) (b : Y) → R (get_or xs m d) b → S (get_or xs m d) b) → AllZip S xs ys
zip_others R S d [] [] all others = tt
zip_others R S d [] (b ∷ bs) all others = absurd all
zip_others R S d (a ∷ ls) [] all others = absurd all
zip_others R S d (a ∷ ls) (b ∷ bs) all others = (others 0 b all.0, zip_others R S d ls bs all.1 (λ m c r. others (suc m) c r))

-- the same with both set at one place
zip_set : {X Y : Type 0} (R S : X → Y → Type 0) (d : X) (xs : List X) (ys : List Y) (n : ℕ) (x : X) (y : Y) → AllZip R xs ys → ((m : ℕ) (b : Y) → R (get_or xs m d) b → S (get_or xs m d) b) → S x y → AllZip S (set xs n x) (set ys n y)
zip_set R S d [] [] n x y all others here = tt
zip_set R S d [] (b ∷ bs) n x y all others here = absurd all
zip_set R S d (a ∷ ls) [] n x y all others here = absurd all
zip_set R S d (a ∷ ls) (b ∷ bs) zero x y all others here = (here, zip_others R S d ls bs all.1 (λ m c r. others (suc m) c r))
zip_set R S d (a ∷ ls) (b ∷ bs) (suc n) x y all others here = (others 0 b all.0, zip_set R S d ls bs n x y all.1 (λ m c r. others (suc m) c r) here)

-- the names of servers stay when one of them is loaded
names_stay : (defs : Defs) (w : World) (n : ℕ) → map (λ server. server.name) (load_at defs n w) ≡ map (λ server. server.name) w
names_stay defs [] n = refl
names_stay defs (s ∷ ss) zero = refl
names_stay defs (s ∷ ss) (suc n) = ap (λ (l : List (List ℕ)). s.name ∷ l) (names_stay defs ss n)

-- there are as many servers as names
pub count_named : (names : List (List ℕ)) (h : List (Option Contents)) (w : World) → Stands names h w → length w ≡ length names
count_named names h w stands = sym (length-map w (λ (server : Server). server.name)) ∙ ap length stands.named

-- the servers stand for a world if they hold the same
pub stands_held : (names : List (List ℕ)) (h h2 : List (Option Contents)) (w : World) → h2 ≡ h → Stands names h w → Stands names h2 w
stands_held names h h2 w same stands = subst (λ (l : List (Option Contents)). Stands names l w) (sym same) stands

-- what a server of a world reveals
pub revealed_at : (names : List (List ℕ)) (h : List (Option Contents)) (w : World) (n : ℕ) → Stands names h w → n < length names → (c : Contents) × (get_or h n None ≡ Some c) × Holds w (server_at w n) c
revealed_at names h w n stands lt = zip_at_place (Reveals w) w h n (empty_server []) None stands.servers (omega (arith, lt, count_named names h w stands))

-- once a server holds what the load makes of it, the servers stand for the world after
pub stands_next : (names : List (List ℕ)) (h : List (Option Contents)) (defs : Defs) (w : World) (n : ℕ) (c d : Contents) → Stands names h w → IsSound (load_at defs n w) → Holds w (server_at w n) c → Becomes is_loaded (load_at defs n w) (load_server defs (server_at w n)) c d → Stands names (set h n (Some d)) (load_at defs n w)
stands_next names h defs w n c d stands sound holds becomes = record {
  sound = sound;
  named = names_stay defs w n ∙ stands.named;
  servers = zip_set (Reveals w) (Reveals (load_at defs n w)) (empty_server []) w h n (load_server defs (server_at w n)) (Some d) stands.servers
      (λ m told r. (r.0, r.1, others_hold_load defs w n m r.0 stands.sound r.2))
      (d, refl, loaded_server_holds defs w n c d stands.sound holds becomes);
}
