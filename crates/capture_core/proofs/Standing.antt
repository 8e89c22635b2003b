-- Once one server holds what its captured units call for, the servers stand for the world with them: proofs.
use Rattle.std.proofs.Common.{◌≡◌, ℕ, ◌<◌, Bool, cond, List, [], ◌++◌, length, set, get_or, sym, ap, subst, ◌∙◌, arith, Option, Some, None, option_map, slice_get}
use Rattle.std.proofs.lemmas.List.{get_or-map, length-map}
use Rattle.std.proofs.lemmas.Option.{same_Some, slice_get-get_or}
use Rattle.repl_model.specs.Words.{Unit, IsSound, empty_server, Server, World, server_named, server_in, name_itself, In}
use Rattle.world_store.specs.Words.{Holds, Becomes, Reveals, Stands, stands_with_server}
use Rattle.site_store.specs.Words.{Contents, Kept, AllClosed, names, held, work}
use Rattle.site_store.specs.declared.sites.Sites.{Sites}
use Rattle.world_commits.specs.captures.Captures.{with_units, uncaptured, captured_server, captured}
use Rattle.world_commits.specs.captures.StaysSound.{AreNext}
use Rattle.world_commits.specs.captures.laws.Servers.{name_stays, named_captured}
use Rattle.stored_commits.specs.captures.CapturedServers.{is_of_capture}
use Rattle.stored_defs.specs.laws.Standing.{zip_at_place, in_at, same_count, name_at_place, server_at_place}
use Rattle.capture_core.proofs.UnitsInTurn.{captured_both, left_after}
use Rattle.world_commits.specs.laws.CapturesStaySound.{captures_sound}
use Rattle.stored_commits.specs.laws.CapturedWorlds.{captures_hold, others_hold_captures}

module _ {K : Type 0} (kept : K → Kept) (s0 : Sites K) (closed : AllClosed (work kept s0)) (w : World) (stands : Stands (names s0) (held kept s0) w) (n : ℕ) (lt : n < length (names s0)) where
  -- the server
  abbrev server : Server
  server = server_in w n

  -- its name
  abbrev name : List ℕ
  name = server.name

  -- the name at a place is that of the server there
  named : (m : ℕ) → get_or (names s0) m [] ≡ (server_in w m).name
  named m = ap (λ (l : List (List ℕ)). get_or l m []) (sym stands.named) ∙ name_at_place w m

  -- the world has as many servers
  pub within : n < length w
  within = omega (arith, lt, same_count kept s0 closed w stands)

  -- the server that has the name
  found_there : server_named name w ≡ Some server
  found_there = server_at_place kept s0 closed w stands name n s0.servers.apart (record { within = lt; is = named n })

  -- ---- after some units

  -- the server has captured them
  own_server : (us : List Unit) → captured_server name us server ≡ with_units us server
  own_server us = ap (λ (b : Bool). cond b (with_units us server) server) (name_itself name)

  -- it stands at its place
  at_place : (us : List Unit) → server_in (captured name us w) n ≡ with_units us server
  at_place us = get_or-map (captured_server name us) w n (empty_server []) (empty_server []) within ∙ own_server us

  -- it is one of the world
  pub member : (us : List Unit) → In (with_units us server) (captured name us w)
  member us = subst (λ (s : Server). In s (captured name us w)) (at_place us) (in_at (captured name us w) n (empty_server []) (omega (arith, within, length-map w (captured_server name us))))

  -- it is found by its name
  found_after : (us : List Unit) → server_named name (captured name us w) ≡ Some (with_units us server)
  found_after us = named_captured name us name w ∙ ap (option_map (captured_server name us)) found_there ∙ ap (λ (s : Server). Some s) (own_server us)

  -- the world is sound
  pub sound_after : (us : List Unit) → AreNext server us → IsSound (captured name us w)
  sound_after us next = captures_sound name us w stands.sound (λ s found. subst (λ (x : Server). AreNext x us) (same_Some server s (sym found_there ∙ found)) next)

  -- what it holds
  pub holds_after : (us : List Unit) (h : List (Option Contents)) → Stands (names s0) h (captured name us w) → (c : Contents) × (get_or h n None ≡ Some c) × Holds (captured name us w) (with_units us server) c
  holds_after us h now =
      let r = zip_at_place (Reveals (captured name us w)) (captured name us w) h n (empty_server []) None now.servers (omega (arith, within, length-map w (captured_server name us))) in
      (r.0, r.1, subst (λ (s : Server). Holds (captured name us w) s r.0) (at_place us) r.2)

  -- once it holds what more units call for, the servers stand for the world with them
  pub stands_captured : (us vs rest : List Unit) (h : List (Option Contents)) (c d : Contents) → uncaptured server ≡ (us ++ vs) ++ rest → uncaptured server ≡ us ++ (vs ++ rest) → Stands (names s0) h (captured name us w) → Holds (captured name us w) (with_units us server) c → Becomes is_of_capture (captured name vs (captured name us w)) (with_units vs (with_units us server)) c d
      → Stands (names s0) (set h n (Some d)) (captured name (us ++ vs) w)
  stands_captured us vs rest h c d split parts now has becomes = subst (Stands (names s0) (set h n (Some d))) (captured_both name us vs w)
      (subst Captures (name_stays us server) stands_there (subst IsSound (sym (captured_both name us vs w)) (sound_after (us ++ vs) (rest, split))) (found_after us) becomes)
    where
      between : World
      between = captured name us w

      mine : Server
      mine = with_units us server

      sound_between : IsSound between
      sound_between = sound_after us (vs ++ rest, parts)

      -- what is to be shown, by the name of the server
      Captures : List ℕ → Type 0
      Captures l = IsSound (captured l vs between) → server_named l between ≡ Some mine → Becomes is_of_capture (captured l vs between) (with_units vs mine) c d → Stands (names s0) (set h n (Some d)) (captured l vs between)

      there : slice_get between n ≡ Some mine
      there = slice_get-get_or between n (empty_server []) (omega (arith, within, length-map w (captured_server name us))) ∙ ap (λ (s : Server). Some s) (at_place us)

      stands_there : Captures mine.name
      stands_there sound found becomes = stands_with_server (names s0) h between n mine (with_units vs) d now there (name_stays vs) sound
          (captures_hold mine.name vs between mine c d sound_between found (rest, left_after us (vs ++ rest) server parts) has becomes)
          (λ other e i differs holds. others_hold_captures mine.name vs between other e sound_between i differs holds)
