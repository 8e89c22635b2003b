-- Once one server holds what a longer log calls for, the servers stand for the world with that log: proofs.
use Rattle.std.proofs.Common.{◌≡◌, ℕ, ◌<◌, List, [], length, set, get_or, refl, sym, ap, subst, ◌∙◌, arith, Some}
use Rattle.std.proofs.lemmas.Option.{slice_get-get_or}
use Rattle.repl_model.specs.Words.{LogRecord, IsSound, empty_server, Server, World, server_named, server_in, with_more, grown}
use Rattle.world_store.specs.Words.{Holds, Becomes, Stands, stands_with_server}
use Rattle.site_store.specs.Words.{Contents, Kept, AllClosed, names, held, work}
use Rattle.site_store.specs.declared.sites.Sites.{Sites}
use Rattle.stored_commits.specs.logs.LongerServers.{is_of_log}
use Rattle.stored_defs.specs.laws.Standing.{same_count, name_at_place, server_at_place}
use Rattle.stored_commits.specs.laws.Logged.{longer_holds, others_hold_longer}

module _ {K : Type 0} (kept : K → Kept) (s0 : Sites K) (closed : AllClosed (work kept s0)) (w : World) (stands : Stands (names s0) (held kept s0) w) (n : ℕ) (lt : n < length (names s0)) where
  -- the name of the server
  abbrev name : List ℕ
  name = get_or (names s0) n []

  -- the server that has it
  pub found_there : server_named name w ≡ Some (server_in w n)
  found_there = server_at_place kept s0 closed w stands name n s0.servers.apart (record { within = lt; is = refl })

  -- once the server holds what its longer log calls for, the servers stand for the world with that log
  pub stands_grown : (records : List LogRecord) (c d : Contents) → IsSound (grown name records w) → Holds w (server_in w n) c → Becomes is_of_log (grown name records w) (with_more records (server_in w n)) c d → Stands (names s0) (set (held kept s0) n (Some d)) (grown name records w)
  stands_grown records c d sound holds becomes = subst Grows (sym named) stands_there sound found_there becomes
    where
      server : Server
      server = server_in w n

      named : name ≡ server.name
      named = ap (λ (l : List (List ℕ)). get_or l n []) (sym stands.named) ∙ name_at_place w n

      -- what is to be shown, by the name of the server
      Grows : List ℕ → Type 0
      Grows l = IsSound (grown l records w) → server_named l w ≡ Some server → Becomes is_of_log (grown l records w) (with_more records server) c d → Stands (names s0) (set (held kept s0) n (Some d)) (grown l records w)

      stands_there : Grows server.name
      stands_there sound found becomes = stands_with_server (names s0) (held kept s0) w n server (with_more records) d stands (slice_get-get_or w n (empty_server []) (omega (arith, lt, same_count kept s0 closed w stands))) (λ s. refl) sound
          (longer_holds server.name records w server c d stands.sound found holds becomes)
          (λ other e i differs h. others_hold_longer server.name records w other e stands.sound i differs h)
