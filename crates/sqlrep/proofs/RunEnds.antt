-- Runs at servers that were just opened, and how they end.
use Rattle.std.proofs.Common.{◌≡◌, ◌≤◌, ◌∙◌, ℕ, List, [], ◌∷◌, map, true, refl, sym, ap, subst, suc, arith, Option, Some, None, IsTrue}
use Rattle.std.specs.List.{All, AllByRecursion}
use Rattle.world_store.specs.Words.{Stands}
use Rattle.site_store.specs.Words.{Contents, nothing, list_of, names, held}
use Rattle.site_store.specs.declared.sites.Sites.{Sites}
use Rattle.repl_model.specs.Words.{AreServerNames, empty_world, is_name, Status}
use Rattle.keep_sqlite.specs.AnyKeepers.{any_kept}
use Rattle.keep_sqlite.specs.declared.any_keeper.AnyKeeper.{AnyKeeper}
use Rattle.repl_types.specs.declared.status.Status.TheVariants as statuses
use Rattle.run_words.specs.Openings.{IsOpening, IsServerWord, AreWordsOf}
use Rattle.run_words.specs.declared.opening.Opening.{Opening}
use Rattle.run_words.specs.declared.opening.Opening.TheVariants.{Copy, Servers}
use Rattle.run_words.specs.declared.opening.ServerWord.{ServerWord}
use Rattle.session_core.specs.Inputs.{OfInput}
use Rattle.session_core.specs.Session.{Asks, Ran, is_done, run_events, server_names}
use Rattle.sqlrep.specs.Endings.{code_of, done_code, usage_code}
use Rattle.sqlrep.specs.Opened.{needed_servers, all_in_memory, AreOpened}
use Rattle.sqlrep.specs.Runs.{RanWhole}
use Rattle.sqlrep.proofs.Needed.{are_needed, names_needed}
use Rattle.sqlrep.proofs.NewServers.{all_apart, all_held}

-- ---- what is asked of the servers

-- the names of server words are names
each_name : (servers : List ServerWord) → All IsServerWord servers → AllByRecursion (λ name. IsTrue (is_name name)) (map (λ server. server.name) servers)
each_name [] each = tt
each_name (s ∷ ss) each = ((each 0 s (omega arith)).name, each_name ss (λ i d lt. each (suc i) d (omega arith)))

spelled : (opening : Opening) → IsOpening opening → AllByRecursion (λ name. IsTrue (is_name name)) (server_names opening)
spelled Copy is = (refl, (refl, tt))
spelled (Servers cells servers) is = each_name servers is.1.each

-- the servers that a run needs may be a group of servers
pub needed_names : (opening : Opening) → IsOpening opening → AreServerNames (server_names opening)
needed_names opening is =
    let needed = are_needed opening is in
    record { few = needed.few; spelled = spelled opening is; differ = all_apart (server_names opening) needed.apart }

module _ {S : Type 0} (opening : Opening) (given : List (List ℕ)) (sites : Sites (AnyKeeper S)) (asked : AreWordsOf given opening) (opened : AreOpened (needed_servers opening) (list_of sites)) where
  -- their names are those that the run needs
  named : names sites ≡ server_names opening
  named = opened.named ∙ names_needed opening

  -- the words ask for a run at servers that were opened for it
  pub asks_here : Asks given (names sites) opening
  asks_here = record { words = asked; servers = sym named }

  -- if all are in memory, they stand for the empty world
  pub stands_empty : IsTrue (all_in_memory (needed_servers opening)) → ((names : List (List ℕ)) → AreServerNames names → Stands names (map (λ name. Some nothing) names) (empty_world names)) → Stands (names sites) (held any_kept sites) (empty_world (server_names opening))
  stands_empty in_memory empty =
      let all : held any_kept sites ≡ map (λ name. Some nothing) (server_names opening) = all_held (needed_servers opening) (list_of sites) opened in_memory ∙ ap (map (λ name. Some nothing)) (names_needed opening) in
      subst (λ (h : List (Option Contents)). Stands (names sites) h (empty_world (server_names opening))) (sym all)
      (subst (λ (l : List (List ℕ)). Stands l (map (λ name. Some nothing) (server_names opening)) (empty_world (server_names opening))) (sym named) (empty (server_names opening) (needed_names opening asked.right)))

-- ---- how it ends

-- a status with the number of a run that came to its end
pub done_by_code : (status : Status) → code_of status ≤ done_code → is_done status ≡ true
done_by_code statuses.Ok le = refl
done_by_code statuses.Refused le = refl
done_by_code statuses.Usage le = absurd (omega arith)
done_by_code (statuses.KeeperFault server) le = absurd (omega arith)
done_by_code statuses.InputFault le = absurd (omega arith)
done_by_code statuses.OutputFault le = absurd (omega arith)
done_by_code statuses.Memory le = absurd (omega arith)
done_by_code statuses.InputTooLong le = absurd (omega arith)
done_by_code (statuses.Damaged server area cause) le = absurd (omega arith)

-- and with that of words that ask for nothing
pub usage_by_code : (status : Status) → code_of status ≡ usage_code → status ≡ statuses.Usage
usage_by_code statuses.Ok is = absurd (omega arith)
usage_by_code statuses.Refused is = absurd (omega arith)
usage_by_code statuses.Usage is = refl
usage_by_code (statuses.KeeperFault server) is = absurd (omega arith)
usage_by_code statuses.InputFault is = absurd (omega arith)
usage_by_code statuses.OutputFault is = absurd (omega arith)
usage_by_code statuses.Memory is = absurd (omega arith)
usage_by_code statuses.InputTooLong is = absurd (omega arith)
usage_by_code (statuses.Damaged server area cause) is = absurd (omega arith)

-- a run that happened from the empty world on
pub ran_whole : (opening : Opening) (names : List (List ℕ)) (h : List (Option Contents)) (input before now : Option (List ℕ)) (status : Status) (code : ℕ) → code ≡ code_of status
    → OfInput input (λ bytes. Ran (Stands names) (run_events opening bytes (empty_world (server_names opening))) (empty_world (server_names opening)) h before now status) → OfInput input (RanWhole opening before now code)
ran_whole opening names h None before now status code is ran = (ran.0, record { taken = ran.1.went.bytes; status = is ∙ ap code_of ran.1.status })
ran_whole opening names h (Some bytes) before now status code is ran = record { taken = ran.went.bytes; status = is ∙ ap code_of ran.status }
