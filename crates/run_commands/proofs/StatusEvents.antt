-- How `status` of a server is carried out.
use Rattle.std.proofs.Common.{◌≡◌, ℕ, List, map, false, sym, ap, Option, Some}
use Rattle.std.specs.Option.{option_map_or}
use Rattle.repl_types.specs.declared.refusal.Refusal.TheVariants as refusals
use Rattle.repl_types.specs.declared.call_errors.ShowError.TheVariants as shows
use Rattle.run_core.specs.Runs.{Event, writes}
use Rattle.stored_defs.specs.laws.Standing.{server_at_place, no_server}
use Rattle.shows.specs.servers.Rules.{rules}
use Rattle.shows.specs.servers.Showing.{FailsToShow, IsUndamagedShow}
use Rattle.shows.specs.servers.Status.{status_lines, status_text}
use Rattle.run_commands.specs.parts.Causes.{PartHasCause}
use Rattle.run_commands.specs.parts.Parts.{Happened, StoppedIn}
use Rattle.run_commands.specs.parts.Refusing.{refused}
use Rattle.run_commands.specs.parts.RunErrors.{error_of_show}
use Rattle.run_commands.specs.declared.parts.run_error.RunError.{RunError}
use Rattle.run_commands.specs.declared.parts.run_error.RunError.TheVariants as errors
use Rattle.run_commands.specs.parts.laws.Damage.{status_shown, failed_cause}
use Rattle.run_commands.specs.parts.laws.Lines.{lines_written, lines_begun}
use Rattle.std.proofs.lemmas.Option.{same_Some}
use Rattle.world_store.specs.Words.{Stands}
use Rattle.site_store.specs.Words.{Kept, Takes, TakesPrefix, AllClosed, HasNone, IsPlace, names, held, work, Bounds, Stays}
use Rattle.site_store.specs.declared.sites.Sites.{Sites}
use Rattle.repl_model.specs.Words.{ShowError, World, Server, server_in}
use Rattle.run_commands.specs.status.StatusEvents.{status_events}

module _ {K : Type 0} (kept : K → Kept) (s0 : Sites K) (closed : AllClosed (work kept s0)) where
  -- ---- what happens

  -- what a run does at what the world has of the server
  abbrev at_server : List ℕ → Option Server → List (Event World)
  at_server name o = option_map_or (λ server. map writes (status_lines server)) o (refused (refusals.NoSuchServer name))

  -- at the place of its name the events are the lines of the server
  at_place : (name : List ℕ) (n : ℕ) → IsPlace (names s0) name n → (w : World) → Stands (names s0) (held kept s0) w → map writes (status_lines (server_in w n)) ≡ status_events name w
  at_place name n place w stands = ap (at_server name) (sym (server_at_place kept s0 closed w stands name n s0.servers.apart place))

  -- at a name of no server the name is refused
  pub at_none : (name : List ℕ) → HasNone (names s0) name → (w : World) → Stands (names s0) (held kept s0) w → refused (refusals.NoSuchServer name) ≡ status_events name w
  at_none name none w stands = ap (at_server name) (sym (no_server kept s0 closed w stands name none))

  -- all lines were written
  pub status_written : (s1 : Sites K) (most : Bounds) (t u : Option (List ℕ)) (name : List ℕ) (n : ℕ) → IsPlace (names s0) name n → Stays kept s0 s1 most → ((w : World) → Stands (names s0) (held kept s0) w → Takes t u (status_text (server_in w n))) → Happened kept s0 s1 t u (status_events name) false
  status_written s1 most t u name n place stays took = lines_written kept s0 s1 stays.held t u (status_events name) (λ w. status_lines (server_in w n)) (at_place name n place) took

  -- a prefix of them was
  pub status_begun : (s1 : Sites K) (t u : Option (List ℕ)) (name : List ℕ) (n : ℕ) → IsPlace (names s0) name n → held kept s1 ≡ held kept s0 → ((w : World) → Stands (names s0) (held kept s0) w → TakesPrefix t u (status_text (server_in w n))) → StoppedIn kept s0 s1 t u (status_events name)
  status_begun s1 t u name n place same took = lines_begun kept s0 s1 same t u (status_events name) (λ w. status_lines (server_in w n)) (at_place name n place) took

  -- ---- why it ends

  -- what the servers hold after a call that fails is as before
  pub fails_holds : (s1 : Sites K) (most : Bounds) (before now : ℕ) (error : ShowError) → FailsToShow kept s0 s1 most before now error → held kept s1 ≡ held kept s0
  fails_holds s1 most before now (shows.Fault fault) fails = fails.closes.held
  fails_holds s1 most before now shows.Output fails = fails.1.held

  -- why it ends early
  pub status_cause : (s1 : Sites K) (most : Bounds) (before now : ℕ) (error : ShowError) (e : RunError) → Some e ≡ error_of_show error → FailsToShow kept s0 s1 most before now error → ((w : World) → Stands (names s0) (held kept s0) w → IsUndamagedShow error) → PartHasCause kept s0 s1 before now e
  status_cause s1 most before now (shows.Fault fault) e is fails none = failed_cause kept s0 s1 closed rules status_shown most before now fault e is fails none
  status_cause s1 most before now shows.Output e is fails none = rw (same_Some e errors.OutputFailed is) (record { streams = fails.0; servers = tt })
