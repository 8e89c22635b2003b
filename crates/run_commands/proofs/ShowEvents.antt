-- How the rows of a table and all that a server has of a kind are shown.
use Rattle.std.proofs.Common.{◌≡◌, ℕ, List, [], ◌∷◌, ◌++◌, map, Bool, true, false, refl, sym, ap, subst, ◌∙◌, Option, Some, None, is_some, flat_map}
use Rattle.std.specs.Option.{option_map_or}
use Rattle.std.proofs.lemmas.Option.{same_Some}
use Rattle.world_store.specs.Words.{Stands}
use Rattle.site_store.specs.Words.{Kept, Takes, TakesPrefix, AllClosed, HasNone, IsPlace, names, held, work, Bounds}
use Rattle.site_store.specs.declared.sites.Sites.{Sites}
use Rattle.repl_model.specs.Words.{ShowError, Server, World, server_named, server_in}
use Rattle.repl_types.specs.declared.refusal.Refusal.TheVariants as refusals
use Rattle.repl_types.specs.declared.call_errors.ShowError.TheVariants as shows
use Rattle.run_core.specs.Runs.{Event, writes, lines_of, is_refused}
use Rattle.run_core.specs.laws.Quiet.{IsQuiet}
use Rattle.stored_defs.specs.laws.Standing.{server_at_place, no_server}
use Rattle.shows.specs.servers.Showing.{IsUndamagedShow}
use Rattle.shows.specs.tables.Rules.{rules, ShowsDamage}
use Rattle.shows.specs.tables.Showing.{FailsShowing}
use Rattle.run_commands.specs.parts.Causes.{PartHasCause}
use Rattle.run_commands.specs.parts.Parts.{Happened, StoppedIn}
use Rattle.run_commands.specs.parts.Refusing.{refused}
use Rattle.run_commands.specs.parts.RunErrors.{error_of_show}
use Rattle.run_commands.specs.declared.parts.run_error.RunError.{RunError}
use Rattle.run_commands.specs.declared.parts.run_error.RunError.TheVariants as errors
use Rattle.run_commands.specs.parts.laws.Damage.{source_shown, failed_cause}
use Rattle.run_commands.specs.parts.laws.Lines.{lines_quiet, lines_in_turn, none_refused, lines_written, lines_begun}
use Rattle.run_commands.specs.parts.laws.Parts.{happened_quiet, stopped_quietly, happened_as, stopped_as}

-- no bytes are a prefix of any
no_prefix : (t u : Option (List ℕ)) (line : List ℕ) → TakesPrefix t u [] → TakesPrefix t u line
no_prefix t u line took = record { prefix = []; rest = line; parts = refl; taken = subst (Takes t u) (none took.prefix took.rest took.parts) took.taken }
  where
    none : (p q : List ℕ) → [] ≡ p ++ q → p ≡ []
    none [] q e = refl
    none (x ∷ p) q e = absurd cc

module _ {K : Type 0} (kept : K → Kept) (s0 : Sites K) (closed : AllClosed (work kept s0)) (name : List ℕ) where
  -- what a run does at what the world has of the server
  abbrev at_server : (Server → List (Event World)) → World → List (Event World)
  at_server events w = option_map_or events (server_named name w) (refused (refusals.NoSuchServer name))

  -- at a name of no server the name is refused
  pub at_none : (events : Server → List (Event World)) → HasNone (names s0) name → (w : World) → Stands (names s0) (held kept s0) w → refused (refusals.NoSuchServer name) ≡ at_server events w
  at_none events none w stands = ap (λ (o : Option Server). option_map_or events o (refused (refusals.NoSuchServer name))) (sym (no_server kept s0 closed w stands name none))

  module _ (n : ℕ) (place : IsPlace (names s0) name n) (s1 : Sites K) (same : held kept s1 ≡ held kept s0) (t u : Option (List ℕ)) where
    -- at the place of its name the events are those at the server
    at_place : (events : Server → List (Event World)) (w : World) → Stands (names s0) (held kept s0) w → events (server_in w n) ≡ at_server events w
    at_place events w stands = ap (λ (o : Option Server). option_map_or events o (refused (refusals.NoSuchServer name))) (sym (server_at_place kept s0 closed w stands name n s0.servers.apart place))

    -- ---- all of a server

    module _ (lines : Server → List (List ℕ)) where
      -- the lines of the server were written
      pub all_written : ((w : World) → Stands (names s0) (held kept s0) w → Takes t u (flat_map (λ line. line) (lines (server_in w n)))) → Happened kept s0 s1 t u (at_server (λ server. map writes (lines server))) false
      all_written took = lines_written kept s0 s1 same t u (at_server (λ server. map writes (lines server))) (λ w. lines (server_in w n)) (at_place (λ server. map writes (lines server))) took

      -- a prefix of them was
      pub all_begun : ((w : World) → Stands (names s0) (held kept s0) w → TakesPrefix t u (flat_map (λ line. line) (lines (server_in w n)))) → StoppedIn kept s0 s1 t u (at_server (λ server. map writes (lines server)))
      all_begun took = lines_begun kept s0 s1 same t u (at_server (λ server. map writes (lines server))) (λ w. lines (server_in w n)) (at_place (λ server. map writes (lines server))) took

    -- ---- a table

    module _ {X : Type 0} (table : List ℕ) (found_in : Server → Option X) (lines : Server → X → List (List ℕ)) where
      -- what a run does at what was found of the table at a server
      abbrev of_found : Server → Option X → List (Event World)
      of_found server o = option_map_or (λ x. map writes (lines server x)) o (refused (refusals.NoSuchTable name table))

      -- at what a server has of it
      abbrev of_table : Server → List (Event World)
      of_table server = of_found server (found_in server)

      -- the reply about what was found
      abbrev reply_of : Server → Option X → List ℕ
      reply_of server o = option_map_or (λ x. flat_map (λ line. line) (lines server x)) o []

      -- its rows were written
      pub table_written : ((w : World) → Stands (names s0) (held kept s0) w → true ≡ is_some (found_in (server_in w n))) → ((w : World) → Stands (names s0) (held kept s0) w → Takes t u (reply_of (server_in w n) (found_in (server_in w n)))) → Happened kept s0 s1 t u (at_server of_table) false
      table_written found took = happened_quiet kept s0 s1 same t u (at_server of_table) false (λ w stands.
          let server = server_in w n in
          subst (λ (es : List (Event World)). IsQuiet es × Takes t u (lines_of es) × (false ≡ is_refused es)) (at_place of_table w stands) (pick server (found_in server) (found w stands) (took w stands)))
        where
          pick : (server : Server) (o : Option X) → true ≡ is_some o → Takes t u (reply_of server o) → IsQuiet (of_found server o) × Takes t u (lines_of (of_found server o)) × (false ≡ is_refused (of_found server o))
          pick server None is took = absurd cc
          pick server (Some x) is took = (lines_quiet (lines server x), subst (Takes t u) (sym (lines_in_turn (lines server x))) took, none_refused (lines server x))

      -- a part of what was to be written was
      pub table_begun : ((w : World) → Stands (names s0) (held kept s0) w → TakesPrefix t u (reply_of (server_in w n) (found_in (server_in w n)))) → StoppedIn kept s0 s1 t u (at_server of_table)
      table_begun took = stopped_quietly kept s0 s1 same t u (at_server of_table) (λ w stands.
          let server = server_in w n in
          subst (λ (es : List (Event World)). IsQuiet es × TakesPrefix t u (lines_of es)) (at_place of_table w stands) (pick server (found_in server) (took w stands)))
        where
          pick : (server : Server) (o : Option X) → TakesPrefix t u (reply_of server o) → IsQuiet (of_found server o) × TakesPrefix t u (lines_of (of_found server o))
          pick server None took = (tt, no_prefix t u (lines_of (refused (refusals.NoSuchTable name table))) took)
          pick server (Some x) took = (lines_quiet (lines server x), subst (TakesPrefix t u) (sym (lines_in_turn (lines server x))) took)

      module _ (found : (w : World) → Stands (names s0) (held kept s0) w → false ≡ is_some (found_in (server_in w n))) where
        -- there is none, so the table is refused
        none_there : (w : World) → Stands (names s0) (held kept s0) w → refused (refusals.NoSuchTable name table) ≡ at_server of_table w
        none_there w stands = pick (server_in w n) (found_in (server_in w n)) (found w stands) ∙ at_place of_table w stands
          where
            pick : (server : Server) (o : Option X) → false ≡ is_some o → refused (refusals.NoSuchTable name table) ≡ of_found server o
            pick server None is = refl
            pick server (Some x) is = absurd cc

        -- the line that refuses it was written
        pub table_refused : (answer : Bool) → (answer ≡ true) × Takes t u (lines_of (refused (refusals.NoSuchTable name table))) → Happened kept s0 s1 t u (at_server of_table) answer
        table_refused answer wrote = happened_as kept s0 s1 t u (λ w. refused (refusals.NoSuchTable name table)) (at_server of_table) none_there answer (happened_quiet kept s0 s1 same t u (λ w. refused (refusals.NoSuchTable name table)) answer (λ w stands. (tt, wrote.1, wrote.0)))

        -- a prefix of it was
        pub refusal_started : TakesPrefix t u (lines_of (refused (refusals.NoSuchTable name table))) → StoppedIn kept s0 s1 t u (at_server of_table)
        refusal_started wrote = stopped_as kept s0 s1 t u (λ w. refused (refusals.NoSuchTable name table)) (at_server of_table) none_there (stopped_quietly kept s0 s1 same t u (λ w. refused (refusals.NoSuchTable name table)) (λ w stands. (tt, wrote)))

  -- ---- why it ends

  -- what the servers hold after a call that fails is as before
  pub fails_holds : (s1 : Sites K) (most : Bounds) (before now : ℕ) (error : ShowError) → FailsShowing kept s0 s1 most (ShowsDamage kept s0) before now error → held kept s1 ≡ held kept s0
  fails_holds s1 most before now (shows.Fault fault) fails = fails.closes.held
  fails_holds s1 most before now shows.Output fails = fails.1.held

  -- why it ends early
  pub show_cause : (s1 : Sites K) (most : Bounds) (before now : ℕ) (error : ShowError) (e : RunError) → Some e ≡ error_of_show error → FailsShowing kept s0 s1 most (ShowsDamage kept s0) before now error → ((w : World) → Stands (names s0) (held kept s0) w → IsUndamagedShow error) → PartHasCause kept s0 s1 before now e
  show_cause s1 most before now (shows.Fault fault) e is fails none = failed_cause kept s0 s1 closed rules source_shown most before now fault e is fails none
  show_cause s1 most before now shows.Output e is fails none = rw (same_Some e errors.OutputFailed is) (record { streams = fails.0; servers = tt })
