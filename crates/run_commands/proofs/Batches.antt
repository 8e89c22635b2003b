-- What an append of the records that wait means as events.
use Rattle.std.proofs.Common.{◌≡◌, inl, inr, ℕ, ◌<◌, ◌+◌, List, [], ◌∷◌, ◌++◌, length, false, refl, sym, ap, subst, ◌∙◌, arith, Option, Some, None, Result, Ok, Err, IsSome, is_none, append-nil, length-append}
use Rattle.std.specs.Option.{option_map_or}
use Rattle.repl_model.specs.Words.{LogRecord, Refusal, AppendError, Fault, grown, Server, World, server_in, grown_nothing}
use Rattle.world_store.specs.Words.{Stands}
use Rattle.site_store.specs.Words.{Contents, Kept, takes_nothing, KeepsServers, HoldsOrInDoubt, AllClosed, HasNone, IsPlace, names, held, work}
use Rattle.site_store.specs.declared.sites.Sites.{Sites}
use Rattle.repl_types.specs.declared.refusal.Refusal.TheVariants as refusals
use Rattle.repl_types.specs.declared.call_errors.AppendError.TheVariants as errors
use Rattle.repl_types.specs.declared.fault.Fault.TheVariants as fault
use Rattle.run_core.specs.Runs.{Event, last_world, is_refused, Went, Stopped}
use Rattle.run_core.specs.laws.Runs.{stopped_before, stopped_in_second}
use Rattle.set_places.specs.laws.Commits.{unchanged_if_damaged}
use Rattle.stored_defs.specs.laws.Standing.{server_at_place, no_server}
use Rattle.source_log.specs.Appending.{taken as taken_records, append_error, StandGrown, HasAppended, HasNotAppended, BlamesFault}
use Rattle.source_log.specs.Rules.{all_rules, ShowsDamage}
use Rattle.run_commands.specs.parts.Parts.{IsPart, WritesRefusal}
use Rattle.run_commands.specs.parts.Refusing.{refused}
use Rattle.run_commands.specs.parts.RunErrors.{error_of_fault}
use Rattle.run_commands.specs.declared.parts.run_error.RunError.{RunError}
use Rattle.run_commands.specs.parts.laws.Damage.{append_shown, layer_shown, fault_cause}
use Rattle.run_commands.specs.parts.laws.Composing.{part_as, part_gives, part_refused, part_then}
use Rattle.run_commands.specs.feed.FeedEvents.{commit_events, error_events, server_events, batch_events, last_position}
use Rattle.run_commands.specs.declared.feed.feed.Feed.{Feed}

-- ---- a commit of records

-- a commit of some records happened, if the servers stand for the world that has them
commit_went : (S : List (Option Contents) → World → Type 0) (name : List ℕ) (rs : List LogRecord) (w : World) (h : List (Option Contents)) (t : Option (List ℕ)) → S h (grown name rs w) → Went S
    (commit_events name rs w) w h t t
commit_went S name [] w h t at = record { stands = subst (S h) (grown_nothing name w) at; bytes = takes_nothing t }
commit_went S name (r ∷ rs) w h t at = record { stands = at; bytes = takes_nothing t }

-- it refuses nothing
commit_accepts : (name : List ℕ) (rs : List LogRecord) (w : World) → false ≡ is_refused (commit_events name rs w)
commit_accepts name [] w = refl
commit_accepts name (r ∷ rs) w = refl

module _ {K O : Type 0} (kept : K → Kept) (taken : O → Option (List ℕ)) (faults : O → ℕ) (s0 : Sites K) (closed : AllClosed (work kept s0)) (feed : Feed) where
  -- ---- a server that isn't there

  -- it is refused
  none_refused : HasNone (names s0) feed.server → (w : World) → Stands (names s0) (held kept s0) w → refused (refusals.NoSuchServer feed.server) ≡ batch_events feed w
  none_refused none w stands = ap (λ (o : Option Server). option_map_or (server_events feed w) o (refused (refusals.NoSuchServer feed.server))) (sym (no_server kept s0 closed w stands feed.server none))

  -- that is all that is done
  pub server_refused : HasNone (names s0) feed.server → (o p : O) (r : Result (Option ℕ) RunError) → WritesRefusal taken faults o p (refusals.NoSuchServer feed.server) None r → IsPart kept taken faults s0 s0 o p (batch_events feed) is_none r
  server_refused none o p r wrote = part_as (batch_events feed) (none_refused none) (part_refused is_none closed refl wrote)

  module _ (n : ℕ) (place : IsPlace (names s0) feed.server n) (s1 : Sites K) (keeps : KeepsServers kept s0 s1) (o : O) where
    -- ---- a server that is there

    -- the records that are taken are committed first
    abbrev first : World → List (Event World)
    first w = commit_events feed.server (taken_records (server_in w n) feed.records) w

    -- then an error is answered, if there is one
    abbrev then_error : Option AppendError → World → List (Event World)
    then_error error w = first w ++ option_map_or (error_events feed) error []

    -- these are the events of the records that wait
    at_place : (error : Option AppendError) (w : World) → Stands (names s0) (held kept s0) w → append_error (server_in w n) feed.records ≡ error → then_error error w ≡ batch_events feed w
    at_place error w stands is =
        ap (λ (e : Option AppendError). then_error e w) (sym is)
        ∙ ap (λ (o : Option Server). option_map_or (server_events feed w) o (refused (refusals.NoSuchServer feed.server))) (sym (server_at_place kept s0 closed w stands feed.server n s0.servers.apart place))

    -- the commit of some records happened
    records_went : (t : Option (List ℕ)) (rs : List LogRecord) (w : World) → StandGrown kept s0 s1 n rs w → Went (Stands (names s0)) (commit_events feed.server rs w) w (held kept s1) t t
    records_went t rs w at = commit_went (Stands (names s0)) feed.server rs w (held kept s1) t (subst (λ (name : List ℕ). Stands (names s0) (held kept s1) (grown name rs w)) place.is at)

    -- that of those that are taken did
    first_made : ((w : World) → Stands (names s0) (held kept s0) w → StandGrown kept s0 s1 n (taken_records (server_in w n) feed.records) w) → IsPart kept taken faults s0 s1 o o first (λ (x : Unit {0}). false) (Ok tt)
    first_made at = record {
      ok = λ w stands. (records_went (taken o) (taken_records (server_in w n) feed.records) w (at w stands), commit_accepts feed.server (taken_records (server_in w n) feed.records) w);
      stopped = tt;
      servers = keeps;
      cause = tt;
      counts = omega arith;
    }

    -- all of them were appended
    pub all_appended : (position : ℕ) → ((w : World) → Stands (names s0) (held kept s0) w → HasAppended kept s0 s1 n feed.records w position) → IsPart kept taken faults s0 s1 o o (batch_events feed) is_none (Ok (Some position))
    all_appended position has =
        part_as (batch_events feed) (λ w stands. sym (append-nil (first w)) ∙ at_place None w stands (has w stands).all)
        (part_gives is_none (Some position) refl (first_made (λ w stands. subst (λ (rs : List LogRecord). StandGrown kept s0 s1 n rs w) (sym (has w stands).whole) (has w stands).stands)))

    -- the position that is answered is that of the last
    pub last_is : (position : ℕ) → ((w : World) → Stands (names s0) (held kept s0) w → HasAppended kept s0 s1 n feed.records w position) → (w : World) → Stands (names s0) (held kept s0) w
        → position ≡ last_position feed w
    last_is position has w stands =
        (has w stands).last
        ∙ length-append (server_in w n).log feed.records
        ∙ ap (λ (o : Option Server). option_map_or (λ server. length server.log + length feed.records) o 0) (sym (server_at_place kept s0 closed w stands feed.server n s0.servers.apart place))

    module _ (error : AppendError) (has : (w : World) → Stands (names s0) (held kept s0) w → (append_error (server_in w n) feed.records ≡ Some error) × StandGrown kept s0 s1 n (taken_records (server_in w n) feed.records) w)
        (refusal : Refusal) (says : error_events feed error ≡ refused refusal) where
      -- one isn't taken, which is refused
      one_refused : (w : World) → Stands (names s0) (held kept s0) w → first w ++ refused refusal ≡ batch_events feed w
      one_refused w stands = ap (λ (es : List (Event World)). first w ++ es) (sym says) ∙ at_place (Some error) w stands (has w stands).0

      -- the others are committed before
      pub record_refused : {p : O} {r : Result (Option ℕ) RunError} → IsPart kept taken faults s1 s1 o p (λ w. refused refusal) is_none r → IsPart kept taken faults s0 s1 o p (batch_events feed) is_none r
      record_refused part = part_as (batch_events feed) one_refused (part_then (first_made (λ w stands. (has w stands).1)) part)

    -- ---- a fault

    -- a fault of an append isn't that something is refused
    pub ends_run : (e : Fault) → BlamesFault kept s0 s1 (ShowsDamage kept s0 n) e → IsSome (error_of_fault e)
    ends_run fault.Memory blames = refl
    ends_run (fault.Keeper s) blames = refl
    ends_run (fault.Damaged s a cause) blames = refl
    ends_run (fault.Refused refusal) blames = absurd blames.blames

    -- nothing was committed, or the records that are taken
    pub append_failed : (e : Fault) (error : RunError) → Some error ≡ error_of_fault e → BlamesFault kept s0 s1 (ShowsDamage kept s0 n) e
        → ((w : World) → Stands (names s0) (held kept s0) w → HasNotAppended kept s0 s1 n feed.records w (errors.Fault e)) → IsPart kept taken faults s0 s1 o o (batch_events feed) (is_none {T = ℕ}) (Err error)
    append_failed e error is blames has = record {
      ok = tt;
      stopped = λ w stands.
          let met = append_error (server_in w n) feed.records in
          let rest = option_map_or (error_events feed) met [] in
          elim (has w stands).1 [
            | inl at ↦ stopped_before (Stands (names s0)) w (batch_events feed w) (held kept s1) (taken o) at
            | inr at ↦ subst (λ (es : List (Event World)). Stopped (Stands (names s0)) es w (held kept s1) (taken o) (taken o)) (at_place met w stands refl)
                (let went = records_went (taken o) (taken_records (server_in w n) feed.records) w at.1 in
                stopped_in_second (Stands (names s0)) w (first w) rest (held kept s1) (held kept s1) (taken o) (taken o) (taken o) went (stopped_before (Stands (names s0)) (last_world w (first w)) rest (held kept s1) (taken o) went.stands))
          ];
      servers = keeps;
      cause = fault_cause kept s0 s1 closed keeps (ShowsDamage kept s0 n) (layer_shown kept s0 all_rules append_shown (λ s. s ≡ n) (λ s at. subst (λ (m : ℕ). m < length (names s0)) (sym at) place.within)) (faults o) (faults o) e error is blames.blames
          (λ s a cause met. unchanged_if_damaged kept s0 s1 s a cause (subst (HoldsOrInDoubt kept s0 s1) met blames.holds)) (λ w stands. (has w stands).0);
      counts = omega arith;
    }
