-- The units that users' records add to a log.
use Rattle.std.proofs.Common.{◌≡◌, ℕ, ◌+◌, true, List, [], ◌∷◌, ◌++◌, length, Option, Some, None, refl, sym, ap, subst, ◌∙◌, append-nil, append_assoc, ◌==◌, not, filter, is_none}
use Rattle.std.specs.List.{AllByRecursion}
use Rattle.std.proofs.lemmas.Bool.{and_parts, false≢true}
use Rattle.std.proofs.lemmas.List.Elements.{filter-append}
use Rattle.repl_model.specs.Words.{all_append, all_filter, SetId, LogRecord, Unit, open_changes, unit_of, units, Server, with_more, units_abort, units_change, units_commit}
use Rattle.repl_types.specs.declared.record.LogRecord.TheVariants as records
use Rattle.world_commits.specs.logs.LongerLogs.{is_users, AllFollow}
use Rattle.world_commits.specs.logs.laws.Units.{is_past, later_units, none_past_end}

-- the unit has no origin
abbrev pub HasNoOrigin : Unit → Type 0
HasNoOrigin u = u.head.origin ≡ None

-- a user's commit has no origin
no_origin : (tx time : ℕ) (authid : List ℕ) (origin : Option SetId) → is_users (records.Commit tx time authid origin) ≡ true → origin ≡ None
no_origin tx time authid origin e = by_case origin (and_parts (not (tx == 0)) (is_none origin) e).1
  where
    by_case : (o : Option SetId) → is_none o ≡ true → o ≡ None
    by_case None none = refl
    by_case (Some id) none = absurd (false≢true none)

-- a user's record adds no unit with an origin after a position
origins_push : (n : ℕ) (log : List LogRecord) (r : LogRecord) → is_users r ≡ true → AllByRecursion HasNoOrigin (filter (is_past n) (units log)) → AllByRecursion HasNoOrigin (filter (is_past n) (units (log ++ r ∷ [])))
origins_push n log (records.Change tx change) users h = subst (λ (us : List Unit). AllByRecursion HasNoOrigin (filter (is_past n) us)) (sym (units_change tx change log)) h
origins_push n log (records.Commit tx time authid origin) users h =
    let u = unit_of (length log + 1) time authid origin (open_changes tx log) in
    subst (AllByRecursion HasNoOrigin) (sym (ap (filter (is_past n)) (units_commit tx time authid origin log) ∙ filter-append (is_past n) (units log) (u ∷ [])))
    (all_append HasNoOrigin (filter (is_past n) (units log)) (filter (is_past n) (u ∷ [])) h (all_filter HasNoOrigin (is_past n) (u ∷ []) (no_origin tx time authid origin users, tt)))
origins_push n log (records.Abort tx) users h = subst (λ (us : List Unit). AllByRecursion HasNoOrigin (filter (is_past n) us)) (sym (units_abort tx log)) h

-- users' records add no unit with an origin after a position
origins_follow : (n : ℕ) (server : Server) (rs : List LogRecord) → AllFollow server rs → AllByRecursion HasNoOrigin (filter (is_past n) (units server.log)) → AllByRecursion HasNoOrigin (filter (is_past n) (units (server.log ++ rs)))
origins_follow n server [] follow h = subst (λ (log : List LogRecord). AllByRecursion HasNoOrigin (filter (is_past n) (units log))) (sym (append-nil server.log)) h
origins_follow n server (r ∷ rs) follow h = subst (λ (log : List LogRecord). AllByRecursion HasNoOrigin (filter (is_past n) (units log))) (append_assoc server.log (r ∷ []) rs)
    (origins_follow n (with_more (r ∷ []) server) rs follow.1 (origins_push n server.log r follow.0.users h))

-- the units that users' records add have no origin
pub users_units : (server : Server) (rs : List LogRecord) → AllFollow server rs → AllByRecursion HasNoOrigin (later_units server.log rs)
users_units server rs follow = origins_follow (length server.log) server rs follow (subst (AllByRecursion HasNoOrigin) (sym (none_past_end server.log)) tt)
