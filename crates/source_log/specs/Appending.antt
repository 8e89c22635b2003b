-- Which records an append takes, and what it leaves of the servers.
use Rattle.std.specs.Prelude.{◌≡◌, ◌⊎◌, ℕ, Bool, false, ◌&&◌, nat_lt, if◌then◌else◌, List, [], ◌∷◌, length, take, drop, Option, Some, None, slice_index_or, slice_set}
use Rattle.repl_types.specs.declared.area.Area.{Area}
use Rattle.repl_types.specs.declared.area.Area.TheVariants as areas
use Rattle.repl_types.specs.declared.record.LogRecord.{LogRecord}
use Rattle.repl_types.specs.declared.status.DamageCause.{DamageCause}
use Rattle.repl_types.specs.declared.fault.Fault.{Fault}
use Rattle.repl_types.specs.declared.fault.Fault.TheVariants as faults
use Rattle.repl_types.specs.declared.call_errors.AppendError.{AppendError}
use Rattle.repl_types.specs.declared.call_errors.AppendError.TheVariants as errors
use Rattle.keep_core.specs.Contents.{Contents, put_at}
use Rattle.keep_core.specs.Kept.{Kept}
use Rattle.repl_records.specs.RecordKeys.{single_spelling}
use Rattle.repl_records.specs.SourceSide.{head_spelling, IsHead}
use Rattle.repl_records.specs.declared.source_side.Head.{Head}
use Rattle.repl_model.specs.Applicable.{is_applicable}
use Rattle.repl_model.specs.World.{Server, World, tables_of, server_in}
use Rattle.repl_model.specs.SoundLogs.{log_limit}
use Rattle.repl_model.specs.Longer.{with_more, grown}
use Rattle.world_store.specs.LogRows.{head_of}
use Rattle.world_store.specs.Stands.{Stands}
use Rattle.stored_commits.specs.logs.LongerServers.{is_of_log}
use Rattle.site_store.specs.declared.sites.Sites.{Sites}
use Rattle.site_store.specs.Servers.{AllClosed}
use Rattle.site_store.specs.Views.{names, held, work, sees}
use Rattle.site_store.specs.Calls.{Bounds, Passes, Commits, Blames, HoldsOrInDoubt}
use Rattle.site_store.specs.Damage.{IsNoDamage}
use Rattle.site_store.specs.one_server.Calls.{GoesOn}
use Rattle.source_log.specs.Rules.{EndIs}
use Rattle.source_log.specs.Storing.{IsKept, Stores}
use Rattle.source_log.specs.declared.outcome.Outcome.{Outcome}
use Rattle.source_log.specs.declared.outcome.Outcome.TheVariants as outcomes
use Rattle.source_log.specs.declared.progress.Progress.{Progress}

-- ---- which records are taken

-- a record is taken: it is applicable after the log of a server, and the log has room
abbrev pub is_taken : Server → LogRecord → Bool
is_taken server r = is_applicable (tables_of server) server.log r && nat_lt (length server.log) log_limit

-- the first of some records, each of which is taken after those before it
abbrev pub taken : Server → List LogRecord → List LogRecord
taken server [] = []
taken server (r ∷ rs) = if is_taken server r then r ∷ taken (with_more (r ∷ []) server) rs else []

-- why a record isn't taken, and which one: it isn't applicable, or it is and the log is full
abbrev pub error_at : ℕ → Server → List LogRecord → Option AppendError
error_at place server [] = None
error_at place server (r ∷ rs) = Some (if is_applicable (tables_of server) server.log r then errors.LogFull place else errors.NotApplicable place)

-- why not all of some records are taken, if they aren't
abbrev pub append_error : Server → List LogRecord → Option AppendError
append_error server records =
    let first = taken server records in
    error_at (length first) (with_more first server) (drop (length first) records)

-- ---- inside the transaction

-- why the record after those that were taken isn't, if it isn't
abbrev pub stop_at : ℕ → Outcome → Option AppendError
stop_at place outcomes.Taken = None
stop_at place outcomes.NotApplicable = Some (errors.NotApplicable place)
stop_at place outcomes.Full = Some (errors.LogFull place)

-- So many of some records were taken, and this is the end of the log then, and why the others weren't.
pub record HasTaken (server : Server) (records : List LogRecord) (progress : Progress) (d : Contents) : Type 0 where
  pub first : take progress.taken records ≡ taken server records
  pub count : progress.taken ≡ length (taken server records)
  pub stop : stop_at progress.taken progress.outcome ≡ append_error server records
  pub end : progress.end ≡ head_of (with_more (taken server records) server)
  pub stores : Stores (with_more (taken server records) server) d

-- The first of some records were taken.
pub record TakesFirst (head : Head) (records : List LogRecord) (progress : Progress) (c d : Contents) : Type 0 where
  pub others : (a : Area) (n : ℕ) → is_of_log a n ≡ false → d a n ≡ c a n
  pub end : (n : ℕ) → d areas.Head n ≡ c areas.Head n
  pub has : (server : Server) → IsKept server → head ≡ head_of server → Stores server c → HasTaken server records progress d

-- The end of the log was read, and then the first of some records were taken.
pub record TakesAll (records : List LogRecord) (progress : Progress) (c d : Contents) : Type 0 where
  pub others : (a : Area) (n : ℕ) → is_of_log a n ≡ false → d a n ≡ c a n
  pub end : (n : ℕ) → d areas.Head n ≡ c areas.Head n
  pub head : Head
  pub fits : IsHead head
  pub is : EndIs head c
  pub has : (server : Server) → IsKept server → head ≡ head_of server → Stores server c → HasTaken server records progress d

-- the end of a log is put
abbrev pub PutsEnd : Head → Contents → Contents → Type 0
PutsEnd end c d = d ≡ put_at c areas.Head 0 (single_spelling (record {})) (Some (head_spelling end))

-- ---- what is left of the servers

module _ {K : Type 0} (kept : K → Kept) (old new : Sites K) where
  -- the name of a server
  abbrev pub name_at : ℕ → List ℕ
  name_at server = slice_index_or (names old) server []

  -- the servers stand for a world in which these records were appended at a server
  abbrev pub StandGrown : ℕ → List LogRecord → World → Type 0
  StandGrown server records w = Stands (names old) (held kept new) (grown (name_at server) records w)

  -- All records were appended, and this is the last position of the log.
  pub record HasAppended (server : ℕ) (records : List LogRecord) (w : World) (position : ℕ) : Type 0 where
    pub all : append_error (server_in w server) records ≡ None
    pub whole : taken (server_in w server) records ≡ records
    pub stands : StandGrown server records w
    pub last : position ≡ length (with_more records (server_in w server)).log

  -- Not all were: only those before the first that isn't taken; or after a fault, which isn't damage, none, or, if the
  -- server's keeper failed at the commit and this took place, these.
  abbrev pub HasNotAppended : ℕ → List LogRecord → World → AppendError → Type 0
  HasNotAppended server records w (errors.Fault e) = IsNoDamage e × (Stands (names old) (held kept new) w ⊎ ((e ≡ faults.Keeper server) × StandGrown server (taken (server_in w server) records) w))
  HasNotAppended server records w (errors.NotApplicable place) = (append_error (server_in w server) records ≡ Some (errors.NotApplicable place)) × StandGrown server (taken (server_in w server) records) w
  HasNotAppended server records w (errors.LogFull place) = (append_error (server_in w server) records ≡ Some (errors.LogFull place)) × StandGrown server (taken (server_in w server) records) w

  -- Who is to blame for a fault, and what is held then.
  pub record BlamesFault (damage : ℕ → Area → DamageCause → Type 0) (e : Fault) : Type 0 where
    pub blames : Blames kept old new damage e
    pub holds : HoldsOrInDoubt kept old new e

  -- if no record was taken, each server holds what it held
  abbrev pub HoldsIfNone : ℕ → Type 0
  HoldsIfNone place = place ≡ 0 → held kept new ≡ held kept old

  -- who is to blame if not all records were appended, and what is held then: nobody is if one isn't taken
  abbrev pub BlamesOrStops : (ℕ → Area → DamageCause → Type 0) → AppendError → Type 0
  BlamesOrStops damage (errors.Fault e) = BlamesFault damage e
  BlamesOrStops damage (errors.NotApplicable place) = HoldsIfNone place
  BlamesOrStops damage (errors.LogFull place) = HoldsIfNone place

  -- The server holds what its transaction saw and the end of the log, and has none open.
  pub record CommitsEnd (server : ℕ) (end : Head) : Type 0 where
    pub before : Sites K
    pub puts : GoesOn kept old before server (PutsEnd end)
    pub commits : Commits kept before new server

  -- A commit of this failed but took place.
  pub record TookEnd (server : ℕ) (end : Head) : Type 0 where
    pub before : Sites K
    pub puts : GoesOn kept old before server (PutsEnd end)
    pub held : held kept new ≡ slice_set (held kept before) server (sees kept before server)

  -- A commit of this failed: each server holds what it held, or at a fault of the server's keeper the commit
  -- took place.
  pub record MayCommitEnd (server : ℕ) (end : Head) (e : Fault) : Type 0 where
    pub most : Bounds
    pub passes : Passes kept old new most
    pub held : (held kept new ≡ held kept old) ⊎ ((e ≡ faults.Keeper server) × TookEnd server end)
    pub closed : AllClosed (work kept new)
    pub blames : Blames kept old new (λ s a cause. ⊥) e
