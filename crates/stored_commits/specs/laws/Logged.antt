-- A server with further records of its log holds what the world calls for there.
use Rattle.std.proofs.Common.{◌≡◌, ℕ, zero, true, false, List, sym, ap, ◌∙◌, bytes_eq}
use Rattle.world_store.specs.Words.{b64, log_spelling, in_flight_key_spelling, in_flight_spelling, single_spelling, head_spelling, table_from_rows, log_rows, in_flight_rows, head_rows, source_table, tables, first_table, shown, Becomes, StaysShown, becomes_holds, tables_stay}
use Rattle.repl_model.specs.Words.{Area, LogRecord, Server, World, NumbersAreSound, with_more, grown, at_one, found_in}
use Rattle.repl_types.specs.declared.area.Area.TheVariants as areas
use Rattle.keep_core.specs.Contents.{Contents}
use Rattle.world_commits.specs.logs.laws.Servers.{longer_world, world_grows}
use Rattle.stored_commits.specs.logs.LongerServers.{is_of_log, StillHolds, LoggedHolds, OthersHold}
use Rattle.stored_commits.specs.laws.Sides.{all_stay}
use Rattle.stored_commits.specs.laws.LoggedCaptures.{changes_stay, uow_stays, capture_stays}

-- a server of a sound world holds, as it is, what the world with the longer log of one server calls for
pub still_holds : StillHolds
still_holds name more world server held sound i holds a n =
    holds a n
    ∙ sym (tables_stay world (longer_world name more world) server (all_stay name more world sound server i) a n)
    ∙ ap (λ (w : World). tables w server a n) (sym (world_grows name more world))

-- The contents of a server become what a world calls for at the server with further records, if so do the log, the tables
-- of the source, what is in flight and the end of the log, and the other tables are as they were.
pub logged_becomes : (more : List LogRecord) (world : World) (server : Server) (before now : Contents)
    → now areas.Log 0 ≡ table_from_rows b64 log_spelling (log_rows (with_more more server))
    → ((n : ℕ) → now areas.Source n ≡ source_table (with_more more server) n)
    → now areas.Inflight 0 ≡ table_from_rows in_flight_key_spelling in_flight_spelling (in_flight_rows (with_more more server))
    → shown server areas.Head 0 (now areas.Head 0) ≡ table_from_rows single_spelling head_spelling (head_rows (with_more more server))
    → ((a : Area) (n : ℕ) → is_of_log a n ≡ false → now a n ≡ before a n)
    → Becomes is_of_log world (with_more more server) before now
unfolding tables first_table
logged_becomes more world server before now log source in_flight head others = record { has = table_is; others = others }
  where
    table_is : (a : Area) (n : ℕ) → is_of_log a n ≡ true → shown (with_more more server) a n (now a n) ≡ tables world (with_more more server) a n
    table_is areas.Log zero e = log
    table_is areas.Source n e = source n
    table_is areas.Inflight zero e = in_flight
    table_is areas.Head zero e = head
    table_is a n e = absurd cc

-- the tables that a longer log leaves alone show what is called for at the server with it
logged_stay : (more : List LogRecord) (world : World) (server : Server) → NumbersAreSound server → (a : Area) (n : ℕ) → is_of_log a n ≡ false → StaysShown world server (with_more more server) a n
unfolding tables first_table
logged_stay more world server numbers areas.Log zero e t h = absurd cc
logged_stay more world server numbers areas.Source n e t h = absurd cc
logged_stay more world server numbers areas.Inflight zero e t h = absurd cc
logged_stay more world server numbers areas.Head zero e t h = absurd cc
logged_stay more world server numbers areas.Cd n e t h = h ∙ sym (changes_stay more server numbers n)
logged_stay more world server numbers areas.Uow n e t h = h ∙ sym (uow_stays more server numbers n)
logged_stay more world server numbers areas.Capture n e t h = h ∙ sym (capture_stays more server numbers n)
logged_stay more world server numbers a n e t h = h

-- a server with further records holds what the world with the longer log calls for
pub longer_holds : LoggedHolds
longer_holds name more world server before now sound named holds becomes =
    let i = (found_in (λ (a : Server). bytes_eq name a.name) world server named).0 in
    becomes_holds is_of_log (grown name more world) server (with_more more server) (logged_stay more (grown name more world) server (at_one NumbersAreSound world server sound.numbers i)) before now (still_holds name more world server before sound i holds) becomes

-- the other servers hold what it calls for, as they are
pub others_hold_longer : OthersHold
others_hold_longer name more world other held sound i apart = still_holds name more world other held sound i
