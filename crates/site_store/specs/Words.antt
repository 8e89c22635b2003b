-- The words that laws and proofs of upper crates cite, passed on from one place. Declares nothing.
pub use Rattle.keep_core.specs.Contents.{Contents, IsLastKey, IsNextKey, Table, nothing, put_at, same_key, set_key, with_table}
pub use Rattle.keep_core.specs.Kept.{Kept, seen_of}
pub use Rattle.keep_core.specs.Revealed.{Takes, TakesPrefix, count_max}
pub use Rattle.keep_core.specs.laws.Revealed.{takes_both, takes_nothing, takes_on}
pub use Rattle.site_store.specs.Calls.{AtServer, Begins, Blames, Bounds, ClosesAll, ClosesOne, Commits, Fails, HoldsOrInDoubt, InDoubt, IsMemoryOr, IsRead, KeepsServers, NoneFell, Passes, Puts, Reads, Stays, both, no_access, reads_of_one, writes_of_one}
pub use Rattle.site_store.specs.Damage.{AddsOnlySpelt, Damages, IsNoDamage, IsSpelt, IsUndamaged, Rules, ShownBefore, Shows, joined}
pub use Rattle.site_store.specs.Records.{Follows, IsMissing, IsRecord, Misread, MissesOrMisreads, Misspelt, MisspeltNext, NextRowIs, NoDamage, RowIs, StateIs, after_key, or_first}
pub use Rattle.site_store.specs.Servers.{AllClosed, AreApart, AreServers, HasNone, IsPlace, held_of, names_of, site_keeper, site_name, work_of}
pub use Rattle.site_store.specs.Steps.{WorksOn}
pub use Rattle.site_store.specs.Views.{IsClosedAt, IsOpenAt, fault_counts, held, list_of, names, reads_in, sees, work}
pub use Rattle.site_store.specs.Works.{Sets, Works}
pub use Rattle.site_store.specs.laws.Counts.{IsAtMost, at_most_itself, keeps_itself, keeps_passed, keeps_then, none_back_then, passes_keeps, passes_then, stays_then}
pub use Rattle.site_store.specs.laws.Damage.{adds_nothing, adds_put, adds_remove, adds_then, blames_by, fails_after, fails_by, fails_within, misspelt_shows, no_damage, rows_spelt, shown_before, shown_first, shown_second, shown_unseen, spelt_undamaged}
pub use Rattle.site_store.specs.laws.Numbers.{numbers_in_order}
pub use Rattle.site_store.specs.laws.Passing.{any_seen, if_both_seen, if_seen, reads_more, reads_within, stays_closed, stays_none, stays_sees, stays_within}
pub use Rattle.site_store.specs.laws.Steps.{get_fails, next_fails, works_none, works_on, works_put}
pub use Rattle.site_store.specs.laws.Transactions.{begun_sees, closed_again, open_below, other_work, took}
pub use Rattle.site_store.specs.one_server.Calls.{Breaks, FailsToWrite, GoesOn, Looks, Stops}
pub use Rattle.site_store.specs.one_server.laws.Damage.{breaks_after, breaks_on, get_breaks, memory_after, needed_breaks, next_breaks, read_breaks, unfit_breaks, write_breaks, write_breaks_after, write_breaks_on}
pub use Rattle.site_store.specs.one_server.laws.Faults.{blames_after, no_memory, put_fails, stops_after, stops_as, stops_at, write_fails_on}
pub use Rattle.site_store.specs.one_server.laws.Reads.{looks_none, looks_sees, looks_then, sees_back, sees_on}
pub use Rattle.site_store.specs.one_server.laws.Steps.{goes_as, goes_both, goes_none, goes_open, goes_put, goes_saw, goes_then, looks_open, saw_then}
