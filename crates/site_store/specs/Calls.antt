-- What a call leaves at all servers, at Ok and at a fault.
use Rattle.std.specs.Prelude.{◌≡◌, ◌⊎◌, ◌&&◌, ◌==◌, if◌then◌else◌, ℕ, ◌+◌, ◌<◌, ◌≤◌, List, Option, Some, None, slice_index_or, slice_set}
use Rattle.repl_types.specs.Area.{same_area}
use Rattle.repl_types.specs.declared.area.Area.{Area}
use Rattle.repl_types.specs.declared.status.DamageCause.{DamageCause}
use Rattle.repl_types.specs.declared.status.DamageCause.TheVariants as causes
use Rattle.repl_types.specs.declared.fault.Fault.{Fault}
use Rattle.repl_types.specs.declared.fault.Fault.TheVariants as faults
use Rattle.keep_core.specs.Contents.{Contents}
use Rattle.keep_core.specs.Kept.{Kept}
use Rattle.keep_core.specs.Revealed.{count_max, Rises}
use Rattle.site_store.specs.Servers.{AllClosed}
use Rattle.site_store.specs.Views.{names, held, work, fault_counts, reads_in, writes_in, sees}
use Rattle.site_store.specs.Works.{Works, Sets}
use Rattle.site_store.specs.declared.sites.Sites.{Sites}

-- ---- counts

-- no count fell
abbrev pub NoneFell : List ℕ → List ℕ → Type 0
NoneFell old new = (s : ℕ) → slice_index_or old s 0 ≤ slice_index_or new s 0

-- no count fell, unless it has reached its maximum
abbrev pub NoneBack : List ℕ → List ℕ → Type 0
NoneBack old new = (s : ℕ) → slice_index_or new s 0 < count_max → slice_index_or old s 0 ≤ slice_index_or new s 0

-- how often at most each area of each server is read, and written
pub record Bounds : Type 0 where
  pub reads : ℕ → Area → ℕ
  pub writes : ℕ → Area → ℕ

-- one area of one server counts so much, and no other counts
abbrev pub only : ℕ → ℕ → Area → ℕ → Area → ℕ
only n s a q b = if same_area a b && (s == q) then n else 0

-- nothing is read or written
abbrev pub no_access : Bounds
no_access = record { reads = λ s a. 0; writes = λ s a. 0 }

-- one area of one server is read at most this many times, and nothing is written
abbrev pub reads_of_one : ℕ → ℕ → Area → Bounds
reads_of_one n s a = record { reads = only n s a; writes = λ q b. 0 }

-- one area of one server is written at most this many times, and nothing is read
abbrev pub writes_of_one : ℕ → ℕ → Area → Bounds
writes_of_one n s a = record { reads = λ q b. 0; writes = only n s a }

-- both in turn
abbrev pub both : Bounds → Bounds → Bounds
both x y = record { reads = λ s a. x.reads s a + y.reads s a; writes = λ s a. x.writes s a + y.writes s a }

-- Each area of each server was read and written at most as many times as the bounds say.
pub record IsWithin {K : Type 0} (kept : K → Kept) (old new : Sites K) (most : Bounds) : Type 0 where
  pub reads : (s : ℕ) (a : Area) → slice_index_or (reads_in kept a new) s 0 ≤ slice_index_or (reads_in kept a old) s 0 + most.reads s a
  pub writes : (s : ℕ) (a : Area) → slice_index_or (writes_in kept a new) s 0 ≤ slice_index_or (writes_in kept a old) s 0 + most.writes s a

-- What every call keeps: the names stay, no count of faults falls, nor one of reads or of writes that
-- is below its maximum, and areas are read and written within the bounds.
pub record Passes {K : Type 0} (kept : K → Kept) (old new : Sites K) (most : Bounds) : Type 0 where
  pub names : names new ≡ names old
  pub faults : NoneFell (fault_counts kept old) (fault_counts kept new)
  pub reads : (a : Area) → NoneBack (reads_in kept a old) (reads_in kept a new)
  pub writes : (a : Area) → NoneBack (writes_in kept a old) (writes_in kept a new)
  pub within : IsWithin kept old new most

-- ---- what a call leaves

-- The servers hold the same, and their open transactions see the same.
pub record Stays {K : Type 0} (kept : K → Kept) (old new : Sites K) (most : Bounds) : Type 0 where
  pub passes : Passes kept old new most
  pub held : held kept new ≡ held kept old
  pub work : work kept new ≡ work kept old

-- One area of one server was read once, and the servers hold and their transactions see the same.
pub record Reads {K : Type 0} (kept : K → Kept) (old new : Sites K) (s : ℕ) (a : Area) : Type 0 where
  pub stays : Stays kept old new (reads_of_one 1 s a)
  pub rose : Rises (slice_index_or (reads_in kept a old) s 0) (slice_index_or (reads_in kept a new) s 0)

-- The transaction of one server sees this at one key: the area was written once, and what is held stays.
pub record Puts {K : Type 0} (kept : K → Kept) (old new : Sites K) (s : ℕ) (a : Area) (t : ℕ) (key : List ℕ) (value : Option (List ℕ)) : Type 0 where
  pub passes : Passes kept old new (writes_of_one 1 s a)
  pub held : held kept new ≡ held kept old
  pub works : Works (work kept old) (work kept new) s (Sets a t key value)
  pub rose : Rises (slice_index_or (writes_in kept a old) s 0) (slice_index_or (writes_in kept a new) s 0)

-- One server has a transaction open, which sees what is held.
pub record Begins {K : Type 0} (kept : K → Kept) (old new : Sites K) (s : ℕ) : Type 0 where
  pub passes : Passes kept old new no_access
  pub work : work kept new ≡ slice_set (work kept old) s (Some (slice_index_or (held kept old) s None))
  pub held : held kept new ≡ held kept old

-- One server has no transaction open, and holds what it held.
pub record ClosesOne {K : Type 0} (kept : K → Kept) (old new : Sites K) (s : ℕ) : Type 0 where
  pub passes : Passes kept old new no_access
  pub held : held kept new ≡ held kept old
  pub work : work kept new ≡ slice_set (work kept old) s None

-- No server has a transaction open, and each holds what it held.
pub record ClosesAll {K : Type 0} (kept : K → Kept) (old new : Sites K) (most : Bounds) : Type 0 where
  pub passes : Passes kept old new most
  pub held : held kept new ≡ held kept old
  pub closed : AllClosed (work kept new)

-- One server holds what its transaction saw, and has none open.
pub record Commits {K : Type 0} (kept : K → Kept) (old new : Sites K) (s : ℕ) : Type 0 where
  pub passes : Passes kept old new no_access
  pub held : held kept new ≡ slice_set (held kept old) s (sees kept old s)
  pub work : work kept new ≡ slice_set (work kept old) s None

-- What each part of a run leaves of the servers, at Ok and at an error: their names stay, no count of faults falls, nor
-- one of reads that is below its maximum, and no transaction is open.
pub record KeepsServers {K : Type 0} (kept : K → Kept) (old new : Sites K) : Type 0 where
  pub names : names new ≡ names old
  pub faults : NoneFell (fault_counts kept old) (fault_counts kept new)
  pub reads : (a : Area) → NoneBack (reads_in kept a old) (reads_in kept a new)
  pub closed : AllClosed (work kept new)

-- ---- faults

-- a cause that is found by a read
abbrev pub IsRead : DamageCause → Type 0
IsRead (causes.Spelling bytes) = Unit {0}
IsRead (causes.Absent key) = Unit {0}
IsRead (causes.Unfit bytes) = Unit {0}
IsRead (causes.NoRest steps) = ⊥

-- at one server
abbrev pub AtServer : ℕ → (Area → DamageCause → Type 0) → ℕ → Area → DamageCause → Type 0
AtServer server damage s a cause = (s ≡ server) × damage a cause

-- Who is to blame for a fault: nobody if memory ran out; a server, if its keeper's count of faults rose;
-- or what a server has in an area, if this was read and shows damage. Nothing is refused.
abbrev pub Blames : {K : Type 0} → (K → Kept) → Sites K → Sites K → (ℕ → Area → DamageCause → Type 0) → Fault → Type 0
Blames kept old new damage faults.Memory = Unit {0}
Blames kept old new damage (faults.Keeper s) = Rises (slice_index_or (fault_counts kept old) s 0) (slice_index_or (fault_counts kept new) s 0)
Blames kept old new damage (faults.Damaged s a cause) = (IsRead cause → Rises (slice_index_or (reads_in kept a old) s 0) (slice_index_or (reads_in kept a new) s 0)) × damage s a cause
Blames kept old new damage (faults.Refused refusal) = ⊥

-- out of memory, or this fault
abbrev pub IsMemoryOr : Fault → Fault → Type 0
IsMemoryOr fault e = (e ≡ faults.Memory) ⊎ (e ≡ fault)

-- What is held after a call of one commit failed: what was held; or if the keeper of a server failed, that server may hold
-- something else.
abbrev pub HoldsOrInDoubt : {K : Type 0} → (K → Kept) → Sites K → Sites K → Fault → Type 0
HoldsOrInDoubt kept old new e = (held kept new ≡ held kept old) ⊎ ((s : ℕ) × (saw : Option Contents) × (e ≡ faults.Keeper s) × (held kept new ≡ slice_set (held kept old) s saw))

-- A call failed: no server has a transaction open, each holds what it held, and somebody is to blame.
pub record Fails {K : Type 0} (kept : K → Kept) (old new : Sites K) (most : Bounds) (damage : ℕ → Area → DamageCause → Type 0) (e : Fault) : Type 0 where
  pub closes : ClosesAll kept old new most
  pub blames : Blames kept old new damage e

-- A commit failed: no server has a transaction open, and each holds what it held; but at a fault of the
-- server's keeper it may hold what its transaction saw.
pub record InDoubt {K : Type 0} (kept : K → Kept) (old new : Sites K) (s : ℕ) (e : Fault) : Type 0 where
  pub passes : Passes kept old new no_access
  pub held : (held kept new ≡ held kept old) ⊎ ((e ≡ faults.Keeper s) × (held kept new ≡ slice_set (held kept old) s (sees kept old s)))
  pub closed : AllClosed (work kept new)
  pub blames : Blames kept old new (λ q a cause. ⊥) e
