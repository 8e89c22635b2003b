-- What a clause sees of all servers: a list for each thing.
use Rattle.std.specs.Prelude.{◌≡◌, ℕ, List, Option, None, IsSome, slice_index_or}
use Rattle.repl_types.specs.declared.area.Area.{Area}
use Rattle.keep_core.specs.Contents.{Contents}
use Rattle.keep_core.specs.Kept.{Kept, seen_of}
use Rattle.site_store.specs.declared.site.Site.{Site}
use Rattle.site_store.specs.declared.sites.Sites.{Sites}
use Rattle.site_store.specs.Servers.{names_of, held_of, work_of, faults_of, reads_of, writes_of}

-- the servers, in order
abbrev pub list_of : {K : Type 0} → Sites K → List (Site K)
list_of sites = sites.list.items

-- their names
abbrev pub names : {K : Type 0} → Sites K → List (List ℕ)
names sites = names_of sites.list.items

module _ {K : Type 0} (kept : K → Kept) where
  -- what each server holds, if its keeper reveals it
  abbrev pub held : Sites K → List (Option Contents)
  held sites = held_of kept sites.list.items

  -- what each server's open transaction sees, and None if none is open
  abbrev pub work : Sites K → List (Option (Option Contents))
  work sites = work_of kept sites.list.items

  -- how often each server's keeper has failed
  abbrev pub fault_counts : Sites K → List ℕ
  fault_counts sites = faults_of kept sites.list.items

  -- how often an area was read at each server
  abbrev pub reads_in : Area → Sites K → List ℕ
  reads_in a sites = reads_of kept a sites.list.items

  -- how often an area was written at each server
  abbrev pub writes_in : Area → Sites K → List ℕ
  writes_in a sites = writes_of kept a sites.list.items

  -- what a read at one server sees
  abbrev pub sees : Sites K → ℕ → Option Contents
  sees sites s = seen_of (slice_index_or (held sites) s None) (slice_index_or (work sites) s None)

-- a transaction is open at the server
abbrev pub IsOpenAt : List (Option (Option Contents)) → ℕ → Type 0
IsOpenAt work s = IsSome (slice_index_or work s None)

-- none is
abbrev pub IsClosedAt : List (Option (Option Contents)) → ℕ → Type 0
IsClosedAt work s = slice_index_or work s None ≡ None
