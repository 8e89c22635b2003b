-- How often a capture reads logs.
use Rattle.std.specs.Prelude.{◌≡◌, ◌≢◌, ℕ, ◌+◌, ◌-◌, ◌≤◌, length, Some, None, slice_index_or}
use Rattle.repl_types.specs.declared.area.Area.TheVariants as areas
use Rattle.keep_core.specs.Contents.{Contents}
use Rattle.keep_core.specs.Kept.{Kept}
use Rattle.repl_model.specs.World.{Server, World, restart_after, server_in}
use Rattle.site_store.specs.declared.sites.Sites.{Sites}
use Rattle.site_store.specs.Views.{names, held, work, reads_in}
use Rattle.world_store.specs.Stands.{Stands}
use Rattle.capture_core.specs.Reading.{ForEach}
use Rattle.capture_core.specs.declared.progress.Progress.{Progress}

-- how often the log of a server was read
abbrev pub log_reads : {K : Type 0} → (K → Kept) → Sites K → ℕ → ℕ
log_reads kept sites s = slice_index_or (reads_in kept areas.Log sites) s 0

-- How often a capture reads the log of a server at most: each position from the restart on, and once more where no
-- record follows.
abbrev pub most_log_reads : Server → ℕ
most_log_reads server = length server.log + 2 - restart_after server.log server.captured

module _ {K : Type 0} (kept : K → Kept) (old new : Sites K) (server : ℕ) where
  -- The server's log was read at most this many times, and that of no other server was.
  pub record ReadsLog (n : ℕ) : Type 0 where
    pub here : log_reads kept new server ≤ log_reads kept old server + n
    pub others : (s : ℕ) → s ≢ server → log_reads kept new s ≤ log_reads kept old s

  -- The log was read on, at most once for each position.
  pub record ReadsEachOnce (p q : Progress) : Type 0 where
    pub low : p.read ≤ q.read
    pub reads : ReadsLog (q.read - p.read)

  -- It was read at most once for each of so many more positions, which are all positions of the log, and once more.
  pub record ReadsFurther (p : Progress) : Type 0 where
    pub more : ℕ
    pub reads : ReadsLog (more + 1)
    pub within : (c : Contents) → slice_index_or (work kept old) server None ≡ Some (Some c) → ForEach p c (λ at. p.read + more ≤ length at.log)

  -- No other server's log was read; and in each world for which the servers stood, the server's log was read as often
  -- as that takes from its restart on.
  pub record ReadsFromRestart : Type 0 where
    pub others : (s : ℕ) → s ≢ server → log_reads kept new s ≤ log_reads kept old s
    pub worlds : (w : World) → Stands (names old) (held kept old) w → log_reads kept new server ≤ log_reads kept old server + most_log_reads (server_in w server)
