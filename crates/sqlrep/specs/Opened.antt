-- Which servers a run opens, and how.
use Rattle.std.specs.Prelude.{◌≡◌, ◌≢◌, ℕ, Bool, true, ◌&&◌, not, map, List}
use Rattle.std.specs.List.{AllZip, list_all, list_any}
use Rattle.std.specs.Str.{bytes_eq}
use Rattle.keep_map.specs.Keepers.{IsNew}
use Rattle.keep_sqlite.specs.Keepers.{kept_of, kept_new}
use Rattle.keep_sqlite.specs.declared.any_keeper.AnyKeeper.{AnyKeeper}
use Rattle.keep_sqlite.specs.declared.any_keeper.AnyKeeper.TheVariants.{Map, Sqlite}
use Rattle.run_words.specs.declared.opening.Opening.{Opening}
use Rattle.run_words.specs.declared.opening.Opening.TheVariants.{Copy, Servers}
use Rattle.run_words.specs.declared.opening.ServerWord.{ServerWord}
use Rattle.run_words.specs.Openings.{map_path}
use Rattle.session_core.specs.Session.{server_names}
use Rattle.site_store.specs.Servers.{names_of, site_keeper}
use Rattle.site_store.specs.declared.site.Site.{Site}
use Rattle.sqlrep.specs.declared.servers.OpenError.{OpenError}
use Rattle.sqlrep.specs.declared.servers.OpenError.TheVariants.{Memory, CannotOpen}

-- a server that is kept in memory
abbrev pub in_memory : List ℕ → ServerWord
in_memory name = record { name = name; path = map_path }

-- the servers that a run needs: `copy` needs those of its names in memory, and a script those of its words
abbrev pub needed_servers : Opening → List ServerWord
needed_servers Copy = map in_memory (server_names Copy)
needed_servers (Servers cells servers) = servers

-- all of them are kept in memory
abbrev pub all_in_memory : List ServerWord → Bool
all_in_memory servers = list_all (λ server. bytes_eq server.path map_path) servers

-- The keeper of a path was just opened. In memory it holds nothing, and plans no failure; in a file no transaction is open, and
-- nothing is counted.
abbrev pub IsOpened : {S : Type 0} → List ℕ → AnyKeeper S → Type 0
IsOpened path (Map keeper) = (path ≡ map_path) × IsNew keeper
IsOpened path (Sqlite keeper) = (path ≢ map_path) × (kept_of keeper ≡ kept_new)

-- The servers of these words were opened, under their names.
pub record AreOpened {S : Type 0} (words : List ServerWord) (servers : List (Site (AnyKeeper S))) : Type 0 where
  pub named : names_of servers ≡ map (λ word. word.name) words
  pub keepers : AllZip (λ word server. IsOpened word.path (site_keeper server)) words servers

-- a server of this name is kept in a file
abbrev pub is_in_file : List ℕ → ServerWord → Bool
is_in_file name word = bytes_eq word.name name && not (bytes_eq word.path map_path)

-- which server can't be opened: one in a file
abbrev pub in_files : List ServerWord → OpenError → Bool
in_files words Memory = true
in_files words (CannotOpen name) = list_any (is_in_file name) words
