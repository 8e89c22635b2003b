-- Why a table wasn't shown whole, by the rules of all tables.
use Rattle.std.proofs.Common.{◌≡◌, ℕ, ◌<◌, List, length, arith}
use Rattle.world_store.specs.Words.{Stands, Spells}
use Rattle.site_store.specs.Words.{Kept, count_max, AllClosed, names, held, work, Bounds, both, reads_of_one, reads_more, Stays, Damages, IsAtMost, at_most_itself, stays_none, stays_then, fails_after}
use Rattle.site_store.specs.declared.sites.Sites.{Sites}
use Rattle.repl_model.specs.Words.{Area, ShowError, World}
use Rattle.repl_types.specs.declared.area.Area.TheVariants as areas
use Rattle.repl_types.specs.declared.call_errors.ShowError.TheVariants as errors
use Rattle.stored_defs.specs.Reading.{table_rules}
use Rattle.stored_defs.specs.laws.Blaming.{fails_by_table}
use Rattle.shows.specs.servers.Showing.{IsUndamagedShow}
use Rattle.shows.specs.tables.Rules.{rules, ShowsDamage}
use Rattle.shows.specs.tables.Showing.{FailsShowing}
use Rattle.shows.proofs.StandingTables.{none_damaged}

-- one read of definitions is within the reads for a table
pub one_read : (s : ℕ) (more : Bounds) → IsAtMost (reads_of_one 1 s areas.Defs) (both (reads_of_one 1 s areas.Defs) more)
one_read s more = record { reads = λ q b. omega arith; writes = λ q b. omega arith }

-- a table wasn't shown whole, after calls that changed nothing
pub fails_by_rules : {K A X : Type 0} (kept : K → Kept) (key_fits : A → Type 0) (key : A → List ℕ) (fits : X → Type 0) (spelling : X → List ℕ) (a : Area) (t : ℕ) → ((bytes : List ℕ) → rules.is_key a t bytes → Spells key_fits key bytes) → ((bytes : List ℕ) → rules.is_value a t bytes → Spells fits spelling bytes) → (s0 s1 s2 : Sites K) (server : ℕ) (x y z : Bounds) (before now : ℕ) (e : ShowError) → server < length (names s0) → IsAtMost (both x y) z → Stays kept s0 s1 x → FailsShowing kept s1 s2 y (Damages (λ s. s ≡ server) (table_rules key_fits key fits spelling a t) kept s1) before now e → FailsShowing kept s0 s2 z (ShowsDamage kept s0) before now e
fails_by_rules kept key_fits key fits spelling a t keys values s0 s1 s2 server x y z before now (errors.Fault e) lt most stays f =
    fails_after kept (λ s. s < length (names s0)) rules s0 s1 s2 x y z e most stays (fails_by_table key_fits key fits spelling a t rules keys values kept (λ s. s < length (names s0)) s1 s2 server y y e lt (at_most_itself y) f)
fails_by_rules kept key_fits key fits spelling a t keys values s0 s1 s2 server x y z before now errors.Output lt most stays f = (f.0, stays_then kept s0 s1 s2 x y z stays f.1 most)

-- or after none
pub fails_alone : {K A X : Type 0} (kept : K → Kept) (key_fits : A → Type 0) (key : A → List ℕ) (fits : X → Type 0) (spelling : X → List ℕ) (a : Area) (t : ℕ) → ((bytes : List ℕ) → rules.is_key a t bytes → Spells key_fits key bytes) → ((bytes : List ℕ) → rules.is_value a t bytes → Spells fits spelling bytes) → (s0 s1 : Sites K) (server before now : ℕ) (e : ShowError) → server < length (names s0) → FailsShowing kept s0 s1 (reads_of_one count_max server a) (Damages (λ s. s ≡ server) (table_rules key_fits key fits spelling a t) kept s0) before now e → FailsShowing kept s0 s1 (reads_of_one count_max server a) (ShowsDamage kept s0) before now e
fails_alone kept key_fits key fits spelling a t keys values s0 s1 server before now e lt f = fails_by_rules kept key_fits key fits spelling a t keys values s0 s0 s1 server (reads_of_one 0 server a) (reads_of_one count_max server a) (reads_of_one count_max server a) before now e lt (reads_more 0 count_max count_max server a (omega arith)) (stays_none kept s0 (reads_of_one 0 server a)) f

-- no damage is reported of servers that stand for a world
pub shows_undamaged : {K : Type 0} (kept : K → Kept) (s0 s1 : Sites K) (most : Bounds) (before now : ℕ) → AllClosed (work kept s0) → (e : ShowError) → FailsShowing kept s0 s1 most (ShowsDamage kept s0) before now e → (w : World) → Stands (names s0) (held kept s0) w → IsUndamagedShow e
shows_undamaged kept s0 s1 most before now closed (errors.Fault e) f w stands = none_damaged kept s0 closed w stands s1 e f.blames
shows_undamaged kept s0 s1 most before now closed errors.Output f w stands = tt
