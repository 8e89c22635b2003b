-- The servers as a list, and what a clause sees of each.
use Rattle.std.specs.Prelude.{◌≡◌, ◌≢◌, ℕ, ◌<◌, ◌≤◌, List, [], length, map, Option, None, slice_index_or}
use Rattle.repl_types.specs.declared.area.Area.{Area}
use Rattle.keep_core.specs.Contents.{Contents}
use Rattle.keep_core.specs.Kept.{Kept}
use Rattle.site_store.specs.declared.site.Site.{Site}

-- the name of a server
abbrev pub site_name : {K : Type 0} → Site K → List ℕ
site_name site = site.name

-- the keeper of a server
abbrev pub site_keeper : {K : Type 0} → Site K → K
site_keeper site = site.keeper

-- the names of the servers
abbrev pub names_of : {K : Type 0} → List (Site K) → List (List ℕ)
names_of xs = map (λ site. site.name) xs

module _ {K : Type 0} (kept : K → Kept) where
  -- what a clause sees of a server's keeper
  abbrev pub state : Site K → Kept
  state site = kept site.keeper

  -- what each server holds, if its keeper reveals it
  abbrev pub held_of : List (Site K) → List (Option Contents)
  held_of xs = map (λ site. (kept site.keeper).held) xs

  -- what each server's open transaction sees, and None if none is open
  abbrev pub work_of : List (Site K) → List (Option (Option Contents))
  work_of xs = map (λ site. (kept site.keeper).open_work) xs

  -- how often each server's keeper has failed
  abbrev pub faults_of : List (Site K) → List ℕ
  faults_of xs = map (λ site. (kept site.keeper).faults) xs

  -- how often an area was read at each server
  abbrev pub reads_of : Area → List (Site K) → List ℕ
  reads_of a xs = map (λ site. (kept site.keeper).reads a) xs

  -- how often an area was written at each server
  abbrev pub writes_of : Area → List (Site K) → List ℕ
  writes_of a xs = map (λ site. (kept site.keeper).writes a) xs

-- no server has a transaction open
abbrev pub AllClosed : List (Option (Option Contents)) → Type 0
AllClosed work = (s : ℕ) → slice_index_or work s None ≡ None

-- no two servers have one name
abbrev pub AreApart : List (List ℕ) → Type 0
AreApart names = (i j : ℕ) → i < j → j < length names → slice_index_or names i [] ≢ slice_index_or names j []

-- there are 1 to 16 servers, and no two have one name
pub record AreServers (names : List (List ℕ)) : Type 0 where
  pub some : 0 < length names
  pub few : length names ≤ 16
  pub apart : AreApart names

-- the place of a name
pub record IsPlace (names : List (List ℕ)) (name : List ℕ) (s : ℕ) : Type 0 where
  pub within : s < length names
  pub is : slice_index_or names s [] ≡ name

-- no server has the name
abbrev pub HasNone : List (List ℕ) → List ℕ → Type 0
HasNone names name = (s : ℕ) → s < length names → slice_index_or names s [] ≢ name
