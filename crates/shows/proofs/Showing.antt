-- The rows of a table of one server are shown one after another.
use Rattle.std.proofs.Common.{◌≡◌, ℕ, ◌+◌, ◌<◌, ◌≤◌, List, refl, sym, subst, arith, Option, Some, None, IfSome}
use Rattle.world_store.specs.Words.{One}
use Rattle.site_store.specs.Words.{Contents, IsNextKey, IsLastKey, Kept, count_max, Takes, TakesPrefix, AllClosed, work, sees, after_key, NextRowIs, Misread, MisspeltNext, Bounds, reads_of_one, AtServer, Stays, Fails, Damages, at_most_itself, stays_then, fails_after, next_fails, reads_more, reads_within, any_seen, if_seen, if_both_seen, stays_sees, stays_within}
use Rattle.site_store.specs.declared.sites.Sites.{Sites}
use Rattle.repl_model.specs.Words.{Area, DamageCause, ShowError, Fault}
use Rattle.repl_types.specs.declared.call_errors.ShowError.TheVariants as errors
use Rattle.stored_defs.specs.Reading.{table_rules}
use Rattle.site_store.specs.laws.Passing.{no_memory}
use Rattle.shows.specs.tables.Replies.{count_line}
use Rattle.shows.specs.tables.Records.{TakesRows, TakesSomeRows}
use Rattle.shows.specs.tables.Showing.{IsOutputFault, FailsShowing}
use Rattle.shows.proofs.ShownRows.{HasShown, HasShownAll, shows_none, shows_on, shows_part, shows_some, shows_last, shows_full, shows_all, shows_all_part}

-- a line wasn't written whole, after calls that changed nothing
pub output_fails : {K : Type 0} (kept : K → Kept) (s0 s1 : Sites K) (most : Bounds) (damage : ℕ → Area → DamageCause → Type 0) (before between now : ℕ) (e : ShowError) → AllClosed (work kept s0) → Stays kept s0 s1 most → before ≤ between → IsOutputFault between now e → FailsShowing kept s0 s1 most damage before now e
output_fails kept s0 s1 most damage before between now (errors.Fault e) closed stays le memory = subst (Fails kept s0 s1 most damage) (sym memory) (no_memory kept s0 s1 most damage closed stays)
output_fails kept s0 s1 most damage before between now errors.Output closed stays le rose = ((λ lt. omega (arith, rose lt)), stays)

module _ {K A X : Type 0} (kept : K → Kept) (key_fits : A → Type 0) (key : A → List ℕ) (fits : X → Type 0) (spelling : X → List ℕ) (line : A → X → List ℕ) (a : Area) (t : ℕ) (s0 s1 : Sites K) (server : ℕ) (before now : Option (List ℕ)) where
  -- what a sink took, if the table at the server is made of rows
  abbrev pub Whole : Option (List ℕ) → Type 0
  Whole new = IfSome (sees kept s0 server) (TakesRows key_fits key fits spelling line a t before new)

  -- a prefix of that
  abbrev pub Part : Option (List ℕ) → Type 0
  Part new = IfSome (sees kept s0 server) (TakesSomeRows key_fits key fits spelling line a t before new)

  -- rows were shown up to a key
  abbrev pub UpTo : Option A → ℕ → Option (List ℕ) → Type 0
  UpTo last n new = IfSome (sees kept s0 server) (HasShown key_fits key fits spelling line a t last n before new)

  -- all rows were shown
  abbrev pub All : ℕ → Option (List ℕ) → Type 0
  All n new = IfSome (sees kept s0 server) (HasShownAll key_fits key fits spelling line a t n before new)

  -- nothing was shown yet
  pub starts : IfSome (sees kept s0 server) (HasShown key_fits key fits spelling line a t None 0 before before)
  starts = if_seen (sees kept s0 server) (λ _. Unit {0}) (HasShown key_fits key fits spelling line a t None 0 before before) (λ d _. shows_none key_fits key fits spelling line a t d before) (any_seen (sees kept s0 server))

  -- nothing more was taken
  pub stops : (last : Option A) (n : ℕ) → UpTo last n now → Part now
  stops last n shown = if_seen (sees kept s0 server) (HasShown key_fits key fits spelling line a t last n before now) (TakesSomeRows key_fits key fits spelling line a t before now) (λ d h. shows_some key_fits key fits spelling line a t d last n before now h) shown

  module _ (n : ℕ) (stays : Stays kept s0 s1 (reads_of_one n server a)) (last : Option A) (shown : UpTo last n now) where
    -- what is seen is what was seen at the beginning
    seen_first : (P : Contents → Type 0) → IfSome (sees kept s1 server) P → IfSome (sees kept s0 server) P
    seen_first P h = subst (λ (o : Option Contents). IfSome o P) (stays_sees kept s0 s1 (reads_of_one n server a) stays server) h

    module _ (k : A) (x : X) (one_key : (x y : A) → key_fits x → key_fits y → key x ≡ key y → x ≡ y) (one : One fits spelling) (fit_key : key_fits k) (fit : fits x) (next : IfSome (sees kept s1 server) (NextRowIs key spelling a t (after_key key last) (Some (k, x)))) (new : Option (List ℕ)) where
      abbrev IsNext : Contents → Type 0
      IsNext d = IsNextKey (d a t) (after_key key last) (key k) (spelling x)

      -- one more row was shown
      pub goes_on : Takes now new (line k x) → UpTo (Some k) (n + 1) new
      goes_on took = if_both_seen (sees kept s0 server) IsNext (HasShown key_fits key fits spelling line a t last n before now) (HasShown key_fits key fits spelling line a t (Some k) (n + 1) before new)
          (λ d is h. shows_on key_fits key fits spelling line a t one_key one d last k x n before now new fit_key fit is took h) (seen_first IsNext next) shown

      -- a part of its line was taken
      pub stops_in : TakesPrefix now new (line k x) → Part new
      stops_in took = if_both_seen (sees kept s0 server) IsNext (HasShown key_fits key fits spelling line a t last n before now) (TakesSomeRows key_fits key fits spelling line a t before new)
          (λ d is h. shows_part key_fits key fits spelling line a t one_key one d last k x n before now new fit_key fit is took h) (seen_first IsNext next) shown

    -- there is no row more
    pub ends : IfSome (sees kept s1 server) (NextRowIs {X = X} key spelling a t (after_key key last) None) → All n now
    ends none = if_both_seen (sees kept s0 server) (λ d. IsLastKey (d a t) (after_key key last)) (HasShown key_fits key fits spelling line a t last n before now) (HasShownAll key_fits key fits spelling line a t n before now)
        (λ d is h. shows_last key_fits key fits spelling line a t d last n before now is h) (seen_first (λ d. IsLastKey (d a t) (after_key key last)) none) shown

    -- there can't be one more
    pub is_full : n ≡ count_max → All count_max now
    is_full full = if_seen (sees kept s0 server) (HasShown key_fits key fits spelling line a t last count_max before now) (HasShownAll key_fits key fits spelling line a t count_max before now)
        (λ d h. shows_full key_fits key fits spelling line a t d last before now h) (subst (λ (m : ℕ). UpTo last m now) full shown)

  -- the count was written too
  pub counted : (n : ℕ) (new : Option (List ℕ)) → Takes now new (count_line n) → All n now → Whole new
  counted n new took all = if_seen (sees kept s0 server) (HasShownAll key_fits key fits spelling line a t n before now) (TakesRows key_fits key fits spelling line a t before new) (λ d h. shows_all key_fits key fits spelling line a t d n before now new took h) all

  -- or a part of that line
  pub stops_counting : (n : ℕ) (new : Option (List ℕ)) → TakesPrefix now new (count_line n) → All n now → Part new
  stops_counting n new took all = if_seen (sees kept s0 server) (HasShownAll key_fits key fits spelling line a t n before now) (TakesSomeRows key_fits key fits spelling line a t before new) (λ d h. shows_all_part key_fits key fits spelling line a t d n before now new took h) all

-- ---- calls

module _ {K : Type 0} (kept : K → Kept) (s0 s1 s2 : Sites K) (server : ℕ) (a : Area) (n : ℕ) where
  -- one more read, within a limit
  pub read_more : (m : ℕ) → n + 1 ≤ m → Stays kept s0 s1 (reads_of_one n server a) → Stays kept s1 s2 (reads_of_one 1 server a) → Stays kept s0 s2 (reads_of_one m server a)
  read_more m le stays read = stays_then kept s0 s1 s2 (reads_of_one n server a) (reads_of_one 1 server a) (reads_of_one m server a) stays read (reads_more n 1 m server a le)

  -- no more reads, within a limit
  pub reads_up_to : (m : ℕ) → n ≤ m → Stays kept s0 s1 (reads_of_one n server a) → Stays kept s0 s1 (reads_of_one m server a)
  reads_up_to m le stays = stays_within kept s0 s1 (reads_of_one n server a) (reads_of_one m server a) stays (reads_within n m server a le)

  -- the next record can't be read
  pub read_fails : {A X : Type 0} (key_fits : A → Type 0) (key : A → List ℕ) (fits : X → Type 0) (spelling : X → List ℕ) (t : ℕ) (after : List ℕ) (e : Fault) → n < count_max → Stays kept s0 s1 (reads_of_one n server a) → Fails kept s1 s2 (reads_of_one 1 server a) (AtServer server (Misread a (MisspeltNext key_fits key fits spelling a t after (sees kept s1 server)))) e → Fails kept s0 s2 (reads_of_one count_max server a) (Damages (λ s. s ≡ server) (table_rules key_fits key fits spelling a t) kept s0) e
  read_fails key_fits key fits spelling t after e lt stays f =
      let rules = table_rules key_fits key fits spelling a t in
      fails_after kept (λ s. s ≡ server) rules s0 s1 s2 (reads_of_one n server a) (reads_of_one 1 server a) (reads_of_one count_max server a) e (reads_more n 1 count_max server a (omega arith)) stays
      (next_fails kept key_fits key fits spelling (λ s. s ≡ server) rules s1 s2 server a t after (reads_of_one 1 server a) e refl (λ bytes h. h refl refl) (λ bytes h. h refl refl) (at_most_itself (reads_of_one 1 server a)) f)
