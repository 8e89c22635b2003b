-- Laws of steps inside a transaction, one after another: proofs, and nothing to believe.
use Rattle.std.proofs.Common.{◌≡◌, ℕ, List, refl, sym, ap, subst, ◌∙◌, Option, IfSome}
use Rattle.repl_types.specs.declared.area.Area.{Area}
use Rattle.repl_types.specs.declared.status.DamageCause.{DamageCause}
use Rattle.keep_core.specs.Contents.{Contents, put_at}
use Rattle.keep_core.specs.Kept.{Kept}
use Rattle.repl_types.specs.declared.fault.Fault.{Fault}
use Rattle.site_store.specs.declared.sites.Sites.{Sites}
use Rattle.site_store.specs.Views.{held, work, sees, IsOpenAt}
use Rattle.site_store.specs.Works.{Sets}
use Rattle.site_store.specs.Calls.{Bounds, both, reads_of_one, writes_of_one, AtServer, Stays, Reads, Puts, Fails}
use Rattle.site_store.specs.Records.{Misread, Misspelt, MisspeltNext}
use Rattle.site_store.specs.Damage.{Rules, AddsOnlySpelt, Shows, ShownBefore, Damages}
use Rattle.site_store.specs.Steps.{ChangesOne, WorksOn}
use Rattle.site_store.specs.laws.Counts.{IsAtMost, passes_none, passes_within, passes_then}
use Rattle.site_store.specs.laws.Transactions.{open_below, works_start, works_then, works_seen, seen_work}
use Rattle.site_store.specs.laws.Damage.{adds_nothing, shows_at, misspelt_shows, misspelt_next_shows, fails_by, fails_within, fails_in_work}

-- nothing changed
pub changes_none : (rules : Rules) (a : Area) (t : ℕ) (c d : Contents) → d ≡ c → ChangesOne rules a t c d
changes_none rules a t c d same = record {
  tables = λ u ne. ap (λ (f : Contents). f a u) same;
  areas = λ b u ne. ap (λ (f : Contents). f b u) same;
  adds = subst (AddsOnlySpelt rules c) (sym same) (adds_nothing rules c);
}

module _ {K : Type 0} (kept : K → Kept) where
  -- nothing was called
  pub works_none : (s0 : Sites K) (server : ℕ) (most : Bounds) (R : Contents → Contents → Type 0) → IsOpenAt (work kept s0) server → ((c d : Contents) → d ≡ c → R c d) → WorksOn kept s0 s0 server most R
  works_none s0 server most R open_at step = record {
    passes = passes_none kept s0 most;
    held = refl;
    works = works_seen (work kept s0) (work kept s0) (work kept s0) server (λ c d. d ≡ c) R (open_below (work kept s0) server open_at) (works_start (work kept s0) server open_at) refl (λ c d is same. step c d same);
  }

  -- something was read
  pub works_read : (s0 s1 : Sites K) (server : ℕ) (x most : Bounds) (R : Contents → Contents → Type 0) → IsOpenAt (work kept s0) server → IsAtMost x most → Stays kept s0 s1 x → ((c d : Contents) → d ≡ c → R c d) → WorksOn kept s0 s1 server most R
  works_read s0 s1 server x most R open_at le stays step = record {
    passes = passes_within kept s0 s1 x most stays.passes le;
    held = stays.held;
    works = works_seen (work kept s0) (work kept s0) (work kept s1) server (λ c d. d ≡ c) R (open_below (work kept s0) server open_at) (works_start (work kept s0) server open_at) stays.work (λ c d is same. step c d same);
  }

  -- a read found something
  pub works_saw : (s0 s1 : Sites K) (server : ℕ) (a : Area) (most : Bounds) (N : Contents → Type 0) (R : Contents → Contents → Type 0) → IsOpenAt (work kept s0) server → IsAtMost (reads_of_one 1 server a) most → Reads kept s0 s1 server a → IfSome (sees kept s0 server) N → ((c d : Contents) → N c → d ≡ c → R c d) → WorksOn kept s0 s1 server most R
  works_saw s0 s1 server a most N R open_at le read saw step = record {
    passes = passes_within kept s0 s1 (reads_of_one 1 server a) most read.stays.passes le;
    held = read.stays.held;
    works = works_seen (work kept s0) (work kept s0) (work kept s1) server (λ c d. d ≡ c) R (open_below (work kept s0) server open_at) (works_start (work kept s0) server open_at) read.stays.work (λ c d here same. step c d (subst N same (seen_work (held kept s0) (work kept s0) server d N here saw)) same);
  }

  -- something was written
  pub works_put : (s0 s1 : Sites K) (server : ℕ) (a : Area) (t : ℕ) (k : List ℕ) (v : Option (List ℕ)) (R : Contents → Contents → Type 0) → IsOpenAt (work kept s0) server → Puts kept s0 s1 server a t k v → ((c d : Contents) → d ≡ put_at c a t k v → R c d) → WorksOn kept s0 s1 server (writes_of_one 1 server a) R
  works_put s0 s1 server a t k v R open_at put step = record {
    passes = put.passes;
    held = put.held;
    works = works_seen (work kept s0) (work kept s1) (work kept s1) server (Sets a t k v) R (open_below (work kept s0) server open_at) put.works refl (λ c d is sets. step c d sets);
  }

  -- one step after another
  pub works_on : (s0 s1 s2 : Sites K) (server : ℕ) (x y z : Bounds) (P Q R : Contents → Contents → Type 0) → IsOpenAt (work kept s0) server → IsAtMost (both x y) z → WorksOn kept s0 s1 server x P → WorksOn kept s1 s2 server y Q → ((c d e : Contents) → P c d → Q d e → R c e) → WorksOn kept s0 s2 server z R
  works_on s0 s1 s2 server x y z P Q R open_at most first second step = record {
    passes = passes_then kept s0 s1 s2 x y z first.passes second.passes most;
    held = second.held ∙ first.held;
    works = works_then (work kept s0) (work kept s1) (work kept s2) server P Q R (open_below (work kept s0) server open_at) first.works second.works (λ c d e is p q. step c d e p q);
  }

  -- a step did what follows from what it did
  pub works_as : (s0 s1 : Sites K) (server : ℕ) (most : Bounds) (P R : Contents → Contents → Type 0) → IsOpenAt (work kept s0) server → WorksOn kept s0 s1 server most P → ((c d : Contents) → P c d → R c d) → WorksOn kept s0 s1 server most R
  works_as s0 s1 server most P R open_at w step = record {
    passes = w.passes;
    held = w.held;
    works = works_seen (work kept s0) (work kept s1) (work kept s1) server P R (open_below (work kept s0) server open_at) w.works refl (λ c d here p. step c d p);
  }

  -- a step fails after others
  pub works_fail : (servers : ℕ → Type 0) (rules : Rules) (s0 s1 s2 : Sites K) (server : ℕ) (x y z : Bounds) (P : Contents → Contents → Type 0) (e : Fault) → IsOpenAt (work kept s0) server → IsAtMost (both x y) z → ((c d : Contents) → P c d → ShownBefore rules c d) → WorksOn kept s0 s1 server x P → Fails kept s1 s2 y (Damages servers rules kept s1) e → Fails kept s0 s2 z (Damages servers rules kept s0) e
  works_fail servers rules s0 s1 s2 server x y z P e open_at most shown first f = fails_in_work kept servers rules s0 s1 s2 x y z e most server P (open_below (work kept s0) server open_at) open_at first.passes first.held first.works shown f

  -- a read fails: what it saw is damaged by the rules
  read_fails : (servers : ℕ → Type 0) (rules : Rules) (s0 s1 : Sites K) (server : ℕ) (a : Area) (damage : Area → DamageCause → Type 0) (most : Bounds) (e : Fault) → servers server → ((b : Area) (cause : DamageCause) → damage b cause → Shows rules b cause (sees kept s0 server)) → IsAtMost (reads_of_one 1 server a) most → Fails kept s0 s1 (reads_of_one 1 server a) (AtServer server damage) e → Fails kept s0 s1 most (Damages servers rules kept s0) e
  read_fails servers rules s0 s1 server a damage most e among shows le f =
      let D = Damages servers rules kept s0 in
      fails_within kept s0 s1 D (reads_of_one 1 server a) most e (fails_by kept s0 s1 (AtServer server damage) D (reads_of_one 1 server a) e f (λ s b cause h. (subst servers (sym h.0) among, shows_at kept s0 rules server damage shows s b cause h))) le

  -- the record that was asked for is misspelt
  pub get_fails : {X : Type 0} (fits : X → Type 0) (spelling : X → List ℕ) (servers : ℕ → Type 0) (rules : Rules) (s0 s1 : Sites K) (server : ℕ) (a : Area) (t : ℕ) (key : List ℕ) (most : Bounds) (e : Fault) → servers server → ((bytes : List ℕ) → rules.is_value a t bytes → (x : X) × fits x × (bytes ≡ spelling x)) → IsAtMost (reads_of_one 1 server a) most → Fails kept s0 s1 (reads_of_one 1 server a) (AtServer server (Misread a (Misspelt fits spelling a t key (sees kept s0 server)))) e → Fails kept s0 s1 most (Damages servers rules kept s0) e
  get_fails fits spelling servers rules s0 s1 server a t key most e among values le f =
      let saw = sees kept s0 server in
      read_fails servers rules s0 s1 server a (Misread a (Misspelt fits spelling a t key saw)) most e among (λ b cause. misspelt_shows fits spelling rules a b t key saw cause values) le f

  -- or its key is, or the next record
  pub next_fails : {Y X : Type 0} (key_fits : Y → Type 0) (key_spelling : Y → List ℕ) (fits : X → Type 0) (spelling : X → List ℕ) (servers : ℕ → Type 0) (rules : Rules) (s0 s1 : Sites K) (server : ℕ) (a : Area) (t : ℕ) (after : List ℕ) (most : Bounds) (e : Fault) → servers server → ((bytes : List ℕ) → rules.is_key a t bytes → (y : Y) × key_fits y × (bytes ≡ key_spelling y)) → ((bytes : List ℕ) → rules.is_value a t bytes → (x : X) × fits x × (bytes ≡ spelling x)) → IsAtMost (reads_of_one 1 server a) most → Fails kept s0 s1 (reads_of_one 1 server a) (AtServer server (Misread a (MisspeltNext key_fits key_spelling fits spelling a t after (sees kept s0 server)))) e → Fails kept s0 s1 most (Damages servers rules kept s0) e
  next_fails key_fits key_spelling fits spelling servers rules s0 s1 server a t after most e among keys values le f =
      let saw = sees kept s0 server in
      read_fails servers rules s0 s1 server a (Misread a (MisspeltNext key_fits key_spelling fits spelling a t after saw)) most e among (λ b cause. misspelt_next_shows key_fits key_spelling fits spelling rules a b t after saw cause keys values) le f
