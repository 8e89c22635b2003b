-- A call of one server's keeper, as all servers see it.
use Rattle.std.proofs.Common.{◌≡◌, ℕ, ◌<◌, List, length, get_or, map, refl, sym, ap, subst, ◌∙◌, arith, inl, inr, Option, Some, None, IsSome, option_map}
use Rattle.std.specs.Vec.{with_item}
use Rattle.std.proofs.lemmas.List.{length-map}
use Rattle.repl_types.specs.declared.area.Area.{Area}
use Rattle.repl_types.specs.declared.status.DamageCause.{DamageCause}
use Rattle.repl_types.specs.declared.fault.Fault.{Fault}
use Rattle.repl_types.specs.declared.fault.Fault.TheVariants as faults
use Rattle.keep_core.specs.Contents.{Contents, put_at}
use Rattle.keep_core.specs.Kept.{Kept, Closes, seen_of, seen, opened, committed, after_read, after_write, changed}
use Rattle.keep_core.specs.Revealed.{Rises}
use Rattle.site_store.specs.declared.buffers.Buffers.{Buffers}
use Rattle.site_store.specs.declared.site.Site.{Site}
use Rattle.site_store.specs.declared.sites.Sites.{Sites}
use Rattle.site_store.specs.Records.{NoDamage, BlamesOne, Halts, MayHalt}
use Rattle.site_store.specs.Servers.{AreServers, names_of}
use Rattle.site_store.specs.Views.{names, held, work, fault_counts, reads_in, sees}
use Rattle.site_store.specs.Calls.{Bounds, no_access, reads_of_one, writes_of_one, Passes, Reads, Puts, Begins, ClosesOne, ClosesAll, Commits, AtServer, Blames, Fails, InDoubt}
use Rattle.site_store.specs.laws.Counts.{passes_then}
use Rattle.site_store.specs.laws.Transactions.{works_set}
use Rattle.site_store.proofs.Replaced.{swapped, names_stay, stays, becomes, had, has, none_fell, none_back, within}
use Rattle.site_store.proofs.Counting.{Counts, rises_later, counted_rises, counts_none, counts_read, counts_written, counts_halted}

-- the servers with a new keeper at one
abbrev pub with_keeper : {K : Type 0} → (sites : Sites K) (s : ℕ) (site : Site K) (new : K) → Buffers → AreServers (names_of (swapped sites.list.items s site new)) → Sites K
with_keeper sites s site new buffers servers = record { list = with_item sites.list s (record { name = site.name; keeper = new }); buffers = buffers; servers = servers }

module _ {K : Type 0} (kept : K → Kept) (sites : Sites K) (s : ℕ) (site : Site K) (below : s < length (names sites)) (is : site ≡ get_or sites.list.items s site) (new : K) where
  -- the server is one of the list
  lt : s < length sites.list.items
  lt = simp length-map at below

  -- they are servers still
  pub servers_stay : AreServers (names_of (swapped sites.list.items s site new))
  servers_stay = subst AreServers (sym (names_stay kept sites.list.items s site lt is new)) sites.servers

  -- what the server's part of the lists is
  pub saw : sees kept sites s ≡ seen (kept site.keeper)
  saw = ap (λ (p : Option Contents × Option (Option Contents)). seen_of p.0 p.1) (λ i. (had kept sites.list.items s site lt is new (λ k. k.held) None i, had kept sites.list.items s site lt is new (λ k. k.open_work) None i))

  -- and of the transaction
  pub work_was : get_or (work kept sites) s None ≡ (kept site.keeper).open_work
  work_was = had kept sites.list.items s site lt is new (λ k. k.open_work) None

  module _ (buffers : Buffers) (servers : AreServers (names_of (swapped sites.list.items s site new))) where
    -- the servers after the call
    abbrev next : Sites K
    next = with_keeper sites s site new buffers servers

    -- what every call keeps
    passes : (most : Bounds) → Counts s (kept site.keeper) (kept new) most → Passes kept sites next most
    passes most c = record {
      names = names_stay kept sites.list.items s site lt is new;
      faults = none_fell kept sites.list.items s site lt is new (λ k. k.faults) c.later;
      reads = λ a. none_back kept sites.list.items s site lt is new (λ k. k.reads a) (c.back a);
      writes = λ a. none_back kept sites.list.items s site lt is new (λ k. k.writes a) (c.kept_up a);
      within = record {
        reads = λ q a. within kept sites.list.items s site lt is new (λ p. most.reads p a) (λ k. k.reads a) (c.reads a) q;
        writes = λ q a. within kept sites.list.items s site lt is new (λ p. most.writes p a) (λ k. k.writes a) (c.writes a) q;
      };
    }

    -- a count that rose
    rose : (f : Kept → ℕ) → Rises (f (kept site.keeper)) (f (kept new)) → Rises (get_or (map (λ x. f (kept x.keeper)) sites.list.items) s 0) (get_or (map (λ x. f (kept x.keeper)) next.list.items) s 0)
    rose f here = subst (λ (p : ℕ × ℕ). Rises p.0 p.1) (λ i. (sym (had kept sites.list.items s site lt is new f 0) i, sym (has kept sites.list.items s site lt is new f 0) i)) here

    -- what is held stays
    held_stays : (kept new).held ≡ (kept site.keeper).held → held kept next ≡ held kept sites
    held_stays e = stays kept sites.list.items s site lt is new (λ k. k.held) e

    -- ---- a call that went on

    -- a read
    pub reads : (a : Area) → kept new ≡ after_read (kept site.keeper) a → Reads kept sites next s a
    reads a e = record {
      stays = record {
        passes = passes (reads_of_one 1 s a) (counts_read s (kept site.keeper) (kept new) a (omega (arith, ap (λ (k : Kept). k.faults) e)) (ap (λ (k : Kept). k.reads) e) (ap (λ (k : Kept). k.writes) e));
        held = held_stays (ap (λ (k : Kept). k.held) e);
        work = stays kept sites.list.items s site lt is new (λ k. k.open_work) (ap (λ (k : Kept). k.open_work) e);
      };
      rose = rose (λ k. k.reads a) (subst (λ (k : Kept). Rises ((kept site.keeper).reads a) (k.reads a)) (sym e) (counted_rises (kept site.keeper).reads a));
    }

    -- a put, or a remove
    pub puts : (a : Area) (t : ℕ) (key : List ℕ) (v : Option (List ℕ)) → IsSome (get_or (work kept sites) s None) → kept new ≡ changed (kept site.keeper) a t key v → Puts kept sites next s a t key v
    puts a t key v open_at e = record {
      passes = passes (writes_of_one 1 s a) (counts_written s (kept site.keeper) (kept new) a (omega (arith, ap (λ (k : Kept). k.faults) e)) (ap (λ (k : Kept). k.reads) e) (ap (λ (k : Kept). k.writes) e));
      held = held_stays (ap (λ (k : Kept). k.held) e);
      works = works_set (work kept sites) (work kept next) s a t key v open_at (becomes kept sites.list.items s site lt is new (λ k. k.open_work) _ (ap (λ (k : Kept). k.open_work) e ∙ ap (λ (w : Option (Option Contents)). option_map (option_map (λ c. put_at c a t key v)) w) (sym work_was)));
      rose = rose (λ k. k.writes a) (subst (λ (k : Kept). Rises ((kept site.keeper).writes a) (k.writes a)) (sym e) (counted_rises (kept site.keeper).writes a));
    }

    -- a begin
    pub begins : kept new ≡ opened (kept site.keeper) → Begins kept sites next s
    begins e = record {
      passes = passes no_access (counts_none s (kept site.keeper) (kept new) (omega (arith, ap (λ (k : Kept). k.faults) e)) (ap (λ (k : Kept). k.reads) e) (ap (λ (k : Kept). k.writes) e));
      work = becomes kept sites.list.items s site lt is new (λ k. k.open_work) _ (ap (λ (k : Kept). k.open_work) e ∙ ap (λ (w : Option Contents). Some w) (sym (had kept sites.list.items s site lt is new (λ k. k.held) None)));
      held = held_stays (ap (λ (k : Kept). k.held) e);
    }

    -- a rollback
    pub closes_one : Closes (kept site.keeper) (kept new) → ClosesOne kept sites next s
    closes_one c = record {
      passes = passes no_access (counts_none s (kept site.keeper) (kept new) c.later (ap (λ (k : Kept). k.reads) c.now) (ap (λ (k : Kept). k.writes) c.now));
      held = held_stays (ap (λ (k : Kept). k.held) c.now);
      work = becomes kept sites.list.items s site lt is new (λ k. k.open_work) None (ap (λ (k : Kept). k.open_work) c.now);
    }

    -- a commit that took place
    pub commits : kept new ≡ committed (kept site.keeper) → Commits kept sites next s
    commits e = record {
      passes = passes no_access (counts_none s (kept site.keeper) (kept new) (omega (arith, ap (λ (k : Kept). k.faults) e)) (ap (λ (k : Kept). k.reads) e) (ap (λ (k : Kept). k.writes) e));
      held = becomes kept sites.list.items s site lt is new (λ k. k.held) _ (ap (λ (k : Kept). k.held) e ∙ sym saw);
      work = becomes kept sites.list.items s site lt is new (λ k. k.open_work) None (ap (λ (k : Kept). k.open_work) e);
    }

    -- ---- a call that failed, after which all servers are closed

    module _ (end : Sites K) (c : ClosesAll kept next end no_access) where
      -- what the call keeps, the close keeps
      to_end : (most : Bounds) → Passes kept sites next most → Passes kept sites end most
      to_end most p = passes_then kept sites next end most no_access most p c.passes (record { reads = λ q a. omega arith; writes = λ q a. omega arith })

      -- who is to blame
      blames : (damage : Area → DamageCause → Type 0) (e : Fault) → BlamesOne s (kept site.keeper) (kept new) damage e → Blames kept sites end (AtServer s damage) e
      blames damage faults.Memory h = tt
      blames damage (faults.Keeper q) h =
          subst (λ (k : ℕ). Rises (get_or (fault_counts kept sites) k 0) (get_or (fault_counts kept end) k 0)) (sym h.0) (rises_later _ _ _ (rose (λ k. k.faults) h.1) (λ small. c.passes.faults s))
      blames damage (faults.Damaged q a cause) h =
          (λ read. subst (λ (k : ℕ). Rises (get_or (reads_in kept a sites) k 0) (get_or (reads_in kept a end) k 0)) (sym h.0) (rises_later _ _ _ (rose (λ k. k.reads a) h.1) (λ small. c.passes.reads a s small)), (h.0, h.2))
      blames damage (faults.Refused refusal) h = absurd h

      -- a call but a commit
      fails : (whole : Kept) (most : Bounds) (damage : Area → DamageCause → Type 0) (e : Fault) → Counts s (kept site.keeper) whole most → Halts s (kept site.keeper) whole (kept new) damage e → Fails kept sites end most (AtServer s damage) e
      fails whole most damage e counts h = record {
        closes = record {
          passes = to_end most (passes most (counts_halted s s (kept site.keeper) whole (kept new) damage e most counts h));
          held = c.held ∙ held_stays h.held;
          closed = c.closed;
        };
        blames = blames damage e h.blames;
      }

      -- a read, by what it saw
      pub read_fails : (a : Area) (damage : Option Contents → Area → DamageCause → Type 0) (e : Fault) → Halts s (kept site.keeper) (after_read (kept site.keeper) a) (kept new) (damage (seen (kept site.keeper))) e → Fails kept sites end (reads_of_one 1 s a) (AtServer s (damage (sees kept sites s))) e
      read_fails a damage e h = subst (λ (o : Option Contents). Fails kept sites end (reads_of_one 1 s a) (AtServer s (damage o)) e) (sym saw) (fails (after_read (kept site.keeper) a) (reads_of_one 1 s a) (damage (seen (kept site.keeper))) e (counts_read s (kept site.keeper) (after_read (kept site.keeper) a) a (omega arith) refl refl) h)

      -- a write
      pub write_fails : (a : Area) (e : Fault) → Halts s (kept site.keeper) (after_write (kept site.keeper) a) (kept new) NoDamage e → Fails kept sites end (writes_of_one 1 s a) (AtServer s NoDamage) e
      write_fails a e = fails (after_write (kept site.keeper) a) (writes_of_one 1 s a) NoDamage e (counts_written s (kept site.keeper) (after_write (kept site.keeper) a) a (omega arith) refl refl)

      -- a begin
      pub begin_fails : (e : Fault) → Halts s (kept site.keeper) (kept site.keeper) (kept new) NoDamage e → Fails kept sites end no_access (AtServer s NoDamage) e
      begin_fails e = fails (kept site.keeper) no_access NoDamage e (counts_none s (kept site.keeper) (kept site.keeper) (omega arith) refl refl)

      -- a commit
      pub in_doubt : (e : Fault) → MayHalt s (kept site.keeper) (kept new) e → InDoubt kept sites end s e
      in_doubt e h = record {
        passes = to_end no_access (passes no_access (counts_none s (kept site.keeper) (kept new) h.later h.reads h.writes));
        held = elim h.held [
          | inl a ↦ inl (c.held ∙ held_stays a)
          | inr b ↦ inr (b.0, c.held ∙ becomes kept sites.list.items s site lt is new (λ k. k.held) _ (b.1 ∙ sym saw))
        ];
        closed = c.closed;
        blames = never e (blames NoDamage e h.blames);
      }
        where
          never : (e : Fault) → Blames kept sites end (AtServer s NoDamage) e → Blames kept sites end (λ q a cause. ⊥) e
          never faults.Memory b = tt
          never (faults.Keeper q) b = b
          never (faults.Damaged q a cause) b = absurd b.1.1
          never (faults.Refused refusal) b = b
