-- One transaction of one server, from its beginning to its commit.
use Rattle.std.proofs.Common.{◌≡◌, ◌⊎◌, inl, inr, ℕ, ◌<◌, false, List, length, get_or, refl, sym, ap, subst, ◌∙◌, Option, Some, None, IsSome, slice_get, bytes_eq, set}
use Rattle.std.proofs.lemmas.List.{length-map, get_or-set_same}
use Rattle.world_store.specs.Words.{Holds, Stands, stands_with_server}
use Rattle.site_store.specs.Words.{Contents, Kept, NoDamage, AllClosed, names, held, work, sees, IsOpenAt, Bounds, no_access, both, Passes, Begins, Commits, AtServer, Fails, InDoubt, HoldsOrInDoubt, Rules, Shows, Damages, at_most_itself, passes_then, blames_by, took, closed_again, begun_sees, Looks, GoesOn, Stops, Breaks, blames_after, stops_as, stops_after, put_fails, write_fails_on}
use Rattle.site_store.specs.declared.sites.Sites.{Sites}
use Rattle.repl_model.specs.Words.{Area, DamageCause, Fault, with_server, IsSound, Server, World, In}
use Rattle.repl_types.specs.declared.fault.Fault.TheVariants as faults
use Rattle.set_places.specs.Steps.{HasBecome, BlamesUnchanged, HasStepped, CommitsStep, MayCommitStep}
use Rattle.set_places.specs.laws.Standing.{revealed_at_place}

module _ {K : Type 0} (kept : K → Kept) where
  -- ---- who is to blame

  -- a call that failed and left what is held
  pub stops_unchanged : (s0 s1 : Sites K) (D : ℕ → Area → DamageCause → Type 0) (e : Fault) → Stops kept s0 s1 D e → BlamesUnchanged kept s0 s1 D e
  stops_unchanged s0 s1 D e f = record { blames = f.blames; holds = inl f.held }

  -- what is held after a call that failed is the same after other calls that changed nothing that is held
  pub doubt_after : (s0 s1 s2 : Sites K) (e : Fault) → held kept s1 ≡ held kept s0 → HoldsOrInDoubt kept s1 s2 e → HoldsOrInDoubt kept s0 s2 e
  doubt_after s0 s1 s2 e same (inl held_on) = inl (held_on ∙ same)
  doubt_after s0 s1 s2 e same (inr took_it) = inr (took_it.0, took_it.1, took_it.2, took_it.3 ∙ ap (λ (h : List (Option Contents)). set h took_it.0 took_it.1) same)

  -- if it wasn't a keeper that failed, each server holds what it held
  pub unchanged_if_damaged : (s0 s1 : Sites K) (s : ℕ) (a : Area) (cause : DamageCause) → HoldsOrInDoubt kept s0 s1 (faults.Damaged s a cause) → held kept s1 ≡ held kept s0
  unchanged_if_damaged s0 s1 s a cause (inl same) = same
  unchanged_if_damaged s0 s1 s a cause (inr took_it) = absurd (apart took_it.0 took_it.2)
    where
      apart : (q : ℕ) → faults.Damaged s a cause ≡ faults.Keeper q → ⊥
      apart q e = cc

  -- who is to blame by what shows damage is to blame by what shows less
  pub unchanged_by : (s0 s1 : Sites K) (D E : ℕ → Area → DamageCause → Type 0) (e : Fault) → BlamesUnchanged kept s0 s1 D e → ((s : ℕ) (a : Area) (cause : DamageCause) → D s a cause → E s a cause) → BlamesUnchanged kept s0 s1 E e
  unchanged_by s0 s1 D E e h weaker = record { blames = blames_by kept s0 s1 D E e h.blames weaker; holds = h.holds }

  -- the same after reads, by what shows damage before them
  pub unchanged_after : (s0 s1 s2 : Sites K) (D E : ℕ → Area → DamageCause → Type 0) (e : Fault) → Looks kept s0 s1 → ((s : ℕ) (a : Area) (cause : DamageCause) → D s a cause → E s a cause) → BlamesUnchanged kept s1 s2 D e → BlamesUnchanged kept s0 s2 E e
  unchanged_after s0 s1 s2 D E e looks weaker h = record {
    blames = blames_after kept s0 s1 s2 looks.most E e looks.stays.passes (blames_by kept s1 s2 D E e h.blames weaker);
    holds = doubt_after s0 s1 s2 e looks.stays.held h.holds;
  }

  -- ---- the beginning

  module _ (s0 s1 : Sites K) (server : ℕ) (lt : server < length (names s0)) (closed : AllClosed (work kept s0)) (begin : Begins kept s0 s1 server) where
    -- the server has a transaction open
    pub begun_open : IsOpenAt (work kept s1) server
    begun_open = subst (λ (o : Option (Option Contents)). IsSome o) (sym (ap (λ (l : List (Option (Option Contents))). get_or l server None) begin.work ∙ get_or-set_same (work kept s0) server (Some (get_or (held kept s0) server None)) None (rw length-map (simp length-map at lt)))) refl

    -- each server is seen to have what it had
    pub begun_sees_all : (s : ℕ) → sees kept s1 s ≡ sees kept s0 s
    begun_sees_all = begun_sees kept s0 s1 server (rw length-map (simp length-map at lt)) (closed server) begin

  -- ---- calls that fail before the commit

  -- a call that left no transaction open failed, and each server holds what it held
  pub stops_step : (s0 s1 : Sites K) (server : ℕ) (step : Contents → Contents → Type 0) (D : ℕ → Area → DamageCause → Type 0) (e : Fault) → AllClosed (work kept s1) → Stops kept s0 s1 D e → MayCommitStep kept s0 s1 server step D e
  stops_step s0 s1 server step D e closed f = record { most = f.most; passes = f.passes; stepped = inl f.held; closed = closed; blames = stops_unchanged s0 s1 D e f }

  module _ (s0 s1 : Sites K) (server : ℕ) (lt : server < length (names s0)) (closed : AllClosed (work kept s0)) (step : Contents → Contents → Type 0) where
    -- the beginning failed
    pub begin_fails : (rules : Rules) (most : Bounds) (e : Fault) → Fails kept s0 s1 most (AtServer server NoDamage) e → MayCommitStep kept s0 s1 server step (Damages (λ s. s ≡ server) rules kept s0) e
    begin_fails rules most e f = stops_step s0 s1 server step (Damages (λ s. s ≡ server) rules kept s0) e f.closes.closed (stops_as kept s0 s1 (λ s a cause. ⊥) (Damages (λ s. s ≡ server) rules kept s0) e (λ s a cause h. absurd h) (put_fails kept s0 s1 server most e f))

    module _ (begin : Begins kept s0 s1 server) (s2 : Sites K) where
      -- a read failed after the beginning
      pub read_fails_begun : (rules : Rules) (e : Fault) → AllClosed (work kept s2) → Breaks rules kept s1 s2 server e → MayCommitStep kept s0 s2 server step (Damages (λ s. s ≡ server) rules kept s0) e
      read_fails_begun rules e after f = stops_step s0 s2 server step (Damages (λ s. s ≡ server) rules kept s0) e after (stops_after kept s0 s1 s2 no_access (Damages (λ s. s ≡ server) rules kept s0) e begin.passes begin.held
          (stops_as kept s1 s2 (Damages (λ s. s ≡ server) rules kept s1) (Damages (λ s. s ≡ server) rules kept s0) e (λ s a cause h. (h.0, subst (Shows rules a cause) (begun_sees_all s0 s1 server lt closed begin s) h.1)) f))

      -- a write failed after other steps
      pub write_fails_begun : (rules : Rules) (P : Contents → Contents → Type 0) (s3 : Sites K) (most : Bounds) (e : Fault) → GoesOn kept s1 s2 server P → Fails kept s2 s3 most (AtServer server NoDamage) e → MayCommitStep kept s0 s3 server step (Damages (λ s. s ≡ server) rules kept s0) e
      write_fails_begun rules P s3 most e goes f = stops_step s0 s3 server step (Damages (λ s. s ≡ server) rules kept s0) e f.closes.closed (stops_as kept s0 s3 (λ s a cause. ⊥) (Damages (λ s. s ≡ server) rules kept s0) e (λ s a cause h. absurd h)
          (stops_after kept s0 s1 s3 no_access (λ s a cause. ⊥) e begin.passes begin.held (write_fails_on kept s1 s2 s3 server P e goes (put_fails kept s2 s3 server most e f))))

      module _ (goes : GoesOn kept s1 s2 server step) (s3 : Sites K) where
        -- ---- the commit

        -- how often areas were accessed before it
        abbrev before : Bounds
        before = both no_access goes.most

        -- and after it
        abbrev after : Bounds
        after = both before no_access

        -- the commit took place
        has_stepped : held kept s3 ≡ set (held kept s2) server (sees kept s2 server) → HasStepped kept s0 s3 server step
        has_stepped commit c is = took kept s0 s1 s2 server step begin goes.works.works (held kept s3) c lt goes.works.held commit is

        -- it is known to have
        pub commits_step : Commits kept s2 s3 server → CommitsStep kept s0 s3 server step
        commits_step commit = record {
          most = after;
          passes = passes_then kept s0 s2 s3 before no_access after (passes_then kept s0 s1 s2 no_access goes.most before begin.passes goes.works.passes (at_most_itself before)) commit.passes (at_most_itself after);
          stepped = has_stepped commit.held;
          closed = closed_again kept s0 s1 s2 server step begin goes.works.works (work kept s3) closed commit.work;
        }

        -- or it isn't
        pub commit_fails : (rules : Rules) (e : Fault) → InDoubt kept s2 s3 server e → MayCommitStep kept s0 s3 server step (Damages (λ s. s ≡ server) rules kept s0) e
        commit_fails rules e doubt = record {
          most = after;
          passes = passes_then kept s0 s2 s3 before no_access after here doubt.passes (at_most_itself after);
          stepped = elim doubt.held [
            | inl same ↦ inl (same ∙ goes.works.held ∙ begin.held)
            | inr is ↦ inr (is.0, has_stepped is.1)
          ];
          closed = doubt.closed;
          blames = record {
            blames = blames_by kept s0 s3 (λ s a cause. ⊥) (Damages (λ q. q ≡ server) rules kept s0) e (blames_after kept s0 s2 s3 before (λ s a cause. ⊥) e here doubt.blames) (λ s a cause h. absurd h);
            holds = elim doubt.held [
              | inl same ↦ inl (same ∙ goes.works.held ∙ begin.held)
              | inr is ↦ inr (server, sees kept s2 server, is.0, is.1 ∙ ap (λ (h : List (Option Contents)). set h server (sees kept s2 server)) (goes.works.held ∙ begin.held))
            ];
          };
        }
          where
            here : Passes kept s0 s2 before
            here = passes_then kept s0 s1 s2 no_access goes.most before begin.passes goes.works.passes (at_most_itself before)

-- ---- what it makes of a world

module _ {K : Type 0} (kept : K → Kept) (s0 s1 : Sites K) (w : World) (p : ℕ) (server : Server) (f : Server → Server) (step : Contents → Contents → Type 0) (stands : Stands (names s0) (held kept s0) w) (at : slice_get w p ≡ Some server) (keeps : (s : Server) → (f s).name ≡ s.name) (sound : IsSound (with_server server.name f w)) (here : (c d : Contents) → Holds w server c → step c d → Holds (with_server server.name f w) (f server) d) (others : (other : Server) (c : Contents) → In other w → bytes_eq server.name other.name ≡ false → Holds w other c → Holds (with_server server.name f w) other c) where
  -- after the step of one server the servers stand for the world with it
  pub has_become : HasStepped kept s0 s1 p step → HasBecome kept s0 s1 (with_server server.name f w)
  has_become stepped =
      let r = revealed_at_place (names s0) (held kept s0) w p server stands at in
      let d = stepped r.0 r.1 in
      subst (λ (h : List (Option Contents)). Stands (names s0) h (with_server server.name f w)) (sym d.1) (stands_with_server (names s0) (held kept s0) w p server f d.0 stands at keeps sound (here r.0 d.0 r.2 d.2) others)

  -- if the step failed, they may still stand for the world before it, and for the one with it only if the keeper failed
  pub may_have_become : (e : Fault) → (held kept s1 ≡ held kept s0) ⊎ ((e ≡ faults.Keeper p) × HasStepped kept s0 s1 p step) → HasBecome kept s0 s1 w ⊎ ((s : ℕ) × (e ≡ faults.Keeper s) × HasBecome kept s0 s1 (with_server server.name f w))
  may_have_become e (inl same) = inl (subst (λ (h : List (Option Contents)). Stands (names s0) h w) (sym same) stands)
  may_have_become e (inr stepped) = inr (p, stepped.0, has_become stepped.1)
