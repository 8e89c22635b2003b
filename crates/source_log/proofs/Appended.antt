-- What an append leaves of the servers, if they stood for a world: proofs.
use Rattle.std.proofs.Common.{◌≡◌, ◌⊎◌, inl, inr, ℕ, zero, suc, ◌<◌, ◌≤◌, Bool, true, false, cond, List, [], ◌∷◌, length, set, drop, get_or, refl, sym, ap, subst, ◌∙◌, arith, Option, Some, None, IsSome, Result, Ok, Err, IfOk, IfErr}
use Rattle.std.specs.List.{AllByRecursion}
use Rattle.std.proofs.lemmas.List.{length-map, get_or-set_same}
use Rattle.std.proofs.lemmas.Option.{same_Some}
use Rattle.repl_model.specs.Words.{Area, LogRecord, DamageCause, AppendError, Fault, is_applicable, with_more, grown, IsSound, empty_server, Server, World, tables_of, server_in, LogIsSound, In, grown_nothing}
use Rattle.world_store.specs.Words.{single_spelling, head_spelling, Head, put_here, put_other_table, shown, Holds, Becomes, Stands}
use Rattle.site_store.specs.Words.{Contents, set_key, put_at, Kept, seen_of, AllClosed, names, held, work, reads_in, sees, IsOpenAt, Bounds, no_access, both, Passes, Begins, ClosesOne, KeepsServers, Blames, at_most_itself, none_back_then, passes_then, Shows, IsUndamaged, IsNoDamage, no_damage, begun_sees, took, closed_again, GoesOn, stops_as, stops_after, blames_after, goes_then}
use Rattle.site_store.specs.declared.sites.Sites.{Sites}
use Rattle.repl_types.specs.declared.area.Area.TheVariants as areas
use Rattle.repl_types.specs.declared.call_errors.AppendError.TheVariants as errors
use Rattle.repl_types.specs.declared.fault.Fault.TheVariants as faults
use Rattle.stored_commits.specs.logs.LongerServers.{is_of_log}
use Rattle.stored_commits.specs.laws.Logged.{logged_becomes}
use Rattle.world_commits.specs.logs.LongerLogs.{AllFollow}
use Rattle.stored_defs.specs.laws.Standing.{all_at_place, in_at, same_count, keeps_at, seen_at}
use Rattle.source_log.specs.Appending.{taken, error_at, append_error, stop_at, HasTaken, TakesAll, PutsEnd, CommitsEnd, MayCommitEnd, StandGrown, HasAppended, HasNotAppended, BlamesFault, BlamesOrStops}
use Rattle.source_log.specs.Rules.{all_rules, ShowsDamage, BreaksFirst}
use Rattle.source_log.specs.Storing.{IsKept, StoresWhole, MayAppend}
use Rattle.source_log.specs.declared.outcome.Outcome.{Outcome}
use Rattle.source_log.specs.declared.outcome.Outcome.TheVariants as outcomes
use Rattle.source_log.specs.declared.progress.Progress.{Progress}
use Rattle.source_log.proofs.Drops.{take_whole}
use Rattle.source_log.specs.laws.Whole.{held_whole, end_put}
use Rattle.source_log.proofs.Grown.{found_there, stands_grown}
use Rattle.source_log.proofs.HeldTables.{whole_end}
use Rattle.source_log.proofs.TakenFirst.{taken_follow}
use Rattle.source_log.proofs.Undamaged.{none_shown}
use Rattle.world_commits.specs.laws.LogsStaySound.{users_records_sound}

-- ---- answers

-- what holds of a value, if something that follows from it is asked
pub ok_as : {T E : Type 0} {P Q : T → Type 0} (r : Result T E) → ((x : T) → P x → Q x) → IfOk r P → IfOk r Q
ok_as (Ok x) also p = also x p
ok_as (Err e) also p = tt

-- the same of an error
pub err_as : {T E : Type 0} {P Q : E → Type 0} (r : Result T E) → ((e : E) → P e → Q e) → IfErr r P → IfErr r Q
err_as (Ok x) also p = tt
err_as (Err e) also p = also e p

-- no error is no error
no_stop : (e : AppendError) → ◌≡◌ {A = Option AppendError} None (Some e) → ⊥
no_stop e told = cc

-- ---- which records were taken

-- a list of no length is empty
no_length : {X : Type 0} (xs : List X) → length xs ≡ 0 → xs ≡ []
no_length [] e = refl
no_length (x ∷ xs) e = absurd (omega (arith, e))

-- if nothing is left after some, there are no more
none_left : {X : Type 0} (n : ℕ) (xs : List X) → drop n xs ≡ [] → length xs ≤ n
none_left zero [] e = omega arith
none_left zero (x ∷ xs) e = absurd cc
none_left (suc n) [] e = omega arith
none_left (suc n) (x ∷ xs) e = let le = none_left n xs e in omega (arith, le)

-- no fault says why a record isn't taken
no_fault : (place : ℕ) (server : Server) (rs : List LogRecord) (e : Fault) → error_at place server rs ≡ Some (errors.Fault e) → ⊥
no_fault place server [] e is = absurd cc
no_fault place server (r ∷ rs) e is = pick (is_applicable (tables_of server) server.log r) is
  where
    pick : (b : Bool) → ◌≡◌ {A = Option AppendError} (Some (cond b (errors.LogFull place) (errors.NotApplicable place))) (Some (errors.Fault e)) → ⊥
    pick true is = cc
    pick false is = cc

-- if nothing stopped the append, none is left
nothing_stopped : (place : ℕ) (server : Server) (rs : List LogRecord) → error_at place server rs ≡ None → rs ≡ []
nothing_stopped place server [] is = refl
nothing_stopped place server (r ∷ rs) is = absurd cc

-- so all were taken
all_taken : (server : Server) (records : List LogRecord) (progress : Progress) (d : Contents) → HasTaken server records progress d → append_error server records ≡ None → taken server records ≡ records
all_taken server records progress d has none =
    let first = taken server records in
    let left : drop (length first) records ≡ [] = nothing_stopped (length first) (with_more first server) (drop (length first) records) none in
    let le : length records ≤ length first = none_left (length first) records left in
    sym has.first ∙ take_whole records progress.taken (omega (arith, le, has.count))

-- ---- what the server holds

-- a put of the end of the log leaves the tables that aren't of the log
pub end_apart : (d : Contents) (k : List ℕ) (v : Option (List ℕ)) (a : Area) (m : ℕ) → is_of_log a m ≡ false → put_at d areas.Head 0 k v a m ≡ d a m
end_apart d k v areas.Head zero e = absurd cc
end_apart d k v areas.Head (suc m) e = put_other_table d areas.Head 0 (suc m) k v (λ is. omega arith)
end_apart d k v a m e = refl

-- a call that only writes shows no damage
no_write_damages : {K : Type 0} (kept : K → Kept) (s1 s2 : Sites K) (e : Fault) → Blames kept s1 s2 (λ s a cause. ⊥) e → IsNoDamage e
no_write_damages kept s1 s2 faults.Memory h = tt
no_write_damages kept s1 s2 (faults.Keeper s) h = tt
no_write_damages kept s1 s2 (faults.Damaged s a cause) h = h.1
no_write_damages kept s1 s2 (faults.Refused refusal) h = h

-- it blames no damage
write_blames : {K : Type 0} (kept : K → Kept) (s1 s2 : Sites K) (D : ℕ → Area → DamageCause → Type 0) (e : Fault) → Blames kept s1 s2 (λ s a cause. ⊥) e → Blames kept s1 s2 D e
write_blames kept s1 s2 D faults.Memory h = tt
write_blames kept s1 s2 D (faults.Keeper s) h = h
write_blames kept s1 s2 D (faults.Damaged s a cause) h = absurd h.1
write_blames kept s1 s2 D (faults.Refused refusal) h = h

-- a fault stays blamed after other calls
blames_later : {K : Type 0} (kept : K → Kept) (s0 s1 s2 : Sites K) (x : Bounds) (D : ℕ → Area → DamageCause → Type 0) (e : Fault) → Passes kept s1 s2 x → Blames kept s0 s1 D e → Blames kept s0 s2 D e
blames_later kept s0 s1 s2 x D faults.Memory p h = tt
blames_later kept s0 s1 s2 x D (faults.Keeper s) p h = λ lt. let le = p.faults s in omega (arith, le, h (omega (arith, le, lt)))
blames_later kept s0 s1 s2 x D (faults.Damaged s a cause) p h = ((λ read lt. let le = p.reads a s lt in omega (arith, le, h.0 read (omega (arith, le, lt)))), h.1)
blames_later kept s0 s1 s2 x D (faults.Refused refusal) p h = h

-- ---- the servers

module _ {K : Type 0} (kept : K → Kept) (s0 s1 s2 : Sites K) (closed : AllClosed (work kept s0)) (n : ℕ) (begun : Begins kept s0 s1 n) where
  -- its transaction is open
  pub opened : n < length (names s0) → IsOpenAt (work kept s1) n
  opened lt =
      let within : n < length (work kept s0) = rw length-map (simp length-map at lt) in
      subst (λ (o : Option (Option Contents)). IsSome o) (sym (ap (λ (l : List (Option (Option Contents))). get_or l n None) begun.work ∙ get_or-set_same (work kept s0) n (Some (get_or (held kept s0) n None)) None within)) refl

  -- a read that failed inside the transaction failed as if it had been made before
  pub stops_begun : (e : Fault) → n < length (names s0) → BreaksFirst kept s1 s2 n e → BreaksFirst kept s0 s2 n e
  stops_begun e lt stops =
      let within : n < length (work kept s0) = rw length-map (simp length-map at lt) in
      stops_after kept s0 s1 s2 no_access (ShowsDamage kept s0 n) e begun.passes begun.held (stops_as kept s1 s2 (ShowsDamage kept s1 n) (ShowsDamage kept s0 n) e (λ s a cause h. (h.0, subst (Shows all_rules a cause) (begun_sees kept s0 s1 n within (closed n) begun s) h.1)) stops)

  -- once the transaction is closed again, each server holds what it held
  pub blames_broken : (e : Fault) → n < length (names s0) → BreaksFirst kept s1 s2 n e → (s3 : Sites K) → Passes kept s2 s3 no_access → held kept s3 ≡ held kept s2 → BlamesFault kept s0 s3 (ShowsDamage kept s0 n) e
  blames_broken e lt stops s3 passes same =
      let since = stops_begun e lt stops in
      record { blames = blames_later kept s0 s2 s3 no_access (ShowsDamage kept s0 n) e passes since.blames; holds = inl (same ∙ since.held) }

  module _ (records : List LogRecord) (progress : Progress) (open_at : IsOpenAt (work kept s1) n) (goes : GoesOn kept s1 s2 n (TakesAll records progress)) (s3 : Sites K) where
    -- after the transaction was ended, the servers are kept
    pub keeps_ended : (progress.taken ≡ 0 → ClosesOne kept s2 s3 n) → ((0 < progress.taken) → CommitsEnd kept s2 s3 n progress.end) → KeepsServers kept s0 s3
    keeps_ended none some = pick progress.taken refl
      where
        keeps : (s4 : Sites K) (P : Contents → Contents → Type 0) → GoesOn kept s1 s4 n P → (x : Bounds) → Passes kept s4 s3 x → work kept s3 ≡ set (work kept s4) n None → KeepsServers kept s0 s3
        keeps s4 P on x passes ends = record {
          names = passes.names ∙ on.works.passes.names ∙ begun.passes.names;
          faults = λ q. omega (arith, passes.faults q, on.works.passes.faults q, begun.passes.faults q);
          reads = λ a. none_back_then (reads_in kept a s0) (reads_in kept a s4) (reads_in kept a s3) (none_back_then (reads_in kept a s0) (reads_in kept a s1) (reads_in kept a s4) (begun.passes.reads a) (on.works.passes.reads a)) (passes.reads a);
          closed = closed_again kept s0 s1 s4 n P begun on.works.works (work kept s3) closed ends;
        }

        pick : (t : ℕ) → progress.taken ≡ t → KeepsServers kept s0 s3
        pick zero is = let ended = none is in keeps s2 (TakesAll records progress) goes no_access ended.passes ended.work
        pick (suc t) is =
            let ended = some (omega (arith, is)) in
            keeps ended.before (λ c e. (d : Contents) × TakesAll records progress c d × PutsEnd progress.end d e) (goes_then kept s1 s2 ended.before n (TakesAll records progress) (PutsEnd progress.end) (λ c e. (d : Contents) × TakesAll records progress c d × PutsEnd progress.end d e) open_at goes ended.puts (λ c d e all put. (d, all, put))) no_access ended.commits.passes ended.commits.work

    -- if none was taken, each server holds what it held
    pub holds_none : (progress.taken ≡ 0 → ClosesOne kept s2 s3 n) → progress.taken ≡ 0 → held kept s3 ≡ held kept s0
    holds_none none is = (none is).held ∙ goes.works.held ∙ begun.held

    -- a refusal names how many were taken, so if it names none, each server holds what it held
    pub stops_holding : (progress.taken ≡ 0 → ClosesOne kept s2 s3 n) → (D : ℕ → Area → DamageCause → Type 0) (e : AppendError) → stop_at progress.taken progress.outcome ≡ Some e → BlamesOrStops kept s0 s3 D e
    stops_holding none D e told = pick progress.outcome e told
      where
        pick : (o : Outcome) (e : AppendError) → stop_at progress.taken o ≡ Some e → BlamesOrStops kept s0 s3 D e
        pick outcomes.Taken e told = absurd (no_stop e told)
        pick outcomes.NotApplicable e told = subst (BlamesOrStops kept s0 s3 D) (same_Some (errors.NotApplicable progress.taken) e told) (holds_none none)
        pick outcomes.Full e told = subst (BlamesOrStops kept s0 s3 D) (same_Some (errors.LogFull progress.taken) e told) (holds_none none)

    -- after its commit failed, each server holds what it held, or at a fault of the server's keeper this one what it saw
    pub blames_doubted : (D : ℕ → Area → DamageCause → Type 0) (e : Fault) → MayCommitEnd kept s2 s3 n progress.end e → BlamesFault kept s0 s3 D e
    blames_doubted D e may_be =
        record {
          blames = blames_after kept s0 s2 s3 (both no_access goes.most) D e (passes_then kept s0 s1 s2 no_access goes.most (both no_access goes.most) begun.passes goes.works.passes (at_most_itself (both no_access goes.most))) (write_blames kept s2 s3 D e may_be.blames);
          holds = elim may_be.held [
            | inl same ↦ inl (same ∙ goes.works.held ∙ begun.held)
            | inr took ↦ inr (n, sees kept took.1.before n, took.0, took.1.held ∙ ap (λ (l : List (Option Contents)). set l n (sees kept took.1.before n)) (took.1.puts.works.held ∙ goes.works.held ∙ begun.held))
          ];
        }

-- ---- a world

module _ {K : Type 0} (kept : K → Kept) (s0 : Sites K) (closed : AllClosed (work kept s0)) (w : World) (stands : Stands (names s0) (held kept s0) w) (n : ℕ) (lt : n < length (names s0)) where
  -- the server of the world
  abbrev server : Server
  server = server_in w n

  -- its name
  abbrev name : List ℕ
  name = get_or (names s0) n []

  -- there are as many servers
  within : n < length w
  within = omega (arith, lt, same_count kept s0 closed w stands)

  -- it is one of them
  member : In server w
  member = in_at w n (empty_server []) within

  -- its log is sound
  sound_log : LogIsSound server
  sound_log = all_at_place LogIsSound w n (empty_server []) stands.sound.logs within

  -- it is one of a sound world
  kept_server : IsKept server
  kept_server = record { log = sound_log; world = w; before = server; keeps = keeps_at kept s0 closed w stands n lt; tables = refl }

  -- what it holds
  holds : (c : Contents) × (get_or (held kept s0) n None ≡ Some c) × Holds w server c
  holds = let r = seen_at kept s0 closed w stands n lt in (r.0, sym (ap (seen_of (get_or (held kept s0) n None)) (closed n)) ∙ r.1, r.2)

  -- which are all tables of its log
  whole : StoresWhole server holds.0
  whole = held_whole w server holds.0 stands.sound member holds.2

  -- no damage is reported of it
  none_damaged : (s1 : Sites K) (e : Fault) → Blames kept s0 s1 (ShowsDamage kept s0 n) e → IsNoDamage e
  none_damaged s1 e blames = no_damage kept s0 s1 (λ s. s ≡ n) all_rules e (λ s is.
      let r = seen_at kept s0 closed w stands n lt in
      subst (λ (k : ℕ). (c : Contents) × (sees kept s0 k ≡ Some c) × IsUndamaged all_rules c) (sym is) (r.0, r.1, none_shown server r.0 (held_whole w server r.0 stands.sound member r.2))) blames

  -- after a read failed, the servers stand for the world as before
  pub stands_broken : (s1 s2 : Sites K) (e : Fault) → Begins kept s0 s1 n → BreaksFirst kept s1 s2 n e → (h : List (Option Contents)) → h ≡ held kept s2 → IsNoDamage e × Stands (names s0) h w
  stands_broken s1 s2 e begun stops h same =
      let since = stops_begun kept s0 s1 s2 closed n begun e lt stops in
      (none_damaged s2 e since.blames, subst (λ (l : List (Option Contents)). Stands (names s0) l w) (sym (same ∙ since.held)) stands)

  module _ (records : List LogRecord) (s1 s2 : Sites K) (progress : Progress) (begun : Begins kept s0 s1 n) (goes : GoesOn kept s1 s2 n (TakesAll records progress)) where
    -- what was taken there
    has_taken : (d : Contents) → TakesAll records progress holds.0 d → HasTaken server records progress d
    has_taken d all = all.has server kept_server (whole_end server holds.0 whole all.head all.fits all.is) whole.stores

    -- what the transaction sees then
    took_in : (d : Contents) × TakesAll records progress holds.0 d
    took_in = let r = took kept s0 s1 s2 n (TakesAll records progress) begun goes.works.works (set (held kept s2) n (sees kept s2 n)) holds.0 lt goes.works.held refl holds.1 in (r.0, r.2)

    -- what they are
    has : HasTaken server records progress took_in.0
    has = has_taken took_in.0 took_in.1

    -- if none was taken, the servers stand for the world as before
    stands_idle : progress.taken ≡ 0 → (h : List (Option Contents)) → h ≡ held kept s0 → Stands (names s0) h (grown name (taken server records) w)
    stands_idle none h same =
        let empty : taken server records ≡ [] = no_length (taken server records) (omega (arith, none, has.count)) in
        let idle : grown name (taken server records) w ≡ w = ap (λ (rs : List LogRecord). grown name rs w) empty ∙ grown_nothing name w in
        subst (λ (v : World). Stands (names s0) h v) (sym idle) (subst (λ (l : List (Option Contents)). Stands (names s0) l w) (sym same) stands)

    module _ (may : AllByRecursion MayAppend records) (s3 : Sites K) (open_at : IsOpenAt (work kept s1) n) (puts : GoesOn kept s2 s3 n (PutsEnd progress.end)) where
      -- the world with them is sound
      sound_grown : IsSound (grown name (taken server records) w)
      sound_grown = users_records_sound name (taken server records) w stands.sound (λ s found.
          let same : server ≡ s = same_Some server s (sym (found_there kept s0 closed w stands n lt) ∙ found) in
          subst (λ (x : Server). AllFollow x (taken server records)) same (taken_follow server records may))

      -- what the server holds once they are committed
      holds_longer : (d e : Contents) → TakesAll records progress holds.0 d → PutsEnd progress.end d e → Becomes is_of_log (grown name (taken server records) w) (with_more (taken server records) server) holds.0 e
      holds_longer d e all put =
          let h = has_taken d all in
          let longer = with_more (taken server records) server in
          let key = single_spelling (record {}) in
          let row = λ (end : Head). Some (head_spelling end) in
          logged_becomes (taken server records) (grown name (taken server records) w) server holds.0 e
          (ap (λ (x : Contents). x areas.Log 0) put ∙ h.stores.log)
          (λ m. ap (λ (x : Contents). x areas.Source m) put ∙ h.stores.source m)
          (ap (λ (x : Contents). x areas.Inflight 0) put ∙ h.stores.in_flight)
          (ap (shown server areas.Head 0) (ap (λ (x : Contents). x areas.Head 0) put ∙ put_here d areas.Head 0 key (row progress.end) ∙ (λ i. set_key (all.end 0 i) key (row (h.end i))))
          ∙ end_put server longer (holds.0 areas.Head 0) whole.end)
          (λ a m o. ap (λ (x : Contents). x a m) put ∙ end_apart d key (row progress.end) a m o ∙ all.others a m o)

      -- once they are committed, the servers stand for the world with them
      stands_committed : (h : List (Option Contents)) → h ≡ set (held kept s3) n (sees kept s3 n) → Stands (names s0) h (grown name (taken server records) w)
      stands_committed h commit =
          let P = λ (c e : Contents). (d : Contents) × TakesAll records progress c d × PutsEnd progress.end d e in
          let whole = goes_then kept s1 s2 s3 n (TakesAll records progress) (PutsEnd progress.end) P open_at goes puts (λ c d e all put. (d, all, put)) in
          let after = took kept s0 s1 s3 n P begun whole.works.works h holds.0 lt whole.works.held commit holds.1 in
          subst (λ (l : List (Option Contents)). Stands (names s0) l (grown name (taken server records) w)) (sym after.1)
          (stands_grown kept s0 closed w stands n lt (taken server records) holds.0 after.0 sound_grown holds.2 (holds_longer after.2.0 after.0 after.2.1 after.2.2))

    module _ (may : AllByRecursion MayAppend records) (s3 : Sites K) (open_at : IsOpenAt (work kept s1) n) where
      -- after the transaction was ended, the servers stand for the world with what was taken
      pub stands_ended : (progress.taken ≡ 0 → ClosesOne kept s2 s3 n) → ((0 < progress.taken) → CommitsEnd kept s2 s3 n progress.end) → StandGrown kept s0 s3 n (taken server records) w
      stands_ended none some = pick progress.taken refl
        where
          pick : (t : ℕ) → progress.taken ≡ t → StandGrown kept s0 s3 n (taken server records) w
          pick zero is = stands_idle is (held kept s3) ((none is).held ∙ goes.works.held ∙ begun.held)
          pick (suc t) is = let ended = some (omega (arith, is)) in stands_committed may ended.before open_at ended.puts (held kept s3) ended.commits.held

      -- after its commit failed, they stand for the world as before, or for that
      pub stands_doubted : (e : Fault) → MayCommitEnd kept s2 s3 n progress.end e → IsNoDamage e × (Stands (names s0) (held kept s3) w ⊎ ((e ≡ faults.Keeper n) × StandGrown kept s0 s3 n (taken server records) w))
      stands_doubted e may_be = (
        no_write_damages kept s2 s3 e may_be.blames,
        elim may_be.held [
          | inl same ↦ inl (subst (λ (h : List (Option Contents)). Stands (names s0) h w) (sym (same ∙ goes.works.held ∙ begun.held)) stands)
          | inr took ↦ inr (took.0, stands_committed may took.1.before open_at took.1.puts (held kept s3) took.1.held)
        ],
      )

    -- ---- the answer

    module _ (s3 : Sites K) (stand : StandGrown kept s0 s3 n (taken server records) w) where
      -- all records were appended
      pub has_appended : (last : ℕ) → (stop_at progress.taken progress.outcome ≡ None) × (last ≡ progress.end.last) → HasAppended kept s0 s3 n records w last
      has_appended last told =
          let none : append_error server records ≡ None = sym has.stop ∙ told.0 in
          let whole = all_taken server records progress took_in.0 has none in
          record {
            all = none;
            whole = whole;
            stands = subst (λ (rs : List LogRecord). StandGrown kept s0 s3 n rs w) whole stand;
            last = told.1 ∙ ap (λ (end : Head). end.last) has.end ∙ ap (λ (rs : List LogRecord). length (with_more rs server).log) whole;
          }

      -- or not all were
      pub has_not_appended : (e : AppendError) → stop_at progress.taken progress.outcome ≡ Some e → HasNotAppended kept s0 s3 n records w e
      has_not_appended (errors.Fault e) told = absurd (no_fault (length (taken server records)) (with_more (taken server records) server) (drop (length (taken server records)) records) e (sym has.stop ∙ told))
      has_not_appended (errors.NotApplicable place) told = (sym has.stop ∙ told, stand)
      has_not_appended (errors.LogFull place) told = (sym has.stop ∙ told, stand)
