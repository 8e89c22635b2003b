-- How a capture on its way ends, or stops: proofs.
use Rattle.std.proofs.Common.{◌≡◌, inl, inr, ℕ, zero, suc, ◌+◌, ◌-◌, ◌<◌, ◌≤◌, List, [], ◌∷◌, ◌++◌, length, take, get_or, refl, sym, ap, subst, ◌∙◌, append_assoc, append-nil, arith, Option, Some, None, Result, Ok, Err, OnOk, IfOk, IfErr, length-append}
use Rattle.std.proofs.Math.Nat.{min-eq_left}
use Rattle.std.proofs.Math.Seq.{take-append-add}
use Rattle.world_store.specs.Words.{Stands}
use Rattle.site_store.specs.Words.{Contents, Table, Kept, seen_of, Takes, takes_nothing, names, held, work, sees, no_access, both, ClosesOne, at_most_itself, passes_then, keeps_passed, passes_keeps, Shows, IsUndamaged, no_damage, shown_unseen, Breaks, blames_after}
use Rattle.site_store.specs.declared.sites.Sites.{Sites}
use Rattle.repl_model.specs.Words.{Unit, Fault, NumbersAreSound, empty_server, Server, World, server_in, LogIsSound, at_one, Area, DamageCause, seqs_within}
use Rattle.repl_types.specs.declared.area.Area.TheVariants as areas
use Rattle.run_core.specs.Runs.{Event, commits, last_world, lines_of, Went, Stopped}
use Rattle.run_core.specs.laws.Runs.{last_append, lines_append, no_part, stopped_before}
use Rattle.stored_defs.specs.laws.Standing.{all_at_place, in_at, seen_at}
use Rattle.world_commits.specs.captures.Captures.{with_units, uncaptured, captured}
use Rattle.capture_core.specs.Committing.{CommitsUnits, MayCommitUnits}
use Rattle.capture_core.specs.Capturing.{counts_of}
use Rattle.capture_core.specs.Ending.{first_units, first_commits, HeldDamage, HasEnded, HasFailed}
use Rattle.capture_core.specs.Reading.{greatest, LeavesOthers}
use Rattle.capture_core.specs.Rules.{rules}
use Rattle.capture_core.specs.declared.captured.Captured.{Captured}
use Rattle.capture_core.specs.declared.progress.Progress.{Progress}
use Rattle.capture_core.proofs.BatchEnds.{by_ends}
use Rattle.capture_core.proofs.Batches.{commits_left, commits_due, due_none, due_some, due_full}
use Rattle.capture_core.proofs.Faults.{StopsAtCommit, not_committed, write_undamaged, write_blames, read_blames}
use Rattle.capture_core.proofs.Restarts.{state_spelt}
use Rattle.capture_core.proofs.Standing.{within, member, sound_after, holds_after}
use Rattle.capture_core.proofs.Undamaged.{HasSpeltState, undamaged}
use Rattle.capture_core.proofs.UnderWay.{GoesIn, IsUnderWay, IsCalled, Put, held_server, committed_in, put_working}
use Rattle.capture_core.proofs.UnitsInTurn.{left_few}
use Rattle.capture_core.proofs.Working.{working_sees, working_closed}

module _ {K : Type 0} (kept : K → Kept) (s0 : Sites K) (n every most : ℕ) (call : IsCalled kept s0 n every most) where
  -- ---- the beginning fails

  -- what the server holds at first shows no damage
  first_undamaged : (w : World) → Stands (names s0) (held kept s0) w → (c : Contents) × (sees kept s0 n ≡ Some c) × IsUndamaged rules c
  first_undamaged w stands =
      let server = server_in w n in
      let r = seen_at kept s0 call.closed w stands n call.lt in
      let below = within kept s0 call.closed w stands n call.lt in
      let numbers = all_at_place NumbersAreSound w n (empty_server []) stands.sound.numbers below in
      let log = all_at_place LogIsSound w n (empty_server []) stands.sound.logs below in
      (r.0, r.1, undamaged seqs_within w server r.0 stands.sound (in_at w n (empty_server []) below) (held_server w server r.0 r.2) (state_spelt seqs_within w server r.0 numbers log r.2))

  pub begin_fails : (s1 : Sites K) (e : Fault) → Breaks rules kept s0 s1 n e → HasFailed kept s0 s1 n most every e
  begin_fails s1 e f = record {
    bounds = f.most;
    passes = f.passes;
    blames = read_blames kept s0 s1 n e (λ a cause. subst (Shows rules a cause) same) f;
    worlds = λ w stands. record {
      stopped = λ t. stopped_before (Stands (names s0)) w (first_commits n most every w) (held kept s1) t (subst (λ (h : List (Option Contents)). Stands (names s0) h w) (sym f.held) stands);
      undamaged = no_damage kept s0 s1 (λ s. s ≡ n) rules e (λ s is. subst (λ (k : ℕ). (c : Contents) × (sees kept s0 k ≡ Some c) × IsUndamaged rules c) (sym is) (first_undamaged w stands)) f.blames;
    };
  }
    where
      same : sees kept s0 n ≡ get_or (held kept s1) n None
      same = ap (seen_of (get_or (held kept s0) n None)) (call.closed n) ∙ ap (λ (l : List (Option Contents)). get_or l n None) (sym f.held)

  -- ---- on the way

  module _ (s1 : Sites K) (p : Progress) (way : IsUnderWay kept s0 n every most s1 p) where
    module _ (w : World) (stands : Stands (names s0) (held kept s0) w) where
      abbrev server : Server
      server = server_in w n

      abbrev name : List ℕ
      name = server.name

      abbrev at : GoesIn kept s0 n every most w (held kept s1) p way.working.now
      at = way.worlds w stands

      -- the units that are left to be taken
      abbrev pub more : List Unit
      more = take (most - length at.taken) at.rest

      -- the world with the units that are taken
      abbrev pub world : World
      world = captured name at.taken w

      -- those that a capture takes are those that were taken and those
      parted : first_units n most w ≡ at.taken ++ more
      parted =
          ap (take most) at.split
          ∙ ap (λ (k : ℕ). take k (at.taken ++ at.rest)) (whole (omega (arith, way.few, at.units)))
          ∙ take-append-add at.taken at.rest (most - length at.taken)
        where
          whole : length at.taken ≤ most → most ≡ length at.taken + (most - length at.taken)
          whole le = omega (arith, le)

      -- so are the commits
      all_commits : first_commits n most every w ≡ at.past ++ commits_due every name (length at.waiting) world more
      all_commits = sym (by_ends every call.some name w (first_units n most w)) ∙ ap (commits_left every name 0 w) parted ∙ at.events more

      -- none of those that happened wrote a line
      no_lines : lines_of at.past ++ [] ≡ []
      no_lines = append-nil (lines_of at.past) ∙ at.quiet

      -- it stopped there
      stopped_there : (h : List (Option Contents)) → h ≡ held kept s1 → (t : Option (List ℕ)) → Stopped (Stands (names s0)) (first_commits n most every w) w h t t
      stopped_there h same t = record {
        done = at.past;
        rest = commits_due every name (length at.waiting) world more;
        part = [];
        split = all_commits;
        stands = subst (Stands (names s0) h) (sym at.last) (subst (λ (l : List (Option Contents)). Stands (names s0) l (captured name at.done w)) (sym same) at.stands);
        bytes = subst (Takes t t) (sym no_lines) (takes_nothing t);
        is_part = no_part (commits_due every name (length at.waiting) world more);
      }

      -- or after one more commit
      stopped_next : (later : List (Event World)) → commits_due every name (length at.waiting) world more ≡ commits world ∷ later → (h : List (Option Contents)) → Stands (names s0) h world → (t : Option (List ℕ)) → Stopped (Stands (names s0)) (first_commits n most every w) w h t t
      stopped_next later due h now t = record {
        done = at.past ++ commits world ∷ [];
        rest = later;
        part = [];
        split = all_commits ∙ ap (λ (l : List (Event World)). at.past ++ l) due ∙ sym (append_assoc at.past (commits world ∷ []) later);
        stands = subst (Stands (names s0) h) (sym (last_append w at.past (commits world ∷ []))) now;
        bytes = subst (Takes t t) (sym (append-nil (lines_of (at.past ++ commits world ∷ [])) ∙ lines_append at.past (commits world ∷ []) ∙ no_lines)) (takes_nothing t);
        is_part = no_part later;
      }

      -- what the transaction sees shows no damage
      seen_undamaged : (d : Contents) × (sees kept s1 n ≡ Some d) × IsUndamaged rules d
      seen_undamaged =
          let c = holds_after kept s0 call.closed w stands n call.lt at.done (held kept s1) at.stands in
          let d = way.working.does c.0 c.1 in
          let between = captured name at.done w in
          let own = with_units at.done server in
          let split : uncaptured server ≡ at.done ++ (at.waiting ++ at.rest) = at.split ∙ ap (λ (us : List Unit). us ++ at.rest) at.whole ∙ append_assoc at.done at.waiting at.rest in
          let sound_between = sound_after kept s0 call.closed w stands n call.lt at.done (at.waiting ++ at.rest, split) in
          let among = member kept s0 call.closed w stands n call.lt at.done in
          let spelt : HasSpeltState c.0 = state_spelt seqs_within between own c.0 (at_one NumbersAreSound between own sound_between.numbers among) (at_one LogIsSound between own sound_between.logs among) c.2 in (
            d.0,
            working_sees kept s1 n LeavesOthers way.working ∙ d.1,
            undamaged seqs_within world (with_units at.taken server) d.0 (sound_after kept s0 call.closed w stands n call.lt at.taken (at.rest, at.split)) (member kept s0 call.closed w stands n call.lt at.taken) (at.has d.0 d.1)
                (λ key bytes is. spelt key bytes (ap (λ (t : Table). t key) (sym (d.2.others areas.Capture 0 refl)) ∙ is)),
          )

    -- ---- a read fails

    -- damage that the transaction sees is shown by what is held
    seen_before : (o : Option Contents) → get_or (held kept s1) n None ≡ o → (a : Area) (cause : DamageCause) → Shows rules a cause (sees kept s1 n) → Shows rules a cause o
    seen_before None is a cause h = shown_unseen rules a cause (sees kept s1 n) h
    seen_before (Some c) is a cause h =
        let d = way.working.does c is in
        d.2.shown a cause (subst (Shows rules a cause) (working_sees kept s1 n LeavesOthers way.working ∙ d.1) h)

    pub read_fails : (s2 : Sites K) (e : Fault) → Breaks rules kept s1 s2 n e → HasFailed kept s0 s2 n most every e
    read_fails s2 e f = record {
      bounds = both way.bounds f.most;
      passes = passes_then kept s0 s1 s2 way.bounds f.most (both way.bounds f.most) way.passes f.passes (at_most_itself (both way.bounds f.most));
      blames = blames_after kept s0 s1 s2 way.bounds (HeldDamage kept s2 n) e way.passes (read_blames kept s1 s2 n e (seen_before (get_or (held kept s2) n None) (ap (λ (l : List (Option Contents)). get_or l n None) (sym f.held))) f);
      worlds = λ w stands. record {
        stopped = stopped_there w stands (held kept s2) f.held;
        undamaged = no_damage kept s1 s2 (λ s. s ≡ n) rules e (λ s is. subst (λ (k : ℕ). (c : Contents) × (sees kept s1 k ≡ Some c) × IsUndamaged rules c) (sym is) (seen_undamaged w stands)) f.blames;
      };
    }

    -- ---- a commit fails

    -- a commit is due in each world
    abbrev pub IsDue : Type 0
    IsDue = (w : World) (stands : Stands (names s0) (held kept s0) w) → (later : List (Event World)) × (commits_due every (name w stands) (length (at w stands).waiting) (world w stands) (more w stands) ≡ commits (world w stands) ∷ later)

    -- it is if the batch is full
    pub due_if_full : p.waiting ≡ every → IsDue
    due_if_full full w stands = (
      commits_due every (name w stands) 0 (world w stands) (more w stands),
      due_full every (name w stands) (length (at w stands).waiting) (world w stands) call.some (sym (at w stands).count ∙ full) (more w stands),
    )

    -- no units are left to be taken
    abbrev pub IsAll : Type 0
    IsAll = (w : World) (stands : Stands (names s0) (held kept s0) w) → more w stands ≡ []

    -- then it is if some wait
    pub due_at_end : IsAll → p.waiting < every → 0 < p.waiting → IsDue
    due_at_end all less waits w stands = (
      [],
      ap (commits_due every (name w stands) (length (at w stands).waiting) (world w stands)) (all w stands)
          ∙ due_some every (name w stands) (length (at w stands).waiting) (world w stands) (omega (arith, (at w stands).count, less)) (omega (arith, (at w stands).count, waits)),
    )

    pub commit_fails : (s2 : Sites K) (e : Fault) → IsDue → StopsAtCommit kept s1 s2 n p.state e → HasFailed kept s0 s2 n most every e
    commit_fails s2 e due m = record {
      bounds = both way.bounds m.most;
      passes = passes_then kept s0 s1 s2 way.bounds m.most (both way.bounds m.most) way.passes m.passes (at_most_itself (both way.bounds m.most));
      blames = blames_after kept s0 s1 s2 way.bounds (HeldDamage kept s2 n) e way.passes (write_blames kept s1 s2 (HeldDamage kept s2 n) e m.blames);
      worlds = λ w stands. record {
        stopped = elim m.held [
          | inl same ↦ stopped_there w stands (held kept s2) same
          | inr took ↦ stopped_next w stands (due w stands).0 (due w stands).1 (held kept s2) (committed_in kept s0 n every most call s1 p way took.before took.puts w stands (held kept s2) took.held).0
        ];
        undamaged = write_undamaged kept s1 s2 e m.blames;
      };
    }

    -- ---- the end

    -- all are taken if these are as many as are asked for
    pub all_if_most : most ≤ p.units → IsAll
    all_if_most le w stands = ap (λ (k : ℕ). take k (at w stands).rest) (none (omega (arith, le, (at w stands).units)))
      where
        none : most ≤ length (at w stands).taken → most - length (at w stands).taken ≡ 0
        none le = omega (arith, le)

    -- or if the server has no more
    pub all_if_none : ((w : World) (stands : Stands (names s0) (held kept s0) w) → (at w stands).rest ≡ []) → IsAll
    all_if_none none w stands = ap (take (most - length (at w stands).taken)) (none w stands) ∙ nothing (most - length (at w stands).taken)
      where
        nothing : (k : ℕ) → ◌≡◌ {A = List Unit} (take k []) []
        nothing zero = refl
        nothing (suc k) = refl

    module _ (all : IsAll) (s2 : Sites K) (answer : Captured) (is : answer ≡ record { upto = p.state.captured; units = p.units; rows = p.rows }) where
      -- it answers what was taken
      counts : (w : World) (stands : Stands (names s0) (held kept s0) w) → answer ≡ counts_of (first_units n most w) (server_in w n)
      counts w stands =
          let g = at w stands in
          let taken : first_units n most w ≡ g.taken = parted w stands ∙ ap (λ (l : List Unit). g.taken ++ l) (all w stands) ∙ append-nil g.taken in
          let short = (all_at_place LogIsSound w n (empty_server []) stands.sound.logs (within kept s0 call.closed w stands n call.lt)).short in
          let few : length g.taken ≤ greatest = omega (arith, left_few (server_in w n), short, ap length g.split, length-append g.taken g.rest) in
          is
          ∙ (λ i. record { upto = (g.reads.state i).captured; units = (g.units ∙ sym (min-eq_left few)) i; rows = g.rows i })
          ∙ ap (λ (us : List Unit). counts_of us (server_in w n)) (sym taken)

      -- the commits that happened are all
      went : (w : World) (stands : Stands (names s0) (held kept s0) w) (events : List (Event World)) → commits_due every (name w stands) (length (at w stands).waiting) (world w stands) [] ≡ events → lines_of events ≡ [] → Stands (names s0) (held kept s2) (last_world (captured (name w stands) (at w stands).done w) events) → (t : Option (List ℕ)) → Went (Stands (names s0)) (first_commits n most every w) w (held kept s2) t t
      went w stands events due quiet now t =
          let g = at w stands in
          let whole : first_commits n most every w ≡ g.past ++ events = all_commits w stands ∙ ap (λ (l : List (Event World)). g.past ++ l) (ap (commits_due every (name w stands) (length g.waiting) (world w stands)) (all w stands) ∙ due) in
          record {
            stands = subst (Stands (names s0) (held kept s2)) (sym (ap (last_world w) whole ∙ last_append w g.past events ∙ ap (λ (v : World). last_world v events) g.last)) now;
            bytes = subst (Takes t t) (sym (ap lines_of whole ∙ lines_append g.past events ∙ (λ i. g.quiet i ++ quiet i))) (takes_nothing t);
          }

      -- if none waits, the transaction is only closed
      pub ends_closed : p.waiting < every → p.waiting ≡ 0 → ClosesOne kept s1 s2 n → HasEnded kept s0 s2 n most every answer
      ends_closed less none closes = record {
        keeps = passes_keeps kept s0 s1 s2 way.bounds way.passes (keeps_passed kept s1 s2 no_access closes.passes (working_closed kept s1 n LeavesOthers way.working (work kept s2) closes.work));
        worlds = λ w stands. record {
          went = went w stands [] (due_none every (name w stands) (length (at w stands).waiting) (world w stands) (omega (arith, (at w stands).count, less)) (sym (at w stands).count ∙ none)) refl
              (subst (λ (h : List (Option Contents)). Stands (names s0) h (captured (name w stands) (at w stands).done w)) (sym closes.held) (at w stands).stands);
          counts = counts w stands;
        };
      }

      -- else they are committed
      pub ends_committed : p.waiting < every → 0 < p.waiting → CommitsUnits kept s1 s2 n p.state → HasEnded kept s0 s2 n most every answer
      ends_committed less waits commit = record {
        keeps = passes_keeps kept s0 s1 s2 way.bounds way.passes (passes_keeps kept s1 commit.before s2 commit.puts.most commit.puts.works.passes (keeps_passed kept commit.before s2 no_access commit.commits.passes
            (working_closed kept commit.before n (Put kept s0 n every most call s1 p way commit.before commit.puts) (put_working kept s0 n every most call s1 p way commit.before commit.puts) (work kept s2) commit.commits.work)));
        worlds = λ w stands. record {
          went = went w stands (commits (world w stands) ∷ []) (due_some every (name w stands) (length (at w stands).waiting) (world w stands) (omega (arith, (at w stands).count, less)) (omega (arith, (at w stands).count, waits))) refl
              (committed_in kept s0 n every most call s1 p way commit.before commit.puts w stands (held kept s2) commit.commits.held).0;
          counts = counts w stands;
        };
      }

    -- a capture that took all its units ended, if its end answered
    pub end_ok : IsAll → p.waiting < every → (s2 : Sites K) (r : Result Captured Fault) → OnOk r (p.waiting ≡ 0 → ClosesOne kept s1 s2 n) → OnOk r ((0 < p.waiting) → CommitsUnits kept s1 s2 n p.state) → IfOk r (λ answer. answer ≡ record { upto = p.state.captured; units = p.units; rows = p.rows }) → IfOk r (HasEnded kept s0 s2 n most every)
    end_ok all less s2 (Err e) closes commit is = tt
    end_ok all less s2 (Ok answer) closes commit is = pick p.waiting refl
      where
        pick : (k : ℕ) → p.waiting ≡ k → HasEnded kept s0 s2 n most every answer
        pick zero none = ends_closed all s2 answer is less none (closes none)
        pick (suc k) waits = ends_committed all s2 answer is less (omega (arith, waits)) (commit (omega (arith, waits)))

    -- and else it failed
    pub end_err : IsAll → p.waiting < every → (s2 : Sites K) (r : Result Captured Fault) → IfErr r (λ e. (0 < p.waiting) × MayCommitUnits kept s1 s2 n p.state e) → IfErr r (HasFailed kept s0 s2 n most every)
    end_err all less s2 (Ok answer) fault = tt
    end_err all less s2 (Err e) fault = commit_fails s2 e (due_at_end all less fault.0) (not_committed kept s1 s2 n p.state e fault.1)
