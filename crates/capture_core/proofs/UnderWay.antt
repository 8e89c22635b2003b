-- A capture on its way: which units are committed, which wait for their commit, and which commits are left.
use Rattle.std.proofs.Common.{◌≡◌, inl, inr, ℕ, ◌+◌, ◌<◌, ◌≤◌, true, false, List, [], ◌∷◌, ◌++◌, length, set, get_or, refl, sym, ap, subst, ◌∙◌, append_assoc, append-nil, arith, min, Option, Some, None}
use Rattle.std.proofs.Math.Nat.{min-eq_left, min-le_left}
use Rattle.std.proofs.lemmas.Bool.{cases_lt}
use Rattle.std.proofs.lemmas.List.{length-append, get_or-set_same, get_or_past}
use Rattle.std.proofs.lemmas.Option.{same_Some}
use Rattle.world_store.specs.Words.{capture_state, Holds, Reveals, Stands, tables}
use Rattle.site_store.specs.Words.{Contents, Kept, AllClosed, names, held, work, sees, Bounds, no_access, both, Passes, Begins, at_most_itself, passes_then, GoesOn}
use Rattle.site_store.specs.declared.sites.Sites.{Sites}
use Rattle.repl_model.specs.Words.{Unit, IsSound, NumbersAreSound, empty_server, Server, World, restart_after, server_in, LogIsSound, log_limit, seqs_within}
use Rattle.repl_types.specs.declared.area.Area.TheVariants as areas
use Rattle.run_core.specs.Runs.{Event, commits, last_world, lines_of}
use Rattle.run_core.specs.laws.Runs.{last_append, lines_append}
use Rattle.stored_defs.specs.laws.Standing.{all_at_place, zip_at_place}
use Rattle.world_commits.specs.captures.Captures.{with_unit, with_units, uncaptured, rows_captured, all_rows_captured, captured}
use Rattle.capture_core.specs.Committing.{IsStart, IsWorking, Opens, ReadsState, PutsState, CommitsUnits}
use Rattle.capture_core.specs.Reading.{greatest, greatest_waiting, KeepsTyped, IsReadTo, HasServer, HasTaken, Counts, LeavesOthers, ReadsUnit, ReadsAll}
use Rattle.capture_core.specs.declared.progress.Progress.{Progress}
use Rattle.capture_core.proofs.Batches.{commits_left, commits_due, not_full, due_next, due_full}
use Rattle.capture_core.proofs.Calls.{same_leaves, leaves_then}
use Rattle.capture_core.proofs.Committed.{put_leaves, captured_by}
use Rattle.capture_core.proofs.Restarts.{state_is, starts_at, starts_reading}
use Rattle.capture_core.proofs.Standing.{within, member, sound_after, holds_after, stands_captured}
use Rattle.capture_core.proofs.UnitsInTurn.{units_both, rows_both, left_after, left_few, count_on, captured_none, captured_both}
use Rattle.capture_core.proofs.Working.{working_begun, working_on, working_closed, working_committed}
use Rattle.stored_commits.specs.laws.CapturedStates.{has_captured}

-- the log that a server holds, and what it has captured
pub held_server : (w : World) (server : Server) (c : Contents) → Holds w server c → HasServer server c
unfolding tables
held_server w server c holds = record { log = holds areas.Log 0; captured = has_captured w server c holds }

-- something stands at a place below the end of its list
place_below : (l : List (Option Contents)) (n : ℕ) (c : Contents) → get_or l n None ≡ Some c → n < length l
place_below l n c is = elim (cases_lt n (length l)) [
  | inl lt ↦ lt
  | inr le ↦ absurd (none_some (sym (get_or_past l n None le) ∙ is))
]
  where
    none_some : ◌≡◌ {A = Option Contents} None (Some c) → ⊥
    none_some e = cc

module _ {K : Type 0} (kept : K → Kept) (s0 : Sites K) (n every most : ℕ) where
  -- In a world the first of these units were committed, the others wait, and the transaction sees all of them captured.
  pub record GoesIn (w : World) (h : List (Option Contents)) (p : Progress) (now : Option Contents) : Type 0 where
    pub taken : List Unit
    pub done : List Unit
    pub waiting : List Unit
    pub rest : List Unit
    pub whole : taken ≡ done ++ waiting
    pub split : uncaptured (server_in w n) ≡ taken ++ rest
    pub count : p.waiting ≡ length waiting
    pub units : p.units ≡ length taken
    pub rows : p.rows ≡ min (all_rows_captured taken (server_in w n)) greatest
    pub stands : Stands (names s0) h (captured (server_in w n).name done w)
    pub has : (d : Contents) → now ≡ Some d → HasServer (with_units taken (server_in w n)) d
    pub reads : IsReadTo (with_units taken (server_in w n)) p
    pub past : List (Event World)
    pub events : (more : List Unit) → commits_left every (server_in w n).name 0 w (taken ++ more) ≡ past ++ commits_due every (server_in w n).name (length waiting) (captured (server_in w n).name taken w) more
    pub last : last_world w past ≡ captured (server_in w n).name done w
    pub quiet : lines_of past ≡ []

  -- A capture has come this far.
  pub record IsUnderWay (s : Sites K) (p : Progress) : Type 0 where
    pub bounds : Bounds
    pub passes : Passes kept s0 s bounds
    pub typed : KeepsTyped p
    pub few : p.units ≤ most
    pub batch : p.waiting ≤ every
    pub working : IsWorking kept s n LeavesOthers
    pub worlds : (w : World) → Stands (names s0) (held kept s0) w → GoesIn w (held kept s) p working.now

  -- What a capture is called with.
  pub record IsCalled : Type 0 where
    pub closed : AllClosed (work kept s0)
    pub lt : n < length (names s0)
    pub some : 0 < every
    pub small : every ≤ greatest_waiting

  module _ (call : IsCalled) where
    -- ---- the beginning

    module _ (s1 : Sites K) (p : Progress) (opens : Opens kept s0 s1 n (ReadsState p.state)) (begins : IsStart p) where
      -- what the transaction sees in a world, and that the state that was read is the server's
      start_state : (w : World) → Stands (names s0) (held kept s0) w → (d : Contents) × (opens.working.now ≡ Some d) × Holds w (server_in w n) d × (p.state ≡ capture_state (server_in w n))
      start_state w stands =
          let server = server_in w n in
          let below = within kept s0 call.closed w stands n call.lt in
          let numbers = all_at_place NumbersAreSound w n (empty_server []) stands.sound.numbers below in
          let log = all_at_place LogIsSound w n (empty_server []) stands.sound.logs below in
          let c = zip_at_place (Reveals w) w (held kept s0) n (empty_server []) None stands.servers below in
          let d = opens.working.does c.0 (ap (λ (l : List (Option Contents)). get_or l n None) opens.held ∙ c.1) in
          let holds : Holds w server d.0 = subst (Holds w server) (sym d.2.0) c.2 in
          (d.0, d.1, holds, state_is seqs_within w server d.0 numbers log holds p.state begins.fits d.2.1)

      -- so it begins at the server's restart
      pub first_read : (w : World) → Stands (names s0) (held kept s0) w → p.read + 1 ≡ restart_after (server_in w n).log (server_in w n).captured
      first_read w stands = starts_at (server_in w n) p begins (start_state w stands).3

      -- in a world no unit is taken
      start_in : (w : World) → Stands (names s0) (held kept s0) w → GoesIn w (held kept s1) p opens.working.now
      start_in w stands =
          let server = server_in w n in
          let name = server.name in
          let below = within kept s0 call.closed w stands n call.lt in
          let numbers = all_at_place NumbersAreSound w n (empty_server []) stands.sound.numbers below in
          let d = start_state w stands in
          record {
            taken = [];
            done = [];
            waiting = [];
            rest = uncaptured server;
            whole = refl;
            split = refl;
            count = begins.waiting;
            units = begins.units;
            rows = begins.rows ∙ sym (min-eq_left {n = 0} {m = greatest} (omega arith));
            stands = subst (λ (q : List (Option Contents) × World). Stands (names s0) q.0 q.1) (λ i. (sym opens.held i, sym (captured_none name w) i)) stands;
            has = λ e is. subst (HasServer server) (same_Some d.0 e (sym d.1 ∙ is)) (held_server w server d.0 d.2);
            reads = starts_reading seqs_within server numbers p begins d.3;
            past = [];
            events = λ more. ap (λ (v : World). commits_left every name 0 v more) (sym (captured_none name w)) ∙ sym (not_full every name 0 (captured name [] w) (λ e. omega (arith, e)) more);
            last = sym (captured_none name w);
            quiet = refl;
          }

      pub starts : KeepsTyped p → IsUnderWay s1 p
      starts typed = record {
        bounds = opens.most;
        passes = opens.passes;
        typed = typed;
        few = omega (arith, begins.units);
        batch = omega (arith, begins.waiting);
        working = record {
          now = opens.working.now;
          is = opens.working.is;
          others = opens.working.others;
          does = λ c is. let d = opens.working.does c is in (d.0, d.1, same_leaves c d.0 d.2.0);
        };
        worlds = start_in;
      }

    -- ---- one more unit

    -- in a world one more unit joins those that wait
    joins : (w : World) → LogIsSound (server_in w n) → (h k : List (Option Contents)) → k ≡ h → (p q : Progress) (now next : Option Contents) → p.waiting < every → Counts true p q → (g : GoesIn w h p now) (e : Contents) → next ≡ Some e → (one : HasTaken (with_units g.taken (server_in w n)) p q e) → HasServer (with_unit one.unit (with_units g.taken (server_in w n))) e → GoesIn w k q next
    joins w log h k same p q now next open_batch counts g e sees one has =
        let server = server_in w n in
        let name = server.name in
        let u = one.unit in
        let before = with_units g.taken server in
        let put = rows_captured u.head.seq u.changes before in
        let more_units : (rest : List Unit) → g.taken ++ u ∷ rest ≡ (g.taken ++ u ∷ []) ++ rest = λ rest. sym (append_assoc g.taken (u ∷ []) rest) in
        let met : g.rest ≡ u ∷ one.rest = sym (left_after g.taken g.rest server g.split) ∙ one.next in
        let split : uncaptured server ≡ (g.taken ++ u ∷ []) ++ one.rest = g.split ∙ ap (λ (l : List Unit). g.taken ++ l) met ∙ more_units one.rest in
        let after : with_unit u before ≡ with_units (g.taken ++ u ∷ []) server = units_both g.taken (u ∷ []) server in
        let longer : length (g.taken ++ u ∷ []) ≡ length g.taken + 1 = length-append g.taken (u ∷ []) in
        let waits : length (g.waiting ++ u ∷ []) ≡ length g.waiting + 1 = length-append g.waiting (u ∷ []) in
        let fits : length (g.taken ++ u ∷ []) ≤ log_limit = omega (arith, left_few server, log.short, ap length split, length-append (g.taken ++ u ∷ []) one.rest) in
        record {
          taken = g.taken ++ u ∷ [];
          done = g.done;
          waiting = g.waiting ++ u ∷ [];
          rest = one.rest;
          whole = ap (λ (l : List Unit). l ++ u ∷ []) g.whole ∙ append_assoc g.done g.waiting (u ∷ []);
          split = split;
          count = counted q.waiting p.waiting greatest_waiting (length g.waiting) counts.1 (omega (arith, open_batch, call.small)) g.count ∙ sym waits;
          units = counted q.units p.units greatest (length g.taken) counts.0 (omega (arith, g.units, longer, fits)) g.units ∙ sym longer;
          rows = one.rows
              ∙ ap (λ (r : ℕ). min (r + put) greatest) g.rows
              ∙ count_on (all_rows_captured g.taken server) put greatest
              ∙ ap (λ (r : ℕ). min r greatest) (omega (arith, rows_both g.taken (u ∷ []) server));
          stands = subst (λ (l : List (Option Contents)). Stands (names s0) l (captured name g.done w)) (sym same) g.stands;
          has = λ f is. subst (HasServer (with_units (g.taken ++ u ∷ []) server)) (same_Some e f (sym sees ∙ is)) (subst (λ (s : Server). HasServer s e) after has);
          reads = subst (λ (s : Server). IsReadTo s q) after one.read;
          past = g.past;
          events = λ more.
              ap (commits_left every name 0 w) (sym (more_units more))
              ∙ g.events (u ∷ more)
              ∙ ap (λ (l : List (Event World)). g.past ++ l) (due_next every name (length g.waiting) (captured name g.taken w) (omega (arith, g.count, open_batch)) u more
              ∙ (λ i. commits_due every name (sym waits i) (captured_both name g.taken (u ∷ []) w i) more));
          last = g.last;
          quiet = g.quiet;
        }
      where
        counted : (after before top m : ℕ) → after ≡ min (before + 1) top → before + 1 ≤ top → before ≡ m → after ≡ m + 1
        counted after before top m is le same = is ∙ min-eq_left le ∙ ap (λ (r : ℕ). r + 1) same

    module _ (s1 s2 : Sites K) (p q : Progress) (way : IsUnderWay s1 p) where
      module _ (w : World) (stands : Stands (names s0) (held kept s0) w) where
        abbrev server : Server
        server = server_in w n

        abbrev name : List ℕ
        name = server.name

        abbrev taken : List Unit
        taken = (way.worlds w stands).taken

        -- the world is sound with the units that are taken
        sound_taken : IsSound (captured name taken w)
        sound_taken = sound_after kept s0 call.closed w stands n call.lt taken ((way.worlds w stands).rest, (way.worlds w stands).split)

        -- its log is sound
        short_log : LogIsSound server
        short_log = all_at_place LogIsSound w n (empty_server []) stands.sound.logs (within kept s0 call.closed w stands n call.lt)

        -- what the server holds
        held_now : (c : Contents) × (get_or (held kept s1) n None ≡ Some c) × Holds (captured name (way.worlds w stands).done w) (with_units (way.worlds w stands).done server) c
        held_now = holds_after kept s0 call.closed w stands n call.lt (way.worlds w stands).done (held kept s1) (way.worlds w stands).stands

        -- what the transaction sees
        seen_now : (d : Contents) × (way.working.now ≡ Some d) × LeavesOthers held_now.0 d
        seen_now = way.working.does held_now.0 held_now.1

        -- one more unit is captured there
        unit_in : p.waiting < every → (goes : GoesOn kept s1 s2 n (ReadsUnit p q)) → Counts true p q → GoesIn w (held kept s2) q goes.works.works.now
        unit_in open_batch goes counts =
            let g = way.worlds w stands in
            let d = seen_now in
            let e = goes.works.works.does d.0 (way.working.is ∙ ap (λ (o : Option Contents). Some o) d.1) in
            let before = with_units taken server in
            let has = g.has d.0 d.1 in
            let one = e.2.takes (captured name taken w) before sound_taken (member kept s0 call.closed w stands n call.lt taken) has g.reads in
            joins w short_log (held kept s1) (held kept s2) goes.works.held p q way.working.now goes.works.works.now open_batch counts g e.0 e.1 one (record { log = e.2.leaves.others areas.Log 0 refl ∙ has.log; captured = one.captured })

        -- or the log is read to its end
        end_in : (goes : GoesOn kept s1 s2 n (ReadsAll p q)) → Counts false p q → (g : GoesIn w (held kept s2) q goes.works.works.now) × (g.rest ≡ [])
        end_in goes counts =
            let g = way.worlds w stands in
            let d = seen_now in
            let e = goes.works.works.does d.0 (way.working.is ∙ ap (λ (o : Option Contents). Some o) d.1) in
            let before = with_units taken server in
            let has = g.has d.0 d.1 in
            let all = e.2.reads (captured name taken w) before sound_taken (member kept s0 call.closed w stands n call.lt taken) has g.reads in (
              record {
                taken = taken;
                done = g.done;
                waiting = g.waiting;
                rest = g.rest;
                whole = g.whole;
                split = g.split;
                count = counts.1 ∙ g.count;
                units = counts.0 ∙ g.units;
                rows = e.2.rows ∙ g.rows;
                stands = subst (λ (h : List (Option Contents)). Stands (names s0) h (captured name g.done w)) (sym goes.works.held) g.stands;
                has = λ f is. subst (HasServer before) (same_Some e.0 f (sym e.1 ∙ is)) (subst (HasServer before) (sym e.2.same) has);
                reads = all.0;
                past = g.past;
                events = g.events;
                last = g.last;
                quiet = g.quiet;
              },
              sym (left_after taken g.rest server g.split) ∙ all.1,
            )

      -- the transaction goes on
      abbrev goes_on : (R : Contents → Contents → Type 0) (goes : GoesOn kept s1 s2 n R) → ((c d : Contents) → R c d → LeavesOthers c d) → IsWorking kept s2 n LeavesOthers
      goes_on R goes leaves = working_on kept s1 n LeavesOthers way.working s2 R LeavesOthers goes (λ c d e p r. leaves_then c d e p (leaves d e r))

      -- one more unit is captured
      pub takes_unit : p.waiting < every → p.units < most → GoesOn kept s1 s2 n (ReadsUnit p q) → KeepsTyped q → Counts true p q → IsUnderWay s2 q
      unfolding working_on
      takes_unit open_batch less goes typed counts = record {
        bounds = both way.bounds goes.most;
        passes = passes_then kept s0 s1 s2 way.bounds goes.most (both way.bounds goes.most) way.passes goes.works.passes (at_most_itself (both way.bounds goes.most));
        typed = typed;
        few = counted (p.units + 1) greatest most counts.0 (omega (arith, less));
        batch = counted (p.waiting + 1) greatest_waiting every counts.1 (omega (arith, open_batch));
        working = goes_on (ReadsUnit p q) goes (λ c d r. r.leaves);
        worlds = λ w stands. unit_in w stands open_batch goes counts;
      }
        where
          counted : {x : ℕ} (a top b : ℕ) → x ≡ min a top → a ≤ b → x ≤ b
          counted a top b e le = omega (arith, e, min-le_left a top, le)

      -- all are
      pub takes_all : GoesOn kept s1 s2 n (ReadsAll p q) → KeepsTyped q → Counts false p q → (after : IsUnderWay s2 q) × ((w : World) (stands : Stands (names s0) (held kept s0) w) → (after.worlds w stands).rest ≡ [])
      unfolding working_on
      takes_all goes typed counts = (
        record {
          bounds = both way.bounds goes.most;
          passes = passes_then kept s0 s1 s2 way.bounds goes.most (both way.bounds goes.most) way.passes goes.works.passes (at_most_itself (both way.bounds goes.most));
          typed = typed;
          few = omega (arith, way.few, counts.0);
          batch = omega (arith, way.batch, counts.1);
          working = goes_on (ReadsAll p q) goes (λ c d r. same_leaves c d r.same);
          worlds = λ w stands. (end_in w stands goes counts).0;
        },
        λ w stands. (end_in w stands goes counts).1,
      )

    -- ---- a commit

    module _ (s1 : Sites K) (p : Progress) (way : IsUnderWay s1 p) (s2 : Sites K) (puts : GoesOn kept s1 s2 n (PutsState p.state)) where
      -- what the transaction saw then
      abbrev pub Put : Contents → Contents → Type 0
      Put c e = (d : Contents) × (way.working.now ≡ Some d) × LeavesOthers c d × PutsState p.state d e

      -- how the transaction has come there
      pub put_working : IsWorking kept s2 n Put
      put_working = working_on kept s1 n (λ c d. (way.working.now ≡ Some d) × LeavesOthers c d) known s2 (PutsState p.state) Put puts (λ c d e r put. (d, r.0, r.1, put))
        where
          known : IsWorking kept s1 n (λ c d. (way.working.now ≡ Some d) × LeavesOthers c d)
          known = record {
            now = way.working.now;
            is = way.working.is;
            others = way.working.others;
            does = λ c is. let d = way.working.does c is in (d.0, d.1, (d.1, d.2));
          }

      -- in a world the units that waited are committed
      pub committed_in : (w : World) (stands : Stands (names s0) (held kept s0) w) (h : List (Option Contents)) → h ≡ set (held kept s2) n (sees kept s2 n)
          → Stands (names s0) h (captured (server_in w n).name (way.worlds w stands).taken w) × ((e : Contents) → get_or h n None ≡ Some e → HasServer (with_units (way.worlds w stands).taken (server_in w n)) e)
      committed_in w stands h commit =
          let server = server_in w n in
          let name = server.name in
          let g = way.worlds w stands in
          let below = within kept s0 call.closed w stands n call.lt in
          let c = holds_after kept s0 call.closed w stands n call.lt g.done (held kept s1) g.stands in
          let r = working_committed kept s2 n Put put_working h commit c.0 (ap (λ (l : List (Option Contents)). get_or l n None) puts.works.held ∙ c.1) in
          let e = r.0 in
          let d = r.2.0 in
          let has = g.has d r.2.1 in
          let between = with_units g.done server in
          let after : with_units g.waiting between ≡ with_units g.taken server = units_both g.done g.waiting server ∙ ap (λ (us : List Unit). with_units us server) (sym g.whole) in
          let split : uncaptured server ≡ (g.done ++ g.waiting) ++ g.rest = g.split ∙ ap (λ (us : List Unit). us ++ g.rest) g.whole in
          let parts : uncaptured server ≡ g.done ++ (g.waiting ++ g.rest) = split ∙ append_assoc g.done g.waiting g.rest in
          let becomes = captured_by (captured name g.waiting (captured name g.done w)) (captured name g.done w) g.waiting between (with_units g.taken server) c.0 d e p.state after c.2 has g.reads.state r.2.2.others r.2.3 in
          let whole = stands_captured kept s0 call.closed w stands n call.lt g.done g.waiting g.rest (held kept s1) c.0 e split parts g.stands c.2 becomes in
          let now : h ≡ set (held kept s1) n (Some e) = r.1 ∙ ap (λ (l : List (Option Contents)). set l n (Some e)) puts.works.held in (
            subst (λ (q : List (Option Contents) × List Unit). Stands (names s0) q.0 (captured name q.1 w)) (λ i. (sym now i, sym g.whole i)) whole,
            λ f is. subst (HasServer (with_units g.taken server)) (same_Some e f (sym (ap (λ (l : List (Option Contents)). get_or l n None) now ∙ here_set (held kept s1) c.0 e c.1) ∙ is)) (put_leaves (with_units g.taken server) d e p.state has r.2.3),
          )
        where
          here_set : (l : List (Option Contents)) (c e : Contents) → get_or l n None ≡ Some c → get_or (set l n (Some e)) n None ≡ Some e
          here_set l c e is = get_or-set_same l n (Some e) None (place_below l n c is)

    -- the batch is committed, and the next one begins
    pub next_batch : (s1 s3 s4 : Sites K) (p : Progress) → IsUnderWay s1 p → p.waiting ≡ every → CommitsUnits kept s1 s3 n p.state → Begins kept s3 s4 n → IsUnderWay s4 (record p { waiting = 0 })
    unfolding working_begun
    next_batch s1 s3 s4 p way full commit begun = record {
      bounds = both (both way.bounds commit.puts.most) (both no_access no_access);
      passes = passes_then kept s0 s2 s4 (both way.bounds commit.puts.most) (both no_access no_access) (both (both way.bounds commit.puts.most) (both no_access no_access))
          (passes_then kept s0 s1 s2 way.bounds commit.puts.most (both way.bounds commit.puts.most) way.passes commit.puts.works.passes (at_most_itself (both way.bounds commit.puts.most)))
          (passes_then kept s2 s3 s4 no_access no_access (both no_access no_access) commit.commits.passes begun.passes (at_most_itself (both no_access no_access)))
          (at_most_itself (both (both way.bounds commit.puts.most) (both no_access no_access)));
      typed = way.typed;
      few = way.few;
      batch = omega arith;
      working = record {
        now = begins.now;
        is = begins.is;
        others = begins.others;
        does = λ c is. let d = begins.does c is in (d.0, d.1, same_leaves c d.0 d.2);
      };
      worlds = worlds;
    }
      where
        s2 : Sites K
        s2 = commit.before

        ended : AllClosed (work kept s3)
        ended = working_closed kept s2 n (Put s1 p way s2 commit.puts) (put_working s1 p way s2 commit.puts) (work kept s3) commit.commits.work

        named : names s3 ≡ names s0
        named = commit.commits.passes.names ∙ commit.puts.works.passes.names ∙ way.passes.names

        begins : IsWorking kept s4 n (λ c d. d ≡ c)
        begins = working_begun kept s3 s4 n ended (subst (λ (l : List (List ℕ)). n < length l) (sym named) call.lt) begun

        worlds : (w : World) → Stands (names s0) (held kept s0) w → GoesIn w (held kept s4) (record p { waiting = 0 }) (get_or (held kept s3) n None)
        worlds w stands =
            let server = server_in w n in
            let name = server.name in
            let g = way.worlds w stands in
            let done = committed_in s1 p way s2 commit.puts w stands (held kept s3) commit.commits.held in
            let v = captured name g.taken w in
            record {
              taken = g.taken;
              done = g.taken;
              waiting = [];
              rest = g.rest;
              whole = sym (append-nil g.taken);
              split = g.split;
              count = refl;
              units = g.units;
              rows = g.rows;
              stands = subst (λ (h : List (Option Contents)). Stands (names s0) h v) (sym begun.held) done.0;
              has = done.1;
              reads = record {
                state = g.reads.state;
                base = g.reads.base;
                low = g.reads.low;
                from = g.reads.from;
                last = g.reads.last;
                read = g.reads.read;
                keeps = g.reads.keeps;
              };
              past = g.past ++ commits v ∷ [];
              events = λ more.
                  g.events more
                  ∙ ap (λ (l : List (Event World)). g.past ++ l) (due_full every name (length g.waiting) v call.some (sym g.count ∙ full) more)
                  ∙ sym (append_assoc g.past (commits v ∷ []) (commits_due every name 0 v more));
              last = last_append w g.past (commits v ∷ []);
              quiet = lines_append g.past (commits v ∷ []) ∙ append-nil (lines_of g.past) ∙ g.quiet;
            }
