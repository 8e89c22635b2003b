-- The steps of a set, one after another, as a part of a run.
use Rattle.std.proofs.Common.{◌≡◌, ◌∙◌, ℕ, suc, ◌+◌, ◌-◌, ◌<◌, ◌≤◌, List, [], ◌∷◌, ◌++◌, cond, Bool, true, false, ◌||◌, refl, sym, ap, subst, arith, append_assoc, Option, Some, None, nat_lt, IsTrue, not, append-nil}
use Rattle.std.specs.List.{list_all, list_any}
use Rattle.std.specs.Option.{option_map_or}
use Rattle.std.proofs.lemmas.Bool.{and_parts}
use Rattle.site_store.specs.Words.{Contents, Takes, TakesPrefix, takes_nothing}
use Rattle.repl_model.specs.Words.{SetId, Refusal, Member, after_action, Action, signals, refreshes, blocks, reports, idles, refuses, next_action, is_replica, IsSound, log_limit, World, KnownSet, known_set}
use Rattle.repl_types.specs.declared.refusal.Refusal.TheVariants as refusals
use Rattle.reply_text.specs.Replies.{reply_line}
use Rattle.reply_text.specs.declared.reply.Reply.TheVariants as replies
use Rattle.run_core.specs.Runs.{Event, commits, writes, last_world, lines_of, is_refused, Went, Stopped}
use Rattle.run_core.specs.laws.Runs.{last_append, refused_append, went_both, stopped_in_first, stopped_in_second}
use Rattle.run_core.specs.laws.Quiet.{went_quiet, stopped_quiet}
use Rattle.run_commands.specs.parts.Refusing.{refused}
use Rattle.world_commits.specs.actions.Resting.{commits_world, steps_left}
use Rattle.world_commits.specs.actions.laws.Resting.{few_steps}
use Rattle.world_commits.specs.actions.StaysSound.{length_signalled}
use Rattle.member_targets.specs.Kinds.{is_taken}
use Rattle.member_targets.specs.laws.Kinds.{no_replica_taken}
use Rattle.run_commands.specs.apply.Progress.{progress_of, step_of}
use Rattle.run_commands.specs.apply.StepEvents.{Outcome, declines, rests, makes, making, outcome_of, is_carried_out, next_outcome, outcome, events_of, events_from, most_steps, apply_events}
use Rattle.run_commands.specs.declared.apply.steps.Progress.TheVariants.{Refused, Rested, Made}
use Rattle.world_commits.specs.laws.Resting.{each_leaves_fewer}

-- ---- sets that are carried out

-- a set whose members are carried out has no replica
pub not_replicas : (members : List Member) → list_all (λ member. is_taken member.kind) members ≡ true → not (list_any (λ member. is_replica member.kind) members) ≡ true
not_replicas [] all = refl
not_replicas (member ∷ members) all =
    let both = and_parts (is_taken member.kind) (list_all (λ m. is_taken m.kind) members) all in
    ap (λ (b : Bool). not (b || list_any (λ m. is_replica m.kind) members)) (no_replica_taken member.kind both.0) ∙ not_replicas members both.1

-- ---- the next world

-- What is so where a step made a world: the set is known there too, and has fewer steps left.
record Nears (id : SetId) (w v : World) : Type 0 where
  k : KnownSet
  l : KnownSet
  known : known_set w id ≡ Some k
  next : known_set v id ≡ Some l
  fewer : steps_left l < steps_left k

-- a step that made a world made it so
nears : (number : ℕ) (id : SetId) (w v : World) (line : List ℕ) → IsSound w → outcome number id w ≡ makes v line → Nears id w v
nears number id w v line sound is = by_known (known_set w id) refl is
  where
    by_action : (k : KnownSet) (a : Action) → outcome_of w k a ≡ makes v line
        → IsTrue (commits_world a) × (after_action w k a ≡ v)
    by_action k signals is = by_room (nat_lt log_limit (length_signalled k)) is
      where
        by_room : (b : Bool) → cond b (declines (refusals.LogFull k.source.name)) (making w k signals) ≡ makes v line → IsTrue (commits_world signals) × (after_action w k signals ≡ v)
        by_room true is = absurd cc
        by_room false is = (refl, cc)
    by_action k refreshes is = (refl, cc)
    by_action k (blocks upto) is = (refl, cc)
    by_action k reports is = (refl, cc)
    by_action k idles is = absurd cc
    by_action k (refuses place) is = absurd cc

    by_carried : (k : KnownSet) → known_set w id ≡ Some k → (b : Bool) → is_carried_out k.at_target.def ≡ b → cond b (outcome_of w k (next_action k)) (declines (refusals.UnknownCommand number)) ≡ makes v line → Nears id w v
    by_carried k known true carried is =
        let read_only = not_replicas k.at_target.def.members carried in
        let made = by_action k (next_action k) is in
        let l = each_leaves_fewer w k id sound known read_only made.0 in
        record { k = k; l = l.0; known = known; next = subst (λ (u : World). known_set u id ≡ Some l.0) made.1 l.1; fewer = l.2 }
    by_carried k known false carried is = absurd cc

    by_known : (o : Option KnownSet) → known_set w id ≡ o → option_map_or (next_outcome number w) o (declines (refusals.NoSuchSet id.qual (Some id.name))) ≡ makes v line → Nears id w v
    by_known None known is = absurd cc
    by_known (Some k) known is = by_carried k known (is_carried_out k.at_target.def) refl is

-- a step that was made made a world
pub made_some : (o : Outcome) → Made ≡ progress_of o → (v : World) × (line : List ℕ) × (o ≡ makes v line)
made_some (declines refusal) is = absurd cc
made_some rests is = absurd cc
made_some (makes v line) is = (v, line, refl)

-- one at which there was nothing to do
pub rested_none : (o : Outcome) → Rested ≡ progress_of o → o ≡ rests
rested_none (declines refusal) is = absurd cc
rested_none rests is = refl
rested_none (makes v line) is = absurd cc

-- and one that was refused
pub refused_some : (o : Outcome) → Refused ≡ progress_of o → (refusal : Refusal) × (o ≡ declines refusal)
refused_some (declines refusal) is = (refusal, refl)
refused_some rests is = absurd cc
refused_some (makes v line) is = absurd cc

-- ---- one step after another

module _ (Means : List (Option Contents) → World → Type 0) (number : ℕ) (id : SetId) (most : ℕ) (w : World) (t : Option (List ℕ)) where
  -- what is done, if so many steps were made
  abbrev left_at : ℕ → World → List (Event World)
  left_at n v = events_from (most - n) n number id v

  -- So many steps were made, and this is what is left; the set is known, and the steps that it has left aren't too many.
  pub record Applies (n : ℕ) (h : List (Option Contents)) (u : Option (List ℕ)) : Type 0 where
    pub done : List (Event World)
    pub split : apply_events number id w ≡ done ++ left_at n (last_world w done)
    pub stands : Means h (last_world w done)
    pub bytes : Takes t u (lines_of done)
    pub none : is_refused done ≡ false
    pub k : KnownSet
    pub known : known_set (last_world w done) id ≡ Some k
    pub few : n + steps_left k ≤ most

  -- so it is at first
  pub applies_first : (h : List (Option Contents)) (k : KnownSet) → Means h w → known_set w id ≡ Some k → most ≡ k.source.captured + 5 → Applies 0 h t
  applies_first h k at known is =
      let none_taken : most - 0 ≡ most = omega arith in
      let bound : most_steps id w ≡ most = ap (λ (o : Option KnownSet). option_map_or (λ s. s.source.captured + 5) o 1) known ∙ sym is in
      record {
        done = [];
        split = ap (λ (m : ℕ). events_from m 0 number id w) (bound ∙ sym none_taken);
        stands = at;
        bytes = takes_nothing t;
        none = refl;
        k = k;
        known = known;
        few = omega (arith, (few_steps k).1, is);
      }

  -- before the last step that may be made, one more may
  one_more : (n : ℕ) → n < most → most - n ≡ suc (most - (n + 1))
  one_more n lt = omega (arith, lt)

  -- what is left where the set is, at an outcome
  abbrev done_at : ℕ → Outcome → List (Event World)
  done_at n = events_of (writes (reply_line (replies.Applied n)) ∷ []) (left_at (n + 1))

  module _ (n : ℕ) (lt : n < most) (h : List (Option Contents)) (u : Option (List ℕ)) (applies : Applies n h u) where
    -- the world that the steps led to
    abbrev here : World
    here = last_world w applies.done

    -- what is left there, at an outcome
    left_is : (o : Outcome) → outcome number id here ≡ o → apply_events number id w ≡ applies.done ++ done_at n o
    left_is o is = applies.split ∙ ap (λ (es : List (Event World)). applies.done ++ es) (ap (λ (m : ℕ). events_from m n number id here) (one_more n lt) ∙ ap (done_at n) is)

    module _ (h2 : List (Option Contents)) (u2 : Option (List ℕ)) where
      -- the steps so far
      so_far : Went Means applies.done w h t u
      so_far = record { stands = applies.stands; bytes = applies.bytes }

      -- one more step was made
      pub made_more : ((x : List (Option Contents)) (v : World) → Means x v → IsSound v) → Went Means (step_of (outcome number id here)) here h2 u u2 → Made ≡ progress_of (outcome number id here) → Applies (n + 1) h2 u2
      made_more sounds went is =
          let o = made_some (outcome number id here) is in
          let v = o.0 in
          let line = o.1 in
          let step = commits v ∷ writes line ∷ [] in
          let nearer = nears number id here v line (sounds h here applies.stands) o.2 in
          let same : applies.k ≡ nearer.k = cc in
          let one : Went Means step here h2 u u2 = subst (λ (x : Outcome). Went Means (step_of x) here h2 u u2) o.2 went in
          let both : Went Means (applies.done ++ step) w h2 t u2 = went_both Means w applies.done step h h2 t u u2 so_far one in
          let last : last_world w (applies.done ++ step) ≡ v = last_append w applies.done step in
          record {
            done = applies.done ++ step;
            split = left_is (makes v line) o.2 ∙ sym (append_assoc applies.done step (left_at (n + 1) v)) ∙ ap (λ (x : World). (applies.done ++ step) ++ left_at (n + 1) x) (sym last);
            stands = both.stands;
            bytes = both.bytes;
            none = refused_append applies.done step ∙ ap (λ (b : Bool). b || false) applies.none;
            k = nearer.l;
            known = subst (λ (x : World). known_set x id ≡ Some nearer.l) (sym last) nearer.next;
            few = omega (arith, applies.few, nearer.fewer, ap steps_left same);
          }

      -- a step was refused, which ends the command
      pub ended_refused : Went Means (step_of (outcome number id here)) here h2 u u2 → Refused ≡ progress_of (outcome number id here) → Went Means (apply_events number id w) w h2 t u2 × (true ≡ is_refused (apply_events number id w))
      ended_refused went is =
          let o = refused_some (outcome number id here) is in
          let one : Went Means (refused o.0) here h2 u u2 = subst (λ (x : Outcome). Went Means (step_of x) here h2 u u2) o.1 went in
          subst (λ (es : List (Event World)). Went Means es w h2 t u2 × (true ≡ is_refused es)) (sym (left_is (declines o.0) o.1))
          (went_both Means w applies.done (refused o.0) h h2 t u u2 so_far one, sym (refused_append applies.done (refused o.0) ∙ ap (λ (b : Bool). b || true) applies.none))

      -- it stopped in a step
      pub stopped_in_step : Stopped Means (step_of (outcome number id here)) here h2 u u2 → Stopped Means (apply_events number id w) w h2 t u2
      stopped_in_step stopped = by_outcome (outcome number id here) refl stopped
        where
          by_outcome : (o : Outcome) → outcome number id here ≡ o → Stopped Means (step_of o) here h2 u u2 → Stopped Means (apply_events number id w) w h2 t u2
          by_outcome (declines refusal) is stopped = subst (λ (es : List (Event World)). Stopped Means es w h2 t u2) (sym (left_is (declines refusal) is))
              (stopped_in_second Means w applies.done (refused refusal) h h2 t u u2 so_far stopped)
          by_outcome rests is stopped = subst (λ (es : List (Event World)). Stopped Means es w h2 t u2) (sym (left_is rests is))
              (stopped_in_second Means w applies.done (writes (reply_line (replies.Applied n)) ∷ []) h h2 t u u2 so_far (more_left stopped))
            where
              more_left : Stopped Means [] here h2 u u2 → Stopped Means (writes (reply_line (replies.Applied n)) ∷ []) here h2 u u2
              more_left s = stopped_in_first Means here [] (writes (reply_line (replies.Applied n)) ∷ []) h2 u u2 s
          by_outcome (makes v line) is stopped = subst (λ (es : List (Event World)). Stopped Means es w h2 t u2) (sym (left_is (makes v line) is))
              (stopped_in_second Means w applies.done (commits v ∷ writes line ∷ left_at (n + 1) v) h h2 t u u2 so_far (stopped_in_first Means here (commits v ∷ writes line ∷ []) (left_at (n + 1) v) h2 u u2 stopped))

      -- there was nothing to do, and nothing changed
      module _ (went : Went Means (step_of (outcome number id here)) here h2 u u2) (is : Rested ≡ progress_of (outcome number id here)) (u3 : Option (List ℕ)) where
        at_rest : outcome number id here ≡ rests
        at_rest = rested_none (outcome number id here) is

        none_done : Went Means [] here h2 u u2
        none_done = subst (λ (x : Outcome). Went Means (step_of x) here h2 u u2) at_rest went

        -- then the line of the count was written
        pub ended_rested : Takes u2 u3 (reply_line (replies.Applied n)) → Went Means (apply_events number id w) w h2 t u3 × (false ≡ is_refused (apply_events number id w))
        ended_rested took =
            let line = reply_line (replies.Applied n) in
            let closing = writes line ∷ [] in
            let one : Went Means closing here h2 u2 u3 = went_quiet Means here closing h2 u2 u3 tt none_done.stands (subst (Takes u2 u3) (sym (append-nil line)) took) in
            let end : Went Means closing here h2 u u3 = went_both Means here [] closing h2 h2 u u2 u3 none_done one in
            subst (λ (es : List (Event World)). Went Means es w h2 t u3 × (false ≡ is_refused es)) (sym (left_is rests at_rest))
            (went_both Means w applies.done closing h h2 t u u3 so_far end, sym (refused_append applies.done closing ∙ ap (λ (b : Bool). b || false) applies.none))

        -- or a prefix of it
        pub stopped_at_count : TakesPrefix u2 u3 (reply_line (replies.Applied n)) → Stopped Means (apply_events number id w) w h2 t u3
        stopped_at_count took =
            let line = reply_line (replies.Applied n) in
            let closing = writes line ∷ [] in
            let one : Stopped Means closing here h2 u2 u3 = stopped_quiet Means here closing h2 u2 u3 tt none_done.stands (subst (TakesPrefix u2 u3) (sym (append-nil line)) took) in
            let end : Stopped Means closing here h2 u u3 = stopped_in_second Means here [] closing h2 h2 u u2 u3 none_done one in
            subst (λ (es : List (Event World)). Stopped Means es w h2 t u3) (sym (left_is rests at_rest))
            (stopped_in_second Means w applies.done closing h h2 t u u3 so_far end)

  -- so many steps as may be made at most weren't made
  pub never_all : (n : ℕ) → most ≤ n → (h : List (Option Contents)) (u : Option (List ℕ)) → Applies n h u → ⊥
  never_all n le h u applies = omega (arith, le, applies.few, (few_steps applies.k).0)
