-- Laws of runs one after another: proofs, and nothing to believe.
use Rattle.std.proofs.Common.{◌≡◌, ℕ, List, [], ◌∷◌, ◌++◌, refl, sym, ap, subst, ◌∙◌, append_assoc}
use Rattle.std.specs.Prelude.{Option, ◌||◌}
use Rattle.std.proofs.lemmas.List.{append-nil}
use Rattle.keep_core.specs.Contents.{Contents}
use Rattle.keep_core.specs.Revealed.{Takes, TakesPrefix}
use Rattle.keep_core.specs.laws.Revealed.{takes_nothing, takes_both}
use Rattle.run_core.specs.Runs.{Event, commits, writes, refuses, last_world, lines_of, is_refused, IsPartOf, Went, Stopped, Going}

-- ---- lists of events

-- the lines of two lists of events in turn
pub lines_append : {W : Type 0} (xs ys : List (Event W)) → lines_of (xs ++ ys) ≡ lines_of xs ++ lines_of ys
lines_append [] ys = refl
lines_append (commits w ∷ xs) ys = lines_append xs ys
lines_append (writes l ∷ xs) ys = ap (λ (x : List ℕ). l ++ x) (lines_append xs ys) ∙ sym (append_assoc l (lines_of xs) (lines_of ys))
lines_append (refuses l ∷ xs) ys = ap (λ (x : List ℕ). l ++ x) (lines_append xs ys) ∙ sym (append_assoc l (lines_of xs) (lines_of ys))

-- the last world of two lists of events in turn
pub last_append : {W : Type 0} (w : W) (xs ys : List (Event W)) → last_world w (xs ++ ys) ≡ last_world (last_world w xs) ys
last_append w [] ys = refl
last_append w (commits v ∷ xs) ys = last_append v xs ys
last_append w (writes l ∷ xs) ys = last_append w xs ys
last_append w (refuses l ∷ xs) ys = last_append w xs ys

-- whether something was refused in one of two lists of events
pub refused_append : {W : Type 0} (xs ys : List (Event W)) → is_refused (xs ++ ys) ≡ (is_refused xs || is_refused ys)
refused_append [] ys = refl
refused_append (commits w ∷ xs) ys = refused_append xs ys
refused_append (writes l ∷ xs) ys = refused_append xs ys
refused_append (refuses l ∷ xs) ys = refl

-- a part of the next line is still one if more events follow
part_of_more : {W : Type 0} (part : List ℕ) (rest more : List (Event W)) → IsPartOf part rest → IsPartOf part (rest ++ more)
part_of_more part [] [] is = is
part_of_more part [] (commits w ∷ more) is = is
part_of_more part [] (writes l ∷ more) is = (l, sym (ap (λ (p : List ℕ). p ++ l) is))
part_of_more part [] (refuses l ∷ more) is = (l, sym (ap (λ (p : List ℕ). p ++ l) is))
part_of_more part (commits w ∷ rest) more is = is
part_of_more part (writes l ∷ rest) more is = is
part_of_more part (refuses l ∷ rest) more is = is

-- no bytes are a part of what comes next, whatever it is
pub no_part : {W : Type 0} (events : List (Event W)) → IsPartOf [] events
no_part [] = refl
no_part (commits w ∷ events) = refl
no_part (writes line ∷ events) = (line, refl)
no_part (refuses line ∷ events) = (line, refl)

module _ {W : Type 0} (Stands : List (Option Contents) → W → Type 0) where
  -- ---- one event

  -- a run stopped before its first event, if nothing changed
  pub stopped_before : (w : W) (events : List (Event W)) (h : List (Option Contents)) (t : Option (List ℕ)) → Stands h w → Stopped Stands events w h t t
  stopped_before w events h t at = record {
    done = [];
    rest = events;
    part = [];
    split = refl;
    stands = at;
    bytes = takes_nothing t;
    is_part = no_part events;
  }

  -- a run stopped after its first commit, if the rest of it stopped
  pub stopped_after : (w v : W) (events : List (Event W)) (h : List (Option Contents)) (t u : Option (List ℕ)) → Stopped Stands events v h t u → Stopped Stands (commits v ∷ events) w h t u
  stopped_after w v events h t u stopped = record {
    done = commits v ∷ stopped.done;
    rest = stopped.rest;
    part = stopped.part;
    split = ap (λ (x : List (Event W)). commits v ∷ x) stopped.split;
    stands = stopped.stands;
    bytes = stopped.bytes;
    is_part = stopped.is_part;
  }

  -- a run stopped in its first line, of which a prefix was taken
  pub stopped_in_line : (w : W) (line : List ℕ) (events : List (Event W)) (h : List (Option Contents)) (t u : Option (List ℕ)) → Stands h w → TakesPrefix t u line → Stopped Stands (writes line ∷ events) w h t u
  stopped_in_line w line events h t u at took = record {
    done = [];
    rest = writes line ∷ events;
    part = took.prefix;
    split = refl;
    stands = at;
    bytes = took.taken;
    is_part = (took.rest, took.parts);
  }

  -- a run stopped in the line of a refusal, of which a prefix was taken
  pub stopped_in_refusal : (w : W) (line : List ℕ) (events : List (Event W)) (h : List (Option Contents)) (t u : Option (List ℕ)) → Stands h w → TakesPrefix t u line → Stopped Stands (refuses line ∷ events) w h t u
  stopped_in_refusal w line events h t u at took = record {
    done = [];
    rest = refuses line ∷ events;
    part = took.prefix;
    split = refl;
    stands = at;
    bytes = took.taken;
    is_part = (took.rest, took.parts);
  }

  -- ---- two runs in turn

  -- they happened, if each did
  pub went_both : (w : W) (xs ys : List (Event W)) (h h2 : List (Option Contents)) (t u v : Option (List ℕ)) → Went Stands xs w h t u → Went Stands ys (last_world w xs) h2 u v → Went Stands (xs ++ ys) w h2 t v
  went_both w xs ys h h2 t u v first second = record {
    stands = subst (Stands h2) (sym (last_append w xs ys)) second.stands;
    bytes = subst (Takes t v) (sym (lines_append xs ys)) (takes_both t u v (lines_of xs) (lines_of ys) first.bytes second.bytes);
  }

  -- they stopped, if the first stopped
  pub stopped_in_first : (w : W) (xs ys : List (Event W)) (h : List (Option Contents)) (t u : Option (List ℕ)) → Stopped Stands xs w h t u → Stopped Stands (xs ++ ys) w h t u
  stopped_in_first w xs ys h t u stopped = record {
    done = stopped.done;
    rest = stopped.rest ++ ys;
    part = stopped.part;
    split = ap (λ (x : List (Event W)). x ++ ys) stopped.split ∙ append_assoc stopped.done stopped.rest ys;
    stands = stopped.stands;
    bytes = stopped.bytes;
    is_part = part_of_more stopped.part stopped.rest ys stopped.is_part;
  }

  -- or if the first happened and the second stopped
  pub stopped_in_second : (w : W) (xs ys : List (Event W)) (h h2 : List (Option Contents)) (t u v : Option (List ℕ)) → Went Stands xs w h t u → Stopped Stands ys (last_world w xs) h2 u v → Stopped Stands (xs ++ ys) w h2 t v
  stopped_in_second w xs ys h h2 t u v first stopped = record {
    done = xs ++ stopped.done;
    rest = stopped.rest;
    part = stopped.part;
    split = ap (λ (x : List (Event W)). xs ++ x) stopped.split ∙ sym (append_assoc xs stopped.done stopped.rest);
    stands = subst (Stands h2) (sym (last_append w xs stopped.done)) stopped.stands;
    bytes = subst (Takes t v) (sym (append_assoc (lines_of xs) (lines_of stopped.done) stopped.part) ∙ ap (λ (x : List ℕ). x ++ stopped.part) (sym (lines_append xs stopped.done)))
        (takes_both t u v (lines_of xs) (lines_of stopped.done ++ stopped.part) first.bytes stopped.bytes);
    is_part = stopped.is_part;
  }

  -- ---- one run after another

  module _ (events : List (Event W)) (w : W) (h h2 : List (Option Contents)) (before now now2 : Option (List ℕ)) (one : W → List (Event W)) (left : W → List (Event W)) (going : Going Stands events w (λ v. one v ++ left (last_world v (one v))) h before now) where
    -- if the next part of a run happened, fewer events are left
    pub goes_on : Went Stands (one (last_world w going.done)) (last_world w going.done) h2 now now2 → Going Stands events w left h2 before now2
    goes_on went =
        let v = last_world w going.done in
        let both = went_both w going.done (one v) h h2 before now now2 (record { stands = going.stands; bytes = going.bytes }) went in record {
          done = going.done ++ one v;
          split = going.split ∙ sym (append_assoc going.done (one v) (left (last_world v (one v)))) ∙ ap (λ (u : W). (going.done ++ one v) ++ left u) (sym (last_append w going.done (one v)));
          stands = both.stands;
          bytes = both.bytes;
        }

    -- what happened then is what had happened before, and that part
    pub done_after : (went : Went Stands (one (last_world w going.done)) (last_world w going.done) h2 now now2) → (goes_on went).done ≡ going.done ++ one (last_world w going.done)
    unfolding goes_on
    done_after went = refl

    -- if the next part of a run stopped, the run stopped
    pub stops_in : Stopped Stands (one (last_world w going.done)) (last_world w going.done) h2 now now2 → Stopped Stands events w h2 before now2
    stops_in stopped =
        let v = last_world w going.done in
        let later = left (last_world v (one v)) in
        subst (λ (x : List (Event W)). Stopped Stands x w h2 before now2) (sym going.split)
        (stopped_in_second w going.done (one v ++ later) h h2 before now now2 (record { stands = going.stands; bytes = going.bytes }) (stopped_in_first v (one v) later h2 now now2 stopped))

  -- if no events are left, the whole run happened
  pub going_end : (events : List (Event W)) (w : W) (h : List (Option Contents)) (before now : Option (List ℕ)) → Going Stands events w (λ v. []) h before now → Went Stands events w h before now
  going_end events w h before now going =
      let all : events ≡ going.done = going.split ∙ append-nil going.done in record {
        stands = subst (λ (x : List (Event W)). Stands h (last_world w x)) (sym all) going.stands;
        bytes = subst (λ (x : List (Event W)). Takes before now (lines_of x)) (sym all) going.bytes;
      }
