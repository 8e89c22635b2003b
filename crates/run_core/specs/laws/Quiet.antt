-- Laws of runs that only write: proofs, and nothing to believe.
use Rattle.std.proofs.Common.{◌≡◌, ◌⊎◌, inl, inr, ℕ, List, [], ◌∷◌, ◌++◌, refl, sym, ap, subst, ◌∙◌, append_assoc}
use Rattle.std.specs.Prelude.{Option, Some, None}
use Rattle.std.specs.Option.{option_map}
use Rattle.keep_core.specs.Contents.{Contents}
use Rattle.keep_core.specs.Revealed.{Takes, TakesPrefix}
use Rattle.keep_core.specs.laws.Revealed.{takes_both}
use Rattle.run_core.specs.Runs.{Event, commits, writes, refuses, last_world, lines_of, Went, Stopped}
use Rattle.run_core.specs.laws.Runs.{stopped_in_line, stopped_in_refusal}

-- nothing is committed
abbrev pub IsQuiet : {W : Type 0} → List (Event W) → Type 0
IsQuiet [] = Unit {0}
IsQuiet (commits w ∷ events) = ⊥
IsQuiet (writes line ∷ events) = IsQuiet events
IsQuiet (refuses line ∷ events) = IsQuiet events

-- of two ways to part some bytes in two, the first part of the one begins with that of the other
parts_of : (line rest p q : List ℕ) → line ++ rest ≡ p ++ q → ((r : List ℕ) × (line ≡ p ++ r)) ⊎ ((r : List ℕ) × (p ≡ line ++ r) × (rest ≡ r ++ q))
parts_of [] rest p q e = inr (p, refl, e)
parts_of (x ∷ line) rest [] q e = inl (x ∷ line, refl)
parts_of (x ∷ line) rest (y ∷ p) q e =
    let same : x ≡ y = cc in
    let tails : line ++ rest ≡ p ++ q = cc in
    elim (parts_of line rest p q tails) [
      | inl t ↦ inl (t.0, cc)
      | inr t ↦ inr (t.0, cc, t.2)
    ]

-- no bytes have no prefix but none
no_bytes : (p q : List ℕ) → [] ≡ p ++ q → p ≡ []
no_bytes [] q e = refl
no_bytes (x ∷ p) q e = cc

-- the world stays in a run that only writes
pub quiet_world : {W : Type 0} (w : W) (events : List (Event W)) → IsQuiet events → last_world w events ≡ w
quiet_world w [] quiet = refl
quiet_world w (commits v ∷ events) quiet = absurd quiet
quiet_world w (writes line ∷ events) quiet = quiet_world w events quiet
quiet_world w (refuses line ∷ events) quiet = quiet_world w events quiet

-- a sink that took bytes in two parts took the second after the first
takes_second : (t u : Option (List ℕ)) (p line r : List ℕ) → p ≡ line ++ r → Takes t u p → Takes (option_map (λ taken. taken ++ line) t) u r
takes_second None u p line r parts took = took
takes_second (Some bytes) u p line r parts took = took ∙ ap (λ (x : List ℕ). Some (bytes ++ x)) parts ∙ ap (λ (x : List ℕ). Some x) (sym (append_assoc bytes line r))

module _ {W : Type 0} (Stands : List (Option Contents) → W → Type 0) where
  -- a run that only writes happened, if all its lines were taken
  pub went_quiet : (w : W) (events : List (Event W)) (h : List (Option Contents)) (t u : Option (List ℕ)) → IsQuiet events → Stands h w → Takes t u (lines_of events) → Went Stands events w h t u
  went_quiet w events h t u quiet at took = record { stands = subst (Stands h) (sym (quiet_world w events quiet)) at; bytes = took }

  -- a run stopped after its first line, if the rest of it stopped
  stopped_after_line : (w : W) (e : Event W) (line : List ℕ) (events : List (Event W)) (h : List (Option Contents)) (t u : Option (List ℕ)) → ((v : W) (es : List (Event W)) → (last_world v (e ∷ es) ≡ last_world v es) × (lines_of (e ∷ es) ≡ line ++ lines_of es))
      → Stopped Stands events w h (option_map (λ taken. taken ++ line) t) u → Stopped Stands (e ∷ events) w h t u
  stopped_after_line w e line events h t u is stopped = record {
    done = e ∷ stopped.done;
    rest = stopped.rest;
    part = stopped.part;
    split = ap (λ (x : List (Event W)). e ∷ x) stopped.split;
    stands = subst (Stands h) (sym (is w stopped.done).0) stopped.stands;
    bytes = subst (Takes t u) (sym (append_assoc line (lines_of stopped.done) stopped.part) ∙ ap (λ (x : List ℕ). x ++ stopped.part) (sym (is w stopped.done).1))
        (takes_both t (option_map (λ taken. taken ++ line) t) u line (lines_of stopped.done ++ stopped.part) refl stopped.bytes);
    is_part = stopped.is_part;
  }

  -- a run that only writes stopped on its way, if a prefix of its lines was taken
  pub stopped_quiet : (w : W) (events : List (Event W)) (h : List (Option Contents)) (t u : Option (List ℕ)) → IsQuiet events → Stands h w → TakesPrefix t u (lines_of events) → Stopped Stands events w h t u
  stopped_quiet w [] h t u quiet at took = record { done = []; rest = []; part = took.prefix; split = refl; stands = at; bytes = took.taken; is_part = no_bytes took.prefix took.rest took.parts }
  stopped_quiet w (commits v ∷ events) h t u quiet at took = absurd quiet
  stopped_quiet w (writes line ∷ events) h t u quiet at took =
      let ih = stopped_quiet w events h (option_map (λ taken. taken ++ line) t) u quiet at in
      elim (parts_of line (lines_of events) took.prefix took.rest took.parts) [
        | inl p ↦ stopped_in_line Stands w line events h t u at (record { prefix = took.prefix; rest = p.0; parts = p.1; taken = took.taken })
        | inr p ↦ stopped_after_line w (writes line) line events h t u (λ v es. (refl, refl))
            (ih (record { prefix = p.0; rest = took.rest; parts = p.2; taken = takes_second t u took.prefix line p.0 p.1 took.taken }))
      ]
  stopped_quiet w (refuses line ∷ events) h t u quiet at took =
      let ih = stopped_quiet w events h (option_map (λ taken. taken ++ line) t) u quiet at in
      elim (parts_of line (lines_of events) took.prefix took.rest took.parts) [
        | inl p ↦ stopped_in_refusal Stands w line events h t u at (record { prefix = took.prefix; rest = p.0; parts = p.1; taken = took.taken })
        | inr p ↦ stopped_after_line w (refuses line) line events h t u (λ v es. (refl, refl))
            (ih (record { prefix = p.0; rest = took.rest; parts = p.2; taken = takes_second t u took.prefix line p.0 p.1 took.taken }))
      ]
