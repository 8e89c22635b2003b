-- Laws of the refusals of a run: proofs, and nothing to believe.
use Rattle.std.proofs.Common.{◌≡◌, ℕ, List, [], ◌∷◌, ◌++◌, refl, ap, false}
use Rattle.run_core.specs.Runs.{Event, commits, writes, refuses, lines_of, is_refused}
use Rattle.run_core.specs.laws.Quiet.{IsQuiet}
use Rattle.session_core.specs.copy.unwritten.Unwritten.{refusals_in}

-- each line that is written refuses something
abbrev pub HasNoReplies : {W : Type 0} → List (Event W) → Type 0
HasNoReplies [] = Unit {0}
HasNoReplies (commits w ∷ events) = HasNoReplies events
HasNoReplies (writes line ∷ events) = ⊥
HasNoReplies (refuses line ∷ events) = HasNoReplies events

-- so it is in two lists of events in turn, if it is in each
pub no_replies_both : {W : Type 0} (xs ys : List (Event W)) → HasNoReplies xs → HasNoReplies ys → HasNoReplies (xs ++ ys)
no_replies_both [] ys first second = second
no_replies_both (commits w ∷ xs) ys first second = no_replies_both xs ys first second
no_replies_both (writes line ∷ xs) ys first second = absurd first
no_replies_both (refuses line ∷ xs) ys first second = no_replies_both xs ys first second

-- the lines of the refusals are then all lines
pub refusal_lines : {W : Type 0} (events : List (Event W)) → HasNoReplies events → lines_of (refusals_in events) ≡ lines_of events
refusal_lines [] none = refl
refusal_lines (commits w ∷ events) none = refusal_lines events none
refusal_lines (writes line ∷ events) none = absurd none
refusal_lines (refuses line ∷ events) none = ap (λ (x : List ℕ). line ++ x) (refusal_lines events none)

-- something is refused in the refusals, if something is
pub refusals_refused : {W : Type 0} (events : List (Event W)) → is_refused (refusals_in events) ≡ is_refused events
refusals_refused [] = refl
refusals_refused (commits w ∷ events) = refusals_refused events
refusals_refused (writes line ∷ events) = refusals_refused events
refusals_refused (refuses line ∷ events) = refl

-- the refusals commit nothing
pub refusals_quiet : {W : Type 0} (events : List (Event W)) → IsQuiet (refusals_in events)
refusals_quiet [] = tt
refusals_quiet (commits w ∷ events) = refusals_quiet events
refusals_quiet (writes line ∷ events) = refusals_quiet events
refusals_quiet (refuses line ∷ events) = refusals_quiet events

-- if nothing is refused, there are none
pub no_refusals : {W : Type 0} (events : List (Event W)) → is_refused events ≡ false → refusals_in events ≡ []
no_refusals [] none = refl
no_refusals (commits w ∷ events) none = no_refusals events none
no_refusals (writes line ∷ events) none = no_refusals events none
no_refusals (refuses line ∷ events) none = absurd cc
