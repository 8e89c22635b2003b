-- Which words begin the commands that are carried out, and which commands take no body.
use Rattle.std.proofs.Common.{◌≡◌, ◌≢◌, ℕ, List, [], Bool, true, false, codes, refl, sym, ap, subst, Option, Some, None, IsSome, IsTrue, slice_get, ◌||◌, bytes_eq}
use Rattle.std.proofs.lemmas.Option.{same_Some}
use Rattle.std.proofs.lemmas.Slice.Eq.{bytes_eq-Decides}
use Rattle.repl_model.specs.Words.{SetId}
use Rattle.repl_commands.specs.declared.command.Command.{Command}
use Rattle.repl_commands.specs.declared.command.Command.TheVariants.{Load, Feed, Capture, CaptureCold, Prune, PruneNormal, Step, Apply, Refresh, Stop, Generate, Rounds, Audit, StatusServer, StatusSet, ShowSource, ShowCd, ShowUow, ShowLog, ShowTarget, ShowTrail, ShowRejected}
use Rattle.script_text.specs.Commands.{command_words}
use Rattle.session_core.specs.Commands.{talk_of, is_carried_out_verb, takes_no_body}

-- each of these words is the first of a command that is carried out
pub command_of_verb : (word : List ℕ) → IsTrue (is_carried_out_verb word) → (command : Command) × IsSome (talk_of command) × (slice_get (command_words command) 0 ≡ Some word)
command_of_verb word is = by_verb (bytes_eq word (codes "load")) refl (bytes_eq word (codes "feed")) refl (bytes_eq word (codes "capture")) refl (bytes_eq word (codes "step")) refl (bytes_eq word (codes "apply")) refl (bytes_eq word (codes "refresh")) refl (bytes_eq word (codes "show")) refl (bytes_eq word (codes "status")) refl is
  where
    no_set : SetId
    no_set = record { qual = []; name = [] }

    is_it : (text : List ℕ) → bytes_eq word text ≡ true → ◌≡◌ {A = Option (List ℕ)} (Some text) (Some word)
    is_it text same = ap (λ (w : List ℕ). Some w) (sym ((bytes_eq-Decides word text).0 same))

    by_verb : (l : Bool) → bytes_eq word (codes "load") ≡ l → (f : Bool) → bytes_eq word (codes "feed") ≡ f → (k : Bool) → bytes_eq word (codes "capture") ≡ k → (p : Bool) → bytes_eq word (codes "step") ≡ p → (a : Bool) → bytes_eq word (codes "apply") ≡ a → (r : Bool) → bytes_eq word (codes "refresh") ≡ r → (s : Bool) → bytes_eq word (codes "show") ≡ s → (t : Bool) → bytes_eq word (codes "status") ≡ t
        → (l || (f || (k || (p || (a || (r || (s || (t || false)))))))) ≡ true → (command : Command) × IsSome (talk_of command) × (slice_get (command_words command) 0 ≡ Some word)
    by_verb true load_is f feed_is k capture_is p step_is a apply_is r refresh_is s show_is t status_is e = (Load, refl, is_it (codes "load") load_is)
    by_verb false load_is true feed_is k capture_is p step_is a apply_is r refresh_is s show_is t status_is e = (Feed [], refl, is_it (codes "feed") feed_is)
    by_verb false load_is false feed_is true capture_is p step_is a apply_is r refresh_is s show_is t status_is e = (Capture [] None None, refl, is_it (codes "capture") capture_is)
    by_verb false load_is false feed_is false capture_is true step_is a apply_is r refresh_is s show_is t status_is e = (Step no_set, refl, is_it (codes "step") step_is)
    by_verb false load_is false feed_is false capture_is false step_is true apply_is r refresh_is s show_is t status_is e = (Apply no_set, refl, is_it (codes "apply") apply_is)
    by_verb false load_is false feed_is false capture_is false step_is false apply_is true refresh_is s show_is t status_is e = (Refresh no_set, refl, is_it (codes "refresh") refresh_is)
    by_verb false load_is false feed_is false capture_is false step_is false apply_is false refresh_is true show_is t status_is e = (ShowLog [], refl, is_it (codes "show") show_is)
    by_verb false load_is false feed_is false capture_is false step_is false apply_is false refresh_is false show_is true status_is e = (StatusServer [], refl, is_it (codes "status") status_is)
    by_verb false load_is false feed_is false capture_is false step_is false apply_is false refresh_is false show_is false status_is e = absurd cc

-- and the first word of each such command is one of them
pub verb_of_command : (word : List ℕ) (command : Command) → IsSome (talk_of command) → slice_get (command_words command) 0 ≡ Some word → IsTrue (is_carried_out_verb word)
verb_of_command word Load some is = subst (λ (w : List ℕ). IsTrue (is_carried_out_verb w)) (same_Some (codes "load") word is) refl
verb_of_command word (Feed server) some is = subst (λ (w : List ℕ). IsTrue (is_carried_out_verb w)) (same_Some (codes "feed") word is) refl
verb_of_command word (Capture server units every) some is = subst (λ (w : List ℕ). IsTrue (is_carried_out_verb w)) (same_Some (codes "capture") word is) refl
verb_of_command word (CaptureCold server) some is = absurd cc
verb_of_command word (Prune server minutes) some is = absurd cc
verb_of_command word (PruneNormal server) some is = absurd cc
verb_of_command word (Step set) some is = subst (λ (w : List ℕ). IsTrue (is_carried_out_verb w)) (same_Some (codes "step") word is) refl
verb_of_command word (Apply set) some is = subst (λ (w : List ℕ). IsTrue (is_carried_out_verb w)) (same_Some (codes "apply") word is) refl
verb_of_command word (Refresh set) some is = subst (λ (w : List ℕ). IsTrue (is_carried_out_verb w)) (same_Some (codes "refresh") word is) refl
verb_of_command word (Stop server table) some is = absurd cc
verb_of_command word (Generate server table seed units changes) some is = absurd cc
verb_of_command word (Rounds qual) some is = absurd cc
verb_of_command word (Audit set) some is = absurd cc
verb_of_command word (StatusServer server) some is = subst (λ (w : List ℕ). IsTrue (is_carried_out_verb w)) (same_Some (codes "status") word is) refl
verb_of_command word (StatusSet set) some is = subst (λ (w : List ℕ). IsTrue (is_carried_out_verb w)) (same_Some (codes "status") word is) refl
verb_of_command word (ShowSource server table) some is = subst (λ (w : List ℕ). IsTrue (is_carried_out_verb w)) (same_Some (codes "show") word is) refl
verb_of_command word (ShowCd server table) some is = subst (λ (w : List ℕ). IsTrue (is_carried_out_verb w)) (same_Some (codes "show") word is) refl
verb_of_command word (ShowUow server) some is = subst (λ (w : List ℕ). IsTrue (is_carried_out_verb w)) (same_Some (codes "show") word is) refl
verb_of_command word (ShowLog server) some is = subst (λ (w : List ℕ). IsTrue (is_carried_out_verb w)) (same_Some (codes "show") word is) refl
verb_of_command word (ShowTarget server table) some is = subst (λ (w : List ℕ). IsTrue (is_carried_out_verb w)) (same_Some (codes "show") word is) refl
verb_of_command word (ShowTrail server set) some is = absurd cc
verb_of_command word (ShowRejected server set) some is = absurd cc

-- The command isn't one of those without a body that are carried out: `capture`, a step or all steps of a set, a refresh that
-- is asked for, `status`, and `show` of a source, of a log, of what is captured or of a target.
pub record IsOther (command : Command) : Type 0 where
  pub capture : (server : List ℕ) (units every : Option ℕ) → command ≢ Capture server units every
  pub step : (set : SetId) → command ≢ Step set
  pub apply : (set : SetId) → command ≢ Apply set
  pub refresh : (set : SetId) → command ≢ Refresh set
  pub status : (server : List ℕ) → command ≢ StatusServer server
  pub set_status : (set : SetId) → command ≢ StatusSet set
  pub source : (server table : List ℕ) → command ≢ ShowSource server table
  pub changes : (server table : List ℕ) → command ≢ ShowCd server table
  pub units : (server : List ℕ) → command ≢ ShowUow server
  pub log : (server : List ℕ) → command ≢ ShowLog server
  pub target : (server table : List ℕ) → command ≢ ShowTarget server table

-- then it isn't carried out
pub not_carried_out : (command : Command) → takes_no_body command → IsOther command → talk_of command ≡ None
not_carried_out Load bodiless other = absurd bodiless
not_carried_out (Feed server) bodiless other = absurd bodiless
not_carried_out (Capture server most every) bodiless other = absurd (other.capture server most every refl)
not_carried_out (CaptureCold server) bodiless other = refl
not_carried_out (Prune server minutes) bodiless other = refl
not_carried_out (PruneNormal server) bodiless other = refl
not_carried_out (Step set) bodiless other = absurd (other.step set refl)
not_carried_out (Apply set) bodiless other = absurd (other.apply set refl)
not_carried_out (Refresh set) bodiless other = absurd (other.refresh set refl)
not_carried_out (Stop server table) bodiless other = refl
not_carried_out (Generate server table seed count each) bodiless other = refl
not_carried_out (Rounds qual) bodiless other = refl
not_carried_out (Audit set) bodiless other = refl
not_carried_out (StatusServer server) bodiless other = absurd (other.status server refl)
not_carried_out (StatusSet set) bodiless other = absurd (other.set_status set refl)
not_carried_out (ShowSource server table) bodiless other = absurd (other.source server table refl)
not_carried_out (ShowCd server table) bodiless other = absurd (other.changes server table refl)
not_carried_out (ShowUow server) bodiless other = absurd (other.units server refl)
not_carried_out (ShowLog server) bodiless other = absurd (other.log server refl)
not_carried_out (ShowTarget server table) bodiless other = absurd (other.target server table refl)
not_carried_out (ShowTrail server set) bodiless other = refl
not_carried_out (ShowRejected server set) bodiless other = refl
