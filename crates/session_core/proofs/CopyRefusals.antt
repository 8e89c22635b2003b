-- The lines of what was refused, which are written last.
use Rattle.std.proofs.Common.{◌≡◌, ◌∙◌, ℕ, List, [], ◌∷◌, Bool, true, false, refl, sym, ap, subst, Option, Result, append-nil}
use Rattle.site_store.specs.Words.{Kept, Takes, TakesPrefix, AllClosed, work, keeps_itself}
use Rattle.site_store.specs.declared.sites.Sites.{Sites}
use Rattle.repl_model.specs.Words.{World}
use Rattle.run_core.specs.Runs.{Event, refuses, is_refused, lines_of}
use Rattle.run_commands.specs.parts.Parts.{IsPart, WritesLine}
use Rattle.run_commands.specs.parts.laws.Composing.{part_written}
use Rattle.run_commands.specs.declared.parts.run_error.RunError.{RunError}
use Rattle.run_commands.specs.parts.laws.Parts.{happened_quiet, stopped_quietly}
use Rattle.session_core.specs.copy.unwritten.Unwritten.{refusals_in}
use Rattle.session_core.specs.copy.unwritten.laws.Refusals.{HasNoReplies, refusal_lines, refusals_refused, refusals_quiet, no_refusals}
use Rattle.session_core.specs.copy.Showing.{lines_if, KeepsRefusals}

-- a feed whose lines were kept keeps those of its refusals, if it wrote no others once it refused something
pub keeps_refusals : (fed : List (Event World)) (lines : List ℕ) (any : Bool) → any ≡ is_refused fed → lines ≡ lines_of fed → (is_refused fed ≡ true → HasNoReplies fed) → KeepsRefusals fed lines any
keeps_refusals fed lines any refused kept silent = record { refused = refused; written = by_answer any refused }
  where
    by_answer : (any : Bool) → any ≡ is_refused fed → lines_if any lines ≡ lines_of (refusals_in fed)
    by_answer true is = kept ∙ sym (refusal_lines fed (silent (sym is)))
    by_answer false is = sym (ap lines_of (no_refusals fed (sym is)))

-- there are some events whose refusals are these lines
pub some_fed : (lines : List ℕ) (any : Bool) → (fed : List (Event World)) × KeepsRefusals fed lines any
some_fed lines true = (refuses lines ∷ [], record { refused = refl; written = sym (append-nil lines) })
some_fed lines false = ([], record { refused = refl; written = refl })

-- they were written, or a prefix of them was
pub refusals_part : {K O : Type 0} {kept : K → Kept} {taken : O → Option (List ℕ)} {faults : O → ℕ} {s : Sites K} {o p : O} {lines : List ℕ} {any : Bool} {r : Result Bool RunError} (fed : List (Event World)) → KeepsRefusals fed lines any → AllClosed (work kept s)
    → WritesLine taken faults o p (lines_if any lines) any r → IsPart kept taken faults s s o p (λ w. refusals_in fed) (λ refused. refused) r
refusals_part {kept = kept} {taken = taken} {s = s} {o = o} {p = p} {any = any} fed keeps closed wrote = part_written wrote (λ w. refusals_in fed) (λ refused. refused) (keeps_itself kept s closed)
    (λ took. happened_quiet kept s s refl (taken o) (taken p) (λ w. refusals_in fed) any (λ w at. (refusals_quiet fed, subst (Takes (taken o) (taken p)) keeps.written took, keeps.refused ∙ sym (refusals_refused fed))))
    (λ took. stopped_quietly kept s s refl (taken o) (taken p) (λ w. refusals_in fed) (λ w at. (refusals_quiet fed, subst (TakesPrefix (taken o) (taken p)) keeps.written took)))
