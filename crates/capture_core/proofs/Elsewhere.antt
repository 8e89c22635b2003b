-- What a capture leaves of the other servers, and of all servers if it captures nothing: proofs.
use Rattle.std.proofs.Common.{◌≡◌, inl, inr, ℕ, zero, suc, ◌<◌, List, set, get_or, refl, sym, ap, ◌∙◌, arith, Option, None, Result, Ok, Err, OnOk, IfOk, IfErr, get_or-set_other}
use Rattle.world_store.specs.Words.{CaptureState}
use Rattle.site_store.specs.Words.{Contents, Kept, held, sees, ClosesOne}
use Rattle.site_store.specs.declared.sites.Sites.{Sites}
use Rattle.repl_model.specs.Words.{Fault}
use Rattle.capture_core.specs.Capturing.{HoldsElsewhere}
use Rattle.capture_core.specs.Committing.{CommitsUnits, MayCommitUnits}
use Rattle.capture_core.specs.declared.captured.Captured.{Captured}

module _ {K : Type 0} (kept : K → Kept) (n : ℕ) where
  -- if each server holds the same, so do the others
  pub elsewhere_first : (s0 s1 : Sites K) → held kept s1 ≡ held kept s0 → HoldsElsewhere kept s0 s1 n
  elsewhere_first s0 s1 same q ne = ap (λ (l : List (Option Contents)). get_or l q None) same

  pub elsewhere_on : (s0 s1 s2 : Sites K) → HoldsElsewhere kept s0 s1 n → held kept s2 ≡ held kept s1 → HoldsElsewhere kept s0 s2 n
  elsewhere_on s0 s1 s2 apart same q ne = ap (λ (l : List (Option Contents)). get_or l q None) same ∙ apart q ne

  -- also if this server holds what its transaction saw
  elsewhere_took : (s0 s1 before s2 : Sites K) → HoldsElsewhere kept s0 s1 n → held kept before ≡ held kept s1 → held kept s2 ≡ set (held kept before) n (sees kept before n) → HoldsElsewhere kept s0 s2 n
  elsewhere_took s0 s1 before s2 apart same took q ne =
      ap (λ (l : List (Option Contents)). get_or l q None) took
      ∙ get_or-set_other (held kept before) n q (sees kept before n) None ne
      ∙ ap (λ (l : List (Option Contents)). get_or l q None) same
      ∙ apart q ne

  -- after a commit
  pub elsewhere_committed : (s0 s1 s2 : Sites K) (state : CaptureState) → HoldsElsewhere kept s0 s1 n → CommitsUnits kept s1 s2 n state → HoldsElsewhere kept s0 s2 n
  elsewhere_committed s0 s1 s2 state apart commit = elsewhere_took s0 s1 commit.before s2 apart commit.puts.works.held commit.commits.held

  -- after one that failed
  pub elsewhere_doubted : (s0 s1 s2 : Sites K) (state : CaptureState) (e : Fault) → HoldsElsewhere kept s0 s1 n → MayCommitUnits kept s1 s2 n state e → HoldsElsewhere kept s0 s2 n
  elsewhere_doubted s0 s1 s2 state e apart m = elim m.held [
    | inl same ↦ elsewhere_on s0 s1 s2 apart same
    | inr took ↦ elsewhere_took s0 s1 took.1.before s2 apart took.1.puts.works.held took.1.held
  ]

  -- at the end
  pub elsewhere_ended : (s0 s1 s2 : Sites K) (waiting : ℕ) (state : CaptureState) (r : Result Captured Fault) → HoldsElsewhere kept s0 s1 n → OnOk r (waiting ≡ 0 → ClosesOne kept s1 s2 n) → OnOk r ((0 < waiting) → CommitsUnits kept s1 s2 n state) → IfErr r (λ e. (0 < waiting) × MayCommitUnits kept s1 s2 n state e) → HoldsElsewhere kept s0 s2 n
  elsewhere_ended s0 s1 s2 zero state (Ok answer) apart none some fault = elsewhere_on s0 s1 s2 apart (none refl).held
  elsewhere_ended s0 s1 s2 (suc k) state (Ok answer) apart none some fault = elsewhere_committed s0 s1 s2 state apart (some (omega arith))
  elsewhere_ended s0 s1 s2 waiting state (Err e) apart none some fault = elsewhere_doubted s0 s1 s2 state e apart fault.1

  -- if no unit is captured, each server holds what it held
  pub idle_ended : (s0 s1 s2 : Sites K) (waiting upto units rows : ℕ) (r : Result Captured Fault) → (units ≡ 0 → (held kept s1 ≡ held kept s0) × (waiting ≡ 0)) → OnOk r (waiting ≡ 0 → ClosesOne kept s1 s2 n) → IfOk r (λ answer. answer ≡ record { upto = upto; units = units; rows = rows }) → IfOk r (λ answer. answer.units ≡ 0 → held kept s2 ≡ held kept s0)
  idle_ended s0 s1 s2 waiting upto units rows (Ok answer) idle none is = λ few. let so_far = idle (sym (ap (λ (c : Captured). c.units) is) ∙ few) in (none so_far.1).held ∙ so_far.0
  idle_ended s0 s1 s2 waiting upto units rows (Err e) idle none is = tt
