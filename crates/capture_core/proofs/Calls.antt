-- Calls inside a transaction, and why one fails.
use Rattle.std.proofs.Common.{◌≡◌, ℕ, ◌<◌, length, refl, sym, ap, subst, ◌∙◌, Some, IfSome}
use Rattle.std.proofs.lemmas.List.{length-map}
use Rattle.site_store.specs.Words.{Contents, Kept, AllClosed, names, work, sees, IsOpenAt, no_access, Begins, Shows, Damages, ShownBefore, shown_second, begun_sees, Looks, GoesOn, Breaks, stops_as, stops_after, goes_then, goes_saw, goes_open}
use Rattle.site_store.specs.declared.sites.Sites.{Sites}
use Rattle.repl_model.specs.Words.{Fault}
use Rattle.cd_tables.specs.Rules.{rules as unit_rules}
use Rattle.capture_core.specs.Reading.{LeavesOthers}
use Rattle.capture_core.specs.Rules.{log_rules, rules}

-- contents that stay show no new damage
pub same_shown : (c d : Contents) → d ≡ c → ShownBefore rules c d
same_shown c d same a cause h = subst (λ (x : Contents). Shows rules a cause (Some x)) same h

-- and leave the others
pub same_leaves : (c d : Contents) → d ≡ c → LeavesOthers c d
same_leaves c d same = record { others = λ a t apart. ap (λ (f : Contents). f a t) same; shown = same_shown c d same }

-- one step after another leaves the others
pub leaves_then : (c d e : Contents) → LeavesOthers c d → LeavesOthers d e → LeavesOthers c e
leaves_then c d e x y = record { others = λ a t apart. y.others a t apart ∙ x.others a t apart; shown = λ a cause h. x.shown a cause (y.shown a cause h) }

module _ {K : Type 0} (kept : K → Kept) where
  -- what fails by the rules of a unit's capture fails by those of a capture
  pub unit_breaks : (s0 s1 : Sites K) (server : ℕ) (e : Fault) → Breaks unit_rules kept s0 s1 server e → Breaks rules kept s0 s1 server e
  unit_breaks s0 s1 server e f = stops_as kept s0 s1 (Damages (λ s. s ≡ server) unit_rules kept s0) (Damages (λ s. s ≡ server) rules kept s0) e (λ s a cause h. (h.0, shown_second log_rules unit_rules a cause (sees kept s0 s) h.1)) f

  -- a read that failed in a transaction that was begun failed as if it had been made before
  pub breaks_begun : (s0 s1 s2 : Sites K) (server : ℕ) → AllClosed (work kept s0) → server < length (names s0) → Begins kept s0 s1 server → (e : Fault) → Breaks rules kept s1 s2 server e → Breaks rules kept s0 s2 server e
  breaks_begun s0 s1 s2 server closed lt begun e f =
      let within : server < length (work kept s0) = rw length-map (simp length-map at lt) in
      let D = λ (s : Sites K). Damages (λ k. k ≡ server) rules kept s in
      stops_after kept s0 s1 s2 no_access (D s0) e begun.passes begun.held (stops_as kept s1 s2 (D s1) (D s0) e (λ s a cause h. (h.0, subst (Shows rules a cause) (begun_sees kept s0 s1 server within (closed server) begun s) h.1)) f)

  -- what is read after a step holds of what the step left
  pub goes_read : (s0 s1 s2 : Sites K) (server : ℕ) (P : Contents → Contents → Type 0) (N : Contents → Type 0) → IsOpenAt (work kept s0) server → GoesOn kept s0 s1 server P → Looks kept s1 s2 → IfSome (sees kept s1 server) N → GoesOn kept s0 s2 server (λ c d. P c d × N d)
  goes_read s0 s1 s2 server P N open_at a looks saw =
      goes_then kept s0 s1 s2 server P (λ d e. N d × (e ≡ d)) (λ c d. P c d × N d) open_at a
      (goes_saw kept s1 s2 server N (λ d e. N d × (e ≡ d)) (goes_open kept s0 s1 server P open_at a) looks saw (λ d n. (n, refl)))
      (λ c d e p n. subst (λ (x : Contents). P c x × N x) (sym n.1) (p, n.0))
