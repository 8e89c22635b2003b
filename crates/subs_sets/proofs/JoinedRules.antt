-- Damage by the rules of a part is damage by the rules of the whole.
use Rattle.std.proofs.Common.{◌≡◌, ℕ, ◌<◌, length, sym, subst}
use Rattle.site_store.specs.Words.{Kept, Rules, joined, Damages, names, sees, shown_first, shown_second, Breaks, Stops, stops_as}
use Rattle.site_store.specs.declared.sites.Sites.{Sites}
use Rattle.repl_model.specs.Words.{Fault}
use Rattle.set_places.specs.Members.{member_rules}
use Rattle.prune_control.specs.Noting.{mark_rules}
use Rattle.subs_sets.specs.Rules.{captured_rules, source_rules, state_rules, ShowsDamage}

module _ {K : Type 0} (kept : K → Kept) (s0 s1 : Sites K) (server : ℕ) where
  -- a call that fails by the rules of the first fails by those of both
  pub breaks_first : (r q : Rules) (e : Fault) → Breaks r kept s0 s1 server e → Breaks (joined r q) kept s0 s1 server e
  breaks_first r q e f = stops_as kept s0 s1 (Damages (λ s. s ≡ server) r kept s0) (Damages (λ s. s ≡ server) (joined r q) kept s0) e (λ s a cause h. (h.0, shown_first r q a cause (sees kept s0 s) h.1)) f

  -- and so does one by those of the second
  pub breaks_second : (r q : Rules) (e : Fault) → Breaks q kept s0 s1 server e → Breaks (joined r q) kept s0 s1 server e
  breaks_second r q e f = stops_as kept s0 s1 (Damages (λ s. s ≡ server) q kept s0) (Damages (λ s. s ≡ server) (joined r q) kept s0) e (λ s a cause h. (h.0, shown_second r q a cause (sees kept s0 s) h.1)) f

  -- a read of a registration fails
  pub member_breaks : (e : Fault) → Breaks member_rules kept s0 s1 server e → Breaks source_rules kept s0 s1 server e
  member_breaks e f = breaks_first member_rules (joined mark_rules captured_rules) e f

  -- a read of a mark fails
  pub mark_breaks : (e : Fault) → Breaks mark_rules kept s0 s1 server e → Breaks source_rules kept s0 s1 server e
  mark_breaks e f = breaks_second member_rules (joined mark_rules captured_rules) e (breaks_first mark_rules captured_rules e f)

  -- a read of what is captured fails
  pub captured_breaks : (e : Fault) → Breaks captured_rules kept s0 s1 server e → Breaks source_rules kept s0 s1 server e
  captured_breaks e f = breaks_second member_rules (joined mark_rules captured_rules) e (breaks_second mark_rules captured_rules e f)

  -- the source shows damage by the rules of both servers
  pub source_shows : (e : Fault) → server < length (names s0) → Breaks source_rules kept s0 s1 server e → Stops kept s0 s1 (ShowsDamage kept s0) e
  source_shows e within f = stops_as kept s0 s1 (Damages (λ s. s ≡ server) source_rules kept s0) (ShowsDamage kept s0) e (λ s a cause h. (subst (λ (n : ℕ). n < length (names s0)) (sym h.0) within, shown_first source_rules state_rules a cause (sees kept s0 s) h.1)) f

  -- and so does the target
  pub target_shows : (e : Fault) → server < length (names s0) → Breaks state_rules kept s0 s1 server e → Stops kept s0 s1 (ShowsDamage kept s0) e
  target_shows e within f = stops_as kept s0 s1 (Damages (λ s. s ≡ server) state_rules kept s0) (ShowsDamage kept s0) e (λ s a cause h. (subst (λ (n : ℕ). n < length (names s0)) (sym h.0) within, shown_second source_rules state_rules a cause (sees kept s0 s) h.1)) f
