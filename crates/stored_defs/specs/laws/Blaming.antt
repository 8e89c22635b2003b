-- What shows damage of one table shows it of all: proofs, and nothing to believe.
use Rattle.std.proofs.Common.{◌≡◌, ℕ, ◌<◌, List, length, subst, sym, inl, inr, Option, Some, None}
use Rattle.world_store.specs.Words.{Spells}
use Rattle.site_store.specs.Words.{Contents, Kept, names, sees, Bounds, both, Stays, Fails, Rules, Shows, Damages, IsAtMost, fails_by, fails_within, fails_after, if_seen}
use Rattle.site_store.specs.declared.sites.Sites.{Sites}
use Rattle.repl_model.specs.Words.{Area, DamageCause, Fault}
use Rattle.repl_types.specs.declared.status.DamageCause.TheVariants as causes
use Rattle.stored_defs.specs.Reading.{table_rules}
use Rattle.stored_defs.specs.Rules.{rules, ShowsDamage}

module _ {A X : Type 0} (key_fits : A → Type 0) (key : A → List ℕ) (fits : X → Type 0) (spelling : X → List ℕ) (a : Area) (t : ℕ) (all : Rules) (keys : (bytes : List ℕ) → all.is_key a t bytes → Spells key_fits key bytes) (values : (bytes : List ℕ) → all.is_value a t bytes → Spells fits spelling bytes) where
  -- damage by the rules of one table is damage by all rules
  shows_by_table : (b : Area) (cause : DamageCause) (saw : Option Contents) → Shows (table_rules key_fits key fits spelling a t) b cause saw → Shows all b cause saw
  shows_by_table b (causes.Spelling bytes) saw h = (
    h.0,
    elim h.1 [
      | inl k ↦ inl ((λ is. k.0 (λ eb eu. keys bytes (subst (λ (p : Area × ℕ). all.is_key p.0 p.1 bytes) (λ i. (eb i, eu i)) is))), k.1)
      | inr v ↦ inr ((λ is. v.0 (λ eb eu. values bytes (subst (λ (p : Area × ℕ). all.is_value p.0 p.1 bytes) (λ i. (eb i, eu i)) is))), v.1)
    ],
  )
  shows_by_table b (causes.Absent bytes) saw h = (h.0, if_seen saw (λ c. (c b h.0 bytes ≡ None) × ⊥) (λ c. (c b h.0 bytes ≡ None) × all.is_needed b h.0 bytes c) (λ c p. absurd p.1) h.1)
  shows_by_table b (causes.Unfit bytes) saw h = (h.0, if_seen saw (λ c. (k : List ℕ) × (c b h.0 k ≡ Some bytes) × ⊥) (λ c. (k : List ℕ) × (c b h.0 k ≡ Some bytes) × all.is_unfit b h.0 k bytes c) (λ c p. absurd p.2) h.1)
  shows_by_table b (causes.NoRest steps) saw h = absurd h

  -- so a call that fails by the one fails by the other
  pub fails_by_table : {K : Type 0} (kept : K → Kept) (servers : ℕ → Type 0) (s0 s1 : Sites K) (server : ℕ) (x y : Bounds) (e : Fault) → servers server → IsAtMost x y → Fails kept s0 s1 x (Damages (λ s. s ≡ server) (table_rules key_fits key fits spelling a t) kept s0) e → Fails kept s0 s1 y (Damages servers all kept s0) e
  fails_by_table kept servers s0 s1 server x y e among le f = fails_within kept s0 s1 (Damages servers all kept s0) x y e (fails_by kept s0 s1 (Damages (λ s. s ≡ server) (table_rules key_fits key fits spelling a t) kept s0) (Damages servers all kept s0) x e f (λ s b cause h. (subst servers (sym h.0) among, shows_by_table b cause (sees kept s0 s) h.1))) le

-- a call fails after others that changed nothing
pub fails_later : {K : Type 0} (kept : K → Kept) (s0 s1 s2 : Sites K) (x y z : Bounds) (e : Fault) → IsAtMost (both x y) z → Stays kept s0 s1 x → Fails kept s1 s2 y (ShowsDamage kept s1) e → Fails kept s0 s2 z (ShowsDamage kept s0) e
fails_later kept s0 s1 s2 x y z e most stays f = fails_after kept (λ s. s < length (names s0)) rules s0 s1 s2 x y z e most stays (subst (λ (l : List (List ℕ)). Fails kept s1 s2 y (Damages (λ s. s < length l) rules kept s1) e) stays.passes.names f)
