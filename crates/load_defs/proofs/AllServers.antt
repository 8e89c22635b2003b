-- All servers are loaded, one after another.
use Rattle.std.proofs.Common.{◌≡◌, ◌⊎◌, ℕ, suc, ◌+◌, ◌<◌, List, [], length, get_or, sym, ap, subst, ◌∙◌, arith, inl, inr}
use Rattle.std.proofs.lemmas.List.{get_or-map}
use Rattle.world_store.specs.Words.{Stands}
use Rattle.site_store.specs.Words.{Kept, names, held}
use Rattle.site_store.specs.declared.sites.Sites.{Sites}
use Rattle.repl_model.specs.Words.{Fault, empty_server, World}
use Rattle.repl_types.specs.declared.fault.Fault.TheVariants as faults
use Rattle.repl_commands.specs.declared.written.RawDefs.{RawDefs}
use Rattle.spelled_defs.specs.declared.defs.Defs.{Defs}
use Rattle.load_plan.specs.declared.stored.StoredServer.{StoredServer}
use Rattle.load_laws.specs.worlds.Loads.{server_at, load_first}
use Rattle.load_laws.specs.planned.Planned.{stored_server, stored_servers}
use Rattle.load_defs.specs.Loading.{MayLoad, AllHappened, SomeHappened, load_commits}
use Rattle.load_defs.proofs.Commits.{stopped_at, went_all}
use Rattle.load_defs.proofs.Standing.{count_named}
use Rattle.load_defs.proofs.Worlds.{none_loaded}

module _ {K : Type 0} (kept : K → Kept) (s0 : Sites K) (defs : Defs) (stored : List StoredServer) where
  -- what follows for each world for which the servers stood before
  abbrev pub InEach : (World → Type 0) → Type 0
  InEach P = (raw : RawDefs) (w : World) → MayLoad raw w defs → stored ≡ stored_servers w → Stands (names s0) (held kept s0) w → P w

  -- the first servers are loaded, as many as this
  abbrev pub FirstLoaded : Sites K → ℕ → Type 0
  FirstLoaded s1 n = InEach (λ w. Stands (names s0) (held kept s1) (load_first defs n w))

  -- none is loaded yet
  pub loads_start : FirstLoaded s0 0
  loads_start raw w may is stands = subst (Stands (names s0) (held kept s0)) (sym (none_loaded defs w)) stands

  -- all were loaded
  pub loads_all : (s1 : Sites K) (n : ℕ) → n ≡ length (names s0) → FirstLoaded s1 n → InEach (AllHappened kept s0 s1 (load_commits defs))
  loads_all s1 n all loaded raw w may is stands t = went_all (Stands (names s0)) defs w (held kept s1) t n (omega (arith, all, count_named (names s0) (held kept s0) w stands)) (loaded raw w may is stands)

  module _ (s1 s2 : Sites K) (n : ℕ) (named : names s1 ≡ names s0) (loaded : FirstLoaded s1 n) (lt : n < length (names s0)) (next : StoredServer) (is_next : next ≡ get_or stored n next) where
    -- what follows of the next server for each world for which the servers stand with the first loaded
    abbrev pub InNext : (World → Type 0) → Type 0
    InNext P = (raw : RawDefs) (w : World) → MayLoad raw w defs → next ≡ stored_server (server_at w n) → Stands (names s1) (held kept s1) (load_first defs n w) → P w

    -- so it follows for each world for which they stood before
    from_next : (P : World → Type 0) → InNext P → InEach P
    from_next P one raw w may is stands = one raw w may
        (is_next ∙ ap (λ (l : List StoredServer). get_or l n next) is ∙ get_or-map stored_server w n (empty_server []) next (omega (arith, lt, count_named (names s0) (held kept s0) w stands)))
        (subst (λ (l : List (List ℕ)). Stands l (held kept s1) (load_first defs n w)) (sym named) (loaded raw w may is stands))

    -- the next server is loaded too
    pub loads_on : InNext (λ w. Stands (names s1) (held kept s2) (load_first defs (suc n) w)) → FirstLoaded s2 (n + 1)
    loads_on one raw w may is stands =
        let more : suc n ≡ n + 1 = omega arith in
        subst (λ (p : List (List ℕ) × ℕ). Stands p.0 (held kept s2) (load_first defs p.1 w)) (λ i. (named i, more i)) (from_next (λ v. Stands (names s1) (held kept s2) (load_first defs (suc n) v)) one raw w may is stands)

    -- or that fails
    pub loads_stop : (e : Fault) → InNext (λ w. Stands (names s1) (held kept s2) (load_first defs n w) ⊎ ((e ≡ faults.Keeper n) × Stands (names s1) (held kept s2) (load_first defs (suc n) w))) → InEach (SomeHappened kept s0 s2 (load_commits defs))
    loads_stop e one raw w may is stands t =
        let count = count_named (names s0) (held kept s0) w stands in
        elim (from_next (λ v. Stands (names s1) (held kept s2) (load_first defs n v) ⊎ ((e ≡ faults.Keeper n) × Stands (names s1) (held kept s2) (load_first defs (suc n) v))) one raw w may is stands) [
          | inl before ↦ stopped_at (Stands (names s0)) defs w (held kept s2) t n (omega (arith, lt, count)) (subst (λ (l : List (List ℕ)). Stands l (held kept s2) (load_first defs n w)) named before)
          | inr after ↦ stopped_at (Stands (names s0)) defs w (held kept s2) t (suc n) (omega (arith, lt, count)) (subst (λ (l : List (List ℕ)). Stands l (held kept s2) (load_first defs (suc n) w)) named after.1)
        ]
