-- If no item of a text is new, nothing is loaded: proofs.
use Rattle.std.proofs.Common.{◌≡◌, ℕ, suc, Bool, true, false, cond, not, List, [], ◌∷◌, length, map, refl, sym, ap, subst, ◌∙◌, inl, inr, arith, IsTrue, count_by, filter}
use Rattle.std.proofs.lemmas.List.Sums.{length-filter}
use Rattle.std.specs.List.{AllByRecursion, list_any}
use Rattle.world_store.specs.Words.{Stands}
use Rattle.site_store.specs.Words.{Kept, takes_nothing, names, held}
use Rattle.site_store.specs.declared.sites.Sites.{Sites}
use Rattle.repl_model.specs.Words.{SetDef, Server, World, same_set, In}
use Rattle.run_core.specs.Runs.{Event, commits, Went}
use Rattle.spelled_defs.specs.Spelled.{is_table, is_registration}
use Rattle.spelled_defs.specs.declared.defs.Defs.{Defs}
use Rattle.spelled_defs.specs.declared.defs.RegistrationAt.{RegistrationAt}
use Rattle.spelled_defs.specs.declared.defs.TableAt.{TableAt}
use Rattle.load_laws.specs.known.Known.{known_defs}
use Rattle.load_plan.specs.declared.stored.StoredServer.{StoredServer}
use Rattle.load_laws.specs.worlds.Loads.{load_first}
use Rattle.load_laws.specs.planned.Path.{gains, commits_from}
use Rattle.load_laws.specs.planned.Planned.{known_stored}
use Rattle.load_laws.specs.planned.PlannedLoads.{AreKnown}
use Rattle.load_defs.specs.Counts.{loaded_counts, NoneIsNew}
use Rattle.load_defs.specs.Loading.{AllHappened, load_commits}
use Rattle.load_defs.proofs.AllServers.{InEach}
use Rattle.load_laws.specs.laws.Known.{knows_stored}
use Rattle.load_laws.specs.laws.AllKnown.{known_texts_add_nothing}

-- if a filter keeps no element that fails a test, each passes it
none_kept : {X : Type 0} (p : X → Bool) (xs : List X) → length (filter (λ x. not (p x)) xs) ≡ 0 → AllByRecursion (λ x. IsTrue (p x)) xs
none_kept p [] none = tt
none_kept {X} p (x ∷ xs) none = by_test (none_kept p xs) (p x) refl none
  where
    failing : List X
    failing = filter (λ y. not (p y)) xs

    by_test : (length failing ≡ 0 → AllByRecursion (λ y. IsTrue (p y)) xs) → (b : Bool) → p x ≡ b → length (cond (not b) (x ∷ failing) failing) ≡ 0 → AllByRecursion (λ y. IsTrue (p y)) (x ∷ xs)
    by_test rest true e n = (e, rest n)
    by_test rest false e n = absurd (omega (arith, n))

-- so it is if none is counted
none_fails : {X : Type 0} (p : X → Bool) (xs : List X) → count_by (λ x. not (p x)) xs ≡ 0 → AllByRecursion (λ x. IsTrue (p x)) xs
none_fails p xs none = none_kept p xs (length-filter (λ x. not (p x)) xs ∙ none)

-- if no item of a text is new, all are known
all_known : (w : World) (defs : Defs) → NoneIsNew (loaded_counts (known_defs w) defs) → AreKnown w defs
all_known w defs none = record {
  tables = none_fails (λ (t : TableAt). list_any (is_table t.server t.def.name) (known_defs w).tables) defs.tables none.0;
  registrations = none_fails (λ (r : RegistrationAt). list_any (is_registration r.server r.def.table) (known_defs w).registrations) defs.registrations none.1;
  sets = none_fails (λ (def : SetDef). list_any (λ (other : SetDef). same_set def.id other.id) (known_defs w).sets) defs.sets none.2;
}

-- if no server gets something new, a load commits nothing
no_commits : (defs : Defs) (w : World) (n : ℕ) (servers : List Server) → ((s : Server) → In s servers → gains defs s ≡ false) → commits_from defs w n servers ≡ []
no_commits defs w n [] none = refl
no_commits defs w n (s ∷ ss) none =
    ap (λ (b : Bool). cond b (load_first defs (suc n) w ∷ commits_from defs w (suc n) ss) (commits_from defs w (suc n) ss)) (none s (inl refl))
    ∙ no_commits defs w (suc n) ss (λ t i. none t (inr i))

-- so all of a load has happened before it begins
pub none_left : {K : Type 0} (kept : K → Kept) (s0 : Sites K) (defs : Defs) (stored : List StoredServer) → NoneIsNew (loaded_counts (known_stored stored) defs) → InEach kept s0 defs stored (AllHappened kept s0 s0 (load_commits defs))
none_left kept s0 defs stored none raw w may is stands t =
    let known : known_stored stored ≡ known_defs w = ap known_stored is ∙ knows_stored w may.sound in
    let all : AreKnown w defs = all_known w defs (subst (λ (k : Defs). NoneIsNew (loaded_counts k defs)) known none) in
    let nothing : load_commits defs w ≡ [] = ap (map commits) (no_commits defs w 0 w (λ s i. known_texts_add_nothing raw w defs s may.sound may.accepted all i)) in
    subst (λ (events : List (Event World)). Went (Stands (names s0)) events w (held kept s0) t t) (sym nothing) (record { stands = stands; bytes = takes_nothing t })
