-- Why no set was found, after reads of other servers.
use Rattle.std.proofs.Common.{ℕ, ◌<◌, List, length, subst}
use Rattle.world_store.specs.Words.{Stands, Spells}
use Rattle.site_store.specs.Words.{Kept, Misread, Misspelt, AllClosed, names, held, work, sees, reads_of_one, AtServer, Fails, Shows, IsNoDamage, at_most_itself, get_fails, Looks, Stops, stops_at, stops_as, stops_after, looks_sees}
use Rattle.site_store.specs.declared.sites.Sites.{Sites}
use Rattle.repl_model.specs.Words.{Area, DamageCause, Fault, World}
use Rattle.repl_types.specs.declared.area.Area.TheVariants as areas
use Rattle.stored_defs.specs.Rules.{rules, ShowsDamage}
use Rattle.stored_defs.specs.laws.Standing.{none_damaged}

module _ {K : Type 0} (kept : K → Kept) where
  -- a record of definitions is misspelt
  pub get_stops : {X : Type 0} (fits : X → Type 0) (spelling : X → List ℕ) (s0 s1 : Sites K) (server t : ℕ) (key : List ℕ) (e : Fault) → server < length (names s0) → ((bytes : List ℕ) → rules.is_value areas.Defs t bytes → Spells fits spelling bytes) → Fails kept s0 s1 (reads_of_one 1 server areas.Defs) (AtServer server (Misread areas.Defs (Misspelt fits spelling areas.Defs t key (sees kept s0 server)))) e → Stops kept s0 s1 (ShowsDamage kept s0) e
  get_stops fits spelling s0 s1 server t key e lt values f =
      let most = reads_of_one 1 server areas.Defs in
      stops_at kept s0 s1 most (ShowsDamage kept s0) e (get_fails kept fits spelling (λ s. s < length (names s0)) rules s0 s1 server areas.Defs t key most e lt values (at_most_itself most) f)

  -- a call fails after reads
  pub stops_later : (s0 s1 s2 : Sites K) (e : Fault) → Looks kept s0 s1 → Stops kept s1 s2 (ShowsDamage kept s1) e → Stops kept s0 s2 (ShowsDamage kept s0) e
  stops_later s0 s1 s2 e a f = stops_after kept s0 s1 s2 a.most (ShowsDamage kept s0) e a.stays.passes a.stays.held (stops_as kept s1 s2 (ShowsDamage kept s1) (ShowsDamage kept s0) e before f)
    where
      before : (s : ℕ) (b : Area) (cause : DamageCause) → ShowsDamage kept s1 s b cause → ShowsDamage kept s0 s b cause
      before s b cause h = (subst (λ (l : List (List ℕ)). s < length l) a.stays.passes.names h.0, subst (Shows rules b cause) (looks_sees kept s0 s1 a s) h.1)

  -- no damage is reported if the servers stand for a world
  pub stops_undamaged : (s0 s1 : Sites K) (e : Fault) → AllClosed (work kept s0) → Stops kept s0 s1 (ShowsDamage kept s0) e → (w : World) → Stands (names s0) (held kept s0) w → IsNoDamage e
  stops_undamaged s0 s1 e closed f w stands = none_damaged kept s0 closed w stands s1 e f.blames
