-- After a fault no transaction is open, and no damage is reported of servers that stand for a world.
use Rattle.std.proofs.Common.{◌≡◌, ℕ, ◌<◌, [], length, ◌∙◌, arith, Some}
use Rattle.std.proofs.lemmas.Option.{slice_get-get_or}
use Rattle.world_store.specs.Words.{Stands}
use Rattle.site_store.specs.Words.{Contents, Kept, no_access, both, ClosesAll, Passes, Blames, IsNoDamage, IsUndamaged, AllClosed, names, held, work, sees, at_most_itself, passes_then, no_damage, Stops}
use Rattle.site_store.specs.declared.sites.Sites.{Sites}
use Rattle.repl_model.specs.Words.{Area, DamageCause, Fault, empty_server, World, server_in, at_place_in, In}
use Rattle.repl_types.specs.declared.fault.Fault.TheVariants as faults
use Rattle.stored_defs.specs.laws.Standing.{same_count, seen_at}
use Rattle.subs_sets.specs.Rules.{rules, ShowsDamage}
use Rattle.subs_sets.specs.laws.Undamaged.{rules_undamaged}

module _ {K : Type 0} (kept : K → Kept) (s0 s1 : Sites K) where
  -- who is to blame for a fault is so after all transactions were closed
  blames_on : (s2 : Sites K) (D : ℕ → Area → DamageCause → Type 0) (e : Fault) → Passes kept s1 s2 no_access → Blames kept s0 s1 D e → Blames kept s0 s2 D e
  blames_on s2 D faults.Memory p h = tt
  blames_on s2 D (faults.Keeper s) p h = λ lt. omega (arith, p.faults s, h (omega (arith, lt, p.faults s)))
  blames_on s2 D (faults.Damaged s a cause) p h = ((λ read lt. let le = p.reads a s lt in omega (arith, le, h.0 read (omega (arith, lt, le)))), h.1)
  blames_on s2 D (faults.Refused refusal) p h = h

  -- a call failed, and all transactions were closed
  pub stops_closed : (s2 : Sites K) (D : ℕ → Area → DamageCause → Type 0) (e : Fault) → Stops kept s0 s1 D e → ClosesAll kept s1 s2 no_access → Stops kept s0 s2 D e
  stops_closed s2 D e f closes = record {
    most = both f.most no_access;
    passes = passes_then kept s0 s1 s2 f.most no_access (both f.most no_access) f.passes closes.passes (at_most_itself (both f.most no_access));
    held = closes.held ∙ f.held;
    blames = blames_on s2 D e closes.passes f.blames;
  }

  -- no damage is reported of servers that stand for a world
  pub none_reported : (e : Fault) (w : World) → AllClosed (work kept s0) → Stops kept s0 s1 (ShowsDamage kept s0) e → Stands (names s0) (held kept s0) w → IsNoDamage e
  none_reported e w closed f stands = no_damage kept s0 s1 (λ s. s < length (names s0)) rules e each f.blames
    where
      among : (s : ℕ) → s < length (names s0) → In (server_in w s) w
      among s lt = at_place_in w s (server_in w s) (slice_get-get_or w s (empty_server []) (omega (arith, lt, same_count kept s0 closed w stands)))

      each : (s : ℕ) → s < length (names s0) → (c : Contents) × (sees kept s0 s ≡ Some c) × IsUndamaged rules c
      each s lt = let r = seen_at kept s0 closed w stands s lt in (r.0, r.1, rules_undamaged w (server_in w s) r.0 stands.sound (among s lt) r.2)
