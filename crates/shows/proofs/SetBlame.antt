-- Why calls at the servers failed, by the rules of all that is read; and that no damage is reported of servers that stand
-- for a world.
use Rattle.std.proofs.Common.{◌≡◌, ℕ, ◌<◌, List, [], length, sym, subst, arith, Some}
use Rattle.std.proofs.lemmas.Option.{slice_get-get_or}
use Rattle.world_store.specs.Words.{IsSet, set_spelling, Holds, Stands}
use Rattle.site_store.specs.Words.{Contents, Kept, Bounds, Fails, Rules, Shows, Damages, IsUndamaged, IsNoDamage, AllClosed, names, held, work, sees, at_most_itself, shown_first, shown_second, no_damage, Breaks, Looks, Stops, no_memory, stops_as, stops_at, stops_after, looks_sees}
use Rattle.site_store.specs.declared.sites.Sites.{Sites}
use Rattle.repl_model.specs.Words.{Area, DamageCause, ShowError, Fault, IsTargetSet, target_set_spelling, empty_server, Server, World, server_in, at_place_in, In}
use Rattle.repl_types.specs.declared.area.Area.TheVariants as areas
use Rattle.repl_types.specs.declared.call_errors.ShowError.TheVariants as errors
use Rattle.repl_types.specs.declared.fault.Fault.TheVariants as faults
use Rattle.stored_defs.specs.Reading.{table_rules}
use Rattle.stored_defs.specs.Rules.{rules as definition_rules, ShowsDamage as ShowsDamageOfDefinitions}
use Rattle.stored_defs.specs.laws.Blaming.{fails_by_table}
use Rattle.stored_defs.specs.laws.Standing.{same_count, seen_at}
use Rattle.prune_control.specs.Noting.{mark_rules}
use Rattle.subs_sets.specs.Rules.{state_rules}
use Rattle.shows.specs.tables.Showing.{IsOutputFault}
use Rattle.shows.specs.sets.Rules.{status_rules, ShowsDamage}
use Rattle.shows.specs.sets.Showing.{FailsShowing}
use Rattle.shows.proofs.AfterReads.{closed_on}

-- ---- what shows damage

module _ {K : Type 0} (kept : K → Kept) (s0 s1 : Sites K) (e : Fault) where
  -- damage of definitions is damage
  pub definitions_show : Stops kept s0 s1 (ShowsDamageOfDefinitions kept s0) e → Stops kept s0 s1 (ShowsDamage kept s0) e
  definitions_show f = stops_as kept s0 s1 (ShowsDamageOfDefinitions kept s0) (ShowsDamage kept s0) e (λ s a cause h. (h.0, shown_first definition_rules status_rules a cause (sees kept s0 s) h.1)) f

  module _ (server : ℕ) (within : server < length (names s0)) where
    -- so is damage of how far a set is
    status_shows : Breaks status_rules kept s0 s1 server e → Stops kept s0 s1 (ShowsDamage kept s0) e
    status_shows f = stops_as kept s0 s1 (Damages (λ s. s ≡ server) status_rules kept s0) (ShowsDamage kept s0) e (λ s a cause h. (
      subst (λ (n : ℕ). n < length (names s0)) (sym h.0) within,
      shown_second definition_rules status_rules a cause (sees kept s0 s) h.1,
    )) f

    -- as of its mark
    pub mark_shows : Breaks mark_rules kept s0 s1 server e → Stops kept s0 s1 (ShowsDamage kept s0) e
    mark_shows f = status_shows (stops_as kept s0 s1 (Damages (λ s. s ≡ server) mark_rules kept s0) (Damages (λ s. s ≡ server) status_rules kept s0) e (λ s a cause h. (h.0, shown_first mark_rules state_rules a cause (sees kept s0 s) h.1)) f)

    -- and of its state
    pub state_shows : Breaks state_rules kept s0 s1 server e → Stops kept s0 s1 (ShowsDamage kept s0) e
    state_shows f = status_shows (stops_as kept s0 s1 (Damages (λ s. s ≡ server) state_rules kept s0) (Damages (λ s. s ≡ server) status_rules kept s0) e (λ s a cause h. (h.0, shown_second mark_rules state_rules a cause (sees kept s0 s) h.1)) f)

    -- the rows of sets whose target a server is can't be read
    pub rows_stop : (most : Bounds) → Fails kept s0 s1 most (Damages (λ s. s ≡ server) (table_rules IsSet set_spelling IsTargetSet target_set_spelling areas.Defs 3) kept s0) e → Stops kept s0 s1 (ShowsDamageOfDefinitions kept s0) e
    rows_stop most f = stops_at kept s0 s1 most (ShowsDamageOfDefinitions kept s0) e (fails_by_table IsSet set_spelling IsTargetSet target_set_spelling areas.Defs 3 definition_rules (λ bytes h. h) (λ bytes h. h) kept (λ s. s < length (names s0)) s0 s1 server most most e within (at_most_itself most) f)

module _ {K : Type 0} (kept : K → Kept) (s0 s1 : Sites K) (look : Looks kept s0 s1) where
  -- memory ran out after reads
  pub memory_after : (D : ℕ → Area → DamageCause → Type 0) → Stops kept s0 s1 D faults.Memory
  memory_after D = stops_after kept s0 s1 s1 look.most D faults.Memory look.stays.passes look.stays.held (no_memory kept s1 D)

  -- definitions can't be read after other reads
  pub definitions_later : (s2 : Sites K) (e : Fault) → Stops kept s1 s2 (ShowsDamageOfDefinitions kept s1) e → Stops kept s0 s2 (ShowsDamageOfDefinitions kept s0) e
  definitions_later s2 e f = stops_after kept s0 s1 s2 look.most (ShowsDamageOfDefinitions kept s0) e look.stays.passes look.stays.held (stops_as kept s1 s2 (ShowsDamageOfDefinitions kept s1) (ShowsDamageOfDefinitions kept s0) e before f)
    where
      before : (s : ℕ) (a : Area) (cause : DamageCause) → ShowsDamageOfDefinitions kept s1 s a cause → ShowsDamageOfDefinitions kept s0 s a cause
      before s a cause h = (subst (λ (l : List (List ℕ)). s < length l) look.stays.passes.names h.0, subst (Shows definition_rules a cause) (looks_sees kept s0 s1 look s) h.1)

-- ---- no damage

module _ {K : Type 0} (kept : K → Kept) (s0 : Sites K) (closed : AllClosed (work kept s0)) (w : World) (stands : Stands (names s0) (held kept s0) w) where
  -- each server is one of the world's
  pub server_among : (s : ℕ) → s < length (names s0) → In (server_in w s) w
  server_among s lt = at_place_in w s (server_in w s) (slice_get-get_or w s (empty_server []) (omega (arith, lt, same_count kept s0 closed w stands)))

  -- none is reported of one server by rules by which no server of the world shows damage
  pub none_broken : (r : Rules) → ((server : Server) (c : Contents) → In server w → Holds w server c → IsUndamaged r c) → (s1 : Sites K) (server : ℕ) (e : Fault) → server < length (names s0) → Breaks r kept s0 s1 server e → IsNoDamage e
  none_broken r undamaged s1 server e lt f = no_damage kept s0 s1 (λ s. s ≡ server) r e each f.blames
    where
      each : (s : ℕ) → s ≡ server → (c : Contents) × (sees kept s0 s ≡ Some c) × IsUndamaged r c
      each s same =
          let within : s < length (names s0) = subst (λ (n : ℕ). n < length (names s0)) (sym same) lt in
          let seen = seen_at kept s0 closed w stands s within in
          (seen.0, seen.1, undamaged (server_in w s) seen.0 (server_among s within) seen.2)

-- ---- replies

module _ {K : Type 0} (kept : K → Kept) (s0 s1 : Sites K) (before now : ℕ) where
  -- a line wasn't written whole after reads
  pub output_fails : (e : ShowError) → AllClosed (work kept s0) → Looks kept s0 s1 → IsOutputFault before now e → FailsShowing kept s0 s1 (ShowsDamage kept s0) before now e
  output_fails (errors.Fault e) closed look memory = (subst (Stops kept s0 s1 (ShowsDamage kept s0)) (sym memory) (memory_after kept s0 s1 look (ShowsDamage kept s0)), closed_on kept s0 s1 look closed)
  output_fails errors.Output closed look rose = ((rose, look), closed_on kept s0 s1 look closed)
