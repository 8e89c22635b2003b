-- What is stored of the sets whose target a server is, and doesn't depend on their flags and trails.
use Rattle.std.proofs.Common.{◌≡◌, ℕ, cond, List, map, ap}
use Rattle.world_store.specs.Words.{b32, set_cmp, member_key_spelling, state_spelling, last_number_spelling, first_read_only, first_replica, first_number, table_from_rows, target_set_rows, numbered_members, first_table}
use Rattle.repl_model.specs.Words.{SetId, SetDef, TargetSet, by_key, is_replica_set, TargetSide, Server}
use Rattle.repl_types.specs.declared.area.Area.TheVariants as areas
use Rattle.stored_commits.specs.laws.OneRow.{numbered_stay, numbered_lists_stay}

module _ (server : Server) (change : TargetSide → TargetSide) (defined : (side : TargetSide) → (change side).def ≡ side.def) where
  -- the server whose sets have other rows, of the same definitions
  abbrev after : Server
  after = record server { target_sets = map change server.target_sets }

  -- definitions stay
  pub definitions_stay : target_set_rows after ≡ target_set_rows server
  definitions_stay = ap (λ (rows : List (SetId × TargetSet)). by_key set_cmp rows)
      (numbered_stay (λ (s : ℕ × TargetSide). (s.1.def.id, record { number = s.0; def = s.1.def })) change (λ n side. ap (λ (def : SetDef). (def.id, record { number = n; def = def })) (defined side)) 0 server.target_sets)

  -- so do the states that missing ones stand for
  pub first_states_stay : first_table after areas.SetState 0 ≡ first_table server areas.SetState 0
  unfolding first_table
  first_states_stay = ap (table_from_rows b32 state_spelling)
      (numbered_stay (λ (s : ℕ × TargetSide). (s.0, cond (is_replica_set s.1.def) first_replica first_read_only)) change (λ n side. ap (λ (def : SetDef). (n, cond (is_replica_set def) first_replica first_read_only)) (defined side)) 0 server.target_sets)

  -- and the last numbers
  pub first_numbers_stay : first_table after areas.SetState 1 ≡ first_table server areas.SetState 1
  unfolding first_table
  first_numbers_stay = ap (table_from_rows member_key_spelling last_number_spelling)
      (numbered_lists_stay (λ (s : ℕ × TargetSide). map (λ m. (record { set = s.0; member = m.0 }, first_number)) (numbered_members s.1.def)) change (λ n side. ap (λ (def : SetDef). map (λ m. (record { set = n; member = m.0 }, first_number)) (numbered_members def)) (defined side)) 0 server.target_sets)
