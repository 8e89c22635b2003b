-- What a set has that is new at its target, in any world: what it has in a world with no servers.
use Rattle.std.proofs.Common.{◌≡◌, ℕ, cond, List, [], map, Option, Some, None, slice_get, refl, sym, ap, ◌∙◌}
use Rattle.std.specs.Option.{option_map_or}
use Rattle.repl_model.specs.Words.{Member, SetDef, last_time, time_at, Server, World, server_named, is_replica_set, all_of, units_up_to_zero, TargetSide}
use Rattle.world_store.specs.Words.{MemberKey, LastNumber, first_read_only, first_replica, first_number, no_rows, source_time, state_of, numbered_members, MemberStays, SideStays, is_unread, table_at, number_rows, table_stays, state_stays, number_rows_stay}
use Rattle.load_laws.specs.worlds.Loads.{fresh_target}

-- the time at point 0 is 0
time_at_start : (world : World) (def : SetDef) → source_time world def 0 ≡ 0
unfolding time_at
time_at_start world def = pick (server_named def.source world)
  where
    pick : (o : Option Server) → option_map_or (λ source. time_at source.log 0) o 0 ≡ 0
    pick None = refl
    pick (Some source) = ap last_time (units_up_to_zero source.log)

-- the rows with the last numbers of a set that missing records stand for
abbrev pub first_number_rows_of : ℕ × TargetSide → List (MemberKey × LastNumber)
first_number_rows_of s = map (λ m. (record { set = s.0; member = m.0 }, first_number)) (numbered_members s.1.def)

module _ (world : World) (def : SetDef) where
  -- a set that is new at its target stays, seen from a world with no servers
  new_stays : SideStays [] world (fresh_target def)
  new_stays = record {
    time = time_at_start world def;
    sources = all_of (MemberStays [] world (fresh_target def)) def.members (λ member. is_unread refl);
  }

  -- so its state is the one that a missing record stands for
  pub state_new : state_of world (fresh_target def) ≡ cond (is_replica_set def) first_replica first_read_only
  state_new = state_stays [] world (fresh_target def) new_stays

  -- the last numbers are those that missing records stand for
  pub numbers_new : (n : ℕ) → first_number_rows_of (n, fresh_target def) ≡ number_rows world (n, fresh_target def)
  numbers_new n = sym (number_rows_stay [] world (fresh_target def) new_stays n)

  -- and the targets have no rows
  pub table_new : (place : ℕ) → table_at world place (fresh_target def) ≡ no_rows
  table_new place = table_stays [] world (fresh_target def) new_stays place ∙ none (slice_get def.members place)
    where
      none : (o : Option Member) → option_map_or (λ member. no_rows) o no_rows ≡ no_rows
      none None = refl
      none (Some member) = refl
