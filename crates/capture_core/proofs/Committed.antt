-- What a server holds once the units that waited are committed: proofs.
use Rattle.std.proofs.Common.{◌≡◌, ℕ, zero, suc, Bool, true, false, cond, List, refl, sym, ap, subst, ◌∙◌, arith, Option, Some, None}
use Rattle.std.specs.Option.{option_or}
use Rattle.world_store.specs.Words.{single_spelling, capture_spelling, CaptureState, table_from_rows, put_here, put_other_table, capture_state, capture_rows, shown, Holds, Becomes, tables, first_table}
use Rattle.site_store.specs.Words.{Contents, Table, set_key, same_key, put_at}
use Rattle.repl_model.specs.Words.{Area, Unit, Server, World}
use Rattle.repl_types.specs.declared.area.Area.TheVariants as areas
use Rattle.world_commits.specs.captures.Captures.{with_units}
use Rattle.stored_commits.specs.captures.CapturedServers.{is_of_capture}
use Rattle.stored_commits.specs.laws.CapturedStates.{captured_becomes}
use Rattle.cd_tables.specs.Appending.{is_of_unit}
use Rattle.capture_core.specs.Committing.{PutsState}
use Rattle.capture_core.specs.Reading.{HasServer}

-- how far a server is captured, as it is held
abbrev state_table : Server → Table
state_table server = table_from_rows single_spelling capture_spelling (capture_rows server)

-- the state after units is put in the place of the state before
state_put : (server after : Server) (t : Table) → shown server areas.Capture 0 t ≡ state_table server → shown server areas.Capture 0 (set_key t (single_spelling (record {})) (Some (capture_spelling (capture_state after)))) ≡ state_table after
state_put server after t holds i k = by_key (same_key (single_spelling (record {})) k) refl i
  where
    key : List ℕ
    key = single_spelling (record {})

    row : Option (List ℕ)
    row = Some (capture_spelling (capture_state after))

    first : Option (List ℕ)
    first = first_table server areas.Capture 0 k

    by_key : (b : Bool) → same_key key k ≡ b → option_or (cond (same_key key k) row (t k)) first ≡ cond (same_key key k) row None
    by_key true e = ap (λ (b : Bool). option_or (cond b row (t k)) first) e ∙ sym (ap (λ (b : Bool). cond b row None) e)
    by_key false e =
        ap (λ (b : Bool). option_or (cond b row (t k)) first) e
        ∙ ap (λ (u : Table). u k) holds
        ∙ ap (λ (b : Bool). cond b (Some (capture_spelling (capture_state server))) None) e
        ∙ sym (ap (λ (b : Bool). cond b row None) e)

-- what is held of it
held_state : (w : World) (server : Server) (c : Contents) → Holds w server c → shown server areas.Capture 0 (c areas.Capture 0) ≡ state_table server
unfolding tables
held_state w server c holds = holds areas.Capture 0

-- a put of the state leaves the tables that aren't of a capture
state_apart : (d : Contents) (k : List ℕ) (v : Option (List ℕ)) (a : Area) (m : ℕ) → is_of_capture a m ≡ false → put_at d areas.Capture 0 k v a m ≡ d a m
state_apart d k v areas.Capture zero e = absurd cc
state_apart d k v areas.Capture (suc m) e = put_other_table d areas.Capture 0 (suc m) k v (λ is. omega arith)
state_apart d k v a m e = refl

-- a table that isn't of a capture isn't of a unit
not_of_unit : (a : Area) (m : ℕ) → is_of_capture a m ≡ false → is_of_unit a m ≡ false
not_of_unit areas.Cd m e = absurd cc
not_of_unit areas.Uow zero e = absurd cc
not_of_unit areas.Uow (suc m) e = refl
not_of_unit areas.Capture zero e = refl
not_of_unit areas.Capture (suc zero) e = absurd cc
not_of_unit areas.Capture (suc (suc m)) e = refl
not_of_unit areas.Log m e = refl
not_of_unit areas.Source m e = refl
not_of_unit areas.Inflight m e = refl
not_of_unit areas.Head m e = refl
not_of_unit areas.Defs m e = refl
not_of_unit areas.Prune m e = refl
not_of_unit areas.Spill m e = refl
not_of_unit areas.Target m e = refl
not_of_unit areas.SetState m e = refl
not_of_unit areas.Trail m e = refl

-- after the put the contents have the same log, and the same captured units
pub put_leaves : (server : Server) (d e : Contents) (state : CaptureState) → HasServer server d → PutsState state d e → HasServer server e
put_leaves server d e state has put =
    let at = λ (a : Area) (m : ℕ) (same : put_at d areas.Capture 0 (single_spelling (record {})) (Some (capture_spelling state)) a m ≡ d a m). ap (λ (f : Contents). f a m) put ∙ same in
    record {
      log = at areas.Log 0 refl ∙ has.log;
      captured = record {
        changes = λ m. at areas.Cd m refl ∙ has.captured.changes m;
        units = at areas.Uow 0 refl ∙ has.captured.units;
        states = at areas.Capture 1 (put_other_table d areas.Capture 0 1 (single_spelling (record {})) (Some (capture_spelling state)) (λ is. omega arith)) ∙ has.captured.states;
        registrations = at areas.Defs 1 refl ∙ has.captured.registrations;
      };
    }

-- what the server holds becomes what a world calls for there once it has captured the units
pub captured_by : (v w : World) (us : List Unit) (server after : Server) (c d e : Contents) (state : CaptureState) → with_units us server ≡ after → Holds w server c → HasServer after d → state ≡ capture_state after → ((a : Area) (m : ℕ) → is_of_unit a m ≡ false → d a m ≡ c a m) → PutsState state d e → Becomes is_of_capture v (with_units us server) c e
unfolding first_table
captured_by v w us server after c d e state is holds has fits leaves put =
    let key = single_spelling (record {}) in
    subst (λ (s : Server). Becomes is_of_capture v s c e) (sym is) (captured_becomes v after c e
    (put_leaves after d e state has put).captured
    (ap (shown after areas.Capture 0) (ap (λ (f : Contents). f areas.Capture 0) put ∙ put_here d areas.Capture 0 key (Some (capture_spelling state)) ∙ (λ i. set_key (leaves areas.Capture 0 refl i) key (Some (capture_spelling (fits i)))))
    ∙ state_put server after (c areas.Capture 0) (held_state w server c holds))
    (λ a m apart. ap (λ (f : Contents). f a m) put ∙ state_apart d key (Some (capture_spelling state)) a m apart ∙ leaves a m (not_of_unit a m apart)))
