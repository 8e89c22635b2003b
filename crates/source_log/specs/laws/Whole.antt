-- The tables of a server's log, its end among them: when they stand, and that they do after a unit. Proofs, and
-- nothing to believe.
use Rattle.std.proofs.Common.{◌≡◌, ℕ, Bool, true, false, cond, List, [], refl, sym, ap, ◌∙◌, Option, Some, None}
use Rattle.std.specs.Option.{option_or}
use Rattle.world_store.specs.Words.{first_head, single_spelling, head_spelling, Single, at_head, head_of, shown, Holds, tables, first_table}
use Rattle.site_store.specs.Words.{Contents, Table, set_key, same_key, or_first}
use Rattle.repl_model.specs.Words.{with_more, IsSound, ServerKeepsRules, LogIsSound, Server, World, In, at_one}
use Rattle.repl_types.specs.declared.area.Area.TheVariants as areas
use Rattle.repl_types.specs.declared.unit.Unit.{Unit as LogUnit}
use Rattle.stored_commits.specs.records.LongerTables.{head_table}
use Rattle.source_log.specs.Rules.{EndIs}
use Rattle.source_log.specs.Storing.{IsKept, StoresWhole}
use Rattle.source_log.specs.Units.{unit_records, AppendsUnit}

-- what a server of a sound world holds are all tables of its log
pub held_whole : (world : World) (server : Server) (c : Contents) → IsSound world → In server world → Holds world server c → StoresWhole server c
unfolding tables
held_whole world server c sound member holds = record {
  kept = record {
    log = at_one LogIsSound world server sound.logs member;
    world = world;
    before = server;
    keeps = at_one (ServerKeepsRules world) world server sound.definitions.servers member;
    tables = refl;
  };
  stores = record { log = holds areas.Log 0; source = λ n. holds areas.Source n; in_flight = holds areas.Inflight 0; defs = holds areas.Defs 0 };
  end = holds areas.Head 0;
}

-- ---- the end of the log

-- values that stand at one place are equal
pub same_value : {v w : List ℕ} → ◌≡◌ {A = Option (List ℕ)} (Some v) (Some w) → v ≡ w
same_value e = cc

-- what is read of a missing end is the first one
read_end : (o : Option (List ℕ)) (bytes : List ℕ) → option_or o (Some (head_spelling first_head)) ≡ Some bytes → or_first head_spelling first_head o ≡ bytes
read_end None bytes e = same_value e
read_end (Some v) bytes e = same_value e

-- what is held of the end, or read of none, is that of a server's log
stored_end : (server : Server) (c : Contents) → shown server areas.Head 0 (c areas.Head 0) ≡ head_table server → option_or (c areas.Head 0 (single_spelling (record {}))) (Some (head_spelling first_head)) ≡ Some (head_spelling (head_of server))
unfolding first_table
stored_end server c end =
    let key : Single = record {} in
    ap (option_or (c areas.Head 0 (single_spelling key))) (sym (at_head single_spelling head_spelling (key, first_head) []))
    ∙ ap (λ (t : Table). t (single_spelling key)) end
    ∙ at_head single_spelling head_spelling (key, head_of server) []

-- so the end of such a log is read
pub whole_reads : (server : Server) (c : Contents) → StoresWhole server c → EndIs (head_of server) c
whole_reads server c whole = sym (read_end (c areas.Head 0 (single_spelling (record {}))) (head_spelling (head_of server)) (stored_end server c whole.end))

-- the end of a longer log is put in the place of the end before
pub end_put : (server longer : Server) (t : Table) → shown server areas.Head 0 t ≡ head_table server → shown server areas.Head 0 (set_key t (single_spelling (record {})) (Some (head_spelling (head_of longer)))) ≡ head_table longer
end_put server longer t holds i k = by_key (same_key (single_spelling (record {})) k) refl i
  where
    key : List ℕ
    key = single_spelling (record {})

    row : Option (List ℕ)
    row = Some (head_spelling (head_of longer))

    first : Option (List ℕ)
    first = first_table server areas.Head 0 k

    by_key : (b : Bool) → same_key key k ≡ b → option_or (cond (same_key key k) row (t k)) first ≡ cond (same_key key k) row None
    by_key true e = ap (λ (b : Bool). option_or (cond b row (t k)) first) e ∙ sym (ap (λ (b : Bool). cond b row None) e)
    by_key false e =
        ap (λ (b : Bool). option_or (cond b row (t k)) first) e
        ∙ ap (λ (u : Table). u k) holds
        ∙ ap (λ (b : Bool). cond b (Some (head_spelling (head_of server))) None) e
        ∙ sym (ap (λ (b : Bool). cond b row None) e)

-- ---- a unit

-- after a unit the tables are those of the log with it, if that is the log of a server of a sound world
pub unit_whole : (server : Server) (unit : LogUnit) (seq : ℕ) (c d : Contents) → StoresWhole server c → AppendsUnit unit seq c d → IsKept (with_more (unit_records unit) server) → StoresWhole (with_more (unit_records unit) server) d
unfolding first_table
unit_whole server unit seq c d whole appends kept =
    let longer = with_more (unit_records unit) server in
    let has = appends.stores server whole.kept (whole_reads server c whole) whole.stores in
    record {
      kept = kept;
      stores = has.stores;
      end = ap (shown longer areas.Head 0) has.put ∙ end_put server longer (c areas.Head 0) whole.end;
    }
