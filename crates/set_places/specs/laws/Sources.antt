-- What the source of a member is, which is found by its name, and that its table has a key.
use Rattle.std.proofs.Common.{◌≡◌, ℕ, ◌<◌, ◌&&◌, List, length, refl, sym, ap, nat_lt, Option, Some, None, option_map, option_and_then, bytes_eq}
use Rattle.std.specs.List.{list_all}
use Rattle.std.proofs.lemmas.Bool.{and_parts, ltb-true}
use Rattle.std.proofs.lemmas.Option.{none-some, same_Some}
use Rattle.repl_model.specs.Words.{all_places, may_be_key, are_among, SourceTable, KeepsTable, table_after, ServerTable, Registered, Server, source_named, as_source, server_table, In, found_in}

-- A source is made of a table of its server, and has the server's log.
pub record IsSourceOf (server : Server) (source : SourceTable) : Type 0 where
  pub table : ServerTable
  pub among : In table server.tables
  pub def : source.def ≡ table.def
  pub log : source.log ≡ server.log

-- so is the source that is found by a name
pub source_is_of : (name : List ℕ) (server : Server) (source : SourceTable) → source_named name server ≡ Some source → IsSourceOf server source
source_is_of name server source e = by_table (server_table name server) refl e
  where
    by_registered : (t : ServerTable) → In t server.tables → (o : Option Registered) → option_map (λ r. record { def = table_after server.log t.def; reg = r.reg; log = server.log }) o ≡ Some source → IsSourceOf server source
    by_registered t i None e = absurd (none-some source e)
    by_registered t i (Some r) e =
        let is = same_Some (record { def = table_after server.log t.def; reg = r.reg; log = server.log }) source e in
        record { table = t; among = i; def = ap (λ (s : SourceTable). s.def) (sym is); log = ap (λ (s : SourceTable). s.log) (sym is) }

    by_table : (o : Option ServerTable) → server_table name server ≡ o → option_and_then (as_source server) o ≡ Some source → IsSourceOf server source
    by_table None found e = absurd (none-some source e)
    by_table (Some t) found e = by_registered t (found_in (λ (u : ServerTable). bytes_eq name u.def.name) server.tables t found).0 t.registered e

-- a table that keeps the rules has a key
pub table_keyed : (t : ServerTable) → KeepsTable t → 0 < length t.def.key
table_keyed t keeps =
    let key = and_parts (nat_lt 0 (length t.def.key)) (list_all (may_be_key t.def) t.def.key) (and_parts (nat_lt 0 (length t.def.key) && list_all (may_be_key t.def) t.def.key) (are_among (all_places t.def) t.def.fixed) keeps.0.key).0 in
    ltb-true 0 (length t.def.key) key.0
