-- What stays sound of the known sets of a world whose servers get tables and sets.
use Rattle.std.proofs.Common.{◌≡◌, ℕ, ◌≤◌, Bool, true, false, not, ◌&&◌, ◌||◌, List, [], ◌∷◌, ◌++◌, Option, Some, None, refl, sym, ap, ap₂, subst, ◌∙◌, arith, is_some, bytes_eq}
use Rattle.std.specs.List.{AllByRecursion, list_all, list_any}
use Rattle.std.specs.Option.{IfSome, option_map, option_map_or, option_and_then}
use Rattle.std.proofs.lemmas.Bool.{and_parts, false≢true}
use Rattle.std.proofs.Math.Path.{fun_ext}
use Rattle.repl_model.specs.Words.{all_weaker, LogRecord, Change, TableDef, Unit, Member, table_of, same_values, SourceTable, unplaced, source_at, is_signal, table_named, is_of_set, part_of, keys_changed, meets, ServerTable, SourceSide, TargetSide, Server, KnownSet, server_table, as_source, source_named, tables_of, master_point, settled_point, accepted_after, sent_after, rejected_before, others_before, ReplicaMarksAreSound, IsExactlyOnce, IsIndependent, DecisionsAreCaptured, synchpoint, is_seq_or_zero, SignalsAreSound, GoesOn, TrailIsSound, at_one, at_each, passes_at, some_passes, in_filter, find_image, found_first, found_in, beside_weaker, same_name, ServerGrows, with_lists, literal, source_found, SetGrows, IsNewSet}
use Rattle.load_laws.specs.laws.Logs.{more_defs, tables_follow}
use Rattle.load_laws.specs.laws.Definitions.{SourcesStand}

-- ---- a known set whose servers get tables and sets

-- a server with its further tables and sets
abbrev after : (s t : Server) → ServerGrows s t → Server
after s t g = with_lists (g.kept ++ g.more_tables) (s.source_sets ++ g.more_sources) (s.target_sets ++ g.more_targets) s

-- a known set whose servers have their further tables and sets
abbrev set_after : (k l : KnownSet) → SetGrows k l → KnownSet
set_after k l g = record { source = after k.source l.source g.source; at_source = k.at_source; target = after k.target l.target g.target; at_target = k.at_target }

-- what holds of the set with these servers holds of the one that it becomes
holds_of_set : (P : KnownSet → Type 0) (k l : KnownSet) (g : SetGrows k l) → P (set_after k l g) → P l
holds_of_set P k l g = subst P (sym (ap₂ (λ (source : Server) (side : SourceSide). record { source = source; at_source = side; target = l.target; at_target = l.at_target }) g.source.same g.at_source
    ∙ ap₂ (λ (target : Server) (side : TargetSide). record { source = after k.source l.source g.source; at_source = k.at_source; target = target; at_target = side }) g.target.same g.at_target))

-- ---- parts of units

-- each change of the part of a unit is of a table of the source
tables_stand : (k : KnownSet) → SourcesStand k → (u : Unit) → AllByRecursion (λ change. (def : TableDef) × (table_named (table_of change) (tables_of k.source) ≡ Some def)) (part_of k.at_target.def u)
tables_stand k stand u = at_each (λ change. (def : TableDef) × (table_named (table_of change) (tables_of k.source) ≡ Some def)) (part_of k.at_target.def u) (λ change i.
    let of = (in_filter (is_of_set k.at_target.def) (unplaced u.changes) change i).1 in
    let m = some_passes (λ (member : Member). bytes_eq (table_of change) member.source) k.at_target.def.members
    (and_parts (not (is_signal change)) (list_any (λ (member : Member). bytes_eq (table_of change) member.source) k.at_target.def.members) of).1 in
    named change m.0.source (same_name (table_of change) m.0.source m.2) (server_table m.0.source k.source) refl
    (passes_at (λ (member : Member). is_some (source_named member.source k.source)) k.at_target.def.members m.0 stand m.1))
  where
    named : (change : Change) (name : List ℕ) → table_of change ≡ name → (o : Option ServerTable) → server_table name k.source ≡ o → is_some (option_and_then (as_source k.source) o) ≡ true → (def : TableDef) × (table_named (table_of change) (tables_of k.source) ≡ Some def)
    named change name same None e some = absurd (false≢true some)
    named change name same (Some t) e some = (
      t.def,
      ap (λ (n : List ℕ). table_named n (tables_of k.source)) same
          ∙ find_image (λ (a : ServerTable). a.def) (λ (def : TableDef). bytes_eq name def.name) k.source.tables
          ∙ ap (option_map (λ (a : ServerTable). a.def)) e,
    )

-- whether others change a row with a key that a change of a table does, given what stands under that table's name
abbrev shares_key : List Change → Change → TableDef → Option TableDef → Bool
shares_key other change def named = list_any (λ key. list_any (λ c. bytes_eq (table_of c) def.name && option_map_or (λ d. list_any (same_values key) (keys_changed d c)) named false) other) (keys_changed def change)

-- whether a change meets others, given what stands under each name
abbrev meets_at : (List ℕ → Option TableDef) → List Change → Change → Bool
meets_at named other change = option_map_or (λ def. shares_key other change def (named def.name)) (named (table_of change)) false

-- a change of a table that stands meets the same changes after further tables follow
meets_alike : (tables more : List TableDef) (other : List Change) (change : Change) → (def : TableDef) × (table_named (table_of change) tables ≡ Some def) → meets_at (λ name. table_named name (tables ++ more)) other change ≡ meets_at (λ name. table_named name tables) other change
meets_alike tables more other change (def, named) =
    ap (λ (o : Option TableDef). option_map_or (λ d. shares_key other change d (table_named d.name (tables ++ more))) o false) later
    ∙ ap (shares_key other change def) (ap (λ (name : List ℕ). table_named name (tables ++ more)) name ∙ later ∙ sym named ∙ ap (λ (n : List ℕ). table_named n tables) (sym name))
    ∙ sym (ap (λ (o : Option TableDef). option_map_or (λ d. shares_key other change d (table_named d.name tables)) o false) named)
  where
    later : table_named (table_of change) (tables ++ more) ≡ Some def
    later = found_first (λ (d : TableDef). bytes_eq (table_of change) d.name) tables more def named

    name : def.name ≡ table_of change
    name = sym (same_name (table_of change) def.name (found_in (λ (d : TableDef). bytes_eq (table_of change) d.name) tables def named).1)

-- two tests that agree at each element agree on whether some element passes
any_alike : {X : Type 0} (p q : X → Bool) (xs : List X) → AllByRecursion (λ x. p x ≡ q x) xs → list_any p xs ≡ list_any q xs
any_alike p q [] h = refl
any_alike p q (x ∷ xs) h = ap₂ (λ (a b : Bool). a || b) h.0 (any_alike p q xs h.1)

-- the part of a unit meets the same changes after further tables follow
part_meets : (k : KnownSet) → SourcesStand k → (more : List TableDef) (u : Unit) (other : List Change) → meets (tables_of k.source ++ more) (part_of k.at_target.def u) other ≡ meets (tables_of k.source) (part_of k.at_target.def u) other
part_meets k stand more u other = any_alike (meets_at (λ name. table_named name (tables_of k.source ++ more)) other) (meets_at (λ name. table_named name (tables_of k.source)) other) (part_of k.at_target.def u)
    (all_weaker (λ change. (def : TableDef) × (table_named (table_of change) (tables_of k.source) ≡ Some def)) (λ change. meets_at (λ name. table_named name (tables_of k.source ++ more)) other change ≡ meets_at (λ name. table_named name (tables_of k.source)) other change)
    (part_of k.at_target.def u) (meets_alike (tables_of k.source) more other) (tables_stand k stand u))

-- ---- one loaded set

-- the replica marks of a set stay sound
pub marks_stay : (k l : KnownSet) → SetGrows k l → SourcesStand k → ReplicaMarksAreSound k → ReplicaMarksAreSound l
marks_stay k l g stand h = holds_of_set ReplicaMarksAreSound k l g (record {
  rows = at_each (λ member. IfSome (source_named member.source (after k.source l.source g.source)) (λ s. alike s.def)) k.at_target.def.members (λ member i.
      rows_stay member.source (source_named member.source k.source) refl
      (passes_at (λ (m : Member). is_some (source_named m.source k.source)) k.at_target.def.members member stand i)
      (at_one (λ (m : Member). IfSome (source_named m.source k.source) (λ s. alike s.def)) k.at_target.def.members member h.rows i));
  mark = h.mark;
  master = h.master;
  replica = h.replica;
  codes = h.codes;
  settled = h.settled;
  trail = h.trail;
})
  where
    alike : TableDef → Type 0
    alike def = source_at def k.target.log (settled_point k) ≡ source_at def k.source.log (master_point k)

    rows_stay : (name : List ℕ) (o : Option SourceTable) → source_named name k.source ≡ o → is_some o ≡ true → IfSome o (λ s. alike s.def) → IfSome (source_named name (after k.source l.source g.source)) (λ s. alike s.def)
    rows_stay name None e some rows = absurd (false≢true some)
    rows_stay name (Some s) e some rows = subst (λ (o : Option SourceTable). IfSome o (λ s. alike s.def))
        (sym (source_found name k.source (after k.source l.source g.source) s (literal k.source l.source g.source) e)) rows

-- the units of a set stay sent exactly once
pub exactly_once_stays : (k l : KnownSet) → SetGrows k l → IsExactlyOnce k → IsExactlyOnce l
exactly_once_stays k l g h = holds_of_set IsExactlyOnce k l g (record { sent = h.sent; unsettled = h.unsettled; decided = h.decided })

-- the units that a set keeps apart stay apart
pub independence_stays : (k l : KnownSet) → SetGrows k l → SourcesStand k → IsIndependent k → IsIndependent l
independence_stays k l g stand h = holds_of_set IsIndependent k l g
    (beside_weaker (λ r x. apart (tables_of k.source) r x ≡ true) (λ r x. apart (tables_of (after k.source l.source g.source)) r x ≡ true)
    (λ r x e. same r x ∙ e) (accepted_after k (settled_point k)) (sent_after k (master_point k)) h)
  where
    others : Unit → Unit → List Unit
    others r x = rejected_before k r ++ others_before k x

    apart : List TableDef → Unit → Unit → Bool
    apart tables r x = list_all (λ u. not (meets tables (part_of k.at_target.def r) (part_of k.at_target.def u))) (others r x)

    same : (r x : Unit) → apart (tables_of (after k.source l.source g.source)) r x ≡ apart (tables_of k.source) r x
    same r x =
        ap (λ (tables : List TableDef). apart tables r x) (tables_follow k.source (after k.source l.source g.source) (literal k.source l.source g.source))
        ∙ ap (λ (test : List Change → Bool). list_all (λ u. not (test (part_of k.at_target.def u))) (others r x))
        (fun_ext (part_meets k stand (more_defs k.source l.source g.source) r))

-- the decided units that aren't captured stay those of the set
pub captured_stay : (k l : KnownSet) → SetGrows k l → DecisionsAreCaptured k → DecisionsAreCaptured l
captured_stay k l g h = holds_of_set DecisionsAreCaptured k l g h

-- ---- signals and trails

-- the signals of a set stay sound
pub signals_stay : (k l : KnownSet) → SetGrows k l → SignalsAreSound k → SignalsAreSound l
signals_stay k l g h = holds_of_set SignalsAreSound k l g h

-- a set without signals has sound ones
pub no_signals : (l : KnownSet) → IsNewSet l → SignalsAreSound l
no_signals l new = (zero_signal l.source.log l.at_source.signal new.0.1, zero_signal l.target.log l.at_target.signal new.1.2)
  where
    zero_signal : (log : List LogRecord) (signal : ℕ) → signal ≡ 0 → is_seq_or_zero log signal ≡ true
    zero_signal log signal e = ap (is_seq_or_zero log) e

-- the trail of a set stays sound
pub trail_stays : (k l : KnownSet) → SetGrows k l → TrailIsSound k → TrailIsSound l
trail_stays k l g h = holds_of_set TrailIsSound k l g (record { goes = h.goes; mark = h.mark })

-- an empty trail is sound, if nothing is reported
pub no_trail : (l : KnownSet) → IsNewSet l → TrailIsSound l
no_trail l new = record {
  goes = subst (GoesOn l.source.log 0 0) (sym new.1.1) tt;
  mark = subst (λ (m : ℕ). m ≤ synchpoint l.at_target.trail) (sym new.0.0.0) (omega arith);
}
