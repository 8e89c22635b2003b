-- What stays sound of a server and of a known set when logs are made longer by further records.
use Rattle.std.proofs.Common.{◌≡◌, ℕ, ◌≤◌, ◌<◌, Bool, true, false, ◌&&◌, ◌||◌, not, List, [], ◌∷◌, ◌++◌, length, max, Option, Some, None, refl, sym, ap, subst, ◌∙◌, arith, IsTrue, ◌==◌, nat_lt, nat_le, filter, IfSome, option_map, option_and_then, option_to_list}
use Rattle.std.specs.List.{AllByRecursion, AllZip, list_all}
use Rattle.std.proofs.lemmas.Bool.{and_parts, and_from, and_left, or_left, le-ltb}
use Rattle.repl_types.specs.laws.Lists.{all_weaker, all_filter}
use Rattle.repl_types.specs.declared.record.LogRecord.{LogRecord}
use Rattle.repl_types.specs.declared.record.SetId.{SetId}
use Rattle.repl_types.specs.declared.table.TableDef.{TableDef}
use Rattle.repl_types.specs.declared.unit.Unit.{Unit}
use Rattle.repl_definitions.specs.declared.member.Member.{Member}
use Rattle.repl_model.specs.Units.{units}
use Rattle.repl_model.specs.SourceAt.{source_at}
use Rattle.repl_model.specs.Selection.{SourceTable}
use Rattle.repl_model.specs.Trails.{Trail, refresh, block, load, settle, loaded_at}
use Rattle.repl_model.specs.World.{Registered, ServerTable, Server, KnownSet, tables_of, as_source, server_table, source_named, code_in}
use Rattle.repl_model.specs.Replicas.{comes_from, part_of, has_part, meets}
use Rattle.repl_model.specs.SoundReplicas.{master_point, settled_point, users_units, CodesAreOf, ReplicaMarksAreSound, accepted_after, sent_after, parts_of, IsExactlyOnce, rejected_before, others_before, IsIndependent, DecisionsAreCaptured}
use Rattle.repl_model.specs.Sound.{is_seq, NumbersAreSound, is_base, GoesOn, SignalsAreSound, TrailIsSound}
use Rattle.repl_model.specs.Longer.{EndsWithin, with_more}
use Rattle.repl_model.specs.laws.Units.{seqs_within}
use Rattle.repl_model.specs.laws.Longer.{source_stays_longer, units_between_stay_longer}
use Rattle.repl_model.specs.laws.LongerLists.{list_all_weaker, zip_weaker}
use Rattle.repl_model.specs.laws.LongerUnits.{later_units, later_seqs, kept_stay_longer, all_longer, is_seq_longer, is_seq_or_zero_longer, is_seq_within, is_seq_or_zero_within, last_commit_within, last_commit_longer}
use Rattle.lists.specs.laws.Places.{all_pass}

-- a known set whose source's and target's logs are made longer
abbrev pub set_with : List LogRecord → List LogRecord → KnownSet → KnownSet
set_with at_source at_target k = record k { source = with_more at_source k.source; target = with_more at_target k.target }

-- ---- numbers, signals and trails

-- the numbers of a server stay sound
pub numbers_stay : (more : List LogRecord) (server : Server) → NumbersAreSound server → NumbersAreSound (with_more more server)
numbers_stay more server h = record {
  captured = is_seq_or_zero_longer server.log more server.captured h.captured;
  floor = h.floor;
  registered = h.registered;
  shown = h.shown;
}

-- the signals of a set stay sound
pub signals_stay : (ms mt : List LogRecord) (k : KnownSet) → SignalsAreSound k → SignalsAreSound (set_with ms mt k)
signals_stay ms mt k h = (is_seq_or_zero_longer k.source.log ms k.at_source.signal h.0, is_seq_or_zero_longer k.target.log mt k.at_target.signal h.1)

-- the point of a read of base aggregates stays a unit's seq
base_longer : (log more : List LogRecord) (q : Option ℕ) → is_base log q ≡ true → is_base (log ++ more) q ≡ true
base_longer log more None h = refl
base_longer log more (Some q) h = is_seq_longer log more q h

-- the points of an entry stay units' seqs
points_longer : (log more : List LogRecord) (p : ℕ) (q : Option ℕ) → (is_seq log p && is_base log q) ≡ true → (is_seq (log ++ more) p && is_base (log ++ more) q) ≡ true
points_longer log more p q h =
    let both = and_parts (is_seq log p) (is_base log q) h in
    and_from (is_seq (log ++ more) p) (is_base (log ++ more) q) (is_seq_longer log more p both.0) (base_longer log more q both.1)

-- the entries of a read-only set stay sound
goes_on_longer : (log more : List LogRecord) (point base : ℕ) (trail : Trail) → GoesOn log point base trail → GoesOn (log ++ more) point base trail
goes_on_longer log more point base [] h = tt
goes_on_longer log more point base (refresh p q ∷ trail) h = (h.0, h.1, points_longer log more p q h.2, goes_on_longer log more p p trail h.3)
goes_on_longer log more point base (block low high q ∷ trail) h = (h.0, h.1, h.2, points_longer log more high q h.3, goes_on_longer log more high base trail h.4)
goes_on_longer log more point base (load m f rows ∷ trail) h = h
goes_on_longer log more point base (settle m f rejected applied ∷ trail) h = h

-- the trail of a read-only set stays sound
pub trail_stays : (ms mt : List LogRecord) (k : KnownSet) → TrailIsSound k → TrailIsSound (set_with ms mt k)
trail_stays ms mt k h = record { goes = goes_on_longer k.source.log ms 0 0 k.at_target.trail h.goes; mark = h.mark }

-- the point of a read of base aggregates is one of the log
base_within : (log : List LogRecord) (q : Option ℕ) → is_base log q ≡ true → AllByRecursion (λ point. point ≤ length log) (option_to_list q)
base_within log None h = tt
base_within log (Some q) h = (is_seq_within log q h, tt)

-- the entries of a read-only set end within its source's log
goes_within : (log : List LogRecord) (point base : ℕ) (trail : Trail) → point ≤ length log → GoesOn log point base trail → EndsWithin (length log) trail
goes_within log point base [] within h = tt
goes_within log point base (refresh p q ∷ trail) within h =
    let both = and_parts (is_seq log p) (is_base log q) h.2 in
    let here = is_seq_within log p both.0 in
    ((here, base_within log q both.1), goes_within log p p trail here h.3)
goes_within log point base (block low high q ∷ trail) within h =
    let both = and_parts (is_seq log high) (is_base log q) h.3 in
    let here = is_seq_within log high both.0 in
    ((omega (arith, h.0, within), (here, base_within log q both.1)), goes_within log high base trail here h.4)
goes_within log point base (load m f rows ∷ trail) within h = absurd h
goes_within log point base (settle m f rejected applied ∷ trail) within h = absurd h

-- a sound trail ends within the log of its set's source
pub trail_within : (k : KnownSet) → TrailIsSound k → EndsWithin (length k.source.log) k.at_target.trail
trail_within k h = goes_within k.source.log 0 0 k.at_target.trail (omega arith) h.goes

-- ---- replica marks

-- no unit among some comes from a set
abbrev pub none_from : SetId → List Unit → Bool
none_from id us = list_all (λ u. not (comes_from id u)) us

-- further records leave the users' units up to a point of the replica's log
users_units_stay : (ms mt : List LogRecord) (k : KnownSet) (low high : ℕ) → high ≤ length k.target.log → users_units (set_with ms mt k) low high ≡ users_units k low high
users_units_stay ms mt k low high h = ap (filter (λ u. not (comes_from k.at_target.def.id u))) (units_between_stay_longer k.target.log mt low high h)

-- the points of a set are positions of its logs
master_within : (k : KnownSet) → ReplicaMarksAreSound k → master_point k ≤ length k.source.log
master_within k marks = omega (arith, marks.master.0, last_commit_within k.source.log)

settled_within : (k : KnownSet) → ReplicaMarksAreSound k → settled_point k ≤ length k.target.log
settled_within k marks = omega (arith, marks.replica.0, last_commit_within k.target.log)

-- what is decided of the replica's units is within its log
decided_within : (k : KnownSet) → NumbersAreSound k.target → ReplicaMarksAreSound k → k.at_source.t ≤ length k.target.log
decided_within k numbers marks = omega (arith, marks.replica.1, is_seq_or_zero_within k.target.log k.target.captured numbers.captured)

-- a server with a longer log has the same tables as sources
sources_stay : (more : List LogRecord) (server : Server) (P Q : TableDef → Type 0) → ((def : TableDef) → P def → Q def) → (name : List ℕ) → IfSome (source_named name server) (λ s. P s.def) → IfSome (source_named name (with_more more server)) (λ s. Q s.def)
sources_stay more server P Q f name h = found (server_table name server) h
  where
    registered : (def : TableDef) (r : Option Registered) → IfSome (option_map (λ r. record { def = def; reg = r.reg; log = server.log }) r) (λ (s : SourceTable). P s.def) → IfSome (option_map (λ r. record { def = def; reg = r.reg; log = server.log ++ more }) r) (λ (s : SourceTable). Q s.def)
    registered def None h = tt
    registered def (Some r) h = f def h

    found : (t : Option ServerTable) → IfSome (option_and_then (as_source server) t) (λ s. P s.def) → IfSome (option_and_then (as_source (with_more more server)) t) (λ s. Q s.def)
    found None h = tt
    found (Some t) h = registered t.def t.registered h

-- the replica marks of a set stay sound, if no later unit of the replica comes from the set
pub marks_stay : (ms mt : List LogRecord) (k : KnownSet) → NumbersAreSound k.target → none_from k.at_target.def.id (later_units k.target.log mt) ≡ true → ReplicaMarksAreSound k → ReplicaMarksAreSound (set_with ms mt k)
marks_stay ms mt k numbers others marks = record {
  rows = all_weaker {X = Member} (λ member. IfSome (source_named member.source k.source) (λ s. same_rows s.def)) (λ member. IfSome (source_named member.source (with_more ms k.source)) (λ s. same_rows_longer s.def)) k.at_target.def.members
      (λ member. sources_stay ms k.source same_rows same_rows_longer (λ def e. source_stays_longer def k.target.log mt (settled_point k) (settled_within k marks) ∙ e ∙ sym (source_stays_longer def k.source.log ms (master_point k) (master_within k marks))) member.source) marks.rows;
  mark = marks.mark;
  master = (omega (arith, marks.master.0, last_commit_longer k.source.log ms), omega (arith, marks.master.1, last_commit_longer k.source.log ms));
  replica = (omega (arith, marks.replica.0, last_commit_longer k.target.log mt), marks.replica.1);
  codes = subst (λ (us : List Unit). CodesAreOf us 0 k.at_source.codes) (sym (users_units_stay ms mt k (loaded_at k.at_target.trail) k.at_source.t (decided_within k numbers marks))) marks.codes;
  settled = all_longer (λ u. not (comes_from k.at_target.def.id u) || nat_le u.head.seq (settled_point k)) k.target.log mt marks.settled
      (list_all_weaker (λ u. not (comes_from k.at_target.def.id u)) (λ u. not (comes_from k.at_target.def.id u) || nat_le u.head.seq (settled_point k)) (later_units k.target.log mt)
      (λ u e. or_left (not (comes_from k.at_target.def.id u)) (nat_le u.head.seq (settled_point k)) e) others);
  trail = marks.trail;
}
  where
    same_rows : TableDef → Type 0
    same_rows def = source_at def k.target.log (settled_point k) ≡ source_at def k.source.log (master_point k)

    same_rows_longer : TableDef → Type 0
    same_rows_longer def = source_at def (k.target.log ++ mt) (settled_point k) ≡ source_at def (k.source.log ++ ms) (master_point k)

-- ---- exactly once

-- further records leave the units that are accepted
accepted_stay : (ms mt : List LogRecord) (k : KnownSet) (low : ℕ) → NumbersAreSound k.target → ReplicaMarksAreSound k → accepted_after (set_with ms mt k) low ≡ accepted_after k low
accepted_stay ms mt k low numbers marks = ap (filter (λ u. has_part k.at_target.def u && code_in k.at_source.codes u.head.seq == 0))
    (users_units_stay ms mt k low (max k.at_source.t (settled_point k)) (omega (arith, decided_within k numbers marks, settled_within k marks)))

-- further records leave the master's units from the set, if no later unit comes from it
sent_stay : (ms mt : List LogRecord) (k : KnownSet) (low : ℕ) → none_from k.at_target.def.id (later_units k.source.log ms) ≡ true → sent_after (set_with ms mt k) low ≡ sent_after k low
sent_stay ms mt k low others =
    let from = λ (u : Unit). comes_from k.at_target.def.id u in
    let sent = λ (u : Unit). nat_lt low u.head.seq && comes_from k.at_target.def.id u && has_part k.at_target.def u in
    kept_stay_longer sent k.source.log ms
    (all_weaker {X = Unit} (λ u. not (from u) ≡ true) (λ u. sent u ≡ false) (later_units k.source.log ms)
    (λ u e. from_none (nat_lt low u.head.seq) (from u) (has_part k.at_target.def u) e) (all_pass (λ (u : Unit). not (from u)) (later_units k.source.log ms) others))
  where
    from_none : (a b c : Bool) → not b ≡ true → (a && b && c) ≡ false
    from_none false b c e = refl
    from_none true false c e = refl
    from_none true true c e = absurd cc

-- the units of a set stay sent exactly once, if no later unit of the master comes from it
pub exactly_once_stays : (ms mt : List LogRecord) (k : KnownSet) → NumbersAreSound k.target → none_from k.at_target.def.id (later_units k.source.log ms) ≡ true → ReplicaMarksAreSound k → IsExactlyOnce k → IsExactlyOnce (set_with ms mt k)
exactly_once_stays ms mt k numbers others marks h = record {
  sent = parts (sent_stay ms mt k 0 others) (accepted_stay ms mt k (loaded_at k.at_target.trail) numbers marks) h.sent;
  unsettled = parts (sent_stay ms mt k (master_point k) others) (accepted_stay ms mt k (settled_point k) numbers marks) h.unsettled;
  decided = all_longer (λ u. not (comes_from k.at_target.def.id u) || nat_le u.head.seq (max (master_point k) k.at_source.d)) k.source.log ms h.decided
      (list_all_weaker (λ u. not (comes_from k.at_target.def.id u)) (λ u. not (comes_from k.at_target.def.id u) || nat_le u.head.seq (max (master_point k) k.at_source.d)) (later_units k.source.log ms)
      (λ u e. or_left (not (comes_from k.at_target.def.id u)) (nat_le u.head.seq (max (master_point k) k.at_source.d)) e) others);
}
  where
    parts : {sent' sent accepted' accepted : List Unit} → sent' ≡ sent → accepted' ≡ accepted → parts_of k sent ≡ parts_of k accepted → parts_of k sent' ≡ parts_of k accepted'
    parts e f same = ap (parts_of k) e ∙ same ∙ sym (ap (parts_of k) f)

-- ---- independence

-- further records leave the rejected units
rejected_stay : (ms mt : List LogRecord) (k : KnownSet) (r : Unit) → NumbersAreSound k.target → ReplicaMarksAreSound k → rejected_before (set_with ms mt k) r ≡ rejected_before k r
rejected_stay ms mt k r numbers marks = ap (filter (λ u. nat_lt u.head.seq r.head.seq && nat_lt 0 (code_in k.at_source.codes u.head.seq)))
    (users_units_stay ms mt k (settled_point k) k.at_source.t (decided_within k numbers marks))

-- further records leave the master's own units before one of the log's
others_stay : (ms mt : List LogRecord) (k : KnownSet) (x : Unit) → x.head.seq ≤ length k.source.log → others_before (set_with ms mt k) x ≡ others_before k x
others_stay ms mt k x within = kept_stay_longer (λ u. nat_lt (master_point k) u.head.seq && nat_lt u.head.seq x.head.seq && not (comes_from k.at_target.def.id u)) k.source.log ms
    (all_weaker {X = Unit} (λ u. length k.source.log < u.head.seq) (λ u. (nat_lt (master_point k) u.head.seq && nat_lt u.head.seq x.head.seq && not (comes_from k.at_target.def.id u)) ≡ false) (later_units k.source.log ms)
    (λ u past. not_before (nat_lt (master_point k) u.head.seq) (nat_lt u.head.seq x.head.seq) (not (comes_from k.at_target.def.id u)) (le-ltb u.head.seq x.head.seq (omega arith))) (later_seqs k.source.log ms))
  where
    not_before : (a b c : Bool) → b ≡ false → (a && b && c) ≡ false
    not_before false b c e = refl
    not_before true b c e = and_left b c e

-- the units that a set keeps apart stay apart, if no later unit of the master comes from the set
pub independence_stays : (ms mt : List LogRecord) (k : KnownSet) → NumbersAreSound k.target → none_from k.at_target.def.id (later_units k.source.log ms) ≡ true → ReplicaMarksAreSound k → IsIndependent k → IsIndependent (set_with ms mt k)
independence_stays ms mt k numbers others marks h =
    subst (λ (accepted : List Unit). AllZip apart_longer accepted (sent_after (set_with ms mt k) (master_point k))) (sym (accepted_stay ms mt k (settled_point k) numbers marks))
    (subst (λ (sent : List Unit). AllZip apart_longer (accepted_after k (settled_point k)) sent) (sym (sent_stay ms mt k (master_point k) others))
    (zip_weaker (λ (x : Unit). x.head.seq ≤ length k.source.log) apart apart_longer (accepted_after k (settled_point k)) (sent_after k (master_point k))
    (λ r x within e. ap (list_all (λ u. not (meets (tables_of k.source) (part_of k.at_target.def r) (part_of k.at_target.def u)))) (ap (λ (us : List Unit). us ++ others_before (set_with ms mt k) x) (rejected_stay ms mt k r numbers marks) ∙ ap (λ (us : List Unit). rejected_before k r ++ us) (others_stay ms mt k x within)) ∙ e)
    (all_filter (λ (x : Unit). x.head.seq ≤ length k.source.log) (λ u. nat_lt (master_point k) u.head.seq && comes_from k.at_target.def.id u && has_part k.at_target.def u) (units k.source.log)
    (all_weaker {X = Unit} (λ u. (0 < u.head.seq) × (u.head.seq ≤ length k.source.log)) (λ u. u.head.seq ≤ length k.source.log) (units k.source.log) (λ u w. w.1) (seqs_within k.source.log))) h))
  where
    apart : Unit → Unit → Type 0
    apart r x = IsTrue (list_all (λ u. not (meets (tables_of k.source) (part_of k.at_target.def r) (part_of k.at_target.def u))) (rejected_before k r ++ others_before k x))

    apart_longer : Unit → Unit → Type 0
    apart_longer r x = IsTrue (list_all (λ u. not (meets (tables_of k.source) (part_of k.at_target.def r) (part_of k.at_target.def u))) (rejected_before (set_with ms mt k) r ++ others_before (set_with ms mt k) x))

-- ---- captured decisions

-- the decided units that aren't captured stay those of the set
pub captured_stay : (ms mt : List LogRecord) (k : KnownSet) → ReplicaMarksAreSound k → DecisionsAreCaptured k → DecisionsAreCaptured (set_with ms mt k)
captured_stay ms mt k marks h = subst (AllByRecursion (λ u. IsTrue (comes_from k.at_target.def.id u)))
    (sym (units_between_stay_longer k.source.log ms k.source.captured k.at_source.d (omega (arith, marks.master.1, last_commit_within k.source.log)))) h
