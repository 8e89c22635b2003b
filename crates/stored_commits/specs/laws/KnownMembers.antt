-- What a sound world says of a member that copies: its source keeps the rules, and has a sound log.
use Rattle.std.proofs.Common.{◌≡◌, ℕ, Bool, true, false, not, ◌&&◌, ◌||◌, List, ◌++◌, length, Option, Some, None, inl, inr, refl, sym, ap, subst, ◌∙◌, IfSome, IsTrue, nat_lt, slice_get, bytes_eq}
use Rattle.std.specs.List.{list_all}
use Rattle.std.specs.Option.{option_map, option_map_or, option_and_then}
use Rattle.std.specs.FinMap.{empty, entries}
use Rattle.std.proofs.lemmas.Bool.{and_parts, false≢true}
use Rattle.std.proofs.lemmas.Option.{none-some, same_Some}
use Rattle.repl_model.specs.Words.{TableDef, Member, TargetColumn, TargetKind, table_named, all_places, columns_from, from_fits, filter_columns, kinds_fit, is_copy, is_replica, is_replica_set, RegistrationKeepsRules, MemberKeepsRules, are_among, places_rise, is_among, SourceTable, IsSound, KeepsTable, ServerKeepsRules, MemberIsSound, ReplicaMemberIsSound, KnownSetKeepsRules, read_only_sets, LogIsSound, changes_between, source_at, table_after, all_apply, units, Registered, ServerTable, Server, World, KnownSet, tables_of, server_table, as_source, source_named, known_sets, at_place_in, known_stands, source_in, In, all_pass_from, at_one, at_each, found_in, image_in, in_filter, in_first, passes_at}
use Rattle.repl_definitions.specs.declared.member.TargetKind.TheVariants.{UserCopy, PointInTime, BaseAggregate, ChangeAggregate, Ccd, Replica}
use Rattle.stored_commits.specs.laws.Images.{KeepsCopies}
use Rattle.stored_commits.specs.copies.laws.LoggedChanges.{units_fit}
use Rattle.stored_commits.specs.laws.CopiedUnits.{UnitsAreSound, changes_of, rows_stand, copy_taken}
use Rattle.stored_commits.specs.laws.SourceLogs.{tables_are_found}
use Rattle.stored_commits.specs.laws.StoredCopies.{user_copy_is}
use Rattle.stored_commits.specs.laws.Markers.{markers_onward, point_copy_is}
use Rattle.stored_commits.specs.copies.ChangedCopies.{as_copy, timed_copy, timed_changes, with_changes, times_after, TimedCopyTakesChanges, CopyTakesChanges}
use Rattle.stored_commits.specs.copies.PointCopies.{as_point, point_table, spelled_time, PointCopyTakesChanges}

-- ---- the source

-- A source is a registered table of its server, with the server's log.
record IsSourceOf (server : Server) (source : SourceTable) : Type 0 where
  table : ServerTable
  among : In table server.tables
  registered : Registered
  has : table.registered ≡ Some registered
  is : source ≡ record { def = table.def; reg = registered.reg; log = server.log }

-- so is the source of a name
source_is_of : (name : List ℕ) (server : Server) (source : SourceTable) → source_named name server ≡ Some source → IsSourceOf server source
source_is_of name server source e = by_table (server_table name server) refl e
  where
    by_registered : (t : ServerTable) → In t server.tables → (o : Option Registered) → t.registered ≡ o → option_map (λ r. record { def = table_after server.log t.def; reg = r.reg; log = server.log }) o ≡ Some source → IsSourceOf server source
    by_registered t i None has e = absurd (none-some source e)
    by_registered t i (Some r) has e = record { table = t; among = i; registered = r; has = has; is = sym (same_Some (record { def = table_after server.log t.def; reg = r.reg; log = server.log }) source e) }

    by_table : (o : Option ServerTable) → server_table name server ≡ o → option_and_then (as_source server) o ≡ Some source → IsSourceOf server source
    by_table None found e = absurd (none-some source e)
    by_table (Some t) found e = by_registered t (found_in (λ (u : ServerTable). bytes_eq name u.def.name) server.tables t found).0 t.registered refl e

-- a copy is no replica
copies_no_replica : (kind : TargetKind) → is_copy kind ≡ true → is_replica kind ≡ true → ⊥
copies_no_replica UserCopy e f = false≢true f
copies_no_replica PointInTime e f = false≢true f
copies_no_replica BaseAggregate e f = false≢true f
copies_no_replica ChangeAggregate e f = false≢true f
copies_no_replica (Ccd complete condensed) e f = false≢true f
copies_no_replica Replica e f = false≢true e

-- ---- rules

-- columns among the first of two lists and the second: those of the first list
among_first : (places ms ns : List ℕ) → are_among places (ms ++ ns) ≡ true → are_among places ms ≡ true
among_first places ms ns e = all_pass_from (is_among places) ms (λ m i. passes_at (is_among places) (ms ++ ns) m e (in_first ms ns m i))

-- a registration and a copy that keep the rules let the copy be kept by change rows
keeps_copies : (source : SourceTable) (member : Member) → RegistrationKeepsRules source.def source.reg → MemberKeepsRules source member → is_copy member.kind ≡ true → KeepsCopies source member
keeps_copies source member registration rules copies = record {
  table = registration.table;
  places = (and_parts (places_rise source.reg.after) (are_among (all_places source.def) source.reg.after) after.0).1;
  key = after.1;
  tested = tested.1;
  read = at_each (λ (c : TargetColumn). are_among source.reg.after (columns_from c.from) ≡ true) member.columns (λ c i. (and_parts (are_among source.reg.after (columns_from c.from)) (from_fits source.def.columns c.from) (passes_at reads member.columns c (and_parts (nat_lt 0 (length member.columns)) (list_all reads member.columns) tested.0).1 i)).0);
  moves = λ whole. among_first (source.def.fixed ++ source.reg.before) source.def.key (filter_columns member) (by_kind whole);
}
  where
    after : ((places_rise source.reg.after && are_among (all_places source.def) source.reg.after) ≡ true) × (are_among source.reg.after source.def.key ≡ true)
    after = and_parts (places_rise source.reg.after && are_among (all_places source.def) source.reg.after) (are_among source.reg.after source.def.key) registration.after

    reads : TargetColumn → Bool
    reads c = are_among source.reg.after (columns_from c.from) && from_fits source.def.columns c.from

    tested : ((nat_lt 0 (length member.columns) && list_all reads member.columns) ≡ true) × (are_among source.reg.after (filter_columns member) ≡ true)
    tested = and_parts (nat_lt 0 (length member.columns) && list_all reads member.columns) (are_among source.reg.after (filter_columns member))
        (and_parts (nat_lt 0 (length member.columns) && list_all reads member.columns && are_among source.reg.after (filter_columns member)) (option_map_or (kinds_fit source.def.columns) member.filter true) rules.columns).0

    shown : Bool
    shown = are_among (source.def.fixed ++ source.reg.before) (source.def.key ++ filter_columns member)

    by_kind : source.reg.del_ins ≡ false → shown ≡ true
    by_kind whole = sym (ap (λ (b : Bool). not b || source.reg.del_ins || shown) copies ∙ ap (λ (b : Bool). b || shown) whole) ∙ rules.copies

-- ---- the log

-- so the units of a sound log are sound
units_are_sound : (server : Server) (def : TableDef) → LogIsSound server → In def (tables_of server) → table_named def.name (tables_of server) ≡ Some def → UnitsAreSound def server.log
units_are_sound server def sound i found = record {
  fit = units_fit server def sound found;
  apply = at_one (λ d. IsTrue (all_apply d (changes_of (units server.log)) empty)) (tables_of server) def sound.apply i;
}

-- ---- a member of a known set

-- What is known of a member that copies.
pub record CopyIsSound (source : SourceTable) (member : Member) : Type 0 where
  pub keeps : KeepsCopies source member
  pub log : UnitsAreSound source.def source.log

-- a member of a read-only set that copies is sound
pub copy_is_sound : (world : World) (k : KnownSet) (place : ℕ) (member : Member) (source : SourceTable) → IsSound world → In k (read_only_sets (known_sets world))
    → slice_get k.at_target.def.members place ≡ Some member → source_named member.source k.source ≡ Some source → is_copy member.kind ≡ true → CopyIsSound source member
copy_is_sound world k place member source sound i at named copies = record {
  keeps = keeps_copies source member registration rules copies;
  log = subst (λ (s : SourceTable). UnitsAreSound s.def s.log) (sym of.is) (units_are_sound k.source of.table.def (at_one LogIsSound world k.source sound.logs here) among (at_one (λ d. table_named d.name (tables_of k.source) ≡ Some d) (tables_of k.source) of.table.def (tables_are_found world k.source server) among));
}
  where
    known : In k (known_sets world)
    known = (in_filter (λ s. not (is_replica_set s.at_target.def)) (known_sets world) k i).0

    here : In k.source world
    here = source_in world k (known_stands world k known)

    server : ServerKeepsRules world k.source
    server = at_one (ServerKeepsRules world) world k.source sound.definitions.servers here

    of : IsSourceOf k.source source
    of = source_is_of member.source k.source source named

    among : In of.table.def (tables_of k.source)
    among = image_in (λ t. t.def) k.source.tables of.table of.among

    registration : RegistrationKeepsRules source.def source.reg
    registration = subst (λ (s : SourceTable). RegistrationKeepsRules s.def s.reg) (sym of.is)
        (subst (λ (o : Option Registered). IfSome o (λ r. RegistrationKeepsRules of.table.def r.reg)) of.has (at_one KeepsTable k.source.tables of.table server.tables of.among).2)

    stands : In member k.at_target.def.members
    stands = at_place_in k.at_target.def.members place member at

    rules : MemberKeepsRules source member
    rules = elim (at_one KnownSetKeepsRules (known_sets world) k sound.definitions.sets known).members [
      | inl all ↦ let own = at_one (MemberIsSound k) k.at_target.def.members member all.0 stands in
          subst (λ (s : SourceTable). MemberKeepsRules s member) (same_Some own.2.0 source (sym own.2.1 ∙ named)) own.2.2
      | inr all ↦ absurd (copies_no_replica member.kind copies (at_one (ReplicaMemberIsSound k) k.at_target.def.members member all.0 stands).0)
    ]

-- a stored copy of a member takes the changes of its source, with the times of keys
pub timed_copies_take_changes : TimedCopyTakesChanges
timed_copies_take_changes world k place member source low high stored_as times time sound i at named copies h =
    let is = copy_is_sound world k place member source sound i at named copies in
    copy_taken stored_as source member is.keeps times is.log low high h time

-- so does a user copy, in which no times are stored
pub copies_take_changes : CopyTakesChanges
copies_take_changes world k place member source low high sound i at named copies h =
    let changes = changes_between source.log source.reg low high in
    ap (with_changes source member changes) (user_copy_is source member low (λ q. 0))
    ∙ timed_copies_take_changes world k place member source low high as_copy (λ seq. 0) (λ q. 0) sound i at named copies h
    ∙ sym (user_copy_is source member high (times_after source (λ seq. 0) changes (λ q. 0)))

-- the stored table of a point-in-time copy is a stored copy of the rows of its source
point_table_is : (source : SourceTable) (member : Member) (base point : ℕ) → CopyIsSound source member → point_table source member base point ≡ timed_copy as_point (spelled_time source base point) member (entries (source_at source.def source.log point))
point_table_is source member base point is = point_copy_is source member is.keeps is.log.fit base point (rows_stand as_point source member is.keeps (λ seq. 0) is.log point)

-- so it takes the changes of its source too, each at the time of its unit
pub point_copies_take_changes : PointCopyTakesChanges
point_copies_take_changes world k place member source base low high times sound i at named copies l h have =
    let is = copy_is_sound world k place member source sound i at named copies in
    ap (timed_changes as_point source member times (changes_between source.log source.reg low high)) (point_table_is source member base low is)
    ∙ timed_copies_take_changes world k place member source low high as_point times (spelled_time source base low) sound i at named copies h
    ∙ ap (λ (time : List ℕ → ℕ). timed_copy as_point time member (entries (source_at source.def source.log high))) (markers_onward source times base low high l h have)
    ∙ sym (point_table_is source member base high is)
