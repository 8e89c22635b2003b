-- A known set whose servers a commit changes stays sound.
use Rattle.std.proofs.Common.{◌≡◌, ◌<◌, ℕ, ◌≤◌, Bool, true, not, ◌&&◌, ◌⊎◌, inl, inr, List, [], ◌∷◌, ◌++◌, length, Option, sym, ap, subst, ◌∙◌, arith, IsTrue, IfSome, nat_lt, nat_le, filter, option_map}
use Rattle.std.specs.List.{AllByRecursion, AllZip, list_all, list_any}
use Rattle.std.proofs.lemmas.Bool.{both_ways, not-true, or_left, and_parts, and_from, lt-ltb, ltb-true}
use Rattle.repl_model.specs.Words.{all_weaker, LogRecord, TableDef, Unit, Member, units, source_at, SourceTable, SourceSide, TargetSide, Server, KnownSet, source_named, comes_from, part_of, meets, is_replica, is_replica_set, MemberKeepsRules, KeepsAllImages, ReplicaKeepsRules, MemberIsSound, ReplicaMemberIsSound, KnownSetKeepsRules, master_point, settled_point, ReplicaMarksAreSound, accepted_after, sent_after, IsExactlyOnce, rejected_before, others_before, IsIndependent, DecisionsAreCaptured, SignalsAreSound, TrailIsSound, In, at_one, at_each, in_filter, kept_by}
use Rattle.world_commits.specs.captures.Captures.{with_registration}
use Rattle.world_commits.specs.laws.Changed.{States, Rows, ServerChange, in_states, source_row, target_row, with_log, tables_stay, table_changed, source_changed, source_stays, changed, changed_set}

-- ---- members

-- a member keeps the rules over its source with another log
member_keeps : (log : List LogRecord) (source : SourceTable) (member : Member) → MemberKeepsRules source member → MemberKeepsRules (with_log log source) member
member_keeps log source member h = record { names = h.names; differ = h.differ; columns = h.columns; keys = h.keys; copies = h.copies; condensed = h.condensed; sums = h.sums }

-- a source with another log keeps all images
images_stay : (log : List LogRecord) (source : SourceTable) → KeepsAllImages source → KeepsAllImages (with_log log source)
images_stay log source h = record { after = h.after; before = h.before; del_ins = h.del_ins; changes_only = h.changes_only }

-- a replica keeps the rules over both its tables with other logs
replica_keeps : (ms mt : List LogRecord) (master replica : SourceTable) (member : Member) → ReplicaKeepsRules master replica member → ReplicaKeepsRules (with_log ms master) (with_log mt replica) member
replica_keeps ms mt master replica member h = record {
  name = h.name;
  columns = h.columns;
  filter = h.filter;
  same_columns = h.same_columns;
  same_key = h.same_key;
  same_fixed = h.same_fixed;
  master_images = images_stay ms master h.master_images;
  replica_images = images_stay mt replica h.replica_images;
}

-- the members of a read-only set, which has one, aren't those of a replica set
no_replicas : (k : KnownSet) (members : List Member) → 0 < length members → not (list_any (λ member. is_replica member.kind) members) ≡ true → AllByRecursion (ReplicaMemberIsSound k) members → ⊥
no_replicas k [] some none all = omega (arith, some)
no_replicas k (member ∷ members) some none all = both_ways (list_any (λ member. is_replica member.kind) (member ∷ members)) (not-true (list_any (λ member. is_replica member.kind) (member ∷ members)) none) (or_left (is_replica member.kind) (list_any (λ member. is_replica member.kind) members) all.0.0)

-- ---- how a set stays sound

module _ (f : Server → ServerChange) (k : KnownSet) where
  -- The rows of a known set stay, whatever becomes of the other rows at its servers.
  pub record RowsStay : Type 0 where
    pub source : source_row (f k.source).rows k.at_source ≡ k.at_source
    pub target : target_row (f k.target).rows k.at_target ≡ k.at_target

  -- A known set is read-only, and its signals and its trail are sound with what its rows become.
  pub record RowsAreSound : Type 0 where
    pub read_only : IsTrue (not (is_replica_set k.at_target.def))
    pub signals : SignalsAreSound (changed_set f k)
    pub trail : TrailIsSound (changed_set f k)

  -- the rows of a known set stay, or are sound with what they become
  abbrev pub SetStays : Type 0
  SetStays = RowsStay ⊎ RowsAreSound

  -- the rows of a replica set stay
  pub replica_stays : is_replica_set k.at_target.def ≡ true → SetStays → RowsStay
  replica_stays e (inl stay) = stay
  replica_stays e (inr sound) = absurd (both_ways (is_replica_set k.at_target.def) (not-true (is_replica_set k.at_target.def) sound.read_only) e)

  -- a known set with the rows that it had, whose servers have their changes
  abbrev with_servers : KnownSet
  with_servers = record k { source = changed f k.source; target = changed f k.target }

  -- what holds of it holds of what the set becomes, if its rows stay
  holds_after : (P : KnownSet → Type 0) → RowsStay → P with_servers → P (changed_set f k)
  holds_after P stay h =
      subst (λ (side : TargetSide). P (record { source = changed f k.source; at_source = source_row (f k.source).rows k.at_source; target = changed f k.target; at_target = side })) (sym stay.target)
      (subst (λ (side : SourceSide). P (record { source = changed f k.source; at_source = side; target = changed f k.target; at_target = k.at_target })) (sym stay.source) h)

  -- a member of a read-only set stays sound
  read_only_member : (member : Member) → MemberIsSound k member → MemberIsSound with_servers member
  read_only_member member m = (
    m.0,
    table_changed (f k.target) k.target member.target ∙ ap (option_map (with_registration (in_states (f k.target).states))) m.1,
    (
      with_log (f k.source).log m.2.0,
      source_changed (f k.source) k.source member.source ∙ ap (option_map (with_log (f k.source).log)) m.2.1,
      member_keeps (f k.source).log m.2.0 member m.2.2,
    ),
  )

  -- so does one of a replica set
  replica_member : (member : Member) → ReplicaMemberIsSound k member → ReplicaMemberIsSound with_servers member
  replica_member member m = (
    m.0,
    (
      with_log (f k.source).log m.1.0,
      with_log (f k.target).log m.1.1,
      source_changed (f k.source) k.source member.source ∙ ap (option_map (with_log (f k.source).log)) m.1.2,
      source_changed (f k.target) k.target member.target ∙ ap (option_map (with_log (f k.target).log)) m.1.3,
      replica_keeps (f k.source).log (f k.target).log m.1.0 m.1.1 member m.1.4,
    ),
  )

  -- a set that has a member keeps the rules
  pub set_keeps_rules : 0 < length k.at_target.def.members → SetStays → KnownSetKeepsRules k → KnownSetKeepsRules (changed_set f k)
  set_keeps_rules some (inl stay) h = holds_after KnownSetKeepsRules stay (record {
    same = h.same;
    apart = h.apart;
    members = elim h.members [
      | inl m ↦ inl (all_weaker (MemberIsSound k) (MemberIsSound with_servers) k.at_target.def.members read_only_member m.0, m.1, m.2, m.3, m.4)
      | inr m ↦ inr (all_weaker (ReplicaMemberIsSound k) (ReplicaMemberIsSound with_servers) k.at_target.def.members replica_member m.0, m.1, m.2, m.3, m.4)
    ];
  })
  set_keeps_rules some (inr sound) h = record {
    same = h.same;
    apart = h.apart;
    members = elim h.members [
      | inl m ↦ inl (all_weaker (MemberIsSound k) (MemberIsSound (changed_set f k)) k.at_target.def.members read_only_member m.0, m.1, m.2, m.3, m.4)
      | inr m ↦ absurd (no_replicas k k.at_target.def.members some sound.read_only m.0)
    ];
  }

-- ---- sets whose servers keep their logs

-- changes of servers that keep their logs
abbrev pub with_own_logs : (Server → States) → (Server → Rows) → Server → ServerChange
with_own_logs states rows server = record { log = server.log; states = states server; rows = rows server }

module _ (states : Server → States) (rows : Server → Rows) (k : KnownSet) where
  -- the changes of each server
  abbrev f : Server → ServerChange
  f = with_own_logs states rows

  -- the signals stay sound
  pub signals_stay : SetStays f k → SignalsAreSound k → SignalsAreSound (changed_set f k)
  signals_stay (inl stay) h = holds_after f k SignalsAreSound stay h
  signals_stay (inr sound) h = sound.signals

  -- the trail stays sound
  pub trail_stays : SetStays f k → TrailIsSound k → TrailIsSound (changed_set f k)
  trail_stays (inl stay) h = holds_after f k TrailIsSound stay (record { goes = h.goes; mark = h.mark })
  trail_stays (inr sound) h = sound.trail

  -- the replica marks stay sound, if the target has captured no less than before
  pub marks_stay : RowsStay f k → k.target.captured ≤ (states k.target).captured → ReplicaMarksAreSound k → ReplicaMarksAreSound (changed_set f k)
  marks_stay stay more h = holds_after f k ReplicaMarksAreSound stay (record {
    rows = all_weaker (λ (member : Member). IfSome (source_named member.source k.source) same_rows) (λ member. IfSome (source_named member.source (changed f k.source)) same_rows) k.at_target.def.members
        (λ member. subst (λ (o : Option SourceTable). IfSome o same_rows) (sym (source_stays (states k.source) (rows k.source) member.source k.source))) h.rows;
    mark = h.mark;
    master = h.master;
    replica = (h.replica.0, omega (arith, h.replica.1, more));
    codes = h.codes;
    settled = h.settled;
    trail = h.trail;
  })
    where
      same_rows : SourceTable → Type 0
      same_rows s = source_at s.def k.target.log (settled_point k) ≡ source_at s.def k.source.log (master_point k)

  -- the units of the set stay sent exactly once
  pub exactly_once_stays : RowsStay f k → IsExactlyOnce k → IsExactlyOnce (changed_set f k)
  exactly_once_stays stay h = holds_after f k IsExactlyOnce stay (record { sent = h.sent; unsettled = h.unsettled; decided = h.decided })

  -- the units that the set keeps apart stay apart
  pub independence_stays : RowsStay f k → IsIndependent k → IsIndependent (changed_set f k)
  independence_stays stay h =
      let apart = λ (tables : List TableDef) (r x : Unit). IsTrue (list_all (λ u. not (meets tables (part_of k.at_target.def r) (part_of k.at_target.def u))) (rejected_before k r ++ others_before k x)) in
      holds_after f k IsIndependent stay
      (subst (λ (tables : List TableDef). AllZip (apart tables) (accepted_after k (settled_point k)) (sent_after k (master_point k))) (sym (tables_stay (f k.source) k.source)) h)

  -- the decided units that aren't captured stay those of the set, if its source has captured no less than before
  pub decisions_stay : RowsStay f k → k.source.captured ≤ (states k.source).captured → DecisionsAreCaptured k → DecisionsAreCaptured (changed_set f k)
  decisions_stay stay more h = holds_after f k DecisionsAreCaptured stay (at_each (λ (u : Unit). IsTrue (comes_from k.at_target.def.id u)) (filter (is_open (states k.source).captured) (units k.source.log)) by_unit)
    where
      is_open : ℕ → Unit → Bool
      is_open captured u = nat_lt captured u.head.seq && nat_le u.head.seq k.at_source.d

      open_before : (u : Unit) → is_open (states k.source).captured u ≡ true → is_open k.source.captured u ≡ true
      open_before u e =
          let both = and_parts (nat_lt (states k.source).captured u.head.seq) (nat_le u.head.seq k.at_source.d) e in
          let past = ltb-true (states k.source).captured u.head.seq both.0 in
          and_from (nat_lt k.source.captured u.head.seq) (nat_le u.head.seq k.at_source.d) (lt-ltb k.source.captured u.head.seq (omega (arith, past, more))) both.1

      by_unit : (u : Unit) → In u (filter (is_open (states k.source).captured) (units k.source.log)) → IsTrue (comes_from k.at_target.def.id u)
      by_unit u i =
          let kept = in_filter (is_open (states k.source).captured) (units k.source.log) u i in
          at_one (λ (v : Unit). IsTrue (comes_from k.at_target.def.id v)) (filter (is_open k.source.captured) (units k.source.log)) u h (kept_by (is_open k.source.captured) (units k.source.log) u kept.0 (open_before u kept.1))
