-- The entries of trails of sets of a sound world have spellings: what they count can be counted.
use Rattle.std.proofs.Common.{◌≡◌, ℕ, ◌+◌, ◌*◌, ◌≤◌, Bool, true, false, cond, List, [], ◌∷◌, length, map, filter, fold, refl, subst, arith, length-append, Option, Some, None, flat_map, sum_by, bytes_eq, Ordering, Less, Equal, Greater, suc-mul}
use Rattle.std.specs.FinMap.Entries.{put, by_order}
use Rattle.std.specs.Option.{option_map, option_map_or, option_and_then}
use Rattle.std.proofs.lemmas.List.{length-map}
use Rattle.std.proofs.lemmas.List.Sums.{count_by-le-length, sum_by-cons}
use Rattle.std.proofs.lemmas.Nat.{mul-le}
use Rattle.std.proofs.lemmas.Option.{none-some, same_Some}
use Rattle.world_store.specs.Words.{Is64, IsEntry, source_of, rows_refreshed, set_rows_refreshed, member_changes, set_changes, count_op, is_insert, is_update, is_delete, trail_entry, selected_few, between_few}
use Rattle.repl_model.specs.Words.{Values, key_cmp, CdRow, Op, Member, TargetKind, SetDef, SummaryRow, base_aggregate, summary_rows, changes_between, SourceTable, selected_rows, target_row, IsSound, SetKeepsLimits, UnknownTarget, ServerKeepsRules, member_limit, log_limit, LogIsSound, table_after, time_at, by_key, group_value, groups_of, same_values, Entry, refresh, block, load, settle, Registered, ServerTable, TargetSide, Server, World, server_named, server_table, as_source, source_named, In, at_one, found_in}
use Rattle.repl_definitions.specs.declared.member.TargetKind.TheVariants.{UserCopy, PointInTime, BaseAggregate, ChangeAggregate, Ccd, Replica}
use Rattle.set_places.specs.laws.Points.{HasShortNumbers, target_entries_short}

-- ---- groups

-- a put adds one at most
put_longer : {K X : Type 0} (cmp : K → K → Ordering) (k : K) (x : X) (rows : List (K × X)) → length (put cmp k x rows) ≤ length rows + 1
put_longer cmp k x [] = omega arith
put_longer {K} {X} cmp k x (r ∷ rs) = pick (cmp k r.0) (put_longer cmp k x rs)
  where
    pick : (o : Ordering) → length (put cmp k x rs) ≤ length rs + 1 → length (by_order o ((k, x) ∷ r ∷ rs) ((r.0, x) ∷ rs) (r ∷ put cmp k x rs)) ≤ length (r ∷ rs) + 1
    pick Less le = omega arith
    pick Equal le = omega arith
    pick Greater le = omega (arith, le)

-- puts add no more than they are
puts_longer : {K X : Type 0} (cmp : K → K → Ordering) (es rows : List (K × X)) → length (fold (λ sorted e. put cmp e.0 e.1 sorted) rows es) ≤ length rows + length es
puts_longer cmp [] rows = omega arith
puts_longer cmp (e ∷ es) rows = omega (arith, puts_longer cmp es (put cmp e.0 e.1 rows), put_longer cmp e.0 e.1 rows)

-- entries by their keys are no more
by_key_few : {K X : Type 0} (cmp : K → K → Ordering) (es : List (K × X)) → length (by_key cmp es) ≤ length es
unfolding by_key
by_key_few cmp es = omega (arith, puts_longer cmp es [])

-- rows have no more groups than they are
groups_few : (member : Member) (rows : List Values) → length (groups_of member rows) ≤ length rows
unfolding groups_of
groups_few member rows =
    let entry : Values → Values × Values = λ row. (target_row member row, row) in
    let group : Values × Values → Values = λ g. map (λ column. group_value g.1 (filter (λ row. same_values (target_row member row) g.0) rows) column.from) member.columns in
    omega (arith, length-map (by_key key_cmp (map entry rows)) group, by_key_few key_cmp (map entry rows), length-map rows entry)

-- the groups of what a member selects at one point are no more than the log has records
base_few : (source : SourceTable) (member : Member) (p : ℕ) (q : Option ℕ) → length (base_aggregate source member (refresh p q ∷ [])) ≤ length source.log
unfolding base_aggregate
base_few source member p None = omega arith
base_few source member p (Some q) =
    let rows = map (λ (r : Values × Values). r.1) (selected_rows source member q) in
    let summary : Values → SummaryRow = λ group. record { low = time_at source.log q; high = time_at source.log q; row = group } in
    omega (arith, length-append (summary_rows source member q q rows) [], length-map (groups_of member rows) summary, groups_few member rows, length-map (selected_rows source member q) (λ (r : Values × Values). r.1), selected_few source member q)

-- ---- members

-- a refresh puts no more rows in a member's target than the log has records
refreshed_few : (source : SourceTable) (member : Member) (p : ℕ) (q : Option ℕ) → rows_refreshed source p q member ≤ length source.log
refreshed_few source member p q = by_kind member.kind
  where
    either : (b : Bool) → cond b (length (selected_rows source member p)) 0 ≤ length source.log
    either true = selected_few source member p
    either false = omega arith

    by_kind : (kind : TargetKind) → rows_refreshed source p q (record member { kind = kind }) ≤ length source.log
    by_kind UserCopy = selected_few source member p
    by_kind PointInTime = selected_few source member p
    by_kind BaseAggregate = base_few source (record member { kind = BaseAggregate }) p q
    by_kind ChangeAggregate = omega arith
    by_kind (Ccd complete condensed) = either complete
    by_kind Replica = omega arith

-- sums over members
sum_few : {X : Type 0} (f : X → ℕ) (m : ℕ) (xs : List X) → ((x : X) → f x ≤ m) → sum_by f xs ≤ length xs * m
sum_few f m [] each = omega arith
sum_few f m (x ∷ xs) each = omega (arith, sum_by-cons f x xs, sum_few f m xs each, each x, suc-mul (length xs) m)

-- and lists of them
listed_few : {X Y : Type 0} (f : X → List Y) (m : ℕ) (xs : List X) → ((x : X) → length (f x) ≤ m) → length (flat_map f xs) ≤ length xs * m
listed_few f m [] each = omega arith
listed_few f m (x ∷ xs) each = omega (arith, length-append (f x) (flat_map f xs), listed_few f m xs each, each x, suc-mul (length xs) m)

module _ (w : World) (sound : IsSound w) where
  -- the log of what a member copies from is short
  source_short : (def : SetDef) (member : Member) (source : SourceTable) → source_of w def member ≡ Some source → length source.log ≤ log_limit
  source_short def member source is = by_server (server_named def.source w) refl is
    where
      by_registered : (server : Server) (t : ServerTable) → length server.log ≤ log_limit → (o : Option Registered) → option_map (λ r. record { def = table_after server.log t.def; reg = r.reg; log = server.log }) o ≡ Some source → length source.log ≤ log_limit
      by_registered server t short None e = absurd (none-some source e)
      by_registered server t short (Some r) e = subst (λ (s : SourceTable). length s.log ≤ log_limit) (same_Some _ source e) short

      by_table : (server : Server) → length server.log ≤ log_limit → (o : Option ServerTable) → option_and_then (as_source server) o ≡ Some source → length source.log ≤ log_limit
      by_table server short None e = absurd (none-some source e)
      by_table server short (Some t) e = by_registered server t short t.registered e

      by_server : (o : Option Server) → server_named def.source w ≡ o → option_and_then (source_named member.source) o ≡ Some source → length source.log ≤ log_limit
      by_server None found e = absurd (none-some source e)
      by_server (Some server) found e = by_table server (at_one LogIsSound w server sound.logs (found_in (λ (s : Server). bytes_eq def.source s.name) w server found).0).short (server_table member.source server) e

  -- so what is made of it is bounded
  from_source : (def : SetDef) (member : Member) (f : SourceTable → ℕ) (m : ℕ) → ((source : SourceTable) → length source.log ≤ log_limit → f source ≤ m) → option_map_or f (source_of w def member) 0 ≤ m
  from_source def member f m few = by_source (source_of w def member) refl
    where
      by_source : (o : Option SourceTable) → source_of w def member ≡ o → option_map_or f o 0 ≤ m
      by_source None is = omega arith
      by_source (Some source) is = few source (source_short def member source is)

  -- a member has no more change rows than twice the most records
  member_few : (def : SetDef) (low high : ℕ) (member : Member) → length (member_changes w def low high member) ≤ 2 * log_limit
  member_few def low high member = by_kind member.kind
    where
      from : (o : Option SourceTable) → source_of w def member ≡ o → length (option_map_or (λ source. changes_between source.log source.reg low high) o []) ≤ 2 * log_limit
      from None is = omega arith
      from (Some source) is = omega (arith, between_few source.log source.reg low high, source_short def member source is)

      by_kind : (kind : TargetKind) → length (member_changes w def low high (record member { kind = kind })) ≤ 2 * log_limit
      by_kind BaseAggregate = omega arith
      by_kind UserCopy = from (source_of w def member) refl
      by_kind PointInTime = from (source_of w def member) refl
      by_kind ChangeAggregate = from (source_of w def member) refl
      by_kind (Ccd complete condensed) = from (source_of w def member) refl
      by_kind Replica = from (source_of w def member) refl

  module _ (def : SetDef) (few : length def.members ≤ member_limit) where
    -- the rows that a refresh puts can be counted
    refreshed_counted : (p : ℕ) (q : Option ℕ) → Is64 (set_rows_refreshed w def p q)
    refreshed_counted p q =
        let sum = sum_few (λ (member : Member). option_map_or (λ source. rows_refreshed source p q member) (source_of w def member) 0) log_limit def.members (λ member. from_source def member (λ source. rows_refreshed source p q member) log_limit (λ source short. omega (arith, refreshed_few source member p q, short))) in
        let most = mul-le (length def.members) log_limit member_limit log_limit few (omega arith) in
        omega (arith, sum, most)

    -- so can change rows of one kind
    changes_counted : (is_op : Op → Bool) (low high : ℕ) → Is64 (count_op is_op (set_changes w def low high))
    changes_counted is_op low high =
        let sum = listed_few (member_changes w def low high) (2 * log_limit) def.members (member_few def low high) in
        let most = mul-le (length def.members) (2 * log_limit) member_limit (2 * log_limit) few (omega arith) in
        omega (arith, count_by-le-length (λ (change : CdRow). is_op change.op) (set_changes w def low high), sum, most)

    -- so an entry whose points are short has a spelling
    counted_fits : (e : Entry) → HasShortNumbers e → IsEntry (trail_entry w def e)
    counted_fits (refresh p q) short = (short.0, refreshed_counted p q, short.1)
    counted_fits (block low high q) short = (short.0, short.1, changes_counted is_insert low high, changes_counted is_update low high, changes_counted is_delete low high, short.2)
    counted_fits (load m f rows) short = short
    counted_fits (settle m f rejected applied) short = short

module _ (w : World) (server : Server) (sound : IsSound w) (i : In server w) where
  -- an entry of a set's trail has a spelling
  pub entry_fits : (side : TargetSide) → In side server.target_sets → (e : Entry) → In e side.trail → IsEntry (trail_entry w side.def e)
  entry_fits side at e among =
      let keeps = at_one (ServerKeepsRules w) w server sound.definitions.servers i in
      let limits = (at_one (λ (s : TargetSide). (s.def.target ≡ server.name) × SetKeepsLimits w s.def × UnknownTarget w server s) server.target_sets side keeps.targets at).1 in
      counted_fits w sound side.def limits.members.1 e (at_one HasShortNumbers side.trail e (target_entries_short w server sound i side at) among)
