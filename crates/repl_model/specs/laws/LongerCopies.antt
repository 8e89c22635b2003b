-- Logs made longer by further records: what targets are made of stays, and comes interval by interval.
use Rattle.std.proofs.Common.{◌≡◌, ℕ, ◌≤◌, Bool, true, false, cond, ◌&&◌, List, [], ◌∷◌, ◌++◌, length, map, Option, Some, None, refl, ap, ◌∙◌, arith, nat_lt, nat_le, filter, IfSome, option_to_list, bytes_eq}
use Rattle.std.specs.List.{AllByRecursion, fold}
use Rattle.std.specs.FinMap.{entries}
use Rattle.std.proofs.lemmas.Bool.{and_parts, leb-true}
use Rattle.std.proofs.lemmas.List.{map-append}
use Rattle.std.proofs.lemmas.List.Elements.{filter-append}
use Rattle.std.proofs.Math.Path.{fun_ext}
use Rattle.repl_types.specs.Value.{Values}
use Rattle.repl_types.specs.laws.Lists.{all_weaker, all_filter}
use Rattle.repl_types.specs.declared.record.LogRecord.{LogRecord}
use Rattle.repl_types.specs.declared.record.Change.{Change}
use Rattle.repl_types.specs.declared.record.Change.TheVariants.{Insert, Update, Delete, Start, Stop}
use Rattle.repl_types.specs.declared.unit.Placed.{Placed}
use Rattle.repl_types.specs.declared.unit.Unit.{Unit}
use Rattle.repl_types.specs.declared.change_row.Registration.{Registration}
use Rattle.repl_types.specs.declared.change_row.CdRow.{CdRow}
use Rattle.repl_types.specs.declared.change_row.Op.TheVariants.{I}
use Rattle.repl_definitions.specs.declared.member.Member.{Member}
use Rattle.repl_model.specs.Tables.{Rows, key_of, table_of}
use Rattle.repl_model.specs.Units.{units}
use Rattle.repl_model.specs.SourceAt.{units_between, time_at}
use Rattle.repl_model.specs.ChangeRows.{shows_nothing, insert_row, update_row, delete_row, rows_of, rows_of_placed, change_rows, changes_between}
use Rattle.repl_model.specs.Selection.{SourceTable, is_selected, imaged_row, selected_rows, selected_changes, target_row}
use Rattle.repl_model.specs.MemberCopies.{MarkedRow, user_copy, changes_key, change_time, point_in_time_copy}
use Rattle.repl_model.specs.Summaries.{groups_of}
use Rattle.repl_model.specs.History.{HistoryEntry, change_entry, interval_entries, refresh_entries, history}
use Rattle.repl_model.specs.Aggregates.{SummaryRow, summary_rows, change_aggregate, base_aggregate}
use Rattle.repl_model.specs.Trails.{Entry, refresh, block, load, settle, Trail, point_after, synchpoint, base_after, base_of, interval_of, intervals, base_read, base_points}
use Rattle.repl_model.specs.Longer.{lengthened, points_of, EndsWithin}
use Rattle.repl_model.specs.laws.Lists.{each_filter_map}
use Rattle.repl_model.specs.laws.LongerLists.{map_alike, flat_map_alike, all_flat_map, all_of, all_kept}
use Rattle.repl_model.specs.laws.Units.{changes_join}
use Rattle.repl_model.specs.laws.Longer.{source_stays_longer, time_stays_longer, units_between_stay_longer, changes_stay_longer}

-- ---- the seqs of change rows

-- the change rows of a change have its unit's seq
seqs_of_change : (reg : Registration) (seq pos : ℕ) (change : Change) → AllByRecursion (λ c. c.commitseq ≡ seq) (rows_of reg seq pos change)
seqs_of_change reg seq pos (Insert table row) = (refl, tt)
seqs_of_change reg seq pos (Update table before after) = by_tests (shows_nothing reg before after) reg.del_ins
  where
    by_tests : (a b : Bool) → AllByRecursion (λ (c : CdRow). c.commitseq ≡ seq) (cond a [] (cond b (delete_row reg seq pos before ∷ insert_row reg seq pos 1 after ∷ []) (update_row reg seq pos before after ∷ [])))
    by_tests true b = tt
    by_tests false true = (refl, (refl, tt))
    by_tests false false = (refl, tt)
seqs_of_change reg seq pos (Delete table row) = (refl, tt)
seqs_of_change reg seq pos (Start table) = tt
seqs_of_change reg seq pos (Stop table) = tt

-- the change rows of a change of any table have its unit's seq
seqs_of_placed : (reg : Registration) (seq : ℕ) (placed : Placed) → AllByRecursion (λ c. c.commitseq ≡ seq) (rows_of_placed reg seq placed)
seqs_of_placed reg seq placed = by_table (bytes_eq (table_of placed.change) reg.table)
  where
    by_table : (b : Bool) → AllByRecursion (λ (c : CdRow). c.commitseq ≡ seq) (cond b (rows_of reg seq placed.pos placed.change) [])
    by_table true = seqs_of_change reg seq placed.pos placed.change
    by_table false = tt

-- the change rows of a unit have its seq
seqs_of_unit : (reg : Registration) (u : Unit) → AllByRecursion (λ c. c.commitseq ≡ u.head.seq) (change_rows reg u)
unfolding change_rows
seqs_of_unit reg u = all_flat_map (λ (c : CdRow). c.commitseq ≡ u.head.seq) (rows_of_placed reg u.head.seq) u.changes (all_of _ u.changes (seqs_of_placed reg u.head.seq))

-- the seqs of the change rows up to a point are at most the point
seqs_between : (log : List LogRecord) (reg : Registration) (low high : ℕ) → AllByRecursion (λ c. c.commitseq ≤ high) (changes_between log reg low high)
unfolding changes_between
seqs_between log reg low high = all_flat_map (λ (c : CdRow). c.commitseq ≤ high) (change_rows reg) (units_between low high log)
    (all_weaker {X = Unit} (λ u. (nat_lt low u.head.seq && nat_le u.head.seq high) ≡ true) (λ u. AllByRecursion (λ (c : CdRow). c.commitseq ≤ high) (change_rows reg u)) (units_between low high log)
    (λ u kept. let up : u.head.seq ≤ high = leb-true u.head.seq high (and_parts (nat_lt low u.head.seq) (nat_le u.head.seq high) kept).1 in
    all_weaker {X = CdRow} (λ c. c.commitseq ≡ u.head.seq) (λ c. c.commitseq ≤ high) (change_rows reg u) (λ c e. omega (arith, up, e)) (seqs_of_unit reg u))
    (all_kept (λ (u : Unit). nat_lt low u.head.seq && nat_le u.head.seq high) (units log)))

-- ---- what stays

-- further records leave the selected rows at a point of the log
pub selected_rows_stay : (more : List LogRecord) (source : SourceTable) (member : Member) (point : ℕ) → point ≤ length source.log → selected_rows (lengthened more source) member point ≡ selected_rows source member point
selected_rows_stay more source member point h = ap (λ (rows : Rows). filter (λ r. is_selected member r.1) (entries rows)) (source_stays_longer source.def source.log more point h)

-- further records leave the selected changes up to a point of the log
pub selected_changes_stay : (more : List LogRecord) (source : SourceTable) (member : Member) (low high : ℕ) → high ≤ length source.log → selected_changes (lengthened more source) member low high ≡ selected_changes source member low high
selected_changes_stay more source member low high h = ap (filter (λ change. is_selected member (imaged_row source change))) (changes_stay_longer source.log more source.reg low high h)

-- further records leave a user copy at a point of the log
pub user_copy_stays : (more : List LogRecord) (source : SourceTable) (member : Member) (point : ℕ) → point ≤ length source.log → user_copy (lengthened more source) member point ≡ user_copy source member point
unfolding user_copy
user_copy_stays more source member point h = ap (map _) (selected_rows_stay more source member point h)

-- further records leave the time of a key's last change up to a point of the log
change_time_stays : (more : List LogRecord) (source : SourceTable) (low high : ℕ) → low ≤ high → high ≤ length source.log → (key : Values) → change_time (lengthened more source) low high key ≡ change_time source low high key
change_time_stays more source low high order h key =
    ap (λ (us : List Unit). fold (λ time u. u.head.time) (time_at (source.log ++ more) low) (filter (changes_key source key) us)) (units_between_stay_longer source.log more low high h)
    ∙ ap (λ (time : ℕ). fold (λ time u. u.head.time) time (filter (changes_key source key) (units_between low high source.log))) (time_stays_longer source.log more low (omega arith))

-- further records leave a point-in-time copy at a point of the log
pub point_in_time_copy_stays : (more : List LogRecord) (source : SourceTable) (member : Member) (base point : ℕ) → base ≤ point → point ≤ length source.log → point_in_time_copy (lengthened more source) member base point ≡ point_in_time_copy source member base point
unfolding point_in_time_copy
point_in_time_copy_stays more source member base point order h =
    ap (map (marked (change_time (lengthened more source) base point))) (user_copy_stays more source member point h)
    ∙ ap (λ (time : Values → ℕ). map (marked time) (user_copy source member point)) (fun_ext (change_time_stays more source base point order h))
  where
    marked : (Values → ℕ) → Values × Values → Values × MarkedRow
    marked time r = (r.0, record { marker = time r.0; row = r.1 })

-- further records leave the entries of the changes up to a point of the log
pub interval_entries_stay : (more : List LogRecord) (source : SourceTable) (member : Member) (low high : ℕ) → high ≤ length source.log → interval_entries (lengthened more source) member low high ≡ interval_entries source member low high
interval_entries_stay more source member low high h =
    ap (map (change_entry (lengthened more source) member)) (selected_changes_stay more source member low high h)
    ∙ map_alike (change_entry (lengthened more source) member) (change_entry source member) (selected_changes source member low high)
    (all_weaker {X = CdRow} (λ c. c.commitseq ≤ high) (λ c. change_entry (lengthened more source) member c ≡ change_entry source member c) (selected_changes source member low high)
    (λ c up. ap (λ (time : ℕ). (key_of source.def (imaged_row source c), record { intentseq = c.intentseq; op = c.op; commitseq = c.commitseq; time = time; row = target_row member (imaged_row source c) })) (time_stays_longer source.log more c.commitseq (omega arith)))
    (all_filter (λ (c : CdRow). c.commitseq ≤ high) (λ c. is_selected member (imaged_row source c)) (changes_between source.log source.reg low high) (seqs_between source.log source.reg low high)))

-- further records leave the entries of a refresh at a point of the log
pub refresh_entries_stay : (more : List LogRecord) (source : SourceTable) (member : Member) (base : ℕ) → base ≤ length source.log → refresh_entries (lengthened more source) member base ≡ refresh_entries source member base
refresh_entries_stay more source member base h =
    ap (map (entry (time_at (source.log ++ more) base))) (selected_rows_stay more source member base h)
    ∙ ap (λ (time : ℕ). map (entry time) (selected_rows source member base)) (time_stays_longer source.log more base h)
  where
    entry : ℕ → Values × Values → Values × HistoryEntry
    entry time r = (r.0, record { intentseq = record { position = base; sub = 0 }; op = I; commitseq = base; time = time; row = target_row member r.1 })

-- ---- trails

-- in a trail that ends within a log, the point that the targets reach is within it
synchpoint_within : (len point : ℕ) (trail : Trail) → point ≤ len → EndsWithin len trail → fold (λ point e. point_after e) point trail ≤ len
synchpoint_within len point [] h within = h
synchpoint_within len point (refresh p q ∷ trail) h within = synchpoint_within len p trail within.0.0 within.1
synchpoint_within len point (block low high q ∷ trail) h within = synchpoint_within len high trail within.0.1.0 within.1
synchpoint_within len point (load m f rows ∷ trail) h within = synchpoint_within len m trail within.0.0 within.1
synchpoint_within len point (settle m f rejected applied ∷ trail) h within = synchpoint_within len m trail within.0.0 within.1

-- in a trail that ends within a log, the point of the last refresh is within it
base_within : (len base : ℕ) (trail : Trail) → base ≤ len → EndsWithin len trail → fold base_after base trail ≤ len
base_within len base [] h within = h
base_within len base (refresh p q ∷ trail) h within = base_within len p trail within.0.0 within.1
base_within len base (block low high q ∷ trail) h within = base_within len base trail h within.1
base_within len base (load m f rows ∷ trail) h within = base_within len base trail h within.1
base_within len base (settle m f rejected applied ∷ trail) h within = base_within len base trail h within.1

-- in a trail that ends within a log, the intervals are within it
intervals_within : (len : ℕ) (trail : Trail) → EndsWithin len trail → AllByRecursion (λ (i : ℕ × ℕ). (i.0 ≤ len) × (i.1 ≤ len)) (intervals trail)
intervals_within len trail within = each_filter_map interval_of (λ e. AllByRecursion (λ point. point ≤ len) (points_of e)) (λ (i : ℕ × ℕ). (i.0 ≤ len) × (i.1 ≤ len)) entry trail within
  where
    entry : (e : Entry) → AllByRecursion (λ point. point ≤ len) (points_of e) → IfSome (interval_of e) (λ i. (i.0 ≤ len) × (i.1 ≤ len))
    entry (refresh p q) h = tt
    entry (block low high q) h = (h.0, h.1.0)
    entry (load m f rows) h = tt
    entry (settle m f rejected applied) h = tt

-- in a trail that ends within a log, the points at which base aggregates were read are within it
base_points_within : (len : ℕ) (trail : Trail) → EndsWithin len trail → AllByRecursion (λ q. q ≤ len) (base_points trail)
base_points_within len trail within = each_filter_map base_read (λ e. AllByRecursion (λ point. point ≤ len) (points_of e)) (λ q. q ≤ len) entry trail within
  where
    read : (q : Option ℕ) → AllByRecursion (λ point. point ≤ len) (option_to_list q) → IfSome q (λ q. q ≤ len)
    read None h = tt
    read (Some q) h = h.0

    entry : (e : Entry) → AllByRecursion (λ point. point ≤ len) (points_of e) → IfSome (base_read e) (λ q. q ≤ len)
    entry (refresh p q) h = read q h.1
    entry (block low high q) h = read q h.1.1
    entry (load m f rows) h = tt
    entry (settle m f rejected applied) h = tt

-- further records leave the history of a trail that ends within the log
pub history_stays : (complete : Bool) (more : List LogRecord) (source : SourceTable) (member : Member) (trail : Trail) → EndsWithin (length source.log) trail → history complete (lengthened more source) member trail ≡ history complete source member trail
unfolding history
history_stays true more source member trail within =
    let base = base_of trail in
    let point = synchpoint trail in
    ap (λ (es : List (Values × HistoryEntry)). es ++ interval_entries (lengthened more source) member base point) (refresh_entries_stay more source member base (base_within (length source.log) 0 trail (omega arith) within))
    ∙ ap (λ (es : List (Values × HistoryEntry)). refresh_entries source member base ++ es) (interval_entries_stay more source member base point (synchpoint_within (length source.log) 0 trail (omega arith) within))
history_stays false more source member trail within =
    flat_map_alike (λ i. interval_entries (lengthened more source) member i.0 i.1) (λ i. interval_entries source member i.0 i.1) (intervals trail)
    (all_weaker {X = ℕ × ℕ} (λ i. (i.0 ≤ length source.log) × (i.1 ≤ length source.log)) (λ i. interval_entries (lengthened more source) member i.0 i.1 ≡ interval_entries source member i.0 i.1) (intervals trail)
    (λ i h. interval_entries_stay more source member i.0 i.1 h.1) (intervals_within (length source.log) trail within))

-- ---- aggregates

-- further records leave what is summed up between two points of the log
summary_rows_stay : (more : List LogRecord) (source : SourceTable) (member : Member) (low high : ℕ) (rows : List Values) → low ≤ length source.log → high ≤ length source.log → summary_rows (lengthened more source) member low high rows ≡ summary_rows source member low high rows
summary_rows_stay more source member low high rows h k =
    ap (λ (time : ℕ). map (row time (time_at (source.log ++ more) high)) (groups_of member rows)) (time_stays_longer source.log more low h)
    ∙ ap (λ (time : ℕ). map (row (time_at source.log low) time) (groups_of member rows)) (time_stays_longer source.log more high k)
  where
    row : ℕ → ℕ → Values → SummaryRow
    row low high group = record { low = low; high = high; row = group }

-- further records leave the change aggregate of a trail that ends within the log
pub change_aggregate_stays : (more : List LogRecord) (source : SourceTable) (member : Member) (trail : Trail) → EndsWithin (length source.log) trail → change_aggregate (lengthened more source) member trail ≡ change_aggregate source member trail
unfolding change_aggregate
change_aggregate_stays more source member trail within =
    flat_map_alike (sums (lengthened more source)) (sums source) (intervals trail)
    (all_weaker {X = ℕ × ℕ} (λ i. (i.0 ≤ length source.log) × (i.1 ≤ length source.log)) (λ i. sums (lengthened more source) i ≡ sums source i) (intervals trail)
    (λ i h. ap (λ (changes : List CdRow). summary_rows (lengthened more source) member i.0 i.1 (map (imaged_row source) changes)) (selected_changes_stay more source member i.0 i.1 h.1)
    ∙ summary_rows_stay more source member i.0 i.1 (map (imaged_row source) (selected_changes source member i.0 i.1)) h.0 h.1)
    (intervals_within (length source.log) trail within))
  where
    sums : SourceTable → ℕ × ℕ → List SummaryRow
    sums s i = summary_rows s member i.0 i.1 (map (imaged_row s) (selected_changes s member i.0 i.1))

-- further records leave the base aggregate of a trail that ends within the log
pub base_aggregate_stays : (more : List LogRecord) (source : SourceTable) (member : Member) (trail : Trail) → EndsWithin (length source.log) trail → base_aggregate (lengthened more source) member trail ≡ base_aggregate source member trail
unfolding base_aggregate
base_aggregate_stays more source member trail within =
    flat_map_alike (sums (lengthened more source)) (sums source) (base_points trail)
    (all_weaker {X = ℕ} (λ q. q ≤ length source.log) (λ q. sums (lengthened more source) q ≡ sums source q) (base_points trail)
    (λ q h. ap (λ (rows : List (Values × Values)). summary_rows (lengthened more source) member q q (map (λ r. r.1) rows)) (selected_rows_stay more source member q h)
    ∙ summary_rows_stay more source member q q (map (λ r. r.1) (selected_rows source member q)) h h)
    (base_points_within (length source.log) trail within))
  where
    sums : SourceTable → ℕ → List SummaryRow
    sums s q = summary_rows s member q q (map (λ r. r.1) (selected_rows s member q))

-- ---- interval by interval

-- the selected changes of an interval are those of its two halves
pub selected_changes_join : (source : SourceTable) (member : Member) (low mid high : ℕ) → low ≤ mid → mid ≤ high → selected_changes source member low high ≡ selected_changes source member low mid ++ selected_changes source member mid high
selected_changes_join source member low mid high h k =
    let p = λ (change : CdRow). is_selected member (imaged_row source change) in
    ap (filter p) (changes_join source.log source.reg low mid high h k)
    ∙ filter-append p (changes_between source.log source.reg low mid) (changes_between source.log source.reg mid high)

-- the entries of an interval are those of its two halves
pub interval_entries_join : (source : SourceTable) (member : Member) (low mid high : ℕ) → low ≤ mid → mid ≤ high → interval_entries source member low high ≡ interval_entries source member low mid ++ interval_entries source member mid high
interval_entries_join source member low mid high h k =
    ap (map (change_entry source member)) (selected_changes_join source member low mid high h k)
    ∙ map-append (change_entry source member) (selected_changes source member low mid) (selected_changes source member mid high)
