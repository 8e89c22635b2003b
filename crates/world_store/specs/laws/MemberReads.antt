-- What trails read of the sources of members.
use Rattle.std.proofs.Common.{◌≡◌, ℕ, ◌≤◌, Bool, true, false, cond, List, [], ◌∷◌, length, map, filter, fold, Option, refl, ap, subst, arith}
use Rattle.std.specs.List.{AllByRecursion}
use Rattle.repl_model.specs.Words.{Values, LogRecord, Member, TargetKind, units, source_at, changes_between, SourceTable, is_selected, selected_rows, user_copy, MarkedRow, point_in_time_copy, SummaryRow, base_aggregate, change_aggregate, HistoryEntry, history, condensed, by_key, Entry, Trail, refresh, block, load, settle, point_after, synchpoint, base_of, lengthened, points_of, EndsWithin, entries_empty, selected_rows_stay, user_copy_stays, point_in_time_copy_stays, base_aggregate_stays, change_aggregate_stays, history_stays, changes_stay_longer, In, at_one}
use Rattle.repl_definitions.specs.declared.member.TargetKind.TheVariants.{UserCopy, PointInTime, BaseAggregate, ChangeAggregate, Ccd, Replica}
use Rattle.row_codec.specs.Spelling.{b64, key_spelling}
use Rattle.repl_records.specs.TargetSide.{copy_spelling, point_spelling, aggregate_spelling, history_spelling, latest_spelling}
use Rattle.rows_in_order.specs.Rows.{table_from_rows}
use Rattle.world_store.specs.TargetRows.{aggregate_rows, history_rows, latest_rows, rows_refreshed}
use Rattle.world_store.specs.Tables.{no_rows, member_table}
use Rattle.world_store.specs.laws.Sides.{TrailReads, made_from, made_alone}

-- ---- points

-- the point that the targets have reached after some entries, from one on
abbrev pub reach : ℕ → Trail → ℕ
reach point trail = fold (λ point e. point_after e) point trail

-- in a trail that ends within a log, the point that is reached is within it
pub reach_within : (len point : ℕ) (trail : Trail) → point ≤ len → EndsWithin len trail → reach point trail ≤ len
reach_within len point [] h within = h
reach_within len point (refresh p q ∷ trail) h within = reach_within len p trail within.0.0 within.1
reach_within len point (block low high q ∷ trail) h within = reach_within len high trail within.0.1.0 within.1
reach_within len point (load m f rows ∷ trail) h within = reach_within len m trail within.0.0 within.1
reach_within len point (settle m f rejected applied ∷ trail) h within = reach_within len m trail within.0.0 within.1

-- ---- rows of targets

-- no rows are selected of a log with no records
none_selected : (source : SourceTable) (member : Member) (point : ℕ) → selected_rows (record source { log = [] }) member point ≡ []
unfolding source_at units
none_selected source member point = ap (filter (λ (r : Values × Values). is_selected member r.1)) entries_empty

module _ (member : Member) (trail : Trail) where
  -- a trail reads the rows of a user copy
  copy_reads : TrailReads trail (λ source. user_copy source member (synchpoint trail)) []
  unfolding user_copy
  copy_reads = record {
    stays = λ more source within rises. user_copy_stays more source member (synchpoint trail) (reach_within (length source.log) 0 trail (omega arith) within);
    begins = λ empty source. ap (map _) (none_selected source member (synchpoint trail));
  }

  -- those of a point-in-time copy
  point_reads : TrailReads trail (λ source. point_in_time_copy source member (base_of trail) (synchpoint trail)) []
  unfolding point_in_time_copy
  point_reads = record {
    stays = λ more source within rises. point_in_time_copy_stays more source member (base_of trail) (synchpoint trail) rises (reach_within (length source.log) 0 trail (omega arith) within);
    begins = λ empty source. ap (map _) (copy_reads.begins empty source);
  }

  -- those of a base aggregate
  pub base_reads : TrailReads trail (λ source. base_aggregate source member trail) []
  unfolding base_aggregate
  base_reads = record {
    stays = λ more source within rises. base_aggregate_stays more source member trail within;
    begins = λ empty source. ap (base_aggregate (record source { log = [] }) member) empty;
  }

  -- those of a change aggregate
  pub change_reads : TrailReads trail (λ source. change_aggregate source member trail) []
  unfolding change_aggregate
  change_reads = record {
    stays = λ more source within rises. change_aggregate_stays more source member trail within;
    begins = λ empty source. ap (change_aggregate (record source { log = [] }) member) empty;
  }

  -- and the entries of a history
  pub history_reads : (complete : Bool) → TrailReads trail (λ source. history complete source member trail) []
  unfolding history changes_between units
  history_reads true = record {
    stays = λ more source within rises. history_stays true more source member trail within;
    begins = λ empty source. rw (none_selected source member (base_of trail)) refl;
  }
  history_reads false = record {
    stays = λ more source within rises. history_stays false more source member trail within;
    begins = λ empty source. ap (history false (record source { log = [] }) member) empty;
  }

-- so it reads the target of a member
pub member_reads : (member : Member) (trail : Trail) → TrailReads trail (λ source. member_table source member trail) no_rows
unfolding condensed by_key
member_reads member trail = of_kind member.kind
  where
    of_kind : (kind : TargetKind) → TrailReads trail (λ source. member_table source (record member { kind = kind }) trail) no_rows
    of_kind UserCopy = made_from (λ (rows : List (Values × Values)). table_from_rows key_spelling copy_spelling (map (λ r. (r.0, record { row = r.1 })) rows)) (copy_reads (record member { kind = UserCopy }) trail)
    of_kind PointInTime = made_from (λ (rows : List (Values × MarkedRow)). table_from_rows key_spelling point_spelling (map (λ r. (r.0, record { marker = r.1.marker; row = r.1.row })) rows)) (point_reads (record member { kind = PointInTime }) trail)
    of_kind BaseAggregate = made_from (λ (rows : List SummaryRow). table_from_rows b64 aggregate_spelling (aggregate_rows rows)) (base_reads (record member { kind = BaseAggregate }) trail)
    of_kind ChangeAggregate = made_from (λ (rows : List SummaryRow). table_from_rows b64 aggregate_spelling (aggregate_rows rows)) (change_reads (record member { kind = ChangeAggregate }) trail)
    of_kind (Ccd complete true) = made_from (λ (es : List (Values × HistoryEntry)). table_from_rows key_spelling latest_spelling (latest_rows es)) (history_reads (record member { kind = Ccd complete true }) trail complete)
    of_kind (Ccd complete false) = made_from (λ (es : List (Values × HistoryEntry)). table_from_rows b64 history_spelling (history_rows es)) (history_reads (record member { kind = Ccd complete false }) trail complete)
    of_kind Replica = made_alone no_rows

-- ---- entries

-- a trail reads what further records leave whenever the points of one of its entries are within the log
entry_reads : {Z : Type 0} (trail : Trail) (e : Entry) (made : SourceTable → Z) (nothing : Z) → In e trail → ((more : List LogRecord) (source : SourceTable) → AllByRecursion (λ point. point ≤ length source.log) (points_of e) → made (lengthened more source) ≡ made source) → TrailReads trail made nothing
entry_reads trail e made nothing i stays = record {
  stays = λ more source within rises. stays more source (at_one (λ e. AllByRecursion (λ point. point ≤ length source.log) (points_of e)) trail e within i);
  begins = λ empty source. absurd (subst (In e) empty i);
}

-- so it reads the change rows of a block
pub block_reads : (trail : Trail) (low high : ℕ) (q : Option ℕ) → In (block low high q) trail → TrailReads trail (λ source. changes_between source.log source.reg low high) []
block_reads trail low high q i =
    entry_reads trail (block low high q) (λ source. changes_between source.log source.reg low high) [] i (λ more source points. changes_stay_longer source.log more source.reg low high points.1.0)

-- and the number of rows that a refresh puts in the target of a member
pub refresh_reads : (member : Member) (trail : Trail) (p : ℕ) (q : Option ℕ) → In (refresh p q) trail → TrailReads trail (λ source. rows_refreshed source p q member) 0
refresh_reads member trail p q i =
    entry_reads trail (refresh p q) (λ source. rows_refreshed source p q member) 0 i (λ more source points. of_kind more source points member.kind)
  where
    of_kind : (more : List LogRecord) (source : SourceTable) → AllByRecursion (λ point. point ≤ length source.log) (points_of (refresh p q)) → (kind : TargetKind) → rows_refreshed (lengthened more source) p q (record member { kind = kind }) ≡ rows_refreshed source p q (record member { kind = kind })
    of_kind more source points UserCopy = ap (λ (rows : List (Values × Values)). length rows) (selected_rows_stay more source member p points.0)
    of_kind more source points PointInTime = ap (λ (rows : List (Values × Values)). length rows) (selected_rows_stay more source member p points.0)
    of_kind more source points BaseAggregate = ap (λ (rows : List SummaryRow). length rows) (base_aggregate_stays more source (record member { kind = BaseAggregate }) (refresh p q ∷ []) (points, tt))
    of_kind more source points (Ccd complete is_condensed) = ap (λ (rows : List (Values × Values)). cond complete (length rows) 0) (selected_rows_stay more source member p points.0)
    of_kind more source points kind = refl
