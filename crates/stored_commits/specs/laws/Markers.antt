-- The markers of a point-in-time copy by change rows: the times of the units that changed its keys last.
use Rattle.std.proofs.Common.{◌≡◌, ℕ, ◌≤◌, Bool, true, false, cond, ◌&&◌, ◌||◌, List, [], ◌∷◌, map, filter, fold, Some, refl, sym, ap, ap₂, subst, ◌∙◌, nat_lt, nat_le, bytes_eq}
use Rattle.std.specs.FinMap.{entries}
use Rattle.std.specs.List.{AllByRecursion, flat_map, list_any}
use Rattle.std.specs.Ordering.{is_eq}
use Rattle.std.proofs.lemmas.List.Elements.{filter-append}
use Rattle.std.proofs.lemmas.List.Sums.{fold-append}
use Rattle.world_store.specs.Words.{IsKey, IsRow, key_spelling, order_key, table_from_rows, point_spelling}
use Rattle.repl_model.specs.Words.{all_weaker, all_filter, filter_alike, all_flat_map, Values, images, Change, CdRow, Placed, Unit, Member, MarkedRow, change_time, user_copy, point_in_time_copy, shows_nothing, insert_row, delete_row, update_row, rows_of, rows_of_placed, change_rows, changes_between, SourceTable, is_selected, target_row, same_values, table_of, units, units_between, source_at, time_at}
use Rattle.repl_model.specs.MemberCopies.{changes_key}
use Rattle.repl_model.specs.laws.Units.{units_join}
use Rattle.repl_types.specs.declared.record.Change.TheVariants.{Insert, Update, Delete, Start, Stop}
use Rattle.keep_core.specs.Contents.{same_key}
use Rattle.stored_commits.specs.records.SourceTables.{HasRows, Suits, RowsStand}
use Rattle.stored_commits.specs.records.laws.StandingRows.{key_fits, standing_fit}
use Rattle.stored_commits.specs.copies.ChangedCopies.{key_after, timed_copy, time_after, times_after}
use Rattle.stored_commits.specs.copies.PointCopies.{as_point, point_table, changes_spelled, spelled_time, HaveTimes}
use Rattle.stored_commits.specs.laws.CopiedUnits.{times_append}
use Rattle.stored_commits.specs.laws.Earlier.{IsPlacedAt, placed_rows}
use Rattle.stored_commits.specs.laws.Images.{KeepsCopies, key_is}
use Rattle.stored_commits.specs.laws.LoggedRows.{UnitHas}

-- a row under its key
abbrev Entry : Type 0
Entry = Values × Values

-- ---- times after change rows

module _ (source : SourceTable) (times : ℕ → ℕ) where
  -- a key that some change row of a unit has after it has the unit's time
  time_of_rows : (seq : ℕ) (changes : List CdRow) (time : List ℕ → ℕ) (q : List ℕ) → AllByRecursion (λ c. c.commitseq ≡ seq) changes
      → times_after source times changes time q ≡ cond (list_any (λ c. same_key (key_spelling (key_after source c)) q) changes) (times seq) (time q)
  time_of_rows seq [] time q all = refl
  time_of_rows seq (c ∷ cs) time q all =
      time_of_rows seq cs (time_after source (times c.commitseq) c time) q all.1
      ∙ by_tests (same_key (key_spelling (key_after source c)) q) (list_any (λ d. same_key (key_spelling (key_after source d)) q) cs)
    where
      by_tests : (here later : Bool) → cond later (times seq) (cond here (times c.commitseq) (time q)) ≡ cond (here || later) (times seq) (time q)
      by_tests true true = refl
      by_tests true false = ap times all.0
      by_tests false true = refl
      by_tests false false = refl

  -- the change rows of a unit have its seq
  seqs_of_unit : (u : Unit) → AllByRecursion (λ c. c.commitseq ≡ u.head.seq) (change_rows source.reg u)
  unfolding change_rows
  seqs_of_unit u = all_flat_map (λ (c : CdRow). c.commitseq ≡ u.head.seq) (rows_of_placed source.reg u.head.seq) u.changes (each u.changes)
    where
      each : (placed : List Placed) → AllByRecursion (λ p. AllByRecursion (λ (c : CdRow). c.commitseq ≡ u.head.seq) (rows_of_placed source.reg u.head.seq p)) placed
      each [] = tt
      each (p ∷ ps) = (all_weaker (IsPlacedAt u.head.seq p.pos) (λ (c : CdRow). c.commitseq ≡ u.head.seq) (rows_of_placed source.reg u.head.seq p) (λ c at. at.unit) (placed_rows source.reg u.head.seq p), each ps)

  -- after the change rows of units a key has the time of the last one that changes it
  time_of_units : (us : List Unit) (time : List ℕ → ℕ) (q : List ℕ) → AllByRecursion (λ u. times u.head.seq ≡ u.head.time) us
      → times_after source times (flat_map (change_rows source.reg) us) time q ≡ fold (λ (t : ℕ) (u : Unit). u.head.time) (time q) (filter (changes_spelled source q) us)
  time_of_units [] time q all = refl
  time_of_units (u ∷ us) time q all =
      let own = change_rows source.reg u in
      let later = filter (changes_spelled source q) us in
      ap (λ (t : List ℕ → ℕ). t q) (times_append source times own (flat_map (change_rows source.reg) us) time)
      ∙ time_of_units us (times_after source times own time) q all.1
      ∙ ap (λ (t : ℕ). fold (λ (t : ℕ) (v : Unit). v.head.time) t later) (time_of_rows u.head.seq own time q (seqs_of_unit u))
      ∙ by_test (changes_spelled source q u)
    where
      by_test : (b : Bool) → fold (λ (t : ℕ) (v : Unit). v.head.time) (cond b (times u.head.seq) (time q)) (filter (changes_spelled source q) us)
          ≡ fold (λ (t : ℕ) (v : Unit). v.head.time) (time q) (cond b (u ∷ filter (changes_spelled source q) us) (filter (changes_spelled source q) us))
      by_test true = ap (λ (t : ℕ). fold (λ (t : ℕ) (v : Unit). v.head.time) t (filter (changes_spelled source q) us)) all.0
      by_test false = refl

  -- so the markers at one point become those at a later one
  pub markers_onward : (base low high : ℕ) → base ≤ low → low ≤ high → HaveTimes source low high times → times_after source times (changes_between source.log source.reg low high) (spelled_time source base low) ≡ spelled_time source base high
  unfolding changes_between
  markers_onward base low high h l all = λ i q. at q i
    where
      at : (q : List ℕ) → times_after source times (flat_map (change_rows source.reg) (units_between low high source.log)) (spelled_time source base low) q ≡ spelled_time source base high q
      at q =
          let changed = changes_spelled source q in
          let first = units_between base low source.log in
          let second = units_between low high source.log in
          let start = time_at source.log base in
          time_of_units second (spelled_time source base low) q all
          ∙ sym (fold-append (λ (t : ℕ) (u : Unit). u.head.time) start (filter changed first) (filter changed second))
          ∙ ap (fold (λ (t : ℕ) (u : Unit). u.head.time) start) (sym (ap (filter changed) (units_join base low high source.log h l) ∙ filter-append changed first second))

-- ---- spelled keys

-- two tests that give the same at each element of a list give the same of the list
any_alike : {X : Type 0} (p q : X → Bool) (xs : List X) → AllByRecursion (λ x. p x ≡ q x) xs → list_any p xs ≡ list_any q xs
any_alike p q [] all = refl
any_alike p q (x ∷ xs) all = ap₂ (λ (a b : Bool). a || b) all.0 (any_alike p q xs all.1)

module _ (source : SourceTable) (member : Member) (keeps : KeepsCopies source member) where
  -- a change row's key can be spelled
  abbrev IsKeyed : CdRow → Type 0
  IsKeyed change = IsKey (key_after source change)

  -- so it is if the change row is of a row of values
  row_keyed : (change : CdRow) (row : Values) → change.after ≡ images source.reg.after row → IsRow row → IsKeyed change
  row_keyed change row image fit = subst IsKey (sym (key_is source member keeps change row image)) (key_fits source.def row fit)

  -- those of the change rows of a change
  change_keyed : (seq pos : ℕ) (change : Change) → HasRows change → AllByRecursion IsKeyed (rows_of source.reg seq pos change)
  change_keyed seq pos (Insert table row) has = (row_keyed (insert_row source.reg seq pos 0 row) row refl has, tt)
  change_keyed seq pos (Update table before after) has = by_tests (shows_nothing source.reg before after) source.reg.del_ins
    where
      by_tests : (nothing apart : Bool) → AllByRecursion IsKeyed (cond nothing [] (cond apart (delete_row source.reg seq pos before ∷ insert_row source.reg seq pos 1 after ∷ []) (update_row source.reg seq pos before after ∷ [])))
      by_tests true apart = tt
      by_tests false true = (row_keyed (delete_row source.reg seq pos before) before refl has.0, (row_keyed (insert_row source.reg seq pos 1 after) after refl has.1, tt))
      by_tests false false = (row_keyed (update_row source.reg seq pos before after) after refl has.1, tt)
  change_keyed seq pos (Delete table row) has = (row_keyed (delete_row source.reg seq pos row) row refl has, tt)
  change_keyed seq pos (Start table) has = tt
  change_keyed seq pos (Stop table) has = tt

  -- and of those of a unit
  unit_keyed : (u : Unit) → UnitHas (λ change. HasRows change × Suits source.def change) u → AllByRecursion IsKeyed (change_rows source.reg u)
  unfolding change_rows
  unit_keyed u has = all_flat_map IsKeyed (rows_of_placed source.reg u.head.seq) u.changes (all_weaker (λ (p : Placed). HasRows p.change × Suits source.def p.change) (λ p. AllByRecursion IsKeyed (rows_of_placed source.reg u.head.seq p)) u.changes (λ p fit. by_table p fit.0 (bytes_eq (table_of p.change) source.reg.table)) has)
    where
      by_table : (p : Placed) → HasRows p.change → (b : Bool) → AllByRecursion IsKeyed (cond b (rows_of source.reg u.head.seq p.pos p.change) [])
      by_table p fit true = change_keyed u.head.seq p.pos p.change fit
      by_table p fit false = tt

  module _ (fit : AllByRecursion (UnitHas (λ change. HasRows change × Suits source.def change)) (units source.log)) where
    -- the marker of a key's spelling is that of the key
    spelled_is : (base point : ℕ) (key : Values) → IsKey key → spelled_time source base point (key_spelling key) ≡ change_time source base point key
    spelled_is base point key is =
        let between : Unit → Bool = λ u. nat_lt base u.head.seq && nat_le u.head.seq point in
        ap (fold (λ (t : ℕ) (u : Unit). u.head.time) (time_at source.log base)) (filter_alike (changes_spelled source (key_spelling key)) (changes_key source key) (units_between base point source.log)
        (all_weaker (UnitHas (λ change. HasRows change × Suits source.def change)) (λ (u : Unit). changes_spelled source (key_spelling key) u ≡ changes_key source key u) (units_between base point source.log)
        (λ u has. any_alike (λ (c : CdRow). same_key (key_spelling (key_after source c)) (key_spelling key)) (λ (c : CdRow). same_values (key_after source c) key) (change_rows source.reg u)
        (all_weaker IsKeyed (λ (c : CdRow). same_key (key_spelling (key_after source c)) (key_spelling key) ≡ same_values (key_after source c) key) (change_rows source.reg u) (λ c keyed. ap is_eq (order_key (key_after source c) key keyed is)) (unit_keyed u has)))
        (all_filter (UnitHas (λ change. HasRows change × Suits source.def change)) between (units source.log) fit)))

    -- ---- stored copies

    -- rows that are stored with their markers
    marked_rows : (base point : ℕ) (es : List Entry) → AllByRecursion (λ e. IsKey e.0) es
        → table_from_rows key_spelling point_spelling (map (λ (r : Values × MarkedRow). (r.0, record { marker = r.1.marker; row = r.1.row })) (map (λ (r : Entry). (r.0, record { marker = change_time source base point r.0; row = r.1 })) (map (λ (r : Entry). (r.0, target_row member r.1)) es)))
        ≡ table_from_rows key_spelling (λ (bytes : List ℕ). bytes) (map (λ (r : Entry). (r.0, as_point (spelled_time source base point (key_spelling r.0)) (target_row member r.1))) es)
    marked_rows base point [] all = refl
    marked_rows base point (e ∷ es) all =
        let same = sym (spelled_is base point e.0 all.0) in
        λ i q. cond (same_key (key_spelling e.0) q) (Some (as_point (same i) (target_row member e.1))) (marked_rows base point es all.1 i q)

    -- so the stored table of a point-in-time copy is a stored copy of the rows of the source
    pub point_copy_is : (base point : ℕ) → RowsStand source.def (source_at source.def source.log point) → point_table source member base point ≡ timed_copy as_point (spelled_time source base point) member (entries (source_at source.def source.log point))
    unfolding user_copy point_in_time_copy
    point_copy_is base point stand =
        let rows = source_at source.def source.log point in
        let selected : Entry → Bool = λ r. is_selected member r.1 in
        marked_rows base point (filter selected (entries rows)) (all_filter (λ (e : Entry). IsKey e.0) selected (entries rows) (all_weaker (λ (e : Entry). IsKey e.0 × IsRow e.1) (λ (e : Entry). IsKey e.0) (entries rows) (λ e fits. fits.0) (standing_fit source.def rows stand)))
