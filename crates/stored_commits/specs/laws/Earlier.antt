-- The change rows that are captured before a change of the next unit, and its own.
use Rattle.std.proofs.Common.{◌≡◌, ℕ, ◌≤◌, ◌<◌, Bool, true, false, cond, ◌&&◌, inl, inr, List, [], ◌∷◌, ◌++◌, length, refl, sym, ap, subst, ◌∙◌, arith, nat_lt, nat_le, bytes_eq, Ordering, Less, Equal}
use Rattle.std.specs.List.{AllByRecursion, filter, flat_map}
use Rattle.std.specs.Cmp.{nat_cmp_is}
use Rattle.std.specs.Ordering.{nat_cmp, ordering_then}
use Rattle.std.proofs.lemmas.Bool.{leb-true, and_parts}
use Rattle.world_store.specs.Words.{Is16, Is64, change_key_spelling}
use Rattle.repl_model.specs.Words.{bytes_cmp, Values, all_weaker, all_append, Change, CdRow, Registration, Placed, Unit, table_of, units, rows_of, rows_of_placed, change_rows, changes_between, shows_nothing, delete_row, insert_row, update_row, log_limit, Server, In, at_one, at_each, in_second, in_filter, all_flat_map}
use Rattle.repl_types.specs.declared.record.Change.TheVariants.{Insert, Update, Delete, Start, Stop}
use Rattle.stored_commits.specs.laws.Rising.{Rises, below_later}
use Rattle.stored_commits.specs.laws.CapturedUnits.{StandsWithin, NextOf, units_within, place_of}
use Rattle.stored_commits.specs.laws.CapturedPuts.{key_of_row, ComeBefore, FollowInTurn, change_key, IsEarlier, keys_in_order, earlier_before}

-- ---- the rows of one change

-- A change row is of a change at a place of the log, in a unit.
pub record IsPlacedAt (seq pos : ℕ) (r : CdRow) : Type 0 where
  pub unit : r.commitseq ≡ seq
  pub place : r.intentseq.position ≡ pos
  pub sub : r.intentseq.sub ≤ 1

-- all rows of a change are rows at its place
rows_placed : (reg : Registration) (seq pos : ℕ) (change : Change) → AllByRecursion (IsPlacedAt seq pos) (rows_of reg seq pos change)
rows_placed reg seq pos (Insert table row) = (record { unit = refl; place = refl; sub = omega arith }, tt)
rows_placed reg seq pos (Update table before after) = by_tests (shows_nothing reg before after) reg.del_ins
  where
    by_tests : (nothing taken_apart : Bool) → AllByRecursion (IsPlacedAt seq pos) (cond nothing [] (cond taken_apart (delete_row reg seq pos before ∷ insert_row reg seq pos 1 after ∷ []) (update_row reg seq pos before after ∷ [])))
    by_tests true taken_apart = tt
    by_tests false true = (record { unit = refl; place = refl; sub = omega arith }, (record { unit = refl; place = refl; sub = omega arith }, tt))
    by_tests false false = (record { unit = refl; place = refl; sub = omega arith }, tt)
rows_placed reg seq pos (Delete table row) = (record { unit = refl; place = refl; sub = omega arith }, tt)
rows_placed reg seq pos (Start table) = tt
rows_placed reg seq pos (Stop table) = tt

-- so are those of a change of any table
pub placed_rows : (reg : Registration) (seq : ℕ) (placed : Placed) → AllByRecursion (IsPlacedAt seq placed.pos) (rows_of_placed reg seq placed)
placed_rows reg seq placed = pick (bytes_eq (table_of placed.change) reg.table)
  where
    pick : (own : Bool) → AllByRecursion (IsPlacedAt seq placed.pos) (cond own (rows_of reg seq placed.pos placed.change) [])
    pick true = rows_placed reg seq placed.pos placed.change
    pick false = tt

-- the rows of a change follow those of earlier changes, and one another
rows_follow : (reg : Registration) (seq pos : ℕ) (change : Change) (rows : List CdRow) → Is64 seq → Is64 pos → AllByRecursion (IsEarlier seq pos) rows → FollowInTurn rows (rows_of reg seq pos change)
rows_follow reg seq pos change rows ls lp all = by_change change
  where
    before : (sub : ℕ) → Is16 sub → ComeBefore (change_key_spelling (change_key seq pos sub)) rows
    before sub lb = all_weaker (IsEarlier seq pos) (λ q. bytes_cmp (key_of_row q) (change_key_spelling (change_key seq pos sub)) ≡ Less) rows (λ q is. earlier_before seq pos sub q ls lp lb is) all

    subs_rise : bytes_cmp (change_key_spelling (change_key seq pos 0)) (change_key_spelling (change_key seq pos 1)) ≡ Less
    subs_rise =
        keys_in_order (change_key seq pos 0) (change_key seq pos 1) (ls, (lp, omega arith)) (ls, (lp, omega arith))
        ∙ ap (λ (o : Ordering). ordering_then o (ordering_then (nat_cmp pos pos) Less)) (sym (nat_cmp_is seq seq Equal refl))
        ∙ ap (λ (o : Ordering). ordering_then o Less) (sym (nat_cmp_is pos pos Equal refl))

    by_tests : (first second third : Values) (nothing taken_apart : Bool) → FollowInTurn rows (cond nothing [] (cond taken_apart (delete_row reg seq pos first ∷ insert_row reg seq pos 1 second ∷ []) (update_row reg seq pos first third ∷ [])))
    by_tests first second third true taken_apart = tt
    by_tests first second third false true =
        (before 0 (omega arith), (all_append (λ q. bytes_cmp (key_of_row q) (change_key_spelling (change_key seq pos 1)) ≡ Less) rows (delete_row reg seq pos first ∷ []) (before 1 (omega arith)) (subs_rise, tt), tt))
    by_tests first second third false false = (before 0 (omega arith), tt)

    by_change : (change : Change) → FollowInTurn rows (rows_of reg seq pos change)
    by_change (Insert table row) = (before 0 (omega arith), tt)
    by_change (Update table old new) = by_tests old new new (shows_nothing reg old new) reg.del_ins
    by_change (Delete table row) = (before 0 (omega arith), tt)
    by_change (Start table) = tt
    by_change (Stop table) = tt

-- ---- the rows before a change of the next unit

module _ (server : Server) (u : Unit) (next : NextOf server u) (reg : Registration) where
  -- the number of a unit or a place within the log has eight bytes
  small : (n : ℕ) → n ≤ length server.log → Is64 n
  small n le = let short : length server.log ≤ log_limit = next.short in omega arith

  -- the rows that are captured of units before it
  captured_earlier : (low pos : ℕ) → AllByRecursion (IsEarlier u.head.seq pos) (changes_between server.log reg low server.captured)
  unfolding changes_between change_rows
  captured_earlier low pos =
      let between = λ (v : Unit). nat_lt low v.head.seq && nat_le v.head.seq server.captured in
      all_flat_map (IsEarlier u.head.seq pos) (change_rows reg) (filter between (units server.log))
      (at_each (λ v. AllByRecursion (IsEarlier u.head.seq pos) (change_rows reg v)) (filter between (units server.log)) (λ v i. of_kept v (in_filter between (units server.log) v i)))
    where
      of_row : (v : Unit) (placed : Placed) → v.head.seq ≤ length server.log → v.head.seq ≤ server.captured → placed.pos ≤ length server.log → (r : CdRow) → IsPlacedAt v.head.seq placed.pos r → IsEarlier u.head.seq pos r
      of_row v placed ls le lp r is =
          let lt : server.captured < u.head.seq = next.stands.above in
          record {
            fits = (subst Is64 (sym is.unit) (small v.head.seq ls), (subst Is64 (sym is.place) (small placed.pos lp), omega (arith, is.sub)));
            earlier = inl (omega (arith, is.unit, lt, le));
          }

      of_unit : (v : Unit) → StandsWithin (length server.log) v → v.head.seq ≤ server.captured → AllByRecursion (IsEarlier u.head.seq pos) (flat_map (rows_of_placed reg v.head.seq) v.changes)
      of_unit v within le = all_flat_map (IsEarlier u.head.seq pos) (rows_of_placed reg v.head.seq) v.changes
          (all_weaker (λ (placed : Placed). placed.pos ≤ length server.log) (λ placed. AllByRecursion (IsEarlier u.head.seq pos) (rows_of_placed reg v.head.seq placed)) v.changes
          (λ placed lp. all_weaker (IsPlacedAt v.head.seq placed.pos) (IsEarlier u.head.seq pos) (rows_of_placed reg v.head.seq placed) (λ r is. of_row v placed within.seq le lp r is) (placed_rows reg v.head.seq placed)) within.within)

      of_kept : (v : Unit) → In v (units server.log) × ((nat_lt low v.head.seq && nat_le v.head.seq server.captured) ≡ true) → AllByRecursion (IsEarlier u.head.seq pos) (flat_map (rows_of_placed reg v.head.seq) v.changes)
      of_kept v kept = of_unit v (at_one (StandsWithin (length server.log)) (units server.log) v (units_within server.log) kept.0) (leb-true v.head.seq server.captured (and_parts (nat_lt low v.head.seq) (nat_le v.head.seq server.captured) kept.1).1)

  -- the place of a change of the unit is one of the log
  place_within : (changes : List Placed) (placed : Placed) (more : List Placed) → u.changes ≡ changes ++ placed ∷ more → placed.pos ≤ length server.log
  place_within changes placed more split = at_one (λ (p : Placed). p.pos ≤ length server.log) (changes ++ placed ∷ more) placed (subst (AllByRecursion (λ (p : Placed). p.pos ≤ length server.log)) split next.within.within) (in_second changes (placed ∷ more) placed (inl refl))

  -- the rows of its own changes before a change
  own_earlier : (changes : List Placed) (placed : Placed) (more : List Placed) → u.changes ≡ changes ++ placed ∷ more → AllByRecursion (IsEarlier u.head.seq placed.pos) (flat_map (rows_of_placed reg u.head.seq) changes)
  own_earlier changes placed more split =
      let before = below_later place_of changes placed more (subst (λ (l : List Placed). Rises place_of l) split next.within.rise) in
      all_flat_map (IsEarlier u.head.seq placed.pos) (rows_of_placed reg u.head.seq) changes
      (all_weaker (λ (p : Placed). p.pos < placed.pos) (λ p. AllByRecursion (IsEarlier u.head.seq placed.pos) (rows_of_placed reg u.head.seq p)) changes
      (λ p lt. all_weaker (IsPlacedAt u.head.seq p.pos) (IsEarlier u.head.seq placed.pos) (rows_of_placed reg u.head.seq p) (λ r is. of_row p lt r is) (placed_rows reg u.head.seq p)) before)
    where
      last : placed.pos ≤ length server.log
      last = place_within changes placed more split

      of_row : (p : Placed) → p.pos < placed.pos → (r : CdRow) → IsPlacedAt u.head.seq p.pos r → IsEarlier u.head.seq placed.pos r
      of_row p lt r is = record {
        fits = (subst Is64 (sym is.unit) (small u.head.seq next.within.seq), (subst Is64 (sym is.place) (small p.pos (omega (arith, last, lt))), omega (arith, is.sub)));
        earlier = inr (is.unit, omega (arith, is.place, lt));
      }

  -- the rows of both kinds
  rows_earlier : (low : ℕ) (changes : List Placed) (placed : Placed) (more : List Placed) → u.changes ≡ changes ++ placed ∷ more → AllByRecursion (IsEarlier u.head.seq placed.pos) (changes_between server.log reg low server.captured ++ flat_map (rows_of_placed reg u.head.seq) changes)
  rows_earlier low changes placed more split = all_append (IsEarlier u.head.seq placed.pos) (changes_between server.log reg low server.captured) (flat_map (rows_of_placed reg u.head.seq) changes) (captured_earlier low placed.pos) (own_earlier changes placed more split)

  -- so the rows of the change follow them
  pub change_follows : (low : ℕ) (changes : List Placed) (placed : Placed) (more : List Placed) → u.changes ≡ changes ++ placed ∷ more → FollowInTurn (changes_between server.log reg low server.captured ++ flat_map (rows_of_placed reg u.head.seq) changes) (rows_of reg u.head.seq placed.pos placed.change)
  change_follows low changes placed more split = rows_follow reg u.head.seq placed.pos placed.change (changes_between server.log reg low server.captured ++ flat_map (rows_of_placed reg u.head.seq) changes) (small u.head.seq next.within.seq) (small placed.pos (place_within changes placed more split)) (rows_earlier low changes placed more split)
