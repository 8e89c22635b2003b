-- Changes are made one after another, and taken back: proofs.
use Rattle.std.proofs.Common.{◌≡◌, ℕ, zero, suc, ◌+◌, ◌<◌, ◌≤◌, Bool, true, false, cond, List, [], ◌∷◌, ◌++◌, length, map, take, drop, get_or, refl, sym, ap, subst, ◌∙◌, arith, Option, Some, None, ◌&&◌, ◌==◌, slice_get, bytes_eq, eqb-true, eq-eqb}
use Rattle.std.specs.List.{AllByRecursion}
use Rattle.std.specs.Option.{option_map_or}
use Rattle.stored_defs.specs.laws.Standing.{all_at_place}
use Rattle.stored_commits.specs.records.Applying.{applies_to_each, apply_to_each}
use Rattle.stored_commits.specs.records.SourceTables.{RowsStand, rows_table, with_effect}
use Rattle.source_log.specs.Making.{StepCanBeMade, HasSource, SourceStands, IsOfServer, TablesApart, Tells, MakesOne, MakesFirst, with_made, all_made, all_unmade, changes_of}
use Rattle.source_log.proofs.MayStand.{parts_of}
use Rattle.source_log.specs.Rules.{rules}
use Rattle.source_log.specs.Storing.{Extends}
use Rattle.source_log.proofs.Extending.{extended_shown, all_made_extends}
use Rattle.source_log.proofs.Drops.{take_whole}
use Rattle.std.proofs.lemmas.List.{take_more, drop_more}
use Rattle.world_store.specs.Words.{not_both, no_rows}
use Rattle.site_store.specs.Words.{ShownBefore, Contents, Table}
use Rattle.repl_model.specs.Words.{all_weaker, table_named, ServerTable, Server, tables_of, Change, TableDef, Rows, table_of, inverse, applies_here, after_change, after_changes, same_name}
use Rattle.repl_types.specs.declared.area.Area.TheVariants as areas
use Rattle.source_log.specs.declared.step.Step.{Step}
use Rattle.stored_commits.specs.laws.StoredRows.{change_stands, change_stored}
use Rattle.stored_commits.specs.laws.InTurn.{applies_to_own, empty_list_applies, first_then_others}

-- one more is made last
made_more : (steps : List Step) (step : Step) (c : Contents) → all_made (steps ++ step ∷ []) c ≡ with_made step.table step.change (all_made steps c)
made_more [] step c = refl
made_more (s ∷ steps) step c = made_more steps step (with_made s.table s.change c)

-- and taken back first
unmade_more : (steps : List Step) (step : Step) (c : Contents) → all_unmade (steps ++ step ∷ []) c ≡ all_unmade steps (with_made step.table (inverse step.change) c)
unmade_more [] step c = refl
unmade_more (s ∷ steps) step c = ap (with_made s.table (inverse s.change)) (unmade_more steps step c)

-- the last of the first steps is taken back
pub unmade_next : (steps : List Step) (n : ℕ) (step : Step) (c d e : Contents) → n < length steps → step ≡ get_or steps n step → all_unmade (take (n + 1) steps) d ≡ all_unmade steps c → e ≡ with_made step.table (inverse step.change) d → all_unmade (take n steps) e ≡ all_unmade steps c
unmade_next steps n step c d e lt is before now =
    ap (all_unmade (take n steps)) now
    ∙ sym (unmade_more (take n steps) step d)
    ∙ ap (λ (l : List Step). all_unmade l d) (ap (λ (s : Step). take n steps ++ s ∷ []) is ∙ sym (take_more steps n step lt))
    ∙ before

-- ---- at a server

-- the rows after the changes of steps
abbrev pub rows_after : List Step → (TableDef → Rows) → TableDef → Rows
rows_after steps rows def = after_changes def (changes_of steps) (rows def)

-- after one more
after_more : (def : TableDef) (steps : List Step) (step : Step) (rows : Rows) → after_changes def (changes_of (steps ++ step ∷ [])) rows ≡ after_change def step.change (after_changes def (changes_of steps) rows)
after_more def [] step rows = refl
after_more def (s ∷ steps) step rows = after_more def steps step (after_change def s.change rows)

-- two things that are there
some_inner : {X : Type 0} {x y : X} → ◌≡◌ {A = Option X} (Some x) (Some y) → x ≡ y
some_inner e = cc

-- what holds of all holds at each place that has something
all_at_get : {X : Type 0} (P : X → Type 0) (xs : List X) (n : ℕ) (x : X) → AllByRecursion P xs → slice_get xs n ≡ Some x → P x
all_at_get P [] n x all e = absurd cc
all_at_get P (y ∷ ys) zero x all e = subst P (some_inner e) all.0
all_at_get P (y ∷ ys) (suc n) x all e = all_at_get P ys n x all.1 e

-- the same of images
image_at_get : {X Y : Type 0} (P : Y → Type 0) (f : X → Y) (xs : List X) (n : ℕ) (x : X) → AllByRecursion P (map f xs) → slice_get xs n ≡ Some x → P (f x)
image_at_get P f [] n x all e = absurd cc
image_at_get P f (y ∷ ys) zero x all e = subst (λ z. P (f z)) (some_inner e) all.0
image_at_get P f (y ∷ ys) (suc n) x all e = image_at_get P f ys n x all.1 e

-- and of the first of them
all_take : {X : Type 0} (P : X → Type 0) (xs : List X) (n : ℕ) → AllByRecursion P xs → AllByRecursion P (take n xs)
all_take P [] zero all = tt
all_take P [] (suc n) all = tt
all_take P (x ∷ xs) zero all = tt
all_take P (x ∷ xs) (suc n) all = (all.0, all_take P xs n all.1)

-- the table at a number is found by its name
found_at : (server : Server) (n : ℕ) (t : ServerTable) → TablesApart server → slice_get server.tables n ≡ Some t → table_named t.def.name (tables_of server) ≡ Some t.def
found_at server n t apart at = image_at_get (λ (def : TableDef). table_named def.name (tables_of server) ≡ Some def) (λ (t : ServerTable). t.def) server.tables n t apart.found at

-- the rows of the table of a step
rows_at : (server : Server) (rows : TableDef → Rows) (step : Step) (c : Contents) → HasSource server rows c → IsOfServer server step → c areas.Source step.table.number ≡ rows_table (rows step.table.def)
rows_at server rows step c has of = has step.table.number ∙ ap (λ (o : Option ServerTable). option_map_or (λ t. rows_table (rows t.def)) o no_rows) of.at_number ∙ ap (λ (d : TableDef). rows_table (rows d)) of.def

stand_at : (server : Server) (rows : TableDef → Rows) (step : Step) → SourceStands server rows → IsOfServer server step → RowsStand step.table.def (rows step.table.def)
stand_at server rows step stand of = subst (λ (d : TableDef). RowsStand d (rows d)) of.def (all_at_get (λ (t : ServerTable). RowsStand t.def (rows t.def)) server.tables step.table.number of.table stand of.at_number)

module _ (server : Server) (apart : TablesApart server) where
  -- one change is made of the rows
  one_source : (rows : TableDef → Rows) (step : Step) (c : Contents) → SourceStands server rows → HasSource server rows c → IsOfServer server step → StepCanBeMade step → HasSource server (λ def. after_change def step.change (rows def)) (with_made step.table step.change c)
  one_source rows step c stand has of can n = by_number (num == n) refl
    where
      num : ℕ
      num = step.table.number

      def : TableDef
      def = step.table.def

      change : Change
      change = step.change

      now : Option ServerTable → Table
      now o = option_map_or (λ t. rows_table (after_change t.def change (rows t.def))) o no_rows

      own : bytes_eq (table_of change) def.name ≡ true
      own = (parts_of def change can.stands).own

      made : with_effect def change (c areas.Source num) ≡ rows_table (after_change def change (rows def))
      made = ap (with_effect def change) (rows_at server rows step c has of) ∙ sym (change_stored def change (rows def) (stand_at server rows step stand of) can.rows ∙ ap (λ (b : Bool). cond b (with_effect def change (rows_table (rows def))) (rows_table (rows def))) own)

      at_num : now (slice_get server.tables num) ≡ rows_table (after_change def change (rows def))
      at_num = ap now of.at_number ∙ ap (λ (d : TableDef). rows_table (after_change d change (rows d))) of.def

      elsewhere : (t : ServerTable) → slice_get server.tables n ≡ Some t → (num == n) ≡ false → (b : Bool) → bytes_eq (table_of change) t.def.name ≡ b → bytes_eq (table_of change) t.def.name ≡ false
      elsewhere t at ne false e = e
      elsewhere t at ne true e =
          let same : t.def ≡ def = some_inner (sym (found_at server n t apart at) ∙ ap (λ (name : List ℕ). table_named name (tables_of server)) (sym (same_name (table_of change) t.def.name e)) ∙ of.named) in
          absurd (not_both (num == n) (eq-eqb num n (apart.apart num n of.table t of.at_number at (of.def ∙ sym same))) ne)

      other : (num == n) ≡ false → (o : Option ServerTable) → slice_get server.tables n ≡ o → option_map_or (λ t. rows_table (rows t.def)) o no_rows ≡ now o
      other ne None at = refl
      other ne (Some t) at = sym (change_stored t.def change (rows t.def) (all_at_get (λ (u : ServerTable). RowsStand u.def (rows u.def)) server.tables n t stand at) can.rows ∙ ap (λ (b : Bool). cond b (with_effect t.def change (rows_table (rows t.def))) (rows_table (rows t.def))) (elsewhere t at ne (bytes_eq (table_of change) t.def.name) refl))

      by_number : (b : Bool) → (num == n) ≡ b → cond b (with_effect def change (c areas.Source num)) (c areas.Source n) ≡ now (slice_get server.tables n)
      by_number true e = made ∙ sym at_num ∙ ap (λ (m : ℕ). now (slice_get server.tables m)) (eqb-true num n e)
      by_number false e = has n ∙ other e (slice_get server.tables n) refl

  one_stands : (rows : TableDef → Rows) (step : Step) → SourceStands server rows → StepCanBeMade step → SourceStands server (λ def. after_change def step.change (rows def))
  one_stands rows step stand can = all_weaker (λ t. RowsStand t.def (rows t.def)) (λ t. RowsStand t.def (after_change t.def step.change (rows t.def))) server.tables (λ t s. change_stands t.def step.change (rows t.def) s can.rows) stand

  -- and so are all
  pub made_source : (steps : List Step) (rows : TableDef → Rows) (c : Contents) → SourceStands server rows → HasSource server rows c → AllByRecursion (IsOfServer server) steps → AllByRecursion StepCanBeMade steps → HasSource server (rows_after steps rows) (all_made steps c) × SourceStands server (rows_after steps rows)
  made_source [] rows c stand has of can = (has, stand)
  made_source (s ∷ steps) rows c stand has of can = made_source steps (λ def. after_change def s.change (rows def)) (with_made s.table s.change c) (one_stands rows s stand can.0) (one_source rows s c stand has of.0 can.0) of.1 can.1

-- ---- the loop

-- The first so many changes were made.
pub record MadeFirst (steps : List Step) (n : ℕ) (c d : Contents) : Type 0 where
  pub makes : d ≡ all_made (take n steps) c
  pub back : all_unmade (take n steps) d ≡ c
  pub left : (server : Server) (rows : TableDef → Rows) → TablesApart server → SourceStands server rows → HasSource server rows c → AllByRecursion (IsOfServer server) steps → apply_to_each (tables_of server) (changes_of steps) rows ≡ apply_to_each (tables_of server) (changes_of (drop n steps)) (rows_after (take n steps) rows)

pub first_none : (steps : List Step) (c : Contents) → MadeFirst steps 0 c c
first_none steps c = record { makes = refl; back = refl; left = λ server rows apart stand has of. refl }

module _ (steps : List Step) (can : AllByRecursion StepCanBeMade steps) (n : ℕ) (lt : n < length steps) (step : Step) (is : step ≡ get_or steps n step) where
  -- whether the next one applies decides
  one_turn : (answer : Bool) (c d : Contents) → MadeFirst steps n c d → Tells step.table step.change answer d → (server : Server) (rows : TableDef → Rows) → TablesApart server → SourceStands server rows → HasSource server rows c → AllByRecursion (IsOfServer server) steps → apply_to_each (tables_of server) (changes_of steps) rows ≡ (answer && apply_to_each (tables_of server) (changes_of (drop (n + 1) steps)) (rows_after (take (n + 1) steps) rows))
  one_turn answer c d made tells server rows apart stand has of =
      let xs = take n steps in
      let rest = drop (n + 1) steps in
      let now = rows_after xs rows in
      let both = made_source server apart xs rows c stand has (all_take (IsOfServer server) steps n of) (all_take StepCanBeMade steps n can) in
      let here : HasSource server now d = subst (HasSource server now) (sym made.makes) both.0 in
      let of_step : IsOfServer server step = subst (IsOfServer server) (sym is) (all_at_place (IsOfServer server) steps n step of lt) in
      let says : answer ≡ applies_here step.table.def step.change (now step.table.def) = tells.decides (now step.table.def) (stand_at server now step both.1 of_step) (rows_at server now step d here of_step) in
      let its : applies_to_each (tables_of server) step.change now ≡ answer = applies_to_own (tables_of server) step.change step.table.def now apart.found of_step.named ∙ sym says in
      let split : drop n steps ≡ step ∷ rest = drop_more steps n step lt ∙ ap (λ (s : Step). s ∷ rest) (sym is) in
      let more : (λ def. after_change def step.change (now def)) ≡ rows_after (take (n + 1) steps) rows = λ i def. (sym (after_more def xs step (rows def)) ∙ ap (λ (l : List Step). after_changes def (changes_of l) (rows def)) (ap (λ (s : Step). xs ++ s ∷ []) is ∙ sym (take_more steps n step lt))) i in
      made.left server rows apart stand has of
      ∙ ap (λ (l : List Step). apply_to_each (tables_of server) (changes_of l) now) split
      ∙ first_then_others (tables_of server) step.change (changes_of rest) now
      ∙ (λ i. its i && apply_to_each (tables_of server) (changes_of rest) (more i))

  pub first_next : (c d e : Contents) → MadeFirst steps n c d → MakesOne step true d e → MadeFirst steps (n + 1) c e
  first_next c d e made one = record {
    makes = one.makes ∙ ap (with_made step.table step.change) made.makes ∙ sym (made_more (take n steps) step c) ∙ ap (λ (l : List Step). all_made l c) taken;
    back = ap (λ (l : List Step). all_unmade l e) (sym taken) ∙ unmade_more (take n steps) step e ∙ ap (λ (x : Contents). all_unmade (take n steps) (with_made step.table (inverse step.change) x)) one.makes ∙ ap (all_unmade (take n steps)) (one.tells.back refl) ∙ made.back;
    left = one_turn true c d made one.tells;
  }
    where
      taken : take n steps ++ step ∷ [] ≡ take (n + 1) steps
      taken = ap (λ (s : Step). take n steps ++ s ∷ []) is ∙ sym (take_more steps n step lt)

  pub first_stops : (c d e : Contents) → MadeFirst steps n c d → MakesOne step false d e → MakesFirst steps n c e
  first_stops c d e made one = record {
    few = omega (arith, lt);
    makes = one.makes ∙ made.makes;
    back = ap (all_unmade (take n steps)) one.makes ∙ made.back;
    whole = λ all. absurd (omega (arith, lt, all));
    stopped = λ some. one_turn false c d made one.tells;
  }

-- all were made
pub first_all : (steps : List Step) (n : ℕ) (c d : Contents) → length steps ≤ n → MadeFirst steps n c d → MakesFirst steps (length steps) c d
first_all steps n c d all made = record {
  few = omega arith;
  makes = made.makes ∙ ap (λ (l : List Step). all_made l c) same;
  back = ap (λ (l : List Step). all_unmade l d) (sym same) ∙ made.back;
  whole = λ e server rows apart stand has of. made.left server rows apart stand has of ∙ ap (λ (l : List Step). apply_to_each (tables_of server) (changes_of l) (rows_after (take n steps) rows)) (dropped steps n all) ∙ empty_list_applies (tables_of server) (rows_after (take n steps) rows);
  stopped = λ some. absurd (omega (arith, some));
}
  where
    same : take n steps ≡ take (length steps) steps
    same = take_whole steps n all ∙ sym (take_whole steps (length steps) (omega arith))

    dropped : (steps : List Step) (n : ℕ) → length steps ≤ n → drop n steps ≡ []
    dropped [] zero le = refl
    dropped [] (suc n) le = refl
    dropped (s ∷ steps) zero le = absurd (omega arith)
    dropped (s ∷ steps) (suc n) le = dropped steps n (omega arith)

-- no new damage is shown
pub made_shown : (steps : List Step) (n : ℕ) (c d : Contents) → AllByRecursion StepCanBeMade steps → MadeFirst steps n c d → ShownBefore rules c d
made_shown steps n c d can made = extended_shown c d (subst (Extends c) (sym made.makes) (all_made_extends (take n steps) c (all_take StepCanBeMade steps n can)))
