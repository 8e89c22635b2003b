-- The rows of sets that stand at a server, by their names.
use Rattle.std.proofs.Common.{◌≡◌, ℕ, Bool, true, false, cond, not, List, [], ◌∷◌, map, refl, sym, ap, ap₂, subst, ◌∙◌, inl, inr, find, Option, Some, None, slice_get}
use Rattle.std.specs.List.{AllByRecursion, enumerate_from, list_any}
use Rattle.std.specs.FinMap.{IsAntisymmetric}
use Rattle.std.proofs.lemmas.Bool.{and_parts}
use Rattle.world_store.specs.Words.{name_cmp, set_cmp, IsSet, set_spelling, One, one_whole, name_cmp_exact, table_from_rows, fits_each, row_of, no_row_at, source_set_rows, target_set_rows, Holds, RowFits, source_rows_are, target_rows_are, set_one, both_tie}
use Rattle.site_store.specs.Words.{Contents, Table}
use Rattle.repl_model.specs.Words.{SetId, source_set_spelling, IsSourceSet, target_set_spelling, IsTargetSet, SourceSet, TargetSet, one_source_set, one_target_set, all_differ, ServerKeepsRules, by_key, SourceSide, TargetSide, Server, World, same_set, source_side, target_side, entry_has_row, row_is_entry, in_numbered, numbered_place, at_place_in, In, at_one, first_alone, in_second, in_map, image_in, found_in, same_id, id_itself}
use Rattle.repl_types.specs.declared.area.Area.TheVariants as areas
use Rattle.stored_defs.specs.laws.Standing.{holds_defs}

-- ---- names of sets

-- names of sets of which neither is before the other are one
set_cmp_exact : IsAntisymmetric set_cmp
set_cmp_exact a b e =
    let both = both_tie (name_cmp a.qual b.qual) (name_cmp a.name b.name) e in
    ap₂ (λ (qual name : List ℕ). record { qual = qual; name = name }) (name_cmp_exact a.qual b.qual both.0) (name_cmp_exact a.name b.name both.1)

-- ---- things by their names

-- what passes a test is found by it, if no two things of the list are alike and all that pass are
pub found_alone : {X : Type 0} (p : X → Bool) (same : X → X → Bool) (xs : List X) (x : X) → ((a b : X) → p a ≡ true → p b ≡ true → same a b ≡ true) → all_differ same xs ≡ true → In x xs → p x ≡ true → find p xs ≡ Some x
found_alone p same [] x alike differ i e = absurd i
found_alone {X} p same (y ∷ ys) x alike differ (inl is) e = ap (λ (t : Bool). cond t (Some y) (find p ys)) (ap p (sym is) ∙ e) ∙ ap Some (sym is)
found_alone {X} p same (y ∷ ys) x alike differ (inr i) e = by_test (p y) refl (found_alone p same ys x alike (and_parts (not (list_any (same y) ys)) (all_differ same ys) differ).1 i e)
  where
    by_test : (t : Bool) → p y ≡ t → find p ys ≡ Some x → cond t (Some y) (find p ys) ≡ Some x
    by_test true passes rest = absurd (first_alone same y ys differ x i (alike y x passes e))
    by_test false fails rest = rest

module _ {S : Type 0} (id_of : S → SetId) where
  -- the thing with the name of a set is found by it, if no two have one name
  pub found_by_name : (xs : List S) (x : S) (id : SetId) → all_differ (λ a b. same_set (id_of a) (id_of b)) xs ≡ true → In x xs → id_of x ≡ id → find (λ a. same_set id (id_of a)) xs ≡ Some x
  found_by_name xs x id differ i named = found_alone (λ (a : S). same_set id (id_of a)) (λ (a b : S). same_set (id_of a) (id_of b)) xs x
      (λ a b p q. ap₂ same_set (sym (same_id id (id_of a) p)) (sym (same_id id (id_of b) q)) ∙ id_itself id) differ i (ap (same_set id) named ∙ id_itself id)

  -- and none is found if none has the name
  pub none_by_name : (xs : List S) (id : SetId) → ((x : S) → In x xs → id_of x ≡ id → ⊥) → find (λ a. same_set id (id_of a)) xs ≡ None
  none_by_name xs id none = by_found (find (λ (a : S). same_set id (id_of a)) xs) refl
    where
      by_found : (o : Option S) → find (λ (a : S). same_set id (id_of a)) xs ≡ o → o ≡ None
      by_found None found = refl
      by_found (Some y) found = let r = found_in (λ (a : S). same_set id (id_of a)) xs y found in absurd (none y r.0 (sym (same_id id (id_of y) r.1)))

-- ---- rows of sets, with their numbers

module _ {S R : Type 0} (id_of : S → SetId) (row_with : ℕ → S → R) (fits : R → Type 0) (spelling : R → List ℕ) (sides : List S) where
  -- a row of a set under its name
  abbrev entry : ℕ × S → SetId × R
  entry s = (id_of s.1, row_with s.0 s.1)

  -- all of them
  abbrev rows : List (SetId × R)
  rows = by_key set_cmp (map entry (enumerate_from 0 sides))

  -- what stands under a name is the row of the set with that name and the row's number
  row_at : One fits spelling → AllByRecursion (RowFits IsSet fits) rows → (id : SetId) (r : R) → fits r → table_from_rows set_spelling spelling rows (set_spelling id) ≡ Some (spelling r) → (n : ℕ) × (side : S) × (slice_get sides n ≡ Some side) × (id_of side ≡ id) × (row_with n side ≡ r)
  row_at one all id r fit has =
      let found = row_of set_spelling spelling rows (set_spelling id) (spelling r) has in
      let row : SetId × R = found.0 in
      let i : In row rows = subst (In row) (sym found.1.split) (in_second found.1.front (row ∷ found.1.back) row (inl refl)) in
      let s = in_map entry (enumerate_from 0 sides) row (row_is_entry set_cmp set_cmp_exact (map entry (enumerate_from 0 sides)) row i) in
      let same : row.1 ≡ r = one_whole fits spelling one row.1 r (fits_each (RowFits IsSet fits) rows row all found.1).1 fit found.3 in
      (s.0.0, s.0.1, numbered_place sides s.0 s.1, ap (λ (q : SetId × R). q.0) (sym s.2) ∙ set_one row.0 id found.2, ap (λ (q : SetId × R). q.1) (sym s.2) ∙ same)

  -- if nothing stands under a name, no set has it
  none_at : (id : SetId) → table_from_rows set_spelling spelling rows (set_spelling id) ≡ None → (side : S) → In side sides → id_of side ≡ id → ⊥
  none_at id none side i named =
      let m = in_numbered 0 sides side i in
      let r = entry_has_row set_cmp set_cmp_exact id (λ (x : R). Unit {0}) (map entry (enumerate_from 0 sides)) (λ e j same. tt) (entry (m.0, side)) (image_in entry (enumerate_from 0 sides) (m.0, side) m.1) named in
      at_one (λ (q : SetId × R). set_spelling q.0 ≡ set_spelling id → ⊥) rows r.0 (no_row_at set_spelling spelling rows (set_spelling id) none) r.1 (ap set_spelling r.2)

-- ---- the rows of a server

module _ (w : World) (server : Server) (keeps : ServerKeepsRules w server) where
  -- the set whose row stands under a name is the one with the row's number among those whose source the server is
  pub source_row_is : (id : SetId) (r : SourceSet) → IsSourceSet r → table_from_rows set_spelling source_set_spelling (source_set_rows server) (set_spelling id) ≡ Some (source_set_spelling r) → (side : SourceSide) × (source_side id server ≡ Some side) × (slice_get server.source_sets r.number ≡ Some side) × (r.def ≡ side.def)
  source_row_is id r fit has =
      let s = row_at (λ (side : SourceSide). side.def.id) (λ n side. record { number = n; def = side.def }) IsSourceSet source_set_spelling server.source_sets one_source_set (source_rows_are w server keeps).fit id r fit has in
      (s.1, found_by_name (λ (side : SourceSide). side.def.id) server.source_sets s.1 id keeps.source_names (at_place_in server.source_sets s.0 s.1 s.2) s.3, ap (λ (q : SourceSet). slice_get server.source_sets q.number) (sym s.4) ∙ s.2, ap (λ (q : SourceSet). q.def) (sym s.4))

  -- and no set has the name if no row stands under it
  pub no_source_row : (id : SetId) → table_from_rows set_spelling source_set_spelling (source_set_rows server) (set_spelling id) ≡ None → source_side id server ≡ None
  no_source_row id none = none_by_name (λ (side : SourceSide). side.def.id) server.source_sets id (none_at (λ (side : SourceSide). side.def.id) (λ n side. record { number = n; def = side.def }) IsSourceSet source_set_spelling server.source_sets id none)

  -- the same of the sets whose target it is
  pub target_row_is : (id : SetId) (r : TargetSet) → IsTargetSet r → table_from_rows set_spelling target_set_spelling (target_set_rows server) (set_spelling id) ≡ Some (target_set_spelling r) → (side : TargetSide) × (target_side id server ≡ Some side) × (slice_get server.target_sets r.number ≡ Some side) × (r.def ≡ side.def)
  target_row_is id r fit has =
      let s = row_at (λ (side : TargetSide). side.def.id) (λ n side. record { number = n; def = side.def }) IsTargetSet target_set_spelling server.target_sets one_target_set (target_rows_are w server keeps).fit id r fit has in
      (s.1, found_by_name (λ (side : TargetSide). side.def.id) server.target_sets s.1 id keeps.target_names (at_place_in server.target_sets s.0 s.1 s.2) s.3, ap (λ (q : TargetSet). slice_get server.target_sets q.number) (sym s.4) ∙ s.2, ap (λ (q : TargetSet). q.def) (sym s.4))

  -- and of their names
  pub no_target_row : (id : SetId) → table_from_rows set_spelling target_set_spelling (target_set_rows server) (set_spelling id) ≡ None → target_side id server ≡ None
  no_target_row id none = none_by_name (λ (side : TargetSide). side.def.id) server.target_sets id (none_at (λ (side : TargetSide). side.def.id) (λ n side. record { number = n; def = side.def }) IsTargetSet target_set_spelling server.target_sets id none)

-- ---- rows that a server holds

module _ (w : World) (server : Server) (c : Contents) (keeps : ServerKeepsRules w server) (holds : Holds w server c) (key : List ℕ) where
  -- a row of a set that stands in its contents is that of the set with the row's number among those whose source it is
  pub held_source_row : (r : SourceSet) → IsSourceSet r → c areas.Defs 2 key ≡ Some (source_set_spelling r) → (side : SourceSide) × (slice_get server.source_sets r.number ≡ Some side) × (r.def ≡ side.def)
  held_source_row r fit has =
      let here : table_from_rows set_spelling source_set_spelling (source_set_rows server) key ≡ Some (source_set_spelling r) = ap (λ (u : Table). u key) (sym (holds_defs w server c holds 2)) ∙ has in
      let found = row_of set_spelling source_set_spelling (source_set_rows server) key (source_set_spelling r) here in
      let s = source_row_is w server keeps found.0.0 r fit (ap (table_from_rows set_spelling source_set_spelling (source_set_rows server)) found.2 ∙ here) in
      (s.0, s.2, s.3)

  -- the same of a set whose target it is
  pub held_target_row : (r : TargetSet) → IsTargetSet r → c areas.Defs 3 key ≡ Some (target_set_spelling r) → (side : TargetSide) × (slice_get server.target_sets r.number ≡ Some side) × (r.def ≡ side.def)
  held_target_row r fit has =
      let here : table_from_rows set_spelling target_set_spelling (target_set_rows server) key ≡ Some (target_set_spelling r) = ap (λ (u : Table). u key) (sym (holds_defs w server c holds 3)) ∙ has in
      let found = row_of set_spelling target_set_spelling (target_set_rows server) key (target_set_spelling r) here in
      let s = target_row_is w server keeps found.0.0 r fit (ap (table_from_rows set_spelling target_set_spelling (target_set_rows server)) found.2 ∙ here) in
      (s.0, s.2, s.3)
