-- A unit shows another code: proofs.
use Rattle.std.proofs.Common.{◌≡◌, ℕ, ◌≤◌, ◌^◌, Bool, true, false, cond, List, [], ◌∷◌, refl, sym, ap, subst, ◌∙◌, ◌==◌, Option, Some, None, IfSome, nat_cmp, eqb-true}
use Rattle.std.specs.List.{AllByRecursion}
use Rattle.std.proofs.lemmas.Option.{same_Some, none-some}
use Rattle.world_store.specs.Words.{Is64, b64, one_whole, whole_order, order64, IsUow, uow_spelling, one_uow, UowRow, table_from_rows, key_same, same_is, RowFits}
use Rattle.site_store.specs.Words.{Contents, Table, put_at, same_key, Kept, Bounds, AtServer, Fails, Shows, ShownBefore, IsMissing, Misspelt, MissesOrMisreads, sees, adds_put, misspelt_shows, Breaks, read_breaks}
use Rattle.site_store.specs.declared.sites.Sites.{Sites}
use Rattle.repl_model.specs.Words.{Area, DamageCause, Fault}
use Rattle.repl_types.specs.declared.area.Area.TheVariants as areas
use Rattle.repl_types.specs.declared.status.DamageCause.TheVariants as causes
use Rattle.cd_tables.specs.Dropping.{with_code, codes_set, SetsCode}
use Rattle.cd_tables.specs.StoredRows.{HasUnit, AreUnitRows, HasUnitRows, row_rules}
use Rattle.cd_tables.proofs.RowsShown.{rows_shown}

-- the stored units
abbrev unit_table : List (ℕ × UowRow) → Table
unit_table rows = table_from_rows b64 uow_spelling rows

module _ (seq code : ℕ) where
  -- other units stay
  others_stay : (k : List ℕ) → same_key (b64 seq) k ≡ false → (rows : List (ℕ × UowRow)) → unit_table (codes_set seq code rows) k ≡ unit_table rows k
  others_stay k apart [] = refl
  others_stay k apart (r ∷ rs) = pick (r.0 == seq) refl (others_stay k apart rs)
    where
      pick : (b : Bool) → (r.0 == seq) ≡ b → unit_table (codes_set seq code rs) k ≡ unit_table rs k → unit_table (cond b (r.0, with_code code r.1) r ∷ codes_set seq code rs) k ≡ unit_table (r ∷ rs) k
      pick true e rest =
          let other : same_key (b64 r.0) k ≡ false = subst (λ (n : ℕ). same_key (b64 n) k ≡ false) (sym (eqb-true r.0 seq e)) apart in
          ap (λ (b : Bool). cond b (Some (uow_spelling (with_code code r.1))) (unit_table (codes_set seq code rs) k)) other
          ∙ rest
          ∙ sym (ap (λ (b : Bool). cond b (Some (uow_spelling r.1)) (unit_table rs k)) other)
      pick false e rest = ap (λ (o : Option (List ℕ)). cond (same_key (b64 r.0) k) (Some (uow_spelling r.1)) o) rest

  module _ (small : Is64 seq) (row : UowRow) (fits : IsUow row) where
    -- the unit itself shows the code
    itself : (rows : List (ℕ × UowRow)) → AllByRecursion (RowFits Is64 IsUow) rows → unit_table rows (b64 seq) ≡ Some (uow_spelling row) → unit_table (codes_set seq code rows) (b64 seq) ≡ Some (uow_spelling (with_code code row))
    itself [] fit had = absurd cc
    itself (r ∷ rs) fit had = pick (r.0 == seq) refl (itself rs fit.1)
      where
        same : (b : Bool) → (r.0 == seq) ≡ b → same_key (b64 r.0) (b64 seq) ≡ b
        same b e = key_same b64 (2 ^ 64) (λ x y fx fy. whole_order Is64 b64 nat_cmp order64 x y fx fy) r.0 seq fit.0.0 small ∙ e

        pick : (b : Bool) → (r.0 == seq) ≡ b → (unit_table rs (b64 seq) ≡ Some (uow_spelling row) → unit_table (codes_set seq code rs) (b64 seq) ≡ Some (uow_spelling (with_code code row))) → unit_table (cond b (r.0, with_code code r.1) r ∷ codes_set seq code rs) (b64 seq) ≡ Some (uow_spelling (with_code code row))
        pick true e rest =
            let one : r.1 ≡ row = one_whole IsUow uow_spelling one_uow r.1 row fit.0.1 fits (same_Some (uow_spelling r.1) (uow_spelling row) (sym (ap (λ (b : Bool). cond b (Some (uow_spelling r.1)) (unit_table rs (b64 seq))) (same true e)) ∙ had)) in
            ap (λ (b : Bool). cond b (Some (uow_spelling (with_code code r.1))) (unit_table (codes_set seq code rs) (b64 seq))) (same true e)
            ∙ ap (λ (x : UowRow). Some (uow_spelling (with_code code x))) one
        pick false e rest =
            ap (λ (b : Bool). cond b (Some (uow_spelling r.1)) (unit_table (codes_set seq code rs) (b64 seq))) (same false e)
            ∙ rest (sym (ap (λ (b : Bool). cond b (Some (uow_spelling r.1)) (unit_table rs (b64 seq))) (same false e)) ∙ had)

    -- so the stored units are those with the code
    codes_stand : (rows : List (ℕ × UowRow)) → AreUnitRows rows → (c : Contents) → HasUnitRows rows c → c areas.Uow 0 (b64 seq) ≡ Some (uow_spelling row) → HasUnitRows (codes_set seq code rows) (put_at c areas.Uow 0 (b64 seq) (Some (uow_spelling (with_code code row))))
    codes_stand rows are c has had = λ i k. pick k (same_key (b64 seq) k) refl i
      where
        new : List ℕ
        new = uow_spelling (with_code code row)

        own : unit_table (codes_set seq code rows) (b64 seq) ≡ Some new
        own = itself rows are.fit (sym (ap (λ (t : Table). t (b64 seq)) has) ∙ had)

        pick : (k : List ℕ) (b : Bool) → same_key (b64 seq) k ≡ b → cond b (Some new) (c areas.Uow 0 k) ≡ unit_table (codes_set seq code rows) k
        pick k true e = sym (subst (λ (q : List ℕ). unit_table (codes_set seq code rows) q ≡ Some new) (same_is (b64 seq) k e) own)
        pick k false e = ap (λ (t : Table). t k) has ∙ sym (others_stay k e rows)

    -- the row that was read is put with the code
    pub sets_code : code ≤ 4 → (c d : Contents) → c areas.Uow 0 (b64 seq) ≡ Some (uow_spelling row) → d ≡ put_at c areas.Uow 0 (b64 seq) (Some (uow_spelling (with_code code row))) → SetsCode seq code c d
    sets_code le c d had sets = record {
      row = row;
      fits = fits;
      had = had;
      sets = sets;
      rows = λ rows are has. ap (λ (f : Contents). f areas.Uow 0) sets ∙ codes_stand rows are c has had;
      shown = subst (ShownBefore row_rules c) (sym sets) (rows_shown c (put_at c areas.Uow 0 (b64 seq) (Some (uow_spelling (with_code code row)))) (adds_put row_rules c areas.Uow 0 (b64 seq) (uow_spelling (with_code code row)) (seq, small, refl) (with_code code row, (fits.0, fits.1, fits.2, le), refl)) refl refl);
    }

-- a unit's row that stands there isn't missing, so a read of it fails for another reason
pub unit_breaks : {K : Type 0} (kept : K → Kept) (s0 s1 : Sites K) (server seq : ℕ) (most : Bounds) (e : Fault) → IfSome (sees kept s0 server) (HasUnit seq) → Fails kept s0 s1 most (AtServer server (MissesOrMisreads areas.Uow (IsMissing areas.Uow 0 (b64 seq) (sees kept s0 server)) (Misspelt IsUow uow_spelling areas.Uow 0 (b64 seq) (sees kept s0 server)))) e → Breaks row_rules kept s0 s1 server e
unit_breaks kept s0 s1 server seq most e there f = read_breaks row_rules kept s0 s1 server (MissesOrMisreads areas.Uow (IsMissing areas.Uow 0 (b64 seq) saw) (Misspelt IsUow uow_spelling areas.Uow 0 (b64 seq) saw)) most e shows f
  where
    saw : Option Contents
    saw = sees kept s0 server

    stands : (o : Option Contents) → IfSome o (HasUnit seq) → IfSome o (λ c. c areas.Uow 0 (b64 seq) ≡ None) → (b : Area) (bytes : List ℕ) → IfSome o (λ c. (c b 0 bytes ≡ None) × row_rules.is_needed b 0 bytes c)
    stands None has missing b bytes = tt
    stands (Some c) has missing b bytes = absurd (none-some (uow_spelling has.0) (sym missing ∙ has.2))

    shows : (b : Area) (cause : DamageCause) → MissesOrMisreads areas.Uow (IsMissing areas.Uow 0 (b64 seq) saw) (Misspelt IsUow uow_spelling areas.Uow 0 (b64 seq) saw) b cause → Shows row_rules b cause saw
    shows b (causes.Spelling bytes) h = misspelt_shows IsUow uow_spelling row_rules areas.Uow b 0 (b64 seq) saw (causes.Spelling bytes) (λ x is. is) h
    shows b (causes.Absent bytes) h = (0, stands saw there h.1.1 b bytes)
    shows b (causes.Unfit bytes) h = absurd h
    shows b (causes.NoRest steps) h = absurd h
