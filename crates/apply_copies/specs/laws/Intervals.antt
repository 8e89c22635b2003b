-- The change rows of an interval are those of its units, among all that a server has captured.
use Rattle.std.proofs.Common.{◌≡◌, ℕ, ◌≤◌, Bool, true, false, cond, List, [], ◌∷◌, ◌++◌, map, refl, sym, ap, ◌∙◌, arith, ◌&&◌, nat_lt, nat_le, max, filter}
use Rattle.std.specs.List.{AllByRecursion, flat_map}
use Rattle.std.proofs.lemmas.Bool.{ltb-true, leb-true, lt-ltb, le-leb, and_parts, and_right}
use Rattle.std.proofs.lemmas.List.Elements.{filter-append}
use Rattle.world_store.specs.Words.{CdKey, ChangeRow}
use Rattle.repl_model.specs.Words.{CdRow, Registration, LogRecord, all_weaker, filter_none, filter_all, filter_alike, change_rows, changes_between, units_between, units, Registered, Server, filter_images}
use Rattle.repl_types.specs.declared.unit.Unit.{Unit as LogUnit}
use Rattle.stored_commits.specs.units.StoredChanges.{stored_change}
use Rattle.cd_tables.specs.Captured.{captured_changes}
use Rattle.cd_tables.specs.StoredRows.{change_of}
use Rattle.cd_tables.specs.laws.InOrder.{all_always, filter_and}
use Rattle.cd_tables.specs.laws.SoundChanges.{IsOfUnit, of_unit}
use Rattle.apply_copies.specs.Changing.{rows_between}

-- ---- lists

-- a filter of what a weaker filter keeps keeps what it keeps of all
filter_within : {X : Type 0} (p q : X → Bool) → ((x : X) → p x ≡ true → q x ≡ true) → (xs : List X) → filter p (filter q xs) ≡ filter p xs
filter_within {X} p q weaker xs = sym (filter_and q p xs) ∙ filter_alike (λ x. q x && p x) p xs (all_always (λ x. (q x && p x) ≡ p x) (λ x. one x (p x) refl) xs)
  where
    one : (x : X) (t : Bool) → p x ≡ t → (q x && p x) ≡ p x
    one x true e = ap (λ (b : Bool). b && p x) (weaker x e)
    one x false e = and_right (q x) (p x) e ∙ sym e

-- ---- the change rows of units

module _ (reg : Registration) where
  -- the rows whose seqs pass a test are those of the units that do
  kept_rows : (p : ℕ → Bool) (us : List LogUnit) → filter (λ r. p r.commitseq) (flat_map (change_rows reg) us) ≡ flat_map (change_rows reg) (filter (λ u. p u.head.seq) us)
  kept_rows p [] = refl
  kept_rows p (u ∷ us) = filter-append (λ (r : CdRow). p r.commitseq) (change_rows reg u) (flat_map (change_rows reg) us) ∙ pick (p u.head.seq) refl (kept_rows p us)
    where
      passes : (t : Bool) → p u.head.seq ≡ t → AllByRecursion (λ (r : CdRow). p r.commitseq ≡ t) (change_rows reg u)
      passes t e = all_weaker (IsOfUnit u) (λ (r : CdRow). p r.commitseq ≡ t) (change_rows reg u) (λ r is. ap p is ∙ e) (of_unit reg u)

      pick : (t : Bool) → p u.head.seq ≡ t → filter (λ (r : CdRow). p r.commitseq) (flat_map (change_rows reg) us) ≡ flat_map (change_rows reg) (filter (λ (v : LogUnit). p v.head.seq) us)
          → filter (λ (r : CdRow). p r.commitseq) (change_rows reg u) ++ filter (λ (r : CdRow). p r.commitseq) (flat_map (change_rows reg) us) ≡ flat_map (change_rows reg) (cond t (u ∷ filter (λ (v : LogUnit). p v.head.seq) us) (filter (λ (v : LogUnit). p v.head.seq) us))
      pick true e rest = λ i. filter_all (λ (r : CdRow). p r.commitseq) (change_rows reg u) (passes true e) i ++ rest i
      pick false e rest = λ i. filter_none (λ (r : CdRow). p r.commitseq) (change_rows reg u) (passes false e) i ++ rest i

  -- the rows of an interval among those of a longer one
  longer_rows : (log : List LogRecord) (first low high last : ℕ) → first ≤ low → high ≤ last → filter (λ r. nat_lt low r.commitseq && nat_le r.commitseq high) (changes_between log reg first last) ≡ changes_between log reg low high
  unfolding changes_between
  longer_rows log first low high last le before =
      kept_rows (λ seq. nat_lt low seq && nat_le seq high) (units_between first last log)
      ∙ ap (flat_map (change_rows reg)) (filter_within (λ (u : LogUnit). nat_lt low u.head.seq && nat_le u.head.seq high) (λ u. nat_lt first u.head.seq && nat_le u.head.seq last) (λ u in_short. in_long u.head.seq (and_parts (nat_lt low u.head.seq) (nat_le u.head.seq high) in_short)) (units log))
    where
      in_long : (seq : ℕ) → (nat_lt low seq ≡ true) × (nat_le seq high ≡ true) → (nat_lt first seq && nat_le seq last) ≡ true
      in_long seq h =
          let above = ltb-true low seq h.0 in
          let below = leb-true seq high h.1 in
          λ i. lt-ltb first seq (omega (arith, le, above)) i && le-leb seq last (omega (arith, before, below)) i

-- ---- captured change rows

-- change rows as they are stored, with their keys again
change_rows_again : (rows : List CdRow) → map change_of (map stored_change rows) ≡ rows
change_rows_again [] = refl
change_rows_again (r ∷ rows) = ap (λ (l : List CdRow). r ∷ l) (change_rows_again rows)

-- those of an interval that is captured whole are the changes of its units
pub interval_rows : (server : Server) (r : Registered) (low high : ℕ) → r.active ≡ true → r.start ≤ low → r.floor ≤ low → high ≤ server.captured → rows_between low high (captured_changes server r) ≡ changes_between server.log r.reg low high
interval_rows server r low high active start floor captured =
    ap (λ (b : Bool). rows_between low high (cond b (map stored_change rows) [])) active
    ∙ ap (map change_of) (filter_images stored_change (λ (q : CdKey × ChangeRow). nat_lt low q.0.commitseq && nat_le q.0.commitseq high) rows)
    ∙ change_rows_again (filter (λ (q : CdRow). nat_lt low q.commitseq && nat_le q.commitseq high) rows)
    ∙ longer_rows r.reg server.log (max r.start r.floor) low high server.captured (omega (arith, start, floor)) captured
  where
    rows : List CdRow
    rows = changes_between server.log r.reg (max r.start r.floor) server.captured
