-- A unit is captured, change by change: proofs.
use Rattle.std.proofs.Common.{◌≡◌, ℕ, ◌+◌, ◌<◌, ◌≤◌, Bool, true, false, cond, List, [], ◌∷◌, ◌++◌, length, get_or, take, drop, refl, sym, ap, subst, ◌∙◌, arith, fold, Option, Some, flat_map}
use Rattle.std.proofs.lemmas.List.{take-append-drop, take_all, take_more, drop_more}
use Rattle.world_store.specs.Words.{b64, uow_spelling}
use Rattle.site_store.specs.Words.{Contents, set_key, ShownBefore}
use Rattle.repl_model.specs.Words.{Area, Placed, Unit, rows_of_placed, Registered, Server, World, registered_of}
use Rattle.repl_types.specs.declared.area.Area.TheVariants as areas
use Rattle.world_commits.specs.captures.Captures.{rows_captured}
use Rattle.stored_commits.specs.units.StoredChanges.{with_uow_row}
use Rattle.stored_commits.specs.units.StoredCaptures.{HasCaptured, HasPart, IsNextUnit}
use Rattle.cd_tables.specs.Appending.{Becomes, AppendsChange, is_of_unit, CapturesUnit}
use Rattle.cd_tables.specs.Known.{IsKnown}
use Rattle.cd_tables.specs.Rules.{rules}
use Rattle.cd_tables.specs.declared.stated.StatedRegistration.{StatedRegistration}
use Rattle.cd_tables.proofs.Elsewhere.{uow_elsewhere, change_elsewhere}
use Rattle.cd_tables.proofs.Shown.{shown_then}
use Rattle.stored_commits.specs.laws.Begins.{unit_begins}
use Rattle.stored_commits.specs.laws.GoesOn.{unit_goes_on}
use Rattle.stored_commits.specs.laws.Ends.{unit_ends}

-- Some changes of a unit were captured, and so many change rows put.
pub record CapturesPart (u : Unit) (changes : List Placed) (rows : ℕ) (c d : Contents) : Type 0 where
  pub others : (a : Area) (n : ℕ) → is_of_unit a n ≡ false → d a n ≡ c a n
  pub shown : ShownBefore rules c d
  pub part : (world : World) (server : Server) → IsNextUnit world server u → HasCaptured server c → HasPart server u changes d × (rows ≡ rows_captured u.head.seq changes server)

-- They were, and what is known of a registration stands in the contents that were made.
abbrev pub CapturesKnowing : Unit → List Placed → ℕ → Option StatedRegistration → Contents → Contents → Type 0
CapturesKnowing u changes rows known c d = CapturesPart u changes rows c d × IsKnown known d

-- no change has no rows
no_rows_captured : (seq : ℕ) (server : Server) → 0 ≡ rows_captured seq [] server
no_rows_captured seq server = sym (adds (registered_of server) 0)
  where
    none : (b : Bool) (n : ℕ) → n + cond b 0 0 ≡ n
    none true n = omega arith
    none false n = omega arith

    adds : (rs : List Registered) (n : ℕ) → fold (λ sum r. sum + cond r.active (length (flat_map (rows_of_placed r.reg seq) [])) 0) n rs ≡ n
    adds [] n = refl
    adds (r ∷ rs) n = adds rs (n + cond r.active 0 0) ∙ none r.active n

-- the row of the unit is put
pub part_begins : (u : Unit) (c d : Contents) → Becomes (with_uow_row u.head) c d → CapturesPart u [] 0 c d
part_begins u c d now = record {
  others = λ a n other. ap (λ (f : Contents). f a n) now.0 ∙ uow_elsewhere (set_key (c areas.Uow 0) (b64 u.head.seq) (Some (uow_spelling (record { time = u.head.time; authid = u.head.authid; origin = u.head.origin; code = 0 })))) c a n other;
  shown = now.1;
  part = λ world server next has. (subst (HasPart server u []) (sym now.0) (unit_begins world server u c next has), no_rows_captured u.head.seq server);
}

-- one more change is captured
part_goes_on : (u : Unit) (changes : List Placed) (placed : Placed) (rest : List Placed) (rows more : ℕ) (c d e : Contents) → u.changes ≡ changes ++ placed ∷ rest → CapturesPart u changes rows c d → AppendsChange u.head.seq placed more d e → CapturesPart u (changes ++ placed ∷ []) (rows + more) c e
part_goes_on u changes placed rest rows more c d e split before now = record {
  others = λ a n other. change_elsewhere u.head.seq placed more d e now.captures a n other ∙ before.others a n other;
  shown = shown_then c d e before.shown now.shown;
  part = λ world server next has.
      let p = before.part world server next has in
      let q = unit_goes_on world server u changes placed rest more d e next split p.0 now.captures in
      (q.0, ap (λ (n : ℕ). n + more) p.1 ∙ sym q.1);
}

module _ (u : Unit) (changes : List Placed) (own : changes ≡ u.changes) (i rows : ℕ) where
  -- the one at the next place
  pub part_next : (placed : Placed) (more : ℕ) (c d e : Contents) → i < length changes → placed ≡ get_or changes i placed → CapturesPart u (take i changes) rows c d → AppendsChange u.head.seq placed more d e → CapturesPart u (take (i + 1) changes) (rows + more) c e
  part_next placed more c d e lt is before now =
      let at : List Placed → List Placed = λ rest. take i changes ++ rest in
      let split : u.changes ≡ take i changes ++ placed ∷ drop (i + 1) changes = sym own ∙ sym (take-append-drop i changes) ∙ ap at (drop_more changes i placed lt) ∙ ap (λ (p : Placed). at (p ∷ drop (i + 1) changes)) (sym is) in
      let taken : take i changes ++ placed ∷ [] ≡ take (i + 1) changes = ap (λ (p : Placed). at (p ∷ [])) is ∙ sym (take_more changes i placed lt) in
      subst (λ (l : List Placed). CapturesPart u l (rows + more) c e) taken (part_goes_on u (take i changes) placed (drop (i + 1) changes) rows more c d e split before now)

  -- once all are captured, so is the unit
  pub part_ends : (c d : Contents) → length changes ≤ i → CapturesPart u (take i changes) rows c d → CapturesUnit u rows c d
  part_ends c d all part =
      let whole : CapturesPart u u.changes rows c d = subst (λ (l : List Placed). CapturesPart u l rows c d) (take_all i changes all ∙ own) part in
      record {
        others = whole.others;
        captures = λ world server next has. let p = whole.part world server next has in (unit_ends world server u d next p.0, p.1);
      }
