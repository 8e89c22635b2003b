-- Change rows are put, one after another: proofs.
use Rattle.std.proofs.Common.{◌≡◌, ℕ, true, false, List, [], ◌∷◌, ◌++◌, refl, sym, subst, ◌∙◌, Some}
use Rattle.world_store.specs.Words.{IsChangeRow, change_row_spelling, change_key_spelling, IsChangeKey, ChangeRow, RegState, CdKey}
use Rattle.site_store.specs.Words.{Contents, put_at}
use Rattle.repl_model.specs.Words.{CdRow, Placed, DefinedRegistration, rows_of}
use Rattle.repl_types.specs.declared.area.Area.TheVariants as areas
use Rattle.stored_commits.specs.units.StoredChanges.{stored_change, with_change_row, with_change_rows, is_captured, with_rows_of}
use Rattle.cd_tables.specs.Appending.{CanBeStored, Becomes}
use Rattle.cd_tables.proofs.Shown.{becomes_row, becomes_itself, becomes_then, becomes_if}

-- one more row is put last
rows_more : (number : ℕ) (rows : List CdRow) (row : CdRow) (c : Contents) → with_change_rows number (rows ++ row ∷ []) c ≡ with_change_row number row (with_change_rows number rows c)
rows_more number [] row c = refl
rows_more number (r ∷ rows) row c = rows_more number rows row (with_change_row number r c)

-- the next row is put after others
pub rows_next : (number : ℕ) (rows : List CdRow) (row : CdRow) (stored : CdKey × ChangeRow) (c d e : Contents) → stored ≡ stored_change row → IsChangeKey stored.0 → CanBeStored row → Becomes (with_change_rows number rows) c d → e ≡ put_at d areas.Cd number (change_key_spelling stored.0) (Some (change_row_spelling stored.1)) → Becomes (with_change_rows number (rows ++ row ∷ [])) c e
rows_next number rows row stored c d e is key_fits can before sets =
    let one : Becomes (with_change_row number row) d e = subst (λ (s : CdKey × ChangeRow). Becomes (λ x. put_at x areas.Cd number (change_key_spelling s.0) (Some (change_row_spelling s.1))) d e) is (becomes_row number stored.0 stored.1 d e key_fits (subst (λ (s : CdKey × ChangeRow). IsChangeRow s.1) (sym is) can.0) sets) in
    let both = becomes_then (with_change_rows number rows) (with_change_row number row) c d e before one in
    (both.0 ∙ sym (rows_more number rows row c), both.1)

module _ (seq : ℕ) (placed : Placed) (reg : DefinedRegistration) (state : RegState) where
  -- a change that isn't captured has none put
  pub captures_nothing : (c : Contents) → is_captured seq state ≡ false → Becomes (with_rows_of seq placed reg state) c c
  captures_nothing c not = becomes_if (is_captured seq state) false (with_change_rows reg.number (rows_of reg.registration seq placed.pos placed.change)) (λ x. x) c c not (becomes_itself c)

  -- and one that is captured has its rows put
  pub captures_rows : (made : List CdRow) (c d : Contents) → is_captured seq state ≡ true → made ≡ rows_of reg.registration seq placed.pos placed.change → Becomes (with_change_rows reg.number made) c d → Becomes (with_rows_of seq placed reg state) c d
  captures_rows made c d captured is now = becomes_if (is_captured seq state) true (with_change_rows reg.number (rows_of reg.registration seq placed.pos placed.change)) (λ x. x) c d captured (subst (λ (l : List CdRow). Becomes (with_change_rows reg.number l) c d) is now)
