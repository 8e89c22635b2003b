-- What a change that is carried out makes of contents: proofs.
use Rattle.std.proofs.Common.{◌≡◌, ℕ, List, inl, inr, refl, sym, ap, ◌∙◌, ◌⊎◌, Some, None}
use Rattle.world_store.specs.Words.{short_text, RegState}
use Rattle.site_store.specs.Words.{Contents}
use Rattle.repl_model.specs.Words.{Values, Change, Placed, DefinedRegistration, table_of}
use Rattle.repl_types.specs.declared.area.Area.TheVariants as areas
use Rattle.repl_types.specs.declared.record.Change.TheVariants.{Insert, Update, Delete, Start, Stop}
use Rattle.stored_commits.specs.units.StoredChanges.{with_rows_of, started, stopped, with_change, rows_put}
use Rattle.cd_tables.specs.Appending.{Becomes, AppendsChange}
use Rattle.cd_tables.specs.Rules.{IsRegistrationOf, FindsRegistration, HasStateOf}

-- the change is of rows
abbrev ChangesRows : Change → Type 0
ChangesRows change =
    ((table : List ℕ) × (row : Values) × (change ≡ Insert table row))
    ⊎ (((table : List ℕ) × (before : Values) × (after : Values) × (change ≡ Update table before after))
    ⊎ ((table : List ℕ) × (row : Values) × (change ≡ Delete table row)))

module _ (seq : ℕ) (placed : Placed) (reg : DefinedRegistration) (state : RegState) (c d : Contents) where
  -- what a change of this kind makes of them
  abbrev by_kind : Change → Contents
  by_kind change = with_change seq (record placed { change = change }) reg state c

  -- a start was made
  pub carries_start : (table : List ℕ) → placed.change ≡ Start table → Becomes (started seq reg.number state) c d → Becomes (with_change seq placed reg state) c d
  carries_start table is now = (now.0 ∙ sym (ap by_kind is), now.1)

  -- a stop
  pub carries_stop : (table : List ℕ) → placed.change ≡ Stop table → Becomes (stopped reg.number state) c d → Becomes (with_change seq placed reg state) c d
  carries_stop table is now = (now.0 ∙ sym (ap by_kind is), now.1)

  -- or change rows were put
  pub carries_rows : ChangesRows placed.change → Becomes (with_rows_of seq placed reg state) c d → Becomes (with_change seq placed reg state) c d
  carries_rows is now = (now.0 ∙ same is, now.1)
    where
      rows_by : Change → Contents
      rows_by change = with_rows_of seq (record placed { change = change }) reg state c

      same : ChangesRows placed.change → with_rows_of seq placed reg state c ≡ with_change seq placed reg state c
      same (inl insert) = sym (ap by_kind insert.2 ∙ sym (ap rows_by insert.2))
      same (inr (inl update)) = sym (ap by_kind update.3 ∙ sym (ap rows_by update.3))
      same (inr (inr delete)) = sym (ap by_kind delete.2 ∙ sym (ap rows_by delete.2))

module _ (seq : ℕ) (placed : Placed) (name : List ℕ) (own : name ≡ table_of placed.change) where
  -- what stands under the name stands under that of the change's table
  named : (c : Contents) → c areas.Defs 1 (short_text (table_of placed.change)) ≡ c areas.Defs 1 (short_text name)
  named c = ap (λ (n : List ℕ). c areas.Defs 1 (short_text n)) (sym own)

  -- a change of a table that isn't registered is passed over
  pub appends_nothing : (c : Contents) → FindsRegistration name None c → AppendsChange seq placed 0 c c
  appends_nothing c none = record { captures = inl (named c ∙ none, refl, refl); shown = λ a cause h. h }

  -- any other is carried out
  pub appends_rows : (rows : ℕ) (reg : DefinedRegistration) (state : RegState) (c d : Contents) → IsRegistrationOf name reg → FindsRegistration name (Some reg) c × HasStateOf reg state c → rows ≡ rows_put seq placed reg state → Becomes (with_change seq placed reg state) c d → AppendsChange seq placed rows c d
  appends_rows rows reg state c d of found count now = record {
    captures = inr (reg, state, record { fits = of.fits; has = named c ∙ found.0; state_fits = found.1.fits; has_state = found.1.stands }, now.0, count);
    shown = now.1;
  }
