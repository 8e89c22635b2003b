-- A target takes one change row: proofs.
use Rattle.std.proofs.Common.{◌≡◌, ℕ, Bool, true, false, cond, List, inl, inr, refl, sym, ap, subst, ◌∙◌, Option, Some, None}
use Rattle.world_store.specs.Words.{key_spelling, row_spelling, copy_spelling, put_here}
use Rattle.site_store.specs.Words.{Contents, Table, same_key, set_key, put_at, Shows, ShownBefore, adds_remove, shown_before}
use Rattle.repl_model.specs.Words.{Values, Area, CdRow, Op, Member, SourceTable, imaged_row, is_selected, target_row}
use Rattle.repl_types.specs.declared.area.Area.TheVariants as areas
use Rattle.repl_types.specs.declared.change_row.Op.TheVariants.{I, U, D}
use Rattle.stored_commits.specs.copies.ChangedCopies.{key_before, key_after, with_row, with_op}
use Rattle.apply_copies.specs.Changing.{RemovesBefore, TakesRow}
use Rattle.apply_copies.specs.Copying.{LoadsSelected, LoadsRow}
use Rattle.apply_copies.specs.Loading.{is_target}
use Rattle.apply_copies.specs.Rules.{target_rules}
use Rattle.apply_copies.proofs.CopiedRows.{put_others, loaded_others}

-- a removal shows no damage that wasn't shown before
pub removed_shown : (number : ℕ) (k : List ℕ) (c d : Contents) → d ≡ put_at c areas.Target number k None → (n : ℕ) → ShownBefore (target_rules n) c d
removed_shown number k c d is n = subst (ShownBefore (target_rules n) c) (sym is) (shown_before (target_rules n) (λ a t key f needed. needed, λ a t key value f unfit. unfit) c (put_at c areas.Target number k None) (adds_remove (target_rules n) c areas.Target number k))

module _ (number : ℕ) (source : SourceTable) (member : Member) (change : CdRow) where
  -- the row from after is put, if it is selected
  loads_after : (key row : Values) (put : ℕ) (c d : Contents) → key ≡ key_after source change → row ≡ imaged_row source change → LoadsRow number member key row put c d → d areas.Target number ≡ with_row source member change (c areas.Target number)
  loads_after key row put c d own image loads = subst (λ (r : Values × Values). d areas.Target number ≡ cond (is_selected member r.1) (set_key (c areas.Target number) (key_spelling r.0) (Some (row_spelling (target_row member r.1)))) (c areas.Target number)) (λ i. (own i, image i)) (pick (is_selected member row) loads.loads)
    where
      pick : (t : Bool) → LoadsSelected t number member key row put c d → d areas.Target number ≡ cond t (set_key (c areas.Target number) (key_spelling key) (Some (row_spelling (target_row member row)))) (c areas.Target number)
      pick true loaded = ap (λ (f : Contents). f areas.Target number) loaded.1 ∙ put_here c areas.Target number (key_spelling key) (Some (row_spelling (target_row member row)))
      pick false loaded = ap (λ (f : Contents). f areas.Target number) loaded.1

  -- an insert puts it
  pub takes_insert : (key row : Values) (put : ℕ) (c d : Contents) → change.op ≡ I → key ≡ key_after source change → row ≡ imaged_row source change → LoadsRow number member key row put c d → TakesRow number source member change c d
  takes_insert key row put c d op own image loads = record {
    others = loaded_others number member key row put c d loads;
    shown = loads.shown;
    takes = loads_after key row put c d own image loads ∙ ap (λ (o : Op). with_op source member change o (c areas.Target number)) (sym op);
  }

  -- an update removes the row from before, unless it is replaced, and puts it
  pub takes_update : (before key row : Values) (put : ℕ) (c d e : Contents) → change.op ≡ U → before ≡ key_before source change → key ≡ key_after source change → row ≡ imaged_row source change → RemovesBefore number member before key row c d → LoadsRow number member key row put d e → TakesRow number source member change c e
  takes_update before key row put c d e op old own image removes loads = record {
    others = λ a m other. loaded_others number member key row put d e loads a m other ∙ before_others a m other removes;
    shown = λ n a cause h. before_shown removes n a cause (loads.shown n a cause h);
    takes = loads_after key row put d e own image loads ∙ before_gone removes ∙ ap (λ (o : Op). with_op source member change o (c areas.Target number)) (sym op);
  }
    where
      t : Table
      t = c areas.Target number

      value : Option (List ℕ)
      value = Some (copy_spelling (record { row = target_row member (imaged_row source change) }))

      before_others : (a : Area) (m : ℕ) → is_target number a m ≡ false → RemovesBefore number member before key row c d → d a m ≡ c a m
      before_others a m other (inl removed) = ap (λ (f : Contents). f a m) removed ∙ put_others number (key_spelling before) None c a m other
      before_others a m other (inr stays) = ap (λ (f : Contents). f a m) stays.0

      before_shown : RemovesBefore number member before key row c d → (n : ℕ) → ShownBefore (target_rules n) c d
      before_shown (inl removed) n = removed_shown number (key_spelling before) c d removed n
      before_shown (inr stays) n = λ a cause h. subst (λ (f : Contents). Shows (target_rules n) a cause (Some f)) stays.0 h

      put_again : (k : List ℕ) → set_key t k value ≡ set_key (set_key t k None) k value
      put_again k = λ i q. at (same_key k q) (t q) i
        where
          at : (b : Bool) (o : Option (List ℕ)) → cond b value o ≡ cond b value (cond b None o)
          at true o = refl
          at false o = refl

      before_gone : RemovesBefore number member before key row c d → with_row source member change (d areas.Target number) ≡ with_row source member change (set_key t (key_spelling (key_before source change)) None)
      before_gone (inl removed) = ap (with_row source member change) (ap (λ (f : Contents). f areas.Target number) removed ∙ put_here c areas.Target number (key_spelling before) None ∙ ap (λ (k : Values). set_key t (key_spelling k) None) old)
      before_gone (inr stays) =
          let selected : is_selected member (imaged_row source change) ≡ true = ap (is_selected member) (sym image) ∙ stays.2 in
          let same : key_after source change ≡ key_before source change = sym own ∙ sym stays.1 ∙ old in
          let after : List ℕ = key_spelling (key_after source change) in
          ap (λ (f : Contents). with_row source member change (f areas.Target number)) stays.0
          ∙ ap (λ (b : Bool). cond b (set_key t after value) t) selected
          ∙ put_again after
          ∙ ap (λ (k : Values). set_key (set_key t (key_spelling k) None) after value) same
          ∙ ap (λ (b : Bool). cond b (set_key (set_key t (key_spelling (key_before source change)) None) after value) (set_key t (key_spelling (key_before source change)) None)) (sym selected)

  -- a delete removes the row
  pub takes_delete : (key : Values) (c d : Contents) → change.op ≡ D → key ≡ key_after source change → d ≡ put_at c areas.Target number (key_spelling key) None → TakesRow number source member change c d
  takes_delete key c d op own removed = record {
    others = λ a m other. ap (λ (f : Contents). f a m) removed ∙ put_others number (key_spelling key) None c a m other;
    shown = removed_shown number (key_spelling key) c d removed;
    takes = ap (λ (f : Contents). f areas.Target number) removed ∙ put_here c areas.Target number (key_spelling key) None ∙ ap (λ (k : Values). set_key (c areas.Target number) (key_spelling k) None) own ∙ ap (λ (o : Op). with_op source member change o (c areas.Target number)) (sym op);
  }
