-- The target of a user copy: its rows, and that none has the empty key: proofs.
use Rattle.std.proofs.Common.{◌≡◌, ℕ, ◌+◌, ◌<◌, true, List, [], ◌∷◌, ◌++◌, length, refl, sym, ap, subst, ◌∙◌, Option, Some, None, Less}
use Rattle.std.specs.FinMap.{entries}
use Rattle.std.proofs.lemmas.List.Sums.{fold-append}
use Rattle.world_store.specs.Words.{key_spelling, copy_spelling, CopyRow, table_from_rows, AllAfter, found_after, member_table, copy_rows, rows_refreshed}
use Rattle.repl_model.specs.Words.{bytes_cmp, Values, all_filter, Member, changes_between, SourceTable, is_selected, selected_rows, target_row, IsSound, KeepsTable, ServerKeepsRules, LogIsSound, source_at, Entry, Trail, point_after, synchpoint, Server, World, source_named, In, at_one, each_image}
use Rattle.repl_definitions.specs.declared.member.TargetKind.TheVariants.{UserCopy}
use Rattle.stored_commits.specs.records.laws.StandingRows.{standing_some}
use Rattle.stored_commits.specs.copies.ChangedCopies.{copy_table}
use Rattle.set_places.specs.laws.Sources.{source_is_of, table_keyed}
use Rattle.target_steps.specs.Taking.{changes_taken}
use Rattle.apply_copies.specs.Copying.{selected, copied}
use Rattle.apply_copies.specs.laws.CopyRows.{copied_are, rows_stand_at}
use Rattle.apply_copies.specs.Copies.{is_user_copy}
use Rattle.apply_copies.specs.laws.TargetLaws.{kind_is}

-- ---- what the kind says

module _ (source : SourceTable) (member : Member) (copy : is_user_copy member.kind ≡ true) where
  -- the member with its kind
  as_copy : record member { kind = UserCopy } ≡ member
  as_copy = λ i. record member { kind = kind_is member.kind copy i }

  -- its target has the rows of a user copy
  pub table_is : (trail : Trail) → member_table source member trail ≡ table_from_rows key_spelling copy_spelling (copy_rows source member trail)
  table_is trail = subst (λ (m : Member). member_table source m trail ≡ table_from_rows key_spelling copy_spelling (copy_rows source m trail)) as_copy refl

  -- and gets those that are selected at a refresh
  pub rows_are : (p : ℕ) (q : Option ℕ) → rows_refreshed source p q member ≡ length (selected_rows source member p)
  rows_are p q = subst (λ (m : Member). rows_refreshed source p q m ≡ length (selected_rows source m p)) as_copy refl

  -- and takes all change rows of an interval in a block
  pub changes_are : (low high : ℕ) → changes_taken source member low high ≡ changes_between source.log source.reg low high
  changes_are low high = subst (λ (m : Member). changes_taken source m low high ≡ changes_between source.log source.reg low high) as_copy refl

  -- after one more entry of the trail it has the copy at the entry's point
  pub table_after : (trail : Trail) (e : Entry) → member_table source member (trail ++ e ∷ []) ≡ copy_table source member (point_after e)
  table_after trail e = table_is (trail ++ e ∷ []) ∙ ap (copy_table source member) (fold-append (λ point e. point_after e) 0 trail (e ∷ []))

-- ---- its keys

-- a table of rows whose keys aren't empty has none at the empty key
none_empty : (rows : List (Values × CopyRow)) → AllAfter key_spelling [] rows → table_from_rows key_spelling copy_spelling rows [] ≡ None
none_empty rows after = pick (table_from_rows key_spelling copy_spelling rows []) refl
  where
    pick : (o : Option (List ℕ)) → table_from_rows key_spelling copy_spelling rows [] ≡ o → o ≡ None
    pick None has = refl
    pick (Some value) has = absurd (none_less (found_after key_spelling copy_spelling [] [] rows after value has))
      where
        none_less : bytes_cmp [] [] ≡ Less → ⊥
        none_less e = cc

module _ (w : World) (server : Server) (sound : IsSound w) (i : In server w) where
  -- no row of a user copy of a registered table stands at the empty key
  pub copies_keyed : (name : List ℕ) (source : SourceTable) (member : Member) (trail : Trail) → source_named name server ≡ Some source → table_from_rows key_spelling copy_spelling (copy_rows source member trail) [] ≡ None
  copies_keyed name source member trail named = none_empty (copy_rows source member trail) (subst (AllAfter key_spelling []) (sym (copied_are source member (synchpoint trail))) after)
    where
      rows : List (Values × Values)
      rows = entries (source_at source.def source.log (synchpoint trail))

      keyed : 0 < length source.def.key
      keyed =
          let is = source_is_of name server source named in
          rw is.def (table_keyed is.table (at_one KeepsTable server.tables is.table (at_one (ServerKeepsRules w) w server sound.definitions.servers i).tables is.among))

      all : AllAfter key_spelling [] rows
      all = standing_some source.def (source_at source.def source.log (synchpoint trail)) (rw (source_is_of name server source named).log (rows_stand_at server source.def (synchpoint trail) (at_one LogIsSound w server sound.logs i))) keyed

      after : AllAfter key_spelling [] (copied member rows)
      after = each_image (λ (r : Values × CopyRow). bytes_cmp [] (key_spelling r.0) ≡ Less) (λ (r : Values × Values). (r.0, record { row = target_row member r.1 })) (selected member rows) (all_filter (λ (r : Values × Values). bytes_cmp [] (key_spelling r.0) ≡ Less) (λ (r : Values × Values). is_selected member r.1) rows all)
