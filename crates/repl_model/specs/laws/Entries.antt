-- The rows that entries make in the order of their keys: proofs.
use Rattle.std.proofs.Common.{◌≡◌, ◌⊎◌, inl, inr, List, [], ◌∷◌, refl, sym, ap, ◌∙◌, fold, Ordering, Less, Equal, Greater}
use Rattle.std.specs.FinMap.{IsAntisymmetric}
use Rattle.std.specs.FinMap.Entries.{by_order, put}
use Rattle.repl_model.specs.Summaries.{by_key}
use Rattle.lists.specs.laws.Members.{In}

module _ {K X : Type 0} (cmp : K → K → Ordering) (exact : IsAntisymmetric cmp) where
  -- ---- one put

  -- a row after a put is the one that is put, or one from before
  put_row : (k : K) (v : X) (rows : List (K × X)) (r : K × X) → In r (put cmp k v rows) → (r ≡ (k, v)) ⊎ In r rows
  put_row k v [] r i = i
  put_row k v (e ∷ es) r i = by_cmp (cmp k e.0) refl (put_row k v es r) i
    where
      later : (r ≡ (k, v)) ⊎ In r es → (r ≡ (k, v)) ⊎ In r (e ∷ es)
      later (inl is) = inl is
      later (inr j) = inr (inr j)

      by_cmp : (o : Ordering) → cmp k e.0 ≡ o → (In r (put cmp k v es) → (r ≡ (k, v)) ⊎ In r es) → In r (by_order o ((k, v) ∷ e ∷ es) ((e.0, v) ∷ es) (e ∷ put cmp k v es)) → (r ≡ (k, v)) ⊎ In r (e ∷ es)
      by_cmp Less same rest j = j
      by_cmp Equal same rest (inl is) = inl (is ∙ ap (λ (x : K). (x, v)) (sym (exact k e.0 same)))
      by_cmp Equal same rest (inr j) = inr (inr j)
      by_cmp Greater same rest (inl is) = inr (inl is)
      by_cmp Greater same rest (inr j) = later (rest j)

  -- the row that is put stands there
  put_stands : (k : K) (v : X) (rows : List (K × X)) → In (k, v) (put cmp k v rows)
  put_stands k v [] = inl refl
  put_stands k v (e ∷ es) = by_cmp (cmp k e.0) refl (put_stands k v es)
    where
      by_cmp : (o : Ordering) → cmp k e.0 ≡ o → In (k, v) (put cmp k v es) → In (k, v) (by_order o ((k, v) ∷ e ∷ es) ((e.0, v) ∷ es) (e ∷ put cmp k v es))
      by_cmp Less same rest = inl refl
      by_cmp Equal same rest = inl (ap (λ (x : K). (x, v)) (exact k e.0 same))
      by_cmp Greater same rest = inr rest

  -- a row from before stands there still, or has the key of the one that is put
  put_keeps : (k : K) (v : X) (rows : List (K × X)) (r : K × X) → In r rows → In r (put cmp k v rows) ⊎ (k ≡ r.0)
  put_keeps k v [] r i = absurd i
  put_keeps k v (e ∷ es) r i = by_cmp (cmp k e.0) refl (put_keeps k v es r) i
    where
      later : In r (put cmp k v es) ⊎ (k ≡ r.0) → In r (e ∷ put cmp k v es) ⊎ (k ≡ r.0)
      later (inl j) = inl (inr j)
      later (inr same) = inr same

      by_cmp : (o : Ordering) → cmp k e.0 ≡ o → (In r es → In r (put cmp k v es) ⊎ (k ≡ r.0)) → In r (e ∷ es) → In r (by_order o ((k, v) ∷ e ∷ es) ((e.0, v) ∷ es) (e ∷ put cmp k v es)) ⊎ (k ≡ r.0)
      by_cmp Less same rest j = inl (inr j)
      by_cmp Equal same rest (inl is) = inr (exact k e.0 same ∙ ap (λ (q : K × X). q.0) (sym is))
      by_cmp Equal same rest (inr j) = inl (inr j)
      by_cmp Greater same rest (inl is) = inl (inl is)
      by_cmp Greater same rest (inr j) = later (rest j)

  -- ---- puts one after the other

  -- entries that are put one after the other
  abbrev puts : List (K × X) → List (K × X) → List (K × X)
  puts rows entries = fold (λ sorted e. put cmp e.0 e.1 sorted) rows entries

  -- a row after them is one of the entries, or one from before
  row_from : (entries rows : List (K × X)) (r : K × X) → In r (puts rows entries) → In r entries ⊎ In r rows
  row_from [] rows r i = inr i
  row_from (e ∷ es) rows r i = by_case (row_from es (put cmp e.0 e.1 rows) r i)
    where
      by_put : (r ≡ e) ⊎ In r rows → In r (e ∷ es) ⊎ In r rows
      by_put (inl is) = inl (inl is)
      by_put (inr j) = inr j

      by_case : In r es ⊎ In r (put cmp e.0 e.1 rows) → In r (e ∷ es) ⊎ In r rows
      by_case (inl j) = inl (inr j)
      by_case (inr j) = by_put (put_row e.0 e.1 rows r j)

  module _ (k : K) (P : X → Type 0) where
    -- what holds of all entries of a key
    abbrev HoldsAtKey : List (K × X) → Type 0
    HoldsAtKey entries = (e : K × X) → In e entries → e.0 ≡ k → P e.1

    -- a row of the key of which it holds
    abbrev HasRowAtKey : List (K × X) → Type 0
    HasRowAtKey rows = (r : K × X) × In r rows × (r.0 ≡ k) × P r.1

    -- it holds of a row of the key after puts too
    row_stays : (entries rows : List (K × X)) → HoldsAtKey entries → HasRowAtKey rows → HasRowAtKey (puts rows entries)
    row_stays [] rows all h = h
    row_stays (e ∷ es) rows all h = row_stays es (put cmp e.0 e.1 rows) (λ q j same. all q (inr j) same) (by_put (put_keeps e.0 e.1 rows h.0 h.1))
      where
        by_put : In h.0 (put cmp e.0 e.1 rows) ⊎ (e.0 ≡ h.0.0) → HasRowAtKey (put cmp e.0 e.1 rows)
        by_put (inl j) = (h.0, j, h.2, h.3)
        by_put (inr same) = (e, put_stands e.0 e.1 rows, same ∙ h.2, all e (inl refl) (same ∙ h.2))

    -- each entry of the key makes a row of the key
    row_made : (entries rows : List (K × X)) → HoldsAtKey entries → (e : K × X) → In e entries → e.0 ≡ k → HasRowAtKey (puts rows entries)
    row_made [] rows all e i same = absurd i
    row_made (q ∷ qs) rows all e (inl is) same =
        let key : q.0 ≡ k = ap (λ (p : K × X). p.0) (sym is) ∙ same in
        row_stays qs (put cmp q.0 q.1 rows) (λ p j at. all p (inr j) at) (q, put_stands q.0 q.1 rows, key, all q (inl refl) key)
    row_made (q ∷ qs) rows all e (inr i) same = row_made qs (put cmp q.0 q.1 rows) (λ p j at. all p (inr j) at) e i same

    -- at the key of an entry stands a row of which holds what holds of all entries of the key
    pub entry_has_row : (entries : List (K × X)) → HoldsAtKey entries → (e : K × X) → In e entries → e.0 ≡ k → HasRowAtKey (by_key cmp entries)
    unfolding by_key
    entry_has_row entries all e i same = row_made entries [] all e i same

  -- each row is one of the entries
  pub row_is_entry : (entries : List (K × X)) (r : K × X) → In r (by_key cmp entries) → In r entries
  unfolding by_key
  row_is_entry entries r i = by_case (row_from entries [] r i)
    where
      by_case : In r entries ⊎ In r [] → In r entries
      by_case (inl j) = j
      by_case (inr j) = absurd j
