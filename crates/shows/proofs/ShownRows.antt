-- The rows of a table are shown one after another.
use Rattle.std.proofs.Common.{◌≡◌, ℕ, ◌+◌, List, [], ◌∷◌, ◌++◌, length, refl, sym, ap, subst, ◌∙◌, append_assoc, append-nil, length-append, arith, Option, Some, None}
use Rattle.std.proofs.lemmas.List.{nil_from_length}
use Rattle.world_store.specs.Words.{One, one_whole, table_from_rows, is_before, rows_after, SpellsApart, NextRow, after_all, after_first, after_next, fits_next, all_some, no_row, RowFits}
use Rattle.site_store.specs.Words.{Contents, Table, IsNextKey, IsLastKey, count_max, Takes, TakesPrefix, takes_nothing, takes_both, after_key}
use Rattle.repl_model.specs.Words.{Area, filter_none}
use Rattle.shows.specs.tables.Replies.{count_line}
use Rattle.shows.specs.tables.Records.{AreShown, row_lines, rows_text, TakesRows, TakesSomeRows}
use Rattle.shows.proofs.Pieces.{prefix_taken, prefix_more, given_by_both, given_by_one}

-- The first of some rows were shown: a sink took their lines, and the others are those after a key.
pub record ShownTo {A X : Type 0} (key : A → List ℕ) (line : A → X → List ℕ) (rows : List (A × X)) (after : List ℕ) (n : ℕ) (before now : Option (List ℕ)) : Type 0 where
  pub front : List (A × X)
  pub split : rows ≡ front ++ rows_after key after rows
  pub count : length front ≡ n
  pub took : Takes before now (row_lines line front)

-- All rows were shown, except for the line that says how many they are.
pub record AllShown {A X : Type 0} (line : A → X → List ℕ) (rows : List (A × X)) (n : ℕ) (before now : Option (List ℕ)) : Type 0 where
  pub count : length rows ≡ n
  pub took : Takes before now (row_lines line rows)

module _ {A X : Type 0} (key_fits : A → Type 0) (key : A → List ℕ) (fits : X → Type 0) (spelling : X → List ℕ) (line : A → X → List ℕ) (a : Area) (t : ℕ) where
  -- if a table of these contents is made of rows, this many of them were shown, up to the last key
  abbrev pub HasShown : Option A → ℕ → Option (List ℕ) → Option (List ℕ) → Contents → Type 0
  HasShown last n before now c = (rows : List (A × X)) → AreShown key_fits key fits rows → c a t ≡ table_from_rows key spelling rows → ShownTo key line rows (after_key key last) n before now

  -- if it is, all were shown, and they are this many
  abbrev pub HasShownAll : ℕ → Option (List ℕ) → Option (List ℕ) → Contents → Type 0
  HasShownAll n before now c = (rows : List (A × X)) → AreShown key_fits key fits rows → c a t ≡ table_from_rows key spelling rows → AllShown line rows n before now

  -- the text of rows is the lines of the first, those of the others, and the last line
  text_parts : (rows front rest : List (A × X)) → rows ≡ front ++ rest → rows_text line rows ≡ row_lines line front ++ (row_lines line rest ++ count_line (length rows))
  text_parts rows front rest split =
      ap (λ (l : List (A × X)). row_lines line l ++ count_line (length rows)) split
      ∙ ap (λ (l : List ℕ). l ++ count_line (length rows)) (given_by_both (λ (r : A × X). line r.0 r.1) front rest)
      ∙ append_assoc (row_lines line front) (row_lines line rest) (count_line (length rows))

  -- nothing was shown yet
  pub shows_none : (c : Contents) (taken : Option (List ℕ)) → HasShown None 0 taken taken c
  shows_none c taken rows are is = record {
    front = [];
    split = sym (after_all key [] rows (all_some key rows are.some));
    count = refl;
    took = takes_nothing taken;
  }

  -- rows are told apart by their spellings
  rows_apart : ((x y : A) → key_fits x → key_fits y → key x ≡ key y → x ≡ y) → One fits spelling → SpellsApart (RowFits key_fits fits) key spelling
  rows_apart one_key one r s fit fit_too keys values = λ i. (one_key r.0 s.0 fit.0 fit_too.0 keys i, one_whole fits spelling one r.1 s.1 fit.1 fit_too.1 values i)

  module _ (one_key : (x y : A) → key_fits x → key_fits y → key x ≡ key y → x ≡ y) (one : One fits spelling) (c : Contents) (last : Option A) (k : A) (x : X) (n : ℕ) (before now new : Option (List ℕ)) (fit_key : key_fits k) (fit : fits x) (next : IsNextKey (c a t) (after_key key last) (key k) (spelling x)) where
    -- the next key is that of the next row
    next_is : (rows : List (A × X)) → AreShown key_fits key fits rows → c a t ≡ table_from_rows key spelling rows → NextRow key rows (after_key key last) (k, x)
    next_is rows are is = fits_next (RowFits key_fits fits) key spelling rows (after_key key last) (k, x) (rows_apart one_key one) are.fit (fit_key, fit) are.rise (subst (λ (u : Table). IsNextKey u (after_key key last) (key k) (spelling x)) is next)

    -- what is left begins with it
    left_is : (rows : List (A × X)) (r : NextRow key rows (after_key key last) (k, x)) → rows_after key (after_key key last) rows ≡ (k, x) ∷ rows_after key (key k) rows
    left_is rows r = after_first key rows (after_key key last) (k, x) r ∙ ap (λ (l : List (A × X)). (k, x) ∷ l) (sym (after_next key rows (after_key key last) (k, x) r))

    -- one more row was shown
    pub shows_on : Takes now new (line k x) → HasShown last n before now c → HasShown (Some k) (n + 1) before new c
    shows_on took shown rows are is =
        let so_far = shown rows are is in
        let front : List (A × X) = so_far.front in
        let rest : List (A × X) = rows_after key (key k) rows in
        record {
          front = front ++ (k, x) ∷ [];
          split = so_far.split ∙ ap (λ (l : List (A × X)). front ++ l) (left_is rows (next_is rows are is)) ∙ sym (append_assoc front ((k, x) ∷ []) rest);
          count = length-append front ((k, x) ∷ []) ∙ ap (λ (m : ℕ). m + 1) so_far.count;
          took = subst (Takes before new) (ap (λ (l : List ℕ). row_lines line front ++ l) (sym (given_by_one (λ (r : A × X). line r.0 r.1) (k, x))) ∙ sym (given_by_both (λ (r : A × X). line r.0 r.1) front ((k, x) ∷ []))) (takes_both before now new (row_lines line front) (line k x) so_far.took took);
        }

    -- a part of its line was taken
    pub shows_part : TakesPrefix now new (line k x) → HasShown last n before now c → TakesSomeRows key_fits key fits spelling line a t before new c
    shows_part took shown rows are is =
        let so_far = shown rows are is in
        let rest : List (A × X) = rows_after key (key k) rows in
        prefix_more before now new (rows_text line rows) (row_lines line so_far.front) (line k x) (row_lines line rest ++ count_line (length rows))
        (text_parts rows so_far.front ((k, x) ∷ rest) (so_far.split ∙ ap (λ (l : List (A × X)). so_far.front ++ l) (left_is rows (next_is rows are is)))
        ∙ ap (λ (l : List ℕ). row_lines line so_far.front ++ l) (append_assoc (line k x) (row_lines line rest) (count_line (length rows))))
        so_far.took took

  -- nothing more was taken
  pub shows_some : (c : Contents) (last : Option A) (n : ℕ) (before now : Option (List ℕ)) → HasShown last n before now c → TakesSomeRows key_fits key fits spelling line a t before now c
  shows_some c last n before now shown rows are is =
      let so_far = shown rows are is in
      let rest : List (A × X) = rows_after key (after_key key last) rows in
      prefix_taken before now (rows_text line rows) (row_lines line so_far.front) (row_lines line rest ++ count_line (length rows)) (text_parts rows so_far.front rest so_far.split) so_far.took

  -- nothing is left
  all_of : (rows rest : List (A × X)) (after : List ℕ) (n : ℕ) (before now : Option (List ℕ)) → rest ≡ rows_after key after rows → rest ≡ [] → ShownTo key line rows after n before now → AllShown line rows n before now
  all_of rows rest after n before now is none so_far =
      let whole : rows ≡ so_far.front = so_far.split ∙ ap (λ (l : List (A × X)). so_far.front ++ l) (sym is ∙ none) ∙ append-nil so_far.front in
      record { count = ap length whole ∙ so_far.count; took = subst (λ (l : List (A × X)). Takes before now (row_lines line l)) (sym whole) so_far.took }

  -- there is no row more
  pub shows_last : (c : Contents) (last : Option A) (n : ℕ) (before now : Option (List ℕ)) → IsLastKey (c a t) (after_key key last) → HasShown last n before now c → HasShownAll n before now c
  shows_last c last n before now none shown rows are is =
      let after = after_key key last in
      all_of rows (rows_after key after rows) after n before now refl (filter_none (λ (r : A × X). is_before after (key r.0)) rows (no_row key spelling rows after (subst (λ (u : Table). IsLastKey u after) is none))) (shown rows are is)

  -- there can't be one more
  pub shows_full : (c : Contents) (last : Option A) (before now : Option (List ℕ)) → HasShown last count_max before now c → HasShownAll count_max before now c
  shows_full c last before now shown rows are is =
      let after = after_key key last in
      let so_far = shown rows are is in
      let rest : List (A × X) = rows_after key after rows in
      let none : length rest ≡ 0 = omega (arith, so_far.count, are.few, ap length so_far.split, length-append so_far.front rest) in
      all_of rows rest after count_max before now refl (nil_from_length rest none) so_far

  -- their count was written too
  pub shows_all : (c : Contents) (n : ℕ) (before now new : Option (List ℕ)) → Takes now new (count_line n) → HasShownAll n before now c → TakesRows key_fits key fits spelling line a t before new c
  shows_all c n before now new took shown rows are is =
      let all = shown rows are is in
      takes_both before now new (row_lines line rows) (count_line (length rows)) all.took (subst (λ (m : ℕ). Takes now new (count_line m)) (sym all.count) took)

  -- or a part of that line
  pub shows_all_part : (c : Contents) (n : ℕ) (before now new : Option (List ℕ)) → TakesPrefix now new (count_line n) → HasShownAll n before now c → TakesSomeRows key_fits key fits spelling line a t before new c
  shows_all_part c n before now new took shown rows are is =
      let all = shown rows are is in
      prefix_more before now new (rows_text line rows) (row_lines line rows) (count_line (length rows)) []
      (ap (λ (l : List ℕ). row_lines line rows ++ l) (sym (append-nil (count_line (length rows))))) all.took (subst (λ (m : ℕ). TakesPrefix now new (count_line m)) (sym all.count) took)
