-- The text of rows is that of their lines, one after another, and of their count.
use Rattle.std.proofs.Common.{◌≡◌, ℕ, List, [], ◌∷◌, ◌++◌, map, length, append_assoc, append-nil, sym, ap, ◌∙◌, flat_map}
use Rattle.std.proofs.lemmas.List.{length-map}
use Rattle.shows.specs.tables.Replies.{count_line}
use Rattle.shows.specs.tables.Records.{row_lines, rows_text}

module _ {A X E : Type 0} (line : A → X → List ℕ) (row : E → A × X) where
  -- the lines of the rows of elements, and a last line
  lines_shown : (es : List E) (last : List ℕ) → row_lines line (map row es) ++ last ≡ flat_map (λ l. l) (map (λ (e : E). line (row e).0 (row e).1) es ++ last ∷ [])
  lines_shown [] last = sym (append-nil last)
  lines_shown (e ∷ es) last = append_assoc (line (row e).0 (row e).1) (row_lines line (map row es)) last ∙ ap (λ (l : List ℕ). line (row e).0 (row e).1 ++ l) (lines_shown es last)

  -- the text of these rows is those lines and that of their count
  pub text_shown : (es : List E) → rows_text line (map row es) ≡ flat_map (λ l. l) (map (λ (e : E). line (row e).0 (row e).1) es ++ count_line (length es) ∷ [])
  text_shown es = ap (λ (n : ℕ). row_lines line (map row es) ++ count_line n) (length-map es row) ∙ lines_shown es (count_line (length es))
