-- Rows that are changed, and put back.
use Rattle.std.proofs.Common.{◌≡◌, ℕ, zero, suc, ◌<◌, ◌≤◌, Bool, true, false, cond, List, [], ◌∷◌, ◌++◌, length, take, refl, sym, ap, subst, ◌∙◌, arith}
use Rattle.std.specs.Prelude.{Option, Some, get_or, set}
use Rattle.std.specs.List.{All}
use Rattle.std.specs.Map.{lookup}
use Rattle.std.proofs.lemmas.List.{length-take, length-take-le, get_or-take}
use Rattle.std.proofs.lemmas.List.Elements.{All-cons, All-tail, All-take}
use Rattle.repl_types.specs.Bytes.{bytes_cmp}
use Rattle.keep_core.specs.Contents.{same_key}
use Rattle.rows_in_runs.specs.declared.row.Piece.{Piece}
use Rattle.rows_in_runs.specs.declared.row.RunRow.{RunRow}
use Rattle.rows_in_runs.specs.declared.row.Old.{Old}
use Rattle.rows_in_runs.specs.Rows.{piece_bytes, value_bytes, rows_of, keys_in, IsRising, IsValue, IsRow, IsOld, with_value, rows_before, held_rows}
use Rattle.rows_in_runs.specs.laws.Found.{same_is, same_back, differs_back, clash, rising_tail, first_below}
use Rattle.rows_in_runs.specs.laws.Keys.{length_keys, keys_held}

-- ---- one row with another value

-- a write in a vector
pub set_is : (rows : List RunRow) (at : ℕ) (now : Option Piece) (d : RunRow) → set rows at (record (get_or rows at d) { now = now }) ≡ with_value rows at now
set_is [] at now d = refl
set_is (r ∷ rs) zero now d = refl
set_is (r ∷ rs) (suc at) now d = ap (λ (l : List RunRow). r ∷ l) (set_is rs at now d)

-- a place past the end
pub past_end : (rows : List RunRow) (at : ℕ) (now : Option Piece) → length rows ≤ at → with_value rows at now ≡ rows
past_end [] at now past = refl
past_end (r ∷ rs) zero now past = absurd (omega arith)
past_end (r ∷ rs) (suc at) now past = ap (λ (l : List RunRow). r ∷ l) (past_end rs at now (omega arith))

-- the later of two values stays
pub set_twice : (rows : List RunRow) (at : ℕ) (v w : Option Piece) → with_value (with_value rows at v) at w ≡ with_value rows at w
set_twice [] at v w = refl
set_twice (r ∷ rs) zero v w = refl
set_twice (r ∷ rs) (suc at) v w = ap (λ (l : List RunRow). r ∷ l) (set_twice rs at v w)

-- the value that is there
pub set_same : (rows : List RunRow) (at : ℕ) (d : RunRow) → with_value rows at (get_or rows at d).now ≡ rows
set_same [] at d = refl
set_same (r ∷ rs) zero d = refl
set_same (r ∷ rs) (suc at) d = ap (λ (l : List RunRow). r ∷ l) (set_same rs at d)

-- the first rows
pub take_set : (n : ℕ) (rows : List RunRow) (at : ℕ) (now : Option Piece) → take n (with_value rows at now) ≡ with_value (take n rows) at now
take_set zero rows at now = refl
take_set (suc n) [] at now = refl
take_set (suc n) (r ∷ rs) zero now = refl
take_set (suc n) (r ∷ rs) (suc at) now = ap (λ (l : List RunRow). r ∷ l) (take_set n rs at now)

-- how many they are
pub length_set : (rows : List RunRow) (at : ℕ) (now : Option Piece) → length (with_value rows at now) ≡ length rows
length_set [] at now = refl
length_set (r ∷ rs) zero now = refl
length_set (r ∷ rs) (suc at) now = ap suc (length_set rs at now)

-- the rows lie within the bytes if the value does
pub fit_set : (n : ℕ) (rows : List RunRow) (at : ℕ) (now : Option Piece) → All (IsRow n) rows → IsValue n now → All (IsRow n) (with_value rows at now)
fit_set n [] at now fit value = fit
fit_set n (r ∷ rs) zero now fit value =
    let first : IsRow n r = fit 0 r (omega arith) in
    All-cons (IsRow n) (record r { now = now }) rs (record { within = first.within; some = first.some; short = first.short; value = value }) (All-tail (IsRow n) r rs fit)
fit_set n (r ∷ rs) (suc at) now fit value =
    All-cons (IsRow n) r (with_value rs at now) (fit 0 r (omega arith)) (fit_set n rs at now (All-tail (IsRow n) r rs fit) value)

-- at the row's key the value is found, and at each other what was there
pub found_set : (bytes : List ℕ) (rows : List RunRow) (at : ℕ) (now : Option Piece) (k : List ℕ) → IsRising (keys_in bytes rows) → at < length rows → lookup (same_key k) (rows_of bytes (with_value rows at now)) ≡ cond (same_key (get_or (keys_in bytes rows) at []) k) (Some (value_bytes bytes now)) (lookup (same_key k) (rows_of bytes rows))
found_set bytes [] at now k rising within = absurd (omega arith)
found_set bytes (r ∷ rs) zero now k rising within =
    pick (same_key k (piece_bytes bytes r.key)) ∙ ap (λ (b : Bool). cond b (Some (value_bytes bytes now)) (lookup (same_key k) (rows_of bytes (r ∷ rs)))) (same_back k (piece_bytes bytes r.key))
  where
    pick : (b : Bool) → cond b (Some (value_bytes bytes now)) (lookup (same_key k) (rows_of bytes rs)) ≡ cond b (Some (value_bytes bytes now)) (cond b (Some (value_bytes bytes r.now)) (lookup (same_key k) (rows_of bytes rs)))
    pick true = refl
    pick false = refl
found_set bytes (r ∷ rs) (suc at) now k rising within =
    ap (λ (o : Option (Option (List ℕ))). cond (same_key k (piece_bytes bytes r.key)) (Some (value_bytes bytes r.now)) o) (found_set bytes rs at now k (rising_tail (piece_bytes bytes r.key) (keys_in bytes rs) rising) (omega arith))
    ∙ pick (same_key k (piece_bytes bytes r.key)) (same_key (get_or (keys_in bytes rs) at []) k) both
  where
    both : same_key k (piece_bytes bytes r.key) ≡ true → same_key (get_or (keys_in bytes rs) at []) k ≡ true → ⊥
    both first later =
        let key = get_or (keys_in bytes rs) at [] in
        let there : at < length (keys_in bytes rs) = omega (arith, length_keys bytes rs) in
        let two : key ≡ k = same_is key k later in
        clash (subst (λ (q : List ℕ). same_key q (piece_bytes bytes r.key) ≡ true) (sym two) first) (differs_back (piece_bytes bytes r.key) key (first_below (piece_bytes bytes r.key) (keys_in bytes rs) rising at there))

    pick : (a b : Bool) → (a ≡ true → b ≡ true → ⊥) → cond a (Some (value_bytes bytes r.now)) (cond b (Some (value_bytes bytes now)) (lookup (same_key k) (rows_of bytes rs))) ≡ cond b (Some (value_bytes bytes now)) (cond a (Some (value_bytes bytes r.now)) (lookup (same_key k) (rows_of bytes rs)))
    pick true true no_both = absurd (no_both refl refl)
    pick true false no_both = refl
    pick false b no_both = refl

-- ---- rows before changes

-- the newest entry is put back first
pub newest_first : (rows : List RunRow) (olds : List Old) (old : Old) → rows_before rows (olds ++ old ∷ []) ≡ rows_before (with_value rows old.row old.now) olds
newest_first rows [] old = refl
newest_first rows (o ∷ os) old = ap (λ (l : List RunRow). with_value l o.row o.now) (newest_first rows os old)

-- once what a row had is noted, the rows from before don't depend on what it has
pub noted : (settled : ℕ) (rows : List RunRow) (olds : List Old) (at : ℕ) (now had : Option Piece) (d : RunRow) → had ≡ (get_or rows at d).now → at < settled → held_rows settled (with_value rows at now) (olds ++ record { row = at; now = had } ∷ []) ≡ held_rows settled rows olds
noted settled rows olds at now had d is low =
    newest_first (take settled (with_value rows at now)) olds (record { row = at; now = had })
    ∙ ap (λ (l : List RunRow). rows_before l olds) (ap (λ (l : List RunRow). with_value l at had) (take_set settled rows at now) ∙ set_twice (take settled rows) at now had ∙ ap (with_value (take settled rows) at) (is ∙ ap (λ (r : RunRow). r.now) (sym (get_or-take settled rows at d low))) ∙ set_same (take settled rows) at d)

-- a row that was pushed since then isn't among them
pub not_noted : (settled : ℕ) (rows : List RunRow) (olds : List Old) (at : ℕ) (now : Option Piece) → settled ≤ at → held_rows settled (with_value rows at now) olds ≡ held_rows settled rows olds
not_noted settled rows olds at now high =
    ap (λ (l : List RunRow). rows_before l olds) (take_set settled rows at now ∙ past_end (take settled rows) at now (few settled rows high))
  where
    few : (n : ℕ) (rs : List RunRow) → n ≤ at → length (take n rs) ≤ at
    few n rs le = omega (arith, length-take n rs)

-- how many they are
pub length_before : (rows : List RunRow) (olds : List Old) → length (rows_before rows olds) ≡ length rows
length_before rows [] = refl
length_before rows (o ∷ os) = length_set (rows_before rows os) o.row o.now ∙ length_before rows os

-- they lie within the bytes
pub fit_before : (n : ℕ) (rows : List RunRow) (olds : List Old) → All (IsRow n) rows → All (IsOld n) olds → All (IsRow n) (rows_before rows olds)
fit_before n rows [] fit old_fit = fit
fit_before n rows (o ∷ os) fit old_fit = fit_set n (rows_before rows os) o.row o.now (fit_before n rows os fit (All-tail (IsOld n) o os old_fit)) (old_fit 0 o (omega arith))

-- the rows that stood when the run was last settled are as many as stood then
pub length_held : (settled : ℕ) (rows : List RunRow) (olds : List Old) → settled ≤ length rows → length (held_rows settled rows olds) ≡ settled
length_held settled rows olds within = length_before (take settled rows) olds ∙ length-take-le settled rows within

-- they lie within the bytes
pub fit_held : (n settled : ℕ) (rows : List RunRow) (olds : List Old) → All (IsRow n) rows → All (IsOld n) olds → All (IsRow n) (held_rows settled rows olds)
fit_held n settled rows olds fit old_fit = fit_before n (take settled rows) olds (All-take (IsRow n) settled rows fit) old_fit

-- and their keys rise
pub rising_held : (bytes : List ℕ) (settled : ℕ) (rows : List RunRow) (olds : List Old) → IsRising (keys_in bytes rows) → IsRising (keys_in bytes (held_rows settled rows olds))
rising_held bytes settled rows olds rising = subst IsRising (sym (keys_held bytes settled rows olds)) (first settled (keys_in bytes rows) rising)
  where
    first : (n : ℕ) (keys : List (List ℕ)) → IsRising keys → IsRising (take n keys)
    first n keys up = λ i j d lt within.
        let low : j < n = omega (arith, length-take n keys) in
        let there : j < length keys = omega (arith, length-take n keys) in
        ap (λ (k : List ℕ). bytes_cmp k (get_or (take n keys) j d)) (get_or-take n keys i d (omega arith)) ∙ ap (bytes_cmp (get_or keys i d)) (get_or-take n keys j d low) ∙ up i j d lt there
