-- The column that a word names.
use Rattle.std.proofs.Common.{◌≡◌, ℕ, Bool, true, false, List, Option, Some, None, IfSome, IfNone, refl, sym, cond, position, bytes_eq}
use Rattle.repl_model.specs.Words.{ColumnDef}
use Rattle.repl_defs.specs.Words.{Names, is_reserved}
use Rattle.repl_defs.specs.Reading.{place_named}

-- if a word names a column, this is its place
pub named : {columns : List ColumnDef} {word : List ℕ} {place : ℕ} → Names columns word place → place_named columns word ≡ Some place
unfolding place_named
named n = rw n.free n.at

-- a choice that gives a place, only if a test is false
free_of_some : (b : Bool) (o : Option ℕ) (place : ℕ) → cond b None o ≡ Some place → (b ≡ false) × (o ≡ Some place)
free_of_some true o place h = absurd (cc)
free_of_some false o place h = (refl, h)

-- a place that there is, is that of the column that the word names
pub names : (columns : List ColumnDef) (word : List ℕ) (place : ℕ) → place_named columns word ≡ Some place → Names columns word place
unfolding place_named
names columns word place h =
    let p = free_of_some (is_reserved word) (position (λ column. bytes_eq word column.name) columns) place h in
    record { free = p.0; at = p.1 }

-- the place that a look-up finds
pub place_found : (columns : List ColumnDef) (word : List ℕ) (found : Option ℕ) → IfSome found (λ place. Names columns word place) → IfNone found ((place : ℕ) → Names columns word place → ⊥) → found ≡ place_named columns word
place_found columns word None some none = sym (none_named (place_named columns word) (λ place h. none place (names columns word place h)))
  where
    none_named : (o : Option ℕ) → ((place : ℕ) → o ≡ Some place → ⊥) → o ≡ None
    none_named None h = refl
    none_named (Some place) h = absurd (h place refl)
place_found columns word (Some place) some none = sym (named some)
