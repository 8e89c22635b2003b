-- Which numbers of cells a text says.
use Rattle.std.proofs.Common.{◌≡◌, ℕ, List, Option, Some, None, sym, ap, subst, ◌∙◌, arith, ◌&&◌, leb, lit<}
use Rattle.std.specs.Str.Parse.{digits_value}
use Rattle.std.proofs.lemmas.Bool.{and_parts, leb-true}
use Rattle.std.proofs.lemmas.Option.{cond_some, none-some}
use Rattle.repl_types.specs.Numbers.{is_numeral, number_of}
use Rattle.repl_types.specs.laws.Numbers.{number_found, number_again, value_of_decimal}
use Rattle.run_words.specs.Limits.{least_cells, most_cells}
use Rattle.run_words.specs.Openings.{IsCellCount, SaysCells}

-- the number that a text spells
pub cells_found : (text : List ℕ) (cells : ℕ) → number_of least_cells most_cells text ≡ Some cells → IsCellCount cells × SaysCells (Some text) cells
cells_found text cells e =
    let p = cond_some (is_numeral text && leb least_cells (digits_value 10 text) && leb (digits_value 10 text) most_cells) (digits_value 10 text) cells e in
    let q = and_parts _ _ p.0 in
    let r = and_parts _ _ q.0 in
    (subst IsCellCount p.1 (leb-true least_cells _ r.1, leb-true _ most_cells q.1), sym (number_found least_cells most_cells cells text (lit< tt) e))

-- a text that spells none
pub no_cells_found : (text : List ℕ) (cells : ℕ) → number_of least_cells most_cells text ≡ None → IsCellCount cells → SaysCells (Some text) cells → ⊥
no_cells_found text cells e fits says =
    none-some cells (sym e ∙ ap (number_of least_cells most_cells) says ∙ number_again least_cells most_cells cells (lit< tt) fits.0 fits.1)

-- a text says one number at most
pub one_count : (text : Option (List ℕ)) (a b : ℕ) → IsCellCount a → IsCellCount b → SaysCells text a → SaysCells text b → a ≡ b
one_count None a b p q is same = is ∙ sym same
one_count (Some text) a b p q is same = sym (value_of_decimal a (omega (arith, p.1))) ∙ ap (digits_value 10) (sym is ∙ same) ∙ value_of_decimal b (omega (arith, q.1))
