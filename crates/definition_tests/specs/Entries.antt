-- Entries of the lists named `columns`, and the parts into which they are split, worked out by hand.
use Rattle.std.specs.Prelude.{◌≡◌, ℕ, codes, Bool, true, false, List, [], ◌∷◌, map, Option, Some, None}
use Rattle.std.proofs.Common.{refl}
use Rattle.std.specs.Option.{option_map, option_and_then}
use Rattle.repl_types.specs.declared.table.Kind.{Kind}
use Rattle.repl_types.specs.declared.table.Kind.TheVariants.{Int, Text}
use Rattle.repl_defs.specs.Entries.{column_name, column_form, target_name, source_part}

-- each entry of a table has the name and the form beside it, or no name if it isn't split
abbrev AreColumns : List (List ℕ × Option (List ℕ × Option (Kind × Bool))) → Type 0
AreColumns rows = (map (λ row. column_name row.0) rows ≡ map (λ row. option_map (λ parts. parts.0) row.1) rows)
    × (map (λ row. column_form row.0) rows ≡ map (λ row. option_and_then (λ parts. parts.1) row.1) rows)

pub an_entry_of_a_table_is_split_at_its_first_blank : AreColumns (
    (codes "id int", Some (codes "id", Some (Int, false)))
    ∷ (codes "qty int null", Some (codes "qty", Some (Int, true)))
    ∷ (codes "item text", Some (codes "item", Some (Text, false)))
    ∷ (codes "item text null", Some (codes "item", Some (Text, true)))
    ∷ (codes "id  int", Some (codes "id", None))
    ∷ (codes "id int nul", Some (codes "id", None))
    ∷ (codes "id int null ", Some (codes "id", None))
    ∷ (codes "id int  null", Some (codes "id", None))
    ∷ (codes " id int", Some ([], None))
    ∷ (codes "id", None)
    ∷ (codes "id\tint", None)
    ∷ ([], None)
    ∷ [])
an_entry_of_a_table_is_split_at_its_first_blank = (refl, refl)

-- each entry of a member has the name and the source beside it, or none if it isn't split
abbrev AreTargets : List (List ℕ × Option (List ℕ × List ℕ)) → Type 0
AreTargets rows = (map (λ row. target_name row.0) rows ≡ map (λ row. option_map (λ parts. parts.0) row.1) rows)
    × (map (λ row. source_part row.0) rows ≡ map (λ row. option_map (λ parts. parts.1) row.1) rows)

pub an_entry_of_a_member_is_split_at_its_first_equals_sign : AreTargets (
    (codes "id = id", Some (codes "id", codes " id"))
    ∷ (codes "n=count(*)", Some (codes "n", codes "count(*)"))
    ∷ (codes " total =  sum(qty)", Some (codes "total", codes "  sum(qty)"))
    ∷ (codes "a = b = c", Some (codes "a", codes " b = c"))
    ∷ (codes "= x", Some ([], codes " x"))
    ∷ (codes "  = x", Some ([], codes " x"))
    ∷ (codes "a b = x ", Some (codes "a b", codes " x "))
    ∷ (codes "id", None)
    ∷ ([], None)
    ∷ [])
an_entry_of_a_member_is_split_at_its_first_equals_sign = (refl, refl)
