-- What the tables of lines share.
use Rattle.std.specs.Prelude.{◌≡◌, ℕ, codes, List, map}
use Rattle.repl_types.specs.declared.record.SetId.{SetId}

-- each value has the line beside it, with the line feed at its end
abbrev pub HaveLines : {A : Type 0} → (A → List ℕ) → List (A × List ℕ) → Type 0
HaveLines line rows = map (λ row. line row.0) rows ≡ map (λ row. row.1) rows

-- the set q/s
abbrev pub q_s : SetId
q_s = record { qual = codes "q"; name = codes "s" }

-- the set r/b
abbrev pub r_b : SetId
r_b = record { qual = codes "r"; name = codes "b" }
