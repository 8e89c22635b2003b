-- Proofs that names, places in a log, operations and values that may be absent have one spelling each.
-- There is nothing to believe here.
use Rattle.std.proofs.Common.{◌≡◌, ℕ, List, ◌++◌, length, drop, Some, None, refl, ap}
use Rattle.repl_types.specs.declared.change_row.Op.TheVariants.{I, U, D}
use Rattle.repl_types.specs.declared.record.SetId.{SetId}
use Rattle.row_codec.specs.Takes.{One, PairFits, pair_spelling}
use Rattle.row_codec.specs.Spelling.{Any, Is16, Is64, IsName, IsSet, IsOrigin, IsSequence, OptionFits, b16, b64, short_text, set_spelling, origin, option_spelling, sequence_spelling, op_spelling}
use Rattle.row_codec.specs.laws.Numbers.{first_is, same_prefixes, one16, one64}
use Rattle.row_codec.specs.laws.Ones.{one_by, one_pair}
use Rattle.row_codec.specs.laws.Tags.{other_tag}

-- names
pub one_name : One IsName short_text
one_name x y a b fx fy e = same_prefixes x y a b (first_is (length x) (length y) (x ++ a) (y ++ b) e) (ap (drop 1) e)

-- sets of equal parts are equal
same_set : (x y : SetId) → ◌≡◌ {A = List ℕ × List ℕ} (x.qual, x.name) (y.qual, y.name) → x ≡ y
same_set x y e = ap (λ (p : List ℕ × List ℕ). record { qual = p.0; name = p.1 }) e

-- sets
pub one_set : One IsSet set_spelling
one_set = one_by (PairFits IsName IsName) (pair_spelling short_text short_text) IsSet (λ set. (set.qual, set.name)) same_set (λ _ fits. fits) (one_pair IsName IsName short_text short_text one_name one_name)

-- values that may be absent
pub one_option : {X : Type 0} (fits : X → Type 0) (spelling : X → List ℕ) → One fits spelling → One (OptionFits fits) (option_spelling spelling)
one_option fits spelling one None None a b fx fy e = (refl, ap (drop 1) e)
one_option fits spelling one None (Some y) a b fx fy e = absurd cc
one_option fits spelling one (Some x) None a b fx fy e = absurd cc
one_option fits spelling one (Some x) (Some y) a b fx fy e = let same = one x y a b fx fy (ap (drop 1) e) in (ap (λ v. Some v) same.0, same.1)

-- origins
pub one_origin : One IsOrigin origin
one_origin = one_option IsSet set_spelling one_set

-- places in a log
pub one_sequence : One IsSequence sequence_spelling
one_sequence = one_by (PairFits Is64 Is16) (pair_spelling b64 b16) IsSequence (λ s. (s.position, s.sub)) (λ x y e. ap (λ (p : ℕ × ℕ). record { position = p.0; sub = p.1 }) e) (λ _ fits. fits) (one_pair Is64 Is16 b64 b16 one64 one16)

-- operations
pub one_op : One Any op_spelling
one_op I I a b fx fy e = (refl, ap (drop 1) e)
one_op U U a b fx fy e = (refl, ap (drop 1) e)
one_op D D a b fx fy e = (refl, ap (drop 1) e)
one_op x y a b fx fy e = absurd (other_tag _ _ _ _ e refl)
