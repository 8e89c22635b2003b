-- Proofs that columns, tables and registrations have one spelling each. There is nothing to believe
-- here.
use Rattle.std.proofs.Common.{ℕ, Bool, List, drop, refl, ap}
use Rattle.repl_types.specs.declared.table.Kind.{Kind}
use Rattle.repl_types.specs.declared.table.Kind.TheVariants.{Int, Text}
use Rattle.repl_types.specs.declared.table.ColumnDef.{ColumnDef}
use Rattle.row_codec.specs.laws.Tags.{other_tag}
use Rattle.row_codec.specs.Takes.{One, PairFits, pair_spelling}
use Rattle.row_codec.specs.laws.Ones.{one_by, one_pair}
use Rattle.row_codec.specs.laws.Numbers.{one16, one_flag}
use Rattle.row_codec.specs.laws.Names.{one_name}
use Rattle.row_codec.specs.laws.Values.{one_list}
use Rattle.row_codec.specs.Spelling.{Any, b16, Is16, flag, short_text, IsName, list_spelling, ListFits}
use Rattle.row_codec.specs.Definitions.{places_spelling, ArePlaces, kind_spelling, column_spelling, IsColumn, table_spelling, IsTable, registration_spelling, IsRegistration}

-- lists of places
pub one_places : One ArePlaces places_spelling
one_places = one_list Is16 b16 one16

-- kinds
pub one_kind : One Any kind_spelling
one_kind Int Int a b fx fy e = (refl, ap (drop 1) e)
one_kind Text Text a b fx fy e = (refl, ap (drop 1) e)
one_kind x y a b fx fy e = absurd (other_tag _ _ _ _ e refl)

-- columns
pub one_column : One IsColumn column_spelling
one_column = one_by (PairFits (PairFits IsName Any) Any) (pair_spelling (pair_spelling short_text kind_spelling) flag) IsColumn (λ c. ((c.name, c.kind), c.nullable)) (λ x y e. ap (λ (p : (List ℕ × Kind) × Bool). record { name = p.0.0; kind = p.0.1; nullable = p.1 }) e) (λ _ f. ((f.0, f.1), f.2))
    (one_pair (PairFits IsName Any) Any (pair_spelling short_text kind_spelling) flag (one_pair IsName Any short_text kind_spelling one_name one_kind) one_flag)

-- lists of columns
pub one_columns : One (ListFits IsColumn) (list_spelling column_spelling)
one_columns = one_list IsColumn column_spelling one_column

-- tables
pub one_table : One IsTable table_spelling
one_table = one_by (PairFits (PairFits (PairFits IsName (ListFits IsColumn)) ArePlaces) ArePlaces) (pair_spelling (pair_spelling (pair_spelling short_text (list_spelling column_spelling)) places_spelling) places_spelling) IsTable (λ t. (((t.name, t.columns), t.key), t.fixed)) (λ x y e. ap (λ (p : ((List ℕ × List ColumnDef) × List ℕ) × List ℕ). record { name = p.0.0.0; columns = p.0.0.1; key = p.0.1; fixed = p.1 }) e) (λ _ f. (((f.0, f.1), f.2), f.3))
    (one_pair (PairFits (PairFits IsName (ListFits IsColumn)) ArePlaces) ArePlaces (pair_spelling (pair_spelling short_text (list_spelling column_spelling)) places_spelling) places_spelling
    (one_pair (PairFits IsName (ListFits IsColumn)) ArePlaces (pair_spelling short_text (list_spelling column_spelling)) places_spelling
    (one_pair IsName (ListFits IsColumn) short_text (list_spelling column_spelling) one_name one_columns) one_places) one_places)

-- a name and two lists of places
one_images : One (PairFits (PairFits IsName ArePlaces) ArePlaces) (pair_spelling (pair_spelling short_text places_spelling) places_spelling)
one_images = one_pair (PairFits IsName ArePlaces) ArePlaces (pair_spelling short_text places_spelling) places_spelling (one_pair IsName ArePlaces short_text places_spelling one_name one_places) one_places

-- what begins with parts of one spelling, and a flag
one_flagged : {X : Type 0} (fits : X → Type 0) (spelling : X → List ℕ) → One fits spelling → One (PairFits fits Any) (pair_spelling spelling flag)
one_flagged fits spelling one = one_pair fits Any spelling flag one one_flag

-- registrations
pub one_registration : One IsRegistration registration_spelling
one_registration = one_by (PairFits (PairFits (PairFits (PairFits (PairFits IsName ArePlaces) ArePlaces) Any) Any) Any) (pair_spelling (pair_spelling (pair_spelling (pair_spelling (pair_spelling short_text places_spelling) places_spelling) flag) flag) flag) IsRegistration (λ r. (((((r.table, r.after), r.before), r.del_ins), r.changes_only), r.disable_refresh)) (λ x y e. ap (λ (p : ((((List ℕ × List ℕ) × List ℕ) × Bool) × Bool) × Bool). record { table = p.0.0.0.0.0; after = p.0.0.0.0.1; before = p.0.0.0.1; del_ins = p.0.0.1; changes_only = p.0.1; disable_refresh = p.1 }) e) (λ _ f. (((((f.0, f.1), f.2), f.3), f.4), f.5))
    (one_flagged (PairFits (PairFits (PairFits (PairFits IsName ArePlaces) ArePlaces) Any) Any) (pair_spelling (pair_spelling (pair_spelling (pair_spelling short_text places_spelling) places_spelling) flag) flag)
    (one_flagged (PairFits (PairFits (PairFits IsName ArePlaces) ArePlaces) Any) (pair_spelling (pair_spelling (pair_spelling short_text places_spelling) places_spelling) flag)
    (one_flagged (PairFits (PairFits IsName ArePlaces) ArePlaces) (pair_spelling (pair_spelling short_text places_spelling) places_spelling) one_images)))
