-- Tables that are known from earlier changes: proofs.
use Rattle.std.proofs.Common.{◌≡◌, ℕ, true, List, ap, subst, ◌∙◌, Option, Some, None}
use Rattle.world_store.specs.Words.{short_text}
use Rattle.site_store.specs.Words.{Contents, Table}
use Rattle.repl_model.specs.Words.{same_name, Change, defined_table_spelling, DefinedTable, table_of}
use Rattle.repl_types.specs.declared.area.Area.TheVariants as areas
use Rattle.source_log.specs.Fitting.{may_stand}
use Rattle.source_log.specs.Rules.{HasTable, IsKnown, IsTableAt}
use Rattle.source_log.proofs.MayStand.{parts_of}

-- a change that may stand at a table has the table's name
same_table : (change : Change) (table : DefinedTable) → may_stand table.def change ≡ true → table_of change ≡ table.def.name
same_table change table may = same_name (table_of change) table.def.name (parts_of table.def change may).own

-- the table of a change is known
pub known_of : (change : Change) (table : DefinedTable) (c : Contents) → HasTable c change table → IsKnown (Some table) c
known_of change table c has = (subst (λ (name : List ℕ). c areas.Defs 0 (short_text name) ≡ Some (defined_table_spelling table)) (same_table change table has.may) has.stands, has.fits)

-- the known table is the one under its name
pub known_named : (name : List ℕ) (table : DefinedTable) (c : Contents) → table.def.name ≡ name → IsKnown (Some table) c → IsTableAt name (Some table) c
known_named name table c is known = subst (λ (n : List ℕ). IsTableAt n (Some table) c) is known

-- what is known stays if the tables do
pub known_stays : (known : Option DefinedTable) (c d : Contents) → d areas.Defs 0 ≡ c areas.Defs 0 → IsKnown known c → IsKnown known d
known_stays None c d same k = tt
known_stays (Some table) c d same k = (ap (λ (t : Table). t (short_text table.def.name)) same ∙ k.0, k.1)
