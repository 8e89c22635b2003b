-- How many items of a text are new.
use Rattle.std.specs.Prelude.{◌≡◌, Bool, not, count_by}
use Rattle.std.specs.List.{list_any}
use Rattle.repl_definitions.specs.declared.set.SetDef.{SetDef}
use Rattle.repl_model.specs.World.{same_set}
use Rattle.spelled_defs.specs.Spelled.{is_table, is_registration}
use Rattle.spelled_defs.specs.declared.defs.Defs.{Defs}
use Rattle.spelled_defs.specs.declared.defs.TableAt.{TableAt}
use Rattle.spelled_defs.specs.declared.defs.RegistrationAt.{RegistrationAt}
use Rattle.load_defs.specs.declared.counts.Loaded.{Loaded}

-- no known table has the name of this one at its server
abbrev pub is_new_table : Defs → TableAt → Bool
is_new_table known t = not (list_any (is_table t.server t.def.name) known.tables)

-- no known registration is of the same table
abbrev pub is_new_registration : Defs → RegistrationAt → Bool
is_new_registration known r = not (list_any (is_registration r.server r.def.table) known.registrations)

-- no known set has the name of this one
abbrev pub is_new_set : Defs → SetDef → Bool
is_new_set known def = not (list_any (λ other. same_set def.id other.id) known.sets)

-- how many items of a text are new
abbrev pub loaded_counts : Defs → Defs → Loaded
loaded_counts known defs = record {
  tables = count_by (is_new_table known) defs.tables;
  registrations = count_by (is_new_registration known) defs.registrations;
  sets = count_by (is_new_set known) defs.sets;
}

-- no item is new
abbrev pub NoneIsNew : Loaded → Type 0
NoneIsNew loaded = (loaded.tables ≡ 0) × (loaded.registrations ≡ 0) × (loaded.sets ≡ 0)
