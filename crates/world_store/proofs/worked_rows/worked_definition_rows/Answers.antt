use Rattle.std.proofs.Common.{refl}
use Rattle.repl_model.specs.Words.{by_key}
use Rattle.world_store.proofs.worked_rows.worked_definition_rows.Goals as goal

pub returns-clause-tables : goal.returns-clause-tables
unfolding by_key
returns-clause-tables c = refl

pub returns-clause-by_names : goal.returns-clause-by_names
unfolding by_key
returns-clause-by_names c = refl

pub returns-clause-registrations : goal.returns-clause-registrations
unfolding by_key
returns-clause-registrations c = refl

pub returns-clause-source_sets : goal.returns-clause-source_sets
unfolding by_key
returns-clause-source_sets c = refl

pub returns-clause-target_sets : goal.returns-clause-target_sets
unfolding by_key
returns-clause-target_sets c = refl
