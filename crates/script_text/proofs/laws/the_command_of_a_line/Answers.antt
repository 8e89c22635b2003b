use Rattle.script_text.proofs.Forms.{found_has, has_found}
use Rattle.script_text.proofs.laws.the_command_of_a_line.Goals as goal

pub returns-clause-found : goal.returns-clause-found
returns-clause-found g line c is = found_has line c is

pub returns-clause-all : goal.returns-clause-all
returns-clause-all g line c is = has_found line c is
