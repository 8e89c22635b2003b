-- The command that takes the words of a script.
use Rattle.std.specs.Prelude.{ℕ, true, codes, List, ◌∷◌, Some}
use Rattle.clap.specs.Words.{App, Row, Rule, matches_of, new_app, new_rule, with_rule}
use Rattle.run_words.specs.Limits.{server_limit}

-- the option `--cells N`
abbrev pub cells_rule : Rule
cells_rule = record (new_rule (codes "cells")) { long = Some (codes "cells") }

-- the words of the servers
abbrev pub servers_rule : Rule
servers_rule = record (new_rule (codes "servers")) {
  required = true;
  range = Some (record { start_inclusive = 1; end_inclusive = server_limit });
}

-- the command has both
abbrev pub server_app : App
server_app = with_rule (with_rule (new_app (codes "sqlrep")) cells_rule) servers_rule

-- words with the program's name before them
abbrev pub with_program : List (List ℕ) → List (List ℕ)
with_program words = codes "sqlrep" ∷ words

-- what the command reads of words
unfoldable pub rows : List (List ℕ) → List Row
rows words = matches_of server_app (with_program words)
