-- What a run at servers in memory comes to.
use Rattle.std.specs.Prelude.{◌≡◌, ℕ, List, Option}
use Rattle.keep_core.specs.Revealed.{Takes}
use Rattle.repl_model.specs.World.{empty_world}
use Rattle.run_core.specs.Runs.{lines_of}
use Rattle.run_words.specs.declared.opening.Opening.{Opening}
use Rattle.session_core.specs.Session.{server_names, run_events, status_of}
use Rattle.sqlrep.specs.Endings.{code_of}

-- From the empty world on the whole run over an input happened: the output took its lines, and this is its exit status.
pub record RanWhole (opening : Opening) (before now : Option (List ℕ)) (code : ℕ) (input : List ℕ) : Type 0 where
  pub taken : Takes before now (lines_of (run_events opening input (empty_world (server_names opening))))
  pub status : code ≡ code_of (status_of (run_events opening input (empty_world (server_names opening))))
