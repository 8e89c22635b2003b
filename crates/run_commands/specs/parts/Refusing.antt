-- A refusal as what a run does.
use Rattle.std.specs.Prelude.{List, [], ◌∷◌}
use Rattle.repl_types.specs.declared.refusal.Refusal.{Refusal}
use Rattle.reply_text.specs.Refusals.{refusal_line}
use Rattle.repl_model.specs.World.{World}
use Rattle.run_core.specs.Runs.{Event, refuses}

-- something is refused
abbrev pub refused : Refusal → List (Event World)
refused refusal = refuses (refusal_line refusal) ∷ []
