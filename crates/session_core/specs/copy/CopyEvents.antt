-- What a run does at `copy`: definitions are loaded at the servers `src` and `dst`, the lines of the input are fed, captured
-- and applied, and the copy is shown. Of the lines that this would write only those of the copy are written, and then that
-- of what the feed refused, if it refused something.
use Rattle.std.specs.Prelude.{ℕ, codes, List, Some, None}
use Rattle.repl_types.specs.declared.record.SetId.{SetId}
use Rattle.repl_model.specs.World.{World}
use Rattle.run_core.specs.Runs.{Event}
use Rattle.run_commands.specs.parts.Parts.{then_events}
use Rattle.run_commands.specs.load.LoadEvents.{load_text_events}
use Rattle.run_commands.specs.capture.CaptureEvents.{capture_events}
use Rattle.run_commands.specs.apply.StepEvents.{apply_events}
use Rattle.run_commands.specs.target.TargetEvents.{target_events}
use Rattle.session_core.specs.copy.unwritten.Unwritten.{unwritten, refusals_in}
use Rattle.session_core.specs.copy.fed.FedInput.{input_events}

-- the definitions of the copy: a table of items at the source, and a set of one user copy of it at the target
abbrev pub copy_text : List ℕ
copy_text = codes "[[table]]\nserver = \"src\"\nname = \"items\"\ncolumns = [\"id int\", \"name text null\"]\nkey = [\"id\"]\nfixed = [\"id\"]\n[[registration]]\nserver = \"src\"\ntable = \"items\"\n[[set]]\nqual = \"copy\"\nname = \"copy\"\nsource = \"src\"\ntarget = \"dst\"\n[[set.member]]\nsource = \"items\"\ntarget = \"items_copy\"\ntype = \"user_copy\"\ncolumns = [\"id = id\", \"name = name\"]\n"

-- the name of its set
abbrev pub copy_set : SetId
copy_set = record { qual = codes "copy"; name = codes "copy" }

-- what a part does without its lines
abbrev pub silent : (World → List (Event World)) → World → List (Event World)
silent events w = unwritten (events w)

-- ---- what a run does, from each of its parts on; of a feed these are the events

-- the copy is shown, and then what was refused
abbrev pub written_events : List (Event World) → World → List (Event World)
written_events fed = then_events (target_events 0 (codes "dst") (codes "items_copy")) (λ w. refusals_in fed)

-- before that the set is applied
abbrev pub applied_events : List (Event World) → World → List (Event World)
applied_events fed = then_events (silent (apply_events 0 copy_set)) (written_events fed)

-- before that what was fed is captured
abbrev pub shown_events : List (Event World) → World → List (Event World)
shown_events fed = then_events (silent (capture_events (codes "src") None None)) (applied_events fed)

-- before that the lines of the input are fed
abbrev pub fed_events : List ℕ → World → List (Event World)
fed_events input w = let fed = input_events (codes "src") input w in then_events (λ v. unwritten fed) (shown_events fed) w

-- before that the set is applied for the first time
abbrev pub brought_events : List ℕ → World → List (Event World)
brought_events input = then_events (silent (apply_events 0 copy_set)) (fed_events input)

-- what a run does with an input: before that the definitions are loaded
abbrev pub copy_events : List ℕ → World → List (Event World)
copy_events input = then_events (silent (load_text_events (Some copy_text))) (brought_events input)
