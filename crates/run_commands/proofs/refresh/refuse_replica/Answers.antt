use Rattle.std.proofs.Common.{true, subst}
use Rattle.repl_model.specs.Words.{Refusal}
use Rattle.repl_types.specs.declared.refusal.GapPlace.TheVariants as places
use Rattle.repl_types.specs.declared.refusal.Refusal.TheVariants as refusals
use Rattle.run_core.specs.Runs.{lines_of}
use Rattle.run_commands.specs.parts.Parts.{WritesRefusal}
use Rattle.run_commands.specs.parts.Refusing.{refused}
use Rattle.run_commands.specs.parts.laws.Composing.{nothing_written}
use Rattle.run_commands.proofs.refresh.refuse_replica.Goals as goal

-- there was no memory for the refusal
pub returns-in_err-refusal : goal.returns-in_err-refusal
returns-in_err-refusal g c = record { line = nothing_written c.from_residual.result c.from_residual.ensures.1 (lines_of (refused (refusals.RefreshDisabled (places.Replica c.args.id.now)))) true }

-- it was written
pub returns : goal.returns
returns g c = subst (λ (refusal : Refusal). WritesRefusal g.O.Sink.taken g.O.Sink.faults c.args.output.now c.refuse.new.output refusal true c.refuse.result) c.in_ok-refusal.ensures c.refuse.ensures
