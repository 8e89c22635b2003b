use Rattle.std.proofs.Common.{◌≡◌, map, string_bytes, take}
use Rattle.clap.specs.Walk.{texts}
use Rattle.run_words.specs.Command.{with_program}
use Rattle.run_words.proofs.command.words_of_program.Given as goal

abbrev pub invariant-loop-word : goal.invariant-loop-word
invariant-loop-word l = texts l.all.items ≡ with_program (map string_bytes (take l.word-index l.words))
