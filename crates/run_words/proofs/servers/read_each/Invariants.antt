use Rattle.std.proofs.Common.{◌≡◌, map, take}
use Rattle.std.specs.List.{All}
use Rattle.clap.specs.Walk.{texts}
use Rattle.run_words.specs.Openings.{word_of, IsServerWord}
use Rattle.run_words.proofs.servers.read_each.Given as goal

abbrev pub invariant-loop-word : goal.invariant-loop-word
invariant-loop-word l = record {
  each : All IsServerWord l.servers;
  spelled : texts (take l.word-index l.words) ≡ map word_of l.servers;
}
