use Rattle.std.proofs.Common.{ℕ, ◌<◌, get_or}
use Rattle.run_words.specs.declared.opening.ServerWord.{ServerWord}
use Rattle.run_words.specs.Openings.{GoTogether}
use Rattle.run_words.proofs.servers.all_go_together.Given as goal

abbrev pub invariant-loop-place : goal.invariant-loop-place
invariant-loop-place l = (i j : ℕ) (d : ServerWord) → i < j → j < l.place → GoTogether (get_or l.servers i d) (get_or l.servers j d)
