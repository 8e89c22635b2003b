use Rattle.std.proofs.Common.{◌≡◌, ◌<◌, ℕ, [], length, get_or}
use Rattle.site_store.specs.Words.{names}
use Rattle.run_words.specs.declared.opening.ServerWord.{ServerWord}
use Rattle.session_core.proofs.words.are_these.Given as goal

abbrev pub invariant-loop-place : goal.invariant-loop-place
invariant-loop-place g l = record {
  long : length l.servers ≡ length (names l.sites);
  same : (k : ℕ) (d : ServerWord) → k < l.place → (get_or l.servers k d).name ≡ get_or (names l.sites) k [];
}
