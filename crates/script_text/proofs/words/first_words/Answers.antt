use Rattle.std.proofs.Common.{ℕ, List, rules, tests, not, eqb, length}
use Rattle.std.proofs.lemmas.Iterator.{YieldsList-from_take}
use Rattle.std.proofs.lemmas.Iterator.Consumers.{map_from_collect, YieldsList-from_filter}
use Rattle.std.proofs.lemmas.Iterator.Splits.{YieldsList-from_slice_split}
use Rattle.script_text.specs.declared.words.TheConstants.{WORDS_READ}
use Rattle.script_text.specs.Words.{blank, line_words}
use Rattle.script_text.proofs.words.first_words.Goals as goal

pub returns : goal.returns
unfolding line_words
returns c =
    map_from_collect _ c.collect.ensures.ran (YieldsList-from_take WORDS_READ (YieldsList-from_filter _ (λ (part : List ℕ). not (eqb (length part) 0))
    (YieldsList-from_slice_split _ (λ b. eqb b blank) c.args.line.now (cc) (cc) (cc) (λ x r q k. search (rules, tests))) (cc) (λ x r q k. search (rules, tests))) (cc))
