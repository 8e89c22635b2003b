use Rattle.std.proofs.Common.{ℕ, List, [], ◌∷◌, codes, string_bytes, sym, ap, ◌∙◌, arith}
use Rattle.std.proofs.lemmas.Slice.Eq.{bytes_eq-Decides}
use Rattle.run_words.proofs.OneOpening.{one_element}
use Rattle.run_words.proofs.words.asks_copy.Goals as goal

pub returns-in-len1 : goal.returns-in-len1
returns-in-len1 c =
    let words = one_element string_bytes c.args.words.now c.word-item.result (omega arith) c.in-len1.len_below c.word-item.is in
    let same = bytes_eq-Decides c.as_str.result.now (codes "copy") in (
      λ yes. words ∙ ap (λ (word : List ℕ). word ∷ []) (sym c.as_str.ensures.value ∙ same.0 (sym c.eq.ensures ∙ yes)),
      λ is. c.eq.ensures ∙ same.1 (c.as_str.ensures.value ∙ cc (sym words ∙ is)),
    )
