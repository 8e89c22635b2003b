-- Reading the bytes of a text that stands between quotes.
use Rattle.std.proofs.Common.{◌≡◌, ◌≢◌, ℕ, ◌-◌, ◌≤◌, List, [], ◌∷◌, length, get_or, take, drop, refl, arith, ne_eqb}
use Rattle.std.proofs.lemmas.List.{take_rest}
use Rattle.repl_types.specs.ValueText.{after_byte, unescaped, text_at_end, IsNextByte}

-- two bytes that say one
two_say_one : (first second byte : ℕ) (quoted after : List ℕ) → ((bs : List ℕ) → unescaped (first ∷ second ∷ bs) ≡ after_byte byte (unescaped bs)) → quoted ≡ first ∷ after → 1 ≤ length after → get_or after 0 0 ≡ second → IsNextByte quoted byte (take (length after - 1) (drop 1 after))
two_say_one first second byte quoted [] says is some next = absurd (omega arith)
two_say_one first second byte quoted (c ∷ cs) says is some next = rw (take_rest (c ∷ cs) 1, is, next) (record { says = says cs; shorter = omega arith })

-- a doubled quote says a quote
pub says_quote : (quoted after : List ℕ) → quoted ≡ 39 ∷ after → 1 ≤ length after → get_or after 0 0 ≡ 39 → IsNextByte quoted 39 (take (length after - 1) (drop 1 after))
unfolding unescaped
says_quote quoted after = two_say_one 39 39 39 quoted after (λ bs. refl)

-- a doubled backslash says a backslash
pub says_backslash : (quoted after : List ℕ) → quoted ≡ 92 ∷ after → 1 ≤ length after → get_or after 0 0 ≡ 92 → IsNextByte quoted 92 (take (length after - 1) (drop 1 after))
unfolding unescaped
says_backslash quoted after = two_say_one 92 92 92 quoted after (λ bs. refl)

-- a backslash and `n` say a line feed
pub says_line_feed : (quoted after : List ℕ) → quoted ≡ 92 ∷ after → 1 ≤ length after → get_or after 0 0 ≡ 110 → IsNextByte quoted 10 (take (length after - 1) (drop 1 after))
unfolding unescaped
says_line_feed quoted after = two_say_one 92 110 10 quoted after (λ bs. refl)

-- another byte says itself
pub says_itself : (quoted after : List ℕ) (b : ℕ) → quoted ≡ b ∷ after → b ≢ 39 → b ≢ 92 → b ≢ 10 → IsNextByte quoted b after
unfolding unescaped
says_itself quoted [] b is quote backslash feed = rw is (record { says = rw (ne_eqb b 39 quote) refl; shorter = omega arith })
says_itself quoted (c ∷ cs) b is quote backslash feed = rw is (record { says = rw (ne_eqb b 39 quote, ne_eqb b 92 backslash, ne_eqb b 10 feed) refl; shorter = omega arith })

-- a lone quote ends a text if it is the last byte
pub quote_alone : (quoted after : List ℕ) → quoted ≡ 39 ∷ after → get_or after 0 0 ≢ 39 → unescaped quoted ≡ text_at_end quoted
unfolding unescaped
quote_alone quoted [] is other = rw is refl
quote_alone quoted (c ∷ cs) is other = rw (is, ne_eqb c 39 other) refl

-- a backslash stands only before a backslash or `n`
pub backslash_alone : (quoted after : List ℕ) → quoted ≡ 92 ∷ after → get_or after 0 0 ≢ 92 → get_or after 0 0 ≢ 110 → unescaped quoted ≡ text_at_end quoted
unfolding unescaped
backslash_alone quoted [] is backslash letter = rw is refl
backslash_alone quoted (c ∷ cs) is backslash letter = rw (is, ne_eqb c 92 backslash, ne_eqb c 110 letter) refl

-- no line feed stands between quotes
pub no_line_feed : (quoted after : List ℕ) → quoted ≡ 10 ∷ after → unescaped quoted ≡ text_at_end quoted
unfolding unescaped
no_line_feed quoted [] is = rw is refl
no_line_feed quoted (c ∷ cs) is = rw is refl

-- no byte stands in empty bytes
pub nothing_there : (quoted : List ℕ) → length quoted ≡ 0 → unescaped quoted ≡ text_at_end quoted
unfolding unescaped
nothing_there [] none = refl
nothing_there (b ∷ bs) none = absurd (omega arith)
