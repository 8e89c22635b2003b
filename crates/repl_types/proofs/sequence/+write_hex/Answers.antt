use Rattle.std.proofs.Common.{ℕ, List, [], ◌∷◌, ◌++◌, ◌-◌, ◌/◌, ◌%◌, sym, ap, ◌∙◌, append-nil, append_assoc, arith}
use Rattle.repl_types.specs.Sequence.{hex_digit, hex_digits}
use Rattle.repl_types.proofs.Digits.{last_apart, no_digits}
use Rattle.repl_types.proofs.sequence.+write_hex.Goals as goal

pub returns-then-count-eq0 : goal.returns-then-count-eq0
returns-then-count-eq0 t c =
    let none = ap (λ (k : ℕ). hex_digits k c.args.number) c.if-count-eq0.true ∙ no_digits c.args.number in
    record { ok = sym (ap (λ (text : List ℕ). c.args.out.now.items ++ text) none ∙ append-nil c.args.out.now.items) }

pub returns : goal.returns
returns t c =
    let last = hex_digit (c.args.number % 16) ∷ [] in
    let apart = last_apart c.args.count c.args.number (omega (arith, c.if-count-eq0.false)) in
    let higher = hex_digits (c.args.count - 1) (c.args.number / 16) in
    record { ok = c.in_ok-push.ensures.items ∙ ap (λ (text : List ℕ). text ++ last) c.in_ok-write_hex.ensures.ok ∙ append_assoc c.args.out.now.items higher last ∙ ap (λ (text : List ℕ). c.args.out.now.items ++ text) (sym apart) }
