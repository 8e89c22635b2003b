use Rattle.std.proofs.Common.{◌≡◌, ℕ, ◌+◌, Bool, false, subst, sym, ap, ◌∙◌, arith, take, drop, length}
use Rattle.log_text.specs.Words.{parts}
use Rattle.log_text.proofs.Parts.{with_front, front_more, ends_at, ends_last, not_at_start}
use Rattle.log_text.proofs.words.word_end.Goals as goal

pub loop-at-preserved : goal.loop-at-preserved
loop-at-preserved c =
    let line = c.args.line.now in
    let i = c.loop-at.at in
    record {
      front = front_more line c.loop-at.quoted i c.loop-at-test.true (sym c.is_end.ensures ∙ c.if-is_end.false) c.loop-at.invariant.front
          ∙ ap (λ (q : Bool). with_front (take (i + 1) line) (parts q (drop (i + 1) line))) (sym c.quoted_after-quoted.ensures);
      at_start = λ e. absurd (omega arith);
    }

pub returns-then-is_end-clause-moves : goal.returns-then-is_end-clause-moves
returns-then-is_end-clause-moves c = not_at_start c.args.line.now c.loop-at.quoted c.loop-at.at c.requires.start c.requires.some (sym c.is_end.ensures ∙ c.if-is_end.true) c.loop-at.invariant.at_start

pub returns-then-is_end-clause-word : goal.returns-then-is_end-clause-word
returns-then-is_end-clause-word c =
    let ends = sym c.is_end.ensures ∙ c.if-is_end.true in
    ends_at c.args.line.now c.loop-at.quoted c.loop-at.at c.loop-at-test.true (not_at_start c.args.line.now c.loop-at.quoted c.loop-at.at c.requires.start c.requires.some ends c.loop-at.invariant.at_start) ends c.loop-at.invariant.front

pub returns-clause-word : goal.returns-clause-word
returns-clause-word c =
    let line = c.args.line.now in
    let all : c.loop-at.at ≡ length line = omega arith in
    ends_last line c.loop-at.quoted c.requires.some (subst (λ (i : ℕ). parts false line ≡ with_front (take i line) (parts c.loop-at.quoted (drop i line))) all c.loop-at.invariant.front)
