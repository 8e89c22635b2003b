use Rattle.std.proofs.Common.{sym, ap, ◌∙◌}
use Rattle.log_text.specs.Words.{words}
use Rattle.log_text.specs.Records.{from_arrow}
use Rattle.log_text.proofs.Values.{from-word, row_stops, row_goes_on, row_ends, row_is_all}
use Rattle.log_text.proofs.read.read_values.Goals as goal
use Rattle.log_text.proofs.read.read_values.Goals.{in-Some+then-is_word, in_default}

pub returns-in-None-clause-values : goal.returns-in-None-clause-values
returns-in-None-clause-values c =
    row_stops c.loop-word.values (words c.args.line.now) (words c.loop-word.rest.now) c.loop-word.invariant.values c.in-Some.word.now (words c.in-Some.after.now) c.in-Some.ensures.words
    (sym c.is_word.ensures ∙ c.if-is_word.false) (sym c.in-None.is ∙ c.in_ok-value.ensures)

pub loop-word-preserved : goal.loop-word-preserved
loop-word-preserved c =
    let all = words c.args.line.now in
    let after = words c.in-Some.after.now in
    let no = sym c.is_word.ensures ∙ c.if-is_word.false in
    record {
      values = rw c.in_ok-push-in-Some-2.ensures.items (row_goes_on c.loop-word.values all (words c.loop-word.rest.now) c.loop-word.invariant.values c.in-Some.word.now after c.in-Some.ensures.words c.in-Some-2.value no (sym c.in-Some-2.is ∙ c.in_ok-value.ensures));
      rest = sym (from-word c.in-Some.word.now after no) ∙ sym (ap from_arrow c.in-Some.ensures.words) ∙ c.loop-word.invariant.rest;
    }

pub returns-clause-values : goal.returns-clause-values
returns-clause-values c = elim c.match-next_word.branch [
  | in-Some+then-is_word w ↦ row_ends c.loop-word.values (words c.args.line.now) (words c.loop-word.rest.now) c.loop-word.invariant.values w.in-Some.word.now (words w.in-Some.after.now) w.in-Some.ensures.words
      (sym w.is_word.ensures ∙ w.if-is_word.true)
  | in_default w ↦ row_is_all c.loop-word.values (words c.args.line.now) (words c.loop-word.rest.now) c.loop-word.invariant.values w.in_default.ensures.words
]
