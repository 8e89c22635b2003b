use Rattle.std.proofs.Common.{arith}
use Rattle.std.proofs.lemmas.Bool.{ltb-true}
use Rattle.std.proofs.lemmas.List.{get_or_past}
use Rattle.repl_types.specs.laws.Unescaped.{says_quote, says_backslash, says_line_feed, says_itself, quote_alone, backslash_alone, no_line_feed, nothing_there}
use Rattle.repl_types.proofs.value_text.next_byte.Goals as goal
use Rattle.repl_types.proofs.value_text.next_byte.Goals.{in_default-after-via-then-after-lt1, in_default-after-via-else-after-lt1+in_default-1, in_default-after-2-via-then-after-lt1-2, in_default-after-2-via-else-after-lt1-2+in_default-1}

pub returns-in_err-first : goal.returns-in_err-first
returns-in_err-first c = rw c.from_residual.ensures (nothing_there c.args.quoted.now c.in_err-first.ensures.cases)

pub returns-in-39-after : goal.returns-in-39-after
returns-in-39-after c = says_quote c.args.quoted.now c.in_ok-first.after.now (rw c.in-39.is at c.in_ok-first.ensures.cases.0) c.in-39-after.len_at_least (omega arith)

pub returns-in_default-after : goal.returns-in_default-after
returns-in_default-after c =
    let is = rw c.in-39.is at c.in_ok-first.ensures.cases.0 in
    elim c.in_default-after.branch [
      | in_default-after-via-then-after-lt1 w ↦ quote_alone c.args.quoted.now c.in_ok-first.after.now is (omega (arith, get_or_past c.in_ok-first.after.now 0 0 (omega (arith, ltb-true))))
      | in_default-after-via-else-after-lt1+in_default-1 w ↦ quote_alone c.args.quoted.now c.in_ok-first.after.now is (omega arith)
    ]

pub returns-in-92-after : goal.returns-in-92-after
returns-in-92-after c = says_backslash c.args.quoted.now c.in_ok-first.after.now (rw c.in-92.is at c.in_ok-first.ensures.cases.0) c.in-92-after.len_at_least (omega arith)

pub returns-in-110 : goal.returns-in-110
returns-in-110 c = says_line_feed c.args.quoted.now c.in_ok-first.after.now (rw c.in-92.is at c.in_ok-first.ensures.cases.0) c.in-110.len_at_least (omega arith)

pub returns-in_default-after-2 : goal.returns-in_default-after-2
returns-in_default-after-2 c =
    let is = rw c.in-92.is at c.in_ok-first.ensures.cases.0 in
    elim c.in_default-after-2.branch [
      | in_default-after-2-via-then-after-lt1-2 w ↦
          let past = get_or_past c.in_ok-first.after.now 0 0 (omega (arith, ltb-true)) in
          backslash_alone c.args.quoted.now c.in_ok-first.after.now is (omega (arith, past)) (omega (arith, past))
      | in_default-after-2-via-else-after-lt1-2+in_default-1 w ↦ backslash_alone c.args.quoted.now c.in_ok-first.after.now is (omega arith) (omega arith)
    ]

pub returns-in-10 : goal.returns-in-10
returns-in-10 c = no_line_feed c.args.quoted.now c.in_ok-first.after.now (rw c.in-10.is at c.in_ok-first.ensures.cases.0)

pub returns-in_default : goal.returns-in_default
returns-in_default c = says_itself c.args.quoted.now c.in_ok-first.after.now c.in_ok-first.first.now c.in_ok-first.ensures.cases.0 (omega arith) (omega arith) (omega arith)
