use Rattle.std.proofs.Common.{◌≡◌, Bool, Some, None, cond, ap, subst, ◌∙◌}
use Rattle.std.specs.Prelude.{not, ◌||◌}
use Rattle.keep_map.specs.Merged.{both}
use Rattle.keep_map.specs.Scattered.{rows_seen}
use Rattle.keep_map.specs.Tables.{TablePlace, tables_of, id_of, runs_seen}
use Rattle.keep_map.proofs.Merging.{found_in_run}
use Rattle.keep_map.proofs.stored_rows.StoredRows.get.Goals as goal

pub returns-then-answer-clause-found : goal.returns-then-answer-clause-found
returns-then-answer-clause-found c =
    let f = tables_of c.args.self.now.runs.map in
    let m = c.args.self.now.others.map in
    let answer = c.in_ok-answer.answer in
    let out = c.get.new.out.items in
    let here = found_in_run f m c.args.self.now.disjoint (id_of c.new-id.result) c.args.key.now answer.found answer.has_more out c.in_ok-answer.ensures.found c.in_ok-answer.ensures.more (ap (λ (b : Bool). b || not answer.has_more) c.if-answer.true) in
    subst (λ (t : TablePlace). both (runs_seen f) (rows_seen m) (t.0, t.1, c.args.key.now) ≡ Some out) c.new-id.ensures
    (here ∙ ap (λ (b : Bool). cond b (Some out) None) c.if-answer.true)

pub returns-then-not-answer-clause-found : goal.returns-then-not-answer-clause-found
returns-then-not-answer-clause-found c =
    let f = tables_of c.args.self.now.runs.map in
    let m = c.args.self.now.others.map in
    let answer = c.in_ok-answer.answer in
    let out = c.get.new.out.items in
    let here = found_in_run f m c.args.self.now.disjoint (id_of c.new-id.result) c.args.key.now answer.found answer.has_more out c.in_ok-answer.ensures.found c.in_ok-answer.ensures.more (λ i. c.if-answer.false i || c.if-not-answer.true i) in
    subst (λ (t : TablePlace). both (runs_seen f) (rows_seen m) (t.0, t.1, c.args.key.now) ≡ None) c.new-id.ensures
    (here ∙ ap (λ (b : Bool). cond b (Some out) None) c.if-answer.false)
