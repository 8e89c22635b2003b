use Rattle.std.proofs.Common.{◌≡◌, Bool, true, false, ap, subst, ◌∙◌}
use Rattle.std.specs.Prelude.{is_some, not, ◌||◌}
use Rattle.std.proofs.lemmas.Result.{on_ok_weaker}
use Rattle.keep_map.specs.Merged.{both}
use Rattle.keep_map.specs.Scattered.{rows_seen}
use Rattle.keep_map.specs.Tables.{TablePlace, tables_of, id_of, runs_seen}
use Rattle.keep_map.proofs.Merging.{bare_beside, there_in_run, removed_in_run, removed_beside, apart_by_removal}
use Rattle.keep_map.proofs.stored_rows.StoredRows.remove.Goals as goal

pub returns-then-answer-clause-ok : goal.returns-then-answer-clause-ok
returns-then-answer-clause-ok c =
    let f = tables_of c.args.self.now.runs.map in
    let m = c.args.self.now.others.map in
    let t = id_of c.new-id.result in
    let answer = c.in_ok-answer.answer in
    removed_in_run f (tables_of c.remove.new.self.map) m c.args.self.now.disjoint t c.args.key.now c.args.area c.args.table c.new-id.ensures c.in_ok-answer.ensures.ok
    (bare_beside f m c.args.self.now.disjoint t c.args.key.now answer.found answer.has_more c.in_ok-answer.ensures.found c.in_ok-answer.ensures.more (ap (λ (b : Bool). b || not answer.has_more) c.if-answer.true))

pub returns-then-answer-clause-found : goal.returns-then-answer-clause-found
returns-then-answer-clause-found c =
    let f = tables_of c.args.self.now.runs.map in
    let m = c.args.self.now.others.map in
    let answer = c.in_ok-answer.answer in
    subst (λ (t : TablePlace). is_some (both (runs_seen f) (rows_seen m) (t.0, t.1, c.args.key.now)) ≡ true) c.new-id.ensures
    (there_in_run f m c.args.self.now.disjoint (id_of c.new-id.result) c.args.key.now answer.found answer.has_more c.in_ok-answer.ensures.found c.in_ok-answer.ensures.more (ap (λ (b : Bool). b || not answer.has_more) c.if-answer.true) ∙ c.if-answer.true)

pub returns-then-not-answer-clause-ok : goal.returns-then-not-answer-clause-ok
returns-then-not-answer-clause-ok c =
    let f = tables_of c.args.self.now.runs.map in
    let m = c.args.self.now.others.map in
    let t = id_of c.new-id.result in
    let answer = c.in_ok-answer.answer in
    removed_in_run f (tables_of c.remove.new.self.map) m c.args.self.now.disjoint t c.args.key.now c.args.area c.args.table c.new-id.ensures c.in_ok-answer.ensures.ok
    (bare_beside f m c.args.self.now.disjoint t c.args.key.now answer.found answer.has_more c.in_ok-answer.ensures.found c.in_ok-answer.ensures.more (λ i. c.if-answer.false i || c.if-not-answer.true i))

pub returns-then-not-answer-clause-found : goal.returns-then-not-answer-clause-found
returns-then-not-answer-clause-found c =
    let f = tables_of c.args.self.now.runs.map in
    let m = c.args.self.now.others.map in
    let answer = c.in_ok-answer.answer in
    subst (λ (t : TablePlace). is_some (both (runs_seen f) (rows_seen m) (t.0, t.1, c.args.key.now)) ≡ false) c.new-id.ensures
    (there_in_run f m c.args.self.now.disjoint (id_of c.new-id.result) c.args.key.now answer.found answer.has_more c.in_ok-answer.ensures.found c.in_ok-answer.ensures.more (λ i. c.if-answer.false i || c.if-not-answer.true i) ∙ c.if-answer.false)

pub invariant_of-self-2 : goal.invariant_of-self-2
invariant_of-self-2 c =
    record { disjoint = apart_by_removal (tables_of c.args.self.now.runs.map) (tables_of c.remove.new.self.map) c.args.self.now.others.map c.args.self.now.disjoint (id_of c.new-id.result) c.args.key.now c.args.area c.args.table c.new-id.ensures c.in_ok-answer.ensures.ok c.remove-2.result c.remove-2.new.self.map c.remove-2.ensures.ok c.remove-2.ensures.err c.remove-2.ensures.held }

pub returns-clause-ok : goal.returns-clause-ok
returns-clause-ok c =
    on_ok_weaker c.remove-2.result (removed_beside (tables_of c.args.self.now.runs.map) (tables_of c.remove.new.self.map) c.args.self.now.others.map c.args.self.now.disjoint (id_of c.new-id.result) c.args.key.now c.args.area c.args.table c.new-id.ensures c.in_ok-answer.ensures.ok c.remove-2.new.self.map) c.remove-2.ensures.ok
