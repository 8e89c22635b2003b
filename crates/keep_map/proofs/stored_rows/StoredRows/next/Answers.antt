use Rattle.std.proofs.Common.{Bool, not, sym, ap, subst, ◌∙◌}
use Rattle.std.proofs.lemmas.Result.{IfOk-weaker}
use Rattle.repl_types.specs.Area.{area_number}
use Rattle.keep_core.specs.Contents.{Table}
use Rattle.keep_map.specs.Merged.{both}
use Rattle.keep_map.specs.Next.{IsNext, parts}
use Rattle.keep_map.specs.Places.{Place, contents_of}
use Rattle.keep_map.specs.Scattered.{rows_seen, table_seen}
use Rattle.keep_map.specs.Tables.{TablePlace, tables_of, id_of, runs_seen, seen_in_run}
use Rattle.keep_map.proofs.Merging.{all_in_run}
use Rattle.keep_map.proofs.NextKey.{in_contents}
use Rattle.keep_map.proofs.stored_rows.StoredRows.next.Goals as goal

pub returns-then-not-answer-clause-found : goal.returns-then-not-answer-clause-found
returns-then-not-answer-clause-found c =
    let f = tables_of c.args.self.now.runs.map in
    let m = c.args.self.now.others.map in
    let id = c.new-id.result in
    let at : TablePlace → Table = λ t k. both (runs_seen f) (rows_seen m) (t.0, t.1, k) in
    let all = all_in_run f m c.args.self.now.disjoint (id_of id) (ap (λ (b : Bool). not b) (sym c.in_ok-answer.ensures.more) ∙ c.if-not-answer.true) ∙ ap at c.new-id.ensures in
    in_contents (seen_in_run (f (id_of id))) (contents_of (both (runs_seen f) (rows_seen m))) c.args.area c.args.table c.args.after.now c.in_ok-answer.answer.found c.next.new.key.items c.next.new.out.items all c.in_ok-answer.ensures.found

pub returns-clause-found : goal.returns-clause-found
returns-clause-found c =
    let f = tables_of c.args.self.now.runs.map in
    let m = c.args.self.now.others.map in
    let run = seen_in_run (f (id_of c.new-id.result)) in
    let slot = c.in_ok-slot.slot in
    let key = c.next-2.new.key.items in
    let out = c.next-2.new.out.items in
    let is_next = subst (λ (p : Place). IsNext run p.2 c.in_ok-answer.answer.found c.next.new.key.items c.next.new.out.items) (sym c.in_ok-slot.ensures) c.in_ok-answer.ensures.found in
    let all = ap (λ (t : TablePlace). parts (seen_in_run (f t)) (table_seen m (area_number c.args.area) c.args.table)) c.new-id.ensures in
    IfOk-weaker c.next-2.result (λ found. (part : Table) → IsNext part slot.key.items c.in_ok-answer.answer.found c.next.new.key.items c.next.new.out.items → IsNext (parts part (table_seen m slot.area slot.table)) slot.key.items found key out) _
    (λ found next. in_contents (parts run (table_seen m (area_number c.args.area) c.args.table)) (contents_of (both (runs_seen f) (rows_seen m))) c.args.area c.args.table c.args.after.now found key out all
    (subst (λ (p : Place). IsNext (parts run (table_seen m p.0 p.1)) p.2 found key out) c.in_ok-slot.ensures (next run is_next)))
    c.next-2.ensures.found
