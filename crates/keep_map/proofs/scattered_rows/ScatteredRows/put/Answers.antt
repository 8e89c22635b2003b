use Rattle.std.proofs.Common.{Some, List, ℕ, ap, ◌∙◌}
use Rattle.std.proofs.lemmas.Result.{on_ok_weaker}
use Rattle.repl_types.specs.Area.{area_number}
use Rattle.keep_map.specs.Places.{Place, put_value}
use Rattle.keep_map.specs.Scattered.{place_of, rows_seen}
use Rattle.keep_map.proofs.Seen.{seen_changed, held_changed}
use Rattle.keep_map.proofs.scattered_rows.ScatteredRows.put.Goals as goal

pub returns-clause-ok : goal.returns-clause-ok
returns-clause-ok c =
    let m = c.args.self.now.map in
    let to : Place = (area_number c.args.area, c.args.table, c.args.key.now) in
    let put = λ (v : List ℕ). put_value (rows_seen m) to (Some v) in
    on_ok_weaker c.change.result (λ sets. seen_changed m c.change.new.self.map (place_of c.in_ok-slot.slot) to (Some c.in_ok-value.value) c.in_ok-slot.ensures sets ∙ ap put c.in_ok-value.ensures) c.change.ensures.ok

pub returns-clause-held : goal.returns-clause-held
returns-clause-held c =
    held_changed c.args.self.now.map c.change.new.self.map (place_of c.in_ok-slot.slot) (Some c.in_ok-value.value) c.change.result c.change.ensures.ok c.change.ensures.err
