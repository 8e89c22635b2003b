use Rattle.std.proofs.Common.{false, refl, sym, ap, ◌≡◌, ◌∙◌}
use Rattle.std.specs.Prelude.{Option, Some, None, is_some}
use Rattle.std.specs.Option.{option_map}
use Rattle.repl_types.specs.Area.{area_number}
use Rattle.keep_map.specs.Scattered.{place_of, rows_seen}
use Rattle.keep_map.proofs.Seen.{seen_changed, held_changed, put_same}
use Rattle.keep_map.proofs.scattered_rows.ScatteredRows.remove.Goals as goal

pub returns-in_ok-change-clause-ok : goal.returns-in_ok-change-clause-ok
returns-in_ok-change-clause-ok c =
    seen_changed c.args.self.now.map c.change.new.self.map (place_of c.in_ok-slot.slot) (area_number c.args.area, c.args.table, c.args.key.now) None c.in_ok-slot.ensures c.in_ok-change.ensures.ok

pub returns-in_ok-change-clause-held : goal.returns-in_ok-change-clause-held
returns-in_ok-change-clause-held c =
    held_changed c.args.self.now.map c.change.new.self.map (place_of c.in_ok-slot.slot) None c.change.result c.change.ensures.ok c.change.ensures.err

-- a function of an absent value is absent
option_map-none : {A B : Type 0} (o : Option A) (f : A → B) → is_some o ≡ false → option_map f o ≡ None
option_map-none None f e = refl
option_map-none (Some x) f e = absurd cc

pub returns-else-is_there-clause-ok : goal.returns-else-is_there-clause-ok
returns-else-is_there-clause-ok c = put_same (rows_seen c.args.self.now.map) (area_number c.args.area, c.args.table, c.args.key.now) None (ap (rows_seen c.args.self.now.map) (sym c.in_ok-slot.ensures) ∙ sym c.value.ensures ∙ option_map-none c.value.result _ (sym c.is_some-is_there.ensures ∙ c.if-is_there.false))
