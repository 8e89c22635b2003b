use Rattle.std.proofs.Common.{◌∙◌}
use Rattle.keep_map.proofs.Sound.{sound_settled, kept_settled}
use Rattle.keep_map.proofs.scattered_rows.ScatteredRows.settle.Goals as goal

pub invariant_of-self : goal.invariant_of-self
invariant_of-self c =
    record { sound = sound_settled c.loop-slot.self.map c.settle_row.new.map c.in-Some.slot c.args.keep c.loop-slot.self.touched.items c.pop.new.self.items c.in-Some.ensures.items c.settle_row.ensures c.loop-slot.self.sound }

pub loop-slot-preserved : goal.loop-slot-preserved
loop-slot-preserved c = λ p. kept_settled c.loop-slot.self.map c.settle_row.new.map c.in-Some.slot c.args.keep c.settle_row.ensures p ∙ c.loop-slot.invariant p
