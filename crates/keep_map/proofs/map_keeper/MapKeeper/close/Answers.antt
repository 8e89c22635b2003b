use Rattle.std.proofs.Common.{◌≡◌, Bool, true, false, cond, refl, ap, ◌∙◌}
use Rattle.keep_map.specs.Keepers.{count_of}
use Rattle.keep_map.specs.Merged.{values_seen, values_held}
use Rattle.keep_map.specs.Places.{Values, contents_of}
use Rattle.keep_map.proofs.KeptFrom.{closes}
use Rattle.keep_map.proofs.map_keeper.MapKeeper.close.Goals as goal

-- the contents of the values that are kept
contents_kept : (f g : Values) (b : Bool) → contents_of (cond b f g) ≡ cond b (contents_of f) (contents_of g)
contents_kept f g true = refl
contents_kept f g false = refl

pub returns-clause-kept : goal.returns-clause-kept
returns-clause-kept c =
    let m = c.args.self.now in
    closes (contents_of (values_held m.rows)) (contents_of (values_seen m.rows)) m.is_open m.plan.faults (count_of m.reads) (count_of m.writes) (contents_of (values_held c.settle.new.self)) (contents_of (values_seen c.settle.new.self)) c.args.keep c.requires
    (ap contents_of (c.settle.ensures.held ∙ c.settle.ensures.seen) ∙ contents_kept (values_seen m.rows) (values_held m.rows) c.args.keep)
