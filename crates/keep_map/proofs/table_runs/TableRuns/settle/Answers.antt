use Rattle.std.proofs.Common.{◌≡◌, List, [], ◌∷◌, length, refl, arith}
use Rattle.keep_map.specs.Tables.{id_of, tables_of}
use Rattle.keep_map.specs.declared.table_id.TableId.{TableId}
use Rattle.keep_map.proofs.AllRuns.{kept_settled, all_settled}
use Rattle.keep_map.proofs.table_runs.TableRuns.settle.Goals as goal

-- a list of no ids is empty
nil_of : (ids : List TableId) → length ids ≡ 0 → ids ≡ []
nil_of [] e = refl
nil_of (i ∷ ids) e = absurd (omega (arith, e))

pub loop-id-preserved : goal.loop-id-preserved
loop-id-preserved c =
    kept_settled (tables_of c.args.self.now.map) (tables_of c.loop-id.self.map) c.settle_in.new.map c.args.keep (id_of c.in-Some.id) c.settle_in.ensures.here c.settle_in.ensures.others c.loop-id.invariant

pub returns : goal.returns
returns c = all_settled c.args.self.now.map c.loop-id.self.map c.args.keep c.loop-id.self.touched.items (nil_of c.loop-id.self.touched.items (omega (arith, c.in_default.ensures.cases.0, c.loop-id.self.touched.ok.0))) c.loop-id.self.sound c.loop-id.invariant
