use Rattle.keep_map.specs.Tables.{tables_of}
use Rattle.keep_map.proofs.Disjoint.{apart_settled}
use Rattle.keep_map.proofs.stored_rows.StoredRows.settle.Goals as goal

pub invariant_of-self : goal.invariant_of-self
invariant_of-self c =
    record { disjoint = apart_settled (tables_of c.args.self.now.runs.map) (tables_of c.settle.new.self.map) c.args.self.now.others.map c.settle-2.new.self.map c.args.keep c.settle.ensures c.settle-2.ensures.seen c.settle-2.ensures.held c.args.self.now.disjoint }
