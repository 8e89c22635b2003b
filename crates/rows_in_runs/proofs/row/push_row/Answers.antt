use Rattle.rows_in_runs.proofs.Stored.{row_pushed}
use Rattle.rows_in_runs.proofs.row.push_row.Goals as goal

pub returns-clause-ok : goal.returns-clause-ok
returns-clause-ok c =
    row_pushed c.args.bytes.now.items c.store.new.bytes.items c.store-2.new.bytes.items c.args.rows.now.items c.push.new.self.items c.in_ok-key.key c.in_ok-store.field-0 c.args.key.now c.args.value.now c.requires.fit c.store.ensures.more c.store-2.ensures.more c.in_ok-key.ensures.ok c.in_ok-key.ensures.ends c.in_ok-store.ensures.ok c.in_ok-push.ensures.items
