use Rattle.repl_types.specs.laws.ValueText.{escaped_more}
use Rattle.repl_types.proofs.value_text.write_text.Goals as goal

pub loop-byte-preserved : goal.loop-byte-preserved
loop-byte-preserved c = rw (c.in_ok-write_byte.ensures, c.loop-byte.invariant) (escaped_more c.args.out.now.items c.as_bytes-byte-items.result.now c.loop-byte.byte-index c.loop-byte-test.true)
