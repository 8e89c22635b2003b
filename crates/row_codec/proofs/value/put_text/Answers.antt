use Rattle.row_codec.proofs.Texts.{marked_more}
use Rattle.row_codec.proofs.value.put_text.Goals as goal

pub loop-byte-preserved : goal.loop-byte-preserved
loop-byte-preserved c = rw (c.in_ok-put_byte.ensures, c.loop-byte.invariant) (marked_more c.args.out.now.items c.as_bytes-byte-items.result.now c.loop-byte.byte-index c.loop-byte-test.true)
