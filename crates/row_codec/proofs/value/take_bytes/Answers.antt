use Rattle.std.proofs.Common.{refl, sym, ◌∙◌}
use Rattle.row_codec.proofs.Texts.{read_more, no_text}
use Rattle.row_codec.proofs.value.take_bytes.Goals as goal

pub loop-byte-preserved : goal.loop-byte-preserved
loop-byte-preserved c = rw c.in_ok-push.ensures.items (read_more c.args.bytes.now c.loop-byte.text.items c.loop-byte.left.now c.in-Some.after.now c.in-Some.byte c.loop-byte.invariant c.in-Some.ensures.some)

pub returns-clause-spelling : goal.returns-clause-spelling
returns-clause-spelling c e text rest same = no_text c.loop-byte.text.items text c.loop-byte.left.now rest (c.in_default.ensures.none refl) (c.in-None.ensures.none refl) (sym c.loop-byte.invariant ∙ same)
