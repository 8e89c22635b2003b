use Rattle.std.proofs.Common.{refl}
use Rattle.row_codec.proofs.Texts.{no_other_text}
use Rattle.row_codec.proofs.value.take_text.Goals as goal

pub returns-in-None-clause-spelling : goal.returns-in-None-clause-spelling
returns-in-None-clause-spelling c e text rest good same = no_other_text c.args.bytes.now c.in_ok-marked.marked.items c.in_ok-marked.rest.now c.in_ok-marked.ensures.ok (c.in-None.ensures.none refl) text rest good same
