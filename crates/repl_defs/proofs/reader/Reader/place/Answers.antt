-- What the look-up finds is the place that the word names.
use Rattle.repl_defs.specs.laws.Names.{place_found}
use Rattle.repl_defs.proofs.reader.Reader.place.Goals as goal

pub returns : goal.returns
returns c = place_found _ _ _ c.column_named.ensures.named c.column_named.ensures.none
