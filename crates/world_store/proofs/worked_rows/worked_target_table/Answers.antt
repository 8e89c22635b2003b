use Rattle.std.proofs.Common.{refl}
use Rattle.repl_model.specs.Words.{user_copy}
use Rattle.row_codec.specs.Spelling.{b16, b64}
use Rattle.world_store.proofs.worked_rows.worked_target_table.Goals as goal

pub returns-clause-key : goal.returns-clause-key
unfolding user_copy b16 b64
returns-clause-key c = rw c.worked_user_copy.ensures.later refl

pub returns-clause-other_key : goal.returns-clause-other_key
unfolding user_copy b16 b64
returns-clause-other_key c = rw c.worked_user_copy.ensures.later refl
