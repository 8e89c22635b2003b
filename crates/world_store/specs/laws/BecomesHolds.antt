-- A server holds what a world calls for there after a commit.
use Rattle.std.proofs.Common.{◌≡◌, ℕ, Bool, true, false, refl, ap, ◌∙◌}
use Rattle.repl_types.specs.declared.area.Area.{Area}
use Rattle.rows_in_order.specs.Contents.{Contents, Table}
use Rattle.repl_model.specs.Words.{Server, World}
use Rattle.world_store.specs.Tables.{tables}
use Rattle.world_store.specs.Stands.{shown, Holds}
use Rattle.world_store.specs.Becoming.{Becomes}

-- a table that shows what is called for at a server shows what is called for there after a change of the server
abbrev pub StaysShown : World → Server → Server → Area → ℕ → Type 0
StaysShown world server after a n = (t : Table) → shown server a n t ≡ tables world server a n → shown after a n t ≡ tables world after a n

-- If this is so of each table that a commit leaves alone, the server holds what the world calls for after the commit, if
-- it held that before.
pub becomes_holds : (changes : Area → ℕ → Bool) (world : World) (server after : Server) → ((a : Area) (n : ℕ) → changes a n ≡ false → StaysShown world server after a n)
    → (before now : Contents) → Holds world server before → Becomes changes world after before now → Holds world after now
becomes_holds changes world server after stay before now holds becomes a n = by_test (changes a n) refl
  where
    by_test : (b : Bool) → changes a n ≡ b → shown after a n (now a n) ≡ tables world after a n
    by_test true e = becomes.has a n e
    by_test false e = ap (shown after a n) (becomes.others a n e) ∙ stay a n e (before a n) (holds a n)
