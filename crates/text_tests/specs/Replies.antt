-- Lines that close replies, worked out by hand.
use Rattle.std.specs.Prelude.{◌≡◌, codes, [], ◌∷◌}
use Rattle.std.proofs.Common.{refl}
use Rattle.std.specs.Fmt.{digits}
use Rattle.repl_types.specs.Sequence.{hex_digits}
use Rattle.reply_text.specs.declared.reply.Reply.TheVariants.{Loaded, Fed, Captured, Pruned, Applied, Flagged, Stopped, Generated, Rounds, AuditSame, AuditDiffers, Shown}
use Rattle.reply_text.specs.Replies.{reply_line}
use Rattle.text_tests.specs.Lines.{HaveLines}

pub counts_are_replied : HaveLines reply_line (
    (Loaded 1 2 3, codes "ok loaded tables 1 registrations 2 sets 3\n")
    ∷ (Fed 6 8, codes "ok fed 6 last 00000000000000080000\n")
    ∷ (Captured 8 3 4, codes "ok captured 00000000000000080000 units 3 rows 4\n")
    ∷ (Pruned 1 2, codes "ok pruned cd 1 uow 2\n")
    ∷ (Applied 3, codes "ok apply steps 3\n")
    ∷ (Flagged, codes "ok flagged\n")
    ∷ (Stopped 1_999_999_999, codes "ok stop 00000000773593ff0000\n")
    ∷ (Generated 1 40_000 40_003, codes "ok generated units 1 changes 40000 last 0000000000009c430000\n")
    ∷ (Rounds 2 5 3 4, codes "ok rounds sets 2 accepted 5 rejected 3 applied 4\n")
    ∷ (AuditSame, codes "ok audit same\n")
    ∷ (Shown 0, codes "ok rows 0\n")
    ∷ [])
unfolding digits hex_digits
counts_are_replied = refl

pub an_audit_names_the_table_and_the_key :
    reply_line (AuditDiffers (codes "orders_copy") (0x01 ∷ 0x7f ∷ 0xff ∷ 0xa0 ∷ 0x00 ∷ 0x02 ∷ []))
    ≡ codes "ok audit differs orders_copy 017fffa00002\n"
an_audit_names_the_table_and_the_key = refl
