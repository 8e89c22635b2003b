-- Lines of steps, and of the entries of a trail, worked out by hand.
use Rattle.std.specs.Prelude.{codes, [], ◌∷◌, ◌++◌, Some, None}
use Rattle.std.proofs.Common.{refl}
use Rattle.std.specs.Fmt.{digits}
use Rattle.repl_types.specs.Sequence.{hex_digits}
use Rattle.repl_types.specs.declared.fault.Stepped.TheVariants.{Signal, Refresh, Block, Report, Load, Decide, Settle, Idle}
use Rattle.repl_records.specs.declared.trail.TrailEntry.TheVariants as entries
use Rattle.reply_text.specs.Steps.{step_line, trail_line}
use Rattle.text_tests.specs.Lines.{HaveLines}

-- at the server hq
pub each_step_has_its_line : HaveLines (step_line (codes "hq")) (
    (Signal 0 2, codes "ok signal hq 00000000000000020000\n")
    ∷ (Refresh 2 0, codes "ok refresh 00000000000000020000 rows 0\n")
    ∷ (Block 2 8 4 1 3, codes "ok block 00000000000000020000 00000000000000080000 insert 4 update 1 delete 3\n")
    ∷ (Report 8, codes "ok report 00000000000000080000\n")
    ∷ (Load 5 7 2, codes "ok load 00000000000000050000 00000000000000070000 rows 2\n")
    ∷ (Decide 12 7 1 2, codes "ok decide 000000000000000c0000 00000000000000070000 accepted 1 rejected 2\n")
    ∷ (Settle 7 19 3 1, codes "ok settle 00000000000000070000 00000000000000130000 rejected 3 applied 1\n")
    ∷ (Idle, codes "ok idle\n")
    ∷ [])
unfolding digits hex_digits
each_step_has_its_line = refl

-- as the seventh entry
pub each_entry_of_a_trail_has_its_line : HaveLines (trail_line 7) (
    (entries.Refresh 2 0 None, codes "row 7 refresh 00000000000000020000 rows 0\n")
    ∷ (entries.Refresh 2 5 (Some 3), codes "row 7 refresh 00000000000000020000 rows 5 base 00000000000000030000\n")
    ∷ (entries.Block 2 8 4 1 3 None, codes "row 7 block 00000000000000020000 00000000000000080000 insert 4 update 1 delete 3\n")
    ∷ (
      entries.Block 8 9 0 0 1 (Some 10),
      codes "row 7 block 00000000000000080000 00000000000000090000 insert 0 update 0 delete 1 "
          ++ codes "base 000000000000000a0000\n",
    )
    ∷ (entries.Load 5 7 2, codes "row 7 load 00000000000000050000 00000000000000070000 rows 2\n")
    ∷ (entries.Settle 7 19 3 1, codes "row 7 settle 00000000000000070000 00000000000000130000 rejected 3 applied 1\n")
    ∷ [])
unfolding digits hex_digits
each_entry_of_a_trail_has_its_line = refl
