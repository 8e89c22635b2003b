-- Lines of rows that are shown, worked out by hand.
use Rattle.std.specs.Prelude.{◌≡◌, codes, [], ◌∷◌, Some, None, pos, neg_ℤ}
use Rattle.std.proofs.Common.{refl}
use Rattle.std.specs.Fmt.{digits}
use Rattle.repl_types.specs.Value.{Values}
use Rattle.repl_types.specs.Sequence.{hex_digits}
use Rattle.repl_types.specs.declared.change_row.Op.TheVariants.{I, U, D}
use Rattle.repl_types.specs.declared.record.Change.TheVariants.{Insert}
use Rattle.repl_types.specs.declared.record.LogRecord.TheVariants.{Change}
use Rattle.repl_types.specs.declared.value.Value.TheVariants.{Null, Int, Text}
use Rattle.reply_text.specs.Rows.{row_line, change_row_line, unit_line, log_line, rejected_line, point_row_line, aggregate_row_line, history_row_line, latest_row_line}
use Rattle.text_tests.specs.Lines.{q_s}

-- a row of a text with a quote, NULL and a negative number
abbrev values : Values
values = Text (codes "it's") ∷ Null ∷ Int (neg_ℤ (pos 12)) ∷ []

-- ---- what a source keeps

pub change_rows_have_no_before_images_if_none_are_kept :
    change_row_line (record { commitseq = 8; intentseq = record { position = 6; sub = 1 }; op = I; after = values; before = [] })
    ≡ codes "row 00000000000000080000 00000000000000060001 I 'it''s' null -12\n"
unfolding digits hex_digits
change_rows_have_no_before_images_if_none_are_kept = refl

pub change_rows_have_before_images_if_they_are_kept :
    change_row_line (record { commitseq = 6; intentseq = record { position = 5; sub = 0 }; op = U; after = values; before = values })
    ≡ codes "row 00000000000000060000 00000000000000050000 U 'it''s' null -12 before 'it''s' null -12\n"
unfolding digits hex_digits
change_rows_have_before_images_if_they_are_kept = refl

pub a_unit_has_no_origin_if_no_set_made_it :
    unit_line (record { seq = 8; time = 150; authid = codes "bob"; origin = None; code = 1 })
    ≡ codes "row 00000000000000080000 150 bob - 1\n"
unfolding digits hex_digits
a_unit_has_no_origin_if_no_set_made_it = refl

pub a_unit_has_its_origin_if_a_set_made_it :
    unit_line (record { seq = 2; time = 0; authid = codes "q"; origin = Some q_s; code = 0 })
    ≡ codes "row 00000000000000020000 0 q q/s 0\n"
unfolding digits hex_digits
a_unit_has_its_origin_if_a_set_made_it = refl

pub a_log_record_has_its_position :
    log_line 16 (Change 4 (Insert (codes "orders") values))
    ≡ codes "row 00000000000000100000 insert 4 orders 'it''s' null -12\n"
unfolding digits hex_digits
a_log_record_has_its_position = refl

pub a_rejected_unit_has_its_code :
    rejected_line 8 (record { code = 2 }) ≡ codes "row 00000000000000080000 2\n"
unfolding digits hex_digits
a_rejected_unit_has_its_code = refl

-- ---- source tables and targets

pub rows_of_copies_and_aggregates_have_their_markers :
    (row_line values ≡ codes "row 'it''s' null -12\n")
    × (point_row_line (record { marker = 130; row = values }) ≡ codes "row 130 'it''s' null -12\n")
    × (aggregate_row_line (record { low = 0; high = 110; row = values }) ≡ codes "row 0 110 'it''s' null -12\n")
unfolding digits
rows_of_copies_and_aggregates_have_their_markers = (refl, refl, refl)

pub each_recorded_change_has_its_unit :
    history_row_line (record { intentseq = record { position = 5; sub = 0 }; op = D; commitseq = 6; time = 110; row = values })
    ≡ codes "row 00000000000000050000 D 00000000000000060000 110 'it''s' null -12\n"
unfolding digits hex_digits
each_recorded_change_has_its_unit = refl

pub the_latest_recorded_change_has_its_unit :
    latest_row_line (record { intentseq = record { position = 7; sub = 1 }; op = I; commitseq = 8; time = 120; row = values })
    ≡ codes "row 00000000000000070001 I 00000000000000080000 120 'it''s' null -12\n"
unfolding digits hex_digits
the_latest_recorded_change_has_its_unit = refl
