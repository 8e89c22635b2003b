use Rattle.std.proofs.Common.{List, ℕ, ◌≡◌, length, sym, ap, ap₂, subst, ◌∙◌, arith}
use Rattle.std.specs.Prelude.{Option, is_some, filter}
use Rattle.std.specs.List.{All}
use Rattle.std.specs.Map.{lookup, keys_of}
use Rattle.std.proofs.lemmas.List.Elements.{All-nil}
use Rattle.std.proofs.lemmas.Map.Entries.{option_filter}
use Rattle.keep_core.specs.Contents.{same_key}
use Rattle.rows_in_runs.specs.declared.row.RunRow.{RunRow}
use Rattle.rows_in_runs.specs.declared.row.Old.{Old}
use Rattle.rows_in_runs.specs.Rows.{rows_of, IsOld, IsRising}
use Rattle.rows_in_runs.specs.Runs.{value_in}
use Rattle.rows_in_runs.specs.laws.Found.{Rows, rising_valued, found_valued, seen_valued}
use Rattle.rows_in_runs.proofs.run.Run.copied.Goals as goal

pub invariant_of-result : goal.invariant_of-result
invariant_of-result c =
    let r = c.args.self.now in
    let bytes = c.copy_rows.new.new_bytes.items in
    let copied : rows_of bytes c.copy_rows.new.new_rows.items ≡ filter (λ e. is_some e.1) (rows_of r.bytes.items r.rows.items) =
    c.in_ok-copy_rows.ensures.ok ∙ ap₂ (λ (b : List ℕ) (rows : List RunRow). filter (λ e. is_some e.1) (rows_of b rows)) c.deref.ensures.value c.deref-2.ensures.value in
    record {
      rows_fit = c.copy_rows.ensures.fit;
      olds_fit = subst (λ (olds : List Old). All (IsOld (length bytes)) olds) (sym c.new.ensures.items) (All-nil (IsOld (length bytes)));
      rising = subst (λ (es : Rows). IsRising (keys_of es)) (sym copied) (rising_valued (rows_of r.bytes.items r.rows.items) r.rising);
      within = omega arith;
    }

pub returns-clause-rows : goal.returns-clause-rows
returns-clause-rows c =
    let r = c.args.self.now in
    let old = rows_of r.bytes.items r.rows.items in
    let copied : rows_of c.copy_rows.new.new_bytes.items c.copy_rows.new.new_rows.items ≡ filter (λ e. is_some e.1) old =
    c.in_ok-copy_rows.ensures.ok ∙ ap₂ (λ (b : List ℕ) (rows : List RunRow). filter (λ e. is_some e.1) (rows_of b rows)) c.deref.ensures.value c.deref-2.ensures.value in
    record {
      seen = λ k. ap (λ (es : Rows). value_in (lookup (same_key k) es)) copied ∙ ap value_in (found_valued old r.rising k) ∙ seen_valued (lookup (same_key k) old);
      none = λ k none. ap (λ (es : Rows). lookup (same_key k) es) copied ∙ found_valued old r.rising k ∙ ap (option_filter (λ (v : Option (List ℕ)). is_some v)) none;
    }
