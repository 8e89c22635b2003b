use Rattle.std.proofs.Common.{◌-◌, ℕ, List, length, Less, Equal, Greater, ◌≡◌, sym, ap, ◌∙◌, arith}
use Rattle.std.specs.Prelude.{slice_get}
use Rattle.std.proofs.lemmas.Map.Lookups.{exact_bytes}
use Rattle.rows_in_runs.specs.declared.row.RunRow.{RunRow}
use Rattle.repl_types.specs.Bytes.{bytes_cmp}
use Rattle.rows_in_runs.specs.Rows.{keys_in}
use Rattle.rows_in_runs.specs.Runs.{key_at}
use Rattle.rows_in_runs.specs.laws.Keys.{length_keys}
use Rattle.rows_in_runs.proofs.Search.{last_key, above_all, above_last}
use Rattle.rows_in_runs.proofs.run.Run.find.Goals as goal

pub returns-in-Greater-clause-spot : goal.returns-in-Greater-clause-spot
returns-in-Greater-clause-spot c =
    let r = c.args.self.now in
    let last = last_key r.bytes.items c.deref-2.result.now r.rows.items c.in-Some.last.now c.piece_of.result.now (c.in-Some.ensures.value ∙ ap (λ (rows : List RunRow). slice_get rows (length rows - 1)) c.deref.ensures.value) c.deref-2.ensures.value c.piece_of.ensures in
    above_all (keys_in r.bytes.items r.rows.items) c.args.key.now (length r.rows.items - 1) r.rising last.0 (ap (bytes_cmp c.args.key.now) last.1 ∙ sym c.cmp.ensures ∙ c.in-Greater.is)

pub returns-in-Equal-clause-spot : goal.returns-in-Equal-clause-spot
returns-in-Equal-clause-spot c =
    let r = c.args.self.now in
    let last = last_key r.bytes.items c.deref-2.result.now r.rows.items c.in-Some.last.now c.piece_of.result.now (c.in-Some.ensures.value ∙ ap (λ (rows : List RunRow). slice_get rows (length rows - 1)) c.deref.ensures.value) c.deref-2.ensures.value c.piece_of.ensures in (
      omega (arith, last.0, length_keys r.bytes.items r.rows.items),
      ap (λ (n : ℕ). key_at r (n - 1)) (c.len.ensures ∙ sym c.deref.ensures.len ∙ ap (λ (rows : List RunRow). length rows) c.deref.ensures.value) ∙ last.1 ∙ sym (exact_bytes c.args.key.now c.piece_of.result.now (sym c.cmp.ensures ∙ c.in-Equal.is)),
    )

pub returns-in-Equal-clause-above : goal.returns-in-Equal-clause-above
returns-in-Equal-clause-above c = λ above.
    let r = c.args.self.now in
    let last = last_key r.bytes.items c.deref-2.result.now r.rows.items c.in-Some.last.now c.piece_of.result.now (c.in-Some.ensures.value ∙ ap (λ (rows : List RunRow). slice_get rows (length rows - 1)) c.deref.ensures.value) c.deref-2.ensures.value c.piece_of.ensures in
    let e : Equal ≡ Greater = sym (sym c.cmp.ensures ∙ c.in-Equal.is) ∙ ap (bytes_cmp c.args.key.now) (sym last.1) ∙ above_last (keys_in r.bytes.items r.rows.items) c.args.key.now (length r.rows.items - 1) above last.0 in
    absurd cc

pub returns-in-Less-clause-above : goal.returns-in-Less-clause-above
returns-in-Less-clause-above c = λ above.
    let r = c.args.self.now in
    let last = last_key r.bytes.items c.deref-2.result.now r.rows.items c.in-Some.last.now c.piece_of.result.now (c.in-Some.ensures.value ∙ ap (λ (rows : List RunRow). slice_get rows (length rows - 1)) c.deref.ensures.value) c.deref-2.ensures.value c.piece_of.ensures in
    let e : Less ≡ Greater = sym (sym c.cmp.ensures ∙ c.in-Less.is) ∙ ap (bytes_cmp c.args.key.now) (sym last.1) ∙ above_last (keys_in r.bytes.items r.rows.items) c.args.key.now (length r.rows.items - 1) above last.0 in
    absurd cc
