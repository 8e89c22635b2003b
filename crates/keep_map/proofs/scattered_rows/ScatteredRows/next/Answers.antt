use Rattle.std.proofs.Common.{List, ℕ, ◌++◌, sym, ap, subst, ◌∙◌}
use Rattle.std.specs.Prelude.{not, ◌||◌}
use Rattle.std.specs.Ordering.{is_lt}
use Rattle.repl_types.specs.Bytes.{bytes_cmp}
use Rattle.keep_core.specs.Contents.{IsNextKey}
use Rattle.keep_map.specs.Next.{parts}
use Rattle.keep_map.specs.Scattered.{table_seen}
use Rattle.keep_map.proofs.NextKey.{second_next, first_next}
use Rattle.keep_map.proofs.scattered_rows.ScatteredRows.next.Goals as goal

pub returns-then-not-comes_first-clause-found : goal.returns-then-not-comes_first-clause-found
returns-then-not-comes_first-clause-found c = λ part next.
    let counts = sym (λ i. not c.args.found || is_lt (bytes_cmp (c.deref.ensures.value i) (c.deref-2.ensures.value i))) ∙ sym c.comes_first.ensures ∙ c.if-not-comes_first.true in
    first_next part (table_seen c.args.self.now.map c.args.after.area c.args.after.table) c.args.after.key.items c.args.found c.args.key.now.items c.args.out.now.items c.in-Some.slot.now.key.items c.in-Some.value.now.bytes.items next c.in-Some.ensures.next counts

pub returns-clause-found : goal.returns-clause-found
returns-clause-found c = λ part next.
    let after = c.args.after.key.items in
    let table = table_seen c.args.self.now.map c.args.after.area c.args.after.table in
    let slot = c.in-Some.slot.now.key.items in
    let value = c.in-Some.value.now.bytes.items in
    let counts = sym (λ i. not c.args.found || is_lt (bytes_cmp (c.deref.ensures.value i) (c.deref-2.ensures.value i))) ∙ sym c.comes_first.ensures ∙ c.if-not-comes_first.false in
    let key = c.in_ok-extend_from_slice.ensures.items ∙ ap (λ (bytes : List ℕ). bytes ++ c.deref-3.result.now) c.clear.ensures.items ∙ c.deref-3.ensures.value in
    let out = c.in_ok-extend_from_slice-2.ensures.items ∙ ap (λ (bytes : List ℕ). bytes ++ c.bytes.result.now) c.clear-2.ensures.items ∙ c.bytes.ensures.bytes in
    subst (λ (k : List ℕ). IsNextKey (parts part table) after k c.extend_from_slice-2.new.self.items) (sym key)
    (subst (λ (v : List ℕ). IsNextKey (parts part table) after slot v) (sym out)
    (second_next part table after c.args.found c.args.key.now.items c.args.out.now.items slot value next c.in-Some.ensures.next counts))
