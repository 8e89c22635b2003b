use Rattle.std.proofs.Common.{◌≡◌, ◌≤◌, ℕ, ◌+◌, ◌++◌, ◌∙◌, List, Some, length, take, drop, sym, ap, arith}
use Rattle.std.proofs.lemmas.Grind.{common_steps}
use Rattle.std.proofs.lemmas.List.{length-take-le, take_at, take-append-drop, drop-drop}
use Rattle.keep_map.proofs.bytes_source.BytesSourceSource.read.Goals as goal

-- the bytes from an index on are those that were copied to the beginning of a buffer, and then the rest
left_after_move : (items copied rest : List ℕ) (at count : ℕ) → copied ≡ take count (drop at items) → count ≤ length (drop at items) → drop at items ≡ take count (copied ++ rest) ++ drop (at + count) items
left_after_move items copied rest at count same fits =
    let whole : length copied ≡ count = ap length same ∙ length-take-le count (drop at items) fits in
    rw (take_at copied rest count whole, same, ← drop-drop count at items) (sym (take-append-drop count (drop at items)))

pub returns-clause-ok : goal.returns-clause-ok
returns-clause-ok c =
    let items = c.self.inside.bytes.items in
    let at = c.self.inside.at in
    let copied : c.copy_from_slice.new.self ≡ take c.min-count.result (drop at items) = grind (arith, common_steps) in
    let fits : c.min-count.result ≤ length (drop at items) = grind (arith, common_steps) in
    let seen : c.args.self.now.left ≡ drop at items = cc in
    ap (λ (x : List ℕ). Some x) (seen ∙ left_after_move items c.copy_from_slice.new.self (drop c.min-count.result c.args.buffer.now) at c.min-count.result copied fits)
