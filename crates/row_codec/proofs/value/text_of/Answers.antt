use Rattle.std.proofs.Common.{◌≡◌, ℕ, Vec, Global, refl, ap, subst, string_bytes, arith}
use Rattle.std.specs.Str.{IsUtf8}
use Rattle.std.proofs.lemmas.Str.{IsUtf8-string_bytes}
use Rattle.row_codec.proofs.value.text_of.Goals as goal

pub returns-in-Ok-clause-some : goal.returns-in-Ok-clause-some
returns-in-Ok-clause-some c =
    let same : string_bytes c.in-Ok.text ≡ c.args.bytes.items = ap (λ (v : Vec ℕ Global). v.items) c.in-Ok.ensures.ok in
    rw (c.new.ensures, same) ((omega arith, subst IsUtf8 same (IsUtf8-string_bytes c.in-Ok.text)), refl)
