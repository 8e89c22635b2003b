use Rattle.std.proofs.Common.{◌≡◌, Some, subst, sym, ap, arith, ℕ, Vec, Global, string_bytes}
use Rattle.std.specs.Str.{IsUtf8}
use Rattle.std.proofs.lemmas.Bool.{false≢true}
use Rattle.std.proofs.lemmas.Str.{IsUtf8-string_bytes}
use Rattle.repl_types.specs.ValueText.{unescaped}
use Rattle.repl_types.specs.laws.ValueText.{read_some, read_none}
use Rattle.repl_types.proofs.value_text.read_text.Goals as goal

pub returns-in-Ok : goal.returns-in-Ok
returns-in-Ok c =
    let t = c.in-Some.text in
    let says : Some t.items ≡ unescaped c.args.quoted.now = rw c.in-Some.is at c.in_ok-text.ensures in
    let same : string_bytes c.in-Ok.text ≡ t.items = ap (λ (v : Vec ℕ Global). v.items) c.in-Ok.ensures.ok in
    rw (c.new.ensures, same) (read_some c.args.quoted.now t.items (sym says) (omega arith) (subst IsUtf8 same (IsUtf8-string_bytes c.in-Ok.text)))

pub returns : goal.returns
returns c =
    let t = c.in-Some.text in
    let says : Some t.items ≡ unescaped c.args.quoted.now = rw c.in-Some.is at c.in_ok-text.ensures in
    read_none c.args.quoted.now t.items (sym says) (λ utf8. false≢true (c.in-Err.ensures.succeeds utf8))
