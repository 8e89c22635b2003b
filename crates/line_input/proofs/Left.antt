-- What a script has left after one more line was read.
use Rattle.std.proofs.Common.{◌≡◌, ◌≤◌, ◌<◌, ◌+◌, ◌++◌, ◌∷◌, [], ℕ, List, Option, Some, None, true, false, length, take, refl, sym, ap, ap₂, subst, ◌∙◌, arith, add-one, Bool, nat_lt, if◌then◌else◌, is_some, option_map, option_to_list, IfSome}
use Rattle.std.proofs.Math.Seq.{take-nil}
use Rattle.std.proofs.lemmas.Bool.Decides.{nat_tests}
use Rattle.std.specs.Str.Lines.{lines}
use Rattle.line_input.specs.Limits.{line_limit}
use Rattle.line_input.specs.Input.{kept_limit, IsPlain, IsLineText, ReadsLine, left_of, budget}
use Rattle.line_input.specs.declared.input.Next.TheVariants.{Line, LongLine}
use Rattle.line_input.specs.Lines.{ScriptLine, long_body, long_command, comment_mark, body_mark, begins_with, short_line, long_line, script_line, script_from}
use Rattle.line_input.specs.declared.input.Input.{Input}
use Rattle.line_input.specs.Script.{line_of, line_number, line_text, next_kind, lines_left, pending, waiting, IsLineOf}
use Rattle.line_input.specs.declared.script.Script.{Script}
use Rattle.line_input.specs.declared.kind.LineKind.{LineKind}

-- the first byte of a line is that of what is kept of it
begins_kept : (mark n : ℕ) (line : List ℕ) → begins_with mark (take (n + 1) line) ≡ begins_with mark line
begins_kept mark n [] = ap (begins_with mark) (take-nil (n + 1))
begins_kept mark n (b ∷ line) = rw add-one refl

-- what a line over the limit is can be told from what is kept of it
long_kept : (line : List ℕ) → long_line (take kept_limit line) ≡ long_line line
long_kept line = let same = λ (mark : ℕ). begins_kept mark (line_limit + 1) line in
    ap₂ (λ (c b : Bool). if c then None else Some (if b then long_body else long_command)) (same comment_mark) (same body_mark)

-- the tests of the limit
below : (a b : ℕ) → a < b → nat_lt a b ≡ true
below a b h = grind (arith, nat_tests)

not_below : (a b : ℕ) → b ≤ a → nat_lt a b ≡ false
not_below a b h = grind (arith, nat_tests)

-- a line within the limit
script_line_short : (line : List ℕ) → length line ≤ line_limit → script_line line ≡ short_line line
unfolding script_line
script_line_short line h = rw (not_below line_limit (length line) h) refl

-- a line over it
script_line_long : (line : List ℕ) → line_limit < length line → script_line line ≡ long_line line
unfolding script_line
script_line_long line h = rw (below line_limit (length line) h) refl

-- a line of this kind, with its number
abbrev numbered : ℕ → Option LineKind → List ℕ → List (ℕ × ScriptLine)
numbered n kind kept = option_to_list (option_map (λ k. (n, line_of k kept)) kind)

-- it is the line of the script, if its kind is what the line is
numbered_is : (n : ℕ) (kind : Option LineKind) (kept : List ℕ) (is : Option ScriptLine) → option_map (λ k. line_of k kept) kind ≡ is → numbered n kind kept ≡ option_to_list (option_map (λ l. (n, l)) is)
numbered_is n None kept is e = ap (λ (o : Option ScriptLine). option_to_list (option_map (λ l. (n, l)) o)) e
numbered_is n (Some k) kept is e = ap (λ (o : Option ScriptLine). option_to_list (option_map (λ l. (n, l)) o)) e

-- a line within the limit was read
pub left_line : (old now : Option (List ℕ)) (n : ℕ) (kind : Option LineKind) (line : List ℕ) → ReadsLine Line line old now → option_map (λ k. line_of k line) kind ≡ short_line line
    → option_map (λ bytes. numbered n kind line ++ script_from (n + 1) (lines bytes)) now ≡ option_map (λ bytes. script_from n (lines bytes)) old
left_line None now n kind line reads is = rw reads refl
left_line (Some bytes) None n kind line reads is = absurd reads
left_line (Some bytes) (Some rest) n kind line reads is =
    ap Some (ap (λ (x : List (ℕ × ScriptLine)). x ++ script_from (n + 1) (lines rest)) (numbered_is n kind line (script_line line) (is ∙ sym (script_line_short line reads.1))) ∙ sym (ap (script_from n) reads.0))

-- a line over it was read
pub left_long : (old now : Option (List ℕ)) (n : ℕ) (kind : Option LineKind) (kept : List ℕ) → ReadsLine LongLine kept old now → option_map (λ k. line_of k kept) kind ≡ long_line kept
    → option_map (λ bytes. numbered n kind kept ++ script_from (n + 1) (lines bytes)) now ≡ option_map (λ bytes. script_from n (lines bytes)) old
left_long None now n kind kept reads is = rw reads refl
left_long (Some bytes) None n kind kept reads is = absurd reads
left_long (Some bytes) (Some rest) n kind kept (long, all, over, first) is =
    let same : long_line kept ≡ script_line long = ap long_line first ∙ long_kept long ∙ sym (script_line_long long over) in
    ap Some (ap (λ (x : List (ℕ × ScriptLine)). x ++ script_from (n + 1) (lines rest)) (numbered_is n kind kept (script_line long) (is ∙ same)) ∙ sym (ap (script_from n) all))

-- what is left of a script of which no line waits
abbrev none_waits : Script → Option (List ℕ) → Option (List (ℕ × ScriptLine))
none_waits s old = option_map (λ bytes. script_from (line_number s + 1) (lines bytes)) old

-- it is what is left
pub left_if_none : (s : Script) (later : Option (List ℕ)) → next_kind s ≡ None → lines_left s later ≡ none_waits s (left_of s.input later)
left_if_none s later none = rw none refl

-- a line within the limit waits
pub waits_line : (s0 s : Script) (i : Input) (later old : Option (List ℕ)) (text : List ℕ) → s.input ≡ i → line_number s ≡ line_number s0 + 1 → line_text s ≡ text → option_map (λ k. line_of k (line_text s)) (next_kind s) ≡ short_line text
    → ReadsLine Line text old (left_of i later) → lines_left s later ≡ none_waits s0 old
waits_line s0 s i later old text input number same is reads =
    let here : ReadsLine Line (line_text s) old (left_of s.input later) = subst (λ (t : List ℕ). ReadsLine Line t old (left_of s.input later)) (sym same) (subst (λ (j : Input). ReadsLine Line text old (left_of j later)) (sym input) reads) in
    left_line old (left_of s.input later) (line_number s) (next_kind s) (line_text s) here (is ∙ ap short_line (sym same))
    ∙ ap (λ (n : ℕ). option_map (λ bytes. script_from n (lines bytes)) old) number

-- a line over the limit waits
pub waits_long : (s0 s : Script) (i : Input) (later old : Option (List ℕ)) (text : List ℕ) → s.input ≡ i → line_number s ≡ line_number s0 + 1 → line_text s ≡ text → option_map (λ k. line_of k (line_text s)) (next_kind s) ≡ long_line text
    → ReadsLine LongLine text old (left_of i later) → lines_left s later ≡ none_waits s0 old
waits_long s0 s i later old text input number same is reads =
    let here : ReadsLine LongLine (line_text s) old (left_of s.input later) = subst (λ (t : List ℕ). ReadsLine LongLine t old (left_of s.input later)) (sym same) (subst (λ (j : Input). ReadsLine LongLine text old (left_of j later)) (sym input) reads) in
    left_long old (left_of s.input later) (line_number s) (next_kind s) (line_text s) here (is ∙ ap long_line (sym same))
    ∙ ap (λ (n : ℕ). option_map (λ bytes. script_from n (lines bytes)) old) number

-- what is kept of a line of a kind is such a line by itself
is_line : (kind : Option LineKind) (kept text : List ℕ) (is : Option ScriptLine) → kept ≡ text → IsPlain text → script_line text ≡ is → option_map (λ k. line_of k kept) kind ≡ is → IfSome kind (λ k. IsLineOf k kept)
is_line None kept text is same plain line of_kind = tt
is_line (Some k) kept text is same plain line of_kind = (subst IsPlain (sym same) plain, ap script_line same ∙ line ∙ sym of_kind)

-- of a line within the limit
pub short_waits : (s : Script) (text : List ℕ) → line_text s ≡ text → option_map (λ k. line_of k (line_text s)) (next_kind s) ≡ short_line text → IsLineText Line text → IfSome (next_kind s) (λ k. IsLineOf k (line_text s))
short_waits s text same of_kind whole = is_line (next_kind s) (line_text s) text (short_line text) same whole.0 (script_line_short text whole.1) of_kind

-- and of one over it
pub long_waits : (s : Script) (text : List ℕ) → line_text s ≡ text → option_map (λ k. line_of k (line_text s)) (next_kind s) ≡ long_line text → IsLineText LongLine text → IfSome (next_kind s) (λ k. IsLineOf k (line_text s))
long_waits s text same of_kind whole = is_line (next_kind s) (line_text s) text (long_line text) same whole.0 (script_line_long text whole.1) of_kind

-- at most one line waits
pub few_wait : (s : Script) → waiting s ≤ 1
few_wait s = pick s.kind
  where
    pick : (kind : Option LineKind) → (if is_some kind then 1 else 0) ≤ 1
    pick None = omega arith
    pick (Some k) = omega arith

-- and none does if none was read
pub nothing_waits : (s : Script) → next_kind s ≡ None → waiting s ≡ 0
nothing_waits s none = ap (λ (kind : Option LineKind). if is_some kind then 1 else 0) none

-- the budget falls by at least what may wait now
pub pending_falls : (s0 s : Script) (i : Input) → s.input ≡ i → budget i < budget s0.input → pending s ≤ pending s0
pending_falls s0 s i input fewer =
    let same : budget s.input ≡ budget i = ap budget input in
    omega (arith, few_wait s)
