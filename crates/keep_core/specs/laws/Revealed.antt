-- Laws of what a sink took, piece by piece: proofs, and nothing to believe.
use Rattle.std.proofs.Common.{◌≡◌, ℕ, ◌+◌, ◌-◌, ◌<◌, ◌++◌, List, [], Option, Some, None, length, take, drop, refl, sym, ap, subst, ◌∙◌, append_assoc, arith}
use Rattle.std.specs.Option.{option_map, OnSome}
use Rattle.std.proofs.lemmas.Option.{same_Some}
use Rattle.std.proofs.lemmas.List.{append-nil, append_cancel_left, length-take-le, take_rest, take-append-drop}
use Rattle.std.proofs.Math.Seq.{take-add}
use Rattle.keep_core.specs.Revealed.{Takes, TakesPrefix}

-- a sink that stays as it is takes nothing
pub takes_nothing : (taken : Option (List ℕ)) → Takes taken taken []
takes_nothing None = refl
takes_nothing (Some bytes) = ap (λ (x : List ℕ). Some x) (sym (append-nil bytes))

-- a sink that takes one piece and then another takes the two joined
pub takes_both : (before between now : Option (List ℕ)) (xs ys : List ℕ) → Takes before between xs → Takes between now ys → Takes before now (xs ++ ys)
takes_both None between now xs ys first second = subst (λ (o : Option (List ℕ)). now ≡ option_map (λ taken. taken ++ ys) o) first second
takes_both (Some bytes) between now xs ys first second = subst (λ (o : Option (List ℕ)). now ≡ option_map (λ taken. taken ++ ys) o) first second ∙ ap (λ (x : List ℕ). Some x) (append_assoc bytes xs ys)

-- a sink that takes a prefix of a line, and then a prefix of the rest, takes the longer prefix
pub takes_on : (before between now : Option (List ℕ)) (line : List ℕ) (at count : ℕ) → Takes before between (take at line) → Takes between now (take count (take (length line - at) (drop at line))) → Takes before now (take (at + count) line)
takes_on before between now line at count first second =
    let rest : Takes between now (take count (drop at line)) = rw take_rest at second in
    rw take-add (takes_both before between now (take at line) (take count (drop at line)) first rest)

-- the bytes before an index are a prefix of the line
pub takes_prefix : (before now : Option (List ℕ)) (line : List ℕ) (at : ℕ) → Takes before now (take at line) → TakesPrefix before now line
takes_prefix before now line at so_far = record { prefix = take at line; rest = drop at line; parts = sym (take-append-drop at line); taken = so_far }

-- a prefix that is shorter than the line isn't the line
pub takes_short : (before now : Option (List ℕ)) (line : List ℕ) (at : ℕ) → at < length line → Takes before now (take at line) → OnSome before (¬ Takes before now line)
takes_short None now line at left so_far = tt
takes_short (Some bytes) now line at left so_far = λ whole.
    let same : bytes ++ take at line ≡ bytes ++ line = same_Some (bytes ++ take at line) (bytes ++ line) (sym so_far ∙ whole) in
    let lengths : length (take at line) ≡ length line = ap length (append_cancel_left bytes (take at line) line same) in
    omega (arith, length-take-le at line (omega arith))
