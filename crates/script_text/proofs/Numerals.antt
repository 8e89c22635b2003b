-- Words that spell numbers of a range.
use Rattle.std.proofs.Common.{◌≡◌, ℕ, ◌^◌, ◌<◌, ◌≤◌, leb, ◌&&◌, List, Some, None, sym, ap, subst, ◌∙◌}
use Rattle.std.specs.Str.Parse.{digits_value}
use Rattle.std.proofs.lemmas.Bool.{and_parts, leb-true}
use Rattle.std.proofs.lemmas.Option.{cond_some, none-some}
use Rattle.repl_types.specs.Numbers.{is_numeral, number_of}
use Rattle.repl_types.specs.laws.Numbers.{number_found, number_again}
use Rattle.script_text.specs.Readings.{IsNumberWord}

-- the number that was found
pub found_between : (low high n : ℕ) (word : List ℕ) → high < 2 ^ 64 → number_of low high word ≡ Some n → IsNumberWord (λ n. (low ≤ n) × (n ≤ high)) word n
found_between low high n word fits e =
    let p = cond_some (is_numeral word && leb low (digits_value 10 word) && leb (digits_value 10 word) high) (digits_value 10 word) n e in
    let q = and_parts _ _ p.0 in
    let r = and_parts _ _ q.0 in
    record {
      fits = (subst (λ (k : ℕ). low ≤ k) p.1 (leb-true low _ r.1), subst (λ (k : ℕ). k ≤ high) p.1 (leb-true _ high q.1));
      spelled = sym (number_found low high n word fits e);
    }

-- if none was found, there is none
pub none_between : (low high : ℕ) (word : List ℕ) → high < 2 ^ 64 → number_of low high word ≡ None → ¬ ((n : ℕ) × IsNumberWord (λ n. (low ≤ n) × (n ≤ high)) word n)
none_between low high word fits e (n, is) =
    none-some n (sym e ∙ ap (number_of low high) is.spelled ∙ number_again low high n fits is.fits.0 is.fits.1)
