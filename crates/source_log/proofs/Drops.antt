-- Changes in flight are removed, one after another: proofs.
use Rattle.std.proofs.Common.{◌≡◌, ℕ, zero, suc, ◌+◌, ◌<◌, ◌≤◌, List, [], ◌∷◌, ◌++◌, length, take, get_or, None, refl, sym, ap, ◌∙◌, arith}
use Rattle.std.proofs.lemmas.List.{take_more}
use Rattle.site_store.specs.Words.{Contents, put_at}
use Rattle.repl_types.specs.declared.area.Area.TheVariants as areas
use Rattle.source_log.specs.Reading.{with_dropped}
use Rattle.source_log.specs.Rules.{flight_key}

-- all elements
pub take_whole : {X : Type 0} (xs : List X) (n : ℕ) → length xs ≤ n → take n xs ≡ xs
take_whole [] zero le = refl
take_whole [] (suc n) le = refl
take_whole (x ∷ xs) zero le = absurd (omega arith)
take_whole {X} (x ∷ xs) (suc n) le = ap (λ (l : List X). x ∷ l) (take_whole xs n (omega arith))

-- one more is removed last
dropped_more : (tx : ℕ) (ps : List ℕ) (p : ℕ) (c : Contents) → with_dropped tx (ps ++ p ∷ []) c ≡ put_at (with_dropped tx ps c) areas.Inflight 0 (flight_key tx p) None
dropped_more tx [] p c = refl
dropped_more tx (q ∷ ps) p c = dropped_more tx ps p (put_at c areas.Inflight 0 (flight_key tx q) None)

pub dropped_next : (tx : ℕ) (ps : List ℕ) (i : ℕ) (c d e : Contents) → i < length ps → d ≡ with_dropped tx (take i ps) c → e ≡ put_at d areas.Inflight 0 (flight_key tx (get_or ps i 0)) None → e ≡ with_dropped tx (take (i + 1) ps) c
dropped_next tx ps i c d e lt before now =
    now
    ∙ ap (λ (x : Contents). put_at x areas.Inflight 0 (flight_key tx (get_or ps i 0)) None) before
    ∙ sym (dropped_more tx (take i ps) (get_or ps i 0) c)
    ∙ ap (λ (l : List ℕ). with_dropped tx l c) (sym (take_more ps i 0 lt))
