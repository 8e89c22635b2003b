-- The units of a log stand in the order of their seqs, and what is left after the first of some.
use Rattle.std.proofs.Common.{◌≡◌, ℕ, ◌+◌, ◌≤◌, ◌<◌, Bool, true, false, cond, List, [], ◌∷◌, refl, sym, subst, ◌∙◌, arith, inl}
use Rattle.std.specs.Prelude.{nat_lt, filter, ⊤}
use Rattle.std.specs.List.{AllByRecursion, filter_map, enumerate_from}
use Rattle.std.proofs.lemmas.Bool.{cond-false, lt-ltb, le-ltb, ltb-true, ltb-false}
use Rattle.repl_model.specs.Words.{filter_all, LogRecord, Unit, unit_at, units, In, in_filter}
use Rattle.repl_types.specs.declared.record.LogRecord.TheVariants as records

-- the seqs of units rise, from above a point on
abbrev pub Rise : ℕ → List Unit → Type 0
Rise n [] = ⊤
Rise n (u ∷ us) = (n < u.head.seq) × Rise u.head.seq us

-- the units that records end, from a position on, rise
units_rise_from : (log : List LogRecord) (n pos : ℕ) (rs : List LogRecord) → n < pos → Rise n (filter_map (unit_at log) (enumerate_from pos rs))
units_rise_from log n pos [] h = tt
units_rise_from log n pos (records.Change tx change ∷ rs) h = units_rise_from log n (pos + 1) rs (omega arith)
units_rise_from log n pos (records.Commit tx time authid origin ∷ rs) h = (h, units_rise_from log pos (pos + 1) rs (omega arith))
units_rise_from log n pos (records.Abort tx ∷ rs) h = units_rise_from log n (pos + 1) rs (omega arith)

-- the units of a log rise
pub units_rise : (log : List LogRecord) → Rise 0 (units log)
unfolding units
units_rise log = units_rise_from log 0 1 log (omega arith)

-- a unit stands after a point
abbrev pub is_after : ℕ → Unit → Bool
is_after point u = nat_lt point u.head.seq

-- units that rise from a point on stand after it
pub all_after : (point n : ℕ) (us : List Unit) → point ≤ n → Rise n us → AllByRecursion (λ u. is_after point u ≡ true) us
all_after point n [] h rise = tt
all_after point n (u ∷ us) h rise = (lt-ltb point u.head.seq (omega (arith, rise.0)), all_after point u.head.seq us (omega (arith, rise.0)) rise.1)

-- after the first of the units that stand after a point stand the others of them
pub others_after : (point n : ℕ) (vs : List Unit) (u : Unit) (us : List Unit) → Rise n vs → filter (is_after point) vs ≡ u ∷ us → filter (is_after u.head.seq) vs ≡ us
others_after point n [] u us rise e = absurd cc
others_after point n (v ∷ vs) u us rise e = by_test (is_after point v) refl (others_after point v.head.seq vs u us rise.1) e
  where
    here : point < v.head.seq → (v ≡ u) × (filter (is_after point) vs ≡ us) → filter (is_after u.head.seq) (v ∷ vs) ≡ us
    here later same = subst (λ (w : Unit). filter (is_after w.head.seq) (v ∷ vs) ≡ us) same.0
        (cond-false _ _ _ (le-ltb v.head.seq v.head.seq (omega arith))
        ∙ filter_all (is_after v.head.seq) vs (all_after v.head.seq v.head.seq vs (omega arith) rise.1)
        ∙ sym (filter_all (is_after point) vs (all_after point v.head.seq vs (omega (arith, later)) rise.1))
        ∙ same.1)

    not_here : v.head.seq ≤ point → filter (is_after point) vs ≡ u ∷ us → filter (is_after u.head.seq) vs ≡ us → filter (is_after u.head.seq) (v ∷ vs) ≡ us
    not_here before found rest =
        let after = ltb-true point u.head.seq (in_filter (is_after point) vs u (subst (In u) (sym found) (inl refl))).1 in
        cond-false _ _ _ (le-ltb u.head.seq v.head.seq (omega (arith, before, after))) ∙ rest

    by_test : (b : Bool) → is_after point v ≡ b → (filter (is_after point) vs ≡ u ∷ us → filter (is_after u.head.seq) vs ≡ us) → cond b (v ∷ filter (is_after point) vs) (filter (is_after point) vs) ≡ u ∷ us → filter (is_after u.head.seq) (v ∷ vs) ≡ us
    by_test true t rest found = here (ltb-true point v.head.seq t) (cc, cc)
    by_test false t rest found = not_here (ltb-false point v.head.seq t) found (rest found)
