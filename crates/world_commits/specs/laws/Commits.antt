-- The last commit of a log, and the units that a block takes.
use Rattle.std.proofs.Common.{◌≡◌, ℕ, ◌<◌, ◌≤◌, true, ◌&&◌, ◌⊎◌, inl, inr, List, [], ◌∷◌, map, Option, None, Some, refl, sym, subst, ◌∙◌, arith, ◌==◌, nat_lt, nat_le, filter, fold}
use Rattle.std.specs.List.{enumerate_from, last_or}
use Rattle.std.proofs.lemmas.Bool.{and_parts, and_from, or_cases, lt-ltb, le-leb, ltb-true, leb-true, eqb-true, eq-eqb}
use Rattle.repl_model.specs.Words.{LogRecord, Unit, SetDef, units, last_seq, last_commit, units_between, units_until, is_seq, is_seq_or_zero, is_within, first_cut, In, any_from, some_passes, in_filter, kept_by, in_map, numbered_in}
use Rattle.world_commits.specs.captures.laws.Units.{Rise, units_rise}

-- ---- the last commit

-- the seq of the last of some units, or else n
abbrev last_from : ℕ → List Unit → ℕ
last_from n us = fold (λ last u. u.head.seq) n us

-- seqs that rise don't fall below where they begin
none_below : (n : ℕ) (us : List Unit) → Rise n us → n ≤ last_from n us
none_below n [] rise = omega arith
none_below n (u ∷ us) rise = omega (arith, rise.0, none_below u.head.seq us rise.1)

-- no unit of some that rise stands after the last
none_after_last : (n : ℕ) (us : List Unit) (u : Unit) → Rise n us → In u us → u.head.seq ≤ last_from n us
none_after_last n [] u rise i = absurd i
none_after_last n (v ∷ vs) u rise (inl same) = subst (λ (w : Unit). w.head.seq ≤ last_from v.head.seq vs) (sym same) (none_below v.head.seq vs rise.1)
none_after_last n (v ∷ vs) u rise (inr i) = none_after_last v.head.seq vs u rise.1 i

-- the last is one of them
last_is_unit : (n : ℕ) (u : Unit) (us : List Unit) → (v : Unit) × In v (u ∷ us) × (v.head.seq ≡ last_from n (u ∷ us))
last_is_unit n u [] = (u, inl refl, refl)
last_is_unit n u (w ∷ ws) = let r = last_is_unit u.head.seq w ws in (r.0, inr r.1, r.2)

-- if there is one
last_of_some : (us : List Unit) (u : Unit) → In u us → (v : Unit) × In v us × (v.head.seq ≡ last_seq us)
last_of_some [] u i = absurd i
last_of_some (v ∷ vs) u i = last_is_unit 0 v vs

-- a unit of a log whose seq is this one shows that it is a seq
unit_has_seq : (log : List LogRecord) (point : ℕ) (u : Unit) → In u (units log) → u.head.seq ≡ point → is_seq log point ≡ true
unit_has_seq log point u i e = any_from (λ (v : Unit). v.head.seq == point) (units log) u i (eq-eqb u.head.seq point e)

-- no seq is above the last commit
pub seq_up_to_last : (log : List LogRecord) (point : ℕ) → is_seq log point ≡ true → point ≤ last_commit log
seq_up_to_last log point e =
    let u = some_passes (λ (v : Unit). v.head.seq == point) (units log) e in
    subst (λ (n : ℕ). n ≤ last_commit log) (eqb-true u.0.head.seq point u.2) (none_after_last 0 (units log) u.0 (units_rise log) u.1)

-- the last commit is a seq, if there is one
pub last_is_seq : (log : List LogRecord) (point : ℕ) → is_seq log point ≡ true → is_seq log (last_commit log) ≡ true
last_is_seq log point e =
    let u = some_passes (λ (v : Unit). v.head.seq == point) (units log) e in
    let last = last_of_some (units log) u.0 u.1 in
    unit_has_seq log (last_commit log) last.0 last.1 last.2

-- a seq or 0 is a seq, if it is above a number
pub seq_above : (log : List LogRecord) (low point : ℕ) → low < point → is_seq_or_zero log point ≡ true → is_seq log point ≡ true
seq_above log low point above e = by_case (or_cases (point == 0) (is_seq log point) e)
  where
    by_case : (◌≡◌ (point == 0) true) ⊎ (is_seq log point ≡ true) → is_seq log point ≡ true
    by_case (inl zero) = absurd (omega (arith, above, eqb-true point 0 zero))
    by_case (inr seq) = seq

-- a seq or 0 isn't above the last commit
pub seq_or_zero_up_to_last : (log : List LogRecord) (point : ℕ) → is_seq_or_zero log point ≡ true → point ≤ last_commit log
seq_or_zero_up_to_last log point e = by_case (or_cases (point == 0) (is_seq log point) e)
  where
    by_case : (◌≡◌ (point == 0) true) ⊎ (is_seq log point ≡ true) → point ≤ last_commit log
    by_case (inl zero) = omega (arith, eqb-true point 0 zero)
    by_case (inr seq) = seq_up_to_last log point seq

-- ---- what a block takes

-- the last of a list, or else another element, is one of both
last_in : {X : Type 0} (x : X) (xs : List X) → (y : X) × In y (x ∷ xs) × (last_or (Some x) xs ≡ Some y)
last_in x [] = (x, inl refl, refl)
last_in x (z ∷ zs) = let r = last_in z zs in (r.0, inr r.1, r.2)

-- the last of the units that one block takes is one of those that come next
cut_is_unit : (def : SetDef) (first : Unit) (us : List Unit) → (u : Unit) × In u (first ∷ us) × (first_cut def (first ∷ us) ≡ Some u)
cut_is_unit def first us = let last = last_in first (map (λ r. r.1) numbered) in (last.0, by_place last.0 last.1, last.2)
  where
    numbered : List (ℕ × Unit)
    numbered = filter (is_within def first) (enumerate_from 1 (first ∷ us))

    by_place : (u : Unit) → In u (first ∷ map (λ r. r.1) numbered) → In u (first ∷ us)
    by_place u (inl is) = inl is
    by_place u (inr i) =
        let r = in_map (λ (p : ℕ × Unit). p.1) numbered u i in
        subst (λ (v : Unit). In v (first ∷ us)) (sym r.2) (numbered_in 1 (first ∷ us) r.0 (in_filter (is_within def first) (enumerate_from 1 (first ∷ us)) r.0 r.1).0)

-- so it is wherever there is one
pub cut_in : (def : SetDef) (us : List Unit) (u : Unit) → first_cut def us ≡ Some u → In u us
cut_in def [] u e = absurd cc
cut_in def (v ∷ vs) u e = let r = cut_is_unit def v vs in subst (λ (w : Unit). In w (v ∷ vs)) (inside r.0 (sym r.2 ∙ e)) r.1
  where
    inside : (w : Unit) → ◌≡◌ {A = Option Unit} (Some w) (Some u) → w ≡ u
    inside w e = cc

-- a unit up to an end is one of all
pub in_units_until : (end : Option ℕ) (us : List Unit) (u : Unit) → In u (units_until end us) → In u us
in_units_until None us u i = i
in_units_until (Some time) us u i = (in_filter (λ (v : Unit). nat_le v.head.time time) us u i).0

-- a unit between two points has its seq there
pub unit_between : (log : List LogRecord) (low high : ℕ) (u : Unit) → In u (units_between low high log) → (low < u.head.seq) × (u.head.seq ≤ high) × (is_seq log u.head.seq ≡ true)
unit_between log low high u i =
    let kept = in_filter (λ (v : Unit). nat_lt low v.head.seq && nat_le v.head.seq high) (units log) u i in
    let within = and_parts (nat_lt low u.head.seq) (nat_le u.head.seq high) kept.1 in
    (ltb-true low u.head.seq within.0, leb-true u.head.seq high within.1, unit_has_seq log u.head.seq u kept.0 refl)

-- one block takes some of the units after one point and up to another, if the other is a seq above it
pub some_cut : (def : SetDef) (log : List LogRecord) (low high : ℕ) → low < high → is_seq log high ≡ true → (u : Unit) × (first_cut def (units_between low high log) ≡ Some u)
some_cut def log low high above e =
    let u = some_passes (λ (v : Unit). v.head.seq == high) (units log) e in
    let at : u.0.head.seq ≡ high = eqb-true u.0.head.seq high u.2 in
    of_some u.0 (units_between low high log)
    (kept_by (λ (v : Unit). nat_lt low v.head.seq && nat_le v.head.seq high) (units log) u.0 u.1 (and_from (nat_lt low u.0.head.seq) (nat_le u.0.head.seq high) (lt-ltb low u.0.head.seq (omega (arith, at, above))) (le-leb u.0.head.seq high (omega (arith, at)))))
  where
    of_some : (v : Unit) (us : List Unit) → In v us → (w : Unit) × (first_cut def us ≡ Some w)
    of_some v [] i = absurd i
    of_some v (first ∷ us) i = let r = cut_is_unit def first us in (r.0, r.2)
