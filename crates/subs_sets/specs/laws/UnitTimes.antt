-- The times that are stored of the units of a server.
use Rattle.std.proofs.Common.{◌≡◌, ℕ, ◌-◌, ◌<◌, ◌≤◌, Bool, false, true, ◌&&◌, List, [], ◌∷◌, filter, fold, sym, ap, subst, ◌∙◌, arith, inl, inr, ◌==◌, nat_lt, nat_le, Option, Some}
use Rattle.std.specs.List.{AllByRecursion}
use Rattle.std.specs.Option.{option_map_or}
use Rattle.std.proofs.lemmas.Bool.{and_from, cond-true, cond-false, lt-ltb, le-ltb, le-leb, ltb-true, lt-leb, eqb-true}
use Rattle.repl_model.specs.Words.{filter_none, is_seq, units_between, time_at, units, Server, In, at_one, at_each, kept_by, some_passes}
use Rattle.repl_types.specs.declared.unit.Unit.{Unit as LogUnit}
use Rattle.world_commits.specs.captures.laws.Units.{Rise, units_rise, is_after, all_after}
use Rattle.subs_sets.specs.Cuts.{first_unit, time_from}
use Rattle.subs_sets.specs.laws.UnitRows.{rise_filter}

-- ---- units in order

-- a later unit of units that rise has a greater seq
later_above : (v : LogUnit) (vs : List LogUnit) (u : LogUnit) → Rise v.head.seq vs → In u vs → v.head.seq < u.head.seq
later_above v vs u rise i = ltb-true v.head.seq u.head.seq (at_one (λ (w : LogUnit). is_after v.head.seq w ≡ true) vs u (all_after v.head.seq v.head.seq vs (omega arith) rise) i)

-- the first unit from the seq of one on is that one
first_from : (n : ℕ) (us : List LogUnit) (u : LogUnit) → Rise n us → In u us → first_unit (filter (λ v. nat_lt (u.head.seq - 1) v.head.seq) us) ≡ Some (u.head.seq, u.head.time)
first_from n [] u rise i = absurd i
first_from n (v ∷ vs) u rise (inl same) =
    ap first_unit (cond-true (nat_lt (u.head.seq - 1) v.head.seq) _ _ (lt-ltb (u.head.seq - 1) v.head.seq (omega (arith, rise.0, ap (λ (x : LogUnit). x.head.seq) same))))
    ∙ ap (λ (x : LogUnit). Some (x.head.seq, x.head.time)) (sym same)
first_from n (v ∷ vs) u rise (inr i) =
    ap first_unit (cond-false (nat_lt (u.head.seq - 1) v.head.seq) _ _ (le-ltb (u.head.seq - 1) v.head.seq (omega (arith, later_above v vs u rise.1 i))))
    ∙ first_from v.head.seq vs u rise.1 i

-- the last unit up to the seq of one is that one
last_up_to : (n t : ℕ) (us : List LogUnit) (u : LogUnit) → Rise n us → In u us → fold (λ last v. v.head.time) t (filter (λ v. nat_le v.head.seq u.head.seq) us) ≡ u.head.time
last_up_to n t [] u rise i = absurd i
last_up_to n t (v ∷ vs) u rise (inl same) =
    let at : v.head.seq ≡ u.head.seq = ap (λ (x : LogUnit). x.head.seq) (sym same) in
    let later : AllByRecursion (λ x. nat_le x.head.seq u.head.seq ≡ false) vs = at_each (λ (x : LogUnit). nat_le x.head.seq u.head.seq ≡ false) vs (λ x i. lt-leb x.head.seq u.head.seq (omega (arith, later_above v vs x rise.1 i, at))) in
    ap (fold (λ last x. x.head.time) t) (cond-true (nat_le v.head.seq u.head.seq) _ _ (le-leb v.head.seq u.head.seq (omega (arith, at))))
    ∙ ap (fold (λ last x. x.head.time) v.head.time) (filter_none (λ x. nat_le x.head.seq u.head.seq) vs later)
    ∙ ap (λ (x : LogUnit). x.head.time) (sym same)
last_up_to n t (v ∷ vs) u rise (inr i) =
    ap (fold (λ last x. x.head.time) t) (cond-true (nat_le v.head.seq u.head.seq) _ _ (le-leb v.head.seq u.head.seq (omega (arith, later_above v vs u rise.1 i))))
    ∙ last_up_to v.head.seq v.head.time vs u rise.1 i

-- ---- the times of a server

module _ (server : Server) (u : LogUnit) (among : In u (units server.log)) (above : server.floor < u.head.seq) (captured : u.head.seq ≤ server.captured) where
  -- a captured unit above the floor stands in the unit-of-work table
  abbrev is_stored : LogUnit → Bool
  is_stored v = nat_lt server.floor v.head.seq && nat_le v.head.seq server.captured

  stands : In u (units_between server.floor server.captured server.log)
  stands = kept_by is_stored (units server.log) u among (and_from (nat_lt server.floor u.head.seq) (nat_le u.head.seq server.captured) (lt-ltb server.floor u.head.seq above) (le-leb u.head.seq server.captured captured))

  -- so the time that is stored there is the unit's
  pub stored_time : time_from u.head.seq server ≡ u.head.time
  stored_time = ap (λ (o : Option (ℕ × ℕ)). option_map_or (λ r. r.1) o 0)
      (first_from 0 (units_between server.floor server.captured server.log) u (rise_filter is_stored 0 (units server.log) (units_rise server.log)) stands)

  -- and that of the log at its seq
  pub logged_time : time_at server.log u.head.seq ≡ u.head.time
  unfolding time_at
  logged_time = last_up_to 0 0 (units server.log) u (units_rise server.log) among

-- the time that is stored of the unit with a seq, if it is captured and above the floor, is that of the log there
pub stored_time_at : (server : Server) (seq : ℕ) → is_seq server.log seq ≡ true → server.floor < seq → seq ≤ server.captured → time_from seq server ≡ time_at server.log seq
stored_time_at server seq is above captured =
    let it = some_passes (λ (u : LogUnit). u.head.seq == seq) (units server.log) is in
    let at : it.0.head.seq ≡ seq = eqb-true it.0.head.seq seq it.2 in
    let low : server.floor < it.0.head.seq = omega (arith, at, above) in
    let high : it.0.head.seq ≤ server.captured = omega (arith, at, captured) in
    subst (λ (n : ℕ). time_from n server ≡ time_at server.log n) at
    (stored_time server it.0 it.1 low high ∙ sym (logged_time server it.0 it.1 low high))
