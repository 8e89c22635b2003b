-- Where a block ends: the units that it takes, and the others that are captured.
use Rattle.std.proofs.Common.{◌≡◌, ℕ, zero, suc, ◌+◌, ◌*◌, ◌<◌, ◌≤◌, ◌^◌, Bool, true, false, ◌&&◌, ◌||◌, cond, List, [], ◌∷◌, ◌++◌, length, map, filter, fold, append_assoc, length-append, refl, sym, ap, ap₂, subst, ◌∙◌, arith, inl, ◌==◌, nat_le, nat_lt, min, Option, Some, None}
use Rattle.std.specs.List.{AllByRecursion, enumerate_from, last_or}
use Rattle.std.specs.Option.{option_map}
use Rattle.std.proofs.lemmas.Bool.{false≢true, and_parts, and_from, both_ways, le-leb, leb-true, lt-ltb, ltb-true, or_right}
use Rattle.std.proofs.lemmas.Option.{none-some}
use Rattle.repl_model.specs.Words.{filter_none, SetDef, is_within, first_cut, units_until, next_units, IsSound, log_limit, LogIsSound, times_rise, units_between, synchpoint, units, last_seq, World, KnownSet, In, at_one, in_filter, alike, units_few}
use Rattle.world_store.specs.Words.{IsUow, filters_commute, filter_few}
use Rattle.repl_types.specs.declared.unit.Unit.{Unit as LogUnit}
use Rattle.world_commits.specs.captures.laws.Units.{Rise, others_after}
use Rattle.world_commits.specs.laws.Commits.{in_units_until}
use Rattle.subs_sets.specs.Cuts.{block_end, captured_after, captured_until, first_unit, is_until, is_within_limits}
use Rattle.subs_sets.specs.laws.UnitRows.{unit_row, captured_units, captured_rise, captured_times, captured_fit, rise_filter, times_filter, times_later}

-- The first of the units that come next are within the limits of a block: so many, from this time on, up to this seq.
pub record IsCutTo (end : Option ℕ) (k : KnownSet) (time number cut : ℕ) : Type 0 where
  pub first : LogUnit
  pub taken : List LogUnit
  pub split : next_units end k ≡ (first ∷ taken) ++ captured_until end cut k.source
  pub last : cut ≡ last_seq (first ∷ taken)
  pub counted : number ≡ length (first ∷ taken)
  pub begins : time ≡ first.head.time
  pub within : AllByRecursion (λ r. is_within k.at_source.def first r ≡ true) (enumerate_from 1 (first ∷ taken))

-- ---- limits

-- a number is no more than the lesser of two if it is no more than the one, and never more than the other
le_min : (a b m : ℕ) → a ≤ m → nat_le a (min b m) ≡ nat_le a b
le_min a b m most = alike (nat_le a (min b m)) (nat_le a b) (λ e. le-leb a b (omega (arith, leb-true a (min b m) e))) (λ e. le-leb a (min b m) (omega (arith, most, leb-true a b e)))

-- the limits of the code are those of the definition
limits_alike : (def : SetDef) (first u : LogUnit) (n : ℕ) → u.head.time < 2 ^ 64 → is_within_limits def first.head.time n u.head.time ≡ is_within def first (n, u)
limits_alike def first u n small = ap (λ (b : Bool). (def.commit_count == 0 || nat_le n def.commit_count) && (def.max_minutes == 0 || b)) (le_min u.head.time (first.head.time + 60 * def.max_minutes) 18446744073709551615 (omega (arith, small)))

-- a test that passes unless another does passes if the other implies one that it passes with
or_weaker : (z a b : Bool) → (a ≡ true → b ≡ true) → (z || a) ≡ true → (z || b) ≡ true
or_weaker true a b weaker e = refl
or_weaker false a b weaker e = weaker e

-- the first unit is within the limits
first_within : (def : SetDef) (u : LogUnit) → is_within def u (1, u) ≡ true
first_within def u = and_from (def.commit_count == 0 || nat_le 1 def.commit_count) (def.max_minutes == 0 || nat_le u.head.time (u.head.time + 60 * def.max_minutes)) (some def.commit_count) (or_right (def.max_minutes == 0) (nat_le u.head.time (u.head.time + 60 * def.max_minutes)) (le-leb u.head.time (u.head.time + 60 * def.max_minutes) (omega arith)))
  where
    some : (count : ℕ) → (count == 0 || nat_le 1 count) ≡ true
    some zero = refl
    some (suc n) = or_right (suc n == 0) (nat_le 1 (suc n)) (le-leb 1 (suc n) (omega arith))

-- a unit is within the limits if a later one is
within_earlier : (def : SetDef) (first u v : LogUnit) (m n : ℕ) → m ≤ n → u.head.time ≤ v.head.time → is_within def first (n, v) ≡ true → is_within def first (m, u) ≡ true
within_earlier def first u v m n le before e =
    let parts = and_parts (def.commit_count == 0 || nat_le n def.commit_count) (def.max_minutes == 0 || nat_le v.head.time (first.head.time + 60 * def.max_minutes)) e in
    and_from (def.commit_count == 0 || nat_le m def.commit_count) (def.max_minutes == 0 || nat_le u.head.time (first.head.time + 60 * def.max_minutes))
    (or_weaker (def.commit_count == 0) (nat_le n def.commit_count) (nat_le m def.commit_count) (λ f. le-leb m def.commit_count (omega (arith, le, leb-true n def.commit_count f))) parts.0)
    (or_weaker (def.max_minutes == 0) (nat_le v.head.time (first.head.time + 60 * def.max_minutes)) (nat_le u.head.time (first.head.time + 60 * def.max_minutes)) (λ f. le-leb u.head.time (first.head.time + 60 * def.max_minutes) (omega (arith, before, leb-true v.head.time (first.head.time + 60 * def.max_minutes) f))) parts.1)

-- so after one that isn't, none is
none_later : (def : SetDef) (first u : LogUnit) (m n : ℕ) (vs : List LogUnit) → m ≤ n → is_within def first (m, u) ≡ false → AllByRecursion (λ v. u.head.time ≤ v.head.time) vs → AllByRecursion (λ r. is_within def first r ≡ false) (enumerate_from n vs)
none_later def first u m n [] le fails later = tt
none_later def first u m n (v ∷ vs) le fails later = (by_test (is_within def first (n, v)) refl, none_later def first u m (n + 1) vs (omega (arith, le)) fails later.1)
  where
    by_test : (b : Bool) → is_within def first (n, v) ≡ b → b ≡ false
    by_test true e = absurd (both_ways (is_within def first (m, u)) fails (within_earlier def first u v m n le later.0 e))
    by_test false e = refl

-- ---- lists

-- of numbered things of which the first pass a test, and no others do, those are kept
first_kept : {X : Type 0} (p : ℕ × X → Bool) (b n : ℕ) (front back : List X) → n ≡ b + length front → AllByRecursion (λ r. p r ≡ true) (enumerate_from b front) → AllByRecursion (λ r. p r ≡ false) (enumerate_from n back) → map (λ r. r.1) (filter p (enumerate_from b (front ++ back))) ≡ front
first_kept {X} p b n [] back is pass fail =
    let same : n ≡ b = omega (arith, is) in
    ap (map (λ (r : ℕ × X). r.1)) (ap (λ (m : ℕ). filter p (enumerate_from m back)) (sym same) ∙ filter_none p (enumerate_from n back) fail)
first_kept {X} p b n (x ∷ xs) back is pass fail =
    ap (λ (t : Bool). map (λ (r : ℕ × X). r.1) (cond t ((b, x) ∷ filter p (enumerate_from (b + 1) (xs ++ back))) (filter p (enumerate_from (b + 1) (xs ++ back))))) pass.0
    ∙ ap (λ (l : List X). x ∷ l) (first_kept p (b + 1) n xs back (omega arith) pass.1 fail)

-- the last of some units has the last seq
last_of : (u : LogUnit) (us : List LogUnit) → option_map (λ v. v.head.seq) (last_or (Some u) us) ≡ Some (fold (λ last v. v.head.seq) u.head.seq us)
last_of u [] = refl
last_of u (v ∷ vs) = last_of v vs

-- the seq of the last of some units and another one
last_more : (n : ℕ) (us : List LogUnit) (u : LogUnit) → fold (λ last v. v.head.seq) n (us ++ u ∷ []) ≡ u.head.seq
last_more n [] u = refl
last_more n (v ∷ vs) u = last_more v.head.seq vs u

-- numbered things, and one more
numbered_more : {X : Type 0} (P : ℕ × X → Type 0) (b n : ℕ) (xs : List X) (x : X) → n ≡ b + length xs → AllByRecursion P (enumerate_from b xs) → P (n, x) → AllByRecursion P (enumerate_from b (xs ++ x ∷ []))
numbered_more {X} P b n [] x is all here =
    let same : n ≡ b = omega (arith, is) in
    (subst (λ (m : ℕ). P (m, x)) same here, tt)
numbered_more P b n (y ∷ ys) x is all here = (all.0, numbered_more P (b + 1) n ys x (omega arith) all.1 here)

-- a first unit that was found is one
first_is : (us : List LogUnit) (seq time : ℕ) → Some (seq, time) ≡ first_unit us → (u : LogUnit) × (rest : List LogUnit) × (us ≡ u ∷ rest) × (u.head.seq ≡ seq) × (u.head.time ≡ time)
first_is [] seq time e = absurd (none-some (seq, time) (sym e))
first_is (u ∷ us) seq time e = (u, us, refl, ap (λ (p : ℕ × ℕ). p.0) (inside e), ap (λ (p : ℕ × ℕ). p.1) (inside e))
  where
    inside : ◌≡◌ {A = Option (ℕ × ℕ)} (Some (seq, time)) (Some (u.head.seq, u.head.time)) → ◌≡◌ {A = ℕ × ℕ} (u.head.seq, u.head.time) (seq, time)
    inside e = cc

-- if none was found, there is none
none_is : (us : List LogUnit) → None ≡ first_unit us → us ≡ []
none_is [] e = refl
none_is (u ∷ us) e = absurd (none-some (u.head.seq, u.head.time) e)

-- units above a floor and up to a limit, after a point that isn't below the floor
after_point : (floor point high : ℕ) (us : List LogUnit) → floor ≤ point → filter (λ u. nat_lt point u.head.seq) (filter (λ u. nat_lt floor u.head.seq && nat_le u.head.seq high) us) ≡ filter (λ u. nat_lt point u.head.seq && nat_le u.head.seq high) us
after_point floor point high [] le = refl
after_point floor point high (u ∷ us) le = pick (nat_lt floor u.head.seq) refl (nat_lt point u.head.seq) refl (nat_le u.head.seq high) (after_point floor point high us le)
  where
    rest : List LogUnit
    rest = filter (λ v. nat_lt floor v.head.seq && nat_le v.head.seq high) us

    pick : (a : Bool) → nat_lt floor u.head.seq ≡ a → (b : Bool) → nat_lt point u.head.seq ≡ b → (c : Bool) → filter (λ v. nat_lt point v.head.seq) (filter (λ v. nat_lt floor v.head.seq && nat_le v.head.seq high) us) ≡ filter (λ v. nat_lt point v.head.seq && nat_le v.head.seq high) us
        → filter (λ v. nat_lt point v.head.seq) (cond (a && c) (u ∷ filter (λ v. nat_lt floor v.head.seq && nat_le v.head.seq high) us) (filter (λ v. nat_lt floor v.head.seq && nat_le v.head.seq high) us)) ≡ cond (b && c) (u ∷ filter (λ v. nat_lt point v.head.seq && nat_le v.head.seq high) us) (filter (λ v. nat_lt point v.head.seq && nat_le v.head.seq high) us)
    pick false ea true eb c ih = absurd (both_ways (nat_lt floor u.head.seq) ea (lt-ltb floor u.head.seq (omega (arith, le, ltb-true point u.head.seq eb))))
    pick false ea false eb c ih = ih
    pick true ea b eb false ih = ih ∙ none b
      where
        none : (b : Bool) → filter (λ v. nat_lt point v.head.seq && nat_le v.head.seq high) us ≡ cond (b && false) (u ∷ filter (λ v. nat_lt point v.head.seq && nat_le v.head.seq high) us) (filter (λ v. nat_lt point v.head.seq && nat_le v.head.seq high) us)
        none true = refl
        none false = refl
    pick true ea true eb true ih = ap (λ (t : Bool). cond t (u ∷ filter (λ v. nat_lt point v.head.seq) (filter (λ v. nat_lt floor v.head.seq && nat_le v.head.seq high) us)) (filter (λ v. nat_lt point v.head.seq) (filter (λ v. nat_lt floor v.head.seq && nat_le v.head.seq high) us))) eb ∙ ap (λ (l : List LogUnit). u ∷ l) ih
    pick true ea false eb true ih = ap (λ (t : Bool). cond t (u ∷ filter (λ v. nat_lt point v.head.seq) (filter (λ v. nat_lt floor v.head.seq && nat_le v.head.seq high) us)) (filter (λ v. nat_lt point v.head.seq) (filter (λ v. nat_lt floor v.head.seq && nat_le v.head.seq high) us))) eb ∙ ih

-- ---- units up to an end

-- units that pass a test, up to an end, are those up to the end that pass it
until_kept : (end : Option ℕ) (p : LogUnit → Bool) (us : List LogUnit) → units_until end (filter p us) ≡ filter p (units_until end us)
until_kept None p us = refl
until_kept (Some time) p us = filters_commute (λ (u : LogUnit). nat_le u.head.time time) p us

-- seqs of units up to an end rise
until_rise : (end : Option ℕ) (n : ℕ) (us : List LogUnit) → Rise n us → Rise n (units_until end us)
until_rise None n us rise = rise
until_rise (Some time) n us rise = rise_filter (λ (u : LogUnit). nat_le u.head.time time) n us rise

-- their times don't fall
until_times : (end : Option ℕ) (t : ℕ) (us : List LogUnit) → times_rise t us ≡ true → times_rise t (units_until end us) ≡ true
until_times None t us rise = rise
until_times (Some time) t us rise = times_filter (λ (u : LogUnit). nat_le u.head.time time) t us rise

-- there are no more of them than of all
until_few : (end : Option ℕ) (us : List LogUnit) → length (units_until end us) ≤ length us
until_few None us = omega arith
until_few (Some time) us = filter_few (λ (u : LogUnit). nat_le u.head.time time) us

-- if there are no units, there are none up to an end
pub none_until : (end : Option ℕ) (us : List LogUnit) → None ≡ first_unit us → None ≡ first_unit (units_until end us)
none_until None us e = e
none_until (Some time) us e = ap (λ (vs : List LogUnit). first_unit (filter (λ (u : LogUnit). nat_le u.head.time time) vs)) (sym (none_is us e))

-- a first unit that is up to an end is the first of those
pub first_until : (end : Option ℕ) (us : List LogUnit) (seq time : ℕ) → Some (seq, time) ≡ first_unit us → is_until end time ≡ true → Some (seq, time) ≡ first_unit (units_until end us)
first_until None us seq time e early = e
first_until (Some last) us seq time e early =
    let f = first_is us seq time e in
    let is_early = λ (u : LogUnit). nat_le u.head.time last in
    e
    ∙ ap first_unit f.2
    ∙ sym (ap (λ (b : Bool). first_unit (cond b (f.0 ∷ filter is_early f.1) (filter is_early f.1))) (ap (λ (t : ℕ). nat_le t last) f.4 ∙ early))
    ∙ sym (ap (λ (vs : List LogUnit). first_unit (filter is_early vs)) f.2)

-- if it isn't, there are none, since times don't fall
first_late : (end : Option ℕ) (us : List LogUnit) (seq time : ℕ) → times_rise 0 us ≡ true → Some (seq, time) ≡ first_unit us → is_until end time ≡ false → None ≡ first_unit (units_until end us)
first_late None us seq time rise e late = absurd (false≢true (sym late))
first_late (Some last) us seq time rise e late =
    let f = first_is us seq time e in
    let is_early = λ (u : LogUnit). nat_le u.head.time last in
    let later : AllByRecursion (λ v. f.0.head.time ≤ v.head.time) f.1 = times_later f.0.head.time f.1 (and_parts (nat_le 0 f.0.head.time) (times_rise f.0.head.time f.1) (subst (λ (vs : List LogUnit). times_rise 0 vs ≡ true) f.2 rise)).1 in
    sym (ap first_unit (ap (filter is_early) f.2 ∙ filter_none is_early (f.0 ∷ f.1) (
      ap (λ (t : ℕ). nat_le t last) f.4 ∙ late,
      all_late f.0.head.time f.1 later (ap (λ (t : ℕ). nat_le t last) f.4 ∙ late),
    )))
  where
    late_too : (t : ℕ) (v : LogUnit) → t ≤ v.head.time → nat_le t last ≡ false → (b : Bool) → nat_le v.head.time last ≡ b → b ≡ false
    late_too t v le fails true e = absurd (both_ways (nat_le t last) fails (le-leb t last (omega (arith, le, leb-true v.head.time last e))))
    late_too t v le fails false e = refl

    all_late : (t : ℕ) (vs : List LogUnit) → AllByRecursion (λ v. t ≤ v.head.time) vs → nat_le t last ≡ false → AllByRecursion (λ v. nat_le v.head.time last ≡ false) vs
    all_late t [] later fails = tt
    all_late t (v ∷ vs) later fails = (late_too t v later.0 fails (nat_le v.head.time last) refl, all_late t vs later.1 fails)

-- ---- where a block ends

module _ (w : World) (k : KnownSet) (sound : IsSound w) (i : In k.source w) (end : Option ℕ) where
  -- the set's definition
  abbrev def : SetDef
  def = k.at_source.def

  -- if the first captured unit after a point isn't up to the end, there are none
  pub late_is_none : (point seq time : ℕ) → Some (seq, time) ≡ first_unit (captured_after point k.source) → is_until end time ≡ false → None ≡ first_unit (captured_until end point k.source)
  late_is_none point seq time = first_late end (captured_after point k.source) seq time (times_filter (λ v. nat_lt point v.head.seq) 0 (captured_units k.source) (captured_times w k.source sound i))

  -- the units that come next are the captured units after the point
  next_after : (point : ℕ) → point ≡ synchpoint k.at_target.trail → k.source.floor ≤ point → next_units end k ≡ captured_until end point k.source
  next_after point is le = ap (units_until end) (ap (λ (p : ℕ). units_between p k.source.captured k.source.log) (sym is) ∙ sym (after_point k.source.floor point k.source.captured (units k.source.log) le))

  -- there are few of them
  next_few : length (next_units end k) ≤ log_limit
  next_few = omega (arith, until_few end (units_between (synchpoint k.at_target.trail) k.source.captured k.source.log), filter_few (λ (u : LogUnit). nat_lt (synchpoint k.at_target.trail) u.head.seq && nat_le u.head.seq k.source.captured) (units k.source.log), units_few k.source.log, (at_one LogIsSound w k.source sound.logs i).short)

  -- their times don't fall, and have eight bytes
  times_after : (cut : ℕ) (u : LogUnit) (rest : List LogUnit) → captured_until end cut k.source ≡ u ∷ rest → (u.head.time < 2 ^ 64) × AllByRecursion (λ v. u.head.time ≤ v.head.time) rest
  times_after cut u rest is =
      let past = λ (v : LogUnit). nat_lt cut v.head.seq in
      let rise : times_rise 0 (u ∷ rest) ≡ true = subst (λ (us : List LogUnit). times_rise 0 us ≡ true) is (until_times end 0 (captured_after cut k.source) (times_filter past 0 (captured_units k.source) (captured_times w k.source sound i))) in
      let among : In u (captured_units k.source) = (in_filter past (captured_units k.source) u (in_units_until end (captured_after cut k.source) u (subst (In u) (sym is) (inl refl)))).0 in (
        (at_one (λ (v : LogUnit). (v.head.seq ≤ log_limit) × IsUow (unit_row k.source v).1) (captured_units k.source) u (captured_fit w k.source sound i) among).1.0,
        times_later u.head.time rest (and_parts (nat_le 0 u.head.time) (times_rise u.head.time rest) rise).1,
      )

  -- after a captured unit stand the others
  others : (cut : ℕ) (u : LogUnit) (rest : List LogUnit) → captured_until end cut k.source ≡ u ∷ rest → captured_until end u.head.seq k.source ≡ rest
  others cut u rest is =
      until_kept end (λ (v : LogUnit). nat_lt u.head.seq v.head.seq) (captured_units k.source)
      ∙ others_after cut 0 (units_until end (captured_units k.source)) u rest (until_rise end 0 (captured_units k.source) (captured_rise w k.source sound i)) (sym (until_kept end (λ (v : LogUnit). nat_lt cut v.head.seq) (captured_units k.source)) ∙ is)

  -- a block of no units
  pub no_block : (point : ℕ) → point ≡ synchpoint k.at_target.trail → k.source.floor ≤ point → None ≡ first_unit (captured_until end point k.source) → None ≡ block_end end k
  no_block point is le none = ap (λ (us : List LogUnit). option_map (λ u. u.head.seq) (first_cut def us)) (sym (next_after point is le ∙ none_is (captured_until end point k.source) none))

  -- it takes the first unit
  pub begins_with : (point seq time : ℕ) → point ≡ synchpoint k.at_target.trail → k.source.floor ≤ point → Some (seq, time) ≡ first_unit (captured_until end point k.source) → IsCutTo end k time 1 seq
  begins_with point seq time is le found =
      let f = first_is (captured_until end point k.source) seq time found in
      let u : LogUnit = f.0 in
      record {
        first = u;
        taken = [];
        split = next_after point is le ∙ f.2 ∙ ap (λ (us : List LogUnit). u ∷ us) (sym (others point u f.1 f.2) ∙ ap (λ (n : ℕ). captured_until end n k.source) f.3);
        last = sym f.3;
        counted = refl;
        begins = sym f.4;
        within = (first_within def u, tt);
      }

  module _ (time number cut : ℕ) (c : IsCutTo end k time number cut) where
    -- its end, if no other unit is within the limits
    ends_at : (back : List LogUnit) → captured_until end cut k.source ≡ back → AllByRecursion (λ r. is_within def c.first r ≡ false) (enumerate_from (1 + length (c.first ∷ c.taken)) back) → Some cut ≡ block_end end k
    ends_at back is none =
        let us = c.first ∷ c.taken in
        ap (λ (n : ℕ). Some n) c.last
        ∙ sym (last_of c.first c.taken)
        ∙ sym (ap (λ (l : List LogUnit). option_map (λ u. u.head.seq) (last_or (Some c.first) l)) (first_kept (is_within def c.first) 1 (1 + length us) us back refl c.within none))
        ∙ sym (ap (λ (l : List LogUnit). option_map (λ u. u.head.seq) (first_cut def l)) (c.split ∙ ap (λ (l : List LogUnit). us ++ l) is))

    -- it ends if there is no other unit
    pub ends_there : None ≡ first_unit (captured_until end cut k.source) → Some cut ≡ block_end end k
    ends_there none = ends_at [] (none_is (captured_until end cut k.source) none) tt

    -- the number of the next unit
    next_number : min (number + 1) 18446744073709551615 ≡ 1 + length (c.first ∷ c.taken)
    next_number = omega (arith, c.counted, next_few, ap (λ (l : List LogUnit). length l) c.split, length-append (c.first ∷ c.taken) (captured_until end cut k.source))

    -- whether that is within the limits
    next_within : (u : LogUnit) (rest : List LogUnit) → captured_until end cut k.source ≡ u ∷ rest → is_within_limits def time (min (number + 1) 18446744073709551615) u.head.time ≡ is_within def c.first (1 + length (c.first ∷ c.taken), u)
    next_within u rest is =
        ap₂ (λ (t n : ℕ). is_within_limits def t n u.head.time) c.begins next_number
        ∙ limits_alike def c.first u (1 + length (c.first ∷ c.taken)) (times_after cut u rest is).0

    -- it ends if the next one isn't
    pub ends_before : (own : SetDef) (more seq later : ℕ) → own ≡ def → more ≡ min (number + 1) 18446744073709551615 → Some (seq, later) ≡ first_unit (captured_until end cut k.source) → is_within_limits own time more later ≡ false → Some cut ≡ block_end end k
    ends_before own more seq later same is found fails =
        let f = first_is (captured_until end cut k.source) seq later found in
        let n = 1 + length (c.first ∷ c.taken) in
        let outside : is_within def c.first (n, f.0) ≡ false = sym (next_within f.0 f.1 f.2) ∙ sym (λ j. is_within_limits (same j) time (is j) (sym f.4 j)) ∙ fails in
        ends_at (f.0 ∷ f.1) f.2 (outside, none_later def c.first f.0 n (n + 1) f.1 (omega arith) outside (times_after cut f.0 f.1 f.2).1)

    -- it takes the next one if that is
    pub goes_past : (own : SetDef) (more seq later : ℕ) → own ≡ def → more ≡ min (number + 1) 18446744073709551615 → Some (seq, later) ≡ first_unit (captured_until end cut k.source) → is_within_limits own time more later ≡ true → IsCutTo end k time more seq
    goes_past own more seq later same is found passes =
        let f = first_is (captured_until end cut k.source) seq later found in
        let u : LogUnit = f.0 in
        let n = 1 + length (c.first ∷ c.taken) in
        let inside : is_within def c.first (n, u) ≡ true = sym (next_within u f.1 f.2) ∙ sym (λ j. is_within_limits (same j) time (is j) (sym f.4 j)) ∙ passes in
        record {
          first = c.first;
          taken = c.taken ++ u ∷ [];
          split = c.split ∙ ap (λ (l : List LogUnit). (c.first ∷ c.taken) ++ l) (f.2 ∙ ap (λ (l : List LogUnit). u ∷ l) (sym (others cut u f.1 f.2) ∙ ap (λ (m : ℕ). captured_until end m k.source) f.3)) ∙ sym (append_assoc (c.first ∷ c.taken) (u ∷ []) (captured_until end seq k.source));
          last = sym (last_more c.first.head.seq c.taken u ∙ f.3);
          counted = omega (arith, is, next_number, length-append c.taken (u ∷ []));
          begins = c.begins;
          within = numbered_more (λ (r : ℕ × LogUnit). is_within def c.first r ≡ true) 1 n (c.first ∷ c.taken) u refl c.within inside;
        }
