-- The rows of the units that a server of a sound world has captured.
use Rattle.std.proofs.Common.{◌≡◌, ℕ, ◌+◌, ◌<◌, ◌≤◌, Bool, true, false, ◌&&◌, cond, List, [], ◌∷◌, length, map, filter, refl, arith, nat_lt, nat_le, find, Option, Some, None, ◌==◌}
use Rattle.std.specs.List.{AllByRecursion, enumerate_from, filter_map}
use Rattle.std.specs.Option.{option_map_or}
use Rattle.std.proofs.lemmas.Bool.{and_parts, and_from, leb-true, le-leb}
use Rattle.repl_model.specs.Words.{LogRecord, NumbersAreSound, IsSound, log_limit, LogIsSound, times_rise, units_between, unit_at, units, Server, World, code_in, In, at_one, at_each, in_filter, found_in, seqs_at_most}
use Rattle.world_store.specs.Words.{IsLogRecord, Is64, IsName, IsOrigin, IsCode, IsUow, UowRow, AllAbove, NumbersRise}
use Rattle.repl_types.specs.declared.record.LogRecord.TheVariants as records
use Rattle.repl_types.specs.declared.unit.Unit.{Unit as LogUnit}
use Rattle.world_commits.specs.captures.laws.Units.{Rise, units_rise}

-- ---- units that a filter keeps

-- what rises from a point on rises from a lower one on
rise_from : (m n : ℕ) (us : List LogUnit) → m ≤ n → Rise n us → Rise m us
rise_from m n [] le rise = tt
rise_from m n (u ∷ us) le rise = (omega (arith, le, rise.0), rise.1)

-- units that a filter keeps rise
pub rise_filter : (p : LogUnit → Bool) (n : ℕ) (us : List LogUnit) → Rise n us → Rise n (filter p us)
rise_filter p n [] rise = tt
rise_filter p n (u ∷ us) rise = pick (p u) (rise_filter p u.head.seq us rise.1)
  where
    pick : (b : Bool) → Rise u.head.seq (filter p us) → Rise n (cond b (u ∷ filter p us) (filter p us))
    pick true rest = (rise.0, rest)
    pick false rest = rise_from n u.head.seq (filter p us) (omega (arith, rise.0)) rest

-- what doesn't fall from a time on doesn't from an earlier one on
times_from : (s t : ℕ) (us : List LogUnit) → s ≤ t → times_rise t us ≡ true → times_rise s us ≡ true
times_from s t [] le rise = refl
times_from s t (u ∷ us) le rise =
    let parts = and_parts (nat_le t u.head.time) (times_rise u.head.time us) rise in
    and_from (nat_le s u.head.time) (times_rise u.head.time us) (le-leb s u.head.time (omega (arith, le, leb-true t u.head.time parts.0))) parts.1

-- times of units that a filter keeps don't fall
pub times_filter : (p : LogUnit → Bool) (t : ℕ) (us : List LogUnit) → times_rise t us ≡ true → times_rise t (filter p us) ≡ true
times_filter p t [] rise = refl
times_filter p t (u ∷ us) rise = pick (p u) (times_filter p u.head.time us parts.1)
  where
    parts : (nat_le t u.head.time ≡ true) × (times_rise u.head.time us ≡ true)
    parts = and_parts (nat_le t u.head.time) (times_rise u.head.time us) rise

    pick : (b : Bool) → times_rise u.head.time (filter p us) ≡ true → times_rise t (cond b (u ∷ filter p us) (filter p us)) ≡ true
    pick true rest = and_from (nat_le t u.head.time) (times_rise u.head.time (filter p us)) parts.0 rest
    pick false rest = times_from t u.head.time (filter p us) (leb-true t u.head.time parts.0) rest

-- times that don't fall from one on are no earlier
pub times_later : (t : ℕ) (us : List LogUnit) → times_rise t us ≡ true → AllByRecursion (λ u. t ≤ u.head.time) us
times_later t [] rise = tt
times_later t (u ∷ us) rise =
    let parts = and_parts (nat_le t u.head.time) (times_rise u.head.time us) rise in
    let le = leb-true t u.head.time parts.0 in
    (le, times_later t us (times_from t u.head.time us le parts.1))

-- ---- the spellings of units

-- the names and times of units have spellings
abbrev HeadFits : LogUnit → Type 0
HeadFits u = Is64 u.head.time × IsName u.head.authid × IsOrigin u.head.origin

-- so have those of the units that records end, from a position on
heads_fit : (whole : List LogRecord) (b : ℕ) (log : List LogRecord) → AllByRecursion IsLogRecord log → AllByRecursion HeadFits (filter_map (unit_at whole) (enumerate_from b log))
heads_fit whole b [] typed = tt
heads_fit whole b (records.Change tx change ∷ log) typed = heads_fit whole (b + 1) log typed.1
heads_fit whole b (records.Commit tx time authid origin ∷ log) typed = ((typed.0.1, typed.0.2, typed.0.3), heads_fit whole (b + 1) log typed.1)
heads_fit whole b (records.Abort tx ∷ log) typed = heads_fit whole (b + 1) log typed.1

-- and those of all units
units_fit : (log : List LogRecord) → AllByRecursion IsLogRecord log → AllByRecursion HeadFits (units log)
unfolding units
units_fit log typed = heads_fit log 1 log typed

-- the row of a unit
abbrev pub unit_row : Server → LogUnit → ℕ × UowRow
unit_row server u = (u.head.seq, record { time = u.head.time; authid = u.head.authid; origin = u.head.origin; code = code_in server.shown u.head.seq })

-- rows of units that rise rise
rows_above : (server : Server) (m n : ℕ) (us : List LogUnit) → m ≤ n → Rise n us → AllAbove m (map (unit_row server) us)
rows_above server m n [] le rise = tt
rows_above server m n (u ∷ us) le rise = (omega (arith, le, rise.0), rows_above server m u.head.seq us (omega (arith, le, rise.0)) rise.1)

-- so their numbers rise
pub rows_rise : (server : Server) (n : ℕ) (us : List LogUnit) → Rise n us → NumbersRise (map (unit_row server) us)
rows_rise server n [] rise = tt
rows_rise server n (u ∷ us) rise = (rows_above server u.head.seq u.head.seq us (omega arith) rise.1, rows_rise server u.head.seq us rise.1)

-- the captured units above the floor
abbrev pub captured_units : Server → List LogUnit
captured_units server = units_between server.floor server.captured server.log

module _ (w : World) (server : Server) (sound : IsSound w) (i : In server w) where
  -- its log is sound
  log_sound : LogIsSound server
  log_sound = at_one LogIsSound w server sound.logs i

  -- a unit of the log has a small seq, and its row has a spelling
  pub unit_fits : (u : LogUnit) → In u (units server.log) → (u.head.seq ≤ log_limit) × IsUow (unit_row server u).1
  unit_fits u among =
      let head = at_one HeadFits (units server.log) u (units_fit server.log log_sound.typed) among in
      (omega (arith, log_sound.short, at_one (λ (v : LogUnit). v.head.seq ≤ length server.log) (units server.log) u (seqs_at_most server.log) among), (head.0, head.1, head.2, code_fits u.head.seq))
    where
      code_fits : (seq : ℕ) → IsCode (code_in server.shown seq)
      code_fits seq = by_found (find (λ (c : ℕ × ℕ). c.0 == seq) server.shown) refl
        where
          by_found : (o : Option (ℕ × ℕ)) → find (λ (c : ℕ × ℕ). c.0 == seq) server.shown ≡ o → option_map_or (λ c. c.1) o 0 ≤ 4
          by_found None found = omega arith
          by_found (Some c) found = omega (arith, (at_one (λ (d : ℕ × ℕ). (d.0 ≤ server.captured) × (0 < d.1) × (d.1 ≤ 4)) server.shown c (at_one NumbersAreSound w server sound.numbers i).shown (found_in (λ (d : ℕ × ℕ). d.0 == seq) server.shown c found).0).2)

  -- the seqs of the captured units rise
  pub captured_rise : Rise 0 (captured_units server)
  captured_rise = rise_filter (λ u. nat_lt server.floor u.head.seq && nat_le u.head.seq server.captured) 0 (units server.log) (units_rise server.log)

  -- and their times don't fall
  pub captured_times : times_rise 0 (captured_units server) ≡ true
  captured_times = times_filter (λ u. nat_lt server.floor u.head.seq && nat_le u.head.seq server.captured) 0 (units server.log) log_sound.times

  -- each of them has a small seq, and its row has a spelling
  pub captured_fit : AllByRecursion (λ u. (u.head.seq ≤ log_limit) × IsUow (unit_row server u).1) (captured_units server)
  captured_fit = at_each (λ u. (u.head.seq ≤ log_limit) × IsUow (unit_row server u).1) (captured_units server) (λ u among. unit_fits u (in_filter (λ (v : LogUnit). nat_lt server.floor v.head.seq && nat_le v.head.seq server.captured) (units server.log) u among).0)
