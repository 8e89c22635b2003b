-- The units of a log, and the next one that a server captures.
use Rattle.std.proofs.Common.{◌≡◌, ℕ, ◌+◌, ◌<◌, ◌≤◌, Bool, true, false, cond, ◌&&◌, List, [], ◌∷◌, ◌++◌, length, Option, Some, None, refl, sym, ap, subst, ◌∙◌, arith, append-nil, inl, nat_lt, nat_le, ◌==◌, IsTrue, IfSome}
use Rattle.std.specs.List.{AllByRecursion, filter, find, flat_map}
use Rattle.std.specs.Option.{option_map_or}
use Rattle.std.proofs.lemmas.Bool.{ltb-true, ltb-false, le-leb, lt-leb, and_right}
use Rattle.std.proofs.lemmas.List.Elements.{filter-append}
use Rattle.std.proofs.lemmas.List.Concat.{flat_map-append}
use Rattle.world_store.specs.Words.{numbered_below, differ_numbers}
use Rattle.repl_model.specs.Words.{all_weaker, all_filter, filter_alike, filter_none, LogRecord, CdRow, Registration, Placed, Unit, At, positions, last_end, change_of, changes_up_to, unit_at, units, units_between, rows_of_placed, change_rows, changes_between, Server, World, code_in, NumbersAreSound, LogIsSound, log_limit, signals_stand_alone, In, at_one, in_second, each_given}
use Rattle.repl_types.specs.declared.record.LogRecord.TheVariants as records
use Rattle.world_commits.specs.captures.Captures.{uncaptured}
use Rattle.world_commits.specs.captures.laws.Units.{Rise, units_rise, is_after, all_after}
use Rattle.stored_commits.specs.units.StoredCaptures.{IsNextUnit}
use Rattle.stored_commits.specs.laws.Rising.{Rises, numbered_rise, filter_rises, given_rises}

-- ---- where units stand in a log

-- the number of a change
abbrev pub place_of : Placed → ℕ
place_of placed = placed.pos

-- A unit stands within a log: its seq and the positions of its changes are at most the log's length, and these
-- rise.
pub record StandsWithin (n : ℕ) (u : Unit) : Type 0 where
  pub seq : u.head.seq ≤ n
  pub rise : Rises place_of u.changes
  pub within : AllByRecursion (λ placed. placed.pos ≤ n) u.changes

module _ (tx : ℕ) where
  -- a change that a record is has the record's position
  place_is : (q : At) → IfSome (change_of tx q) (λ placed. placed.pos ≡ q.0)
  place_is (pos, records.Change t change) = pick (t == tx)
    where
      it : Placed
      it = record { pos = pos; change = change }

      pick : (own : Bool) → IfSome (cond own (Some it) None) (λ placed. placed.pos ≡ pos)
      pick true = refl
      pick false = tt
  place_is (pos, records.Commit t time authid origin) = tt
  place_is (pos, records.Abort t) = tt

  -- the changes of a transaction rise by their positions
  changes_rise : (before : ℕ) (log : List LogRecord) → Rises place_of (changes_up_to tx before log)
  changes_rise before log =
      let p = λ (r : At). nat_lt (last_end tx before log) r.0 && nat_lt r.0 before in
      given_rises (change_of tx) (λ q. q.0) place_of place_is (filter p (positions log)) (filter_rises (λ (q : At). q.0) p (positions log) (numbered_rise 1 log))

  -- and stand within the log
  changes_within : (before : ℕ) (log : List LogRecord) → AllByRecursion (λ placed. placed.pos ≤ length log) (changes_up_to tx before log)
  changes_within before log =
      let p = λ (r : At). nat_lt (last_end tx before log) r.0 && nat_lt r.0 before in
      each_given (λ (placed : Placed). placed.pos ≤ length log) (change_of tx) (filter p (positions log))
      (all_filter (λ (q : At). IfSome (change_of tx q) (λ placed. placed.pos ≤ length log)) p (positions log)
      (all_weaker (λ (q : At). q.0 < length log + 1) (λ (q : At). IfSome (change_of tx q) (λ placed. placed.pos ≤ length log)) (positions log) (λ q lt. below q (change_of tx q) (place_is q) lt) (numbered_below 1 (length log + 1) log (omega arith))))
    where
      below : (q : At) (o : Option Placed) → IfSome o (λ placed. placed.pos ≡ q.0) → q.0 < length log + 1 → IfSome o (λ placed. placed.pos ≤ length log)
      below q None is lt = tt
      below q (Some placed) is lt = omega (arith, is, lt)

-- each unit of a log stands within it
pub units_within : (log : List LogRecord) → AllByRecursion (StandsWithin (length log)) (units log)
unfolding units
units_within log = each_given (StandsWithin (length log)) (unit_at log) (positions log)
    (all_weaker (λ (q : At). q.0 < length log + 1) (λ (q : At). IfSome (unit_at log q) (StandsWithin (length log))) (positions log) one (numbered_below 1 (length log + 1) log (omega arith)))
  where
    one : (q : At) → q.0 < length log + 1 → IfSome (unit_at log q) (StandsWithin (length log))
    one (pos, records.Change tx change) lt = tt
    one (pos, records.Commit tx time authid origin) lt = record { seq = omega arith; rise = changes_rise tx pos log; within = changes_within tx pos log }
    one (pos, records.Abort tx) lt = tt

-- ---- the next unit

-- The next unit to be captured stands behind those that are, and before the others.
pub record StandsNext (captured : ℕ) (u : Unit) (us : List Unit) : Type 0 where
  pub front : List Unit
  pub back : List Unit
  pub split : us ≡ front ++ u ∷ back
  pub low : AllByRecursion (λ v. v.head.seq ≤ captured) front
  pub above : captured < u.head.seq
  pub high : AllByRecursion (λ v. u.head.seq < v.head.seq) back

-- the first unit that isn't captured stands so
next_stands : (captured n : ℕ) (u : Unit) (us rest : List Unit) → Rise n us → filter (is_after captured) us ≡ u ∷ rest → StandsNext captured u us
next_stands captured n u [] rest rise e = absurd cc
next_stands captured n u (v ∷ vs) rest rise e = pick (is_after captured v) refl (next_stands captured v.head.seq u vs rest rise.1) e
  where
    later : AllByRecursion (λ w. v.head.seq < w.head.seq) vs
    later = all_weaker (λ (w : Unit). is_after v.head.seq w ≡ true) (λ w. v.head.seq < w.head.seq) vs (λ w. ltb-true v.head.seq w.head.seq) (all_after v.head.seq v.head.seq vs (omega arith) rise.1)

    pick : (t : Bool) → is_after captured v ≡ t → (filter (is_after captured) vs ≡ u ∷ rest → StandsNext captured u vs) → cond t (v ∷ filter (is_after captured) vs) (filter (is_after captured) vs) ≡ u ∷ rest → StandsNext captured u (v ∷ vs)
    pick true is stands e =
        let first : v ≡ u = cc in
        record {
          front = [];
          back = vs;
          split = ap (λ (w : Unit). w ∷ vs) first;
          low = tt;
          above = subst (λ (w : Unit). captured < w.head.seq) first (ltb-true captured v.head.seq is);
          high = subst (λ (w : Unit). AllByRecursion (λ x. w.head.seq < x.head.seq) vs) first later;
        }
    pick false is stands e =
        let s = stands e in
        record { front = v ∷ s.front; back = s.back; split = ap (λ (l : List Unit). v ∷ l) s.split; low = (ltb-false captured v.head.seq is, s.low); above = s.above; high = s.high }

-- whether a unit is after one point and up to another
abbrev is_between : ℕ → ℕ → Unit → Bool
is_between low high v = nat_lt low v.head.seq && nat_le v.head.seq high

-- the units up to the next one are those that are captured, and itself
pub units_to_next : (captured low : ℕ) (u : Unit) (us : List Unit) → StandsNext captured u us → filter (is_between low u.head.seq) us ≡ filter (is_between low captured) us ++ cond (nat_lt low u.head.seq) (u ∷ []) []
units_to_next captured low u us s =
    parts u.head.seq (nat_lt low u.head.seq) (ap (λ (t : Bool). nat_lt low u.head.seq && t) (le-leb u.head.seq u.head.seq (omega arith)) ∙ and_yes (nat_lt low u.head.seq)) (λ v lt. lt-leb v.head.seq u.head.seq lt)
    ∙ ap (λ (l : List Unit). l ++ cond (nat_lt low u.head.seq) (u ∷ []) []) (filter_alike (is_between low u.head.seq) (is_between low captured) s.front
    (all_weaker (λ (v : Unit). v.head.seq ≤ captured) (λ v. is_between low u.head.seq v ≡ is_between low captured v) s.front (λ v le. in_both v le s.above) s.low))
    ∙ sym (ap (λ (l : List Unit). l ++ cond (nat_lt low u.head.seq) (u ∷ []) [])
    (parts captured false (and_right (nat_lt low u.head.seq) (nat_le u.head.seq captured) (lt-leb u.head.seq captured s.above)) (λ v lt. lt-leb v.head.seq captured (later v s.above lt)) ∙ append-nil (filter (is_between low captured) s.front)))
  where
    and_yes : (t : Bool) → (t && true) ≡ t
    and_yes true = refl
    and_yes false = refl

    later : (v : Unit) → captured < u.head.seq → u.head.seq < v.head.seq → captured < v.head.seq
    later v lt more = omega arith

    in_both : (v : Unit) → v.head.seq ≤ captured → captured < u.head.seq → is_between low u.head.seq v ≡ is_between low captured v
    in_both v le lt = ap (λ (t : Bool). nat_lt low v.head.seq && t) (le-leb v.head.seq u.head.seq (omega arith) ∙ sym (le-leb v.head.seq captured le))

    ended : (high : ℕ) → ((v : Unit) → u.head.seq < v.head.seq → nat_le v.head.seq high ≡ false) → filter (is_between low high) s.back ≡ []
    ended high none = filter_none (is_between low high) s.back (all_weaker (λ (v : Unit). u.head.seq < v.head.seq) (λ v. is_between low high v ≡ false) s.back (λ v lt. and_right (nat_lt low v.head.seq) (nat_le v.head.seq high) (none v lt)) s.high)

    parts : (high : ℕ) (t : Bool) → is_between low high u ≡ t → ((v : Unit) → u.head.seq < v.head.seq → nat_le v.head.seq high ≡ false) → filter (is_between low high) us ≡ filter (is_between low high) s.front ++ cond t (u ∷ []) []
    parts high t is none =
        ap (filter (is_between low high)) s.split
        ∙ filter-append (is_between low high) s.front (u ∷ s.back)
        ∙ ap (λ (b : Bool). filter (is_between low high) s.front ++ cond b (u ∷ filter (is_between low high) s.back) (filter (is_between low high) s.back)) is
        ∙ ap (λ (l : List Unit). filter (is_between low high) s.front ++ cond t (u ∷ l) l) (ended high none)

-- ---- the next unit of a sound server

-- What holds of the next unit, and of its server, in a sound world.
pub record NextOf (server : Server) (u : Unit) : Type 0 where
  pub stands : StandsNext server.captured u (units server.log)
  pub short : length server.log ≤ log_limit
  pub within : StandsWithin (length server.log) u
  pub numbers : NumbersAreSound server
  pub signals : IsTrue (signals_stand_alone u)

-- the next unit is so
pub next_of : (world : World) (server : Server) (u : Unit) → IsNextUnit world server u → NextOf server u
unfolding uncaptured
next_of world server u next =
    let sound = at_one LogIsSound world server next.sound.logs next.in_world in
    let stands = next_stands server.captured 0 u (units server.log) next.rest (units_rise server.log) next.next in
    let there = subst (In u) (sym stands.split) (in_second stands.front (u ∷ stands.back) u (inl refl)) in
    record {
      stands = stands;
      short = sound.short;
      within = at_one (StandsWithin (length server.log)) (units server.log) u (units_within server.log) there;
      numbers = at_one NumbersAreSound world server next.sound.numbers next.in_world;
      signals = at_one (λ v. IsTrue (signals_stand_alone v)) (units server.log) u sound.signals there;
    }

-- the change rows up to the next unit are those that are captured, and its own
pub rows_to_next : (server : Server) (u : Unit) → NextOf server u → (reg : Registration) (low : ℕ) → changes_between server.log reg low u.head.seq ≡ changes_between server.log reg low server.captured ++ cond (nat_lt low u.head.seq) (flat_map (rows_of_placed reg u.head.seq) u.changes) []
unfolding changes_between change_rows
rows_to_next server u next reg low =
    let own : List Unit = cond (nat_lt low u.head.seq) (u ∷ []) [] in
    ap (flat_map (change_rows reg)) (units_to_next server.captured low u (units server.log) next.stands)
    ∙ flat_map-append (change_rows reg) (units_between low server.captured server.log) own
    ∙ ap (λ (l : List CdRow). flat_map (change_rows reg) (units_between low server.captured server.log) ++ l) (one (nat_lt low u.head.seq))
  where
    one : (t : Bool) → flat_map (change_rows reg) (cond t (u ∷ []) []) ≡ cond t (change_rows reg u) []
    one true = append-nil (change_rows reg u)
    one false = refl

-- ---- the codes that are shown

-- if all codes are of units before one, none is of it
pub no_code : (codes : List (ℕ × ℕ)) (seq : ℕ) → AllByRecursion (λ c. c.0 < seq) codes → code_in codes seq ≡ 0
no_code [] seq all = refl
no_code (c ∷ codes) seq all =
    let lt : c.0 < seq = all.0 in
    ap (λ (t : Bool). option_map_or (λ (d : ℕ × ℕ). d.1) (cond t (Some c) (find (λ d. d.0 == seq) codes)) 0) (differ_numbers c.0 seq (λ e. absurd (omega (arith, lt, e)))) ∙ no_code codes seq all.1
