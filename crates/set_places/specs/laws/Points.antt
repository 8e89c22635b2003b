-- How far the numbers of the sets of a sound world reach: they are positions of logs.
use Rattle.std.proofs.Common.{◌≡◌, ℕ, ◌+◌, ◌*◌, ◌<◌, ◌≤◌, ◌^◌, Bool, true, false, not, List, [], ◌∷◌, length, fold, refl, sym, ap, subst, arith, inl, inr, ◌⊎◌, nat_lt, Option, Some, None, IfSome, is_some}
use Rattle.std.specs.List.{AllByRecursion}
use Rattle.std.proofs.lemmas.Bool.{and_parts, both_ways, false≢true, lt-ltb, not-true}
use Rattle.repl_model.specs.Words.{LogRecord, Member, is_replica, is_replica_set, is_seq, is_base, GoesOn, TrailIsSound, SignalsAreSound, IsSound, IsFresh, SetKeepsLimits, UnknownTarget, ServerKeepsRules, KnownSetKeepsRules, MemberIsSound, read_only_sets, replica_sets, loaded_sets, log_limit, LogIsSound, SettlesFrom, IsReplicaTrail, ReplicaMarksAreSound, Trail, Entry, refresh, block, load, settle, point_after, base_after, replica_after, synchpoint, base_of, replica_point, TargetSide, Server, World, KnownSet, known_from, known_sets, StandsIn, known_in, known_side, known_stands, source_in, In, at_one, kept_by, some_passes, last_commit_within, is_seq_within, is_seq_or_zero_within, goes_within}
use Rattle.world_store.specs.Words.{Is64}

-- ---- trails

-- A trail has come up to a limit: the point that the targets have reached, that of the last refresh and the replica's
-- lie up to it, and there are no more entries than twice as many.
pub record Reaches (m : ℕ) (trail : Trail) : Type 0 where
  pub synch : synchpoint trail ≤ m
  pub last_base : base_of trail ≤ m
  pub last_replica : replica_point trail ≤ m
  pub entries : length trail ≤ 2 * m

-- an empty trail has
none_reached : (m : ℕ) (trail : Trail) → trail ≡ [] → Reaches m trail
none_reached m trail none = subst (Reaches m) (sym none) (record { synch = omega arith; last_base = omega arith; last_replica = omega arith; entries = omega arith })

-- what has come up to a limit has come up to a higher one
reaches_wider : (m n : ℕ) (trail : Trail) → m ≤ n → Reaches m trail → Reaches n trail
reaches_wider m n trail le e = record { synch = omega (arith, le, e.synch); last_base = omega (arith, le, e.last_base); last_replica = omega (arith, le, e.last_replica); entries = omega (arith, le, e.entries) }

-- the settlings of a replica set
settles_within : (m f base : ℕ) (trail : Trail) → SettlesFrom m f trail → (length trail + m + f ≤ fold (λ point e. point_after e) m trail + fold replica_after f trail) × (fold base_after base trail ≡ base)
settles_within m f base [] settles = (omega arith, refl)
settles_within m f base (settle m' f' rejected applied ∷ trail) settles =
    let rest = settles_within m' f' base trail settles.5 in (
      elim settles.2 [
        | inl more ↦ omega (arith, rest.0, settles.0, settles.1, more)
        | inr more ↦ omega (arith, rest.0, settles.0, settles.1, more)
      ],
      rest.1,
    )
settles_within m f base (load m' f' rows ∷ trail) settles = absurd settles
settles_within m f base (refresh p q ∷ trail) settles = absurd settles
settles_within m f base (block low high q ∷ trail) settles = absurd settles

-- the trail of a replica set
replica_within : (n : ℕ) (trail : Trail) → IsReplicaTrail trail → synchpoint trail ≤ n → replica_point trail ≤ n → Reaches (n + 1) trail
replica_within n [] is p f = record { synch = omega arith; last_base = omega arith; last_replica = omega arith; entries = omega arith }
replica_within n (load m f rows ∷ trail) is p q =
    let rest = settles_within m f 0 trail is.1 in
    record { synch = omega (arith, p); last_base = omega (arith, rest.1); last_replica = omega (arith, q); entries = omega (arith, rest.0, p, q) }
replica_within n (settle m f rejected applied ∷ trail) is p q = absurd is
replica_within n (refresh at q ∷ trail) is p f = absurd is
replica_within n (block low high q ∷ trail) is p f = absurd is

-- ---- entries

-- the numbers of an entry have eight bytes
abbrev pub HasShortNumbers : Entry → Type 0
HasShortNumbers (refresh p q) = Is64 p × IfSome q Is64
HasShortNumbers (block low high q) = Is64 low × Is64 high × IfSome q Is64
HasShortNumbers (load m f rows) = Is64 m × Is64 f × Is64 rows
HasShortNumbers (settle m f rejected applied) = Is64 m × Is64 f × Is64 rejected × Is64 applied

-- so has the point of base aggregates, if it is a seq of a short log
base_short : (log : List LogRecord) (q : Option ℕ) → length log ≤ log_limit → is_base log q ≡ true → IfSome q Is64
base_short log None short is = tt
base_short log (Some q) short is = omega (arith, short, is_seq_within log q is)

-- the entries of a read-only set have
goes_short : (log : List LogRecord) (point base : ℕ) (trail : Trail) → length log ≤ log_limit → Is64 point → GoesOn log point base trail → AllByRecursion HasShortNumbers trail
goes_short log point base [] short p goes = tt
goes_short log point base (refresh at q ∷ trail) short p goes =
    let seqs = and_parts (is_seq log at) (is_base log q) goes.2 in
    let here : Is64 at = omega (arith, short, is_seq_within log at seqs.0) in
    ((here, base_short log q short seqs.1), goes_short log at at trail short here goes.3)
goes_short log point base (block low high q ∷ trail) short p goes =
    let seqs = and_parts (is_seq log high) (is_base log q) goes.3 in
    let here : Is64 high = omega (arith, short, is_seq_within log high seqs.0) in
    ((omega (arith, p, goes.0), here, base_short log q short seqs.1), goes_short log high base trail short here goes.4)
goes_short log point base (load m f rows ∷ trail) short p goes = absurd goes
goes_short log point base (settle m f rejected applied ∷ trail) short p goes = absurd goes

-- the points of settlings don't fall
settles_rise : (m f : ℕ) (trail : Trail) → SettlesFrom m f trail → (m ≤ fold (λ point e. point_after e) m trail) × (f ≤ fold replica_after f trail)
settles_rise m f [] settles = (omega arith, omega arith)
settles_rise m f (settle m' f' rejected applied ∷ trail) settles = let rest = settles_rise m' f' trail settles.5 in (omega (arith, rest.0, settles.0), omega (arith, rest.1, settles.1))
settles_rise m f (load m' f' rows ∷ trail) settles = absurd settles
settles_rise m f (refresh p q ∷ trail) settles = absurd settles
settles_rise m f (block low high q ∷ trail) settles = absurd settles

-- so their numbers are short if the last points are
settles_short : (m f : ℕ) (trail : Trail) → SettlesFrom m f trail → Is64 (fold (λ point e. point_after e) m trail) → Is64 (fold replica_after f trail) → AllByRecursion HasShortNumbers trail
settles_short m f [] settles p q = tt
settles_short m f (settle m' f' rejected applied ∷ trail) settles p q =
    let rest = settles_rise m' f' trail settles.5 in
    ((omega (arith, rest.0, p), omega (arith, rest.1, q), settles.3, settles.4), settles_short m' f' trail settles.5 p q)
settles_short m f (load m' f' rows ∷ trail) settles p q = absurd settles
settles_short m f (refresh at b ∷ trail) settles p q = absurd settles
settles_short m f (block low high b ∷ trail) settles p q = absurd settles

-- and so are those of a replica set's trail
replica_short : (trail : Trail) → IsReplicaTrail trail → Is64 (synchpoint trail) → Is64 (replica_point trail) → AllByRecursion HasShortNumbers trail
replica_short [] is p q = tt
replica_short (load m f rows ∷ trail) is p q =
    let rest = settles_rise m f trail is.1 in
    ((omega (arith, rest.0, p), omega (arith, rest.1, q), is.0), settles_short m f trail is.1 p q)
replica_short (settle m f rejected applied ∷ trail) is p q = absurd is
replica_short (refresh at b ∷ trail) is p q = absurd is
replica_short (block low high b ∷ trail) is p q = absurd is

-- ---- known sets of a sound world

module _ (w : World) (k : KnownSet) (sound : IsSound w) (known : In k (known_sets w)) where
  -- where it stands
  stands : StandsIn w k
  stands = known_stands w k known

  -- the log at its source is short
  source_short : length k.source.log ≤ log_limit
  source_short = (at_one LogIsSound w k.source sound.logs (source_in w k stands)).short

  -- and that at its target
  target_short : length k.target.log ≤ log_limit
  target_short = (at_one LogIsSound w k.target sound.logs stands.target).short

  -- a set is loaded, or its trail is empty
  loaded_or_new : is_replica_set k.at_target.def ≡ true → (b : Bool) → nat_lt 0 (length k.at_target.trail) ≡ b → ReplicaMarksAreSound k ⊎ (k.at_target.trail ≡ [])
  loaded_or_new replica true some = inl (at_one ReplicaMarksAreSound (loaded_sets w) k sound.replica_marks (kept_by (λ (l : KnownSet). nat_lt 0 (length l.at_target.trail)) (replica_sets (known_sets w)) k (kept_by (λ (l : KnownSet). is_replica_set l.at_target.def) (known_sets w) k known replica) some))
  loaded_or_new replica false none = inr (empty k.at_target.trail none)
    where
      empty : (trail : Trail) → nat_lt 0 (length trail) ≡ false → trail ≡ []
      empty [] e = refl
      empty (e ∷ trail) none = absurd (both_ways (nat_lt 0 (length (e ∷ trail))) none (lt-ltb 0 (length (e ∷ trail)) (omega arith)))

  -- its trail, if it is a read-only set
  pub trail_sound : not (is_replica_set k.at_target.def) ≡ true → TrailIsSound k
  trail_sound read_only = at_one TrailIsSound (read_only_sets (known_sets w)) k sound.trails (kept_by (λ (l : KnownSet). not (is_replica_set l.at_target.def)) (known_sets w) k known read_only)

  -- how far its trail has come
  pub trail_reaches : Reaches (log_limit + 1) k.at_target.trail
  trail_reaches = by_kind (is_replica_set k.at_target.def) refl
    where
      by_kind : (b : Bool) → is_replica_set k.at_target.def ≡ b → Reaches (log_limit + 1) k.at_target.trail
      by_kind true replica = elim (loaded_or_new replica (nat_lt 0 (length k.at_target.trail)) refl) [
        | inl marks ↦ (replica_within log_limit k.at_target.trail marks.trail (omega (arith, marks.master.0, last_commit_within k.source.log, source_short)) (omega (arith, marks.replica.0, last_commit_within k.target.log, target_short)))
        | inr new ↦ none_reached (log_limit + 1) k.at_target.trail new
      ]
      by_kind false other =
          let goes = goes_within k.source.log 0 0 0 k.at_target.trail (omega arith) (omega arith) (omega arith) (trail_sound (ap not other)).goes in
          reaches_wider (length k.source.log) (log_limit + 1) k.at_target.trail (omega (arith, source_short)) (record { synch = goes.0; last_base = goes.1; last_replica = goes.2; entries = omega (arith, goes.3) })

  -- the numbers of its entries have eight bytes
  entries_short : AllByRecursion HasShortNumbers k.at_target.trail
  entries_short = by_kind (is_replica_set k.at_target.def) refl
    where
      by_kind : (b : Bool) → is_replica_set k.at_target.def ≡ b → AllByRecursion HasShortNumbers k.at_target.trail
      by_kind true replica = elim (loaded_or_new replica (nat_lt 0 (length k.at_target.trail)) refl) [
        | inl marks ↦ replica_short k.at_target.trail marks.trail (omega (arith, trail_reaches.synch)) (omega (arith, trail_reaches.last_replica))
        | inr new ↦ subst (AllByRecursion HasShortNumbers) (sym new) tt
      ]
      by_kind false other = goes_short k.source.log 0 0 k.at_target.trail source_short (omega arith) (trail_sound (ap not other)).goes

  -- a replica set that isn't loaded says nothing at its source
  fresh : is_replica_set k.at_target.def ≡ true → k.at_target.trail ≡ [] → IsFresh k.at_source
  fresh replica new = elim (at_one KnownSetKeepsRules (known_sets w) k sound.definitions.sets known).members [
    | inl read_only ↦
        let some = some_passes (λ (member : Member). is_replica member.kind) k.at_target.def.members replica in
        absurd (both_ways (is_replica some.0.kind) (not-true (is_replica some.0.kind) (at_one (MemberIsSound k) k.at_target.def.members some.0 read_only.0 some.1).0) some.2)
    | inr replicas ↦ replicas.4 new
  ]

  -- its mark is no further
  mark_within : k.at_source.mark ≤ log_limit + 1
  mark_within = by_kind (is_replica_set k.at_target.def) refl
    where
      by_kind : (b : Bool) → is_replica_set k.at_target.def ≡ b → k.at_source.mark ≤ log_limit + 1
      by_kind true replica = elim (loaded_or_new replica (nat_lt 0 (length k.at_target.trail)) refl) [
        | inl marks ↦ omega (arith, marks.mark, trail_reaches.synch)
        | inr new ↦ omega (arith, (fresh replica new).0)
      ]
      by_kind false other = omega (arith, (trail_sound (ap not other)).mark, trail_reaches.synch)

  -- nor are its signals
  signals_within : (k.at_source.signal ≤ log_limit) × (k.at_target.signal ≤ log_limit)
  signals_within =
      let signals = at_one SignalsAreSound (known_sets w) k sound.signals known in
      (omega (arith, is_seq_or_zero_within k.source.log k.at_source.signal signals.0, source_short), omega (arith, is_seq_or_zero_within k.target.log k.at_target.signal signals.1, target_short))

  -- the point that the targets have reached has eight bytes
  pub synchpoint_short : synchpoint k.at_target.trail < 2 ^ 64
  synchpoint_short = omega (arith, trail_reaches.synch)

  -- so has the one that is reported
  pub mark_short : k.at_source.mark < 2 ^ 64
  mark_short = omega (arith, mark_within)

  -- and the last signal at the source
  pub signal_short : k.at_source.signal < 2 ^ 64
  signal_short = omega (arith, signals_within.0)

-- ---- the sets of a server of a sound world

module _ (w : World) (server : Server) (sound : IsSound w) (i : In server w) where
  -- what a server keeps
  keeps : ServerKeepsRules w server
  keeps = at_one (ServerKeepsRules w) w server sound.definitions.servers i

  -- What is known of how far a set is at its target: its trail hasn't come too far, and its signal has eight bytes.
  pub target_numbers : (side : TargetSide) → In side server.target_sets → Reaches (log_limit + 1) side.trail × Is64 side.signal
  target_numbers side at = elim (at_one (λ (s : TargetSide). (s.def.target ≡ server.name) × SetKeepsLimits w s.def × UnknownTarget w server s) server.target_sets side keeps.targets at).2 [
    | inl stands_there ↦ by_set (known_from w server side) refl stands_there
    | inr fresh ↦ (none_reached (log_limit + 1) side.trail fresh.1, omega (arith, fresh.2))
  ]
    where
      by_set : (o : Option KnownSet) → known_from w server side ≡ o → is_some o ≡ true → Reaches (log_limit + 1) side.trail × Is64 side.signal
      by_set None found some = absurd (false≢true some)
      by_set (Some k) found some =
          let known = known_in w server side k i at found in
          subst (λ (s : TargetSide). Reaches (log_limit + 1) s.trail × Is64 s.signal) (known_side w server side k found) (trail_reaches w k sound known, omega (arith, (signals_within w k sound known).1))

  -- the numbers of the entries of its trail have eight bytes
  pub target_entries_short : (side : TargetSide) → In side server.target_sets → AllByRecursion HasShortNumbers side.trail
  target_entries_short side at = elim (at_one (λ (s : TargetSide). (s.def.target ≡ server.name) × SetKeepsLimits w s.def × UnknownTarget w server s) server.target_sets side keeps.targets at).2 [
    | inl stands_there ↦ by_set (known_from w server side) refl stands_there
    | inr fresh ↦ subst (AllByRecursion HasShortNumbers) (sym fresh.1) tt
  ]
    where
      by_set : (o : Option KnownSet) → known_from w server side ≡ o → is_some o ≡ true → AllByRecursion HasShortNumbers side.trail
      by_set None found some = absurd (false≢true some)
      by_set (Some k) found some = subst (λ (s : TargetSide). AllByRecursion HasShortNumbers s.trail) (known_side w server side k found) (entries_short w k sound (known_in w server side k i at found))
