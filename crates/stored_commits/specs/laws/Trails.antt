-- Where the trails of sound sets end.
use Rattle.std.proofs.Common.{◌≡◌, ℕ, ◌≤◌, Bool, true, false, not, List, [], ◌∷◌, length, refl, sym, ap, subst, ◌∙◌, arith, fold, nat_lt, lt-ltb}
use Rattle.world_store.specs.Words.{reach}
use Rattle.repl_model.specs.Words.{LogRecord, Trail, refresh, block, load, settle, synchpoint, base_after, base_of, World, KnownSet, known_sets, is_replica_set, replica_sets, read_only_sets, loaded_sets, SettlesFrom, IsReplicaTrail, ReplicaMarksAreSound, GoesOn, TrailIsSound, IsSound, EndsWithin, In, at_one, kept_by, trail_within, last_commit_within}

-- Where a trail ends: within a log of this length, and at no lower point than its last refresh.
pub record EndsAt (len : ℕ) (trail : Trail) : Type 0 where
  pub within : EndsWithin len trail
  pub rises : base_of trail ≤ synchpoint trail

-- an empty trail ends within any log
pub none_ends : (len : ℕ) → EndsAt len []
none_ends len = record { within = tt; rises = omega arith }

-- ---- read-only sets

-- the point that is reached is no lower than that of the last refresh
goes_above : (log : List LogRecord) (point base : ℕ) (trail : Trail) → base ≤ point → GoesOn log point base trail → fold base_after base trail ≤ reach point trail
goes_above log point base [] h goes = h
goes_above log point base (refresh p q ∷ trail) h goes = goes_above log p p trail (omega arith) goes.3
goes_above log point base (block low high q ∷ trail) h goes = goes_above log high base trail (omega (arith, goes.0, goes.1)) goes.4
goes_above log point base (load m f rows ∷ trail) h goes = absurd goes
goes_above log point base (settle m f rejected applied ∷ trail) h goes = absurd goes

-- ---- replica sets

-- the master's point rises from settling to settling
settles_above : (m f : ℕ) (trail : Trail) → SettlesFrom m f trail → m ≤ reach m trail
settles_above m f [] h = omega arith
settles_above m f (settle n g rejected applied ∷ trail) h = omega (arith, h.0, settles_above n g trail h.5)
settles_above m f (load n g rows ∷ trail) h = absurd h
settles_above m f (refresh p q ∷ trail) h = absurd h
settles_above m f (block low high q ∷ trail) h = absurd h

-- if the last one is within a log, all are
settles_within : (len m f : ℕ) (trail : Trail) → reach m trail ≤ len → SettlesFrom m f trail → EndsWithin len trail
settles_within len m f [] end h = tt
settles_within len m f (settle n g rejected applied ∷ trail) end h = ((omega (arith, end, settles_above n g trail h.5), tt), settles_within len n g trail end h.5)
settles_within len m f (load n g rows ∷ trail) end h = absurd h
settles_within len m f (refresh p q ∷ trail) end h = absurd h
settles_within len m f (block low high q ∷ trail) end h = absurd h

-- settlings refresh nothing
settles_base : (m f : ℕ) (trail : Trail) → SettlesFrom m f trail → fold base_after 0 trail ≡ 0
settles_base m f [] h = refl
settles_base m f (settle n g rejected applied ∷ trail) h = settles_base n g trail h.5
settles_base m f (load n g rows ∷ trail) h = absurd h
settles_base m f (refresh p q ∷ trail) h = absurd h
settles_base m f (block low high q ∷ trail) h = absurd h

-- the trail of a replica set ends within a log if the master's point is in it
replica_ends : (len : ℕ) (trail : Trail) → IsReplicaTrail trail → synchpoint trail ≤ len → EndsAt len trail
replica_ends len [] h end = none_ends len
replica_ends len (load m f rows ∷ trail) h end = record {
  within = ((omega (arith, end, settles_above m f trail h.1), tt), settles_within len m f trail end h.1);
  rises = omega (arith, settles_base m f trail h.1);
}
replica_ends len (settle m f rejected applied ∷ trail) h end = absurd h
replica_ends len (refresh p q ∷ trail) h end = absurd h
replica_ends len (block low high q ∷ trail) h end = absurd h

-- ---- known sets

-- the trail of a known set of a sound world ends within its source's log
pub known_ends : (world : World) → IsSound world → (k : KnownSet) → In k (known_sets world) → EndsAt (length k.source.log) k.at_target.trail
known_ends world sound k i = by_kind (is_replica_set k.at_target.def) refl
  where
    read_only : is_replica_set k.at_target.def ≡ false → EndsAt (length k.source.log) k.at_target.trail
    read_only e =
        let trail = at_one TrailIsSound (read_only_sets (known_sets world)) k sound.trails (kept_by (λ (l : KnownSet). not (is_replica_set l.at_target.def)) (known_sets world) k i (ap not e)) in
        record { within = trail_within k trail; rises = goes_above k.source.log 0 0 k.at_target.trail (omega arith) trail.goes }

    loaded : is_replica_set k.at_target.def ≡ true → nat_lt 0 (length k.at_target.trail) ≡ true → EndsAt (length k.source.log) k.at_target.trail
    loaded e some =
        let replica = kept_by (λ (l : KnownSet). is_replica_set l.at_target.def) (known_sets world) k i e in
        let marks = at_one ReplicaMarksAreSound (loaded_sets world) k sound.replica_marks (kept_by (λ (l : KnownSet). nat_lt 0 (length l.at_target.trail)) (replica_sets (known_sets world)) k replica some) in
        replica_ends (length k.source.log) k.at_target.trail marks.trail (omega (arith, marks.master.0, last_commit_within k.source.log))

    by_trail : is_replica_set k.at_target.def ≡ true → (trail : Trail) → k.at_target.trail ≡ trail → EndsAt (length k.source.log) k.at_target.trail
    by_trail e [] empty = subst (EndsAt (length k.source.log)) (sym empty) (none_ends (length k.source.log))
    by_trail e (x ∷ trail) is = loaded e (ap (λ (t : Trail). nat_lt 0 (length t)) is ∙ lt-ltb 0 (length (x ∷ trail)) (omega arith))

    by_kind : (b : Bool) → is_replica_set k.at_target.def ≡ b → EndsAt (length k.source.log) k.at_target.trail
    by_kind true e = by_trail e k.at_target.trail refl
    by_kind false e = read_only e
