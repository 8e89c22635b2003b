-- A world between a sound one and one with sound definitions is sound.
use Rattle.std.proofs.Common.{◌≡◌, Bool, true, not, ◌⊎◌, inl, inr, List, length, refl, sym, ap, ◌∙◌, nat_lt, filter, ◌&&◌}
use Rattle.std.specs.List.{AllByRecursion}
use Rattle.std.proofs.lemmas.Bool.{and_parts, and_from, false≢true}
use Rattle.repl_model.specs.Words.{all_weaker, Trail, TargetSide, World, KnownSet, known_sets, is_replica_set, LogIsSound, SetKeepsLimits, UnknownSource, UnknownTarget, ServerKeepsRules, KnownSetKeepsRules, DefinitionsAreSound, replica_sets, read_only_sets, loaded_sets, ReplicaMarksAreSound, IsExactlyOnce, IsIndependent, DecisionsAreCaptured, NumbersAreSound, SignalsAreSound, TrailIsSound, IsSound, In, at_one, at_each, in_filter, kept_by, each_beside, ServerGrows, WorldGrows, IsBetween, SetGrows, IsNewSet, UnknownHasNoStep, known_before}
use Rattle.load_laws.specs.worlds.Loads.{load_first, load_all}
use Rattle.load_laws.specs.worlds.SoundLoads.{StaysSound}
use Rattle.load_laws.specs.laws.Logs.{log_stays_sound, numbers_stay_sound}
use Rattle.load_laws.specs.worlds.laws.Loaded.{first_load, others_load, load_is_between}
use Rattle.load_laws.specs.laws.Definitions.{SourcesStand, sources_stand}
use Rattle.load_laws.specs.laws.Between.{definitions_between}
use Rattle.load_laws.specs.laws.Replicas.{marks_stay, exactly_once_stays, independence_stays, captured_stay, signals_stay, no_signals, trail_stays, no_trail}

-- ---- some of the known sets

-- some of the sets, those whose row at the target passes a test
abbrev Selects : (TargetSide → Bool) → (List KnownSet → List KnownSet) → Type 0
Selects test select = (sets : List KnownSet) (k : KnownSet) → (In k (select sets) → In k sets × (test k.at_target ≡ true)) × (In k sets → test k.at_target ≡ true → In k (select sets))

-- all are those of which nothing is asked
selects_all : Selects (λ side. true) (λ sets. sets)
selects_all sets k = (λ i. (i, refl), λ i e. i)

-- the read-only sets are those that are no replica sets
selects_read_only : Selects (λ side. not (is_replica_set side.def)) read_only_sets
selects_read_only sets k = (in_filter (λ (a : KnownSet). not (is_replica_set a.at_target.def)) sets k, kept_by (λ (a : KnownSet). not (is_replica_set a.at_target.def)) sets k)

-- the loaded sets are the replica sets that have a trail
selects_loaded : Selects (λ side. is_replica_set side.def && nat_lt 0 (length side.trail)) (λ sets. filter (λ k. nat_lt 0 (length k.at_target.trail)) (replica_sets sets))
selects_loaded sets k = (out, into)
  where
    out : In k (filter (λ a. nat_lt 0 (length a.at_target.trail)) (replica_sets sets)) → In k sets × ((is_replica_set k.at_target.def && nat_lt 0 (length k.at_target.trail)) ≡ true)
    out i =
        let loaded = in_filter (λ (a : KnownSet). nat_lt 0 (length a.at_target.trail)) (replica_sets sets) k i in
        let replica = in_filter (λ (a : KnownSet). is_replica_set a.at_target.def) sets k loaded.0 in
        (replica.0, and_from (is_replica_set k.at_target.def) (nat_lt 0 (length k.at_target.trail)) replica.1 loaded.1)

    into : In k sets → (is_replica_set k.at_target.def && nat_lt 0 (length k.at_target.trail)) ≡ true → In k (filter (λ a. nat_lt 0 (length a.at_target.trail)) (replica_sets sets))
    into i e =
        let both = and_parts (is_replica_set k.at_target.def) (nat_lt 0 (length k.at_target.trail)) e in
        kept_by (λ (a : KnownSet). nat_lt 0 (length a.at_target.trail)) (replica_sets sets) k (kept_by (λ (a : KnownSet). is_replica_set a.at_target.def) sets k i both.0) both.1

-- each known set was known before, or its rows say nothing yet
abbrev WereKnown : World → World → Type 0
WereKnown w v = (l : KnownSet) → In l (known_sets v) → ((k : KnownSet) × In k (known_sets w) × SetGrows k l) ⊎ IsNewSet l

-- what holds of each selected set before, stays, and holds of each selected set that is new, holds of each after
selected_hold : (w v : World) → WereKnown w v → (test : TargetSide → Bool) (select : List KnownSet → List KnownSet) → Selects test select → (P : KnownSet → Type 0)
    → ((k l : KnownSet) → In k (known_sets w) → SetGrows k l → P k → P l) → ((l : KnownSet) → IsNewSet l → test l.at_target ≡ true → P l)
    → AllByRecursion P (select (known_sets w)) → AllByRecursion P (select (known_sets v))
selected_hold w v were test select selects P stays new all = at_each P (select (known_sets v)) (λ l i. let of = (selects (known_sets v) l).0 i in by_case l of.1 (were l of.0))
  where
    by_case : (l : KnownSet) → test l.at_target ≡ true → ((k : KnownSet) × In k (known_sets w) × SetGrows k l) ⊎ IsNewSet l → P l
    by_case l e (inl k) = stays k.0 l k.1 k.2 (at_one P (select (known_sets w)) k.0 all ((selects (known_sets w) k.0).1 k.1 (ap test (sym k.2.at_target) ∙ e)))
    by_case l e (inr n) = new l n e

-- a loaded set isn't new
not_new : {A : Type 0} (l : KnownSet) → IsNewSet l → (is_replica_set l.at_target.def && nat_lt 0 (length l.at_target.trail)) ≡ true → A
not_new l n e = absurd (false≢true (sym (ap (λ (trail : Trail). nat_lt 0 (length trail)) n.1.1) ∙ (and_parts (is_replica_set l.at_target.def) (nat_lt 0 (length l.at_target.trail)) e).1))

-- ---- all parts

-- a world between a sound one and one with sound definitions is sound
sound_between : (w v f : World) → WorldGrows w v → WorldGrows v f → IsBetween w v f → IsSound w → DefinitionsAreSound f → IsSound v
sound_between w v f g h between sound after = record {
  logs = each_beside ServerGrows LogIsSound LogIsSound log_stays_sound w v g sound.logs;
  definitions = definitions;
  numbers = each_beside ServerGrows NumbersAreSound NumbersAreSound numbers_stay_sound w v g sound.numbers;
  signals = selected_hold w v were (λ side. true) (λ sets. sets) selects_all SignalsAreSound (λ k l i. signals_stay k l) (λ l n e. no_signals l n) sound.signals;
  trails = selected_hold w v were (λ side. not (is_replica_set side.def)) read_only_sets selects_read_only TrailIsSound (λ k l i. trail_stays k l) (λ l n e. no_trail l n) sound.trails;
  replica_marks = loaded_hold ReplicaMarksAreSound (λ k l i j. marks_stay k l j (stand k i)) sound.replica_marks;
  exactly_once = loaded_hold IsExactlyOnce (λ k l i. exactly_once_stays k l) sound.exactly_once;
  independence = loaded_hold IsIndependent (λ k l i j. independence_stays k l j (stand k i)) sound.independence;
  captured_decisions = loaded_hold DecisionsAreCaptured (λ k l i. captured_stay k l) sound.captured_decisions;
}
  where
    definitions : DefinitionsAreSound v
    definitions = definitions_between w v f g h between sound.definitions after

    steps : AllByRecursion (UnknownHasNoStep w) w
    steps = all_weaker (ServerKeepsRules w) (UnknownHasNoStep w) w
        (λ s k. (
          all_weaker (λ side. (side.def.source ≡ s.name) × SetKeepsLimits w side.def × UnknownSource w s side) (UnknownSource w s) s.source_sets (λ side x. x.2) k.sources,
          all_weaker (λ side. (side.def.target ≡ s.name) × SetKeepsLimits w side.def × UnknownTarget w s side) (UnknownTarget w s) s.target_sets (λ side x. x.2) k.targets,
        )) sound.definitions.servers

    were : WereKnown w v
    were = known_before w v g steps definitions.set_names

    stand : (k : KnownSet) → In k (known_sets w) → SourcesStand k
    stand k i = sources_stand w sound.definitions.servers k i (at_one KnownSetKeepsRules (known_sets w) k sound.definitions.sets i).same

    loaded_hold : (P : KnownSet → Type 0) → ((k l : KnownSet) → In k (known_sets w) → SetGrows k l → P k → P l) → AllByRecursion P (loaded_sets w) → AllByRecursion P (loaded_sets v)
    loaded_hold P stays = selected_hold w v were (λ side. is_replica_set side.def && nat_lt 0 (length side.trail)) (λ sets. filter (λ k. nat_lt 0 (length k.at_target.trail)) (replica_sets sets)) selects_loaded P stays (λ l n e. not_new l n e)

-- each world on the way of a load is sound
pub load_stays_sound : StaysSound
load_stays_sound defs world n = sound_between world (load_first defs n world) (load_all defs world) (first_load defs n world) (others_load defs n world) (load_is_between defs n world)
