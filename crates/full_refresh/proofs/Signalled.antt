-- What a signal makes of a world: proofs.
use Rattle.std.proofs.Common.{◌≡◌, ◌⊎◌, ℕ, ◌+◌, ◌<◌, ◌≤◌, Bool, cond, List, [], ◌∷◌, ◌++◌, length, map, inl, inr, refl, sym, ap, subst, ◌∙◌, arith, Option, Some, None, IsTrue, ◌||◌, bytes_eq}
use Rattle.std.specs.List.{AllByRecursion}
use Rattle.std.proofs.lemmas.List.{length-append, length-map}
use Rattle.world_store.specs.Words.{SyncMark, Holds, Becomes, Stands, first_table}
use Rattle.site_store.specs.Words.{Contents, Kept, names, held}
use Rattle.site_store.specs.declared.sites.Sites.{Sites}
use Rattle.repl_model.specs.Words.{LogRecord, Fault, is_signal, is_change_applicable, with_more, grown, signals, signal_records, signalled, after_action, IsSound, read_only_sets, ServerKeepsRules, LogIsSound, log_limit, Server, World, KnownSet, known_sets, tables_of, at_place_in, In, at_one, image_in, name_itself}
use Rattle.repl_types.specs.declared.unit.Unit.{Unit as LogUnit}
use Rattle.repl_types.specs.declared.fault.Fault.TheVariants as faults
use Rattle.stored_commits.specs.logs.LongerServers.{is_of_log}
use Rattle.stored_commits.specs.actions.ActedServers.{with_mark}
use Rattle.source_log.specs.Storing.{IsKept, StoresWhole}
use Rattle.source_log.specs.Units.{own_change, own_commit, unit_records, AppendsUnit, HasNoRoomFor, HasUnit, ChangesFit}
use Rattle.source_log.specs.laws.Whole.{held_whole, whole_reads, unit_whole}
use Rattle.set_places.specs.declared.placed_set.PlacedSet.{PlacedSet}
use Rattle.set_places.specs.Places.{IsPlacedAs, IsReadOnly}
use Rattle.set_places.specs.Steps.{HasBecome, HasStepped}
use Rattle.set_places.specs.laws.Commits.{has_become}
use Rattle.set_places.specs.laws.Known.{is_among}
use Rattle.set_places.specs.laws.Standing.{revealed_at_place}
use Rattle.full_refresh.specs.PutSignals.{PutsSignal}
use Rattle.full_refresh.specs.Signals.{start_of, HasSignalled}
use Rattle.full_refresh.proofs.PutSignals.{PutsSome}
use Rattle.world_commits.specs.actions.StaysSound.{length_signalled}
use Rattle.world_commits.specs.laws.ActionsStaySound.{actions_sound}
use Rattle.stored_commits.specs.laws.Logged.{logged_becomes}
use Rattle.stored_commits.specs.laws.Signals.{others_hold_signal, signal_holds}

-- the log of a source with a signal is sound if that of the signalled source is
log_of_signalled : (k : KnownSet) → LogIsSound (signalled k.at_source.def k.source) → LogIsSound (with_more (signal_records k.at_source.def k.source.log) k.source)
log_of_signalled k log = record { short = log.short; typed = log.typed; fits = log.fits; apply = log.apply; times = log.times; early = log.early; own = log.own; signals = log.signals }

-- starts of registrations fit at any server
starts_fit : (s : Server) (names : List (List ℕ)) → AllByRecursion (λ placed. IsTrue (is_signal placed.change || is_change_applicable (tables_of s) placed.change)) (map start_of names)
starts_fit s [] = tt
starts_fit s (name ∷ names) = (refl, starts_fit s names)

-- so the changes of a signal do
pub signal_fits : (s : Server) (unit : LogUnit) (def_tables : List (List ℕ)) → unit.changes ≡ map start_of def_tables → ChangesFit s unit
signal_fits s unit tables is = subst (AllByRecursion (λ placed. IsTrue (is_signal placed.change || is_change_applicable (tables_of s) placed.change))) (sym is) (starts_fit s tables)

module _ (w : World) (k : KnownSet) (set : PlacedSet) (sound : IsSound w) (placed : IsPlacedAs w k set) (read_only : IsReadOnly k) (unit : LogUnit) (made : unit_records unit ≡ signal_records k.at_source.def k.source.log) (known : SyncMark) (marked : known ≡ record { mark = k.at_source.mark; signal = k.at_source.signal }) where
  -- the records of the signal
  abbrev more : List LogRecord
  more = signal_records k.at_source.def k.source.log

  -- the set is one of the read-only sets
  pub among : In k (read_only_sets (known_sets w))
  among = is_among w k set placed read_only

  -- its source is one of the servers
  pub in_world : In k.source w
  in_world = at_place_in w set.source k.source placed.source

  -- the world after the signal
  abbrev after : World
  after = after_action w k signals

  -- it is sound if the log has room
  sound_after : length_signalled k ≤ log_limit → IsSound after
  sound_after room = actions_sound w k signals sound among room

  -- the signalled source is one of its servers
  signalled_in : In (signalled k.at_source.def k.source) after
  signalled_in = subst (λ (b : Bool). In (cond b (signalled k.at_source.def k.source) k.source) after) (name_itself k.source.name) (image_in (λ (server : Server). cond (bytes_eq k.source.name server.name) (signalled k.at_source.def server) server) w k.source in_world)

  module _ (c : Contents) (holds : Holds w k.source c) where
    -- the tables of the source's log
    pub whole : StoresWhole k.source c
    whole = held_whole w k.source c sound in_world holds

    module _ (seq : ℕ) (m : Contents) (appended : AppendsUnit unit seq c m) where
      -- what the unit made of them
      has : HasUnit k.source unit seq c m
      has = appended.stores k.source whole.kept (whole_reads k.source c whole) whole.stores

      -- its seq is the last position
      pub seq_is : seq ≡ length_signalled k
      seq_is = has.last ∙ ap (λ (l : List LogRecord). length (k.source.log ++ l)) made ∙ length-append k.source.log more

      -- the log had room
      pub room : length_signalled k ≤ log_limit
      room = omega (arith, seq_is, appended.room)

      -- the source with the unit is one of a sound world
      kept : IsKept (with_more more k.source)
      kept = record {
        log = log_of_signalled k (at_one LogIsSound after (signalled k.at_source.def k.source) (sound_after room).logs signalled_in);
        world = w;
        before = k.source;
        keeps = at_one (ServerKeepsRules w) w k.source sound.definitions.servers in_world;
        tables = refl;
      }

      -- the tables are those of the longer log
      longer : StoresWhole (with_more more k.source) m
      longer = subst (λ (l : List LogRecord). StoresWhole (with_more l k.source) m) made (unit_whole k.source unit seq c m whole appended (subst (λ (l : List LogRecord). IsKept (with_more l k.source)) (sym made) kept))

      becomes : Becomes is_of_log (grown k.source.name more w) (with_more more k.source) c m
      unfolding first_table
      becomes = logged_becomes more (grown k.source.name more w) k.source c m longer.stores.log longer.stores.source longer.stores.in_flight longer.end appended.others

      -- with the mark it holds what the world after the signal calls for
      pub signalled_holds : Holds after (signalled k.at_source.def k.source) (with_mark set.at_source.number (record { mark = known.mark; signal = seq }) m)
      signalled_holds = subst (λ (s : SyncMark). Holds after (signalled k.at_source.def k.source) (with_mark set.at_source.number s m)) (λ i. record { mark = ap (λ (s : SyncMark). s.mark) (sym marked) i; signal = sym seq_is i })
          (signal_holds w k set.at_source.number c m sound among placed.at_source holds becomes)

  -- ---- at the servers

  -- the signal was put with this seq, or the log of the source has no room for it
  abbrev pub HasAnswered : {K : Type 0} → (K → Kept) → Sites K → Sites K → Contents → Option ℕ → Type 0
  HasAnswered kept s0 s1 c None = (held kept s1 ≡ held kept s0) × HasNoRoomFor unit c
  HasAnswered kept s0 s1 c (Some seq) = HasStepped kept s0 s1 set.source (PutsSignal set.at_source.number known unit seq)

  module _ {K : Type 0} (kept_by : K → Kept) (s0 s1 : Sites K) (stands : Stands (names s0) (held kept_by s0) w) where
    -- once the signal is put, the servers stand for the world after it
    pub has_signalled : HasStepped kept_by s0 s1 set.source (PutsSome set.at_source.number known unit) → HasBecome kept_by s0 s1 after
    has_signalled stepped =
        let r = revealed_at_place (names s0) (held kept_by s0) w set.source k.source stands placed.source in
        let d = (stepped r.0 r.1).2 in
        has_become kept_by s0 s1 w set.source k.source (signalled k.at_source.def) (PutsSome set.at_source.number known unit) stands placed.source (λ s. refl) (sound_after (room r.0 r.2 d.0 d.1.0 d.1.1))
        (λ c e holds p. subst (Holds after (signalled k.at_source.def k.source)) (sym p.1.2) (signalled_holds c holds p.0 p.1.0 p.1.1))
        (λ other c i apart holds. others_hold_signal w k other c sound among i apart holds) stepped

    -- and its seq is the last position of the log with it
    pub seq_signalled : (seq : ℕ) → HasStepped kept_by s0 s1 set.source (PutsSignal set.at_source.number known unit seq) → seq ≡ length_signalled k
    seq_signalled seq stepped =
        let r = revealed_at_place (names s0) (held kept_by s0) w set.source k.source stands placed.source in
        let d = (stepped r.0 r.1).2 in
        seq_is r.0 r.2 seq d.0 d.1

    -- if the log is full, it has no room for the signal
    pub has_no_room : (c : Contents) → Holds w k.source c → HasNoRoomFor unit c → log_limit < length_signalled k
    has_no_room c holds none =
        let it = whole c holds in
        let full = none k.source it.kept (whole_reads k.source c it) it.stores in
        let many : length more ≡ length unit.changes + 1 = ap length (sym made) ∙ length-append (map own_change unit.changes) (own_commit unit.head ∷ []) ∙ ap (λ (n : ℕ). n + 1) (length-map unit.changes own_change) in
        omega (arith, full, many)

    -- if the call failed, they still stand for the world before it, or the signal was put
    pub may_have_signalled : (e : Fault) → (held kept_by s1 ≡ held kept_by s0) ⊎ ((e ≡ faults.Keeper set.source) × HasStepped kept_by s0 s1 set.source (PutsSome set.at_source.number known unit)) → HasBecome kept_by s0 s1 w ⊎ ((s : ℕ) × (e ≡ faults.Keeper s) × HasBecome kept_by s0 s1 after)
    may_have_signalled e (inl same) = inl (subst (λ (h : List (Option Contents)). Stands (names s0) h w) (sym same) stands)
    may_have_signalled e (inr stepped) = inr (set.source, stepped.0, has_signalled stepped.1)

    -- what is answered tells which of both was so
    pub has_answered : (c : Contents) → Holds w k.source c → (answer : Option ℕ) → HasAnswered kept_by s0 s1 c answer → HasSignalled kept_by s0 s1 w k answer
    has_answered c holds None full = (subst (λ (h : List (Option Contents)). Stands (names s0) h w) (sym full.0) stands, has_no_room c holds full.1)
    has_answered c holds (Some seq) stepped = (has_signalled (λ b is. let d = stepped b is in (d.0, d.1, (seq, d.2))), seq_signalled seq stepped)
