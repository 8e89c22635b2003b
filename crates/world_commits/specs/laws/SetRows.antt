-- A world stays sound when the rows of a read-only set change, at its source or at its target.
use Rattle.std.proofs.Common.{◌≡◌, ℕ, ◌≤◌, Bool, true, false, cond, ◌&&◌, ◌⊎◌, inl, inr, List, map, refl, sym, ap, ap₂, subst, ◌∙◌, arith, map-id, IsTrue, is_some, bytes_eq}
use Rattle.std.proofs.lemmas.Bool.{and_parts, and_from, and_right}
use Rattle.std.proofs.Math.Path.{fun_ext}
use Rattle.repl_model.specs.Words.{SetId, synchpoint, SourceSide, TargetSide, Server, World, KnownSet, same_set, known_from, known_sets, ServerKeepsRules, read_only_sets, stands_at_target, is_seq_or_zero, GoesOn, SignalsAreSound, TrailIsSound, IsSound, reports, with_server, with_source_side, with_target_side, after_action, In, at_one, any_from, same_name, name_itself, same_id, id_itself, StandsIn, known_stands, same_ids}
use Rattle.world_commits.specs.laws.Changed.{Rows, source_row, target_row, with_rows, rows_change, changed_world, read_only_is_known}
use Rattle.world_commits.specs.laws.ChangedSets.{SetStays}
use Rattle.world_commits.specs.laws.ChangedDefinitions.{UnknownStay}
use Rattle.world_commits.specs.laws.ChangedWorlds.{rows_alone, rows_sound}
use Rattle.world_commits.specs.laws.ActedSet.{same_server, same_named, known_itself}

-- the source side of a set is changed at its mark and its signal alone
pub record KeepsSource (f : SourceSide → SourceSide) : Type 0 where
  pub def : (side : SourceSide) → (f side).def ≡ side.def
  pub t : (side : SourceSide) → (f side).t ≡ side.t
  pub d : (side : SourceSide) → (f side).d ≡ side.d
  pub codes : (side : SourceSide) → (f side).codes ≡ side.codes

-- the target side of a set is changed at its flag and its trail alone
pub record KeepsTarget (g : TargetSide → TargetSide) : Type 0 where
  pub def : (side : TargetSide) → (g side).def ≡ side.def
  pub signal : (side : TargetSide) → (g side).signal ≡ side.signal

-- a side that stays
abbrev pub stays : {Side : Type 0} → Side → Side
stays side = side

module _ (k : KnownSet) (f : SourceSide → SourceSide) (g : TargetSide → TargetSide) where
  -- ---- the rows of each server

  -- the row at a source is that of the set
  abbrev is_source : Server → SourceSide → Bool
  is_source server side = bytes_eq k.source.name server.name && same_set k.at_source.def.id side.def.id

  -- the row at a target is that of the set
  abbrev is_target : Server → TargetSide → Bool
  is_target server side = bytes_eq k.target.name server.name && same_set k.at_target.def.id side.def.id

  -- what a row at a source becomes when those of the set change
  abbrev source_after : Server → SourceSide → SourceSide
  source_after server side = cond (is_source server side) (f side) side

  -- and one at a target
  abbrev target_after : Server → TargetSide → TargetSide
  target_after server side = cond (is_target server side) (g side) side

  -- what the rows at a server become
  abbrev pub rows_after : Server → Rows
  rows_after server = record {
    mark = λ side. (source_after server side).mark;
    signal = λ side. (source_after server side).signal;
    flag = λ side. (target_after server side).flag;
    trail = λ side. (target_after server side).trail;
  }

  -- the rows of the set become what is given for them
  pub source_becomes : source_after k.source k.at_source ≡ f k.at_source
  source_becomes = ap (λ (b : Bool). cond b (f k.at_source) k.at_source) (and_from (bytes_eq k.source.name k.source.name) (same_set k.at_source.def.id k.at_source.def.id) (name_itself k.source.name) (id_itself k.at_source.def.id))

  pub target_becomes : target_after k.target k.at_target ≡ g k.at_target
  target_becomes = ap (λ (b : Bool). cond b (g k.at_target) k.at_target) (and_from (bytes_eq k.target.name k.target.name) (same_set k.at_target.def.id k.at_target.def.id) (name_itself k.target.name) (id_itself k.at_target.def.id))

  -- those of other sets stay
  other_source : (server : Server) (side : SourceSide) → is_source server side ≡ false → source_row (rows_after server) side ≡ side
  other_source server side e = ap (λ (b : Bool). record side { mark = (cond b (f side) side).mark; signal = (cond b (f side) side).signal }) e

  other_target : (server : Server) (side : TargetSide) → is_target server side ≡ false → target_row (rows_after server) side ≡ side
  other_target server side e = ap (λ (b : Bool). record side { flag = (cond b (g side) side).flag; trail = (cond b (g side) side).trail }) e

  -- ---- a sound world

  module _ (world : World) (sound : IsSound world) (i : In k (read_only_sets (known_sets world))) where
    known : In k (known_sets world)
    known = (read_only_is_known world k i).0

    stands : StandsIn world k
    stands = known_stands world k known

    -- a row at a target that changes is that of the set
    its_own : (server : Server) → In server world → (side : TargetSide) → In side server.target_sets → is_target server side ≡ true → (k.target ≡ server) × (k.at_target ≡ side)
    its_own server j side l e =
        let both = and_parts (bytes_eq k.target.name server.name) (same_set k.at_target.def.id side.def.id) e in
        let at = same_server world k.target server sound.definitions.names stands.target j both.0 in
        let rules = at_one (ServerKeepsRules world) world k.target sound.definitions.servers stands.target in
        (at, same_named (λ (a : TargetSide). a.def.id) k.target.target_sets k.at_target side rules.target_names stands.at_target (subst (λ (a : Server). In side a.target_sets) (sym at) l) both.1)

    -- a row that changes is that of a known set
    unknown : (server : Server) → In server world → UnknownStay (rows_alone rows_after) world server
    unknown server j = record { sources = λ side l. source_known side (is_source server side) refl; targets = λ side l. target_known side l (is_target server side) refl }
      where
        source_known : (side : SourceSide) (b : Bool) → is_source server side ≡ b → (stands_at_target world server side ≡ true) ⊎ (source_row (rows_after server) side ≡ side)
        source_known side true e =
            let both = and_parts (bytes_eq k.source.name server.name) (same_set k.at_source.def.id side.def.id) e in
            let of_server = subst (λ (n : List ℕ). bytes_eq n k.source.name ≡ true) (same_name k.source.name server.name both.0) (name_itself k.source.name) in
            let of_set = subst (λ (a : SetId). same_set a k.at_target.def.id ≡ true) (same_ids world k stands ∙ same_id k.at_source.def.id side.def.id both.1) (id_itself k.at_target.def.id) in
            inl (any_from (λ (l : KnownSet). bytes_eq server.name l.source.name && same_set side.def.id l.at_target.def.id) (known_sets world) k known (and_from (bytes_eq server.name k.source.name) (same_set side.def.id k.at_target.def.id) of_server of_set))
        source_known side false e = inr (other_source server side e)

        target_known : (side : TargetSide) → In side server.target_sets → (b : Bool) → is_target server side ≡ b → (is_some (known_from world server side) ≡ true) ⊎ (target_row (rows_after server) side ≡ side)
        target_known side l true e =
            let own = its_own server j side l e in
            inl (sym (ap₂ (λ (at : Server) (row : TargetSide). is_some (known_from world at row)) own.0 own.1) ∙ known_itself world k stands)
        target_known side l false e = inr (other_target server side e)

    -- A world stays sound with other rows of a read-only set, if its signal is 0 or the seq of a unit of the source, its trail
    -- goes on soundly, and its mark is at most the point that the trail reaches.
    pub set_rows_sound : IsTrue (is_seq_or_zero k.source.log (f k.at_source).signal) → GoesOn k.source.log 0 0 (g k.at_target).trail → (f k.at_source).mark ≤ synchpoint (g k.at_target).trail → IsSound (changed_world (rows_alone rows_after) world)
    set_rows_sound signal goes mark = rows_sound rows_after world unknown sets sound
      where
        -- the set stays sound
        set_stays : SetStays (rows_alone rows_after) k
        set_stays = inr (record {
          read_only = (read_only_is_known world k i).1;
          signals = (
            subst (λ (side : SourceSide). IsTrue (is_seq_or_zero k.source.log side.signal)) (sym source_becomes) signal,
            (at_one SignalsAreSound (known_sets world) k sound.signals known).1,
          );
          trail = record {
            goes = subst (λ (side : TargetSide). GoesOn k.source.log 0 0 side.trail) (sym target_becomes) goes;
            mark = subst (λ (side : TargetSide). (source_after k.source k.at_source).mark ≤ synchpoint side.trail) (sym target_becomes) (subst (λ (side : SourceSide). side.mark ≤ synchpoint (g k.at_target).trail) (sym source_becomes) mark);
          };
        })

        -- each other set keeps its rows
        sets : (l : KnownSet) → In l (known_sets world) → SetStays (rows_alone rows_after) l
        sets l j = by_test (same_set k.at_target.def.id l.at_target.def.id) refl
          where
            by_test : (b : Bool) → same_set k.at_target.def.id l.at_target.def.id ≡ b → SetStays (rows_alone rows_after) l
            by_test true e = subst (SetStays (rows_alone rows_after)) (same_named (λ (a : KnownSet). a.at_target.def.id) (known_sets world) k l sound.definitions.set_names known j e) set_stays
            by_test false e = inl (record {
              source = other_source l.source l.at_source (and_right (bytes_eq k.source.name l.source.name) (same_set k.at_source.def.id l.at_source.def.id)
                  (ap₂ same_set (sym (same_ids world k stands)) (sym (same_ids world l (known_stands world l j))) ∙ e));
              target = other_target l.target l.at_target (and_right (bytes_eq k.target.name l.target.name) (same_set k.at_target.def.id l.at_target.def.id) e);
            })

-- ---- one side alone

-- the world in which the source side of a set is changed is the one whose servers get these rows
pub source_world : (k : KnownSet) (f : SourceSide → SourceSide) → KeepsSource f → (world : World) → with_server k.source.name (with_source_side k.at_source.def.id f) world ≡ changed_world (rows_alone (rows_after k f stays)) world
source_world k f keeps world = ap (λ (h : Server → Server). map h world) (fun_ext (λ server. by_name server (bytes_eq k.source.name server.name) ∙ by_rows server ∙ rows_change (rows_after k f stays server) server))
  where
    by_name : (server : Server) (b : Bool) → cond b (with_source_side k.at_source.def.id f server) server ≡ record server { source_sets = map (λ side. cond (b && same_set k.at_source.def.id side.def.id) (f side) side) server.source_sets }
    by_name server true = refl
    by_name server false = ap (λ (sides : List SourceSide). record server { source_sets = sides }) (sym (map-id server.source_sets))

    -- what becomes of a source side has another mark and another signal, and nothing else
    kept : (side : SourceSide) → f side ≡ record side { mark = (f side).mark; signal = (f side).signal }
    kept side = λ i. record { def = keeps.def side i; mark = (f side).mark; signal = (f side).signal; t = keeps.t side i; d = keeps.d side i; codes = keeps.codes side i }

    by_test : (side : SourceSide) (b : Bool) → cond b (f side) side ≡ record side { mark = (cond b (f side) side).mark; signal = (cond b (f side) side).signal }
    by_test side true = kept side
    by_test side false = refl

    same : (side : TargetSide) (b : Bool) → side ≡ record side { flag = (cond b side side).flag; trail = (cond b side side).trail }
    same side true = refl
    same side false = refl

    by_rows : (server : Server) → record server { source_sets = map (source_after k f stays server) server.source_sets } ≡ with_rows (rows_after k f stays server) server
    by_rows server = ap₂ (λ (h : SourceSide → SourceSide) (sides : List TargetSide). record server { source_sets = map h server.source_sets; target_sets = sides })
        (fun_ext (λ side. by_test side (is_source k f stays server side)))
        (sym (map-id server.target_sets) ∙ ap (λ (h : TargetSide → TargetSide). map h server.target_sets) (fun_ext (λ side. same side (is_target k f stays server side))))

-- the world in which the target side of a set is changed is the one whose servers get these rows
pub target_world : (k : KnownSet) (g : TargetSide → TargetSide) → KeepsTarget g → (world : World) → with_server k.target.name (with_target_side k.at_target.def.id g) world ≡ changed_world (rows_alone (rows_after k stays g)) world
target_world k g keeps world = ap (λ (h : Server → Server). map h world) (fun_ext (λ server. by_name server (bytes_eq k.target.name server.name) ∙ by_rows server ∙ rows_change (rows_after k stays g server) server))
  where
    by_name : (server : Server) (b : Bool) → cond b (with_target_side k.at_target.def.id g server) server ≡ record server { target_sets = map (λ side. cond (b && same_set k.at_target.def.id side.def.id) (g side) side) server.target_sets }
    by_name server true = refl
    by_name server false = ap (λ (sides : List TargetSide). record server { target_sets = sides }) (sym (map-id server.target_sets))

    by_test : (side : TargetSide) (b : Bool) → cond b (g side) side ≡ record side { flag = (cond b (g side) side).flag; trail = (cond b (g side) side).trail }
    by_test side true = λ i. record { def = keeps.def side i; flag = (g side).flag; trail = (g side).trail; signal = keeps.signal side i }
    by_test side false = refl

    same : (side : SourceSide) (b : Bool) → side ≡ record side { mark = (cond b side side).mark; signal = (cond b side side).signal }
    same side true = refl
    same side false = refl

    by_rows : (server : Server) → record server { target_sets = map (target_after k stays g server) server.target_sets } ≡ with_rows (rows_after k stays g server) server
    by_rows server = ap₂ (λ (h : TargetSide → TargetSide) (sides : List SourceSide). record server { source_sets = sides; target_sets = map h server.target_sets })
        (fun_ext (λ side. by_test side (is_target k stays g server side)))
        (sym (map-id server.source_sets) ∙ ap (λ (h : SourceSide → SourceSide). map h server.source_sets) (fun_ext (λ side. same side (is_source k stays g server side))))

module _ (world : World) (k : KnownSet) (sound : IsSound world) (i : In k (read_only_sets (known_sets world))) where
  -- the signals and the trail of the set
  signals : SignalsAreSound k
  signals = at_one SignalsAreSound (known_sets world) k sound.signals (read_only_is_known world k i).0

  trail : TrailIsSound k
  trail = at_one TrailIsSound (read_only_sets (known_sets world)) k sound.trails i

  -- A world stays sound with another mark and another signal of a read-only set, if the mark is at most the
  -- synchpoint, and the signal 0 or the seq of a unit of the source.
  pub source_side_sound : (f : SourceSide → SourceSide) → KeepsSource f → (f k.at_source).mark ≤ synchpoint k.at_target.trail → IsTrue (is_seq_or_zero k.source.log (f k.at_source).signal)
      → IsSound (with_server k.source.name (with_source_side k.at_source.def.id f) world)
  source_side_sound f keeps mark signal = subst IsSound (sym (source_world k f keeps world)) (set_rows_sound k f stays world sound i signal trail.goes mark)

  -- A world stays sound with another trail and another flag of a read-only set, if the trail goes on soundly, and
  -- what is reported is at most the point that it reaches.
  pub target_side_sound : (g : TargetSide → TargetSide) → KeepsTarget g → GoesOn k.source.log 0 0 (g k.at_target).trail → k.at_source.mark ≤ synchpoint (g k.at_target).trail
      → IsSound (with_server k.target.name (with_target_side k.at_target.def.id g) world)
  target_side_sound g keeps goes mark = subst IsSound (sym (target_world k g keeps world)) (set_rows_sound k stays g world sound i signals.0 goes mark)

  -- a world stays sound with a report
  pub report_sound : IsSound (after_action world k reports)
  report_sound = source_side_sound (λ side. record side { mark = synchpoint k.at_target.trail })
      (record { def = λ side. refl; t = λ side. refl; d = λ side. refl; codes = λ side. refl })
      (omega arith)
      signals.0
