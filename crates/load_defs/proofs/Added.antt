-- All rows of a load are put at a server, kind by kind.
use Rattle.std.proofs.Common.{◌≡◌, ℕ, length, ap, ◌∙◌, arith}
use Rattle.world_store.specs.Words.{b32, short_text, set_spelling, registration_state_spelling, mark_spelling}
use Rattle.site_store.specs.Words.{Contents, Kept, work, IsOpenAt, NoDamage, WorksOn, Bounds, writes_of_one, both, AtServer, Fails, IsAtMost, at_most_itself, fails_within, works_on}
use Rattle.site_store.specs.declared.sites.Sites.{Sites}
use Rattle.repl_model.specs.Words.{Fault, defined_table_spelling, defined_registration_spelling, source_set_spelling, target_set_spelling}
use Rattle.repl_types.specs.declared.area.Area.TheVariants as areas
use Rattle.load_defs.specs.Putting.{with_put, with_added, added_written}
use Rattle.load_defs.specs.declared.rows.AddedRows.{AddedRows}
use Rattle.load_defs.proofs.Faults.{at_most_both, fails_on}

-- bounds of six calls, from the first on, are those from the last on
turned : (u v w x y z : Bounds) → IsAtMost (both (both (both (both (both u v) w) x) y) z) (both u (both v (both w (both x (both y z)))))
turned u v w x y z = record { reads = λ s a. omega arith; writes = λ s a. omega arith }

module _ {K : Type 0} (kept : K → Kept) (server : ℕ) where
  -- one step makes something of contents, and then another does
  makes_then : (s0 s1 s2 : Sites K) (x y z : Bounds) (f g : Contents → Contents) → IsOpenAt (work kept s0) server → IsAtMost (both x y) z → WorksOn kept s0 s1 server x (λ c d. d ≡ f c) → WorksOn kept s1 s2 server y (λ c d. d ≡ g c) → WorksOn kept s0 s2 server z (λ c d. d ≡ g (f c))
  makes_then s0 s1 s2 x y z f g open_at most first second = works_on kept s0 s1 s2 server x y z (λ c d. d ≡ f c) (λ c d. d ≡ g c) (λ c d. d ≡ g (f c)) open_at most first second (λ c d e p q. q ∙ ap g p)

  module _ (rows : AddedRows) where
    -- what the puts of each kind make of contents
    abbrev with_tables : Contents → Contents
    with_tables c = with_put short_text defined_table_spelling areas.Defs 0 rows.tables c

    abbrev with_registrations : Contents → Contents
    with_registrations c = with_put short_text defined_registration_spelling areas.Defs 1 rows.registrations c

    abbrev with_states : Contents → Contents
    with_states c = with_put b32 registration_state_spelling areas.Capture 1 rows.states c

    abbrev with_sources : Contents → Contents
    with_sources c = with_put set_spelling source_set_spelling areas.Defs 2 rows.sources c

    abbrev with_marks : Contents → Contents
    with_marks c = with_put b32 mark_spelling areas.Prune 0 rows.marks c

    abbrev with_targets : Contents → Contents
    with_targets c = with_put set_spelling target_set_spelling areas.Defs 3 rows.targets c

    -- how often each kind is written
    abbrev tables_written : Bounds
    tables_written = writes_of_one (length rows.tables) server areas.Defs

    abbrev registrations_written : Bounds
    registrations_written = writes_of_one (length rows.registrations) server areas.Defs

    abbrev states_written : Bounds
    states_written = writes_of_one (length rows.states) server areas.Capture

    abbrev sources_written : Bounds
    sources_written = writes_of_one (length rows.sources) server areas.Defs

    abbrev marks_written : Bounds
    marks_written = writes_of_one (length rows.marks) server areas.Prune

    abbrev targets_written : Bounds
    targets_written = writes_of_one (length rows.targets) server areas.Defs

    -- how often each kind and those after it are written
    abbrev from_marks : Bounds
    from_marks = both marks_written targets_written

    abbrev from_sources : Bounds
    from_sources = both sources_written from_marks

    abbrev from_states : Bounds
    from_states = both states_written from_sources

    abbrev from_registrations : Bounds
    from_registrations = both registrations_written from_states

    -- a put of the rows of one kind
    abbrev PutsOne : Sites K → Sites K → Bounds → (Contents → Contents) → Type 0
    PutsOne old new most f = WorksOn kept old new server most (λ c d. d ≡ f c)

    -- a put that fails
    abbrev PutFails : Sites K → Sites K → Bounds → Fault → Type 0
    PutFails old new most e = Fails kept old new most (AtServer server NoDamage) e

    -- a put fails after that of another kind
    fails_next : (s0 s1 s2 : Sites K) (x y : Bounds) (f : Contents → Contents) (e : Fault) → PutsOne s0 s1 x f → PutFails s1 s2 y e → PutFails s0 s2 (both x y) e
    fails_next s0 s1 s2 x y f e put fails = fails_on kept s0 s1 s2 server x y (both x y) (λ c d. d ≡ f c) e (at_most_itself (both x y)) put fails

    -- a put fails before those of other kinds
    fails_before : (s0 s1 : Sites K) (x y : Bounds) (e : Fault) → PutFails s0 s1 x e → PutFails s0 s1 (both x y) e
    fails_before s0 s1 x y e fails = fails_within kept s0 s1 (AtServer server NoDamage) x (both x y) e fails (at_most_both x y)

    module _ (s0 s1 : Sites K) (tables : PutsOne s0 s1 tables_written with_tables) where
      -- what fails after the tables were put fails from the beginning on
      after_tables : (s : Sites K) (e : Fault) → PutFails s1 s from_registrations e → PutFails s0 s (added_written server rows) e
      after_tables s e fails = fails_next s0 s1 s tables_written from_registrations with_tables e tables fails

      -- the put of registrations fails
      pub registrations_fail : (s2 : Sites K) (e : Fault) → PutFails s1 s2 registrations_written e → PutFails s0 s2 (added_written server rows) e
      registrations_fail s2 e fails = after_tables s2 e (fails_before s1 s2 registrations_written from_states e fails)

      module _ (s2 : Sites K) (registrations : PutsOne s1 s2 registrations_written with_registrations) where
        -- so does what fails after the registrations were put
        after_registrations : (s : Sites K) (e : Fault) → PutFails s2 s from_states e → PutFails s0 s (added_written server rows) e
        after_registrations s e fails = after_tables s e (fails_next s1 s2 s registrations_written from_states with_registrations e registrations fails)

        -- the put of states fails
        pub states_fail : (s3 : Sites K) (e : Fault) → PutFails s2 s3 states_written e → PutFails s0 s3 (added_written server rows) e
        states_fail s3 e fails = after_registrations s3 e (fails_before s2 s3 states_written from_sources e fails)

        module _ (s3 : Sites K) (states : PutsOne s2 s3 states_written with_states) where
          -- so does what fails after the states were put
          after_states : (s : Sites K) (e : Fault) → PutFails s3 s from_sources e → PutFails s0 s (added_written server rows) e
          after_states s e fails = after_registrations s e (fails_next s2 s3 s states_written from_sources with_states e states fails)

          -- the put of sources fails
          pub sources_fail : (s4 : Sites K) (e : Fault) → PutFails s3 s4 sources_written e → PutFails s0 s4 (added_written server rows) e
          sources_fail s4 e fails = after_states s4 e (fails_before s3 s4 sources_written from_marks e fails)

          module _ (s4 : Sites K) (sources : PutsOne s3 s4 sources_written with_sources) where
            -- so does what fails after the sources were put
            after_sources : (s : Sites K) (e : Fault) → PutFails s4 s from_marks e → PutFails s0 s (added_written server rows) e
            after_sources s e fails = after_states s e (fails_next s3 s4 s sources_written from_marks with_sources e sources fails)

            -- the put of marks fails
            pub marks_fail : (s5 : Sites K) (e : Fault) → PutFails s4 s5 marks_written e → PutFails s0 s5 (added_written server rows) e
            marks_fail s5 e fails = after_sources s5 e (fails_before s4 s5 marks_written targets_written e fails)

            module _ (s5 s6 : Sites K) (marks : PutsOne s4 s5 marks_written with_marks) where
              -- the put of targets fails
              pub targets_fail : (e : Fault) → PutFails s5 s6 targets_written e → PutFails s0 s6 (added_written server rows) e
              targets_fail e fails = after_sources s6 e (fails_next s4 s5 s6 marks_written targets_written with_marks e marks fails)

              -- all were put
              pub all_added : IsOpenAt (work kept s0) server → PutsOne s5 s6 targets_written with_targets → PutsOne s0 s6 (added_written server rows) (with_added rows)
              all_added open_at targets =
                  let two = both tables_written registrations_written in
                  let three = both two states_written in
                  let four = both three sources_written in
                  let five = both four marks_written in
                  let to_two = makes_then s0 s1 s2 tables_written registrations_written two with_tables with_registrations open_at (at_most_itself two) tables registrations in
                  let to_three = makes_then s0 s2 s3 two states_written three (λ c. with_registrations (with_tables c)) with_states open_at (at_most_itself three) to_two states in
                  let to_four = makes_then s0 s3 s4 three sources_written four (λ c. with_states (with_registrations (with_tables c))) with_sources open_at (at_most_itself four) to_three sources in
                  let to_five = makes_then s0 s4 s5 four marks_written five (λ c. with_sources (with_states (with_registrations (with_tables c)))) with_marks open_at (at_most_itself five) to_four marks in
                  makes_then s0 s5 s6 five targets_written (added_written server rows) (λ c. with_marks (with_sources (with_states (with_registrations (with_tables c))))) with_targets open_at (turned tables_written registrations_written states_written sources_written marks_written targets_written) to_five targets
