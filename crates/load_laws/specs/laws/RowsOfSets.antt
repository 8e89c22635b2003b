-- The rows of sets that are planned for a server, and their marks, make the tables of the loaded server.
use Rattle.std.proofs.Common.{◌≡◌, ℕ, ◌+◌, ◌<◌, ◌≤◌, ◌^◌, List, length, map, refl, sym, ap, ◌∙◌, arith, filter}
use Rattle.std.specs.List.{AllByRecursion, enumerate_from}
use Rattle.std.proofs.lemmas.Simd.{map-map}
use Rattle.world_store.specs.Words.{set_cmp, IsSet, Is32, b32, set_spelling, one32, one_whole, mark_spelling, SyncMark, mark_rows, definition_table, prune_table, no_rows}
use Rattle.repl_model.specs.Words.{SetId, all_append, all_filter, all_weaker, IsSetDef, source_set_spelling, target_set_spelling, SetDef, SourceSet, TargetSet, set_limit, ServerKeepsRules, SourceSide, TargetSide, Server, World, same_set, in_map, each_image}
use Rattle.spelled_defs.specs.declared.defs.Defs.{Defs}
use Rattle.load_laws.specs.worlds.Loads.{fresh_source, fresh_target, new_sources, new_targets, load_server}
use Rattle.load_laws.specs.rules.Accepted.{AreTyped}
use Rattle.load_plan.specs.Additions.{additions_at}
use Rattle.load_laws.specs.planned.Planned.{stored_server, with_rows, source_additions, mark_additions, target_additions}
use Rattle.load_laws.specs.laws.Added.{is_new_source, is_new_target, sources_added_is, targets_added_is}
use Rattle.load_laws.specs.laws.PlannedLists.{numbered_images, numbered_rows, numbered_within, numbered_alone}
use Rattle.load_laws.specs.laws.Named.{set_names, named_put}
use Rattle.load_laws.specs.laws.StoredPlans.{defined_source, defined_target, source_names_fit, target_names_fit}
use Rattle.load_laws.specs.laws.Tables.{KeysTell, with_more, rows_put}

-- ---- rows under their numbers

-- numbers of four bytes are spelled apart
pub numbers_apart : (n m : ℕ) → n < 2 ^ 32 → m < 2 ^ 32 → b32 n ≡ b32 m → n ≡ m
numbers_apart = one_whole Is32 b32 one32

-- rows under numbers of four bytes are told apart by their keys
pub numbers_tell : {X Y : Type 0} (make : ℕ × X → Y) (xs : List X) → length xs < 2 ^ 32 → KeysTell {X = Y} b32 (map (λ t. (t.0, make t)) (enumerate_from 0 xs))
numbers_tell {X} {Y} make xs few r s i j e =
    let row : ℕ × X → ℕ × Y = λ t. (t.0, make t) in
    let a = in_map row (enumerate_from 0 xs) r i in
    let b = in_map row (enumerate_from 0 xs) s j in
    let below_a : a.0.0 < 0 + length xs = (numbered_within 0 xs a.0 a.1).1 in
    let below_b : b.0.0 < 0 + length xs = (numbered_within 0 xs b.0 b.1).1 in
    let keys : b32 a.0.0 ≡ b32 b.0.0 = ap (λ (x : ℕ × Y). b32 x.0) (sym a.2) ∙ e ∙ ap (λ (x : ℕ × Y). b32 x.0) b.2 in
    a.2 ∙ ap row (numbered_alone 0 xs a.0 b.0 a.1 b.1 (numbers_apart a.0.0 b.0.0 (omega arith) (omega arith) keys)) ∙ sym b.2

-- what a set has reported, under its number
abbrev mark_row : ℕ × SourceSide → ℕ × SyncMark
mark_row s = (s.0, record { mark = s.1.mark; signal = s.1.signal })

module _ (world : World) (server : Server) (keeps : ServerKeepsRules world server) (defs : Defs) where
  -- the marks make the table of the loaded server
  pub marks_put : length (load_server defs server).source_sets ≤ set_limit → with_rows b32 mark_spelling (mark_additions (additions_at defs (stored_server server))) (prune_table server 0) ≡ prune_table (load_server defs server) 0
  marks_put few =
      ap (λ (rows : List (ℕ × SyncMark)). with_rows b32 mark_spelling rows (prune_table server 0))
      (ap (map (λ row. (row.number, record { mark = 0; signal = 0 }))) (sources_added_is world server keeps defs)
      ∙ map-map (λ (row : SourceSet). (row.number, record { mark = 0; signal = 0 })) (λ (s : ℕ × SetDef). record { number = s.0; def = s.1 }) (enumerate_from (length server.source_sets) (filter (is_new_source server) defs.sets))
      ∙ sym (numbered_images mark_row fresh_source (length server.source_sets) (filter (is_new_source server) defs.sets)))
      ∙ ap (with_rows b32 mark_spelling more) (rows_put b32 mark_spelling (mark_rows server) (numbers_tell (λ (s : ℕ × SourceSide). record { mark = s.1.mark; signal = s.1.signal }) server.source_sets (omega (arith, keeps.counts.0))))
      ∙ sym (with_more b32 mark_spelling (mark_rows server) more no_rows)
      ∙ ap (λ (rows : List (ℕ × SyncMark)). with_rows b32 mark_spelling rows no_rows) (sym (numbered_rows mark_row server.source_sets (new_sources defs server)))
      ∙ sym (rows_put b32 mark_spelling (mark_rows (load_server defs server)) (numbers_tell (λ (s : ℕ × SourceSide). record { mark = s.1.mark; signal = s.1.signal }) (load_server defs server).source_sets (omega (arith, few))))
    where
      more : List (ℕ × SyncMark)
      more = map mark_row (enumerate_from (length server.source_sets) (new_sources defs server))

  -- ---- rows under the names of sets

  module _ (typed : AreTyped defs) where
    -- the names of the sets of a text are names
    sets_fit : AllByRecursion (λ def. IsSet def.id) defs.sets
    sets_fit = all_weaker IsSetDef (λ def. IsSet def.id) defs.sets (λ def fit. fit.0) typed.sets

    -- the names of the sets at their sources are names once the server is loaded
    sources_fit : AllByRecursion (λ side. IsSet side.def.id) (load_server defs server).source_sets
    sources_fit = all_append (λ (side : SourceSide). IsSet side.def.id) server.source_sets (new_sources defs server) (source_names_fit world server keeps)
        (each_image (λ (side : SourceSide). IsSet side.def.id) fresh_source (filter (is_new_source server) defs.sets) (all_filter (λ (def : SetDef). IsSet def.id) (is_new_source server) defs.sets sets_fit))

    -- so are those at their targets
    targets_fit : AllByRecursion (λ side. IsSet side.def.id) (load_server defs server).target_sets
    targets_fit = all_append (λ (side : TargetSide). IsSet side.def.id) server.target_sets (new_targets defs server) (target_names_fit world server keeps)
        (each_image (λ (side : TargetSide). IsSet side.def.id) fresh_target (filter (is_new_target server) defs.sets) (all_filter (λ (def : SetDef). IsSet def.id) (is_new_target server) defs.sets sets_fit))

    -- the rows of sets at their sources make the table of the loaded server
    pub sources_put : with_rows set_spelling source_set_spelling (source_additions (additions_at defs (stored_server server))) (definition_table server 2) ≡ definition_table (load_server defs server) 2
    sources_put =
        ap (λ (rows : List (SetId × SourceSet)). with_rows set_spelling source_set_spelling rows (definition_table server 2))
        (ap (map (λ row. (row.def.id, row))) (sources_added_is world server keeps defs)
        ∙ map-map (λ (row : SourceSet). (row.def.id, row)) (λ (s : ℕ × SetDef). record { number = s.0; def = s.1 }) (enumerate_from (length server.source_sets) (filter (is_new_source server) defs.sets))
        ∙ sym (numbered_images (λ (s : ℕ × SourceSide). (s.1.def.id, defined_source s)) fresh_source (length server.source_sets) (filter (is_new_source server) defs.sets)))
        ∙ named_put set_spelling IsSet set_cmp same_set set_names (λ (side : SourceSide). side.def.id) defined_source source_set_spelling server.source_sets (new_sources defs server) (load_server defs server).source_sets
        (source_names_fit world server keeps) sources_fit refl

    -- and so do those at their targets
    pub targets_put : with_rows set_spelling target_set_spelling (target_additions (additions_at defs (stored_server server))) (definition_table server 3) ≡ definition_table (load_server defs server) 3
    targets_put =
        ap (λ (rows : List (SetId × TargetSet)). with_rows set_spelling target_set_spelling rows (definition_table server 3))
        (ap (map (λ row. (row.def.id, row))) (targets_added_is world server keeps defs)
        ∙ map-map (λ (row : TargetSet). (row.def.id, row)) (λ (s : ℕ × SetDef). record { number = s.0; def = s.1 }) (enumerate_from (length server.target_sets) (filter (is_new_target server) defs.sets))
        ∙ sym (numbered_images (λ (s : ℕ × TargetSide). (s.1.def.id, defined_target s)) fresh_target (length server.target_sets) (filter (is_new_target server) defs.sets)))
        ∙ named_put set_spelling IsSet set_cmp same_set set_names (λ (side : TargetSide). side.def.id) defined_target target_set_spelling server.target_sets (new_targets defs server) (load_server defs server).target_sets
        (target_names_fit world server keeps) targets_fit refl
