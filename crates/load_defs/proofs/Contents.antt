-- What contents are after the rows of a load were put.
use Rattle.std.proofs.Common.{◌≡◌, ℕ, zero, suc, ◌<◌, Bool, cond, true, false, refl, sym, ap, ◌∙◌, arith, ◌==◌}
use Rattle.std.proofs.lemmas.Bool.Decides.{nat_tests}
use Rattle.world_store.specs.Words.{b32, short_text, set_spelling, registration_state_spelling, mark_spelling, first_table, definition_table, capture_table, prune_table, tables, shown, Holds, Becomes, no_first}
use Rattle.site_store.specs.Words.{Contents, Table, with_table}
use Rattle.repl_model.specs.Words.{Area, defined_table_spelling, defined_registration_spelling, source_set_spelling, target_set_spelling, Server, World}
use Rattle.repl_types.specs.declared.area.Area.TheVariants as areas
use Rattle.spelled_defs.specs.declared.defs.Defs.{Defs}
use Rattle.stored_defs.specs.laws.Standing.{holds_defs}
use Rattle.load_laws.specs.worlds.Loads.{load_server}
use Rattle.load_laws.specs.stored.LoadedServers.{is_loaded}
use Rattle.load_plan.specs.declared.additions.Additions.{Additions}
use Rattle.load_laws.specs.planned.Planned.{with_rows, table_additions, registration_additions, state_additions, source_additions, mark_additions, target_additions}
use Rattle.load_laws.specs.planned.PlannedLoads.{AddsRows}
use Rattle.load_defs.specs.Putting.{added_rows, with_put, with_added}
use Rattle.load_defs.specs.declared.rows.AddedRows.{AddedRows}

-- the states of registrations that a server holds are those that the world calls for
holds_states : (w : World) (s : Server) (c : Contents) → Holds w s c → c areas.Capture 1 ≡ capture_table s 1
unfolding tables first_table
holds_states w s c holds = sym (no_first (c areas.Capture 1)) ∙ holds areas.Capture 1

-- so are the marks
holds_marks : (w : World) (s : Server) (c : Contents) → Holds w s c → c areas.Prune 0 ≡ prune_table s 0
unfolding tables first_table
holds_marks w s c holds = sym (no_first (c areas.Prune 0)) ∙ holds areas.Prune 0

module _ (defs : Defs) (w : World) (s : Server) (added : Additions) (c : Contents) (adds : AddsRows defs s added) (holds : Holds w s c) where
  -- the contents after all rows were put
  abbrev put : Contents
  put = with_added (added_rows added) c

  -- the rows, and the contents after some of them were put
  abbrev rows : AddedRows
  rows = added_rows added

  abbrev after_tables : Contents
  after_tables = with_put short_text defined_table_spelling areas.Defs 0 rows.tables c

  abbrev after_states : Contents
  after_states = with_put b32 registration_state_spelling areas.Capture 1 rows.states (with_put short_text defined_registration_spelling areas.Defs 1 rows.registrations after_tables)

  abbrev after_marks : Contents
  after_marks = with_put b32 mark_spelling areas.Prune 0 rows.marks (with_put set_spelling source_set_spelling areas.Defs 2 rows.sources after_states)

  -- beyond the tables of definitions nothing is put
  beyond : (n : ℕ) → put areas.Defs (suc (suc (suc (suc n)))) ≡ c areas.Defs (suc (suc (suc (suc n))))
  beyond n =
      other 3 after_marks (with_rows set_spelling target_set_spelling rows.targets (after_marks areas.Defs 3)) (omega arith)
      ∙ other 2 after_states (with_rows set_spelling source_set_spelling rows.sources (after_states areas.Defs 2)) (omega arith)
      ∙ other 1 after_tables (with_rows short_text defined_registration_spelling rows.registrations (after_tables areas.Defs 1)) (omega arith)
      ∙ other 0 c (with_rows short_text defined_table_spelling rows.tables (c areas.Defs 0)) (omega arith)
    where
      apart : (m : ℕ) → m < 4 → (m == suc (suc (suc (suc n)))) ≡ false
      apart m lt = grind (arith, nat_tests, lt)

      other : (m : ℕ) (d : Contents) (t : Table) → m < 4 → with_table d areas.Defs m t areas.Defs (suc (suc (suc (suc n)))) ≡ d areas.Defs (suc (suc (suc (suc n))))
      other m d t lt = ap (λ (b : Bool). cond b t (d areas.Defs (suc (suc (suc (suc n)))))) (apart m lt)

  -- the definitions are those of the loaded server
  definitions : (n : ℕ) → put areas.Defs n ≡ definition_table (load_server defs s) n
  definitions zero = ap (with_rows short_text defined_table_spelling (table_additions added)) (holds_defs w s c holds 0) ∙ adds.tables
  definitions (suc zero) = ap (with_rows short_text defined_registration_spelling (registration_additions added)) (holds_defs w s c holds 1) ∙ adds.registrations
  definitions (suc (suc zero)) = ap (with_rows set_spelling source_set_spelling (source_additions added)) (holds_defs w s c holds 2) ∙ adds.sources
  definitions (suc (suc (suc zero))) = ap (with_rows set_spelling target_set_spelling (target_additions added)) (holds_defs w s c holds 3) ∙ adds.targets
  definitions (suc (suc (suc (suc n)))) = beyond n ∙ holds_defs w s c holds (suc (suc (suc (suc n))))

  -- a table beyond that of states is another
  apart_state : (n : ℕ) → (1 == suc (suc n)) ≡ false
  apart_state n = grind (arith, nat_tests)

  -- a table beyond that of marks is another
  apart_mark : (n : ℕ) → (0 == suc n) ≡ false
  apart_mark n = grind (arith, nat_tests)

  -- the tables in which nothing is put are as they were
  others : (a : Area) (n : ℕ) → is_loaded a n ≡ false → put a n ≡ c a n
  others areas.Defs n e = absurd cc
  others areas.Capture (suc zero) e = absurd cc
  others areas.Capture (suc (suc n)) e = ap (λ (b : Bool). cond b (with_rows b32 registration_state_spelling rows.states (c areas.Capture 1)) (c areas.Capture (suc (suc n)))) (apart_state n)
  others areas.Prune zero e = absurd cc
  others areas.Prune (suc n) e = ap (λ (b : Bool). cond b (with_rows b32 mark_spelling rows.marks (c areas.Prune 0)) (c areas.Prune (suc n))) (apart_mark n)
  others a n e = refl

  -- what the server holds after the rows were put is what a world calls for there once the server is loaded
  pub rows_loaded : (v : World) → Becomes is_loaded v (load_server defs s) c put
  unfolding tables first_table
  rows_loaded v = record { has = table_is; others = others }
    where
      table_is : (a : Area) (n : ℕ) → is_loaded a n ≡ true → shown (load_server defs s) a n (put a n) ≡ tables v (load_server defs s) a n
      table_is areas.Defs n e = definitions n
      table_is areas.Capture (suc zero) e = no_first (put areas.Capture 1) ∙ ap (with_rows b32 registration_state_spelling (state_additions added)) (holds_states w s c holds) ∙ adds.states
      table_is areas.Prune zero e = no_first (put areas.Prune 0) ∙ ap (with_rows b32 mark_spelling (mark_additions added)) (holds_marks w s c holds) ∙ adds.marks
      table_is a n e = absurd cc
