-- One server is loaded, in one commit.
use Rattle.std.proofs.Common.{◌≡◌, ℕ, suc, ◌<◌, true, false, List, [], length, map, set, get_or, sym, ap, subst, ◌∙◌, arith, Option, Some, None}
use Rattle.std.specs.List.{AllByRecursion}
use Rattle.std.proofs.lemmas.Bool.{not-true}
use Rattle.world_store.specs.Words.{Any, IsStorable, Holds, Becomes, Stands}
use Rattle.site_store.specs.Words.{Contents, Kept, WorksOn, names, held, sees, Bounds, Begins, took}
use Rattle.site_store.specs.declared.sites.Sites.{Sites}
use Rattle.repl_model.specs.Words.{all_weaker, DefinedTable, DefinedRegistration, SourceSet, TargetSet, defined_table_spelling, HasDefinedTableSpelling, defined_registration_spelling, HasDefinedRegistrationSpelling, source_set_spelling, HasSourceSetSpelling, target_set_spelling, HasTargetSetSpelling, IsSound, empty_server, Server, World, In, at_each, each_image}
use Rattle.repl_commands.specs.declared.written.RawDefs.{RawDefs}
use Rattle.spelled_defs.specs.declared.defs.Defs.{Defs}
use Rattle.stored_defs.specs.laws.Standing.{all_at_place}
use Rattle.load_plan.specs.Additions.{additions_at}
use Rattle.load_plan.specs.declared.stored.StoredServer.{StoredServer}
use Rattle.load_plan.specs.declared.additions.Additions.{Additions}
use Rattle.load_laws.specs.worlds.Loads.{load_server, server_at, load_at, load_first}
use Rattle.load_laws.specs.stored.LoadedServers.{is_loaded}
use Rattle.load_laws.specs.planned.Path.{gains}
use Rattle.load_laws.specs.planned.Planned.{stored_server}
use Rattle.load_laws.specs.planned.PlannedLoads.{AddsRows, adds_nothing}
use Rattle.load_laws.specs.texts.AcceptedTexts.{AreStorable}
use Rattle.load_defs.specs.Loading.{MayLoad}
use Rattle.load_defs.specs.Putting.{MayBePut, MayBePutAll, added_rows, with_added}
use Rattle.load_defs.specs.declared.rows.AddedRows.{AddedRows}
use Rattle.load_defs.proofs.Commits.{same_world}
use Rattle.load_defs.proofs.Contents.{rows_loaded}
use Rattle.load_defs.proofs.Standing.{count_named, revealed_at, stands_next}
use Rattle.load_defs.proofs.Worlds.{first_length, next_server, next_loaded}
use Rattle.load_laws.specs.laws.Gains.{plans_gains}
use Rattle.load_laws.specs.laws.StaysSound.{load_stays_sound}
use Rattle.load_laws.specs.laws.RowsAdded.{adds_planned}

-- ---- rows

-- rows may be put, if their records may be stored
rows_may : {A X : Type 0} (P : X → Type 0) (key : X → A) (xs : List X) → AllByRecursion P xs → AllByRecursion (MayBePut Any P) (map (λ x. (key x, x)) xs)
rows_may P key xs all = each_image (MayBePut Any P) (λ x. (key x, x)) xs (all_weaker P (λ x. Unit {0} × P x) xs (λ x may. (tt, may)) all)

-- rows of any records may be put
any_may : {A X Y : Type 0} (key : X → A) (value : X → Y) (xs : List X) → AllByRecursion (MayBePut {A = A} {X = Y} Any Any) (map (λ x. (key x, value x)) xs)
any_may key value xs = each_image (MayBePut Any Any) (λ x. (key x, value x)) xs (at_each (λ x. Unit {0} × Unit {0}) xs (λ x i. (tt, tt)))

-- what a server gets may be put, if it can be stored
pub added_may : (added : Additions) → AreStorable added → MayBePutAll (added_rows added)
added_may added may = record {
  tables = rows_may (IsStorable HasDefinedTableSpelling defined_table_spelling) (λ (row : DefinedTable). row.def.name) added.tables may.tables;
  registrations = rows_may (IsStorable HasDefinedRegistrationSpelling defined_registration_spelling) (λ (row : DefinedRegistration). row.registration.table) added.registrations may.registrations;
  states = any_may (λ (row : DefinedRegistration). row.number) (λ row. record { active = false; start = 0; floor = 0 }) added.registrations;
  sources = rows_may (IsStorable HasSourceSetSpelling source_set_spelling) (λ (row : SourceSet). row.def.id) added.sources may.sources;
  marks = any_may (λ (row : SourceSet). row.number) (λ row. record { mark = 0; signal = 0 }) added.sources;
  targets = rows_may (IsStorable HasTargetSetSpelling target_set_spelling) (λ (row : TargetSet). row.def.id) added.targets may.targets;
}

-- ---- worlds

-- a server of the world is one of its servers
server_there : (w : World) (n : ℕ) → n < length w → In (server_at w n) w
server_there w n lt = all_at_place (λ (s : Server). In s w) w n (empty_server []) (at_each (λ (s : Server). In s w) w (λ s there. there)) lt

module _ (raw : RawDefs) (w : World) (defs : Defs) (may : MayLoad raw w defs) (n : ℕ) (stored : StoredServer) (is : stored ≡ stored_server (server_at w n)) {K : Type 0} (kept : K → Kept) (s0 : Sites K) (lt : n < length (names s0)) (stands : Stands (names s0) (held kept s0) (load_first defs n w)) where
  -- the server is one of the world
  here : In (server_at w n) w
  here = server_there w n (omega (arith, first_length defs n w, count_named (names s0) (held kept s0) (load_first defs n w) stands))

  -- a server that gets nothing is loaded as it is
  pub stands_idle : adds_nothing (additions_at defs stored) ≡ true → Stands (names s0) (held kept s0) (load_first defs (suc n) w)
  stands_idle nothing =
      let idle : gains defs (server_at w n) ≡ false = not-true (gains defs (server_at w n)) (sym (plans_gains raw w defs (server_at w n) may.sound may.accepted here) ∙ sym (ap (λ (s : StoredServer). adds_nothing (additions_at defs s)) is) ∙ nothing) in
      subst (Stands (names s0) (held kept s0)) (sym (same_world defs w n idle)) stands

  -- what the server holds
  now_held : (c : Contents) × (get_or (held kept s0) n None ≡ Some c) × Holds (load_first defs n w) (server_at (load_first defs n w) n) c
  now_held = revealed_at (names s0) (held kept s0) (load_first defs n w) n stands lt

  -- once its rows are put, one more server is loaded
  stands_put : (h : List (Option Contents)) (d : Contents) → h ≡ set (held kept s0) n (Some d) → d ≡ with_added (added_rows (additions_at defs stored)) now_held.0 → Stands (names s0) h (load_first defs (suc n) w)
  stands_put h d holds puts =
      let v = load_first defs n w in
      let added = additions_at defs stored in
      let c = now_held.0 in
      let rows : AddsRows defs (server_at v n) added = subst (λ (p : Server × StoredServer). AddsRows defs p.0 (additions_at defs p.1)) (λ i. (sym (next_server defs n w) i, sym is i)) (adds_planned raw w defs (server_at w n) may.sound may.accepted here) in
      let sounds : IsSound (load_at defs n v) = subst IsSound (sym (next_loaded defs n w)) (load_stays_sound defs w (suc n) may.sound may.after) in
      let next : Stands (names s0) (set (held kept s0) n (Some d)) (load_at defs n v) = stands_next (names s0) (held kept s0) defs v n c d stands sounds now_held.2 (subst (Becomes is_loaded (load_at defs n v) (load_server defs (server_at v n)) c) (sym puts) (rows_loaded defs v (server_at v n) added c rows now_held.2 (load_at defs n v))) in
      subst (λ (p : List (Option Contents) × World). Stands (names s0) p.0 p.1) (λ i. (sym holds i, next_loaded defs n w i)) next

  -- a commit of its rows that took place
  pub stands_committed : (rows : AddedRows) → rows ≡ added_rows (additions_at defs stored) → (s1 s2 : Sites K) (most : Bounds) → Begins kept s0 s1 n → WorksOn kept s1 s2 n most (λ c d. d ≡ with_added rows c) → (h : List (Option Contents)) → h ≡ set (held kept s2) n (sees kept s2 n) → Stands (names s0) h (load_first defs (suc n) w)
  stands_committed rows made s1 s2 most begin works h commit =
      let after = took kept s0 s1 s2 n (λ c d. d ≡ with_added rows c) begin works.works h now_held.0 lt works.held commit now_held.1 in
      stands_put h after.0 after.1 (after.2 ∙ ap (λ (r : AddedRows). with_added r now_held.0) made)
