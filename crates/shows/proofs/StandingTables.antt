-- What is shown of servers that stand for a world, and that no damage is reported of them.
use Rattle.std.proofs.Common.{◌≡◌, ℕ, zero, ◌<◌, List, [], length, refl, sym, ap, subst, ◌∙◌, false, Option, Some, None, IfSome, is_some, slice_get}
use Rattle.std.specs.List.{AllByRecursion}
use Rattle.std.specs.Option.{option_and_then, option_map, option_map_or}
use Rattle.world_store.specs.Words.{Is64, b64, IsKey, key_spelling, short_text, IsLogRecord, log_spelling, change_row_spelling, IsChangeRow, uow_spelling, IsUow, change_key_spelling, IsChangeKey, SourceRow, IsSourceRow, source_row_spelling, Spells, table_from_rows, fits_each, row_of, change_rows_of, uow_rows, log_rows, source_rows, tables, definition_table, source_table, change_table, registration_rows, no_rows, Holds, Stands, RowFits}
use Rattle.site_store.specs.Words.{Contents, Table, Kept, AllClosed, names, held, work, sees, RowIs, Bounds, Stays, Blames, IsNoDamage, IsSpelt, no_damage, spelt_undamaged, stays_sees}
use Rattle.site_store.specs.declared.sites.Sites.{Sites}
use Rattle.repl_model.specs.Words.{Area, Fault, DefinedTable, defined_table_spelling, IsDefinedTable, defined_registration_spelling, IsDefinedRegistration, DefinedRegistration, SourceTable, NumbersAreSound, empty_server, Registered, Server, ServerTable, World, as_source, server_table, server_in, LogIsSound, KeepsTable, ServerKeepsRules, table_after, at_one, at_place_in}
use Rattle.repl_types.specs.declared.area.Area.TheVariants as areas
use Rattle.reply_text.specs.Rows.{row_line, log_line}
use Rattle.stored_defs.specs.laws.Standing.{all_at_place, holds_defs, holds_spelt, keeps_at, same_count, seen_at}
use Rattle.stored_defs.specs.laws.NamedTables.{table_stands, table_numbered}
use Rattle.cd_tables.specs.Captured.{ServerIsSound}
use Rattle.set_places.specs.laws.Registrations.{no_registration_row, registration_row_is}
use Rattle.set_places.specs.laws.Sources.{table_keyed}
use Rattle.shows.specs.tables.Replies.{change_reply, change_text, log_text, registered_named, source_text, stored_change_line, stored_unit_line, table_reply, unit_text}
use Rattle.shows.specs.tables.Records.{AreShown, FollowsOfText, rows_text}
use Rattle.shows.specs.tables.Rules.{rules, ShowsDamage}
use Rattle.shows.proofs.StandingRows.{change_rows_are, change_text_is, log_records_are, log_text_is, source_rows_are, source_rows_fit, source_text_is, unit_rows_are, unit_text_is}

-- ---- what a server holds

-- what stands in a table that is made of rows is the key and the value of one
rows_spell : {A X : Type 0} (key_fits : A → Type 0) (key : A → List ℕ) (fits : X → Type 0) (spelling : X → List ℕ) (rows : List (A × X)) (k v : List ℕ) → AllByRecursion (RowFits key_fits fits) rows → table_from_rows key spelling rows k ≡ Some v → Spells key_fits key k × Spells fits spelling v
rows_spell key_fits key fits spelling rows k v all has =
    let r = row_of key spelling rows k v has in
    let fit = fits_each (RowFits key_fits fits) rows r.0 all r.1 in
    ((r.0.0, fit.0, sym r.2), (r.0.1, fit.1, sym r.3))

module _ (w : World) (server : Server) (c : Contents) (holds : Holds w server c) where
  -- its log
  holds_log : c areas.Log 0 ≡ table_from_rows b64 log_spelling (log_rows server)
  unfolding tables
  holds_log = holds areas.Log 0

  -- the tables of its source
  holds_source : (n : ℕ) → c areas.Source n ≡ source_table server n
  unfolding tables
  holds_source n = holds areas.Source n

  -- the table of the source with a number, if it has one
  holds_table : (n : ℕ) (t : ServerTable) → slice_get server.tables n ≡ Some t → c areas.Source n ≡ table_from_rows key_spelling source_row_spelling (source_rows server t.def)
  holds_table n t at = holds_source n ∙ ap (λ (o : Option ServerTable). option_map_or (λ t. table_from_rows key_spelling source_row_spelling (source_rows server t.def)) o no_rows) at

  -- its change-data tables
  holds_changes : (n : ℕ) → c areas.Cd n ≡ change_table server n
  unfolding tables
  holds_changes n = holds areas.Cd n

  -- the change-data table of the registration with a number, if there is one
  holds_registered : (n : ℕ) (t : ServerTable) (r : Registered) → slice_get server.tables n ≡ Some t → t.registered ≡ Some r → c areas.Cd n ≡ table_from_rows change_key_spelling change_row_spelling (change_rows_of server r)
  holds_registered n t r at registered =
      holds_changes n
      ∙ ap (λ (o : Option ServerTable). of_registered (option_and_then (λ t. t.registered) o)) at
      ∙ ap of_registered registered
    where
      of_registered : Option Registered → Table
      of_registered o = option_map_or (λ r. table_from_rows change_key_spelling change_row_spelling (change_rows_of server r)) o no_rows

  -- its unit-of-work table
  holds_units : c areas.Uow 0 ≡ table_from_rows b64 uow_spelling (uow_rows server)
  unfolding tables
  holds_units = holds areas.Uow 0

  module _ (keeps : ServerKeepsRules w server) (sound : ServerIsSound server) where
    -- each entry of these tables is a key and a value
    all_spelt : IsSpelt rules c
    all_spelt areas.Defs t k v has = holds_spelt w server c keeps holds areas.Defs t k v has
    all_spelt areas.Source t k v has = pick (slice_get server.tables t) (sym (ap (λ (u : Table). u k) (holds_source t)) ∙ has)
      where
        pick : (o : Option ServerTable) → option_map_or (λ (u : ServerTable). table_from_rows key_spelling source_row_spelling (source_rows server u.def)) o no_rows k ≡ Some v → rules.is_key areas.Source t k × rules.is_value areas.Source t v
        pick None e = absurd cc
        pick (Some u) e = rows_spell IsKey key_spelling IsSourceRow source_row_spelling (source_rows server u.def) k v (source_rows_fit server u.def sound.log) e
    all_spelt areas.Log zero k v has = rows_spell Is64 b64 IsLogRecord log_spelling (log_rows server) k v (log_records_are server sound.log).fit (sym (ap (λ (u : Table). u k) holds_log) ∙ has)
    all_spelt areas.Cd t k v has = pick (slice_get server.tables t) refl (sym (ap (λ (u : Table). u k) (holds_changes t)) ∙ has)
      where
        of_table : (u : ServerTable) → slice_get server.tables t ≡ Some u → (o : Option Registered) → u.registered ≡ o → option_map_or (λ (r : Registered). table_from_rows change_key_spelling change_row_spelling (change_rows_of server r)) o no_rows k ≡ Some v → rules.is_key areas.Cd t k × rules.is_value areas.Cd t v
        of_table u at None is e = absurd cc
        of_table u at (Some r) is e = rows_spell IsChangeKey change_key_spelling IsChangeRow change_row_spelling (change_rows_of server r) k v (change_rows_are server r sound t u at is).fit e

        pick : (o : Option ServerTable) → slice_get server.tables t ≡ o → option_map_or (λ (r : Registered). table_from_rows change_key_spelling change_row_spelling (change_rows_of server r)) (option_and_then (λ (u : ServerTable). u.registered) o) no_rows k ≡ Some v → rules.is_key areas.Cd t k × rules.is_value areas.Cd t v
        pick None at e = absurd cc
        pick (Some u) at e = of_table u at u.registered refl e
    all_spelt areas.Uow zero k v has = rows_spell Is64 b64 IsUow uow_spelling (uow_rows server) k v (unit_rows_are server sound).fit (sym (ap (λ (u : Table). u k) holds_units) ∙ has)
    all_spelt a t k v has = (tt, tt)

-- ---- registrations by the names of tables

-- if no registration is stored under a name, no table of the name is registered
not_registered : (w : World) (server : Server) → ServerKeepsRules w server → (name : List ℕ) → table_from_rows short_text defined_registration_spelling (registration_rows server) (short_text name) ≡ None → registered_named name server ≡ None
not_registered w server keeps name none = of_table (server_table name server) refl
  where
    of_registered : (t : ServerTable) → server_table name server ≡ Some t → (o : Option Registered) → t.registered ≡ o → o ≡ None
    of_registered t found None is = refl
    of_registered t found (Some r) is = absurd (no_registration_row w server keeps name none (ap (λ (o : Option ServerTable). is_some (option_and_then (as_source server) o)) found ∙ ap (λ (o : Option Registered). is_some (option_map (source_of t) o)) is))
      where
        source_of : ServerTable → Registered → SourceTable
        source_of t r = record { def = table_after server.log t.def; reg = r.reg; log = server.log }

    of_table : (o : Option ServerTable) → server_table name server ≡ o → option_and_then (λ (t : ServerTable). t.registered) o ≡ None
    of_table None found = refl
    of_table (Some t) found = of_registered t found t.registered refl

-- ---- servers that stand for a world

-- what is seen after a call that changed nothing was seen before
seen_before : {K : Type 0} (kept : K → Kept) (s0 s1 : Sites K) (x : Bounds) (s : ℕ) (P : Contents → Type 0) → Stays kept s0 s1 x → IfSome (sees kept s1 s) P → IfSome (sees kept s0 s) P
seen_before kept s0 s1 x s P stays read = subst (λ (o : Option Contents). IfSome o P) (stays_sees kept s0 s1 x stays s) read

-- a record is found, or its spelling is not
found_too : {X : Type 0} (spelling : X → List ℕ) (o : Option X) → is_some o ≡ is_some (option_map spelling o)
found_too spelling None = refl
found_too spelling (Some x) = refl

module _ {K : Type 0} (kept : K → Kept) (s0 : Sites K) (closed : AllClosed (work kept s0)) (w : World) (stands : Stands (names s0) (held kept s0) w) where
  -- each is sound
  sound_at : (s : ℕ) → s < length (names s0) → ServerIsSound (server_in w s)
  sound_at s lt =
      let within : s < length w = subst (λ (n : ℕ). s < n) (sym (same_count kept s0 closed w stands)) lt in
      record {
        log = all_at_place LogIsSound w s (empty_server []) stands.sound.logs within;
        numbers = all_at_place NumbersAreSound w s (empty_server []) stands.sound.numbers within;
        tables = (keeps_at kept s0 closed w stands s lt).tables;
      }

  -- no damage is reported of them
  pub none_damaged : (s1 : Sites K) (e : Fault) → Blames kept s0 s1 (ShowsDamage kept s0) e → IsNoDamage e
  none_damaged s1 e blames = no_damage kept s0 s1 (λ s. s < length (names s0)) rules e (λ s lt. let r = seen_at kept s0 closed w stands s lt in (r.0, r.1, spelt_undamaged rules (λ a t key c h. h, λ a t key value c h. h) r.0 (all_spelt w (server_in w s) r.0 r.2 (keeps_at kept s0 closed w stands s lt) (sound_at s lt)))) blames

  module _ (s : ℕ) (lt : s < length (names s0)) where
    -- what was seen is of what the server holds
    pub read_at : (P : Contents → Type 0) → IfSome (sees kept s0 s) P → (c : Contents) × Holds w (server_in w s) c × P c
    read_at P read = let r = seen_at kept s0 closed w stands s lt in (r.0, r.2, subst (λ (o : Option Contents). IfSome o P) r.1 read)

    -- what follows of the text of rows follows of the reply, if it is the text of rows that the server holds
    shown_at : {A X : Type 0} (key_fits : A → Type 0) (key : A → List ℕ) (fits : X → Type 0) (spelling : X → List ℕ) (line : A → X → List ℕ) (a : Area) (t : ℕ) (rows : List (A × X)) (reply : List ℕ) (P : List ℕ → Type 0) → AreShown key_fits key fits rows → ((c : Contents) → Holds w (server_in w s) c → c a t ≡ table_from_rows key spelling rows) → rows_text line rows ≡ reply → IfSome (sees kept s0 s) (FollowsOfText key_fits key fits spelling line a t P) → P reply
    shown_at key_fits key fits spelling line a t rows reply P are holds text read =
        let r = read_at (FollowsOfText key_fits key fits spelling line a t P) read in
        subst P text (r.2 rows are (holds r.0 r.1))

    -- of the log
    pub log_shown : (P : List ℕ → Type 0) → IfSome (sees kept s0 s) (FollowsOfText Is64 b64 IsLogRecord log_spelling log_line areas.Log 0 P) → P (log_text (server_in w s))
    log_shown P = let server = server_in w s in shown_at Is64 b64 IsLogRecord log_spelling log_line areas.Log 0 (log_rows server) (log_text server) P (log_records_are server (sound_at s lt).log) (holds_log w server) (log_text_is server)

    -- of the captured units
    pub units_shown : (P : List ℕ → Type 0) → IfSome (sees kept s0 s) (FollowsOfText Is64 b64 IsUow uow_spelling stored_unit_line areas.Uow 0 P) → P (unit_text (server_in w s))
    units_shown P = let server = server_in w s in shown_at Is64 b64 IsUow uow_spelling stored_unit_line areas.Uow 0 (uow_rows server) (unit_text server) P (unit_rows_are server (sound_at s lt)) (holds_units w server) (unit_text_is server)

    module _ (name : List ℕ) where
      -- what was read of a definition under the name is what stands there
      stands_there : {X : Type 0} (spelling : X → List ℕ) (t : ℕ) (row : Option X) → IfSome (sees kept s0 s) (RowIs spelling areas.Defs t (short_text name) row) → definition_table (server_in w s) t (short_text name) ≡ option_map spelling row
      stands_there spelling t row read =
          let r = read_at (RowIs spelling areas.Defs t (short_text name) row) read in
          sym (ap (λ (u : Table). u (short_text name)) (holds_defs w (server_in w s) r.0 r.1 t)) ∙ r.2

      -- ---- tables

      -- a definition was found if and only if there is a table of the name
      pub found_is : (row : Option DefinedTable) → IfSome (sees kept s0 s) (RowIs defined_table_spelling areas.Defs 0 (short_text name) row) → is_some row ≡ is_some (server_table name (server_in w s))
      found_is row read =
          found_too defined_table_spelling row
          ∙ ap (λ (o : Option (List ℕ)). is_some o) (sym (stands_there defined_table_spelling 0 row read))
          ∙ table_stands w (server_in w s) (keeps_at kept s0 closed w stands s lt) name

      -- if there is none, there is nothing to show
      pub none_found : IfSome (sees kept s0 s) (RowIs {X = DefinedTable} defined_table_spelling areas.Defs 0 (short_text name) None) → table_reply name (server_in w s) ≡ []
      none_found read = pick (server_table name (server_in w s)) (found_is None read)
        where
          pick : (o : Option ServerTable) → false ≡ is_some o → option_map_or (λ t. source_text (server_in w s) t.def) o [] ≡ []
          pick None e = refl
          pick (Some t) e = absurd cc

      -- else what follows of the text of its rows follows of the reply
      pub table_shown : (s1 : Sites K) (x : Bounds) (d : DefinedTable) → IsDefinedTable d → IfSome (sees kept s0 s) (RowIs defined_table_spelling areas.Defs 0 (short_text name) (Some d)) → Stays kept s0 s1 x → (P : List ℕ → Type 0) → IfSome (sees kept s1 s) (FollowsOfText IsKey key_spelling IsSourceRow source_row_spelling (λ _ r. row_line r.row) areas.Source d.number P) → P (table_reply name (server_in w s))
      table_shown s1 x d fit read stays P took =
          let server = server_in w s in
          let keeps = keeps_at kept s0 closed w stands s lt in
          let t = table_numbered w server keeps name d fit (stands_there defined_table_spelling 0 (Some d) read) in
          shown_at IsKey key_spelling IsSourceRow source_row_spelling (λ _ (r : SourceRow). row_line r.row) areas.Source d.number (source_rows server t.0.def) (table_reply name server) P
          (source_rows_are server t.0.def (sound_at s lt).log (table_keyed t.0 (at_one KeepsTable server.tables t.0 keeps.tables (at_place_in server.tables d.number t.0 t.1))))
          (λ c holds. holds_table w server c holds d.number t.0 t.1)
          (source_text_is server t.0.def ∙ ap (λ (o : Option ServerTable). option_map_or (λ t. source_text server t.def) o []) (sym t.2))
          (seen_before kept s0 s1 x s (FollowsOfText IsKey key_spelling IsSourceRow source_row_spelling (λ _ r. row_line r.row) areas.Source d.number P) stays took)

      -- ---- change rows

      -- if no registration was found, the table isn't registered
      pub none_registered : IfSome (sees kept s0 s) (RowIs {X = DefinedRegistration} defined_registration_spelling areas.Defs 1 (short_text name) None) → registered_named name (server_in w s) ≡ None
      none_registered read = not_registered w (server_in w s) (keeps_at kept s0 closed w stands s lt) name (stands_there {X = DefinedRegistration} defined_registration_spelling 1 None read)

      -- so there is nothing to show
      pub nothing_registered : IfSome (sees kept s0 s) (RowIs {X = DefinedRegistration} defined_registration_spelling areas.Defs 1 (short_text name) None) → change_reply name (server_in w s) ≡ []
      nothing_registered read = ap (λ (o : Option Registered). option_map_or (change_text (server_in w s)) o []) (none_registered read)

      module _ (d : DefinedRegistration) (fit : IsDefinedRegistration d) (read : IfSome (sees kept s0 s) (RowIs defined_registration_spelling areas.Defs 1 (short_text name) (Some d))) where
        -- else the table with its number is the one of the name, and is registered
        pub registered : (t : ServerTable) × (r : Registered) × (server_table name (server_in w s) ≡ Some t) × (slice_get (server_in w s).tables d.number ≡ Some t) × (t.registered ≡ Some r) × (d.registration ≡ r.reg)
        registered = registration_row_is w (server_in w s) (keeps_at kept s0 closed w stands s lt) name d fit (stands_there defined_registration_spelling 1 (Some d) read)

        -- this is its registration
        pub registered_is : registered_named name (server_in w s) ≡ Some registered.1
        registered_is = let q = registered in ap (option_and_then (λ (t : ServerTable). t.registered)) q.2 ∙ q.4

        -- and what follows of the text of its rows follows of the reply
        pub changes_shown : (s1 : Sites K) (x : Bounds) → Stays kept s0 s1 x → (P : List ℕ → Type 0) → IfSome (sees kept s1 s) (FollowsOfText IsChangeKey change_key_spelling IsChangeRow change_row_spelling stored_change_line areas.Cd d.number P) → P (change_reply name (server_in w s))
        changes_shown s1 x stays P took =
            let server = server_in w s in
            let q = registered in
            shown_at IsChangeKey change_key_spelling IsChangeRow change_row_spelling stored_change_line areas.Cd d.number (change_rows_of server q.1) (change_reply name server) P
            (change_rows_are server q.1 (sound_at s lt) d.number q.0 q.3 q.4)
            (λ c holds. holds_registered w server c holds d.number q.0 q.1 q.3 q.4)
            (change_text_is server q.1 ∙ ap (λ (o : Option Registered). option_map_or (change_text server) o []) (sym registered_is))
            (seen_before kept s0 s1 x s (FollowsOfText IsChangeKey change_key_spelling IsChangeRow change_row_spelling stored_change_line areas.Cd d.number P) stays took)
