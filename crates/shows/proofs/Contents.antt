-- What is seen at servers that stand for a world, and that it shows no damage: proofs.
use Rattle.std.proofs.Common.{◌≡◌, ℕ, zero, suc, ◌<◌, ◌≤◌, List, [], ◌∷◌, ◌++◌, length, map, append-nil, refl, sym, ap, ◌∙◌, arith, ◌==◌, Option, Some, None, find, fold, eqb-true, IfSome}
use Rattle.std.specs.List.{AllByRecursion, filter_map, flat_map}
use Rattle.std.proofs.lemmas.Grind.{flat_map-append}
use Rattle.std.specs.Option.{option_map, option_map_or}
use Rattle.world_store.specs.Words.{Is64, IsName, IsSet, b32, short_text, set_spelling, registration_spelling, length32, same_prefixes, Head, CaptureState, RegState, SyncMark, single_spelling, head_spelling, IsHead, capture_spelling, registration_state_spelling, mark_spelling, first_head, first_capture, registration_rows, source_set_rows, table_from_rows, head_of, head_rows, capture_state, capture_rows, registration_state_rows, mark_rows, tables, first_table, with_first, Holds, Stands, registration_rows_are, source_rows_are}
use Rattle.site_store.specs.Words.{Contents, Table, Kept, AllClosed, names, held, work, sees, RowIs, StateIs, Blames, Shows, IsSpelt, IsUndamaged, IsNoDamage, rows_spelt, spelt_undamaged, no_damage}
use Rattle.site_store.specs.declared.sites.Sites.{Sites}
use Rattle.repl_model.specs.Words.{time_limit, Area, Fault, DefinedRegistration, SourceSet, defined_registration_spelling, IsDefinedRegistration, source_set_spelling, set_def_spelling, IsSourceSet, units, empty_server, IsSound, Registered, ServerTable, Server, World, server_in, LogIsSound, ServerKeepsRules, In, at_one, found_in}
use Rattle.prune_control.specs.laws.Marks.{held_marks, marks_undamaged}
use Rattle.subs_sets.specs.laws.Captured.{holds_capture, holds_registrations}
use Rattle.subs_sets.specs.laws.States.{first_or}
use Rattle.subs_sets.specs.laws.Undamaged.{captured_undamaged, there_first}
use Rattle.repl_types.specs.declared.area.Area.TheVariants as areas
use Rattle.repl_types.specs.declared.status.DamageCause.TheVariants as causes
use Rattle.repl_types.specs.declared.unit.Unit.{Unit as LogUnit}
use Rattle.reply_text.specs.declared.reply.Reply.TheVariants as replies
use Rattle.reply_text.specs.Replies.{reply_line}
use Rattle.reply_text.specs.Status.{registration_line, source_set_line}
use Rattle.stored_defs.specs.Reading.{AllStand, HasRecords}
use Rattle.stored_defs.specs.laws.Standing.{all_at_place, holds_spelt, keeps_at, read_is, same_count, seen_at}
use Rattle.cd_tables.specs.laws.InOrder.{all_always}
use Rattle.shows.specs.servers.Rules.{rules, ShowsDamage}
use Rattle.shows.specs.servers.Status.{last_line, mark_of, registration_text, set_text, state_of, status_text, text_at}
use Rattle.shows.proofs.Digits.{state_low, mark_low, head_low, capture_low, server_line_same}
use Rattle.shows.proofs.SetBlame.{server_among}
use Rattle.shows.proofs.StandingStatus.{registration_none, registration_some, set_none, set_some}
use Rattle.shows.proofs.StandingTables.{read_at}
use Rattle.shows.proofs.Numbered.{lines_of_some, lines_of_all}

-- ---- what a server holds

module _ (w : World) (server : Server) (sound : IsSound w) (i : In server w) (c : Contents) (holds : Holds w server c) where
  -- the end of its log
  holds_head : (k : List ℕ) → with_first (table_from_rows single_spelling head_spelling ((record {}, first_head) ∷ [])) (c areas.Head 0) k ≡ table_from_rows single_spelling head_spelling (head_rows server) k
  unfolding tables first_table
  holds_head k = ap (λ (u : Table). u k) (holds areas.Head 0)

  -- what it keeps
  keeps : ServerKeepsRules w server
  keeps = at_one (ServerKeepsRules w) w server sound.definitions.servers i

  -- each entry of these tables is a key and a value
  all_spelt : IsSpelt rules c
  all_spelt areas.Defs t k v has = holds_spelt w server c keeps holds areas.Defs t k v has
  all_spelt areas.Head zero k v has = rows_spelt rules areas.Head 0 single_spelling head_spelling (head_rows server) k v ((tt, head_low (head_of server)), tt) (sym (holds_head k) ∙ there_first (table_from_rows single_spelling head_spelling ((record {}, first_head) ∷ [])) (c areas.Head 0) k v has)
  all_spelt areas.Capture zero k v has = rows_spelt rules areas.Capture 0 single_spelling capture_spelling (capture_rows server) k v ((tt, capture_low (capture_state server)), tt) (sym (holds_capture w server sound i c holds k) ∙ there_first (table_from_rows single_spelling capture_spelling ((record {}, first_capture) ∷ [])) (c areas.Capture 0) k v has)
  all_spelt areas.Capture (suc zero) k v has = rows_spelt rules areas.Capture 1 b32 registration_state_spelling (registration_state_rows server) k v (all_always (λ (r : ℕ × RegState). rules.is_key areas.Capture 1 (b32 r.0) × rules.is_value areas.Capture 1 (registration_state_spelling r.1)) (λ r. (tt, state_low r.1)) (registration_state_rows server)) (sym (holds_registrations w server sound i c holds k) ∙ has)
  all_spelt areas.Prune zero k v has = rows_spelt rules areas.Prune 0 b32 mark_spelling (mark_rows server) k v (all_always (λ (r : ℕ × SyncMark). rules.is_key areas.Prune 0 (b32 r.0) × rules.is_value areas.Prune 0 (mark_spelling r.1)) (λ r. (tt, mark_low r.1)) (mark_rows server)) (sym (ap (λ (u : Table). u k) (held_marks w server c holds)) ∙ has)
  all_spelt a t k v has = (tt, tt)

  -- so no bytes show damage
  spelt_right : (a : Area) (bytes : List ℕ) → Shows rules a (causes.Spelling bytes) (Some c) → ⊥
  spelt_right a bytes h = spelt_undamaged (record { is_key = rules.is_key; is_value = rules.is_value; is_needed = λ b t k d. ⊥; is_unfit = λ b t k v d. ⊥ }) (λ b t k d h. h, λ b t k v d h. h) c all_spelt a (causes.Spelling bytes) h

  -- and nothing that is called for is missing: it is that of a definition that has a spelling
  none_missing : (a : Area) (t : ℕ) (key : List ℕ) → c a t key ≡ None → rules.is_needed a t key c → ⊥
  none_missing areas.Capture (suc zero) key none h =
      let row : DefinedRegistration = h.2.1 in
      let d = (holds_spelt w server c keeps holds areas.Defs 1 h.2.0 (defined_registration_spelling row) h.2.2).1 in
      let same = same_prefixes (b32 row.number) (b32 d.0.number) (registration_spelling row.registration) (registration_spelling d.0.registration) (length32 row.number ∙ sym (length32 d.0.number)) d.2 in
      captured_undamaged w server c sound i holds areas.Capture (causes.Absent key) (1, (none, (d.0.number, h.1 ∙ ap b32 (sym h.2.3) ∙ same.0, (h.2.0, d.0, d.1, h.2.2 ∙ ap Some d.2, refl))))
  none_missing areas.Prune zero key none h =
      let row : SourceSet = h.2.1 in
      let d = (holds_spelt w server c keeps holds areas.Defs 2 h.2.0 (source_set_spelling row) h.2.2).1 in
      let same = same_prefixes (b32 row.number) (b32 d.0.number) (set_def_spelling row.def) (set_def_spelling d.0.def) (length32 row.number ∙ sym (length32 d.0.number)) d.2 in
      marks_undamaged w server c sound i holds areas.Prune (causes.Absent key) (0, (none, (d.0.number, h.1 ∙ ap b32 (sym h.2.3) ∙ same.0, (h.2.0, d.0, d.1, h.2.2 ∙ ap Some d.2, refl))))
  none_missing a t key none h = absurd h

  -- so it shows no damage
  undamaged : IsUndamaged rules c
  undamaged a (causes.Spelling bytes) h = spelt_right a bytes h
  undamaged a (causes.Absent key) h = none_missing a h.0 key h.1.0 h.1.1
  undamaged a (causes.Unfit bytes) h = h.1.2
  undamaged a (causes.NoRest steps) h = h

-- ---- times

-- what bounds the time of each unit, and the one before, bounds the last
last_within : (limit time : ℕ) (us : List LogUnit) → time ≤ limit → AllByRecursion (λ u. u.head.time ≤ limit) us → fold (λ time u. u.head.time) time us ≤ limit
last_within limit time [] le all = le
last_within limit time (u ∷ us) le all = last_within limit u.head.time us all.0 all.1

-- ---- servers that stand for a world

module _ {K : Type 0} (kept : K → Kept) (s0 : Sites K) (closed : AllClosed (work kept s0)) (w : World) (stands : Stands (names s0) (held kept s0) w) where
  -- no damage is reported of them
  pub none_damaged : (s1 : Sites K) (e : Fault) → Blames kept s0 s1 (ShowsDamage kept s0) e → IsNoDamage e
  none_damaged s1 e blames = no_damage kept s0 s1 (λ s. s < length (names s0)) rules e (λ s lt. let r = seen_at kept s0 closed w stands s lt in (r.0, r.1, undamaged w (server_in w s) stands.sound (server_among kept s0 closed w stands s lt) r.0 r.2)) blames

  module _ (s : ℕ) (lt : s < length (names s0)) where
    -- what the server keeps
    kept_there : ServerKeepsRules w (server_in w s)
    kept_there = keeps_at kept s0 closed w stands s lt

    -- the registrations that were read are those of the server
    pub registrations_read : (rows : List DefinedRegistration) → IfSome (sees kept s0 s) (HasRecords IsName short_text IsDefinedRegistration defined_registration_spelling areas.Defs 1 rows) → rows ≡ map (λ row. row.1) (registration_rows (server_in w s))
    registrations_read rows read = read_is kept s0 closed w stands IsName short_text IsDefinedRegistration defined_registration_spelling 1 s (registration_rows (server_in w s)) rows lt (registration_rows_are w (server_in w s) kept_there) refl read

    -- so are the sets
    pub sets_read : (rows : List SourceSet) → IfSome (sees kept s0 s) (HasRecords IsSet set_spelling IsSourceSet source_set_spelling areas.Defs 2 rows) → rows ≡ map (λ row. row.1) (source_set_rows (server_in w s))
    sets_read rows read = read_is kept s0 closed w stands IsSet set_spelling IsSourceSet source_set_spelling 2 s (source_set_rows (server_in w s)) rows lt (source_rows_are w (server_in w s) kept_there) refl read

    -- there are no more tables, and no more sets, than rows are read
    pub tables_few : length (server_in w s).tables ≤ 256
    tables_few = kept_there.count

    pub sets_few : length (server_in w s).source_sets ≤ 256
    sets_few = kept_there.counts.0

    module _ (n : ℕ) (text : List ℕ) where
      module _ (rows : List DefinedRegistration) (are : rows ≡ map (λ row. row.1) (registration_rows (server_in w s))) where
        -- if no registration has a number, its text is added as it stands
        pub registration_passed : find (λ d. d.number == n) rows ≡ None → text ≡ text ++ text_at registration_text (server_in w s).tables n
        registration_passed none = sym (ap (λ (l : List ℕ). text ++ l) (registration_none w (server_in w s) kept_there n rows are none) ∙ append-nil text)

        -- if one has it, its text is the line of its name and of the state that is seen
        pub registration_read : (row : DefinedRegistration) (state : RegState) → find (λ d. d.number == n) rows ≡ Some row → IfSome (sees kept s0 s) (RowIs registration_state_spelling areas.Capture 1 (b32 n) (Some state)) → text ++ registration_line row.registration.table state ≡ text ++ text_at registration_text (server_in w s).tables n
        registration_read row state found read =
            let r = read_at kept s0 closed w stands s lt (RowIs registration_state_spelling areas.Capture 1 (b32 n) (Some state)) read in
            ap (λ (l : List ℕ). text ++ l) (registration_some w (server_in w s) kept_there n rows are row state r.0 found stands.sound (server_among kept s0 closed w stands s lt) r.1 r.2)

      module _ (rows : List SourceSet) (are : rows ≡ map (λ row. row.1) (source_set_rows (server_in w s))) where
        -- the same of sets
        pub set_passed : find (λ d. d.number == n) rows ≡ None → text ≡ text ++ text_at set_text (server_in w s).source_sets n
        set_passed none = sym (ap (λ (l : List ℕ). text ++ l) (set_none w (server_in w s) kept_there n rows are none) ∙ append-nil text)

        -- and of their marks
        pub set_read : (row : SourceSet) (known : SyncMark) → find (λ d. d.number == n) rows ≡ Some row → IfSome (sees kept s0 s) (RowIs mark_spelling areas.Prune 0 (b32 n) (Some known)) → text ++ source_set_line row.def.id known ≡ text ++ text_at set_text (server_in w s).source_sets n
        set_read row known found read =
            let r = read_at kept s0 closed w stands s lt (RowIs mark_spelling areas.Prune 0 (b32 n) (Some known)) read in
            ap (λ (l : List ℕ). text ++ l) (set_some w (server_in w s) kept_there n rows are row known r.0 found r.1 r.2)

    -- the last line is that of the end of the log and of the state of capture that are seen
    pub last_read : (head : Head) (capture : CaptureState) → IsHead head → IfSome (sees kept s0 s) (StateIs head_spelling areas.Head 0 (single_spelling (record {})) first_head head) → IfSome (sees kept s0 s) (StateIs capture_spelling areas.Capture 0 (single_spelling (record {})) first_capture capture) → reply_line (replies.Server (record { last = head.last; commit = head.commit; time = head.time; captured = capture.captured; restart = capture.restart; floor = capture.floor })) ≡ last_line (server_in w s)
    last_read head capture fits read_head read_capture =
        let server = server_in w s in
        let i : In server w = server_among kept s0 closed w stands s lt in
        let key = single_spelling (record {}) in
        let h = read_at kept s0 closed w stands s lt (StateIs head_spelling areas.Head 0 key first_head head) read_head in
        let k = read_at kept s0 closed w stands s lt (StateIs capture_spelling areas.Capture 0 key first_capture capture) read_capture in
        server_line_same head (head_of server) capture (capture_state server) fits.2 time_is
        (h.2 ∙ first_or head_spelling first_head (h.0 areas.Head 0 key) (head_spelling (head_of server)) (holds_head w server stands.sound i h.0 h.1 key))
        (k.2 ∙ first_or capture_spelling first_capture (k.0 areas.Capture 0 key) (capture_spelling (capture_state server)) (holds_capture w server stands.sound i k.0 k.1 key))
      where
        log : LogIsSound (server_in w s)
        log = all_at_place LogIsSound w s (empty_server []) stands.sound.logs (omega (arith, same_count kept s0 closed w stands, lt))

        time_is : Is64 (head_of (server_in w s)).time
        time_is = omega (arith, last_within time_limit 0 (units (server_in w s).log) (omega arith) log.early)

-- ---- the reply

-- its parts one after another are its lines
pub status_parts : (server : Server) → flat_map registration_text server.tables ++ flat_map set_text server.source_sets ++ last_line server ≡ status_text server
status_parts server =
    let some : List (List ℕ) = filter_map (λ t. option_map (λ r. registration_line t.def.name (state_of r)) t.registered) server.tables in
    let all : List (List ℕ) = map (λ side. source_set_line side.def.id (mark_of side)) server.source_sets in
    let last : List ℕ = last_line server in
    let front : flat_map registration_text server.tables ++ flat_map set_text server.source_sets ≡ flat_map (λ l. l) (some ++ all) = sym (flat_map-append (λ l. l) some all ∙ (λ i. registrations i ++ sets i)) in
    let back : last ≡ flat_map (λ l. l) (last ∷ []) = sym (append-nil last) in
    (λ i. front i ++ back i) ∙ sym (flat_map-append (λ l. l) (some ++ all) (last ∷ []))
  where
    agree : (t : ServerTable) → option_map_or (λ l. l) (option_map (λ r. registration_line t.def.name (state_of r)) t.registered) [] ≡ registration_text t
    agree t = pick t.registered
      where
        pick : (o : Option Registered) → option_map_or (λ l. l) (option_map (λ r. registration_line t.def.name (state_of r)) o) [] ≡ option_map_or (λ r. registration_line t.def.name (state_of r)) o []
        pick None = refl
        pick (Some r) = refl

    registrations : flat_map (λ l. l) (filter_map (λ t. option_map (λ r. registration_line t.def.name (state_of r)) t.registered) server.tables) ≡ flat_map registration_text server.tables
    registrations = lines_of_some (λ (t : ServerTable). option_map (λ r. registration_line t.def.name (state_of r)) t.registered) registration_text agree server.tables

    sets : flat_map (λ l. l) (map (λ side. source_set_line side.def.id (mark_of side)) server.source_sets) ≡ flat_map set_text server.source_sets
    sets = lines_of_all set_text server.source_sets

-- ---- what is called for

-- a registration that is found by its number stands there
pub registration_stands : (c : Contents) (n : ℕ) (rows : List DefinedRegistration) (row : DefinedRegistration) → AllStand defined_registration_spelling areas.Defs 1 rows c → find (λ d. d.number == n) rows ≡ Some row → rules.is_needed areas.Capture 1 (b32 n) c
registration_stands c n rows row all found =
    let f = found_in (λ (d : DefinedRegistration). d.number == n) rows row found in
    let there = at_one (λ (d : DefinedRegistration). (k : List ℕ) × (c areas.Defs 1 k ≡ Some (defined_registration_spelling d))) rows row all f.0 in
    (n, refl, (there.0, row, there.1, eqb-true row.number n f.1))

-- so does a set
pub set_stands : (c : Contents) (n : ℕ) (rows : List SourceSet) (row : SourceSet) → AllStand source_set_spelling areas.Defs 2 rows c → find (λ d. d.number == n) rows ≡ Some row → rules.is_needed areas.Prune 0 (b32 n) c
set_stands c n rows row all found =
    let f = found_in (λ (d : SourceSet). d.number == n) rows row found in
    let there = at_one (λ (d : SourceSet). (k : List ℕ) × (c areas.Defs 2 k ≡ Some (source_set_spelling d))) rows row all f.0 in
    (n, refl, (there.0, row, there.1, eqb-true row.number n f.1))
