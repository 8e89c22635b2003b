-- Logs and numbers of a server that gets tables and sets.
use Rattle.std.proofs.Common.{◌≡◌, ℕ, ◌≤◌, Bool, true, false, cond, ◌&&◌, ◌⊎◌, inl, inr, List, [], ◌∷◌, ◌++◌, map, Option, Some, None, refl, sym, ap, ap₂, subst, ◌∙◌, arith, ◌+◌, IsTrue, filter, nat_lt, ◌==◌, bytes_eq}
use Rattle.std.specs.List.{AllByRecursion, AllZip, filter_map, flat_map, list_any, enumerate_from}
use Rattle.std.specs.Option.{IfSome, option_map, option_map_or}
use Rattle.std.specs.FinMap.{empty}
use Rattle.std.proofs.lemmas.Bool.{and_parts, and_from, or_cases, or_left, or_right, false≢true, false_from_ne_true}
use Rattle.std.proofs.lemmas.Option.{none-some, same_Some, cond_some}
use Rattle.std.proofs.lemmas.List.{map-append}
use Rattle.std.proofs.lemmas.List.Elements.{filter_map-append}
use Rattle.repl_model.specs.Words.{all_append, all_weaker, Change, LogRecord, TableDef, Registration, Placed, Unit, Rows, table_of, applies, applies_here, after_change, all_apply, At, units, unit_at, unit_of, positions, changes_up_to, change_of, last_end, unplaced, change_fits, table_named, is_change_applicable, is_signal, is_signal_applicable, Registered, ServerTable, Server, tables_of, registered_of, record_fits, LogIsSound, NumbersAreSound, In, at_one, at_each, in_map, in_filter, in_filter_map, in_flat_map, found_first, any_image, each_image, each_given, given_each, each_beside, beside_weaker, find_image, Embeds, embeds_before, embeds_filter_map, embeds_any, same_name, TableGrows, IsNewTable, IsNewRegistration, ServerGrows, holds_after, with_lists, literal}
use Rattle.repl_types.specs.declared.record.Change.TheVariants.{Insert, Update, Delete, Start, Stop}
use Rattle.repl_types.specs.declared.record.LogRecord.TheVariants as records

-- ---- tables and registrations

-- the definitions of tables that get registrations stay
same_defs : (ts us : List ServerTable) → AllZip TableGrows ts us → map (λ t. t.def) us ≡ map (λ t. t.def) ts
same_defs [] [] h = refl
same_defs [] (u ∷ us) h = absurd h
same_defs (t ∷ ts) [] h = absurd h
same_defs (t ∷ ts) (u ∷ us) h = ap₂ (λ (def : TableDef) (defs : List TableDef). def ∷ defs) h.0.0 (same_defs ts us h.1)

-- the definitions of further tables
abbrev pub more_defs : (s u : Server) → ServerGrows s u → List TableDef
more_defs s u g = map (λ t. t.def) g.more_tables

-- a server has its tables after, and further ones follow
pub tables_follow : (s u : Server) (g : ServerGrows s u) → tables_of u ≡ tables_of s ++ more_defs s u g
tables_follow s u g =
    ap tables_of g.same
    ∙ map-append (λ (t : ServerTable). t.def) g.kept g.more_tables
    ∙ ap (λ (defs : List TableDef). defs ++ more_defs s u g) (same_defs s.tables g.kept g.tables)

-- a registration stays one
registered_stay : (s u : Server) → ServerGrows s u → Embeds (λ r q. q ≡ r) (registered_of s) (registered_of u)
registered_stay s u g = subst (λ (rs : List Registered). Embeds (λ r q. q ≡ r) (registered_of s) rs) (sym (ap registered_of g.same ∙ filter_map-append (λ (t : ServerTable). t.registered) g.kept g.more_tables))
    (embeds_before (λ r q. q ≡ r) (registered_of s) (filter_map (λ t. t.registered) g.kept) (filter_map (λ t. t.registered) g.more_tables)
    (embeds_filter_map (λ r q. q ≡ r) (λ (t : ServerTable). t.registered) (λ (t : ServerTable). t.registered) s.tables g.kept
    (beside_weaker TableGrows (λ t t'. IfSome t.registered (λ r. (q : Registered) × (t'.registered ≡ Some q) × (q ≡ r))) (λ t t' h. stays t t' h t.registered refl) s.tables g.kept g.tables)))
  where
    stays : (t t' : ServerTable) → TableGrows t t' → (o : Option Registered) → t.registered ≡ o → IfSome o (λ r. (q : Registered) × (t'.registered ≡ Some q) × (q ≡ r))
    stays t t' h None e = tt
    stays t t' h (Some r) e = (r, h.1 r e, refl)

-- what holds of each registration, and of each that says nothing yet, holds of each after
registrations_hold : (P : Registered → Type 0) → ((r : Registered) → IsNewRegistration r → P r) → (s u : Server) → ServerGrows s u → AllByRecursion P (registered_of s) → AllByRecursion P (registered_of u)
registrations_hold P new s u g h = subst (AllByRecursion P) (sym (ap registered_of g.same))
    (each_given P (λ (t : ServerTable). t.registered) (g.kept ++ g.more_tables)
    (all_append (λ t. IfSome t.registered P) g.kept g.more_tables
    (each_beside TableGrows (λ t. IfSome t.registered P) (λ t. IfSome t.registered P) (λ t t' k held. kept t t' k t.registered refl held) s.tables g.kept g.tables (given_each P (λ (t : ServerTable). t.registered) s.tables h))
    (all_weaker (IsNewTable s) (λ t. IfSome t.registered P) g.more_tables (λ t n. fresh t.registered n.1) g.new_tables)))
  where
    fresh : (o : Option Registered) → IfSome o IsNewRegistration → IfSome o P
    fresh None n = tt
    fresh (Some r) n = new r n

    kept : (t t' : ServerTable) → TableGrows t t' → (o : Option Registered) → t.registered ≡ o → IfSome o P → IfSome t'.registered P
    kept t t' k None e held = fresh t'.registered (k.2 e)
    kept t t' k (Some r) e held = subst (λ (o : Option Registered). IfSome o P) (sym (k.1 r e)) held

-- ---- records

-- a table of a name is found among longer tables, with what holds of it
named_first : (p : TableDef → Bool) (name : List ℕ) (defs more : List TableDef) → option_map_or p (table_named name defs) false ≡ true → option_map_or p (table_named name (defs ++ more)) false ≡ true
named_first p name defs more = by_found (table_named name defs) refl
  where
    by_found : (o : Option TableDef) → table_named name defs ≡ o → option_map_or p o false ≡ true → option_map_or p (table_named name (defs ++ more)) false ≡ true
    by_found None e h = absurd (false≢true h)
    by_found (Some def) e h = ap (λ (o : Option TableDef). option_map_or p o false) (found_first (λ (d : TableDef). bytes_eq name d.name) defs more def e) ∙ h

-- a record that fits a server fits it after
record_fits_after : (s u : Server) → ServerGrows s u → (r : LogRecord) → record_fits s r ≡ true → record_fits u r ≡ true
record_fits_after s u g (records.Change tx change) h = by_cases (or_cases (is_change_applicable (tables_of s) change) (tx == 0 && is_signal_applicable (map (λ r. r.reg) (registered_of s)) change) h)
  where
    signal : is_signal_applicable (map (λ r. r.reg) (registered_of s)) change ≡ true → is_signal_applicable (map (λ r. r.reg) (registered_of u)) change ≡ true
    signal e =
        let of = λ (reg : Registration). bytes_eq (table_of change) reg.table in
        let both = and_parts (is_signal change) (list_any of (map (λ r. r.reg) (registered_of s))) e in
        and_from (is_signal change) (list_any of (map (λ r. r.reg) (registered_of u))) both.0
        (any_image (λ (r : Registered). r.reg) of (registered_of u)
        ∙ embeds_any (λ r q. q ≡ r) (λ (r : Registered). of r.reg) (λ (r : Registered). of r.reg) (λ r q same e. ap (λ (a : Registered). of a.reg) same ∙ e) (registered_of s) (registered_of u) (registered_stay s u g)
        (sym (any_image (λ (r : Registered). r.reg) of (registered_of s)) ∙ both.1))

    by_cases : (is_change_applicable (tables_of s) change ≡ true) ⊎ ((tx == 0 && is_signal_applicable (map (λ r. r.reg) (registered_of s)) change) ≡ true) → record_fits u (records.Change tx change) ≡ true
    by_cases (inl e) = or_left (is_change_applicable (tables_of u) change) (tx == 0 && is_signal_applicable (map (λ r. r.reg) (registered_of u)) change)
        (ap (λ (defs : List TableDef). is_change_applicable defs change) (tables_follow s u g) ∙ named_first (λ def. change_fits def change) (table_of change) (tables_of s) (more_defs s u g) e)
    by_cases (inr e) =
        let both = and_parts (tx == 0) (is_signal_applicable (map (λ r. r.reg) (registered_of s)) change) e in
        or_right (is_change_applicable (tables_of u) change) (tx == 0 && is_signal_applicable (map (λ r. r.reg) (registered_of u)) change)
        (and_from (tx == 0) (is_signal_applicable (map (λ r. r.reg) (registered_of u)) change) both.0 (signal both.1))
record_fits_after s u g (records.Commit tx time authid origin) h = refl
record_fits_after s u g (records.Abort tx) h = refl

-- ---- changes

-- a change leaves the rows of a table, whatever they are, and applies to them
abbrev LeavesAlone : TableDef → Change → Type 0
LeavesAlone def change = (rows : Rows) → applies def change rows ≡ true

-- changes that leave a table alone apply to it, one after another
leave_alone : (def : TableDef) (changes : List Change) (rows : Rows) → AllByRecursion (LeavesAlone def) changes → all_apply def changes rows ≡ true
leave_alone def [] rows h = refl
leave_alone def (change ∷ changes) rows h = and_from (applies def change rows) (all_apply def changes (after_change def change rows)) (h.0 rows) (leave_alone def changes (after_change def change rows) h.1)

-- a change of another table leaves this one alone
another_table : (def : TableDef) (change : Change) → bytes_eq (table_of change) def.name ≡ false → LeavesAlone def change
unfolding applies
another_table def change e rows = ap (λ (b : Bool). cond b (applies_here def change rows) true) e

-- a start or a stop leaves each table alone
signal_leaves : (def : TableDef) (change : Change) → is_signal change ≡ true → LeavesAlone def change
unfolding applies
signal_leaves def (Insert table row) e rows = absurd (false≢true e)
signal_leaves def (Update table before after) e rows = absurd (false≢true e)
signal_leaves def (Delete table row) e rows = absurd (false≢true e)
signal_leaves def (Start table) e rows = by_test (bytes_eq table def.name)
  where
    by_test : (b : Bool) → cond b true true ≡ true
    by_test true = refl
    by_test false = refl
signal_leaves def (Stop table) e rows = by_test (bytes_eq table def.name)
  where
    by_test : (b : Bool) → cond b true true ≡ true
    by_test true = refl
    by_test false = refl

-- a record that has a position is one of the log
in_positions : (n pos : ℕ) (log : List LogRecord) (r : LogRecord) → In (pos, r) (enumerate_from n log) → In r log
in_positions n pos [] r i = absurd i
in_positions n pos (z ∷ zs) r (inl e) = inl (ap (λ (a : At). a.1) e)
in_positions n pos (z ∷ zs) r (inr i) = inr (in_positions (n + 1) pos zs r i)

-- a change of a unit is one of a record of the log
change_in_log : (log : List LogRecord) (change : Change) → In change (flat_map (λ u. unplaced u.changes) (units log)) → (tx : ℕ) × In (records.Change tx change) log
unfolding units
change_in_log log change i =
    let of = in_flat_map (λ (u : Unit). unplaced u.changes) (units log) change i in
    let placed = in_map (λ (p : Placed). p.change) of.0.changes change of.2 in
    let at = in_filter_map (unit_at log) (positions log) of.0 of.1 in
    by_commit at.0 of.0 at.2 placed.0 placed.1 placed.2
  where
    by_record : (tx : ℕ) (r : At) → In r (positions log) → (p : Placed) → change_of tx r ≡ Some p → change ≡ p.change → (t : ℕ) × In (records.Change t change) log
    by_record tx (pos, records.Change t c) j p e same =
        let made = cond_some (t == tx) (record { pos = pos; change = c }) p e in
        (t, subst (λ (a : Change). In (records.Change t a) log) (ap (λ (q : Placed). q.change) made.1 ∙ sym same) (in_positions 1 pos log (records.Change t c) j))
    by_record tx (pos, records.Commit t time authid origin) j p e same = absurd (none-some p e)
    by_record tx (pos, records.Abort t) j p e same = absurd (none-some p e)

    by_commit : (r : At) (u : Unit) → unit_at log r ≡ Some u → (p : Placed) → In p u.changes → change ≡ p.change → (t : ℕ) × In (records.Change t change) log
    by_commit (pos, records.Change t c) u e p j same = absurd (none-some u e)
    by_commit (pos, records.Commit tx time authid origin) u e p j same =
        let made = same_Some (unit_of pos time authid origin (changes_up_to tx pos log)) u e in
        let r = in_filter_map (change_of tx) (filter (λ r. nat_lt (last_end tx pos log) r.0 && nat_lt r.0 pos) (positions log)) p (subst (λ (a : Unit). In p a.changes) (sym made) j) in
        by_record tx r.0 (in_filter (λ (r : At). nat_lt (last_end tx pos log) r.0 && nat_lt r.0 pos) (positions log) r.0 r.1).0 p r.2 same
    by_commit (pos, records.Abort t) u e p j same = absurd (none-some u e)

-- each change of the log of a server leaves a new table alone
change_leaves : (s : Server) (t : ServerTable) → IsNewTable s t → (tx : ℕ) (change : Change) → record_fits s (records.Change tx change) ≡ true → LeavesAlone t.def change
change_leaves s t new tx change h = by_cases (or_cases (is_change_applicable (tables_of s) change) (tx == 0 && is_signal_applicable (map (λ r. r.reg) (registered_of s)) change) h)
  where
    none_named : table_named t.def.name (tables_of s) ≡ None
    none_named = find_image (λ (a : ServerTable). a.def) (λ (def : TableDef). bytes_eq t.def.name def.name) s.tables ∙ ap (option_map (λ (a : ServerTable). a.def)) new.0

    other : is_change_applicable (tables_of s) change ≡ true → bytes_eq (table_of change) t.def.name ≡ false
    other e = false_from_ne_true (bytes_eq (table_of change) t.def.name) (λ same.
        false≢true (sym (ap (λ (o : Option TableDef). option_map_or (λ def. change_fits def change) o false) (ap (λ (name : List ℕ). table_named name (tables_of s)) (same_name (table_of change) t.def.name same) ∙ none_named)) ∙ e))

    by_cases : (is_change_applicable (tables_of s) change ≡ true) ⊎ ((tx == 0 && is_signal_applicable (map (λ r. r.reg) (registered_of s)) change) ≡ true) → LeavesAlone t.def change
    by_cases (inl e) = another_table t.def change (other e)
    by_cases (inr e) =
        let signal = and_parts (tx == 0) (is_signal_applicable (map (λ r. r.reg) (registered_of s)) change) e in
        signal_leaves t.def change (and_parts (is_signal change) (list_any (λ (reg : Registration). bytes_eq (table_of change) reg.table) (map (λ r. r.reg) (registered_of s))) signal.1).0

-- the units of the log of a server apply to a new table
new_table_applies : (s : Server) (t : ServerTable) → IsNewTable s t → AllByRecursion (λ r. IsTrue (record_fits s r)) s.log → all_apply t.def (flat_map (λ u. unplaced u.changes) (units s.log)) empty ≡ true
new_table_applies s t new fits = leave_alone t.def (flat_map (λ u. unplaced u.changes) (units s.log)) empty
    (at_each (LeavesAlone t.def) (flat_map (λ u. unplaced u.changes) (units s.log))
    (λ change i. let r = change_in_log s.log change i in change_leaves s t new r.0 change (at_one (λ r. IsTrue (record_fits s r)) s.log (records.Change r.0 change) fits r.1)))

-- ---- what stays sound

-- the log of a server stays sound
pub log_stays_sound : (s u : Server) → ServerGrows s u → LogIsSound s → LogIsSound u
log_stays_sound s u g h = holds_after LogIsSound s u g (record {
  short = h.short;
  typed = h.typed;
  fits = all_weaker (λ r. IsTrue (record_fits s r)) (λ r. IsTrue (record_fits after r)) s.log (record_fits_after s after (literal s u g)) h.fits;
  apply = subst (AllByRecursion (λ def. IsTrue (applied def))) (sym (tables_follow s after (literal s u g)))
      (all_append (λ def. IsTrue (applied def)) (tables_of s) (more_defs s u g) h.apply
      (each_image (λ def. IsTrue (applied def)) (λ (t : ServerTable). t.def) g.more_tables
      (all_weaker (IsNewTable s) (λ t. IsTrue (applied t.def)) g.more_tables (λ t new. new_table_applies s t new h.fits) g.new_tables)));
  times = h.times;
  early = h.early;
  own = h.own;
  signals = h.signals;
})
  where
    after : Server
    after = with_lists (g.kept ++ g.more_tables) (s.source_sets ++ g.more_sources) (s.target_sets ++ g.more_targets) s

    applied : TableDef → Bool
    applied def = all_apply def (flat_map (λ u. unplaced u.changes) (units s.log)) empty

-- the numbers of a server stay sound
pub numbers_stay_sound : (s u : Server) → ServerGrows s u → NumbersAreSound s → NumbersAreSound u
numbers_stay_sound s u g h = holds_after NumbersAreSound s u g (record {
  captured = h.captured;
  floor = h.floor;
  registered = registrations_hold (λ r. (r.start ≤ s.captured) × (r.floor ≤ s.captured)) (λ r n. (omega (arith, n.0), omega (arith, n.1))) s
      (with_lists (g.kept ++ g.more_tables) (s.source_sets ++ g.more_sources) (s.target_sets ++ g.more_targets) s) (literal s u g) h.registered;
  shown = h.shown;
})
