-- Tables that the changes of a unit call for, and that are damaged: proofs.
use Rattle.std.proofs.Common.{◌≡◌, inl, inr, ℕ, zero, false, List, [], ◌∷◌, refl, sym, ap, subst, ◌∙◌, Option, Some, None, IfSome}
use Rattle.world_store.specs.Words.{short_text}
use Rattle.site_store.specs.Words.{Contents, Table, Kept, Bounds, no_access, Reads, ClosesAll, AtServer, Fails, IsMemoryOr, joined, Shows, ShownBefore, RowIs, Misspelt, MissesOrMisreads, IsMissing, sees, shown_first, shown_second, Looks, GoesOn, Stops, FailsToWrite, write_breaks_after, needed_breaks, unfit_breaks, breaks_after, stops_as, write_fails_on, if_seen, any_seen}
use Rattle.site_store.specs.declared.sites.Sites.{Sites}
use Rattle.repl_model.specs.Words.{Area, DamageCause, Placed, Fault, defined_table_spelling, IsDefinedTable, DefinedTable, is_signal, table_of, In}
use Rattle.repl_types.specs.declared.area.Area.TheVariants as areas
use Rattle.repl_types.specs.declared.status.DamageCause.TheVariants as causes
use Rattle.repl_types.specs.declared.unit.Unit.{Unit as LogUnit}
use Rattle.repl_types.specs.declared.fault.Fault.TheVariants as faults
use Rattle.source_log.specs.Fitting.{may_stand}
use Rattle.source_log.specs.Rules.{all_rules, ShowsDamage, BreaksFirst}
use Rattle.source_log.specs.Units.{may_be_table, calls_for_table, is_unfit_table, table_rules, ShowsBadTable, ShowsUnitDamage}

-- ---- one change of some

-- a change alone is itself
only_one : (changes : List Placed) (p q : Placed) → In p changes → In q (p ∷ []) → In q changes
only_one changes p q i (inl is) = subst (λ (r : Placed). In r changes) (sym is) i
only_one changes p q i (inr none) = absurd none

-- what a change calls for, changes call for
calls_too : (changes : List Placed) (p : Placed) → In p changes → (a : Area) (t : ℕ) (key : List ℕ) → calls_for_table (p ∷ []) a t key → calls_for_table changes a t key
calls_too changes p i areas.Defs zero key h = (h.0, only_one changes p h.0 i h.1, h.2, h.3)
calls_too changes p i a t key h = absurd h

-- and what is unfit for it is for them
unfit_too : (changes : List Placed) (p : Placed) → In p changes → (a : Area) (t : ℕ) (key value : List ℕ) → is_unfit_table (p ∷ []) a t key value → is_unfit_table changes a t key value
unfit_too changes p i areas.Defs zero key value h = (h.0, only_one changes p h.0 i h.1, h.2, h.3, h.4)
unfit_too changes p i a t key value h = absurd h

-- so is damage
shows_too : (changes : List Placed) (p : Placed) → In p changes → (b : Area) (cause : DamageCause) (saw : Option Contents) → Shows (table_rules (p ∷ [])) b cause saw → Shows (table_rules changes) b cause saw
shows_too changes p i b (causes.Spelling bytes) saw h = h
shows_too changes p i b (causes.Absent key) saw h = (h.0, if_seen saw (λ c. (c b h.0 key ≡ None) × calls_for_table (p ∷ []) b h.0 key) (λ c. (c b h.0 key ≡ None) × calls_for_table changes b h.0 key) (λ c n. (n.0, calls_too changes p i b h.0 key n.1)) h.1)
shows_too changes p i b (causes.Unfit bytes) saw h =
    (h.0, if_seen saw (λ c. (key : List ℕ) × (c b h.0 key ≡ Some bytes) × is_unfit_table (p ∷ []) b h.0 key bytes) (λ c. (key : List ℕ) × (c b h.0 key ≡ Some bytes) × is_unfit_table changes b h.0 key bytes) (λ c u. (u.0, u.1, unfit_too changes p i b h.0 u.0 bytes u.2)) h.1)
shows_too changes p i b (causes.NoRest steps) saw h = h

-- ---- contents with the same tables

module _ (changes : List Placed) (c d : Contents) (same : d areas.Defs 0 ≡ c areas.Defs 0) where
  -- a definition stood before
  defs_back : (key : List ℕ) (o : Option (List ℕ)) → d areas.Defs 0 key ≡ o → c areas.Defs 0 key ≡ o
  defs_back key o is = sym (ap (λ (t : Table). t key) same) ∙ is

  -- bytes that are no definition did
  misspelt_back : (a : Area) (t : ℕ) (bytes : List ℕ) → (may_be_table a t bytes → ⊥) → (key : List ℕ) → d a t key ≡ Some bytes → c a t key ≡ Some bytes
  misspelt_back areas.Defs zero bytes bad key is = defs_back key (Some bytes) is
  misspelt_back a t bytes bad key is = absurd (bad tt)

  -- a table was missing before
  missing_back : (a : Area) (t : ℕ) (key : List ℕ) → calls_for_table changes a t key → d a t key ≡ None → c a t key ≡ None
  missing_back areas.Defs zero key h none = defs_back key None none
  missing_back a t key h none = absurd h

  -- or unfit
  unfit_back : (a : Area) (t : ℕ) (key value : List ℕ) → is_unfit_table changes a t key value → d a t key ≡ Some value → c a t key ≡ Some value
  unfit_back areas.Defs zero key value h is = defs_back key (Some value) is
  unfit_back a t key value h is = absurd h

  -- no other damage is shown
  pub tables_shown : ShownBefore (table_rules changes) c d
  tables_shown a (causes.Spelling bytes) h = elim h.1 [
    | inl k ↦ absurd (k.0 tt)
    | inr v ↦ (h.0, inr (v.0, (v.1.0, misspelt_back a h.0 bytes v.0 v.1.0 v.1.1)))
  ]
  tables_shown a (causes.Absent key) h = (h.0, (missing_back a h.0 key h.1.1 h.1.0, h.1.1))
  tables_shown a (causes.Unfit bytes) h = (h.0, (h.1.0, unfit_back a h.0 h.1.0 bytes h.1.2 h.1.1, h.1.2))
  tables_shown a (causes.NoRest steps) h = h

-- ---- calls

module _ {K : Type 0} (kept : K → Kept) (s0 s1 : Sites K) (server : ℕ) where
  -- a call failed for one of some changes
  pub bad_of_some : (changes : List Placed) (p : Placed) → In p changes → (e : Fault) → Stops kept s0 s1 (ShowsBadTable kept s0 server (p ∷ [])) e → Stops kept s0 s1 (ShowsBadTable kept s0 server changes) e
  bad_of_some changes p i e f = stops_as kept s0 s1 (ShowsBadTable kept s0 server (p ∷ [])) (ShowsBadTable kept s0 server changes) e (λ s a cause h. (h.0, shows_too changes p i a cause (sees kept s0 s) h.1)) f

  -- the table of a change can't be read
  pub table_fails : (p : Placed) (most : Bounds) (e : Fault) → is_signal p.change ≡ false → Fails kept s0 s1 most (AtServer server (MissesOrMisreads areas.Defs (IsMissing areas.Defs 0 (short_text (table_of p.change)) (sees kept s0 server)) (Misspelt IsDefinedTable defined_table_spelling areas.Defs 0 (short_text (table_of p.change)) (sees kept s0 server)))) e
      → Stops kept s0 s1 (ShowsBadTable kept s0 server (p ∷ [])) e
  table_fails p most e plain f =
      let key = short_text (table_of p.change) in
      let saw = sees kept s0 server in
      let all = table_rules (p ∷ []) in
      let needed : IfSome saw (all.is_needed areas.Defs 0 key) = if_seen saw (λ _. Unit {0}) (all.is_needed areas.Defs 0 key) (λ c _. (p, inl refl, plain, refl)) (any_seen saw) in
      needed_breaks all kept IsDefinedTable defined_table_spelling s0 s1 server areas.Defs 0 key most e (λ bytes h. h) needed f

  -- or the change may not stand there
  pub table_is_bad : (s2 : Sites K) (p : Placed) (table : DefinedTable) (e : Fault) → is_signal p.change ≡ false → Reads kept s0 s1 server areas.Defs → IfSome (sees kept s0 server) (RowIs defined_table_spelling areas.Defs 0 (short_text (table_of p.change)) (Some table)) → IsDefinedTable table → may_stand table.def p.change ≡ false
      → ClosesAll kept s1 s2 no_access → IsMemoryOr (faults.Damaged server areas.Defs (causes.Unfit (defined_table_spelling table))) e → Stops kept s0 s2 (ShowsBadTable kept s0 server (p ∷ [])) e
  table_is_bad s2 p table e plain read row fits refused closes fault =
      let key = short_text (table_of p.change) in
      let saw = sees kept s0 server in
      let bytes = defined_table_spelling table in
      let all = table_rules (p ∷ []) in
      let unfit : IfSome saw (all.is_unfit areas.Defs 0 key bytes) = if_seen saw (λ _. Unit {0}) (all.is_unfit areas.Defs 0 key bytes) (λ c _. (p, inl refl, plain, refl, (table, fits, refl, refused))) (any_seen saw) in
      unfit_breaks all kept s0 s1 s2 server areas.Defs 0 key bytes e read row unfit closes fault

-- ---- a unit

module _ {K : Type 0} (kept : K → Kept) (s0 s1 : Sites K) (server : ℕ) (unit : LogUnit) where
  -- the end of the log can't be read
  pub unit_end_fails : (e : Fault) → BreaksFirst kept s0 s1 server e → Stops kept s0 s1 (ShowsUnitDamage kept s0 server unit) e
  unit_end_fails e f = stops_as kept s0 s1 (ShowsDamage kept s0 server) (ShowsUnitDamage kept s0 server unit) e (λ s a cause h. (h.0, shown_first all_rules (table_rules unit.changes) a cause (sees kept s0 s) h.1)) f

  -- or a table of its changes, after that
  pub unit_tables_fail : (s2 : Sites K) (e : Fault) → Looks kept s0 s1 → Stops kept s1 s2 (ShowsBadTable kept s1 server unit.changes) e → Stops kept s0 s2 (ShowsUnitDamage kept s0 server unit) e
  unit_tables_fail s2 e looks f =
      let tables = table_rules unit.changes in
      breaks_after (joined all_rules tables) kept s0 s1 s2 server e looks
      (stops_as kept s1 s2 (ShowsBadTable kept s1 server unit.changes) (ShowsUnitDamage kept s1 server unit) e (λ s a cause h. (h.0, shown_second all_rules tables a cause (sees kept s1 s) h.1)) f)

  -- or its commit can't be put
  pub unit_commit_fails : (s2 s3 : Sites K) (P : Contents → Contents → Type 0) (e : Fault) → Looks kept s0 s1 → GoesOn kept s1 s2 server P → FailsToWrite kept s2 s3 e → Stops kept s0 s3 (ShowsUnitDamage kept s0 server unit) e
  unit_commit_fails s2 s3 P e looks goes f = write_breaks_after (joined all_rules (table_rules unit.changes)) kept s0 s1 s3 server e looks (write_fails_on kept s1 s2 s3 server P e goes f)
