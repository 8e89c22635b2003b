-- The steps of a signal, one after another, and what is known if one fails: proofs.
use Rattle.std.proofs.Common.{◌≡◌, ℕ, List, [], map, sym, ap, subst, ◌∙◌, Option, Some, None}
use Rattle.std.proofs.lemmas.Option.{slice_get_within, get_or_from_slice_get}
use Rattle.world_store.specs.Words.{SyncMark, head_of, Reveals, Stands}
use Rattle.site_store.specs.Words.{Contents, Kept, AllClosed, names, held, work, sees, Rules, joined, Shows, Damages, IsUndamaged, IsNoDamage, shown_first, shown_second, no_damage, Looks, Breaks, stops_as, stops_after, looks_sees}
use Rattle.site_store.specs.declared.sites.Sites.{Sites}
use Rattle.repl_model.specs.Words.{Placed, Fault, source_tables, signal_records, empty_server, Server, World, KnownSet, server_in, at_place_in}
use Rattle.repl_types.specs.declared.unit.Unit.{Unit as LogUnit}
use Rattle.source_log.specs.Rules.{all_rules}
use Rattle.source_log.specs.Scanning.{IsSeenAs}
use Rattle.source_log.specs.Units.{unit_records, table_rules, HasNoRoomFor, ShowsUnitDamage}
use Rattle.set_places.specs.declared.placed_set.PlacedSet.{PlacedSet}
use Rattle.set_places.specs.Places.{IsPlacedAs}
use Rattle.set_places.specs.Steps.{BlamesUnchanged, HasStepped}
use Rattle.set_places.specs.laws.Commits.{stops_unchanged, unchanged_after}
use Rattle.target_steps.specs.laws.AtServers.{stepped_after, revealed, revealed_after}
use Rattle.prune_control.specs.Noting.{mark_rules}
use Rattle.prune_control.specs.laws.Marks.{marks_undamaged}
use Rattle.full_refresh.specs.PutSignals.{PutsSignal, HasPutSignal}
use Rattle.full_refresh.specs.Signals.{start_of, unit_of_signal, ShowsDamage}
use Rattle.full_refresh.proofs.SignalRecords.{signal_is_unit}

-- what the log of a set's source should have for its signal
abbrev pub log_rules : PlacedSet → Rules
log_rules set = joined all_rules (table_rules (map start_of (source_tables set.at_source.def)))

module _ {K : Type 0} (kept : K → Kept) (set : PlacedSet) where
  -- ---- who is to blame

  module _ (s0 s1 : Sites K) where
    -- if the mark wasn't read
    pub mark_blames : (e : Fault) → Breaks mark_rules kept s0 s1 set.source e → BlamesUnchanged kept s0 s1 (ShowsDamage kept s0 set) e
    mark_blames e f = stops_unchanged kept s0 s1 (ShowsDamage kept s0 set) e (stops_as kept s0 s1 (Damages (λ s. s ≡ set.source) mark_rules kept s0) (ShowsDamage kept s0 set) e (λ s a cause h. (h.0, shown_second (log_rules set) mark_rules a cause (sees kept s0 s) h.1)) f)

    module _ (looks : Looks kept s0 s1) (s2 : Sites K) where
      -- or the end of the log
      pub end_blames : (e : Fault) → Breaks all_rules kept s1 s2 set.source e → BlamesUnchanged kept s0 s2 (ShowsDamage kept s0 set) e
      end_blames e f = stops_unchanged kept s0 s2 (ShowsDamage kept s0 set) e (stops_after kept s0 s1 s2 looks.most (ShowsDamage kept s0 set) e looks.stays.passes looks.stays.held (stops_as kept s1 s2 (Damages (λ s. s ≡ set.source) all_rules kept s1) (ShowsDamage kept s0 set) e
          (λ s a cause h. (h.0, shown_first (log_rules set) mark_rules a cause (sees kept s0 s) (shown_first all_rules (table_rules (map start_of (source_tables set.at_source.def))) a cause (sees kept s0 s) (subst (Shows all_rules a cause) (looks_sees kept s0 s1 looks s) h.1)))) f))

      -- or the unit wasn't appended
      pub unit_blames : (unit : LogUnit) (e : Fault) → unit.changes ≡ map start_of (source_tables set.at_source.def) → BlamesUnchanged kept s1 s2 (ShowsUnitDamage kept s1 set.source unit) e → BlamesUnchanged kept s0 s2 (ShowsDamage kept s0 set) e
      unit_blames unit e made h = unchanged_after kept s0 s1 s2 (ShowsUnitDamage kept s1 set.source unit) (ShowsDamage kept s0 set) e looks
          (λ s a cause d. (d.0, shown_first (log_rules set) mark_rules a cause (sees kept s0 s) (subst (λ (l : List Placed). Shows (joined all_rules (table_rules l)) a cause (sees kept s0 s)) made (subst (Shows (joined all_rules (table_rules unit.changes)) a cause) (looks_sees kept s0 s1 looks s) d.1)))) h

  -- ---- in a world

  module _ (s0 s1 : Sites K) (closed : AllClosed (work kept s0)) (w : World) (k : KnownSet) (stands : Stands (names s0) (held kept s0) w) (placed : IsPlacedAs w k set) where
    -- its place is that of the world's server
    pub place_is : server_in w set.source ≡ k.source
    place_is = get_or_from_slice_get w set.source k.source (empty_server []) placed.source

    -- so it is seen as it is in the world
    pub seen_as : Looks kept s0 s1 → IsSeenAs kept s1 set.source w
    seen_as looks = record {
      sound = stands.sound;
      within = slice_get_within w set.source k.source placed.source;
      reveals = subst (λ (s : Server). Reveals w s (sees kept s1 set.source)) (sym place_is) (revealed_after kept set s0 s1 closed w k stands placed looks);
    }

    -- no damage is found of the mark
    pub mark_undamaged : (e : Fault) → Breaks mark_rules kept s0 s1 set.source e → IsNoDamage e
    mark_undamaged e f =
        let saw = revealed kept set s0 s1 closed w k stands placed in
        no_damage kept s0 s1 (λ s. s ≡ set.source) mark_rules e
        (λ s is. subst (λ (q : ℕ). (c : Contents) × (sees kept s0 q ≡ Some c) × IsUndamaged mark_rules c) (sym is) (saw.0, saw.1, marks_undamaged w k.source saw.0 stands.sound (at_place_in w set.source k.source placed.source) saw.2)) f.blames

  -- the records of the unit that was made are those of the signal
  pub records_made : (w : World) (k : KnownSet) (unit : LogUnit) (time : ℕ) → IsPlacedAs w k set → unit ≡ unit_of_signal set.at_source.def time → time ≡ (head_of k.source).time → unit_records unit ≡ signal_records k.at_source.def k.source.log
  records_made w k unit time placed made at = ap unit_records made ∙ (λ i. unit_records (unit_of_signal (placed.source_def i) (at i))) ∙ signal_is_unit k.at_source.def k.source.log

  -- what was answered after reads is so from the beginning
  pub answered_after : (s0 s1 s2 : Sites K) (known : SyncMark) (unit : LogUnit) (c : Contents) (answer : Option ℕ) → held kept s1 ≡ held kept s0 → sees kept s1 set.source ≡ Some c → HasPutSignal kept s1 s2 set known unit answer
      → (P : Option ℕ → Type 0) → ((held kept s2 ≡ held kept s0) × HasNoRoomFor unit c → P None) → ((seq : ℕ) → HasStepped kept s0 s2 set.source (PutsSignal set.at_source.number known unit seq) → P (Some seq)) → P answer
  answered_after s0 s1 s2 known unit c None same saw full P none some = none (full.same ∙ same, full.none c saw)
  answered_after s0 s1 s2 known unit c (Some seq) same saw put P none some = some seq (stepped_after kept set s0 s1 s2 set.source (PutsSignal set.at_source.number known unit seq) same put.stepped)
