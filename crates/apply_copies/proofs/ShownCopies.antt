-- The rows of a user copy as they stand at its target, their text, and why they weren't shown whole.
use Rattle.std.proofs.Common.{◌≡◌, ℕ, ◌<◌, List, [], ◌∷◌, ◌++◌, length, map, sym, ap, subst, ◌∙◌, arith, inl, inr, Option, Some, IfSome, slice_get}
use Rattle.std.specs.FinMap.{entries}
use Rattle.std.specs.List.{AllByRecursion, flat_map}
use Rattle.std.specs.Option.{option_map_or, option_and_then}
use Rattle.std.proofs.lemmas.List.{length-map}
use Rattle.std.proofs.lemmas.Option.{same_Some, slice_get_within}
use Rattle.world_store.specs.Words.{IsKey, key_spelling, IsCopy, copy_spelling, CopyRow, table_from_rows, IsRising, filter_rises, Reveals, Stands, source_of, copy_rows, selected_few, RowFits}
use Rattle.site_store.specs.Words.{Contents, Kept, Bounds, Damages, IsUndamaged, AllClosed, names, held, work, sees, no_damage, stays_closed, stops_as, stops_at}
use Rattle.site_store.specs.declared.sites.Sites.{Sites}
use Rattle.repl_model.specs.Words.{Area, DamageCause, Values, TableDef, LogRecord, all_filter, all_weaker, ShowError, IsMember, Member, SetDef, user_copy, SourceTable, is_selected, target_row, IsSound, KeepsTable, MemberIsSound, ReplicaMemberIsSound, ServerKeepsRules, LogIsSound, source_at, synchpoint, World, KnownSet, known_sets, source_named, at_place_in, known_stands, source_in, In, at_one, each_image}
use Rattle.repl_types.specs.declared.area.Area.TheVariants as areas
use Rattle.repl_types.specs.declared.call_errors.ShowError.TheVariants as errors
use Rattle.reply_text.specs.Rows.{row_line}
use Rattle.stored_commits.specs.records.SourceTables.{StandsUnderKey, RowsStand}
use Rattle.stored_commits.specs.records.laws.StandingRows.{some_byte, standing_rise}
use Rattle.set_places.specs.declared.placed_set.PlacedSet.{PlacedSet}
use Rattle.set_places.specs.Places.{IsPlaced, IsPlacedAs, IsReadOnly}
use Rattle.set_places.specs.laws.Known.{is_among, placed_def, set_keeps_rules}
use Rattle.set_places.specs.laws.Sources.{IsSourceOf, source_is_of, table_keyed}
use Rattle.set_places.specs.laws.Standing.{target_revealed}
use Rattle.apply_copies.specs.Copying.{selected, copied}
use Rattle.set_places.specs.Targets.{target_number, HasTargetOfKind, DefinesTargets}
use Rattle.set_places.specs.laws.Targets.{number_is, targets_defined}
use Rattle.apply_copies.specs.Rules.{target_rules}
use Rattle.apply_copies.specs.laws.CopyRows.{copied_are, copy_rows_fit, rows_stand_at, target_undamaged}
use Rattle.apply_copies.specs.laws.TargetLaws.{copy_target}
use Rattle.shows.specs.servers.Showing.{IsUndamagedShow}
use Rattle.shows.specs.tables.Replies.{count_line}
use Rattle.shows.specs.tables.Records.{AreShown, FollowsOfText, rows_text}
use Rattle.shows.specs.tables.Showing.{FailsShowing as FailsWithin}
use Rattle.shows.specs.tables.laws.Rising.{images_rise}
use Rattle.shows.specs.tables.laws.Texts.{text_shown}
use Rattle.shows.specs.sets.Showing.{FailsShowing}
use Rattle.apply_copies.specs.Copies.{is_user_copy, IsCopyAt}
use Rattle.apply_copies.specs.Showing.{copy_text, ShowsDamage}
use Rattle.apply_copies.proofs.CopyTables.{table_is}
use Rattle.stored_commits.specs.laws.ActedTargets.{targets_stand}

-- ---- the rows

-- the row of a copy under its key, as it is stored
abbrev pub stored_copy : Values × Values → Values × CopyRow
stored_copy r = (r.0, record { row = r.1 })

module _ (w : World) (k : KnownSet) (sound : IsSound w) (known : In k (known_sets w)) (member : Member) (fits : IsMember member) (source : SourceTable) (named : source_named member.source k.source ≡ Some source) where
  -- the point that the set has reached
  abbrev point : ℕ
  point = synchpoint k.at_target.trail

  -- the rows of the source as of that point
  abbrev whole : List (Values × Values)
  whole = entries (source_at source.def source.log point)

  -- the source is one of the servers
  among : In k.source w
  among = source_in w k (known_stands w k known)

  -- its log is sound
  log : LogIsSound k.source
  log = at_one LogIsSound w k.source sound.logs among

  -- the source table is made of one of its tables
  of : IsSourceOf k.source source
  of = source_is_of member.source k.source source named

  -- its rows stand under their keys
  stand : RowsStand source.def (source_at source.def source.log point)
  stand = subst (λ (l : List LogRecord). RowsStand source.def (source_at source.def l point)) (sym of.log) (rows_stand_at k.source source.def point log)

  -- it has a key
  keyed : 0 < length source.def.key
  keyed = subst (λ (def : TableDef). 0 < length def.key) (sym of.def) (table_keyed of.table (at_one KeepsTable k.source.tables of.table (at_one (ServerKeepsRules w) w k.source sound.definitions.servers among).tables of.among))

  -- the rows can be stored
  pub rows_fit : AllByRecursion (RowFits IsKey IsCopy) (copy_rows source member k.at_target.trail)
  rows_fit = copy_rows_fit k.source source member point log of.log fits

  -- they are as they are shown
  pub rows_are : AreShown IsKey key_spelling IsCopy (copy_rows source member k.at_target.trail)
  rows_are =
      let made : copy_rows source member k.at_target.trail ≡ copied member whole = copied_are source member point in
      let keyed_all : AllByRecursion (λ (e : Values × Values). 0 < length (key_spelling e.0)) whole = all_weaker (StandsUnderKey source.def) (λ (e : Values × Values). 0 < length (key_spelling e.0)) whole (λ e s. subst (λ (key : Values). 0 < length (key_spelling key)) (sym s.own) (some_byte source.def.key e.1 keyed)) stand in
      record {
        rise = subst (IsRising key_spelling) (sym made) (images_rise (λ (row : Values). record { row = target_row member row }) (selected member whole) (filter_rises key_spelling (λ (r : Values × Values). is_selected member r.1) whole (standing_rise source.def (source_at source.def source.log point) stand)));
        fit = rows_fit;
        some = subst (AllByRecursion (λ (r : Values × CopyRow). 0 < length (key_spelling r.0))) (sym made) (each_image (λ (r : Values × CopyRow). 0 < length (key_spelling r.0)) (λ (r : Values × Values). (r.0, record { row = target_row member r.1 })) (selected member whole) (all_filter (λ (e : Values × Values). 0 < length (key_spelling e.0)) (λ (e : Values × Values). is_selected member e.1) whole keyed_all));
        few = omega (arith, ap length made, length-map {B = Values × CopyRow} (selected member whole) (λ (r : Values × Values). (r.0, record { row = target_row member r.1 })), selected_few source member point, ap length of.log, log.short);
      }

  -- the source is that of the set's source
  source_is : source_of w k.at_target.def member ≡ Some source
  source_is = ap (option_and_then (source_named member.source)) (known_stands w k known).source ∙ named

  -- their text is the reply
  pub text_is : rows_text {A = Values} (λ _ (r : CopyRow). row_line r.row) (copy_rows source member k.at_target.trail) ≡ copy_text w k member
  text_is =
      text_shown {A = Values} (λ _ (r : CopyRow). row_line r.row) stored_copy (user_copy source member point)
      ∙ ap (λ (o : Option SourceTable). flat_map (λ line. line) (lines_of (option_map_or (λ (s : SourceTable). user_copy s member point) o []))) (sym source_is)
    where
      lines_of : List (Values × Values) → List (List ℕ)
      lines_of rows = map (λ (r : Values × Values). row_line r.1) rows ++ count_line (length rows) ∷ []

-- ---- where they stand

-- a member of a set of a sound world has a source
source_there : (w : World) (k : KnownSet) (member : Member) → IsSound w → In k (known_sets w) → In member k.at_target.def.members → (source : SourceTable) × (source_named member.source k.source ≡ Some source)
source_there w k member sound known i = elim (set_keeps_rules w k sound known).members [
  | inl all ↦ let own = at_one (MemberIsSound k) k.at_target.def.members member all.0 i in (own.2.0, own.2.1)
  | inr all ↦ let own = at_one (ReplicaMemberIsSound k) k.at_target.def.members member all.0 i in (own.1.0, own.1.2)
]

-- ---- at servers that stand for a world

module _ {K : Type 0} (kept : K → Kept) (s0 : Sites K) (set : PlacedSet) (place : ℕ) (closed : AllClosed (work kept s0)) (placed_at : IsPlaced kept s0 set) (is_copy : IsCopyAt set.at_target.def place) (w : World) (k : KnownSet) (stands : Stands (names s0) (held kept s0) w) (placed : IsPlacedAs w k set) (read_only : IsReadOnly k) where
  -- the member
  abbrev member : Member
  member = is_copy.member

  -- it is one of the set
  there : slice_get k.at_target.def.members place ≡ Some member
  there = ap (λ (def : SetDef). slice_get def.members place) (sym placed.target_def) ∙ is_copy.there

  -- it can be stored
  fits : IsMember member
  fits = at_one IsMember set.at_target.def.members member placed_at.target.fits.1.5.1 (at_place_in set.at_target.def.members place member is_copy.there)

  -- its source
  source : (source : SourceTable) × (source_named member.source k.source ≡ Some source)
  source = source_there w k member stands.sound placed.known (at_place_in k.at_target.def.members place member there)

  -- the number of its target
  abbrev number : ℕ
  number = target_number set.at_target.number place

  -- the rows of the copy
  abbrev rows : List (Values × CopyRow)
  rows = copy_rows source.0 member k.at_target.trail

  -- what the set's target is seen to hold
  seen : Reveals w k.target (sees kept s0 set.target)
  seen = target_revealed kept s0 w k set stands (closed set.target) placed

  -- its number there is that which the code computes
  within : place < length set.at_source.def.members
  within = subst (λ (def : SetDef). place < length def.members) (sym (placed_def w k set stands.sound placed)) (slice_get_within set.at_target.def.members place member is_copy.there)

  -- it has these rows
  has_rows : seen.0 areas.Target number ≡ table_from_rows key_spelling copy_spelling rows
  has_rows =
      ap (seen.0 areas.Target) (number_is w k set place stands.sound placed within)
      ∙ (targets_stand w k set.at_target.number seen.0 stands.sound (is_among w k set placed read_only) placed.at_target seen.2).0 place member source.0 there source.1
      ∙ table_is source.0 member (ap is_user_copy is_copy.copy) k.at_target.trail

  -- their text is the reply
  text : rows_text {A = Values} (λ _ (r : CopyRow). row_line r.row) rows ≡ copy_text w k member
  text = text_is w k stands.sound placed.known member fits source.0 source.1

  -- the member at the place is this one
  one_member : (m : Member) → slice_get k.at_target.def.members place ≡ Some m → member ≡ m
  one_member m at = same_Some member m (sym there ∙ at)

  -- ---- what was shown, if this is the number of its target

  module _ (n : ℕ) (same : n ≡ number) where
    -- what follows of the text of the target's rows follows of that of the member's copy
    pub copy_shown : (m : Member) → slice_get k.at_target.def.members place ≡ Some m → (P : List ℕ → Type 0) → IfSome (sees kept s0 set.target) (FollowsOfText IsKey key_spelling IsCopy copy_spelling (λ _ r. row_line r.row) areas.Target n P) → P (copy_text w k m)
    copy_shown m at P took = subst P (text ∙ ap (copy_text w k) (one_member m at)) ((subst (λ (o : Option Contents). IfSome o (FollowsOfText IsKey key_spelling IsCopy copy_spelling (λ _ (r : CopyRow). row_line r.row) areas.Target n P)) seen.1 took) rows (rows_are w k stands.sound placed.known member fits source.0 source.1) (ap (seen.0 areas.Target) same ∙ has_rows))

    -- no damage is reported of them
    pub copy_undamaged : (s1 : Sites K) (most : Bounds) (before now : ℕ) (e : ShowError) → FailsWithin kept s0 s1 most (Damages (λ s. s ≡ set.target) (target_rules n) kept s0) before now e → IsUndamagedShow e
    copy_undamaged s1 most before now errors.Output f = tt
    copy_undamaged s1 most before now (errors.Fault e) f = no_damage kept s0 s1 (λ s. s ≡ set.target) (target_rules n) e each f.blames
      where
        each : (s : ℕ) → s ≡ set.target → (c : Contents) × (sees kept s0 s ≡ Some c) × IsUndamaged (target_rules n) c
        each s at = (seen.0, ap (sees kept s0) at ∙ seen.1, target_undamaged n seen.0 rows (ap (seen.0 areas.Target) same ∙ has_rows) (rows_fit w k stands.sound placed.known member fits source.0 source.1))

-- ---- why they weren't shown whole

module _ {K : Type 0} (kept : K → Kept) (s0 s1 : Sites K) (set : PlacedSet) (place : ℕ) (closed : AllClosed (work kept s0)) (placed : IsPlaced kept s0 set) (is_copy : IsCopyAt set.at_target.def place) (n : ℕ) (same : n ≡ target_number set.at_target.number place) where
  -- damage of its rows is damage of a user copy there
  rows_show : (s : ℕ) (a : Area) (cause : DamageCause) → Damages (λ s. s ≡ set.target) (target_rules n) kept s0 s a cause → ShowsDamage kept s0 s a cause
  rows_show s a cause h = (
    subst (λ (m : ℕ). m < length (names s0)) (sym h.0) placed.target.within,
    (
      set.at_target,
      subst (λ (m : ℕ). IfSome (sees kept s0 m) (DefinesTargets set.at_target)) (sym h.0) (targets_defined kept s0 set placed.target),
      (n, subst (λ (m : ℕ). HasTargetOfKind is_user_copy m set.at_target) (sym same) (copy_target set.at_target place is_copy), h.1),
    ),
  )

  -- the rows weren't written whole
  pub copy_fails : (most : Bounds) (before now : ℕ) (e : ShowError) → FailsWithin kept s0 s1 most (Damages (λ s. s ≡ set.target) (target_rules n) kept s0) before now e → FailsShowing kept s0 s1 (ShowsDamage kept s0) before now e
  copy_fails most before now (errors.Fault e) f = (
    stops_as kept s0 s1 (Damages (λ s. s ≡ set.target) (target_rules n) kept s0) (ShowsDamage kept s0) e rows_show (stops_at kept s0 s1 most (Damages (λ s. s ≡ set.target) (target_rules n) kept s0) e f),
    f.closes.closed,
  )
  copy_fails most before now errors.Output f = ((f.0, record { most = most; stays = f.1 }), stays_closed kept s0 s1 most closed f.1)
