-- One action of a set after reads is the step from the beginning: proofs.
use Rattle.std.proofs.Common.{◌≡◌, ◌∙◌, ℕ, Bool, true, false, ◌||◌, List, inl, inr, refl, sym, subst, arith, Option, Result, Ok}
use Rattle.world_store.specs.Words.{Stands}
use Rattle.site_store.specs.Words.{Contents, Kept, AllClosed, names, held, work, Rules, Shows, Damages, Looks, looks_sees}
use Rattle.site_store.specs.declared.sites.Sites.{Sites}
use Rattle.repl_model.specs.Words.{Area, DamageCause, Fault, Stepped, after_action, Action, signals, refreshes, blocks, reports, idles, refuses, next_action_within, World, KnownSet, TargetSet}
use Rattle.repl_types.specs.declared.area.Area.TheVariants as areas
use Rattle.repl_types.specs.declared.fault.Fault.TheVariants as faults
use Rattle.repl_types.specs.declared.fault.Stepped.TheVariants as steps
use Rattle.world_commits.specs.actions.StaysSound.{MayRefresh, MayBlock, MayMake}
use Rattle.world_commits.specs.laws.ActionsStaySound.{next_may}
use Rattle.set_places.specs.declared.placed_set.PlacedSet.{PlacedSet}
use Rattle.set_places.specs.Reading.{ReadsOnly}
use Rattle.set_places.specs.Steps.{HasBecome, MayHaveBecome, BlamesUnchanged}
use Rattle.set_places.specs.laws.Commits.{unchanged_after}
use Rattle.full_refresh.specs.Rules.{all_rules}
use Rattle.subs_sets.specs.Rules.{is_read, source_rules, state_rules}
use Rattle.prune_control.specs.Noting as noting
use Rattle.prune_control.specs.Noting.{mark_rules}
use Rattle.target_steps.specs.Taking.{is_of_block}
use Rattle.target_steps.specs.laws.AtServers.{ends_as}
use Rattle.full_refresh.specs.Refreshes as refreshing
use Rattle.full_refresh.specs.Refreshes.{IsRefresh}
use Rattle.apply_cycle.specs.Blocks as blocking
use Rattle.apply_cycle.specs.Blocks.{is_read_in_block, ReadsAnswered}
use Rattle.apply_cycle.specs.Stepping.{IsAnswer, HasActed, ReadsIfBlock, HasMade, HasFailed, ReadsInStep, IsBlamed, ShowsReportDamage, ShowsDamage}

-- ---- in a world

module _ {K : Type 0} (kept : K → Kept) (s0 s1 : Sites K) (w : World) (k : KnownSet) where
  -- an action that was made is another, if the two are one
  pub makes : (b : Action) (source : ℕ) (stepped : Stepped) (a : Action) → a ≡ b → HasBecome kept s0 s1 (after_action w k a) → IsAnswer w k source a stepped → HasMade kept s0 s1 w k b source stepped
  makes b source stepped a is become answer = subst (λ (c : Action). HasBecome kept s0 s1 (after_action w k c) × IsAnswer w k source c stepped) is (become, answer)

  -- one that failed is too
  pub fails : (b : Action) (e : Fault) (a : Action) → a ≡ b → MayHaveBecome kept s0 s1 w (after_action w k a) e → HasFailed kept s0 s1 w k b e
  fails b e a is may = by_fault e (subst (λ (c : Action). MayHaveBecome kept s0 s1 w (after_action w k c) e) is may)
    where
      by_fault : (e : Fault) → MayHaveBecome kept s0 s1 w (after_action w k b) e → HasFailed kept s0 s1 w k b e
      by_fault faults.Memory may = may
      by_fault (faults.Keeper s) may = may
      by_fault (faults.Damaged s a cause) may = may
      by_fault (faults.Refused refusal) may = absurd may.undamaged

-- ---- what may be made

module _ (end : Option ℕ) (k : KnownSet) where
  -- what the set does next may be made, if that is no signal
  may_next : (a : Action) → a ≡ next_action_within end k → (a ≡ signals → ⊥) → MayMake k a
  may_next a is other = subst (MayMake k) (sym is) (next_may end k (λ e. absurd (other (is ∙ e))))

  -- so may a refresh
  pub refresh_may : refreshes ≡ next_action_within end k → MayRefresh k
  refresh_may is = may_next refreshes is apart
    where
      apart : ◌≡◌ {A = Action} refreshes signals → ⊥
      apart e = cc

  -- and a block
  pub block_may : (upto : ℕ) → blocks upto ≡ next_action_within end k → MayBlock k upto
  block_may upto is = may_next (blocks upto) is apart
    where
      apart : ◌≡◌ {A = Action} (blocks upto) signals → ⊥
      apart e = cc

-- ---- after reads

module _ {K : Type 0} (kept : K → Kept) (s0 s1 : Sites K) (looks : Looks kept s0 s1) where
  -- servers that stand for a world do so afterwards
  pub stands_on : (w : World) → Stands (names s0) (held kept s0) w → Stands (names s1) (held kept s1) w
  stands_on w stands = subst (λ (l : List (List ℕ)). Stands l (held kept s1) w) (sym looks.stays.passes.names) (subst (λ (h : List (Option Contents)). Stands (names s0) h w) (sym looks.stays.held) stands)

  -- no transaction is open afterwards, if none was
  pub closed_on : AllClosed (work kept s0) → AllClosed (work kept s1)
  closed_on closed = subst AllClosed (sym looks.stays.work) closed

  -- what servers that have read become, they become from the beginning
  pub become_back : (s2 : Sites K) (v : World) → HasBecome kept s1 s2 v → HasBecome kept s0 s2 v
  become_back s2 v become = subst (λ (l : List (List ℕ)). Stands l (held kept s2) v) looks.stays.passes.names become

  pub may_back : (s2 : Sites K) (w v : World) (e : Fault) → MayHaveBecome kept s1 s2 w v e → MayHaveBecome kept s0 s2 w v e
  may_back s2 w v e may = record {
    stands = elim may.stands [
      | inl same ↦ inl (become_back s2 w same)
      | inr next ↦ inr (next.0, next.1, become_back s2 v next.2)
    ];
    undamaged = may.undamaged;
  }

  -- so it is with a step that was made
  pub made_back : (s2 : Sites K) (w : World) (k : KnownSet) (a : Action) (source : ℕ) (stepped : Stepped) → HasMade kept s1 s2 w k a source stepped → HasMade kept s0 s2 w k a source stepped
  made_back s2 w k a source stepped made = (become_back s2 (after_action w k a) made.0, made.1)

  -- and with one that failed
  pub failed_back : (s2 : Sites K) (w : World) (k : KnownSet) (b : Action) (e : Fault) → HasFailed kept s1 s2 w k b e → HasFailed kept s0 s2 w k b e
  failed_back s2 w k b faults.Memory may = may_back s2 w (after_action w k b) faults.Memory may
  failed_back s2 w k b (faults.Keeper s) may = may_back s2 w (after_action w k b) (faults.Keeper s) may
  failed_back s2 w k b (faults.Damaged s a cause) may = may_back s2 w (after_action w k b) (faults.Damaged s a cause) may
  failed_back s2 w k b (faults.Refused refusal) refused = (become_back s2 w refused.0, refused.1)

  -- damage that is shown after reads was shown before them
  pub damage_back : (P : ℕ → Type 0) (rules : Rules) (s : ℕ) (a : Area) (cause : DamageCause) → Damages P rules kept s1 s a cause → Damages P rules kept s0 s a cause
  damage_back P rules s a cause h = (h.0, subst (Shows rules a cause) (looks_sees kept s0 s1 looks s) h.1)

  -- who is to blame for a call after reads is to blame from the beginning
  pub blames_back : (D E : ℕ → Area → DamageCause → Type 0) → ((s : ℕ) (a : Area) (cause : DamageCause) → D s a cause → E s a cause) → (s2 : Sites K) (e : Fault) → BlamesUnchanged kept s1 s2 D e → BlamesUnchanged kept s0 s2 E e
  blames_back D E weaker s2 e h = unchanged_after kept s0 s1 s2 D E e looks weaker h

  pub blamed_back : (D E : ℕ → Area → DamageCause → Type 0) → ((s : ℕ) (a : Area) (cause : DamageCause) → D s a cause → E s a cause) → (s2 : Sites K) (e : Fault) → IsBlamed kept s1 s2 D e → IsBlamed kept s0 s2 E e
  blamed_back D E weaker s2 faults.Memory h = blames_back D E weaker s2 faults.Memory h
  blamed_back D E weaker s2 (faults.Keeper s) h = blames_back D E weaker s2 (faults.Keeper s) h
  blamed_back D E weaker s2 (faults.Damaged s a cause) h = blames_back D E weaker s2 (faults.Damaged s a cause) h
  blamed_back D E weaker s2 (faults.Refused refusal) h = h ∙ looks.stays.held

-- ---- who is to blame

-- a call that blames somebody
blamed : {K : Type 0} (kept : K → Kept) (s0 s1 : Sites K) (D : ℕ → Area → DamageCause → Type 0) (e : Fault) → BlamesUnchanged kept s0 s1 D e → IsBlamed kept s0 s1 D e
blamed kept s0 s1 D faults.Memory h = h
blamed kept s0 s1 D (faults.Keeper s) h = h
blamed kept s0 s1 D (faults.Damaged s a cause) h = h
blamed kept s0 s1 D (faults.Refused refusal) h = absurd h.blames

-- a point that wasn't noted after the state was read
pub noted_blamed : {K : Type 0} (kept : K → Kept) (set : PlacedSet) (s0 s1 s2 : Sites K) → Looks kept s0 s1 → (e : Fault) → BlamesUnchanged kept s1 s2 (noting.ShowsDamage kept s1 set.source) e → IsBlamed kept s0 s2 (ShowsReportDamage kept s0 set) e
noted_blamed kept set s0 s1 s2 looks e h = blamed kept s0 s2 (ShowsReportDamage kept s0 set) e
    (blames_back kept s0 s1 looks (noting.ShowsDamage kept s1 set.source) (ShowsReportDamage kept s0 set) (λ s a cause d. inr (damage_back kept s0 s1 looks (λ q. q ≡ set.source) mark_rules s a cause d)) s2 e h)

module _ {K : Type 0} (kept : K → Kept) (shows : Option TargetSet → Area → DamageCause → Option Contents → Type 0) (set : PlacedSet) (s0 s1 s2 : Sites K) (looks : Looks kept s0 s1) (e : Fault) where
  -- for a refresh
  pub refresh_blamed : BlamesUnchanged kept s1 s2 (refreshing.ShowsDamage kept shows s1 set) e → IsBlamed kept s0 s2 (ShowsDamage kept shows s0 set) e
  refresh_blamed h = blamed kept s0 s2 (ShowsDamage kept shows s0 set) e (blames_back kept s0 s1 looks (refreshing.ShowsDamage kept shows s1 set) (ShowsDamage kept shows s0 set) weaker s2 e h)
    where
      weaker : (s : ℕ) (a : Area) (cause : DamageCause) → refreshing.ShowsDamage kept shows s1 set s a cause → ShowsDamage kept shows s0 set s a cause
      weaker s a cause (inl (inl h)) = inr (inr (inl (inl (inl (damage_back kept s0 s1 looks (λ q. q ≡ set.source) all_rules s a cause h)))))
      weaker s a cause (inl (inr h)) = inr (inr (inl (inl (inr (damage_back kept s0 s1 looks (λ q. q ≡ set.target) state_rules s a cause h)))))
      weaker s a cause (inr h) = inr (inr (inl (inr (ends_as kept shows set s0 s1 (looks_sees kept s0 s1 looks) s a cause h))))

  -- for a block
  pub block_blamed : BlamesUnchanged kept s1 s2 (blocking.ShowsDamage kept shows s1 set) e → IsBlamed kept s0 s2 (ShowsDamage kept shows s0 set) e
  block_blamed h = blamed kept s0 s2 (ShowsDamage kept shows s0 set) e (blames_back kept s0 s1 looks (blocking.ShowsDamage kept shows s1 set) (ShowsDamage kept shows s0 set) weaker s2 e h)
    where
      weaker : (s : ℕ) (a : Area) (cause : DamageCause) → blocking.ShowsDamage kept shows s1 set s a cause → ShowsDamage kept shows s0 set s a cause
      weaker s a cause (inl (inl h)) = inr (inr (inr (inl (inl (inl (damage_back kept s0 s1 looks (λ q. q ≡ set.source) source_rules s a cause h))))))
      weaker s a cause (inl (inr h)) = inr (inr (inr (inl (inl (inr (damage_back kept s0 s1 looks (λ q. q ≡ set.target) state_rules s a cause h))))))
      weaker s a cause (inr h) = inr (inr (inr (inl (inr (ends_as kept shows set s0 s1 (looks_sees kept s0 s1 looks) s a cause h)))))

  -- for a report
  pub report_blamed : IsBlamed kept s1 s2 (ShowsReportDamage kept s1 set) e → IsBlamed kept s0 s2 (ShowsDamage kept shows s0 set) e
  report_blamed h = blamed_back kept s0 s1 looks (ShowsReportDamage kept s1 set) (ShowsDamage kept shows s0 set) weaker s2 e h
    where
      weaker : (s : ℕ) (a : Area) (cause : DamageCause) → ShowsReportDamage kept s1 set s a cause → ShowsDamage kept shows s0 set s a cause
      weaker s a cause (inl h) = inr (inr (inr (inr (inl (damage_back kept s0 s1 looks (λ q. q ≡ set.target) state_rules s a cause h)))))
      weaker s a cause (inr h) = inr (inr (inr (inr (inr (damage_back kept s0 s1 looks (λ q. q ≡ set.source) mark_rules s a cause h)))))

-- ---- what was answered

-- if something was done, it isn't answered that there was nothing to do
pub not_idle : (stepped : Stepped) (P : Type 0) → HasActed stepped → ◌≡◌ {A = Result Stepped Fault} (Ok stepped) (Ok steps.Idle) → P
not_idle stepped P acted is = let same : stepped ≡ steps.Idle = cc in absurd (subst HasActed same acted)

-- a refresh is done
pub refresh_acted : (stepped : Stepped) → IsRefresh stepped → HasActed stepped
refresh_acted (steps.Refresh point rows) is = tt
refresh_acted (steps.Signal server seq) is = tt
refresh_acted (steps.Block from to inserts updates deletes) is = tt
refresh_acted (steps.Report point) is = tt
refresh_acted (steps.Load m f rows) is = tt
refresh_acted (steps.Decide t d accepted rejected) is = tt
refresh_acted (steps.Settle m f rejected applied) is = tt
refresh_acted steps.Idle is = absurd is

-- so is a block
pub block_acted : {K : Type 0} (kept : K → Kept) (s0 s1 : Sites K) (more : ℕ) (stepped : Stepped) → ReadsAnswered more kept s0 s1 stepped → HasActed stepped
block_acted kept s0 s1 more (steps.Refresh point rows) counted = tt
block_acted kept s0 s1 more (steps.Signal server seq) counted = tt
block_acted kept s0 s1 more (steps.Block from to inserts updates deletes) counted = tt
block_acted kept s0 s1 more (steps.Report point) counted = tt
block_acted kept s0 s1 more (steps.Load m f rows) counted = tt
block_acted kept s0 s1 more (steps.Decide t d accepted rejected) counted = tt
block_acted kept s0 s1 more (steps.Settle m f rejected applied) counted = tt
block_acted kept s0 s1 more steps.Idle counted = absurd counted

-- ---- reads

module _ {K : Type 0} (kept : K → Kept) (s0 s1 : Sites K) (more : ℕ) where
  -- a refresh says nothing of what it reads
  pub refresh_reads : (stepped : Stepped) → IsRefresh stepped → ReadsInStep kept s0 s1 more stepped
  refresh_reads (steps.Refresh point rows) is = tt
  refresh_reads (steps.Signal server seq) is = tt
  refresh_reads (steps.Block from to inserts updates deletes) is = absurd is
  refresh_reads (steps.Report point) is = tt
  refresh_reads (steps.Load m f rows) is = tt
  refresh_reads (steps.Decide t d accepted rejected) is = tt
  refresh_reads (steps.Settle m f rejected applied) is = tt
  refresh_reads steps.Idle is = tt

-- what isn't read in a block isn't read to say what comes next
not_read : (x y : Bool) → (x || y) ≡ false → x ≡ false
not_read true y is = is
not_read false y is = refl

module _ {K : Type 0} (kept : K → Kept) (s0 s1 : Sites K) (first : ReadsOnly is_read kept s0 s1) where
  -- what says what comes next reads no more than a block
  pub reads_before : ReadsOnly is_read_in_block kept s0 s1
  reads_before = λ s a is. first s a (not_read (is_read a) (is_of_block a) is)

  -- nor does a block after it
  pub reads_then : (s2 : Sites K) → ReadsOnly is_read_in_block kept s1 s2 → ReadsOnly is_read_in_block kept s0 s2
  reads_then s2 then = λ s a is. omega (arith, reads_before s a is, then s a is)

module _ {K : Type 0} (kept : K → Kept) (s0 s1 : Sites K) where
  -- if no more is read than by a block, this is so whatever the action is
  pub reads_if_block : ReadsOnly is_read_in_block kept s0 s1 → (a : Action) → ReadsIfBlock kept s0 s1 a
  reads_if_block reads signals = tt
  reads_if_block reads refreshes = tt
  reads_if_block reads (blocks upto) = reads
  reads_if_block reads reports = tt
  reads_if_block reads idles = tt
  reads_if_block reads (refuses place) = tt

  -- nothing is said of other actions
  pub reads_unless_block : (a b : Action) → a ≡ b → ReadsIfBlock kept s0 s1 a → ReadsIfBlock kept s0 s1 b
  reads_unless_block a b is = subst (ReadsIfBlock kept s0 s1) is

-- a block after the reads of what comes next reads no more
pub block_reads : {K : Type 0} (kept : K → Kept) (s0 s1 s2 : Sites K) (more : ℕ) (stepped : Stepped) → ReadsOnly is_read kept s0 s1 → ReadsOnly is_read_in_block kept s1 s2 → ReadsAnswered more kept s1 s2 stepped → ReadsInStep kept s0 s2 more stepped
block_reads kept s0 s1 s2 more stepped first then = by_answer stepped
  where
    both : ReadsOnly is_read_in_block kept s0 s2
    both = reads_then kept s0 s1 first s2 then

    by_answer : (stepped : Stepped) → ReadsAnswered more kept s1 s2 stepped → ReadsInStep kept s0 s2 more stepped
    by_answer (steps.Refresh point rows) counted = absurd counted
    by_answer (steps.Signal server seq) counted = absurd counted
    by_answer (steps.Block from to inserts updates deletes) counted = (both, λ short s. omega (arith, first s areas.Cd refl, counted short s))
    by_answer (steps.Report point) counted = absurd counted
    by_answer (steps.Load m f rows) counted = absurd counted
    by_answer (steps.Decide t d accepted rejected) counted = absurd counted
    by_answer (steps.Settle m f rejected applied) counted = absurd counted
    by_answer steps.Idle counted = absurd counted
