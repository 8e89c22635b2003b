-- What is known of the kinds that are carried out: which damage is shown of them, that their rows aren't numbered, and that
-- none is a replica.
use Rattle.std.proofs.Common.{◌≡◌, ℕ, true, false, inl, inr, refl, subst, Option, Some, None}
use Rattle.site_store.specs.Words.{Contents}
use Rattle.repl_model.specs.Words.{Area, DamageCause, TargetKind, TargetSet, is_replica}
use Rattle.repl_types.specs.declared.status.DamageCause.TheVariants as causes
use Rattle.stored_commits.specs.actions.StoredSteps.{is_numbered}
use Rattle.apply_copies.specs.laws.TargetLaws.{copy_damage_unseen, kind_is, no_rest_of_copies, copies_unnumbered}
use Rattle.member_targets.specs.Kinds.{is_taken, ShowsMemberDamage, ShowsTargetDamage}

-- damage of members is shown of a server that reveals nothing
pub member_damage_unseen : (row : Option TargetSet) (a : Area) (cause : DamageCause) (saw : Option Contents) → ShowsMemberDamage row a cause saw → ShowsMemberDamage row a cause None
member_damage_unseen = copy_damage_unseen

-- that a set doesn't come to rest is no damage of members
pub no_rest_of_members : (row : Option TargetSet) (a : Area) (steps : ℕ) (saw : Option Contents) → ShowsMemberDamage row a (causes.NoRest steps) saw → ⊥
no_rest_of_members = no_rest_of_copies

-- nor of targets
pub no_rest_of_targets : (a : Area) (steps : ℕ) (saw : Option Contents) → ShowsTargetDamage a (causes.NoRest steps) saw → ⊥
no_rest_of_targets a steps saw (inl h) = no_rest_of_members None a steps saw h
no_rest_of_targets a steps saw (inr h) = no_rest_of_members (Some h.0) a steps saw h.2

-- the rows of none of them are numbered
pub targets_unnumbered : (kind : TargetKind) → is_taken kind ≡ true → is_numbered kind ≡ false
targets_unnumbered = copies_unnumbered

-- none of them is a replica
pub no_replica_taken : (kind : TargetKind) → is_taken kind ≡ true → is_replica kind ≡ false
no_replica_taken kind is = subst (λ (k : TargetKind). is_replica k ≡ false) (kind_is kind is) refl
