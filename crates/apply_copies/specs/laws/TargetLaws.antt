-- What is known of user copies as targets: which damage is shown of them, that their rows aren't numbered, and which table
-- one is.
use Rattle.std.proofs.Common.{◌≡◌, ℕ, true, false, inl, inr, refl, ap, subst, Option, Some, None}
use Rattle.site_store.specs.Words.{Contents, shown_unseen}
use Rattle.repl_model.specs.Words.{Area, DamageCause, TargetKind, TargetSet}
use Rattle.repl_types.specs.declared.status.DamageCause.TheVariants as causes
use Rattle.repl_definitions.specs.declared.member.TargetKind.TheVariants.{UserCopy}
use Rattle.stored_commits.specs.actions.StoredSteps.{is_numbered}
use Rattle.set_places.specs.Targets.{target_number, HasTargetOfKind}
use Rattle.apply_copies.specs.ChangeRules.{change_source_rules}
use Rattle.apply_copies.specs.Rules.{source_rules, target_rules}
use Rattle.apply_copies.specs.Copies.{is_user_copy, IsCopyAt, ShowsCopyDamage}

-- damage of copies is shown of a server that reveals nothing
pub copy_damage_unseen : (row : Option TargetSet) (a : Area) (cause : DamageCause) (saw : Option Contents) → ShowsCopyDamage row a cause saw → ShowsCopyDamage row a cause None
copy_damage_unseen None a cause saw (inl h) = inl (shown_unseen source_rules a cause saw h)
copy_damage_unseen None a cause saw (inr h) = inr (shown_unseen change_source_rules a cause saw h)
copy_damage_unseen (Some row) a cause saw h = (h.0, h.1, shown_unseen (target_rules h.0) a cause saw h.2)

-- that a set doesn't come to rest is no damage of copies
pub no_rest_of_copies : (row : Option TargetSet) (a : Area) (steps : ℕ) (saw : Option Contents) → ShowsCopyDamage row a (causes.NoRest steps) saw → ⊥
no_rest_of_copies None a steps saw (inl h) = h
no_rest_of_copies None a steps saw (inr h) = h
no_rest_of_copies (Some row) a steps saw h = h.2

-- the kind that is taken is that of user copies
pub kind_is : (kind : TargetKind) → is_user_copy kind ≡ true → UserCopy ≡ kind
kind_is UserCopy is = refl
kind_is kind is = absurd cc

-- the rows of a user copy aren't numbered
pub copies_unnumbered : (kind : TargetKind) → is_user_copy kind ≡ true → is_numbered kind ≡ false
copies_unnumbered kind is = subst (λ (k : TargetKind). is_numbered k ≡ false) (kind_is kind is) refl

-- the target of a user copy of a set
pub copy_target : (row : TargetSet) (place : ℕ) → IsCopyAt row.def place → HasTargetOfKind is_user_copy (target_number row.number place) row
copy_target row place own = record { place = place; member = own.member; there = own.there; kind = ap is_user_copy own.copy; number = refl }
