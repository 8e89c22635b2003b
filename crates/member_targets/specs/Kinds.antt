-- Which kinds of members are carried out, and what shows that a server is damaged.
use Rattle.std.specs.Prelude.{◌⊎◌, Bool, Option, Some, None, IfSome}
use Rattle.repl_types.specs.declared.area.Area.{Area}
use Rattle.repl_types.specs.declared.status.DamageCause.{DamageCause}
use Rattle.keep_core.specs.Contents.{Contents}
use Rattle.repl_definitions.specs.declared.member.TargetKind.{TargetKind}
use Rattle.repl_definitions.specs.declared.set.TargetSet.{TargetSet}
use Rattle.set_places.specs.Targets.{DefinesTargets}
use Rattle.apply_copies.specs.Copies.{is_user_copy, ShowsCopyDamage}

-- members of a kind are carried out
abbrev pub is_taken : TargetKind → Bool
is_taken = is_user_copy

-- what was seen of a server shows this damage: of a source of such members, or, with the row of a set, of one of its targets
abbrev pub ShowsMemberDamage : Option TargetSet → Area → DamageCause → Option Contents → Type 0
ShowsMemberDamage = ShowsCopyDamage

-- of a source, or of a target that is seen to be defined there
abbrev pub ShowsTargetDamage : Area → DamageCause → Option Contents → Type 0
ShowsTargetDamage a cause saw = ShowsMemberDamage None a cause saw ⊎ ((row : TargetSet) × IfSome saw (DefinesTargets row) × ShowsMemberDamage (Some row) a cause saw)
