-- The numbers that are given in targets whose rows aren't numbered: none.
use Rattle.std.proofs.Common.{◌≡◌, ℕ, ◌+◌, true, false, List, [], ◌∷◌, map, Option, Some, None, refl, sym, ap₂, ◌∙◌, true≢false}
use Rattle.std.specs.List.{AllByRecursion, enumerate_from}
use Rattle.std.specs.Option.{option_map_or}
use Rattle.world_store.specs.Words.{MemberKey, LastNumber, source_of, numbers_given}
use Rattle.repl_model.specs.Words.{Member, TargetKind, SetDef, SourceTable, Trail, World}
use Rattle.repl_definitions.specs.declared.member.TargetKind.TheVariants.{UserCopy, PointInTime, BaseAggregate, ChangeAggregate, Ccd, Replica}
use Rattle.stored_commits.specs.actions.StoredSteps.{is_numbered}

-- no number is given in a target whose rows aren't numbered
none_given : (world : World) (def : SetDef) (trail : Trail) (member : Member) → is_numbered member.kind ≡ false → numbers_given world def trail member ≡ 0
none_given world def trail member e = by_kind member.kind e
  where
    zero_each : (o : Option SourceTable) → ◌≡◌ {A = ℕ} (option_map_or (λ (source : SourceTable). 0) o 0) 0
    zero_each None = refl
    zero_each (Some source) = refl

    by_kind : (kind : TargetKind) → is_numbered kind ≡ false → numbers_given world def trail (record member { kind = kind }) ≡ 0
    by_kind UserCopy e = zero_each (source_of world def member)
    by_kind PointInTime e = zero_each (source_of world def member)
    by_kind BaseAggregate e = absurd (true≢false e)
    by_kind ChangeAggregate e = absurd (true≢false e)
    by_kind (Ccd complete true) e = zero_each (source_of world def member)
    by_kind (Ccd complete false) e = absurd (true≢false e)
    by_kind Replica e = zero_each (source_of world def member)

-- the last numbers of a member of a set
abbrev pub last_number_row : World → SetDef → Trail → ℕ → ℕ × Member → MemberKey × LastNumber
last_number_row world def trail number m = (record { set = number; member = m.0 }, record { number = numbers_given world def trail m.1 })

-- the last numbers of a set don't change with its trail if no target has rows that are numbered
pub last_numbers_stay : (world : World) (def : SetDef) (before after : Trail) (number from : ℕ) (members : List Member) → AllByRecursion (λ member. is_numbered member.kind ≡ false) members
    → map (last_number_row world def after number) (enumerate_from from members) ≡ map (last_number_row world def before number) (enumerate_from from members)
last_numbers_stay world def before after number from [] none = refl
last_numbers_stay world def before after number from (member ∷ members) none =
    ap₂ (λ (n : ℕ) (rows : List (MemberKey × LastNumber)). (record { set = number; member = from }, record { number = n }) ∷ rows)
    (none_given world def after member none.0 ∙ sym (none_given world def before member none.0))
    (last_numbers_stay world def before after number (from + 1) members none.1)
