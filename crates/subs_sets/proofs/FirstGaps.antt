-- The gap of a set, by the first of those of its members, and that of the unit-of-work table.
use Rattle.std.proofs.Common.{◌≡◌, ℕ, ◌<◌, Bool, cond, List, [], ◌∷◌, refl, sym, ap, subst, ◌∙◌, Option, Some, None, lt-ltb}
use Rattle.std.specs.List.{filter_map, list_any}
use Rattle.std.proofs.lemmas.Option.{none-some}
use Rattle.repl_model.specs.Words.{Gap, member_gap, uow_gap, is_disabled, gap_of, synchpoint, KnownSet}
use Rattle.repl_types.specs.declared.refusal.GapPlace.TheVariants as gaps
use Rattle.subs_sets.specs.Gaps.{first_of}

-- the first of some gaps, or another one if there is none
abbrev first_else : Option Gap → List Gap → Option Gap
first_else other [] = other
first_else other (gap ∷ rest) = Some gap

-- the gaps of a set's members after a point
abbrev gaps_of : KnownSet → ℕ → List Gap
gaps_of k point = filter_map (member_gap k.source point) k.at_source.def.members

-- the gap of a set is the first of them, or that of the unit-of-work table
gap_by_members : (k : KnownSet) (point : ℕ) → point ≡ synchpoint k.at_target.trail → gap_of k ≡ first_else (uow_gap k.source point k.at_source.def.members) (gaps_of k point)
gap_by_members k point is = ap (λ (p : ℕ). first_else (uow_gap k.source p k.at_source.def.members) (gaps_of k p)) (sym is)

-- a member's gap that was found is the set's
pub member_has_gap : (k : KnownSet) (point : ℕ) (gap : Gap) → point ≡ synchpoint k.at_target.trail → Some gap ≡ first_of (gaps_of k point) → Some gap ≡ gap_of k
member_has_gap k point gap is found = by_members (gaps_of k point) found ∙ sym (gap_by_members k point is)
  where
    by_members : (gs : List Gap) → Some gap ≡ first_of gs → Some gap ≡ first_else (uow_gap k.source point k.at_source.def.members) gs
    by_members [] e = absurd (none-some gap (sym e))
    by_members (g ∷ gs) e = e

-- if no member has one, that of the unit-of-work table is the set's
pub table_has_gap : (k : KnownSet) (point : ℕ) → point ≡ synchpoint k.at_target.trail → None ≡ first_of (gaps_of k point) → uow_gap k.source point k.at_source.def.members ≡ gap_of k
table_has_gap k point is none = by_members (gaps_of k point) none ∙ sym (gap_by_members k point is)
  where
    by_members : (gs : List Gap) → None ≡ first_of gs → uow_gap k.source point k.at_source.def.members ≡ first_else (uow_gap k.source point k.at_source.def.members) gs
    by_members [] e = refl
    by_members (g ∷ gs) e = absurd (none-some g e)

-- the gap of a table that is pruned up to after the point
pub pruned_gap : (k : KnownSet) (point floor : ℕ) (name : List ℕ) (disabled : Bool) → floor ≡ k.source.floor → name ≡ k.source.name → disabled ≡ list_any (is_disabled k.source) k.at_source.def.members → point < floor → Some (record { place = gaps.Uow name floor; disabled = disabled }) ≡ uow_gap k.source point k.at_source.def.members
pruned_gap k point floor name disabled same named forbidden past =
    (λ i. Some (record { place = gaps.Uow (named i) (same i); disabled = forbidden i }))
    ∙ ap (λ (b : Bool). cond b (Some made) None) (sym (lt-ltb point k.source.floor (subst (λ (n : ℕ). point < n) same past)))
  where
    made : Gap
    made = record { place = gaps.Uow k.source.name k.source.floor; disabled = list_any (is_disabled k.source) k.at_source.def.members }
