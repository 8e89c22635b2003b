-- What is kept of the interval of a block that may be made.
use Rattle.std.proofs.Common.{◌≡◌, ℕ, ◌≤◌, Bool, true, false, cond, List, [], ◌∷◌, refl, sym, arith, nat_lt, Option, Some, None}
use Rattle.std.specs.List.{AllByRecursion, filter_map, cons_option, list_any}
use Rattle.std.proofs.lemmas.Bool.{ltb-false}
use Rattle.std.proofs.lemmas.Option.{none-some}
use Rattle.repl_model.specs.Words.{Gap, is_disabled, member_gap, uow_gap, time_at, synchpoint, KnownSet}
use Rattle.repl_types.specs.declared.refusal.GapPlace.TheVariants as places
use Rattle.world_commits.specs.actions.StaysSound.{MayBlock}
use Rattle.subs_sets.specs.Cuts.{time_from}
use Rattle.subs_sets.specs.laws.UnitTimes.{stored_time_at}

-- ---- gaps

-- the first of some gaps, or another one if there is none
abbrev first_else : Option Gap → List Gap → Option Gap
first_else other [] = other
first_else other (gap ∷ rest) = Some gap

-- if nothing is given for a list, nothing is for each
none_given : {X Y : Type 0} (f : X → Option Y) (xs : List X) → filter_map f xs ≡ [] → AllByRecursion (λ x. f x ≡ None) xs
none_given f [] e = tt
none_given {X} {Y} f (x ∷ xs) e = pick (f x) refl (none_given f xs) e
  where
    pick : (o : Option Y) → f x ≡ o → (filter_map f xs ≡ [] → AllByRecursion (λ y. f y ≡ None) xs) → cons_option o (filter_map f xs) ≡ [] → AllByRecursion (λ y. f y ≡ None) (x ∷ xs)
    pick None is others rest = (is, others rest)
    pick (Some y) is others rest = absurd cc

module _ (k : KnownSet) (upto : ℕ) (may : MayBlock k upto) where
  -- where its targets have come to
  abbrev point : ℕ
  point = synchpoint k.at_target.trail

  -- neither a member has a gap nor the unit-of-work table
  no_gaps : (gs : List Gap) (uow : Option Gap) → first_else uow gs ≡ None → (gs ≡ []) × (uow ≡ None)
  no_gaps [] uow e = (refl, e)
  no_gaps (g ∷ gs) uow e = absurd (none-some g (sym e))

  gaps : (filter_map (member_gap k.source point) k.at_source.def.members ≡ []) × (uow_gap k.source point k.at_source.def.members ≡ None)
  gaps = no_gaps (filter_map (member_gap k.source point) k.at_source.def.members) (uow_gap k.source point k.at_source.def.members) may.gap

  -- no member has one
  pub members_kept : AllByRecursion (λ member. member_gap k.source point member ≡ None) k.at_source.def.members
  members_kept = none_given (member_gap k.source point) k.at_source.def.members gaps.0

  -- and no unit after the point is pruned
  pub units_kept : k.source.floor ≤ point
  units_kept = pick (nat_lt point k.source.floor) refl gaps.1
    where
      gap_there : Gap
      gap_there = record { place = places.Uow k.source.name k.source.floor; disabled = list_any (is_disabled k.source) k.at_source.def.members }

      pick : (b : Bool) → nat_lt point k.source.floor ≡ b → cond b (Some gap_there) None ≡ None → k.source.floor ≤ point
      pick true is e = absurd (none-some gap_there (sym e))
      pick false is e = ltb-false point k.source.floor is

  -- the time from the block's end on is that of the source there
  pub end_time : time_from upto k.source ≡ time_at k.source.log upto
  end_time = stored_time_at k.source upto may.seq (omega (arith, units_kept, may.above)) may.captured
