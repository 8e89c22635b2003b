-- What was read of the trail of a set.
use Rattle.std.proofs.Common.{◌≡◌, ℕ, zero, suc, ◌+◌, ◌-◌, ◌≤◌, ◌^◌, Bool, true, false, cond, List, length, get_or, map, refl, sym, ap, subst, ◌∙◌, arith, inl, inr, Option, Some, None, IfSome, nat_lt, slice_get, lt-ltb}
use Rattle.std.specs.List.{enumerate_from}
use Rattle.std.specs.Option.{option_map, option_map_or}
use Rattle.std.proofs.lemmas.List.{length-map}
use Rattle.std.proofs.lemmas.Option.{none-some, same_Some, slice_get_cases, slice_get-map}
use Rattle.world_store.specs.Words.{Is64, b64, One, one_whole, entry_spelling, IsEntry, TrailEntry, one_entry, table_from_rows, numbered_at, numbered_found, Reveals, no_rows, trail_entry, trail_rows}
use Rattle.site_store.specs.Words.{Contents, Table, RowIs, IsRecord, numbers_in_order}
use Rattle.repl_model.specs.Words.{IsSound, Entry, TargetSide, World, KnownSet, at_place_in, In}
use Rattle.repl_types.specs.declared.area.Area.TheVariants as areas
use Rattle.set_places.specs.declared.placed_set.PlacedSet.{PlacedSet}
use Rattle.set_places.specs.Places.{IsPlacedAs}
use Rattle.set_places.specs.laws.Points.{target_numbers}
use Rattle.subs_sets.specs.States.{entry_at}
use Rattle.subs_sets.specs.laws.Entries.{entry_fits}
use Rattle.subs_sets.specs.laws.Undamaged.{holds_trail}

-- things of one spelling, or none, are one
one_option : {X : Type 0} (fits : X → Type 0) (spelling : X → List ℕ) → One fits spelling → (a b : Option X) → IfSome a fits → IfSome b fits → option_map spelling a ≡ option_map spelling b → a ≡ b
one_option fits spelling one None None fa fb e = refl
one_option fits spelling one None (Some y) fa fb e = absurd (none-some (spelling y) e)
one_option fits spelling one (Some x) None fa fb e = absurd (none-some (spelling x) (sym e))
one_option fits spelling one (Some x) (Some y) fa fb e = ap Some (one_whole fits spelling one x y fa fb (same_Some (spelling x) (spelling y) e))

-- what stands with a number that counts from 1
abbrev numbered : {X : Type 0} → List X → ℕ → Option X
numbered xs number = cond (nat_lt 0 number) (slice_get xs (number - 1)) None

-- is what stands in the table at that number
numbered_stands : {X : Type 0} (value : X → List ℕ) (xs : List X) (number : ℕ) → 1 + length xs ≤ 2 ^ 64 → Is64 number → table_from_rows b64 value (enumerate_from 1 xs) (b64 number) ≡ option_map value (numbered xs number)
numbered_stands value xs zero few small = by_found (table_from_rows b64 value (enumerate_from 1 xs) (b64 0)) refl
  where
    by_found : (o : Option (List ℕ)) → table_from_rows b64 value (enumerate_from 1 xs) (b64 0) ≡ o → o ≡ None
    by_found None found = refl
    by_found (Some v) found = let lies = numbered_found b64 (2 ^ 64) numbers_in_order value 1 0 xs v few small found in absurd (omega (arith, lies.0))
numbered_stands {X} value xs (suc m) few small = elim (slice_get_cases xs m).1 [
  | inl within ↦
      subst (λ (n : ℕ). table_from_rows b64 value (enumerate_from 1 xs) (b64 n) ≡ Some (value (get_or xs m within.0))) (one_more m) (numbered_at b64 (2 ^ 64) numbers_in_order value 1 m xs within.0 few within.1)
      ∙ ap (λ (x : X). Some (value x)) within.3
      ∙ sym (ap (option_map value) (here ∙ within.2))
  | inr past ↦ by_found past.0 (table_from_rows b64 value (enumerate_from 1 xs) (b64 (suc m))) refl ∙ sym (ap (option_map value) (here ∙ past.1))
]
  where
    one_more : (n : ℕ) → 1 + n ≡ suc n
    one_more n = omega arith

    one_less : (n : ℕ) → suc n - 1 ≡ n
    one_less n = omega arith

    here : numbered xs (suc m) ≡ slice_get xs m
    here = ap (λ (b : Bool). cond b (slice_get xs (suc m - 1)) None) (lt-ltb 0 (suc m) (omega arith)) ∙ ap (slice_get xs) (one_less m)

    by_found : length xs ≤ m → (o : Option (List ℕ)) → table_from_rows b64 value (enumerate_from 1 xs) (b64 (suc m)) ≡ o → o ≡ None
    by_found past None found = refl
    by_found past (Some v) found = let lies = numbered_found b64 (2 ^ 64) numbers_in_order value 1 (suc m) xs v few small found in absurd (omega (arith, lies.1, past))

-- the entry of a trail with a number, by the entries as they are stored
entry_numbered : (w : World) (k : KnownSet) (number : ℕ) → numbered (map (trail_entry w k.at_target.def) k.at_target.trail) number ≡ entry_at w k number
entry_numbered w k number = ap (λ (o : Option TrailEntry). cond (nat_lt 0 number) o None) (slice_get-map (trail_entry w k.at_target.def) k.at_target.trail (number - 1))

-- it has a spelling
numbered_fits : (w : World) (side : TargetSide) (number : ℕ) → ((e : Entry) → In e side.trail → IsEntry (trail_entry w side.def e)) → IfSome (cond (nat_lt 0 number) (option_map (trail_entry w side.def) (slice_get side.trail (number - 1))) None) IsEntry
numbered_fits w side number each = by_number (nat_lt 0 number) (slice_get side.trail (number - 1)) refl
  where
    by_number : (b : Bool) (o : Option Entry) → slice_get side.trail (number - 1) ≡ o → IfSome (cond b (option_map (trail_entry w side.def) o) None) IsEntry
    by_number true None at = tt
    by_number true (Some e) at = each e (at_place_in side.trail (number - 1) e at)
    by_number false o at = tt

-- what was read is the entry of the world's trail
pub entry_is : (w : World) (k : KnownSet) (set : PlacedSet) (saw : Option Contents) (number : ℕ) (found : Option TrailEntry) → IsSound w → IsPlacedAs w k set → Reveals w k.target saw → Is64 number → IfSome found IsEntry → IfSome saw (RowIs entry_spelling areas.Trail set.at_target.number (b64 number) found) → found ≡ entry_at w k number
entry_is w k set saw number found sound placed reveals small fits has =
    let i = at_place_in w set.target k.target placed.target in
    let n = set.at_target.number in
    let side : TargetSide = k.at_target in
    let among = at_place_in k.target.target_sets n side placed.at_target in
    let xs = map (trail_entry w side.def) side.trail in
    let read : reveals.0 areas.Trail n (b64 number) ≡ option_map entry_spelling found = subst (λ (o : Option Contents). IfSome o (RowIs entry_spelling areas.Trail n (b64 number) found)) reveals.1 has in
    let few : 1 + length xs ≤ 2 ^ 64 = omega (arith, length-map side.trail (trail_entry w side.def), (target_numbers w k.target sound i side among).0.entries) in
    one_option IsEntry entry_spelling one_entry found (entry_at w k number) fits (numbered_fits w side number (λ e j. entry_fits w k.target sound i side among e j))
    (sym read
    ∙ ap (λ (t : Table). t (b64 number)) (holds_trail w k.target reveals.0 sound i reveals.2 n)
    ∙ ap (λ (o : Option TargetSide). option_map_or (λ (s : TargetSide). table_from_rows b64 entry_spelling (trail_rows w s)) o no_rows (b64 number)) placed.at_target
    ∙ numbered_stands entry_spelling xs number few small
    ∙ ap (option_map entry_spelling) (entry_numbered w k number))

-- a record that was read has a spelling
pub fits_alone : (found : Option TrailEntry) → IfSome found (IsRecord IsEntry entry_spelling) → IfSome found IsEntry
fits_alone None fits = tt
fits_alone (Some e) fits = fits.fits
