-- What was read of how far the source of a set has captured its log.
use Rattle.std.proofs.Common.{◌≡◌, subst, ◌∙◌, Option, IfSome}
use Rattle.world_store.specs.Words.{one_whole, capture_spelling, IsCapture, first_capture, single_spelling, CaptureState, one_capture, capture_state, Reveals}
use Rattle.site_store.specs.Words.{Contents, StateIs}
use Rattle.repl_model.specs.Words.{IsSound, World, KnownSet, at_place_in}
use Rattle.repl_types.specs.declared.area.Area.TheVariants as areas
use Rattle.set_places.specs.declared.placed_set.PlacedSet.{PlacedSet}
use Rattle.set_places.specs.Places.{IsPlacedAs}
use Rattle.subs_sets.specs.laws.Captured.{capture_fits, capture_at}

-- the contents have this of how far they are captured, or nothing if it is what a missing record stands for
abbrev pub HasCaptured : CaptureState → Contents → Type 0
HasCaptured state c = StateIs capture_spelling areas.Capture 0 (single_spelling (record {})) first_capture state c

-- what was read is how far the source has captured in the world
pub capture_is : (w : World) (k : KnownSet) (set : PlacedSet) (saw : Option Contents) (state : CaptureState) → IsSound w → IsPlacedAs w k set → Reveals w k.source saw → IsCapture state → IfSome saw (HasCaptured state) → state ≡ capture_state k.source
capture_is w k set saw state sound placed reveals fits has =
    let i = at_place_in w set.source k.source placed.source in
    let read : HasCaptured state reveals.0 = subst (λ (o : Option Contents). IfSome o (HasCaptured state)) reveals.1 has in
    one_whole IsCapture capture_spelling one_capture state (capture_state k.source) fits (capture_fits w k.source sound i) (read ∙ capture_at w k.source sound i reveals.0 reveals.2)
