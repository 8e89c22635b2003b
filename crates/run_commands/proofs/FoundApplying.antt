-- The steps of the set of a name, which is looked for first.
use Rattle.std.proofs.Common.{◌≡◌, ◌∙◌, ◌+◌, ℕ, [], ◌∷◌, sym, ap, Option, Some, None}
use Rattle.std.specs.Option.{option_map_or}
use Rattle.world_store.specs.Words.{Stands}
use Rattle.site_store.specs.Words.{Kept, Looks, names, held}
use Rattle.site_store.specs.declared.sites.Sites.{Sites}
use Rattle.repl_model.specs.Words.{SetId, World, KnownSet}
use Rattle.repl_types.specs.declared.refusal.Refusal.TheVariants as refusals
use Rattle.reply_text.specs.Replies.{reply_line}
use Rattle.reply_text.specs.declared.reply.Reply.TheVariants as replies
use Rattle.run_core.specs.Runs.{writes}
use Rattle.run_commands.specs.parts.Refusing.{refused}
use Rattle.run_commands.specs.parts.laws.Looking.{stood_before}
use Rattle.set_places.specs.Places.{IsKnownAs}
use Rattle.set_places.specs.declared.placed_set.PlacedSet.{PlacedSet}
use Rattle.apply_cycle.specs.Cycling.{MakesAtMost}
use Rattle.run_commands.specs.apply.Progress.{MayMake}
use Rattle.run_commands.specs.apply.StepEvents.{events_of, events_from, apply_events}
use Rattle.run_commands.proofs.MadeSteps.{unknown_declined}

-- what is done if no set has the name
pub unknown_applied : (number : ℕ) (id : SetId) (w : World) → IsKnownAs w id None → refused (refusals.NoSuchSet id.qual (Some id.name)) ≡ apply_events number id w
unknown_applied number id w none = sym (
    ap (λ (o : Option KnownSet). events_from (option_map_or (λ k. k.source.captured + 5) o 1) 0 number id w) none
    ∙ ap (events_of (writes (reply_line (replies.Applied 0)) ∷ []) (events_from 0 1 number id)) (unknown_declined number id w none))

-- how many steps may be made of a set that was found, after it was read how far its source is
pub may_make : {K : Type 0} (kept : K → Kept) (s0 s1 : Sites K) → Looks kept s0 s1 → (id : SetId) (set : PlacedSet) → ((w : World) → Stands (names s0) (held kept s0) w → IsKnownAs w id (Some set)) → (most : ℕ) → MakesAtMost kept s0 set most → MayMake kept s1 id most
may_make kept s0 s1 looks id set known most at = λ w stands.
    let before = stood_before kept s0 s1 looks w stands in
    let k = known w before in
    (k.0, k.1, at w k.0 before k.2)
