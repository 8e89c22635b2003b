-- What is seen of a found set's servers, if the servers stand for a world.
use Rattle.std.proofs.Common.{◌≡◌, ℕ, zero, suc, List, [], ◌∷◌, get_or, refl, ap, subst, ◌∙◌, Option, Some, None, IfSome, slice_get}
use Rattle.std.specs.List.{AllZip}
use Rattle.std.proofs.lemmas.Option.{none-some, same_Some}
use Rattle.repl_model.specs.Words.{IsSound, Server, World, KnownSet, ServerKeepsRules, SetKeepsLimits, UnknownSource, SourceSide, SetDef, at_one, at_place_in}
use Rattle.world_store.specs.Words.{Holds, Reveals, Stands}
use Rattle.site_store.specs.Words.{Contents, Kept, seen_of, names, held, work, sees, IsClosedAt}
use Rattle.site_store.specs.declared.sites.Sites.{Sites}
use Rattle.set_places.specs.declared.placed_set.PlacedSet.{PlacedSet}
use Rattle.set_places.specs.Members.{ForSource, ForTarget}
use Rattle.set_places.specs.Places.{IsPlacedAs}

-- the server at a place reveals that it holds what the world calls for
pub revealed_at_place : (names : List (List ℕ)) (held : List (Option Contents)) (w : World) (n : ℕ) (server : Server) → Stands names held w → slice_get w n ≡ Some server → Reveals w server (get_or held n None)
revealed_at_place names held w n server stands at = beside_at w held n stands.servers at
  where
    beside_at : (servers : World) (told : List (Option Contents)) (n : ℕ) → AllZip (Reveals w) servers told → slice_get servers n ≡ Some server → Reveals w server (get_or told n None)
    beside_at [] told n all at = absurd (none-some server at)
    beside_at (s ∷ ss) [] n all at = absurd all
    beside_at (s ∷ ss) (h ∷ hs) zero all at = subst (λ (x : Server). Reveals w x h) (same_Some s server at) all.0
    beside_at (s ∷ ss) (h ∷ hs) (suc n) all at = beside_at ss hs n all.1 at

module _ {K : Type 0} (kept : K → Kept) (sites : Sites K) (w : World) where
  -- so it is seen to hold that, if it has no transaction open
  pub seen_at_place : (n : ℕ) (server : Server) → Stands (names sites) (held kept sites) w → IsClosedAt (work kept sites) n → slice_get w n ≡ Some server → Reveals w server (sees kept sites n)
  seen_at_place n server stands closed at =
      let r = revealed_at_place (names sites) (held kept sites) w n server stands at in
      (r.0, ap (seen_of (get_or (held kept sites) n None)) closed ∙ r.1, r.2)

  module _ (k : KnownSet) (set : PlacedSet) where
    -- the source of a found set is seen to hold what the world calls for
    pub source_revealed : Stands (names sites) (held kept sites) w → IsClosedAt (work kept sites) set.source → IsPlacedAs w k set → Reveals w k.source (sees kept sites set.source)
    source_revealed stands closed placed = seen_at_place set.source k.source stands closed placed.source

    -- and so is its target
    pub target_revealed : Stands (names sites) (held kept sites) w → IsClosedAt (work kept sites) set.target → IsPlacedAs w k set → Reveals w k.target (sees kept sites set.target)
    target_revealed stands closed placed = seen_at_place set.target k.target stands closed placed.target

-- ---- what follows of what is seen

module _ (set : PlacedSet) (P : World → KnownSet → Type 0) where
  -- what follows from what the source of a found set is seen to have follows from the contents that are seen
  pub source_seen : {K : Type 0} (kept : K → Kept) (sites : Sites K) → ForSource kept sites set P → IfSome (sees kept sites set.source) (λ c. (w : World) (k : KnownSet) → IsSound w → IsPlacedAs w k set → Holds w k.source c → P w k)
  source_seen kept sites follows = by_told (sees kept sites set.source) follows
    where
      by_told : (told : Option Contents) → ((w : World) (k : KnownSet) → IsSound w → IsPlacedAs w k set → Reveals w k.source told → P w k) → IfSome told (λ c. (w : World) (k : KnownSet) → IsSound w → IsPlacedAs w k set → Holds w k.source c → P w k)
      by_told None follows = tt
      by_told (Some c) follows = λ w k sound placed holds. follows w k sound placed (c, refl, holds)

  -- the same of its target
  pub target_seen : {K : Type 0} (kept : K → Kept) (sites : Sites K) → ForTarget kept sites set P → IfSome (sees kept sites set.target) (λ c. (w : World) (k : KnownSet) → IsSound w → IsPlacedAs w k set → Holds w k.target c → P w k)
  target_seen kept sites follows = by_told (sees kept sites set.target) follows
    where
      by_told : (told : Option Contents) → ((w : World) (k : KnownSet) → IsSound w → IsPlacedAs w k set → Reveals w k.target told → P w k) → IfSome told (λ c. (w : World) (k : KnownSet) → IsSound w → IsPlacedAs w k set → Holds w k.target c → P w k)
      by_told None follows = tt
      by_told (Some c) follows = λ w k sound placed holds. follows w k sound placed (c, refl, holds)

-- the source of a placed set has the name that the set's row says
pub source_name : (w : World) (k : KnownSet) (set : PlacedSet) → IsSound w → IsPlacedAs w k set → set.at_source.def.source ≡ k.source.name
source_name w k set sound placed =
    let keeps = at_one (ServerKeepsRules w) w k.source sound.definitions.servers (at_place_in w set.source k.source placed.source) in
    ap (λ (def : SetDef). def.source) placed.source_def ∙ (at_one (λ (s : SourceSide). (s.def.source ≡ k.source.name) × SetKeepsLimits w s.def × UnknownSource w k.source s) k.source.source_sets k.at_source keeps.sources (at_place_in k.source.source_sets set.at_source.number k.at_source placed.at_source)).0
