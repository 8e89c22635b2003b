-- How far a set is, by what was read of it at its two servers.
use Rattle.std.proofs.Common.{◌≡◌, ℕ, Bool, cond, ap, ◌∙◌, Option, Some, None}
use Rattle.world_store.specs.Words.{SyncMark}
use Rattle.repl_model.specs.Words.{SetId, SetDef, World, KnownSet}
use Rattle.reply_text.specs.declared.status.ReadOnlyStatus.{ReadOnlyStatus}
use Rattle.set_places.specs.declared.placed_set.PlacedSet.{PlacedSet}
use Rattle.set_places.specs.Places.{IsPlacedAs}
use Rattle.subs_sets.specs.declared.states.ReadOnlyState.{ReadOnlyState}
use Rattle.subs_sets.specs.States.{state_in}
use Rattle.shows.specs.sets.Replies.{status_of_set}

-- a point, if there is any
abbrev point_if : Bool → ℕ → Option ℕ
point_if has_points point = cond has_points (Some point) None

-- what was read of a set is how far it is in a world
pub status_is : (w : World) (k : KnownSet) (set : PlacedSet) (state : ReadOnlyState) (known : SyncMark) (id : SetId) (point base : Option ℕ) → IsPlacedAs w k set → state ≡ state_in w k → known ≡ record { mark = k.at_source.mark; signal = k.at_source.signal } → id ≡ set.at_target.def.id → point ≡ point_if state.has_points state.synchpoint → base ≡ point_if state.has_points state.base → ◌≡◌ {A = ReadOnlyStatus} (record { set = id; synchpoint = point; base = base; flag = state.flag; entries = state.entries; mark = known.mark }) (status_of_set k)
status_is w k set state known id point base placed state_is known_is id_is point_is base_is = λ i. record {
  set = named i;
  synchpoint = synchpoint_is i;
  base = last_base_is i;
  flag = (state_is i).flag;
  entries = (state_is i).entries;
  mark = (known_is i).mark;
}
  where
    named : id ≡ k.at_target.def.id
    named = id_is ∙ ap (λ (def : SetDef). def.id) placed.target_def

    synchpoint_is : point ≡ (status_of_set k).synchpoint
    synchpoint_is = point_is ∙ ap (λ (s : ReadOnlyState). point_if s.has_points s.synchpoint) state_is

    last_base_is : base ≡ (status_of_set k).base
    last_base_is = base_is ∙ ap (λ (s : ReadOnlyState). point_if s.has_points s.base) state_is
