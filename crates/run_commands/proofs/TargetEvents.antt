-- How a set and a target are shown.
use Rattle.std.proofs.Common.{◌≡◌, ◌∙◌, ℕ, List, [], ◌∷◌, map, cond, Bool, true, false, refl, sym, ap, subst, Option, Some, None, IsSome, slice_get}
use Rattle.std.specs.Option.{option_map_or}
use Rattle.std.proofs.lemmas.Bool.{false_from_ne_true}
use Rattle.std.proofs.lemmas.Option.{same_Some}
use Rattle.world_store.specs.Words.{Stands}
use Rattle.site_store.specs.Words.{Kept, AllClosed, HasNone, IsPlace, names, held, work, KeepsServers}
use Rattle.site_store.specs.declared.sites.Sites.{Sites}
use Rattle.repl_model.specs.Words.{Area, DamageCause, SetId, ShowError, Member, SetDef, is_replica_set, Server, World, KnownSet, server_in}
use Rattle.repl_types.specs.declared.refusal.Refusal.TheVariants as refusals
use Rattle.repl_types.specs.declared.call_errors.ShowError.TheVariants as shows
use Rattle.run_core.specs.Runs.{Event, writes}
use Rattle.stored_defs.specs.laws.Standing.{server_at_place, no_server}
use Rattle.shows.specs.servers.Showing.{IsUndamagedShow}
use Rattle.run_commands.specs.parts.Causes.{PartHasCause}
use Rattle.run_commands.specs.parts.Refusing.{refused}
use Rattle.run_commands.specs.parts.RunErrors.{error_of_show}
use Rattle.run_commands.specs.declared.parts.run_error.RunError.{RunError}
use Rattle.run_commands.specs.declared.parts.run_error.RunError.TheVariants as errors
use Rattle.run_commands.specs.parts.laws.Damage.{IsOfRun}
use Rattle.run_commands.specs.parts.laws.Looking.{looked_keeps, stops_keeps, stops_run, stops_cause}
use Rattle.set_places.specs.Places.{IsPlacedAs, IsKnownAs}
use Rattle.set_places.specs.declared.placed_set.PlacedSet.{PlacedSet}
use Rattle.shows.specs.sets.Replies.{set_line, target_named}
use Rattle.shows.specs.sets.Showing.{FailsShowing}
use Rattle.shows.specs.sets.Targets.{IsTargetNamed, IsNamedAs}
use Rattle.shows.specs.declared.targets.PlacedTarget.{PlacedTarget}
use Rattle.member_targets.specs.Kinds.{is_taken}
use Rattle.member_targets.specs.Showing.{IsTakenAt, target_lines}
use Rattle.run_commands.specs.target.TargetEvents.{known_set_events, set_events, member_events, server_target_events, target_events}

-- ---- a set

module _ (number : ℕ) (w : World) (k : KnownSet) (set : PlacedSet) (placed : IsPlacedAs w k set) where
  -- what is done at a known set, by whether it is a replica set
  at_set : (b : Bool) → is_replica_set set.at_target.def ≡ b → cond b (refused (refusals.UnknownCommand number)) (writes (set_line k) ∷ []) ≡ known_set_events number k
  at_set b is = ap (λ (c : Bool). cond c (refused (refusals.UnknownCommand number)) (writes (set_line k) ∷ [])) (sym is ∙ ap is_replica_set placed.target_def)

  -- it is a replica set
  pub replica_refused : is_replica_set set.at_target.def ≡ true → refused (refusals.UnknownCommand number) ≡ known_set_events number k
  replica_refused is = at_set true is

  -- it isn't
  pub set_shown : is_replica_set set.at_target.def ≡ false → writes (set_line k) ∷ [] ≡ known_set_events number k
  set_shown is = at_set false is

module _ (number : ℕ) (id : SetId) (w : World) where
  -- what is done at what the world has of the set
  abbrev at_known : Option KnownSet → List (Event World)
  at_known o = option_map_or (known_set_events number) o (refused (refusals.NoSuchSet id.qual (Some id.name)))

  -- no set has the name
  pub none_known : IsKnownAs w id None → refused (refusals.NoSuchSet id.qual (Some id.name)) ≡ set_events number id w
  none_known none = ap at_known (sym none)

  -- a set has it
  pub one_known : (set : PlacedSet) (known : IsKnownAs w id (Some set)) → known_set_events number known.0 ≡ set_events number id w
  one_known set known = ap at_known (sym known.1)

-- ---- a target

module _ (number : ℕ) (w : World) (k : KnownSet) (member : Member) where
  -- what is done at a member, by whether its kind is carried out
  at_member : (b : Bool) → is_taken member.kind ≡ b → cond b (map writes (target_lines w k member)) (refused (refusals.UnknownCommand number)) ≡ member_events number w k member
  at_member b is = ap (λ (c : Bool). cond c (map writes (target_lines w k member)) (refused (refusals.UnknownCommand number))) (sym is)

  module _ (target : PlacedTarget) (placed : IsPlacedAs w k target.set) (at : slice_get k.at_target.def.members target.member ≡ Some member) where
    -- it stands where it was found
    there : slice_get target.set.at_target.def.members target.member ≡ Some member
    there = subst (λ (def : SetDef). slice_get def.members target.member ≡ Some member) (sym placed.target_def) at

    -- its kind isn't carried out
    pub other_refused : (IsTakenAt target.set.at_target.def target.member → ⊥) → refused (refusals.UnknownCommand number) ≡ member_events number w k member
    other_refused other = at_member false (false_from_ne_true (is_taken member.kind) (λ taken. other (record { member = member; there = there; taken = taken })))

    -- it is
    pub target_shown : IsTakenAt target.set.at_target.def target.member → map writes (target_lines w k member) ≡ member_events number w k member
    target_shown is = at_member true (ap (λ (m : Member). is_taken m.kind) (sym (same_Some is.member member (sym is.there ∙ there))) ∙ is.taken)

module _ {K : Type 0} (kept : K → Kept) (s0 : Sites K) (closed : AllClosed (work kept s0)) (number : ℕ) (name table : List ℕ) where
  -- what is done at what the world has of the server
  abbrev at_server : World → Option Server → List (Event World)
  at_server w o = option_map_or (server_target_events number name table w) o (refused (refusals.NoSuchServer name))

  -- no server has the name
  pub no_such_server : HasNone (names s0) name → (w : World) → Stands (names s0) (held kept s0) w → refused (refusals.NoSuchServer name) ≡ target_events number name table w
  no_such_server none w stands = ap (at_server w) (sym (no_server kept s0 closed w stands name none))

  module _ (n : ℕ) (place : IsPlace (names s0) name n) (w : World) (stands : Stands (names s0) (held kept s0) w) where
    -- what is done at what the world's server has of the target
    abbrev at_target : Option (KnownSet × (ℕ × Member)) → List (Event World)
    at_target o = option_map_or (λ target. member_events number w target.0 target.1.1) o (refused (refusals.NoSuchTable name table))

    -- that is what is done
    at_named : at_target (target_named table w (server_in w n)) ≡ target_events number name table w
    at_named = ap (at_server w) (sym (server_at_place kept s0 closed w stands name n s0.servers.apart place))

    -- the server has no such target
    pub no_such_target : IsNamedAs table w (server_in w n) None → refused (refusals.NoSuchTable name table) ≡ target_events number name table w
    no_such_target none = ap at_target (sym none) ∙ at_named

    -- it has this one
    pub one_target : (target : PlacedTarget) (named : IsTargetNamed table w (server_in w n) target) → member_events number w named.k named.member ≡ target_events number name table w
    one_target target named = ap at_target (sym named.named) ∙ at_named

-- ---- why it ends

module _ {K : Type 0} (kept : K → Kept) (s0 s1 : Sites K) (damage : ℕ → Area → DamageCause → Type 0) (shown : IsOfRun kept s0 damage) (closed : AllClosed (work kept s0)) (before now : ℕ) where
  -- a call that writes and fails leaves what is held
  pub fails_held : (error : ShowError) → FailsShowing kept s0 s1 damage before now error → held kept s1 ≡ held kept s0
  fails_held (shows.Fault fault) fails = fails.0.held
  fails_held shows.Output fails = fails.0.1.stays.held

  -- it keeps the servers
  pub fails_keeps : (error : ShowError) → FailsShowing kept s0 s1 damage before now error → KeepsServers kept s0 s1
  fails_keeps (shows.Fault fault) fails = stops_keeps kept s0 s1 damage shown fault fails.0 fails.1
  fails_keeps shows.Output fails = looked_keeps kept s0 s1 fails.0.1 closed

  -- it is none that a refusal would be
  pub fails_run : (error : ShowError) → FailsShowing kept s0 s1 damage before now error → IsSome (error_of_show error)
  fails_run (shows.Fault fault) fails = stops_run kept s0 s1 damage shown fault fails.0
  fails_run shows.Output fails = refl

  -- why the run ends
  pub show_cause : (error : ShowError) (e : RunError) → Some e ≡ error_of_show error → FailsShowing kept s0 s1 damage before now error → ((w : World) → Stands (names s0) (held kept s0) w → IsUndamagedShow error) → PartHasCause kept s0 s1 before now e
  show_cause (shows.Fault fault) e is fails none = stops_cause kept s0 s1 damage shown fault fails.0 closed fails.1 none before now e is
  show_cause shows.Output e is fails none = rw (same_Some e errors.OutputFailed is) (record { streams = fails.0.0; servers = tt })
