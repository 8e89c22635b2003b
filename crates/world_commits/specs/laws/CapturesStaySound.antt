-- A world stays sound when one of its servers captures the next units of its log.
use Rattle.std.proofs.Common.{◌≡◌, Bool, true, false, cond, inl, inr, map, refl, subst, arith, bytes_eq}
use Rattle.repl_model.specs.Words.{Server, NumbersAreSound, IsSound, In, at_one}
use Rattle.world_commits.specs.captures.Captures.{with_units}
use Rattle.world_commits.specs.captures.StaysSound.{CapturesSound}
use Rattle.world_commits.specs.captures.laws.Servers.{states_captured, captured_by_states, holds_captured}
use Rattle.world_commits.specs.laws.Changed.{own_rows}
use Rattle.world_commits.specs.laws.ChangedWorlds.{HasCapturedMore, changes_sound}
use Rattle.world_commits.specs.laws.TakenUnits.{captures_more}
use Rattle.world_commits.specs.laws.ActedSet.{named_alone}

-- a world stays sound when a server captures the next units of its log
pub captures_sound : CapturesSound
captures_sound name us world sound next = holds_captured (λ (g : Server → Server). IsSound (map g world)) name us
    (changes_sound (states_captured name us) (λ server. own_rows) world (record {
      more = λ server i. subst (HasCapturedMore server) (captured_by_states name us server) (more server i (bytes_eq name server.name) refl);
      unknown = λ server i. record { sources = λ side j. inr refl; targets = λ side j. inr refl };
      sets = λ k i. inl (record { source = refl; target = refl });
    }) sound)
  where
    more : (server : Server) → In server world → (b : Bool) → bytes_eq name server.name ≡ b → HasCapturedMore server (cond b (with_units us server) server)
    more server i true e = captures_more us server (at_one NumbersAreSound world server sound.numbers i) (next server (named_alone name world server sound.definitions.names i e))
    more server i false e = record { point = omega arith; numbers = at_one NumbersAreSound world server sound.numbers i }
