-- A world stays sound with an action of a read-only set that may be made, and what is next may be.
use Rattle.std.proofs.Common.{◌≡◌, ℕ, ◌+◌, List, ◌++◌, length, Some, refl, sym, subst, IsTrue, length-append}
use Rattle.repl_model.specs.Words.{LogRecord, SetDef, World, KnownSet, known_sets, read_only_sets, is_seq_or_zero, TrailIsSound, IsSound, with_more, grown, Action, signals, refreshes, blocks, reports, idles, refuses, next_action_within, source_tables, signal_records, after_action, In, at_one}
use Rattle.world_commits.specs.actions.StaysSound.{HasRoom, MayMake, ActionsSound, NextMayBeMade}
use Rattle.world_commits.specs.actions.Flags.{FlagsSound}
use Rattle.world_commits.specs.actions.laws.Signals.{signal_is}
use Rattle.world_commits.specs.laws.SetRows.{source_side_sound, target_side_sound, report_sound}
use Rattle.world_commits.specs.laws.Trails.{refresh_sound, block_sound, next_refresh_may, block_is_next, next_block_may}
use Rattle.world_commits.specs.laws.OwnUnits.{own_is_seq}
use Rattle.world_commits.specs.laws.SignalLogs.{starts, signal_is_own}
use Rattle.world_commits.specs.laws.Signals.{signal_grows_sound, known_after_signal}

-- a world stays sound with a signal, if the log has room for it
signal_sound : (world : World) (k : KnownSet) → IsSound world → In k (read_only_sets (known_sets world)) → HasRoom k → IsSound (after_action world k signals)
signal_sound world k sound i room = subst IsSound (sym (signal_is world k sound i))
    (source_side_sound (grown k.source.name more world) after (signal_grows_sound world k sound i room) (known_after_signal world k sound i more)
    (λ side. record side { signal = seq })
    (record { def = λ side. refl; t = λ side. refl; d = λ side. refl; codes = λ side. refl })
    (at_one TrailIsSound (read_only_sets (known_sets world)) k sound.trails i).mark
    (subst (λ (n : ℕ). IsTrue (is_seq_or_zero after.source.log n)) (length-append k.source.log more) seq_is))
  where
    more : List LogRecord
    more = signal_records k.at_source.def k.source.log

    seq : ℕ
    seq = length k.source.log + length more

    after : KnownSet
    after = record k { source = with_more more k.source }

    def : SetDef
    def = k.at_source.def

    seq_is : IsTrue (is_seq_or_zero (k.source.log ++ more) (length (k.source.log ++ more)))
    seq_is = subst (λ (rs : List LogRecord). IsTrue (is_seq_or_zero (k.source.log ++ rs) (length (k.source.log ++ rs)))) (sym (signal_is_own def k.source.log)) (own_is_seq (starts (source_tables def)) def.id.qual (Some def.id) k.source.log)

-- a world stays sound with an action that may be made
pub actions_sound : ActionsSound
actions_sound world k signals sound i may = signal_sound world k sound i may
actions_sound world k refreshes sound i may = refresh_sound world k sound i may
actions_sound world k (blocks upto) sound i may = block_sound world k upto sound i may
actions_sound world k reports sound i may = report_sound world k sound i
actions_sound world k idles sound i may = sound
actions_sound world k (refuses place) sound i may = sound

-- what is next may be made
pub next_may : NextMayBeMade
next_may end k room = by_action (next_action_within end k) refl
  where
    by_action : (a : Action) → next_action_within end k ≡ a → MayMake k a
    by_action signals is = room is
    by_action refreshes is = next_refresh_may end k is
    by_action (blocks upto) is = next_block_may end k upto (block_is_next end k upto is)
    by_action reports is = tt
    by_action idles is = tt
    by_action (refuses place) is = tt

-- so does it with any flag
pub flags_sound : FlagsSound
flags_sound world k flag sound i =
    let trail = at_one TrailIsSound (read_only_sets (known_sets world)) k sound.trails i in
    target_side_sound world k sound i (λ side. record side { flag = flag }) (record { def = λ side. refl; signal = λ side. refl }) trail.goes trail.mark
