-- What the source of a set holds once it has the set's signal.
use Rattle.std.proofs.Common.{ℕ, ◌+◌, cond, List, length, map, sym, subst, length-append}
use Rattle.world_store.specs.Words.{Holds}
use Rattle.repl_model.specs.Words.{LogRecord, SourceSide, Server, World, KnownSet, same_set, known_sets, read_only_sets, IsSound, with_more, grown, signals, with_source_side, signal_records, after_action, In}
use Rattle.keep_core.specs.Contents.{Contents}
use Rattle.world_commits.specs.actions.laws.Signals.{source_is_named, signal_is}
use Rattle.stored_commits.specs.actions.ActedServers.{with_mark, SignalHolds, OthersHoldAfterSignal}
use Rattle.stored_commits.specs.laws.Marks.{marked_holds}
use Rattle.stored_commits.specs.laws.ActedWorlds.{still_holds}
use Rattle.stored_commits.specs.laws.Logged.{longer_holds, others_hold_longer}

-- each server holds, as it is, what the world after a signal calls for, if it holds what the one with the longer log does
after_signal : (world : World) (k : KnownSet) (server : Server) (held : Contents) → IsSound world → In k (read_only_sets (known_sets world))
    → Holds (grown k.source.name (signal_records k.at_source.def k.source.log) world) server held → Holds (after_action world k signals) server held
after_signal world k server held sound i holds =
    let more = signal_records k.at_source.def k.source.log in
    let seq = length k.source.log + length more in
    subst (λ (w : World). Holds w server held) (sym (signal_is world k sound i))
    (still_holds (λ server. map (λ (side : SourceSide). cond (same_set k.at_source.def.id side.def.id) (record side { signal = seq }) side) server.source_sets) (λ server. server.target_sets) k.source.name (grown k.source.name more world) server held holds)

-- so do the other servers
pub others_hold_signal : OthersHoldAfterSignal
others_hold_signal world k other held sound i j apart holds =
    after_signal world k other held sound i (others_hold_longer k.source.name (signal_records k.at_source.def k.source.log) world other held sound j apart holds)

-- and the source of the set, once its log has the signal and the mark is put
pub signal_holds : SignalHolds
signal_holds world k number before now sound i is holds becomes =
    subst (λ (n : ℕ). Holds (after_action world k signals) (with_source_side k.at_source.def.id (λ side. record side { signal = n }) (with_more more k.source)) (with_mark number (record { mark = k.at_source.mark; signal = seq }) now)) (sym (length-append k.source.log more))
    (marked_holds (λ side. side.mark) (λ side. seq) world (after_action world k signals) k (with_more more k.source).log number now sound i is
    (after_signal world k (with_more more k.source) now sound i (longer_holds k.source.name more world k.source before now sound (source_is_named world k i) holds becomes)))
  where
    more : List LogRecord
    more = signal_records k.at_source.def k.source.log

    seq : ℕ
    seq = length k.source.log + length more
