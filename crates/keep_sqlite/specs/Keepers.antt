-- What a clause sees of a keeper over a database.
use Rattle.std.specs.Prelude.{ℕ, if◌then◌else◌, Some, None, Result, Ok, Err, true, false}
use Rattle.keep_core.specs.Kept.{Kept}
use Rattle.keep_core.specs.declared.keeper.KeepError.{KeepError}
use Rattle.keep_core.specs.declared.keeper.KeepError.TheVariants.{Memory, Failed}
use Rattle.keep_map.specs.Keepers.{count_of}
use Rattle.keep_map.specs.Planned.{one_more}
use Rattle.keep_sqlite.specs.declared.tally.Tally.{Tally}

-- a keeper over a database reveals no contents
abbrev pub kept_of : Tally → Kept
kept_of t = record {
  held = None;
  open_work = if t.is_open then Some None else None;
  faults = t.faults;
  reads = count_of t.reads;
  writes = count_of t.writes;
}

-- a keeper with no transaction open and nothing counted
abbrev pub kept_new : Kept
kept_new = record { held = None; open_work = None; faults = 0; reads = λ _. 0; writes = λ _. 0 }

-- the count of faults after a statement was refused: one more, unless memory ran out
abbrev pub after_error : ℕ → KeepError → ℕ
after_error n Memory = n
after_error n Failed = one_more n

-- after a rollback no transaction is open; if it was refused, that is counted, and the keeper is dead
abbrev pub after_rollback : Tally → Result Unit KeepError → Tally
after_rollback t (Ok _) = record t { is_open = false }
after_rollback t (Err e) = record t { is_open = false; is_dead = true; faults = after_error t.faults e }
