-- What a server with further records of its log keeps: all that it captured, and what it knows of definitions.
use Rattle.std.proofs.Common.{◌≡◌, ℕ, zero, suc, ◌≤◌, List, [], ◌∷◌, length, refl, ap, max, map, cond, slice_get}
use Rattle.std.specs.Option.{option_map_or, option_and_then}
use Rattle.std.proofs.Math.Path.{fun_ext}
use Rattle.world_store.specs.Words.{CdKey, ChangeRow, UowRow, CaptureState, change_key_spelling, single_spelling, change_row_spelling, uow_spelling, capture_spelling, b64, table_from_rows, change_rows_of, uow_rows, no_rows, change_table, capture_table, alone}
use Rattle.repl_model.specs.Words.{CdRow, LogRecord, Unit, Registered, Server, code_in, NumbersAreSound, with_more, changes_stay_longer, restart_stays_longer, units_between_stay_longer, is_seq_or_zero_within}

module _ (more : List LogRecord) (server : Server) (numbers : NumbersAreSound server) where
  -- what is captured is within the log
  captured_within : server.captured ≤ length server.log
  captured_within = is_seq_or_zero_within server.log server.captured numbers.captured

  -- the change rows of a registration stay
  change_rows_stay : (r : Registered) → change_rows_of (with_more more server) r ≡ change_rows_of server r
  change_rows_stay r = ap (λ (changes : List CdRow). cond r.active (map row changes) []) (changes_stay_longer server.log more r.reg (max r.start r.floor) server.captured captured_within)
    where
      row : CdRow → CdKey × ChangeRow
      row change = (record { commitseq = change.commitseq; intentseq = change.intentseq }, record { op = change.op; after = change.after; before = change.before })

  -- so does each table of them
  pub changes_stay : (n : ℕ) → change_table (with_more more server) n ≡ change_table server n
  changes_stay n = ap (λ (rows : Registered → List (CdKey × ChangeRow)). option_map_or (λ r. table_from_rows change_key_spelling change_row_spelling (rows r)) (option_and_then (λ t. t.registered) (slice_get server.tables n)) no_rows) (fun_ext change_rows_stay)

  -- the units of work stay
  pub uow_stays : (n : ℕ) → alone (table_from_rows b64 uow_spelling (uow_rows (with_more more server))) n ≡ alone (table_from_rows b64 uow_spelling (uow_rows server)) n
  uow_stays n = ap (λ (us : List Unit). alone (table_from_rows b64 uow_spelling (map row us)) n) (units_between_stay_longer server.log more server.floor server.captured captured_within)
    where
      row : Unit → ℕ × UowRow
      row u = (u.head.seq, record { time = u.head.time; authid = u.head.authid; origin = u.head.origin; code = code_in server.shown u.head.seq })

  -- so does how far capture is
  pub capture_stays : (n : ℕ) → capture_table (with_more more server) n ≡ capture_table server n
  capture_stays zero = ap (λ (restart : ℕ). table_from_rows single_spelling capture_spelling ((record {}, state restart) ∷ [])) (restart_stays_longer server.log more server.captured captured_within)
    where
      state : ℕ → CaptureState
      state restart = record { captured = server.captured; restart = restart; floor = server.floor }
  capture_stays (suc zero) = refl
  capture_stays (suc (suc n)) = refl
