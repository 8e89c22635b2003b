-- The log has the changes that are in flight.
use Rattle.std.proofs.Common.{◌≡◌, ℕ, ◌+◌, ◌^◌, Bool, true, false, cond, ◌&&◌, List, [], ◌∷◌, length, Some, None, refl, ap, subst, arith, ◌==◌, nat_lt, filter, IfSome, eqb-true}
use Rattle.std.specs.List.{AllByRecursion}
use Rattle.world_store.specs.Words.{b64, log_spelling, IsRising, HasRow, rises, numbered_below, found_row, log_rows, positions_rise}
use Rattle.repl_model.specs.Words.{all_weaker, all_filter, LogRecord, Placed, each_given, At, positions, last_end, change_of, open_changes}
use Rattle.repl_types.specs.declared.record.LogRecord.TheVariants as records
use Rattle.stored_commits.specs.records.LongerTables.{log_table}
use Rattle.stored_commits.specs.records.InFlight.{OpenChangesAreLogged, OpenChangesAreStored}
use Rattle.stored_commits.specs.laws.LogTables.{numbers_in_order}

-- each row is one of the rows
each_there : {A X : Type 0} (rows : List (A × X)) → AllByRecursion (λ r. HasRow rows r) rows
each_there [] = tt
each_there {A} {X} (r ∷ rs) = (
  record { front = []; back = rs; split = refl },
  all_weaker (λ q. HasRow rs q) (λ q. HasRow (r ∷ rs) q) rs (λ q has. record { front = r ∷ has.front; back = has.back; split = ap (λ (l : List (A × X)). r ∷ l) has.split }) (each_there rs),
)

-- the log has the change of each open change
pub open_logged : OpenChangesAreLogged
open_logged server tx =
    each_given (λ placed. HasRow (log_rows server) (placed.pos, records.Change tx placed.change)) (change_of tx) (filter within (positions server.log))
    (all_weaker {X = At} (λ q. HasRow (log_rows server) q) (λ q. IfSome (change_of tx q) (λ placed. HasRow (log_rows server) (placed.pos, records.Change tx placed.change))) (filter within (positions server.log)) (λ q has. one q.0 q.1 has)
    (all_filter {X = At} (λ q. HasRow (log_rows server) q) within (positions server.log) (each_there (log_rows server))))
  where
    within : At → Bool
    within q = nat_lt (last_end tx (length server.log + 1) server.log) q.0 && nat_lt q.0 (length server.log + 1)

    one : (pos : ℕ) (r : LogRecord) → HasRow (log_rows server) (pos, r) → IfSome (change_of tx (pos, r)) (λ placed. HasRow (log_rows server) (placed.pos, records.Change tx placed.change))
    one pos (records.Change t change) has = by_own (t == tx) refl
      where
        by_own : (b : Bool) → (t == tx) ≡ b → IfSome (cond b (Some (record { pos = pos; change = change })) None) (λ (placed : Placed). HasRow (log_rows server) (placed.pos, records.Change tx placed.change))
        by_own true e = subst (λ (n : ℕ). HasRow (log_rows server) (pos, records.Change n change)) (eqb-true t tx e) has
        by_own false e = tt
    one pos (records.Commit t time authid origin) has = tt
    one pos (records.Abort t) has = tt

-- and so has the stored log
pub open_stored : OpenChangesAreStored
open_stored server tx short =
    all_weaker (λ placed. HasRow (log_rows server) (placed.pos, records.Change tx placed.change)) (λ placed. log_table server (b64 placed.pos) ≡ Some (log_spelling (records.Change tx placed.change))) (open_changes tx server.log)
    (λ placed has. found_row b64 log_spelling (log_rows server) (placed.pos, records.Change tx placed.change) log_rises has) (open_logged server tx)
  where
    log_rises : IsRising b64 (log_rows server)
    log_rises = rises b64 (2 ^ 64) numbers_in_order (log_rows server) (numbered_below 1 (2 ^ 64) server.log (omega arith)) (positions_rise 1 server.log)
