-- The stored tables of a server's log, and its end, if the server holds what a world calls for: proofs.
use Rattle.std.proofs.Common.{◌≡◌, ℕ, ◌+◌, ◌<◌, ◌≤◌, ◌^◌, List, length, refl, sym, ap, subst, ◌∙◌, arith, Option, Some, None, nat_cmp, Less}
use Rattle.world_store.specs.Words.{log_spelling, Is64, b64, one_whole, whole_order, order64, IsHead, head_spelling, one_head, Head, SpellsInOrder, key_less, fits_each, row_of, numbered_below, log_rows, head_of}
use Rattle.site_store.specs.Words.{Contents, Table, IsLastKey}
use Rattle.repl_model.specs.Words.{bytes_cmp, LogRecord, log_limit, Server}
use Rattle.repl_types.specs.declared.area.Area.TheVariants as areas
use Rattle.source_log.specs.Rules.{EndIs}
use Rattle.source_log.specs.Storing.{StoresWhole}
use Rattle.source_log.specs.laws.Whole.{whole_reads}
use Rattle.stored_commits.specs.laws.LogTables.{head_fits}

-- spelled positions are in order
in_order : SpellsInOrder b64 (2 ^ 64)
in_order a b la lb = whole_order Is64 b64 nat_cmp order64 a b la lb

-- the end that is read is that of a server's log
pub whole_end : (server : Server) (c : Contents) → StoresWhole server c → (head : Head) → IsHead head → EndIs head c → head ≡ head_of server
whole_end server c whole head is end =
    one_whole IsHead head_spelling one_head head (head_of server) is (head_fits server whole.kept.log) (end ∙ sym (whole_reads server c whole))

-- no record of the log comes after it
pub whole_last : (server : Server) (c : Contents) → StoresWhole server c → IsLastKey (c areas.Log 0) (b64 (head_of server).last)
whole_last server c whole q above = by_found (c areas.Log 0 q) refl
  where
    n : ℕ
    n = length server.log

    by_found : (o : Option (List ℕ)) → c areas.Log 0 q ≡ o → o ≡ None
    by_found None e = refl
    by_found (Some v) e =
        let r = row_of b64 log_spelling (log_rows server) q v (sym (ap (λ (t : Table). t q) whole.stores.log) ∙ e) in
        let short : n ≤ log_limit = whole.kept.log.short in
        let within : r.0.0 < n + 1 = fits_each (λ (row : ℕ × LogRecord). row.0 < n + 1) (log_rows server) r.0 (numbered_below 1 (n + 1) server.log (omega arith)) r.1 in
        let later : n < r.0.0 = key_less b64 (2 ^ 64) in_order n r.0.0 (omega (arith, short)) (omega (arith, short, within)) (subst (λ (k : List ℕ). bytes_cmp (b64 n) k ≡ Less) (sym r.2) above) in
        absurd (omega (arith, within, later))
