-- Records that are taken one after another: proofs.
use Rattle.std.proofs.Common.{◌≡◌, ◌≢◌, ℕ, zero, suc, ◌+◌, ◌<◌, ◌≤◌, Bool, true, false, cond, List, [], ◌∷◌, ◌++◌, length, take, drop, get_or, refl, sym, ap, subst, ◌∙◌, arith, Some, ◌&&◌, nat_lt}
use Rattle.std.specs.List.{AllByRecursion}
use Rattle.std.proofs.lemmas.Bool.{and_parts, ltb-true}
use Rattle.std.proofs.lemmas.List.{append_assoc, append-nil, take_more, drop_more}
use Rattle.world_store.specs.Words.{b64, Head, head_of}
use Rattle.site_store.specs.Words.{Contents, IsLastKey}
use Rattle.repl_model.specs.Words.{Area, LogRecord, is_applicable, Server, tables_of, log_limit, with_more}
use Rattle.repl_types.specs.declared.area.Area.TheVariants as areas
use Rattle.repl_types.specs.declared.call_errors.AppendError.TheVariants as errors
use Rattle.stored_commits.specs.records.LongerTables.{head_after}
use Rattle.stored_commits.specs.logs.LongerServers.{is_of_log}
use Rattle.world_commits.specs.logs.LongerLogs.{CanFollow, AllFollow}
use Rattle.source_log.specs.Appending.{is_taken, taken, error_at, stop_at, TakesFirst}
use Rattle.source_log.specs.Storing.{IsKept, Stores, outcome_of, Extends, TakesRecord, MayAppend}
use Rattle.source_log.specs.declared.outcome.Outcome.{Outcome}
use Rattle.source_log.specs.declared.outcome.Outcome.TheVariants as outcomes
use Rattle.source_log.proofs.Drops.{take_whole}
use Rattle.source_log.proofs.Extending.{extends_none, extends_then}
use Rattle.world_commits.specs.laws.OneLog.{log_stays_sound}
use Rattle.stored_commits.specs.laws.LogTables.{head_goes_on}

-- ---- one record

-- a record that is taken can follow
pub follows : (server : Server) (r : LogRecord) → MayAppend r → is_taken server r ≡ true → CanFollow server r
follows server r may took =
    let both = and_parts (is_applicable (tables_of server) server.log r) (nat_lt (length server.log) log_limit) took in
    record { typed = may.typed; users = may.users; early = may.early; applies = both.0; short = ltb-true (length server.log) log_limit both.1 }

-- all that are taken can follow one after another
pub taken_follow : (server : Server) (records : List LogRecord) → AllByRecursion MayAppend records → AllFollow server (taken server records)
taken_follow server [] all = tt
taken_follow server (r ∷ rs) all = pick (is_taken server r) refl (taken_follow (with_more (r ∷ []) server) rs all.1)
  where
    pick : (b : Bool) → is_taken server r ≡ b → AllFollow (with_more (r ∷ []) server) (taken (with_more (r ∷ []) server) rs) → AllFollow server (cond b (r ∷ taken (with_more (r ∷ []) server) rs) [])
    pick true took rest = (follows server r all.0 took, rest)
    pick false took rest = tt

-- what is known of a server is known after a record that is taken
kept_more : (server : Server) (r : LogRecord) → IsKept server → MayAppend r → is_taken server r ≡ true → IsKept (with_more (r ∷ []) server)
kept_more server r kept may took = record {
  log = log_stays_sound server (r ∷ []) kept.log (follows server r may took, tt);
  world = kept.world;
  before = kept.before;
  keeps = kept.keeps;
  tables = kept.tables;
}

-- a record is taken if that is its outcome
taken_if : (server : Server) (r : LogRecord) → outcomes.Taken ≡ outcome_of server r → is_taken server r ≡ true
taken_if server r told = pick (is_applicable (tables_of server) server.log r) (nat_lt (length server.log) log_limit) told
  where
    pick : (a b : Bool) → outcomes.Taken ≡ cond a (cond b outcomes.Taken outcomes.Full) outcomes.NotApplicable → (a && b) ≡ true
    pick true true e = refl
    pick true false e = absurd cc
    pick false b e = absurd cc

-- and it isn't if that isn't
not_taken_if : (server : Server) (r : LogRecord) (outcome : Outcome) → outcome ≢ outcomes.Taken → outcome ≡ outcome_of server r → is_taken server r ≡ false
not_taken_if server r outcome other told = pick (is_applicable (tables_of server) server.log r) (nat_lt (length server.log) log_limit) told
  where
    pick : (a b : Bool) → outcome ≡ cond a (cond b outcomes.Taken outcomes.Full) outcomes.NotApplicable → (a && b) ≡ false
    pick true true e = absurd (other e)
    pick true false e = refl
    pick false b e = refl

-- why it isn't
error_told : (place : ℕ) (server : Server) (r : LogRecord) (rs : List LogRecord) (outcome : Outcome) → outcome ≢ outcomes.Taken → outcome ≡ outcome_of server r → stop_at place outcome ≡ error_at place server (r ∷ rs)
error_told place server r rs outcome other told = pick outcome other (is_applicable (tables_of server) server.log r) (nat_lt (length server.log) log_limit) told
  where
    pick : (o : Outcome) → o ≢ outcomes.Taken → (a b : Bool) → o ≡ cond a (cond b outcomes.Taken outcomes.Full) outcomes.NotApplicable → stop_at place o ≡ Some (cond a (errors.LogFull place) (errors.NotApplicable place))
    pick outcomes.Taken ne a b e = absurd (ne refl)
    pick outcomes.NotApplicable ne true true e = absurd cc
    pick outcomes.NotApplicable ne true false e = absurd cc
    pick outcomes.NotApplicable ne false b e = refl
    pick outcomes.Full ne true true e = absurd cc
    pick outcomes.Full ne true false e = refl
    pick outcomes.Full ne false b e = absurd cc

-- ---- the first of some records

-- So many of some records were taken at a server.
pub record HasSome (server : Server) (records : List LogRecord) (n : ℕ) (end : Head) (d : Contents) : Type 0 where
  pub took : taken server records ≡ take n records ++ taken (with_more (take n records) server) (drop n records)
  pub at_end : end ≡ head_of (with_more (take n records) server)
  pub stores : Stores (with_more (take n records) server) d
  pub kept : IsKept (with_more (take n records) server)

-- So many of some records were taken.
pub record TookSome (head : Head) (records : List LogRecord) (n : ℕ) (end : Head) (c d : Contents) : Type 0 where
  pub others : (a : Area) (m : ℕ) → is_of_log a m ≡ false → d a m ≡ c a m
  pub stays : (m : ℕ) → d areas.Head m ≡ c areas.Head m
  pub extends : IsLastKey (c areas.Log 0) (b64 head.last) → Extends c d
  pub ends : IsLastKey (c areas.Log 0) (b64 head.last) → IsLastKey (d areas.Log 0) (b64 end.last)
  pub has : (server : Server) → IsKept server → head ≡ head_of server → Stores server c → HasSome server records n end d

-- a server with no more records
pub same_server : (server : Server) → with_more [] server ≡ server
same_server server = ap (λ (l : List LogRecord). record server { log = l }) (append-nil server.log)

-- nothing was taken
pub took_none : (head : Head) (records : List LogRecord) (c : Contents) → TookSome head records 0 head c c
took_none head records c = record {
  others = λ a m e. refl;
  stays = λ m. refl;
  extends = λ last. extends_none c;
  ends = λ last. last;
  has = λ server kept is stores. record {
    took = ap (λ (s : Server). taken s records) (sym (same_server server));
    at_end = is ∙ ap head_of (sym (same_server server));
    stores = subst (λ (s : Server). Stores s c) (sym (same_server server)) stores;
    kept = subst IsKept (sym (same_server server)) kept;
  };
}

module _ (head : Head) (records : List LogRecord) (n : ℕ) (end : Head) (c d e : Contents) (some : TookSome head records n end c d) (r : LogRecord) (is : r ≡ get_or records n r) (lt : n < length records) where
  -- it is the first of those that are left
  left : drop n records ≡ r ∷ drop (n + 1) records
  left = drop_more records n r lt ∙ ap (λ (x : LogRecord). x ∷ drop (n + 1) records) (sym is)

  -- it is the last of one more
  more : take n records ++ r ∷ [] ≡ take (n + 1) records
  more = ap (λ (x : LogRecord). take n records ++ x ∷ []) is ∙ sym (take_more records n r lt)

  -- the server after it
  longer : (server : Server) → with_more (r ∷ []) (with_more (take n records) server) ≡ with_more (take (n + 1) records) server
  longer server = ap (λ (l : List LogRecord). record server { log = l }) (append_assoc server.log (take n records) (r ∷ []) ∙ ap (λ (l : List LogRecord). server.log ++ l) more)

  -- one more was taken
  pub took_more : MayAppend r → TakesRecord end r outcomes.Taken d e → TookSome head records (n + 1) (head_after r end) c e
  took_more may takes = record {
    others = λ a m o. takes.others a m o ∙ some.others a m o;
    stays = λ m. takes.end m ∙ some.stays m;
    extends = λ last. extends_then c d e (some.extends last) (takes.extends (some.ends last));
    ends = λ last. takes.ends (some.ends last);
    has = λ server kept at stores.
        let now = some.has server kept at stores in
        let here = with_more (take n records) server in
        let took : is_taken here r ≡ true = taken_if here r (takes.told here now.kept now.at_end now.stores) in
        record {
          took =
              now.took
              ∙ ap (λ (l : List LogRecord). take n records ++ taken here l) left
              ∙ ap (λ (b : Bool). take n records ++ cond b (r ∷ taken (with_more (r ∷ []) here) (drop (n + 1) records)) []) took
              ∙ sym (append_assoc (take n records) (r ∷ []) (taken (with_more (r ∷ []) here) (drop (n + 1) records)))
              ∙ (λ i. more i ++ taken (longer server i) (drop (n + 1) records));
          at_end = ap (head_after r) now.at_end ∙ sym (head_goes_on here r) ∙ ap head_of (longer server);
          stores = subst (λ (s : Server). Stores s e) (longer server) (takes.stores here now.kept now.at_end now.stores);
          kept = subst IsKept (longer server) (kept_more here r now.kept may took);
        };
  }

  -- it wasn't taken
  pub took_first : (outcome : Outcome) → outcome ≢ outcomes.Taken → TakesRecord end r outcome d e → TakesFirst head records (record { taken = n; end = end; outcome = outcome }) c e
  took_first outcome other takes = record {
    others = λ a m o. takes.others a m o ∙ some.others a m o;
    end = λ m. takes.end m ∙ some.stays m;
    has = λ server kept at stores.
        let now = some.has server kept at stores in
        let here = with_more (take n records) server in
        let told : outcome ≡ outcome_of here r = takes.told here now.kept now.at_end now.stores in
        let none : taken here (drop n records) ≡ [] = ap (taken here) left ∙ ap (λ (b : Bool). cond b (r ∷ taken (with_more (r ∷ []) here) (drop (n + 1) records)) []) (not_taken_if here r outcome other told) in
        let first : take n records ≡ taken server records = sym (now.took ∙ ap (λ (l : List LogRecord). take n records ++ l) none ∙ append-nil (take n records)) in
        let count : n ≡ length (taken server records) = sym (taken_count n records (omega (arith, lt))) ∙ ap length first in
        record {
          first = first;
          count = count;
          stop =
              error_told n here r (drop (n + 1) records) outcome other told
              ∙ ap (error_at n here) (sym left)
              ∙ (λ i. error_at (count i) (with_more (first i) server) (drop (count i) records));
          end = now.at_end ∙ ap (λ (l : List LogRecord). head_of (with_more l server)) first;
          stores = subst (λ (l : List LogRecord). Stores (with_more l server) e) first (stays_stored outcome other takes server now kept);
        };
  }
    where
      taken_count : (n : ℕ) (xs : List LogRecord) → n ≤ length xs → length (take n xs) ≡ n
      taken_count zero xs le = refl
      taken_count (suc n) [] le = absurd (omega (arith, le))
      taken_count (suc n) (x ∷ xs) le = ap suc (taken_count n xs (omega (arith, le)))

      stays_stored : (outcome : Outcome) → outcome ≢ outcomes.Taken → TakesRecord end r outcome d e → (server : Server) → HasSome server records n end d → IsKept server → Stores (with_more (take n records) server) e
      stays_stored outcomes.Taken ne takes server now kept = absurd (ne refl)
      stays_stored outcomes.NotApplicable ne takes server now kept = takes.stores (with_more (take n records) server) now.kept now.at_end now.stores
      stays_stored outcomes.Full ne takes server now kept = takes.stores (with_more (take n records) server) now.kept now.at_end now.stores

-- all were taken
pub took_all : (head : Head) (records : List LogRecord) (n : ℕ) (end : Head) (c d : Contents) → length records ≤ n → TookSome head records n end c d → TakesFirst head records (record { taken = length records; end = end; outcome = outcomes.Taken }) c d
took_all head records n end c d whole some = record {
  others = some.others;
  end = some.stays;
  has = λ server kept at stores.
      let now = some.has server kept at stores in
      let here = with_more (take n records) server in
      let none : drop n records ≡ [] = dropped records n whole in
      let all : take n records ≡ records = take_whole records n whole in
      let first : records ≡ taken server records = sym (now.took ∙ ap (λ (l : List LogRecord). take n records ++ taken here l) none ∙ append-nil (take n records) ∙ all) in
      record {
        first = take_whole records (length records) (omega arith) ∙ first;
        count = ap length first;
        stop = sym (ap (error_at (length records) (with_more records server)) (dropped records (length records) (omega arith))) ∙ ap (λ (l : List LogRecord). error_at (length l) (with_more l server) (drop (length l) records)) first;
        end = now.at_end ∙ ap (λ (l : List LogRecord). head_of (with_more l server)) (all ∙ first);
        stores = subst (λ (l : List LogRecord). Stores (with_more l server) d) (all ∙ first) now.stores;
      };
}
  where
    dropped : (xs : List LogRecord) (n : ℕ) → length xs ≤ n → drop n xs ≡ []
    dropped [] zero le = refl
    dropped [] (suc n) le = refl
    dropped (x ∷ xs) zero le = absurd (omega (arith, le))
    dropped (x ∷ xs) (suc n) le = dropped xs n (omega (arith, le))
