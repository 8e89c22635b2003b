-- The end of a log is read: proofs.
use Rattle.std.proofs.Common.{◌≡◌, ℕ, List, inl, inr, Option, Some, IfSome}
use Rattle.world_store.specs.Words.{log_spelling, b64, IsHead, Head}
use Rattle.site_store.specs.Words.{Contents, IsNextKey, Kept, sees, no_access, Reads, ClosesAll, IsMemoryOr, Shows, Damages, Looks, Breaks, breaks_after, unfit_breaks, stops_as, sees_on, if_seen, if_both_seen}
use Rattle.site_store.specs.declared.sites.Sites.{Sites}
use Rattle.repl_model.specs.Words.{Area, LogRecord, DamageCause, Fault}
use Rattle.repl_types.specs.declared.area.Area.TheVariants as areas
use Rattle.repl_types.specs.declared.status.DamageCause.TheVariants as causes
use Rattle.repl_types.specs.declared.fault.Fault.TheVariants as faults
use Rattle.source_log.specs.Rules.{rules, all_rules, EndIs, ShowsDamage, BreaksFirst}

-- what the rules show, all rules show
all_rules_show : (a : Area) (cause : DamageCause) (saw : Option Contents) → Shows rules a cause saw → Shows all_rules a cause saw
all_rules_show a (causes.Spelling bytes) saw h = h
all_rules_show a (causes.Absent key) saw h = h
all_rules_show a (causes.Unfit bytes) saw h = (h.0, if_seen saw (λ c. (key : List ℕ) × (c a h.0 key ≡ Some bytes) × rules.is_unfit a h.0 key bytes c) (λ c. (key : List ℕ) × (c a h.0 key ≡ Some bytes) × all_rules.is_unfit a h.0 key bytes c) (λ c u. (u.0, u.1, inl u.2)) h.1)
all_rules_show a (causes.NoRest steps) saw h = h

module _ {K : Type 0} (kept : K → Kept) where
  -- a read failed
  pub first_breaks : (s0 s1 : Sites K) (server : ℕ) (e : Fault) → Breaks rules kept s0 s1 server e → BreaksFirst kept s0 s1 server e
  first_breaks s0 s1 server e f = stops_as kept s0 s1 (Damages (λ s. s ≡ server) rules kept s0) (ShowsDamage kept s0 server) e (λ s a cause h. (h.0, all_rules_show a cause (sees kept s0 s) h.1)) f

  -- the log has a record after its end
  pub end_breaks : (s0 s1 s2 s3 : Sites K) (server : ℕ) (head : Head) (key : List ℕ) (r : LogRecord) (e : Fault) → Looks kept s0 s1 → Reads kept s1 s2 server areas.Log → ClosesAll kept s2 s3 no_access → IsHead head → IfSome (sees kept s0 server) (EndIs head) → IfSome (sees kept s1 server) (λ c. IsNextKey (c areas.Log 0) (b64 head.last) key (log_spelling r)) → IsMemoryOr (faults.Damaged server areas.Log (causes.Unfit (log_spelling r))) e → BreaksFirst kept s0 s3 server e
  end_breaks s0 s1 s2 s3 server head key r e looks read closes fits end next fault =
      let saw = sees kept s1 server in
      let bytes = log_spelling r in
      let N = λ (c : Contents). IsNextKey (c areas.Log 0) (b64 head.last) key bytes in
      let there = if_seen saw N (λ c. c areas.Log 0 key ≡ Some bytes) (λ c at. at.has) next in
      let past = if_both_seen saw (EndIs head) N (all_rules.is_unfit areas.Log 0 key bytes) (λ c is at. inr (head, fits, is, at.above)) (sees_on kept s0 s1 server (EndIs head) looks end) next in
      breaks_after all_rules kept s0 s1 s3 server e looks (unfit_breaks all_rules kept s1 s2 s3 server areas.Log 0 key bytes e read there past closes fault)
