-- The transaction of a signal: proofs.
use Rattle.std.proofs.Common.{◌≡◌, ℕ, subst, Option, Some}
use Rattle.world_store.specs.Words.{b32, mark_spelling, SyncMark}
use Rattle.site_store.specs.Words.{Contents, Kept, work, IsOpenAt, Sets, Puts, Rules, joined, GoesOn, goes_then, goes_put, goes_as}
use Rattle.site_store.specs.declared.sites.Sites.{Sites}
use Rattle.repl_types.specs.declared.area.Area.TheVariants as areas
use Rattle.repl_types.specs.declared.unit.Unit.{Unit as LogUnit}
use Rattle.source_log.specs.Rules.{all_rules}
use Rattle.source_log.specs.Units.{AppendsUnit, AppendsIfRoom, table_rules}
use Rattle.full_refresh.specs.PutSignals.{PutsSignal}

-- some seq is the signal's
abbrev pub PutsSome : ℕ → SyncMark → LogUnit → Contents → Contents → Type 0
PutsSome number known unit c d = (seq : ℕ) × PutsSignal number known unit seq c d

-- what an append of a unit finds
abbrev pub unit_rules : LogUnit → Rules
unit_rules unit = joined all_rules (table_rules unit.changes)

-- a unit was appended, if a seq was answered
pub appends : {K : Type 0} (kept : K → Kept) (s1 s2 : Sites K) (server : ℕ) (unit : LogUnit) (answer : Option ℕ) (seq : ℕ) → answer ≡ Some seq → GoesOn kept s1 s2 server (AppendsIfRoom unit answer) → GoesOn kept s1 s2 server (AppendsUnit unit seq)
appends kept s1 s2 server unit answer seq is appended = subst (λ (o : Option ℕ). GoesOn kept s1 s2 server (AppendsIfRoom unit o)) is appended

module _ {K : Type 0} (kept : K → Kept) (s1 s2 s3 : Sites K) (server number : ℕ) (known : SyncMark) (unit : LogUnit) (seq : ℕ) (open_at : IsOpenAt (work kept s1) server) (appended : GoesOn kept s1 s2 server (AppendsUnit unit seq)) (put : Puts kept s2 s3 server areas.Prune 0 (b32 number) (Some (mark_spelling (record { mark = known.mark; signal = seq })))) where
  -- the signal was put
  pub signal_put : GoesOn kept s1 s3 server (PutsSignal number known unit seq)
  signal_put =
      let value = Some (mark_spelling (record { mark = known.mark; signal = seq })) in
      goes_then kept s1 s2 s3 server (AppendsUnit unit seq) (Sets areas.Prune 0 (b32 number) value) (PutsSignal number known unit seq) open_at appended (goes_put kept s2 s3 server areas.Prune 0 (b32 number) value put) (λ c m d a p. (m, a, p))

  -- with some seq
  pub some_put : GoesOn kept s1 s3 server (PutsSome number known unit)
  some_put = goes_as kept s1 s3 server (PutsSignal number known unit seq) (PutsSome number known unit) open_at signal_put (λ c d p. (seq, p))
