-- How often a capture reads logs: proofs.
use Rattle.std.proofs.Common.{ℕ, ◌+◌, ◌-◌, ◌<◌, ◌≤◌, length, ap, ◌∙◌, arith, Option, Some}
use Rattle.site_store.specs.Words.{Contents, Kept, held, GoesOn}
use Rattle.site_store.specs.declared.sites.Sites.{Sites}
use Rattle.repl_model.specs.Words.{server_in}
use Rattle.world_commits.specs.captures.Captures.{with_units, captured}
use Rattle.world_commits.specs.captures.laws.Servers.{log_stays}
use Rattle.cd_tables.specs.Reading.{ReadsNoLog}
use Rattle.capture_core.specs.Committing.{Opens, ReadsState, IsStart}
use Rattle.capture_core.specs.LogReads.{ReadsLog, ReadsEachOnce, ReadsFurther, ReadsFromRestart}
use Rattle.capture_core.specs.Reading.{ReadsOn}
use Rattle.capture_core.specs.declared.progress.Progress.{Progress}
use Rattle.capture_core.proofs.Standing.{member, sound_after, holds_after}
use Rattle.capture_core.proofs.UnderWay.{IsUnderWay, IsCalled, first_read}

module _ {K : Type 0} (kept : K → Kept) where
  -- some reads, and then others
  pub reads_then : (s0 s1 s2 : Sites K) (server n m k : ℕ) → ReadsLog kept s0 s1 server n → ReadsLog kept s1 s2 server m → n + m ≤ k → ReadsLog kept s0 s2 server k
  reads_then s0 s1 s2 server n m k a b le = record { here = omega (arith, a.here, b.here, le); others = λ s ne. omega (arith, a.others s ne, b.others s ne) }

  -- calls that read no log add no reads
  pub reads_on : (s0 s1 s2 : Sites K) (server n : ℕ) → ReadsLog kept s0 s1 server n → ReadsNoLog kept s1 s2 → ReadsLog kept s0 s2 server n
  reads_on s0 s1 s2 server n a none = record { here = omega (arith, a.here, none server); others = λ s ne. omega (arith, a.others s ne, none s) }

  -- nothing was read yet
  pub none_read : (s0 s1 : Sites K) (server : ℕ) (p : Progress) → ReadsNoLog kept s0 s1 → ReadsEachOnce kept s0 s1 server p p
  none_read s0 s1 server p none = record { low = omega arith; reads = record { here = omega (arith, none server); others = λ s ne. none s } }

  -- one more record was read
  pub read_next : (s0 s1 s2 : Sites K) (server : ℕ) (p q r : Progress) → ReadsEachOnce kept s0 s1 server p q → ReadsLog kept s1 s2 server 1 → q.read < r.read → ReadsEachOnce kept s0 s2 server p r
  read_next s0 s1 s2 server p q r each one lt = record { low = omega (arith, each.low, lt); reads = reads_then s0 s1 s2 server (q.read - p.read) 1 (r.read - p.read) each.reads one (omega (arith, each.low, lt)) }

  -- records were read one after another, and then so were others
  pub each_then : (s0 s1 s2 : Sites K) (server : ℕ) (p q r : Progress) → ReadsEachOnce kept s0 s1 server p q → ReadsEachOnce kept s1 s2 server q r → ReadsEachOnce kept s0 s2 server p r
  each_then s0 s1 s2 server p q r a b = record { low = omega (arith, a.low, b.low); reads = reads_then s0 s1 s2 server (q.read - p.read) (r.read - q.read) (r.read - p.read) a.reads b.reads (omega (arith, a.low, b.low)) }

  -- where no further record was read, or none was taken, the log was read once more
  pub reads_further : (s0 s1 s2 : Sites K) (server : ℕ) (p q : Progress) → GoesOn kept s0 s1 server (ReadsOn p q) → ReadsEachOnce kept s0 s1 server p q → ReadsLog kept s1 s2 server 1 → ReadsFurther kept s0 s2 server p
  reads_further s0 s1 s2 server p q goes each one = record {
    more = q.read - p.read;
    reads = reads_then s0 s1 s2 server (q.read - p.read) 1 (q.read - p.read + 1) each.reads one (omega arith);
    within = λ c here world at sound member has is.
        let d = goes.works.works.does c here in
        let reads = d.2.reads world at sound member has is in
        omega (arith, reads.last, each.low);
  }

  -- calls that read no log add nothing to what a capture reads
  pub further_on : (s0 s1 s2 : Sites K) (server : ℕ) → ReadsFromRestart kept s0 s1 server → ReadsNoLog kept s1 s2 → ReadsFromRestart kept s0 s2 server
  further_on s0 s1 s2 server a none = record { others = λ s ne. omega (arith, a.others s ne, none s); worlds = λ w stands. omega (arith, a.worlds w stands, none server) }

  -- where nothing is read, no position is
  pub none_further : (s0 : Sites K) (server : ℕ) (p : Progress) → ReadsFurther kept s0 s0 server p
  none_further s0 server p = record { more = 0; reads = record { here = omega arith; others = λ s ne. omega arith }; within = λ c here world at sound member has is. omega (arith, is.last) }

  module _ (s0 : Sites K) (n every most : ℕ) (call : IsCalled kept s0 n every most) where
    -- a capture on its way that ends so reads each position from the restart on
    pub reads_to_end : (s1 s2 s3 : Sites K) (first p : Progress) → Opens kept s0 s1 n (ReadsState first.state) → IsStart first → IsUnderWay kept s0 n every most s2 p → ReadsEachOnce kept s0 s2 n first p → ReadsFurther kept s2 s3 n p → ReadsFromRestart kept s0 s3 n
    reads_to_end s1 s2 s3 first p opens begins way each further = record {
      others = λ s ne. omega (arith, each.reads.others s ne, further.reads.others s ne);
      worlds = λ w stands.
          let server = server_in w n in
          let g = way.worlds w stands in
          let c = holds_after kept s0 call.closed w stands n call.lt g.done (held kept s2) g.stands in
          let d = way.working.does c.0 c.1 in
          let sound = sound_after kept s0 call.closed w stands n call.lt g.taken (g.rest, g.split) in
          let inner = further.within d.0 (way.working.is ∙ ap (λ (o : Option Contents). Some o) d.1) (captured server.name g.taken w) (with_units g.taken server) sound (member kept s0 call.closed w stands n call.lt g.taken) (g.has d.0 d.1) g.reads in
          omega (arith, each.low, each.reads.here, further.reads.here, inner, ap length (log_stays g.taken server), first_read kept s0 n every most call s1 first opens begins w stands);
    }
