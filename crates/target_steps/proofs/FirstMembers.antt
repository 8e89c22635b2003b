-- The first members of a set were taken through a step: proofs.
use Rattle.std.proofs.Common.{◌≡◌, ◌≢◌, ℕ, ◌+◌, ◌-◌, ◌*◌, ◌^◌, ◌<◌, ◌≤◌, Bool, true, false, cond, List, [], ◌∷◌, ◌++◌, length, inl, inr, refl, sym, ap, subst, ◌∙◌, arith, ◌/◌, count_by, sum_by, take, Option, Some, None, slice_get, flat_map}
use Rattle.std.specs.Option.{option_map_or, option_and_then}
use Rattle.std.proofs.lemmas.Bool.{cases_eq, eqb-false, ne_eqb}
use Rattle.std.proofs.lemmas.List.{take_more}
use Rattle.std.proofs.lemmas.List.Sums.{sum_by_push, sum_by-append, sum_by-cons, sum_by-take-le, count_by-le-length}
use Rattle.std.proofs.lemmas.Option.{same_Some, slice_get_within, get_or_from_slice_get}
use Rattle.std.proofs.Math.Nat.{suc-mul, min-eq_left}
use Rattle.std.proofs.lemmas.Nat.{mul-le}
use Rattle.world_store.specs.Words.{member_table, source_of, rows_refreshed, count_op, is_insert, is_update, is_delete, member_changes, selected_few, between_few}
use Rattle.site_store.specs.Words.{Contents}
use Rattle.repl_model.specs.Words.{Area, CdRow, Op, Counts, Member, TargetKind, SetDef, changes_between, is_base_aggregate, SourceTable, Server, World, KnownSet, known_sets, source_named, IsSound, log_limit, LogIsSound, MemberIsSound, ReplicaMemberIsSound, known_stands, source_in, In, at_one}
use Rattle.repl_types.specs.declared.area.Area.TheVariants as areas
use Rattle.repl_definitions.specs.declared.member.TargetKind.TheVariants.{UserCopy, PointInTime, BaseAggregate, ChangeAggregate, Ccd, Replica}
use Rattle.stored_commits.specs.actions.StoredSteps.{is_numbered}
use Rattle.set_places.specs.laws.Known.{same_def, set_keeps_rules, members_few}
use Rattle.set_places.specs.laws.Sources.{source_is_of}
use Rattle.target_steps.specs.declared.step.BasePoint.{BasePoint}
use Rattle.target_steps.specs.declared.step.Step.{Step}
use Rattle.target_steps.specs.declared.step.Step.TheVariants.{Refresh, Block}
use Rattle.target_steps.specs.Taking.{base_of_step, entry_of, counts_of, changes_taken, counted, no_counts, limited, sum_of, is_target}
use Rattle.target_steps.specs.Steps.{TakesEach, is_target_of, all_counted}

-- ---- targets

-- a table that is no target of a set is none of a member of it
pub no_target : (number place : ℕ) (a : Area) (n : ℕ) → place < 64 → is_target_of number a n ≡ false → is_target (64 * number + place) a n ≡ false
no_target number place areas.Log n lt e = refl
no_target number place areas.Source n lt e = refl
no_target number place areas.Inflight n lt e = refl
no_target number place areas.Head n lt e = refl
no_target number place areas.Defs n lt e = refl
no_target number place areas.Cd n lt e = refl
no_target number place areas.Uow n lt e = refl
no_target number place areas.Capture n lt e = refl
no_target number place areas.Prune n lt e = refl
no_target number place areas.Spill n lt e = refl
no_target number place areas.Target n lt e = ne_eqb n (64 * number + place) (λ same. eqb-false (n / 64) number e (omega (arith, same, lt)))
no_target number place areas.SetState n lt e = refl
no_target number place areas.Trail n lt e = refl

-- nor is the target of another member
pub other_target : (number place other : ℕ) → other ≢ place → is_target (64 * number + place) areas.Target (64 * number + other) ≡ false
other_target number place other ne = ne_eqb (64 * number + other) (64 * number + place) (λ same. ne (omega (arith, same)))

-- ---- sums

-- the counts are the sums of those of members, in each part
pub record SumsTo (f : Member → Counts) (members : List Member) (counts : Counts) : Type 0 where
  pub rows : counts.rows ≡ sum_by (λ m. (f m).rows) members
  pub inserts : counts.inserts ≡ sum_by (λ m. (f m).inserts) members
  pub updates : counts.updates ≡ sum_by (λ m. (f m).updates) members
  pub deletes : counts.deletes ≡ sum_by (λ m. (f m).deletes) members

-- no part of the counts passes a limit
record AreWithin (n : ℕ) (counts : Counts) : Type 0 where
  rows : counts.rows ≤ n
  inserts : counts.inserts ≤ n
  updates : counts.updates ≤ n
  deletes : counts.deletes ≤ n

-- no more than the limit of each, as often as there are some
sum_few : {X : Type 0} (h : X → ℕ) (m : ℕ) (xs : List X) → ((x : X) → In x xs → h x ≤ m) → sum_by h xs ≤ length xs * m
sum_few h m [] each = omega arith
sum_few h m (x ∷ xs) each = omega (arith, sum_few h m xs (λ y i. each y (inr i)), each x (inl refl), sum_by-cons h x xs, suc-mul (length xs) m)

-- two functions that agree on each element have one sum
sum_alike : {X : Type 0} (h k : X → ℕ) (xs : List X) → ((x : X) → In x xs → h x ≡ k x) → sum_by h xs ≡ sum_by k xs
sum_alike h k [] same = refl
sum_alike h k (x ∷ xs) same = omega (arith, sum_by-cons h x xs, sum_by-cons k x xs, same x (inl refl), sum_alike h k xs (λ y i. same y (inr i)))

-- nothing of each is nothing
sum_none : {X : Type 0} (xs : List X) → sum_by (λ (x : X). 0) xs ≡ 0
sum_none [] = refl
sum_none {X} (x ∷ xs) = omega (arith, sum_by-cons (λ (y : X). 0) x xs, sum_none xs)

-- one more at the end
sum_more : (h : Member → ℕ) (members : List Member) (n : ℕ) (own : Member) → slice_get members n ≡ Some own → sum_by h (take (n + 1) members) ≡ sum_by h (take n members) + h own
sum_more h members n own at =
    let longer : take (n + 1) members ≡ take n members ++ own ∷ [] = take_more members n own (slice_get_within members n own at) ∙ ap (λ (m : Member). take n members ++ m ∷ []) (get_or_from_slice_get members n own own at) in
    ap (sum_by h) longer ∙ sum_by_push h (take n members) own

-- ---- counts of members

-- the change rows of the lists of each element that pass a test
count_each : {X : Type 0} (p : CdRow → Bool) (f : X → List CdRow) (xs : List X) → count_by p (flat_map f xs) ≡ sum_by (λ x. count_by p (f x)) xs
count_each p f [] = refl
count_each {X} p f (x ∷ xs) = omega (arith, sum_by-append (λ r. cond (p r) 1 0) (f x) (flat_map f xs), count_each p f xs, sum_by-cons (λ (y : X). count_by p (f y)) x xs)

-- what is counted of a member of a known set at a step
abbrev pub counts_at : World → KnownSet → Step → Member → Counts
counts_at w k step member = option_map_or (λ source. counted k.at_source.def step source member) (source_of w k.at_target.def member) no_counts

-- a refresh puts no more rows in a target whose rows aren't numbered than the log has records
kind_few : (source : SourceTable) (member : Member) (p : ℕ) (q : Option ℕ) (kind : TargetKind) → is_numbered kind ≡ false → rows_refreshed source p q (record member { kind = kind }) ≤ length source.log
kind_few source member p q UserCopy e = selected_few source member p
kind_few source member p q PointInTime e = selected_few source member p
kind_few source member p q BaseAggregate e = absurd cc
kind_few source member p q ChangeAggregate e = absurd cc
kind_few source member p q (Ccd true condensed) e = selected_few source member p
kind_few source member p q (Ccd false condensed) e = omega arith
kind_few source member p q Replica e = omega arith

-- a member takes at most twice as many change rows in an interval as the log has records
taken_few : (source : SourceTable) (member : Member) (low high : ℕ) → length (changes_taken source member low high) ≤ 2 * length source.log
taken_few source member low high = by_kind (is_base_aggregate member.kind)
  where
    by_kind : (aggregate : Bool) → length (cond aggregate [] (changes_between source.log source.reg low high)) ≤ 2 * length source.log
    by_kind true = omega arith
    by_kind false = between_few source.log source.reg low high

-- so what is counted of a member is at most twice as much
counted_few : (def : SetDef) (step : Step) (source : SourceTable) (member : Member) → is_numbered member.kind ≡ false → AreWithin (2 * length source.log) (counted def step source member)
counted_few def (Refresh point time) source member e = record {
  rows = omega (arith, kind_few source member point (base_of_step def (Refresh point time)) member.kind e);
  inserts = omega arith;
  updates = omega arith;
  deletes = omega arith;
}
counted_few def (Block low low_time high time base) source member e =
    let changes = changes_taken source member low high in
    let few = taken_few source member low high in
    record {
      rows = omega arith;
      inserts = omega (arith, few, count_by-le-length (λ (r : CdRow). is_insert r.op) changes);
      updates = omega (arith, few, count_by-le-length (λ (r : CdRow). is_update r.op) changes);
      deletes = omega (arith, few, count_by-le-length (λ (r : CdRow). is_delete r.op) changes);
    }

-- the change rows that a member takes of a source that may be missing
changes_of : (w : World) (def : SetDef) (low high : ℕ) (member : Member) (kind : TargetKind) → member_changes w def low high (record member { kind = kind }) ≡ option_map_or (λ source. changes_taken source (record member { kind = kind }) low high) (source_of w def member) []
changes_of w def low high member UserCopy = refl
changes_of w def low high member PointInTime = refl
changes_of w def low high member BaseAggregate = none_taken_of (source_of w def member)
  where
    none_taken_of : (o : Option SourceTable) → ◌≡◌ {A = List CdRow} [] (option_map_or (λ source. []) o [])
    none_taken_of None = refl
    none_taken_of (Some source) = refl
changes_of w def low high member ChangeAggregate = refl
changes_of w def low high member (Ccd complete condensed) = refl
changes_of w def low high member Replica = refl

-- parts of what is counted at a source that may be missing
rows_at_source : (def : SetDef) (point time : ℕ) (member : Member) (o : Option SourceTable) → (option_map_or (λ source. counted def (Refresh point time) source member) o no_counts).rows ≡ option_map_or (λ source. rows_refreshed source point (base_of_step def (Refresh point time)) member) o 0
rows_at_source def point time member None = refl
rows_at_source def point time member (Some source) = refl

none_at_source : (part : Counts → ℕ) → part no_counts ≡ 0 → (def : SetDef) (step : Step) (member : Member) → ((source : SourceTable) → part (counted def step source member) ≡ 0) → (o : Option SourceTable) → part (option_map_or (λ source. counted def step source member) o no_counts) ≡ 0
none_at_source part nothing def step member zero None = nothing
none_at_source part nothing def step member zero (Some source) = zero source

changes_at_source : (part : Counts → ℕ) (is_op : Op → Bool) → part no_counts ≡ 0 → ((changes : List CdRow) → part (counts_of changes) ≡ count_op is_op changes) → (def : SetDef) (low low_time high time : ℕ) (base : Option BasePoint) (member : Member) (o : Option SourceTable) → part (option_map_or (λ source. counted def (Block low low_time high time base) source member) o no_counts) ≡ count_op is_op (option_map_or (λ source. changes_taken source member low high) o [])
changes_at_source part is_op nothing is def low low_time high time base member None = nothing
changes_at_source part is_op nothing is def low low_time high time base member (Some source) = is (changes_taken source member low high)

-- the counts of all members of a known set are those of the set
pub all_are : (w : World) (k : KnownSet) (step : Step) (counts : Counts) → SumsTo (counts_at w k step) k.at_target.def.members counts → counts ≡ all_counted w k step
all_are w k (Refresh point time) counts sums = λ i. record {
  rows = (sums.rows ∙ sum_alike (λ (m : Member). (counts_at w k (Refresh point time) m).rows) (λ (m : Member). option_map_or (λ source. rows_refreshed source point (base_of_step k.at_source.def (Refresh point time)) m) (source_of w k.at_target.def m) 0) k.at_target.def.members (λ m in_set. rows_at_source k.at_source.def point time m (source_of w k.at_target.def m))) i;
  inserts = (sums.inserts ∙ nothing (λ m. m.inserts) refl (λ m source. refl)) i;
  updates = (sums.updates ∙ nothing (λ m. m.updates) refl (λ m source. refl)) i;
  deletes = (sums.deletes ∙ nothing (λ m. m.deletes) refl (λ m source. refl)) i;
}
  where
    nothing : (part : Counts → ℕ) → part no_counts ≡ 0 → ((m : Member) (source : SourceTable) → part (counted k.at_source.def (Refresh point time) source m) ≡ 0) → sum_by (λ m. part (counts_at w k (Refresh point time) m)) k.at_target.def.members ≡ 0
    nothing part zeroed each_none = sum_alike (λ (m : Member). part (counts_at w k (Refresh point time) m)) (λ (m : Member). 0) k.at_target.def.members (λ m in_set. none_at_source part zeroed k.at_source.def (Refresh point time) m (each_none m) (source_of w k.at_target.def m)) ∙ sum_none k.at_target.def.members
all_are w k (Block low low_time high time base) counts sums = λ i. record {
  rows = (sums.rows ∙ nothing) i;
  inserts = (sums.inserts ∙ changes (λ m. m.inserts) is_insert refl (λ rows. refl)) i;
  updates = (sums.updates ∙ changes (λ m. m.updates) is_update refl (λ rows. refl)) i;
  deletes = (sums.deletes ∙ changes (λ m. m.deletes) is_delete refl (λ rows. refl)) i;
}
  where
    counts_of_member : Member → Counts
    counts_of_member = counts_at w k (Block low low_time high time base)

    nothing : sum_by (λ m. (counts_of_member m).rows) k.at_target.def.members ≡ 0
    nothing = sum_alike (λ (m : Member). (counts_of_member m).rows) (λ (m : Member). 0) k.at_target.def.members (λ m in_set. none_at_source (λ c. c.rows) refl k.at_source.def (Block low low_time high time base) m (λ source. refl) (source_of w k.at_target.def m)) ∙ sum_none k.at_target.def.members

    changes : (part : Counts → ℕ) (is_op : Op → Bool) → part no_counts ≡ 0 → ((rows : List CdRow) → part (counts_of rows) ≡ count_op is_op rows) → sum_by (λ m. part (counts_of_member m)) k.at_target.def.members ≡ count_op is_op (flat_map (member_changes w k.at_target.def low high) k.at_target.def.members)
    changes part is_op zeroed is = sum_alike (λ (m : Member). part (counts_of_member m)) (λ (m : Member). count_op is_op (member_changes w k.at_target.def low high m)) k.at_target.def.members (λ m in_set. changes_at_source part is_op zeroed is k.at_source.def low low_time high time base m (source_of w k.at_target.def m) ∙ ap (count_op is_op) (sym (changes_of w k.at_target.def low high m m.kind))) ∙ sym (count_each (λ (r : CdRow). is_op r.op) (member_changes w k.at_target.def low high) k.at_target.def.members)

module _ (w : World) (k : KnownSet) (sound : IsSound w) (known : In k (known_sets w)) where
  -- the source of a member is one of its server
  pub source_is : (member : Member) → In member k.at_target.def.members → (source : SourceTable) × (source_named member.source k.source ≡ Some source)
  source_is member i =
      elim (set_keeps_rules w k sound known).members [
        | inl read_only ↦ let m = at_one (MemberIsSound k) k.at_target.def.members member read_only.0 i in (m.2.0, m.2.1)
        | inr replicas ↦ let m = at_one (ReplicaMemberIsSound k) k.at_target.def.members member replicas.0 i in (m.1.0, m.1.2)
      ]

  -- this is counted of it
  pub counts_are : (step : Step) (member : Member) (source : SourceTable) → source_named member.source k.source ≡ Some source → counts_at w k step member ≡ counted k.at_source.def step source member
  counts_are step member source named =
      let one : SourceTable → Counts = λ (s : SourceTable). counted k.at_source.def step s member in
      ap (λ (o : Option Server). option_map_or one (option_and_then (source_named member.source) o) no_counts) (known_stands w k known).source ∙ ap (λ (o : Option SourceTable). option_map_or one o no_counts) named

  module _ (takes : TargetKind → Bool) (unnumbered : (kind : TargetKind) → takes kind ≡ true → is_numbered kind ≡ false) (each : TakesEach takes k.at_source.def) where
    -- the kind of a member is taken
    pub kind_takes : (member : Member) → In member k.at_target.def.members → takes member.kind ≡ true
    kind_takes member i = at_one (λ (m : Member). takes m.kind ≡ true) k.at_target.def.members member (subst (λ (def : SetDef). TakesEach takes def) (same_def w k sound known) each) i

    -- so its rows aren't numbered
    plain : (member : Member) → In member k.at_target.def.members → is_numbered member.kind ≡ false
    plain member i = unnumbered member.kind (kind_takes member i)

    -- what is counted of one member is at most twice what a log may have
    member_few : (step : Step) (member : Member) → In member k.at_target.def.members → AreWithin (2 * log_limit) (counts_at w k step member)
    member_few step member i =
        let s = source_is member i in
        let short = (at_one LogIsSound w k.source sound.logs (source_in w k (known_stands w k known))).short in
        let log = ap length (source_is_of member.source k.source s.0 s.1).log in
        let few = counted_few k.at_source.def step s.0 member (plain member i) in
        subst (AreWithin (2 * log_limit)) (sym (counts_are step member s.0 s.1)) (record {
          rows = omega (arith, few.rows, short, log);
          inserts = omega (arith, few.inserts, short, log);
          updates = omega (arith, few.updates, short, log);
          deletes = omega (arith, few.deletes, short, log);
        })

    -- a part of the counts of the first members has 64 bits
    part_short : (h : Member → ℕ) → ((member : Member) → In member k.at_target.def.members → h member ≤ 2 * log_limit) → (count : ℕ) → sum_by h (take count k.at_target.def.members) < 2 ^ 64 - 1
    part_short h few count =
        let sum = sum_few h (2 * log_limit) k.at_target.def.members few in
        let times = mul-le (length k.at_target.def.members) (2 * log_limit) 64 (2 * log_limit) (members_few w k sound known) (omega arith) in
        omega (arith, sum, times, sum_by-take-le h k.at_target.def.members count)

    -- the counts of one more member
    pub sums_more : (step : Step) (count : ℕ) (own : Member) (counts more : Counts) → slice_get k.at_target.def.members count ≡ Some own → SumsTo (counts_at w k step) (take count k.at_target.def.members) counts → more ≡ counts_at w k step own → SumsTo (counts_at w k step) (take (count + 1) k.at_target.def.members) (sum_of counts more)
    sums_more step count own counts more at sums is = record {
      rows = part (λ m. m.rows) (λ member i. (member_few step member i).rows) sums.rows;
      inserts = part (λ m. m.inserts) (λ member i. (member_few step member i).inserts) sums.inserts;
      updates = part (λ m. m.updates) (λ member i. (member_few step member i).updates) sums.updates;
      deletes = part (λ m. m.deletes) (λ member i. (member_few step member i).deletes) sums.deletes;
    }
      where
        part : (of : Counts → ℕ) → ((member : Member) → In member k.at_target.def.members → of (counts_at w k step member) ≤ 2 * log_limit) → of counts ≡ sum_by (λ m. of (counts_at w k step m)) (take count k.at_target.def.members) → limited (of counts) (of more) ≡ sum_by (λ m. of (counts_at w k step m)) (take (count + 1) k.at_target.def.members)
        part of few so_far =
            let h : Member → ℕ = λ (m : Member). of (counts_at w k step m) in
            let longer = sum_more h k.at_target.def.members count own at in
            let together : of counts + of more ≡ sum_by h (take (count + 1) k.at_target.def.members) = omega (arith, so_far, longer, ap of is) in
            min-eq_left (omega (arith, together, part_short h few (count + 1))) ∙ together

-- ---- the first members

-- The first of a set's members were taken through a step: their targets are what the trail after it makes of them, and this
-- was counted. The other tables are as they were.
pub record FirstTaken (w : World) (k : KnownSet) (number : ℕ) (step : Step) (count : ℕ) (counts : Counts) (c d : Contents) : Type 0 where
  pub others : (a : Area) (n : ℕ) → is_target_of number a n ≡ false → d a n ≡ c a n
  pub later : (place : ℕ) → place < 64 → count < place + 1 → d areas.Target (64 * number + place) ≡ c areas.Target (64 * number + place)
  pub members : (place : ℕ) (member : Member) (source : SourceTable) → place < count → slice_get k.at_target.def.members place ≡ Some member → source_named member.source k.source ≡ Some source
      → d areas.Target (64 * number + place) ≡ member_table source member (k.at_target.trail ++ entry_of k.at_source.def step ∷ [])
  pub sums : SumsTo (counts_at w k step) (take count k.at_target.def.members) counts

-- none was
pub none_taken : (w : World) (k : KnownSet) (number : ℕ) (step : Step) (c : Contents) → FirstTaken w k number step 0 no_counts c c
none_taken w k number step c = record {
  others = λ a n e. refl;
  later = λ place lt le. refl;
  members = λ place member source lt at named. absurd (omega (arith, lt));
  sums = record { rows = refl; inserts = refl; updates = refl; deletes = refl };
}

-- one more was
module _ (w : World) (k : KnownSet) (number : ℕ) (step : Step) (count : ℕ) (counts : Counts) (c d e : Contents) (first : FirstTaken w k number step count counts c d) (own : Member) (at_place : slice_get k.at_target.def.members count ≡ Some own) (lt : count < 64) where
  pub next_taken : (sum : Counts) → ((a : Area) (n : ℕ) → is_target (64 * number + count) a n ≡ false → e a n ≡ d a n)
      → ((source : SourceTable) → source_named own.source k.source ≡ Some source → e areas.Target (64 * number + count) ≡ member_table source own (k.at_target.trail ++ entry_of k.at_source.def step ∷ []))
      → SumsTo (counts_at w k step) (take (count + 1) k.at_target.def.members) sum → FirstTaken w k number step (count + 1) sum c e
  next_taken sum others here sums = record {
    others = λ a n is. others a n (no_target number count a n lt is) ∙ first.others a n is;
    later = λ place le past. others areas.Target (64 * number + place) (other_target number count place (λ same. absurd (omega (arith, same, past)))) ∙ first.later place le (omega (arith, past));
    members = λ place member source below at named. elim (cases_eq place count) [
      | inl same ↦
          let own_at : slice_get k.at_target.def.members place ≡ Some own = ap (slice_get k.at_target.def.members) same ∙ at_place in
          let is : own ≡ member = same_Some own member (sym own_at ∙ at) in
          subst (λ (n : ℕ). e areas.Target (64 * number + n) ≡ member_table source member (k.at_target.trail ++ entry_of k.at_source.def step ∷ [])) (sym same)
          (subst (λ (m : Member). e areas.Target (64 * number + count) ≡ member_table source m (k.at_target.trail ++ entry_of k.at_source.def step ∷ [])) is
          (here source (ap (λ (m : Member). source_named m.source k.source) is ∙ named)))
      | inr ne ↦ others areas.Target (64 * number + place) (other_target number count place ne) ∙ first.members place member source (omega (arith, below, ne)) at named
    ];
    sums = sums;
  }
