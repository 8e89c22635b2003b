-- Tables that are alike, with all images captured: what the test of twins says of them.
use Rattle.std.proofs.Common.{◌≡◌, ℕ, zero, suc, ◌+◌, ◌<◌, ◌≤◌, Bool, true, false, cond, not, ◌&&◌, inl, inr, List, [], ◌∷◌, Option, Some, None, refl, sym, ap, ap₂, subst, ◌∙◌, arith, Decides, ◌==◌, length, nat_lt, bytes_eq}
use Rattle.std.specs.Cmp.Lexicographic.{pointwise, pointwise_decides}
use Rattle.std.specs.List.{list_all, range_with_len}
use Rattle.std.specs.Option.{option_map_or}
use Rattle.std.proofs.lemmas.Bool.{and_parts, and_from, eqb-true, false≢true, ltb-true, not-true}
use Rattle.std.proofs.lemmas.Bool.Decides.{Decides-eqb}
use Rattle.repl_model.specs.Words.{ColumnDef, Kind, Member, all_places, KeepsAllImages, RegistrationKeepsRules, ReplicaKeepsRules, is_among, are_among, places_rise, SourceTable, In, passes_at, some_passes, same_name, name_itself}
use Rattle.repl_types.specs.declared.table.Kind.TheVariants.{Int, Text}
use Rattle.repl_commands.specs.declared.written.RawMember.{RawMember}
use Rattle.repl_commands.specs.declared.written.RawSet.{RawSet}
use Rattle.spelled_defs.specs.declared.context.Context.{Context}
use Rattle.checked_defs.specs.Rules.{registered_source, same_kind, same_column, same_tables, keeps_all_images, are_twins, has_twin}
use Rattle.load_laws.specs.rules.laws.Places.{range_has, range_within}

-- ---- the table at the replica

-- a replica that has a twin has one that is registered
pub twin_of : (context : Context) (set : RawSet) (item : RawMember) (master : SourceTable) → registered_source context set.source item.source ≡ Some master → has_twin context set item ≡ true → (replica : SourceTable) × (registered_source context set.target item.target ≡ Some replica) × (are_twins master replica ≡ true)
twin_of context set item master registered twin = by_one (registered_source context set.target item.target) refl
    (sym (ap (λ (o : Option SourceTable). option_map_or (λ master. option_map_or (are_twins master) (registered_source context set.target item.target) false) o true) registered) ∙ twin)
  where
    by_one : (o : Option SourceTable) → registered_source context set.target item.target ≡ o → option_map_or (are_twins master) o false ≡ true → (replica : SourceTable) × (registered_source context set.target item.target ≡ Some replica) × (are_twins master replica ≡ true)
    by_one None e twins = absurd (false≢true twins)
    by_one (Some replica) e twins = (replica, e, twins)

-- ---- columns that are alike

-- kinds that are alike are one
kinds_are : (a b : Kind) → Decides (same_kind a b) (a ≡ b)
kinds_are Int Int = (λ e. refl, λ e. refl)
kinds_are Int Text = (λ e. absurd (false≢true e), λ e. absurd cc)
kinds_are Text Int = (λ e. absurd (false≢true e), λ e. absurd cc)
kinds_are Text Text = (λ e. refl, λ e. refl)

-- columns that are alike are one
columns_are : (a b : ColumnDef) → Decides (same_column a b) (a ≡ b)
columns_are a b = (by_parts, λ e. subst (λ (c : ColumnDef). same_column a c ≡ true) e itself)
  where
    may_be_null : (x y : Bool) → cond x y (not y) ≡ true → x ≡ y
    may_be_null true true e = refl
    may_be_null true false e = absurd (false≢true e)
    may_be_null false true e = absurd (false≢true e)
    may_be_null false false e = refl

    by_parts : same_column a b ≡ true → a ≡ b
    by_parts e =
        let both = and_parts (bytes_eq a.name b.name && same_kind a.kind b.kind) (cond a.nullable b.nullable (not b.nullable)) e in
        let first = and_parts (bytes_eq a.name b.name) (same_kind a.kind b.kind) both.0 in
        let name = same_name a.name b.name first.0 in
        let kind = (kinds_are a.kind b.kind).0 first.1 in
        let nullable = may_be_null a.nullable b.nullable both.1 in
        λ j. record { name = name j; kind = kind j; nullable = nullable j }

    alike : (x : Bool) → cond x x (not x) ≡ true
    alike true = refl
    alike false = refl

    itself : same_column a a ≡ true
    itself = and_from (bytes_eq a.name a.name && same_kind a.kind a.kind) (cond a.nullable a.nullable (not a.nullable)) (and_from (bytes_eq a.name a.name) (same_kind a.kind a.kind) (name_itself a.name) ((kinds_are a.kind a.kind).1 refl)) (alike a.nullable)

-- ---- all images

-- a place that is among others is one of them
among_in : (places : List ℕ) (p : ℕ) → is_among places p ≡ true → In p places
among_in places p e = let q = some_passes (λ (n : ℕ). n == p) places e in subst (λ n. In n places) (eqb-true q.0 p q.2) q.1

-- places that rise, and are those of a range, are the range
all_of_range : (n a : ℕ) (places : List ℕ) → places_rise places ≡ true → ((p : ℕ) → In p places → (a ≤ p) × (p < a + n)) → ((p : ℕ) → a ≤ p → p < a + n → In p places) → places ≡ range_with_len a n
all_of_range zero a [] rise within has = refl
all_of_range zero a (p ∷ ps) rise within has = let high = (within p (inl refl)).1 in let low = (within p (inl refl)).0 in absurd (omega arith)
all_of_range (suc n) a [] rise within has = absurd (has a (omega arith) (omega arith))
all_of_range (suc n) a (p ∷ ps) rise within has = ap₂ (λ (q : ℕ) (qs : List ℕ). q ∷ qs) first (all_of_range n (a + 1) ps both.1 (λ q i. let low = later q i in let high = (within q (inr i)).1 in let same = first in (omega arith, omega arith)) (λ q low high. others q low (has q (omega arith) (omega arith))))
  where
    both : (list_all (nat_lt p) ps ≡ true) × (places_rise ps ≡ true)
    both = and_parts (list_all (nat_lt p) ps) (places_rise ps) rise

    later : (q : ℕ) → In q ps → p < q
    later q i = ltb-true p q (passes_at (nat_lt p) ps q both.0 i)

    at_first : In a (p ∷ ps) → p ≡ a
    at_first (inl same) = sym same
    at_first (inr i) = let low = (within p (inl refl)).0 in let high = later a i in absurd (omega arith)

    first : p ≡ a
    first = at_first (has a (omega arith) (omega arith))

    others : (q : ℕ) → a + 1 ≤ q → In q (p ∷ ps) → In q ps
    others q low (inl same) = let here = first in absurd (omega arith)
    others q low (inr i) = i

-- all images are kept, if the test says so and the registration keeps the rules
images_kept : (source : SourceTable) → RegistrationKeepsRules source.def source.reg → keeps_all_images source ≡ true → KeepsAllImages source
images_kept source rules e = record { after = after; before = before; del_ins = not-true source.reg.del_ins (and_parts _ (not source.reg.del_ins) (and_parts _ _ e).0).1; changes_only = not-true source.reg.changes_only (and_parts _ (not source.reg.changes_only) e).1 }
  where
    n : ℕ
    n = length source.def.columns

    places : List ℕ
    places = all_places source.def

    tested : (are_among source.reg.after places ≡ true) × (are_among source.reg.before places ≡ true)
    tested = and_parts (are_among source.reg.after places) (are_among source.reg.before places) (and_parts _ (not source.reg.del_ins) (and_parts _ (not source.reg.changes_only) e).0).0

    -- rising places among all, with all among them
    are_all : (some : List ℕ) → places_rise some ≡ true → are_among places some ≡ true → are_among some places ≡ true → some ≡ places
    are_all some rise within has = all_of_range n 0 some rise (λ p i. range_within 0 n p (among_in places p (passes_at (is_among places) some p within i)))
        (λ p low high. among_in some p (passes_at (is_among some) places p has (among_in places p (range_has 0 n p low high))))

    after_fits : (places_rise source.reg.after ≡ true) × (are_among places source.reg.after ≡ true)
    after_fits = and_parts (places_rise source.reg.after) (are_among places source.reg.after) (and_parts _ (are_among source.reg.after source.def.key) rules.after).0

    after : source.reg.after ≡ places
    after = are_all source.reg.after after_fits.0 after_fits.1 tested.0

    before_fits : (places_rise source.reg.before ≡ true) × (are_among source.reg.after source.reg.before ≡ true)
    before_fits = and_parts (places_rise source.reg.before) (are_among source.reg.after source.reg.before) rules.before

    before : source.reg.before ≡ places
    before = are_all source.reg.before before_fits.0 (subst (λ (some : List ℕ). are_among some source.reg.before ≡ true) after before_fits.1) tested.1

-- a member over twins keeps the rules of replicas, if it says nothing of columns and rows
pub twins_keep : (master replica : SourceTable) (member : Member) → RegistrationKeepsRules master.def master.reg → RegistrationKeepsRules replica.def replica.reg → member.target ≡ member.source → member.columns ≡ [] → member.filter ≡ None → are_twins master replica ≡ true → ReplicaKeepsRules master replica member
twins_keep master replica member master_rules replica_rules name columns filter twins = record {
  name = name;
  columns = columns;
  filter = filter;
  same_columns = sym ((pointwise_decides columns_are master.def.columns replica.def.columns).0 first.0);
  same_key = sym ((pointwise_decides Decides-eqb master.def.key replica.def.key).0 first.1);
  same_fixed = sym ((pointwise_decides Decides-eqb master.def.fixed replica.def.fixed).0 tables.1);
  master_images = images_kept master master_rules images.1;
  replica_images = images_kept replica replica_rules both.1;
}
  where
    both : ((same_tables master.def replica.def && keeps_all_images master) ≡ true) × (keeps_all_images replica ≡ true)
    both = and_parts (same_tables master.def replica.def && keeps_all_images master) (keeps_all_images replica) twins

    images : (same_tables master.def replica.def ≡ true) × (keeps_all_images master ≡ true)
    images = and_parts (same_tables master.def replica.def) (keeps_all_images master) both.0

    tables : ((pointwise same_column master.def.columns replica.def.columns && pointwise ◌==◌ master.def.key replica.def.key) ≡ true) × (pointwise ◌==◌ master.def.fixed replica.def.fixed ≡ true)
    tables = and_parts (pointwise same_column master.def.columns replica.def.columns && pointwise ◌==◌ master.def.key replica.def.key) (pointwise ◌==◌ master.def.fixed replica.def.fixed) images.0

    first : (pointwise same_column master.def.columns replica.def.columns ≡ true) × (pointwise ◌==◌ master.def.key replica.def.key ≡ true)
    first = and_parts (pointwise same_column master.def.columns replica.def.columns) (pointwise ◌==◌ master.def.key replica.def.key) tables.0
