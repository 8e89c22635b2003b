-- Where no rule is broken, nothing is left out.
use Rattle.std.proofs.Common.{◌≡◌, ◌+◌, ℕ, take, drop, Bool, true, false, not, ◌&&◌, cond, List, [], ◌∷◌, length, Option, Some, None, refl, sym, ap, subst, ◌∙◌, IsTrue, is_some, unwrap_or, nat_lt, find, bytes_eq}
use Rattle.std.proofs.lemmas.Bool.{ltb-false, and_parts, and_from}
use Rattle.std.proofs.lemmas.List.Folds.{find_at}
use Rattle.std.proofs.lemmas.Option.{slice_get_past}
use Rattle.std.specs.List.{filter_map, list_all, position_or_len}
use Rattle.std.specs.Option.{option_map, option_map_or, option_and_then}
use Rattle.repl_model.specs.Words.{is_name, name_of, ColumnDef, Kind, TableDef, Member, TargetKind, SourceTable, is_among, list_all_weaker, or_none, map_none, chosen_none, none_pass, not_not}
use Rattle.repl_defs.specs.Trees.{predicate_tree}
use Rattle.repl_commands.specs.declared.written.RawDefs.{RawDefs}
use Rattle.repl_commands.specs.declared.written.RawTable.{RawTable}
use Rattle.repl_commands.specs.declared.written.RawRegistration.{RawRegistration}
use Rattle.repl_commands.specs.declared.written.RawMember.{RawMember}
use Rattle.repl_commands.specs.declared.written.RawSet.{RawSet}
use Rattle.repl_defs.specs.Entries.{place_of as blank_of, form_of}
use Rattle.spelled_defs.specs.Spelled.{is_column, spelled_column, column_place, after_places, spelled_table, is_table, is_registration, columns_at, spelled_registration, target_kind, target_column, spelled_member, spelled_set}
use Rattle.checked_defs.specs.Rules.{has_column_name, is_column_entry, is_key_column, is_after_image, after_fits, as_source_table, is_target_entry, texts_fit, texts_are_read, entries_of, member_has_names, registration_has_names, set_has_names, table_has_names}
use Rattle.checked_defs.specs.Broken.{all_rules, table_breaks, registration_breaks, set_breaks, member_breaks, first_in_set, first_in_sets, first_place, first_broken, rule_number}
use Rattle.checked_defs.specs.Whole.{have_kinds, is_whole_table, is_whole_registration, has_whole_texts, is_whole_member, is_whole_set, LeavesNothingOut}
use Rattle.checked_defs.specs.declared.rule.Rule.{Rule}
use Rattle.checked_defs.specs.declared.rule.Rule.TheVariants.{Names, Once, Columns, Key, Table, After, Before, Source, Texts, Copies, Condensed, Sums, Replicas}
use Rattle.spelled_defs.specs.declared.context.Context.{Context}
use Rattle.spelled_defs.specs.declared.defs.TableAt.{TableAt}
use Rattle.spelled_defs.specs.declared.defs.RegistrationAt.{RegistrationAt}

-- ---- tests

-- what follows from two tests for each element
all_of_two : {X : Type 0} (p q r : X → Bool) (xs : List X) → ((x : X) → p x ≡ true → q x ≡ true → r x ≡ true) → list_all p xs ≡ true → list_all q xs ≡ true → list_all r xs ≡ true
all_of_two p q r [] f h k = refl
all_of_two p q r (x ∷ xs) f h k =
    let hs = and_parts (p x) (list_all p xs) h in
    let ks = and_parts (q x) (list_all q xs) k in
    and_from (r x) (list_all r xs) (f x hs.0 ks.0) (all_of_two p q r xs f hs.1 ks.1)

-- what follows from three
all_of_three : {X : Type 0} (p q s r : X → Bool) (xs : List X) → ((x : X) → p x ≡ true → q x ≡ true → s x ≡ true → r x ≡ true) → list_all p xs ≡ true → list_all q xs ≡ true → list_all s xs ≡ true → list_all r xs ≡ true
all_of_three p q s r xs f h k m =
    all_of_two (λ x. p x && q x) s r xs (λ x a b. let both = and_parts (p x) (q x) a in f x both.0 both.1 b)
    (all_of_two p q (λ x. p x && q x) xs (λ x a b. and_from (p x) (q x) a b) h k) m

-- ---- a rule that is kept

-- no item breaks the rule
record Keeps (raw : RawDefs) (context : Context) (rule : Rule) : Type 0 where
  tables : list_all (λ t. not (table_breaks raw context rule t)) raw.tables ≡ true
  registrations : list_all (λ r. not (registration_breaks raw context rule r)) raw.registrations ≡ true
  sets : list_all (λ s. not (set_breaks raw rule s)) raw.sets ≡ true
  members : list_all (λ s. list_all (λ m. not (member_breaks context rule s m)) s.members) raw.sets ≡ true

-- no set and no member breaks it
no_set_breaks : (raw : RawDefs) (context : Context) (rule : Rule) (n : ℕ) (sets : List RawSet) → first_in_sets raw context rule n sets ≡ None
    → (list_all (λ s. not (set_breaks raw rule s)) sets ≡ true) × (list_all (λ s. list_all (λ m. not (member_breaks context rule s m)) s.members) sets ≡ true)
no_set_breaks raw context rule n [] h = (refl, refl)
no_set_breaks raw context rule n (s ∷ ss) h =
    let o = or_none (first_in_set raw context rule n s) (first_in_sets raw context rule (n + 1) ss) h in
    let c = chosen_none (set_breaks raw rule s) _ _ o.0 in
    let m = none_pass (member_breaks context rule s) 1 s.members (map_none _ _ c.1) in
    let rest = no_set_breaks raw context rule (n + 1) ss o.1 in
    (and_from (not (set_breaks raw rule s)) _ c.0 rest.0, and_from (list_all (λ x. not (member_breaks context rule s x)) s.members) _ m rest.1)

keeps : (raw : RawDefs) (context : Context) (rule : Rule) → first_place raw context rule ≡ None → Keeps raw context rule
unfolding first_place
keeps raw context rule h =
    let a = or_none _ _ h in
    let b = or_none _ _ a.1 in
    let s = no_set_breaks raw context rule 1 raw.sets b.1 in
    record {
      tables = none_pass (table_breaks raw context rule) 1 raw.tables (map_none _ _ a.0);
      registrations = none_pass (registration_breaks raw context rule) 1 raw.registrations (map_none _ _ b.0);
      sets = s.0;
      members = s.1;
    }

-- of rules that are all kept, the first is
first_kept : (raw : RawDefs) (context : Context) (rule : Rule) (others : List Rule) → first_broken raw context (rule ∷ others) ≡ None → Keeps raw context rule × (first_broken raw context others ≡ None)
first_kept raw context rule others h =
    let o = or_none (option_map (λ place. (rule_number rule, place)) (first_place raw context rule)) (first_broken raw context others) h in
    (keeps raw context rule (map_none _ _ o.0), o.1)

-- ---- names

named : (bytes : List ℕ) → is_name bytes ≡ true → name_of bytes ≡ Some bytes
named bytes h = ap (λ b. cond b (Some bytes) None) h

-- ---- tables

-- an entry with a name and a form spells a column
column_spelled : (entry : List ℕ) → has_column_name entry ≡ true → is_column_entry entry ≡ true → is_some (spelled_column entry) ≡ true
unfolding spelled_column
column_spelled entry h k = by (blank_of 32 entry) h (and_parts _ _ k).1
  where
    form : (name : List ℕ) (f : Option (Kind × Bool)) → is_some f ≡ true → is_some {T = ColumnDef} (option_and_then (λ (g : Kind × Bool). Some (record { name = name; kind = g.0; nullable = g.1 })) f) ≡ true
    form name (Some g) h1 = refl
    form name None h1 = absurd (cc)

    by : (o : Option ℕ) → option_map_or is_name (option_map (λ place. take place entry) o) true ≡ true → is_some (option_and_then form_of (option_map (λ place. drop (place + 1) entry) o)) ≡ true
        → is_some {T = ColumnDef} (option_and_then (λ word. option_and_then (λ name. option_and_then (λ (g : Kind × Bool). Some (record { name = name; kind = g.0; nullable = g.1 })) (option_and_then form_of (option_map (λ place. drop (place + 1) entry) o))) (name_of word)) (option_map (λ place. take place entry) o)) ≡ true
    by None h1 k1 = absurd (cc)
    by (Some place) h1 k1 =
        let given : Option (List ℕ) → Type 0 = λ o. is_some {T = ColumnDef} (option_and_then (λ (name : List ℕ). option_and_then (λ (g : Kind × Bool). Some (record { name = name; kind = g.0; nullable = g.1 })) (form_of (drop (place + 1) entry))) o) ≡ true in
        subst given (sym (named (take place entry) h1)) (form (take place entry) (form_of (drop (place + 1) entry)) k1)

-- a column that may be in a key is a column
key_column_is_column : (columns : List ColumnDef) (name : List ℕ) → is_key_column columns name ≡ true → is_column columns name ≡ true
key_column_is_column columns name h =
    by (nat_lt (position_or_len (λ c. bytes_eq name c.name) columns) (length columns)) refl
  where
    is : ColumnDef → Bool
    is c = bytes_eq name c.name

    past : (o : Option ColumnDef) → o ≡ None → option_map_or (λ (c : ColumnDef). not c.nullable) o false ≡ true → ⊥
    past None e k = cc
    past (Some c) e k = cc

    by : (b : Bool) → nat_lt (position_or_len is columns) (length columns) ≡ b → is_some (cond b (Some (position_or_len is columns)) None) ≡ true
    by true e = refl
    by false e = absurd (past (find is columns) (find_at is columns ∙ slice_get_past columns (position_or_len is columns) (ltb-false _ _ e)) h)

-- a table of which the three rules on tables hold is whole
whole_table : (raw : RawDefs) (context : Context) (t : RawTable) → not (table_breaks raw context Names t) ≡ true → not (table_breaks raw context Columns t) ≡ true → not (table_breaks raw context Key t) ≡ true → is_whole_table t ≡ true
unfolding table_breaks spelled_table
whole_table raw context t names columns key =
    let n = and_parts _ _ (not_not (table_has_names t) names) in
    let n1 = and_parts _ _ n.0 in
    let n2 = and_parts _ _ n1.0 in
    let n3 = and_parts _ _ n2.0 in
    let c = and_parts _ _ (not_not _ columns) in
    let k = and_parts _ _ (not_not _ key) in
    let k1 = and_parts _ _ k.0 in
    let spelled : is_some (spelled_table t) ≡ true = rw (named t.server n3.0, named t.name n3.1) refl in
    let entries = all_of_two has_column_name is_column_entry (λ e. is_some (spelled_column e)) t.columns column_spelled n2.1 c.1 in
    let keys = list_all_weaker (is_key_column (filter_map spelled_column t.columns)) (is_column (filter_map spelled_column t.columns)) t.key (key_column_is_column (filter_map spelled_column t.columns)) k1.1 in
    and_from _ _ (and_from _ _ (and_from _ _ spelled entries) keys) k.1

-- ---- registrations

-- of a table that is found, an after-image fits its columns
after_whole : (def : TableDef) (after : Option (List (List ℕ))) → after_fits def after ≡ true → list_all (is_column def.columns) (unwrap_or after []) ≡ true
after_whole def None h = refl
after_whole def (Some names) h = (and_parts (list_all (is_column def.columns) names) _ h).0

-- a name of an after-image is that of a column
image_is_column : (def : TableDef) (after : Option (List (List ℕ))) (name : List ℕ) → is_after_image def after name ≡ true → is_column def.columns name ≡ true
image_is_column def after name h = by (column_place def.columns name) h
  where
    by : (o : Option ℕ) → option_map_or (is_among (after_places def.columns after)) o false ≡ true → is_some o ≡ true
    by (Some place) k = refl
    by None k = absurd (cc)

-- a registration of which the four rules on registrations hold is whole
whole_registration : (raw : RawDefs) (context : Context) (r : RawRegistration) → not (registration_breaks raw context Names r) ≡ true → not (registration_breaks raw context Table r) ≡ true → not (registration_breaks raw context After r) ≡ true → not (registration_breaks raw context Before r) ≡ true → is_whole_registration context.tables r ≡ true
unfolding registration_breaks spelled_registration
whole_registration raw context r names table after before =
    let n = and_parts _ _ (not_not (registration_has_names r) names) in
    let n1 = and_parts _ _ n.0 in
    let n2 = and_parts _ _ n1.0 in
    let spelled : is_some (spelled_registration context.tables r) ≡ true = rw (named r.server n2.0, named r.table n2.1) refl in
    let over = by (find (is_table r.server r.table) context.tables) (not_not _ table) (not_not _ after) (not_not _ before) in
    and_from _ _ (and_from _ _ spelled over.0) over.1
  where
    by : (f : Option TableAt) → is_some (option_map (λ (t : TableAt). t.def) f) ≡ true → option_map_or (λ def. after_fits def r.after) (option_map (λ (t : TableAt). t.def) f) true ≡ true → option_map_or (λ def. list_all (is_after_image def r.after) (unwrap_or r.before [])) (option_map (λ (t : TableAt). t.def) f) true ≡ true
        → (list_all (is_column (option_map_or (λ (t : TableAt). t.def.columns) f [])) (unwrap_or r.after []) ≡ true) × (list_all (is_column (option_map_or (λ (t : TableAt). t.def.columns) f [])) (unwrap_or r.before []) ≡ true)
    by None h1 h2 h3 = absurd (cc)
    by (Some t) h1 h2 h3 = (after_whole t.def r.after h2, list_all_weaker (is_after_image t.def r.after) (is_column t.def.columns) (unwrap_or r.before []) (image_is_column t.def r.after) h3)

-- ---- sets and members

-- an entry that is read is a column of the target
entry_whole : (columns : List ColumnDef) (entry : List ℕ) → is_target_entry columns entry ≡ true → is_some (target_column columns entry) ≡ true
entry_whole columns entry h = (and_parts _ _ h).1

-- texts that are read are whole
texts_whole : (columns : List ColumnDef) (m : RawMember) → texts_are_read columns m ≡ true → has_whole_texts columns m ≡ true
texts_whole columns m h =
    let p = and_parts _ _ h in
    let q = and_parts _ _ p.0 in
    and_from _ _ (list_all_weaker (is_target_entry columns) (λ e. is_some (target_column columns e)) (entries_of m) (entry_whole columns) q.0) q.1

-- a member with names and a kind is spelled
member_spelled : (columns : List ColumnDef) (m : RawMember) → is_name m.source ≡ true → is_name m.target ≡ true → is_some (target_kind m) ≡ true → is_some (spelled_member columns m) ≡ true
unfolding spelled_member
member_spelled columns m source target kind =
    let given : Option (List ℕ) → Type 0 = λ o. is_some {T = Member} (option_and_then (λ (a : List ℕ). option_and_then (λ (b : List ℕ). option_and_then (λ (k : TargetKind). Some (record { source = a; target = b; kind = k; columns = filter_map (target_column columns) (unwrap_or m.columns []); filter = option_and_then (predicate_tree columns) m.filter })) (target_kind m)) (name_of m.target)) o) ≡ true in
    let given_target : Option (List ℕ) → Type 0 = λ o. is_some {T = Member} (option_and_then (λ (b : List ℕ). option_and_then (λ (k : TargetKind). Some (record { source = m.source; target = b; kind = k; columns = filter_map (target_column columns) (unwrap_or m.columns []); filter = option_and_then (predicate_tree columns) m.filter })) (target_kind m)) o) ≡ true in
    subst given (sym (named m.source source)) (subst given_target (sym (named m.target target)) (by (target_kind m) kind))
  where
    by : (o : Option TargetKind) → is_some o ≡ true → is_some {T = Member} (option_and_then (λ (k : TargetKind). Some (record { source = m.source; target = m.target; kind = k; columns = filter_map (target_column columns) (unwrap_or m.columns []); filter = option_and_then (predicate_tree columns) m.filter })) o) ≡ true
    by (Some k) h = refl
    by None h = absurd (cc)

-- a member of which the rules on names, sources and texts hold is whole
whole_member : (context : Context) (s : RawSet) (m : RawMember) → not (member_breaks context Names s m) ≡ true → not (member_breaks context Source s m) ≡ true → not (member_breaks context Texts s m) ≡ true → is_some (target_kind m) ≡ true → is_whole_member context.tables s m ≡ true
unfolding member_breaks
whole_member context s m names source texts kind =
    let n = and_parts _ _ (not_not (member_has_names m) names) in
    let n1 = and_parts _ _ n.0 in
    let spelled = member_spelled (columns_at context.tables s.source m.source) m n1.0 n1.1 kind in
    and_from _ _ spelled (by (find (is_table s.source m.source) context.tables) (find (is_registration s.source m.source) context.registrations) spelled (not_not _ source) (not_not _ texts))
  where
    test : SourceTable → Member → Bool
    test = texts_fit m

    fits : (t : TableAt) (g : RegistrationAt) (o : Option Member) → is_some o ≡ true → option_map_or (λ (over : SourceTable × Member). test over.0 over.1) (option_map (λ (x : Member). (as_source_table t.def g.def, x)) o) true ≡ true → texts_are_read t.def.columns m ≡ true
    fits t g None h k = absurd (cc)
    fits t g (Some x) h k = (and_parts _ _ (and_parts _ _ k).0).0

    by : (f : Option TableAt) (g : Option RegistrationAt) → is_some (spelled_member (option_map_or (λ (t : TableAt). t.def.columns) f []) m) ≡ true
        → is_some (option_and_then (λ (t : TableAt). option_map (λ (r : RegistrationAt). as_source_table t.def r.def) g) f) ≡ true
        → option_map_or (λ (over : SourceTable × Member). test over.0 over.1) (option_and_then (λ (source : SourceTable). option_map (λ (x : Member). (source, x)) (spelled_member (option_map_or (λ (t : TableAt). t.def.columns) f []) m)) (option_and_then (λ (t : TableAt). option_map (λ (r : RegistrationAt). as_source_table t.def r.def) g) f)) true ≡ true
        → has_whole_texts (option_map_or (λ (t : TableAt). t.def.columns) f []) m ≡ true
    by None g h k l = absurd (cc)
    by (Some t) None h k l = absurd (cc)
    by (Some t) (Some r) h k l = texts_whole t.def.columns m (fits t r (spelled_member t.def.columns m) h l)

-- a set of which the rules on its names and its members hold is whole
whole_set : (raw : RawDefs) (context : Context) (s : RawSet) → not (set_breaks raw Names s) ≡ true → list_all (is_whole_member context.tables s) s.members ≡ true → is_whole_set context.tables s ≡ true
unfolding set_breaks spelled_set
whole_set raw context s names members =
    let n = and_parts _ _ (not_not (set_has_names s) names) in
    let n1 = and_parts _ _ n.0 in
    let n2 = and_parts _ _ n1.0 in
    let spelled : is_some (spelled_set context.tables s) ≡ true = rw (named s.qual n2.0, named s.name n2.1, named s.source n1.1, named s.target n.1) refl in
    and_from _ _ spelled members

-- the members of a set are whole
whole_members : (context : Context) (s : RawSet) → list_all (λ m. not (member_breaks context Names s m)) s.members ≡ true → list_all (λ m. not (member_breaks context Source s m)) s.members ≡ true → list_all (λ m. not (member_breaks context Texts s m)) s.members ≡ true → list_all (λ m. is_some (target_kind m)) s.members ≡ true → list_all (is_whole_member context.tables s) s.members ≡ true
whole_members context s names sources texts kinds =
    all_of_two (λ m. not (member_breaks context Names s m) && not (member_breaks context Source s m)) (λ m. not (member_breaks context Texts s m) && is_some (target_kind m)) (is_whole_member context.tables s) s.members
    (λ m a b. let p = and_parts _ _ a in let q = and_parts _ _ b in whole_member context s m p.0 p.1 q.0 q.1)
    (all_of_two _ _ (λ m. not (member_breaks context Names s m) && not (member_breaks context Source s m)) s.members (λ m a b. and_from _ _ a b) names sources)
    (all_of_two _ _ (λ m. not (member_breaks context Texts s m) && is_some (target_kind m)) s.members (λ m a b. and_from _ _ a b) texts kinds)

-- where no rule is broken and each member has a kind, nothing of the text is left out
pub nothing_left_out : (raw : RawDefs) (context : Context) → first_broken raw context all_rules ≡ None → IsTrue (have_kinds raw) → LeavesNothingOut raw context.tables
nothing_left_out raw context h kinds =
    let names = first_kept raw context Names (Once ∷ Columns ∷ Key ∷ Table ∷ After ∷ Before ∷ Source ∷ Texts ∷ Copies ∷ Condensed ∷ Sums ∷ Replicas ∷ []) h in
    let once = first_kept raw context Once (Columns ∷ Key ∷ Table ∷ After ∷ Before ∷ Source ∷ Texts ∷ Copies ∷ Condensed ∷ Sums ∷ Replicas ∷ []) names.1 in
    let columns = first_kept raw context Columns (Key ∷ Table ∷ After ∷ Before ∷ Source ∷ Texts ∷ Copies ∷ Condensed ∷ Sums ∷ Replicas ∷ []) once.1 in
    let key = first_kept raw context Key (Table ∷ After ∷ Before ∷ Source ∷ Texts ∷ Copies ∷ Condensed ∷ Sums ∷ Replicas ∷ []) columns.1 in
    let table = first_kept raw context Table (After ∷ Before ∷ Source ∷ Texts ∷ Copies ∷ Condensed ∷ Sums ∷ Replicas ∷ []) key.1 in
    let after = first_kept raw context After (Before ∷ Source ∷ Texts ∷ Copies ∷ Condensed ∷ Sums ∷ Replicas ∷ []) table.1 in
    let before = first_kept raw context Before (Source ∷ Texts ∷ Copies ∷ Condensed ∷ Sums ∷ Replicas ∷ []) after.1 in
    let source = first_kept raw context Source (Texts ∷ Copies ∷ Condensed ∷ Sums ∷ Replicas ∷ []) before.1 in
    let texts = first_kept raw context Texts (Copies ∷ Condensed ∷ Sums ∷ Replicas ∷ []) source.1 in
    record {
      tables = all_of_three _ _ _ is_whole_table raw.tables (whole_table raw context) names.0.tables columns.0.tables key.0.tables;
      registrations = all_of_two (λ r. not (registration_breaks raw context Names r) && not (registration_breaks raw context Table r)) (λ r. not (registration_breaks raw context After r) && not (registration_breaks raw context Before r)) (is_whole_registration context.tables) raw.registrations
          (λ r a b. let p = and_parts _ _ a in let q = and_parts _ _ b in whole_registration raw context r p.0 p.1 q.0 q.1)
          (all_of_two _ _ (λ r. not (registration_breaks raw context Names r) && not (registration_breaks raw context Table r)) raw.registrations (λ r a b. and_from _ _ a b) names.0.registrations table.0.registrations)
          (all_of_two _ _ (λ r. not (registration_breaks raw context After r) && not (registration_breaks raw context Before r)) raw.registrations (λ r a b. and_from _ _ a b) after.0.registrations before.0.registrations);
      sets = all_of_two _ _ (is_whole_set context.tables) raw.sets (whole_set raw context) names.0.sets
          (all_of_two (λ s. list_all (λ m. not (member_breaks context Names s m)) s.members && list_all (λ m. not (member_breaks context Source s m)) s.members) (λ s. list_all (λ m. not (member_breaks context Texts s m)) s.members && list_all (λ m. is_some (target_kind m)) s.members) (λ s. list_all (is_whole_member context.tables s) s.members) raw.sets
          (λ s a b. let p = and_parts _ _ a in let q = and_parts _ _ b in whole_members context s p.0 p.1 q.0 q.1)
          (all_of_two _ _ (λ s. list_all (λ m. not (member_breaks context Names s m)) s.members && list_all (λ m. not (member_breaks context Source s m)) s.members) raw.sets (λ s a b. and_from _ _ a b) names.0.members source.0.members)
          (all_of_two _ _ (λ s. list_all (λ m. not (member_breaks context Texts s m)) s.members && list_all (λ m. is_some (target_kind m)) s.members) raw.sets (λ s a b. and_from _ _ a b) texts.0.members kinds));
    }
