-- A text that is read has members, each of a type that there is.
use Rattle.std.proofs.Common.{◌≡◌, ℕ, Bool, true, false, cond, not, ◌&&◌, ◌||◌, inl, inr, List, [], length, map, Option, Some, None, refl, sym, ap, subst, ◌∙◌, arith, codes, nat_lt, is_some, unwrap_or, option_and_then, bytes_eq, Ordering, Less, Equal, Greater}
use Rattle.std.specs.List.{list_all}
use Rattle.std.specs.Cmp.Lexicographic.{slice_cmp}
use Rattle.std.specs.Ordering.{nat_cmp, match_ordering}
use Rattle.std.proofs.lemmas.Bool.{and_parts, and_from, false≢true, lt-ltb}
use Rattle.std.proofs.lemmas.List.Folds.{list_all-map}
use Rattle.std.proofs.lemmas.Map.Lookups.{exact_bytes}
use Rattle.std.proofs.lemmas.Option.{none-some, same_Some}
use Rattle.repl_model.specs.Words.{TargetKind, In, passes_at}
use Rattle.toml.specs.Data.{Data, string, integer, float, boolean, datetime, array, table, Items, no_items, item, Members, no_members, member, get_member, as_str, as_array}
use Rattle.repl_commands.specs.declared.written.RawMember.{RawMember}
use Rattle.repl_commands.specs.declared.written.RawSet.{RawSet}
use Rattle.raw_defs.specs.Raw.{tables_of, items_at, raw_member_of, raw_set_of, raw_defs_of}
use Rattle.raw_defs.specs.Shape.{Key, fits, fits_each, fits_keys, fits_item, needed, has_needed, has_some, keys_of, kind_of_type, shape_at, is_member_type, document_keys, set_keys, member_keys, ccd_keys}
use Rattle.raw_defs.specs.declared.shape.ItemKind.{ItemKind}
use Rattle.raw_defs.specs.declared.shape.ItemKind.TheVariants as kind
use Rattle.raw_defs.specs.declared.shape.ValueShape.{ValueShape}
use Rattle.raw_defs.specs.declared.shape.ValueShape.TheVariants as shape
use Rattle.repl_definitions.specs.declared.member.TargetKind.TheVariants.{UserCopy, PointInTime, BaseAggregate, ChangeAggregate, Ccd, Replica}
use Rattle.spelled_defs.specs.Spelled.{target_kind}
use Rattle.load_laws.specs.texts.Texts.{IsWhole}
use Rattle.load_laws.specs.texts.AcceptedTexts.{ReadsWhole}

-- ---- entries and items that fit

-- the value at a name has the shape of the key of that name
value_fits : (keys : List Key) (ms : Members) (name : List ℕ) (d : Data) → fits_keys keys ms ≡ true → get_member name ms ≡ Some d → fits (shape_at keys name) d ≡ true
value_fits keys no_members name d f e = absurd (none-some d e)
value_fits keys (member l v ms) name d f e =
    let both = and_parts (fits (shape_at keys l) v) (fits_keys keys ms) f in
    by_order (slice_cmp nat_cmp name l) refl (λ later. value_fits keys ms name d both.1 later) e
  where
    by_order : (o : Ordering) → slice_cmp nat_cmp name l ≡ o → (get_member name ms ≡ Some d → fits (shape_at keys name) d ≡ true) → match_ordering o (get_member name ms) (Some v) (get_member name ms) ≡ Some d → fits (shape_at keys name) d ≡ true
    by_order Less same later e = later e
    by_order Equal same later e = subst (λ (k : List ℕ). fits (shape_at keys k) d ≡ true) (sym (exact_bytes name l same)) (subst (λ (x : Data). fits (shape_at keys l) x ≡ true) (same_Some v d e) (and_parts (fits (shape_at keys l) v) (fits_keys keys ms) f).0)
    by_order Greater same later e = later e

-- a name that is needed has a value
needed_there : (keys : List Key) (ms : Members) (key : Key) → has_needed keys ms ≡ true → In key keys → (not key.needed || is_some (get_member key.name ms)) ≡ true
needed_there keys ms key e i = passes_at (λ (k : Key). not k.needed || is_some (get_member k.name ms)) keys key e i

-- what holds of each item's entries holds of each table among the items
each_table : (k : ItemKind) (p : Members → Bool) → ((ms : Members) → fits_item k ms ≡ true → p ms ≡ true) → (ds : Items) → fits_each (shape.Item k) ds ≡ true → list_all p (tables_of ds) ≡ true
each_table k p holds no_items f = refl
each_table k p holds (item (table ms) ds) f =
    let both = and_parts (fits (shape.Item k) (table ms)) (fits_each (shape.Item k) ds) f in
    and_from (p ms) (list_all p (tables_of ds)) (holds ms both.0) (each_table k p holds ds both.1)
each_table k p holds (item (string t) ds) f = absurd (false≢true f)
each_table k p holds (item (integer n) ds) f = absurd (false≢true f)
each_table k p holds (item (float x) ds) f = absurd (false≢true f)
each_table k p holds (item (boolean b) ds) f = absurd (false≢true f)
each_table k p holds (item (datetime t) ds) f = absurd (false≢true f)
each_table k p holds (item (array es) ds) f = absurd (false≢true f)

-- an array of items at a name
items_fit : (keys : List Key) (ms : Members) (name : List ℕ) (k : ItemKind) → shape_at keys name ≡ shape.Items k → fits_keys keys ms ≡ true → fits_each (shape.Item k) (items_at name ms) ≡ true
items_fit keys ms name k same f = by_value (get_member name ms) refl
  where
    array_fits : (d : Data) → fits (shape.Items k) d ≡ true → fits_each (shape.Item k) (unwrap_or (as_array d) no_items) ≡ true
    array_fits (array ds) e = e
    array_fits (string t) e = absurd (false≢true e)
    array_fits (integer n) e = absurd (false≢true e)
    array_fits (float x) e = absurd (false≢true e)
    array_fits (boolean b) e = absurd (false≢true e)
    array_fits (datetime t) e = absurd (false≢true e)
    array_fits (table es) e = absurd (false≢true e)

    by_value : (o : Option Data) → get_member name ms ≡ o → fits_each (shape.Item k) (unwrap_or (option_and_then as_array o) no_items) ≡ true
    by_value None e = refl
    by_value (Some d) e = array_fits d (subst (λ (v : ValueShape). fits v d ≡ true) same (value_fits keys ms name d f e))

-- ---- members

-- one of six texts is the type of a kind of target
type_given : (m : RawMember) → is_member_type m.kind ≡ true → is_some (target_kind m) ≡ true
unfolding target_kind
type_given m = pick (bytes_eq m.kind (codes "user_copy")) (bytes_eq m.kind (codes "point_in_time")) (bytes_eq m.kind (codes "base_aggregate")) (bytes_eq m.kind (codes "change_aggregate")) (bytes_eq m.kind (codes "ccd")) (bytes_eq m.kind (codes "replica")) UserCopy PointInTime BaseAggregate ChangeAggregate (Ccd (unwrap_or m.complete false) (unwrap_or m.condensed false)) Replica
  where
    pick : (a b c d e f : Bool) (u v w x y z : TargetKind) → (a || (b || (c || (d || (e || (f || false)))))) ≡ true → is_some (cond a (Some u) (cond b (Some v) (cond c (Some w) (cond d (Some x) (cond e (Some y) (cond f (Some z) None)))))) ≡ true
    pick true b c d e f u v w x y z some = refl
    pick false true c d e f u v w x y z some = refl
    pick false false true d e f u v w x y z some = refl
    pick false false false true e f u v w x y z some = refl
    pick false false false false true f u v w x y z some = refl
    pick false false false false false true u v w x y z some = refl
    pick false false false false false false u v w x y z some = absurd (false≢true some)

module _ (ms : Members) where
  -- the entries have the type of some kind of target
  abbrev HasKind : Type 0
  HasKind = is_some (target_kind (raw_member_of ms)) ≡ true

  -- they have, if a type stands there
  kind_at : (keys : List Key) → shape_at keys (codes "type") ≡ shape.MemberType → is_some (get_member (codes "type") ms) ≡ true → fits_keys keys ms ≡ true → HasKind
  kind_at keys same there f = by_value (get_member (codes "type") ms) refl there
    where
      by_text : (d : Data) → get_member (codes "type") ms ≡ Some d → fits shape.MemberType d ≡ true → HasKind
      by_text (string t) at e = type_given (raw_member_of ms) (subst (λ (text : List ℕ). is_member_type text ≡ true) (sym (ap (λ (o : Option Data). unwrap_or (option_and_then as_str o) []) at)) e)
      by_text (integer n) at e = absurd (false≢true e)
      by_text (float x) at e = absurd (false≢true e)
      by_text (boolean b) at e = absurd (false≢true e)
      by_text (datetime t) at e = absurd (false≢true e)
      by_text (array es) at e = absurd (false≢true e)
      by_text (table es) at e = absurd (false≢true e)

      by_value : (o : Option Data) → get_member (codes "type") ms ≡ o → is_some o ≡ true → HasKind
      by_value None at some = absurd (false≢true some)
      by_value (Some d) at some = by_text d at (subst (λ (v : ValueShape). fits v d ≡ true) same (value_fits keys ms (codes "type") d f at))

  -- the entries fit the keys of a kind of items
  abbrev FitKind : ItemKind → Type 0
  FitKind k = (has_needed (keys_of k) ms && fits_keys (keys_of k) ms) ≡ true

  -- entries that fit keys among which the type is needed have the type of some kind
  member_at : (keys : List Key) → shape_at keys (codes "type") ≡ shape.MemberType → In (needed (codes "type") shape.MemberType) keys → (has_needed keys ms && fits_keys keys ms) ≡ true → HasKind
  member_at keys same i f = let both = and_parts (has_needed keys ms) (fits_keys keys ms) f in kind_at keys same (needed_there keys ms (needed (codes "type") shape.MemberType) both.0 i) both.1

  -- a member has a kind
  pub member_kind : fits_item kind.Member ms ≡ true → HasKind
  member_kind = by_type (option_and_then as_str (get_member (codes "type") ms))
    where
      plain : FitKind kind.Member → HasKind
      plain f = member_at (member_keys true) refl (inr (inr (inl refl))) f

      replica : FitKind kind.ReplicaMember → HasKind
      replica f = member_at (member_keys false) refl (inr (inr (inl refl))) f

      ccd : FitKind kind.CcdMember → HasKind
      ccd f = member_at ccd_keys refl (inr (inr (inr (inr (inl refl))))) f

      pick : (a b : Bool) → FitKind (cond a kind.CcdMember (cond b kind.ReplicaMember kind.Member)) → HasKind
      pick true b f = ccd f
      pick false true f = replica f
      pick false false f = plain f

      by_type : (o : Option (List ℕ)) → FitKind (kind_of_type o) → HasKind
      by_type None f = plain f
      by_type (Some t) f = pick (bytes_eq t (codes "ccd")) (bytes_eq t (codes "replica")) f

-- ---- sets

-- the members that entries of a set state
abbrev members_at : Members → List RawMember
members_at ms = map raw_member_of (tables_of (items_at (codes "member") ms))

-- a set has members, each with a kind
set_fits : (ms : Members) → fits_item kind.Set ms ≡ true → (nat_lt 0 (length (members_at ms)) ≡ true) × (list_all (λ m. is_some (target_kind m)) (members_at ms) ≡ true)
set_fits ms f =
    let both = and_parts (has_needed set_keys ms) (fits_keys set_keys ms) f in
    by_value (get_member (codes "member") ms) refl (needed_there set_keys ms (needed (codes "member") (shape.SomeItems kind.Member)) both.0 (inr (inr (inr (inr (inr (inr (inl refl)))))))) both.1
  where
    HasMembers : List RawMember → Type 0
    HasMembers members = (nat_lt 0 (length members) ≡ true) × (list_all (λ m. is_some (target_kind m)) members ≡ true)

    some_tables : (ds : Items) → has_some ds ≡ true → fits_each (shape.Item kind.Member) ds ≡ true → nat_lt 0 (length (map raw_member_of (tables_of ds))) ≡ true
    some_tables no_items some e = absurd (false≢true some)
    some_tables (item (table m) ds) some e = lt-ltb 0 (length (map raw_member_of (tables_of (item (table m) ds)))) (omega arith)
    some_tables (item (string t) ds) some e = absurd (false≢true e)
    some_tables (item (integer n) ds) some e = absurd (false≢true e)
    some_tables (item (float x) ds) some e = absurd (false≢true e)
    some_tables (item (boolean b) ds) some e = absurd (false≢true e)
    some_tables (item (datetime t) ds) some e = absurd (false≢true e)
    some_tables (item (array es) ds) some e = absurd (false≢true e)

    by_items : (d : Data) → fits (shape.SomeItems kind.Member) d ≡ true → HasMembers (map raw_member_of (tables_of (unwrap_or (as_array d) no_items)))
    by_items (array ds) e =
        let both = and_parts (has_some ds) (fits_each (shape.Item kind.Member) ds) e in (
          some_tables ds both.0 both.1,
          list_all-map (λ m. is_some (target_kind m)) raw_member_of (tables_of ds) ∙ each_table kind.Member (λ m. is_some (target_kind (raw_member_of m))) member_kind ds both.1,
        )
    by_items (string t) e = absurd (false≢true e)
    by_items (integer n) e = absurd (false≢true e)
    by_items (float x) e = absurd (false≢true e)
    by_items (boolean b) e = absurd (false≢true e)
    by_items (datetime t) e = absurd (false≢true e)
    by_items (table es) e = absurd (false≢true e)

    by_value : (o : Option Data) → get_member (codes "member") ms ≡ o → is_some o ≡ true → fits_keys set_keys ms ≡ true → HasMembers (map raw_member_of (tables_of (unwrap_or (option_and_then as_array o) no_items)))
    by_value None at some keys = absurd (false≢true some)
    by_value (Some d) at some keys = by_items d (value_fits set_keys ms (codes "member") d keys at)

-- ---- whole texts

-- the sets of a document that fits
document_sets : (ms : Members) (p : RawSet → Bool) → ((set : Members) → fits_item kind.Set set ≡ true → p (raw_set_of set) ≡ true) → fits_item kind.Document ms ≡ true → list_all p (raw_defs_of ms).sets ≡ true
document_sets ms p holds f =
    let both = and_parts (has_needed document_keys ms) (fits_keys document_keys ms) f in
    list_all-map p raw_set_of (tables_of (items_at (codes "set") ms)) ∙ each_table kind.Set (λ set. p (raw_set_of set)) holds (items_at (codes "set") ms) (items_fit document_keys ms (codes "set") kind.Set refl both.1)

-- a text that is read is whole
pub reads_whole : ReadsWhole
reads_whole bytes raw are = subst IsWhole (sym are.are) (record {
  kinds = document_sets are.document (λ set. list_all (λ m. is_some (target_kind m)) set.members) (λ set f. (set_fits set f).1) are.fits;
  members = document_sets are.document (λ set. nat_lt 0 (length set.members)) (λ set f. (set_fits set f).0) are.fits;
})
