-- What the items of a text spell, and the items by which something is spelled.
use Rattle.std.proofs.Common.{◌≡◌, ℕ, Bool, true, false, cond, List, [], Option, Some, None, refl, sym, ap, ap₂, subst, ◌∙◌, codes, is_some, unwrap_or, filter_map, option_map, option_and_then, bytes_eq}
use Rattle.std.proofs.lemmas.Bool.{false≢true}
use Rattle.std.proofs.lemmas.Option.{none-some, same_Some}
use Rattle.repl_model.specs.Words.{is_name, name_of, SetId, ColumnDef, Kind, Member, TargetKind, SetDef, is_replica, In, in_filter_map, same_name}
use Rattle.repl_definitions.specs.declared.member.TargetKind.TheVariants.{UserCopy, PointInTime, BaseAggregate, ChangeAggregate, Ccd, Replica}
use Rattle.repl_commands.specs.declared.written.RawDefs.{RawDefs}
use Rattle.repl_commands.specs.declared.written.RawMember.{RawMember}
use Rattle.repl_commands.specs.declared.written.RawRegistration.{RawRegistration}
use Rattle.repl_commands.specs.declared.written.RawSet.{RawSet}
use Rattle.repl_commands.specs.declared.written.RawTable.{RawTable}
use Rattle.repl_defs.specs.Entries.{column_name, column_form}
use Rattle.repl_defs.specs.Trees.{predicate_tree}
use Rattle.spelled_defs.specs.Context.{is_replica_item}
use Rattle.spelled_defs.specs.Spelled.{spelled_column, table_def, spelled_table, columns_at, registration_def, spelled_registration, target_column, target_kind, spelled_member, spelled_member_at, spelled_set}
use Rattle.spelled_defs.specs.declared.defs.RegistrationAt.{RegistrationAt}
use Rattle.spelled_defs.specs.declared.defs.TableAt.{TableAt}

-- what is some is one
pub some_is : {A : Type 0} (o : Option A) → is_some o ≡ true → (a : A) × (o ≡ Some a)
some_is None e = absurd (false≢true e)
some_is (Some a) e = (a, refl)

-- what a step gives comes from what the step before gave
pub from_step : {A B : Type 0} (f : A → Option B) (o : Option A) (b : B) → option_and_then f o ≡ Some b → (a : A) × (o ≡ Some a) × (f a ≡ Some b)
from_step f None b e = absurd (none-some b e)
from_step f (Some a) b e = (a, refl, e)

-- an image of something is that of what is there
pub from_image : {A B : Type 0} (f : A → B) (o : Option A) (b : B) → option_map f o ≡ Some b → (a : A) × (o ≡ Some a) × (f a ≡ b)
from_image f None b e = absurd (none-some b e)
from_image f (Some a) b e = (a, refl, same_Some (f a) b e)

-- a name is the bytes of which it is one
pub name_given : (bytes name : List ℕ) → name_of bytes ≡ Some name → (name ≡ bytes) × (is_name bytes ≡ true)
name_given bytes name = by_test (is_name bytes) refl
  where
    by_test : (b : Bool) → is_name bytes ≡ b → cond b (Some bytes) None ≡ Some name → (name ≡ bytes) × (is_name bytes ≡ true)
    by_test true e same = (sym (same_Some bytes name same), e)
    by_test false e none = absurd (none-some name none)

-- ---- what an item spells

-- the name of the column that an entry spells is that of the entry
pub column_spelled : (entry : List ℕ) (column : ColumnDef) → spelled_column entry ≡ Some column → (column_name entry ≡ Some column.name) × (is_name column.name ≡ true)
unfolding spelled_column
column_spelled entry column e =
    let word = from_step _ (column_name entry) column e in
    let name = from_step _ (name_of word.0) column word.2 in
    let form = from_step _ (column_form entry) column name.2 in
    let given = name_given word.0 name.0 name.1 in
    let same : word.0 ≡ column.name = sym given.0 ∙ ap (λ (c : ColumnDef). c.name) (same_Some (made name.0 form.0) column form.2) in
    (word.1 ∙ ap Some same, subst (λ (n : List ℕ). is_name n ≡ true) same given.1)
  where
    made : List ℕ → Kind × Bool → ColumnDef
    made name form = record { name = name; kind = form.0; nullable = form.1 }

-- the table that an item spells
pub table_spelled : (item : RawTable) (t : TableAt) → spelled_table item ≡ Some t → t ≡ record { server = item.server; def = table_def item.name (filter_map spelled_column item.columns) item }
unfolding spelled_table
table_spelled item t e =
    let server = from_step _ (name_of item.server) t e in
    let name = from_step _ (name_of item.name) t server.2 in
    sym (same_Some (made server.0 name.0) t name.2) ∙ ap₂ made (name_given item.server server.0 server.1).0 (name_given item.name name.0 name.1).0
  where
    made : List ℕ → List ℕ → TableAt
    made server name = record { server = server; def = table_def name (filter_map spelled_column item.columns) item }

-- its name is a name
pub table_named : (item : RawTable) (t : TableAt) → spelled_table item ≡ Some t → is_name t.def.name ≡ true
unfolding spelled_table
table_named item t e =
    let server = from_step _ (name_of item.server) t e in
    let name = from_step _ (name_of item.name) t server.2 in
    ap (λ (a : TableAt). is_name a.def.name) (table_spelled item t e) ∙ (name_given item.name name.0 name.1).1

-- the registration that an item spells
pub registration_spelled : (tables : List TableAt) (item : RawRegistration) (r : RegistrationAt) → spelled_registration tables item ≡ Some r → r ≡ record { server = item.server; def = registration_def item.table (columns_at tables item.server item.table) item }
unfolding spelled_registration
registration_spelled tables item r e =
    let server = from_step _ (name_of item.server) r e in
    let table = from_step _ (name_of item.table) r server.2 in
    sym (same_Some (made server.0 table.0) r table.2) ∙ ap₂ made (name_given item.server server.0 server.1).0 (name_given item.table table.0 table.1).0
  where
    made : List ℕ → List ℕ → RegistrationAt
    made server table = record { server = server; def = registration_def table (columns_at tables item.server item.table) item }

-- the name of its table is a name
pub registration_named : (tables : List TableAt) (item : RawRegistration) (r : RegistrationAt) → spelled_registration tables item ≡ Some r → is_name r.def.table ≡ true
unfolding spelled_registration
registration_named tables item r e =
    let server = from_step _ (name_of item.server) r e in
    let table = from_step _ (name_of item.table) r server.2 in
    ap (λ (a : RegistrationAt). is_name a.def.table) (registration_spelled tables item r e) ∙ (name_given item.table table.0 table.1).1

-- the definition of a set with these names
abbrev pub set_def : List TableAt → RawSet → SetId → List ℕ → List ℕ → SetDef
set_def tables item id source target = record {
  id = id;
  source = source;
  target = target;
  commit_count = unwrap_or item.commit_count 0;
  max_minutes = unwrap_or item.max_minutes 0;
  members = filter_map (spelled_member_at tables item.source) item.members;
}

-- the set that an item spells
pub set_spelled : (tables : List TableAt) (item : RawSet) (def : SetDef) → spelled_set tables item ≡ Some def → def ≡ set_def tables item (record { qual = item.qual; name = item.name }) item.source item.target
unfolding spelled_set
set_spelled tables item def e =
    let qual = from_step _ (name_of item.qual) def e in
    let name = from_step _ (name_of item.name) def qual.2 in
    let source = from_step _ (name_of item.source) def name.2 in
    let target = from_step _ (name_of item.target) def source.2 in
    sym (same_Some (set_def tables item (id qual.0 name.0) source.0 target.0) def target.2)
    ∙ ap₂ (λ (a b : List ℕ). set_def tables item (id a b) source.0 target.0) (name_given item.qual qual.0 qual.1).0 (name_given item.name name.0 name.1).0
    ∙ ap₂ (λ (a b : List ℕ). set_def tables item (id item.qual item.name) a b) (name_given item.source source.0 source.1).0 (name_given item.target target.0 target.1).0
  where
    id : List ℕ → List ℕ → SetId
    id qual name = record { qual = qual; name = name }

-- ---- members

-- the member with these names and this kind
abbrev pub member_def : List ColumnDef → RawMember → List ℕ → List ℕ → TargetKind → Member
member_def columns item source target kind = record {
  source = source;
  target = target;
  kind = kind;
  columns = filter_map (target_column columns) (unwrap_or item.columns []);
  filter = option_and_then (predicate_tree columns) item.filter;
}

-- the member that an item spells, of the kind that it says
pub member_spelled : (columns : List ColumnDef) (item : RawMember) (member : Member) → spelled_member columns item ≡ Some member → (target_kind item ≡ Some member.kind) × (member ≡ member_def columns item item.source item.target member.kind)
unfolding spelled_member
member_spelled columns item member e =
    let source = from_step _ (name_of item.source) member e in
    let target = from_step _ (name_of item.target) member source.2 in
    let kind = from_step _ (target_kind item) member target.2 in
    let made = sym (same_Some (member_def columns item source.0 target.0 kind.0) member kind.2) in
    let same : kind.0 ≡ member.kind = sym (ap (λ (m : Member). m.kind) made) in (
      kind.1 ∙ ap Some same,
      made ∙ ap₂ (λ (a b : List ℕ). member_def columns item a b kind.0) (name_given item.source source.0 source.1).0 (name_given item.target target.0 target.1).0
          ∙ ap (member_def columns item item.source item.target) same,
    )

-- a member is a replica if the type of its item is that of replicas, and only then
pub replica_kind : (item : RawMember) (kind : TargetKind) → target_kind item ≡ Some kind → is_replica kind ≡ is_replica_item item
unfolding target_kind
replica_kind item kind = other (codes "user_copy") UserCopy _ refl refl
    (other (codes "point_in_time") PointInTime _ refl refl
    (other (codes "base_aggregate") BaseAggregate _ refl refl
    (other (codes "change_aggregate") ChangeAggregate _ refl refl
    (other (codes "ccd") (Ccd (unwrap_or item.complete false) (unwrap_or item.condensed false)) _ refl refl
    (last (bytes_eq item.kind (codes "replica")))))))
  where
    other : (text : List ℕ) (k : TargetKind) (rest : Option TargetKind) → bytes_eq text (codes "replica") ≡ false → is_replica k ≡ false → (rest ≡ Some kind → is_replica kind ≡ is_replica_item item) → cond (bytes_eq item.kind text) (Some k) rest ≡ Some kind → is_replica kind ≡ is_replica_item item
    other text k rest apart fails more = by_text (bytes_eq item.kind text) refl
      where
        by_text : (b : Bool) → bytes_eq item.kind text ≡ b → cond b (Some k) rest ≡ Some kind → is_replica kind ≡ is_replica_item item
        by_text true e is = ap is_replica (sym (same_Some k kind is)) ∙ fails ∙ sym (ap (λ (t : List ℕ). bytes_eq t (codes "replica")) (same_name item.kind text e) ∙ apart)
        by_text false e is = more is

    last : (b : Bool) → cond b (Some Replica) None ≡ Some kind → is_replica kind ≡ b
    last true is = ap is_replica (sym (same_Some Replica kind is))
    last false is = absurd (none-some kind is)

-- A member of a set, with the items that spell both.
pub record IsSpelled (raw : RawDefs) (tables : List TableAt) (def : SetDef) (member : Member) : Type 0 where
  pub set : RawSet
  pub set_in : In set raw.sets
  pub set_spells : spelled_set tables set ≡ Some def
  pub item : RawMember
  pub item_in : In item set.members
  pub item_spells : spelled_member_at tables set.source item ≡ Some member

-- a member of a set is one that an item of the set's item spells
pub member_from_item : (raw : RawDefs) (tables : List TableAt) (def : SetDef) (member : Member) → In def (filter_map (spelled_set tables) raw.sets) → In member def.members → IsSpelled raw tables def member
member_from_item raw tables def member i j =
    let of = in_filter_map (spelled_set tables) raw.sets def i in
    let item = in_filter_map (spelled_member_at tables of.0.source) of.0.members member (subst (λ (d : SetDef). In member d.members) (set_spelled tables of.0 def of.2) j) in
    record {
      set = of.0;
      set_in = of.1;
      set_spells = of.2;
      item = item.0;
      item_in = item.1;
      item_spells = item.2;
    }
