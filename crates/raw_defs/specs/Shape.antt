-- Which documents have the shape of definitions. The entries of a TOML table are its `Members`, its keys with their values.
use Rattle.std.specs.Prelude.{◌||◌, ◌&&◌, ◌^◌, ℕ, ℤ, pos, Bool, true, false, not, List, [], ◌∷◌, codes, Option, Some, None, is_some, option_and_then, if◌then◌else◌, nat_lt}
use Rattle.std.specs.List.{list_all, list_any}
use Rattle.std.specs.Str.{bytes_eq}
use Rattle.toml.specs.Data.{Data, string, integer, boolean, array, table, Items, no_items, item, Members, no_members, member, get_member, as_str}
use Rattle.raw_defs.specs.declared.shape.ItemKind.{ItemKind}
use Rattle.raw_defs.specs.declared.shape.ItemKind.TheVariants as kind
use Rattle.raw_defs.specs.declared.shape.ValueShape.{ValueShape}
use Rattle.raw_defs.specs.declared.shape.ValueShape.TheVariants as shape

-- a key that an item may have: its name, the shape of its value, and whether the item needs it
pub record Key : Type 0 where
  pub name : List ℕ
  pub shape : ValueShape
  pub needed : Bool

-- a key that the item needs
abbrev pub needed : List ℕ → ValueShape → Key
needed name shape = record { name = name; shape = shape; needed = true }

-- a key that the item may leave out
abbrev pub optional : List ℕ → ValueShape → Key
optional name shape = record { name = name; shape = shape; needed = false }

-- the keys of the whole document
abbrev pub document_keys : List Key
document_keys =
    optional (codes "table") (shape.Items kind.Table)
    ∷ optional (codes "registration") (shape.Items kind.Registration)
    ∷ optional (codes "set") (shape.Items kind.Set)
    ∷ []

-- the keys of a table
abbrev pub table_keys : List Key
table_keys =
    needed (codes "server") shape.Text
    ∷ needed (codes "name") shape.Text
    ∷ needed (codes "columns") shape.Texts
    ∷ needed (codes "key") shape.Texts
    ∷ optional (codes "fixed") shape.Texts
    ∷ []

-- the keys of a registration
abbrev pub registration_keys : List Key
registration_keys =
    needed (codes "server") shape.Text
    ∷ needed (codes "table") shape.Text
    ∷ optional (codes "after") shape.Texts
    ∷ optional (codes "before") shape.Texts
    ∷ optional (codes "del_ins") shape.Flag
    ∷ optional (codes "changes_only") shape.Flag
    ∷ optional (codes "disable_refresh") shape.Flag
    ∷ []

-- the keys of a set
abbrev pub set_keys : List Key
set_keys =
    needed (codes "qual") shape.Text
    ∷ needed (codes "name") shape.Text
    ∷ needed (codes "source") shape.Text
    ∷ needed (codes "target") shape.Text
    ∷ optional (codes "commit_count") shape.Count
    ∷ optional (codes "max_minutes") shape.Count
    ∷ needed (codes "member") (shape.SomeItems kind.Member)
    ∷ []

-- the keys that each member may have, and whether it needs columns
abbrev pub member_keys : Bool → List Key
member_keys needs_columns =
    needed (codes "source") shape.Text
    ∷ needed (codes "target") shape.Text
    ∷ needed (codes "type") shape.MemberType
    ∷ record { name = codes "columns"; shape = shape.Texts; needed = needs_columns }
    ∷ optional (codes "where") shape.Text
    ∷ []

-- the keys of a member that is a change-data table
abbrev pub ccd_keys : List Key
ccd_keys =
    needed (codes "complete") shape.Flag
    ∷ needed (codes "condensed") shape.Flag
    ∷ member_keys true

-- the keys of an item of a kind
abbrev pub keys_of : ItemKind → List Key
keys_of kind.Document = document_keys
keys_of kind.Table = table_keys
keys_of kind.Registration = registration_keys
keys_of kind.Set = set_keys
keys_of kind.Member = member_keys true
keys_of kind.CcdMember = ccd_keys
keys_of kind.ReplicaMember = member_keys false

-- the shape that the value at a name must have: that of the key of this name, if there is one
abbrev pub shape_at : List Key → List ℕ → ValueShape
shape_at [] name = shape.Nothing
shape_at (key ∷ keys) name = if bytes_eq name key.name then key.shape else shape_at keys name

-- the entries have each key that is needed
abbrev pub has_needed : List Key → Members → Bool
has_needed keys ms = list_all (λ key. not key.needed || is_some (get_member key.name ms)) keys

-- the types of members
abbrev pub member_types : List (List ℕ)
member_types =
    codes "user_copy"
    ∷ codes "point_in_time"
    ∷ codes "base_aggregate"
    ∷ codes "change_aggregate"
    ∷ codes "ccd"
    ∷ codes "replica"
    ∷ []

-- the text is a type of members
abbrev pub is_member_type : List ℕ → Bool
is_member_type text = list_any (bytes_eq text) member_types

-- the kind of a member whose type is the text
abbrev pub kind_of_type : Option (List ℕ) → ItemKind
kind_of_type None = kind.Member
kind_of_type (Some text) = if bytes_eq text (codes "ccd") then kind.CcdMember
    else if bytes_eq text (codes "replica") then kind.ReplicaMember
    else kind.Member

-- the kind of an item with these entries: of a member, the kind that its type says
abbrev pub exact_kind : ItemKind → Members → ItemKind
exact_kind kind.Member ms = kind_of_type (option_and_then as_str (get_member (codes "type") ms))
exact_kind other ms = other

-- the number as a count, if it is one: from 0 to 4294967295
abbrev pub count_of : ℤ → Option ℕ
count_of (pos n) = if nat_lt n (2 ^ 32) then Some n else None
count_of _ = None

-- there is at least one item
abbrev pub has_some : Items → Bool
has_some no_items = false
has_some (item d ds) = true

abbrev mutual
  -- the value has the shape
  pub fits : ValueShape → Data → Bool
  fits shape.Text (string s) = true
  fits shape.MemberType (string s) = is_member_type s
  fits shape.Flag (boolean b) = true
  fits shape.Count (integer z) = is_some (count_of z)
  fits shape.Texts (array ds) = fits_each shape.Text ds
  fits (shape.Items kind) (array ds) = fits_each (shape.Item kind) ds
  fits (shape.SomeItems kind) (array ds) = has_some ds && fits_each (shape.Item kind) ds
  fits (shape.Item kind) (table ms) = has_needed (keys_of (exact_kind kind ms)) ms && fits_keys (keys_of (exact_kind kind ms)) ms
  fits _ _ = false

  -- each of the items has the shape
  pub fits_each : ValueShape → Items → Bool
  fits_each shape no_items = true
  fits_each shape (item d ds) = fits shape d && fits_each shape ds

  -- each of the entries has one of the keys, and a value of the key's shape
  pub fits_keys : List Key → Members → Bool
  fits_keys keys no_members = true
  fits_keys keys (member name d ms) = fits (shape_at keys name) d && fits_keys keys ms

-- the entries are those of an item of the kind: each key that it needs is there, each key that is there is one of its keys,
-- and each value has its key's shape
abbrev pub fits_item : ItemKind → Members → Bool
fits_item kind ms = fits (shape.Item kind) (table ms)
