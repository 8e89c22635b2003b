-- The definitions that a document states. The entries of a TOML table are its `Members`, its keys with their values.
use Rattle.std.specs.Prelude.{◌≡◌, ℕ, Bool, List, [], ◌∷◌, map, codes, Option, Some, None, option_map, option_and_then, unwrap_or, IsTrue, IsUtf8}
use Rattle.toml.specs.Data.{Items, no_items, item, Members, get_member, as_str, as_integer, as_bool, as_array, as_table}
use Rattle.toml.specs.Parse.{parse_document}
use Rattle.repl_commands.specs.declared.written.RawDefs.{RawDefs}
use Rattle.repl_commands.specs.declared.written.RawTable.{RawTable}
use Rattle.repl_commands.specs.declared.written.RawRegistration.{RawRegistration}
use Rattle.repl_commands.specs.declared.written.RawSet.{RawSet}
use Rattle.repl_commands.specs.declared.written.RawMember.{RawMember}
use Rattle.raw_defs.specs.declared.shape.ItemKind.TheVariants as kind
use Rattle.raw_defs.specs.Shape.{count_of, fits_item}

-- one more value before the others, if there is one
abbrev pub with_first : {A : Type 0} → Option A → List A → List A
with_first None rest = rest
with_first (Some first) rest = first ∷ rest

-- the texts among the items, in order
abbrev pub texts_of : Items → List (List ℕ)
texts_of no_items = []
texts_of (item d ds) = with_first (as_str d) (texts_of ds)

-- the entries of each table among the items, in order
abbrev pub tables_of : Items → List Members
tables_of no_items = []
tables_of (item d ds) = with_first (as_table d) (tables_of ds)

-- the items at a key, none if there is no array
abbrev pub items_at : List ℕ → Members → Items
items_at key ms = unwrap_or (option_and_then as_array (get_member key ms)) no_items

-- the text at a key, if there is one
abbrev pub text_at : List ℕ → Members → Option (List ℕ)
text_at key ms = option_and_then as_str (get_member key ms)

-- the texts at a key, if there is an array
abbrev pub texts_at : List ℕ → Members → Option (List (List ℕ))
texts_at key ms = option_map texts_of (option_and_then as_array (get_member key ms))

-- the flag at a key, if there is one
abbrev pub flag_at : List ℕ → Members → Option Bool
flag_at key ms = option_and_then as_bool (get_member key ms)

-- the count at a key, if there is one
abbrev pub count_at : List ℕ → Members → Option ℕ
count_at key ms = option_and_then count_of (option_and_then as_integer (get_member key ms))

-- the table that the entries state
abbrev pub raw_table_of : Members → RawTable
raw_table_of ms = record {
  server = unwrap_or (text_at (codes "server") ms) [];
  name = unwrap_or (text_at (codes "name") ms) [];
  columns = unwrap_or (texts_at (codes "columns") ms) [];
  key = unwrap_or (texts_at (codes "key") ms) [];
  fixed = texts_at (codes "fixed") ms;
}

-- the registration that the entries state
abbrev pub raw_registration_of : Members → RawRegistration
raw_registration_of ms = record {
  server = unwrap_or (text_at (codes "server") ms) [];
  table = unwrap_or (text_at (codes "table") ms) [];
  after = texts_at (codes "after") ms;
  before = texts_at (codes "before") ms;
  del_ins = flag_at (codes "del_ins") ms;
  changes_only = flag_at (codes "changes_only") ms;
  disable_refresh = flag_at (codes "disable_refresh") ms;
}

-- the member of a set that the entries state
abbrev pub raw_member_of : Members → RawMember
raw_member_of ms = record {
  source = unwrap_or (text_at (codes "source") ms) [];
  target = unwrap_or (text_at (codes "target") ms) [];
  kind = unwrap_or (text_at (codes "type") ms) [];
  complete = flag_at (codes "complete") ms;
  condensed = flag_at (codes "condensed") ms;
  columns = texts_at (codes "columns") ms;
  filter = text_at (codes "where") ms;
}

-- the set that the entries state
abbrev pub raw_set_of : Members → RawSet
raw_set_of ms = record {
  qual = unwrap_or (text_at (codes "qual") ms) [];
  name = unwrap_or (text_at (codes "name") ms) [];
  source = unwrap_or (text_at (codes "source") ms) [];
  target = unwrap_or (text_at (codes "target") ms) [];
  commit_count = count_at (codes "commit_count") ms;
  max_minutes = count_at (codes "max_minutes") ms;
  members = map raw_member_of (tables_of (items_at (codes "member") ms));
}

-- the definitions that the entries of a document state, in the order of their arrays
abbrev pub raw_defs_of : Members → RawDefs
raw_defs_of ms = record {
  tables = map raw_table_of (tables_of (items_at (codes "table") ms));
  registrations = map raw_registration_of (tables_of (items_at (codes "registration") ms));
  sets = map raw_set_of (tables_of (items_at (codes "set") ms));
}

-- the bytes are a text of definitions, and these are what it states
pub record AreRawDefs (bytes : List ℕ) (raw : RawDefs) : Type 0 where
  pub utf8 : IsUtf8 bytes
  pub document : Members
  pub parsed : parse_document bytes ≡ Some document
  pub fits : IsTrue (fits_item kind.Document document)
  pub are : raw ≡ raw_defs_of document
