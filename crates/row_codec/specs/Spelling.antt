-- The spellings of numbers, flags, names, values, rows, keys, places in a log and operations.
use Rattle.std.specs.Prelude.{ℕ, ℤ, pos, negsuc, Bool, true, false, ◌+◌, ◌-◌, ◌<◌, ◌^◌, ◌==◌, if◌then◌else◌, IsTrue, IfSome, List, [], ◌∷◌, ◌++◌, length, Option, Some, None}
use Rattle.std.specs.List.{flat_map, AllByRecursion}
use Rattle.std.specs.Int.{w16, w32, w64, to_be_bytes}
use Rattle.repl_types.specs.Name.{is_name}
use Rattle.repl_types.specs.ValueText.{IsValue}
use Rattle.repl_types.specs.declared.change_row.Op.{Op}
use Rattle.repl_types.specs.declared.change_row.Op.TheVariants.{I, U, D}
use Rattle.repl_types.specs.declared.record.SetId.{SetId}
use Rattle.repl_types.specs.declared.sequence.Sequence.{Sequence}
use Rattle.repl_types.specs.declared.value.Value.{Value}
use Rattle.repl_types.specs.declared.value.Value.TheVariants.{Null, Int, Text}

-- nothing is asked of a value
abbrev pub Any : {X : Type 0} → X → Type 0
Any x = Unit {0}

-- ---- numbers and flags

-- a number in one byte
abbrev pub b8 : ℕ → List ℕ
b8 n = n ∷ []

-- a number in two bytes, the higher first
unfoldable pub b16 : ℕ → List ℕ
b16 n = to_be_bytes w16 n

-- a number in four bytes, the highest first
unfoldable pub b32 : ℕ → List ℕ
b32 n = to_be_bytes w32 n

-- a number in eight bytes, the highest first
unfoldable pub b64 : ℕ → List ℕ
b64 n = to_be_bytes w64 n

-- the numbers of one byte
abbrev pub Is8 : ℕ → Type 0
Is8 n = n < 2 ^ 8

-- the numbers of two bytes
abbrev pub Is16 : ℕ → Type 0
Is16 n = n < 2 ^ 16

-- the numbers of four bytes
abbrev pub Is32 : ℕ → Type 0
Is32 n = n < 2 ^ 32

-- the numbers of eight bytes
abbrev pub Is64 : ℕ → Type 0
Is64 n = n < 2 ^ 64

-- 0x00 for no, 0x01 for yes
abbrev pub flag : Bool → List ℕ
flag false = 0x00 ∷ []
flag true = 0x01 ∷ []

-- ---- names

-- a name: 1 to 32 letters, digits and _, the first a letter
abbrev pub IsName : List ℕ → Type 0
IsName name = IsTrue (is_name name)

-- the length in a byte, and the bytes
abbrev pub short_text : List ℕ → List ℕ
short_text text = length text ∷ text

-- a set's name: its qualifier and its name
abbrev pub set_spelling : SetId → List ℕ
set_spelling set = short_text set.qual ++ short_text set.name

-- a set of two names
abbrev pub IsSet : SetId → Type 0
IsSet set = IsName set.qual × IsName set.name

-- 0x00 for nothing, or 0x01 and the value
abbrev pub option_spelling : {X : Type 0} → (X → List ℕ) → Option X → List ℕ
option_spelling spelling None = 0x00 ∷ []
option_spelling spelling (Some x) = 0x01 ∷ spelling x

-- nothing, or a value that meets what is asked of it
abbrev pub OptionFits : {X : Type 0} → (X → Type 0) → Option X → Type 0
OptionFits fits x = IfSome x fits

-- the set that made a unit: 0x00 for none, or 0x01 and the set's name
abbrev pub origin : Option SetId → List ℕ
origin = option_spelling set_spelling

-- no set, or a set of two names
abbrev pub IsOrigin : Option SetId → Type 0
IsOrigin = OptionFits IsSet

-- ---- values

-- a byte of a text: 0x00 is followed by 0xff
abbrev pub marked_byte : ℕ → List ℕ
marked_byte b = if b == 0x00 then 0x00 ∷ 0xff ∷ [] else b ∷ []

-- the bytes of a text, marked so that two zeros can end it
abbrev pub zeros_marked : List ℕ → List ℕ
zeros_marked [] = []
zeros_marked (b ∷ bs) = marked_byte b ++ zeros_marked bs

-- an integer plus 2 ^ 63
abbrev pub shifted : ℤ → ℕ
shifted (pos n) = n + 2 ^ 63
shifted (negsuc n) = 2 ^ 63 - 1 - n

-- 0x00 for NULL; 0x01 and eight bytes for an integer; 0x02, the marked bytes and two zeros for a text
abbrev pub value_spelling : Value → List ℕ
value_spelling Null = 0x00 ∷ []
value_spelling (Int n) = 0x01 ∷ b64 (shifted n)
value_spelling (Text t) = 0x02 ∷ zeros_marked t ++ 0x00 ∷ 0x00 ∷ []

-- the texts of values: at most 1,000 bytes of UTF-8
abbrev pub IsText : List ℕ → Type 0
IsText text = IsValue (Text text)

-- ---- lists, rows and keys

-- two bytes of count, and the elements
abbrev pub list_spelling : {X : Type 0} → (X → List ℕ) → List X → List ℕ
list_spelling spelling xs = b16 (length xs) ++ flat_map spelling xs

-- the lists whose count has two bytes
abbrev pub IsCounted : {X : Type 0} → List X → Type 0
IsCounted xs = length xs < 2 ^ 16

-- the lists whose count has two bytes, and whose elements meet what is asked of them
abbrev pub ListFits : {X : Type 0} → (X → Type 0) → List X → Type 0
ListFits fits xs = IsCounted xs × AllByRecursion fits xs

-- a row: two bytes of count, and its values
abbrev pub row_spelling : List Value → List ℕ
row_spelling = list_spelling value_spelling

-- the rows of values, whose count has two bytes
abbrev pub IsRow : List Value → Type 0
IsRow = ListFits IsValue

-- the values of a key, without a count
abbrev pub key_spelling : List Value → List ℕ
key_spelling = flat_map value_spelling

-- the keys of values
abbrev pub IsKey : List Value → Type 0
IsKey = AllByRecursion IsValue

-- ---- places in a log, and operations

-- a place in a log: its position and its sub-number
abbrev pub sequence_spelling : Sequence → List ℕ
sequence_spelling s = b64 s.position ++ b16 s.sub

-- the places whose position has eight bytes and whose sub-number has two
abbrev pub IsSequence : Sequence → Type 0
IsSequence s = Is64 s.position × Is16 s.sub

-- an operation is its letter
abbrev pub op_spelling : Op → List ℕ
op_spelling I = 0x49 ∷ []
op_spelling U = 0x55 ∷ []
op_spelling D = 0x44 ∷ []
