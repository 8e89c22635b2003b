-- The entries of the lists named `columns` in a text of definitions: those of a table and those of a member.
use Rattle.std.specs.Prelude.{ℕ, ◌+◌, ◌-◌, Bool, true, false, ◌==◌, if◌then◌else◌, codes, List, length, take, drop, Option, Some, None}
use Rattle.std.specs.List.{position, prefix_len, suffix_len}
use Rattle.std.specs.Option.{option_map, option_and_then}
use Rattle.std.specs.Str.{bytes_eq}
use Rattle.repl_types.specs.declared.table.Kind.{Kind}
use Rattle.repl_types.specs.declared.table.Kind.TheVariants.{Int, Text}

-- the place of the first byte with this value
abbrev pub place_of : ℕ → List ℕ → Option ℕ
place_of byte entry = position (λ b. b == byte) entry

-- the bytes before the first byte with this value, if there is one
abbrev pub part_before : ℕ → List ℕ → Option (List ℕ)
part_before byte entry = option_map (λ place. take place entry) (place_of byte entry)

-- the bytes after it
abbrev pub part_after : ℕ → List ℕ → Option (List ℕ)
part_after byte entry = option_map (λ place. drop (place + 1) entry) (place_of byte entry)

-- a blank
abbrev pub is_blank : ℕ → Bool
is_blank b = b == 32

-- bytes without the blanks at their start
abbrev pub without_first_blanks : List ℕ → List ℕ
without_first_blanks bytes = drop (prefix_len is_blank bytes) bytes

-- bytes without the blanks at their end
abbrev pub without_last_blanks : List ℕ → List ℕ
without_last_blanks bytes = take (length bytes - suffix_len is_blank bytes) bytes

-- bytes without the blanks at both ends
abbrev pub without_outer_blanks : List ℕ → List ℕ
without_outer_blanks bytes = without_last_blanks (without_first_blanks bytes)

-- the kind of a column and whether it may be NULL, by one of the four forms, to the byte
abbrev pub form_of : List ℕ → Option (Kind × Bool)
form_of form =
    if bytes_eq form (codes "int") then Some (Int, false)
    else (if bytes_eq form (codes "text") then Some (Text, false)
    else (if bytes_eq form (codes "int null") then Some (Int, true)
    else (if bytes_eq form (codes "text null") then Some (Text, true) else None)))

-- the name in an entry `NAME FORM` of a table: the bytes before the first blank, if there is one
abbrev pub column_name : List ℕ → Option (List ℕ)
column_name entry = part_before 32 entry

-- the kind in such an entry, and whether the column may be NULL: by the bytes after the first blank
abbrev pub column_form : List ℕ → Option (Kind × Bool)
column_form entry = option_and_then form_of (part_after 32 entry)

-- the name in an entry `NAME = SOURCE` of a member: the bytes before the first `=`, if there is one, without
-- the blanks at both ends
abbrev pub target_name : List ℕ → Option (List ℕ)
target_name entry = option_map without_outer_blanks (part_before 61 entry)

-- the source in such an entry: the bytes after the first `=`, as they are
abbrev pub source_part : List ℕ → Option (List ℕ)
source_part entry = part_after 61 entry
