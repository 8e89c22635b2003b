-- What is left of an input while its lines are read.
use Rattle.std.specs.Prelude.{◌≡◌, ◌≢◌, ℕ, ◌+◌, ◌-◌, ◌<◌, ◌≤◌, List, [], ◌∷◌, ◌++◌, codes, length, take, drop, Bool, true, nat_lt, Option, Some, None, Result, Err}
use Rattle.std.specs.List.{AllByRecursion}
use Rattle.std.specs.Option.{option_map, IfSome}
use Rattle.std.specs.Str.Lines.{lines, strip_carriage_return}
use Rattle.keep_core.specs.Revealed.{Rises}
use Rattle.keep_core.specs.declared.streams.ReadError.{ReadError}
use Rattle.keep_core.specs.declared.streams.ReadError.TheVariants as reads
use Rattle.line_input.specs.declared.input.InputError.{InputError}
use Rattle.line_input.specs.declared.input.InputError.TheVariants as inputs
use Rattle.line_input.specs.declared.input.Input.{Input}
use Rattle.line_input.specs.declared.input.Next.{Next}
use Rattle.line_input.specs.declared.input.Next.TheVariants.{End, Line, LongLine}
use Rattle.line_input.specs.Limits.{line_limit, input_limit}

-- the bytes of the piece that weren't given yet
abbrev pub piece_left : Input → List ℕ
piece_left i = take (i.end - i.at) (drop i.at i.piece.items)

-- the bytes that are left: those of the piece, and then those that the source has left
abbrev pub left_of : Input → Option (List ℕ) → Option (List ℕ)
left_of i later = option_map (λ bytes. piece_left i ++ bytes) later

-- how many bytes the input has in all: those that were read, and those that the source has left
abbrev pub total_of : Input → Option (List ℕ) → Option ℕ
total_of i later = option_map (λ bytes. i.taken + length bytes) later

-- how many bytes may still be given
abbrev pub budget : Input → ℕ
budget i = (input_limit - i.taken) + (i.end - i.at)

-- a read has met the end of the input
abbrev pub has_ended : Input → Bool
has_ended i = i.met_end

-- if a read has met the end, the source has no bytes left, if it reveals them
abbrev pub NothingAfterEnd : Input → Option (List ℕ) → Type 0
NothingAfterEnd i later = has_ended i ≡ true → IfSome later (λ bytes. bytes ≡ [])

-- the most bytes that are kept of a line: two more than a line may have, so that a line of one byte over
-- the limit is kept whole and can be told from a longer one
abbrev pub kept_limit : ℕ
kept_limit = line_limit + 2

-- no byte is a line feed
abbrev pub IsPlain : List ℕ → Type 0
IsPlain bytes = AllByRecursion (λ b. b ≢ 10) bytes

-- what is kept of a line has no line feed, and it is within the limit, or of a line over the limit more than a line
-- may have, and no more than is kept; at the end of the input there is no line
abbrev pub IsLineText : Next → List ℕ → Type 0
IsLineText End line = Unit {0}
IsLineText Line line = IsPlain line × (length line ≤ line_limit)
IsLineText LongLine line = IsPlain line × (line_limit < length line) × (length line ≤ kept_limit)

-- this is the next line of these bytes, and these are the bytes after it; of a line over the limit the first
-- bytes are kept
abbrev pub NextLineIs : Next → List ℕ → List ℕ → List ℕ → Type 0
NextLineIs End line bytes rest = (bytes ≡ []) × (rest ≡ [])
NextLineIs Line line bytes rest = (lines bytes ≡ line ∷ lines rest) × (length line ≤ line_limit)
NextLineIs LongLine line bytes rest = (long : List ℕ) × (lines bytes ≡ long ∷ lines rest) × (line_limit < length long) × (line ≡ take kept_limit long)

-- this is the next line of the bytes that were left, and the bytes after it are left, if the source reveals them
abbrev pub ReadsLine : Next → List ℕ → Option (List ℕ) → Option (List ℕ) → Type 0
ReadsLine next line None now = now ≡ None
ReadsLine next line (Some bytes) None = ⊥
ReadsLine next line (Some bytes) (Some rest) = NextLineIs next line bytes rest

-- what reading a line spends: the input still has as many bytes in all, and a line takes at least one of
-- the bytes that may still be given
pub record Spends (next : Next) (old : Input) (before : Option (List ℕ)) (new : Input) (now : Option (List ℕ)) : Type 0 where
  pub total : total_of new now ≡ total_of old before
  pub budget : next ≢ End → budget new < budget old

-- the line ended at a line feed: it has at most as many bytes as stood before the feed, and these and the
-- feed were taken from the bytes left and from the budget
pub record MetFeed (before now : Option (List ℕ)) (most still : ℕ) (line : List ℕ) : Type 0 where
  pub bytes : List ℕ
  pub parts : before ≡ option_map (λ rest. (bytes ++ codes "\n") ++ rest) now
  pub spent : still + length bytes < most
  pub holds : length line ≤ length bytes

-- the count of faults never falls; the read fails only if the count rose; and it answers too long only if
-- the input has more bytes than an input may have, if its source reveals them
pub record InputHasCause {X : Type 0} (result : Result X InputError) (total : Option ℕ) (before now : ℕ) : Type 0 where
  pub later : before ≤ now
  pub failed : result ≡ Err inputs.Failed → Rises before now
  pub too_long : result ≡ Err inputs.TooLong → IfSome total (λ bytes. input_limit < bytes)

-- what is kept of the bytes of a line so far, and whether there are more
pub record IsKept (so_far line : List ℕ) (long : Bool) : Type 0 where
  pub prefix : line ≡ take kept_limit so_far
  pub more : long ≡ nat_lt kept_limit (length so_far)

-- how a line with these bytes ends at its line feed
abbrev pub EndsAs : Next → List ℕ → List ℕ → Type 0
EndsAs End line bytes = ⊥
EndsAs Line line bytes = (line ≡ strip_carriage_return bytes) × (length line ≤ line_limit)
EndsAs LongLine line bytes = (line_limit < length (strip_carriage_return bytes)) × (line ≡ take kept_limit (strip_carriage_return bytes))

-- how a line with these bytes ends at the end of the input
abbrev pub EndsInputAs : Next → List ℕ → List ℕ → Type 0
EndsInputAs End line bytes = bytes ≡ []
EndsInputAs Line line bytes = (line ≡ bytes) × (0 < length bytes) × (length line ≤ line_limit)
EndsInputAs LongLine line bytes = (line_limit < length bytes) × (line ≡ take kept_limit bytes)

-- the input's error for an error of the source
abbrev pub input_error_of : ReadError → InputError
input_error_of reads.Memory = inputs.Memory
input_error_of reads.Failed = inputs.Failed
