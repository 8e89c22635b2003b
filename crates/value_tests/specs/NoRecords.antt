-- Bytes that are no record, worked out by hand.
use Rattle.std.specs.Prelude.{◌≢◌, ℕ, ◌≤◌, Bool, true, false, codes, List, [], ◌∷◌, ◌++◌, length, drop, slice_index, Option, Some, None}
use Rattle.std.proofs.Common.{refl, sym, ap, ◌∙◌, arith, append_assoc, append-nil}
use Rattle.repl_records.specs.Capture.{change_row_spelling, IsChangeRow, uow_spelling, IsUow}
use Rattle.repl_records.specs.Capture.{registration_state_spelling, IsRegistrationState}
use Rattle.repl_records.specs.Prune.{rejected_spelling, IsRejected}
use Rattle.repl_records.specs.SetState.{state_spelling, IsState, last_number_spelling, IsLastNumber}
use Rattle.repl_records.specs.SourceSide.{in_flight_spelling}
use Rattle.repl_records.specs.Trail.{base_spelling, entry_spelling, IsEntry}
use Rattle.repl_records.specs.declared.set_state.SetState.TheVariants.{ReadOnly, Replica}
use Rattle.repl_records.specs.declared.trail.TrailEntry.TheVariants.{Refresh, Block, Load, Settle}
use Rattle.repl_records.specs.laws.SetState.{one_last_number, no_other_state}
use Rattle.repl_records.specs.laws.Trail.{only_refresh}
use Rattle.repl_types.specs.declared.change_row.Op.{Op}
use Rattle.repl_types.specs.declared.change_row.Op.TheVariants.{I, U, D}
use Rattle.row_codec.specs.Spelling.{Any, b8, b64, flag, origin, op_spelling}
use Rattle.row_codec.specs.Takes.{NoPrefix, NoSpelling}
use Rattle.row_codec.specs.laws.Names.{one_name, one_origin}
use Rattle.row_codec.specs.laws.Numbers.{first_is}
use Rattle.row_codec.specs.laws.Tags.{other_tag}
use Rattle.value_tests.specs.Spelled.{torn}

-- a flag is neither no nor yes
no_flag : (b : Bool) (bytes next rest : List ℕ) → 2 ∷ bytes ≢ flag b ++ next ++ rest
no_flag false bytes next rest e = other_tag _ _ _ _ e refl
no_flag true bytes next rest e = other_tag _ _ _ _ e refl

-- there is no such letter of an operation
no_letter : (op : Op) (bytes next rest : List ℕ) → 0x58 ∷ bytes ≢ op_spelling op ++ next ++ rest
no_letter I bytes next rest e = other_tag _ _ _ _ e refl
no_letter U bytes next rest e = other_tag _ _ _ _ e refl
no_letter D bytes next rest e = other_tag _ _ _ _ e refl

-- no unit has a code above 4
no_unit : (code : ℕ) → 5 ≤ code → NoSpelling IsUow uow_spelling (b64 100 ++ 1 ∷ 0x61 ∷ 0 ∷ code ∷ [])
unfolding b64
no_unit code large r fit e =
    let in_order = ap (λ (rest : List ℕ). length r.authid ∷ rest) (append_assoc r.authid (origin r.origin) (b8 r.code)) in
    let name = ap (drop 8) e ∙ in_order in
    let after_name = (one_name (codes "a") r.authid (0 ∷ code ∷ []) (origin r.origin ++ b8 r.code) refl fit.1 name).1 in
    let after_origin = (one_origin None r.origin (code ∷ []) (b8 r.code) tt fit.2 after_name).1 in
    omega (arith, large, fit.3, first_is _ _ _ _ after_origin)

-- bytes that begin with no spelling are none
whole : {X : Type 0} (fits : X → Type 0) (spelling : X → List ℕ) (bytes : List ℕ) → NoPrefix fits spelling bytes → NoSpelling fits spelling bytes
whole fits spelling bytes none x fit e = none x [] fit (e ∙ sym (append-nil (spelling x)))

-- a point of base aggregates that is absent is 0
no_base : (base : Option ℕ) (rest : List ℕ) → 0 ∷ b64 1 ≢ base_spelling base ++ rest
unfolding b64
no_base None rest e = let last = ap (λ (bytes : List ℕ). slice_index bytes 8) e in absurd cc
no_base (Some q) rest e = absurd (other_tag _ _ _ _ e refl)

-- no state has another tag
no_state : (bytes : List ℕ) → NoSpelling IsState state_spelling (3 ∷ bytes)
no_state bytes (ReadOnly has_points synchpoint time base refresh entries) fit e = other_tag _ _ _ _ e refl
no_state bytes (Replica has_points m f signal entries) fit e = other_tag _ _ _ _ e refl

-- no entry has another tag
no_entry : (bytes : List ℕ) → NoSpelling IsEntry entry_spelling (5 ∷ bytes)
no_entry bytes (Refresh p rows base) fit e = other_tag _ _ _ _ e refl
no_entry bytes (Block from to inserts updates deletes base) fit e = other_tag _ _ _ _ e refl
no_entry bytes (Load m f rows) fit e = other_tag _ _ _ _ e refl
no_entry bytes (Settle m f rejected applied) fit e = other_tag _ _ _ _ e refl

pub bytes_that_are_no_record :
    -- a change in flight that isn't 0; a number that is cut short, and one with a byte more
    NoSpelling Any in_flight_spelling (1 ∷ [])
    × NoSpelling IsLastNumber last_number_spelling (0 ∷ 0 ∷ 0 ∷ 0 ∷ 0 ∷ 0 ∷ 10 ∷ [])
    × NoSpelling IsLastNumber last_number_spelling (0 ∷ 0 ∷ 0 ∷ 0 ∷ 0 ∷ 0 ∷ 0 ∷ 10 ∷ 0 ∷ [])
    -- a flag that is neither no nor yes
    × NoSpelling IsRegistrationState registration_state_spelling (
    2 ∷ 0 ∷ 0 ∷ 0 ∷ 0 ∷ 0 ∷ 0 ∷ 0 ∷ 5 ∷ 0 ∷ 0 ∷ 0 ∷ 0 ∷ 0 ∷ 0 ∷ 0 ∷ 4 ∷ [])
    -- a code above 4, and a rejected unit that isn't rejected
    × NoSpelling IsUow uow_spelling (0 ∷ 0 ∷ 0 ∷ 0 ∷ 0 ∷ 0 ∷ 0 ∷ 100 ∷ 1 ∷ codes "a" ++ 0 ∷ 5 ∷ [])
    × NoSpelling IsRejected rejected_spelling (5 ∷ [])
    × NoSpelling IsRejected rejected_spelling (0 ∷ [])
    -- no letter of an operation
    × NoSpelling IsChangeRow change_row_spelling (codes "X" ++ 0 ∷ 0 ∷ 0 ∷ 0 ∷ [])
    -- absent points that aren't 0
    × NoSpelling IsState state_spelling (
    2 ∷ 0 ∷ 0 ∷ 0 ∷ 0 ∷ 0 ∷ 0 ∷ 0 ∷ 0 ∷ 0 ∷ 0 ∷ 0 ∷ 0 ∷ 0 ∷ 0 ∷ 0 ∷ 0 ∷ 1 ∷ 0 ∷ 0 ∷ 0 ∷ 0 ∷ 0 ∷ 0 ∷ 0 ∷ 9 ∷ 0 ∷ 0 ∷ 0 ∷ 0 ∷ 0
    ∷ 0 ∷ 0 ∷ 2 ∷ [])
    × NoSpelling IsEntry entry_spelling (
    1 ∷ 0 ∷ 0 ∷ 0 ∷ 0 ∷ 0 ∷ 0 ∷ 0 ∷ 8 ∷ 0 ∷ 0 ∷ 0 ∷ 0 ∷ 0 ∷ 0 ∷ 0 ∷ 3 ∷ 0 ∷ 0 ∷ 0 ∷ 0 ∷ 0 ∷ 0 ∷ 0 ∷ 0 ∷ 1 ∷ [])
    -- no tag of a state, and none of an entry
    × NoSpelling IsState state_spelling (
    3 ∷ 0 ∷ 0 ∷ 0 ∷ 0 ∷ 0 ∷ 0 ∷ 0 ∷ 0 ∷ 0 ∷ 0 ∷ 0 ∷ 0 ∷ 0 ∷ 0 ∷ 0 ∷ 0 ∷ 0 ∷ 0 ∷ 0 ∷ 0 ∷ 0 ∷ 0 ∷ 0 ∷ 0 ∷ 9 ∷ 0 ∷ 0 ∷ 0 ∷ 0 ∷ 0
    ∷ 0 ∷ 0 ∷ 2 ∷ [])
    × NoSpelling IsEntry entry_spelling (
    5 ∷ 0 ∷ 0 ∷ 0 ∷ 0 ∷ 0 ∷ 0 ∷ 0 ∷ 1 ∷ 0 ∷ 0 ∷ 0 ∷ 0 ∷ 0 ∷ 0 ∷ 0 ∷ 2 ∷ 0 ∷ 0 ∷ 0 ∷ 0 ∷ 0 ∷ 0 ∷ 0 ∷ 3 ∷ [])
unfolding b64
bytes_that_are_no_record = (
  λ r fit e. other_tag _ _ _ _ e refl,
  torn _ _ one_last_number _ (0 ∷ []) [] (record { number = 2560 }) (search arith) refl refl,
  torn _ _ one_last_number _ [] (0 ∷ []) (record { number = 10 }) (search arith) refl refl,
  λ r fit e. no_flag r.active _ _ _ e,
  no_unit 5 (omega arith),
  λ r fit e. omega (arith, fit.1, first_is _ _ _ _ e),
  λ r fit e. omega (arith, fit.0, first_is _ _ _ _ e),
  λ r fit e. no_letter r.op _ _ _ e,
  whole _ _ _ (no_other_state (Replica false 0 1 9 2) [] (search arith) (λ zero. omega (arith, (zero refl).1))),
  whole _ _ _ (only_refresh _ (λ p rows base rest fit e. no_base base rest (ap (drop 16) e))),
  no_state _,
  no_entry _,
)
