-- What one keeper gives as records, and why a call of it failed.
use Rattle.std.specs.Prelude.{◌≡◌, ◌⊎◌, ℕ, ◌≤◌, List, [], Option, Some, None, IfSome}
use Rattle.std.specs.Option.{option_map}
use Rattle.std.specs.declared.cmp.Ordering.TheVariants.{Less}
use Rattle.repl_types.specs.Bytes.{bytes_cmp}
use Rattle.repl_types.specs.Sizes.{IsKeySize, IsValueSize}
use Rattle.repl_types.specs.declared.area.Area.{Area}
use Rattle.repl_types.specs.declared.status.DamageCause.{DamageCause}
use Rattle.repl_types.specs.declared.status.DamageCause.TheVariants as causes
use Rattle.repl_types.specs.declared.fault.Fault.{Fault}
use Rattle.repl_types.specs.declared.fault.Fault.TheVariants as faults
use Rattle.keep_core.specs.Contents.{Contents, IsNextKey, IsLastKey}
use Rattle.keep_core.specs.Kept.{Kept, seen}
use Rattle.keep_core.specs.Revealed.{Rises}
use Rattle.keep_core.specs.declared.keeper.KeepError.{KeepError}
use Rattle.keep_core.specs.declared.keeper.KeepError.TheVariants as keep
use Rattle.row_codec.specs.Takes.{NoSpelling}

-- ---- what a read gives

-- the contents have this record at the key, or none
abbrev pub RowIs : {X : Type 0} → (X → List ℕ) → Area → ℕ → List ℕ → Option X → Contents → Type 0
RowIs spelling a t key row c = c a t key ≡ option_map spelling row

-- a record of the kind, whose spelling has the size of a value
pub record IsRecord {X : Type 0} (row_fits : X → Type 0) (spelling : X → List ℕ) (row : X) : Type 0 where
  pub fits : row_fits row
  pub size : IsValueSize (spelling row)

-- the bytes, or if there are none those of a first state
abbrev pub or_first : {X : Type 0} → (X → List ℕ) → X → Option (List ℕ) → List ℕ
or_first spelling first None = spelling first
or_first spelling first (Some bytes) = bytes

-- the record is what the contents have at the key, and if they have nothing it is the first state
abbrev pub StateIs : {X : Type 0} → (X → List ℕ) → Area → ℕ → List ℕ → X → X → Contents → Type 0
StateIs spelling a t key first state c = spelling state ≡ or_first spelling first (c a t key)

-- where the search for the next key begins: no key is empty
abbrev pub after_key : {Y : Type 0} → (Y → List ℕ) → Option Y → List ℕ
after_key spelling None = []
after_key spelling (Some key) = spelling key

-- this is the next record in key order, or there is none
abbrev pub NextRowIs : {Y X : Type 0} → (Y → List ℕ) → (X → List ℕ) → Area → ℕ → List ℕ → Option (Y × X) → Contents → Type 0
NextRowIs key_spelling spelling a t after None c = IsLastKey (c a t) after
NextRowIs key_spelling spelling a t after (Some entry) c = IsNextKey (c a t) after (key_spelling entry.0) (spelling entry.1)

-- a key that is above, with its record, both of the sizes that are stored
pub record Follows {Y X : Type 0} (key_fits : Y → Type 0) (key_spelling : Y → List ℕ) (row_fits : X → Type 0) (spelling : X → List ℕ) (after : List ℕ) (entry : Y × X) : Type 0 where
  pub above : bytes_cmp after (key_spelling entry.0) ≡ Less
  pub fits : key_fits entry.0
  pub size : IsKeySize (key_spelling entry.0)
  pub row : IsRecord row_fits spelling entry.1

-- ---- damage

-- nothing shows damage
abbrev pub NoDamage : Area → DamageCause → Type 0
NoDamage a cause = ⊥

-- bytes of this area show damage
abbrev pub Misread : Area → (List ℕ → Type 0) → Area → DamageCause → Type 0
Misread a damaged b (causes.Spelling bytes) = (b ≡ a) × damaged bytes
Misread a damaged b (causes.Absent bytes) = ⊥
Misread a damaged b (causes.Unfit bytes) = ⊥
Misread a damaged b (causes.NoRest steps) = ⊥

-- bytes of this area show damage, or a key of it is missing
abbrev pub MissesOrMisreads : Area → (List ℕ → Type 0) → (List ℕ → Type 0) → Area → DamageCause → Type 0
MissesOrMisreads a missing damaged b (causes.Spelling bytes) = (b ≡ a) × damaged bytes
MissesOrMisreads a missing damaged b (causes.Absent bytes) = (b ≡ a) × missing bytes
MissesOrMisreads a missing damaged b (causes.Unfit bytes) = ⊥
MissesOrMisreads a missing damaged b (causes.NoRest steps) = ⊥

-- bytes are this key, at which nothing stands in what was seen
abbrev pub IsMissing : Area → ℕ → List ℕ → Option Contents → List ℕ → Type 0
IsMissing a t key saw bytes = (bytes ≡ key) × IfSome saw (λ c. c a t key ≡ None)

-- bytes are no record's, and stand at the key of what was seen
abbrev pub Misspelt : {X : Type 0} → (X → Type 0) → (X → List ℕ) → Area → ℕ → List ℕ → Option Contents → List ℕ → Type 0
Misspelt fits spelling a t key saw bytes = NoSpelling fits spelling bytes × IfSome saw (λ c. c a t key ≡ Some bytes)

-- bytes are no key's, and are the next key of what was seen; or they are no record's, and are its value
abbrev pub MisspeltNext : {Y X : Type 0} → (Y → Type 0) → (Y → List ℕ) → (X → Type 0) → (X → List ℕ) → Area → ℕ → List ℕ → Option Contents → List ℕ → Type 0
MisspeltNext key_fits key_spelling fits spelling a t after saw bytes =
    (NoSpelling key_fits key_spelling bytes × IfSome saw (λ c. (value : List ℕ) × IsNextKey (c a t) after bytes value))
    ⊎ (NoSpelling fits spelling bytes × IfSome saw (λ c. (key : List ℕ) × IsNextKey (c a t) after key bytes))

-- ---- why a call of one keeper failed

-- Who is to blame: nobody if memory ran out; the server, if its keeper's count of faults rose; or what
-- was read of an area, if that shows damage. No call of a keeper refuses.
abbrev pub BlamesOne : ℕ → Kept → Kept → (Area → DamageCause → Type 0) → Fault → Type 0
BlamesOne server old new damage faults.Memory = Unit {0}
BlamesOne server old new damage (faults.Keeper s) = (s ≡ server) × Rises old.faults new.faults
BlamesOne server old new damage (faults.Damaged s a cause) = (s ≡ server) × Rises (old.reads a) (new.reads a) × damage a cause
BlamesOne server old new damage (faults.Refused refusal) = ⊥

-- A call failed. What is held stays, and reads and writes are as before, or as a whole call leaves them.
pub record Halts (server : ℕ) (old whole new : Kept) (damage : Area → DamageCause → Type 0) (e : Fault) : Type 0 where
  pub held : new.held ≡ old.held
  pub reads : (new.reads ≡ old.reads) ⊎ (new.reads ≡ whole.reads)
  pub writes : (new.writes ≡ old.writes) ⊎ (new.writes ≡ whole.writes)
  pub later : old.faults ≤ new.faults
  pub blames : BlamesOne server old new damage e

-- A commit failed: what is held stays, or at a fault of the keeper is what the transaction saw.
pub record MayHalt (server : ℕ) (old new : Kept) (e : Fault) : Type 0 where
  pub held : (new.held ≡ old.held) ⊎ ((e ≡ faults.Keeper server) × (new.held ≡ seen old))
  pub reads : new.reads ≡ old.reads
  pub writes : new.writes ≡ old.writes
  pub later : old.faults ≤ new.faults
  pub blames : BlamesOne server old new NoDamage e

-- the fault that a keeper's error is
abbrev pub fault_from : ℕ → KeepError → Fault
fault_from server keep.Memory = faults.Memory
fault_from server keep.Failed = faults.Keeper server
