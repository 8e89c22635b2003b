-- What a clause sees of a keeper, and what each call leaves.
use Rattle.std.specs.Prelude.{◌≡◌, ◌⊎◌, ℕ, ◌+◌, ◌≤◌, Bool, true, false, List, [], Option, Some, None, IsSome, is_some, if◌then◌else◌, min}
use Rattle.std.specs.declared.cmp.Ordering.TheVariants.{Less}
use Rattle.std.specs.Option.{option_map}
use Rattle.repl_types.specs.Bytes.{bytes_cmp}
use Rattle.repl_types.specs.Sizes.{IsKeySize, IsValueSize}
use Rattle.repl_types.specs.declared.area.Area.{Area}
use Rattle.keep_core.specs.declared.keeper.KeepError.{KeepError}
use Rattle.keep_core.specs.declared.keeper.KeepError.TheVariants.{Failed}
use Rattle.keep_core.specs.Contents.{Contents, put_at, IsNextKey, IsLastKey}
use Rattle.repl_types.specs.Area.{same_area}
use Rattle.keep_core.specs.Revealed.{Rises, count_max}

-- all that a clause sees of a keeper
pub record Kept : Type 0 where
  -- what is committed, if the keeper reveals it
  pub held : Option Contents
  -- None if no transaction is open, else what it sees, if the keeper reveals it
  pub open_work : Option (Option Contents)
  -- how often a call has failed
  pub faults : ℕ
  -- how often each area was read
  pub reads : Area → ℕ
  -- how often each area was written
  pub writes : Area → ℕ

-- a transaction is open
abbrev pub IsOpen : Kept → Type 0
IsOpen k = IsSome k.open_work

-- no transaction is open
abbrev pub IsClosed : Kept → Type 0
IsClosed k = k.open_work ≡ None

-- what a read sees, by what is held and what the open transaction sees
abbrev pub seen_of : Option Contents → Option (Option Contents) → Option Contents
seen_of held None = held
seen_of held (Some work) = work

-- what a read of this keeper sees, if the keeper reveals it
abbrev pub seen : Kept → Option Contents
seen k = seen_of k.held k.open_work

-- ---- what a call that succeeds leaves

-- the counts, with one more at one area; a count saturates at its maximum
abbrev pub counted : (Area → ℕ) → Area → Area → ℕ
counted counts a b = if same_area a b then min (counts b + 1) count_max else counts b

-- a transaction is open and sees what is held
abbrev pub opened : Kept → Kept
opened k = record k { open_work = Some k.held }

-- no transaction is open, and this is the count of faults
abbrev pub closed_with : Kept → ℕ → Kept
closed_with k faults = record k { open_work = None; faults = faults }

-- no transaction is open, and the keeper holds what it saw
abbrev pub committed : Kept → Kept
committed k = record k { held = seen k; open_work = None }

-- one area was read once more
abbrev pub after_read : Kept → Area → Kept
after_read k a = record k { reads = counted k.reads a }

-- one area was written once more, though nothing may have changed
abbrev pub after_write : Kept → Area → Kept
after_write k a = record k { writes = counted k.writes a }

-- one area was written once more, and the open transaction sees this value at one key, or none
abbrev pub changed : Kept → Area → ℕ → List ℕ → Option (List ℕ) → Kept
changed k a t key v = record (after_write k a) { open_work = option_map (option_map (λ c. put_at c a t key v)) k.open_work }

-- the open transaction sees this value at one key
abbrev pub after_put : Kept → Area → ℕ → List ℕ → List ℕ → Kept
after_put k a t key value = changed k a t key (Some value)

-- the open transaction sees no value at one key
abbrev pub after_remove : Kept → Area → ℕ → List ℕ → Kept
after_remove k a t key = changed k a t key None

-- ---- what a call that fails leaves

-- the count of faults never falls, and the error is `Failed` only if it rose
pub record HasCause (before now : ℕ) (e : KeepError) : Type 0 where
  pub later : before ≤ now
  pub failed : e ≡ Failed → Rises before now

-- a call failed: no transaction is open, and the keeper holds what it held before
pub record CallFails (old new : Kept) (e : KeepError) : Type 0 where
  pub now : new ≡ closed_with old new.faults
  pub cause : HasCause old.faults new.faults e

-- a commit failed: no transaction is open, and only if the error is `Failed` may it have taken place
pub record CommitFails (old new : Kept) (e : KeepError) : Type 0 where
  pub now : (new ≡ closed_with old new.faults) ⊎ ((e ≡ Failed) × (new ≡ closed_with (committed old) new.faults))
  pub cause : HasCause old.faults new.faults e

-- a rollback: no transaction is open, and the keeper holds what it held before
pub record Closes (old new : Kept) : Type 0 where
  pub now : new ≡ closed_with old new.faults
  pub later : old.faults ≤ new.faults

-- ---- what a read gives

-- a read of the contents at the key found this value, or none
abbrev pub Found : Area → ℕ → List ℕ → Bool → List ℕ → Contents → Type 0
Found a t key found out c = c a t key ≡ (if found then Some out else None)

-- this is whether the contents have a value at the key
abbrev pub WasThere : Area → ℕ → List ℕ → Bool → Contents → Type 0
WasThere a t key found c = is_some (c a t key) ≡ found

-- this is the next key after `after` with its value, or the table has none
abbrev pub NextIs : Area → ℕ → List ℕ → Bool → List ℕ → List ℕ → Contents → Type 0
NextIs a t after true key out c = IsNextKey (c a t) after key out
NextIs a t after false key out c = IsLastKey (c a t) after

-- the bytes given are of the size of a value, or no bytes if none was found
abbrev pub GivesValue : Bool → List ℕ → Type 0
GivesValue true out = IsValueSize out
GivesValue false out = out ≡ []

-- the key given is above `after`, and it and its value are of the sizes of a key and a value
pub record GivesKey (after key out : List ℕ) : Type 0 where
  pub above : bytes_cmp after key ≡ Less
  pub size : IsKeySize key
  pub value : IsValueSize out

-- a key and its value are given, or no bytes if none was found
abbrev pub GivesNext : List ℕ → Bool → List ℕ → List ℕ → Type 0
GivesNext after true key out = GivesKey after key out
GivesNext after false key out = (key ≡ []) × (out ≡ [])
