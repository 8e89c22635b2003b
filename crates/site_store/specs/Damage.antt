-- What shows that contents are damaged, for all tables of a server at once.
use Rattle.std.specs.Prelude.{◌≡◌, ◌⊎◌, ℕ, List, Option, Some, None, IfSome}
use Rattle.repl_types.specs.declared.area.Area.{Area}
use Rattle.repl_types.specs.declared.status.DamageCause.{DamageCause}
use Rattle.repl_types.specs.declared.status.DamageCause.TheVariants as causes
use Rattle.repl_types.specs.declared.fault.Fault.{Fault}
use Rattle.repl_types.specs.declared.fault.Fault.TheVariants as faults
use Rattle.keep_core.specs.Contents.{Contents}
use Rattle.keep_core.specs.Kept.{Kept}
use Rattle.site_store.specs.Views.{sees}
use Rattle.site_store.specs.declared.sites.Sites.{Sites}

-- What each table should have. A layer says this once, for all tables that it reads.
pub record Rules : Type 1 where
  -- these bytes are a key of the table
  pub is_key : Area → ℕ → List ℕ → Type 0
  -- these bytes are a value of the table
  pub is_value : Area → ℕ → List ℕ → Type 0
  -- these contents call for a record at this key
  pub is_needed : Area → ℕ → List ℕ → Contents → Type 0
  -- in these contents a record with this key and this value doesn't fit
  pub is_unfit : Area → ℕ → List ℕ → List ℕ → Contents → Type 0

-- The rules of two layers together: what may stand in a table is what both allow, and what either calls for is called
-- for, and what either finds unfit doesn't fit.
abbrev pub joined : Rules → Rules → Rules
joined r q = record {
  is_key = λ a t bytes. r.is_key a t bytes × q.is_key a t bytes;
  is_value = λ a t bytes. r.is_value a t bytes × q.is_value a t bytes;
  is_needed = λ a t key c. r.is_needed a t key c ⊎ q.is_needed a t key c;
  is_unfit = λ a t key value c. r.is_unfit a t key value c ⊎ q.is_unfit a t key value c;
}

-- no record is called for, and each one fits
abbrev pub AsksForNothing : Rules → Type 0
AsksForNothing rules = ((a : Area) (t : ℕ) (key : List ℕ) (c : Contents) → rules.is_needed a t key c → ⊥) × ((a : Area) (t : ℕ) (key value : List ℕ) (c : Contents) → rules.is_unfit a t key value c → ⊥)

-- The bytes stand in the table as a key, and are none; or they stand there as a value, and are none.
abbrev pub ShowsMisspelt : Rules → Area → List ℕ → Option Contents → Type 0
ShowsMisspelt rules a bytes saw = (t : ℕ) × (((rules.is_key a t bytes → ⊥) × IfSome saw (λ c. (value : List ℕ) × (c a t bytes ≡ Some value))) ⊎ ((rules.is_value a t bytes → ⊥) × IfSome saw (λ c. (key : List ℕ) × (c a t key ≡ Some bytes))))

-- What was seen shows the damage, if the keeper reveals it: misspelt bytes, a record that is called for
-- and isn't there, or one that doesn't fit.
abbrev pub Shows : Rules → Area → DamageCause → Option Contents → Type 0
Shows rules a (causes.Spelling bytes) saw = ShowsMisspelt rules a bytes saw
Shows rules a (causes.Absent key) saw = (t : ℕ) × IfSome saw (λ c. (c a t key ≡ None) × rules.is_needed a t key c)
Shows rules a (causes.Unfit bytes) saw = (t : ℕ) × IfSome saw (λ c. (key : List ℕ) × (c a t key ≡ Some bytes) × rules.is_unfit a t key bytes c)
Shows rules a (causes.NoRest steps) saw = ⊥

-- what one of these servers was seen to have at the beginning of a call shows the damage
abbrev pub Damages : {K : Type 0} → (ℕ → Type 0) → Rules → (K → Kept) → Sites K → ℕ → Area → DamageCause → Type 0
Damages servers rules kept old s a cause = servers s × Shows rules a cause (sees kept old s)

-- the contents show no damage
abbrev pub IsUndamaged : Rules → Contents → Type 0
IsUndamaged rules c = (a : Area) (cause : DamageCause) → Shows rules a cause (Some c) → ⊥

-- memory ran out or a keeper failed: nothing is damaged, and nothing refused
abbrev pub IsNoDamage : Fault → Type 0
IsNoDamage faults.Memory = Unit {0}
IsNoDamage (faults.Keeper s) = Unit {0}
IsNoDamage (faults.Damaged s a cause) = ⊥
IsNoDamage (faults.Refused refusal) = ⊥

-- each entry is a key and a value of its table
abbrev pub IsSpelt : Rules → Contents → Type 0
IsSpelt rules c = (a : Area) (t : ℕ) (key value : List ℕ) → c a t key ≡ Some value → rules.is_key a t key × rules.is_value a t value

-- only keys and values of their tables were added
abbrev pub AddsOnlySpelt : Rules → Contents → Contents → Type 0
AddsOnlySpelt rules c d = (a : Area) (t : ℕ) (key value : List ℕ) → d a t key ≡ Some value → (rules.is_key a t key × rules.is_value a t value) ⊎ (c a t key ≡ Some value)

-- damage that is shown now was shown before
abbrev pub ShownBefore : Rules → Contents → Contents → Type 0
ShownBefore rules c d = (a : Area) (cause : DamageCause) → Shows rules a cause (Some d) → Shows rules a cause (Some c)
