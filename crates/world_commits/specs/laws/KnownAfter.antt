-- The known set of a name after an action: the one before, with the row that the action changes.
use Rattle.std.proofs.Common.{◌≡◌, ◌<◌, Bool, cond, List, Some, refl, sym, ap, ap₂, subst, ◌∙◌, find, option_map}
use Rattle.repl_model.specs.Words.{LogRecord, SetId, SourceSide, TargetSide, Server, World, KnownSet, same_set, known_sets, known_set, with_more, grown_server, grown, grown_set, with_server, with_source_side, with_target_side, find_image, name_itself, known_sets_grow}
use Rattle.world_commits.specs.actions.Resting.{steps_left}
use Rattle.world_commits.specs.laws.Changed.{Rows, ServerChange, source_row, target_row, with_rows, rows_change, changed_world, changed_set, sets_changed}
use Rattle.world_commits.specs.laws.ChangedWorlds.{rows_alone}
use Rattle.world_commits.specs.laws.SetRows.{KeepsSource, KeepsTarget, stays, rows_after, source_becomes, target_becomes, source_world, target_world}

-- ---- the set of a name

-- a set whose servers get other rows
abbrev set_with_rows : (Server → Rows) → KnownSet → KnownSet
set_with_rows rows k = record {
  source = with_rows (rows k.source) k.source;
  at_source = source_row (rows k.source) k.at_source;
  target = with_rows (rows k.target) k.target;
  at_target = target_row (rows k.target) k.at_target;
}

-- the set of a name is the one before, with the rows of its servers
changed_named : (rows : Server → Rows) (world : World) (id : SetId) (k : KnownSet) → known_set world id ≡ Some k → known_set (changed_world (rows_alone rows) world) id ≡ Some (set_with_rows rows k)
changed_named rows world id k named =
    ap (find (λ (l : KnownSet). same_set id l.at_target.def.id)) (sets_changed f world)
    ∙ find_image (changed_set f) (λ (l : KnownSet). same_set id l.at_target.def.id) (known_sets world)
    ∙ ap (option_map (changed_set f)) named
    ∙ ap₂ (λ (source target : Server). Some (record (set_with_rows rows k) { source = source; target = target })) (sym (rows_change (rows k.source) k.source)) (sym (rows_change (rows k.target) k.target))
  where
    f : Server → ServerChange
    f = rows_alone rows

-- the set of a name is the one before, with the longer log of its source
pub grown_named : (more : List LogRecord) (world : World) (id : SetId) (k : KnownSet) → known_set world id ≡ Some k
    → known_set (grown k.source.name more world) id ≡ Some (record k { source = with_more more k.source; target = grown_server k.source.name more k.target })
grown_named more world id k named =
    ap (find (λ (l : KnownSet). same_set id l.at_target.def.id)) (known_sets_grow k.source.name more world)
    ∙ find_image (grown_set k.source.name more) (λ (l : KnownSet). same_set id l.at_target.def.id) (known_sets world)
    ∙ ap (option_map (grown_set k.source.name more)) named
    ∙ ap (λ (b : Bool). Some (record k { source = cond b (with_more more k.source) k.source; target = grown_server k.source.name more k.target })) (name_itself k.source.name)

-- ---- fewer steps left

-- the set of a name is known in a world, with fewer steps left than a set has, and with its definition
abbrev pub HasFewerLeft : World → SetId → KnownSet → Type 0
HasFewerLeft world id k = (l : KnownSet) × (known_set world id ≡ Some l) × (steps_left l < steps_left k) × (l.at_target.def ≡ k.at_target.def)

-- so is a set after its rows are changed, if fewer are left with the new rows
fewer_after : (world : World) (id : SetId) (k : KnownSet) (f : SourceSide → SourceSide) (g : TargetSide → TargetSide) → known_set world id ≡ Some k
    → steps_left (record k { at_source = record k.at_source { mark = (f k.at_source).mark; signal = (f k.at_source).signal }; at_target = record k.at_target { flag = (g k.at_target).flag; trail = (g k.at_target).trail } }) < steps_left k
    → HasFewerLeft (changed_world (rows_alone (rows_after k f g)) world) id k
fewer_after world id k f g named fewer = (
  set_with_rows rows k,
  changed_named rows world id k named,
  subst (λ (side : TargetSide). steps_left (record k { at_source = source_row (rows k.source) k.at_source; at_target = record k.at_target { flag = side.flag; trail = side.trail } }) < steps_left k) (sym (target_becomes k f g))
      (subst (λ (side : SourceSide). steps_left (record k { at_source = record k.at_source { mark = side.mark; signal = side.signal }; at_target = record k.at_target { flag = (g k.at_target).flag; trail = (g k.at_target).trail } }) < steps_left k) (sym (source_becomes k f g)) fewer),
  refl,
)
  where
    rows : Server → Rows
    rows = rows_after k f g

-- so is a set after its row at its source is changed
pub fewer_at_source : (world : World) (id : SetId) (k : KnownSet) (f : SourceSide → SourceSide) → KeepsSource f → known_set world id ≡ Some k
    → steps_left (record k { at_source = record k.at_source { mark = (f k.at_source).mark; signal = (f k.at_source).signal } }) < steps_left k
    → HasFewerLeft (with_server k.source.name (with_source_side k.at_source.def.id f) world) id k
fewer_at_source world id k f keeps named fewer = subst (λ (w : World). HasFewerLeft w id k) (sym (source_world k f keeps world)) (fewer_after world id k f stays named fewer)

-- and after its row at its target is
pub fewer_at_target : (world : World) (id : SetId) (k : KnownSet) (g : TargetSide → TargetSide) → KeepsTarget g → known_set world id ≡ Some k
    → steps_left (record k { at_target = record k.at_target { flag = (g k.at_target).flag; trail = (g k.at_target).trail } }) < steps_left k
    → HasFewerLeft (with_server k.target.name (with_target_side k.at_target.def.id g) world) id k
fewer_at_target world id k g keeps named fewer = subst (λ (w : World). HasFewerLeft w id k) (sym (target_world k g keeps world)) (fewer_after world id k stays g named fewer)
