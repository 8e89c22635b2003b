-- The items of a text that accepted definitions are spelled by.
use Rattle.std.proofs.Common.{◌≡◌, ◌<◌, true, length, Some, sym, ap, subst, ◌∙◌, nat_lt, is_some}
use Rattle.std.specs.List.{list_all}
use Rattle.std.proofs.lemmas.Bool.{and_parts, ltb-true}
use Rattle.repl_model.specs.Words.{Member, SetDef, World, In, in_filter_map, passes_at, all_pass_from}
use Rattle.repl_commands.specs.declared.written.RawDefs.{RawDefs}
use Rattle.repl_commands.specs.declared.written.RawSet.{RawSet}
use Rattle.repl_commands.specs.declared.written.RawTable.{RawTable}
use Rattle.spelled_defs.specs.Spelled.{spelled_table, spelled_member_at, spelled_set}
use Rattle.spelled_defs.specs.declared.defs.Defs.{Defs}
use Rattle.spelled_defs.specs.declared.defs.TableAt.{TableAt}
use Rattle.checked_defs.specs.Whole.{is_whole_table, is_whole_member, is_whole_set}
use Rattle.load_laws.specs.rules.Accepted.{Accepted, context_in}
use Rattle.load_laws.specs.rules.laws.Lists.{given_length}
use Rattle.load_laws.specs.rules.laws.Items.{some_is, set_spelled, IsSpelled, member_from_item}

-- each item of a table spells one
pub table_given : (raw : RawDefs) (w : World) (defs : Defs) (item : RawTable) → Accepted raw w defs → In item raw.tables → (t : TableAt) × (spelled_table item ≡ Some t)
table_given raw w defs item accepted i = some_is (spelled_table item) (and_parts _ _ (and_parts _ _ (and_parts _ _ (passes_at is_whole_table raw.tables item accepted.whole.tables i)).0).0).0

-- a set is one that an item spells
pub set_item : (raw : RawDefs) (w : World) (defs : Defs) (def : SetDef) → Accepted raw w defs → In def defs.sets → (item : RawSet) × In item raw.sets × (spelled_set (context_in w raw).tables item ≡ Some def)
set_item raw w defs def accepted i = in_filter_map (spelled_set (context_in w raw).tables) raw.sets def (subst (λ (d : Defs). In def d.sets) accepted.spelled i)

-- each set has members
pub has_members : (raw : RawDefs) (w : World) (defs : Defs) (def : SetDef) → Accepted raw w defs → In def defs.sets → 0 < length def.members
has_members raw w defs def accepted i =
    let of = set_item raw w defs def accepted i in
    let tables = (context_in w raw).tables in
    let whole = (and_parts _ (list_all (is_whole_member tables of.0) of.0.members) (passes_at (is_whole_set tables) raw.sets of.0 accepted.whole.sets of.1)).1 in
    let spelled : list_all (λ m. is_some (spelled_member_at tables of.0.source m)) of.0.members ≡ true = all_pass_from (λ m. is_some (spelled_member_at tables of.0.source m)) of.0.members (λ m j. (and_parts (is_some (spelled_member_at tables of.0.source m)) _ (passes_at (is_whole_member tables of.0) of.0.members m whole j)).0) in
    let same : length def.members ≡ length of.0.members = ap (λ (d : SetDef). length d.members) (set_spelled tables of.0 def of.2) ∙ given_length (spelled_member_at tables of.0.source) of.0.members spelled in
    subst (λ n. 0 < n) (sym same) (ltb-true 0 (length of.0.members) (passes_at (λ (s : RawSet). nat_lt 0 (length s.members)) raw.sets of.0 accepted.members of.1))

-- a member of a set is one that an item of the set's item spells
pub member_item : (raw : RawDefs) (w : World) (defs : Defs) (def : SetDef) (member : Member) → Accepted raw w defs → In def defs.sets → In member def.members → IsSpelled raw (context_in w raw).tables def member
member_item raw w defs def member accepted i j = member_from_item raw (context_in w raw).tables def member (subst (λ (d : Defs). In def d.sets) accepted.spelled i) j
