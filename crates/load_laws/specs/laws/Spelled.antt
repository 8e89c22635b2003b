-- The definitions of a text that keeps the rules have spellings.
use Rattle.std.proofs.Common.{◌≡◌, ℕ, ◌≤◌, ◌^◌, true, List, [], length, Option, Some, None, sym, ap, ap₂, ◌∙◌, subst, arith, find}
use Rattle.std.specs.List.{AllByRecursion, filter_map, list_all}
use Rattle.std.specs.Option.{option_and_then, option_map, option_map_or}
use Rattle.std.proofs.lemmas.Bool.{and_parts}
use Rattle.world_store.specs.Words.{ArePlaces, HasTableSpelling, IsRegistration, HasRegistrationSpelling, Is16, table_again, registration_again}
use Rattle.repl_model.specs.Words.{ColumnDef, all_weaker, HasSourceSpelling, HasTargetColumnSpelling, HasFilterSpelling, HasMemberSpelling, HasSetDefSpelling, ColumnFrom, Member, TargetColumn, Predicate, SetDef, columns_from, columns_tested, filter_columns, keys_stand, are_among, SourceTable, column_limit, In, at_one, at_each, found_in, passes_at, among_below}
use Rattle.repl_commands.specs.declared.written.RawDefs.{RawDefs}
use Rattle.repl_commands.specs.declared.written.RawMember.{RawMember}
use Rattle.repl_definitions.specs.declared.member.ColumnFrom.TheVariants.{Plain, Count, CountOf, Sum, Min, Max}
use Rattle.repl_defs.specs.Trees.{predicate_tree}
use Rattle.spelled_defs.specs.Spelled.{spelled_table, is_table, columns_at, spelled_registration, is_registration, spelled_set}
use Rattle.spelled_defs.specs.declared.context.Context.{Context}
use Rattle.spelled_defs.specs.declared.defs.RegistrationAt.{RegistrationAt}
use Rattle.spelled_defs.specs.declared.defs.TableAt.{TableAt}
use Rattle.checked_defs.specs.Rules.{as_source_table, registered_source, texts_are_read, reads_registered, texts_fit}
use Rattle.load_laws.specs.rules.laws.Items.{some_is, from_step, from_image, member_spelled, member_from_item, IsSpelled}
use Rattle.load_laws.specs.rules.laws.Kept.{source_registered, texts_kept}
use Rattle.load_plan.specs.Differences.{AreSpelled}
use Rattle.load_plan.specs.declared.stored.StoredServer.{StoredServer}
use Rattle.load_laws.specs.texts.AcceptedTexts.{SpellsAll}
use Rattle.load_laws.specs.texts.Texts.{defs_beside, KeepsRules}
use Rattle.load_laws.specs.laws.Counts.{target_columns, set_members}
use Rattle.load_laws.specs.laws.Trees.{expr_fits, predicate_fits}
use Rattle.load_laws.specs.laws.Typed.{IsSmallTable, context_beside, text_tables, text_registrations, images_counted}
use Rattle.repl_defs.specs.laws.TextTrees.{predicates_fit}

-- a source has a spelling if the columns that it reads have places of two bytes
source_fits : (from : ColumnFrom) → AllByRecursion Is16 (columns_from from) → HasSourceSpelling from
source_fits (Plain e) all = expr_fits e all
source_fits Count all = tt
source_fits (CountOf p) all = all.0
source_fits (Sum p) all = all.0
source_fits (Min p) all = all.0
source_fits (Max p) all = all.0

-- a predicate of a text has a spelling, if the columns that it reads have places of two bytes
filter_fits : (columns : List ColumnDef) (text : Option (List ℕ)) (filter : Option Predicate) → filter ≡ option_and_then (predicate_tree columns) text → AllByRecursion Is16 (option_map_or columns_tested filter []) → HasFilterSpelling filter
filter_fits columns text None e all = tt
filter_fits columns text (Some p) e all = let of = from_step (predicate_tree columns) text p (sym e) in predicate_fits columns p (predicates_fit columns of.0 p of.2) all

-- places that are among those of two bytes have two bytes
among_places : (images places : List ℕ) → ArePlaces images → are_among images places ≡ true → AllByRecursion Is16 places
among_places images places are = among_below (2 ^ 16) images places are.1

-- the after-images of a registered table have places of two bytes, if those of each registration do
source_images : (context : Context) (server name : List ℕ) (source : SourceTable) → AllByRecursion (λ r. ArePlaces r.def.after) context.registrations → registered_source context server name ≡ Some source → ArePlaces source.reg.after
source_images context server name source all e =
    let table = from_step _ (find (is_table server name) context.tables) source e in
    let registration = from_image (λ (r : RegistrationAt). as_source_table table.0.def r.def) (find (is_registration server name) context.registrations) source table.2 in
    subst (λ (s : SourceTable). ArePlaces s.reg.after) registration.2 (at_one (λ (r : RegistrationAt). ArePlaces r.def.after) context.registrations registration.0 all (found_in (is_registration server name) context.registrations registration.0 registration.1).0)

-- a member that reads such images alone has a spelling
member_fits : (columns : List ColumnDef) (item : RawMember) (member : Member) (source : SourceTable) → ArePlaces source.reg.after → reads_registered source.reg member ≡ true → member.filter ≡ option_and_then (predicate_tree columns) item.filter → length member.columns ≤ column_limit → HasMemberSpelling member
member_fits columns item member source images reads filter few =
    let both = and_parts (list_all (λ column. are_among source.reg.after (columns_from column.from)) member.columns) (are_among source.reg.after (filter_columns member)) reads in
    ((omega (arith, few), at_each HasTargetColumnSpelling member.columns (λ column i. source_fits column.from (among_places source.reg.after (columns_from column.from) images (passes_at (λ (c : TargetColumn). are_among source.reg.after (columns_from c.from)) member.columns column both.0 i)))), filter_fits columns item.filter member.filter filter (among_places source.reg.after (filter_columns member) images both.1))

module _ (raw : RawDefs) (stored : List StoredServer) (keeps : KeepsRules raw stored) where
  -- what the text's items are asked together with
  abbrev context : Context
  context = context_beside raw stored

  -- a member of a set has a spelling
  item_fits : (def : SetDef) (member : Member) → IsSpelled raw context.tables def member → length member.columns ≤ column_limit → HasMemberSpelling member
  item_fits def member of few =
      let source = some_is (registered_source context of.set.source of.item.source) (source_registered raw context keeps.kept of.set of.item of.set_in of.item_in) in
      let fits : texts_fit of.item source.0 member ≡ true =
      sym (ap₂ (λ (s : Option SourceTable) (m : Option Member). option_map_or (λ (over : SourceTable × Member). texts_fit of.item over.0 over.1) (option_and_then (λ a. option_map (λ b. (a, b)) m) s) true) source.1 of.item_spells)
      ∙ texts_kept raw context keeps.kept of.set of.item of.set_in of.item_in in
      let reads = (and_parts (texts_are_read source.0.def.columns of.item) (reads_registered source.0.reg member) (and_parts _ (keys_stand source.0 member) fits).0).1 in
      let columns = columns_at context.tables of.set.source of.item.source in
      member_fits columns of.item member source.0 (source_images context of.set.source of.item.source source.0 (images_counted raw stored keeps) source.1) reads (ap (λ (m : Member). m.filter) (member_spelled columns of.item member of.item_spells).1) few

  -- a set has a spelling
  set_fits : (def : SetDef) → In def (filter_map (spelled_set context.tables) raw.sets) → HasSetDefSpelling def
  set_fits def i =
      let few = set_members (defs_beside raw stored) stored keeps.counts def i in (
        omega (arith, few),
        at_each HasMemberSpelling def.members (λ member j. item_fits def member (member_from_item raw context.tables def member i j)
            (at_one (λ (m : Member). length m.columns ≤ column_limit) def.members member (target_columns (defs_beside raw stored) stored keeps.counts def i) j)),
      )

  -- so have all definitions
  pub are_spelled : AreSpelled (defs_beside raw stored)
  are_spelled = record {
    tables = all_weaker (λ (t : TableAt). IsSmallTable t.def) (λ (t : TableAt). HasTableSpelling t.def) (filter_map spelled_table raw.tables) (λ t small. table_again t.def small.is) (text_tables raw stored keeps);
    registrations = all_weaker (λ (r : RegistrationAt). IsRegistration r.def) (λ (r : RegistrationAt). HasRegistrationSpelling r.def) (filter_map (spelled_registration context.tables) raw.registrations) (λ r is. registration_again r.def is) (text_registrations raw stored keeps);
    sets = at_each HasSetDefSpelling (filter_map (spelled_set context.tables) raw.sets) set_fits;
  }

-- the definitions of a text that keeps the rules have spellings
pub spells_all : SpellsAll
spells_all = are_spelled
