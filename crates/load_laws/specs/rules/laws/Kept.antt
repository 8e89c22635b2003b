-- Where no rule is broken, each is kept by each item.
use Rattle.std.proofs.Common.{◌≡◌, ℕ, ◌+◌, true, not, List, [], ◌∷◌, None, refl, is_some}
use Rattle.std.proofs.lemmas.Bool.{and_from}
use Rattle.std.specs.List.{AllByRecursion, list_all}
use Rattle.std.specs.Option.{option_map}
use Rattle.repl_model.specs.Words.{In, passes_at, or_none, map_none, chosen_none, none_pass, not_not}
use Rattle.repl_commands.specs.declared.written.RawDefs.{RawDefs}
use Rattle.repl_commands.specs.declared.written.RawMember.{RawMember}
use Rattle.repl_commands.specs.declared.written.RawRegistration.{RawRegistration}
use Rattle.repl_commands.specs.declared.written.RawSet.{RawSet}
use Rattle.repl_commands.specs.declared.written.RawTable.{RawTable}
use Rattle.spelled_defs.specs.declared.context.Context.{Context}
use Rattle.checked_defs.specs.Broken.{all_rules, table_breaks, registration_breaks, set_breaks, member_breaks, first_in_set, first_in_sets, first_place, first_broken, rule_number}
use Rattle.checked_defs.specs.Rules.{table_stands_once, registered_source, is_source_registered, has_texts}
use Rattle.checked_defs.specs.declared.rule.Rule.{Rule}
use Rattle.checked_defs.specs.declared.rule.Rule.TheVariants.{Names, Once, Columns, Key, Table, After, Before, Source, Texts, Copies, Condensed, Sums, Replicas}

-- ---- tests and options

-- ---- a rule that is kept

-- no item breaks the rule
pub record Keeps (raw : RawDefs) (context : Context) (rule : Rule) : Type 0 where
  pub tables : list_all (λ t. not (table_breaks raw context rule t)) raw.tables ≡ true
  pub registrations : list_all (λ r. not (registration_breaks raw context rule r)) raw.registrations ≡ true
  pub sets : list_all (λ s. not (set_breaks raw rule s)) raw.sets ≡ true
  pub members : list_all (λ s. list_all (λ m. not (member_breaks context rule s m)) s.members) raw.sets ≡ true

-- no set and no member breaks it
no_set_breaks : (raw : RawDefs) (context : Context) (rule : Rule) (n : ℕ) (sets : List RawSet) → first_in_sets raw context rule n sets ≡ None
    → (list_all (λ s. not (set_breaks raw rule s)) sets ≡ true) × (list_all (λ s. list_all (λ m. not (member_breaks context rule s m)) s.members) sets ≡ true)
no_set_breaks raw context rule n [] h = (refl, refl)
no_set_breaks raw context rule n (s ∷ ss) h =
    let o = or_none (first_in_set raw context rule n s) (first_in_sets raw context rule (n + 1) ss) h in
    let c = chosen_none (set_breaks raw rule s) _ _ o.0 in
    let m = none_pass (member_breaks context rule s) 1 s.members (map_none _ _ c.1) in
    let rest = no_set_breaks raw context rule (n + 1) ss o.1 in
    (and_from (not (set_breaks raw rule s)) _ c.0 rest.0, and_from (list_all (λ x. not (member_breaks context rule s x)) s.members) _ m rest.1)

-- if a rule is broken at no place, no item breaks it
keeps : (raw : RawDefs) (context : Context) (rule : Rule) → first_place raw context rule ≡ None → Keeps raw context rule
unfolding first_place
keeps raw context rule h =
    let a = or_none _ _ h in
    let b = or_none _ _ a.1 in
    let s = no_set_breaks raw context rule 1 raw.sets b.1 in
    record {
      tables = none_pass (table_breaks raw context rule) 1 raw.tables (map_none _ _ a.0);
      registrations = none_pass (registration_breaks raw context rule) 1 raw.registrations (map_none _ _ b.0);
      sets = s.0;
      members = s.1;
    }

-- of rules of which none is broken, no item breaks any
each_kept : (raw : RawDefs) (context : Context) (rules : List Rule) → first_broken raw context rules ≡ None → AllByRecursion (Keeps raw context) rules
each_kept raw context [] h = tt
each_kept raw context (rule ∷ others) h =
    let o = or_none (option_map (λ place. (rule_number rule, place)) (first_place raw context rule)) (first_broken raw context others) h in
    (keeps raw context rule (map_none _ _ o.0), each_kept raw context others o.1)

-- if no rule is broken, no item breaks any
pub rule_kept : (raw : RawDefs) (context : Context) → first_broken raw context all_rules ≡ None → (rule : Rule) → Keeps raw context rule
rule_kept raw context h Names = (each_kept raw context all_rules h).0
rule_kept raw context h Once = (each_kept raw context all_rules h).1.0
rule_kept raw context h Columns = (each_kept raw context all_rules h).1.1.0
rule_kept raw context h Key = (each_kept raw context all_rules h).1.1.1.0
rule_kept raw context h Table = (each_kept raw context all_rules h).1.1.1.1.0
rule_kept raw context h After = (each_kept raw context all_rules h).1.1.1.1.1.0
rule_kept raw context h Before = (each_kept raw context all_rules h).1.1.1.1.1.1.0
rule_kept raw context h Source = (each_kept raw context all_rules h).1.1.1.1.1.1.1.0
rule_kept raw context h Texts = (each_kept raw context all_rules h).1.1.1.1.1.1.1.1.0
rule_kept raw context h Copies = (each_kept raw context all_rules h).1.1.1.1.1.1.1.1.1.0
rule_kept raw context h Condensed = (each_kept raw context all_rules h).1.1.1.1.1.1.1.1.1.1.0
rule_kept raw context h Sums = (each_kept raw context all_rules h).1.1.1.1.1.1.1.1.1.1.1.0
rule_kept raw context h Replicas = (each_kept raw context all_rules h).1.1.1.1.1.1.1.1.1.1.1.1.0

-- if no rule is broken, no table breaks any
pub table_kept : (raw : RawDefs) (context : Context) → first_broken raw context all_rules ≡ None → (rule : Rule) (item : RawTable) → In item raw.tables → not (table_breaks raw context rule item) ≡ true
table_kept raw context h rule item = passes_at (λ (t : RawTable). not (table_breaks raw context rule t)) raw.tables item (rule_kept raw context h rule).tables

-- if no rule is broken, no registration breaks any
pub registration_kept : (raw : RawDefs) (context : Context) → first_broken raw context all_rules ≡ None → (rule : Rule) (item : RawRegistration) → In item raw.registrations → not (registration_breaks raw context rule item) ≡ true
registration_kept raw context h rule item = passes_at (λ (r : RawRegistration). not (registration_breaks raw context rule r)) raw.registrations item (rule_kept raw context h rule).registrations

-- if no rule is broken, no set breaks any
pub set_kept : (raw : RawDefs) (context : Context) → first_broken raw context all_rules ≡ None → (rule : Rule) (item : RawSet) → In item raw.sets → not (set_breaks raw rule item) ≡ true
set_kept raw context h rule item = passes_at (λ (s : RawSet). not (set_breaks raw rule s)) raw.sets item (rule_kept raw context h rule).sets

-- if no rule is broken, no member of a set breaks any
pub member_kept : (raw : RawDefs) (context : Context) → first_broken raw context all_rules ≡ None → (rule : Rule) (set : RawSet) (item : RawMember) → In set raw.sets → In item set.members → not (member_breaks context rule set item) ≡ true
member_kept raw context h rule set item i j = passes_at (λ (m : RawMember). not (member_breaks context rule set m)) set.members item
    (passes_at (λ (s : RawSet). list_all (λ m. not (member_breaks context rule s m)) s.members) raw.sets set (rule_kept raw context h rule).members i) j

-- ---- what a rule that is kept says

-- nothing of a table stands twice
pub once_kept : (raw : RawDefs) (context : Context) → first_broken raw context all_rules ≡ None → (item : RawTable) → In item raw.tables → table_stands_once raw context item ≡ true
unfolding table_breaks
once_kept raw context h item i = not_not (table_stands_once raw context item) (table_kept raw context h Once item i)

-- the source of a member is registered
pub source_registered : (raw : RawDefs) (context : Context) → first_broken raw context all_rules ≡ None → (set : RawSet) (item : RawMember) → In set raw.sets → In item set.members → is_some (registered_source context set.source item.source) ≡ true
unfolding member_breaks
source_registered raw context h set item i j = not_not (is_source_registered context set item) (member_kept raw context h Source set item i j)

-- the texts of a member fit
pub texts_kept : (raw : RawDefs) (context : Context) → first_broken raw context all_rules ≡ None → (set : RawSet) (item : RawMember) → In set raw.sets → In item set.members → has_texts context set item ≡ true
unfolding member_breaks
texts_kept raw context h set item i j = not_not (has_texts context set item) (member_kept raw context h Texts set item i j)
