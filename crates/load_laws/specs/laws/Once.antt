-- A text has at most one registration of a table at a server.
use Rattle.std.proofs.Common.{◌≡◌, ℕ, ◌≤◌, Bool, true, not, List, [], ◌∷◌, length, Some, sym, ap, subst, ◌∙◌, inl, inr, arith, filter, count_by, bytes_eq}
use Rattle.std.proofs.Math.Bool.{not-not}
use Rattle.std.proofs.lemmas.Bool.{and_parts, and_from, leb-true}
use Rattle.std.proofs.lemmas.List.Sums.{length-filter}
use Rattle.std.proofs.lemmas.Option.{option_and_then_some, same_Some}
use Rattle.repl_model.specs.Words.{name_of, name_found, World, In, in_filter_map, kept_by, passes_at, name_itself}
use Rattle.repl_commands.specs.declared.written.RawDefs.{RawDefs}
use Rattle.repl_commands.specs.declared.written.RawRegistration.{RawRegistration}
use Rattle.spelled_defs.specs.Spelled.{columns_at, registration_def, spelled_registration}
use Rattle.spelled_defs.specs.declared.defs.Defs.{Defs}
use Rattle.spelled_defs.specs.declared.defs.RegistrationAt.{RegistrationAt}
use Rattle.spelled_defs.specs.declared.defs.TableAt.{TableAt}
use Rattle.checked_defs.specs.Broken.{registration_breaks}
use Rattle.checked_defs.specs.Rules.{names_registration, registration_stands_once}
use Rattle.checked_defs.specs.declared.rule.Rule.TheVariants.{Once}
use Rattle.load_laws.specs.rules.Accepted.{Accepted, context_in}
use Rattle.load_laws.specs.rules.laws.Kept.{rule_kept}

-- two elements of a list of one are one
only_element : {X : Type 0} (xs : List X) (x y : X) → length xs ≤ 1 → In x xs → In y xs → x ≡ y
only_element [] x y few i j = absurd i
only_element (z ∷ []) x y few (inl a) (inl b) = a ∙ sym b
only_element (z ∷ []) x y few (inl a) (inr j) = absurd j
only_element (z ∷ []) x y few (inr i) j = absurd i
only_element (z ∷ w ∷ zs) x y few i j = absurd (omega arith)

-- two elements that pass a test are one, if at most one passes
counted_alone : {X : Type 0} (p : X → Bool) (xs : List X) (x y : X) → count_by p xs ≤ 1 → In x xs → In y xs → p x ≡ true → p y ≡ true → x ≡ y
counted_alone p xs x y few i j e f = only_element (filter p xs) x y (subst (λ n. n ≤ 1) (sym (length-filter p xs)) few) (kept_by p xs x i e) (kept_by p xs y j f)

-- a registration has the names of the item that spells it
spelled_names : (tables : List TableAt) (item : RawRegistration) (r : RegistrationAt) → spelled_registration tables item ≡ Some r → (r.server ≡ item.server) × (r.def.table ≡ item.table)
unfolding spelled_registration
spelled_names tables item r e = option_and_then_some _ (name_of item.server) r e (λ server named rest. option_and_then_some _ (name_of item.table) r rest (λ table called same. (
  ap (λ (x : RegistrationAt). x.server) (sym (same_Some (made server table) r same)) ∙ (name_found item.server server named).0,
  ap (λ (x : RegistrationAt). x.def.table) (sym (same_Some (made server table) r same)) ∙ (name_found item.table table called).0,
)))
  where
    made : List ℕ → List ℕ → RegistrationAt
    made server table = record { server = server; def = registration_def table (columns_at tables item.server item.table) item }

-- each registration of a text is the only one of its table
item_once : (raw : RawDefs) (w : World) (defs : Defs) → Accepted raw w defs → (item : RawRegistration) → In item raw.registrations → count_by (names_registration item.server item.table) raw.registrations ≤ 1
unfolding registration_breaks
item_once raw w defs accepted item i =
    let kept = passes_at (λ (r : RawRegistration). not (registration_breaks raw (context_in w raw) Once r)) raw.registrations item (rule_kept raw (context_in w raw) accepted.kept Once).registrations i in
    leb-true (count_by (names_registration item.server item.table) raw.registrations) 1 (and_parts _ _ (and_parts _ _ (sym (not-not (registration_stands_once raw item)) ∙ kept)).0).0

-- two accepted registrations of one table at one server are one
pub registrations_once : (raw : RawDefs) (w : World) (defs : Defs) → Accepted raw w defs → (a b : RegistrationAt) → In a defs.registrations → In b defs.registrations → a.server ≡ b.server → a.def.table ≡ b.def.table → a ≡ b
registrations_once raw w defs accepted a b i j server table =
    let tables = (context_in w raw).tables in
    let x = in_filter_map (spelled_registration tables) raw.registrations a (subst (λ (d : Defs). In a d.registrations) accepted.spelled i) in
    let y = in_filter_map (spelled_registration tables) raw.registrations b (subst (λ (d : Defs). In b d.registrations) accepted.spelled j) in
    let of_x = spelled_names tables x.0 a x.2 in
    let of_y = spelled_names tables y.0 b y.2 in
    let same : x.0 ≡ y.0 = counted_alone (names_registration x.0.server x.0.table) raw.registrations x.0 y.0 (item_once raw w defs accepted x.0 x.1) x.1 y.1
    (and_from (bytes_eq x.0.server x.0.server) (bytes_eq x.0.table x.0.table) (name_itself x.0.server) (name_itself x.0.table))
    (and_from (bytes_eq x.0.server y.0.server) (bytes_eq x.0.table y.0.table)
    (ap (bytes_eq x.0.server) (sym of_y.0 ∙ sym server ∙ of_x.0) ∙ name_itself x.0.server)
    (ap (bytes_eq x.0.table) (sym of_y.1 ∙ sym table ∙ of_x.1) ∙ name_itself x.0.table)) in
    same_Some a b (sym x.2 ∙ ap (spelled_registration tables) same ∙ y.2)
