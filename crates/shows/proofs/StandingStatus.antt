-- The lines of the registrations and the sets of a server, by their numbers: proofs.
use Rattle.std.proofs.Common.{◌≡◌, ℕ, Bool, true, List, [], map, refl, sym, ap, ap₂, subst, ◌∙◌, arith, ◌==◌, find, Option, Some, None, IfSome, slice_get, bytes_eq, Ordering}
use Rattle.std.specs.FinMap.{IsAntisymmetric}
use Rattle.std.specs.List.{enumerate_from, filter_map}
use Rattle.std.specs.Option.{option_map, option_map_or}
use Rattle.std.proofs.lemmas.Bool.{eq-eqb, eqb-true}
use Rattle.std.proofs.lemmas.Option.{none-some, same_Some}
use Rattle.world_store.specs.Words.{name_cmp, set_cmp, b32, RegState, SyncMark, registration_state_spelling, mark_spelling, both_tie, name_cmp_exact, registration_rows, source_set_rows, Holds}
use Rattle.site_store.specs.Words.{Contents, Table}
use Rattle.repl_model.specs.Words.{SetId, DefinedRegistration, SourceSet, RegistrationKeepsRules, KeepsTable, ServerKeepsRules, IsSound, Registered, ServerTable, SourceSide, Server, World, all_differ, same_set, by_key, entry_has_row, row_is_entry, numbered_place, at_place_in, In, at_one, found_in, given_in, image_in, in_filter_map, in_map, id_itself, name_itself}
use Rattle.repl_types.specs.declared.area.Area.TheVariants as areas
use Rattle.reply_text.specs.Status.{registration_line, source_set_line}
use Rattle.prune_control.specs.laws.Marks.{held_marks}
use Rattle.prune_control.specs.laws.Numbered.{row_at}
use Rattle.subs_sets.specs.laws.Captured.{registration_at}
use Rattle.shows.specs.servers.Status.{state_of, mark_of, registration_text, set_text, text_at}
use Rattle.shows.proofs.Digits.{state_line_same, mark_line_same}
use Rattle.shows.proofs.Numbered.{filter_map_all, none_passes, numbered_first, one_place}

-- ---- definitions of numbered things

module _ {X Y K D : Type 0} (own : X → Option Y) (key_of : X → K) (define : ℕ → Y → D) (number : D → ℕ) (numbered : (n : ℕ) (y : Y) → number (define n y) ≡ n) (cmp : K → K → Ordering) (exact : IsAntisymmetric cmp) (things : List X) where
  -- what is defined of a thing, under its key
  abbrev entry : ℕ × X → Option (K × D)
  entry s = option_map (λ y. (key_of s.1, define s.0 y)) (own s.1)

  -- what is defined of all
  abbrev entries : List (K × D)
  entries = filter_map entry (enumerate_from 0 things)

  -- the definitions, in the order of their keys
  abbrev definitions : List D
  definitions = map (λ row. row.1) (by_key cmp entries)

  -- a definition under a key is that of the thing at a place
  abbrev IsOf : ℕ → K → D → Type 0
  IsOf n k d = (x : X) × (y : Y) × (slice_get things n ≡ Some x) × (own x ≡ Some y) × (key_of x ≡ k) × (define n y ≡ d)

  -- each is that of the thing at its number
  defined_at : (e : K × D) → In e entries → IsOf (number e.1) e.0 e.1
  defined_at e i = let p = in_filter_map entry (enumerate_from 0 things) e i in made p.0 (numbered_place things p.0 p.1) (own p.0.1) refl p.2
    where
      made : (s : ℕ × X) → slice_get things s.0 ≡ Some s.1 → (o : Option Y) → own s.1 ≡ o → option_map (λ y. (key_of s.1, define s.0 y)) o ≡ Some e → IsOf (number e.1) e.0 e.1
      made s at None is none = absurd (none-some e none)
      made s at (Some y) is some =
          let same : (key_of s.1, define s.0 y) ≡ e = same_Some (key_of s.1, define s.0 y) e some in
          subst (λ (m : ℕ). IsOf m e.0 e.1) (sym (numbered s.0 y) ∙ ap (λ (q : K × D). number q.1) same) (s.1, y, at, is, ap (λ (q : K × D). q.0) same, ap (λ (q : K × D). q.1) same)

  -- one that is found by a number is that of the thing there
  found_at : (n : ℕ) (d : D) → find (λ q. number q == n) definitions ≡ Some d → (k : K) × IsOf n k d
  found_at n d found =
      let f = found_in (λ (q : D). number q == n) definitions d found in
      let r = in_map (λ (row : K × D). row.1) (by_key cmp entries) d f.0 in
      let of = defined_at r.0 (row_is_entry cmp exact entries r.0 r.1) in
      (r.0.0, subst (λ (m : ℕ). IsOf m r.0.0 d) (ap number (sym r.2) ∙ eqb-true (number d) n f.1) (of.0, of.1, of.2, of.3, of.4, of.5 ∙ sym r.2))

  -- if none is found, there is no text at that place, if a thing of which nothing is defined has none
  text_none : (text : X → List ℕ) → ((x : X) → own x ≡ None → text x ≡ []) → (same : X → X → Bool) → ((x z : X) → key_of x ≡ key_of z → same x z ≡ true) → all_differ same things ≡ true → (n : ℕ) → find (λ q. number q == n) definitions ≡ None → option_map_or text (slice_get things n) [] ≡ []
  text_none text empty same alike differ n none = by_thing (slice_get things n) refl
    where
      by_own : (x : X) → slice_get things n ≡ Some x → (o : Option Y) → own x ≡ o → text x ≡ []
      by_own x at None is = empty x is
      by_own x at (Some y) is =
          let r = entry_has_row cmp exact (key_of x) (λ (d : D). number d ≡ n) entries one (key_of x, define n y) (given_in entry (enumerate_from 0 things) (n, x) (key_of x, define n y) (numbered_first things n x at) (ap (option_map (λ (q : Y). (key_of x, define n q))) is)) refl in
          absurd (none_passes (λ (d : D). number d == n) definitions r.0.1 none (image_in (λ (row : K × D). row.1) (by_key cmp entries) r.0 r.1) (eq-eqb (number r.0.1) n r.3))
        where
          one : (e : K × D) → In e entries → e.0 ≡ key_of x → number e.1 ≡ n
          one e i key = let of = defined_at e i in one_place same things (number e.1) n of.0 x differ of.2 at (alike of.0 x (of.4 ∙ key)) (alike x of.0 (sym (of.4 ∙ key)))

      by_thing : (o : Option X) → slice_get things n ≡ o → option_map_or text o [] ≡ []
      by_thing None at = refl
      by_thing (Some x) at = by_own x at (own x) refl

-- ---- sets by their names

-- names of sets of which neither is before the other are one
set_cmp_exact : IsAntisymmetric set_cmp
set_cmp_exact a b e =
    let both = both_tie (name_cmp a.qual b.qual) (name_cmp a.name b.name) e in
    ap₂ (λ (qual name : List ℕ). record { qual = qual; name = name }) (name_cmp_exact a.qual b.qual both.0) (name_cmp_exact a.name b.name both.1)

-- the definitions of sets are those that they give
sets_given : (server : Server) → map (λ row. row.1) (source_set_rows server) ≡ map (λ row. row.1) (by_key set_cmp (filter_map (λ s. Some (s.1.def.id, record { number = s.0; def = s.1.def })) (enumerate_from 0 server.source_sets)))
sets_given server = ap (λ (l : List (SetId × SourceSet)). map (λ (row : SetId × SourceSet). row.1) (by_key set_cmp l)) (sym (filter_map_all (λ (s : ℕ × SourceSide). (s.1.def.id, record { number = s.0; def = s.1.def })) (enumerate_from 0 server.source_sets)))

-- ---- the lines of a server

module _ (w : World) (server : Server) (keeps : ServerKeepsRules w server) (n : ℕ) where
  module _ (rows : List DefinedRegistration) (are : rows ≡ map (λ row. row.1) (registration_rows server)) where
    -- if no registration has a number, there is no line
    pub registration_none : find (λ d. d.number == n) rows ≡ None → text_at registration_text server.tables n ≡ []
    registration_none none = text_none (λ (t : ServerTable). t.registered) (λ t. t.def.name) (λ n r. record { number = n; registration = r.reg }) (λ (d : DefinedRegistration). d.number) (λ n r. refl) name_cmp name_cmp_exact server.tables registration_text
        (λ t none. ap (λ (o : Option Registered). option_map_or (λ r. registration_line t.def.name (state_of r)) o []) none)
        (λ a b. bytes_eq a.def.name b.def.name) (λ a b same. subst (λ (name : List ℕ). bytes_eq a.def.name name ≡ true) same (name_itself a.def.name)) keeps.differ n (subst (λ (l : List DefinedRegistration). find (λ d. d.number == n) l ≡ None) are none)

    -- if one has it, its line has its name and the state that stands there
    pub registration_some : (row : DefinedRegistration) (state : RegState) (c : Contents) → find (λ d. d.number == n) rows ≡ Some row → IsSound w → In server w → Holds w server c → c areas.Capture 1 (b32 n) ≡ Some (registration_state_spelling state) → registration_line row.registration.table state ≡ text_at registration_text server.tables n
    registration_some row state c found sound i holds has =
        let of = (found_at (λ (t : ServerTable). t.registered) (λ t. t.def.name) (λ n r. record { number = n; registration = r.reg }) (λ (d : DefinedRegistration). d.number) (λ n r. refl) name_cmp name_cmp_exact server.tables n row (subst (λ (l : List DefinedRegistration). find (λ d. d.number == n) l ≡ Some row) are found)).1 in
        let t : ServerTable = of.0 in
        let r : Registered = of.1 in
        let own : RegistrationKeepsRules t.def r.reg = subst (λ (o : Option Registered). IfSome o (λ r. RegistrationKeepsRules t.def r.reg)) of.3 (at_one KeepsTable server.tables t keeps.tables (at_place_in server.tables n t of.2)).2 in
        ap (λ (d : DefinedRegistration). registration_line d.registration.table state) (sym of.5)
        ∙ ap (λ (l : List ℕ). registration_line l state) own.table
        ∙ state_line_same t.def.name state (state_of r) (same_Some (registration_state_spelling state) (registration_state_spelling (state_of r)) (sym has ∙ registration_at w server sound i c holds n t r of.2 of.3))
        ∙ ap (λ (o : Option Registered). option_map_or (λ r. registration_line t.def.name (state_of r)) o []) (sym of.3)
        ∙ ap (λ (o : Option ServerTable). option_map_or registration_text o []) (sym of.2)

  module _ (rows : List SourceSet) (are : rows ≡ map (λ row. row.1) (source_set_rows server)) where
    -- the same of sets
    pub set_none : find (λ d. d.number == n) rows ≡ None → text_at set_text server.source_sets n ≡ []
    set_none none = text_none (λ side. Some side) (λ (side : SourceSide). side.def.id) (λ n side. record { number = n; def = side.def }) (λ (d : SourceSet). d.number) (λ n side. refl) set_cmp set_cmp_exact server.source_sets set_text
        (λ side none. absurd (none-some side (sym none)))
        (λ a b. same_set a.def.id b.def.id) (λ a b same. subst (λ (id : SetId). same_set a.def.id id ≡ true) same (id_itself a.def.id)) keeps.source_names n (subst (λ (l : List SourceSet). find (λ d. d.number == n) l ≡ None) (are ∙ sets_given server) none)

    -- and of their marks
    pub set_some : (row : SourceSet) (known : SyncMark) (c : Contents) → find (λ d. d.number == n) rows ≡ Some row → Holds w server c → c areas.Prune 0 (b32 n) ≡ Some (mark_spelling known) → source_set_line row.def.id known ≡ text_at set_text server.source_sets n
    set_some row known c found holds has =
        let of = (found_at (λ side. Some side) (λ (side : SourceSide). side.def.id) (λ n side. record { number = n; def = side.def }) (λ (d : SourceSet). d.number) (λ n side. refl) set_cmp set_cmp_exact server.source_sets n row (subst (λ (l : List SourceSet). find (λ d. d.number == n) l ≡ Some row) (are ∙ sets_given server) found)).1 in
        let side : SourceSide = of.1 in
        let at : slice_get server.source_sets n ≡ Some side = of.2 ∙ of.3 in
        ap (λ (d : SourceSet). source_set_line d.def.id known) (sym of.5)
        ∙ mark_line_same side.def.id known (mark_of side) (same_Some (mark_spelling known) (mark_spelling (mark_of side)) (sym has ∙ ap (λ (u : Table). u (b32 n)) (held_marks w server c holds) ∙ row_at mark_of mark_spelling n side server.source_sets (omega (arith, keeps.counts.0)) at))
        ∙ ap (λ (o : Option SourceSide). option_map_or set_text o []) (sym at)
