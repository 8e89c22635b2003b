-- What is seen at servers that stand for a world: proofs, and nothing to believe.
use Rattle.std.proofs.Common.{◌≡◌, ℕ, zero, suc, ◌<◌, Bool, true, false, cond, List, [], ◌∷◌, length, map, get_or, inl, inr, refl, sym, ap, subst, ◌∙◌, arith, Option, Some, None, IfSome, bytes_eq}
use Rattle.std.specs.List.{AllByRecursion, AllZip}
use Rattle.std.proofs.lemmas.List.{length-map}
use Rattle.world_store.specs.Words.{short_text, IsName, set_spelling, IsSet, table_from_rows, table_rows, registration_rows, source_set_rows, target_set_rows, tables, definition_table, Holds, Reveals, Stands, RowFits, AreRows, table_rows_are, registration_rows_are, source_rows_are, target_rows_are}
use Rattle.site_store.specs.Words.{Contents, Table, Kept, seen_of, AllClosed, AreApart, HasNone, IsPlace, names, held, work, sees, Bounds, Stays, Blames, IsSpelt, IsNoDamage, rows_spelt, spelt_undamaged, no_damage}
use Rattle.site_store.specs.declared.sites.Sites.{Sites}
use Rattle.repl_model.specs.Words.{SetId, all_weaker, Fault, defined_table_spelling, IsDefinedTable, defined_registration_spelling, IsDefinedRegistration, source_set_spelling, IsSourceSet, target_set_spelling, IsTargetSet, TargetSet, empty_server, Server, World, server_named, server_in, ServerKeepsRules, In, name_itself, same_name}
use Rattle.repl_types.specs.declared.area.Area.TheVariants as areas
use Rattle.stored_defs.specs.Reading.{HasRecords}
use Rattle.stored_defs.specs.Rules.{rules, ShowsDamage}

-- ---- lists

-- what holds of all holds at each place
pub all_at_place : {X : Type 0} (P : X → Type 0) (xs : List X) (n : ℕ) (d : X) → AllByRecursion P xs → n < length xs → P (get_or xs n d)
all_at_place P [] n d all lt = absurd (omega arith)
all_at_place P (x ∷ xs) zero d all lt = all.0
all_at_place P (x ∷ xs) (suc n) d all lt = all_at_place P xs n d all.1 (omega arith)

-- what holds of two lists place by place holds at each place
pub zip_at_place : {X Y : Type 0} (R : X → Y → Type 0) (xs : List X) (ys : List Y) (n : ℕ) (d : X) (e : Y) → AllZip R xs ys → n < length xs → R (get_or xs n d) (get_or ys n e)
zip_at_place R [] ys n d e all lt = absurd (omega arith)
zip_at_place R (x ∷ xs) [] n d e all lt = absurd all
zip_at_place R (x ∷ xs) (y ∷ ys) zero d e all lt = all.0
zip_at_place R (x ∷ xs) (y ∷ ys) (suc n) d e all lt = zip_at_place R xs ys n d e all.1 (omega arith)

-- what stands at a place is in the list
pub in_at : {X : Type 0} (xs : List X) (n : ℕ) (d : X) → n < length xs → In (get_or xs n d) xs
in_at [] n d lt = absurd (omega arith)
in_at (x ∷ xs) zero d lt = inl refl
in_at (x ∷ xs) (suc n) d lt = inr (in_at xs n d (omega arith))

-- a function of what another gives
map_again : {X Y Z : Type 0} (f : Y → Z) (g : X → Y) (xs : List X) → map f (map g xs) ≡ map (λ x. f (g x)) xs
map_again f g [] = refl
map_again {X} {Y} {Z} f g (x ∷ xs) = ap (λ (l : List Z). f (g x) ∷ l) (map_again f g xs)

-- the name at a place is that of the server there
pub name_at_place : (w : World) (n : ℕ) → get_or (map (λ server. server.name) w) n [] ≡ (server_in w n).name
name_at_place [] n = refl
name_at_place (s ∷ ss) zero = refl
name_at_place (s ∷ ss) (suc n) = name_at_place ss n

-- ---- servers by name

-- the server at the place of a name is the one of the name
place_found : (w : World) (name : List ℕ) (n : ℕ) → n < length w → get_or (map (λ server. server.name) w) n [] ≡ name → AreApart (map (λ server. server.name) w) → server_named name w ≡ Some (server_in w n)
place_found [] name n lt is apart = absurd (omega arith)
place_found (s ∷ ss) name zero lt is apart = ap (λ (t : Bool). cond t (Some s) (server_named name ss)) (subst (λ (l : List ℕ). bytes_eq name l ≡ true) (sym is) (name_itself name))
place_found (s ∷ ss) name (suc n) lt is apart = pick (bytes_eq name s.name) refl (place_found ss name n (omega arith) is (λ i j before within. apart (suc i) (suc j) (omega arith) (omega arith)))
  where
    pick : (t : Bool) → bytes_eq name s.name ≡ t → server_named name ss ≡ Some (server_in ss n) → cond t (Some s) (server_named name ss) ≡ Some (server_in ss n)
    pick false other rest = rest
    pick true same rest = absurd (apart 0 (suc n) (omega arith) (simp length-map (omega arith)) (sym (same_name name s.name same) ∙ sym is))

-- if no server has a name, none is found by it
none_named : (w : World) (name : List ℕ) → HasNone (map (λ server. server.name) w) name → server_named name w ≡ None
none_named [] name none = refl
none_named (s ∷ ss) name none = pick (bytes_eq name s.name) refl (none_named ss name (λ n lt. none (suc n) (omega arith)))
  where
    pick : (t : Bool) → bytes_eq name s.name ≡ t → server_named name ss ≡ None → cond t (Some s) (server_named name ss) ≡ None
    pick false other rest = rest
    pick true same rest = absurd (none 0 (omega arith) (sym (same_name name s.name same)))

-- ---- what a server holds

-- the tables of definitions that a server holds
pub holds_defs : (w : World) (server : Server) (c : Contents) → Holds w server c → (t : ℕ) → c areas.Defs t ≡ definition_table server t
unfolding tables
holds_defs w server c holds t = holds areas.Defs t

-- what a server holds are keys and values of its tables
pub holds_spelt : (w : World) (server : Server) (c : Contents) → ServerKeepsRules w server → Holds w server c → IsSpelt rules c
holds_spelt w server c keeps holds areas.Defs zero k v has = rows_spelt rules areas.Defs 0 short_text defined_table_spelling (table_rows server) k v (all_weaker (RowFits IsName IsDefinedTable) (λ r. rules.is_key areas.Defs 0 (short_text r.0) × rules.is_value areas.Defs 0 (defined_table_spelling r.1)) (table_rows server) (λ r fit. ((r.0, fit.0, refl), (r.1, fit.1, refl))) (table_rows_are w server keeps).fit) (sym (ap (λ (u : Table). u k) (holds_defs w server c holds 0)) ∙ has)
holds_spelt w server c keeps holds areas.Defs (suc zero) k v has = rows_spelt rules areas.Defs 1 short_text defined_registration_spelling (registration_rows server) k v (all_weaker (RowFits IsName IsDefinedRegistration) (λ r. rules.is_key areas.Defs 1 (short_text r.0) × rules.is_value areas.Defs 1 (defined_registration_spelling r.1)) (registration_rows server) (λ r fit. ((r.0, fit.0, refl), (r.1, fit.1, refl))) (registration_rows_are w server keeps).fit) (sym (ap (λ (u : Table). u k) (holds_defs w server c holds 1)) ∙ has)
holds_spelt w server c keeps holds areas.Defs (suc (suc zero)) k v has = rows_spelt rules areas.Defs 2 set_spelling source_set_spelling (source_set_rows server) k v (all_weaker (RowFits IsSet IsSourceSet) (λ r. rules.is_key areas.Defs 2 (set_spelling r.0) × rules.is_value areas.Defs 2 (source_set_spelling r.1)) (source_set_rows server) (λ r fit. ((r.0, fit.0, refl), (r.1, fit.1, refl))) (source_rows_are w server keeps).fit) (sym (ap (λ (u : Table). u k) (holds_defs w server c holds 2)) ∙ has)
holds_spelt w server c keeps holds areas.Defs (suc (suc (suc zero))) k v has = rows_spelt rules areas.Defs 3 set_spelling target_set_spelling (target_set_rows server) k v (all_weaker (RowFits IsSet IsTargetSet) (λ r. rules.is_key areas.Defs 3 (set_spelling r.0) × rules.is_value areas.Defs 3 (target_set_spelling r.1)) (target_set_rows server) (λ r fit. ((r.0, fit.0, refl), (r.1, fit.1, refl))) (target_rows_are w server keeps).fit) (sym (ap (λ (u : Table). u k) (holds_defs w server c holds 3)) ∙ has)
holds_spelt w server c keeps holds a t k v has = (tt, tt)

-- ---- servers that stand for a world

module _ {K : Type 0} (kept : K → Kept) (s0 : Sites K) (closed : AllClosed (work kept s0)) (w : World) (stands : Stands (names s0) (held kept s0) w) where
  -- the world has as many servers
  pub same_count : length w ≡ length (names s0)
  same_count = sym (length-map w (λ (server : Server). server.name)) ∙ ap length stands.named

  -- each keeps the rules
  pub keeps_at : (n : ℕ) → n < length (names s0) → ServerKeepsRules w (server_in w n)
  keeps_at n lt = all_at_place (ServerKeepsRules w) w n (empty_server []) stands.sound.definitions.servers (omega (arith, same_count))

  -- each is seen to hold what the world calls for
  pub seen_at : (n : ℕ) → n < length (names s0) → (c : Contents) × (sees kept s0 n ≡ Some c) × Holds w (server_in w n) c
  seen_at n lt =
      let r = zip_at_place (Reveals w) w (held kept s0) n (empty_server []) None stands.servers (omega (arith, same_count)) in
      (r.0, ap (seen_of (get_or (held kept s0) n None)) (closed n) ∙ r.1, r.2)

  -- the records that were read of a table of definitions are those of its rows
  pub read_is : {A X : Type 0} (key_fits : A → Type 0) (key : A → List ℕ) (fits : X → Type 0) (spelling : X → List ℕ) (t n : ℕ) (rows : List (A × X)) (records : List X) → n < length (names s0) → AreRows key_fits key fits rows → definition_table (server_in w n) t ≡ table_from_rows key spelling rows → IfSome (sees kept s0 n) (HasRecords key_fits key fits spelling areas.Defs t records) → records ≡ map (λ row. row.1) rows
  read_is key_fits key fits spelling t n rows records lt are is read =
      let r = seen_at n lt in
      let has = subst (λ (o : Option Contents). IfSome o (HasRecords key_fits key fits spelling areas.Defs t records)) r.1 read in
      has rows are (holds_defs w (server_in w n) r.0 r.2 t ∙ is)

  -- the sets that were read are those whose target the server is
  pub targets_read : (n : ℕ) (records : List TargetSet) → n < length (names s0) → IfSome (sees kept s0 n) (HasRecords IsSet set_spelling IsTargetSet target_set_spelling areas.Defs 3 records) → map (λ row. row.def) records ≡ map (λ row. row.1.def) (target_set_rows (server_in w n))
  targets_read n records lt read =
      let server = server_in w n in
      let rows : records ≡ map (λ row. row.1) (target_set_rows server) = read_is IsSet set_spelling IsTargetSet target_set_spelling 3 n (target_set_rows server) records lt (target_rows_are w server (keeps_at n lt)) refl read in
      ap (map (λ (row : TargetSet). row.def)) rows ∙ map_again (λ (row : TargetSet). row.def) (λ (row : SetId × TargetSet). row.1) (target_set_rows server)

  -- no damage is reported of them
  pub none_damaged : (s1 : Sites K) (e : Fault) → Blames kept s0 s1 (ShowsDamage kept s0) e → IsNoDamage e
  none_damaged s1 e blames = no_damage kept s0 s1 (λ s. s < length (names s0)) rules e (λ s lt. let r = seen_at s lt in (r.0, r.1, spelt_undamaged rules (λ a t key c h. h, λ a t key value c h. h) r.0 (holds_spelt w (server_in w s) r.0 (keeps_at s lt) r.2))) blames

  -- the server at the place of a name is the world's server of that name
  pub server_at_place : (name : List ℕ) (n : ℕ) → AreApart (names s0) → IsPlace (names s0) name n → server_named name w ≡ Some (server_in w n)
  server_at_place name n apart place = place_found w name n (omega (arith, same_count, place.within)) (ap (λ (l : List (List ℕ)). get_or l n []) stands.named ∙ place.is) (subst AreApart (sym stands.named) apart)

  -- if no server has a name, the world has none of that name
  pub no_server : (name : List ℕ) → HasNone (names s0) name → server_named name w ≡ None
  no_server name none = none_named w name (subst (λ (l : List (List ℕ)). HasNone l name) (sym stands.named) none)

-- ---- calls that change nothing

-- the servers stand for the world afterwards
pub stands_on : {K : Type 0} (kept : K → Kept) (s0 s1 : Sites K) (x : Bounds) (w : World) → Stays kept s0 s1 x → Stands (names s0) (held kept s0) w → Stands (names s1) (held kept s1) w
stands_on kept s0 s1 x w stays stands = subst (λ (l : List (List ℕ)). Stands l (held kept s1) w) (sym stays.passes.names) (subst (λ (h : List (Option Contents)). Stands (names s0) h w) (sym stays.held) stands)
