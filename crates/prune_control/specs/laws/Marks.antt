-- The marks of sets, as their sources hold them.
use Rattle.std.proofs.Common.{◌≡◌, ℕ, zero, ◌/◌, ◌%◌, ◌^◌, List, [], ◌∷◌, ◌++◌, sym, ap, subst, ◌∙◌, arith, inl, inr, Option, Some, None, slice_get}
use Rattle.std.proofs.lemmas.Option.{none-some}
use Rattle.world_store.specs.Words.{b32, b64, one_whole, mark_spelling, IsMark, SyncMark, one_mark, table_from_rows, row_of, mark_rows, Holds, tables, first_table, Spells, no_first}
use Rattle.site_store.specs.Words.{Contents, Table, Shows, IsUndamaged}
use Rattle.repl_model.specs.Words.{Area, DamageCause, SourceSet, IsSound, ServerKeepsRules, SourceSide, Server, World, KnownSet, known_sets, known_stands, source_in, In, at_one}
use Rattle.repl_types.specs.declared.area.Area.TheVariants as areas
use Rattle.repl_types.specs.declared.status.DamageCause.TheVariants as causes
use Rattle.set_places.specs.laws.Points.{mark_short, signal_short}
use Rattle.set_places.specs.laws.SetRows.{held_source_row}
use Rattle.prune_control.specs.Noting.{may_be_mark, calls_for_mark, mark_rules}
use Rattle.prune_control.specs.laws.Numbered.{row_at}

-- ---- the table of marks

-- what is stored of a set at its source
abbrev pub mark_of : SourceSide → SyncMark
mark_of side = record { mark = side.mark; signal = side.signal }

-- what a server holds of marks
pub held_marks : (w : World) (server : Server) (c : Contents) → Holds w server c → c areas.Prune 0 ≡ table_from_rows b32 mark_spelling (mark_rows server)
unfolding tables first_table
held_marks w server c holds = sym (no_first (c areas.Prune 0)) ∙ holds areas.Prune 0

-- the mark that the source of a known set holds at the set's number is the world's
pub mark_is : (w : World) (k : KnownSet) (number : ℕ) (known : SyncMark) (c : Contents) → IsSound w → In k (known_sets w) → slice_get k.source.source_sets number ≡ Some k.at_source → Holds w k.source c → IsMark known → c areas.Prune 0 (b32 number) ≡ Some (mark_spelling known) → known ≡ mark_of k.at_source
mark_is w k number known c sound i at holds fits has =
    let keeps : ServerKeepsRules w k.source = at_one (ServerKeepsRules w) w k.source sound.definitions.servers (source_in w k (known_stands w k i)) in
    one_whole IsMark mark_spelling one_mark known (mark_of k.at_source) fits (mark_short w k sound i, signal_short w k sound i)
    (inside (mark_spelling known) (mark_spelling (mark_of k.at_source)) (sym has ∙ ap (λ (u : Table). u (b32 number)) (held_marks w k.source c holds) ∙ row_at mark_of mark_spelling number k.at_source k.source.source_sets (omega (arith, keeps.counts.0)) at))
  where
    inside : (a b : List ℕ) → ◌≡◌ {A = Option (List ℕ)} (Some a) (Some b) → a ≡ b
    inside a b e = cc

-- ---- damage

-- a number has the spelling of one of eight bytes
low_spelled : (n : ℕ) → b64 (n % 2 ^ 64) ≡ b64 n
unfolding b64
low_spelled n =
    let low = n % 2 ^ 64 in
    let a : low / 256 ^ 7 % 256 ≡ n / 256 ^ 7 % 256 = omega arith in
    let b : low / 256 ^ 6 % 256 ≡ n / 256 ^ 6 % 256 = omega arith in
    let c : low / 256 ^ 5 % 256 ≡ n / 256 ^ 5 % 256 = omega arith in
    let d : low / 256 ^ 4 % 256 ≡ n / 256 ^ 4 % 256 = omega arith in
    let e : low / 256 ^ 3 % 256 ≡ n / 256 ^ 3 % 256 = omega arith in
    let f : low / 256 ^ 2 % 256 ≡ n / 256 ^ 2 % 256 = omega arith in
    let g : low / 256 % 256 ≡ n / 256 % 256 = omega arith in
    let h : low % 256 ≡ n % 256 = omega arith in
    λ i. a i ∷ b i ∷ c i ∷ d i ∷ e i ∷ f i ∷ g i ∷ h i ∷ []

-- so each mark has the spelling of one whose numbers have eight bytes
mark_spelt : (x : SyncMark) → Spells IsMark mark_spelling (mark_spelling x)
mark_spelt x = (record { mark = x.mark % 2 ^ 64; signal = x.signal % 2 ^ 64 }, (omega arith, omega arith), sym (λ i. low_spelled x.mark i ++ low_spelled x.signal i))

-- what a server of a sound world holds shows no damage by the rules of marks
pub marks_undamaged : (w : World) (server : Server) (c : Contents) → IsSound w → In server w → Holds w server c → IsUndamaged mark_rules c
marks_undamaged w server c sound i holds a cause shows = by_cause a cause shows
  where
    keeps : ServerKeepsRules w server
    keeps = at_one (ServerKeepsRules w) w server sound.definitions.servers i

    spelt : (a : Area) (t : ℕ) (key bytes : List ℕ) → c a t key ≡ Some bytes → may_be_mark a t bytes
    spelt areas.Prune zero key bytes has =
        let found = row_of b32 mark_spelling (mark_rows server) key bytes (ap (λ (u : Table). u key) (sym (held_marks w server c holds)) ∙ has) in
        subst (Spells IsMark mark_spelling) found.3 (mark_spelt found.0.1)
    spelt a t key bytes has = tt

    not_missing : (a : Area) (t : ℕ) (key : List ℕ) → c a t key ≡ None → calls_for_mark a t key c → ⊥
    not_missing areas.Prune zero key none needed =
        let row : SourceSet = needed.2.1 in
        let side = held_source_row w server c keeps holds needed.2.0 row needed.2.2 needed.2.3 in
        let at : slice_get server.source_sets needed.0 ≡ Some side.0 = ap (slice_get server.source_sets) (sym needed.2.4) ∙ side.1 in
        none-some (mark_spelling (mark_of side.0)) (sym none ∙ ap (c areas.Prune 0) needed.1 ∙ ap (λ (u : Table). u (b32 needed.0)) (held_marks w server c holds) ∙ row_at mark_of mark_spelling needed.0 side.0 server.source_sets (omega (arith, keeps.counts.0)) at)
    not_missing a t key none needed = absurd needed

    by_cause : (a : Area) (cause : DamageCause) → Shows mark_rules a cause (Some c) → ⊥
    by_cause a (causes.Spelling bytes) h = elim h.1 [
      | inl k ↦ k.0 tt
      | inr v ↦ v.0 (spelt a h.0 v.1.0 bytes v.1.1)
    ]
    by_cause a (causes.Absent key) h = not_missing a h.0 key h.1.0 h.1.1
    by_cause a (causes.Unfit bytes) h = h.1.2
    by_cause a (causes.NoRest steps) h = h
