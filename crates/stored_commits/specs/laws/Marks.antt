-- What the source of a set holds once the set's mark and signal are others there.
use Rattle.std.proofs.Common.{◌≡◌, ℕ, zero, suc, ◌≤◌, Bool, true, false, cond, List, length, map, Some, refl, sym, ap, ◌∙◌, arith}
use Rattle.world_store.specs.Words.{b32, set_spelling, set_cmp, unit_key_spelling, mark_spelling, decided_spelling, rejected_spelling, SyncMark, Decided, first_decided, table_from_rows, put_here, put_other_table, source_set_rows, mark_rows, decided_rows, first_decided_rows, rejected_rows, no_rows, tables, with_first, first_table, Holds, no_first}
use Rattle.repl_model.specs.Words.{LogRecord, SetId, source_set_spelling, SourceSet, by_key, SourceSide, Server, World, KnownSet, same_set, known_sets, read_only_sets, ServerKeepsRules, IsSound, In, at_one, id_itself, source_in}
use Rattle.repl_types.specs.declared.area.Area.TheVariants as areas
use Rattle.keep_core.specs.Contents.{Contents, Table, set_key, put_at}
use Rattle.world_commits.specs.actions.laws.Signals.{set_stands}
use Rattle.stored_commits.specs.actions.ActedServers.{HasSourceNumber}
use Rattle.stored_commits.specs.laws.OneRow.{OneChanges, one_changes, numbered_stay, numbered_lists_stay, row_changes}

-- what is stored of a set's mark
abbrev mark_of : SourceSide → SyncMark
mark_of side = record { mark = side.mark; signal = side.signal }

-- The row of a set at its source gets another mark and another signal.
module _ (point seq : SourceSide → ℕ) (world : World) (server : Server) (side : SourceSide) (number : ℕ) where
  -- what the rows of sets become
  abbrev marked : SourceSide → SourceSide
  marked s = cond (same_set side.def.id s.def.id) (record s { mark = point s; signal = seq s }) s

  -- what is made of a row without its mark and its signal stays
  unmarked : {Y : Type 0} (f : SourceSide → Y) → ((s : SourceSide) → f (record s { mark = point s; signal = seq s }) ≡ f s) → (s : SourceSide) → f (marked s) ≡ f s
  unmarked {Y} f alike s = by_test (same_set side.def.id s.def.id)
    where
      by_test : (b : Bool) → f (cond b (record s { mark = point s; signal = seq s }) s) ≡ f s
      by_test true = alike s
      by_test false = refl

  -- what is then stored of the set's mark
  abbrev new_mark : SyncMark
  new_mark = record { mark = point side; signal = seq side }

  -- the server with these rows
  abbrev after : Server
  after = record server { source_sets = map marked server.source_sets }

  -- definitions of sets stay
  definitions_stay : source_set_rows after ≡ source_set_rows server
  definitions_stay = ap (λ (rows : List (SetId × SourceSet)). by_key set_cmp rows)
      (numbered_stay (λ (s : ℕ × SourceSide). (s.1.def.id, record { number = s.0; def = s.1.def })) marked (λ n s. unmarked (λ (a : SourceSide). (a.def.id, record { number = n; def = a.def })) (λ a. refl) s) 0 server.source_sets)

  -- so does what the sets have decided
  decided_stay : decided_rows after ≡ decided_rows server
  decided_stay = numbered_stay (λ (s : ℕ × SourceSide). (s.0, record { t = s.1.t; d = s.1.d })) marked (λ n s. unmarked (λ (a : SourceSide). (n, record { t = a.t; d = a.d })) (λ a. refl) s) 0 server.source_sets

  -- what says so before they have decided
  first_decided_stay : first_decided_rows after ≡ first_decided_rows server
  first_decided_stay = numbered_stay (λ (s : ℕ × SourceSide). (s.0, first_decided)) marked (λ n s. refl) 0 server.source_sets

  -- and what they rejected
  rejected_stay : rejected_rows after ≡ rejected_rows server
  rejected_stay = numbered_lists_stay (λ (s : ℕ × SourceSide). map (λ c. (record { set = s.0; seq = c.0 }, record { code = c.1 })) s.1.codes) marked (λ n s. unmarked (λ (a : SourceSide). map (λ c. (record { set = n; seq = c.0 }, record { code = c.1 })) a.codes) (λ a. refl) s) 0 server.source_sets

  module _ (few : length server.source_sets ≤ 256) (one : OneChanges marked server.source_sets number side) where
    -- the marks are those before, with the new one at the set's number
    marks_after : table_from_rows b32 mark_spelling (mark_rows after) ≡ set_key (table_from_rows b32 mark_spelling (mark_rows server)) (b32 number) (Some (mark_spelling new_mark))
    marks_after =
        row_changes mark_of mark_spelling marked server.source_sets number side one few
        ∙ ap (λ (b : Bool). set_key (table_from_rows b32 mark_spelling (mark_rows server)) (b32 number) (Some (mark_spelling (mark_of (cond b (record side { mark = point side; signal = seq side }) side))))) (id_itself side.def.id)

    -- the server holds what the world calls for there, once the mark is put
    put_holds : (held : Contents) → Holds world server held → Holds world after (put_at held areas.Prune 0 (b32 number) (Some (mark_spelling new_mark)))
    unfolding tables first_table
    put_holds held holds areas.Defs (suc (suc zero)) = holds areas.Defs 2 ∙ ap (table_from_rows set_spelling source_set_spelling) (sym definitions_stay)
    put_holds held holds areas.Prune zero =
        let key = b32 number in
        let mark = Some (mark_spelling new_mark) in
        no_first (put_at held areas.Prune 0 key mark areas.Prune 0)
        ∙ put_here held areas.Prune 0 key mark
        ∙ ap (λ (t : Table). set_key t key mark) (sym (no_first (held areas.Prune 0)) ∙ holds areas.Prune 0)
        ∙ sym marks_after
    put_holds held holds areas.Prune (suc zero) =
        ap (λ (rows : List (ℕ × Decided)). with_first (table_from_rows b32 decided_spelling rows) (held areas.Prune 1)) first_decided_stay
        ∙ holds areas.Prune 1
        ∙ ap (table_from_rows b32 decided_spelling) (sym decided_stay)
    put_holds held holds areas.Prune (suc (suc zero)) = holds areas.Prune 2 ∙ ap (table_from_rows unit_key_spelling rejected_spelling) (sym rejected_stay)
    put_holds held holds areas.Prune (suc (suc (suc n))) =
        ap (with_first no_rows) (put_other_table held areas.Prune 0 (suc (suc (suc n))) (b32 number) (Some (mark_spelling new_mark)) (λ e. omega (arith, e)))
        ∙ holds areas.Prune (suc (suc (suc n)))
    put_holds held holds a n = holds a n

-- The source of a read-only set with another log and another mark and signal of the set holds what a world calls for
-- there, once the mark is put, if it held it with those before.
pub marked_holds : (point seq : SourceSide → ℕ) (world after_it : World) (k : KnownSet) (log : List LogRecord) (number : ℕ) (held : Contents) → IsSound world → In k (read_only_sets (known_sets world)) → HasSourceNumber k number
    → Holds after_it (record k.source { log = log }) held
    → Holds after_it (after point seq after_it (record k.source { log = log }) k.at_source number) (put_at held areas.Prune 0 (b32 number) (Some (mark_spelling (record { mark = point k.at_source; signal = seq k.at_source }))))
marked_holds point seq world after_it k log number held sound i is holds =
    let rules = at_one (ServerKeepsRules world) world k.source sound.definitions.servers (source_in world k (set_stands world k i)) in
    let becomes = marked point seq after_it (record k.source { log = log }) k.at_source number in
    put_holds point seq after_it (record k.source { log = log }) k.at_source number rules.counts.0
    (one_changes (λ (side : SourceSide). side.def.id) becomes k.at_source (λ side e. ap (λ (b : Bool). cond b (record side { mark = point side; signal = seq side }) side) e) k.source.source_sets number rules.source_names is)
    held holds
