-- How the text of a load is carried out.
use Rattle.std.proofs.Common.{◌≡◌, ◌++◌, ◌∷◌, [], ◌∙◌, ℕ, List, Bool, true, false, refl, sym, ap, subst, map, Option, Some, None, if◌then◌else◌, option_and_then, append-nil}
use Rattle.std.specs.Option.{option_map_or}
use Rattle.std.specs.Str.{is_utf8}
use Rattle.std.proofs.lemmas.Str.{IsUtf8-from_is_utf8, is_utf8-from_IsUtf8}
use Rattle.world_store.specs.Words.{Stands}
use Rattle.site_store.specs.Words.{Kept, Takes, TakesPrefix, names, held}
use Rattle.site_store.specs.declared.sites.Sites.{Sites}
use Rattle.repl_model.specs.Words.{Refusal, Fault, World}
use Rattle.toml.specs.Data.{Members}
use Rattle.toml.specs.Parse.{parse_document}
use Rattle.repl_types.specs.declared.fault.Fault.TheVariants as faults
use Rattle.repl_commands.specs.declared.written.RawDefs.{RawDefs}
use Rattle.raw_defs.specs.Raw.{AreRawDefs, raw_defs_of}
use Rattle.raw_defs.specs.Shape.{fits_item}
use Rattle.raw_defs.specs.declared.shape.ItemKind.TheVariants as items
use Rattle.run_core.specs.Runs.{Event, commits, writes, last_world, lines_of, is_refused, Went, Stopped}
use Rattle.run_core.specs.laws.Runs.{went_both, stopped_in_line, stopped_in_first, stopped_in_second}
use Rattle.load_laws.specs.planned.Path.{load_path}
use Rattle.load_defs.specs.Loading.{defs_in, load_commits, load_events, refusal_in, HasLoaded, HasNotLoaded, SomeHappened}
use Rattle.load_defs.specs.declared.counts.Loaded.{Loaded}
use Rattle.run_commands.specs.load.LoadEvents.{bad_text, counts_line, has_carried_out_sets, load_text_events, loaded_line, raw_events, raw_of, stated_by}
use Rattle.run_commands.specs.parts.Parts.{Happened, StoppedIn}
use Rattle.run_commands.specs.parts.Refusing.{refused}
use Rattle.run_commands.specs.parts.RunErrors.{error_of_fault}
use Rattle.run_commands.specs.declared.parts.run_error.RunError.{RunError}
use Rattle.run_commands.specs.parts.laws.Parts.{happened_as, stopped_as, happened_quiet, stopped_quietly}

-- ---- the definitions of a text

-- a text that is read is one of definitions
is_read : (text : List ℕ) (raw : RawDefs) → AreRawDefs text raw → raw_of text ≡ Some raw
is_read text raw are = rw (is_utf8-from_IsUtf8 text are.utf8, are.parsed, are.fits) (ap (λ (r : RawDefs). Some r) (sym are.are))

-- a text that states nothing is none
is_unread : (text : List ℕ) → ((raw : RawDefs) → AreRawDefs text raw → ⊥) → raw_of text ≡ None
is_unread text none = by_utf8 (is_utf8 text) refl
  where
    by_shape : is_utf8 text ≡ true → (document : Members) → parse_document text ≡ Some document → (fits : Bool) → fits_item items.Document document ≡ fits → (if fits then Some (raw_defs_of document) else None) ≡ None
    by_shape utf8 document parsed false fits = refl
    by_shape utf8 document parsed true fits = absurd (none (raw_defs_of document) (record {
      utf8 = IsUtf8-from_is_utf8 text utf8;
      document = document;
      parsed = parsed;
      fits = fits;
      are = refl;
    }))

    by_document : is_utf8 text ≡ true → (document : Option Members) → parse_document text ≡ document → option_and_then stated_by document ≡ None
    by_document utf8 None parsed = refl
    by_document utf8 (Some document) parsed = by_shape utf8 document parsed (fits_item items.Document document) refl

    by_utf8 : (utf8 : Bool) → is_utf8 text ≡ utf8 → (if utf8 then option_and_then stated_by (parse_document text) else None) ≡ None
    by_utf8 false utf8 = refl
    by_utf8 true utf8 = by_document utf8 (parse_document text) refl

-- ---- the events of definitions

-- the line that follows the commits, or the one that refuses them
abbrev closing_events : RawDefs → World → List (Event World)
closing_events raw w = option_map_or refused (refusal_in raw w) (writes (loaded_line raw w) ∷ [])

-- the events of definitions that are carried out are those of their load, and then that line
in_turn : (raw : RawDefs) (w : World) → has_carried_out_sets raw ≡ true → raw_events raw w ≡ load_events raw w ++ closing_events raw w
in_turn raw w carried = rw carried (pick (refusal_in raw w))
  where
    made : List (Event World)
    made = load_commits (defs_in raw w) w

    line : List (Event World)
    line = writes (loaded_line raw w) ∷ []

    pick : (refusal : Option Refusal) → option_map_or refused refusal (made ++ line) ≡ option_map_or (λ refusal. []) refusal made ++ option_map_or refused refusal line
    pick None = refl
    pick (Some refusal) = refl

-- nothing is refused in them, if they aren't refused
none_refused : (raw : RawDefs) (w : World) → refusal_in raw w ≡ None → is_refused (load_events raw w ++ closing_events raw w) ≡ false
none_refused raw w accepted = rw accepted (only_commits (load_path (defs_in raw w) w))
  where
    only_commits : (path : List World) → is_refused (map commits path ++ writes (loaded_line raw w) ∷ []) ≡ false
    only_commits [] = refl
    only_commits (v ∷ path) = only_commits path

-- definitions that are refused are only refused
only_refused : (raw : RawDefs) (w : World) (refusal : Refusal) → has_carried_out_sets raw ≡ true → refusal_in raw w ≡ Some refusal → refused refusal ≡ raw_events raw w
only_refused raw w refusal carried is = rw (carried, is) refl

-- so are those that aren't carried out
pub not_carried_out : (raw : RawDefs) (refusal : Refusal) → refusal ≡ bad_text → has_carried_out_sets raw ≡ false → (w : World) → refused refusal ≡ raw_events raw w
not_carried_out raw refusal is other w = rw (is, other) refl

-- ---- the events of a text

-- those of a text that is read are those of its definitions
pub read_events : (text : List ℕ) (raw : RawDefs) → AreRawDefs text raw → (w : World) → raw_events raw w ≡ load_text_events (Some text) w
read_events text raw are w = ap (λ (o : Option RawDefs). option_map_or (λ raw. raw_events raw w) o (refused bad_text)) (sym (is_read text raw are))

-- any other text is refused
pub unread_events : (text : List ℕ) (refusal : Refusal) → refusal ≡ bad_text → ((raw : RawDefs) → AreRawDefs text raw → ⊥) → (w : World) → refused refusal ≡ load_text_events (Some text) w
unread_events text refusal is none w = ap refused is ∙ ap (λ (o : Option RawDefs). option_map_or (λ raw. raw_events raw w) o (refused bad_text)) (sym (is_unread text none))

module _ {K : Type 0} (kept : K → Kept) (s0 s1 : Sites K) (raw : RawDefs) (carried : has_carried_out_sets raw ≡ true) (t u : Option (List ℕ)) where
  -- ---- definitions that were loaded

  module _ (loaded : Loaded) (has : (w : World) → Stands (names s0) (held kept s0) w → HasLoaded kept s0 s1 raw w loaded) where
    -- the line that follows is that of their counts
    closing : (w : World) → Stands (names s0) (held kept s0) w → writes (counts_line loaded) ∷ [] ≡ closing_events raw w
    closing w stands = let here = has w stands in rw (here.accepted, here.counts) refl

    -- it was written
    pub load_written : (answer : Bool) → (answer ≡ false) × Takes t u (counts_line loaded) → Happened kept s0 s1 t u (raw_events raw) answer
    load_written answer wrote = λ w stands.
        let here = has w stands in
        let line : Went (Stands (names s0)) (writes (counts_line loaded) ∷ []) (last_world w (load_events raw w)) (held kept s1) t u = record {
          stands = (here.went t).stands;
          bytes = subst (Takes t u) (sym (append-nil (counts_line loaded))) wrote.1;
        } in
        subst (λ (events : List (Event World)). Went (Stands (names s0)) events w (held kept s1) t u × (answer ≡ is_refused events)) (sym (in_turn raw w carried)) (
          went_both (Stands (names s0)) w (load_events raw w) (closing_events raw w) (held kept s1) (held kept s1) t t u (here.went t)
              (subst (λ (events : List (Event World)). Went (Stands (names s0)) events (last_world w (load_events raw w)) (held kept s1) t u) (closing w stands) line),
          wrote.0 ∙ sym (none_refused raw w here.accepted),
        )

    -- a prefix of it was
    pub load_begun : TakesPrefix t u (counts_line loaded) → StoppedIn kept s0 s1 t u (raw_events raw)
    load_begun wrote = λ w stands.
        let here = has w stands in
        let v = last_world w (load_events raw w) in
        subst (λ (events : List (Event World)). Stopped (Stands (names s0)) events w (held kept s1) t u) (sym (in_turn raw w carried))
        (stopped_in_second (Stands (names s0)) w (load_events raw w) (closing_events raw w) (held kept s1) (held kept s1) t t u (here.went t)
        (subst (λ (events : List (Event World)). Stopped (Stands (names s0)) events v (held kept s1) t u) (closing w stands)
        (stopped_in_line (Stands (names s0)) v (counts_line loaded) [] (held kept s1) t u (here.went t).stands wrote)))

  -- ---- definitions that were refused

  module _ (refusal : Refusal) (has_not : (w : World) → Stands (names s0) (held kept s0) w → HasNotLoaded kept s0 s1 raw w (faults.Refused refusal)) where
    -- the line that refuses them was written
    pub refused_load : (answer : Bool) → (answer ≡ true) × Takes t u (lines_of (refused refusal)) → Happened kept s0 s1 t u (raw_events raw) answer
    refused_load answer wrote = happened_as kept s0 s1 t u (λ w. refused refusal) (raw_events raw) (λ w stands. only_refused raw w refusal carried (has_not w stands).0) answer
        (λ w stands. happened_quiet kept s0 s1 (has_not w stands).1 t u (λ v. refused refusal) answer (λ v at. (tt, wrote.1, wrote.0)) w stands)

    -- a prefix of it was
    pub refused_load_begun : TakesPrefix t u (lines_of (refused refusal)) → StoppedIn kept s0 s1 t u (raw_events raw)
    refused_load_begun wrote = stopped_as kept s0 s1 t u (λ w. refused refusal) (raw_events raw) (λ w stands. only_refused raw w refusal carried (has_not w stands).0)
        (λ w stands. stopped_quietly kept s0 s1 (has_not w stands).1 t u (λ v. refused refusal) (λ v at. (tt, wrote)) w stands)

module _ {K : Type 0} (kept : K → Kept) (s0 s1 : Sites K) (raw : RawDefs) (carried : has_carried_out_sets raw ≡ true) (t : Option (List ℕ)) where
  -- ---- a load that stopped

  -- some of its commits happened
  some_commits : (w : World) → SomeHappened kept s0 s1 (load_events raw) w → Stopped (Stands (names s0)) (raw_events raw w) w (held kept s1) t t
  some_commits w some =
      subst (λ (events : List (Event World)). Stopped (Stands (names s0)) events w (held kept s1) t t) (sym (in_turn raw w carried))
      (stopped_in_first (Stands (names s0)) w (load_events raw w) (closing_events raw w) (held kept s1) t t (some t))

  -- that ends the run, unless something was refused
  pub stopped_load : (e : Fault) (error : RunError) → Some error ≡ error_of_fault e → ((w : World) → Stands (names s0) (held kept s0) w → HasNotLoaded kept s0 s1 raw w e) → StoppedIn kept s0 s1 t t (raw_events raw)
  stopped_load faults.Memory error is has_not = λ w stands. some_commits w (has_not w stands)
  stopped_load (faults.Keeper n) error is has_not = λ w stands. some_commits w (has_not w stands)
  stopped_load (faults.Damaged n a cause) error is has_not = λ w stands. some_commits w (has_not w stands)
  stopped_load (faults.Refused refusal) error is has_not = absurd cc
