-- What a run does with the text of a load, once its last line is read.
use Rattle.std.specs.Prelude.{ℕ, Bool, false, if◌then◌else◌, List, [], ◌∷◌, ◌++◌, Option, Some, None, option_and_then}
use Rattle.std.specs.List.{list_all}
use Rattle.std.specs.Option.{option_map_or}
use Rattle.std.specs.Str.{is_utf8}
use Rattle.toml.specs.Data.{Members}
use Rattle.toml.specs.Parse.{parse_document}
use Rattle.repl_types.specs.declared.refusal.Refusal.{Refusal}
use Rattle.repl_types.specs.declared.refusal.Refusal.TheVariants as refusals
use Rattle.repl_types.specs.declared.refusal.DefPlace.TheVariants as places
use Rattle.repl_types.specs.declared.refusal.LimitKind.TheVariants as limits
use Rattle.member_targets.specs.Kinds.{is_taken}
use Rattle.spelled_defs.specs.Spelled.{target_kind}
use Rattle.repl_commands.specs.declared.written.RawDefs.{RawDefs}
use Rattle.repl_commands.specs.declared.written.RawMember.{RawMember}
use Rattle.repl_commands.specs.declared.written.RawSet.{RawSet}
use Rattle.raw_defs.specs.Raw.{raw_defs_of}
use Rattle.raw_defs.specs.Shape.{fits_item}
use Rattle.raw_defs.specs.declared.shape.ItemKind.TheVariants as items
use Rattle.repl_model.specs.World.{World}
use Rattle.reply_text.specs.Replies.{reply_line}
use Rattle.reply_text.specs.declared.reply.Reply.TheVariants as replies
use Rattle.run_core.specs.Runs.{Event, writes}
use Rattle.load_defs.specs.Loading.{defs_in, load_commits, loaded_in, refusal_in}
use Rattle.load_defs.specs.declared.counts.Loaded.{Loaded}
use Rattle.run_commands.specs.parts.Refusing.{refused}

-- the definitions that a document states, if it has the shape of definitions
abbrev pub stated_by : Members → Option RawDefs
stated_by document = if fits_item items.Document document then Some (raw_defs_of document) else None

-- the definitions that a text states, if it is one of definitions
abbrev pub raw_of : List ℕ → Option RawDefs
raw_of text = if is_utf8 text then option_and_then stated_by (parse_document text) else None

-- a member is of a kind that is carried out
abbrev pub is_carried_out_member : RawMember → Bool
is_carried_out_member member = option_map_or is_taken (target_kind member) false

-- all members of a set are
abbrev pub is_carried_out_set : RawSet → Bool
is_carried_out_set set = list_all is_carried_out_member set.members

-- all members of all sets of a text are
abbrev pub has_carried_out_sets : RawDefs → Bool
has_carried_out_sets raw = list_all is_carried_out_set raw.sets

-- why a text is refused that isn't one of definitions that are carried out
abbrev pub bad_text : Refusal
bad_text = refusals.BadDefinition 1 places.Whole

-- the line that says how many items were new
abbrev pub counts_line : Loaded → List ℕ
counts_line loaded = reply_line (replies.Loaded loaded.tables loaded.registrations loaded.sets)

-- that line after a load in a world
abbrev pub loaded_line : RawDefs → World → List ℕ
loaded_line raw w = counts_line (loaded_in raw w)

-- at definitions: their commits and that line, or the line that refuses them
abbrev pub raw_events : RawDefs → World → List (Event World)
raw_events raw w = if has_carried_out_sets raw
    then option_map_or refused (refusal_in raw w) (load_commits (defs_in raw w) w ++ writes (loaded_line raw w) ∷ [])
    else refused bad_text

-- at a text
abbrev pub text_events : List ℕ → World → List (Event World)
text_events text w = option_map_or (λ raw. raw_events raw w) (raw_of text) (refused bad_text)

-- at the end of the body of a load, None if it has more bytes than it may have
abbrev pub load_text_events : Option (List ℕ) → World → List (Event World)
load_text_events None w = refused (refusals.LimitReached limits.LoadBody)
load_text_events (Some text) w = text_events text w
