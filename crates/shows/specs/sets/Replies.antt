-- The reply about a read-only set, which says how far it is; and the targets of a server.
use Rattle.std.specs.Prelude.{ℕ, if◌then◌else◌, List, length, map, find, Option, Some, None}
use Rattle.std.specs.List.{filter_map, flat_map}
use Rattle.std.specs.Str.{bytes_eq}
use Rattle.repl_definitions.specs.declared.member.Member.{Member}
use Rattle.reply_text.specs.declared.reply.Reply.TheVariants as replies
use Rattle.reply_text.specs.declared.status.ReadOnlyStatus.{ReadOnlyStatus}
use Rattle.reply_text.specs.Replies.{reply_line}
use Rattle.repl_model.specs.SoundDefinitions.{read_only_sets}
use Rattle.repl_model.specs.Trails.{Trail, synchpoint, base_of}
use Rattle.repl_model.specs.World.{Server, World, KnownSet, known_from}
use Rattle.world_store.specs.TargetRows.{has_points, numbered_members}

-- ---- how far a set is

-- a point of the targets, if they were ever refreshed
abbrev pub if_refreshed : Trail → ℕ → Option ℕ
if_refreshed trail point = if has_points trail then Some point else None

-- how far a read-only set is
abbrev pub status_of_set : KnownSet → ReadOnlyStatus
status_of_set k = let side = k.at_target in record {
  set = side.def.id;
  synchpoint = if_refreshed side.trail (synchpoint side.trail);
  base = if_refreshed side.trail (base_of side.trail);
  flag = side.flag;
  entries = length side.trail;
  mark = k.at_source.mark;
}

-- the line that says so
abbrev pub set_line : KnownSet → List ℕ
set_line k = reply_line (replies.ReadOnlySet (status_of_set k))

-- ---- targets

-- the members of a set, each as a target of the set, with their places
abbrev pub targets_of_set : KnownSet → List (KnownSet × (ℕ × Member))
targets_of_set k = map (λ numbered. (k, numbered)) (numbered_members k.at_target.def)

-- the targets at a server: of each read-only set whose target it is, those of its members, with their places
abbrev pub targets_at : World → Server → List (KnownSet × (ℕ × Member))
targets_at w server = flat_map targets_of_set (read_only_sets (filter_map (known_from w server) server.target_sets))

-- the one of a name, if there is one
abbrev pub target_named : List ℕ → World → Server → Option (KnownSet × (ℕ × Member))
target_named name w server = find (λ target. bytes_eq name target.1.1.target) (targets_at w server)
