-- The worked world is sound.
use Rattle.std.proofs.Common.{◌≡◌, ℕ, ◌≤◌, ◌<◌, ◌+◌, List, [], ◌∷◌, length, codes, refl, inl, arith, pos, flat_map}
use Rattle.repl_types.specs.Sizes.{value_limit}
use Rattle.repl_types.specs.declared.value.Value.TheVariants.{Int}
use Rattle.repl_definitions.specs.Spelling.{b16, b32, b64, IsRow, IsText}
use Rattle.repl_definitions.specs.declared.expr.Expr.TheVariants as exprs
use Rattle.repl_definitions.specs.Members.{IsMember}
use Rattle.repl_definitions.specs.Sets.{IsSetDef, set_def_spelling}
use Rattle.repl_definitions.specs.laws.Exprs.{expr_views}
use Rattle.repl_definitions.specs.laws.Predicates.{predicate_views}
use Rattle.repl_model.specs.Units.{units}
use Rattle.repl_model.specs.SourceAt.{unplaced}
use Rattle.repl_model.specs.Applicable.{change_fits}
use Rattle.repl_model.specs.World.{known_sets}
use Rattle.repl_model.specs.Rules.{MemberKeepsRules}
use Rattle.repl_model.specs.SoundLogs.{LogIsSound}
use Rattle.repl_model.specs.SoundDefinitions.{SetKeepsLimits, ServerKeepsRules, KnownSetKeepsRules, DefinitionsAreSound}
use Rattle.repl_model.specs.Sound.{NumbersAreSound, TrailIsSound, IsSound}
use Rattle.repl_model.specs.WorkedOrders.{orders, orders_of, order}
use Rattle.repl_model.specs.WorkedCopies.{changed_log}
use Rattle.repl_model.specs.WorkedWorld.{orders_copy, copied_set, hq, shop, worked_world, copied}
use Rattle.repl_model.specs.laws.Trees.{read_by_nodes}
use Rattle.repl_model.specs.laws.Applied.{all_apply_first}

-- ---- known sets

-- the one set is known
pub one_known : known_sets worked_world ≡ copied ∷ []
unfolding known_sets
one_known = refl

-- ---- logs

-- the items are texts
pen_is_text : IsText (codes "pen")
unfolding lib.Utf8.encode
pen_is_text = (omega arith, (codes "pen", (refl, refl)))

ink_is_text : IsText (codes "ink")
unfolding lib.Utf8.encode
ink_is_text = (omega arith, (codes "ink", (refl, refl)))

-- an order of small numbers is a row
order_is_row : (id qty : ℕ) (thing : List ℕ) → id < 1000 → qty < 1000 → IsText thing → IsRow (order id thing (Int (pos qty)))
order_is_row id qty thing small few text = (omega arith, (record { sfits = omega (arith, small) }, (text, (record { sfits = omega (arith, few) }, tt))))

-- the log of the source is sound
hq_log_sound : LogIsSound hq
unfolding units change_fits
hq_log_sound = record {
  short = omega arith;
  typed = (
    (omega arith, refl),
    (
      (omega arith, omega arith, refl, (refl, refl)),
      (
        (omega arith, refl, order_is_row 1 20 (codes "pen") (omega arith) (omega arith) pen_is_text),
        (
          (omega arith, refl, order_is_row 2 5 (codes "ink") (omega arith) (omega arith) ink_is_text),
          (
            (omega arith, omega arith, refl, tt),
            (
              (omega arith, refl, order_is_row 2 5 (codes "ink") (omega arith) (omega arith) ink_is_text, order_is_row 2 12 (codes "ink") (omega arith) (omega arith) ink_is_text),
              (
                (omega arith, refl, order_is_row 1 20 (codes "pen") (omega arith) (omega arith) pen_is_text, order_is_row 1 9 (codes "pen") (omega arith) (omega arith) pen_is_text),
                (
                  (omega arith, omega arith, refl, tt),
                  tt,
                ),
              ),
            ),
          ),
        ),
      ),
    ),
  );
  fits = (refl, (refl, (refl, (refl, (refl, (refl, (refl, (refl, tt))))))));
  apply = (all_apply_first orders (flat_map (λ u. unplaced u.changes) (units changed_log)), tt);
  times = refl;
  early = (omega arith, (omega arith, (omega arith, tt)));
  own = refl;
  signals = (refl, (refl, (refl, tt)));
}

-- and that of the target, which is empty
shop_log_sound : LogIsSound shop
unfolding units
shop_log_sound = record { short = omega arith; typed = tt; fits = tt; apply = tt; times = refl; early = tt; own = refl; signals = tt }

-- ---- numbers

-- the numbers of the source are sound
hq_numbers_sound : NumbersAreSound hq
unfolding units
hq_numbers_sound = record { captured = refl; floor = omega arith; registered = ((omega arith, omega arith), tt); shown = tt }

-- and those of the target
shop_numbers_sound : NumbersAreSound shop
shop_numbers_sound = record { captured = refl; floor = omega arith; registered = tt; shown = tt }

-- ---- the set

-- the member keeps the rules
member_keeps_rules : MemberKeepsRules (orders_of changed_log) orders_copy
member_keeps_rules = record {
  names = refl;
  differ = refl;
  columns = simp read_by_nodes refl;
  keys = simp exprs.outs-Column refl;
  copies = simp read_by_nodes refl;
  condensed = refl;
  sums = refl;
}

-- the member's names are names, and its parts are in their ranges
member_fits : IsMember orders_copy
member_fits = simp (expr_views, predicate_views) (refl, refl, tt, (omega arith, ((refl, (omega arith, tt)), ((refl, (omega arith, tt)), tt))), ((omega arith, tt, (tt, record { sfits = omega arith })), tt))

-- the set's names are names, and its limits have four bytes
set_fits : IsSetDef copied_set
set_fits = ((refl, refl), refl, refl, omega arith, omega arith, (omega arith, (member_fits, tt)))

-- it has few bytes
set_is_short : length (set_def_spelling copied_set) + 4 ≤ value_limit
unfolding b16 b32 b64
set_is_short = simp (expr_views, predicate_views) (omega arith)

-- it keeps its limits
set_keeps_limits : SetKeepsLimits worked_world copied_set
set_keeps_limits = record { spelled = set_fits; stored = set_is_short; members = (omega arith, omega arith); columns = (omega arith, tt); source = refl; target = refl }

-- it keeps the rules
set_keeps_rules : KnownSetKeepsRules copied
set_keeps_rules = record {
  same = refl;
  apart = refl;
  members = inl (((refl, refl, (orders_of changed_log, refl, member_keeps_rules)), tt), refl, refl, refl, refl);
}

-- its trail is sound
trail_sound : TrailIsSound copied
unfolding units
trail_sound = record { goes = (omega arith, omega arith, refl, (refl, omega arith, omega arith, refl, tt)); mark = omega arith }

-- ---- definitions

-- the source keeps the rules
hq_keeps_rules : ServerKeepsRules worked_world hq
unfolding units known_sets
hq_keeps_rules = record {
  name = refl;
  tables = ((record { names = refl; differ = refl; columns = refl; key = refl }, omega arith, record { table = refl; after = refl; before = refl }), tt);
  count = omega arith;
  differ = refl;
  sources = ((refl, set_keeps_limits, inl refl), tt);
  targets = tt;
  counts = (omega arith, omega arith);
  source_names = refl;
  target_names = refl;
  source_members = refl;
  replica_members = refl;
  origins = (refl, (refl, (refl, tt)));
}

-- and so does the target
shop_keeps_rules : ServerKeepsRules worked_world shop
unfolding units known_sets
shop_keeps_rules = record {
  name = refl;
  tables = tt;
  count = omega arith;
  differ = refl;
  sources = tt;
  targets = ((refl, set_keeps_limits, inl refl), tt);
  counts = (omega arith, omega arith);
  source_names = refl;
  target_names = refl;
  source_members = refl;
  replica_members = refl;
  origins = tt;
}

-- the definitions are sound
definitions_sound : DefinitionsAreSound worked_world
unfolding known_sets
definitions_sound = record {
  few = omega arith;
  names = refl;
  servers = (hq_keeps_rules, (shop_keeps_rules, tt));
  sets = (set_keeps_rules, tt);
  set_names = refl;
  targets = refl;
  chains = refl;
  unloaded = tt;
}

-- ---- all parts

-- the worked world is sound
pub world_sound : IsSound worked_world
unfolding known_sets units
world_sound = record {
  logs = (hq_log_sound, (shop_log_sound, tt));
  definitions = definitions_sound;
  numbers = (hq_numbers_sound, (shop_numbers_sound, tt));
  signals = ((refl, refl), tt);
  trails = (trail_sound, tt);
  replica_marks = tt;
  exactly_once = tt;
  independence = tt;
  captured_decisions = tt;
}
