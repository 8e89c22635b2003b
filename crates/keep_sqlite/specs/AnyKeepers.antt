-- What a clause sees of a keeper of either kind.
use Rattle.keep_core.specs.Kept.{Kept}
use Rattle.keep_map.specs.Keepers.{kept_of as map_kept}
use Rattle.keep_sqlite.specs.Keepers.{kept_of as sqlite_kept}
use Rattle.keep_sqlite.specs.declared.any_keeper.AnyKeeper.{AnyKeeper}
use Rattle.keep_sqlite.specs.declared.any_keeper.AnyKeeper.TheVariants.{Map, Sqlite}

-- a keeper of either kind is seen as what it is
abbrev pub any_kept : {S : Type 0} → AnyKeeper S → Kept
any_kept (Map keeper) = map_kept keeper
any_kept (Sqlite keeper) = sqlite_kept keeper
