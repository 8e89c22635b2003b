use Rattle.std.proofs.Common.{List, map, sym, subst}
use Rattle.site_store.specs.Words.{AreServers}
use Rattle.run_words.specs.declared.opening.ServerWord.{ServerWord}
use Rattle.sqlrep.proofs.Needed.{are_needed, names_needed}
use Rattle.sqlrep.proofs.run_opening.Goals as goal

pub open_servers-requires : goal.open_servers-requires
open_servers-requires c =
    let opening = c.args.opening.now in
    subst (λ (words : List ServerWord). AreServers (map (λ word. word.name) words)) (sym c.needed_servers-servers.ensures)
    (subst AreServers (sym (names_needed opening)) (are_needed opening c.requires.right))
