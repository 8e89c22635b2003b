use Rattle.std.proofs.Common.{List, ℕ, rules, refl, inr, Option, Some, None, IfSome, true}
use Rattle.keep_core.specs.Contents.{Contents, IsNextKey}
use Rattle.keep_core.specs.Kept.{NextIs}
use Rattle.repl_types.specs.declared.area.Area.{Area}
use Rattle.site_store.proofs.records.next_record.Goals as goal

some_next : (saw : Option Contents) (a : Area) (t : ℕ) (after key out : List ℕ) → IfSome saw (NextIs a t after true key out) → IfSome saw (λ c. (k : List ℕ) × IsNextKey (c a t) after k out)
some_next None a t after key out h = tt
some_next (Some c) a t after key out h = (key, h)

pub returns-in-Ok-clause-fault : goal.returns-in-Ok-clause-fault
returns-in-Ok-clause-fault g c = rw c.misspelt.ensures (record {
  held = search rules;
  reads = search rules;
  writes = search rules;
  later = search rules;
  blames = (refl, search rules, (c.AREA-in-Err-Spelling-take.ensures, inr (search rules, search (rules, some_next))));
})
