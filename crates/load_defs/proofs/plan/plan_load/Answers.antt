use Rattle.std.proofs.Common.{ap, ◌∙◌, None, subst, sym, ◌≡◌}
use Rattle.spelled_defs.specs.declared.defs.Defs.{Defs}
use Rattle.load_defs.specs.Counts.{loaded_counts}
use Rattle.load_laws.specs.texts.Texts.{defs_beside, text_defs}
use Rattle.load_laws.specs.laws.Spelled.{spells_all}
use Rattle.load_plan.specs.Differences.{AreSpelled}
use Rattle.load_plan.specs.Refusals.{count_refusal}
use Rattle.repl_model.specs.Words.{map_none}
use Rattle.load_defs.specs.Planning.{bad_definition}
use Rattle.spelled_defs.specs.Context.{context_of}
use Rattle.checked_defs.specs.Whole.{LeavesNothingOut}
use Rattle.load_defs.proofs.plan.plan_load.Goals as goal

pub returns-clause-loaded : goal.returns-clause-loaded
returns-clause-loaded c = c.in_ok-loaded.ensures ∙ ap (λ (known : Defs). loaded_counts known c.in_ok-defs.defs) c.in_ok-known.ensures

-- the definitions that were checked have spellings, unless a limit on counts is passed
pub refuse_unfit-requires-clause-defs : goal.refuse_unfit-requires-clause-defs
refuse_unfit-requires-clause-defs c = λ counts.
    let raw = c.args.raw.now in
    let stored = c.args.stored.now in
    let known = c.in_ok-known.ensures in
    let is : c.in_ok-defs.defs ≡ defs_beside raw stored = c.in_ok-defs.ensures.defs ∙ ap (text_defs raw) known in
    subst AreSpelled (sym is) (spells_all raw stored (record {
      whole = c.requires.raw;
      kept = map_none _ _ (subst (λ (k : Defs). bad_definition raw k ≡ None) known c.in_ok-defs.ensures.kept);
      all = subst (λ (k : Defs). LeavesNothingOut raw (context_of raw k).tables) known c.in_ok-defs.ensures.whole;
      spelled = c.requires.stored;
      counts = subst (λ (d : Defs). count_refusal d stored ≡ None) is counts;
    }))
