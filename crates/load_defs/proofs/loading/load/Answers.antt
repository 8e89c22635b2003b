use Rattle.std.proofs.Common.{◌≡◌, sym, subst}
use Rattle.std.specs.List.{AllByRecursion}
use Rattle.std.proofs.lemmas.Result.{err_from_is_err_and}
use Rattle.site_store.specs.Words.{passes_keeps}
use Rattle.spelled_defs.specs.declared.defs.Defs.{Defs}
use Rattle.stored_defs.specs.DefinitionReads.{in_defs, known_reads}
use Rattle.stored_defs.specs.Rules.{ShowsDamage}
use Rattle.load_laws.specs.texts.Texts.{defs_beside}
use Rattle.load_laws.specs.planned.Planned.{known_stored}
use Rattle.load_defs.specs.Counts.{loaded_counts, NoneIsNew}
use Rattle.load_defs.specs.Putting.{CanBeLoaded}
use Rattle.load_defs.proofs.NoneNew.{none_left}
use Rattle.load_defs.proofs.OneText.{IsPlanned, can_be_loaded, blames_reading, blames_loading, reading_fails, planning_fails, loading_fails, has_loaded}
use Rattle.load_defs.proofs.loading.load.Goals as goal

pub returns-in_err-stored-clause-fault : goal.returns-in_err-stored-clause-fault
returns-in_err-stored-clause-fault g c =
    let p = err_from_is_err_and c.from_residual.result c.from_residual.ensures.1 in
    rw (p.1, p.2) (reading_fails g.K.Keeper.kept c.args.sites.now c.args.raw.now c.read_servers.new.sites (in_defs known_reads) (ShowsDamage g.K.Keeper.kept c.args.sites.now) c.in_err-stored.field-0.0 c.in_err-stored.ensures.fault)

pub returns-in_err-stored-clause-blames : goal.returns-in_err-stored-clause-blames
returns-in_err-stored-clause-blames g c =
    let p = err_from_is_err_and c.from_residual.result c.from_residual.ensures.1 in
    rw (p.1, p.2) (blames_reading g.K.Keeper.kept c.args.sites.now c.read_servers.new.sites (in_defs known_reads) (ShowsDamage g.K.Keeper.kept c.args.sites.now) c.in_err-stored.field-0.0 c.in_err-stored.ensures.fault)

pub returns-in_err-plan-clause-fault : goal.returns-in_err-plan-clause-fault
returns-in_err-plan-clause-fault g c =
    let p = err_from_is_err_and c.from_residual-in_err-plan.result c.from_residual-in_err-plan.ensures.1 in
    rw (p.1, p.2) (planning_fails g.K.Keeper.kept c.args.sites.now c.args.raw.now c.in_ok-stored.stored c.in_ok-stored.ensures.stored c.read_servers.new.sites c.in_err-plan.field-0.0 c.in_ok-stored.ensures.ok.held (rw c.as_slice.ensures at c.in_err-plan.ensures.refused))

pub load_servers-requires-clause-loads : goal.load_servers-requires-clause-loads
load_servers-requires-clause-loads g c =
    let keeps = rw c.as_slice.ensures at c.in_ok-plan.ensures.keeps in
    let contents = rw c.as_slice.ensures at c.in_ok-plan.ensures.contents in
    let planned : c.in_ok-plan.plan.defs ≡ defs_beside c.args.raw.now c.in_ok-stored.stored = rw c.as_slice.ensures at c.in_ok-plan.ensures.defs in
    rw c.as_slice-2.ensures (subst (λ (d : Defs). AllByRecursion (CanBeLoaded d) c.in_ok-stored.stored) (sym planned) (can_be_loaded c.args.raw.now c.in_ok-stored.stored keeps contents))

pub returns-in_err-load_servers-clause-fault : goal.returns-in_err-load_servers-clause-fault
returns-in_err-load_servers-clause-fault g c =
    let planned : c.in_ok-plan.plan.defs ≡ defs_beside c.args.raw.now c.in_ok-stored.stored = rw c.as_slice.ensures at c.in_ok-plan.ensures.defs in
    let plan : IsPlanned c.args.raw.now c.in_ok-stored.stored = record {
      accepted = rw c.as_slice.ensures at c.in_ok-plan.ensures.accepted;
      keeps = rw c.as_slice.ensures at c.in_ok-plan.ensures.keeps;
      contents = rw c.as_slice.ensures at c.in_ok-plan.ensures.contents;
      sets = rw planned at c.in_ok-plan.ensures.typed;
    } in
    let p = err_from_is_err_and c.from_residual-in_err-load_servers.result c.from_residual-in_err-load_servers.ensures.1 in
    rw (p.1, p.2) (loading_fails g.K.Keeper.kept c.args.sites.now c.args.raw.now c.in_ok-stored.stored c.in_ok-stored.ensures.stored plan c.read_servers.new.sites c.load_servers.new.sites (in_defs known_reads) c.in_ok-stored.ensures.ok c.in_err-load_servers.field-0.0 c.in_err-load_servers.ensures.blames (rw (c.as_slice-2.ensures, planned) at c.in_err-load_servers.ensures.stopped))

pub returns-in_err-load_servers-clause-blames : goal.returns-in_err-load_servers-clause-blames
returns-in_err-load_servers-clause-blames g c =
    let p = err_from_is_err_and c.from_residual-in_err-load_servers.result c.from_residual-in_err-load_servers.ensures.1 in
    rw (p.1, p.2) (blames_loading g.K.Keeper.kept c.args.sites.now c.read_servers.new.sites c.load_servers.new.sites (ShowsDamage g.K.Keeper.kept c.args.sites.now) c.in_err-load_servers.field-0.0 c.in_ok-stored.ensures.ok.passes.faults c.in_err-load_servers.ensures.blames)

pub returns-then-none_is_new-clause-ok : goal.returns-then-none_is_new-clause-ok
returns-then-none_is_new-clause-ok g c =
    let kept = g.K.Keeper.kept in
    let stored = c.in_ok-stored.stored in
    let s1 = c.read_servers.new.sites in
    let planned : c.in_ok-plan.plan.defs ≡ defs_beside c.args.raw.now stored = rw c.as_slice.ensures at c.in_ok-plan.ensures.defs in
    let plan : IsPlanned c.args.raw.now stored = record {
      accepted = rw c.as_slice.ensures at c.in_ok-plan.ensures.accepted;
      keeps = rw c.as_slice.ensures at c.in_ok-plan.ensures.keeps;
      contents = rw c.as_slice.ensures at c.in_ok-plan.ensures.contents;
      sets = rw planned at c.in_ok-plan.ensures.typed;
    } in
    let counts = rw (c.as_slice.ensures, planned) at c.in_ok-plan.ensures.loaded in
    let none : NoneIsNew (loaded_counts (known_stored stored) (defs_beside c.args.raw.now stored)) = subst NoneIsNew counts (c.none_is_new.ensures.0 c.if-none_is_new.true) in
    has_loaded kept c.args.sites.now c.args.raw.now stored c.in_ok-stored.ensures.stored plan s1 s1 (in_defs known_reads) c.in_ok-stored.ensures.ok c.in_ok-plan.plan.loaded counts
    (none_left kept s1 (defs_beside c.args.raw.now stored) stored none)

pub returns-clause-ok : goal.returns-clause-ok
returns-clause-ok g c =
    let planned : c.in_ok-plan.plan.defs ≡ defs_beside c.args.raw.now c.in_ok-stored.stored = rw c.as_slice.ensures at c.in_ok-plan.ensures.defs in
    let plan : IsPlanned c.args.raw.now c.in_ok-stored.stored = record {
      accepted = rw c.as_slice.ensures at c.in_ok-plan.ensures.accepted;
      keeps = rw c.as_slice.ensures at c.in_ok-plan.ensures.keeps;
      contents = rw c.as_slice.ensures at c.in_ok-plan.ensures.contents;
      sets = rw planned at c.in_ok-plan.ensures.typed;
    } in
    has_loaded g.K.Keeper.kept c.args.sites.now c.args.raw.now c.in_ok-stored.stored c.in_ok-stored.ensures.stored plan c.read_servers.new.sites c.load_servers.new.sites (in_defs known_reads) c.in_ok-stored.ensures.ok c.in_ok-plan.plan.loaded (rw (c.as_slice.ensures, planned) at c.in_ok-plan.ensures.loaded) (rw (c.as_slice-2.ensures, planned) at c.in_ok-load_servers.ensures.ok)

pub returns-in_err-load_servers-clause-servers : goal.returns-in_err-load_servers-clause-servers
returns-in_err-load_servers-clause-servers g c = passes_keeps g.K.Keeper.kept c.args.sites.now c.read_servers.new.sites c.load_servers.new.sites (in_defs known_reads) c.in_ok-stored.ensures.ok.passes c.load_servers.ensures.servers

pub returns-clause-servers : goal.returns-clause-servers
returns-clause-servers g c = passes_keeps g.K.Keeper.kept c.args.sites.now c.read_servers.new.sites c.load_servers.new.sites (in_defs known_reads) c.in_ok-stored.ensures.ok.passes c.load_servers.ensures.servers
