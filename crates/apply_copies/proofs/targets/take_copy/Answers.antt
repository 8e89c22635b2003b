use Rattle.std.proofs.Common.{inl, inr, sym, subst, IfOk}
use Rattle.site_store.specs.Words.{GoesOn}
use Rattle.target_steps.specs.declared.step.Step.{Step}
use Rattle.target_steps.specs.Taking.{TakesMember}
use Rattle.apply_copies.specs.ChangeRules.{change_source_rules}
use Rattle.apply_copies.specs.Copies.{is_user_copy, ShowsCopyDamage}
use Rattle.set_places.specs.Targets.{target_number}
use Rattle.apply_copies.specs.Rules.{source_rules}
use Rattle.apply_copies.specs.laws.ChangesUndamaged.{changes_undamaged}
use Rattle.apply_copies.specs.laws.TargetLaws.{copy_target}
use Rattle.apply_copies.specs.laws.Undamaged.{copies_undamaged}
use Rattle.apply_copies.proofs.CopySteps.{load_takes, changes_take}
use Rattle.apply_copies.proofs.StepFaults.{fault_at_ends, answer_undamaged}
use Rattle.apply_copies.proofs.targets.take_copy.Goals as goal

pub returns-in-Refresh-clause-ok : goal.returns-in-Refresh-clause-ok
returns-in-Refresh-clause-ok g c =
    let kept = g.K.Keeper.kept in
    let s0 = c.args.sites.now in
    let s1 = c.load_rows.new.sites in
    let set = c.args.set.now in
    let place = c.args.member in
    let answer = c.load_rows.result in
    let loads = c.load_rows.ensures in
    subst (λ (step : Step). IfOk answer (λ counts. GoesOn kept s0 s1 set.target (TakesMember kept is_user_copy s0 set place step ShowsCopyDamage counts))) (sym c.in-Refresh.is)
    (load_takes kept s0 s1 set place c.requires.member c.requires.open c.in-Refresh.point c.in-Refresh.time answer loads.ok loads.counts)

pub returns-in-Refresh-clause-fault : goal.returns-in-Refresh-clause-fault
returns-in-Refresh-clause-fault g c =
    let set = c.args.set.now in
    fault_at_ends g.K.Keeper.kept source_rules (λ a cause saw h. inl h) c.args.sites.now set (target_number set.at_target.number c.args.member) c.load_rows.new.sites c.load_rows.result (copy_target set.at_target c.args.member c.requires.own) c.load_rows.ensures.fault

pub returns-in-Refresh-clause-undamaged : goal.returns-in-Refresh-clause-undamaged
returns-in-Refresh-clause-undamaged g c =
    let kept = g.K.Keeper.kept in
    let s0 = c.args.sites.now in
    let s1 = c.load_rows.new.sites in
    answer_undamaged kept source_rules (λ a cause saw h. inl h) s0 c.args.set.now c.args.member c.args.step s1 c.load_rows.result copies_undamaged c.requires.source c.requires.member c.load_rows.ensures.fault

pub returns-in-Block-clause-ok : goal.returns-in-Block-clause-ok
returns-in-Block-clause-ok g c =
    let kept = g.K.Keeper.kept in
    let s0 = c.args.sites.now in
    let s1 = c.apply_rows.new.sites in
    let set = c.args.set.now in
    let place = c.args.member in
    let b = c.in-Block in
    let answer = c.apply_rows.result in
    subst (λ (step : Step). IfOk answer (λ counts. GoesOn kept s0 s1 set.target (TakesMember kept is_user_copy s0 set place step ShowsCopyDamage counts))) (sym b.is)
    (changes_take kept s0 s1 set place c.requires.member c.requires.open b.from b.from_time b.upto b.time b.base answer c.apply_rows.ensures.ok)

pub returns-in-Block-clause-fault : goal.returns-in-Block-clause-fault
returns-in-Block-clause-fault g c =
    let set = c.args.set.now in
    fault_at_ends g.K.Keeper.kept change_source_rules (λ a cause saw h. inr h) c.args.sites.now set (target_number set.at_target.number c.args.member) c.apply_rows.new.sites c.apply_rows.result (copy_target set.at_target c.args.member c.requires.own) c.apply_rows.ensures.fault

pub returns-in-Block-clause-undamaged : goal.returns-in-Block-clause-undamaged
returns-in-Block-clause-undamaged g c =
    let kept = g.K.Keeper.kept in
    let s0 = c.args.sites.now in
    let s1 = c.apply_rows.new.sites in
    answer_undamaged kept change_source_rules (λ a cause saw h. inr h) s0 c.args.set.now c.args.member c.args.step s1 c.apply_rows.result changes_undamaged c.requires.source c.requires.member c.apply_rows.ensures.fault
