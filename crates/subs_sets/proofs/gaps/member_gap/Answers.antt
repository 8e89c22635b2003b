use Rattle.std.proofs.Common.{None, Some, refl, sym, ◌∙◌}
use Rattle.std.proofs.lemmas.Result.{err_from_is_err_and}
use Rattle.world_store.specs.Words.{b32, registration_state_spelling, IsRegistrationState}
use Rattle.site_store.specs.Words.{reads_of_one, RowIs, sees, needed_breaks, breaks_after, memory_after, looks_then, sees_back, sees_on, if_seen}
use Rattle.repl_types.specs.declared.area.Area.TheVariants as areas
use Rattle.set_places.specs.Members.{HasRegistration}
use Rattle.subs_sets.specs.Rules.{captured_rules, source_rules}
use Rattle.subs_sets.proofs.JoinedRules.{member_breaks, captured_breaks}
use Rattle.subs_sets.proofs.Looking.{looked}
use Rattle.subs_sets.proofs.MemberGaps.{gap_read}
use Rattle.subs_sets.proofs.gaps.member_gap.Goals as goal

pub returns-in_err-reg-clause-fault : goal.returns-in_err-reg-clause-fault
returns-in_err-reg-clause-fault g c =
    let p = err_from_is_err_and c.from_residual.result c.from_residual.ensures.1 in
    rw (p.1, p.2) (member_breaks g.K.Keeper.kept c.args.sites.now c.read_registration.new.sites c.args.set.now.source c.in_err-reg.field-0.0 c.in_err-reg.ensures.fault)

pub returns-in_err-state-clause-fault : goal.returns-in_err-state-clause-fault
returns-in_err-state-clause-fault g c =
    let p = err_from_is_err_and c.from_residual-in_err-state.result c.from_residual-in_err-state.ensures.1 in
    let kept = g.K.Keeper.kept in
    let s0 = c.args.sites.now in
    let s1 = c.read_registration.new.sites in
    let s2 = c.get_needed.new.self in
    let source = c.args.set.now.source in
    let reg = c.in_ok-reg.reg in
    let key = b32 reg.number in
    let look = c.in_ok-reg.ensures.ok in
    rw (p.1, p.2) (breaks_after source_rules kept s0 s1 s2 source c.in_err-state.field-0.0 look (captured_breaks kept s1 s2 source c.in_err-state.field-0.0
    (needed_breaks captured_rules kept IsRegistrationState registration_state_spelling s1 s2 source areas.Capture 1 key (reads_of_one 1 source areas.Capture) c.in_err-state.field-0.0 (λ bytes h. h)
    (if_seen (sees kept s1 source) (HasRegistration reg) (captured_rules.is_needed areas.Capture 1 key) (λ d has. (reg.number, refl, (has.0, reg, c.in_ok-reg.ensures.fits, has.1, refl))) (sees_on kept s0 s1 source (HasRegistration reg) look c.in_ok-reg.ensures.stands))
    c.in_err-state.ensures.fault)))

pub returns-in_err-place-clause-fault : goal.returns-in_err-place-clause-fault
returns-in_err-place-clause-fault g c =
    let p = err_from_is_err_and c.from_residual-in_err-place.result c.from_residual-in_err-place.ensures.1 in
    let kept = g.K.Keeper.kept in
    let source = c.args.set.now.source in
    rw (p.1, p.2) (memory_after source_rules kept c.args.sites.now c.get_needed.new.self source (looks_then kept c.args.sites.now c.read_registration.new.sites c.get_needed.new.self c.in_ok-reg.ensures.ok (looked kept c.read_registration.new.sites c.get_needed.new.self source areas.Capture c.in_ok-state.ensures.ok)))

pub returns-in_default-clause-ok : goal.returns-in_default-clause-ok
returns-in_default-clause-ok g c =
    let kept = g.K.Keeper.kept in
    looks_then kept c.args.sites.now c.read_registration.new.sites c.get_needed.new.self c.in_ok-reg.ensures.ok (looked kept c.read_registration.new.sites c.get_needed.new.self c.args.set.now.source areas.Capture c.in_ok-state.ensures.ok)

pub returns-in_default-clause-gap : goal.returns-in_default-clause-gap
returns-in_default-clause-gap g c = λ w k sound placed reveals own at.
    let kept = g.K.Keeper.kept in
    let s0 = c.args.sites.now in
    let set = c.args.set.now in
    let reg = c.in_ok-reg.reg in
    let read = c.in_ok-state.ensures in
    gap_read k c.args.member own reg at (c.in_ok-reg.ensures.registration w k sound placed reveals) w set (sees kept s0 set.source) c.args.point c.in_ok-state.state None sound placed reveals read.fits.fits
    (sees_back kept s0 c.read_registration.new.sites set.source (RowIs registration_state_spelling areas.Capture 1 (b32 reg.number) (Some c.in_ok-state.state)) c.in_ok-reg.ensures.ok read.row) (sym c.in_default.is ∙ c.in_ok-place.ensures)

pub returns-clause-ok : goal.returns-clause-ok
returns-clause-ok g c =
    let kept = g.K.Keeper.kept in
    looks_then kept c.args.sites.now c.read_registration.new.sites c.get_needed.new.self c.in_ok-reg.ensures.ok (looked kept c.read_registration.new.sites c.get_needed.new.self c.args.set.now.source areas.Capture c.in_ok-state.ensures.ok)

pub returns-clause-gap : goal.returns-clause-gap
returns-clause-gap g c = λ w k sound placed reveals own at.
    let kept = g.K.Keeper.kept in
    let s0 = c.args.sites.now in
    let set = c.args.set.now in
    let reg = c.in_ok-reg.reg in
    let read = c.in_ok-state.ensures in
    gap_read k c.args.member own reg at (c.in_ok-reg.ensures.registration w k sound placed reveals) w set (sees kept s0 set.source) c.args.point c.in_ok-state.state (Some c.in-Some.place) sound placed reveals read.fits.fits
    (sees_back kept s0 c.read_registration.new.sites set.source (RowIs registration_state_spelling areas.Capture 1 (b32 reg.number) (Some c.in_ok-state.state)) c.in_ok-reg.ensures.ok read.row) (sym c.in-Some.is ∙ c.in_ok-place.ensures)
