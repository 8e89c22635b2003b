use Rattle.std.proofs.Common.{◌≡◌, ◌≢◌, ◌<◌, List, inr, length, subst, ◌∙◌}
use Rattle.std.proofs.lemmas.Result.{err_from_is_err_and}
use Rattle.site_store.specs.Words.{work, sees, breaks_after, looks_sees, goes_then, looks_open}
use Rattle.repl_model.specs.Words.{row_limit, TargetColumn, again_source_set}
use Rattle.apply_copies.specs.Clearing.{Clears}
use Rattle.apply_copies.specs.Copying.{LoadsAll}
use Rattle.set_places.specs.Targets.{target_number}
use Rattle.apply_copies.specs.Loading.{LoadsCopy}
use Rattle.apply_copies.specs.Rules.{source_rules, target_rules}
use Rattle.apply_copies.proofs.Elsewhere.{open_elsewhere, looked_then, sees_elsewhere, breaks_elsewhere}
use Rattle.apply_copies.proofs.MemberFaults.{own_at, source_stops, member_stops, target_stops, wide_breaks}
use Rattle.apply_copies.proofs.MemberLoads.{loads_copy}
use Rattle.apply_copies.proofs.loading.load_member.Goals as goal

pub returns-in_err-reg-clause-fault : goal.returns-in_err-reg-clause-fault
returns-in_err-reg-clause-fault g c =
    let p = err_from_is_err_and c.from_residual.result c.from_residual.ensures.1 in
    rw (p.1, p.2) (member_stops g.K.Keeper.kept c.args.sites.now c.args.set.now (target_number c.args.set.now.at_target.number c.args.member) c.read_registration.new.sites c.in_err-reg.field-0.0 c.in_err-reg.ensures.fault)

pub unfit-requires : goal.unfit-requires
unfit-requires g c = again_source_set c.args.set.now.at_source c.requires.source.fits

pub returns-then-as_slice-gt-ROW_LIMIT-clause-fault : goal.returns-then-as_slice-gt-ROW_LIMIT-clause-fault
returns-then-as_slice-gt-ROW_LIMIT-clause-fault g c =
    let set = c.args.set.now in
    let own = c.index-as_slice-member.result in
    let at = own_at set.at_source.def.members c.as_slice.result.now c.args.member own c.as_slice.ensures c.requires.member c.index-as_slice-member.is in
    let wide : row_limit < length own.columns = subst (λ (l : List TargetColumn). row_limit < length l) c.as_slice-2.ensures c.if-as_slice-gt-ROW_LIMIT.true in
    let kept = g.K.Keeper.kept in
    let s0 = c.args.sites.now in
    source_stops kept s0 set (target_number set.at_target.number c.args.member) c.unfit.new.self c.unfit.result (wide_breaks kept s0 set source_rules (λ key value d wide. inr wide) c.args.member own at c.requires.source c.read_registration.new.sites c.unfit.new.self c.unfit.result wide c.in_ok-reg.ensures.read c.unfit.ensures.closes c.unfit.ensures.fault)

pub returns-in_err-clear_rows-clause-fault : goal.returns-in_err-clear_rows-clause-fault
returns-in_err-clear_rows-clause-fault g c =
    let kept = g.K.Keeper.kept in
    let set = c.args.set.now in
    let e = c.in_err-clear_rows.field-0.0 in
    let number = target_number set.at_target.number c.args.member in
    let p = err_from_is_err_and c.from_residual-in_err-clear_rows.result c.from_residual-in_err-clear_rows.ensures.1 in
    rw (p.1, p.2) (target_stops kept c.args.sites.now set number c.clear_rows.new.sites e (breaks_after (target_rules number) kept c.args.sites.now c.read_registration.new.sites c.clear_rows.new.sites set.target e c.in_ok-reg.ensures.ok (rw c.target_number-number.ensures at c.in_err-clear_rows.ensures.fault)))

pub returns-in_err-rows-clause-fault : goal.returns-in_err-rows-clause-fault
returns-in_err-rows-clause-fault g c =
    let kept = g.K.Keeper.kept in
    let set = c.args.set.now in
    let s0 = c.args.sites.now in
    let s1 = c.read_registration.new.sites in
    let s2 = c.clear_rows.new.sites in
    let s3 = c.load_all.new.sites in
    let e = c.in_err-rows.field-0.0 in
    let number = c.target_number-number.result in
    let p = err_from_is_err_and c.from_residual-in_err-rows.result c.from_residual-in_err-rows.ensures.1 in
    let ne : set.source ≢ set.target = open_elsewhere (work kept s0) set.target set.source c.requires.open c.requires.closed in
    rw (p.1, p.2) (source_stops kept s0 set (target_number set.at_target.number c.args.member) s3 e (breaks_after source_rules kept s0 s1 s3 set.source e c.in_ok-reg.ensures.ok (breaks_elsewhere kept s1 s2 set.target set.source (Clears number) ne c.in_ok-clear_rows.ensures.ok source_rules s3 e c.in_err-rows.ensures.fault)))

pub returns-clause-ok : goal.returns-clause-ok
returns-clause-ok g c =
    let kept = g.K.Keeper.kept in
    let set = c.args.set.now in
    let place = c.args.member in
    let s0 = c.args.sites.now in
    let s1 = c.read_registration.new.sites in
    let s2 = c.clear_rows.new.sites in
    let s3 = c.load_all.new.sites in
    let own = c.index-as_slice-member.result in
    let reg = c.in_ok-reg.reg in
    let rows = c.in_ok-rows.rows in
    let number = c.target_number-number.result in
    let looks = c.in_ok-reg.ensures.ok in
    let clears = c.in_ok-clear_rows.ensures.ok in
    let ne : set.source ≢ set.target = open_elsewhere (work kept s0) set.target set.source c.requires.open c.requires.closed in
    let saw : sees kept s2 set.source ≡ sees kept s0 set.source = sees_elsewhere kept s1 s2 set.target set.source (Clears number) ne clears ∙ looks_sees kept s0 s1 looks set.source in
    let at = own_at set.at_source.def.members c.as_slice.result.now place own c.as_slice.ensures c.requires.member c.index-as_slice-member.is in
    let open_at = looks_open kept s0 s1 set.target c.requires.open looks in
    looked_then kept s0 s1 s3 set.target (LoadsCopy kept s0 set place rows) (LoadsCopy kept s0 set place rows) c.requires.open looks (goes_then kept s1 s2 s3 set.target (Clears number) (LoadsAll (sees kept s0 set.source) reg.number number own rows) (LoadsCopy kept s0 set place rows) open_at clears (rw saw at c.in_ok-rows.ensures.ok) (λ d e f cleared loaded. loads_copy kept s0 set place own reg at c.in_ok-reg.ensures.registration number rows d e f c.target_number-number.ensures cleared loaded)) (λ d e loaded. loaded)
