use Rattle.std.proofs.Common.{◌+◌, List, [], get_or, subst, ◌∙◌, ◌≡◌, ℕ, refl, arith}
use Rattle.std.proofs.lemmas.Result.{err_from_is_err_and}
use Rattle.world_store.specs.Words.{short_text, IsName, set_spelling, IsSet, HasTableSpelling, HasRegistrationSpelling, table_rows, registration_rows, source_set_rows, target_set_rows, definition_limit, table_rows_are, registration_rows_are, source_rows_are, target_rows_are}
use Rattle.site_store.specs.Words.{stays_none}
use Rattle.repl_model.specs.Words.{all_weaker, defined_table_spelling, IsDefinedTable, defined_registration_spelling, IsDefinedRegistration, HasSetDefSpelling, source_set_spelling, IsSourceSet, target_set_spelling, IsTargetSet, again_defined_table, again_defined_registration, again_source_set, again_target_set, server_in}
use Rattle.stored_defs.specs.DefinitionReads.{in_defs}
use Rattle.stored_defs.specs.laws.Standing.{keeps_at}
use Rattle.load_defs.proofs.StoredReads.{after_one, after_two, after_three, read_fails, records_are, server_is}
use Rattle.load_defs.proofs.reading.read_server.Goals as goal

pub returns-in_err-tables-clause-fault : goal.returns-in_err-tables-clause-fault
returns-in_err-tables-clause-fault g c =
    let kept = g.K.Keeper.kept in
    let s0 = c.args.sites.now in
    let p = err_from_is_err_and c.from_residual.result c.from_residual.ensures.1 in
    rw (p.1, p.2) (read_fails kept s0 s0 c.args.server 0 (stays_none kept s0 (in_defs 0)) c.requires.server IsName short_text IsDefinedTable defined_table_spelling 0 (λ bytes h. h) (λ bytes h. h) (omega arith) c.read_records.new.sites c.in_err-tables.field-0.0 c.in_err-tables.ensures.fault)

pub returns-in_err-registrations-clause-fault : goal.returns-in_err-registrations-clause-fault
returns-in_err-registrations-clause-fault g c =
    let kept = g.K.Keeper.kept in
    let s0 = c.args.sites.now in
    let one = after_one kept s0 c.args.server c.read_records.new.sites c.in_ok-tables.ensures.ok in
    let p = err_from_is_err_and c.from_residual-in_err-registrations.result c.from_residual-in_err-registrations.ensures.1 in
    rw (p.1, p.2) (read_fails kept s0 c.read_records.new.sites c.args.server definition_limit one c.requires.server IsName short_text IsDefinedRegistration defined_registration_spelling 1 (λ bytes h. h) (λ bytes h. h) (omega arith) c.read_records-2.new.sites c.in_err-registrations.field-0.0 c.in_err-registrations.ensures.fault)

pub returns-in_err-sources-clause-fault : goal.returns-in_err-sources-clause-fault
returns-in_err-sources-clause-fault g c =
    let kept = g.K.Keeper.kept in
    let s0 = c.args.sites.now in
    let two = after_two kept s0 c.args.server c.read_records.new.sites c.read_records-2.new.sites c.in_ok-tables.ensures.ok c.in_ok-registrations.ensures.ok in
    let p = err_from_is_err_and c.from_residual-in_err-sources.result c.from_residual-in_err-sources.ensures.1 in
    rw (p.1, p.2) (read_fails kept s0 c.read_records-2.new.sites c.args.server (definition_limit + definition_limit) two c.requires.server IsSet set_spelling IsSourceSet source_set_spelling 2 (λ bytes h. h) (λ bytes h. h) (omega arith) c.read_records-3.new.sites c.in_err-sources.field-0.0 c.in_err-sources.ensures.fault)

pub returns-in_err-targets-clause-fault : goal.returns-in_err-targets-clause-fault
returns-in_err-targets-clause-fault g c =
    let kept = g.K.Keeper.kept in
    let s0 = c.args.sites.now in
    let three = after_three kept s0 c.args.server c.read_records.new.sites c.read_records-2.new.sites c.read_records-3.new.sites c.in_ok-tables.ensures.ok c.in_ok-registrations.ensures.ok c.in_ok-sources.ensures.ok in
    let p = err_from_is_err_and c.from_residual-in_err-targets.result c.from_residual-in_err-targets.ensures.1 in
    rw (p.1, p.2) (read_fails kept s0 c.read_records-3.new.sites c.args.server (definition_limit + definition_limit + definition_limit) three c.requires.server IsSet set_spelling IsTargetSet target_set_spelling 3 (λ bytes h. h) (λ bytes h. h) (omega arith) c.read_records-4.new.sites c.in_err-targets.field-0.0 c.in_err-targets.ensures.fault)

pub returns-clause-stored : goal.returns-clause-stored
returns-clause-stored g c = λ w stands.
    let kept = g.K.Keeper.kept in
    let s0 = c.args.sites.now in
    let n = c.args.server in
    let within = c.requires.server in
    let server = server_in w n in
    let keeps = keeps_at kept s0 c.requires.closed w stands n within in
    let one = after_one kept s0 n c.read_records.new.sites c.in_ok-tables.ensures.ok in
    let two = after_two kept s0 n c.read_records.new.sites c.read_records-2.new.sites c.in_ok-tables.ensures.ok c.in_ok-registrations.ensures.ok in
    let three = after_three kept s0 n c.read_records.new.sites c.read_records-2.new.sites c.read_records-3.new.sites c.in_ok-tables.ensures.ok c.in_ok-registrations.ensures.ok c.in_ok-sources.ensures.ok in
    server_is kept s0 w n stands c.in_ok-name.name c.in_ok-tables.tables c.in_ok-registrations.registrations c.in_ok-sources.sources c.in_ok-targets.targets
    (c.in_ok-name.ensures ∙ subst (λ (l : List (List ℕ)). c.name.result.now ≡ get_or l n []) (c.in_ok-targets.ensures.ok.passes.names ∙ three.passes.names) c.name.ensures)
    (records_are kept s0 s0 n 0 (stays_none kept s0 (in_defs 0)) within IsName short_text IsDefinedTable defined_table_spelling 0 c.requires.closed w stands (table_rows server) c.in_ok-tables.tables (table_rows_are w server keeps) refl c.in_ok-tables.ensures.records)
    (records_are kept s0 c.read_records.new.sites n definition_limit one within IsName short_text IsDefinedRegistration defined_registration_spelling 1 c.requires.closed w stands (registration_rows server) c.in_ok-registrations.registrations (registration_rows_are w server keeps) refl c.in_ok-registrations.ensures.records)
    (records_are kept s0 c.read_records-2.new.sites n (definition_limit + definition_limit) two within IsSet set_spelling IsSourceSet source_set_spelling 2 c.requires.closed w stands (source_set_rows server) c.in_ok-sources.sources (source_rows_are w server keeps) refl c.in_ok-sources.ensures.records)
    (records_are kept s0 c.read_records-3.new.sites n (definition_limit + definition_limit + definition_limit) three within IsSet set_spelling IsTargetSet target_set_spelling 3 c.requires.closed w stands (target_set_rows server) c.in_ok-targets.targets (target_rows_are w server keeps) refl c.in_ok-targets.ensures.records)

pub returns-clause-spelled : goal.returns-clause-spelled
returns-clause-spelled g c = record {
  tables = all_weaker IsDefinedTable (λ row. HasTableSpelling row.def) c.in_ok-tables.tables again_defined_table c.in_ok-tables.ensures.fit;
  registrations = all_weaker IsDefinedRegistration (λ row. HasRegistrationSpelling row.registration) c.in_ok-registrations.registrations again_defined_registration c.in_ok-registrations.ensures.fit;
  sources = all_weaker IsSourceSet (λ row. HasSetDefSpelling row.def) c.in_ok-sources.sources again_source_set c.in_ok-sources.ensures.fit;
  targets = all_weaker IsTargetSet (λ row. HasSetDefSpelling row.def) c.in_ok-targets.targets again_target_set c.in_ok-targets.ensures.fit;
}
