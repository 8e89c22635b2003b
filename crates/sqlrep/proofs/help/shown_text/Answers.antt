use Rattle.std.proofs.Common.{◌≡◌, ◌∙◌, sym, [], map, string_bytes, refl, true≢false}
use Rattle.clap.specs.Kinds.{HasKind}
use Rattle.clap.specs.Simple.{app_of}
use Rattle.sqlrep.proofs.Asked.{of_sqlrep, nothing_asked, no_mistake, no_text}
use Rattle.sqlrep.proofs.help.shown_text.Goals as goal

pub returns-in_default-clause-asked : goal.returns-in_default-clause-asked
returns-in_default-clause-asked c = nothing_asked _
    (of_sqlrep (λ kinds. kinds ≡ []) (app_of c.in_ok-sqlrep_command.field-0) (map string_bytes c.args.words.now) c.in_ok-sqlrep_command.ensures c.in_default.ensures.kinds)

pub returns-in_default-kind : goal.returns-in_default-kind
returns-in_default-kind c = record {
  asked = no_mistake c.in-Err.error.kind _
      (of_sqlrep (λ kinds. HasKind kinds c.in-Err.error) (app_of c.in_ok-sqlrep_command.field-0) (map string_bytes c.args.words.now) c.in_ok-sqlrep_command.ensures c.in-Err.ensures.kinds)
      (λ same. c.in_default-kind.not-OutOfMemory (c.kind.ensures ∙ same)) (c.if-use_stderr.ensures.0 refl);
  other = λ _. refl;
}

pub returns : goal.returns
returns c = record {
  asked = λ _. refl;
  other = no_text c.in-Err.error.kind _
      (of_sqlrep (λ kinds. HasKind kinds c.in-Err.error) (app_of c.in_ok-sqlrep_command.field-0) (map string_bytes c.args.words.now) c.in_ok-sqlrep_command.ensures c.in-Err.ensures.kinds)
      (λ neither. true≢false (sym (c.if-use_stderr.ensures.1 neither)));
}
