use Rattle.std.proofs.Common.{◌∙◌, ◌<◌, refl, sym, length, arith}
use Rattle.std.proofs.lemmas.Bool.{false≢true}
use Rattle.site_store.specs.Words.{names}
use Rattle.session_core.proofs.Names.{same_names, other_names}
use Rattle.session_core.proofs.words.are_these.Goals as goal

pub returns-then-ne : goal.returns-then-ne
returns-then-ne g c =
    let within : c.loop-place.place < length c.args.servers.now = omega arith in (
      (λ t. absurd (false≢true t)),
      (λ same. absurd (other_names c.args.servers.now (names c.args.sites.now) c.loop-place.place c.index-servers-place.result c.name.result.now within c.index-servers-place.is c.name.ensures (sym c.ne.ensures ∙ c.if-ne.true) same)),
    )

pub returns : goal.returns
returns g c = (
  (λ t. same_names c.args.servers.now (names c.args.sites.now) c.loop-place.invariant.long (λ k d lt. c.loop-place.invariant.same k d (omega arith))),
  (λ same. refl),
)
