use Rattle.std.proofs.Common.{◌≡◌, [], get_or, codes, sym, ◌∙◌, rules, length}
use Rattle.std.proofs.lemmas.Slice.Eq.{bytes_eq-Decides}
use Rattle.site_store.specs.Words.{names}
use Rattle.session_core.proofs.Names.{two_names, not_two_names, same_bytes}
use Rattle.session_core.proofs.words.are_of_copy.Goals as goal

pub returns : goal.returns
returns g c =
    let first : codes "src" ≡ get_or (names c.args.sites.now) 0 [] = sym (same_bytes c.as_str.result.now (codes "src") (search rules)) ∙ c.as_str.ensures.text ∙ c.name.ensures in
    let second : c.as_str-2.result.now ≡ get_or (names c.args.sites.now) 1 [] = c.as_str-2.ensures.text ∙ c.name-2.ensures in
    let two : length (names c.args.sites.now) ≡ 2 = sym c.len.ensures.count ∙ c.if-len-ne2.false in (
      (λ t. two_names (codes "src") (codes "dst") (names c.args.sites.now) two first (sym ((bytes_eq-Decides c.as_str-2.result.now (codes "dst")).0 (sym c.eq.ensures ∙ t)) ∙ second)),
      (λ same. c.eq.ensures ∙ not_two_names (codes "src") (codes "dst") (names c.args.sites.now) c.as_str-2.result.now second same),
    )
