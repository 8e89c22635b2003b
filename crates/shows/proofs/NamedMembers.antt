-- The members of a set are looked through for a target of a name.
use borrow.Author.Count.{below_more}
use Rattle.std.proofs.Common.{◌≡◌, ℕ, ◌+◌, ◌<◌, ◌≤◌, true, false, List, length, get_or, refl, sym, ap, subst, ◌∙◌, arith, Some, slice_get, bytes_eq}
use Rattle.std.proofs.lemmas.Option.{same_Some, slice_get_read, slice_get_within}
use Rattle.repl_model.specs.Words.{Member, SetDef}
use Rattle.shows.specs.sets.Targets.{HasTarget, HasNoTarget}

-- no member before a place has a target of the name
abbrev pub NoneNamedBefore : List ℕ → SetDef → ℕ → Type 0
NoneNamedBefore name def n = (place : ℕ) (member : Member) → place < n → slice_get def.members place ≡ Some member → bytes_eq name member.target ≡ false

module _ (name : List ℕ) (def : SetDef) (items : List Member) (same : items ≡ def.members) where
  module _ (n : ℕ) (member : Member) (lt : n < length items) (is : member ≡ get_or items n member) where
    -- the member at a place
    at_place : slice_get def.members n ≡ Some member
    at_place = subst (λ (l : List Member). slice_get l n ≡ Some member) same (slice_get_read items (length items) n member refl lt is)

    -- it has a target of the name
    pub named_here : bytes_eq name (get_or items n member).target ≡ true → HasTarget name def n
    named_here e = record { member = member; there = at_place; named = ap (λ (m : Member). bytes_eq name m.target) is ∙ e }

    -- it has none
    pub not_named_on : bytes_eq name (get_or items n member).target ≡ false → NoneNamedBefore name def n → NoneNamedBefore name def (n + 1)
    not_named_on e before place other less at = below_more (λ (q : ℕ). (m : Member) → slice_get def.members q ≡ Some m → bytes_eq name m.target ≡ false) n (λ q lower m there. before q m lower there)
        (λ m there. subst (λ (o : Member). bytes_eq name o.target ≡ false) (same_Some member m (sym at_place ∙ there)) (ap (λ (o : Member). bytes_eq name o.target) is ∙ e)) place less other at

  -- all were looked at
  pub none_named : (n : ℕ) → length items ≤ n → NoneNamedBefore name def n → HasNoTarget name def
  none_named n past before place member at = before place member (omega (arith, slice_get_within def.members place member at, ap length same, past)) at
