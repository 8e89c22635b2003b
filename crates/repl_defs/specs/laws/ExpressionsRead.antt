-- The machine that reads expressions completes an expression exactly if the grammar has it.
use Rattle.std.proofs.Common.{◌≡◌, ℤ, true, false, List, [], ◌∷◌, ◌++◌, Some, refl, sym, ap, ◌∙◌, append_assoc, append-nil, option_and_then}
use Rattle.std.proofs.lemmas.Option.{option_and_then_some, same_Some}
use Rattle.repl_model.specs.Words.{integer_of, ColumnDef, Expr}
use Rattle.repl_definitions.specs.declared.expr.Expr.TheVariants as exprs
use Rattle.repl_defs.specs.Grammar.{Level, factor, term, whole, IsInteger, digits, negative, IsExpr, column, integer, text, nested, one_factor, times, one_term, plus, minus, joined}
use Rattle.repl_defs.specs.Reading.{place_named, times_follows}
use Rattle.repl_defs.specs.ReadingExpressions.{Change, same, ExprState, awaits, has, outcome, Leads}
use Rattle.repl_defs.specs.declared.token.Token.{Token}
use Rattle.repl_defs.specs.declared.token.Token.TheVariants.{Word, Number, Text, Minus, Plus, Times, Joined, Open, Close, Compare}
use Rattle.repl_defs.specs.laws.Names.{named, names}

-- ---- an expression of the grammar is read

-- what may follow a part of an expression: after the whole of it, no `*`
abbrev Follows : Level → List Token → Type 0
Follows factor rest = Unit {0}
Follows term rest = Unit {0}
Follows whole rest = times_follows rest ≡ false

-- without a `*` after it, a term is added to the terms before it
pub settles : (columns : List ColumnDef) (sum : Change) (e : Expr) (outer : List (Change × Change)) (rest : List Token) → times_follows rest ≡ false → outcome columns (has sum e outer) rest ≡ outcome columns (has same (sum e) outer) rest
unfolding outcome
settles columns sum e [] [] h = refl
settles columns sum e (o ∷ outer) [] h = refl
settles columns sum e outer (Word word ∷ ts) h = refl
settles columns sum e outer (Number ds ∷ ts) h = refl
settles columns sum e outer (Text t ∷ ts) h = refl
settles columns sum e outer (Minus b ∷ ts) h = refl
settles columns sum e outer (Plus ∷ ts) h = refl
settles columns sum e outer (Times ∷ ts) h = absurd (cc)
settles columns sum e outer (Joined ∷ ts) h = refl
settles columns sum e outer (Open ∷ ts) h = refl
settles columns sum e [] (Close ∷ ts) h = refl
settles columns sum e (o ∷ outer) (Close ∷ ts) h = refl
settles columns sum e outer (Compare op ∷ ts) h = refl

-- the machine reads an integer as a factor
integer_leads : (columns : List ColumnDef) (us : List Token) (n : ℤ) → IsInteger us n → (rest : List Token) → Leads columns factor (us ++ rest) (exprs.Int n) rest
unfolding outcome
integer_leads columns us n (digits ds n' h) rest = λ sum product outer. ap (option_and_then (λ n. outcome columns (has sum (product (exprs.Int n)) outer) rest)) h
integer_leads columns us n (negative ds n' h) rest = λ sum product outer. ap (option_and_then (λ n. outcome columns (has sum (product (exprs.Int n)) outer) rest)) h

-- what the grammar has is read, whatever follows it
pub leads : (columns : List ColumnDef) (level : Level) (us : List Token) (e : Expr) → IsExpr columns level us e → (rest : List Token) → Follows level rest → Leads columns level (us ++ rest) e rest
unfolding outcome
leads columns level us e (column word place n) rest h = λ sum product outer. rw (named n) refl
leads columns level us e (integer ts n d) rest h = integer_leads columns ts n d rest
leads columns level us e (text t) rest h = λ sum product outer. refl
leads columns level us e (nested ts f d) rest h = λ sum product outer.
    ap (outcome columns (awaits same same ((sum, product) ∷ outer))) (append_assoc ts (Close ∷ []) rest)
    ∙ leads columns whole ts f d (Close ∷ rest) refl ((sum, product) ∷ outer)
leads columns level us e (one_factor ts f d) rest h = λ sum outer. leads columns factor ts f d rest tt sum same outer
leads columns level us e (times ts vs f g d k) rest h = λ sum outer.
    ap (outcome columns (awaits sum same outer)) (append_assoc ts (Times ∷ vs) rest)
    ∙ leads columns term ts f d (Times ∷ vs ++ rest) tt sum outer
    ∙ leads columns factor vs g k rest tt sum (exprs.Mul f) outer
leads columns level us e (one_term ts f d) rest h = λ outer. leads columns term ts f d rest tt same outer
leads columns level us e (plus ts vs f g d k) rest h = λ outer.
    ap (outcome columns (awaits same same outer)) (append_assoc ts (Plus ∷ vs) rest)
    ∙ leads columns whole ts f d (Plus ∷ vs ++ rest) refl outer
    ∙ leads columns term vs g k rest tt (exprs.Add f) outer
    ∙ settles columns (exprs.Add f) g outer rest h
leads columns level us e (minus ts vs b f g d k) rest h = λ outer.
    ap (outcome columns (awaits same same outer)) (append_assoc ts (Minus b ∷ vs) rest)
    ∙ leads columns whole ts f d (Minus b ∷ vs ++ rest) refl outer
    ∙ leads columns term vs g k rest tt (exprs.Sub f) outer
    ∙ settles columns (exprs.Sub f) g outer rest h
leads columns level us e (joined ts vs f g d k) rest h = λ outer.
    ap (outcome columns (awaits same same outer)) (append_assoc ts (Joined ∷ vs) rest)
    ∙ leads columns whole ts f d (Joined ∷ vs ++ rest) refl outer
    ∙ leads columns term vs g k rest tt (exprs.Concat f) outer
    ∙ settles columns (exprs.Concat f) g outer rest h

-- ---- what is read is an expression of the grammar

-- a change makes a whole expression of each term that stands after the tokens
abbrev Sums : List ColumnDef → List Token → Change → Type 0
Sums columns done sum = (ts : List Token) (e : Expr) → IsExpr columns term ts e → IsExpr columns whole (done ++ ts) (sum e)

-- a change makes a term of each factor that stands after the tokens
abbrev Products : List ColumnDef → List Token → Change → Type 0
Products columns done product = (ts : List Token) (e : Expr) → IsExpr columns factor ts e → IsExpr columns term (done ++ ts) (product e)

-- the tokens up to an open parenthesis, the innermost: those of the terms and of the factors before it, and
-- those before them
abbrev Encloses : List ColumnDef → List Token → List (Change × Change) → Type 0
Encloses columns done [] = done ≡ []
Encloses columns done (o ∷ outer) = (us vs ws : List Token) × (done ≡ us ++ (vs ++ (ws ++ Open ∷ []))) × Encloses columns us outer × Sums columns vs o.0 × Products columns ws o.1

-- the last of the tokens before the machine
abbrev IsLast : List ColumnDef → ExprState → List Token → Type 0
IsLast columns (awaits sum product outer) ws = Products columns ws product
IsLast columns (has sum e outer) ws = IsExpr columns term ws e

-- what becomes of a term, where the machine stands
abbrev sum_of : ExprState → Change
sum_of (awaits sum product outer) = sum
sum_of (has sum e outer) = sum

-- what stands around the parentheses that are open, where the machine stands
abbrev outer_of : ExprState → List (Change × Change)
outer_of (awaits sum product outer) = outer
outer_of (has sum e outer) = outer

-- the tokens before the machine, by where it stands
record Stands (columns : List ColumnDef) (done : List Token) (state : ExprState) : Type 0 where
  us : List Token
  vs : List Token
  ws : List Token
  are : done ≡ us ++ (vs ++ ws)
  encloses : Encloses columns us (outer_of state)
  sums : Sums columns vs (sum_of state)
  last : IsLast columns state ws

-- a term alone is a whole expression
same_sums : (columns : List ColumnDef) → Sums columns [] same
same_sums columns ts e d = one_term ts e d

-- a factor alone is a term
same_products : (columns : List ColumnDef) → Products columns [] same
same_products columns ts e d = one_factor ts e d

-- a token more at the end
pub one_more : (done us vs ws more : List Token) → done ≡ us ++ (vs ++ ws) → done ++ more ≡ us ++ (vs ++ (ws ++ more))
one_more done us vs ws more e = ap (λ d. d ++ more) e ∙ append_assoc us (vs ++ ws) more ∙ ap (λ d. us ++ d) (append_assoc vs ws more)

-- a factor is read
factor_stands : (columns : List ColumnDef) (done : List Token) (sum product : Change) (outer : List (Change × Change)) (us : List Token) (e : Expr) → Stands columns done (awaits sum product outer) → IsExpr columns factor us e → Stands columns (done ++ us) (has sum (product e) outer)
factor_stands columns done sum product outer us e g d = record {
  us = g.us;
  vs = g.vs;
  ws = g.ws ++ us;
  are = one_more done g.us g.vs g.ws us g.are;
  encloses = g.encloses;
  sums = g.sums;
  last = g.last us e d;
}

-- a parenthesis is opened
open_stands : (columns : List ColumnDef) (done : List Token) (sum product : Change) (outer : List (Change × Change)) → Stands columns done (awaits sum product outer) → Stands columns (done ++ Open ∷ []) (awaits same same ((sum, product) ∷ outer))
open_stands columns done sum product outer g = record {
  us = done ++ Open ∷ [];
  vs = [];
  ws = [];
  are = sym (append-nil (done ++ Open ∷ []));
  encloses = (g.us, g.vs, g.ws, one_more done g.us g.vs g.ws (Open ∷ []) g.are, g.encloses, g.sums, g.last);
  sums = same_sums columns;
  last = same_products columns;
}

-- the tokens of a factor in parentheses
pub closed : (done gus gvs gws us vs ws : List Token) → done ≡ gus ++ (gvs ++ gws) → gus ≡ us ++ (vs ++ (ws ++ Open ∷ [])) → done ++ Close ∷ [] ≡ us ++ (vs ++ (ws ++ (Open ∷ (gvs ++ gws) ++ Close ∷ [])))
closed done gus gvs gws us vs ws h k = rw (h, k) (simp append_assoc)

-- a parenthesis is closed
close_stands : (columns : List ColumnDef) (done : List Token) (sum : Change) (e : Expr) (o : Change × Change) (outer : List (Change × Change)) → Stands columns done (has sum e (o ∷ outer)) → Stands columns (done ++ Close ∷ []) (has o.0 (o.1 (sum e)) outer)
close_stands columns done sum e o outer g =
    let (us, vs, ws, are, encloses, sums, products) = g.encloses in record {
      us = us;
      vs = vs;
      ws = ws ++ (Open ∷ (g.vs ++ g.ws) ++ Close ∷ []);
      are = closed done g.us g.vs g.ws us vs ws g.are are;
      encloses = encloses;
      sums = sums;
      last = products (Open ∷ (g.vs ++ g.ws) ++ Close ∷ []) (sum e) (nested (g.vs ++ g.ws) (sum e) (g.sums g.ws e g.last));
    }

-- a factor is to follow
times_stands : (columns : List ColumnDef) (done : List Token) (sum : Change) (e : Expr) (outer : List (Change × Change)) → Stands columns done (has sum e outer) → Stands columns (done ++ Times ∷ []) (awaits sum (exprs.Mul e) outer)
times_stands columns done sum e outer g = record {
  us = g.us;
  vs = g.vs;
  ws = g.ws ++ Times ∷ [];
  are = one_more done g.us g.vs g.ws (Times ∷ []) g.are;
  encloses = g.encloses;
  sums = g.sums;
  last = λ ts f d. rw (append_assoc g.ws (Times ∷ []) ts) (times g.ws ts e f g.last d);
}

-- terms are joined
sign_stands : (columns : List ColumnDef) (done : List Token) (sum join : Change) (e : Expr) (outer : List (Change × Change)) (t : Token) → Stands columns done (has sum e outer) → ((ts us : List Token) (f : Expr) → IsExpr columns whole ts (sum e) → IsExpr columns term us f → IsExpr columns whole (ts ++ t ∷ us) (join f)) → Stands columns (done ++ t ∷ []) (awaits join same outer)
sign_stands columns done sum join e outer t g rule = record {
  us = g.us;
  vs = (g.vs ++ g.ws) ++ t ∷ [];
  ws = [];
  are = ap (λ d. d ++ t ∷ []) g.are ∙ append_assoc g.us (g.vs ++ g.ws) (t ∷ []) ∙ ap (λ d. g.us ++ d) (sym (append-nil ((g.vs ++ g.ws) ++ t ∷ [])));
  encloses = g.encloses;
  sums = λ ts f d. rw (append_assoc (g.vs ++ g.ws) (t ∷ []) ts) (rule (g.vs ++ g.ws) ts f (g.sums g.ws e g.last) d);
  last = same_products columns;
}

-- the end is reached
end_stands : (columns : List ColumnDef) (done : List Token) (sum : Change) (e : Expr) → Stands columns done (has sum e []) → IsExpr columns whole (done ++ []) (sum e)
end_stands columns done sum e g =
    let are : done ++ [] ≡ g.vs ++ g.ws = append-nil done ∙ g.are ∙ ap (λ d. d ++ (g.vs ++ g.ws)) g.encloses in
    rw are (g.sums g.ws e g.last)

-- the tokens of a step go over to those before the machine
regrouped : (columns : List ColumnDef) (done us ts : List Token) (x : Expr) → IsExpr columns whole ((done ++ us) ++ ts) x → IsExpr columns whole (done ++ (us ++ ts)) x
regrouped columns done us ts x h = rw append_assoc at h

-- what is read is in the grammar
is_expression : (columns : List ColumnDef) (state : ExprState) (ts done : List Token) (x : Expr) → Stands columns done state → outcome columns state ts ≡ Some x → IsExpr columns whole (done ++ ts) x
unfolding outcome
is_expression columns (awaits sum product outer) [] done x g h = absurd (cc)
is_expression columns (awaits sum product outer) (Word word ∷ ts) done x g h =
    option_and_then_some (λ place. outcome columns (has sum (product (exprs.Column place)) outer) ts) (place_named columns word) x h (λ place is next.
    regrouped columns done (Word word ∷ []) ts x (is_expression columns (has sum (product (exprs.Column place)) outer) ts (done ++ Word word ∷ []) x
    (factor_stands columns done sum product outer (Word word ∷ []) (exprs.Column place) g (column word place (names columns word place is))) next))
is_expression columns (awaits sum product outer) (Number ds ∷ ts) done x g h =
    option_and_then_some (λ n. outcome columns (has sum (product (exprs.Int n)) outer) ts) (integer_of ds) x h (λ n is next.
    regrouped columns done (Number ds ∷ []) ts x (is_expression columns (has sum (product (exprs.Int n)) outer) ts (done ++ Number ds ∷ []) x
    (factor_stands columns done sum product outer (Number ds ∷ []) (exprs.Int n) g (integer (Number ds ∷ []) n (digits ds n is))) next))
is_expression columns (awaits sum product outer) (Text t ∷ ts) done x g h =
    regrouped columns done (Text t ∷ []) ts x (is_expression columns (has sum (product (exprs.Text t)) outer) ts (done ++ Text t ∷ []) x
    (factor_stands columns done sum product outer (Text t ∷ []) (exprs.Text t) g (text t)) h)
is_expression columns (awaits sum product outer) (Minus true ∷ Number ds ∷ ts) done x g h =
    option_and_then_some (λ n. outcome columns (has sum (product (exprs.Int n)) outer) ts) (integer_of (45 ∷ ds)) x h (λ n is next.
    regrouped columns done (Minus true ∷ Number ds ∷ []) ts x (is_expression columns (has sum (product (exprs.Int n)) outer) ts (done ++ Minus true ∷ Number ds ∷ []) x
    (factor_stands columns done sum product outer (Minus true ∷ Number ds ∷ []) (exprs.Int n) g (integer (Minus true ∷ Number ds ∷ []) n (negative ds n is))) next))
is_expression columns (awaits sum product outer) (Open ∷ ts) done x g h =
    regrouped columns done (Open ∷ []) ts x (is_expression columns (awaits same same ((sum, product) ∷ outer)) ts (done ++ Open ∷ []) x (open_stands columns done sum product outer g) h)
is_expression columns (awaits sum product outer) (t ∷ ts) done x g h = absurd (cc)
is_expression columns (has sum e []) [] done x g h = rw (← same_Some (sum e) x h) (end_stands columns done sum e g)
is_expression columns (has sum e (o ∷ outer)) [] done x g h = absurd (cc)
is_expression columns (has sum e outer) (Times ∷ ts) done x g h =
    regrouped columns done (Times ∷ []) ts x (is_expression columns (awaits sum (exprs.Mul e) outer) ts (done ++ Times ∷ []) x (times_stands columns done sum e outer g) h)
is_expression columns (has sum e outer) (Plus ∷ ts) done x g h =
    regrouped columns done (Plus ∷ []) ts x (is_expression columns (awaits (exprs.Add (sum e)) same outer) ts (done ++ Plus ∷ []) x
    (sign_stands columns done sum (exprs.Add (sum e)) e outer Plus g (λ ts us f d k. plus ts us (sum e) f d k)) h)
is_expression columns (has sum e outer) (Minus b ∷ ts) done x g h =
    regrouped columns done (Minus b ∷ []) ts x (is_expression columns (awaits (exprs.Sub (sum e)) same outer) ts (done ++ Minus b ∷ []) x
    (sign_stands columns done sum (exprs.Sub (sum e)) e outer (Minus b) g (λ ts us f d k. minus ts us b (sum e) f d k)) h)
is_expression columns (has sum e outer) (Joined ∷ ts) done x g h =
    regrouped columns done (Joined ∷ []) ts x (is_expression columns (awaits (exprs.Concat (sum e)) same outer) ts (done ++ Joined ∷ []) x
    (sign_stands columns done sum (exprs.Concat (sum e)) e outer Joined g (λ ts us f d k. joined ts us (sum e) f d k)) h)
is_expression columns (has sum e (o ∷ outer)) (Close ∷ ts) done x g h =
    regrouped columns done (Close ∷ []) ts x (is_expression columns (has o.0 (o.1 (sum e)) outer) ts (done ++ Close ∷ []) x (close_stands columns done sum e o outer g) h)
is_expression columns (has sum e outer) (t ∷ ts) done x g h = absurd (cc)

-- ---- both together

-- what the machine completes is an expression
pub expression_of_outcome : (columns : List ColumnDef) (ts : List Token) (e : Expr) → outcome columns (awaits same same []) ts ≡ Some e → IsExpr columns whole ts e
expression_of_outcome columns ts e h = is_expression columns (awaits same same []) ts [] e (record {
  us = [];
  vs = [];
  ws = [];
  are = refl;
  encloses = refl;
  sums = same_sums columns;
  last = same_products columns;
}) h

-- an expression is completed by the machine
pub outcome_of_expression : (columns : List ColumnDef) (ts : List Token) (e : Expr) → IsExpr columns whole ts e → outcome columns (awaits same same []) ts ≡ Some e
unfolding outcome
outcome_of_expression columns ts e d = ap (outcome columns (awaits same same [])) (sym (append-nil ts)) ∙ leads columns whole ts e d [] refl []

-- tokens are one expression at most
pub one_expression : (columns : List ColumnDef) (ts : List Token) (e f : Expr) → IsExpr columns whole ts e → IsExpr columns whole ts f → e ≡ f
one_expression columns ts e f d k = same_Some e f (sym (outcome_of_expression columns ts e d) ∙ outcome_of_expression columns ts f k)
