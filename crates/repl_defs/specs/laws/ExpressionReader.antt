-- The steps of the reader of expressions, in the words of its contracts.
use Rattle.std.proofs.Common.{◌≡◌, suc, ◌<◌, true, false, List, [], ◌∷◌, length, Some, None, Result, Ok, Err, IfOk, refl, sym, ap, subst, ◌∙◌, arith, IsErrAnd}
use Rattle.std.proofs.lemmas.Option.{some_pair_parts}
use Rattle.std.proofs.lemmas.Result.{err_from_is_err_and}
use Rattle.repl_model.specs.Words.{integer_of, ColumnDef, Expr}
use Rattle.repl_definitions.specs.declared.expr.Expr.TheVariants as exprs
use Rattle.repl_defs.specs.Grammar.{Level, factor, term, whole}
use Rattle.repl_defs.specs.Reading.{place_named, open_follows, close_follows}
use Rattle.repl_defs.specs.ReadingExpressions.{Change, same, awaits, has, outcome, leaf_at, sign_at, Leads, Fails, Ends, HasKind, IsReadSoFar, IsRead, IsJoined, joined_by}
use Rattle.repl_defs.specs.declared.reader.expression.KindedExpr.{KindedExpr}
use Rattle.repl_defs.specs.declared.reader.expression.Operator.{Operator}
use Rattle.repl_defs.specs.declared.reader.expression.Operator.TheVariants.{Add, Sub, Mul, Concat}
use Rattle.repl_defs.specs.declared.token.Token.{Token}
use Rattle.repl_defs.specs.declared.token.Token.TheVariants.{Word, Number, Text, Minus, Plus, Times, Joined, Open, Close}
use Rattle.repl_defs.specs.laws.Fronts.{front, goes_on, stops, at_number}
use Rattle.repl_defs.specs.laws.ExpressionsRead.{settles}

-- ---- leaves

-- the machine reads a leaf
leaf_leads : (columns : List ColumnDef) (before : List Token) (e : Expr) (after : List Token) → leaf_at columns before ≡ Some (front e after) → Leads columns factor before e after × (length after < length before)
unfolding outcome
leaf_leads columns [] e after h = absurd (cc)
leaf_leads columns (Word word ∷ ts) e after h =
    let p = goes_on (place_named columns word) exprs.Column ts e after h in
    (λ sum product outer. p.1 (λ e ts. outcome columns (has sum (product e) outer) ts), rw p.0 (omega arith))
leaf_leads columns (Number ds ∷ ts) e after h =
    let p = goes_on (integer_of ds) exprs.Int ts e after (at_number exprs.Int (integer_of ds) ts ∙ h) in
    (λ sum product outer. p.1 (λ e ts. outcome columns (has sum (product e) outer) ts), rw p.0 (omega arith))
leaf_leads columns (Text t ∷ ts) e after h =
    let p = some_pair_parts (exprs.Text t) e ts after h in
    (λ sum product outer. ap (λ e. outcome columns (has sum (product e) outer) ts) p.0 ∙ ap (λ ts. outcome columns (has sum (product e) outer) ts) p.1, rw (← p.1) (omega arith))
leaf_leads columns (Minus true ∷ Number ds ∷ ts) e after h =
    let p = goes_on (integer_of (45 ∷ ds)) exprs.Int ts e after (at_number exprs.Int (integer_of (45 ∷ ds)) ts ∙ h) in
    (λ sum product outer. p.1 (λ e ts. outcome columns (has sum (product e) outer) ts), rw p.0 (omega arith))
leaf_leads columns (t ∷ ts) e after h = absurd (cc)

-- a leaf is a factor
pub leaf_read : (columns : List ColumnDef) (before after : List Token) (read : KindedExpr) → leaf_at columns before ≡ Some (front read.expr after) → HasKind columns read → IsRead columns factor before after read
leaf_read columns before after read h kind =
    let p = leaf_leads columns before read.expr after h in
    record { part = record { leads = p.0; shorter = p.1; kind = kind }; ends = tt }

-- what reads a leaf reads a factor
pub leaf_reads : {E : Type 0} (r : Result KindedExpr E) (now columns : List ColumnDef) (middle before after : List Token) → now ≡ columns → middle ≡ before → IfOk r (λ read. leaf_at now middle ≡ Some (front read.expr after)) → IfOk r (HasKind now) → IfOk r (IsRead columns factor before after)
leaf_reads (Ok read) now columns middle before after c b h kind =
    leaf_read columns before after read (ap (λ cs. leaf_at cs before) (sym c) ∙ ap (leaf_at now) (sym b) ∙ h) (subst (λ cs. HasKind cs read) c kind)
leaf_reads (Err e) now columns middle before after c b h kind = tt

-- without a leaf and without a parenthesis there is no factor
pub leaf_fails : (columns : List ColumnDef) (before : List Token) → open_follows before ≡ false → leaf_at columns before ≡ None → Fails columns factor before
unfolding outcome
leaf_fails columns [] o h = λ sum product outer. refl
leaf_fails columns (Word word ∷ ts) o h = λ sum product outer. stops (place_named columns word) exprs.Column ts h (λ place. outcome columns (has sum (product (exprs.Column place)) outer) ts)
leaf_fails columns (Number ds ∷ ts) o h = λ sum product outer. stops (integer_of ds) exprs.Int ts (at_number exprs.Int (integer_of ds) ts ∙ h) (λ n. outcome columns (has sum (product (exprs.Int n)) outer) ts)
leaf_fails columns (Text t ∷ ts) o h = absurd (cc)
leaf_fails columns (Minus true ∷ Number ds ∷ ts) o h = λ sum product outer. stops (integer_of (45 ∷ ds)) exprs.Int ts (at_number exprs.Int (integer_of (45 ∷ ds)) ts ∙ h) (λ n. outcome columns (has sum (product (exprs.Int n)) outer) ts)
leaf_fails columns (Open ∷ ts) o h = absurd (cc)
leaf_fails columns (t ∷ ts) o h = λ sum product outer. refl

-- ---- parentheses

-- an expression in parentheses is a factor
pub nested_read : (columns : List ColumnDef) (before ts middle after : List Token) (read : KindedExpr) → before ≡ Open ∷ ts → IsRead columns whole ts middle read → middle ≡ Close ∷ after → IsRead columns factor before after read
unfolding outcome
nested_read columns before ts middle after read b r m = record {
  part = record {
    leads = λ sum product outer. ap (outcome columns (awaits sum product outer)) b ∙ r.part.leads ((sum, product) ∷ outer) ∙ ap (outcome columns (has same read.expr ((sum, product) ∷ outer))) m;
    shorter = rw b (omega (arith, r.part.shorter, ap length m));
    kind = r.part.kind;
  };
  ends = tt;
}

-- what isn't an expression is none in parentheses
pub nested_fails : (columns : List ColumnDef) (before ts : List Token) → before ≡ Open ∷ ts → Fails columns whole ts → Fails columns factor before
unfolding outcome
nested_fails columns before ts b f = λ sum product outer. ap (outcome columns (awaits sum product outer)) b ∙ f ((sum, product) ∷ outer)

-- an expression that is read whole ends at a closing parenthesis or not at all
unclosed : (columns : List ColumnDef) (e : Expr) (o : Change × Change) (outer : List (Change × Change)) (middle : List Token) → Ends whole middle → close_follows middle ≡ false → outcome columns (has same e (o ∷ outer)) middle ≡ None
unfolding outcome
unclosed columns e o outer [] h c = refl
unclosed columns e o outer (Times ∷ ts) h c = absurd (cc h.0)
unclosed columns e o outer (Plus ∷ ts) h c = absurd (cc h.1)
unclosed columns e o outer (Minus b ∷ ts) h c = absurd (cc h.1)
unclosed columns e o outer (Joined ∷ ts) h c = absurd (cc h.1)
unclosed columns e o outer (Close ∷ ts) h c = absurd (cc c)
unclosed columns e o outer (t ∷ ts) h c = refl

-- without the closing parenthesis there is no factor
pub unclosed_fails : (columns : List ColumnDef) (before ts middle : List Token) (read : KindedExpr) → before ≡ Open ∷ ts → IsRead columns whole ts middle read → close_follows middle ≡ false → Fails columns factor before
unfolding outcome
unclosed_fails columns before ts middle read b r c = λ sum product outer.
    ap (outcome columns (awaits sum product outer)) b ∙ r.part.leads ((sum, product) ∷ outer) ∙ unclosed columns read.expr (sum, product) outer middle r.ends c

-- ---- factors with `*` between them

-- a factor more
pub times_read : (columns : List ColumnDef) (before middle ts after : List Token) (left right joined : KindedExpr) → IsReadSoFar columns term before middle left → middle ≡ Times ∷ ts → IsRead columns factor ts after right → IsJoined Mul left right joined → IsReadSoFar columns term before after joined
unfolding outcome
times_read columns before middle ts after left right joined l m r j = record {
  leads = λ sum outer. l.leads sum outer ∙ ap (outcome columns (has sum left.expr outer)) m ∙ r.part.leads sum (exprs.Mul left.expr) outer ∙ ap (λ e. outcome columns (has sum e outer) after) (sym j.expr);
  shorter = omega (arith, l.shorter, r.part.shorter, ap length m);
  kind = j.kind columns l.kind r.part.kind;
}

-- what follows a `*` is no factor
pub times_fails : (columns : List ColumnDef) (before middle ts : List Token) (left : KindedExpr) → IsReadSoFar columns term before middle left → middle ≡ Times ∷ ts → Fails columns factor ts → Fails columns term before
unfolding outcome
times_fails columns before middle ts left l m f = λ sum outer. l.leads sum outer ∙ ap (outcome columns (has sum left.expr outer)) m ∙ f sum (exprs.Mul left.expr) outer

-- ---- terms with `+`, `-` or `||` between them

-- the operator of the token
taken : (columns : List ColumnDef) (us : List Token) (operator : Operator) (ts : List Token) (o : Operator) → Some (front o us) ≡ Some (front operator ts) → ((e : Expr) (outer : List (Change × Change)) → outcome columns (awaits (joined_by o e) same outer) us ≡ outcome columns (awaits (joined_by operator e) same outer) ts) × (length ts < suc (length us))
taken columns us operator ts o h =
    let p = some_pair_parts o operator us ts h in
    (λ e outer. ap (λ o. outcome columns (awaits (joined_by o e) same outer) us) p.0 ∙ ap (outcome columns (awaits (joined_by operator e) same outer)) p.1, rw (← p.1) (omega arith))

-- the token that joins two terms is taken
sign_leads : (columns : List ColumnDef) (middle : List Token) (operator : Operator) (ts : List Token) → sign_at middle ≡ Some (front operator ts) → ((e : Expr) (outer : List (Change × Change)) → outcome columns (has same e outer) middle ≡ outcome columns (awaits (joined_by operator e) same outer) ts) × (length ts < length middle)
unfolding outcome
sign_leads columns [] operator ts h = absurd (cc)
sign_leads columns (Plus ∷ us) operator ts h = taken columns us operator ts Add h
sign_leads columns (Minus b ∷ us) operator ts h = taken columns us operator ts Sub h
sign_leads columns (Joined ∷ us) operator ts h = taken columns us operator ts Concat h
sign_leads columns (t ∷ us) operator ts h = absurd (cc)

-- a term more
pub sign_read : (columns : List ColumnDef) (before middle ts after : List Token) (operator : Operator) (left right joined : KindedExpr) → IsReadSoFar columns whole before middle left → Some (front operator ts) ≡ sign_at middle → IsRead columns term ts after right → IsJoined operator left right joined → IsReadSoFar columns whole before after joined
sign_read columns before middle ts after operator left right joined l m r j =
    let p = sign_leads columns middle operator ts (sym m) in record {
      leads = λ outer. l.leads outer ∙ p.0 left.expr outer ∙ r.part.leads (joined_by operator left.expr) outer ∙ settles columns (joined_by operator left.expr) right.expr outer after r.ends ∙ ap (λ e. outcome columns (has same e outer) after) (sym j.expr);
      shorter = omega (arith, l.shorter, r.part.shorter, p.1);
      kind = j.kind columns l.kind r.part.kind;
    }

-- what follows it is no term
pub sign_fails : (columns : List ColumnDef) (before middle ts : List Token) (operator : Operator) (left : KindedExpr) → IsReadSoFar columns whole before middle left → Some (front operator ts) ≡ sign_at middle → Fails columns term ts → Fails columns whole before
sign_fails columns before middle ts operator left l m f = λ outer. l.leads outer ∙ (sign_leads columns middle operator ts (sym m)).0 left.expr outer ∙ f (joined_by operator left.expr) outer

-- ---- columns and errors

-- the columns are the same
pub fails_at : (level : Level) (before : List Token) (now columns : List ColumnDef) → now ≡ columns → Fails now level before → Fails columns level before
fails_at level before now columns e h = subst (λ c. Fails c level before) e h

-- what was read over the same columns
pub read_at : (level : Level) (before after : List Token) (read : KindedExpr) (now columns : List ColumnDef) → now ≡ columns → IsRead now level before after read → IsRead columns level before after read
read_at level before after read now columns e h = subst (λ c. IsRead c level before after read) e h

-- an error that is passed on
pub passed_on : {T U E : Type 0} (r : Result T E) (e f : E) → IsErrAnd r (λ y. y ≡ e) → r ≡ Err f → ◌≡◌ {A = Result U E} (Err e) (Err f)
passed_on r e f h is = let p = err_from_is_err_and r h in ap Err (sym p.2 ∙ same_Err p.0 f (sym p.1 ∙ is))
  where
    same_Err : {T E : Type 0} (x y : E) → ◌≡◌ {A = Result T E} (Err x) (Err y) → x ≡ y
    same_Err x y h = cc
