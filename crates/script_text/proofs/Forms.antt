-- The command that is found among the forms is the one that has the words.
use Rattle.std.proofs.Common.{◌≡◌, ℕ, zero, suc, ◌+◌, ◌^◌, ◌<◌, ◌≤◌, ◌-◌, true, false, Bool, cond, List, [], ◌∷◌, get_or, Option, Some, None, refl, sym, ap, subst, ◌∙◌, arith}
use Rattle.std.specs.Prelude.{IfSome, IsTrue, is_some, find, decimal}
use Rattle.std.specs.List.{AllByRecursion, filter_map}
use Rattle.std.specs.Cmp.Lexicographic.{pointwise, pointwise_decides}
use Rattle.std.specs.Str.{bytes_eq}
use Rattle.std.proofs.lemmas.Bool.{false≢true}
use Rattle.std.proofs.lemmas.Slice.Eq.{bytes_eq-Decides}
use Rattle.repl_types.specs.Name.{is_name, name_of}
use Rattle.repl_types.specs.Numbers.{number_of}
use Rattle.repl_types.specs.laws.Names.{name_again}
use Rattle.repl_types.specs.laws.Numbers.{number_again}
use Rattle.repl_types.specs.declared.record.SetId.{SetId}
use Rattle.repl_commands.specs.declared.command.Command.{Command}
use Rattle.repl_commands.specs.declared.command.Command.TheVariants.{Load, Feed, Capture, CaptureCold, Prune, PruneNormal, Step, Apply, Refresh, Stop, Generate, Rounds, Audit, StatusServer, StatusSet, ShowSource, ShowCd, ShowUow, ShowLog, ShowTarget, ShowTrail, ShowRejected}
use Rattle.script_text.specs.Commands.{IsCount, IsMinutes, IsSeed, IsAmount, IsSetName, IsCommand, command_words, AreCommandWords, IsLineOf, highest_number}
use Rattle.script_text.specs.Words.{line_words}
use Rattle.script_text.specs.Asked.{◌of◌, ◌of◌and◌, ◌of◌and◌and◌, ◌of◌and◌and◌and◌and◌, left_out, given, set_named, nth_word, nth_name, nth_set, nth_count, nth_minutes, nth_seed, nth_amount, forms, are_words_of, command_of}
use Rattle.script_text.proofs.Numerals.{found_between}
use Rattle.script_text.proofs.OneCommand.{one_command}

-- ---- a command is among the forms of its words

-- a form stands at a place of a list
abbrev StandsIn : List (Option Command) → Command → Type 0
StandsIn fs c = (k : ℕ) × (get_or fs k None ≡ Some c)

-- the number of 32 bits from low on that a decimal spells
again : (low n : ℕ) → low ≤ n → n ≤ highest_number → number_of low highest_number (decimal n) ≡ Some n
again low n above below = number_again low highest_number n (omega arith) above below

-- the seed that a decimal spells
seed_again : (n : ℕ) → IsSeed n → number_of 0 (2 ^ 64 - 1) (decimal n) ≡ Some n
seed_again n is = number_again 0 (2 ^ 64 - 1) n (omega arith) (omega arith) (omega arith)

-- each command is one of the forms that its words fill
stands : (c : Command) → IsCommand c → StandsIn (forms (command_words c)) c
unfolding forms
stands Load is = (0, refl)
stands (Feed s) is = (1, rw (name_again s is) refl)
stands (Capture s None None) is = (2, rw (name_again s is.0) refl)
stands (Capture s (Some u) None) is = (3, rw (name_again s is.0, again 1 u is.1.0 is.1.1) refl)
stands (Capture s None (Some e)) is = (4, rw (name_again s is.0, again 1 e is.2.0 is.2.1) refl)
stands (Capture s (Some u) (Some e)) is = (5, rw (name_again s is.0, again 1 u is.1.0 is.1.1, again 1 e is.2.0 is.2.1) refl)
stands (CaptureCold s) is = (6, rw (name_again s is) refl)
stands (Prune s None) is = (7, rw (name_again s is.0) refl)
stands (Prune s (Some m)) is = (8, rw (name_again s is.0, again 0 m (omega arith) is.1) refl)
stands (PruneNormal s) is = (9, rw (name_again s is) refl)
stands (Step set) is = (10, rw (name_again set.qual is.0, name_again set.name is.1) refl)
stands (Apply set) is = (11, rw (name_again set.qual is.0, name_again set.name is.1) refl)
stands (Refresh set) is = (12, rw (name_again set.qual is.0, name_again set.name is.1) refl)
stands (Stop s t) is = (13, rw (name_again s is.0, name_again t is.1) refl)
stands (Generate s t x u n) is = (14, rw (name_again s is.0, name_again t is.1, seed_again x is.2, again 0 u (omega arith) is.3, again 0 n (omega arith) is.4) refl)
stands (Rounds q) is = (15, rw (name_again q is) refl)
stands (Audit set) is = (16, rw (name_again set.qual is.0, name_again set.name is.1) refl)
stands (StatusServer s) is = (17, rw (name_again s is) refl)
stands (StatusSet set) is = (18, rw (name_again set.qual is.0, name_again set.name is.1) refl)
stands (ShowSource s t) is = (19, rw (name_again s is.0, name_again t is.1) refl)
stands (ShowCd s t) is = (20, rw (name_again s is.0, name_again t is.1) refl)
stands (ShowUow s) is = (21, rw (name_again s is) refl)
stands (ShowLog s) is = (22, rw (name_again s is) refl)
stands (ShowTarget s t) is = (23, rw (name_again s is.0, name_again t is.1) refl)
stands (ShowTrail s set) is = (24, rw (name_again s is.0, name_again set.qual is.1.0, name_again set.name is.1.1) refl)
stands (ShowRejected s set) is = (25, rw (name_again s is.0, name_again set.qual is.1.0, name_again set.name is.1.1) refl)

-- ---- each form is a command of a script

-- a word is a name
abbrev IsName : List ℕ → Type 0
IsName name = IsTrue (is_name name)

-- a number has a property, if it isn't left out
abbrev MayBe : (ℕ → Type 0) → Option ℕ → Type 0
MayBe P number = IfSome number P

-- what is made of one part
one : {A : Type 0} (P : A → Type 0) (f : A → Command) (a : Option A) → ((x : A) → P x → IsCommand (f x)) → IfSome a P → IfSome (f of a) IsCommand
one P f None make p = tt
one P f (Some x) make p = make x p

-- of two
two : {A B : Type 0} (P : A → Type 0) (Q : B → Type 0) (f : A → B → Command) (a : Option A) (b : Option B) → ((x : A) (y : B) → P x → Q y → IsCommand (f x y)) → IfSome a P → IfSome b Q → IfSome (f of a and b) IsCommand
two P Q f None b make p q = tt
two P Q f (Some x) b make p q = one Q (f x) b (λ y. make x y p) q

-- of three
three : {A B C : Type 0} (P : A → Type 0) (Q : B → Type 0) (R : C → Type 0) (f : A → B → C → Command) (a : Option A) (b : Option B) (c : Option C) → ((x : A) (y : B) (z : C) → P x → Q y → R z → IsCommand (f x y z)) → IfSome a P → IfSome b Q → IfSome c R → IfSome (f of a and b and c) IsCommand
three P Q R f None b c make p q r = tt
three P Q R f (Some x) b c make p q r = two Q R (f x) b c (λ y z. make x y z p) q r

-- a name that is found is one
name_with : (word : List ℕ) → IfSome (name_of word) IsName
name_with word = at (is_name word) refl
  where
    at : (b : Bool) → is_name word ≡ b → IfSome (cond b (Some word) None) IsName
    at true is = is
    at false is = tt

-- a number that is found has what each number of its range has
number_with : (P : ℕ → Type 0) (low high : ℕ) (word : List ℕ) → high < 2 ^ 64 → ((n : ℕ) → low ≤ n → n ≤ high → P n) → IfSome (number_of low high word) P
number_with P low high word fits has = at (number_of low high word) refl
  where
    at : (o : Option ℕ) → number_of low high word ≡ o → IfSome o P
    at None is = tt
    at (Some n) is = let found = found_between low high n word fits is in has n found.fits.0 found.fits.1

-- a number that may be left out, and isn't
given_with : (P : ℕ → Type 0) (part : Option ℕ) → IfSome part P → IfSome (given part) (MayBe P)
given_with P None p = tt
given_with P (Some n) p = p

-- the set of two names
set_with : (qual name : Option (List ℕ)) → IfSome qual IsName → IfSome name IsName → IfSome (set_named of qual and name) IsSetName
set_with None name p q = tt
set_with (Some qual) None p q = tt
set_with (Some qual) (Some name) p q = (p, q)

-- a fact, and those after it
infixr 20 ◌also◌
◌also◌ : {A B : Type 0} → A → B → A × B
a also b = (a, b)

module _ (ws : List (List ℕ)) where
  -- what is found at a place
  name_there : (k : ℕ) → IfSome (nth_name ws k) IsName
  name_there k = name_with (nth_word ws k)

  set_there : (k : ℕ) → IfSome (nth_set ws k) IsSetName
  set_there k = set_with (nth_name ws k) (nth_name ws (k + 1)) (name_there k) (name_there (k + 1))

  count_there : (k : ℕ) → IfSome (given (nth_count ws k)) (MayBe IsCount)
  count_there k = given_with IsCount (nth_count ws k) (number_with IsCount 1 highest_number (nth_word ws k) (omega arith) (λ n low high. (low, high)))

  minutes_there : (k : ℕ) → IfSome (given (nth_minutes ws k)) (MayBe IsMinutes)
  minutes_there k = given_with IsMinutes (nth_minutes ws k) (number_with IsMinutes 0 highest_number (nth_word ws k) (omega arith) (λ n low high. high))

  amount_there : (k : ℕ) → IfSome (nth_amount ws k) IsAmount
  amount_there k = number_with IsAmount 0 highest_number (nth_word ws k) (omega arith) (λ n low high. high)

  seed_there : (k : ℕ) → IfSome (nth_seed ws k) IsSeed
  seed_there k = number_with IsSeed 0 (2 ^ 64 - 1) (nth_word ws k) (omega arith) (λ n low high. omega arith)

  -- a form is a command of a script, if names and sets make one: of a name, a set, two names, or a name and a set
  of_name : (f : List ℕ → Command) → ((s : List ℕ) → IsName s → IsCommand (f s)) → IfSome (f of nth_name ws 1) IsCommand
  of_name f make = one IsName f (nth_name ws 1) make (name_there 1)

  of_set : (f : SetId → Command) → ((set : SetId) → IsSetName set → IsCommand (f set)) → IfSome (f of nth_set ws 1) IsCommand
  of_set f make = one IsSetName f (nth_set ws 1) make (set_there 1)

  of_table : (f : List ℕ → List ℕ → Command) (k : ℕ) → ((s t : List ℕ) → IsName s → IsName t → IsCommand (f s t)) → IfSome (f of nth_name ws 1 and nth_name ws k) IsCommand
  of_table f k make = two IsName IsName f (nth_name ws 1) (nth_name ws k) make (name_there 1) (name_there k)

  of_server_and_set : (f : List ℕ → SetId → Command) → ((s : List ℕ) (set : SetId) → IsName s → IsSetName set → IsCommand (f s set)) → IfSome (f of nth_name ws 1 and nth_set ws 3) IsCommand
  of_server_and_set f make = two IsName IsSetName f (nth_name ws 1) (nth_set ws 3) make (name_there 1) (set_there 3)

  -- the forms of `capture` and of `prune`
  of_limits : (units every : Option (Option ℕ)) → IfSome units (MayBe IsCount) → IfSome every (MayBe IsCount) → IfSome (Capture of nth_name ws 1 and units and every) IsCommand
  of_limits units every p q = three IsName (MayBe IsCount) (MayBe IsCount) Capture (nth_name ws 1) units every (λ s u e is a b. (is, a, b)) (name_there 1) p q

  of_minutes : (minutes : Option (Option ℕ)) → IfSome minutes (MayBe IsMinutes) → IfSome (Prune of nth_name ws 1 and minutes) IsCommand
  of_minutes minutes p = two IsName (MayBe IsMinutes) Prune (nth_name ws 1) minutes (λ s m is a. (is, a)) (name_there 1) p

  -- the form of `generate`
  of_generate : IfSome (Generate of nth_name ws 1 and nth_name ws 2 and nth_seed ws 3 and nth_amount ws 4 and nth_amount ws 5) IsCommand
  of_generate = at (nth_name ws 1) (nth_name ws 2) (name_there 1) (name_there 2)
    where
      at : (a b : Option (List ℕ)) → IfSome a IsName → IfSome b IsName → IfSome (Generate of a and b and nth_seed ws 3 and nth_amount ws 4 and nth_amount ws 5) IsCommand
      at None b p q = tt
      at (Some s) None p q = tt
      at (Some s) (Some t) p q = three IsSeed IsAmount IsAmount (Generate s t) (nth_seed ws 3) (nth_amount ws 4) (nth_amount ws 5) (λ x u n is a b. (p, q, is, a, b)) (seed_there 3) (amount_there 4) (amount_there 5)

  -- each form is a command of a script
  good : AllByRecursion (λ form. IfSome form IsCommand) (forms ws)
  unfolding forms
  good =
      tt
      also of_name Feed (λ s is. is)
      also of_limits left_out left_out tt tt
      also of_limits (given (nth_count ws 3)) left_out (count_there 3) tt
      also of_limits left_out (given (nth_count ws 3)) tt (count_there 3)
      also of_limits (given (nth_count ws 3)) (given (nth_count ws 5)) (count_there 3) (count_there 5)
      also of_name CaptureCold (λ s is. is)
      also of_minutes left_out tt
      also of_minutes (given (nth_minutes ws 2)) (minutes_there 2)
      also of_name PruneNormal (λ s is. is)
      also of_set Step (λ set is. is)
      also of_set Apply (λ set is. is)
      also of_set Refresh (λ set is. is)
      also of_table Stop 2 (λ s t p q. (p, q))
      also of_generate
      also of_name Rounds (λ s is. is)
      also of_set Audit (λ set is. is)
      also of_name StatusServer (λ s is. is)
      also of_set StatusSet (λ set is. is)
      also of_table ShowSource 3 (λ s t p q. (p, q))
      also of_table ShowCd 3 (λ s t p q. (p, q))
      also of_name ShowUow (λ s is. is)
      also of_name ShowLog (λ s is. is)
      also of_table ShowTarget 3 (λ s t p q. (p, q))
      also of_server_and_set ShowTrail (λ s set p q. (p, q))
      also of_server_and_set ShowRejected (λ s set p q. (p, q))
      also tt

-- ---- the first of the forms that has the words

-- the test of words tells
same_words : (ws vs : List (List ℕ)) → (pointwise bytes_eq ws vs ≡ true → ws ≡ vs) × (ws ≡ vs → pointwise bytes_eq ws vs ≡ true)
same_words ws vs = pointwise_decides bytes_eq-Decides ws vs

-- the command that is found
abbrev first_of : List (List ℕ) → List (Option Command) → Option Command
first_of ws fs = find (are_words_of ws) (filter_map (λ form. form) fs)

-- what is found has the words, and is one of the forms
first_found : (ws : List (List ℕ)) (fs : List (Option Command)) (c : Command) → AllByRecursion (λ form. IfSome form IsCommand) fs → first_of ws fs ≡ Some c → AreCommandWords ws c
first_found ws [] c all e = absurd cc
first_found ws (None ∷ fs) c all e = first_found ws fs c all.1 e
first_found ws (Some d ∷ fs) c all e = at (are_words_of ws d) refl e (first_found ws fs c all.1)
  where
    at : (b : Bool) → are_words_of ws d ≡ b → cond b (Some d) (first_of ws fs) ≡ Some c → (first_of ws fs ≡ Some c → AreCommandWords ws c) → AreCommandWords ws c
    at true has is later = subst (AreCommandWords ws) (cc) (record { fits = all.0; spelled = (same_words ws (command_words d)).0 has })
    at false has is later = later is

-- something is found, if one of the forms has the words
some_found : (ws : List (List ℕ)) (fs : List (Option Command)) (k : ℕ) (c : Command) → get_or fs k None ≡ Some c → are_words_of ws c ≡ true → is_some (first_of ws fs) ≡ true
some_found ws [] k c there has = absurd cc
some_found ws (None ∷ fs) zero c there has = absurd cc
some_found ws (None ∷ fs) (suc k) c there has = some_found ws fs k c there has
some_found ws (Some d ∷ fs) zero c there has = let same : d ≡ c = cc in rw (ap (are_words_of ws) same ∙ has) refl
some_found ws (Some d ∷ fs) (suc k) c there has = at (are_words_of ws d) (some_found ws fs k c there has)
  where
    at : (b : Bool) → is_some (first_of ws fs) ≡ true → is_some (cond b (Some d) (first_of ws fs)) ≡ true
    at true later = refl
    at false later = later

-- the command of a line has its words, and is one of a script
pub found_has : (line : List ℕ) (c : Command) → command_of line ≡ Some c → IsLineOf line c
unfolding command_of
found_has line c e = let ws = line_words line in first_found ws (forms ws) c (good ws) e

-- a line that is of a command has one
has_some : (line : List ℕ) (c : Command) → IsLineOf line c → is_some (command_of line) ≡ true
unfolding command_of
has_some line c is =
    let ws = line_words line in
    let at = stands c is.fits in
    some_found ws (forms ws) at.0 c (ap (λ (vs : List (List ℕ)). get_or (forms vs) at.0 None) is.spelled ∙ at.1) ((same_words ws (command_words c)).1 is.spelled)

-- and it is that command
pub has_found : (line : List ℕ) (c : Command) → IsLineOf line c → command_of line ≡ Some c
has_found line c is = at (command_of line) refl (has_some line c is)
  where
    at : (o : Option Command) → command_of line ≡ o → is_some o ≡ true → command_of line ≡ Some c
    at None e there = absurd (false≢true there)
    at (Some d) e there = let has = found_has line d e in e ∙ ap (λ (x : Command). Some x) (one_command d c has.fits is.fits (sym has.spelled ∙ is.spelled))
