-- No two commands have the same words.
use Rattle.std.proofs.Common.{◌≡◌, ℕ, ◌^◌, ◌<◌, List, [], ◌∷◌, Option, Some, None, refl, sym, ap, ◌∙◌, arith}
use Rattle.std.specs.Prelude.{codes, decimal, IfSome}
use Rattle.std.proofs.lemmas.Option.{none-some}
use Rattle.repl_types.specs.Numbers.{number_of}
use Rattle.repl_types.specs.laws.Numbers.{number_again}
use Rattle.repl_types.specs.declared.record.SetId.{SetId}
use Rattle.repl_commands.specs.declared.command.Command.{Command}
use Rattle.repl_commands.specs.declared.command.Command.TheVariants.{Load, Feed, Capture, CaptureCold, Prune, PruneNormal, Step, Apply, Refresh, Stop, Generate, Rounds, Audit, StatusServer, StatusSet, ShowSource, ShowCd, ShowUow, ShowLog, ShowTarget, ShowTrail, ShowRejected}
use Rattle.script_text.proofs.Apart.{apart}
use Rattle.script_text.specs.Commands.{IsCount, limit_words, command_words, IsCommand}

-- the highest number of 64 bits
abbrev highest : ℕ
highest = 18446744073709551615

-- a number is known by its decimal
same_number : (n m : ℕ) → n < 2 ^ 64 → m < 2 ^ 64 → decimal n ≡ decimal m → n ≡ m
same_number n m small also e =
    let found = sym (number_again 0 highest n (omega arith) (omega arith) (omega arith)) ∙ ap (number_of 0 highest) e ∙ number_again 0 highest m (omega arith) (omega arith) (omega arith) in cc

-- a number isn't spelled `normal`
not_normal : (n : ℕ) → n < 2 ^ 64 → decimal n ≡ codes "normal" → ⊥
not_normal n small e = none-some n (sym (ap (number_of 0 highest) e) ∙ number_again 0 highest n (omega arith) (omega arith) (omega arith))

-- a set is known by its qualifier and its name
same_set : (a b : SetId) → a.qual ≡ b.qual → a.name ≡ b.name → a ≡ b
same_set a b p q = ap (λ (qual : List ℕ). record { qual = qual; name = a.name }) p ∙ ap (λ (name : List ℕ). record { qual = b.qual; name = name }) q

-- the limits of a capture are known by their words
same_limits : (u e v f : Option ℕ) → IfSome u IsCount → IfSome e IsCount → IfSome v IsCount → IfSome f IsCount → limit_words u e ≡ limit_words v f → (u ≡ v) × (e ≡ f)
same_limits (Some u) (Some e) (Some v) (Some f) a b c d w = (ap (λ (n : ℕ). Some n) (same_number u v (omega arith) (omega arith) cc), ap (λ (n : ℕ). Some n) (same_number e f (omega arith) (omega arith) cc))
same_limits (Some u) None (Some v) None a b c d w = (ap (λ (n : ℕ). Some n) (same_number u v (omega arith) (omega arith) cc), refl)
same_limits None (Some e) None (Some f) a b c d w = (refl, ap (λ (n : ℕ). Some n) (same_number e f (omega arith) (omega arith) cc))
same_limits None None None None a b c d w = (refl, refl)
same_limits (Some u) (Some e) None None a b c d w = absurd (apart _ _ refl w)
same_limits (Some u) None None None a b c d w = absurd (apart _ _ refl w)
same_limits _ _ _ _ a b c d w = absurd (apart _ _ refl w)

-- no limits are the word `cold`
not_cold : (u e : Option ℕ) → limit_words u e ≡ codes "cold" ∷ [] → ⊥
not_cold (Some u) (Some e) w = apart _ _ refl w
not_cold (Some u) None w = apart _ _ refl w
not_cold None (Some e) w = apart _ _ refl w
not_cold None None w = apart _ _ refl w

-- commands with the same words are the same
pub one_command : (c d : Command) → IsCommand c → IsCommand d → command_words c ≡ command_words d → c ≡ d
one_command Load Load is also e = refl
one_command (Capture s u e) (Capture t v f) is also w = let p : (u ≡ v) × (e ≡ f) = same_limits u e v f is.1 is.2 also.1 also.2 cc in cc
one_command (Capture s u e) (CaptureCold t) is also w = absurd (not_cold u e cc)
one_command (CaptureCold s) (Capture t u e) is also w = absurd (not_cold u e cc)
one_command (Prune s (Some m)) (Prune t (Some n)) is also w = let p : m ≡ n = same_number m n (omega (arith, is.1)) (omega (arith, also.1)) cc in cc
one_command (Prune s (Some m)) (PruneNormal t) is also w = absurd (not_normal m (omega (arith, is.1)) cc)
one_command (PruneNormal t) (Prune s (Some m)) is also w = absurd (not_normal m (omega (arith, also.1)) cc)
one_command (Prune s None) (Prune t None) is also w = cc
one_command (Feed s) (Feed t) is also w = cc
one_command (CaptureCold s) (CaptureCold t) is also w = cc
one_command (PruneNormal s) (PruneNormal t) is also w = cc
one_command (Rounds s) (Rounds t) is also w = cc
one_command (StatusServer s) (StatusServer t) is also w = cc
one_command (ShowUow s) (ShowUow t) is also w = cc
one_command (ShowLog s) (ShowLog t) is also w = cc
one_command (Step a) (Step b) is also w = ap Step (same_set a b (cc) (cc))
one_command (Apply a) (Apply b) is also w = ap Apply (same_set a b (cc) (cc))
one_command (Refresh a) (Refresh b) is also w = ap Refresh (same_set a b (cc) (cc))
one_command (Audit a) (Audit b) is also w = ap Audit (same_set a b (cc) (cc))
one_command (StatusSet a) (StatusSet b) is also w = ap StatusSet (same_set a b (cc) (cc))
one_command (Stop s a) (Stop t b) is also w = cc
one_command (ShowSource s a) (ShowSource t b) is also w = cc
one_command (ShowCd s a) (ShowCd t b) is also w = cc
one_command (ShowTarget s a) (ShowTarget t b) is also w = cc
one_command (ShowTrail s a) (ShowTrail t b) is also w = let p : a ≡ b = same_set a b (cc) (cc) in cc
one_command (ShowRejected s a) (ShowRejected t b) is also w = let p : a ≡ b = same_set a b (cc) (cc) in cc
one_command (Generate s a x y z) (Generate t b u v w) is also e =
    let p : x ≡ u = same_number x u (omega (arith, is.2)) (omega (arith, also.2)) cc in
    let q : y ≡ v = same_number y v (omega (arith, is.3)) (omega (arith, also.3)) cc in
    let r : z ≡ w = same_number z w (omega (arith, is.4)) (omega (arith, also.4)) cc in cc
one_command _ _ is also w = absurd (apart _ _ refl w)
