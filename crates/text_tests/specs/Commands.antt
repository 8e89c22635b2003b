-- What lines of a script ask for, worked out by hand.
use Rattle.std.specs.Prelude.{◌≡◌, ℕ, codes, List, [], ◌∷◌, ◌++◌, map, true, false, Some, None}
use Rattle.std.proofs.Common.{refl}
use Rattle.std.specs.Fmt.{digits}
use Rattle.std.specs.List.{list_all, list_any}
use Rattle.std.specs.Char.{encode_utf8}
use Rattle.std.specs.Str.{is_utf8, chars, encode_utf8_all}
use Rattle.repl_commands.specs.declared.command.Command.{Command}
use Rattle.repl_commands.specs.declared.command.Command.TheVariants.{Load, Feed, Capture, CaptureCold, Prune, PruneNormal}
use Rattle.repl_commands.specs.declared.command.Command.TheVariants.{Step, Apply, Refresh, Stop, Generate, Rounds, Audit}
use Rattle.repl_commands.specs.declared.command.Command.TheVariants.{StatusServer, StatusSet, ShowSource, ShowCd, ShowUow}
use Rattle.repl_commands.specs.declared.command.Command.TheVariants.{ShowLog, ShowTarget, ShowTrail, ShowRejected}
use Rattle.script_text.specs.Words.{line_words}
use Rattle.script_text.specs.Asked.{Asked, asks, unknown, bad, asked_by, command_of, forms, set_named, takes_body}

-- each line asks for the command beside it
abbrev AskFor : List (List ℕ × Command) → Type 0
AskFor rows = map (λ row. asked_by row.0) rows ≡ map (λ row. asks row.1) rows

-- all of these lines ask for the same
abbrev AllAskFor : Asked → List (List ℕ) → Type 0
AllAskFor asked lines = map asked_by lines ≡ map (λ line. asked) lines

pub commands_are_read : AskFor (
    (codes "load", Load)
    ∷ (codes "feed hq", Feed (codes "hq"))
    ∷ (codes "feed abcdefghijklmnopqrstuvwxyz_12345", Feed (codes "abcdefghijklmnopqrstuvwxyz_12345"))
    ∷ (codes "capture hq", Capture (codes "hq") None None)
    ∷ (codes "capture cold", Capture (codes "cold") None None)
    ∷ (codes "capture hq cold", CaptureCold (codes "hq"))
    ∷ (codes "capture cold cold", CaptureCold (codes "cold"))
    ∷ (codes "prune hq", Prune (codes "hq") None)
    ∷ (codes "prune normal", Prune (codes "normal") None)
    ∷ (codes "prune hq normal", PruneNormal (codes "hq"))
    ∷ (codes "step q s", Step (set_named (codes "q") (codes "s")))
    ∷ (codes "apply q s", Apply (set_named (codes "q") (codes "s")))
    ∷ (codes "refresh q s", Refresh (set_named (codes "q") (codes "s")))
    ∷ (codes "stop hq orders", Stop (codes "hq") (codes "orders"))
    ∷ (codes "rounds r", Rounds (codes "r"))
    ∷ (codes "audit q s", Audit (set_named (codes "q") (codes "s")))
    ∷ (codes "status hq", StatusServer (codes "hq"))
    ∷ (codes "status q s", StatusSet (set_named (codes "q") (codes "s")))
    ∷ (codes "show hq source orders", ShowSource (codes "hq") (codes "orders"))
    ∷ (codes "show hq cd orders", ShowCd (codes "hq") (codes "orders"))
    ∷ (codes "show hq uow", ShowUow (codes "hq"))
    ∷ (codes "show hq log", ShowLog (codes "hq"))
    ∷ (codes "show hq target by_item", ShowTarget (codes "hq") (codes "by_item"))
    ∷ (codes "show hq trail q s", ShowTrail (codes "hq") (set_named (codes "q") (codes "s")))
    ∷ (codes "show hq rejected r b", ShowRejected (codes "hq") (set_named (codes "r") (codes "b")))
    ∷ [])
unfolding command_of forms line_words
commands_are_read = refl

pub numbers_of_commands_are_read : AskFor (
    (codes "capture hq units 1", Capture (codes "hq") (Some 1) None)
    ∷ (codes "capture hq units 4294967295", Capture (codes "hq") (Some 4294967295) None)
    ∷ (codes "capture hq every 1", Capture (codes "hq") None (Some 1))
    ∷ (codes "capture hq every 4294967295", Capture (codes "hq") None (Some 4294967295))
    ∷ (codes "capture hq units 5 every 2", Capture (codes "hq") (Some 5) (Some 2))
    ∷ (codes "prune hq 0", Prune (codes "hq") (Some 0))
    ∷ (codes "prune hq 4294967295", Prune (codes "hq") (Some 4294967295))
    ∷ [])
unfolding command_of forms line_words digits
numbers_of_commands_are_read = refl

pub generates_are_read : AskFor (
    (codes "generate hq nums 0 0 0", Generate (codes "hq") (codes "nums") 0 0 0)
    ∷ (codes "generate hq nums 7 2 3", Generate (codes "hq") (codes "nums") 7 2 3)
    ∷ (
      codes "generate hq nums 18446744073709551615 4294967295 4294967295",
      Generate (codes "hq") (codes "nums") 18446744073709551615 4294967295 4294967295,
    )
    ∷ [])
unfolding command_of forms line_words digits
generates_are_read = refl

pub lines_that_are_nearly_a_command_are_bad : AllAskFor bad (map codes (
    "load x"
    ∷ "load load"
    ∷ "feed"
    ∷ "feed hq shop"
    ∷ "feed Hq"
    ∷ "feed 1q"
    ∷ "feed abcdefghijklmnopqrstuvwxyz_123456"
    ∷ "prune"
    ∷ "prune hq 4294967296"
    ∷ "prune hq 01"
    ∷ "prune hq -1"
    ∷ "prune hq 1 2"
    ∷ "prune hq normal 1"
    ∷ "prune hq Normal"
    ∷ "step"
    ∷ "step q"
    ∷ "step q s s"
    ∷ "apply q"
    ∷ "apply q/s"
    ∷ "apply q S"
    ∷ "refresh q"
    ∷ "refresh q s 1"
    ∷ "stop hq"
    ∷ "stop hq orders 1"
    ∷ "stop hq Orders"
    ∷ "rounds"
    ∷ "rounds r x"
    ∷ "rounds R"
    ∷ "audit q"
    ∷ "audit q s s"
    ∷ "status"
    ∷ "status Q s"
    ∷ "status q s s"
    ∷ []))
unfolding command_of forms line_words digits is_utf8 chars encode_utf8
lines_that_are_nearly_a_command_are_bad = refl

pub lines_that_are_nearly_a_capture_are_bad : AllAskFor bad (map codes (
    "capture"
    ∷ "capture Hq"
    ∷ "capture hq 5"
    ∷ "capture hq warm"
    ∷ "capture hq Cold"
    ∷ "capture hq cold 1"
    ∷ "capture hq cold cold"
    ∷ "capture hq units"
    ∷ "capture hq units 0"
    ∷ "capture hq units 01"
    ∷ "capture hq units +1"
    ∷ "capture hq units -1"
    ∷ "capture hq units 4294967296"
    ∷ "capture hq every"
    ∷ "capture hq every 0"
    ∷ "capture hq every 4294967296"
    ∷ "capture hq every 2 units 5"
    ∷ "capture hq units 1 units 2"
    ∷ "capture hq every 1 every 2"
    ∷ "capture hq units 1 every"
    ∷ "capture hq units 1 every 2 3"
    ∷ "capture hq units 1 every 2 every 3"
    ∷ "capture hq units 1 every 2 units 3 every 4"
    ∷ "capture hq units 1 cold"
    ∷ []))
unfolding command_of forms line_words digits is_utf8 chars encode_utf8
lines_that_are_nearly_a_capture_are_bad = refl

pub lines_that_nearly_generate_or_show_are_bad : AllAskFor bad (map codes (
    "generate hq nums 1 2"
    ∷ "generate hq nums 1 2 3 4"
    ∷ "generate hq nums 1 2 3 4 5 6 7"
    ∷ "generate hq 1 2 3"
    ∷ "generate hq nums 18446744073709551616 1 1"
    ∷ "generate hq nums 1 4294967296 1"
    ∷ "generate hq nums 1 1 4294967296"
    ∷ "generate hq nums -1 1 1"
    ∷ "generate hq nums 1 01 1"
    ∷ "generate hq nums 1 1 +1"
    ∷ "show"
    ∷ "show hq"
    ∷ "show hq source"
    ∷ "show hq source orders 1"
    ∷ "show hq Source orders"
    ∷ "show hq cd"
    ∷ "show hq cd Orders"
    ∷ "show hq uow orders"
    ∷ "show hq UOW"
    ∷ "show hq log 1"
    ∷ "show hq logs"
    ∷ "show hq target"
    ∷ "show hq target q s"
    ∷ "show hq trail q"
    ∷ "show hq trail q s s"
    ∷ "show hq rejected"
    ∷ "show hq rejected q S"
    ∷ "show source orders"
    ∷ []))
unfolding command_of forms line_words digits is_utf8 chars encode_utf8
lines_that_nearly_generate_or_show_are_bad = refl

pub blanks_separate_words : AllAskFor (asks (Feed (codes "hq"))) (map codes (
    "feed  hq"
    ∷ " feed hq"
    ∷ "feed hq "
    ∷ "   feed   hq   "
    ∷ []))
unfolding command_of forms line_words
blanks_separate_words = refl

pub tabs_do_not : (asked_by (codes "feed hq\t") ≡ bad) × (asked_by (codes "feed\thq") ≡ unknown)
unfolding command_of forms line_words is_utf8 chars encode_utf8
tabs_do_not = (refl, refl)

-- é is two bytes of UTF-8
pub other_words_are_unknown : AllAskFor unknown (
    codes ""
    ∷ codes "  "
    ∷ codes "frob"
    ∷ codes " # x"
    ∷ codes " |load"
    ∷ codes "LOAD"
    ∷ codes "loads"
    ∷ codes "hq load"
    ∷ codes "'load'"
    ∷ encode_utf8_all (codes "é")
    ∷ [])
unfolding command_of forms line_words is_utf8 chars encode_utf8
other_words_are_unknown = refl

pub lines_that_are_not_utf8_are_bad : AllAskFor bad (
    (0xff ∷ [])
    ∷ (codes "frob " ++ 0xc3 ∷ [])
    ∷ (codes "feed " ++ 0xff ∷ [])
    ∷ (codes "load " ++ 0x80 ∷ [])
    ∷ [])
unfolding command_of forms line_words is_utf8 chars encode_utf8
lines_that_are_not_utf8_are_bad = refl

pub load_and_feed_take_a_body : list_all takes_body (map codes (
    "load"
    ∷ "feed hq"
    ∷ " load "
    ∷ "load x"
    ∷ "feed"
    ∷ "  feed   Hq 1"
    ∷ [])) ≡ true
unfolding line_words is_utf8 chars encode_utf8
load_and_feed_take_a_body = refl

pub other_lines_take_no_body : list_any takes_body (
    codes ""
    ∷ codes "  "
    ∷ codes "loads"
    ∷ codes "LOAD"
    ∷ codes "feed\thq"
    ∷ codes "hq load"
    ∷ codes "'load'"
    ∷ codes "capture hq"
    ∷ encode_utf8_all (codes "é load")
    ∷ (codes "load " ++ 0x80 ∷ [])
    ∷ (0xff ∷ codes " load")
    ∷ []) ≡ false
unfolding line_words is_utf8 chars encode_utf8
other_lines_take_no_body = refl
