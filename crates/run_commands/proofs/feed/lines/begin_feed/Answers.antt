use Rattle.std.proofs.Common.{◌≡◌, ◌∙◌, ℕ, true, false, refl, ap, arith, Option, Some, None, is_some, is_none, not, MatchOption}
use Rattle.site_store.specs.Words.{HasNone, IsPlace, names}
use Rattle.run_commands.specs.parts.laws.Composing.{answered, no_value, nothing_to_do, part_as, part_refused}
use Rattle.run_commands.specs.feed.FeedEvents.{begin_events}
use Rattle.run_commands.specs.feed.Feeds.{new_feed}
use Rattle.run_commands.proofs.BodyLines.{nothing_begins, feed_begins, name_refused, none_begins}
use Rattle.run_commands.proofs.feed.lines.begin_feed.Goals as goal

-- if none was found, there is none
none_found : {A : Type 0} (B : ℕ → Type 0) (o : Option ℕ) → MatchOption o A B → is_some o ≡ false → A
none_found B None found is = found
none_found B (Some n) found is = absurd cc

-- else this is its place
one_found : (A : Type 0) {B : ℕ → Type 0} (o : Option ℕ) → MatchOption o A B → is_some o ≡ true → (n : ℕ) × B n
one_found A None found is = absurd cc
one_found A (Some n) found is = (n, found)

pub returns-then-is_none : goal.returns-then-is_none
returns-then-is_none g c =
    let kept = g.K.Keeper.kept in
    let sites = c.args.sites.now in
    let name = c.args.server in
    let r = c.refuse_by.result in
    let wrote = c.refuse_by.ensures in
    let none = none_found (IsPlace (names sites) name) c.find.result c.find.ensures (c.is_none.ensures ∙ ap not c.if-is_none.true) in
    record {
      part = part_as (begin_events name) (name_refused kept sites c.requires name none) (part_refused is_none c.requires refl wrote);
      after = answered _ r wrote.line (λ w stands. none_begins kept sites c.requires name none w stands);
      feed = no_value _ r wrote.line;
    }

pub returns : goal.returns
returns g c =
    let kept = g.K.Keeper.kept in
    let sites = c.args.sites.now in
    let name = c.args.server in
    let place = one_found (HasNone (names sites) name) c.find.result c.find.ensures (c.is_none.ensures ∙ ap not c.if-is_none.false) in
    rw (c.new.ensures, c.new-2.ensures) (record {
      part = part_as (begin_events name) (nothing_begins kept sites c.requires name place.0 place.1) (nothing_to_do is_none (Some (new_feed name)) c.requires refl);
      after = feed_begins kept sites c.requires name place.0 place.1;
      feed = (record { users = tt; few = omega arith }, refl);
    })
