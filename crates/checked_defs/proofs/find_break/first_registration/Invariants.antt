use Rattle.std.proofs.Common.{◌≡◌, ◌+◌, drop}
use Rattle.std.specs.List.{position_from}
use Rattle.checked_defs.specs.Broken.{registration_breaks}
use Rattle.checked_defs.proofs.find_break.first_registration.Given as goal

abbrev pub invariant-registrations : goal.invariant-registrations
invariant-registrations l =
    position_from (registration_breaks l.raw l.context l.rule) (l.place + 1) (drop l.place l.registration-items) ≡ position_from (registration_breaks l.raw l.context l.rule) 1 l.registration-items
