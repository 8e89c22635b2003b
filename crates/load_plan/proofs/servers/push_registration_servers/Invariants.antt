use Rattle.std.proofs.Common.{◌≡◌, ◌++◌, drop, map}
use Rattle.load_plan.proofs.servers.push_registration_servers.Given as goal

abbrev pub invariant-registrations : goal.invariant-registrations
invariant-registrations l = l.names ++ map (λ r. r.server) (drop l.registration-index l.registrations) ≡ l.initial.names ++ map (λ r. r.server) l.registrations
