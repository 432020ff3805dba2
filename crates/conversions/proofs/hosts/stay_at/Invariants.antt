use Rattle.std.proofs.Common.{◌≡◌}
use Rattle.conversions.specs.Hosts.{stay}
use Rattle.conversions.proofs.hosts.stay_at.Given as goal

-- no host that was passed is to the location
abbrev pub invariant-loop-older : goal.invariant-loop-older
invariant-loop-older l =
    (l.older-iterator.iter.count ≡ 0) × (stay l.location l.older-iterator.iter.iter.rest.now ≡ stay l.location l.hosts)
