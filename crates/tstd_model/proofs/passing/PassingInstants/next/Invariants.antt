use Rattle.std.proofs.Common.{◌≡◌, length}
use Rattle.tstd_model.specs.Private.Cursors.{wanted_instants}
use Rattle.tstd_model.proofs.passing.PassingInstants.next.Given as goal

abbrev pub invariant-bytes : goal.invariant-bytes
invariant-bytes l = wanted_instants l.self-inside.wanted l.self-inside.bytes ≡ wanted_instants l.initial.self-inside.wanted l.initial.self-inside.bytes

abbrev pub decreases-bytes : goal.decreases-bytes
decreases-bytes l = length l.self-inside.bytes
