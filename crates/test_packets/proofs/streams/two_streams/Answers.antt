use Rattle.std.proofs.Common.{ℕ, ◌∷◌, [], subst, sym}
use Rattle.ts_demux.specs.CarriedPackets.{AreDistinct}
use Rattle.test_packets.proofs.TwoPids.{two_differ}
use Rattle.test_packets.proofs.streams.two_streams.Goals as goal

pub returns-clause-distinct : goal.returns-clause-distinct
returns-clause-distinct c =
    subst (λ (pid : ℕ). AreDistinct (pid ∷ c.stream_of-2.result.pid ∷ [])) (sym c.stream_of.ensures)
    (subst (λ (pid : ℕ). AreDistinct (257 ∷ pid ∷ [])) (sym c.stream_of-2.ensures) two_differ)
