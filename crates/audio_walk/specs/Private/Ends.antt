-- The end of a walk over the PES packets of an audio stream; no public clause cites these.
use Rattle.std.specs.Prelude.{◌≡◌, ℕ, false, List}
use Rattle.ts_demux.specs.declared.demuxed.PesUnit.{PesUnit}
use Rattle.elementary_streams.specs.Packets.{AreSound, packets_dropped, taken}

-- of all PES packets of a stream these are taken, and so many are dropped
pub record EndsWith (packets : List PesUnit) (dropped : ℕ) (all : List PesUnit) : Type 0 where
  pub sound : AreSound false all
  pub taken_are : taken false all ≡ packets
  pub dropped_are : dropped ≡ packets_dropped false all
