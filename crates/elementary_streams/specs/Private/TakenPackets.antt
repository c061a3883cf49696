-- PES packets that are taken so far; no public clause cites these.
use Rattle.std.specs.Prelude.{◌≡◌, ◌⊎◌, ℕ, Bool, List, [], ◌∷◌, ◌++◌, Option, Some, if◌then◌else◌}
use Rattle.pes_units.specs.declared.pes_fault.PesFault.{PesFault}
use Rattle.pes_units.specs.PesPackets.{is_dropped}
use Rattle.ts_demux.specs.declared.demuxed.PesUnit.{PesUnit}
use Rattle.elementary_streams.specs.declared.pes_packets.TakenPackets.{TakenPackets}
use Rattle.elementary_streams.specs.declared.stream_fault.StreamFault.{StreamFault}
use Rattle.elementary_streams.specs.declared.stream_fault.StreamFault.TheVariants.{OutOfMemory, Pes}
use Rattle.elementary_streams.specs.Taken.{Holds}

-- what is held grows by these packets
pub record Adds (packets : List PesUnit) (old new : TakenPackets) : Type 0 where
  pub holds : (before : List PesUnit) → Holds before old → Holds (before ++ packets) new
  pub dropped : new.dropped ≡ old.dropped

-- what a fault says of a packet with this fault, or none
abbrev pub IsFaultOf : (at : ℕ) → Option PesFault → StreamFault → Type 0
IsFaultOf at found fault = (fault ≡ OutOfMemory) ⊎ ((said : PesFault) × (found ≡ Some said) × (fault ≡ Pes at said))

-- a last packet, if it isn't dropped
abbrev pub last_taken : (video : Bool) → PesUnit → List PesUnit
last_taken video packet = if is_dropped video packet.bytes then [] else packet ∷ []
