-- What a walk over the packets of a file gathers of some PIDs.
use Rattle.std.specs.Prelude.{◌≡◌, ℕ, ◌<◌, ◌⊎◌, List}
use Rattle.ts_packets.specs.TransportStream.{piece_count}
use Rattle.ts_demux.specs.declared.demux_fault.DemuxFault.{DemuxFault}
use Rattle.ts_demux.specs.declared.pes_gatherer.PesGatherer.{PesGatherer}
use Rattle.ts_demux.specs.declared.stream_walk.StreamGatherers.{StreamGatherers}
use Rattle.ts_demux.specs.Faults.{IsMemory}
use Rattle.ts_demux.specs.CarriedPackets.{pids_read, StandsAt}
use Rattle.ts_demux.specs.Demux.{IsStreamFault, IsFirstStreamFault, AreStreamsSound}
use Rattle.ts_demux.specs.Private.PesGatherer.{AllGather, gatherer_pids}

-- all packets of the file are gathered, and none is refused
pub record AreGathered (file pids : List ℕ) (gatherers : List PesGatherer) : Type 0 where
  pub all : AllGather file (piece_count file) gatherers
  pub pids_are : gatherer_pids gatherers ≡ pids
  pub sound : AreStreamsSound file pids

-- memory was wanted, or this is the first packet's fault
abbrev pub IsGatherFault : List ℕ → List ℕ → DemuxFault → Type 0
IsGatherFault file pids fault = IsMemory fault ⊎ IsFirstStreamFault file pids fault

-- no packet before the n-th is refused
abbrev pub AreSoundBefore : List ℕ → List ℕ → ℕ → Type 0
AreSoundBefore file pids n = (m : ℕ) (fault : DemuxFault) → m < n → IsStreamFault file pids m fault → ⊥

-- a gatherer stands beside each PID that is read
abbrev pub AreBeside : StreamGatherers → Type 0
AreBeside walk = gatherer_pids walk.gatherers.items ≡ pids_read walk.packets

-- a walk stands before the n-th packet of a file, and none before it is refused
pub record GathersUpTo (file : List ℕ) (n : ℕ) (walk : StreamGatherers) : Type 0 where
  pub stand : StandsAt file n walk.packets
  pub all : AllGather file n walk.gatherers.items
  pub sound : AreSoundBefore file (pids_read walk.packets) n
