-- What the packets of a file carry on some PIDs, packet by packet (ISO/IEC 13818-1, 2.4.3.3).
use Rattle.std.specs.Prelude.{◌≡◌, ℕ, ◌+◌, ◌==◌, List, [], ◌∷◌, ◌++◌, map, slice_get, Option, Some, None, Result, Ok, Err, if◌then◌else◌}
use Rattle.bit_lists.specs.Payload.{CarriedPayload}
use Rattle.ts_packets.specs.TransportStream.{pid_pieces}
use Rattle.ts_packets.specs.Carried.{carried}
use Rattle.ts_packets.specs.PidReader.{IsBehind}
use Rattle.ts_demux.specs.declared.carried_packets.CarriedPackets.{CarriedPackets}
use Rattle.ts_demux.specs.declared.carried_packets.CarriedPid.{CarriedPid}
use Rattle.ts_demux.specs.declared.carried_packets.StreamPayload.{StreamPayload}
use Rattle.ts_demux.specs.declared.demux_fault.DemuxFault.{DemuxFault}
use Rattle.ts_demux.specs.Demux.{IsStreamFault}

-- the PIDs, in order
abbrev pub pids_read : CarriedPackets → List ℕ
pids_read packets = map (λ stream. stream.pid) packets.streams.items

-- none stands there twice
abbrev pub AreDistinct : List ℕ → Type 0
AreDistinct pids = (j k pid : ℕ) → slice_get pids j ≡ Some pid → slice_get pids k ≡ Some pid → j ≡ k

-- each reader has taken the packets of its PID before the n-th packet of the file
abbrev pub StandsAt : List ℕ → ℕ → CarriedPackets → Type 0
StandsAt file n packets = (k : ℕ) (stream : CarriedPid) → slice_get packets.streams.items k ≡ Some stream → IsBehind (pid_pieces file stream.pid 0 n) stream.packets

-- what a PID carries before the n-th packet
abbrev pub carried_before : List ℕ → ℕ → ℕ → List CarriedPayload
carried_before file pid n = carried (pid_pieces file pid 0 n)

-- a payload as one that is carried
abbrev pub as_carried : StreamPayload → CarriedPayload
as_carried found = record { at = found.at; payload = record { start = found.start; bytes = found.payload.now } }

-- what a found payload adds to what the k-th PID carries
abbrev pub added_to : ℕ → Option StreamPayload → List CarriedPayload
added_to k None = []
added_to k (Some found) = if found.index == k then as_carried found ∷ [] else []

-- The n-th packet has no fault, and adds to each PID what was found in it: to the one of its number the payload, to the others
-- nothing.
pub record AddsFound (file pids : List ℕ) (n : ℕ) (found : Option StreamPayload) : Type 0 where
  pub sound : (fault : DemuxFault) → IsStreamFault file pids n fault → ⊥
  pub each : (k pid : ℕ) → slice_get pids k ≡ Some pid → carried_before file pid (n + 1) ≡ carried_before file pid n ++ added_to k found

-- what comes of the n-th packet
abbrev pub TakesPacket : List ℕ → List ℕ → ℕ → Result (Option StreamPayload) DemuxFault → Type 0
TakesPacket file pids n (Ok found) = AddsFound file pids n found
TakesPacket file pids n (Err fault) = IsStreamFault file pids n fault
