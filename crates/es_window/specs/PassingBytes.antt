-- The bytes of an elementary stream that have come, while the transport packets of a file pass out of a source.
use Rattle.std.specs.Prelude.{◌≡◌, ℕ, ◌-◌, ◌<◌, ◌≤◌, Bool, true, false, List, ◌++◌, length, take, drop, slice_get, Option, Some}
use Rattle.std.specs.List.{flat_map}
use Rattle.std.specs.Option.{option_to_list}
use Rattle.ts_packets.specs.TransportStream.{piece_count}
use Rattle.ts_demux.specs.declared.demuxed.PesUnit.{PesUnit}
use Rattle.ts_demux.specs.Pass.{IsWhole}
use Rattle.elementary_streams.specs.Packets.{pes_payload_of}
use Rattle.pes_passing.specs.PassingPackets.{HasPassed, held_of, index_of, packets_before, pids_of, size_of, StandsAtEnd}
use Rattle.es_window.specs.declared.held_part.HeldPart.{HeldPart}
use Rattle.es_window.specs.declared.held_part.HeldPart.TheVariants.{Packet, Payload}
use Rattle.es_window.specs.declared.passing_bytes.PassingBytes.{PassingBytes}
use Rattle.es_window.specs.EsWindow.{window_end, IsWindowOf}

-- ---- the stream

-- what is read of a PES packet: its payload, or header and payload
abbrev pub part_of : HeldPart → PesUnit → List ℕ
part_of Payload packet = pes_payload_of packet
part_of Packet packet = packet.bytes

-- the same of PES packets, one behind the other
abbrev pub bytes_in : HeldPart → List PesUnit → List ℕ
bytes_in part packets = flat_map (part_of part) packets

-- that of all PES packets of a PID of a file
abbrev pub stream_of : HeldPart → (file : List ℕ) → (pid : ℕ) → List ℕ
stream_of part file pid = bytes_in part (packets_before file pid (piece_count file))

-- these bytes stand in a stream from a place up to another
pub record IsPart (es : List ℕ) (from to : ℕ) (part : List ℕ) : Type 0 where
  pub order : from ≤ to
  pub within : to ≤ length es
  pub part_is : part ≡ take (to - from) (drop from es)

-- the PIDs whose packets are read
abbrev pub read_pids : PassingBytes → List ℕ
read_pids bytes = pids_of bytes.packets

-- the number among them of the one whose stream is held
abbrev pub read_index : PassingBytes → ℕ
read_index bytes = index_of bytes.packets

-- what of each PES packet is held
abbrev pub part_read : PassingBytes → HeldPart
part_read bytes = bytes.part

-- ---- how far it has come

-- The PES packets that have ended have come.
pub record HasSome (left left_after : Option (List ℕ)) (most most_after : ℕ) (held : List ℕ) (bytes : PassingBytes) : Type 0 where
  pub ended : List PesUnit
  pub passed : HasPassed left left_after most most_after held ended bytes.packets
  pub window : IsWindowOf (bytes_in bytes.part ended) bytes.window
  pub few : window_end bytes.window ≤ size_of ended

-- It stands at the end of a file, and all PES packets have come.
pub record HasAll (file : List ℕ) (bytes : PassingBytes) : Type 0 where
  pub ended : List PesUnit
  pub stands : StandsAtEnd file ended bytes.packets
  pub window : IsWindowOf (bytes_in bytes.part (ended ++ option_to_list (held_of bytes.packets))) bytes.window

-- what has come before the source's end, and behind it
abbrev pub HasCome : (has_ended : Bool) → (left left_after : Option (List ℕ)) → (most most_after : ℕ) → (held : List ℕ) → PassingBytes → Type 0
HasCome false left left_after most most_after held bytes = HasSome left left_after most most_after held bytes
HasCome true left left_after most most_after held bytes = IsWhole left left_after most most_after held (λ file. HasAll file bytes)

-- The bytes of a stream have come as far as the packets of a source, from its front on, carry them.
abbrev pub HasRead : (left left_after : Option (List ℕ)) → (most most_after : ℕ) → (held : List ℕ) → PassingBytes → Type 0
HasRead left left_after most most_after held bytes = HasCome bytes.has_ended left left_after most most_after held bytes

-- the stream of the file that a source gave ends before a place
abbrev pub EndsBefore : (left left_after : Option (List ℕ)) → (most most_after : ℕ) → (held : List ℕ) → HeldPart → (pids : List ℕ) → (index to : ℕ) → Type 0
EndsBefore left left_after most most_after held part pids index to =
    IsWhole left left_after most most_after held (λ file. (pid : ℕ) → slice_get pids index ≡ Some pid → length (stream_of part file pid) < to)
