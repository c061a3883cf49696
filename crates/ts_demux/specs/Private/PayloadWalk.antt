-- What a walk over the packets of a file gives.
use Rattle.std.specs.Prelude.{◌≡◌, ℕ, ◌+◌, ◌<◌, nat_lt, ◌==◌, Bool, false, List, [], ◌++◌, length, Option, Some, None, option_and_then, if◌then◌else◌}
use Rattle.std.specs.Option.{option_map_or}
use Rattle.ts_packets.specs.Packet.{PacketRecord, packet_identifier, packet_of}
use Rattle.ts_packets.specs.TransportStream.{piece_count}
use Rattle.ts_packets.specs.Carried.{is_repeat}
use Rattle.ts_demux.specs.declared.payload_walk.PayloadWalk.{PayloadWalk}
use Rattle.ts_demux.specs.declared.payload_walk.Added.{Added}
use Rattle.ts_demux.specs.declared.payload_walk.Added.TheVariants.{Payload, Nothing, End}
use Rattle.ts_demux.specs.Payloads.{payload_behind}

-- a packet with payload
abbrev pub with_payload : PacketRecord → Option PacketRecord
with_payload packet = if nat_lt 0 (length packet.payload) then Some packet else None

-- the packet that the bytes are, where it is one of the PID with payload
abbrev pub payload_packet : ℕ → List ℕ → Option PacketRecord
payload_packet pid bytes = if packet_identifier bytes == pid then option_and_then with_payload (packet_of bytes) else None

-- the packet repeats the last one with payload
abbrev pub repeats : Option PacketRecord → PacketRecord → Bool
repeats last packet = option_map_or (is_repeat packet) last false

-- what a walk still gives
abbrev pub left_of : PayloadWalk → List ℕ
left_of walk = payload_behind walk.file.now walk.pid walk.next walk.last

-- the walk went over one packet of the file
pub record GoesOn (walk after : PayloadWalk) : Type 0 where
  pub within : walk.next < piece_count walk.file.now
  pub next : after.next ≡ walk.next + 1
  pub file : after.file.now ≡ walk.file.now

-- what a step of a walk does
abbrev pub Adds : Added → PayloadWalk → PayloadWalk → Type 0
Adds (Payload payload) walk after = GoesOn walk after × (left_of walk ≡ payload.now ++ left_of after) × (0 < length payload.now)
Adds Nothing walk after = GoesOn walk after × (left_of walk ≡ left_of after)
Adds End walk after = (left_of walk ≡ []) × (after ≡ walk)

-- what is left stays, and a payload is there if anything is left
pub record IsRefilled (payload : List ℕ) (walk : PayloadWalk) (payload_after : List ℕ) (after : PayloadWalk) : Type 0 where
  pub same : payload_after ++ left_of after ≡ payload ++ left_of walk
  pub progress : payload_after ≡ [] → left_of after ≡ []
