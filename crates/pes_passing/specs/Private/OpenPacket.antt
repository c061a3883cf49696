-- One payload more of the packets of a stream.
use Rattle.std.specs.Prelude.{◌≡◌, ℕ, ◌+◌, Bool, true, false, List, [], ◌++◌, Option, Some, None, IsSome}
use Rattle.std.specs.Option.{option_to_list}
use Rattle.ts_demux.specs.declared.demuxed.PesUnit.{PesUnit}
use Rattle.pes_passing.specs.declared.open_packet.OpenPacket.{OpenPacket}

-- a packet with one payload more
abbrev pub with_payload : List ℕ → PesUnit → PesUnit
with_payload payload packet = record { at = packet.at; bytes = packet.bytes ++ payload }

-- the bytes of a held packet
abbrev pub room_of : Option PesUnit → List ℕ
room_of None = []
room_of (Some packet) = packet.bytes

-- A packet that ends is held and counted; else nothing is counted, and the last one is held.
abbrev pub Counts : Bool → OpenPacket → OpenPacket → Type 0
Counts true old new = (new.held ≡ old.held) × (new.count ≡ old.count + 1)
Counts false old new = (new.begun ≡ None) × (new.count ≡ old.count)

-- the packets that have ended, behind a transport packet that ends the held one, or doesn't
abbrev pub ended_behind : Bool → List PesUnit → Option PesUnit → List PesUnit
ended_behind true ended held = ended ++ option_to_list held
ended_behind false ended held = ended

-- one that has ended is held; else the last one is
abbrev pub Holds : Bool → OpenPacket → Type 0
Holds true packet = IsSome packet.held
Holds false packet = packet.begun ≡ None
