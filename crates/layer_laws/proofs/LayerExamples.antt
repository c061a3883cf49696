-- The definitions of payloads at worked examples.
use Rattle.std.proofs.Common.{◌≡◌, ℕ, Bool, true, false, List, [], ◌∷◌, ◌++◌, replicate, Some, None, refl}
use Rattle.bit_lists.specs.Payload.{Payload}
use Rattle.ts_packets.specs.Packet.{PacketRecord}
use Rattle.ts_packets.specs.Carried.{payloads_on}
use Rattle.pes_units.specs.PesPieces.{pes_pieces}
use Rattle.pes_units.specs.Times.{decoding_time}
use Rattle.layer_laws.specs.Counted.{RiseByOne}

abbrev payload : Bool → List ℕ → Payload
payload start bytes = record { start = start; bytes = bytes }

-- 185 bytes go in a full packet and one with a byte; 184 fill one, with nothing behind it
two_pieces : pes_pieces (replicate 184 7 ++ 8 ∷ []) ≡ payload true (replicate 184 7) ∷ payload false (8 ∷ []) ∷ []
two_pieces = refl

one_piece : pes_pieces (replicate 184 7) ≡ payload true (replicate 184 7) ∷ []
one_piece = refl

abbrev packet : (pid counter : ℕ) → Bool → List ℕ → PacketRecord
packet pid counter start bytes = record { pid = pid; start = start; counter = counter; field = None; payload = bytes }

-- packets of another PID and those without payload stand between
abbrev mixed : List PacketRecord
mixed = packet 257 15 true (1 ∷ []) ∷ packet 256 3 true (2 ∷ []) ∷ packet 257 15 false [] ∷ packet 257 0 false (3 ∷ []) ∷ []

mixed_payloads : payloads_on 257 mixed ≡ payload true (1 ∷ []) ∷ payload false (3 ∷ []) ∷ []
mixed_payloads = refl

-- the counter behind 15 is 0
wrapped : RiseByOne (packet 257 15 true (1 ∷ []) ∷ packet 257 0 false (3 ∷ []) ∷ [])
wrapped = (refl, tt)

-- a picture that is decoded when it is presented needs no DTS of its own
unwritten_dts : decoding_time (record { pts = Some 900; dts = None }) ≡ Some 900
unwritten_dts = refl

earlier_dts : decoding_time (record { pts = Some 900; dts = Some 300 }) ≡ Some 300
earlier_dts = refl
