-- The worked examples, computed from the definitions.
use Rattle.std.proofs.Common.{◌≡◌, ℕ, Bool, true, false, List, [], ◌∷◌, ◌++◌, replicate, Some, None, refl}
use Rattle.bit_lists.specs.Fields.{bit, bits}
use Rattle.ts_packets.specs.Carried.{joined_payload}
use Rattle.ts_demux.specs.declared.pid_places.Place.{Place}
use Rattle.ts_demux.specs.Payloads.{payload_behind}
use Rattle.ts_demux.specs.PidPlaces.{places_on}

-- a packet of PID 256 with payload alone: its fourth byte, and the byte that fills the payload
abbrev packet : ℕ → ℕ → List ℕ
packet fourth byte = 0x47 ∷ 0x01 ∷ 0x00 ∷ fourth ∷ replicate 184 byte

-- a packet that is sent twice is taken once
sent_twice : payload_behind (packet 0x13 0xAA ++ packet 0x13 0xAA ++ packet 0x14 0xBB) 256 0 None ≡ replicate 184 0xAA ++ replicate 184 0xBB
unfolding bit bits
sent_twice = refl

-- a scrambled packet is passed over, so that the one behind it repeats the one before it
passed_over : payload_behind (packet 0x13 0xAA ++ packet 0x94 0xCC ++ packet 0x13 0xAA ++ packet 0x14 0xBB) 256 0 None ≡ replicate 184 0xAA ++ replicate 184 0xBB
unfolding bit bits
passed_over = refl

-- from a later packet on, and of another PID
from_later : payload_behind (packet 0x13 0xAA ++ packet 0x14 0xBB) 256 1 None ≡ replicate 184 0xBB
unfolding bit bits
from_later = refl

of_another : payload_behind (packet 0x13 0xAA ++ packet 0x14 0xBB) 257 0 None ≡ []
unfolding bit bits
of_another = refl

-- all of it is the joined payload
joined : (file : List ℕ) (pid : ℕ) → payload_behind file pid 0 None ≡ joined_payload file pid
joined file pid = refl

-- ---- the packets of a PID

-- a packet of PID 256 without payload: its field has flags of the discontinuity and of a program clock reference, and the reference
abbrev clock_packet : List ℕ → List ℕ
clock_packet reference = 0x47 ∷ 0x01 ∷ 0x00 ∷ 0x23 ∷ 183 ∷ 0x10 ∷ reference ++ replicate 176 0xFF

-- base 2, extension 5
abbrev reference : List ℕ
reference = 0x00 ∷ 0x00 ∷ 0x00 ∷ 0x01 ∷ 0x7E ∷ 0x05 ∷ []

-- the same packet with the start flag
abbrev start_packet : ℕ → ℕ → List ℕ
start_packet fourth byte = 0x47 ∷ 0x41 ∷ 0x00 ∷ fourth ∷ replicate 184 byte

-- so much of a packet at its place
abbrev place : ℕ → Bool → ℕ → Place
place packet start payload = record { packet = packet; pcr = None; start = start; payload = payload }

-- a clock reference, a start, the same packet again, and its successor
four_places : places_on (clock_packet reference ++ start_packet 0x14 0xAA ++ start_packet 0x14 0xAA ++ packet 0x15 0xBB) 256
    ≡ record { packet = 0; pcr = Some 605; start = false; payload = 0 } ∷ place 1 true 184 ∷ place 2 false 0 ∷ place 3 false 184 ∷ []
unfolding bit bits
four_places = refl

-- those of another PID have none
none_of_another : places_on (packet 0x13 0xAA ++ packet 0x14 0xBB) 257 ≡ []
unfolding bit bits
none_of_another = refl

-- a payload that comes with another counter isn't one that comes again
not_again : places_on (start_packet 0x14 0xAA ++ start_packet 0x15 0xAA) 256 ≡ place 0 true 184 ∷ place 1 true 184 ∷ []
unfolding bit bits
not_again = refl
