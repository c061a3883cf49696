-- The worked examples, computed from the definitions.
use Rattle.std.proofs.Common.{◌≡◌, ℕ, [], ◌∷◌, Some, None, pos, false, refl}
use Rattle.bit_lists.specs.Fields.{bit, bits}
use Rattle.tstd_model.specs.declared.decoder_input.Arrival.{Arrival}
use Rattle.ts_demux.specs.declared.pid_places.Place.{Place}
use Rattle.ts_demux.specs.declared.demuxed.PesUnit.{PesUnit}
use Rattle.stream_audit.specs.Clock.{apart, clock_of, first_off}
use Rattle.stream_audit.specs.PesBytes.{brought_by_all, parts_carried}
use Rattle.stream_audit.specs.Removals.{removed_at}

-- ---- the clock

-- a packet with a clock reference, and one without
abbrev clock_place : (packet pcr : ℕ) → Place
clock_place packet pcr = record { packet = packet; pcr = Some pcr; start = false; payload = 0 }

abbrev bare_place : (packet payload : ℕ) → Place
bare_place packet payload = record { packet = packet; pcr = None; start = false; payload = payload }

-- slots of 1,880 ticks: byte 10 of packet n comes 1,880 n + 100 ticks behind the first byte
zero_is : clock_of 1880 (bare_place 0 184 ∷ clock_place 1 2480 ∷ clock_place 2 9999 ∷ []) ≡ Some 500
zero_is = refl

-- it was before the clock went round
zero_before_the_round : clock_of 1880 (clock_place 1 1880 ∷ []) ≡ Some 2576980377500
zero_before_the_round = refl

no_zero : clock_of 1880 (bare_place 0 184 ∷ []) ≡ None
no_zero = refl

-- off by 13 ticks, which are less than 500 ns, and by 14
off_by_13 : first_off 1880 500 (clock_place 1 2480 ∷ clock_place 2 4373 ∷ clock_place 3 6227 ∷ []) ≡ None
off_by_13 = refl

off_by_14 : first_off 1880 500 (clock_place 1 2480 ∷ clock_place 2 4374 ∷ clock_place 3 6227 ∷ []) ≡ Some 376
off_by_14 = refl

early_by_14 : first_off 1880 500 (clock_place 1 2480 ∷ clock_place 2 4373 ∷ clock_place 3 6226 ∷ []) ≡ Some 564
early_by_14 = refl

-- the shorter way round
apart_round : apart 2576980377597 3 ≡ 6
apart_round = refl

-- ---- removals

behind : removed_at 100 90 (pos 25) ≡ 15
behind = refl

before_the_first_byte : removed_at 100 90 (pos 5) ≡ 0
before_the_first_byte = refl

over_the_round : removed_at 2576980377595 5 (pos 7) ≡ 17
over_the_round = refl

-- ---- what bytes are

-- a PES packet with a header of ten bytes and three bytes behind it
abbrev pes_packet : PesUnit
pes_packet = record { at = 0; bytes = 0 ∷ 0 ∷ 1 ∷ 0xE0 ∷ 0 ∷ 0 ∷ 0x80 ∷ 0 ∷ 1 ∷ 0xFF ∷ 7 ∷ 8 ∷ 9 ∷ [] }

abbrev arrival : (slot_no header payload : ℕ) → Arrival
arrival slot_no header payload = record { slot_no = slot_no; header = header; payload = payload }

-- the first elementary byte isn't kept; a packet without payload comes between
two_packets : brought_by_all (bare_place 4 11 ∷ bare_place 5 0 ∷ bare_place 9 2 ∷ []) (parts_carried (record { from = 1; to = 3 }) [] (pes_packet ∷ []))
    ≡ arrival 4 10 10 ∷ arrival 5 0 0 ∷ arrival 9 0 2 ∷ []
unfolding bit bits
two_packets = refl

-- a header that goes on in the next packet is a header there
long_header : brought_by_all (bare_place 4 8 ∷ bare_place 5 5 ∷ []) (parts_carried (record { from = 0; to = 3 }) [] (pes_packet ∷ [])) ≡ arrival 4 8 8 ∷ arrival 5 2 5 ∷ []
unfolding bit bits
long_header = refl

-- bytes that no taken PES packet has
none_taken : brought_by_all (bare_place 4 8 ∷ []) (parts_carried (record { from = 0; to = 3 }) [] []) ≡ arrival 4 0 0 ∷ []
none_taken = refl
