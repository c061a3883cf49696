-- The worked examples, computed from the definitions.
use Rattle.std.proofs.Common.{◌≡◌, ◌-◌, ◌*◌, ◌^◌, ◌∷◌, replicate, refl}
use Rattle.pcr_writer.specs.PcrPacket.{arrival_ticks, pcr_at, pcr_record}
use Rattle.ts_packets.specs.Packet.{written}

-- slot 2 of slots of 1,080 ticks: 2,160 ticks, and 57 until byte 10
in_slot_2 : pcr_at 0 2 1080 ≡ 2217
in_slot_2 = refl

bytes_in_slot_2 : written (pcr_record 0x101 15 (pcr_at 0 2 1080)) ≡ 0x47 ∷ 0x01 ∷ 0x01 ∷ 0x2F ∷ 0xB7 ∷ 0x10 ∷ 0x00 ∷ 0x00 ∷ 0x00 ∷ 0x03 ∷ 0xFE ∷ 0x75 ∷ replicate 176 0xFF
bytes_in_slot_2 = refl

-- byte 10 of slot 0 comes 57 ticks after its first one, byte 0 with it
first_byte : arrival_ticks 1080 2 0 ≡ 2160
first_byte = refl

-- the last value, and the next one
last_value : pcr_at (300 * 2 ^ 33 - 58) 0 1080 ≡ 300 * 2 ^ 33 - 1
last_value = refl

wraps : pcr_at (300 * 2 ^ 33 - 57) 0 1080 ≡ 0
wraps = refl

bytes_of_last_value : written (pcr_record 0x111 0 (pcr_at (300 * 2 ^ 33 - 58) 0 1080)) ≡ 0x47 ∷ 0x01 ∷ 0x11 ∷ 0x20 ∷ 0xB7 ∷ 0x10 ∷ 0xFF ∷ 0xFF ∷ 0xFF ∷ 0xFF ∷ 0xFF ∷ 0x2B ∷ replicate 176 0xFF
bytes_of_last_value = refl

-- slot 3,000,000 of slots of 40,000 ticks, from a base near the modulus: 120,000,000,000 + 2,127 - 1 ticks behind it
far_on : pcr_at (300 * 2 ^ 33 - 1) 3000000 40000 ≡ 120000002126
far_on = refl
