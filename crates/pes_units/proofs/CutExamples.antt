-- The first of two faults of a last packet that is cut behind its header, computed from the definitions.
use Rattle.std.proofs.Common.{◌≡◌, ℕ, true, false, List, [], ◌∷◌, None, Some, refl}
use Rattle.bit_lists.specs.Fields.{bit, bits}
use Rattle.pes_units.specs.declared.pes_fault.PesFault.TheVariants.{BadPrefix, Scrambled, BadMarker}
use Rattle.pes_units.specs.PesPackets.{last_refusal}

-- a header with this third byte, stream id and byte of flags that states 255 bytes and has no more of them than it takes
abbrev cut : (third id flags : ℕ) → List ℕ
cut third id flags = 0x00 ∷ 0x00 ∷ third ∷ id ∷ 0x00 ∷ 0xFF ∷ flags ∷ 0x00 ∷ 0x00 ∷ []

-- `00` in place of `10` alone, and with scrambling 3 behind it, which is said first
cut_without_fixed_bits : last_refusal true (cut 0x01 0xE0 0x00) ≡ Some BadMarker
unfolding bit bits
cut_without_fixed_bits = refl

cut_scrambled_first : last_refusal true (cut 0x01 0xE0 0x30) ≡ Some Scrambled
unfolding bit bits
cut_scrambled_first = refl

-- before both a wrong prefix
cut_prefix_first : last_refusal true (cut 0x02 0xE0 0x30) ≡ Some BadPrefix
unfolding bit bits
cut_prefix_first = refl

-- so in audio, of which a cut packet is dropped where nothing is wrong with its header
cut_audio_scrambled_first : last_refusal false (cut 0x01 0xC0 0x30) ≡ Some Scrambled
unfolding bit bits
cut_audio_scrambled_first = refl

cut_audio_sound : last_refusal false (cut 0x01 0xC0 0x80) ≡ None
unfolding bit bits
cut_audio_sound = refl
