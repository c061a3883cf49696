-- The definitions computed at worked examples.
use Rattle.std.proofs.Common.{◌≡◌, false, [], ◌∷◌, Some, None, refl, arith}
use Rattle.std.proofs.lemmas.List.Elements.{All-nil, All-push}
use Rattle.bit_lists.specs.Fields.{bit, bits}
use Rattle.pes_units.specs.declared.pes_fault.PesFault.TheVariants.{BadPrefix}
use Rattle.pes_units.specs.PesPackets.{packet_refusal}
use Rattle.ts_demux.specs.declared.demuxed.PesUnit.{PesUnit}
use Rattle.elementary_streams.specs.declared.stream_fault.StreamFault.TheVariants.{Pes}
use Rattle.elementary_streams.proofs.TakenLemmas.{IsWhole}
use Rattle.pes_passing.specs.PassingPackets.{AreSplit}
use Rattle.audio_walk.specs.AudioWalk.{IsFaultBefore, IsRateOf}

-- a byte behind a header of nine, and the same with another third byte
abbrev one : PesUnit
one = record { at = 188; bytes = 0x00 ∷ 0x00 ∷ 0x01 ∷ 0xC0 ∷ 0x00 ∷ 0x04 ∷ 0x80 ∷ 0x00 ∷ 0x00 ∷ 0xFF ∷ [] }

abbrev other : PesUnit
other = record { at = 376; bytes = 0x00 ∷ 0x00 ∷ 0x02 ∷ 0xC0 ∷ 0x00 ∷ 0x04 ∷ 0x80 ∷ 0x00 ∷ 0x00 ∷ 0xFF ∷ [] }

one_is : packet_refusal false one.bytes ≡ None
unfolding bit bits
one_is = refl

other_is : packet_refusal false other.bytes ≡ Some BadPrefix
unfolding bit bits
other_is = refl

-- behind the one the other is the first with a fault, whatever packets follow
first_fault : IsFaultBefore (one ∷ []) other (Pes 376 BadPrefix)
first_fault = λ next more. record {
  before = one ∷ [];
  packet = other;
  more = next ∷ more;
  split = refl;
  sound = All-push (IsWhole false) [] one (All-nil (IsWhole false)) one_is;
  found = BadPrefix;
  refused = other_is;
  fault_is = refl;
}

-- no bytes have come: all of them are kept
no_bytes : IsRateOf [] [] None
no_bytes = (0, omega arith, refl, λ k lt. absurd (omega (arith, lt)))

-- a stream of one packet, and of none
all_of_one : AreSplit (one ∷ []) [] (Some one)
all_of_one = record { packets = refl; none = λ _. refl }

all_of_none : AreSplit [] [] None
all_of_none = record { packets = refl; none = λ _. refl }
