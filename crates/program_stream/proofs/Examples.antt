-- The definitions, computed at worked examples: each refusal at its place, beside a neighbour that isn't refused.
use Rattle.std.proofs.Common.{◌≡◌, ℕ, ◌+◌, zero, suc, true, false, List, [], ◌∷◌, ◌++◌, replicate, Some, None, refl, arith}
use Rattle.bit_lists.specs.Fields.{bit, bits}
use Rattle.program_stream.specs.declared.split_fault.SplitFault.TheVariants.{ShortFile, BadStart, BadPack, BadLength, NoVideo}
use Rattle.program_stream.specs.Elements.{Element, element_bytes, element_length, has_pack_marks, element_refusal, IsWholeElement, IsSoundElement, zero_bytes, prefix_alone, cut_element, AreElements, HasNoStart, no_start, no_element, bad_element, IsFirstRefusal}
use Rattle.program_stream.specs.Streams.{packets_of, first_video_id, carried_audio_ids, other_stream_ids}
use Rattle.program_stream.specs.Split.{HasElements, IsSplitRefused, short_file, no_video}

-- ---- the elements of a pack

-- a pack header without stuffing, its byte 4 given
abbrev pack_with : ℕ → Element
pack_with byte = record { zeros = 0; id = 0xBA; body = byte ∷ 0x00 ∷ 0x04 ∷ 0x00 ∷ 0x04 ∷ 0x01 ∷ 0x00 ∷ 0x00 ∷ 0x07 ∷ 0xF8 ∷ [] }

abbrev pub pack : Element
pack = pack_with 0x44

abbrev pub end_code : Element
end_code = record { zeros = 0; id = 0xB9; body = [] }

pack-whole : IsWholeElement pack
unfolding bit bits
pack-whole = record { some_id = omega arith; all_bytes = refl }

pack-sound : IsSoundElement pack
unfolding bit bits
pack-sound = record { whole = pack-whole; no_refusal = λ at. refl }

end-sound : IsSoundElement end_code
unfolding bit bits
end-sound = record { whole = record { some_id = omega arith; all_bytes = refl }; no_refusal = λ at. refl }

-- a pack header with all of its bits but one
pack-bad : (at : ℕ) → element_refusal at (pack_with 0x21) ≡ Some (BadPack at)
unfolding bit bits
pack-bad at = refl

-- its mark and marker bits, each 0 in turn; a rate of 0 and other reserved bits don't matter
marks : has_pack_marks (element_bytes pack) ≡ true
unfolding bit bits
marks = refl

mark_00 : has_pack_marks (0x00 ∷ 0x00 ∷ 0x01 ∷ 0xBA ∷ 0x04 ∷ 0x00 ∷ 0x04 ∷ 0x00 ∷ 0x04 ∷ 0x01 ∷ 0x00 ∷ 0x00 ∷ 0x07 ∷ 0xF8 ∷ []) ≡ false
unfolding bit bits
mark_00 = refl

mark_11 : has_pack_marks (0x00 ∷ 0x00 ∷ 0x01 ∷ 0xBA ∷ 0xC4 ∷ 0x00 ∷ 0x04 ∷ 0x00 ∷ 0x04 ∷ 0x01 ∷ 0x00 ∷ 0x00 ∷ 0x07 ∷ 0xF8 ∷ []) ≡ false
unfolding bit bits
mark_11 = refl

marker_base_high : has_pack_marks (0x00 ∷ 0x00 ∷ 0x01 ∷ 0xBA ∷ 0x40 ∷ 0x00 ∷ 0x04 ∷ 0x00 ∷ 0x04 ∷ 0x01 ∷ 0x00 ∷ 0x00 ∷ 0x07 ∷ 0xF8 ∷ []) ≡ false
unfolding bit bits
marker_base_high = refl

marker_base_middle : has_pack_marks (0x00 ∷ 0x00 ∷ 0x01 ∷ 0xBA ∷ 0x44 ∷ 0x00 ∷ 0x00 ∷ 0x00 ∷ 0x04 ∷ 0x01 ∷ 0x00 ∷ 0x00 ∷ 0x07 ∷ 0xF8 ∷ []) ≡ false
unfolding bit bits
marker_base_middle = refl

marker_base_low : has_pack_marks (0x00 ∷ 0x00 ∷ 0x01 ∷ 0xBA ∷ 0x44 ∷ 0x00 ∷ 0x04 ∷ 0x00 ∷ 0x00 ∷ 0x01 ∷ 0x00 ∷ 0x00 ∷ 0x07 ∷ 0xF8 ∷ []) ≡ false
unfolding bit bits
marker_base_low = refl

marker_extension : has_pack_marks (0x00 ∷ 0x00 ∷ 0x01 ∷ 0xBA ∷ 0x44 ∷ 0x00 ∷ 0x04 ∷ 0x00 ∷ 0x04 ∷ 0x00 ∷ 0x00 ∷ 0x00 ∷ 0x07 ∷ 0xF8 ∷ []) ≡ false
unfolding bit bits
marker_extension = refl

marker_rate_first : has_pack_marks (0x00 ∷ 0x00 ∷ 0x01 ∷ 0xBA ∷ 0x44 ∷ 0x00 ∷ 0x04 ∷ 0x00 ∷ 0x04 ∷ 0x01 ∷ 0x00 ∷ 0x00 ∷ 0x05 ∷ 0xF8 ∷ []) ≡ false
unfolding bit bits
marker_rate_first = refl

marker_rate_second : has_pack_marks (0x00 ∷ 0x00 ∷ 0x01 ∷ 0xBA ∷ 0x44 ∷ 0x00 ∷ 0x04 ∷ 0x00 ∷ 0x04 ∷ 0x01 ∷ 0x00 ∷ 0x00 ∷ 0x06 ∷ 0xF8 ∷ []) ≡ false
unfolding bit bits
marker_rate_second = refl

-- all other bits may be anything
free_bits : has_pack_marks (0x00 ∷ 0x00 ∷ 0x01 ∷ 0xBA ∷ 0x7F ∷ 0xFF ∷ 0xFF ∷ 0xFF ∷ 0xFF ∷ 0xFF ∷ 0xFF ∷ 0xFF ∷ 0xFF ∷ 0x00 ∷ []) ≡ true
unfolding bit bits
free_bits = refl

-- ---- lengths

stuffed : element_length (record { zeros = 0; id = 0xBA; body = 0x44 ∷ 0x00 ∷ 0x04 ∷ 0x00 ∷ 0x04 ∷ 0x01 ∷ 0x00 ∷ 0x00 ∷ 0x07 ∷ 0xFF ∷ [] }) ≡ 21
unfolding bit bits
stuffed = refl

system_header : element_length (record { zeros = 0; id = 0xBB; body = 0x01 ∷ 0x02 ∷ [] }) ≡ 6 + 0x0102
unfolding bit bits
system_header = refl

-- what is too short to say its length is shorter than this
no_length : element_length (record { zeros = 0; id = 0xE0; body = [] }) ≡ 6
unfolding bit bits
no_length = refl

-- ---- no length

-- the first and the last ids whose packets must state one, and the ids beside them
bad_length : (at : ℕ) → element_refusal at (record { zeros = 0; id = 0xC0; body = 0 ∷ 0 ∷ [] }) ≡ Some (BadLength at)
unfolding bit bits
bad_length at = refl

bad_video_length : (at : ℕ) → element_refusal at (record { zeros = 0; id = 0xEF; body = 0 ∷ 0 ∷ [] }) ≡ Some (BadLength at)
unfolding bit bits
bad_video_length at = refl

private_length : (at : ℕ) → element_refusal at (record { zeros = 0; id = 0xBF; body = 0 ∷ 0 ∷ [] }) ≡ None
unfolding bit bits
private_length at = refl

padding_length : (at : ℕ) → element_refusal at (record { zeros = 0; id = 0xBE; body = 0 ∷ 0 ∷ [] }) ≡ None
unfolding bit bits
padding_length at = refl

ecm_length : (at : ℕ) → element_refusal at (record { zeros = 0; id = 0xF0; body = 0 ∷ 0 ∷ [] }) ≡ None
unfolding bit bits
ecm_length at = refl

one_byte_length : (at : ℕ) → element_refusal at (record { zeros = 0; id = 0xC0; body = 0 ∷ 1 ∷ 7 ∷ [] }) ≡ None
unfolding bit bits
one_byte_length at = refl

-- ---- whole files

-- a pack header and an end code: no video
abbrev pub two_elements : List ℕ
two_elements = element_bytes pack ++ element_bytes end_code

pub two_elements-are : HasElements two_elements (pack ∷ end_code ∷ []) 0
two_elements-are = record {
  long = omega arith;
  are = record { rest = []; bytes_are = refl; sound = (pack-sound, (end-sound, tt)); ending = zero_bytes 0 refl refl };
}

pub two_elements-no_video : (drop : List ℕ) → IsSplitRefused two_elements drop (NoVideo 0)
two_elements-no_video drop = no_video (pack ∷ end_code ∷ []) 0 two_elements-are refl refl

-- with another byte 4 it is a bad pack header at 0
abbrev bad_pack : List ℕ
bad_pack = element_bytes (pack_with 0x21) ++ element_bytes end_code

bad_pack-whole : IsWholeElement (pack_with 0x21)
unfolding bit bits
bad_pack-whole = record { some_id = omega arith; all_bytes = refl }

bad_pack-refused : IsFirstRefusal bad_pack (BadPack 0)
bad_pack-refused = record { elements = []; rest = bad_pack; bytes_are = refl; sound = tt; refused = bad_element (pack_with 0x21) (element_bytes end_code) refl bad_pack-whole (pack-bad 0) }

-- its first 13 bytes are a short file
short : (drop : List ℕ) → IsSplitRefused (0x00 ∷ 0x00 ∷ 0x01 ∷ 0xBA ∷ 0x44 ∷ 0x00 ∷ 0x04 ∷ 0x00 ∷ 0x04 ∷ 0x01 ∷ 0x00 ∷ 0x00 ∷ 0x07 ∷ []) drop (ShortFile 0)
short drop = short_file (omega arith) refl

-- a byte 1 behind the pack header is no start, at the byte behind it
abbrev wrong_start : List ℕ
wrong_start = 0x01 ∷ 0x00 ∷ 0x01 ∷ 0xB9 ∷ []

wrong_start-none : HasNoStart wrong_start
wrong_start-none = record { not_zeros = not_zeros; no_prefix = no_prefix }
  where
    not_zeros : (zeros : ℕ) → wrong_start ≡ replicate zeros 0 → ⊥
    not_zeros zero is = cc
    not_zeros (suc n) is = cc

    no_prefix : (zeros : ℕ) (more : List ℕ) → wrong_start ≡ replicate zeros 0 ++ 0 ∷ 0 ∷ 1 ∷ more → ⊥
    no_prefix zero more is = cc
    no_prefix (suc n) more is = cc

no_start_at_14 : IsFirstRefusal (element_bytes pack ++ wrong_start) (BadStart 14)
no_start_at_14 = record { elements = pack ∷ []; rest = wrong_start; bytes_are = refl; sound = (pack-sound, tt); refused = no_start wrong_start-none refl }

-- an id that is none of an element is refused at its prefix, behind the zero bytes before it
low_id : IsFirstRefusal (element_bytes pack ++ 0 ∷ 0 ∷ 0 ∷ 0 ∷ 1 ∷ 0xB8 ∷ []) (BadStart 16)
low_id = record { elements = pack ∷ []; rest = 0 ∷ 0 ∷ 0 ∷ 0 ∷ 1 ∷ 0xB8 ∷ []; bytes_are = refl; sound = (pack-sound, tt); refused = no_element (record { zeros = 2; id = 0xB8; body = [] }) refl (omega arith) refl }

-- an end code there is an element, and so is nothing, zero bytes, and a start that the end cuts
end_there : AreElements (element_bytes pack ++ 0 ∷ 0 ∷ 0 ∷ 0 ∷ 1 ∷ 0xB9 ∷ []) (pack ∷ record { zeros = 2; id = 0xB9; body = [] } ∷ []) 0
unfolding bit bits
end_there = record { rest = []; bytes_are = refl; sound = (pack-sound, (record { whole = record { some_id = omega arith; all_bytes = refl }; no_refusal = λ at. refl }, tt)); ending = zero_bytes 0 refl refl }

zeros_there : AreElements (element_bytes pack ++ 0 ∷ 0 ∷ 0 ∷ []) (pack ∷ []) 0
zeros_there = record { rest = 0 ∷ 0 ∷ 0 ∷ []; bytes_are = refl; sound = (pack-sound, tt); ending = zero_bytes 3 refl refl }

prefix_there : AreElements (element_bytes pack ++ 0 ∷ 0 ∷ 0 ∷ 1 ∷ []) (pack ∷ []) 1
prefix_there = record { rest = 0 ∷ 0 ∷ 0 ∷ 1 ∷ []; bytes_are = refl; sound = (pack-sound, tt); ending = prefix_alone 1 refl refl }

cut_there : AreElements (element_bytes pack ++ 0 ∷ 0 ∷ 1 ∷ 0xE0 ∷ 0 ∷ 2 ∷ 7 ∷ []) (pack ∷ []) 1
unfolding bit bits
cut_there = record { rest = 0 ∷ 0 ∷ 1 ∷ 0xE0 ∷ 0 ∷ 2 ∷ 7 ∷ []; bytes_are = refl; sound = (pack-sound, tt); ending = cut_element (record { zeros = 0; id = 0xE0; body = 0 ∷ 2 ∷ 7 ∷ [] }) refl (record { some_id = omega arith; few_bytes = omega arith }) refl }

-- ---- streams

abbrev packet : ℕ → ℕ → Element
packet id byte = record { zeros = 1; id = id; body = 0 ∷ 1 ∷ byte ∷ [] }

-- two video streams, two audio streams of which the second is dropped, a private stream, padding and a system header
abbrev several : List Element
several = packet 0xC1 1 ∷ packet 0xBB 2 ∷ packet 0xE1 3 ∷ packet 0xE0 4 ∷ packet 0xC0 5 ∷ packet 0xE1 6 ∷ packet 0xBD 7 ∷ packet 0xBE 8 ∷ packet 0xC0 9 ∷ packet 0xE0 10 ∷ packet 0xC2 11 ∷ end_code ∷ []

-- the first that comes is the video, whatever is to be dropped
video_first : first_video_id several ≡ Some 0xE1
video_first = refl

audios_are : carried_audio_ids (0xC0 ∷ 0xE1 ∷ []) several ≡ 0xC1 ∷ 0xC2 ∷ []
audios_are = refl

others_are : other_stream_ids (0xC0 ∷ 0xE1 ∷ []) 0xE1 several ≡ 0xE0 ∷ 0xC0 ∷ 0xBD ∷ []
others_are = refl

-- each at the byte of its prefix, behind a zero byte
video_packets : packets_of several 0xE1 ≡ record { at = 17; bytes = 0 ∷ 0 ∷ 1 ∷ 0xE1 ∷ 0 ∷ 1 ∷ 3 ∷ [] } ∷ record { at = 41; bytes = 0 ∷ 0 ∷ 1 ∷ 0xE1 ∷ 0 ∷ 1 ∷ 6 ∷ [] } ∷ []
video_packets = refl
