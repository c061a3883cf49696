-- Worked examples: version 0 of a unit whose group of pictures header looks like a picture start code, and the sizes of
-- versions. The bytes were worked out by hand.
use Rattle.std.proofs.Common.{◌≡◌, ℕ, List, [], ◌∷◌, ◌++◌, Bool, map, refl}
use Rattle.syntax_types.specs.declared.picture.PicCoding.{PicCoding}
use Rattle.syntax_types.specs.declared.picture.SeqState.{SeqState}
use Rattle.syntax_types.specs.declared.slice.Slice.{Slice}
use Rattle.picture_heads.proofs.Examples.{behind_group}
use Rattle.version_maker.specs.declared.version.UnitVersion.{UnitVersion}
use Rattle.version_maker.specs.Versions.{IsSourceVersion, size_of}
use Rattle.picture_laws.proofs.ExampleUnits.{slice_bytes}

-- a group of pictures header, an I-picture with vbv_delay 1234 in hexadecimal, and its coding extension
abbrev head_bytes : List ℕ
head_bytes = 0x00 ∷ 0x00 ∷ 0x01 ∷ 0xB8 ∷ 0x00 ∷ 0x00 ∷ 0x01 ∷ 0x00
    ∷ 0x00 ∷ 0x00 ∷ 0x01 ∷ 0x00 ∷ 0x00 ∷ 0x08 ∷ 0x91 ∷ 0xA0
    ∷ 0x00 ∷ 0x00 ∷ 0x01 ∷ 0xB5 ∷ 0x8F ∷ 0xFF ∷ 0xF3 ∷ 0x41 ∷ 0x80 ∷ []

-- the same with a vbv_delay of ones
abbrev head_without : List ℕ
head_without = 0x00 ∷ 0x00 ∷ 0x01 ∷ 0xB8 ∷ 0x00 ∷ 0x00 ∷ 0x01 ∷ 0x00
    ∷ 0x00 ∷ 0x00 ∷ 0x01 ∷ 0x00 ∷ 0x00 ∷ 0x0F ∷ 0xFF ∷ 0xF8
    ∷ 0x00 ∷ 0x00 ∷ 0x01 ∷ 0xB5 ∷ 0x8F ∷ 0xFF ∷ 0xF3 ∷ 0x41 ∷ 0x80 ∷ []

abbrev source_version : UnitVersion
source_version = record { bytes = head_without ++ slice_bytes; distortion = 0 }

-- whatever its slices and its state are
delay_alone_is_set : (seq : SeqState) (coding : PicCoding) (slices : List Slice) (sequence_end : Bool)
    → IsSourceVersion (record { seq = seq; coding = coding; head = head_bytes; slices = slices; sequence_end = sequence_end }) (head_bytes ++ slice_bytes) source_version
delay_alone_is_set seq coding slices sequence_end =
    record { head = head_without; behind = slice_bytes; without = behind_group; source = refl; bytes = refl; distortion = refl }

sizes_in_order : map size_of (source_version ∷ record { bytes = head_without; distortion = 9 } ∷ []) ≡ record { bytes = 34; distortion = 0 } ∷ record { bytes = 25; distortion = 9 } ∷ []
sizes_in_order = refl
