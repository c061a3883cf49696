-- When the pictures of a video are decoded, by the headers of its own PES packets and of its pictures (ISO/IEC 13818-1, 2.4.3.7; a picture without a time of
-- its own by 13818-2, annex C).
use Rattle.std.specs.Prelude.{◌≡◌, ℕ, ◌+◌, ◌*◌, List, [], ◌∷◌, map, Option, Some, None, pos}
use Rattle.std.specs.Option.{option_map}
use Rattle.stream_constants.specs.declared.clock.TheConstants.{TICKS_PER_TIME_UNIT}
use Rattle.syntax_types.specs.declared.picture.PicCoding.{PicCoding}
use Rattle.syntax_types.specs.declared.picture.Picture.{Picture}
use Rattle.syntax_types.specs.declared.picture.SeqState.{SeqState}
use Rattle.pes_units.specs.PesHeader.{pes_fields_of}
use Rattle.pes_units.specs.Times.{decoding_time}
use Rattle.picture_grammar.specs.Macroblock.{is_frame}
use Rattle.picture_reader.specs.Picture.{IsPictureOf}
use Rattle.ts_demux.specs.declared.demuxed.PesUnit.{PesUnit}
use Rattle.program_reader.specs.declared.timed_picture.Role.{Role}
use Rattle.elementary_streams.specs.Packets.{pes_payload_of}
use Rattle.program_reader.specs.Intervals.{CodedPicture, decoding_interval, nearest}
use Rattle.program_reader.specs.Units.{role_behind}
use Rattle.time_laws.specs.Clock.{IsFirstShown}

-- a picture of a stream, with the ticks from the stream's first byte up to its decoding
pub record DecodedPicture : Type 0 where
  pub seq : SeqState
  pub coding : PicCoding
  pub role : Role
  pub at : ℕ

-- with the state in force, its coding and its role alone
abbrev pub coded_of : DecodedPicture → CodedPicture
coded_of picture = record { seq = picture.seq; coding = picture.coding; role = picture.role }

-- the decoding time that a PES header states, in units of 1/90,000 s: its DTS, or its PTS where it has no DTS
abbrev pub stated_time : PesUnit → Option ℕ
stated_time packet = decoding_time (pes_fields_of packet.bytes).times

-- A picture behind earlier ones, the nearest first, is decoded when its program's clock first shows 300 times the decoding time that its header states. Where
-- it states none, the decoding interval of the picture before it behind that one's decoding.
abbrev pub IsDecodedWhen : (base : ℕ) → (earlier : List DecodedPicture) → (stated : Option ℕ) → (at : ℕ) → Type 0
IsDecodedWhen base earlier (Some time) at = IsFirstShown base (pos (TICKS_PER_TIME_UNIT * time)) at
IsDecodedWhen base (before ∷ earlier) None at = at ≡ before.at + decoding_interval (coded_of before) (map coded_of earlier)
IsDecodedWhen base [] None at = ⊥

-- A PES packet holds one picture behind earlier ones, which is decoded when its headers say.
pub record IsDecoded (base : ℕ) (earlier : List DecodedPicture) (packet : PesUnit) (picture : DecodedPicture) : Type 0 where
  pub spelled : Picture
  pub whole : IsPictureOf (option_map (λ before. before.seq) (nearest earlier)) (pes_payload_of packet) spelled
  pub seq_is : picture.seq ≡ spelled.seq
  pub coding_is : picture.coding ≡ spelled.coding
  pub role_is : picture.role ≡ role_behind (is_frame picture.coding) (option_map (λ before. before.role) (nearest earlier))
  pub when : IsDecodedWhen base earlier (stated_time packet) picture.at

-- PES packets behind earlier pictures, the nearest first, hold these pictures, one each
abbrev pub AreDecoded : (base : ℕ) → (earlier : List DecodedPicture) → List PesUnit → List DecodedPicture → Type 0
AreDecoded base earlier [] [] = Unit {0}
AreDecoded base earlier (packet ∷ packets) (picture ∷ pictures) = IsDecoded base earlier packet picture × AreDecoded base (picture ∷ earlier) packets pictures
AreDecoded base earlier packets pictures = ⊥

-- the first PES packet of some states this decoding time
abbrev pub BeginAt : (time : ℕ) → List PesUnit → Type 0
BeginAt time [] = ⊥
BeginAt time (packet ∷ packets) = stated_time packet ≡ Some time
