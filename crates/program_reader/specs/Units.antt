-- The coded pictures of a video stream with their times: which are kept, and what refuses them. (Field pairs by ISO/IEC 13818-2,
-- 6.1.1.4.1, the times of pictures that state none by its annex C; the order of refusals is this project's.)
use Rattle.std.specs.Prelude.{◌≡◌, ◌⊎◌, ℕ, ◌+◌, ◌-◌, ◌/◌, ◌<◌, ◌≤◌, Bool, true, false, List, [], ◌∷◌, ◌++◌, map, slice_range, Option, Some, None, ℤ, pos, ◌+ℤ◌, ◌*ℤ◌, ◌<ℤ◌}
use Rattle.std.specs.List.{last_or}
use Rattle.std.specs.Option.{option_map}
use Rattle.stream_constants.specs.declared.clock.TheConstants.{TICKS_PER_TIME_UNIT}
use Rattle.syntax_types.specs.declared.picture.PicCoding.{PicCoding}
use Rattle.syntax_types.specs.declared.picture.Picture.{Picture}
use Rattle.syntax_types.specs.declared.picture.SeqState.{SeqState}
use Rattle.pes_units.specs.TimeAxis.{IsUnwrapped}
use Rattle.pes_units.specs.Times.{decoding_time}
use Rattle.picture_grammar.specs.Macroblock.{is_frame}
use Rattle.picture_grammar.specs.Picture.{RefusesPicture}
use Rattle.picture_grammar.specs.Refusal.{Refusal}
use Rattle.picture_reader.specs.Picture.{IsPictureOf}
use Rattle.program_reader.specs.declared.limits.TheConstants.{UNIT_BYTES_MOST}
use Rattle.elementary_streams.specs.declared.pes_packets.PlacedPacket.{PlacedPacket}
use Rattle.program_reader.specs.declared.program_fault.ProgramFault.{ProgramFault}
use Rattle.program_reader.specs.declared.program_fault.ProgramFault.TheVariants.{Refused}
use Rattle.program_reader.specs.declared.program_fault.SourceKind.TheVariants as kinds
use Rattle.program_reader.specs.declared.timed_picture.Role.{Role}
use Rattle.program_reader.specs.declared.timed_picture.Role.TheVariants.{Frame, FirstField, SecondField}
use Rattle.program_reader.specs.declared.timed_picture.TimedPicture.{TimedPicture}
use Rattle.program_reader.specs.Faults.{source_kind_of}
use Rattle.program_reader.specs.Intervals.{CodedPicture, before_frame, interval_behind, nearest, reference_shown}
use Rattle.program_reader.specs.PictureTimes.{times_of_unit}

-- ---- a unit

-- its bytes, from its first place up to the one behind its last
abbrev pub unit_bytes : List ℕ → ℕ × ℕ → List ℕ
unit_bytes es unit = slice_range es unit.0 unit.1

-- its number of bytes
abbrev pub unit_size : ℕ × ℕ → ℕ
unit_size unit = unit.1 - unit.0

-- the state in force behind a picture, or none before the first one
abbrev pub state_behind : Option TimedPicture → Option SeqState
state_behind before = option_map (λ picture. picture.seq) before

-- the unit is a coded picture behind the one before, with this state in force and so coded
pub record IsCoded (es : List ℕ) (before : Option TimedPicture) (unit : ℕ × ℕ) (seq : SeqState) (coding : PicCoding) : Type 0 where
  pub picture : Picture
  pub whole : IsPictureOf (state_behind before) (unit_bytes es unit) picture
  pub seq_is : picture.seq ≡ seq
  pub coding_is : picture.coding ≡ coding

-- the unit breaks a rule of headers or pictures, first at this byte of the stream
pub record IsBroken (es : List ℕ) (before : Option TimedPicture) (unit : ℕ × ℕ) (refusal : Refusal) (at : ℕ) : Type 0 where
  pub place : ℕ
  pub refused : RefusesPicture (state_behind before) (unit_bytes es unit) refusal place
  pub at_is : at ≡ unit.0 + place / 8

-- ---- fields (6.1.1.4.1)

-- a field picture is a second field where the picture before it is a first field, and else a first field
abbrev pub role_behind : Bool → Option Role → Role
role_behind true before = Frame
role_behind false (Some FirstField) = SecondField
role_behind false (Some Frame) = FirstField
role_behind false (Some SecondField) = FirstField
role_behind false None = FirstField

-- what a picture so coded is behind the one before
abbrev pub role_of : Option TimedPicture → PicCoding → Role
role_of before coding = role_behind (is_frame coding) (option_map (λ picture. picture.role) before)

-- behind a first field stands a frame, or a field of the same parity
abbrev pub IsUnpaired : Option TimedPicture → PicCoding → Type 0
IsUnpaired None coding = ⊥
IsUnpaired (Some before) coding = (before.role ≡ FirstField) × ((is_frame coding ≡ true) ⊎ (coding.structure ≡ before.coding.structure))

-- ---- times

-- a picture with the state in force, its coding and its role alone
abbrev pub coded_as : TimedPicture → CodedPicture
coded_as picture = record { seq = picture.seq; coding = picture.coding; role = picture.role }

-- ticks up to the next picture where that states no time: its decoding interval
abbrev pub ticks_behind : TimedPicture → ℕ
ticks_behind picture = interval_behind (coded_as picture) picture.reference_before

-- The time of a picture, in units of 1/90,000 s where it is stated and in ticks. It is the stated one, placed on the axis of
-- the last stated one before it; or the decoding interval of the picture before behind that.
abbrev pub IsTimed : Option TimedPicture → Option ℕ → ℤ → ℤ → Type 0
IsTimed None None stated ticks = ⊥
IsTimed None (Some value) stated ticks = (stated ≡ pos value) × (ticks ≡ pos TICKS_PER_TIME_UNIT *ℤ stated)
IsTimed (Some before) (Some value) stated ticks = IsUnwrapped before.stated value stated × (ticks ≡ pos TICKS_PER_TIME_UNIT *ℤ stated)
IsTimed (Some before) None stated ticks = (stated ≡ before.stated) × (ticks ≡ before.ticks +ℤ pos (ticks_behind before))

-- the first picture has no stated time
abbrev pub HasNoTime : Option TimedPicture → Option ℕ → Type 0
HasNoTime before (Some value) = ⊥
HasNoTime None None = Unit {0}
HasNoTime (Some before) None = ⊥

-- a time is later than that of the picture before
abbrev pub IsLater : Option TimedPicture → ℤ → Type 0
IsLater None ticks = Unit {0}
IsLater (Some before) ticks = before.ticks <ℤ ticks

-- ---- one unit behind those before

-- what a picture says of the last coded I or P frame: what it is shown for, of the frames before the picture's own, and of these and its own
pub record TellsReference (earlier : List TimedPicture) (picture : TimedPicture) : Type 0 where
  pub before : picture.reference_before ≡ reference_shown (before_frame picture.role (map coded_as earlier))
  pub behind : picture.reference_behind ≡ reference_shown (map coded_as (picture ∷ earlier))

-- The unit is this picture behind earlier ones, the nearest first: it keeps the rules of headers and pictures, completes a first field that
-- stands before it, is no longer than a unit may be, and has a time, which is later than the one before.
pub record IsNext (es : List ℕ) (packets : List PlacedPacket) (earlier : List TimedPicture) (unit : ℕ × ℕ) (picture : TimedPicture) : Type 0 where
  pub coded : IsCoded es (nearest earlier) unit picture.seq picture.coding
  pub paired : ¬ IsUnpaired (nearest earlier) picture.coding
  pub short : unit_size unit ≤ UNIT_BYTES_MOST
  pub role_is : picture.role ≡ role_of (nearest earlier) picture.coding
  pub reference : TellsReference earlier picture
  pub times_are : picture.times ≡ times_of_unit es packets unit
  pub timed : IsTimed (nearest earlier) (decoding_time picture.times) picture.stated picture.ticks
  pub later : IsLater (nearest earlier) picture.ticks

-- What refuses a unit behind the one before, each of these where none above it does: a rule of headers or pictures, which
-- a last unit may break; a field pair; its length; no time; no later time.
pub data IsUnitRefused (es : List ℕ) (packets : List PlacedPacket) (before : Option TimedPicture) (unit : ℕ × ℕ) (is_last : Bool) (fault : ProgramFault) : Type 0 where
  broken : (refusal : Refusal) (at : ℕ) → is_last ≡ false → IsBroken es before unit refusal at → fault ≡ Refused (source_kind_of refusal) at
      → IsUnitRefused es packets before unit is_last fault
  unpaired : (seq : SeqState) (coding : PicCoding) → IsCoded es before unit seq coding → IsUnpaired before coding
      → fault ≡ Refused kinds.FieldPair unit.0 → IsUnitRefused es packets before unit is_last fault
  long : (seq : SeqState) (coding : PicCoding) → IsCoded es before unit seq coding → ¬ IsUnpaired before coding → UNIT_BYTES_MOST < unit_size unit
      → fault ≡ Refused kinds.ProgramLimit 0 → IsUnitRefused es packets before unit is_last fault
  no_time : (seq : SeqState) (coding : PicCoding) → IsCoded es before unit seq coding → ¬ IsUnpaired before coding → unit_size unit ≤ UNIT_BYTES_MOST
      → HasNoTime before (decoding_time (times_of_unit es packets unit)) → fault ≡ Refused kinds.NoTime unit.0
      → IsUnitRefused es packets before unit is_last fault
  not_later : (seq : SeqState) (coding : PicCoding) (stated ticks : ℤ) → IsCoded es before unit seq coding → ¬ IsUnpaired before coding
      → unit_size unit ≤ UNIT_BYTES_MOST → IsTimed before (decoding_time (times_of_unit es packets unit)) stated ticks → ¬ IsLater before ticks
      → fault ≡ Refused kinds.TimeOrder unit.0 → IsUnitRefused es packets before unit is_last fault

-- ---- all units

-- units are these pictures, each behind those before it: earlier ones, the nearest first, and those of the units before it
abbrev pub AreInOrder : List ℕ → List PlacedPacket → (earlier : List TimedPicture) → List (ℕ × ℕ) → List TimedPicture → Type 0
AreInOrder es packets earlier [] [] = Unit {0}
AreInOrder es packets earlier [] (_ ∷ _) = ⊥
AreInOrder es packets earlier (_ ∷ _) [] = ⊥
AreInOrder es packets earlier (unit ∷ units) (picture ∷ pictures) =
    IsNext es packets earlier unit picture × AreInOrder es packets (picture ∷ earlier) units pictures

-- the last of some pictures, if there are any
abbrev pub last_of : List TimedPicture → Option TimedPicture
last_of pictures = last_or None pictures

-- some units follow
abbrev pub is_none_left : List (ℕ × ℕ) → Bool
is_none_left [] = true
is_none_left (_ ∷ _) = false

-- The first unit that is refused: those before it are pictures in order.
pub record IsUnitsFault (es : List ℕ) (packets : List PlacedPacket) (units : List (ℕ × ℕ)) (fault : ProgramFault) : Type 0 where
  pub before : List (ℕ × ℕ)
  pub unit : ℕ × ℕ
  pub more : List (ℕ × ℕ)
  pub split : units ≡ before ++ unit ∷ more
  pub pictures : List TimedPicture
  pub in_order : AreInOrder es packets [] before pictures
  pub refused : IsUnitRefused es packets (last_of pictures) unit (is_none_left more) fault

-- The units that are kept, as pictures in order, and how many are dropped at the end: all, or all but a last one that breaks a rule of headers or
-- pictures.
pub data AreKept (es : List ℕ) (packets : List PlacedPacket) (units kept : List (ℕ × ℕ)) (pictures : List TimedPicture) (dropped : ℕ) : Type 0 where
  all : units ≡ kept → AreInOrder es packets [] kept pictures → dropped ≡ 0 → AreKept es packets units kept pictures dropped
  but_last : (last : ℕ × ℕ) (refusal : Refusal) (at : ℕ) → units ≡ kept ++ last ∷ [] → AreInOrder es packets [] kept pictures
      → IsBroken es (last_of pictures) last refusal at → dropped ≡ 1 → AreKept es packets units kept pictures dropped
