-- Which times a picture may have, so that those behind it are numbers of 64 bits.
use Rattle.std.specs.Prelude.{◌≡◌, ◌⊎◌, ◌≤◌, ℕ, ◌+◌, ◌*◌, ◌/◌, ◌^◌, true, List, [], ◌∷◌, IfSome, Option, Some, None, Result, Ok, Err, if◌then◌else◌, pos, neg_ℤ, ◌≤ℤ◌}
use Rattle.syntax_types.specs.declared.picture.PicCoding.{PicCoding}
use Rattle.syntax_types.specs.declared.picture.SeqState.{SeqState}
use Rattle.picture_grammar.specs.Refusal.{Refusal}
use Rattle.picture_grammar.specs.Picture.{IsState}
use Rattle.grammar_reading.specs.BitsRead.{PlacedRefusal}
use Rattle.elementary_streams.specs.declared.pes_packets.PlacedPacket.{PlacedPacket}
use Rattle.program_reader.specs.declared.program_fault.ProgramFault.{ProgramFault}
use Rattle.program_reader.specs.declared.program_fault.ProgramFault.TheVariants.{Refused, OutOfMemory}
use Rattle.program_reader.specs.declared.unit_picture.TimedUnit.{TimedUnit}
use Rattle.program_reader.specs.Faults.{source_kind_of}
use Rattle.program_reader.specs.Intervals.{begins_reference, shown_as}
use Rattle.program_reader.specs.Units.{IsNext, IsBroken, IsUnitRefused, TellsReference}
use Rattle.program_reader.specs.declared.timed_picture.Role.{Role}
use Rattle.program_reader.specs.declared.timed_picture.Role.TheVariants.{Frame, FirstField, SecondField}
use Rattle.program_reader.specs.declared.timed_picture.TimedPicture.{TimedPicture}

-- ticks that a coded frame may be shown for: from a frame period to three of them
abbrev pub IsShown : ℕ → Type 0
IsShown ticks = (900000 ≤ ticks) × (ticks ≤ 3378375)

-- a picture with a state that may be in force, whose times are far from the ends of 64 bits
pub record IsPossible (picture : TimedPicture) : Type 0 where
  pub state : IsState picture.seq
  pub stated_least : neg_ℤ (pos (2 ^ 54)) ≤ℤ picture.stated
  pub stated_most : picture.stated ≤ℤ pos (2 ^ 54)
  pub ticks_least : neg_ℤ (pos (9 * 10 ^ 18)) ≤ℤ picture.ticks
  pub ticks_most : picture.ticks ≤ℤ pos (9 * 10 ^ 18)
  pub shown_before : IfSome picture.reference_before IsShown
  pub shown_behind : IfSome picture.reference_behind IsShown

-- the last one of some pictures, the nearest first, tells the last coded I or P frame
abbrev pub LastTells : List TimedPicture → Type 0
LastTells [] = Unit {0}
LastTells (picture ∷ earlier) = TellsReference earlier picture

-- what the last coded I or P frame before a picture's own frame is shown for, by the picture before
abbrev pub reference_before : Role → Option TimedPicture → Option ℕ
reference_before role None = None
reference_before Frame (Some before) = before.reference_behind
reference_before FirstField (Some before) = before.reference_behind
reference_before SecondField (Some before) = before.reference_before

-- what a picture says of the last one up to its own
abbrev pub reference_told : Option TimedPicture → Option ℕ
reference_told None = None
reference_told (Some before) = before.reference_behind

-- what the last one up to a picture's own frame is shown for, by the picture before
abbrev pub reference_behind : Role → SeqState → PicCoding → Option TimedPicture → Option ℕ
reference_behind role seq coding before =
    if begins_reference role coding then Some (shown_as role seq coding) else reference_told before

-- what a last unit that is refused so is answered by, and any other unit
abbrev pub broken_answer : TimedUnit → Option PlacedRefusal → Result (Option TimedPicture) ProgramFault
broken_answer unit None = Err OutOfMemory
broken_answer unit (Some said) = if unit.is_last then Ok None else Err (Refused (source_kind_of said.refusal) (unit.begin + said.at / 8))

-- a unit is this picture behind earlier ones, or breaks a rule of headers or pictures behind the one before and is the last one
abbrev pub IsFound : List ℕ → List PlacedPacket → (earlier : List TimedPicture) → Option TimedPicture → TimedUnit → Option TimedPicture → Type 0
IsFound es packets earlier before unit (Some picture) = IsNext es packets earlier (unit.begin, unit.end) picture
IsFound es packets earlier before unit None = (unit.is_last ≡ true) × (refusal : Refusal) × (at : ℕ) × IsBroken es before (unit.begin, unit.end) refusal at

-- why a unit is no picture behind the one before
abbrev pub IsNotFound : List ℕ → List PlacedPacket → Option TimedPicture → TimedUnit → ProgramFault → Type 0
IsNotFound es packets before unit fault = (fault ≡ OutOfMemory) ⊎ IsUnitRefused es packets before (unit.begin, unit.end) unit.is_last fault
