-- What a builder holds, as a list of payloads that give the same sections.
use Rattle.std.specs.Prelude.{◌≡◌, ℕ, ◌-◌, ◌≤◌, true, false, List, [], ◌∷◌, ◌++◌, take, drop, Result, Ok, Err, if◌then◌else◌}
use Rattle.arrayvec.specs.ArrayVec.{ArrayVec}
use Rattle.stream_constants.specs.declared.packets.TheConstants.{PAYLOAD_BYTES}
use Rattle.psi_tables.specs.declared.section.SectionFault.{SectionFault}
use Rattle.psi_tables.specs.declared.section_builder.SectionBuilder.TheInside.{Inside}
use Rattle.bit_lists.specs.Payload.{Payload}
use Rattle.psi_tables.specs.Sections.{Found}
use Rattle.psi_tables.specs.Private.SectionFront.{front_bytes, is_settled, IsHeld}

-- a section in memory by its bytes
abbrev pub found_of : Result (ArrayVec ℕ) SectionFault → Found
found_of (Ok section) = Ok section.items
found_of (Err fault) = Err fault

-- a payload in which sections begin with these bytes, where there are any
abbrev pub payloads_of : List ℕ → List Payload
payloads_of [] = []
payloads_of (byte ∷ bytes) = record { start = true; bytes = 0 ∷ byte ∷ bytes } ∷ []

-- a payload whose pointer is past it
abbrev pub pointing_past : Payload
pointing_past = record { start = true; bytes = 0 ∷ [] }

-- the bytes that wait behind the section
abbrev pub waiting_bytes : Inside → List ℕ
waiting_bytes builder = take (builder.end - builder.at) (drop builder.at builder.waiting)

-- the payloads that give what the builder still gives
abbrev pub payloads_held : Inside → List Payload
payloads_held builder = if builder.points_past then pointing_past ∷ [] else payloads_of (front_bytes builder.front ++ waiting_bytes builder)

-- Bytes wait only behind a whole section.
pub record IsInOrder (builder : Inside) : Type 0 where
  pub places : builder.at ≤ builder.end
  pub end : builder.end ≤ PAYLOAD_BYTES
  pub held : IsHeld builder.front
  pub unsettled : is_settled (front_bytes builder.front) ≡ false → builder.at ≡ builder.end
