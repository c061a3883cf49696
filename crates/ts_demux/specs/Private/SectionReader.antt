-- What a reader of the sections of a PID does.
use Rattle.std.specs.Prelude.{◌≡◌, ℕ, List, [], ◌∷◌, ◌++◌, length, drop, Option, Some, None, Result, Ok, Err}
use Rattle.arrayvec.specs.ArrayVec.{ArrayVec}
use Rattle.ts_packets.specs.declared.pid_fault.PidFault.{PidFault}
use Rattle.ts_packets.specs.TransportStream.{Piece}
use Rattle.ts_packets.specs.Carried.{pid_fault}
use Rattle.psi_tables.specs.declared.section.SectionFault.{SectionFault}
use Rattle.psi_tables.specs.Sections.{Found}
use Rattle.psi_tables.specs.SectionBuilder.{found_of}
use Rattle.ts_demux.specs.declared.section_reader.SectionReader.{SectionReader}
use Rattle.ts_demux.specs.Tables.{sections_in}
use Rattle.ts_demux.specs.SectionReader.{Waits}

-- what a piece adds to the sections in those before it
abbrev pub added_by : List Piece → Piece → List Found
added_by before piece = drop (length (sections_in before)) (sections_in (before ++ piece ∷ []))

-- a piece is taken, and the sections that it adds wait; or it has a fault
abbrev pub TakesPiece : List Piece → Piece → Result Unit PidFault → SectionReader → Type 0
TakesPiece before piece (Ok _) after = (pid_fault before piece ≡ None) × Waits (before ++ piece ∷ []) (added_by before piece) after
TakesPiece before piece (Err fault) after = pid_fault before piece ≡ Some fault

-- the first section that waits is read, where there is one
abbrev pub ReadsNext : List Piece → List Found → Option (Result (ArrayVec ℕ) SectionFault) → SectionReader → Type 0
ReadsNext before waiting None after = (waiting ≡ []) × Waits before [] after
ReadsNext before waiting (Some found) after = (rest : List Found) × (waiting ≡ found_of found ∷ rest) × Waits before rest after
