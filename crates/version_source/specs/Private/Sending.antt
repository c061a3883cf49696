-- What is held of a video whose units are sent.
use Rattle.std.specs.Prelude.{◌≡◌, ℕ, List, Option}
use Rattle.syntax_types.specs.declared.picture.SeqState.{SeqState}
use Rattle.program_reader.specs.declared.program.UnitSource.{UnitSource}
use Rattle.version_maker.specs.declared.version.UnitVersion.{UnitVersion}
use Rattle.version_maker.specs.Versions.{AreVersions}
use Rattle.version_source.specs.Sendable.{bytes_of_unit}
use Rattle.version_source.specs.Pieces.{pes_packet}
use Rattle.version_source.specs.Versions.{chosen_bytes}
pub use Rattle.version_source.specs.Sendable.{LeaveBehind}

-- these bytes are the PES packet of a unit in the version of this number, whichever its versions are
abbrev pub IsPacketOf : (es coarser : List ℕ) → Option SeqState → UnitSource → (index : ℕ) → List ℕ → Type 0
IsPacketOf es coarser before unit index packet =
    (versions : List UnitVersion) → AreVersions before (bytes_of_unit es unit) coarser versions → packet ≡ pes_packet unit (chosen_bytes versions index)
