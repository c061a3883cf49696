-- The lines of a table text, and how each is spelled.
use Rattle.std.specs.Prelude.{ℕ, List, [], ◌∷◌, ◌++◌, codes, map}
use Rattle.std.specs.List.{flat_map}
use Rattle.std.specs.Fmt.{decimal}
use Rattle.version_table.specs.declared.line.Line.{Line}
use Rattle.version_table.specs.declared.line.Line.TheVariants.{Title, Slot, Nodes, Evaluations, Program, Unit as UnitLine, Audio, Packet}
use Rattle.version_table.specs.declared.line.StatedVersion.{StatedVersion}
use Rattle.version_table.specs.declared.table.Version.{Version}
use Rattle.version_table.specs.declared.table.Unit.{Unit as CodedUnit}
use Rattle.version_table.specs.declared.table.AudioPacket.{AudioPacket}
use Rattle.version_table.specs.declared.table.ProgramRow.{ProgramRow}
use Rattle.version_table.specs.declared.table.Table.{Table}

-- a line ends with the byte 10
abbrev pub line_end : List ℕ
line_end = 10 ∷ []

-- a version behind a space, as ` 1840:9`
abbrev pub text_of_version : StatedVersion → List ℕ
text_of_version version = codes " " ++ decimal version.bytes ++ codes ":" ++ decimal version.distortion

-- the words of a line with one space between them, numbers in decimal without sign or leading zero, and the line end
unfoldable pub text_of_line : Line → List ℕ
text_of_line Title = codes "remux table 1" ++ line_end
text_of_line (Slot ticks) = codes "slot " ++ decimal ticks ++ line_end
text_of_line (Nodes n) = codes "nodes " ++ decimal n ++ line_end
text_of_line (Evaluations n) = codes "evaluations " ++ decimal n ++ line_end
text_of_line (Program vbv) = codes "program " ++ decimal vbv ++ line_end
text_of_line (UnitLine due versions) = codes "unit " ++ decimal due ++ flat_map text_of_version versions.items ++ line_end
text_of_line Audio = codes "audio" ++ line_end
text_of_line (Packet due gone bytes) = codes "packet " ++ decimal due ++ codes " " ++ decimal gone ++ codes " " ++ decimal bytes ++ line_end

-- the numbers of a version
abbrev pub stated : Version → StatedVersion
stated version = record { bytes = version.bytes; distortion = version.distortion }

-- a unit: its due time and versions
abbrev pub line_of_unit : CodedUnit → Line
line_of_unit unit = UnitLine unit.due (record { items = map stated unit.versions.items })

-- an audio packet: its times and bytes
abbrev pub line_of_packet : AudioPacket → Line
line_of_packet packet = Packet packet.due packet.gone packet.bytes

-- an audio stream: its line, and one for each packet
abbrev pub lines_of_audio : List AudioPacket → List Line
lines_of_audio packets = Audio ∷ map line_of_packet packets

-- a program: its line, one for each unit, and those of its audio streams
abbrev pub lines_of_program : ProgramRow → List Line
lines_of_program program = Program program.vbv ∷ map line_of_unit program.units ++ flat_map lines_of_audio program.audios

-- a table: four lines of head, and those of its programs
abbrev pub lines_of_table : Table → List Line
lines_of_table table = Title ∷ Slot table.slot ∷ Nodes table.nodes ∷ Evaluations table.evaluations ∷ flat_map lines_of_program table.programs
