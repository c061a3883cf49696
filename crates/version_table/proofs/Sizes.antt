-- How long the text of a table is at most.
use Rattle.std.proofs.Common.{◌≡◌, ℕ, ◌+◌, ◌*◌, ◌^◌, ◌<◌, ◌≤◌, List, [], ◌∷◌, ◌++◌, length, map, codes, decimal, All, refl, ap, ◌∙◌, arith}
use Rattle.std.specs.List.{flat_map}
use Rattle.std.proofs.lemmas.List.{length-append}
use Rattle.std.proofs.lemmas.List.Elements.{All-head, All-tail}
use Rattle.std.proofs.lemmas.List.Concat.{flat_map-append, flat_map-cons}
use Rattle.std.proofs.lemmas.Fmt.{length-decimal-le}
use Rattle.version_table.specs.declared.limits.TheConstants.{SLOT_MOST}
use Rattle.version_table.specs.declared.line.Line.{Line}
use Rattle.version_table.specs.declared.line.Line.TheVariants.{Title, Slot, Nodes, Evaluations, Program, Audio}
use Rattle.version_table.specs.declared.table.Version.{Version}
use Rattle.version_table.specs.declared.table.Unit.{Unit as CodedUnit}
use Rattle.version_table.specs.declared.table.AudioPacket.{AudioPacket}
use Rattle.version_table.specs.declared.table.ProgramRow.{ProgramRow}
use Rattle.version_table.specs.declared.table.Table.{Table}
use Rattle.version_table.specs.Table.{IsValidVersion, IsValidUnit, IsValidPacket, IsValidAudio, IsValidProgram, IsValidTable, units_of, audio_packets_of}
use Rattle.version_table.specs.Lines.{line_end, stated, text_of_version, text_of_line, line_of_unit, line_of_packet, lines_of_audio, lines_of_program}
use Rattle.version_table.specs.Text.{text_of_lines, table_spelling}
use Rattle.version_table.proofs.TableLines.{packets_of, units_in, packets_in}

-- ---- lines

word_line_size : (word : List ℕ) (n k : ℕ) → 0 < k → n < 10 ^ k → n < 2 ^ 64 → length (word ++ decimal n ++ line_end) ≤ length word + k + 1
word_line_size word n k some small fits = omega (arith, length-append (word ++ decimal n) line_end, length-append word (decimal n), length-decimal-le k n some small fits)

version_size : (version : Version) → IsValidVersion version → length (text_of_version (stated version)) ≤ 24
version_size version valid =
    let bytes = decimal version.bytes in
    let distortion = decimal version.distortion in
    omega (
      arith,
      length-append (codes " " ++ bytes ++ codes ":") distortion,
      length-append (codes " " ++ bytes) (codes ":"),
      length-append (codes " ") bytes,
      length-decimal-le 7 version.bytes (omega arith) (omega (arith, valid.bytes)) (omega (arith, valid.bytes)),
      length-decimal-le 15 version.distortion (omega arith) (omega (arith, valid.distortion)) (omega (arith, valid.distortion)),
    )

versions_size : (versions : List Version) → All IsValidVersion versions → length (flat_map text_of_version (map stated versions)) ≤ 24 * length versions
versions_size [] valid = omega arith
versions_size (version ∷ versions) valid =
    omega (
      arith,
      length-append (text_of_version (stated version)) (flat_map text_of_version (map stated versions)),
      version_size version (All-head IsValidVersion version versions valid),
      versions_size versions (All-tail IsValidVersion version versions valid),
    )

unit_size : (slot : ℕ) (unit : CodedUnit) → slot ≤ SLOT_MOST → IsValidUnit slot unit → length (text_of_line (line_of_unit unit)) ≤ 212
unfolding text_of_line
unit_size slot unit small valid =
    let due = decimal unit.due in
    let versions = flat_map text_of_version (map stated unit.versions.items) in
    omega (
      arith,
      length-append (codes "unit " ++ due ++ versions) line_end,
      length-append (codes "unit " ++ due) versions,
      length-append (codes "unit ") due,
      length-decimal-le 14 unit.due (omega arith) (omega (arith, valid.due)) (omega (arith, valid.due)),
      versions_size unit.versions.items valid.versions,
      valid.few_versions,
    )

packet_size : (slot : ℕ) (packet : AudioPacket) → slot ≤ SLOT_MOST → IsValidPacket slot packet → length (text_of_line (line_of_packet packet)) ≤ 41
unfolding text_of_line
packet_size slot packet small valid =
    let due = decimal packet.due in
    let gone = decimal packet.gone in
    let bytes = decimal packet.bytes in
    let space = codes " " in
    let first = codes "packet " ++ due in
    let second = first ++ space ++ gone in
    omega (
      arith,
      length-append (second ++ space ++ bytes) line_end,
      length-append (second ++ space) bytes,
      length-append second space,
      length-append (first ++ space) gone,
      length-append first space,
      length-append (codes "packet ") due,
      length-decimal-le 14 packet.due (omega arith) (omega (arith, valid.due, valid.gone)) (omega (arith, valid.due, valid.gone)),
      length-decimal-le 14 packet.gone (omega arith) (omega (arith, valid.gone)) (omega (arith, valid.gone)),
      length-decimal-le 3 packet.bytes (omega arith) (omega (arith, valid.bytes)) (omega (arith, valid.bytes)),
    )

-- ---- lists of lines

size-append : (front behind : List Line) → length (text_of_lines (front ++ behind)) ≡ length (text_of_lines front) + length (text_of_lines behind)
size-append front behind = ap length (flat_map-append text_of_line front behind) ∙ length-append (text_of_lines front) (text_of_lines behind)

size-cons : (line : Line) (lines : List Line) → length (text_of_lines (line ∷ lines)) ≡ length (text_of_line line) + length (text_of_lines lines)
size-cons line lines = ap length (flat_map-cons text_of_line line lines) ∙ length-append (text_of_line line) (text_of_lines lines)

units_size : (slot : ℕ) (units : List CodedUnit) → slot ≤ SLOT_MOST → All (IsValidUnit slot) units → length (text_of_lines (map line_of_unit units)) ≤ 212 * length units
units_size slot [] small valid = omega arith
units_size slot (unit ∷ units) small valid =
    omega (
      arith,
      size-cons (line_of_unit unit) (map line_of_unit units),
      unit_size slot unit small (All-head (IsValidUnit slot) unit units valid),
      units_size slot units small (All-tail (IsValidUnit slot) unit units valid),
    )

packets_size : (slot : ℕ) (packets : List AudioPacket) → slot ≤ SLOT_MOST → All (IsValidPacket slot) packets → length (text_of_lines (map line_of_packet packets)) ≤ 41 * length packets
packets_size slot [] small valid = omega arith
packets_size slot (packet ∷ packets) small valid =
    omega (
      arith,
      size-cons (line_of_packet packet) (map line_of_packet packets),
      packet_size slot packet small (All-head (IsValidPacket slot) packet packets valid),
      packets_size slot packets small (All-tail (IsValidPacket slot) packet packets valid),
    )

audio_line_size : length (text_of_line Audio) ≡ 6
unfolding text_of_line
audio_line_size = refl

audios_size : (slot : ℕ) (audios : List (List AudioPacket)) → slot ≤ SLOT_MOST → All (IsValidAudio slot) audios
    → length (text_of_lines (flat_map lines_of_audio audios)) ≤ 6 * length audios + 41 * length (packets_of audios)
audios_size slot [] small valid = omega arith
audios_size slot (packets ∷ audios) small valid =
    let here = All-head (IsValidAudio slot) packets audios valid in
    omega (
      arith,
      size-append (lines_of_audio packets) (flat_map lines_of_audio audios),
      size-cons Audio (map line_of_packet packets),
      audio_line_size,
      packets_size slot packets small here.each,
      audios_size slot audios small (All-tail (IsValidAudio slot) packets audios valid),
      length-append packets (packets_of audios),
    )

program_line_size : (vbv : ℕ) → vbv < 10 ^ 3 → length (text_of_line (Program vbv)) ≤ 12
unfolding text_of_line
program_line_size vbv small = word_line_size (codes "program ") vbv 3 (omega arith) small (omega arith)

program_size : (slot : ℕ) (program : ProgramRow) → slot ≤ SLOT_MOST → IsValidProgram slot program
    → length (text_of_lines (lines_of_program program)) ≤ 60 + 212 * length program.units + 41 * length (packets_of program.audios)
program_size slot program small valid =
    let units = map line_of_unit program.units in
    omega (
      arith,
      size-append (Program program.vbv ∷ units) (flat_map lines_of_audio program.audios),
      size-cons (Program program.vbv) units,
      program_line_size program.vbv (omega (arith, valid.vbv)),
      units_size slot program.units small valid.units,
      audios_size slot program.audios small valid.audios,
      valid.few_audios,
    )

programs_size : (slot : ℕ) (programs : List ProgramRow) → slot ≤ SLOT_MOST → All (IsValidProgram slot) programs
    → length (text_of_lines (flat_map lines_of_program programs)) ≤ 60 * length programs + 212 * length (units_in programs) + 41 * length (packets_in programs)
programs_size slot [] small valid = omega arith
programs_size slot (program ∷ programs) small valid =
    omega (
      arith,
      size-append (lines_of_program program) (flat_map lines_of_program programs),
      program_size slot program small (All-head (IsValidProgram slot) program programs valid),
      programs_size slot programs small (All-tail (IsValidProgram slot) program programs valid),
      length-append program.units (units_in programs),
      length-append (packets_of program.audios) (packets_in programs),
    )

-- ---- the table

head_size : (slot nodes evaluations : ℕ) → slot < 10 ^ 7 → nodes < 10 ^ 7 → evaluations < 10 ^ 7 → length (text_of_lines (Title ∷ Slot slot ∷ Nodes nodes ∷ Evaluations evaluations ∷ [])) ≤ 100
unfolding text_of_line
head_size slot nodes evaluations s n e =
    omega (
      arith,
      size-cons Title (Slot slot ∷ Nodes nodes ∷ Evaluations evaluations ∷ []),
      size-cons (Slot slot) (Nodes nodes ∷ Evaluations evaluations ∷ []),
      size-cons (Nodes nodes) (Evaluations evaluations ∷ []),
      size-cons (Evaluations evaluations) [],
      word_line_size (codes "slot ") slot 7 (omega arith) s (omega arith),
      word_line_size (codes "nodes ") nodes 7 (omega arith) n (omega arith),
      word_line_size (codes "evaluations ") evaluations 7 (omega arith) e (omega arith),
    )

pub spelling_size : (table : Table) → IsValidTable table
    → length (table_spelling table) ≤ 600 + 212 * length (units_of table) + 41 * length (audio_packets_of table)
spelling_size table valid =
    let head = Title ∷ Slot table.slot ∷ Nodes table.nodes ∷ Evaluations table.evaluations ∷ [] in
    omega (
      arith,
      size-append head (flat_map lines_of_program table.programs),
      head_size table.slot table.nodes table.evaluations (omega (arith, valid.slot_most)) (omega (arith, valid.nodes)) (omega (arith, valid.evaluations)),
      programs_size table.slot table.programs valid.slot_most valid.programs,
      valid.few_programs,
    )
