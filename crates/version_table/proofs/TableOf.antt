-- The table of some lines: each table is that of its lines, and lines of the right form are those of a table.
use Rattle.std.proofs.Common.{◌≡◌, ℕ, ◌≤◌, List, [], ◌∷◌, ◌++◌, length, map, refl, sym, ap, subst, ◌∙◌, append_assoc, arith}
use Rattle.std.specs.List.{flat_map}
use Rattle.arrayvec.specs.ArrayVec.{ArrayVec}
use Rattle.std.proofs.lemmas.List.{append-nil}
use Rattle.version_table.specs.declared.line.Line.{Line}
use Rattle.version_table.specs.declared.line.Line.TheVariants.{Title, Slot, Nodes, Evaluations, Program, Unit as UnitLine, Audio, Packet}
use Rattle.version_table.specs.declared.line.Stage.{Stage}
use Rattle.version_table.specs.declared.line.Stage.TheVariants as stages
use Rattle.version_table.specs.declared.line.StatedVersion.{StatedVersion}
use Rattle.version_table.specs.declared.table.Version.{Version}
use Rattle.version_table.specs.declared.table.Unit.{Unit as CodedUnit}
use Rattle.version_table.specs.declared.table.AudioPacket.{AudioPacket}
use Rattle.version_table.specs.declared.table.ProgramRow.{ProgramRow}
use Rattle.version_table.specs.declared.table.Table.{Table}
use Rattle.version_table.specs.Lines.{stated, line_of_unit, line_of_packet, lines_of_audio, lines_of_program, lines_of_table}
use Rattle.version_table.specs.Order.{last_line, LineMayStand, IsForm}
use Rattle.version_table.specs.Private.Draft.{stage_after, Allows, kept}
use Rattle.version_table.proofs.Openings.{stage_of, stage_of_push, follows_allows, Walk, opening_walk}
use Rattle.version_table.proofs.Drafts.{stated_kept}

-- what lines stand for, read from the last: units, packets and streams that no line of their program comes before, and programs
pub record Parts : Type 0 where
  pub units : List CodedUnit
  pub packets : List AudioPacket
  pub audios : List (List AudioPacket)
  pub programs : List ProgramRow

abbrev pub unit_of : ℕ → ArrayVec StatedVersion → CodedUnit
unit_of due versions = record { due = due; versions = record { items = map kept versions.items } }

abbrev pub parts_of : List Line → Parts
parts_of [] = record { units = []; packets = []; audios = []; programs = [] }
parts_of (Program vbv ∷ lines) = let rest = parts_of lines in record
    { units = []; packets = []; audios = []; programs = record { vbv = vbv; units = rest.units; audios = rest.audios } ∷ rest.programs }
parts_of (UnitLine due versions ∷ lines) = let rest = parts_of lines in record rest { units = unit_of due versions ∷ rest.units }
parts_of (Audio ∷ lines) = let rest = parts_of lines in record rest { packets = []; audios = rest.packets ∷ rest.audios }
parts_of (Packet due gone bytes ∷ lines) = let rest = parts_of lines in record rest { packets = record { due = due; gone = gone; bytes = bytes } ∷ rest.packets }
parts_of (line ∷ lines) = parts_of lines

-- ---- a table is that of its lines

kept_stated : (versions : List Version) → map kept (map stated versions) ≡ versions
kept_stated [] = refl
kept_stated (version ∷ versions) = ap (λ (rest : List Version). version ∷ rest) (kept_stated versions)

unit_again : (unit : CodedUnit) → unit_of unit.due (record { items = map stated unit.versions.items }) ≡ unit
unit_again unit = ap (λ (items : List Version). record { due = unit.due; versions = record { items = items } }) (kept_stated unit.versions.items)

parts_packets : (packets : List AudioPacket) (lines : List Line) → parts_of (map line_of_packet packets ++ lines) ≡ record (parts_of lines) { packets = packets ++ (parts_of lines).packets }
parts_packets [] lines = refl
parts_packets (packet ∷ packets) lines = ap (λ (p : Parts). record p { packets = packet ∷ p.packets }) (parts_packets packets lines)

parts_audios : (audios : List (List AudioPacket)) (lines : List Line) → (parts_of lines).packets ≡ []
    → parts_of (flat_map lines_of_audio audios ++ lines) ≡ record (parts_of lines) { audios = audios ++ (parts_of lines).audios }
parts_audios [] lines none = refl
parts_audios (packets ∷ audios) lines none =
    let others = flat_map lines_of_audio audios ++ lines in
    let rest = parts_audios audios lines none in
    let no_packets : (parts_of others).packets ≡ [] = ap (λ (p : Parts). p.packets) rest ∙ none in
    let stream : parts_of (map line_of_packet packets ++ others) ≡ record (parts_of others) { packets = packets ++ (parts_of others).packets } = parts_packets packets others in
    ap (λ (ls : List Line). parts_of (Audio ∷ ls)) (append_assoc (map line_of_packet packets) (flat_map lines_of_audio audios) lines)
    ∙ ap (λ (p : Parts). record p { packets = []; audios = p.packets ∷ p.audios }) stream
    ∙ ap (λ (p : Parts). record p { packets = []; audios = (packets ++ p.packets) ∷ p.audios }) rest
    ∙ ap (λ (ps : List AudioPacket). record (parts_of lines) { packets = []; audios = (packets ++ ps) ∷ (audios ++ (parts_of lines).audios) }) none
    ∙ ap (λ (ps : List AudioPacket). record (parts_of lines) { packets = []; audios = ps ∷ (audios ++ (parts_of lines).audios) }) (append-nil packets)
    ∙ ap (λ (ps : List AudioPacket). record (parts_of lines) { packets = ps; audios = (packets ∷ audios) ++ (parts_of lines).audios }) (sym none)

parts_units : (units : List CodedUnit) (lines : List Line) → parts_of (map line_of_unit units ++ lines) ≡ record (parts_of lines) { units = units ++ (parts_of lines).units }
parts_units [] lines = refl
parts_units (unit ∷ units) lines =
    ap (λ (p : Parts). record p { units = unit_of unit.due (record { items = map stated unit.versions.items }) ∷ p.units }) (parts_units units lines)
    ∙ ap (λ (c : CodedUnit). record (parts_of lines) { units = c ∷ (units ++ (parts_of lines).units) }) (unit_again unit)

abbrev only_programs : List ProgramRow → Parts
only_programs programs = record { units = []; packets = []; audios = []; programs = programs }

parts_program : (program : ProgramRow) (lines : List Line) (programs : List ProgramRow) → parts_of lines ≡ only_programs programs
    → parts_of (lines_of_program program ++ lines) ≡ only_programs (program ∷ programs)
parts_program program lines programs is =
    let audios = flat_map lines_of_audio program.audios in
    let no_packets : (parts_of lines).packets ≡ [] = ap (λ (p : Parts). p.packets) is in
    let streams : parts_of (audios ++ lines) ≡ record { units = []; packets = []; audios = program.audios; programs = programs } =
    parts_audios program.audios lines no_packets
    ∙ ap (λ (p : Parts). record p { audios = program.audios ++ p.audios }) is
    ∙ ap (λ (streams : List (List AudioPacket)). record { units = []; packets = []; audios = streams; programs = programs }) (append-nil program.audios) in
    let whole : parts_of (map line_of_unit program.units ++ (audios ++ lines)) ≡ record { units = program.units; packets = []; audios = program.audios; programs = programs } =
    parts_units program.units (audios ++ lines)
    ∙ ap (λ (p : Parts). record p { units = program.units ++ p.units }) streams
    ∙ ap (λ (us : List CodedUnit). record { units = us; packets = []; audios = program.audios; programs = programs }) (append-nil program.units) in
    ap (λ (ls : List Line). parts_of (Program program.vbv ∷ ls)) (append_assoc (map line_of_unit program.units) audios lines)
    ∙ ap (λ (p : Parts). only_programs (record { vbv = program.vbv; units = p.units; audios = p.audios } ∷ p.programs)) whole

parts_programs : (programs : List ProgramRow) → parts_of (flat_map lines_of_program programs) ≡ only_programs programs
parts_programs [] = refl
parts_programs (program ∷ programs) = parts_program program (flat_map lines_of_program programs) programs (parts_programs programs)

-- the table of the numbers of a head and the lines behind it
abbrev table_with : ℕ → ℕ → ℕ → List Line → Table
table_with slot nodes evaluations lines = record { slot = slot; nodes = nodes; evaluations = evaluations; programs = (parts_of lines).programs }

abbrev empty_table : Table
empty_table = record { slot = 0; nodes = 0; evaluations = 0; programs = [] }

abbrev pub table_of : List Line → Table
table_of (first ∷ Slot slot ∷ Nodes nodes ∷ Evaluations evaluations ∷ lines) = table_with slot nodes evaluations lines
table_of lines = empty_table

table_again : (table : Table) → table_of (lines_of_table table) ≡ table
table_again table = ap (λ (p : Parts). record { slot = table.slot; nodes = table.nodes; evaluations = table.evaluations; programs = p.programs }) (parts_programs table.programs)

-- tables with the same lines are one
pub one_table : (a b : Table) → lines_of_table a ≡ lines_of_table b → a ≡ b
one_table a b e = sym (table_again a) ∙ ap table_of e ∙ table_again b

-- ---- lines of the right form are those of a table

-- lines that may follow at a stage
abbrev pub Follow : Stage → List Line → Type 0
Follow stage [] = Unit {0}
Follow stage (line ∷ lines) = Allows stage line × Follow (stage_after line) lines

pub walk_follow : (before lines : List Line) → Walk LineMayStand before lines → Follow (stage_of before) lines
walk_follow before [] walk = tt
walk_follow before (line ∷ lines) walk =
    (follows_allows (last_line before) line walk.0.0, subst (λ (s : Stage). Follow s lines) (stage_of_push before line) (walk_follow (before ++ line ∷ []) lines walk.1))

-- the lines of a unit that was read
unit_line : (due : ℕ) (versions : ArrayVec StatedVersion) → line_of_unit (unit_of due versions) ≡ UnitLine due versions
unit_line due versions = ap (λ (items : List StatedVersion). UnitLine due (record { items = items })) (stated_kept versions.items)

-- what follows at a stage is spelled by its parts
record AtPrograms (lines : List Line) : Type 0 where
  units : (parts_of lines).units ≡ []
  packets : (parts_of lines).packets ≡ []
  audios : (parts_of lines).audios ≡ []
  spelled : lines ≡ flat_map lines_of_program (parts_of lines).programs

record AtUnits (lines : List Line) : Type 0 where
  packets : (parts_of lines).packets ≡ []
  spelled : lines ≡ map line_of_unit (parts_of lines).units ++ (flat_map lines_of_audio (parts_of lines).audios ++ flat_map lines_of_program (parts_of lines).programs)

record AtPackets (lines : List Line) : Type 0 where
  units : (parts_of lines).units ≡ []
  spelled : lines ≡ map line_of_packet (parts_of lines).packets ++ (flat_map lines_of_audio (parts_of lines).audios ++ flat_map lines_of_program (parts_of lines).programs)

abbrev IsSpelled : Stage → List Line → Type 0
IsSpelled stages.Programs lines = AtPrograms lines
IsSpelled stages.Units lines = AtUnits lines
IsSpelled stages.Packets lines = AtPackets lines
IsSpelled stage lines = Unit {0}

program_spelled : (vbv : ℕ) (lines : List Line) → AtUnits lines → Program vbv ∷ lines ≡ flat_map lines_of_program (parts_of (Program vbv ∷ lines)).programs
program_spelled vbv lines units =
    let p = parts_of lines in
    ap (λ (ls : List Line). Program vbv ∷ ls) (units.spelled ∙ sym (append_assoc (map line_of_unit p.units) (flat_map lines_of_audio p.audios) (flat_map lines_of_program p.programs)))

audio_spelled : (lines : List Line) → AtPackets lines → Audio ∷ lines ≡ flat_map lines_of_audio (parts_of (Audio ∷ lines)).audios ++ flat_map lines_of_program (parts_of (Audio ∷ lines)).programs
audio_spelled lines packets =
    let p = parts_of lines in
    ap (λ (ls : List Line). Audio ∷ ls) (packets.spelled ∙ sym (append_assoc (map line_of_packet p.packets) (flat_map lines_of_audio p.audios) (flat_map lines_of_program p.programs)))

spelled_at : (stage : Stage) (lines : List Line) → Follow stage lines → IsSpelled stage lines
spelled_at stages.Title lines follow = tt
spelled_at stages.Slot lines follow = tt
spelled_at stages.Nodes lines follow = tt
spelled_at stages.Evaluations lines follow = tt
spelled_at stages.Programs [] follow = record { units = refl; packets = refl; audios = refl; spelled = refl }
spelled_at stages.Units [] follow = record { packets = refl; spelled = refl }
spelled_at stages.Packets [] follow = record { units = refl; spelled = refl }
spelled_at stages.Programs (Program vbv ∷ lines) follow = record { units = refl; packets = refl; audios = refl; spelled = program_spelled vbv lines (spelled_at stages.Units lines follow.1) }
spelled_at stages.Units (Program vbv ∷ lines) follow = record { packets = refl; spelled = program_spelled vbv lines (spelled_at stages.Units lines follow.1) }
spelled_at stages.Packets (Program vbv ∷ lines) follow = record { units = refl; spelled = program_spelled vbv lines (spelled_at stages.Units lines follow.1) }
spelled_at stages.Units (UnitLine due versions ∷ lines) follow =
    let rest = spelled_at stages.Units lines follow.1 in
    record {
      packets = rest.packets;
      spelled = ap (λ (ls : List Line). UnitLine due versions ∷ ls) rest.spelled
          ∙ ap (λ (l : Line). l ∷ (map line_of_unit (parts_of lines).units
          ++ (flat_map lines_of_audio (parts_of lines).audios ++ flat_map lines_of_program (parts_of lines).programs))) (sym (unit_line due versions));
    }
spelled_at stages.Units (Audio ∷ lines) follow =
    let rest = spelled_at stages.Packets lines follow.1 in
    record {
      packets = refl;
      spelled = audio_spelled lines rest
          ∙ ap (λ (us : List CodedUnit). map line_of_unit us ++
          (flat_map lines_of_audio (parts_of (Audio ∷ lines)).audios ++ flat_map lines_of_program (parts_of lines).programs)) (sym rest.units);
    }
spelled_at stages.Packets (Audio ∷ lines) follow =
    let rest = spelled_at stages.Packets lines follow.1 in
    record { units = rest.units; spelled = audio_spelled lines rest }
spelled_at stages.Packets (Packet due gone bytes ∷ lines) follow =
    let rest = spelled_at stages.Packets lines follow.1 in
    record { units = rest.units; spelled = ap (λ (ls : List Line). Packet due gone bytes ∷ ls) rest.spelled }
spelled_at stage (line ∷ lines) follow = absurd follow.0

-- at the front of a text four lines come first
abbrev IsItsTable : List Line → Type 0
IsItsTable lines = lines_of_table (table_of lines) ≡ lines

from_evaluations : (slot nodes : ℕ) (lines : List Line) → Follow stages.Evaluations lines → 1 ≤ length lines → IsItsTable (Title ∷ Slot slot ∷ Nodes nodes ∷ lines)
from_evaluations slot nodes [] follow few = absurd (omega arith)
from_evaluations slot nodes (Evaluations evaluations ∷ lines) follow few =
    ap (λ (ls : List Line). Title ∷ Slot slot ∷ Nodes nodes ∷ Evaluations evaluations ∷ ls) (sym (spelled_at stages.Programs lines follow.1).spelled)
from_evaluations slot nodes (line ∷ lines) follow few = absurd follow.0

from_nodes : (slot : ℕ) (lines : List Line) → Follow stages.Nodes lines → 2 ≤ length lines → IsItsTable (Title ∷ Slot slot ∷ lines)
from_nodes slot [] follow few = absurd (omega arith)
from_nodes slot (Nodes nodes ∷ lines) follow few = from_evaluations slot nodes lines follow.1 (omega arith)
from_nodes slot (line ∷ lines) follow few = absurd follow.0

from_slot : (lines : List Line) → Follow stages.Slot lines → 3 ≤ length lines → IsItsTable (Title ∷ lines)
from_slot [] follow few = absurd (omega arith)
from_slot (Slot slot ∷ lines) follow few = from_nodes slot lines follow.1 (omega arith)
from_slot (line ∷ lines) follow few = absurd follow.0

from_title : (lines : List Line) → Follow stages.Title lines → 4 ≤ length lines → IsItsTable lines
from_title [] follow few = absurd (omega arith)
from_title (Title ∷ lines) follow few = from_slot lines follow.1 (omega arith)
from_title (line ∷ lines) follow few = absurd follow.0

-- lines of the form of a text are those of a table
pub form_table : (lines : List Line) → IsForm lines → lines_of_table (table_of lines) ≡ lines
form_table lines form = from_title lines (walk_follow [] lines (opening_walk lines form.0)) form.1
