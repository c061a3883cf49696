-- A table while its lines are read: what the private reader keeps.
use Rattle.std.specs.Prelude.{◌≡◌, ℕ, ◌+◌, ◌<◌, Bool, true, false, List, [], ◌∷◌, ◌++◌, map, count_by, sum_by}
use Rattle.std.specs.List.{flat_map}
use Rattle.version_table.specs.declared.draft.Draft.{Draft}
use Rattle.version_table.specs.declared.line.Line.{Line}
use Rattle.version_table.specs.declared.line.Line.TheVariants.{Title, Slot, Nodes, Evaluations, Program, Unit as UnitLine, Audio, Packet}
use Rattle.version_table.specs.declared.line.Stage.{Stage}
use Rattle.version_table.specs.declared.line.StatedVersion.{StatedVersion}
use Rattle.version_table.specs.declared.table.Version.{Version}
use Rattle.version_table.specs.declared.line.Stage.TheVariants as stages
use Rattle.version_table.specs.Lines.{line_of_unit, lines_of_audio, lines_of_program}
use Rattle.version_table.specs.Limits.{is_unit, is_packet, greatest_stated}
use Rattle.version_table.specs.Table.{greatest}
use Rattle.version_table.specs.declared.limits.TheConstants.{DISTORTIONS_LIMIT}

-- which lines may come behind a line
abbrev pub stage_after : Line → Stage
stage_after Title = stages.Slot
stage_after (Slot ticks) = stages.Nodes
stage_after (Nodes n) = stages.Evaluations
stage_after (Evaluations n) = stages.Programs
stage_after (Program vbv) = stages.Units
stage_after (UnitLine due versions) = stages.Units
stage_after Audio = stages.Packets
stage_after (Packet due gone bytes) = stages.Packets

-- a line may come at a stage
abbrev pub Allows : Stage → Line → Type 0
Allows stages.Title Title = Unit {0}
Allows stages.Slot (Slot ticks) = Unit {0}
Allows stages.Nodes (Nodes n) = Unit {0}
Allows stages.Evaluations (Evaluations n) = Unit {0}
Allows stages.Programs (Program vbv) = Unit {0}
Allows stages.Units (UnitLine due versions) = Unit {0}
Allows stages.Units Audio = Unit {0}
Allows stages.Units (Program vbv) = Unit {0}
Allows stages.Packets (Packet due gone bytes) = Unit {0}
Allows stages.Packets Audio = Unit {0}
Allows stages.Packets (Program vbv) = Unit {0}
Allows stage line = ⊥

-- the text of a table may end at a stage
abbrev pub is_whole : Stage → Bool
is_whole stages.Title = false
is_whole stages.Slot = false
is_whole stages.Nodes = false
is_whole stages.Evaluations = false
is_whole stage = true

abbrev pub head_of : Draft → List Line
head_of draft = Title ∷ Slot draft.slot ∷ Nodes draft.nodes ∷ Evaluations draft.evaluations ∷ []

-- the open program without its last audio stream
abbrev pub open_program : Draft → List Line
open_program draft = Program draft.vbv ∷ map line_of_unit draft.units ++ flat_map lines_of_audio draft.audios

-- the lines that were read by this stage
unfoldable pub lines_of_draft : Stage → Draft → List Line
lines_of_draft stages.Title draft = []
lines_of_draft stages.Slot draft = Title ∷ []
lines_of_draft stages.Nodes draft = Title ∷ Slot draft.slot ∷ []
lines_of_draft stages.Evaluations draft = Title ∷ Slot draft.slot ∷ Nodes draft.nodes ∷ []
lines_of_draft stages.Programs draft = head_of draft ++ flat_map lines_of_program draft.programs
lines_of_draft stages.Units draft = head_of draft ++ flat_map lines_of_program draft.programs ++ open_program draft
lines_of_draft stages.Packets draft = head_of draft ++ flat_map lines_of_program draft.programs ++ open_program draft ++ lines_of_audio draft.packets

-- what isn't open yet is empty
unfoldable pub IsTidy : Stage → Draft → Type 0
IsTidy stages.Packets draft = Unit {0}
IsTidy stages.Units draft = (draft.audios ≡ []) × (draft.packets ≡ [])
IsTidy stages.Programs draft = (draft.units ≡ []) × (draft.audios ≡ []) × (draft.packets ≡ [])
IsTidy stage draft = (draft.programs ≡ []) × (draft.units ≡ []) × (draft.audios ≡ []) × (draft.packets ≡ [])

-- a draft by this stage, with its counts
pub record IsDraft (stage : Stage) (draft : Draft) : Type 0 where
  pub tidy : IsTidy stage draft
  pub unit_count : draft.unit_count ≡ count_by is_unit (lines_of_draft stage draft)
  pub packet_count : draft.packet_count ≡ count_by is_packet (lines_of_draft stage draft)
  pub distortions : draft.distortions ≡ sum_by greatest_stated (lines_of_draft stage draft)
  pub few_distortions : draft.distortions < DISTORTIONS_LIMIT

-- the new draft has one line more
pub record AddsLine (stage : Stage) (old : Draft) (line : Line) (new : Draft) : Type 0 where
  pub draft : IsDraft (stage_after line) new
  pub lines : lines_of_draft (stage_after line) new ≡ lines_of_draft stage old ++ line ∷ []

-- with the open audio stream moved to those that are whole
abbrev pub with_audio_closed : Stage → Draft → Draft
with_audio_closed stages.Packets draft = record draft { audios = draft.audios ++ draft.packets ∷ []; packets = [] }
with_audio_closed stage draft = draft

-- with the open program moved to those that are whole
abbrev pub with_program_closed : Stage → Draft → Draft
with_program_closed stages.Programs draft = draft
with_program_closed stage draft = record draft {
  programs = draft.programs ++ record { vbv = draft.vbv; units = draft.units; audios = (with_audio_closed stage draft).audios } ∷ [];
  units = [];
  audios = [];
  packets = (with_audio_closed stage draft).packets;
}

-- a version as a table has it
abbrev pub kept : StatedVersion → Version
kept version = record { bytes = version.bytes; distortion = version.distortion }

abbrev pub with_unit : Draft → ℕ → List StatedVersion → Draft
with_unit draft due versions = record draft {
  units = draft.units ++ record { due = due; versions = record { items = map kept versions } } ∷ [];
  unit_count = draft.unit_count + 1;
  distortions = draft.distortions + greatest (map (λ version. version.distortion) versions);
}

abbrev pub with_packet : Draft → ℕ → ℕ → ℕ → Draft
with_packet draft due gone bytes = record draft {
  packets = draft.packets ++ record { due = due; gone = gone; bytes = bytes } ∷ [];
  packet_count = draft.packet_count + 1;
}
