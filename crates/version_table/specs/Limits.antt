-- Which limits the lines of a table text keep.
use Rattle.std.specs.Prelude.{◌≡◌, ℕ, ◌+◌, ◌*◌, Bool, true, false, not, ◌&&◌, nat_lt, nat_le, if◌then◌else◌, List, [], ◌∷◌, ◌++◌, count_by, sum_by, map, reverse, codes, Option, Some, None}
use Rattle.std.specs.List.{flat_map, take_while}
use Rattle.version_table.specs.declared.limits.TheConstants.{
  SLOT_LEAST,
  SLOT_MOST,
  NODES_MOST,
  EVALUATIONS_MOST,
  PROGRAMS_MOST,
  AUDIOS_MOST,
  UNITS_MOST,
  VERSION_BYTES_MOST,
  DISTORTION_LIMIT,
  DISTORTIONS_LIMIT,
  TIME_SLOTS_MOST,
  TEXT_AUDIO_PACKETS_MOST,
}
use Rattle.stream_constants.specs.declared.packets.TheConstants.{PAYLOAD_BYTES}
use Rattle.stream_constants.specs.declared.main_level.TheConstants.{VBV_MOST}
use Rattle.version_table.specs.declared.fault.Limit.{Limit}
use Rattle.version_table.specs.declared.fault.Limit.TheVariants as limits
use Rattle.version_table.specs.declared.line.Line.{Line}
use Rattle.version_table.specs.declared.line.Line.TheVariants.{Title, Slot, Nodes, Evaluations, Program, Unit as UnitLine, Audio, Packet}
use Rattle.version_table.specs.declared.line.StatedVersion.{StatedVersion}
use Rattle.version_table.specs.Order.{last_line}
use Rattle.version_table.specs.Table.{greatest}

-- the name of a limit in refusals
abbrev pub limit_name : Limit → List ℕ
limit_name limits.Slot = codes "slot"
limit_name limits.Nodes = codes "nodes"
limit_name limits.Evaluations = codes "evaluations"
limit_name limits.Programs = codes "programs"
limit_name limits.Vbv = codes "vbv"
limit_name limits.Due = codes "due"
limit_name limits.Bytes = codes "bytes"
limit_name limits.Distortion = codes "distortion"
limit_name limits.Gone = codes "gone"
limit_name limits.Audios = codes "audios"
limit_name limits.Units = codes "units"
limit_name limits.Packets = codes "packets"
limit_name limits.Distortions = codes "distortions"

-- the line begins a program
abbrev pub is_program : Line → Bool
is_program (Program vbv) = true
is_program line = false

-- the line is that of a unit
abbrev pub is_unit : Line → Bool
is_unit (UnitLine due versions) = true
is_unit line = false

-- the line begins an audio stream
abbrev pub begins_audio : Line → Bool
begins_audio Audio = true
begins_audio line = false

-- the line is that of an audio packet
abbrev pub is_packet : Line → Bool
is_packet (Packet due gone bytes) = true
is_packet line = false

-- the greatest distortion that the line states; 0 where it isn't that of a unit
abbrev pub greatest_stated : Line → ℕ
greatest_stated (UnitLine due versions) = greatest (map (λ version. version.distortion) versions.items)
greatest_stated line = 0

-- how many audio streams the last program has: the audio lines behind the last line of a program
abbrev pub audios_here : List Line → ℕ
audios_here lines = count_by begins_audio (take_while (λ line. not (is_program line)) (reverse lines))

-- the ticks of a slot that the second line states
abbrev pub slot_of : List Line → ℕ
slot_of (first ∷ Slot ticks ∷ lines) = ticks
slot_of lines = 0

-- no due or gone time is past this
abbrev pub time_most : List Line → ℕ
time_most before = TIME_SLOTS_MOST * slot_of before

-- a unit is due after the unit right before it
abbrev pub is_due_later : Option Line → ℕ → Bool
is_due_later (Some (UnitLine earlier versions)) due = nat_lt earlier due
is_due_later last due = true

-- the due time of the audio packet right before; 0 where none is
abbrev pub packet_due : Option Line → ℕ
packet_due (Some (Packet due gone bytes)) = due
packet_due last = 0

-- the gone time of the audio packet right before; 0 where none is
abbrev pub packet_gone : Option Line → ℕ
packet_gone (Some (Packet due gone bytes)) = gone
packet_gone last = 0

-- from the first number up to the second
abbrev pub is_in_range : ℕ → ℕ → ℕ → Bool
is_in_range low high n = nat_le low n && nat_le n high

-- a limit, and whether it is kept
pub record Test : Type 0 where
  pub limit : Limit
  pub kept : Bool

-- a test of a limit
abbrev pub test : Limit → Bool → Test
test limit kept = record { limit = limit; kept = kept }

-- the tests of a version
abbrev pub version_tests : StatedVersion → List Test
version_tests version = test limits.Bytes (is_in_range 1 VERSION_BYTES_MOST version.bytes) ∷ test limits.Distortion (nat_lt version.distortion DISTORTION_LIMIT) ∷ []

-- the tests of the versions of a unit behind other lines: each by itself, then its greatest distortion with those of the units before it
abbrev pub versions_tests : List Line → List StatedVersion → List Test
versions_tests before versions =
    flat_map version_tests versions
    ++ test limits.Distortions (nat_lt (sum_by greatest_stated before + greatest (map (λ version. version.distortion) versions)) DISTORTIONS_LIMIT) ∷ []

-- the tests of a unit behind other lines: first whether there may be one more, then its due time, then its versions
abbrev pub unit_tests : List Line → ℕ → List StatedVersion → List Test
unit_tests before due versions =
    test limits.Units (nat_lt (count_by is_unit before) UNITS_MOST)
    ∷ test limits.Due (nat_le due (time_most before) && is_due_later (last_line before) due)
    ∷ versions_tests before versions

-- the tests of a line behind others, in reading order: first whether there may be one more of its kind
unfoldable pub tests_of : List Line → Line → List Test
tests_of before Title = []
tests_of before (Slot ticks) = test limits.Slot (is_in_range SLOT_LEAST SLOT_MOST ticks) ∷ []
tests_of before (Nodes n) = test limits.Nodes (is_in_range 1 NODES_MOST n) ∷ []
tests_of before (Evaluations n) = test limits.Evaluations (nat_le n EVALUATIONS_MOST) ∷ []
tests_of before (Program vbv) = test limits.Programs (nat_lt (count_by is_program before) PROGRAMS_MOST) ∷ test limits.Vbv (is_in_range 1 VBV_MOST vbv) ∷ []
tests_of before (UnitLine due versions) = unit_tests before due versions.items
tests_of before Audio = test limits.Audios (nat_lt (audios_here before) AUDIOS_MOST) ∷ []
tests_of before (Packet due gone bytes) =
    test limits.Packets (nat_lt (count_by is_packet before) TEXT_AUDIO_PACKETS_MOST)
    ∷ test limits.Due (is_in_range (packet_due (last_line before)) (time_most before) due)
    ∷ test limits.Gone (is_in_range due (time_most before) gone && nat_le (packet_gone (last_line before)) gone)
    ∷ test limits.Bytes (is_in_range 1 PAYLOAD_BYTES bytes)
    ∷ []

-- the first limit that isn't kept
abbrev pub first_failing : List Test → Option Limit
first_failing [] = None
first_failing (test ∷ tests) = if test.kept then first_failing tests else Some test.limit

-- the first limit that a line behind others breaks
abbrev pub first_limit : List Line → Line → Option Limit
first_limit before line = first_failing (tests_of before line)

-- no line breaks a limit behind the lines before it
abbrev pub KeepLimits : List Line → Type 0
KeepLimits lines = (before : List Line) (line : Line) (after : List Line) → lines ≡ before ++ line ∷ after → first_limit before line ≡ None

-- the first line that breaks a limit breaks this one first
pub record BreakFirst (lines : List Line) (limit : Limit) : Type 0 where
  pub before : List Line
  pub line : Line
  pub after : List Line
  pub parts : lines ≡ before ++ line ∷ after
  pub kept : KeepLimits before
  pub broken : first_limit before line ≡ Some limit
