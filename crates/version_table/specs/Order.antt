-- The order of the lines of a table text, and what each line is by itself.
use Rattle.std.specs.Prelude.{◌≡◌, ℕ, ◌^◌, ◌<◌, ◌≤◌, List, [], ◌∷◌, ◌++◌, length, All, Option, Some, None}
use Rattle.version_table.specs.declared.limits.TheConstants.{VERSIONS_MOST}
use Rattle.version_table.specs.declared.line.Line.{Line}
use Rattle.version_table.specs.declared.line.StatedVersion.{StatedVersion}
use Rattle.version_table.specs.declared.line.Line.TheVariants.{Title, Slot, Nodes, Evaluations, Program, Unit as UnitLine, Audio, Packet}

-- the last of some lines
abbrev pub last_line : List Line → Option Line
last_line [] = None
last_line (line ∷ []) = Some line
last_line (first ∷ line ∷ lines) = last_line (line ∷ lines)

-- a line may stand right behind another, or at the front of the text
unfoldable pub MayFollow : Option Line → Line → Type 0
MayFollow None Title = Unit {0}
MayFollow (Some Title) (Slot ticks) = Unit {0}
MayFollow (Some (Slot ticks)) (Nodes n) = Unit {0}
MayFollow (Some (Nodes m)) (Evaluations n) = Unit {0}
MayFollow (Some (Evaluations n)) (Program vbv) = Unit {0}
-- behind the line of a program: its units, its audio streams, or the next program
MayFollow (Some (Program vbv)) (UnitLine due versions) = Unit {0}
MayFollow (Some (Program vbv)) Audio = Unit {0}
MayFollow (Some (Program vbv)) (Program next) = Unit {0}
-- behind a unit: the next one, an audio stream, or the next program
MayFollow (Some (UnitLine due versions)) (UnitLine next others) = Unit {0}
MayFollow (Some (UnitLine due versions)) Audio = Unit {0}
MayFollow (Some (UnitLine due versions)) (Program next) = Unit {0}
-- behind the line of an audio stream and behind its packets: a packet, the next stream, or the next program
MayFollow (Some Audio) (Packet due gone bytes) = Unit {0}
MayFollow (Some Audio) Audio = Unit {0}
MayFollow (Some Audio) (Program next) = Unit {0}
MayFollow (Some (Packet due gone bytes)) (Packet next leaves size) = Unit {0}
MayFollow (Some (Packet due gone bytes)) Audio = Unit {0}
MayFollow (Some (Packet due gone bytes)) (Program next) = Unit {0}
MayFollow last line = ⊥

-- a number that a text may state
abbrev pub IsStated : ℕ → Type 0
IsStated n = n < 2 ^ 64

-- the numbers of a version that a text may state
abbrev pub IsStatedVersion : StatedVersion → Type 0
IsStatedVersion version = IsStated version.bytes × IsStated version.distortion

-- the numbers of a line are below 2^64, and a unit has 1 to 8 versions
unfoldable pub HasSyntax : Line → Type 0
HasSyntax Title = Unit {0}
HasSyntax (Slot ticks) = IsStated ticks
HasSyntax (Nodes n) = IsStated n
HasSyntax (Evaluations n) = IsStated n
HasSyntax (Program vbv) = IsStated vbv
HasSyntax (UnitLine due versions) =
    IsStated due × (1 ≤ length versions.items) × (length versions.items ≤ VERSIONS_MOST) × All IsStatedVersion versions.items
HasSyntax Audio = Unit {0}
HasSyntax (Packet due gone bytes) = IsStated due × IsStated gone × IsStated bytes

-- a line may stand behind these lines
abbrev pub LineMayStand : List Line → Line → Type 0
LineMayStand before line = MayFollow (last_line before) line × HasSyntax line

-- each line may stand behind those before it
abbrev pub IsOpening : List Line → Type 0
IsOpening lines = (before : List Line) (line : Line) (after : List Line) → lines ≡ before ++ line ∷ after → LineMayStand before line

-- the lines of a whole text: at least the four of its head
abbrev pub IsForm : List Line → Type 0
IsForm lines = IsOpening lines × (4 ≤ length lines)
