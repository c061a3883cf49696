-- Reading a table text from left to right: what the private readers compute.
use Rattle.std.specs.Prelude.{ℕ, zero, suc, ◌-◌, ◌^◌, ◌&&◌, ◌==◌, nat_lt, if◌then◌else◌, List, [], ◌∷◌, length, drop, slice_index, codes, Option, Some, None, option_and_then, option_map}
use Rattle.std.specs.Borrow.{Bor}
use Rattle.std.specs.Option.{option_map_or, option_or}
use Rattle.std.specs.Net.Reader.{read_number}
use Rattle.arrayvec.specs.ArrayVec.{ArrayVec}
use Rattle.version_table.specs.declared.limits.TheConstants.{VERSIONS_MOST}
use Rattle.version_table.specs.declared.line.Line.{Line}
use Rattle.version_table.specs.declared.line.Line.TheVariants.{Title, Slot, Nodes, Evaluations, Program, Unit as UnitLine, Audio, Packet}
use Rattle.version_table.specs.declared.line.Stage.{Stage}
use Rattle.version_table.specs.declared.line.Stage.TheVariants as stages
use Rattle.version_table.specs.declared.line.StatedVersion.{StatedVersion}

-- a value and the text behind it, where it was read
abbrev pub Read : Type 0 → Type 0
Read A = Option (A × List ℕ)

-- what a function returned, with the text in place of a reference to it
abbrev pub seen : {A : Type 0} → Option (A × Bor (List ℕ)) → Read A
seen result = option_map (λ x. (x.0, x.1.now)) result

abbrev pub seen_versions : Option (ArrayVec StatedVersion × Bor (List ℕ)) → Read (List StatedVersion)
seen_versions result = option_map (λ x. (x.0.items, x.1.now)) result

infixl 10 ◌>>=◌
abbrev pub ◌>>=◌ : {A B : Type 0} → Option A → (A → Option B) → Option B
o >>= f = option_and_then f o

-- what follows these bytes at the front
unfoldable pub after : List ℕ → List ℕ → Option (List ℕ)
after [] text = Some text
after (b ∷ word) [] = None
after (b ∷ word) (c ∷ text) = if c == b then after word text else None

-- the decimal number below 2^64 at the front, without a needless leading zero
unfoldable pub number_at : List ℕ → Read ℕ
number_at text = do
  n ← read_number 10 (2 ^ 64 - 1) text
  if nat_lt 1 n.1 && (slice_index text 0 == 48) then None else Some (n.0, drop n.1 text)

-- a line of a word with its space, and one number
unfoldable pub number_line : List ℕ → List ℕ → Read ℕ
number_line word text = do
  front ← after word text
  n ← number_at front
  rest ← after (codes "\n") n.1
  Some (n.0, rest)

unfoldable pub version_at : List ℕ → Read StatedVersion
version_at text = do
  bytes ← number_at text
  front ← after (codes ":") bytes.1
  distortion ← number_at front
  Some (record { bytes = bytes.0; distortion = distortion.0 }, distortion.1)

-- the versions of a unit, each behind a space, if there are no more than this
unfoldable pub versions_at : ℕ → List ℕ → Read (List StatedVersion)
versions_at zero text = option_map_or (λ front. None) (after (codes " ") text) (Some ([], text))
versions_at (suc most) text = option_map_or (λ front. do
  version ← version_at front
  others ← versions_at most version.1
  Some (version.0 ∷ others.0, others.1)) (after (codes " ") text) (Some ([], text))

unfoldable pub unit_at : List ℕ → Read Line
unit_at text = do
  front ← after (codes "unit ") text
  due ← number_at front
  versions ← versions_at VERSIONS_MOST due.1
  if length versions.0 == 0 then None else after (codes "\n") versions.1 >>= λ rest. Some (UnitLine due.0 (record { items = versions.0 }), rest)

unfoldable pub packet_at : List ℕ → Read Line
packet_at text = do
  front ← after (codes "packet ") text
  due ← number_at front
  second ← after (codes " ") due.1
  gone ← number_at second
  third ← after (codes " ") gone.1
  bytes ← number_at third
  rest ← after (codes "\n") bytes.1
  Some (Packet due.0 gone.0 bytes.0, rest)

unfoldable pub program_at : List ℕ → Read Line
program_at text = do
  vbv ← number_line (codes "program ") text
  Some (Program vbv.0, vbv.1)

-- the line of an audio stream, or that of a program
unfoldable pub stream_at : List ℕ → Read Line
stream_at text = option_map_or (λ rest. Some (Audio, rest)) (after (codes "audio\n") text) (program_at text)

-- the next line that may stand there
unfoldable pub line_at : Stage → List ℕ → Read Line
line_at stages.Title text = option_map (λ rest. (Title, rest)) (after (codes "remux table 1\n") text)
line_at stages.Slot text = option_map (λ n. (Slot n.0, n.1)) (number_line (codes "slot ") text)
line_at stages.Nodes text = option_map (λ n. (Nodes n.0, n.1)) (number_line (codes "nodes ") text)
line_at stages.Evaluations text = option_map (λ n. (Evaluations n.0, n.1)) (number_line (codes "evaluations ") text)
line_at stages.Programs text = program_at text
line_at stages.Units text = option_or (unit_at text) (stream_at text)
line_at stages.Packets text = option_or (packet_at text) (stream_at text)
