-- By how much the distortions of a unit count: its program's weight, and beside it how far a picture's error is carried on by the pictures that are
-- predicted from it (this project's; I, P and B pictures and coded frames by ISO/IEC 13818-2, 6.1.1).
use Rattle.std.specs.Prelude.{ℕ, zero, suc, ◌+◌, ◌*◌, ◌==◌, min, Bool, true, false, not, if◌then◌else◌, List, filter, count_by}
use Rattle.std.specs.List.{take_while}
use Rattle.syntax_types.specs.declared.picture.TheConstants.{I_PICTURE, P_PICTURE, B_PICTURE}
use Rattle.program_reader.specs.declared.limits.TheConstants.{FRAMES_CARRIED_MOST}
use Rattle.program_reader.specs.declared.program.UnitSource.{UnitSource}
use Rattle.program_reader.specs.declared.timed_picture.Role.{Role}
use Rattle.program_reader.specs.declared.timed_picture.Role.TheVariants.{Frame, FirstField, SecondField}

-- a coded frame begins with a frame picture, or with the first of its two fields (6.1.1.4.1)
abbrev pub begins_frame : Role → Bool
begins_frame Frame = true
begins_frame FirstField = true
begins_frame SecondField = false

-- the coded frames of some units, in order, each by the unit with which it begins: by its first field's type a pair counts
abbrev pub coded_frames : List UnitSource → List UnitSource
coded_frames units = filter (λ unit. begins_frame unit.role) units

-- how many coded frames with a P picture there are among units before the next coded frame with an I picture
abbrev pub p_frames : List UnitSource → ℕ
p_frames units = count_by (λ frame. frame.kind == P_PICTURE) (take_while (λ frame. not (frame.kind == I_PICTURE)) (coded_frames units))

-- The carry of a unit before those behind it: 4 of a B picture, from which nothing is predicted; of an I or P picture 8, and `drift` for each coded
-- frame with a P picture that follows before the next one with an I picture, at most 12 of them.
abbrev pub carry : (drift : ℕ) → UnitSource → (behind : List UnitSource) → ℕ
carry drift unit behind = if unit.kind == B_PICTURE then 4 else 8 + drift * min FRAMES_CARRIED_MOST (p_frames behind)

-- what the distortions of a unit are multiplied by: the weight alone without drift, and with it the weight times its carry
abbrev pub unit_weight : (weight drift : ℕ) → UnitSource → (behind : List UnitSource) → ℕ
unit_weight weight zero unit behind = weight
unit_weight weight (suc less) unit behind = weight * carry (suc less) unit behind
