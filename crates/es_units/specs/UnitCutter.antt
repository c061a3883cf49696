-- What a cutter has cut of a video stream that is given to it in pieces.
use Rattle.std.specs.Prelude.{◌≡◌, ℕ, ◌-◌, ◌≤◌, List, [], ◌∷◌, ◌++◌, length, take, drop, slice_range, Option, Some, None, is_some, if◌then◌else◌}
use Rattle.std.specs.Option.{option_map}
use Rattle.es_units.specs.declared.units.Units.{Units}
use Rattle.es_units.specs.declared.unit_cutter.CutUnit.{CutUnit}
use Rattle.es_units.specs.declared.unit_cutter.UnitCutter.{UnitCutter}
use Rattle.es_units.specs.Units.{cut_units}
use Rattle.es_units.specs.CutUpTo.{IsCutUpTo}

-- ---- what is answered

-- a unit's place: from its first byte up to the one behind its last
abbrev pub place_of : CutUnit → ℕ × ℕ
place_of unit = (unit.begin, unit.end)

-- the first bytes of a unit, as many as are kept at most
abbrev pub front_of : (most : ℕ) → List ℕ → ℕ × ℕ → List ℕ
front_of most es unit = take most (slice_range es unit.0 unit.1)

-- most bytes that are kept of a unit
abbrev pub most_kept : UnitCutter → ℕ
most_kept cutter = cutter.most

-- how many bytes were pushed
abbrev pub bytes_pushed : UnitCutter → ℕ
bytes_pushed cutter = cutter.pushed

-- how many units ended at the first sequence header or before it
abbrev pub units_dropped : UnitCutter → ℕ
units_dropped cutter = cutter.cut.dropped

-- the unit that has ended with the last byte pushed, where one has
abbrev pub ended_from : (from begin : Option ℕ) → List (ℕ × ℕ)
ended_from None begin = []
ended_from (Some from) None = []
ended_from (Some from) (Some begin) = (from, begin) ∷ []

-- the same of a cutter
abbrev pub ended_of : UnitCutter → List (ℕ × ℕ)
ended_of cutter = ended_from cutter.ended cutter.cut.begin

-- ---- what it has cut

-- the units of a stream begin with these
abbrev pub BeginWith : List (ℕ × ℕ) → Option Units → Type 0
BeginWith given None = given ≡ []
BeginWith given (Some units) = (more : List (ℕ × ℕ)) × (units.cuts ≡ given ++ more)

-- units that are given and an open one up to the stream's end, where one has begun
abbrev pub units_with_open : (dropped : ℕ) → List (ℕ × ℕ) → Option ℕ → ℕ → Option Units
units_with_open dropped given begin end = option_map (λ begin. record { dropped = dropped; cuts = given ++ (begin, end) ∷ [] }) begin

-- the bytes that are kept of the open unit: of one that has just begun those of its start code
abbrev pub open_bytes : UnitCutter → List ℕ
open_bytes cutter = if is_some cutter.ended then cutter.start else cutter.kept.items

-- they are its first ones, as many as are kept at most; before the first sequence header none
abbrev pub front_from : (most : ℕ) → List ℕ → Option ℕ → List ℕ
front_from most es None = []
front_from most es (Some begin) = take most (drop begin es)

-- the unit that has ended is the last of those given, and its first bytes are kept
abbrev pub KeepsEnded : (most : ℕ) → List ℕ → List (ℕ × ℕ) → (from begin : Option ℕ) → List ℕ → Type 0
KeepsEnded most es given None begin kept = Unit {0}
KeepsEnded most es given (Some from) None kept = ⊥
KeepsEnded most es given (Some from) (Some begin) kept =
    ((before : List (ℕ × ℕ)) × (given ≡ before ++ (from, begin) ∷ [])) × (kept ≡ front_of most es (from, begin))

-- A cutter was given these bytes, and has given these units. Whatever bytes follow, the units begin with these: what is given is
-- final. And of the bytes so far these are all units but the open one: what is final isn't kept back.
pub record HasCut (pushed : List ℕ) (given : List (ℕ × ℕ)) (cutter : UnitCutter) : Type 0 where
  pub final : (more : List ℕ) → BeginWith given (cut_units (pushed ++ more))
  pub all : cut_units pushed ≡ units_with_open (units_dropped cutter) given cutter.cut.begin (length pushed)
  pub count : bytes_pushed cutter ≡ length pushed
  pub room : 4 ≤ most_kept cutter
  pub opened : open_bytes cutter ≡ front_from cutter.most pushed cutter.cut.begin
  pub ended : KeepsEnded cutter.most pushed given cutter.ended cutter.cut.begin cutter.kept.items
  pub tail : cutter.tail ≡ drop (length pushed) (0xFF ∷ 0xFF ∷ 0xFF ∷ pushed)
  pub cut : IsCutUpTo pushed (length pushed - 3) given cutter.cut
