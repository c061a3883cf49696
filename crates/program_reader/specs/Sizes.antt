-- The sizes of all versions of the units of a program, where they are wanted.
use Rattle.std.specs.Prelude.{ℕ, List, [], ◌∷◌, ◌++◌, map, Option, Some, None}
use Rattle.syntax_types.specs.declared.picture.SeqState.{SeqState}
use Rattle.version_maker.specs.Versions.{AreSizes}
use Rattle.program_reader.specs.declared.program.Program.{Program}
use Rattle.program_reader.specs.declared.program.UnitSource.{UnitSource}
use Rattle.program_reader.specs.declared.unit_sizes.UnitSizes.{UnitSizes}
use Rattle.program_reader.specs.Units.{unit_bytes}

-- These are the sizes of all versions at some ratios of units of a video, each unit behind the state that the picture of the one before
-- leaves in force (ISO/IEC 13818-2, 6.2.2).
abbrev pub AreUnitSizes : (es coarser : List ℕ) → Option SeqState → (units : List (ℕ × ℕ)) → List UnitSizes → Type 0
AreUnitSizes es coarser before [] [] = Unit {0}
AreUnitSizes es coarser before (unit ∷ units) (sizes ∷ more) =
    (sized : AreSizes before (unit_bytes es unit) coarser sizes.versions.items) × AreUnitSizes es coarser (Some sized.are.picture.seq) units more
AreUnitSizes es coarser before units sizes = ⊥

-- with the sizes of any units behind this state, these are the sizes of all
pub record AreSizedSoFar (es coarser : List ℕ) (before : Option SeqState) (units : List (ℕ × ℕ)) (sizes : List UnitSizes) : Type 0 where
  pub all : (left : List (ℕ × ℕ)) (more : List UnitSizes) → AreUnitSizes es coarser before left more → AreUnitSizes es coarser None (units ++ left) (sizes ++ more)

-- where a unit stands
abbrev pub stands_at : UnitSource → ℕ × ℕ
stands_at unit = (unit.begin, unit.end)

-- the sizes of all versions of the units of a program, from its first one on
abbrev pub AreProgramSizes : Program → (coarser : List ℕ) → List UnitSizes → Type 0
AreProgramSizes program coarser sizes = AreUnitSizes program.video coarser None (map stands_at program.units) sizes
