-- The distortions of a program as a job weighs them, against the limits of tables.
use Rattle.std.specs.Prelude.{ℕ, ◌+◌, ◌*◌, ◌<◌, ◌⊎◌, List, ◌∷◌, length, map, All}
use Rattle.version_table.specs.Table.{greatest}
use Rattle.version_table.specs.declared.limits.TheConstants.{DISTORTION_LIMIT}
use Rattle.program_reader.specs.Carry.{unit_weight}
use Rattle.program_reader.specs.Sizes.{AreProgramSizes}
use Rattle.program_reader.specs.declared.program.Program.{Program}
use Rattle.program_reader.specs.declared.program.UnitSource.{UnitSource}
use Rattle.program_reader.specs.declared.unit_sizes.UnitSizes.{UnitSizes}
use Rattle.job_programs.specs.declared.limits.TheConstants.{PROGRAM_DISTORTIONS_LIMIT, UNITS_OF_ANY_DISTORTION}

-- the distortion of each version of each unit, times what the unit weighs before those behind it, is below the limit of tables
abbrev pub AreNear : (weight drift : ℕ) → List UnitSource → List UnitSizes → Type 0
AreNear weight drift (unit ∷ units) (sizes ∷ more) =
    All (λ size. size.distortion * unit_weight weight drift unit units < DISTORTION_LIMIT) sizes.versions.items × AreNear weight drift units more
AreNear weight drift units sizes = Unit {0}

-- the greatest distortion of a unit over its versions, times a weight
abbrev pub greatest_weighed : (weight : ℕ) → UnitSizes → ℕ
greatest_weighed weight sizes = greatest (map (λ size. size.distortion * weight) sizes.versions.items)

-- those of all units together, each times what the unit weighs before those behind it
abbrev pub weighed_together : (weight drift : ℕ) → List UnitSource → List UnitSizes → ℕ
weighed_together weight drift (unit ∷ units) (sizes ∷ more) =
    greatest_weighed (unit_weight weight drift unit units) sizes + weighed_together weight drift units more
weighed_together weight drift units sizes = 0

-- so it is for the versions of a program at some ratios, and all units together are below the limit of a program
pub record IsNear (weight drift : ℕ) (coarser : List ℕ) (program : Program) : Type 0 where
  pub sizes : List UnitSizes
  pub are_sizes : AreProgramSizes program coarser sizes
  pub near : AreNear weight drift program.units sizes
  pub together : weighed_together weight drift program.units sizes < PROGRAM_DISTORTIONS_LIMIT

-- With a drift, or with many units, the limits of distortions are kept; without one no distortion of a few units can reach them, whatever the weight.
abbrev pub KeepsDistortions : (weight drift : ℕ) → (coarser : List ℕ) → Program → Type 0
KeepsDistortions weight drift coarser program =
    (0 < drift) ⊎ (UNITS_OF_ANY_DISTORTION < length program.units) → IsNear weight drift coarser program
