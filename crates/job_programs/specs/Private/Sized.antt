-- What is read of a program, with the sizes of its units' versions.
use Rattle.std.specs.Prelude.{◌≡◌, ℕ, List}
use Rattle.program_reader.specs.declared.program.Program.{Program}
use Rattle.program_reader.specs.declared.program.UnitSource.{UnitSource}
use Rattle.program_reader.specs.declared.unit_sizes.UnitSizes.{UnitSizes}
use Rattle.program_reader.specs.Sizes.{AreProgramSizes}

-- these are the units of a program, and the sizes of their versions at some ratios
pub record IsSizedBy (program : Program) (coarser : List ℕ) (units : List UnitSource) (sizes : List UnitSizes) : Type 0 where
  pub units_are : units ≡ program.units
  pub are_sizes : AreProgramSizes program coarser sizes
