-- What a value is found to be.
use Rattle.std.specs.Prelude.{◌≡◌, Bool, true, false}
use Rattle.toml.specs.Data.{Data}
use Rattle.job_report.specs.declared.values.Wrong.{Wrong}
use Rattle.job_report.specs.declared.values.Wrong.TheVariants.{OtherType, OutOfRange}

-- a value has the type and is in range
pub record IsRight (has_type in_range : Data → Bool) (value : Data) : Type 0 where
  pub of_type : has_type value ≡ true
  pub within : in_range value ≡ true

-- a value is wrong: not of the type, or of the type and out of range
abbrev pub IsWrong : (has_type in_range : Data → Bool) → Data → Wrong → Type 0
IsWrong has_type in_range value OtherType = has_type value ≡ false
IsWrong has_type in_range value OutOfRange = (has_type value ≡ true) × (in_range value ≡ false)
