-- What a shelf in memory that never fails is, as contracts see it.
use Rattle.std.specs.Prelude.{ℕ, Result, Ok, Err, refl}
use Rattle.std.specs.Coded.{Coded, code_by, coded×, coded_ℕ}
use Rattle.shelf_io.specs.declared.fault.Fault.{Fault}
use Rattle.shelf_io.specs.declared.fault.Fault.TheVariants.{Failed, Missing, OutOfMemory}
use Rattle.shelf_io.specs.Counts.{ShelfCounts, one_more}
use Rattle.shelf_io.specs.Files.{Files, files_code}

-- its files, and how many reads met a name that isn't held
pub record CalmState : Type 0 where
  pub files : Files
  pub absences : ℕ

-- by this code a proof tells shelves apart
abbrev pub calm_code : Coded CalmState
calm_code = code_by (Files × ℕ) (coded× files_code coded_ℕ) (λ s. (s.files, s.absences)) (λ p. record { files = p.0; absences = p.1 }) (λ _. refl)

-- its counts: no call fails
abbrev pub calm_counts : CalmState → ShelfCounts
calm_counts shelf = record { faults = 0; write_faults = 0; absences = shelf.absences }

-- after a call of read
abbrev pub after_read : CalmState → Result ℕ Fault → CalmState
after_read shelf (Ok n) = shelf
after_read shelf (Err Failed) = shelf
after_read shelf (Err Missing) = record shelf { absences = one_more shelf.absences }
after_read shelf (Err OutOfMemory) = shelf
