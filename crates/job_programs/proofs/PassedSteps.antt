-- The reads of a pass over a file: how far it asks, which counts rise, and what ends it.
use Rattle.std.proofs.Common.{◌≡◌, ℕ, ◌+◌, ◌<◌, ◌≤◌, max, List, Option, None, Some, arith}
use Rattle.shelf_io.specs.declared.fault.Fault.{Fault}
use Rattle.shelf_io.specs.declared.fault.Fault.TheVariants as outside
use Rattle.shelf_io.specs.Asked.{AsksUpTo}
use Rattle.shelf_io.specs.Counts.{ShelfCounts}
use Rattle.shelf_io.specs.Files.{Files}
use Rattle.file_pass.specs.FilePass.{SameReads, StopsAs}
use Rattle.passed_programs.specs.declared.passed_fault.PassedFault.{PassedFault}
use Rattle.passed_programs.specs.declared.passed_fault.PassedFault.TheVariants.{Failed, Missing, Refused}
use Rattle.passed_programs.specs.PassedFile.{stop_of}
use Rattle.program_reader.specs.declared.program_fault.ProgramFault.TheVariants as program_faults
use Rattle.job_programs.specs.Told.{CountReads, EndsFailed, EndsMissing, ReadsEnd}
use Rattle.job_programs.specs.Private.Passed.{fault_at}

-- a file that is asked for bytes up to a place is asked for none behind a later one
pub asks_short : (name : List ℕ) (place most : ℕ) (old new : List ℕ → ℕ) → place ≤ most → AsksUpTo name place old new → AsksUpTo name most old new
asks_short name place most old new short asks = record {
  here = let near : new name ≤ max (old name) place = asks.here in omega (arith, short, near);
  others = asks.others;
}

-- however its reads ended, no count fell
pub counts_read : (stop : Option Fault) (told : Option Files) (name : List ℕ) (old new : ShelfCounts) (since : ℕ) → new.write_faults ≡ old.write_faults → StopsAs stop told name old new since
    → CountReads old new
counts_read None told name old new since writes stops = record {
  faults_grow = let e = stops.same_faults in omega (arith, e);
  same_write_faults = writes;
  absences_grow = let e = stops.same_absences in omega (arith, e);
}
counts_read (Some outside.Failed) told name old new since writes stops = record {
  faults_grow = stops.grows;
  same_write_faults = writes;
  absences_grow = let e = stops.same_other in omega (arith, e);
}
counts_read (Some outside.Missing) told name old new since writes stops = record {
  faults_grow = let e = stops.1.same_other in omega (arith, e);
  same_write_faults = writes;
  absences_grow = stops.1.grows;
}
counts_read (Some outside.OutOfMemory) told name old new since writes stops = record {
  faults_grow = let e = stops.same_faults in omega (arith, e);
  same_write_faults = writes;
  absences_grow = let e = stops.same_absences in omega (arith, e);
}

-- where none failed no count rose
pub ends_none : {failed missing : Type 0} (old new : ShelfCounts) (since : ℕ) → SameReads old new → ReadsEnd failed missing old new since
ends_none old new since same = record {
  faults = λ rise. absurd (let e = same.same_faults in omega (arith, e, rise));
  absences = λ rise. absurd (let e = same.same_absences in omega (arith, e, rise));
}

-- where a program isn't read, the count rose of what is said of its file
pub ends_fault : (place : ℕ) (fault : PassedFault) (told : Option Files) (name : List ℕ) (old new : ShelfCounts) (since : ℕ) → StopsAs (stop_of fault) told name old new since
    → ReadsEnd (EndsFailed (fault_at place fault)) (EndsMissing (fault_at place fault)) old new since
ends_fault place (Refused (program_faults.Refused kind at)) told name old new since stops = ends_none old new since stops
ends_fault place (Refused program_faults.OutOfMemory) told name old new since stops = ends_none old new since stops
ends_fault place Failed told name old new since stops = record {
  faults = λ rise. (tt, stops.last);
  absences = λ rise. absurd (let e = stops.same_other in omega (arith, e, rise));
}
ends_fault place Missing told name old new since stops = record {
  faults = λ rise. absurd (let e = stops.1.same_other in omega (arith, e, rise));
  absences = λ rise. (tt, stops.1.last);
}
