-- What ends a reading: a rise of a count is the last of it.
use Rattle.std.proofs.Common.{◌≡◌, ◌<◌, ℕ, Result, Err, ap, arith}
use Rattle.shelf_io.specs.declared.fault.Fault.{Fault}
use Rattle.shelf_io.specs.declared.fault.Fault.TheVariants.{Failed, Missing, OutOfMemory}
use Rattle.shelf_io.specs.Causes.{ReadCauses}
use Rattle.shelf_io.specs.Counts.{ShelfCounts}
use Rattle.shelf_io.proofs.Counted.{rises_later}
use Rattle.job_programs.specs.Told.{ReadsEnd}

-- a count that stands still didn't rise
pub no_rise : (n : ℕ) → n < n → ⊥
no_rise n rise = omega arith

-- a call that reads one file
pub ends_read : {failed missing : Type 0} {old new : ShelfCounts} {since : ℕ} → ReadCauses failed missing old new → (failed → since ≡ 0) → (missing → since ≡ 0)
    → ReadsEnd failed missing old new since
ends_read causes failed_last missing_last = record {
  faults = λ rise. (causes.only_failed rise, failed_last (causes.only_failed rise));
  absences = λ rise. (causes.only_missing rise, missing_last (causes.only_missing rise));
}

-- in other words
pub ends_so : {failed missing fails misses : Type 0} {old new : ShelfCounts} {since : ℕ} → (failed → fails) → (missing → misses)
    → ReadsEnd failed missing old new since → ReadsEnd fails misses old new since
ends_so fails misses ends = record {
  faults = λ rise. (fails (ends.faults rise).0, (ends.faults rise).1);
  absences = λ rise. (misses (ends.absences rise).0, (ends.absences rise).1);
}

-- behind a call that ended by no fault and no absence
pub ends_behind : {failed missing fails misses : Type 0} {old middle new : ShelfCounts} {first since : ℕ} → (failed → ⊥) → (missing → ⊥)
    → ReadsEnd failed missing old middle first → ReadsEnd fails misses middle new since → ReadsEnd fails misses old new since
ends_behind {old = old} {middle = middle} {new = new} unfailed found before after = record {
  faults = λ rise. after.faults (rises_later old.faults middle.faults new.faults (λ early. unfailed (before.faults early).0) rise);
  absences = λ rise. after.absences (rises_later old.absences middle.absences new.absences (λ early. found (before.absences early).0) rise);
}

-- where it ended by no fault and no absence, whatever it answers and follows
pub ends_still : {failed missing fails misses : Type 0} {old new : ShelfCounts} {since later : ℕ} → (failed → ⊥) → (missing → ⊥)
    → ReadsEnd failed missing old new since → ReadsEnd fails misses old new later
ends_still unfailed found ends = record {
  faults = λ rise. absurd (unfailed (ends.faults rise).0);
  absences = λ rise. absurd (found (ends.absences rise).0);
}

-- ---- one fault is no other

abbrev refused : {T : Type 0} → Fault → Result T Fault
refused fault = Err fault

pub failed_isnt_missing : {T : Type 0} (fault : Fault) → fault ≡ Failed → refused {T = T} fault ≡ refused {T = T} Missing → ⊥
failed_isnt_missing {T = T} fault is found = let this = ap (refused {T = T}) is in cc

pub missing_isnt_failed : {T : Type 0} (fault : Fault) → fault ≡ Missing → refused {T = T} fault ≡ refused {T = T} Failed → ⊥
missing_isnt_failed {T = T} fault is found = let this = ap (refused {T = T}) is in cc

pub memory_isnt_failed : {T : Type 0} (fault : Fault) → fault ≡ OutOfMemory → refused {T = T} fault ≡ refused {T = T} Failed → ⊥
memory_isnt_failed {T = T} fault is found = let this = ap (refused {T = T}) is in cc

pub memory_isnt_missing : {T : Type 0} (fault : Fault) → fault ≡ OutOfMemory → refused {T = T} fault ≡ refused {T = T} Missing → ⊥
memory_isnt_missing {T = T} fault is found = let this = ap (refused {T = T}) is in cc
