-- Counts of an object that counts each fault once: an answer leaves all counts but the one of its own.
use Rattle.std.specs.Prelude.{ℕ, Result, Ok, Err}
use Rattle.shelf_io.specs.declared.fault.Fault.{Fault}
use Rattle.shelf_io.specs.declared.fault.Fault.TheVariants.{Failed, Missing, OutOfMemory}
use Rattle.shelf_io.specs.Counts.{ShelfCounts, one_more}

-- the counts of a shelf after a call of read
abbrev pub counts_after_read : {T : Type 0} → ShelfCounts → Result T Fault → ShelfCounts
counts_after_read counts (Ok n) = counts
counts_after_read counts (Err Failed) = record counts { faults = one_more counts.faults }
counts_after_read counts (Err Missing) = record counts { absences = one_more counts.absences }
counts_after_read counts (Err OutOfMemory) = counts

-- the counts of a shelf after a call of start or append
abbrev pub counts_after_write : {T : Type 0} → ShelfCounts → Result T Fault → ShelfCounts
counts_after_write counts (Ok n) = counts
counts_after_write counts (Err Failed) = record counts { write_faults = one_more counts.write_faults }
counts_after_write counts (Err Missing) = counts
counts_after_write counts (Err OutOfMemory) = counts

-- the count of a sink after a call of put
abbrev pub faults_after_put : {T : Type 0} → ℕ → Result T Fault → ℕ
faults_after_put faults (Ok n) = faults
faults_after_put faults (Err Failed) = one_more faults
faults_after_put faults (Err Missing) = faults
faults_after_put faults (Err OutOfMemory) = faults

-- how many calls came after the last fault, after one more call
abbrev pub since_fault_after : {T : Type 0} → ℕ → Result T Fault → ℕ
since_fault_after since (Ok n) = one_more since
since_fault_after since (Err fault) = 0
