-- What a fault of the outside rests on: each comes only where the count of its own rose in that call, a count rises only in a call
-- that answers the fault, and no count falls. `distrust` alone answers nothing and raises a count (`with_fault`).
use Rattle.std.specs.Prelude.{◌≡◌, ℕ, ◌<◌, ◌≤◌}
use Rattle.shelf_io.specs.Counts.{Rose, ShelfCounts}

-- a call over a source, which answered Failed or Missing where these facts hold
pub record SourceCauses {S : Type 0} (faults absences : S → ℕ) (failed missing : Type 0) (old new : S) : Type 0 where
  pub failed_rose : failed → Rose (faults old) (faults new)
  pub missing_rose : missing → Rose (absences old) (absences new)
  pub faults_grow : faults old ≤ faults new
  pub absences_grow : absences old ≤ absences new

-- a call over a sink, which never answers Missing
pub record SinkCauses {K : Type 0} (faults : K → ℕ) (failed missing : Type 0) (old new : K) : Type 0 where
  pub failed_rose : failed → Rose (faults old) (faults new)
  pub never_missing : missing → ⊥
  pub faults_grow : faults old ≤ faults new

-- a call that reads from a shelf
pub record ReadCauses (failed missing : Type 0) (old new : ShelfCounts) : Type 0 where
  pub failed_rose : failed → Rose old.faults new.faults
  pub missing_rose : missing → Rose old.absences new.absences
  pub only_failed : old.faults < new.faults → failed
  pub only_missing : old.absences < new.absences → missing
  pub faults_grow : old.faults ≤ new.faults
  pub same_write_faults : new.write_faults ≡ old.write_faults
  pub absences_grow : old.absences ≤ new.absences

-- a call that writes to a shelf, which never answers Missing
pub record WriteCauses (failed missing : Type 0) (old new : ShelfCounts) : Type 0 where
  pub failed_rose : failed → Rose old.write_faults new.write_faults
  pub only_failed : old.write_faults < new.write_faults → failed
  pub never_missing : missing → ⊥
  pub same_faults : new.faults ≡ old.faults
  pub write_faults_grow : old.write_faults ≤ new.write_faults
  pub same_absences : new.absences ≡ old.absences
