-- The first bytes of one file of a shelf as a source, and how it was stopped.
use Rattle.std.specs.Prelude.{◌≡◌, ℕ, ◌-◌, ◌≤◌, List, Option, None, Some, take, drop}
use Rattle.std.specs.Borrow.{MutBor}
use Rattle.std.specs.Option.{option_map}
use Rattle.shelf_io.specs.declared.fault.Fault.{Fault}
use Rattle.shelf_io.specs.declared.fault.Fault.TheVariants.{Failed, Missing, OutOfMemory}
use Rattle.shelf_io.specs.Asked.{AsksUpTo}
use Rattle.shelf_io.specs.Counts.{Rose, ShelfCounts}
use Rattle.shelf_io.specs.Files.{Files, Lacks, content_of}
use Rattle.file_pass.specs.declared.file_pass.FilePass.{FilePass}

-- the shelf that it borrows
abbrev pub shelf_of : {K : Type 0} → FilePass K → MutBor K
shelf_of pass = pass.shelf

-- the name of its file
abbrev pub name_of : {K : Type 0} → FilePass K → List ℕ
name_of pass = pass.name.now

-- the place of the byte that comes next
abbrev pub place_of : {K : Type 0} → FilePass K → ℕ
place_of pass = pass.place

-- the place that none of its bytes stands at or behind
abbrev pub limit_of : {K : Type 0} → FilePass K → ℕ
limit_of pass = pass.limit

-- what the read that failed answered, or None where none failed
abbrev pub stop_of : {K : Type 0} → FilePass K → Option Fault
stop_of pass = pass.stop

-- the bytes of a file from a place on, up to a limit
abbrev pub left_to : Option Files → List ℕ → (limit place : ℕ) → Option (List ℕ)
left_to told name limit place = option_map (λ files. take (limit - place) (drop place (content_of files name))) told

-- ---- what reads of a file leave

-- no count of a shelf rose that reads raise
pub record SameReads (old new : ShelfCounts) : Type 0 where
  pub same_faults : new.faults ≡ old.faults
  pub same_absences : new.absences ≡ old.absences

-- one of these counts rose and the other one stayed, and no call of the shelf followed
pub record Raises (old new other_old other_new since_fault : ℕ) : Type 0 where
  pub rose : Rose old new
  pub grows : old ≤ new
  pub same_other : other_new ≡ other_old
  pub last : since_fault ≡ 0

-- How reads of a file ended: none failed; one did, or told files lack the name; or memory was wanting.
abbrev pub StopsAs : Option Fault → Option Files → (name : List ℕ) → (old new : ShelfCounts) → (since_fault : ℕ) → Type 0
StopsAs None told name old new since_fault = SameReads old new
StopsAs (Some Failed) told name old new since_fault = Raises old.faults new.faults old.absences new.absences since_fault
StopsAs (Some Missing) told name old new since_fault = Lacks told name × Raises old.absences new.absences old.faults new.faults since_fault
StopsAs (Some OutOfMemory) told name old new since_fault = SameReads old new

-- Reads of one file that ended so: the shelf's files and its count of failed writes are as they were, and it was asked for no byte of another file, nor for one at or
-- behind a place.
pub record ReadsUpTo {K : Type 0} (files : K → Option Files) (counts : K → ShelfCounts) (asked : K → List ℕ → ℕ) (since_fault : K → ℕ) (name : List ℕ) (place : ℕ) (stop : Option Fault) (old new : K) : Type 0 where
  pub same_files : files new ≡ files old
  pub same_write_faults : (counts new).write_faults ≡ (counts old).write_faults
  pub asks : AsksUpTo name place (asked old) (asked new)
  pub stops : StopsAs stop (files old) name (counts old) (counts new) (since_fault new)

-- ---- a pass

-- of the shelf that a pass began with it read no further than its limit, and was stopped as it remembers
abbrev pub HasPassed : {K : Type 0} → (files : K → Option Files) → (counts : K → ShelfCounts) → (asked : K → List ℕ → ℕ) → (since_fault : K → ℕ) → (first : K) → FilePass K → Type 0
HasPassed files counts asked since_fault first pass = ReadsUpTo files counts asked since_fault (name_of pass) (limit_of pass) (stop_of pass) first (shelf_of pass).now

-- a later state has the same shelf, file and limit, and what is said of the shelf that the pass began with is said of it still
pub record KeepsPass {K : Type 0} (files : K → Option Files) (counts : K → ShelfCounts) (asked : K → List ℕ → ℕ) (since_fault : K → ℕ) (old new : FilePass K) : Type 0 where
  pub same_shelf : (shelf_of new).ghost_name ≡ (shelf_of old).ghost_name
  pub same_name : name_of new ≡ name_of old
  pub same_limit : limit_of new ≡ limit_of old
  pub still : (first : K) → HasPassed files counts asked since_fault first old → HasPassed files counts asked since_fault first new
