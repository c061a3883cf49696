-- What the loops over a table's units keep.
use Rattle.std.specs.Prelude.{◌≡◌, ℕ, ◌≤◌, List, ◌++◌, length}
use Rattle.std.specs.List.{AllZip}
use Rattle.version_table.specs.declared.limits.TheConstants.{VERSIONS_MOST}
use Rattle.version_table.specs.declared.table.Unit.{Unit as CodedUnit}

-- the unit has versions, and their numbers are below 256
abbrev pub HasFewVersions : CodedUnit → Type 0
HasFewVersions unit = (1 ≤ length unit.versions.items) × (length unit.versions.items ≤ VERSIONS_MOST)

-- the new choice is the old one with a number for each unit at its end, of which the relation holds
abbrev pub AppendsEach : (CodedUnit → ℕ → Type 0) → List CodedUnit → List ℕ → List ℕ → Type 0
AppendsEach R units old new = (added : List ℕ) × (new ≡ old ++ added) × AllZip R units added
