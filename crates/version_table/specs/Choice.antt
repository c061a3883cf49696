-- Choices: a version number for each unit, and what they cost.
use Rattle.std.specs.Prelude.{◌≡◌, ◌≢◌, ℕ, ◌-◌, ◌<◌, ◌⊎◌, List, [], ◌∷◌, length, fold, map, min, sum, slice_index_or}
use Rattle.std.specs.List.{AllZip}
use Rattle.version_table.specs.declared.table.Version.{Version}
use Rattle.version_table.specs.declared.table.Unit.{Unit as CodedUnit}
use Rattle.version_table.specs.declared.table.Table.{Table}
use Rattle.version_table.specs.Table.{units_of}

-- the unit has a version of this number
abbrev pub HasVersion : CodedUnit → ℕ → Type 0
HasVersion unit k = k < length unit.versions.items

-- the choice names an existing version for each unit
abbrev pub Fits : Table → List ℕ → Type 0
Fits table choice = AllZip HasVersion (units_of table) choice

-- version k of a unit; where it has none, no bytes without distortion
abbrev pub version_at : CodedUnit → ℕ → Version
version_at unit k = slice_index_or unit.versions.items k (record { bytes = 0; distortion = 0 })

-- the distortions of the chosen versions, one for each unit
abbrev pub chosen_distortions : List CodedUnit → List ℕ → List ℕ
chosen_distortions (unit ∷ units) (k ∷ choice) = (version_at unit k).distortion ∷ chosen_distortions units choice
chosen_distortions [] choice = []
chosen_distortions (unit ∷ units) [] = []

-- the distortion of a choice: the sum over all units
abbrev pub distortion_of_choice : Table → List ℕ → ℕ
distortion_of_choice table choice = sum (chosen_distortions (units_of table) choice)

-- one version is smaller than another: fewer bytes, or as many and less distortion
abbrev pub IsSmaller : Version → Version → Type 0
IsSmaller a b = (a.bytes < b.bytes) ⊎ ((a.bytes ≡ b.bytes) × (a.distortion < b.distortion))

-- version j goes before version k: it is smaller, or of the same size and distortion with a lower number
abbrev pub VersionGoesBefore : Version → ℕ → Version → ℕ → Type 0
VersionGoesBefore a j b k = IsSmaller a b ⊎ ((a.bytes ≡ b.bytes) × (a.distortion ≡ b.distortion) × (j < k))

-- version k of the unit goes before each of its other versions
pub record IsSmallestVersion (unit : CodedUnit) (k : ℕ) : Type 0 where
  pub exists : HasVersion unit k
  pub first : (j : ℕ) → HasVersion unit j → j ≢ k → VersionGoesBefore (version_at unit k) k (version_at unit j) j

-- the smallest choice: of each unit the smallest version
abbrev pub IsSmallestChoice : Table → List ℕ → Type 0
IsSmallestChoice table choice = AllZip IsSmallestVersion (units_of table) choice

-- the number of a unit's version at a level: the level, or its last version where it has fewer
abbrev pub level_version : ℕ → CodedUnit → ℕ
level_version level unit = min level (length unit.versions.items - 1)

-- the level choice: of each unit the version at that level
abbrev pub level_choice : Table → ℕ → List ℕ
level_choice table level = map (level_version level) (units_of table)

-- the least of these numbers; of none 0
abbrev pub least : List ℕ → ℕ
least [] = 0
least (n ∷ numbers) = fold min n numbers

-- the least distortion of a unit, over its versions
abbrev pub least_distortion : CodedUnit → ℕ
least_distortion unit = least (map (λ version. version.distortion) unit.versions.items)

-- what the units of a table cost at least: the sum of their least distortions
abbrev pub least_distortions : Table → ℕ
least_distortions table = sum (map least_distortion (units_of table))
