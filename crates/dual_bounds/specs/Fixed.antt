-- Versions that are fixed, and the choices that take them.
use Rattle.std.specs.Prelude.{◌≡◌, ℕ, List, [], ◌∷◌, All, Option, Some, None}
use Rattle.std.specs.List.{AllZip}
use Rattle.version_table.specs.declared.table.Version.{Version}
use Rattle.version_table.specs.declared.table.Unit.{Unit as CodedUnit}
use Rattle.version_table.specs.declared.table.Table.{Table}
use Rattle.version_table.specs.Choice.{HasVersion, version_at}
use Rattle.version_table.specs.Table.{units_of}

-- the unit has the version that is fixed, where one is
abbrev pub NamesVersion : CodedUnit → Option ℕ → Type 0
NamesVersion unit None = Unit {0}
NamesVersion unit (Some k) = HasVersion unit k

-- for each unit nothing, or a version that it has
abbrev pub FixesVersions : Table → List (Option ℕ) → Type 0
FixesVersions table fixed = AllZip NamesVersion (units_of table) fixed

-- the versions that may be chosen of a unit: the one that is fixed, or all
abbrev pub allowed : CodedUnit → Option ℕ → List Version
allowed unit None = unit.versions.items
allowed unit (Some k) = version_at unit k ∷ []

-- the version is the one that is fixed, where one is
abbrev pub Takes : Option ℕ → ℕ → Type 0
Takes None k = Unit {0}
Takes (Some fixed) k = fixed ≡ k

-- a choice takes each version that is fixed
abbrev pub TakesFixed : List (Option ℕ) → List ℕ → Type 0
TakesFixed fixed choice = AllZip Takes fixed choice

-- nothing is fixed
abbrev pub FixesNone : List (Option ℕ) → Type 0
FixesNone fixed = All (λ entry. entry ≡ None) fixed

-- where a version was fixed it still is
abbrev pub KeepsFixed : (before after : Option ℕ) → Type 0
KeepsFixed None after = Unit {0}
KeepsFixed (Some k) after = Some k ≡ after
