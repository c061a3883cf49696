-- What the units of a valid table keep.
use Rattle.std.proofs.Common.{ℕ, List, [], ◌∷◌, All}
use Rattle.std.specs.List.{flat_map}
use Rattle.std.proofs.lemmas.List.Elements.{All-nil, All-head, All-tail, All-append, All-weaker}
use Rattle.version_table.specs.declared.table.Unit.{Unit as CodedUnit}
use Rattle.version_table.specs.declared.table.Table.{Table}
use Rattle.version_table.specs.Table.{IsValidTable, IsValidProgram, IsValidUnit, units_of}
use Rattle.version_table.specs.Private.Choices.{HasFewVersions}

-- what holds of each item of each list holds of each item of the lists end to end
pub All-flat_map : {X A : Type 0} (P : A → Type 0) (f : X → List A) (xs : List X) → All (λ x. All P (f x)) xs → All P (flat_map f xs)
All-flat_map P f [] each = All-nil P
All-flat_map P f (x ∷ xs) each =
    All-append P (f x) (flat_map f xs) (All-head (λ x. All P (f x)) x xs each) (All-flat_map P f xs (All-tail (λ x. All P (f x)) x xs each))

-- the units of all programs are valid
pub valid_units : (table : Table) → IsValidTable table → All (IsValidUnit table.slot) (units_of table)
valid_units table valid =
    All-flat_map (IsValidUnit table.slot) (λ program. program.units) table.programs
    (All-weaker (IsValidProgram table.slot) (λ program. All (IsValidUnit table.slot) program.units) (λ program h. h.units) table.programs valid.programs)

pub few_versions : (slot : ℕ) (units : List CodedUnit) → All (IsValidUnit slot) units → All HasFewVersions units
few_versions slot units each = All-weaker (IsValidUnit slot) HasFewVersions (λ unit h. (h.some_version, h.few_versions)) units each
