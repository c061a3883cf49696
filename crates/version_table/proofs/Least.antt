-- The least distortions, and that no choice costs less.
use Rattle.std.proofs.Common.{◌≡◌, ℕ, suc, zero, ◌+◌, ◌^◌, ◌<◌, ◌≤◌, List, [], ◌∷◌, length, get_or, fold, min, map, sum, sum_by, All, ap, ◌∙◌, arith}
use Rattle.std.specs.List.{AllZip}
use Rattle.std.proofs.lemmas.List.{get_or-map, length-map}
use Rattle.std.proofs.lemmas.List.Elements.{All-head, All-tail}
use Rattle.std.proofs.lemmas.List.Sums.{sum_by-cons, sum_by-append, sum-map}
use Rattle.version_table.specs.declared.table.Version.{Version}
use Rattle.version_table.specs.declared.table.Unit.{Unit as CodedUnit}
use Rattle.version_table.specs.declared.table.ProgramRow.{ProgramRow}
use Rattle.version_table.specs.declared.table.Table.{Table}
use Rattle.version_table.specs.Table.{IsValidTable, greatest_distortion, units_of}
use Rattle.version_table.specs.Choice.{HasVersion, Fits, version_at, chosen_distortions, distortion_of_choice, least, least_distortion, least_distortions}
use Rattle.version_table.specs.Private.Choices.{HasFewVersions}
use Rattle.version_table.proofs.Greatest.{version-le-greatest}
use Rattle.version_table.proofs.ValidUnits.{few_versions, valid_units}
use Rattle.version_table.proofs.Chosen.{units_from, units_from_more}

fold-min-le-start : (a : ℕ) (numbers : List ℕ) → fold min a numbers ≤ a
fold-min-le-start a [] = omega arith
fold-min-le-start a (n ∷ numbers) = omega (arith, fold-min-le-start (min a n) numbers)

fold-min-le : (a : ℕ) (numbers : List ℕ) (k : ℕ) → k < length numbers → fold min a numbers ≤ get_or numbers k 0
fold-min-le a [] k lt = absurd (omega arith)
fold-min-le a (n ∷ numbers) zero lt = omega (arith, fold-min-le-start (min a n) numbers)
fold-min-le a (n ∷ numbers) (suc k) lt = fold-min-le (min a n) numbers k (omega arith)

-- the least of some numbers is at most each of them
pub least-le : (numbers : List ℕ) (k : ℕ) → k < length numbers → least numbers ≤ get_or numbers k 0
least-le [] k lt = absurd (omega arith)
least-le (n ∷ numbers) zero lt = fold-min-le-start n numbers
least-le (n ∷ numbers) (suc k) lt = fold-min-le n numbers k (omega arith)

-- the least distortion of a unit is at most that of each version
pub least_distortion-le : (unit : CodedUnit) (k : ℕ) → HasVersion unit k → least_distortion unit ≤ (version_at unit k).distortion
least_distortion-le unit k has =
    let versions = unit.versions.items in
    let at : get_or (map (λ (version : Version). version.distortion) versions) k 0
    ≡ (version_at unit k).distortion = get_or-map (λ (version : Version). version.distortion) versions k
    (record { bytes = 0; distortion = 0 }) 0 has in
    omega (arith, at, least-le (map (λ (version : Version). version.distortion) versions) k (omega (arith, length-map versions (λ (version : Version). version.distortion))))

least-le-chosen : (units : List CodedUnit) (choice : List ℕ) → AllZip HasVersion units choice → sum (map least_distortion units) ≤ sum (chosen_distortions units choice)
least-le-chosen [] [] fits = omega arith
least-le-chosen [] (k ∷ choice) fits = absurd fits
least-le-chosen (unit ∷ units) [] fits = absurd fits
least-le-chosen (unit ∷ units) (k ∷ choice) fits =
    omega (
      arith,
      least_distortion-le unit k fits.0,
      least-le-chosen units choice fits.1,
      sum_by-cons (λ x. x) (least_distortion unit) (map least_distortion units),
      sum_by-cons (λ x. x) (version_at unit k).distortion (chosen_distortions units choice),
    )

-- no choice that fits costs less
pub least_distortions-le : (table : Table) (choice : List ℕ) → Fits table choice → least_distortions table ≤ distortion_of_choice table choice
least_distortions-le table choice fits = least-le-chosen (units_of table) choice fits

-- the least distortions together are at most the greatest together
least-le-greatest : (units : List CodedUnit) → All HasFewVersions units → sum_by least_distortion units ≤ sum_by greatest_distortion units
least-le-greatest [] some = omega arith
least-le-greatest (unit ∷ units) some =
    let here = (All-head HasFewVersions unit units some).0 in
    omega (
      arith,
      least_distortion-le unit 0 here,
      version-le-greatest unit 0 here,
      least-le-greatest units (All-tail HasFewVersions unit units some),
      sum_by-cons least_distortion unit units,
      sum_by-cons greatest_distortion unit units,
    )

-- the least distortions together are a number of 63 bits
pub least_distortions_fit : (table : Table) → IsValidTable table → least_distortions table < 2 ^ 63
least_distortions_fit table valid =
    let units = units_of table in
    let few = few_versions table.slot units (valid_units table valid) in
    omega (arith, sum-map least_distortion units, least-le-greatest units few, valid.distortions)

-- one program's share of what is still to come
pub least-units_from_more : (programs : List ProgramRow) (i : ℕ) (program : ProgramRow) → i < length programs → program ≡ get_or programs i program
    → sum_by least_distortion (units_from programs i) ≡ sum (map least_distortion program.units) + sum_by least_distortion (units_from programs (i + 1))
least-units_from_more programs i program lt is =
    ap (sum_by least_distortion) (units_from_more programs i program lt is)
    ∙ omega (arith, sum_by-append least_distortion program.units (units_from programs (i + 1)), sum-map least_distortion program.units)
