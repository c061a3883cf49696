-- A choice with another version of one unit.
use Rattle.std.proofs.Common.{◌≡◌, ℕ, ◌<◌, List, length, get_or, set, sym, ap₂, subst, ◌∙◌, inl, inr, arith}
use Rattle.std.proofs.lemmas.Bool.{cases_eq}
use Rattle.std.proofs.lemmas.List.{get_or-set_same, get_or-set_other, length-set, set-get_or, set-set}
use Rattle.std.proofs.lemmas.Slice.Zip.{AllZip-long}
use Rattle.version_table.specs.declared.table.Table.{Table}
use Rattle.version_table.specs.Choice.{Fits, HasVersion}
use Rattle.version_table.specs.Table.{units_of}
use Rattle.certificate_checker.specs.Shown.{versions_of}
use Rattle.certificate_checker.proofs.Units.{all_zip_at, all_zip_from, no_unit}

pub choice_long : (table : Table) (choice : List ℕ) → Fits table choice → length choice ≡ length (units_of table)
choice_long table choice fits = AllZip-long HasVersion (units_of table) choice fits

pub version_there : (table : Table) (choice : List ℕ) (place : ℕ) → Fits table choice → place < length (units_of table)
    → get_or choice place 0 < length (get_or (units_of table) place no_unit).versions.items
version_there table choice place fits within = all_zip_at HasVersion (units_of table) choice place no_unit 0 fits within

pub fits_put : (table : Table) (choice : List ℕ) (place k : ℕ) → Fits table choice → place < length (units_of table) → k < versions_of table place
    → Fits table (set choice place k)
fits_put table choice place k fits within there =
    let units = units_of table in
    let long = choice_long table choice fits in
    let inside : place < length choice = omega (arith, within, long) in
    all_zip_from HasVersion units (set choice place k) no_unit 0 (length-set choice place k ∙ long)
    (λ u below. elim (cases_eq u place) as (λ _. HasVersion (get_or units u no_unit) (get_or (set choice place k) u 0)) [
      | inl same ↦
          subst (λ (i : ℕ). HasVersion (get_or units i no_unit) (get_or (set choice place k) i 0)) (sym same)
          (subst (λ (n : ℕ). HasVersion (get_or units place no_unit) n) (sym (get_or-set_same choice place k 0 inside)) there)
      | inr other ↦
          subst (λ (n : ℕ). HasVersion (get_or units u no_unit) n) (sym (get_or-set_other choice place u k 0 other))
          (all_zip_at HasVersion units choice u no_unit 0 fits below)
    ])

-- the version that was there put back
pub put_back : (choice changed back seen : List ℕ) (place k : ℕ) → changed ≡ set choice place k → seen ≡ choice → back ≡ set changed place (get_or seen place 0) → back ≡ choice
put_back choice changed back seen place k is same again =
    again ∙ ap₂ (λ (xs ys : List ℕ). set xs place (get_or ys place 0)) is same ∙ set-set choice place k (get_or choice place 0) ∙ set-get_or choice place 0
