-- Units by their numbers: how many versions they have, and what is fixed of them.
use Rattle.std.proofs.Common.{
  ◌≡◌,
  ℕ,
  zero,
  suc,
  ◌+◌,
  ◌-◌,
  ◌<◌,
  ◌≤◌,
  ◌↔◌,
  IsTrue,
  true,
  false,
  List,
  [],
  ◌∷◌,
  ◌++◌,
  length,
  map,
  get_or,
  set,
  replicate,
  All,
  Option,
  Some,
  None,
  refl,
  sym,
  ap,
  subst,
  ◌∙◌,
  inl,
  inr,
  arith,
}
use Rattle.std.specs.List.{AllZip}
use Rattle.std.proofs.lemmas.Bool.{cases_lt, false≢true}
use Rattle.std.proofs.lemmas.List.{get_or_default, get_or_past, get_or-replicate, get_or_append_left, get_or-append_right, length-replicate, same_lists}
use Rattle.version_table.specs.declared.limits.TheConstants.{VERSIONS_MOST}
use Rattle.version_table.specs.declared.table.Unit.{Unit as CodedUnit}
use Rattle.version_table.specs.declared.table.ProgramRow.{ProgramRow}
use Rattle.version_table.specs.declared.table.Table.{Table}
use Rattle.version_table.specs.Choice.{Fits, HasVersion}
use Rattle.version_table.specs.Table.{IsValidTable, IsValidUnit, units_of}
use Rattle.version_table.proofs.Chosen.{units_from, units_from_more, units_from_all}
use Rattle.version_table.proofs.ValidUnits.{valid_units}
use Rattle.dual_bounds.specs.Fixed.{FixesVersions, NamesVersion}
use Rattle.certificate_checker.specs.Shown.{choice_left, version_left, versions_of}
-- ---- how many versions a unit has
pub use Rattle.certificate_checker.specs.Private.Order.{no_unit}

-- how many versions the unit of this number has, of some units
abbrev pub versions_at : List CodedUnit → (unit : ℕ) → ℕ
versions_at units unit = length (get_or units unit no_unit).versions.items

-- the unit is that of a number behind the programs before this one
abbrev pub IsBehind : Table → (program rest unit : ℕ) → Type 0
IsBehind table program rest unit = versions_at (units_from table.programs program) rest ≡ versions_of table unit

pub in_program : (table : Table) (i rest unit : ℕ) (program : ProgramRow) (units : List CodedUnit) → i < length table.programs → program ≡ get_or table.programs i program → units ≡ program.units
    → IsBehind table i rest unit → rest < length units → versions_at units rest ≡ versions_of table unit
in_program table i rest unit program units within is units-is behind here =
    let split : units_from table.programs i ≡ units ++ units_from table.programs (i + 1) =
    units_from_more table.programs i program within is ∙ ap (λ (us : List CodedUnit). us ++ units_from table.programs (i + 1)) (sym units-is) in
    let same : get_or (units_from table.programs i) rest no_unit ≡ get_or units rest no_unit =
    ap (λ (us : List CodedUnit). get_or us rest no_unit) split ∙ get_or_append_left units (units_from table.programs (i + 1)) no_unit rest here in
    sym (ap (λ (u : CodedUnit). length u.versions.items) same) ∙ behind

pub behind_program : (table : Table) (i rest unit : ℕ) (program : ProgramRow) (units : List CodedUnit) → i < length table.programs → program ≡ get_or table.programs i program → units ≡ program.units
    → IsBehind table i rest unit → length units ≤ rest → IsBehind table (i + 1) (rest - length units) unit
behind_program table i rest unit program units within is units-is behind there =
    let split : units_from table.programs i ≡ units ++ units_from table.programs (i + 1) =
    units_from_more table.programs i program within is ∙ ap (λ (us : List CodedUnit). us ++ units_from table.programs (i + 1)) (sym units-is) in
    let same : get_or (units_from table.programs i) rest no_unit ≡ get_or (units_from table.programs (i + 1)) (rest - length units) no_unit =
    ap (λ (us : List CodedUnit). get_or us rest no_unit) split ∙ get_or-append_right units (units_from table.programs (i + 1)) (length units) rest no_unit refl there in
    sym (ap (λ (u : CodedUnit). length u.versions.items) same) ∙ behind

pub behind_all : (table : Table) (i rest unit : ℕ) → length table.programs ≤ i → IsBehind table i rest unit → 0 ≡ versions_of table unit
behind_all table i rest unit all behind =
    let none : units_from table.programs i ≡ [] = units_from_all table.programs i all in
    sym (ap (λ (us : List CodedUnit). versions_at us rest) none) ∙ behind

-- ---- facts of all units from those of each number
pub all_zip_from : {B : Type 0} (R : CodedUnit → B → Type 0) (units : List CodedUnit) (xs : List B) (d : CodedUnit) (e : B) → length xs ≡ length units
    → ((u : ℕ) → u < length units → R (get_or units u d) (get_or xs u e)) → AllZip R units xs
all_zip_from R [] [] d e size each = tt
all_zip_from R [] (x ∷ xs) d e size each = absurd (omega (arith, size))
all_zip_from R (unit ∷ units) [] d e size each = absurd (omega (arith, size))
all_zip_from R (unit ∷ units) (x ∷ xs) d e size each =
    (each 0 (omega arith), all_zip_from R units xs d e (omega (arith, size)) (λ u within. each (suc u) (omega (arith, within))))

pub all_zip_at : {B : Type 0} (R : CodedUnit → B → Type 0) (units : List CodedUnit) (xs : List B) (u : ℕ) (d : CodedUnit) (e : B) → AllZip R units xs → u < length units
    → R (get_or units u d) (get_or xs u e)
all_zip_at R [] xs u d e all within = absurd (omega (arith, within))
all_zip_at R (unit ∷ units) [] u d e all within = absurd all
all_zip_at R (unit ∷ units) (x ∷ xs) zero d e all within = all.0
all_zip_at R (unit ∷ units) (x ∷ xs) (suc u) d e all within = all_zip_at R units xs u d e all.1 (omega (arith, within))

pub all_zip_size : {B : Type 0} (R : CodedUnit → B → Type 0) (units : List CodedUnit) (xs : List B) → AllZip R units xs → length xs ≡ length units
all_zip_size R [] [] all = refl
all_zip_size R [] (x ∷ xs) all = absurd all
all_zip_size R (unit ∷ units) [] all = absurd all
all_zip_size R (unit ∷ units) (x ∷ xs) all = ap suc (all_zip_size R units xs all.1)

-- what an early return and the end of a test say
pub never : {P : Type 0} → (P → ⊥) → IsTrue false ↔ P
never not = (λ so. absurd (false≢true so), λ p. absurd (not p))

pub always : {P : Type 0} → P → IsTrue true ↔ P
always p = (λ so. p, λ q. refl)

-- a unit of a valid table has a version
pub some_version : (table : Table) (unit : ℕ) → IsValidTable table → unit < length (units_of table) → 0 < versions_of table unit
some_version table unit valid within = omega (arith, (valid_units table valid unit no_unit within).some_version)

-- a unit of a valid table has few versions
pub few_versions_of : (table : Table) (unit : ℕ) → IsValidTable table → versions_of table unit ≤ VERSIONS_MOST
few_versions_of table unit valid = elim (cases_lt unit (length (units_of table))) [
  | inl within ↦ (valid_units table valid unit no_unit within).few_versions
  | inr past ↦ subst (λ (u : CodedUnit). length u.versions.items ≤ VERSIONS_MOST) (sym (get_or_past (units_of table) unit no_unit past)) (omega arith)
]

-- ---- what is fixed
names_set_in : (units : List CodedUnit) (fixed : List (Option ℕ)) (u : ℕ) (entry : Option ℕ) → AllZip NamesVersion units fixed → NamesVersion (get_or units u no_unit) entry
    → AllZip NamesVersion units (set fixed u entry)
names_set_in [] [] u entry names own = tt
names_set_in [] (other ∷ fixed) u entry names own = absurd names
names_set_in (unit ∷ units) [] u entry names own = absurd names
names_set_in (unit ∷ units) (other ∷ fixed) zero entry names own = (own, names.1)
names_set_in (unit ∷ units) (other ∷ fixed) (suc u) entry names own = (names.0, names_set_in units fixed u entry names.1 own)

pub fixes_one : (table : Table) (fixed : List (Option ℕ)) (unit k : ℕ) → FixesVersions table fixed → k < versions_of table unit → FixesVersions table (set fixed unit (Some k))
fixes_one table fixed unit k fixes some = names_set_in (units_of table) fixed unit (Some k) fixes some

pub fixes_none : (table : Table) (fixed : List (Option ℕ)) (unit : ℕ) → FixesVersions table fixed → FixesVersions table (set fixed unit None)
fixes_none table fixed unit fixes = names_set_in (units_of table) fixed unit None fixes tt

pub choice_left-set : (fixed : List (Option ℕ)) (unit : ℕ) (entry : Option ℕ) → choice_left (set fixed unit entry) ≡ set (choice_left fixed) unit (version_left entry)
choice_left-set [] unit entry = refl
choice_left-set (other ∷ fixed) zero entry = refl
choice_left-set (other ∷ fixed) (suc unit) entry = ap (λ (xs : List ℕ). version_left other ∷ xs) (choice_left-set fixed unit entry)

fits_left_in : (slot : ℕ) (units : List CodedUnit) (fixed : List (Option ℕ)) → All (IsValidUnit slot) units → AllZip NamesVersion units fixed → AllZip HasVersion units (choice_left fixed)
fits_left_in slot [] [] valid names = tt
fits_left_in slot [] (entry ∷ fixed) valid names = absurd names
fits_left_in slot (unit ∷ units) [] valid names = absurd names
fits_left_in slot (unit ∷ units) (None ∷ fixed) valid names =
    let own : 1 ≤ length unit.versions.items = (valid 0 unit (omega arith)).some_version in
    (omega (arith, own), fits_left_in slot units fixed (λ k d within. valid (suc k) d (omega (arith, within))) names.1)
fits_left_in slot (unit ∷ units) (Some k ∷ fixed) valid names = (names.0, fits_left_in slot units fixed (λ j d within. valid (suc j) d (omega (arith, within))) names.1)

-- the choice that is left fits
pub fits_left : (table : Table) (fixed : List (Option ℕ)) → IsValidTable table → FixesVersions table fixed → Fits table (choice_left fixed)
fits_left table fixed valid fixes = fits_left_in table.slot (units_of table) fixed (valid_units table valid) fixes

-- where nothing is fixed of any unit
pub unfixed_is : (units : List CodedUnit) → replicate {A = Option ℕ} (length units) None ≡ map (λ (unit : CodedUnit). None) units
unfixed_is [] = refl
unfixed_is (unit ∷ units) = ap (λ (xs : List (Option ℕ)). None ∷ xs) (unfixed_is units)

pub zeros_left : (n : ℕ) → replicate n 0 ≡ choice_left (replicate {A = Option ℕ} n None)
zeros_left zero = refl
zeros_left (suc n) = ap (λ (xs : List ℕ). 0 ∷ xs) (zeros_left n)

pub fixes_nothing : (units : List CodedUnit) → AllZip NamesVersion units (map (λ (unit : CodedUnit). None) units)
fixes_nothing [] = tt
fixes_nothing (unit ∷ units) = (tt, fixes_nothing units)

-- ---- a list filled from the front
pub filled_all : {A : Type 0} (xs : List A) (n : ℕ) (x : A) → length xs ≡ n → ((k : ℕ) → k < n → get_or xs k x ≡ x) → xs ≡ replicate n x
filled_all xs n x size each =
    same_lists xs (replicate n x) (size ∙ sym (length-replicate n x))
    (λ k d within. get_or_default xs k d x within ∙ each k (omega (arith, within, size)) ∙ sym (get_or-replicate n k x d (omega (arith, within, size))))
