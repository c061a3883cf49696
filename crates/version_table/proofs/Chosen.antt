-- Choices, unit by unit.
use Rattle.std.proofs.Common.{◌≡◌, ℕ, ◌+◌, ◌-◌, ◌^◌, ◌<◌, ◌≤◌, List, [], ◌∷◌, ◌++◌, length, take, drop, get_or, sum, sum_by, map, All, refl, sym, ap, subst, ◌∙◌, append_assoc, arith, inl, inr}
use Rattle.std.specs.List.{AllZip, flat_map}
use Rattle.std.proofs.lemmas.List.{drop_more, drop_all, take_more, take_all, append-nil}
use Rattle.std.proofs.lemmas.List.Concat.{flat_map-append}
use Rattle.std.proofs.lemmas.List.Elements.{All-head, All-tail}
use Rattle.std.proofs.lemmas.Bool.{cases_eq}
use Rattle.std.proofs.lemmas.List.Sums.{sum_by-cons}
use Rattle.version_table.specs.declared.limits.TheConstants.{VERSIONS_MOST}
use Rattle.version_table.specs.declared.table.Unit.{Unit as CodedUnit}
use Rattle.version_table.specs.declared.table.ProgramRow.{ProgramRow}
use Rattle.version_table.specs.declared.table.Table.{Table}
use Rattle.version_table.specs.Table.{IsValidTable, greatest_distortion, units_of}
use Rattle.version_table.specs.Private.Choices.{AppendsEach, HasFewVersions}
use Rattle.version_table.specs.Choice.{HasVersion, Fits, IsSmallestVersion, IsSmallestChoice, version_at, chosen_distortions, distortion_of_choice, level_version, level_choice}
use Rattle.version_table.proofs.Greatest.{version-le-greatest}
use Rattle.version_table.proofs.ValidUnits.{valid_units, few_versions}

-- the numbers for some units, and those for others after them, from the numbers for all
pub record InParts (R : CodedUnit → ℕ → Type 0) (whole first others : List CodedUnit) (choice front back : List ℕ) : Type 0 where
  pub of_first : AllZip R first front
  pub of_others : AllZip R others back
  pub total : sum (chosen_distortions whole choice) ≡ sum (chosen_distortions first front) + sum (chosen_distortions others back)

in_parts : (R : CodedUnit → ℕ → Type 0) (first others : List CodedUnit) (choice : List ℕ) → AllZip R (first ++ others) choice
    → InParts R (first ++ others) first others choice (take (length first) choice) (drop (length first) choice)
in_parts R [] others choice fits = record { of_first = tt; of_others = fits; total = omega arith }
in_parts R (unit ∷ first) others [] fits = absurd fits
in_parts R (unit ∷ first) others (k ∷ choice) fits =
    let rest = in_parts R first others choice fits.1 in
    let d = (version_at unit k).distortion in
    record {
      of_first = (fits.0, rest.of_first);
      of_others = rest.of_others;
      total = omega (arith, rest.total, sum_by-cons (λ x. x) d (chosen_distortions (first ++ others) choice), sum_by-cons (λ x. x) d (chosen_distortions first (take (length first) choice)));
    }

enough_for : (R : CodedUnit → ℕ → Type 0) (first others : List CodedUnit) (choice : List ℕ) → AllZip R (first ++ others) choice → length first ≤ length choice
enough_for R [] others choice fits = omega arith
enough_for R (unit ∷ first) others [] fits = absurd fits
enough_for R (unit ∷ first) others (k ∷ choice) fits = omega (arith, enough_for R first others choice fits.1)

-- the units of the programs from i on
abbrev pub units_from : List ProgramRow → ℕ → List CodedUnit
units_from programs i = flat_map (λ program. program.units) (drop i programs)

-- the units of program i stand first among those of the programs from i on
pub units_from_more : (programs : List ProgramRow) (i : ℕ) (program : ProgramRow) → i < length programs → program ≡ get_or programs i program
    → units_from programs i ≡ program.units ++ units_from programs (i + 1)
units_from_more programs i program lt is =
    ap (flat_map (λ (p : ProgramRow). p.units)) (drop_more programs i program lt) ∙ ap (λ (p : ProgramRow). p.units ++ units_from programs (i + 1)) (sym is)

-- none are left after the last program
pub units_from_all : (programs : List ProgramRow) (i : ℕ) → length programs ≤ i → units_from programs i ≡ []
units_from_all programs i all = ap (flat_map (λ (p : ProgramRow). p.units)) (drop_all i programs all)

-- the units of the first programs and one more
pub units_before_more : (programs : List ProgramRow) (i : ℕ) (program : ProgramRow) → i < length programs → program ≡ get_or programs i program
    → flat_map (λ p. p.units) (take (i + 1) programs) ≡ flat_map (λ p. p.units) (take i programs) ++ program.units
units_before_more programs i program lt is =
    rw (take_more programs i program lt, ← is, flat_map-append (λ (p : ProgramRow). p.units) (take i programs) (program ∷ []))
    (ap (λ (units : List CodedUnit). flat_map (λ (p : ProgramRow). p.units) (take i programs) ++ units) (append-nil program.units))

-- the units of the first programs are all units once no program is left
pub units_before_all : (table : Table) (programs : List ProgramRow) (i : ℕ) → programs ≡ table.programs → length programs ≤ i → flat_map (λ p. p.units) (take i programs) ≡ units_of table
units_before_all table programs i is all = ap (flat_map (λ (p : ProgramRow). p.units)) (take_all i programs all ∙ is)

pub enough_at : (R : CodedUnit → ℕ → Type 0) (programs : List ProgramRow) (i : ℕ) (program : ProgramRow) (choice : List ℕ) → i < length programs → program ≡ get_or programs i program
    → AllZip R (units_from programs i) choice → length program.units ≤ length choice
enough_at R programs i program choice lt is fits =
    enough_for R program.units (units_from programs (i + 1)) choice (subst (λ (whole : List CodedUnit). AllZip R whole choice) (units_from_more programs i program lt is) fits)

pub parts_at : (R : CodedUnit → ℕ → Type 0) (programs : List ProgramRow) (i : ℕ) (program : ProgramRow) (choice : List ℕ) → i < length programs → program ≡ get_or programs i program
    → AllZip R (units_from programs i) choice → (first : List CodedUnit) (n : ℕ) (front back : List ℕ) → first ≡ program.units → n ≡ length program.units → front ≡ take n choice → back ≡ drop n choice
    → InParts R (units_from programs i) first (units_from programs (i + 1)) choice front back
parts_at R programs i program choice lt is fits first n front back first-is long front-is back-is =
    let others = units_from programs (i + 1) in
    let e = units_from_more programs i program lt is in
    let parts = in_parts R program.units others choice (subst (λ (whole : List CodedUnit). AllZip R whole choice) e fits) in
    rw (e, first-is, front-is, back-is, long) parts

-- a choice costs at most what the units do
pub chosen-le-greatest : (units : List CodedUnit) (choice : List ℕ) → AllZip HasVersion units choice → sum (chosen_distortions units choice) ≤ sum_by greatest_distortion units
chosen-le-greatest [] [] fits = omega arith
chosen-le-greatest [] (k ∷ choice) fits = absurd fits
chosen-le-greatest (unit ∷ units) [] fits = absurd fits
chosen-le-greatest (unit ∷ units) (k ∷ choice) fits =
    omega (
      arith,
      version-le-greatest unit k fits.0,
      chosen-le-greatest units choice fits.1,
      sum_by-cons greatest_distortion unit units,
      sum_by-cons (λ x. x) (version_at unit k).distortion (chosen_distortions units choice),
    )

-- the distortion of a choice is a number of 63 bits
pub distortion_fits : (table : Table) (choice : List ℕ) → IsValidTable table → Fits table choice → distortion_of_choice table choice < 2 ^ 63
distortion_fits table choice valid fits = omega (arith, chosen-le-greatest (units_of table) choice fits, valid.distortions)

pub AllZip-append : (R : CodedUnit → ℕ → Type 0) (first others : List CodedUnit) (front back : List ℕ) → AllZip R first front → AllZip R others back → AllZip R (first ++ others) (front ++ back)
AllZip-append R [] others [] back f b = b
AllZip-append R [] others (k ∷ front) back f b = absurd f
AllZip-append R (unit ∷ first) others [] back f b = absurd f
AllZip-append R (unit ∷ first) others (k ∷ front) back f b = (f.0, AllZip-append R first others front back f.1 b)

pub AllZip-weaker : (R Q : CodedUnit → ℕ → Type 0) → ((unit : CodedUnit) (k : ℕ) → R unit k → Q unit k) → (units : List CodedUnit) (choice : List ℕ) → AllZip R units choice → AllZip Q units choice
AllZip-weaker R Q leads [] [] h = tt
AllZip-weaker R Q leads [] (k ∷ choice) h = absurd h
AllZip-weaker R Q leads (unit ∷ units) [] h = absurd h
AllZip-weaker R Q leads (unit ∷ units) (k ∷ choice) h = (leads unit k h.0, AllZip-weaker R Q leads units choice h.1)

-- the smallest versions are versions
pub smallest_fits : (table : Table) (choice : List ℕ) → IsSmallestChoice table choice → Fits table choice
smallest_fits table choice smallest = AllZip-weaker IsSmallestVersion HasVersion (λ unit k h. h.exists) (units_of table) choice smallest

levels_fit : (level : ℕ) (units : List CodedUnit) → All HasFewVersions units → AllZip HasVersion units (map (level_version level) units)
levels_fit level [] each = tt
levels_fit level (unit ∷ units) each =
    let here = All-head HasFewVersions unit units each in
    (omega (arith, here.0), levels_fit level units (All-tail HasFewVersions unit units each))

pub level_fits : (table : Table) (level : ℕ) → IsValidTable table → Fits table (level_choice table level)
level_fits table level valid = levels_fit level (units_of table) (few_versions table.slot (units_of table) (valid_units table valid))

-- one more number for one more unit
pub AppendsEach-more : (R : CodedUnit → ℕ → Type 0) (units : List CodedUnit) (i : ℕ) (unit : CodedUnit) (k : ℕ) (old new newer : List ℕ) → i < length units → unit ≡ get_or units i unit
    → AppendsEach R (take i units) old new → R unit k → newer ≡ new ++ k ∷ [] → AppendsEach R (take (i + 1) units) old newer
AppendsEach-more R units i unit k old new newer lt is so_far here appended = (
  so_far.0 ++ k ∷ [],
  appended ∙ ap (λ (numbers : List ℕ). numbers ++ k ∷ []) so_far.1 ∙ append_assoc old so_far.0 (k ∷ []),
  rw (take_more units i unit lt, ← is) (AllZip-append R (take i units) (unit ∷ []) so_far.0 (k ∷ []) so_far.2 (here, tt)),
)

-- numbers for one more program
pub AllZip-more : (R : CodedUnit → ℕ → Type 0) (programs : List ProgramRow) (i : ℕ) (program : ProgramRow) (units : List CodedUnit) (old new : List ℕ)
    → i < length programs → program ≡ get_or programs i program
    → units ≡ program.units → AllZip R (flat_map (λ p. p.units) (take i programs)) old → AppendsEach R units old new → AllZip R (flat_map (λ p. p.units) (take (i + 1) programs)) new
AllZip-more R programs i program units old new lt is units-is so_far added =
    let front = flat_map (λ (p : ProgramRow). p.units) (take i programs) in
    let both = AllZip-append R front units old added.0 so_far added.2 in
    subst (λ (numbers : List ℕ). AllZip R (flat_map (λ p. p.units) (take (i + 1) programs)) numbers) (sym added.1)
    (subst (λ (whole : List CodedUnit). AllZip R whole (old ++ added.0)) (ap (λ (us : List CodedUnit). front ++ us) units-is ∙ sym (units_before_more programs i program lt is)) both)

-- of two numbers of a smallest version neither goes before the other
smallest_version_is_one : (unit : CodedUnit) (j k : ℕ) → IsSmallestVersion unit j → IsSmallestVersion unit k → j ≡ k
smallest_version_is_one unit j k a b =
    elim (cases_eq j k) [
      | inl same ↦ same
      | inr other ↦
          let one = a.first k b.exists (λ e. other (sym e)) in
          let two = b.first j a.exists other in
          absurd (grind (arith, one, two))
    ]

smallest_are_one : (units : List CodedUnit) (a b : List ℕ) → AllZip IsSmallestVersion units a → AllZip IsSmallestVersion units b → a ≡ b
smallest_are_one [] [] [] f g = refl
smallest_are_one [] (j ∷ a) b f g = absurd f
smallest_are_one [] [] (k ∷ b) f g = absurd g
smallest_are_one (unit ∷ units) [] b f g = absurd f
smallest_are_one (unit ∷ units) (j ∷ a) [] f g = absurd g
smallest_are_one (unit ∷ units) (j ∷ a) (k ∷ b) f g =
    let head = smallest_version_is_one unit j k f.0 g.0 in
    let tail = smallest_are_one units a b f.1 g.1 in
    cc

pub smallest_is_one : (table : Table) (a b : List ℕ) → IsSmallestChoice table a → IsSmallestChoice table b → a ≡ b
smallest_is_one table a b = smallest_are_one (units_of table) a b

last_levels : (level : ℕ) (units : List CodedUnit) → VERSIONS_MOST - 1 ≤ level → All HasFewVersions units → map (level_version level) units ≡ map (level_version (VERSIONS_MOST - 1)) units
last_levels level [] high each = refl
last_levels level (unit ∷ units) high each =
    let here = All-head HasFewVersions unit units each in
    let head : level_version level unit ≡ level_version (VERSIONS_MOST - 1) unit = omega (arith, here.1) in
    let tail = last_levels level units high (All-tail HasFewVersions unit units each) in
    cc

-- no unit of a valid table has more versions
pub levels_end : (table : Table) (level : ℕ) → IsValidTable table → VERSIONS_MOST - 1 ≤ level → level_choice table level ≡ level_choice table (VERSIONS_MOST - 1)
levels_end table level valid high = last_levels level (units_of table) high (few_versions table.slot (units_of table) (valid_units table valid))
