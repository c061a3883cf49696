-- How many changes are left, and how many runs they want.
use Rattle.std.proofs.Common.{◌≡◌, ◌≢◌, ℕ, zero, suc, ◌+◌, ◌-◌, ◌*◌, ◌/◌, ◌<◌, ◌≤◌, min, cond, nat_le, List, [], ◌∷◌, length, take, get_or, set, sum, refl, ap, inl, inr, arith}
use Rattle.std.proofs.Math.Nat.{add-mul, div-mul-le_self, mul-le-mul_right}
use Rattle.std.specs.List.{AllZip, sum_by}
use Rattle.std.proofs.lemmas.Bool.{cases_lt}
use Rattle.std.proofs.lemmas.Bool.Decides.{nat_tests}
use Rattle.std.proofs.lemmas.List.{take_all}
use Rattle.std.proofs.lemmas.List.Sums.{sum_by-cons, sum_by_more}
use Rattle.version_table.specs.declared.table.Version.{Version}
use Rattle.version_table.specs.declared.table.Unit.{Unit as CodedUnit}
use Rattle.version_table.specs.declared.table.Table.{Table}
use Rattle.version_table.specs.Choice.{Fits, HasVersion, chosen_distortions, distortion_of_choice, version_at}
use Rattle.version_table.specs.Table.{units_of}
use Rattle.certificate_checker.specs.Shown.{versions_of}
use Rattle.certificate_checker.proofs.Units.{no_unit}
use Rattle.branch_plan.specs.Changes.{change_count}
use Rattle.branch_plan.specs.Private.Changes.{IsLesserAt, better_count, changes_before, changes_left, lesser_count}

-- ---- versions of less distortion
counts_more : (d a b : ℕ) → a ≤ b → cond (nat_le (suc d) a) 1 0 ≤ cond (nat_le (suc d) b) 1 0
counts_more d a b up = grind (arith, nat_tests)

counts_at_most : (d a : ℕ) → cond (nat_le (suc d) a) 1 0 ≤ 1
counts_at_most d a = grind (arith, nat_tests)

counts_none : (d a : ℕ) → a ≤ d → ◌≡◌ {A = ℕ} (cond (nat_le (suc d) a) 1 0) 0
counts_none d a none = grind (arith, nat_tests)

counts_one : (d a : ℕ) → d < a → ◌≡◌ {A = ℕ} (cond (nat_le (suc d) a) 1 0) 1
counts_one d a one = grind (arith, nat_tests)

lesser_more : (versions : List Version) (a b : ℕ) → a ≤ b → lesser_count a versions ≤ lesser_count b versions
lesser_more [] a b up = omega arith
lesser_more (version ∷ versions) a b up = omega (arith, counts_more version.distortion a b up, lesser_more versions a b up)

lesser_at_most : (versions : List Version) (a : ℕ) → lesser_count a versions ≤ length versions
lesser_at_most [] a = omega arith
lesser_at_most (version ∷ versions) a = omega (arith, counts_at_most version.distortion a, lesser_at_most versions a)

-- a version isn't of less distortion than itself
lesser_but_one : (versions : List Version) (k d : ℕ) → k < length versions → d ≡ (get_or versions k (record { bytes = 0; distortion = 0 })).distortion
    → lesser_count d versions + 1 ≤ length versions
lesser_but_one [] k d within is = absurd (omega (arith, within))
lesser_but_one (version ∷ versions) zero d within is = omega (arith, counts_none version.distortion d (omega (arith, is)), lesser_at_most versions d)
lesser_but_one (version ∷ versions) (suc k) d within is =
    omega (arith, counts_at_most version.distortion d, lesser_but_one versions k d (omega (arith, within)) is)

-- a version of less distortion has fewer below it
lesser_fall : (versions : List Version) (k d most : ℕ) → k < length versions → d ≡ (get_or versions k (record { bytes = 0; distortion = 0 })).distortion → d < most
    → lesser_count d versions + 1 ≤ lesser_count most versions
lesser_fall [] k d most within is less = absurd (omega (arith, within))
lesser_fall (version ∷ versions) zero d most within is less =
    let up : d ≤ most = omega (arith, less) in
    omega (arith, counts_none version.distortion d (omega (arith, is)), counts_one version.distortion most (omega (arith, is, less)), lesser_more versions d most up)
lesser_fall (version ∷ versions) (suc k) d most within is less =
    let up : d ≤ most = omega (arith, less) in
    omega (arith, counts_more version.distortion d most up, lesser_fall versions k d most (omega (arith, within)) is less)

-- ---- the changes of a choice
falls : (units : List CodedUnit) (choice : List ℕ) (place k : ℕ) → AllZip HasVersion units choice → place < length units → k < length (get_or units place no_unit).versions.items
    → (version_at (get_or units place no_unit) k).distortion < (version_at (get_or units place no_unit) (get_or choice place 0)).distortion
    → better_count units (set choice place k) + 1 ≤ better_count units choice
falls [] choice place k fits within there less = absurd (omega (arith, within))
falls (unit ∷ units) [] place k fits within there less = absurd fits
falls (unit ∷ units) (old ∷ choice) zero k fits within there less =
    omega (arith, lesser_fall unit.versions.items k (version_at unit k).distortion (version_at unit old).distortion there refl less)
falls (unit ∷ units) (old ∷ choice) (suc place) k fits within there less =
    omega (arith, falls units choice place k fits.1 (omega (arith, within)) there less)

pub fewer_left : (table : Table) (choice : List ℕ) (place k : ℕ) → Fits table choice → place < length (units_of table) → k < versions_of table place
    → IsLesserAt table choice place k → changes_left table (set choice place k) < changes_left table choice
unfolding changes_left
fewer_left table choice place k fits within there less = omega (arith, falls (units_of table) choice place k fits within there less)

sum_falls : (units : List CodedUnit) (choice : List ℕ) (place k : ℕ) → AllZip HasVersion units choice → place < length units
    → (version_at (get_or units place no_unit) k).distortion < (version_at (get_or units place no_unit) (get_or choice place 0)).distortion
    → sum (chosen_distortions units (set choice place k)) < sum (chosen_distortions units choice)
sum_falls [] choice place k fits within less = absurd (omega (arith, within))
sum_falls (unit ∷ units) [] place k fits within less = absurd fits
sum_falls (unit ∷ units) (old ∷ choice) zero k fits within less =
    let rest = chosen_distortions units choice in
    omega (arith, less, sum_by-cons (λ x. x) (version_at unit k).distortion rest, sum_by-cons (λ x. x) (version_at unit old).distortion rest)
sum_falls (unit ∷ units) (old ∷ choice) (suc place) k fits within less =
    let d = (version_at unit old).distortion in
    omega (
      arith,
      sum_falls units choice place k fits.1 (omega (arith, within)) less,
      sum_by-cons (λ x. x) d (chosen_distortions units (set choice place k)),
      sum_by-cons (λ x. x) d (chosen_distortions units choice),
    )

-- a version of less distortion makes the choice's less
pub less_in_all : (table : Table) (choice : List ℕ) (place k : ℕ) → Fits table choice → place < length (units_of table) → IsLesserAt table choice place k
    → distortion_of_choice table (set choice place k) < distortion_of_choice table choice
less_in_all table choice place k fits within less = sum_falls (units_of table) choice place k fits within less

all_left : (units : List CodedUnit) (choice : List ℕ) → AllZip HasVersion units choice → better_count units choice ≤ sum_by (λ unit. length unit.versions.items - 1) units
all_left [] choice fits = omega arith
all_left (unit ∷ units) [] fits = absurd fits
all_left (unit ∷ units) (k ∷ choice) fits =
    omega (
      arith,
      sum_by-cons (λ (u : CodedUnit). length u.versions.items - 1) unit units,
      all_left units choice fits.1,
      lesser_but_one unit.versions.items k (version_at unit k).distortion fits.0 refl,
    )

-- no choice has more changes left than the table has
pub left_at_most : (table : Table) (choice : List ℕ) → Fits table choice → changes_left table choice ≤ change_count table
unfolding changes_left
left_at_most table choice fits = all_left (units_of table) choice fits

-- ---- the changes of the first units
pub before_more : (table : Table) (place : ℕ) → place < length (units_of table) → changes_before table (place + 1) ≡ changes_before table place + (versions_of table place - 1)
unfolding changes_before
before_more table place within = sum_by_more (λ (u : CodedUnit). length u.versions.items - 1) (units_of table) place no_unit within

pub before_all : (table : Table) → changes_before table (length (units_of table)) ≡ change_count table
unfolding changes_before
before_all table = ap (sum_by (λ (u : CodedUnit). length u.versions.items - 1)) (take_all (length (units_of table)) (units_of table) (omega arith))

pub before_none : (table : Table) → changes_before table 0 ≡ 0
unfolding changes_before
before_none table = refl

rises : (units : List CodedUnit) (n m : ℕ) → n ≤ m → sum_by (λ unit. length unit.versions.items - 1) (take n units) ≤ sum_by (λ unit. length unit.versions.items - 1) (take m units)
rises units zero m up = omega arith
rises [] (suc n) m up = omega arith
rises (unit ∷ units) (suc n) zero up = absurd (omega (arith, up))
rises (unit ∷ units) (suc n) (suc m) up =
    let f : CodedUnit → ℕ = λ (u : CodedUnit). length u.versions.items - 1 in
    omega (arith, sum_by-cons f unit (take n units), sum_by-cons f unit (take m units), rises units n m (omega (arith, up)))

pub before_rises : (table : Table) (n m : ℕ) → n ≤ m → changes_before table n ≤ changes_before table m
unfolding changes_before
before_rises table n m up = rises (units_of table) n m up

-- ---- the runs of one unit, of whose versions the chosen one isn't tried
pub one_more_run : (left rest k chosen count before next : ℕ) → left + min 1 (k - chosen) ≤ rest + k → k ≢ chosen → k < count → chosen < count → next ≡ before + (count - 1)
    → left + before + 1 ≤ rest + next
one_more_run left rest k chosen count before next used other within there is = omega (arith, used, other, within, there, is)

pub all_runs : (left rest k chosen count before next : ℕ) → left + min 1 (k - chosen) ≤ rest + k → k ≡ count → chosen < count → next ≡ before + (count - 1)
    → left + before ≤ rest + next
all_runs left rest k chosen count before next used all there is = omega (arith, used, all, there, is)

-- ---- what rounds of at most M runs come to
-- a round of at most M runs has lowered a number by one at least
pub one_round : (evaluations left rest best better most M : ℕ) → evaluations + best * M ≤ left + most → left ≤ rest + M → better < best → evaluations + better * M ≤ rest + most
one_round evaluations left rest best better most M so_far used less =
    let fall : (better + 1) * M ≤ best * M = mul-le-mul_right M (omega (arith, less)) in
    omega (arith, so_far, used, fall, add-mul better 1 M)

-- with fewer than M runs left, each whole round has lowered the number
pub by_rounds : (evaluations left best start M : ℕ) → M ≢ 0 → evaluations + best * M ≤ left + start * M → left < M → best + evaluations / M ≤ start
by_rounds evaluations left best start M some so_far few =
    elim (cases_lt start (best + evaluations / M)) as (λ _. best + evaluations / M ≤ start) [
      | inl more ↦
          let up : (start + 1) * M ≤ (best + evaluations / M) * M = mul-le-mul_right M (omega (arith, more)) in
          absurd (omega (arith, so_far, few, up, add-mul start 1 M, add-mul best (evaluations / M) M, div-mul-le_self evaluations M))
      | inr same ↦ omega (arith, same)
    ]

-- with runs enough for a round behind each change that can help, some are left
pub never_spent : (evaluations left count M : ℕ) → evaluations + count * M ≤ left + M * M → left < M → 1 + (M + 1) * M ≤ evaluations → ⊥
never_spent evaluations left count M so_far few enough = omega (arith, so_far, few, enough, add-mul M 1 M)

pub never_at_end : (evaluations left count M : ℕ) → evaluations + count * M ≤ left + M * M → left ≡ 0 → 1 + (M + 1) * M ≤ evaluations → ⊥
never_at_end evaluations left count M so_far none enough = omega (arith, so_far, none, enough, add-mul M 1 M)

pub first_left : (evaluations count M : ℕ) → count ≤ M → evaluations + count * M ≤ evaluations + M * M
first_left evaluations count M few = omega (arith, mul-le-mul_right M few)
