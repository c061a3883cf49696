-- What the windows of a leaf bound, they bound of its children: windows that see the buffers where each version of the unit fits.
use Rattle.std.proofs.Common.{◌≡◌, ℕ, zero, suc, ◌*◌, ◌<◌, ◌≤◌, Bool, true, false, if◌then◌else◌, nat_le, nat_lt, List, [], ◌∷◌, length, map, filter, get_or, Option, Some, None, refl, sym, ap, subst, inl, inr, lt-ltb, arith, ℤ, pos, negsuc, ◌≤ℤ◌}
use Rattle.std.specs.List.{AllZip, list_all, zip}
use Rattle.std.proofs.lemmas.Bool.{and_from, and_parts, cases_Bool}
use Rattle.std.proofs.lemmas.Int.{ints}
use Rattle.std.proofs.lemmas.List.{get_or-map, length-map}
use Rattle.std.proofs.lemmas.List.Sums.{sum_by-cons}
use Rattle.std.proofs.Math.Nat.{mul-le-mul_left}
use Rattle.std.proofs.lemmas.Nat.{mul-le}
use Rattle.stream_constants.specs.declared.decoder.TheConstants.{EB_UNIT_BYTES}
use Rattle.version_table.specs.declared.limits.TheConstants.{NODES_MOST}
use Rattle.version_table.specs.declared.table.Table.{Table}
use Rattle.version_table.specs.declared.table.Unit.{Unit as CodedUnit}
use Rattle.version_table.specs.declared.table.Version.{Version}
use Rattle.version_table.specs.Choice.{least}
use Rattle.version_table.specs.Table.{units_of}
use Rattle.version_table.proofs.Least.{least-le}
use Rattle.dual_bounds.specs.declared.constants.TheConstants.{WINDOWS_MOST}
use Rattle.dual_bounds.specs.declared.windows.Window.{Window as PricedWindow}
use Rattle.dual_bounds.specs.Bounds.{bound_of_value}
use Rattle.dual_bounds.specs.Fixed.{FixesVersions, KeepsFixed, NamesVersion}
use Rattle.dual_bounds.specs.Values.{value_of_windows}
use Rattle.dual_bounds.proofs.ValueLaws.{bounds_rise, fixing_more}
use Rattle.buffer_windows.specs.declared.windows.BufferWindow.{BufferWindow as SeeingWindow}
use Rattle.buffer_windows.specs.Bounds.{bound_of_buffer_windows, bound_of_byte_value, each_has_left}
use Rattle.buffer_windows.specs.Charges.{OwnedUnit, owned_units}
use Rattle.buffer_windows.specs.Values.{least_owned_cost, least_owned_costs, value_of_buffer_windows, version_cost, versions_left}
use Rattle.bound_certificate.specs.declared.cert.Node.{Node}
use Rattle.bound_certificate.specs.declared.cert.Node.TheVariants.{Branch, Dual, Run, Open, Window, BufferWindow}
use Rattle.certificate_checker.specs.Faults.{IsFree}
use Rattle.certificate_checker.specs.Shown.{fix, unfixed, versions_of, windows_in}
use Rattle.branch_plan.specs.declared.found.Found.{Found}
use Rattle.branch_plan.specs.Bound.{unit_fits}
use Rattle.branch_plan.specs.Private.Found.{AreShared, IsReached, IsReachedAbove, buffer_windows_in, buffers_of, time_of}
use Rattle.multiplier_search.specs.Buffered.{AreSearchedBuffered}
use Rattle.multiplier_search.specs.Windows.{AreSearched}
use Rattle.branch_plan.specs.Private.Leaves.{IsFreeUnit, MayBranch}
use Rattle.branch_plan.proofs.Owned.{no_owned, owned_count, versions_are}

-- ---- what units cost in windows that see the buffers
-- each version of a unit fits its program's elementary buffer
abbrev each_fits : OwnedUnit → Bool
each_fits owned = list_all (λ (version : Version). nat_le version.bytes (EB_UNIT_BYTES * owned.vbv)) owned.unit.versions.items

filter_all : (test : Version → Bool) (xs : List Version) → list_all test xs ≡ true → filter test xs ≡ xs
filter_all test [] all = refl
filter_all test (x ∷ xs) all =
    let both = and_parts (test x) (list_all test xs) all in
    rw both.0 (ap (λ (rest : List Version). x ∷ rest) (filter_all test xs both.1))

-- a version costs no less than the least of all
fixed_cost : (slot : ℕ) (windows : List SeeingWindow) (owned : OwnedUnit) (k : ℕ) → each_fits owned ≡ true → k < length owned.unit.versions.items
    → least_owned_cost slot windows owned None ≤ least_owned_cost slot windows owned (Some k)
unfolding least_owned_cost
fixed_cost slot windows owned k fits low =
    let versions = owned.unit.versions.items in
    let cost = version_cost slot windows owned in
    let same = ap (λ (vs : List Version). least (map cost vs)) (filter_all (λ (version : Version). nat_le version.bytes (EB_UNIT_BYTES * owned.vbv)) versions fits) in
    let at = get_or-map cost versions k (record { bytes = 0; distortion = 0 }) 0 low in
    omega (arith, same, at, least-le (map cost versions) k (omega (arith, low, length-map versions cost)))

fixed_costs : (slot : ℕ) (windows : List SeeingWindow) (units : List OwnedUnit) (fixed : List (Option ℕ)) (u k : ℕ) → IsFree fixed u → u < length units
    → each_fits (get_or units u no_owned) ≡ true → k < length (get_or units u no_owned).unit.versions.items
    → least_owned_costs slot windows units fixed ≤ least_owned_costs slot windows units (fix u k fixed)
unfolding least_owned_costs
fixed_costs slot windows [] fixed u k free within fits low = absurd (omega (arith, within))
fixed_costs slot windows (owned ∷ units) [] u k free within fits low = omega arith
fixed_costs slot windows (owned ∷ units) (None ∷ fixed) zero k free within fits low =
    let own : OwnedUnit × Option ℕ → ℕ = λ (unit, entry). least_owned_cost slot windows unit entry in
    omega (arith, sum_by-cons own (owned, None) (zip units fixed), sum_by-cons own (owned, Some k) (zip units fixed), fixed_cost slot windows owned k fits low)
fixed_costs slot windows (owned ∷ units) (Some n ∷ fixed) zero k free within fits low = absurd (grind (arith, free))
fixed_costs slot windows (owned ∷ units) (entry ∷ fixed) (suc u) k free within fits low =
    let own : OwnedUnit × Option ℕ → ℕ = λ (unit, entry). least_owned_cost slot windows unit entry in
    omega (
      arith,
      sum_by-cons own (owned, entry) (zip units fixed),
      sum_by-cons own (owned, entry) (zip units (fix u k fixed)),
      fixed_costs slot windows units fixed u k free (omega (arith, within)) fits low,
    )

abbrev has_left : OwnedUnit × Option ℕ → Bool
has_left (owned, entry) = nat_lt 0 (length (versions_left owned entry))

pub fixed_left : (units : List OwnedUnit) (fixed : List (Option ℕ)) (u k : ℕ) → list_all has_left (zip units fixed) ≡ true → list_all has_left (zip units (fix u k fixed)) ≡ true
fixed_left [] fixed u k all = refl
fixed_left (owned ∷ units) [] u k all = refl
fixed_left (owned ∷ units) (entry ∷ fixed) zero k all =
    and_from (has_left (owned, Some k)) (list_all has_left (zip units fixed)) (lt-ltb 0 1 (omega arith)) (and_parts (has_left (owned, entry)) (list_all has_left (zip units fixed)) all).1
fixed_left (owned ∷ units) (entry ∷ fixed) (suc u) k all =
    let both = and_parts (has_left (owned, entry)) (list_all has_left (zip units fixed)) all in
    and_from (has_left (owned, entry)) (list_all has_left (zip units (fix u k fixed))) both.0 (fixed_left units fixed u k both.1)

-- ---- their bounds
byte_bounds_rise : (value greater : ℤ) → value ≤ℤ greater → bound_of_byte_value value ≤ bound_of_byte_value greater
byte_bounds_rise (pos value) (pos greater) less =
    let low : value ≤ greater = omega (arith, ints, less) in
    omega (arith, low)
byte_bounds_rise (pos value) (negsuc n) less = absurd (omega (arith, ints, less))
byte_bounds_rise (negsuc n) greater less = omega arith

some_where : (test : Bool) (is : Option ℕ) (b : ℕ) → (if test then is else None) ≡ Some b → (test ≡ true) × (is ≡ Some b)
some_where true is b same = (refl, same)
some_where false is b same = absurd (grind (arith, same))

pub some_is : (n b : ℕ) → Some n ≡ Some b → n ≡ b
some_is n b same = grind (arith, same)

values_rise : (table : Table) (windows : List SeeingWindow) (fixed : List (Option ℕ)) (unit k : ℕ) → IsFree fixed unit → unit < length (units_of table) → unit_fits table unit ≡ true
    → k < versions_of table unit → value_of_buffer_windows table fixed windows ≤ℤ value_of_buffer_windows table (fix unit k fixed) windows
unfolding value_of_buffer_windows unit_fits
values_rise table windows fixed unit k free within fits low =
    let costs = fixed_costs table.slot windows (owned_units table) fixed unit k free (omega (arith, within, owned_count table)) fits (omega (arith, low, versions_are table unit within)) in
    omega (arith, ints, costs)

seen_child : (table : Table) (windows : List SeeingWindow) (fixed : List (Option ℕ)) (unit k bound : ℕ) → IsFree fixed unit → unit < length (units_of table) → unit_fits table unit ≡ true
    → k < versions_of table unit → bound_of_buffer_windows table fixed windows ≡ Some bound
    → (other : ℕ) × (bound_of_buffer_windows table (fix unit k fixed) windows ≡ Some other) × (bound ≤ other)
unfolding bound_of_buffer_windows
seen_child table windows fixed unit k bound free within fits low is =
    let now = fix unit k fixed in
    let had = some_where (each_has_left table fixed) (Some (bound_of_byte_value (value_of_buffer_windows table fixed windows))) bound is in
    let left : each_has_left table now ≡ true = fixed_left (owned_units table) fixed unit k had.0 in
    let value = some_is (bound_of_byte_value (value_of_buffer_windows table fixed windows)) bound had.1 in
    let rise = byte_bounds_rise (value_of_buffer_windows table fixed windows) (value_of_buffer_windows table now windows) (values_rise table windows fixed unit k free within fits low) in (
      bound_of_byte_value (value_of_buffer_windows table now windows),
      ap (λ (b : Bool). if b then Some (bound_of_byte_value (value_of_buffer_windows table now windows)) else None) left,
      omega (arith, value, rise),
    )

-- ---- windows of time
keeps_all : (entries : List (Option ℕ)) → AllZip KeepsFixed entries entries
keeps_all [] = tt
keeps_all (None ∷ entries) = (tt, keeps_all entries)
keeps_all (Some n ∷ entries) = (refl, keeps_all entries)

keeps_free : (fixed : List (Option ℕ)) (unit k : ℕ) → IsFree fixed unit → AllZip KeepsFixed fixed (fix unit k fixed)
keeps_free [] unit k free = tt
keeps_free (None ∷ fixed) zero k free = (tt, keeps_all fixed)
keeps_free (Some n ∷ fixed) zero k free = absurd (grind (arith, free))
keeps_free (None ∷ fixed) (suc unit) k free = (tt, keeps_free fixed unit k free)
keeps_free (Some n ∷ fixed) (suc unit) k free = (refl, keeps_free fixed unit k free)

keeps_none : (units : List CodedUnit) (fixed : List (Option ℕ)) → AllZip NamesVersion units fixed → AllZip KeepsFixed (map (λ unit. None) units) fixed
keeps_none [] [] names = tt
keeps_none [] (entry ∷ fixed) names = absurd names
keeps_none (unit ∷ units) [] names = absurd names
keeps_none (unit ∷ units) (entry ∷ fixed) names = (tt, keeps_none units fixed names.1)

-- fixing more, and greater windows, give no lesser bound
child_value : (table : Table) (windows own : List PricedWindow) (fixed : List (Option ℕ)) (unit k : ℕ) → IsFree fixed unit → FixesVersions table (fix unit k fixed)
    → value_of_windows table (fix unit k fixed) windows ≤ℤ value_of_windows table (fix unit k fixed) own
    → bound_of_value (value_of_windows table fixed windows) ≤ bound_of_value (value_of_windows table (fix unit k fixed) own)
child_value table windows own fixed unit k free fixes greater =
    let first = bounds_rise (value_of_windows table fixed windows) (value_of_windows table (fix unit k fixed) windows)
    (fixing_more table fixed (fix unit k fixed) windows fixes (keeps_free fixed unit k free)) in
    let second = bounds_rise (value_of_windows table (fix unit k fixed) windows) (value_of_windows table (fix unit k fixed) own) greater in
    omega (arith, first, second)

-- ---- a leaf and its children
pub reached_child : (table : Table) (fixed now : List (Option ℕ)) (unit k : ℕ) (windows own : List PricedWindow) (buffers : List SeeingWindow) (floor : ℕ)
    → IsFreeUnit table fixed unit → k < versions_of table unit → now ≡ fix unit k fixed → FixesVersions table now → value_of_windows table now windows ≤ℤ value_of_windows table now own
    → IsReachedAbove table fixed unit windows buffers floor → IsReached table now own buffers floor
reached_child table fixed now unit k windows own buffers floor free low now_is fixes greater reached =
    subst (λ (f : List (Option ℕ)). IsReached table f own buffers floor) (sym now_is) (by_kind reached)
  where
    by_kind : IsReachedAbove table fixed unit windows buffers floor → IsReached table (fix unit k fixed) own buffers floor
    by_kind (inl low_enough) =
        let value = child_value table windows own fixed unit k free.1 (subst (λ (f : List (Option ℕ)). FixesVersions table f) now_is fixes)
        (subst (λ (f : List (Option ℕ)). value_of_windows table f windows ≤ℤ value_of_windows table f own) now_is greater) in
        inl (omega (arith, low_enough, value))
    by_kind (inr (fits, (bound, is, low_enough))) =
        let child = seen_child table buffers fixed unit k bound free.1 free.0 fits low is in
        inr (child.0, child.1, omega (arith, low_enough, child.2))

-- what a leaf's bound says of its windows
pub reached_above : (table : Table) (fixed : List (Option ℕ)) (unit : ℕ) (node : Node) (found : Found) (bound root floor time : ℕ) → FixesVersions table fixed
    → MayBranch table fixed node bound → root ≤ bound → floor ≤ root → time ≡ bound_of_value (value_of_windows table (unfixed table) found.time.items)
    → (unit_fits table unit ≡ false → floor ≡ time) → IsReachedAbove table fixed unit (time_of node found.time.items) (buffers_of node found.buffers) floor
reached_above table fixed unit (Branch other) found bound root floor time fixes may above below time_is misfit = absurd may.has
reached_above table fixed unit (Dual priced) found bound root floor time fixes may above below time_is misfit = absurd may.has
reached_above table fixed unit (Run scheduled) found bound root floor time fixes may above below time_is misfit = absurd may.has
reached_above table fixed unit Open found bound root floor time fixes may above below time_is misfit = absurd may.has
reached_above table fixed unit (Window priced) found bound root floor time fixes may above below time_is misfit =
    inl (omega (arith, above, below, some_is (bound_of_value (value_of_windows table fixed priced.items)) bound may.bound_is))
reached_above table fixed unit (BufferWindow priced) found bound root floor time fixes may above below time_is misfit =
    elim (cases_Bool (unit_fits table unit)) as (λ _. IsReachedAbove table fixed unit found.time.items priced floor) [
      | inl fits ↦ inr (fits, (bound, may.bound_is, omega (arith, above, below)))
      | inr not ↦
          let value = bounds_rise (value_of_windows table (unfixed table) found.time.items) (value_of_windows table fixed found.time.items)
          (fixing_more table (unfixed table) fixed found.time.items fixes (keeps_none (units_of table) fixed fixes)) in
          inl (omega (arith, misfit not, time_is, value))
    ]

pub time_searched : (node : Node) (others : List PricedWindow) → AreSearched (windows_in node) → AreSearched others → AreSearched (time_of node others)
time_searched (Branch unit) others own rest = rest
time_searched (Dual priced) others own rest = rest
time_searched (Run scheduled) others own rest = rest
time_searched Open others own rest = rest
time_searched (Window priced) others own rest = own
time_searched (BufferWindow priced) others own rest = rest

pub time_few : (table : Table) (most : ℕ) (node : Node) (others : List PricedWindow) → AreShared table most (length (windows_in node)) → AreShared table most (length others)
    → AreShared table most (length (time_of node others))
time_few table most (Branch unit) others own rest = rest
time_few table most (Dual priced) others own rest = rest
time_few table most (Run scheduled) others own rest = rest
time_few table most Open others own rest = rest
time_few table most (Window priced) others own rest = own
time_few table most (BufferWindow priced) others own rest = rest

pub buffers_searched : (table : Table) (node : Node) (others : List SeeingWindow) → AreSearchedBuffered table (buffer_windows_in node) → AreSearchedBuffered table others
    → AreSearchedBuffered table (buffers_of node others)
buffers_searched table (Branch unit) others own rest = rest
buffers_searched table (Dual priced) others own rest = rest
buffers_searched table (Run scheduled) others own rest = rest
buffers_searched table Open others own rest = rest
buffers_searched table (Window priced) others own rest = rest
buffers_searched table (BufferWindow priced) others own rest = own

-- fewer windows have as much room
pub fewer_shared : (table : Table) (most count more : ℕ) → count ≤ more → AreShared table most more → AreShared table most count
fewer_shared table most count more less shared enough = omega (arith, mul-le-mul_left most less, shared enough)

-- the windows of a root are few, those of a relaxation where each leaf may have as many, and else two
pub root_few : (table : Table) (most count : ℕ) (relaxes : Bool) → most ≤ NODES_MOST → (relaxes ≡ true → AreShared table most WINDOWS_MOST) → count ≤ WINDOWS_MOST
    → (relaxes ≡ false → count ≤ 2) → AreShared table most count
root_few table most count true limit shared within few enough = fewer_shared table most count WINDOWS_MOST within (shared refl) enough
root_few table most count false limit shared within few enough = omega (arith, mul-le most count 1048576 2 limit (few refl))
