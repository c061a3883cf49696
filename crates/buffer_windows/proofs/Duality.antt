-- Weak duality: no scheduled choice has less distortion than the bound of some windows' value.
use Rattle.std.proofs.Common.{◌≡◌, ℕ, zero, suc, ◌+◌, ◌*◌, ◌<◌, ◌≤◌, Bool, true, nat_le, nat_lt, List, [], ◌∷◌, ◌++◌, length, map, filter, get_or, fold, sum, sum_by, Option, Some, None, refl, sym, ap, ◌∙◌, inl, inr, lt-ltb, mul-add, mul-zero, mul-le-mul_left, arith, ℤ, pos, negsuc, ◌+ℤ◌, ◌*ℤ◌, ◌≤ℤ◌}
use lib.IntN.{pos-*ℤ-pos}
use Rattle.std.specs.List.{AllZip, list_all, zip}
use Rattle.std.proofs.lemmas.Bool.{cases_Bool, and_from, le-leb, false≢true}
use Rattle.std.proofs.lemmas.Int.{ints}
use Rattle.std.proofs.lemmas.List.{get_or-map, length-map}
use Rattle.std.proofs.lemmas.List.Sums.{sum_by-cons}
use Rattle.version_table.specs.declared.table.ProgramRow.{ProgramRow}
use Rattle.version_table.specs.declared.table.Table.{Table}
use Rattle.version_table.specs.declared.table.Unit.{Unit as CodedUnit}
use Rattle.version_table.specs.declared.table.Version.{Version}
use Rattle.version_table.specs.Choice.{Fits, HasVersion, chosen_distortions, distortion_of_choice, least, version_at}
use Rattle.version_table.specs.Table.{IsValidTable}
use Rattle.version_table.proofs.Least.{least-le}
use Rattle.stream_constants.specs.declared.decoder.TheConstants.{EB_UNIT_BYTES}
use Rattle.slot_rule.specs.Schedule.{IsScheduled}
use Rattle.slot_rule.proofs.RuleQueues.{units_in}
use Rattle.dual_bounds.specs.Fixed.{Takes, TakesFixed}
use Rattle.buffer_windows.specs.declared.windows.BufferWindow.{BufferWindow}
use Rattle.buffer_windows.specs.Bounds.{IsBoundOrNone, bound_of_byte_value as bound_of_value, bound_of_buffer_windows as bound_of_windows}
use Rattle.buffer_windows.specs.Charges.{FitsBuffer, OwnedUnit, owned_from, owned_units}
use Rattle.buffer_windows.specs.Room.{buffer_room as room}
use Rattle.buffer_windows.specs.Values.{byte_parts, version_cost as cost, least_owned_cost as least_cost, least_owned_costs as least_costs, version_price as price, value_of_buffer_windows as value_of_windows, versions_left, buffer_worth as worth}
use Rattle.buffer_windows.proofs.VersionsFit.{versions_fit}
use Rattle.buffer_windows.proofs.Weights.{own, unit_charged}
use Rattle.buffer_windows.proofs.WindowLaw.{windows_hold}
use Rattle.dual_bounds.proofs.Charges.{fold-from}

-- a unit with the number of its version
abbrev Chosen : Type 0
Chosen = OwnedUnit × ℕ

-- ---- a unit costs at least its least cost
-- what passes stays in the list, and the least of the list is no more
least-filter : (test : Version → Bool) (own : Version → ℕ) (versions : List Version) (k : ℕ) (d : Version) → k < length versions → test (get_or versions k d) ≡ true
    → (0 < length (filter test versions)) × (least (map own (filter test versions)) ≤ own (get_or versions k d))
least-filter test own versions k d within passes =
    let place = stands test versions k d within passes in
    let at : get_or (map own (filter test versions)) place.0 0 ≡ own (get_or (filter test versions) place.0 d) = get_or-map own (filter test versions) place.0 d 0 place.1 in
    let is : own (get_or (filter test versions) place.0 d) ≡ own (get_or versions k d) = ap own place.2 in (
      omega (arith, place.1),
      omega (arith, at, is, least-le (map own (filter test versions)) place.0 (omega (arith, place.1, length-map (filter test versions) own))),
    )
  where
    stands : (test : Version → Bool) (versions : List Version) (k : ℕ) (d : Version) → k < length versions → test (get_or versions k d) ≡ true
        → (j : ℕ) × (j < length (filter test versions)) × (get_or (filter test versions) j d ≡ get_or versions k d)
    stands test [] k d within passes = absurd (omega arith)
    stands test (version ∷ versions) zero d within passes = rw passes (0, omega arith, refl)
    stands test (version ∷ versions) (suc k) d within passes =
        let later = stands test versions k d (omega arith) passes in
        elim (cases_Bool (test version)) as (λ _. (j : ℕ) × (j < length (filter test (version ∷ versions))) × (get_or (filter test (version ∷ versions)) j d ≡ get_or versions k d)) [
          | inl yes_is ↦ rw yes_is (suc later.0, omega (arith, later.1), later.2)
          | inr no_is ↦ rw no_is later
        ]

-- the version that is chosen is left, and costs no less than the least
unit_cost-le : (slot : ℕ) (windows : List BufferWindow) (owned : OwnedUnit) (fixed : Option ℕ) (k : ℕ) → HasVersion owned.unit k → Takes fixed k → FitsBuffer owned k
    → (0 < length (versions_left owned fixed)) × (least_cost slot windows owned fixed ≤ cost slot windows owned (version_at owned.unit k))
unfolding least_cost
unit_cost-le slot windows owned None k has takes small =
    least-filter (λ version. nat_le version.bytes (EB_UNIT_BYTES * owned.vbv)) (cost slot windows owned) owned.unit.versions.items k (record { bytes = 0; distortion = 0 }) has
    (le-leb (version_at owned.unit k).bytes (EB_UNIT_BYTES * owned.vbv) small)
unit_cost-le slot windows owned (Some fixed) k has takes small = (omega arith, omega (arith, ap (λ j. cost slot windows owned (version_at owned.unit j)) takes))

-- what the versions of some units are charged by all windows
abbrev charged : (slot : ℕ) → List BufferWindow → Chosen → ℕ
charged slot windows chosen = price slot windows chosen.0 (version_at chosen.0.unit chosen.1)

-- the distortion of a unit in its version
abbrev distortion_at : Chosen → ℕ
distortion_at chosen = (version_at chosen.0.unit chosen.1).distortion

-- each unit has a version left
abbrev pub has_left : OwnedUnit × Option ℕ → Bool
has_left (owned, entry) = nat_lt 0 (length (versions_left owned entry))

costs_le : (slot : ℕ) (windows : List BufferWindow) (units : List OwnedUnit) (fixed : List (Option ℕ)) (choice : List ℕ)
    → AllZip (λ owned k. HasVersion owned.unit k) units choice → AllZip Takes fixed choice → AllZip FitsBuffer units choice
    → (list_all has_left (zip units fixed) ≡ true)
    × (least_costs slot windows units fixed ≤ byte_parts * sum_by distortion_at (zip units choice) + sum_by (charged slot windows) (zip units choice))
unfolding least_costs
costs_le slot windows [] fixed choice fits takes small = (refl, omega arith)
costs_le slot windows (owned ∷ units) fixed [] fits takes small = absurd fits
costs_le slot windows (owned ∷ units) [] (k ∷ choice) fits takes small = absurd takes
costs_le slot windows (owned ∷ units) (entry ∷ fixed) (k ∷ choice) fits takes small =
    let here = unit_cost-le slot windows owned entry k fits.0 takes.0 small.0 in
    let rest = costs_le slot windows units fixed choice fits.1 takes.1 small.1 in (
      and_from (has_left (owned, entry)) (list_all has_left (zip units fixed)) (lt-ltb 0 (length (versions_left owned entry)) here.0) rest.0,
      omega (
        arith,
        sum_by-cons (λ (x : OwnedUnit × Option ℕ). least_cost slot windows x.0 x.1) (owned, entry) (zip units fixed),
        sum_by-cons distortion_at (owned, k) (zip units choice),
        sum_by-cons (charged slot windows) (owned, k) (zip units choice),
        here.1,
        rest.1,
      ),
    )

-- ---- the same units without their programs
-- where what holds of the later programs is given
row_distortions : (program : ℕ) (row : ProgramRow) (others : List OwnedUnit) (more : List CodedUnit)
    → ((part : List ℕ) → sum_by distortion_at (zip others part) ≡ sum (chosen_distortions more part)) → (units : List CodedUnit) (part : List ℕ)
    → sum_by distortion_at (zip (map (own program row.vbv) units ++ others) part) ≡ sum (chosen_distortions (units ++ more) part)
row_distortions program row others more later [] part = later part
row_distortions program row others more later (unit ∷ units) [] = refl
row_distortions program row others more later (unit ∷ units) (k ∷ part) =
    omega (
      arith,
      sum_by-cons distortion_at (own program row.vbv unit, k) (zip (map (own program row.vbv) units ++ others) part),
      sum_by-cons (λ x. x) (version_at unit k).distortion (chosen_distortions (units ++ more) part),
      row_distortions program row others more later units part,
    )

owned_distortions : (program : ℕ) (programs : List ProgramRow) (choice : List ℕ) → sum_by distortion_at (zip (owned_from program programs) choice) ≡ sum (chosen_distortions (units_in programs) choice)
owned_distortions program [] choice = refl
owned_distortions program (row ∷ programs) choice =
    row_distortions program row (owned_from (program + 1) programs) (units_in programs) (λ part. owned_distortions (program + 1) programs part) row.units choice

-- the choice has a version of each unit
abbrev HasOwn : OwnedUnit → ℕ → Type 0
HasOwn owned k = HasVersion owned.unit k

row_fits : (program : ℕ) (row : ProgramRow) (others : List OwnedUnit) (more : List CodedUnit) → ((part : List ℕ) → AllZip HasVersion more part → AllZip HasOwn others part)
    → (units : List CodedUnit) (part : List ℕ) → AllZip HasVersion (units ++ more) part → AllZip HasOwn (map (own program row.vbv) units ++ others) part
row_fits program row others more later [] part fits = later part fits
row_fits program row others more later (unit ∷ units) [] fits = absurd fits
row_fits program row others more later (unit ∷ units) (k ∷ part) fits = (fits.0, row_fits program row others more later units part fits.1)

owned_fits : (program : ℕ) (programs : List ProgramRow) (choice : List ℕ) → AllZip HasVersion (units_in programs) choice → AllZip HasOwn (owned_from program programs) choice
owned_fits program [] [] fits = tt
owned_fits program [] (k ∷ choice) fits = absurd fits
owned_fits program (row ∷ programs) choice fits =
    row_fits program row (owned_from (program + 1) programs) (units_in programs) (λ part fits'. owned_fits (program + 1) programs part fits') row.units choice fits

-- ---- charges unit by unit are charges window by window
charged-none : (slot : ℕ) (chosen : List Chosen) → sum_by (charged slot []) chosen ≡ 0
unfolding price
charged-none slot [] = refl
charged-none slot (one ∷ chosen) = omega (arith, sum_by-cons (charged slot []) one chosen, charged-none slot chosen)

charged-more : (slot : ℕ) (window : BufferWindow) (windows : List BufferWindow) (chosen : List Chosen)
    → sum_by (charged slot (window ∷ windows)) chosen ≡ window.lambda * sum_by (unit_charged slot window) chosen + sum_by (charged slot windows) chosen
unfolding price
charged-more slot window windows [] = omega (arith, mul-zero window.lambda)
charged-more slot window windows (one ∷ chosen) =
    let version = version_at one.0.unit one.1 in
    let priced : BufferWindow → ℕ = λ (w : BufferWindow). w.lambda * unit_charged slot w one in
    let here : charged slot (window ∷ windows) one ≡ window.lambda * unit_charged slot window one + charged slot windows one =
    sum_by-cons (λ (w : BufferWindow). w.lambda * unit_charged slot w one) window windows in
    let split : window.lambda * sum_by (unit_charged slot window) (one ∷ chosen) ≡ window.lambda * unit_charged slot window one + window.lambda * sum_by (unit_charged slot window) chosen =
    ap (λ n. window.lambda * n) (sum_by-cons (unit_charged slot window) one chosen) ∙ mul-add window.lambda (unit_charged slot window one) (sum_by (unit_charged slot window) chosen) in
    omega (
      arith,
      sum_by-cons (charged slot (window ∷ windows)) one chosen,
      sum_by-cons (charged slot windows) one chosen,
      here,
      split,
      charged-more slot window windows chosen,
    )

-- ---- the worth of the windows' room, window by window
pub worth-more : (table : Table) (window : BufferWindow) (windows : List BufferWindow) → worth table (window ∷ windows) ≡ pos window.lambda *ℤ room table window +ℤ worth table windows
unfolding worth
worth-more table window windows =
    let own_worth = pos window.lambda *ℤ room table window in
    let rest = map (λ (w : BufferWindow). pos w.lambda *ℤ room table w) windows in
    let first : fold ◌+ℤ◌ (pos 0 +ℤ own_worth) rest ≡ (pos 0 +ℤ own_worth) +ℤ fold ◌+ℤ◌ (pos 0) rest = fold-from (pos 0 +ℤ own_worth) rest in
    omega (arith, ints)

scaled : (lambda bytes : ℕ) (given : ℤ) → pos bytes ≤ℤ given → pos (lambda * bytes) ≤ℤ (pos lambda *ℤ given)
scaled lambda bytes (pos given) fits =
    let most : bytes ≤ given = omega (arith, ints) in
    let more : lambda * bytes ≤ lambda * given = mul-le-mul_left lambda most in
    rw (pos-*ℤ-pos lambda given) (omega (arith, ints))
scaled lambda bytes (negsuc n) fits = absurd (omega (arith, ints))

charged-le-worth : (table : Table) (chosen : List Chosen) → ((window : BufferWindow) → pos (sum_by (unit_charged table.slot window) chosen) ≤ℤ room table window)
    → (windows : List BufferWindow) → pos (sum_by (charged table.slot windows) chosen) ≤ℤ worth table windows
unfolding worth
charged-le-worth table chosen fit [] = omega (arith, ints, charged-none table.slot chosen)
charged-le-worth table chosen fit (window ∷ windows) =
    let bytes = sum_by (unit_charged table.slot window) chosen in
    let here : pos (window.lambda * sum_by (unit_charged table.slot window) chosen) ≤ℤ (pos window.lambda *ℤ room table window) = scaled window.lambda bytes (room table window) (fit window) in
    let others : pos (sum_by (charged table.slot windows) chosen) ≤ℤ worth table windows = charged-le-worth table chosen fit windows in
    let whole = worth-more table window windows in
    omega (arith, ints, charged-more table.slot window windows chosen)

-- ---- the bound
bound-le : (value : ℤ) (bound : ℕ) → value ≤ℤ pos (byte_parts * bound) → bound_of_value value ≤ bound
bound-le (pos value) bound le =
    let most : value ≤ byte_parts * bound = omega (arith, ints) in
    omega arith
bound-le (negsuc n) bound le = omega arith

value-le : (table : Table) (fixed : List (Option ℕ)) (windows : List BufferWindow) (choice : List ℕ) → IsValidTable table → Fits table choice → TakesFixed fixed choice
    → IsScheduled table choice → (list_all has_left (zip (owned_units table) fixed) ≡ true) × (value_of_windows table fixed windows ≤ℤ pos (byte_parts * distortion_of_choice table choice))
unfolding value_of_windows
value-le table fixed windows choice valid fits takes scheduled =
    let units = owned_units table in
    let chosen = zip units choice in
    let paid : pos (sum_by (charged table.slot windows) (zip (owned_units table) choice)) ≤ℤ worth table windows =
    charged-le-worth table chosen (λ window. windows_hold table choice window valid fits scheduled) windows in
    let costs = costs_le table.slot windows units fixed choice (owned_fits 0 table.programs choice fits) takes (versions_fit table choice valid fits scheduled) in
    let distortions : sum_by distortion_at (zip (owned_units table) choice) ≡ distortion_of_choice table choice = owned_distortions 0 table.programs choice in
    let least_is : least_costs table.slot windows (owned_units table) fixed ≤ byte_parts * distortion_of_choice table choice + sum_by (charged table.slot windows) (zip (owned_units table) choice) =
    omega (arith, costs.1, distortions) in
    (costs.0, omega (arith, ints))

pub windows_bound : (table : Table) (fixed : List (Option ℕ)) (windows : List BufferWindow) → IsValidTable table → IsBoundOrNone table fixed (bound_of_windows table fixed windows)
unfolding bound_of_windows
windows_bound table fixed windows valid =
    elim (cases_Bool (list_all has_left (zip (owned_units table) fixed))) as (λ _. IsBoundOrNone table fixed (bound_of_windows table fixed windows)) [
      | inl yes_is ↦ rw yes_is
          (λ choice fits takes scheduled. bound-le (value_of_windows table fixed windows) (distortion_of_choice table choice) (value-le table fixed windows choice valid fits takes scheduled).1)
      | inr no_is ↦ rw no_is (λ choice fits takes scheduled. absurd (false≢true (sym no_is ∙ (value-le table fixed windows choice valid fits takes scheduled).0)))
    ]
