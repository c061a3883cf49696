-- What units cost, summed in the order of their due times.
use Rattle.std.proofs.Common.{◌≡◌, ℕ, zero, suc, ◌+◌, ◌-◌, ◌<◌, ◌≤◌, List, [], ◌∷◌, length, map, take, drop, get_or, sum, sum_by, Option, None, ◌^◌, refl, sym, ap, ap₂, ◌∙◌, arith}
use Rattle.std.specs.List.{AllZip, range_with_len}
use Rattle.std.specs.List.Sorted.{IsPermutation}
use Rattle.std.proofs.lemmas.List.{drop_all, drop_more}
use Rattle.std.proofs.lemmas.List.Sums.{sum_by-cons, sum_by_more_le}
use Rattle.version_table.specs.declared.table.Unit.{Unit as CodedUnit}
use Rattle.version_table.specs.declared.table.Table.{Table}
use Rattle.version_table.specs.Choice.{Fits, HasVersion, chosen_distortions, distortion_of_choice, least, version_at}
use Rattle.version_table.specs.Table.{IsValidTable, IsValidUnit, units_of}
use Rattle.version_table.proofs.Chosen.{distortion_fits}
use Rattle.version_table.proofs.ValidUnits.{valid_units}
use Rattle.dual_bounds.specs.declared.windows.Window.{Window as PricedWindow}
use Rattle.dual_bounds.specs.Fixed.{FixesVersions, NamesVersion, allowed}
use Rattle.dual_bounds.specs.Private.Costs.{AreCharging}
use Rattle.dual_bounds.specs.Values.{cost, least_cost, least_costs, price}
use Rattle.dual_bounds.proofs.LeastCosts.{all_costs-fit, least_costs_more, least_costs_none, names_length}
use Rattle.certificate_checker.specs.declared.order.DueUnit.{DueUnit}
use Rattle.certificate_checker.specs.declared.prices.Dated.{Dated}
use Rattle.certificate_checker.specs.Faults.{NoneEmpty}
use Rattle.certificate_checker.specs.Private.Order.{IsDueOrder, IsPlaced, no_unit, unit_of}
use Rattle.certificate_checker.specs.Private.Prices.{counted, fall_of, rise_of}
use Rattle.certificate_checker.proofs.DueOrder.{sum_in_order}
use Rattle.certificate_checker.proofs.PriceLaws.{price_is}
use Rattle.certificate_checker.proofs.Units.{all_zip_at}

-- ---- sums over the numbers of units
-- what the unit of this number costs at least
abbrev pub cost_of_number : Table → List PricedWindow → List (Option ℕ) → (unit : ℕ) → ℕ
cost_of_number table windows fixed unit = least_cost windows (unit_of table unit) (get_or fixed unit None)

costs_from : (windows : List PricedWindow) (units : List CodedUnit) (fixed : List (Option ℕ)) (i n : ℕ) → length units ≡ length fixed → i + n ≡ length units
    → sum_by (λ u. least_cost windows (get_or units u no_unit) (get_or fixed u None)) (range_with_len i n) ≡ least_costs windows (drop i units) (drop i fixed)
costs_from windows units fixed i zero same size =
    sym (ap (λ (us : List CodedUnit). least_costs windows us (drop i fixed)) (drop_all i units (omega (arith, size))) ∙ least_costs_none windows (drop i fixed))
costs_from windows units fixed i (suc n) same size =
    omega (
      arith,
      sum_by-cons (λ (u : ℕ). least_cost windows (get_or units u no_unit) (get_or fixed u None)) i (range_with_len (i + 1) n),
      costs_from windows units fixed (i + 1) n same (omega (arith, size)),
      least_costs_more windows units fixed i no_unit None (omega (arith, size)) (omega (arith, size, same)),
    )

-- what all units cost, one after the other in order
pub costs_in_order : (table : Table) (order : List DueUnit) (windows : List PricedWindow) (fixed : List (Option ℕ)) → IsDueOrder table order → FixesVersions table fixed
    → sum_by (λ at. cost_of_number table windows fixed at.unit) order ≡ least_costs windows (units_of table) fixed
costs_in_order table order windows fixed is fixes =
    sum_in_order table order (cost_of_number table windows fixed) is
    ∙ costs_from windows (units_of table) fixed 0 (length (units_of table)) (names_length (units_of table) fixed fixes) (omega arith)

-- what the unit of this number adds to the distortion of a choice
abbrev pub distortion_of_number : Table → List ℕ → (unit : ℕ) → ℕ
distortion_of_number table choice unit = (version_at (unit_of table unit) (get_or choice unit 0)).distortion

pub fits_length : (units : List CodedUnit) (choice : List ℕ) → AllZip HasVersion units choice → length units ≡ length choice
fits_length [] [] fits = refl
fits_length [] (k ∷ choice) fits = absurd fits
fits_length (unit ∷ units) [] fits = absurd fits
fits_length (unit ∷ units) (k ∷ choice) fits = ap suc (fits_length units choice fits.1)

distortions_from : (units : List CodedUnit) (choice : List ℕ) (i n : ℕ) → length units ≡ length choice → i + n ≡ length units
    → sum_by (λ u. (version_at (get_or units u no_unit) (get_or choice u 0)).distortion) (range_with_len i n) ≡ sum (chosen_distortions (drop i units) (drop i choice))
distortions_from units choice i zero same size =
    sym (ap (λ (us : List CodedUnit). sum (chosen_distortions us (drop i choice))) (drop_all i units (omega (arith, size))))
distortions_from units choice i (suc n) same size =
    let here : i < length units = omega (arith, size) in
    let there : i < length choice = omega (arith, size, same) in
    let split = ap₂ (λ (us : List CodedUnit) (ks : List ℕ). sum (chosen_distortions us ks)) (drop_more units i no_unit here) (drop_more choice i 0 there) in
    omega (
      arith,
      sum_by-cons (λ (u : ℕ). (version_at (get_or units u no_unit) (get_or choice u 0)).distortion) i (range_with_len (i + 1) n),
      distortions_from units choice (i + 1) n same (omega (arith, size)),
      split,
      sum_by-cons (λ (d : ℕ). d) (version_at (get_or units i no_unit) (get_or choice i 0)).distortion (chosen_distortions (drop (i + 1) units) (drop (i + 1) choice)),
    )

-- the distortion of a choice, one unit after the other in order
pub distortion_in_order : (table : Table) (order : List DueUnit) (choice : List ℕ) → IsDueOrder table order → Fits table choice
    → sum_by (λ at. distortion_of_number table choice at.unit) order ≡ distortion_of_choice table choice
distortion_in_order table order choice is fits =
    sum_in_order table order (distortion_of_number table choice) is ∙ distortions_from (units_of table) choice 0 (length (units_of table)) (fits_length (units_of table) choice fits) (omega arith)

-- ---- one more unit
-- a place in no table
abbrev pub no_place : DueUnit
no_place = record { due = 0; unit = 0; program = 0; place = 0 }

pub placed_at : (table : Table) (order : List DueUnit) (i : ℕ) (d : DueUnit) → IsDueOrder table order → i < length order → IsPlaced table (get_or order i d)
placed_at table order i d is within = is.placed i d within

-- the unit is valid
pub valid_at : (table : Table) (unit : ℕ) → IsValidTable table → unit < length (units_of table) → IsValidUnit table.slot (unit_of table unit)
valid_at table unit valid within = valid_units table valid unit no_unit within

pub names_at_number : (table : Table) (fixed : List (Option ℕ)) (unit : ℕ) → FixesVersions table fixed → unit < length (units_of table) → NamesVersion (unit_of table unit) (get_or fixed unit None)
names_at_number table fixed unit fixes within = all_zip_at NamesVersion (units_of table) fixed unit no_unit None fixes within

pub has_at_number : (table : Table) (choice : List ℕ) (unit : ℕ) → Fits table choice → unit < length (units_of table) → HasVersion (unit_of table unit) (get_or choice unit 0)
has_at_number table choice unit fits within = all_zip_at HasVersion (units_of table) choice unit no_unit 0 fits within

-- what is summed so far and one more fits
pub costs_fit : (table : Table) (order : List DueUnit) (windows : List PricedWindow) (fixed : List (Option ℕ)) (i : ℕ) (d : DueUnit) → IsValidTable table → IsDueOrder table order
    → FixesVersions table fixed → AreCharging windows → i < length order
    → sum_by (λ at. cost_of_number table windows fixed at.unit) (take i order) + cost_of_number table windows fixed (get_or order i d).unit < 2 ^ 85
costs_fit table order windows fixed i d valid is fixes charging within =
    omega (
      arith,
      sum_by_more_le (λ (at : DueUnit). cost_of_number table windows fixed at.unit) order i d within,
      costs_in_order table order windows fixed is fixes,
      all_costs-fit windows table fixed charging valid fixes,
    )

pub distortions_fit : (table : Table) (order : List DueUnit) (choice : List ℕ) (i : ℕ) (d : DueUnit) → IsValidTable table → IsDueOrder table order → Fits table choice → i < length order
    → sum_by (λ at. distortion_of_number table choice at.unit) (take i order) + distortion_of_number table choice (get_or order i d).unit < 2 ^ 64
distortions_fit table order choice i d valid is fits within =
    omega (
      arith,
      sum_by_more_le (λ (at : DueUnit). distortion_of_number table choice at.unit) order i d within,
      distortion_in_order table order choice is fits,
      distortion_fits table choice valid fits,
    )

-- ---- the price of a unit
-- what a unit costs where a packet has the price that is left of what has risen
pub record Priced (table : Table) (windows : List PricedWindow) (fixed : List (Option ℕ)) (at : DueUnit) (risen fallen : ℕ) : Type 0 where
  pub less : fallen ≤ risen
  pub cost_is : (coded : CodedUnit) (made : ℕ) → coded ≡ unit_of table at.unit → made ≡ least (map (cost (risen - fallen)) (allowed coded (get_or fixed at.unit None)))
      → made ≡ cost_of_number table windows fixed at.unit

cost_at_price : (table : Table) (windows : List PricedWindow) (fixed : List (Option ℕ)) (unit charged : ℕ) (coded : CodedUnit) (made : ℕ) → charged ≡ price windows (unit_of table unit).due
    → coded ≡ unit_of table unit → made ≡ least (map (cost charged) (allowed coded (get_or fixed unit None))) → made ≡ cost_of_number table windows fixed unit
unfolding least_cost
cost_at_price table windows fixed unit charged coded made charged_is coded_is made_is =
    made_is ∙ ap (λ (p : ℕ). least (map (cost p) (allowed coded (get_or fixed unit None)))) charged_is
    ∙ ap (λ (u : CodedUnit). least (map (cost (price windows (unit_of table unit).due)) (allowed u (get_or fixed unit None)))) coded_is

pub priced : (table : Table) (windows : List PricedWindow) (fixed : List (Option ℕ)) (at : DueUnit) (risen fallen : ℕ) (first_rises rises old_rises first_falls falls old_falls : List Dated)
    → IsPlaced table at → NoneEmpty windows → first_rises ≡ map rise_of windows → IsPermutation first_rises rises → old_rises ≡ rises → first_falls ≡ map fall_of windows
    → IsPermutation first_falls falls → old_falls ≡ falls → risen ≡ sum_by (counted (at.due + 1)) old_rises → fallen ≡ sum_by (counted at.due) old_falls
    → Priced table windows fixed at risen fallen
priced table windows fixed at risen fallen first_rises rises old_rises first_falls falls old_falls placed some rises_are rises_moved rises_same falls_are falls_moved falls_same risen_is fallen_is =
    let parts : price windows at.due + fallen ≡ risen =
    price_is at.due risen fallen windows first_rises rises first_falls falls some rises_are rises_moved falls_are falls_moved (risen_is ∙ ap (sum_by (counted (at.due + 1))) rises_same)
    (fallen_is ∙ ap (sum_by (counted at.due)) falls_same) in
    let left : risen - fallen ≡ price windows at.due = omega (arith, parts) in
    record {
      less = omega (arith, parts);
      cost_is = λ coded made coded_is made_is.
          cost_at_price table windows fixed at.unit (risen - fallen) coded made (left ∙ ap (price windows) placed.due) coded_is made_is;
    }
