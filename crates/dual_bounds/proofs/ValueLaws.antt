-- Laws of values and bounds: more versions fixed, windows in another order, none at all, and a branch.
use Rattle.std.proofs.Common.{
  ◌≡◌,
  ◌↔◌,
  ℕ,
  zero,
  suc,
  ◌*◌,
  ◌<◌,
  ◌≤◌,
  List,
  [],
  ◌∷◌,
  ◌++◌,
  length,
  map,
  get_or,
  set,
  fold,
  min,
  sum_by,
  Option,
  Some,
  None,
  slice_get,
  refl,
  ap,
  subst,
  ◌∙◌,
  mul-zero,
  arith,
  ℤ,
  pos,
  negsuc,
  ◌*ℤ◌,
  ◌≤ℤ◌,
  inl,
  inr,
}
use lib.IntN.{zero-*ℤ}
use Rattle.std.specs.List.{AllZip, zip}
use Rattle.std.proofs.lemmas.Bool.{cases_Bool}
use Rattle.std.proofs.lemmas.Int.{ints}
use Rattle.std.proofs.lemmas.List.Elements.{All-head, All-tail}
use Rattle.std.proofs.lemmas.List.Sums.{sum_by-cons, sum_by-append, sum-map}
use Rattle.std.proofs.lemmas.Option.{none-some, same_Some}
use Rattle.version_table.specs.declared.table.Version.{Version}
use Rattle.version_table.specs.declared.table.Unit.{Unit as CodedUnit}
use Rattle.version_table.specs.declared.table.Table.{Table}
use Rattle.version_table.specs.Choice.{HasVersion, least, least_distortion, least_distortions}
use Rattle.version_table.specs.Table.{units_of}
use Rattle.dual_bounds.specs.declared.constants.TheConstants.{DISTORTION_PARTS}
use Rattle.dual_bounds.specs.declared.windows.Window.{Window}
use Rattle.dual_bounds.specs.Bounds.{IsBound, bound_of_value}
use Rattle.dual_bounds.specs.Fixed.{allowed, FixesNone, FixesVersions, KeepsFixed, NamesVersion, TakesFixed}
use Rattle.dual_bounds.specs.Room.{is_within, room}
use Rattle.dual_bounds.specs.Values.{charge, cost, least_cost, least_costs, packet_count, price, value_of_windows, worth}
use Rattle.dual_bounds.proofs.Charges.{bound-le, least_cost-le, worth-more}

-- ---- bounds and values
bound-value : (value : ℤ) (bound : ℕ) → bound_of_value value ≤ bound → value ≤ℤ pos (DISTORTION_PARTS * bound)
bound-value (pos value) bound le =
    let most : value ≤ DISTORTION_PARTS * bound = omega arith in
    omega (arith, ints)
bound-value (negsuc n) bound le = omega (arith, ints)

pub bound_iff : (value : ℤ) (bound : ℕ) → (bound_of_value value ≤ bound) ↔ (value ≤ℤ pos (DISTORTION_PARTS * bound))
bound_iff value bound = (bound-value value bound, bound-le value bound)

pub bounds_rise : (value greater : ℤ) → value ≤ℤ greater → bound_of_value value ≤ bound_of_value greater
bounds_rise value greater le =
    let most : greater ≤ℤ pos (DISTORTION_PARTS * bound_of_value greater) = bound-value greater (bound_of_value greater) (omega arith) in
    bound-le value (bound_of_value greater) (omega (arith, ints))

-- ---- more versions fixed
least_cost-rises : (windows : List Window) (unit : CodedUnit) (fixed more : Option ℕ) → NamesVersion unit more → KeepsFixed fixed more → least_cost windows unit fixed ≤ least_cost windows unit more
unfolding least_cost
least_cost-rises windows unit (Some k) more names keeps = omega (arith, ap (least_cost windows unit) keeps)
least_cost-rises windows unit None None names keeps = omega arith
least_cost-rises windows unit None (Some k) names keeps = least_cost-le windows unit None k names tt

least_costs-rise : (windows : List Window) (units : List CodedUnit) (fixed more : List (Option ℕ)) → AllZip NamesVersion units more → AllZip KeepsFixed fixed more
    → least_costs windows units fixed ≤ least_costs windows units more
unfolding least_costs
least_costs-rise windows [] fixed more names keeps = omega arith
least_costs-rise windows (unit ∷ units) fixed [] names keeps = absurd names
least_costs-rise windows (unit ∷ units) [] (entry ∷ more) names keeps = absurd keeps
least_costs-rise windows (unit ∷ units) (first ∷ fixed) (entry ∷ more) names keeps =
    let own : CodedUnit × Option ℕ → ℕ = λ x. least_cost windows x.0 x.1 in
    omega (
      arith,
      sum_by-cons own (unit, first) (zip units fixed),
      sum_by-cons own (unit, entry) (zip units more),
      least_cost-rises windows unit first entry names.0 keeps.0,
      least_costs-rise windows units fixed more names.1 keeps.1,
    )

pub fixing_more : (table : Table) (fixed more : List (Option ℕ)) (windows : List Window) → FixesVersions table more → AllZip KeepsFixed fixed more
    → value_of_windows table fixed windows ≤ℤ value_of_windows table more windows
unfolding value_of_windows
fixing_more table fixed more windows names keeps =
    let rise = least_costs-rise windows (units_of table) fixed more names keeps in
    omega (arith, ints)

-- ---- windows with the same prices and worth
least_costs-same : (windows others : List Window) → ((time : ℕ) → price windows time ≡ price others time) → (units : List CodedUnit) (fixed : List (Option ℕ))
    → least_costs windows units fixed ≡ least_costs others units fixed
unfolding least_costs least_cost
least_costs-same windows others same [] fixed = refl
least_costs-same windows others same (unit ∷ units) [] = refl
least_costs-same windows others same (unit ∷ units) (entry ∷ fixed) =
    let own : CodedUnit × Option ℕ → ℕ = λ x. least_cost windows x.0 x.1 in
    let other : CodedUnit × Option ℕ → ℕ = λ x. least_cost others x.0 x.1 in
    let here : least_cost windows unit entry ≡ least_cost others unit entry = ap (λ p. least (map (cost p) (allowed unit entry))) (same unit.due) in
    omega (arith, sum_by-cons own (unit, entry) (zip units fixed), sum_by-cons other (unit, entry) (zip units fixed), here, least_costs-same windows others same units fixed)

value-same : (table : Table) (fixed : List (Option ℕ)) (windows others : List Window) → ((time : ℕ) → price windows time ≡ price others time) → worth table windows ≡ worth table others
    → value_of_windows table fixed windows ≡ value_of_windows table fixed others
unfolding value_of_windows
value-same table fixed windows others same worths =
    let costs = least_costs-same windows others same (units_of table) fixed in
    omega (arith, ints)

worth_moved : (table : Table) (before : List Window) (window : Window) (after : List Window) → worth table (before ++ window ∷ after) ≡ worth table (window ∷ (before ++ after))
worth_moved table [] window after = refl
worth_moved table (first ∷ before) window after =
    let whole = worth-more table first (before ++ window ∷ after) in
    let moved = worth_moved table before window after in
    let one = worth-more table window (before ++ after) in
    let other = worth-more table window (first ∷ (before ++ after)) in
    let two = worth-more table first (before ++ after) in
    omega (arith, ints)

pub any_order : (table : Table) (fixed : List (Option ℕ)) (before : List Window) (window : Window) (after : List Window)
    → value_of_windows table fixed (before ++ window ∷ after) ≡ value_of_windows table fixed (window ∷ (before ++ after))
unfolding price
any_order table fixed before window after =
    value-same table fixed (before ++ window ∷ after) (window ∷ (before ++ after))
    (λ time. omega (
      arith,
      sum_by-append (charge time) before (window ∷ after),
      sum_by-cons (charge time) window after,
      sum_by-cons (charge time) window (before ++ after),
      sum_by-append (charge time) before after,
    ))
    (worth_moved table before window after)

charge_of_none : (time from due : ℕ) → charge time (record { from = from; due = due; lambda = 0 }) ≡ 0
charge_of_none time from due = elim (cases_Bool (is_within from due time)) as (λ _. charge time (record { from = from; due = due; lambda = 0 }) ≡ 0) [
  | inl yes_is ↦ rw yes_is refl
  | inr no_is ↦ rw no_is refl
]

pub no_lambda : (table : Table) (fixed : List (Option ℕ)) (from due : ℕ) (windows : List Window)
    → value_of_windows table fixed (record { from = from; due = due; lambda = 0 } ∷ windows) ≡ value_of_windows table fixed windows
unfolding price
no_lambda table fixed from due windows =
    let window : Window = record { from = from; due = due; lambda = 0 } in
    let none : pos 0 *ℤ room table from due ≡ pos 0 = zero-*ℤ (room table from due) in
    let whole = worth-more table window windows in
    value-same table fixed (window ∷ windows) windows (λ time. omega (arith, sum_by-cons (charge time) window windows, charge_of_none time from due)) (omega (arith, ints))

-- ---- no windows
least_free : (a : ℕ) (versions : List Version) → fold min (DISTORTION_PARTS * a) (map (cost 0) versions) ≡ DISTORTION_PARTS * fold min a (map (λ version. version.distortion) versions)
least_free a [] = refl
least_free a (version ∷ versions) =
    let free : packet_count version * 0 ≡ 0 = mul-zero (packet_count version) in
    let first : min (DISTORTION_PARTS * a) (cost 0 version) ≡ DISTORTION_PARTS * min a version.distortion = omega arith in
    ap (λ n. fold min n (map (cost 0) versions)) first ∙ least_free (min a version.distortion) versions

unit_free : (unit : CodedUnit) → least_cost [] unit None ≡ DISTORTION_PARTS * least_distortion unit
unfolding least_cost price
unit_free unit = of_versions unit.versions.items
  where
    of_versions : (versions : List Version) → least (map (cost 0) versions) ≡ DISTORTION_PARTS * least (map (λ version. version.distortion) versions)
    of_versions [] = refl
    of_versions (version ∷ versions) =
        let free : packet_count version * 0 ≡ 0 = mul-zero (packet_count version) in
        let first : cost 0 version ≡ DISTORTION_PARTS * version.distortion = omega arith in
        ap (λ n. fold min n (map (cost 0) versions)) first ∙ least_free version.distortion versions

units_free : (units : List CodedUnit) (fixed : List (Option ℕ)) → AllZip NamesVersion units fixed → FixesNone fixed → least_costs [] units fixed ≡ DISTORTION_PARTS * sum_by least_distortion units
unfolding least_costs
units_free [] fixed names none = refl
units_free (unit ∷ units) [] names none = absurd names
units_free (unit ∷ units) (entry ∷ fixed) names none =
    let own : CodedUnit × Option ℕ → ℕ = λ x. least_cost [] x.0 x.1 in
    let here : least_cost [] unit entry ≡ DISTORTION_PARTS * least_distortion unit = ap (least_cost [] unit) (All-head (λ e. e ≡ None) entry fixed none) ∙ unit_free unit in
    omega (
      arith,
      sum_by-cons own (unit, entry) (zip units fixed),
      sum_by-cons least_distortion unit units,
      here,
      units_free units fixed names.1 (All-tail (λ e. e ≡ None) entry fixed none),
    )

pub without_windows : (table : Table) (fixed : List (Option ℕ)) → FixesVersions table fixed → FixesNone fixed
    → value_of_windows table fixed [] ≡ pos (DISTORTION_PARTS * least_distortions table)
unfolding value_of_windows worth
without_windows table fixed names none =
    let costs = units_free (units_of table) fixed names none in
    let total = sum-map least_distortion (units_of table) in
    omega (arith, ints)

-- ---- a branch on one unit
takes_own : (fixed : List (Option ℕ)) (choice : List ℕ) (u : ℕ) → TakesFixed fixed choice → u < length fixed → TakesFixed (set fixed u (Some (get_or choice u 0))) choice
takes_own [] choice u takes within = absurd (omega arith)
takes_own (entry ∷ fixed) [] u takes within = absurd takes
takes_own (entry ∷ fixed) (k ∷ choice) zero takes within = (refl, takes.1)
takes_own (entry ∷ fixed) (k ∷ choice) (suc u) takes within = (takes.0, takes_own fixed choice u takes.1 (omega arith))

has_chosen : (units : List CodedUnit) (choice : List ℕ) (u : ℕ) (unit : CodedUnit) → AllZip HasVersion units choice → slice_get units u ≡ Some unit → HasVersion unit (get_or choice u 0)
has_chosen [] choice u unit fits there = absurd (none-some unit there)
has_chosen (first ∷ units) [] u unit fits there = absurd fits
has_chosen (first ∷ units) (k ∷ choice) zero unit fits there = subst (λ (x : CodedUnit). HasVersion x k) (same_Some first unit there) fits.0
has_chosen (first ∷ units) (k ∷ choice) (suc u) unit fits there = has_chosen units choice u unit fits.1 there

pub branch_bounds : (table : Table) (fixed : List (Option ℕ)) (u : ℕ) (unit : CodedUnit) (bound : ℕ) → slice_get (units_of table) u ≡ Some unit → u < length fixed
    → ((k : ℕ) → HasVersion unit k → IsBound table (set fixed u (Some k)) bound) → IsBound table fixed bound
branch_bounds table fixed u unit bound there within each choice fits takes scheduled =
    each (get_or choice u 0) (has_chosen (units_of table) choice u unit fits there) choice fits (takes_own fixed choice u takes within) scheduled
