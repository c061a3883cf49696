-- What units cost at least: one more window, one more unit, one more program; and bounds of it.
use Rattle.std.proofs.Common.{
  ◌≡◌,
  ℕ,
  zero,
  suc,
  ◌+◌,
  ◌*◌,
  ◌^◌,
  ◌<◌,
  ◌≤◌,
  List,
  [],
  ◌∷◌,
  ◌++◌,
  length,
  map,
  get_or,
  take,
  drop,
  sum_by,
  All,
  Option,
  Some,
  None,
  refl,
  ap,
  ap₂,
  subst,
  ◌∙◌,
  inl,
  inr,
  mul-le-mul,
  arith,
}
use Rattle.std.specs.List.{AllZip, zip}
use Rattle.std.proofs.lemmas.Bool.{cases_Bool}
use Rattle.std.proofs.lemmas.List.{drop_more, get_or-map, length-append, length-map}
use Rattle.std.proofs.lemmas.List.Elements.{All-head, All-tail}
use Rattle.std.proofs.lemmas.List.Sums.{sum_by-cons, sum_by-append, sum_by_more, sum_by-le}
use Rattle.version_table.specs.declared.table.Version.{Version}
use Rattle.version_table.specs.declared.table.Unit.{Unit as CodedUnit}
use Rattle.version_table.specs.declared.table.ProgramRow.{ProgramRow}
use Rattle.version_table.specs.declared.table.Table.{Table}
use Rattle.version_table.specs.Choice.{version_at}
use Rattle.version_table.specs.Table.{IsValidTable, IsValidUnit, IsValidVersion, units_of}
use Rattle.version_table.proofs.Chosen.{units_from, units_from_more}
use Rattle.version_table.proofs.ValidUnits.{valid_units}
use Rattle.dual_bounds.specs.declared.constants.TheConstants.{LAMBDA_MOST}
use Rattle.dual_bounds.specs.declared.windows.Window.{Window}
use Rattle.dual_bounds.specs.Fixed.{FixesVersions, NamesVersion}
use Rattle.dual_bounds.specs.Private.Costs.{AreCharging}
use Rattle.dual_bounds.specs.Room.{is_within}
use Rattle.dual_bounds.specs.Values.{charge, cost, least_cost, least_costs, packet_count, price}
use Rattle.version_table.proofs.Least.{least-le}

-- ---- prices
pub price_none : (time : ℕ) → price [] time ≡ 0
unfolding price
price_none time = refl

pub price_next : (windows : List Window) (time i : ℕ) (d : Window) → i < length windows → price (take (i + 1) windows) time ≡ price (take i windows) time + charge time (get_or windows i d)
unfolding price
price_next windows time i d within = sum_by_more (charge time) windows i d within

pub charge-le : (time : ℕ) (window : Window) → window.lambda ≤ LAMBDA_MOST → charge time window ≤ LAMBDA_MOST
charge-le time window small = elim (cases_Bool (is_within window.from window.due time)) as (λ _. charge time window ≤ LAMBDA_MOST) [
  | inl yes_is ↦ rw yes_is small
  | inr no_is ↦ rw no_is (omega arith)
]

pub price-le : (windows : List Window) (time : ℕ) → AreCharging windows → price windows time ≤ 2 ^ 46
unfolding price
price-le windows time charging =
    let each : All (λ window. charge time window ≤ LAMBDA_MOST) windows = λ k d within. charge-le time (get_or windows k d) (charging.lambdas k d within) in
    let whole : sum_by (charge time) windows ≤ length windows * LAMBDA_MOST = sum_by-le (charge time) LAMBDA_MOST windows each in
    omega (arith, charging.few)

-- ---- one more unit
pub names_length : (units : List CodedUnit) (fixed : List (Option ℕ)) → AllZip NamesVersion units fixed → length units ≡ length fixed
names_length [] [] names = refl
names_length [] (entry ∷ fixed) names = absurd names
names_length (unit ∷ units) [] names = absurd names
names_length (unit ∷ units) (entry ∷ fixed) names = ap suc (names_length units fixed names.1)

pub names_at : (units : List CodedUnit) (fixed : List (Option ℕ)) (i : ℕ) (d : CodedUnit) (e : Option ℕ) → AllZip NamesVersion units fixed → i < length units
    → NamesVersion (get_or units i d) (get_or fixed i e)
names_at [] fixed i d e names within = absurd (omega arith)
names_at (unit ∷ units) [] i d e names within = absurd names
names_at (unit ∷ units) (entry ∷ fixed) zero d e names within = names.0
names_at (unit ∷ units) (entry ∷ fixed) (suc i) d e names within = names_at units fixed i d e names.1 (omega arith)

pub least_costs_more : (windows : List Window) (units : List CodedUnit) (fixed : List (Option ℕ)) (i : ℕ) (d : CodedUnit) (e : Option ℕ) → i < length units → i < length fixed
    → least_costs windows (drop i units) (drop i fixed) ≡ least_cost windows (get_or units i d) (get_or fixed i e) + least_costs windows (drop (i + 1) units) (drop (i + 1) fixed)
unfolding least_costs
least_costs_more windows units fixed i d e within within' =
    let own : CodedUnit × Option ℕ → ℕ = λ (unit, entry). least_cost windows unit entry in
    ap₂ (λ (us : List CodedUnit) (es : List (Option ℕ)). sum_by own (zip us es)) (drop_more units i d within) (drop_more fixed i e within')
    ∙ sum_by-cons own (get_or units i d, get_or fixed i e) (zip (drop (i + 1) units) (drop (i + 1) fixed))

pub least_costs_none : (windows : List Window) (fixed : List (Option ℕ)) → least_costs windows [] fixed ≡ 0
unfolding least_costs
least_costs_none windows fixed = refl

-- ---- one more program
pub names_first : (units more : List CodedUnit) (fixed : List (Option ℕ)) → AllZip NamesVersion (units ++ more) fixed → AllZip NamesVersion units (take (length units) fixed)
names_first [] more fixed names = tt
names_first (unit ∷ units) more [] names = absurd names
names_first (unit ∷ units) more (entry ∷ fixed) names = (names.0, names_first units more fixed names.1)

pub names_others : (units more : List CodedUnit) (fixed : List (Option ℕ)) → AllZip NamesVersion (units ++ more) fixed → AllZip NamesVersion more (drop (length units) fixed)
names_others [] more fixed names = names
names_others (unit ∷ units) more [] names = absurd names
names_others (unit ∷ units) more (entry ∷ fixed) names = names_others units more fixed names.1

zip_in_parts : (units more : List CodedUnit) (fixed : List (Option ℕ)) → zip (units ++ more) fixed ≡ zip units (take (length units) fixed) ++ zip more (drop (length units) fixed)
zip_in_parts [] more fixed = refl
zip_in_parts (unit ∷ units) [] [] = refl
zip_in_parts (unit ∷ units) (other ∷ more) [] = refl
zip_in_parts (unit ∷ units) more (entry ∷ fixed) = ap (λ (rest : List (CodedUnit × Option ℕ)). (unit, entry) ∷ rest) (zip_in_parts units more fixed)

least_costs_in_parts : (windows : List Window) (units more : List CodedUnit) (fixed : List (Option ℕ))
    → least_costs windows (units ++ more) fixed ≡ least_costs windows units (take (length units) fixed) + least_costs windows more (drop (length units) fixed)
unfolding least_costs
least_costs_in_parts windows units more fixed =
    let own : CodedUnit × Option ℕ → ℕ = λ (unit, entry). least_cost windows unit entry in
    ap (sum_by own) (zip_in_parts units more fixed) ∙ sum_by-append own (zip units (take (length units) fixed)) (zip more (drop (length units) fixed))

-- the entries for a program's units, and those for the units after them
pub record EntriesInParts (windows : List Window) (whole units others : List CodedUnit) (fixed front back : List (Option ℕ)) : Type 0 where
  pub enough : length units ≤ length fixed
  pub of_units : AllZip NamesVersion units front
  pub of_others : AllZip NamesVersion others back
  pub total : least_costs windows whole fixed ≡ least_costs windows units front + least_costs windows others back

pub entries_in : (windows : List Window) (programs : List ProgramRow) (i : ℕ) (program : ProgramRow) (fixed : List (Option ℕ)) → i < length programs → program ≡ get_or programs i program
    → AllZip NamesVersion (units_from programs i) fixed → (units : List CodedUnit) (n : ℕ) (front back : List (Option ℕ)) → units ≡ program.units → n ≡ length program.units
    → front ≡ take n fixed → back ≡ drop n fixed → EntriesInParts windows (units_from programs i) units (units_from programs (i + 1)) fixed front back
entries_in windows programs i program fixed within is names units n front back units-is long front-is back-is =
    let others = units_from programs (i + 1) in
    let split : units_from programs i ≡ program.units ++ others = units_from_more programs i program within is in
    let names' : AllZip NamesVersion (program.units ++ others) fixed = subst (λ (whole : List CodedUnit). AllZip NamesVersion whole fixed) split names in
    let first : front ≡ take (length program.units) fixed = front-is ∙ ap (λ k. take k fixed) long in
    let second : back ≡ drop (length program.units) fixed = back-is ∙ ap (λ k. drop k fixed) long in
    rw (units-is, first, second)
    (record {
      enough = omega (arith, names_length (program.units ++ others) fixed names', length-append program.units others);
      of_units = names_first program.units others fixed names';
      of_others = names_others program.units others fixed names';
      total = ap (λ (whole : List CodedUnit). least_costs windows whole fixed) split ∙ least_costs_in_parts windows program.units others fixed;
    })

-- ---- bounds
cost-le : (charged : ℕ) (version : Version) → charged ≤ 2 ^ 46 → IsValidVersion version → cost charged version ≤ 2 ^ 62
cost-le charged version small valid =
    let packets : packet_count version ≤ 2 ^ 15 = omega (arith, valid.bytes) in
    let product : packet_count version * charged ≤ 2 ^ 15 * 2 ^ 46 = mul-le-mul packets small in
    omega (arith, valid.distortion)

least_cost-fits : (windows : List Window) (slot : ℕ) (unit : CodedUnit) (entry : Option ℕ) → AreCharging windows → IsValidUnit slot unit → NamesVersion unit entry
    → least_cost windows unit entry ≤ 2 ^ 62
unfolding least_cost
least_cost-fits windows slot unit None charging valid names =
    let own = cost (price windows unit.due) in
    let none : Version = record { bytes = 0; distortion = 0 } in
    let some : 0 < length unit.versions.items = omega (arith, valid.some_version) in
    let at : get_or (map own unit.versions.items) 0 0 ≡ own (get_or unit.versions.items 0 none) = get_or-map own unit.versions.items 0 none 0 some in
    let size : length (map own unit.versions.items) ≡ length unit.versions.items = length-map unit.versions.items own in
    omega (
      arith,
      at,
      least-le (map own unit.versions.items) 0 (omega arith),
      cost-le (price windows unit.due) (get_or unit.versions.items 0 none) (price-le windows unit.due
          charging) (valid.versions 0 none some),
    )
least_cost-fits windows slot unit (Some k) charging valid names =
    let none : Version = record { bytes = 0; distortion = 0 } in
    cost-le (price windows unit.due) (version_at unit k) (price-le windows unit.due charging) (valid.versions k none names)

least_costs-fit : (windows : List Window) (slot : ℕ) (units : List CodedUnit) (fixed : List (Option ℕ)) → AreCharging windows → All (IsValidUnit slot) units → AllZip NamesVersion units fixed
    → least_costs windows units fixed ≤ length units * 2 ^ 62
unfolding least_costs
least_costs-fit windows slot [] fixed charging valid names = omega arith
least_costs-fit windows slot (unit ∷ units) [] charging valid names = absurd names
least_costs-fit windows slot (unit ∷ units) (entry ∷ fixed) charging valid names =
    omega (
      arith,
      sum_by-cons (λ (x : CodedUnit × Option ℕ). least_cost windows x.0 x.1) (unit, entry) (zip units fixed),
      least_cost-fits windows slot unit entry charging (All-head (IsValidUnit slot) unit units valid) names.0,
      least_costs-fit windows slot units fixed charging (All-tail (IsValidUnit slot) unit units valid) names.1,
    )

-- the costs of all units are few enough bits
pub all_costs-fit : (windows : List Window) (table : Table) (fixed : List (Option ℕ)) → AreCharging windows → IsValidTable table → FixesVersions table fixed
    → least_costs windows (units_of table) fixed < 2 ^ 85
all_costs-fit windows table fixed charging valid names =
    omega (arith, least_costs-fit windows table.slot (units_of table) fixed charging (valid_units table valid) names, valid.units)
