-- The sum of what units cost at least of which nothing is fixed, where a unit is fixed, fixed to another version, and set free.
use Rattle.std.proofs.Common.{◌≡◌, ℕ, zero, suc, ◌+◌, ◌^◌, ◌<◌, ◌≤◌, List, [], ◌∷◌, length, map, take, get_or, set, sum_by, is_some, true, Option, Some, None, refl, sym, ap, ◌∙◌, inl, inr, arith}
use Rattle.std.proofs.lemmas.Bool.{cases_eq, false≢true}
use Rattle.std.proofs.lemmas.List.{get_or-set_other, get_or-set_same, take_all}
use Rattle.version_table.specs.declared.table.Unit.{Unit as CodedUnit}
use Rattle.version_table.specs.declared.table.Table.{Table}
use Rattle.version_table.specs.Choice.{least}
use Rattle.version_table.specs.Table.{IsValidTable, units_of}
use Rattle.dual_bounds.specs.declared.windows.Window.{Window as PricedWindow}
use Rattle.dual_bounds.specs.Fixed.{allowed}
use Rattle.dual_bounds.specs.Private.Costs.{AreCharging}
use Rattle.dual_bounds.specs.Values.{cost, least_cost, price}
use Rattle.dual_bounds.proofs.LeastCosts.{all_costs-fit}
use Rattle.certificate_checker.specs.declared.order.DueUnit.{DueUnit}
use Rattle.certificate_checker.specs.Faults.{IsFree}
use Rattle.certificate_checker.specs.Shown.{fix, unfixed}
use Rattle.certificate_checker.specs.Private.Order.{IsDueOrder, unit_of}
use Rattle.certificate_checker.specs.Private.Paths.{unfix}
use Rattle.sum_tree.specs.Nodes.{sum_from}
use Rattle.certificate_checker.specs.Private.Tallies.{ArePlaces, free_cost, free_sum, unit_at, where_free}
use Rattle.certificate_checker.proofs.FixedCosts.{by_places, sum_le}
use Rattle.certificate_checker.proofs.OrderCosts.{cost_of_number, costs_in_order}
use Rattle.certificate_checker.proofs.SumTrees.{sum_same}
use Rattle.certificate_checker.proofs.TallyLaws.{IsAt, unfixed_at}
use Rattle.certificate_checker.proofs.Units.{fixes_nothing}

-- ---- a sum of which one number changes
sum_changed : (f g : ℕ → ℕ) (place n : ℕ) → place < n → ((k : ℕ) → k < n → (k ≡ place → ⊥) → f k ≡ g k) → sum_from f 0 n + g place ≡ sum_from g 0 n + f place
sum_changed f g place zero within same = absurd (omega (arith, within))
sum_changed f g place (suc n) within same =
    let own_f : f (0 + n) ≡ f n = ap f (omega arith) in
    let own_g : g (0 + n) ≡ g n = ap g (omega arith) in
    elim (cases_eq n place) as (λ _. sum_from f 0 (suc n) + g place ≡ sum_from g 0 (suc n) + f place) [
      | inl here ↦
          omega (arith, own_f, own_g, ap f here, ap g here, sum_same f g 0 n (λ k from below. same k (omega (arith, below)) (λ e. omega (arith, below, e, here))))
      | inr apart ↦
          omega (
            arith,
            own_f,
            own_g,
            same n (omega arith) apart,
            sum_changed f g place n (low apart) (λ k below other. same k (omega (arith, below)) other),
          )
    ]
  where
    low : (n ≡ place → ⊥) → place < n
    low apart = elim (cases_eq n place) as (λ _. place < n) [
      | inl here ↦ absurd (apart here)
      | inr other ↦ omega (arith, within, other)
    ]

one_of_sum : (f : ℕ → ℕ) (place n : ℕ) → place < n → f place ≤ sum_from f 0 n
one_of_sum f place zero within = absurd (omega (arith, within))
one_of_sum f place (suc n) within =
    let own : f (0 + n) ≡ f n = ap f (omega arith) in
    elim (cases_eq n place) as (λ _. f place ≤ sum_from f 0 (suc n)) [
      | inl here ↦ omega (arith, own, ap f here)
      | inr apart ↦ omega (arith, one_of_sum f place n (low apart))
    ]
  where
    low : (n ≡ place → ⊥) → place < n
    low apart = elim (cases_eq n place) as (λ _. place < n) [
      | inl here ↦ absurd (apart here)
      | inr other ↦ omega (arith, within, other)
    ]

-- ---- one unit's entry changes
-- what a unit costs at least where nothing is fixed of it and no packet is charged
abbrev pub free_least : Table → (unit : ℕ) → ℕ
free_least table unit = least_cost [] (unit_of table unit) None

free_set : (table : Table) (order : List DueUnit) (places : List ℕ) (fixed : List (Option ℕ)) (unit : ℕ) (entry : Option ℕ) → ArePlaces order places (length order)
    → IsAt order places unit → unit < length fixed
    → free_sum table order fixed + where_free entry (free_least table unit) ≡ free_sum table order (set fixed unit entry) + where_free (get_or fixed unit None) (free_least table unit)
free_set table order places fixed unit entry are at within =
    let place : ℕ = get_or places unit 0 in
    let before : ℕ → ℕ = free_cost table order fixed [] in
    let after : ℕ → ℕ = free_cost table order (set fixed unit entry) [] in
    let old : before place ≡ where_free (get_or fixed unit None) (free_least table unit) = ap (λ (u : ℕ). where_free (get_or fixed u None) (free_least table u)) at.own in
    let new : after place ≡ where_free entry (free_least table unit) =
    ap (λ (u : ℕ). where_free (get_or (set fixed unit entry) u None) (free_least table u)) at.own
    ∙ ap (λ (e : Option ℕ). where_free e (free_least table unit)) (get_or-set_same fixed unit entry None within) in
    omega (arith, old, new, sum_changed before after place (length order) at.within (λ k below apart. others k below apart))
  where
    others : (k : ℕ) → k < length order → (k ≡ get_or places unit 0 → ⊥) → free_cost table order fixed [] k ≡ free_cost table order (set fixed unit entry) [] k
    others k below apart =
        let other : unit_at order k ≡ unit → ⊥ = λ e. apart (sym (are k below) ∙ ap (λ (u : ℕ). get_or places u 0) e) in
        ap (λ (e : Option ℕ). where_free e (free_least table (unit_at order k))) (sym (get_or-set_other fixed unit (unit_at order k) entry None other))

none_where_some : (entry : Option ℕ) (amount : ℕ) → is_some entry ≡ true → where_free entry amount ≡ 0
none_where_some None amount is = absurd (false≢true is)
none_where_some (Some k) amount is = refl

-- a free unit is in the sum
pub free_within : (table : Table) (order : List DueUnit) (places : List ℕ) (fixed : List (Option ℕ)) (unit : ℕ) → IsAt order places unit → IsFree fixed unit
    → free_least table unit ≤ free_sum table order fixed
free_within table order places fixed unit at free =
    omega (
      arith,
      one_of_sum (free_cost table order fixed []) (get_or places unit 0) (length order) at.within,
      ap (λ (u : ℕ). where_free (get_or fixed u None) (free_least table u)) at.own,
      ap (λ (e : Option ℕ). where_free e (free_least table unit)) free,
    )

pub free_entered : (table : Table) (order : List DueUnit) (places : List ℕ) (fixed : List (Option ℕ)) (unit k : ℕ) → ArePlaces order places (length order) → IsAt order places unit
    → unit < length fixed → IsFree fixed unit → free_sum table order fixed ≡ free_sum table order (fix unit k fixed) + free_least table unit
free_entered table order places fixed unit k are at within free =
    omega (arith, free_set table order places fixed unit (Some k) are at within, ap (λ (e : Option ℕ). where_free e (free_least table unit)) free)

pub free_fixed : (table : Table) (order : List DueUnit) (places : List ℕ) (fixed : List (Option ℕ)) (unit k : ℕ) → ArePlaces order places (length order) → IsAt order places unit
    → unit < length fixed → is_some (get_or fixed unit None) ≡ true → free_sum table order fixed ≡ free_sum table order (fix unit k fixed)
free_fixed table order places fixed unit k are at within some =
    omega (arith, free_set table order places fixed unit (Some k) are at within, none_where_some (get_or fixed unit None) (free_least table unit) some)

pub free_left : (table : Table) (order : List DueUnit) (places : List ℕ) (fixed : List (Option ℕ)) (unit : ℕ) → ArePlaces order places (length order) → IsAt order places unit
    → unit < length fixed → is_some (get_or fixed unit None) ≡ true → free_sum table order fixed + free_least table unit ≡ free_sum table order (unfix unit fixed)
free_left table order places fixed unit are at within some =
    omega (arith, free_set table order places fixed unit None are at within, none_where_some (get_or fixed unit None) (free_least table unit) some)

-- ---- where nothing is fixed
pub charging_none : AreCharging []
charging_none = record { few = omega arith; lambdas = λ k d within. absurd (omega (arith, within)) }

pub unfixed_cost : (table : Table) (unit : ℕ) → cost_of_number table [] (unfixed table) unit ≡ free_least table unit
unfixed_cost table unit = ap (least_cost [] (unit_of table unit)) (unfixed_at (units_of table) unit)

where_le : (entry : Option ℕ) (amount : ℕ) → where_free entry amount ≤ amount
where_le None amount = omega arith
where_le (Some k) amount = omega arith

-- the sum of all units, by their places
all_by_places : (table : Table) (order : List DueUnit)
    → sum_by (λ at. cost_of_number table [] (unfixed table) at.unit) order ≡ sum_from (λ p. cost_of_number table [] (unfixed table) (unit_at order p)) 0 (length order)
all_by_places table order =
    ap (sum_by (λ (at : DueUnit). cost_of_number table [] (unfixed table) at.unit)) (sym (take_all (length order) order (omega arith)))
    ∙ by_places (λ (at : DueUnit). cost_of_number table [] (unfixed table) at.unit) order (length order) (omega arith)

pub all_free : (table : Table) (order : List DueUnit) → sum_by (λ at. cost_of_number table [] (unfixed table) at.unit) order ≡ free_sum table order (unfixed table)
all_free table order =
    all_by_places table order
    ∙ sum_same (λ p. cost_of_number table [] (unfixed table) (unit_at order p)) (free_cost table order (unfixed table) []) 0 (length order) (λ p from below. at_place p)
  where
    at_place : (p : ℕ) → cost_of_number table [] (unfixed table) (unit_at order p) ≡ free_cost table order (unfixed table) [] p
    at_place p =
        unfixed_cost table (unit_at order p) ∙ ap (λ (e : Option ℕ). where_free e (free_least table (unit_at order p))) (sym (unfixed_at (units_of table) (unit_at order p)))

pub free_fits : (table : Table) (order : List DueUnit) (fixed : List (Option ℕ)) → IsValidTable table → IsDueOrder table order → free_sum table order fixed < 2 ^ 85
free_fits table order fixed valid is =
    omega (
      arith,
      sum_le (free_cost table order fixed []) (λ p. cost_of_number table [] (unfixed table) (unit_at order p)) 0 (length order) (λ p. at_place p),
      all_by_places table order,
      costs_in_order table order [] (unfixed table) is (fixes_nothing (units_of table)),
      all_costs-fit [] table (unfixed table) charging_none valid (fixes_nothing (units_of table)),
    )
  where
    at_place : (p : ℕ) → free_cost table order fixed [] p ≤ cost_of_number table [] (unfixed table) (unit_at order p)
    at_place p = omega (arith, where_le (get_or fixed (unit_at order p) None) (free_least table (unit_at order p)), unfixed_cost table (unit_at order p))

-- ---- a unit's own
pub least_is : (table : Table) (unit : ℕ) (coded : CodedUnit) (made : ℕ) → coded ≡ unit_of table unit → made ≡ least (map (cost 0) (allowed coded None)) → made ≡ free_least table unit
unfolding least_cost price
least_is table unit coded made coded_is made_is = made_is ∙ ap (λ (u : CodedUnit). least (map (cost 0) (allowed u None))) coded_is

-- ---- a node without windows
pub without_windows : (table : Table) (order : List DueUnit) (fixed : List (Option ℕ)) (windows : List PricedWindow) (told : ℕ) → told ≡ free_sum table order fixed → length windows ≡ 0
    → told ≡ sum_from (free_cost table order fixed windows) 0 (length order)
without_windows table order fixed [] told is none = is
without_windows table order fixed (window ∷ windows) told is none = absurd (omega (arith, none))
