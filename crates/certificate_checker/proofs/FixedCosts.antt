-- What units cost at least, summed apart for those of which nothing is fixed and for those of which a version is.
use Rattle.std.proofs.Common.{◌≡◌, ℕ, zero, suc, ◌+◌, ◌-◌, ◌*◌, ◌^◌, ◌<◌, ◌≤◌, Bool, true, false, ◌&&◌, cond, nat_le, nat_lt, is_some}
use Rattle.std.proofs.Common.{List, length, take, get_or, sum_by, Option, Some, None, refl, sym, ap, subst, ◌∙◌, inl, inr, arith}
use Rattle.std.proofs.lemmas.Bool.{and_from, and_left, and_parts, and_right, cases_lt, false≢true, true≢false, le-leb, lt-leb, lt-ltb}
use Rattle.std.proofs.lemmas.List.{take_all}
use Rattle.std.proofs.lemmas.List.Sums.{sum_by-take-le, sum_by_more}
use Rattle.version_table.specs.declared.table.Unit.{Unit as CodedUnit}
use Rattle.version_table.specs.declared.table.Table.{Table}
use Rattle.version_table.specs.Table.{IsValidTable, units_of}
use Rattle.dual_bounds.specs.declared.constants.TheConstants.{DISTORTION_PARTS}
use Rattle.dual_bounds.specs.declared.windows.Window.{Window as PricedWindow}
use Rattle.dual_bounds.specs.Fixed.{FixesVersions}
use Rattle.dual_bounds.specs.Private.Costs.{AreCharging}
use Rattle.dual_bounds.specs.Room.{is_within}
use Rattle.dual_bounds.specs.Values.{charge, least_cost, least_costs, packet_count, price}
use Rattle.dual_bounds.proofs.LeastCosts.{all_costs-fit}
use Rattle.certificate_checker.specs.declared.order.DueUnit.{DueUnit}
use Rattle.certificate_checker.specs.declared.tally.Tally.{Tally}
use Rattle.certificate_checker.specs.Private.FixedCosts.{SplitsBefore, SplitsBy, charged_at, due_at, packets_within}
use Rattle.certificate_checker.specs.Private.Neighbours.{AreLinked, IsNext}
use Rattle.certificate_checker.specs.Private.Order.{unit_of}
use Rattle.certificate_checker.specs.Private.PlaceSums.{number_at}
use Rattle.sum_tree.specs.Nodes.{sum_from}
use Rattle.certificate_checker.specs.Private.Tallies.{IsTally, fixed_of, free_cost, is_out, unit_at, version_fixed, where_free}
use Rattle.certificate_checker.proofs.OrderCosts.{cost_of_number, costs_in_order, no_place}
use Rattle.certificate_checker.proofs.SumTrees.{sum_joined, sum_same}

-- ---- sums
pub sum_plus : (f g : ℕ → ℕ) (a n : ℕ) → sum_from (λ k. f k + g k) a n ≡ sum_from f a n + sum_from g a n
sum_plus f g a zero = refl
sum_plus f g a (suc n) = omega (arith, sum_plus f g a n)

sum_times : (c : ℕ) (f : ℕ → ℕ) (a n : ℕ) → sum_from (λ k. c * f k) a n ≡ c * sum_from f a n
sum_times c f a zero = omega arith
sum_times c f a (suc n) = omega (arith, sum_times c f a n)

pub sum_none : (f : ℕ → ℕ) (a n : ℕ) → ((k : ℕ) → a ≤ k → k < a + n → f k ≡ 0) → sum_from f a n ≡ 0
sum_none f a zero none = refl
sum_none f a (suc n) none = omega (arith, sum_none f a n (λ k from below. none k from (omega (arith, below))), none (a + n) (omega arith) (omega arith))

pub sum_le : (f g : ℕ → ℕ) (a n : ℕ) → ((k : ℕ) → f k ≤ g k) → sum_from f a n ≤ sum_from g a n
sum_le f g a zero least = omega arith
sum_le f g a (suc n) least = omega (arith, sum_le f g a n least, least (a + n))

pub by_places : (f : DueUnit → ℕ) (order : List DueUnit) (n : ℕ) → n ≤ length order → sum_by f (take n order) ≡ sum_from (λ p. f (get_or order p no_place)) 0 n
by_places f order zero within = refl
by_places f order (suc n) within =
    let next : suc n ≡ n + 1 = omega arith in
    let split : sum_by f (take (suc n) order) ≡ sum_by f (take (n + 1) order) = ap (λ (k : ℕ). sum_by f (take k order)) next in
    let last : f (get_or order (0 + n) no_place) ≡ f (get_or order n no_place) = ap (λ (k : ℕ). f (get_or order k no_place)) (omega arith) in
    omega (arith, split, sum_by_more f order n no_place (omega (arith, within)), by_places f order n (omega (arith, within)), last)

-- ---- the parts of what a unit costs
cost_parts : (windows : List PricedWindow) (unit : CodedUnit) (entry : Option ℕ)
    → least_cost windows unit entry
    ≡ where_free entry (least_cost windows unit None) + DISTORTION_PARTS * (version_fixed unit entry).distortion + packet_count (version_fixed unit entry) * price windows unit.due
unfolding least_cost
cost_parts windows unit None =
    let none : packet_count (record { bytes = 0; distortion = 0 }) ≡ 0 = refl in
    let uncharged : packet_count (record { bytes = 0; distortion = 0 }) * price windows unit.due ≡ 0 * price windows unit.due = ap (λ (n : ℕ). n * price windows unit.due) none in
    omega (arith, uncharged)
cost_parts windows unit (Some k) = omega arith

pub costs_apart : (table : Table) (fixed : List (Option ℕ)) (innermost : List ℕ) (tally : Tally) (windows : List PricedWindow) → IsTally table fixed innermost tally → FixesVersions table fixed
    → least_costs windows (units_of table) fixed
    ≡ sum_from (free_cost table tally.order.items fixed windows) 0 (length tally.order.items) + DISTORTION_PARTS * sum_from (number_at tally.distortions) 0 (length tally.order.items)
    + sum_from (charged_at tally windows) 0 (length tally.order.items)
costs_apart table fixed innermost tally windows is fixes =
    let whole : sum_by (λ (at : DueUnit). cost_of_number table windows fixed at.unit) order ≡ sum_from (λ p. cost_of_number table windows fixed (unit_at order p)) 0 n =
    ap (sum_by (λ (at : DueUnit). cost_of_number table windows fixed at.unit)) (sym (take_all n order (omega arith)))
    ∙ by_places (λ (at : DueUnit). cost_of_number table windows fixed at.unit) order n (omega arith) in
    let parts : sum_from (λ p. cost_of_number table windows fixed (unit_at order p)) 0 n
    ≡ sum_from (λ p. (free p + DISTORTION_PARTS * number_at tally.distortions p) + charged_at tally windows p) 0 n =
    sum_same (λ p. cost_of_number table windows fixed (unit_at order p)) (λ p. (free p + DISTORTION_PARTS * number_at tally.distortions p) + charged_at tally windows p) 0 n
    (λ p from below. at_place p (omega (arith, below))) in
    omega (
      arith,
      whole,
      parts,
      costs_in_order table order windows fixed is.order fixes,
      sum_plus (λ p. free p + DISTORTION_PARTS * number_at tally.distortions p) (charged_at tally windows) 0 n,
      sum_plus free (λ p. DISTORTION_PARTS * number_at tally.distortions p) 0 n,
      sum_times DISTORTION_PARTS (number_at tally.distortions) 0 n,
    )
  where
    order : List DueUnit
    order = tally.order.items

    n : ℕ
    n = length order

    free : ℕ → ℕ
    free = free_cost table order fixed windows

    at_place : (p : ℕ) → p < n → cost_of_number table windows fixed (unit_at order p) ≡ (free p + DISTORTION_PARTS * number_at tally.distortions p) + charged_at tally windows p
    at_place p within =
        let unit : ℕ = unit_at order p in
        let distortion = is.distortions.each p within in
        let due : due_at order p ≡ (unit_of table unit).due = (is.order.placed p no_place within).due in
        let charged : packet_count (fixed_of table fixed unit) * price windows (unit_of table unit).due ≡ charged_at tally windows p =
        ap (λ (c : ℕ). c * price windows (unit_of table unit).due) (sym (is.packets.each p within)) ∙ ap (λ (t : ℕ). number_at tally.packets p * price windows t) (sym due) in
        omega (arith, cost_parts windows (unit_of table unit) (get_or fixed unit None), distortion, charged)

-- each part is small
pub record AreSmall (table : Table) (fixed : List (Option ℕ)) (tally : Tally) (windows : List PricedWindow) : Type 0 where
  pub is : least_costs windows (units_of table) fixed
      ≡ sum_from (free_cost table tally.order.items fixed windows) 0 (length tally.order.items) + DISTORTION_PARTS * sum_from (number_at tally.distortions) 0 (length tally.order.items)
      + sum_from (charged_at tally windows) 0 (length tally.order.items)
  pub small : least_costs windows (units_of table) fixed < 2 ^ 85

pub parts_small : (table : Table) (fixed : List (Option ℕ)) (innermost : List ℕ) (tally : Tally) (windows : List PricedWindow) → IsTally table fixed innermost tally → FixesVersions table fixed
    → IsValidTable table → AreCharging windows → AreSmall table fixed tally windows
parts_small table fixed innermost tally windows is fixes valid charging =
    record { is = costs_apart table fixed innermost tally windows is fixes; small = all_costs-fit windows table fixed charging valid fixes }

-- ---- the packets in a window
pub range_within : (tally : Tally) (from due first end : ℕ) → from ≤ due → SplitsBefore from tally.order.items first → SplitsBy due tally.order.items end
    → (first ≤ end) × (sum_from (number_at tally.packets) first (end - first) ≡ sum_from (packets_within tally from due) 0 (length tally.order.items))
range_within tally from due first end some before by = (goes, whole)
  where
    order : List DueUnit
    order = tally.order.items

    n : ℕ
    n = length order

    in_window : ℕ → ℕ
    in_window = packets_within tally from due

    test : ℕ → Bool
    test p = is_within from due (due_at order p)

    goes : first ≤ end
    goes = elim (cases_lt end first) as (λ _. first ≤ end) [
      | inl less ↦ absurd (omega (arith, by.others end (omega arith) (omega (arith, less, before.within)), before.before end less, some))
      | inr more ↦ more
    ]

    early : (p : ℕ) → p < first → in_window p ≡ 0
    early p low = let fails : test p ≡ false = and_left (nat_le from (due_at order p)) (nat_le (due_at order p) due) (lt-leb from (due_at order p) (before.before p low)) in rw fails refl

    late : (p : ℕ) → end ≤ p → p < n → in_window p ≡ 0
    late p high within =
        let fails : test p ≡ false = and_right (nat_le from (due_at order p)) (nat_le (due_at order p) due) (lt-leb (due_at order p) due (by.others p high within)) in
        rw fails refl

    inside : (p : ℕ) → first ≤ p → p < end → in_window p ≡ number_at tally.packets p
    inside p high low =
        let left : nat_le from (due_at order p) ≡ true = le-leb from (due_at order p) (before.others p high (omega (arith, low, by.within))) in
        let right : nat_le (due_at order p) due ≡ true = le-leb (due_at order p) due (by.by p low) in
        let holds : test p ≡ true = and_from (nat_le from (due_at order p)) (nat_le (due_at order p) due) left right in
        rw holds refl

    whole : sum_from (number_at tally.packets) first (end - first) ≡ sum_from in_window 0 n
    whole =
        let ends = by.within in
        let all : sum_from in_window 0 n ≡ sum_from in_window 0 (end + (n - end)) = ap (sum_from in_window 0) (omega (arith, ends)) in
        let front : sum_from in_window 0 end ≡ sum_from in_window 0 (first + (end - first)) = ap (sum_from in_window 0) (omega (arith, goes)) in
        omega (
          arith,
          all,
          front,
          sum_joined in_window 0 end (n - end),
          sum_joined in_window 0 first (end - first),
          sum_none in_window 0 first (λ p least low. early p (omega (arith, low))),
          sum_none in_window (0 + end) (n - end) (λ p least low. late p (omega (arith, least)) (omega (arith, low, ends))),
          ap (λ (a : ℕ). sum_from in_window a (end - first)) zero_first,
          sum_same in_window (number_at tally.packets) first (end - first) (λ p least low. inside p least (omega (arith, low, goes))),
        )
      where
        zero_first : 0 + first ≡ first
        zero_first = omega arith

-- ---- what the windows charge
times_in : (b : Bool) (lambda packets : ℕ) → packets * cond b lambda 0 ≡ lambda * cond b packets 0
times_in true lambda packets = omega arith
times_in false lambda packets = omega arith

price_more : (windows : List PricedWindow) (i : ℕ) (window d : PricedWindow) → i < length windows → window ≡ get_or windows i d → (time : ℕ)
    → price (take (i + 1) windows) time ≡ price (take i windows) time + charge time window
unfolding price
price_more windows i window d within is time = omega (arith, sum_by_more (charge time) windows i d within, ap (charge time) is)

price_le : (windows : List PricedWindow) (i time : ℕ) → price (take i windows) time ≤ price windows time
unfolding price
price_le windows i time = sum_by-take-le (charge time) windows i

no_price : (windows : List PricedWindow) (time : ℕ) → price (take 0 windows) time ≡ 0
unfolding price
no_price windows time = refl

pub one_window_more : (tally : Tally) (windows : List PricedWindow) (i : ℕ) (window d : PricedWindow) → i < length windows → window ≡ get_or windows i d
    → sum_from (charged_at tally (take (i + 1) windows)) 0 (length tally.order.items)
    ≡ sum_from (charged_at tally (take i windows)) 0 (length tally.order.items)
    + window.lambda * sum_from (packets_within tally window.from window.due) 0 (length tally.order.items)
one_window_more tally windows i window d within is =
    omega (
      arith,
      sum_same (charged_at tally (take (i + 1) windows)) (λ p. charged_at tally (take i windows) p + window.lambda * packets_within tally window.from window.due p) 0 n (λ p from below. at_place p),
      sum_plus (charged_at tally (take i windows)) (λ p. window.lambda * packets_within tally window.from window.due p) 0 n,
      sum_times window.lambda (packets_within tally window.from window.due) 0 n,
    )
  where
    n : ℕ
    n = length tally.order.items

    at_place : (p : ℕ) → charged_at tally (take (i + 1) windows) p ≡ charged_at tally (take i windows) p + window.lambda * packets_within tally window.from window.due p
    at_place p =
        let time : ℕ = due_at tally.order.items p in
        let packets : ℕ = number_at tally.packets p in
        let split : packets * price (take (i + 1) windows) time ≡ packets * (price (take i windows) time + charge time window) =
        ap (λ (c : ℕ). packets * c) (price_more windows i window d within is time) in
        omega (arith, split, times_in (is_within window.from window.due time) window.lambda packets)

pub windows_less : (tally : Tally) (windows : List PricedWindow) (i : ℕ)
    → sum_from (charged_at tally (take i windows)) 0 (length tally.order.items) ≤ sum_from (charged_at tally windows) 0 (length tally.order.items)
windows_less tally windows i =
    let each : (p : ℕ) → charged_at tally (take i windows) p ≤ charged_at tally windows p = λ p.
    times_le (number_at tally.packets p) (price (take i windows) (due_at tally.order.items p)) (price windows (due_at tally.order.items p)) (price_le windows i (due_at tally.order.items p)) in
    sum_le (charged_at tally (take i windows)) (charged_at tally windows) 0 (length tally.order.items) each
  where
    times_le : (n a b : ℕ) → a ≤ b → n * a ≤ n * b
    times_le zero a b le = omega arith
    times_le (suc n) a b le = omega (arith, times_le n a b le, le)

pub no_window : (tally : Tally) (windows : List PricedWindow) → 0 ≡ sum_from (charged_at tally (take 0 windows)) 0 (length tally.order.items)
no_window tally windows =
    let none : (p : ℕ) → charged_at tally (take 0 windows) p ≡ 0 = λ p.
    (let free = ap (λ (c : ℕ). number_at tally.packets p * c) (no_price windows (due_at tally.order.items p)) in omega (arith, free)) in
    sym (sum_none (charged_at tally (take 0 windows)) 0 (length tally.order.items) (λ p from below. none p))

-- ---- from one free place to the next
pub none_between : (table : Table) (order : List DueUnit) (fixed : List (Option ℕ)) (windows : List PricedWindow) (place : ℕ) → is_out order fixed (suc place) ≡ true
    → free_cost table order fixed windows place ≡ 0
none_between table order fixed windows place out =
    let some : is_some (get_or fixed (unit_at order place) None) ≡ true = (and_parts (nat_lt place (length order)) (is_some (get_or fixed (unit_at order place) None)) out).1 in
    free_none (get_or fixed (unit_at order place) None) some
  where
    free_none : (entry : Option ℕ) → is_some entry ≡ true → where_free entry (least_cost windows (unit_of table (unit_at order place)) None) ≡ 0
    free_none None is = absurd (false≢true is)
    free_none (Some k) is = refl

-- where nothing is fixed of a unit, it costs what it costs
pub free_is : (table : Table) (order : List DueUnit) (fixed : List (Option ℕ)) (windows : List PricedWindow) (place : ℕ) → place < length order → is_out order fixed (suc place) ≡ false
    → free_cost table order fixed windows place ≡ cost_of_number table windows fixed (unit_at order place)
free_is table order fixed windows place within in_row =
    let entry : Option ℕ = get_or fixed (unit_at order place) None in
    let test : nat_lt place (length order) ≡ true = lt-ltb place (length order) within in
    let none : is_some entry ≡ false = sym (ap (λ (b : Bool). b && is_some entry) test) ∙ in_row in
    free_same entry none
  where
    free_same : (entry : Option ℕ) → is_some entry ≡ false
        → where_free entry (least_cost windows (unit_of table (unit_at order place)) None) ≡ least_cost windows (unit_of table (unit_at order place)) entry
    free_same None is = refl
    free_same (Some k) is = absurd (true≢false is)

-- the next free place, and that nothing is left out before it
pub record IsOnTo (table : Table) (order : List DueUnit) (fixed : List (Option ℕ)) (windows : List PricedWindow) (p q : ℕ) : Type 0 where
  pub goes : p < q
  pub within : q ≤ length order + 1
  pub in_row : is_out order fixed q ≡ false
  pub sum : sum_from (free_cost table order fixed windows) 0 (q - 1) ≡ sum_from (free_cost table order fixed windows) 0 p

pub on_to : (table : Table) (order : List DueUnit) (fixed : List (Option ℕ)) (windows : List PricedWindow) (next previous : List ℕ) (p : ℕ)
    → AreLinked (is_out order fixed) (length order) next previous → p ≤ length order → is_out order fixed p ≡ false → IsOnTo table order fixed windows p (get_or next p 0)
on_to table order fixed windows next previous p linked low in_row = record {
  goes = is.goes;
  within = is.within;
  in_row = is.last;
  sum = omega (
    arith,
    ap (sum_from free 0) size,
    sum_joined free 0 p ((q - 1) - p),
    sum_none free (0 + p) ((q - 1) - p) (λ k from below. none_between table order fixed windows k (is.between (suc k) (omega (arith, from)) (omega (arith, below, is.goes)))),
  );
}
  where
    q : ℕ
    q = get_or next p 0

    free : ℕ → ℕ
    free = free_cost table order fixed windows

    is : IsNext (is_out order fixed) (length order) p q
    is = linked.nexts p low in_row

    size : q - 1 ≡ p + ((q - 1) - p)
    size = omega (arith, is.goes)

-- one place more, and so far
pub one_place : (f : ℕ → ℕ) (place : ℕ) → 1 ≤ place → sum_from f 0 place ≡ sum_from f 0 (place - 1) + f (place - 1)
one_place f zero some = absurd (omega (arith, some))
one_place f (suc m) some =
    let before : sum_from f 0 (suc m - 1) ≡ sum_from f 0 m = ap (sum_from f 0) (omega arith) in
    let last : f (suc m - 1) ≡ f m = ap f (omega arith) in
    let own : f (0 + m) ≡ f m = ap f (omega arith) in
    omega (arith, before, last, own)

pub so_far : (f : ℕ → ℕ) (place n : ℕ) → place ≤ n → sum_from f 0 place ≤ sum_from f 0 n
so_far f place n within =
    let size : place + (n - place) ≡ n = omega (arith, within) in
    omega (arith, ap (sum_from f 0) size, sum_joined f 0 place (n - place))

-- the unit at a place that isn't taken out: what it costs is what is summed
pub free_at : (table : Table) (order : List DueUnit) (fixed : List (Option ℕ)) (windows : List PricedWindow) (place : ℕ) → 1 ≤ place → place ≤ length order → is_out order fixed place ≡ false
    → free_cost table order fixed windows (place - 1) ≡ cost_of_number table windows fixed (unit_at order (place - 1))
free_at table order fixed windows zero some within in_row = absurd (omega (arith, some))
free_at table order fixed windows (suc m) some within in_row =
    let same : suc m - 1 ≡ m = omega arith in
    subst (λ (k : ℕ). free_cost table order fixed windows k ≡ cost_of_number table windows fixed (unit_at order k)) (sym same)
    (free_is table order fixed windows m (omega (arith, within)) in_row)
