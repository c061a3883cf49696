-- What a choice costs where packets are charged: its distortion, and the charges window by window.
use Rattle.std.proofs.Common.{
  ◌≡◌,
  ℕ,
  ◌+◌,
  ◌-◌,
  ◌*◌,
  ◌<◌,
  ◌≤◌,
  Bool,
  true,
  false,
  cond,
  List,
  [],
  ◌∷◌,
  length,
  map,
  take,
  get_or,
  fold,
  sum,
  sum_by,
  Option,
  Some,
  None,
  refl,
  ap,
  ◌∙◌,
  mul-add,
  mul-zero,
  mul_comm,
  negsuc,
  mul-le-mul_left,
  arith,
  ℤ,
  pos,
  ◌+ℤ◌,
  ◌-ℤ◌,
  ◌*ℤ◌,
  ◌≤ℤ◌,
}
use lib.IntN.{pos-*ℤ-pos}
use Rattle.std.specs.List.{AllZip, zip}
use Rattle.std.proofs.lemmas.Int.{ints}
use Rattle.std.proofs.lemmas.List.{get_or-map, length-map, map_more}
use Rattle.std.proofs.lemmas.List.Sums.{fold_push, sum_by-cons}
use Rattle.version_table.specs.declared.table.Unit.{Unit as CodedUnit}
use Rattle.version_table.specs.declared.table.Table.{Table}
use Rattle.version_table.specs.Choice.{HasVersion, version_at, chosen_distortions, least}
use Rattle.dual_bounds.specs.declared.constants.TheConstants.{DISTORTION_PARTS}
use Rattle.dual_bounds.specs.declared.windows.Window.{Window}
use Rattle.dual_bounds.specs.Bounds.{bound_of_value}
use Rattle.dual_bounds.specs.Fixed.{Takes}
use Rattle.dual_bounds.specs.Room.{is_within, free_slots, audio_due, room}
use Rattle.dual_bounds.specs.Values.{charge, cost, least_cost, least_costs, packet_count, price, worth}
use Rattle.version_table.proofs.Least.{least-le}
use Rattle.dual_bounds.proofs.UnitPackets.{Chosen, packets_due}

-- ---- a unit costs at least its least cost
pub least_cost-le : (windows : List Window) (unit : CodedUnit) (fixed : Option ℕ) (k : ℕ) → HasVersion unit k → Takes fixed k
    → least_cost windows unit fixed ≤ cost (price windows unit.due) (version_at unit k)
unfolding least_cost
least_cost-le windows unit None k has takes =
    let versions = unit.versions.items in
    let own = cost (price windows unit.due) in
    let at : get_or (map own versions) k 0 ≡ own (version_at unit k) = get_or-map own versions k (record { bytes = 0; distortion = 0 }) 0 has in
    omega (arith, at, least-le (map own versions) k (omega (arith, length-map versions own)))
least_cost-le windows unit (Some fixed) k has takes =
    let own = cost (price windows unit.due) in
    omega (arith, ap (λ j. own (version_at unit j)) takes)

-- what the packets of a unit in its version are charged
abbrev pub charged : List Window → Chosen → ℕ
charged windows chosen = packet_count (version_at chosen.0 chosen.1) * price windows chosen.0.due

pub least_costs-le : (windows : List Window) (units : List CodedUnit) (fixed : List (Option ℕ)) (choice : List ℕ) → AllZip HasVersion units choice → AllZip Takes fixed choice
    → least_costs windows units fixed ≤ DISTORTION_PARTS * sum (chosen_distortions units choice) + sum_by (charged windows) (zip units choice)
unfolding least_costs
least_costs-le windows [] fixed choice fits takes = omega arith
least_costs-le windows (unit ∷ units) fixed [] fits takes = absurd fits
least_costs-le windows (unit ∷ units) [] (k ∷ choice) fits takes = absurd takes
least_costs-le windows (unit ∷ units) (entry ∷ fixed) (k ∷ choice) fits takes =
    omega (
      arith,
      sum_by-cons (λ (x : CodedUnit × Option ℕ). least_cost windows x.0 x.1) (unit, entry) (zip units fixed),
      sum_by-cons (λ x. x) (version_at unit k).distortion (chosen_distortions units choice),
      sum_by-cons (charged windows) (unit, k) (zip units choice),
      least_cost-le windows unit entry k fits.0 takes.0,
      least_costs-le windows units fixed choice fits.1 takes.1,
    )

-- ---- charges unit by unit are charges window by window
charged-none : (chosen : List Chosen) → sum_by (charged []) chosen ≡ 0
unfolding price
charged-none [] = refl
charged-none (one ∷ chosen) =
    omega (arith, sum_by-cons (charged []) one chosen, charged-none chosen, mul-zero (packet_count (version_at one.0 one.1)))

one_more : (packets lambda others : ℕ) (within : Bool) → packets * (cond within lambda 0 + others) ≡ lambda * cond within packets 0 + packets * others
one_more packets lambda others true = mul-add packets lambda others ∙ ap (λ n. n + packets * others) (let turned : packets * lambda ≡ lambda * packets = mul_comm packets lambda in turned)
one_more packets lambda others false = omega (arith, mul-zero lambda, ap (λ n. packets * n) (let same : 0 + others ≡ others = omega arith in same))

pub price-more : (window : Window) (windows : List Window) (time : ℕ) → price (window ∷ windows) time ≡ charge time window + price windows time
unfolding price
price-more window windows time = sum_by-cons (charge time) window windows

charged-more : (window : Window) (windows : List Window) (chosen : List Chosen)
    → sum_by (charged (window ∷ windows)) chosen ≡ window.lambda * sum_by (packets_due window.from window.due) chosen + sum_by (charged windows) chosen
charged-more window windows [] = omega (arith, mul-zero window.lambda)
charged-more window windows (one ∷ chosen) =
    let packets = packet_count (version_at one.0 one.1) in
    let others = price windows one.0.due in
    let here : charged (window ∷ windows) one ≡ window.lambda * packets_due window.from window.due one + packets * others =
    ap (λ n. packets * n) (price-more window windows one.0.due) ∙ one_more packets window.lambda others (is_within window.from window.due one.0.due) in
    let due = sum_by (packets_due window.from window.due) chosen in
    let split : window.lambda * sum_by (packets_due window.from window.due) (one ∷ chosen) ≡ window.lambda * packets_due window.from window.due one + window.lambda * due =
    ap (λ n. window.lambda * n) (sum_by-cons (packets_due window.from window.due) one chosen) ∙ mul-add window.lambda (packets_due window.from window.due one) due in
    omega (
      arith,
      sum_by-cons (charged (window ∷ windows)) one chosen,
      sum_by-cons (charged windows) one chosen,
      here,
      split,
      charged-more window windows chosen,
    )

-- ---- the worth of the windows' room, window by window
pub fold-from : (a : ℤ) (numbers : List ℤ) → fold ◌+ℤ◌ a numbers ≡ a +ℤ fold ◌+ℤ◌ (pos 0) numbers
fold-from a [] = omega (arith, ints)
fold-from a (n ∷ numbers) =
    let first : fold ◌+ℤ◌ (a +ℤ n) numbers ≡ (a +ℤ n) +ℤ fold ◌+ℤ◌ (pos 0) numbers = fold-from (a +ℤ n) numbers in
    let second : fold ◌+ℤ◌ (pos 0 +ℤ n) numbers ≡ (pos 0 +ℤ n) +ℤ fold ◌+ℤ◌ (pos 0) numbers = fold-from (pos 0 +ℤ n) numbers in
    omega (arith, ints)

pub worth_none : (table : Table) → worth table [] ≡ pos 0
unfolding worth
worth_none table = refl

-- the windows up to a place, and one more
pub worth_next : (table : Table) (windows : List Window) (i : ℕ) (d : Window) → i < length windows
    → worth table (take (i + 1) windows) ≡ worth table (take i windows) +ℤ pos (get_or windows i d).lambda *ℤ room table (get_or windows i d).from (get_or windows i d).due
unfolding worth
worth_next table windows i d within =
    let each : Window → ℤ = λ w. pos w.lambda *ℤ room table w.from w.due in
    ap (fold ◌+ℤ◌ (pos 0)) (map_more each windows i d within) ∙ fold_push ◌+ℤ◌ (pos 0) (map each (take i windows)) (each (get_or windows i d))

pub worth-more : (table : Table) (window : Window) (windows : List Window)
    → worth table (window ∷ windows) ≡ pos window.lambda *ℤ room table window.from window.due +ℤ worth table windows
unfolding worth
worth-more table window windows =
    let own = pos window.lambda *ℤ room table window.from window.due in
    let rest = map (λ (w : Window). pos w.lambda *ℤ room table w.from w.due) windows in
    let first : fold ◌+ℤ◌ (pos 0 +ℤ own) rest ≡ (pos 0 +ℤ own) +ℤ fold ◌+ℤ◌ (pos 0) rest = fold-from (pos 0 +ℤ own) rest in
    omega (arith, ints)

room-at_least : (table : Table) (from due lambda packets : ℕ) → packets + audio_due table from due ≤ free_slots table from due
    → pos (lambda * packets) ≤ℤ (pos lambda *ℤ room table from due)
unfolding room
room-at_least table from due lambda packets fit =
    let left = free_slots table from due - audio_due table from due in
    let is : pos (free_slots table from due) -ℤ pos (audio_due table from due) ≡ pos left = omega (arith, ints) in
    let more : lambda * packets ≤ lambda * left = mul-le-mul_left lambda (omega arith) in
    rw (is, pos-*ℤ-pos lambda left) (omega (arith, ints))

pub charged-le-worth : (table : Table) (chosen : List Chosen)
    → ((from due : ℕ) → sum_by (packets_due from due) chosen + audio_due table from due ≤ free_slots table from due)
    → (windows : List Window) → pos (sum_by (charged windows) chosen) ≤ℤ worth table windows
unfolding worth
charged-le-worth table chosen fit [] = omega (arith, ints, charged-none chosen)
charged-le-worth table chosen fit (window ∷ windows) =
    let packets = sum_by (packets_due window.from window.due) chosen in
    let here : pos (window.lambda * packets) ≤ℤ (pos window.lambda *ℤ room table window.from window.due) = room-at_least table window.from window.due window.lambda packets
    (fit window.from window.due) in
    let others : pos (sum_by (charged windows) chosen) ≤ℤ worth table windows = charged-le-worth table chosen fit windows in
    let whole = worth-more table window windows in
    omega (arith, ints, charged-more window windows chosen)

-- ---- the bound of a value
-- a bound is at most a number where the value is at most that many distortions
pub bound-le : (value : ℤ) (bound : ℕ) → value ≤ℤ pos (DISTORTION_PARTS * bound) → bound_of_value value ≤ bound
bound-le (pos value) bound le =
    let most : value ≤ DISTORTION_PARTS * bound = omega (arith, ints) in
    omega arith
bound-le (negsuc n) bound le = omega arith
