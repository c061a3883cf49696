-- Along the lambda of one window, the others kept, each rise of the value is at most the one before.
use Rattle.std.proofs.Common.{
  ◌≡◌,
  ℕ,
  suc,
  ◌+◌,
  ◌<◌,
  ◌≤◌,
  ◌⊎◌,
  Bool,
  true,
  false,
  cond,
  List,
  [],
  ◌∷◌,
  length,
  map,
  get_or,
  fold,
  min,
  Option,
  refl,
  sym,
  ap,
  subst,
  ◌∙◌,
  inl,
  inr,
  mul-suc,
  arith,
  ℤ,
  pos,
  ◌+ℤ◌,
  ◌*ℤ◌,
  ◌≤ℤ◌,
}
use lib.IntN.{suc_ℤ-*ℤ}
use Rattle.std.specs.List.{zip}
use Rattle.std.proofs.lemmas.Bool.{cases_lt}
use Rattle.std.proofs.lemmas.Int.{ints}
use Rattle.std.proofs.lemmas.List.{get_or-map, length-map}
use Rattle.std.proofs.lemmas.List.Sums.{sum_by-cons}
use Rattle.version_table.specs.declared.table.Version.{Version}
use Rattle.version_table.specs.declared.table.Unit.{Unit as CodedUnit}
use Rattle.version_table.specs.declared.table.Table.{Table}
use Rattle.version_table.specs.Choice.{least}
use Rattle.version_table.specs.Table.{units_of}
use Rattle.dual_bounds.specs.declared.windows.Window.{Window}
use Rattle.dual_bounds.specs.Fixed.{allowed}
use Rattle.dual_bounds.specs.Room.{is_within, room}
use Rattle.dual_bounds.specs.Values.{cost, least_cost, least_costs, packet_count, price, value_of_windows}
use Rattle.version_table.proofs.Least.{least-le}
use Rattle.dual_bounds.proofs.Charges.{price-more, worth-more}

-- ---- the least of some numbers is one of them
fold-min-is : (a : ℕ) (numbers : List ℕ) → (fold min a numbers ≡ a) ⊎ ((k : ℕ) × (k < length numbers) × (fold min a numbers ≡ get_or numbers k 0))
fold-min-is a [] = inl refl
fold-min-is a (n ∷ numbers) =
    elim (fold-min-is (min a n) numbers) as (λ _. (fold min a (n ∷ numbers) ≡ a) ⊎ ((k : ℕ) × (k < suc (length numbers)) × (fold min a (n ∷ numbers) ≡ get_or (n ∷ numbers) k 0))) [
      | inr later ↦ inr (suc later.0, omega (arith, later.1), later.2)
      | inl first ↦ elim (cases_lt n a) as (λ _. (fold min a (n ∷ numbers) ≡ a) ⊎ ((k : ℕ) × (k < suc (length numbers)) × (fold min a (n ∷ numbers) ≡ get_or (n ∷ numbers) k 0))) [
        | inl less ↦ inr (0, omega arith, first ∙ (let own : min a n ≡ n = omega arith in own))
        | inr more ↦ inl (first ∙ (let own : min a n ≡ a = omega arith in own))
      ]
    ]

pub least-is : (n : ℕ) (numbers : List ℕ) → (k : ℕ) × (k < suc (length numbers)) × (least (n ∷ numbers) ≡ get_or (n ∷ numbers) k 0)
least-is n numbers = elim (fold-min-is n numbers) as (λ _. (k : ℕ) × (k < suc (length numbers)) × (least (n ∷ numbers) ≡ get_or (n ∷ numbers) k 0)) [
  | inl first ↦ (0, omega arith, first)
  | inr later ↦ (suc later.0, omega (arith, later.1), later.2)
]

-- ---- the least cost of some versions
cost_steps : (p : ℕ) (version : Version) → cost p version + cost (suc (suc p)) version ≡ cost (suc p) version + cost (suc p) version
cost_steps p version = omega (arith, mul-suc (packet_count version) p, mul-suc (packet_count version) (suc p))

least-concave : (p : ℕ) (versions : List Version) → least (map (cost p) versions) + least (map (cost (suc (suc p))) versions) ≤ least (map (cost (suc p)) versions) + least
    (map (cost (suc p)) versions)
least-concave p [] = omega arith
least-concave p (first ∷ rest) =
    let versions = first ∷ rest in
    let reached = least-is (cost (suc p) first) (map (cost (suc p)) rest) in
    let k = reached.0 in
    let within : k < length versions = omega (arith, reached.1, length-map rest (cost (suc p))) in
    let size : length (map (cost p) versions) ≡ length versions = length-map versions (cost p) in
    let size' : length (map (cost (suc (suc p))) versions) ≡ length versions = length-map versions (cost (suc (suc p))) in
    let at = get_or versions k first in
    let middle : least (map (cost (suc p)) versions) ≡ cost (suc p) at = reached.2 ∙ get_or-map (cost (suc p)) versions k first 0 within in
    let low = least-le (map (cost p) versions) k (omega arith) in
    let high = least-le (map (cost (suc (suc p))) versions) k (omega arith) in
    let low_at : get_or (map (cost p) versions) k 0 ≡ cost p at = get_or-map (cost p) versions k first 0 within in
    let high_at : get_or (map (cost (suc (suc p))) versions) k 0 ≡ cost (suc (suc p)) at = get_or-map (cost (suc (suc p))) versions k first 0 within in
    omega (arith, cost_steps p at)

-- ---- the least cost of a unit, and of all units
-- a window with this lambda before the others
abbrev pub with : (from due : ℕ) → List Window → (lambda : ℕ) → List Window
with from due others lambda = record { from = from; due = due; lambda = lambda } ∷ others

-- the least costs at prices that a window raises, or not
concave_if : (charged : Bool) (k others : ℕ) (versions : List Version)
    → least (map (cost (cond charged k 0 + others)) versions) + least (map (cost (cond charged (suc (suc k)) 0 + others)) versions)
    ≤ least (map (cost (cond charged (suc k) 0 + others)) versions) + least (map (cost (cond charged (suc k) 0 + others)) versions)
concave_if true k others versions =
    let at : ℕ → ℕ = λ p. least (map (cost p) versions) in
    let one_more : suc k + others ≡ suc (k + others) = omega arith in
    let two_more : suc (suc k) + others ≡ suc (suc (k + others)) = omega arith in
    omega (arith, ap at one_more, ap at two_more, least-concave (k + others) versions)
concave_if false k others versions = omega arith

unit-concave : (from due k : ℕ) (others : List Window) (unit : CodedUnit) (entry : Option ℕ)
    → least_cost (with from due others k) unit entry + least_cost (with from due others (suc (suc k))) unit entry
    ≤ least_cost (with from due others (suc k)) unit entry + least_cost (with from due others (suc k)) unit entry
unfolding least_cost
unit-concave from due k others unit entry =
    let at : ℕ → ℕ = λ p. least (map (cost p) (allowed unit entry)) in
    let window : ℕ → Window = λ lambda. record { from = from; due = due; lambda = lambda } in
    let low = ap at (price-more (window k) others unit.due) in
    let middle = ap at (price-more (window (suc k)) others unit.due) in
    let high = ap at (price-more (window (suc (suc k))) others unit.due) in
    omega (arith, low, middle, high, concave_if (is_within from due unit.due) k (price others unit.due) (allowed unit entry))

costs-concave : (from due k : ℕ) (others : List Window) (units : List CodedUnit) (fixed : List (Option ℕ))
    → least_costs (with from due others k) units fixed + least_costs (with from due others (suc (suc k))) units fixed
    ≤ least_costs (with from due others (suc k)) units fixed + least_costs (with from due others (suc k)) units fixed
unfolding least_costs
costs-concave from due k others [] fixed = omega arith
costs-concave from due k others (unit ∷ units) [] = omega arith
costs-concave from due k others (unit ∷ units) (entry ∷ fixed) =
    let own : ℕ → CodedUnit × Option ℕ → ℕ = λ lambda x. least_cost (with from due others lambda) x.0 x.1 in
    omega (
      arith,
      sum_by-cons (own k) (unit, entry) (zip units fixed),
      sum_by-cons (own (suc k)) (unit, entry) (zip units fixed),
      sum_by-cons (own (suc (suc k))) (unit, entry) (zip units fixed),
      unit-concave from due k others unit entry,
      costs-concave from due k others units fixed,
    )

-- ---- values
pub value-concave : (table : Table) (fixed : List (Option ℕ)) (from due k : ℕ) (others : List Window)
    → (value_of_windows table fixed (with from due others k) +ℤ value_of_windows table fixed (with from due others (suc (suc k))))
    ≤ℤ (value_of_windows table fixed (with from due others (suc k)) +ℤ value_of_windows table fixed (with from due others (suc k)))
unfolding value_of_windows
value-concave table fixed from due k others =
    let space = room table from due in
    let window : ℕ → Window = λ lambda. record { from = from; due = due; lambda = lambda } in
    let costs = costs-concave from due k others (units_of table) fixed in
    let low = worth-more table (window k) others in
    let middle = worth-more table (window (suc k)) others in
    let high = worth-more table (window (suc (suc k))) others in
    let first : pos (suc k) *ℤ space ≡ pos k *ℤ space +ℤ space = suc_ℤ-*ℤ (pos k) space in
    let second : pos (suc (suc k)) *ℤ space ≡ pos (suc k) *ℤ space +ℤ space = suc_ℤ-*ℤ (pos (suc k)) space in
    omega (arith, ints)

pub rises_fall : (table : Table) (fixed : List (Option ℕ)) (from due lambda : ℕ) (others : List Window)
    → (value_of_windows table fixed (record { from = from; due = due; lambda = lambda } ∷ others) +ℤ value_of_windows table fixed (record { from = from; due = due; lambda = lambda + 2 } ∷ others))
    ≤ℤ (value_of_windows table fixed (record { from = from; due = due; lambda = lambda + 1 } ∷ others) +ℤ value_of_windows table fixed (record {
      from = from;
      due = due;
      lambda = lambda + 1;
    } ∷ others))
rises_fall table fixed from due lambda others =
    let value : ℕ → ℤ = λ n. value_of_windows table fixed (with from due others n) in
    let one_more : lambda + 1 ≡ suc lambda = omega arith in
    let two_more : lambda + 2 ≡ suc (suc lambda) = omega arith in
    let concave : (value lambda +ℤ value (suc (suc lambda))) ≤ℤ (value (suc lambda) +ℤ value (suc lambda)) = value-concave table fixed from due lambda others in
    subst (λ n. (value lambda +ℤ value (lambda + 2)) ≤ℤ (value n +ℤ value n)) (sym one_more)
    (subst (λ n. (value lambda +ℤ value n) ≤ℤ (value (suc lambda) +ℤ value (suc lambda))) (sym two_more) concave)
