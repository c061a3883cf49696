-- The whole tree that branches on the free ones of some units, in an order: what is left of it where one more isn't free. Numbers alone.
use Rattle.std.proofs.Common.{◌≡◌, ◌≢◌, ℕ, zero, suc, ◌+◌, ◌*◌, ◌<◌, ◌≤◌, ◌⊎◌, inl, inr, Bool, true, false, cond, nat_le, List, [], ◌∷◌, length, map, get_or, set, refl, sym, ap, ap₂, subst, ◌∙◌, arith}
use Rattle.std.specs.List.{Contains, filter, swap}
use Rattle.std.specs.List.Sorted.{IsPermutation, IsSortedBy, SwapsInRange, apply_swaps}
use Rattle.std.proofs.Math.ListN.{get_or-map}
use Rattle.std.proofs.Math.Nat.{mul-add, mul-one, mul_left_comm}
use Rattle.std.proofs.lemmas.Bool.{cases_eq, le-leb, leb-false}
use Rattle.std.proofs.lemmas.List.{length-map, map-set}
use Rattle.std.proofs.lemmas.List.Sorted.{Contains-permutation}
use Rattle.std.proofs.lemmas.Nat.{mul-le}

-- ---- products
-- of two units the one of more versions goes first
more_first : (a b left all : ℕ) → b ≤ a → 1 + b * left ≤ all → 1 + b * (1 + a * left) ≤ 1 + a * all
more_first a b left all less fits =
    let first : a * (1 + b * left) ≤ a * all = mul-le a (1 + b * left) a all (omega arith) fits in
    let spread : a * (1 + b * left) ≡ a * 1 + a * (b * left) = mul-add a 1 (b * left) in
    let also : b * (1 + a * left) ≡ b * 1 + b * (a * left) = mul-add b 1 (a * left) in
    let same : a * (b * left) ≡ b * (a * left) = mul_left_comm a b left in
    omega (arith, first, spread, also, same, mul-one a, mul-one b, less)

-- ---- the nodes of the whole tree
-- the nodes of a tree that branches on the free ones of these units in order, on every path
abbrev pub whole : (versions : ℕ → ℕ) → (free : ℕ → Bool) → (units : List ℕ) → ℕ
whole versions free [] = 1
whole versions free (unit ∷ units) = cond (free unit) (1 + versions unit * whole versions free units) (whole versions free units)

pub some_whole : (versions : ℕ → ℕ) (free : ℕ → Bool) (units : List ℕ) → 1 ≤ whole versions free units
some_whole versions free [] = omega arith
some_whole versions free (unit ∷ units) = by_test (free unit) (some_whole versions free units)
  where
    by_test : (is : Bool) → 1 ≤ whole versions free units → 1 ≤ cond is (1 + versions unit * whole versions free units) (whole versions free units)
    by_test true some = omega arith
    by_test false some = some

-- a unit that isn't free has a version, or is as free as it was
abbrev pub IsLessFree : (versions : ℕ → ℕ) → (less more : ℕ → Bool) → (unit : ℕ) → Type 0
IsLessFree versions less more unit = (less unit ≡ more unit) ⊎ ((less unit ≡ false) × (1 ≤ versions unit))

no_more_nodes : (n low high : ℕ) (less more : Bool) → low ≤ high → (less ≡ more) ⊎ ((less ≡ false) × (1 ≤ n)) → cond less (1 + n * low) low ≤ cond more (1 + n * high) high
no_more_nodes n low high true true fits either = omega (arith, mul-le n low n high (omega arith) fits)
no_more_nodes n low high true false fits (inl same) = absurd (subst (λ (b : Bool). cond {A = Type 0} b (Unit {0}) ⊥) same tt)
no_more_nodes n low high true false fits (inr off) = absurd (subst (λ (b : Bool). cond {A = Type 0} b (Unit {0}) ⊥) off.0 tt)
no_more_nodes n low high false false fits either = fits
no_more_nodes n low high false true fits (inl same) = absurd (subst (λ (b : Bool). cond {A = Type 0} b (Unit {0}) ⊥) (sym same) tt)
no_more_nodes n low high false true fits (inr off) = omega (arith, mul-le 1 high n high off.1 (omega arith), fits)

pub fewer_free : (versions : ℕ → ℕ) (less more : ℕ → Bool) (units : List ℕ) → ((unit : ℕ) → IsLessFree versions less more unit) → whole versions less units ≤ whole versions more units
fewer_free versions less more [] each = omega arith
fewer_free versions less more (unit ∷ units) each =
    no_more_nodes (versions unit) (whole versions less units) (whole versions more units) (less unit) (more unit) (fewer_free versions less more units each) (each unit)

pub all_free : (versions : ℕ → ℕ) (free : ℕ → Bool) (nodes : List ℕ → ℕ) (units : List ℕ) → nodes [] ≡ 1 → ((count : ℕ) (counts : List ℕ) → nodes (count ∷ counts) ≡ 1 + count * nodes counts)
    → ((unit : ℕ) → free unit ≡ true) → whole versions free units ≡ nodes (map versions units)
all_free versions free nodes [] none more free_is = sym none
all_free versions free nodes (unit ∷ units) none more free_is =
    ap (λ (is : Bool). cond is (1 + versions unit * whole versions free units) (whole versions free units)) (free_is unit)
    ∙ ap (λ (n : ℕ). 1 + versions unit * n) (all_free versions free nodes units none more free_is) ∙ sym (more (versions unit) (map versions units))

-- ---- an order by falling counts
abbrev pub IsAmong : (unit : ℕ) → List ℕ → Type 0
IsAmong unit [] = ⊥
IsAmong unit (other ∷ units) = (other ≡ unit) ⊎ IsAmong unit units

abbrev pub Fall : (versions : ℕ → ℕ) → (most : ℕ) → List ℕ → Type 0
Fall versions most [] = Unit {0}
Fall versions most (unit ∷ units) = (versions unit ≤ most) × Fall versions (versions unit) units

at_most_first : (versions : ℕ → ℕ) (most unit : ℕ) (units : List ℕ) → Fall versions most units → IsAmong unit units → versions unit ≤ most
at_most_first versions most unit [] fall among = absurd among
at_most_first versions most unit (other ∷ units) fall (inl same) = subst (λ (u : ℕ). versions u ≤ most) same fall.0
at_most_first versions most unit (other ∷ units) fall (inr later) = omega (arith, fall.0, at_most_first versions (versions other) unit units fall.1 later)

-- one unit is free that isn't then, and no other changes
pub record IsTakenOut (versions : ℕ → ℕ) (less more : ℕ → Bool) (unit : ℕ) : Type 0 where
  pub off : less unit ≡ false
  pub on : more unit ≡ true
  pub same : (other : ℕ) → other ≢ unit → less other ≡ more other
  pub some : 1 ≤ versions unit

less_free : (versions : ℕ → ℕ) (less more : ℕ → Bool) (unit : ℕ) → IsTakenOut versions less more unit → (other : ℕ) → IsLessFree versions less more other
less_free versions less more unit out other = elim (cases_eq other unit) as (λ _. IsLessFree versions less more other) [
  | inl same ↦ inr (subst (λ (u : ℕ). (less u ≡ false) × (1 ≤ versions u)) (sym same) (out.off, out.some))
  | inr differs ↦ inl (out.same other differs)
]

at_first : (n left all : ℕ) (less more : Bool) → less ≡ false → more ≡ true → left ≤ all → 1 + n * cond less (1 + n * left) left ≤ cond more (1 + n * all) all
at_first n left all true more off on fits = absurd (subst (λ (b : Bool). cond {A = Type 0} b (Unit {0}) ⊥) off tt)
at_first n left all false true off on fits = omega (arith, mul-le n left n all (omega arith) fits)
at_first n left all false false off on fits = absurd (subst (λ (b : Bool). cond {A = Type 0} b (Unit {0}) ⊥) (sym on) tt)

at_later : (a b left all : ℕ) (less more : Bool) → less ≡ more → b ≤ a → 1 + b * left ≤ all → 1 + b * cond less (1 + a * left) left ≤ cond more (1 + a * all) all
at_later a b left all true true same less fits = more_first a b left all less fits
at_later a b left all false false same less fits = fits
at_later a b left all true false same less fits = absurd (subst (λ (b : Bool). cond {A = Type 0} b (Unit {0}) ⊥) same tt)
at_later a b left all false true same less fits = absurd (subst (λ (b : Bool). cond {A = Type 0} b (Unit {0}) ⊥) (sym same) tt)

-- a branch on a free unit, with the whole tree of the others below each of its versions, is no more than the whole tree of the most first
pub branch_fits : (versions : ℕ → ℕ) (less more : ℕ → Bool) (unit most : ℕ) (units : List ℕ) → IsTakenOut versions less more unit → Fall versions most units → IsAmong unit units
    → 1 + versions unit * whole versions less units ≤ whole versions more units
branch_fits versions less more unit most [] out fall among = absurd among
branch_fits versions less more unit most (other ∷ units) out fall among = elim (cases_eq other unit)
    as (λ _. 1 + versions unit * whole versions less (other ∷ units) ≤ whole versions more (other ∷ units)) [
      | inl same ↦ subst (λ (u : ℕ). 1 + versions unit * cond (less u) (1 + versions u * whole versions less units) (whole versions less units)
          ≤ cond (more u) (1 + versions u * whole versions more units) (whole versions more units)) (sym same)
          (at_first (versions unit) (whole versions less units) (whole versions more units) (less unit) (more unit) out.off out.on
          (fewer_free versions less more units (less_free versions less more unit out)))
      | inr differs ↦ at_later (versions other) (versions unit) (whole versions less units) (whole versions more units) (less other) (more other) (out.same other differs)
          (at_most_first versions (versions other) unit units fall.1 (later among differs))
          (branch_fits versions less more unit (versions other) units out fall.1 (later among differs))
    ]
  where
    later : IsAmong unit (other ∷ units) → other ≢ unit → IsAmong unit units
    later (inl same) differs = absurd (differs same)
    later (inr there) differs = there

-- ---- sorted counts
pub falls : (versions : ℕ → ℕ) (most : ℕ) (units : List ℕ) → ((d : ℕ) → 0 < length units → get_or (map versions units) 0 d ≤ most)
    → IsSortedBy (λ a b. nat_le (suc b) a) (map versions units) → Fall versions most units
falls versions most [] first sorted = tt
falls versions most (unit ∷ units) first sorted = (
  first 0 (omega arith),
  falls versions (versions unit) units (next units sorted)
      (λ k d low high. ap (λ (i : ℕ). nat_le (suc (get_or (map versions units) k d)) (get_or (versions unit ∷ map versions units) i d)) (suc_add k)
      ∙ sorted (suc k) d (omega arith) (omega (arith, high))),
)
  where
    suc_add : (k : ℕ) → suc (k + 1) ≡ suc k + 1
    suc_add k = omega arith

    next : (rest : List ℕ) → IsSortedBy (λ a b. nat_le (suc b) a) (versions unit ∷ map versions rest) → (d : ℕ) → 0 < length rest → get_or (map versions rest) 0 d ≤ versions unit
    next [] sorted d some = absurd (omega (arith, some))
    next (other ∷ rest) sorted d some = omega (arith, leb-false (suc (versions unit)) (versions other) (sorted 0 d (omega arith) (omega arith)))

-- ---- units in the order of their counts
map_swap : (f : ℕ → ℕ) (xs : List ℕ) (i j : ℕ) → map f (swap xs i j) ≡ swap (map f xs) i j
map_swap f [] i j = refl
map_swap f (x ∷ xs) i j =
    let all = x ∷ xs in
    map-set f (set all i (get_or all j x)) j (get_or all i x)
    ∙ ap₂ (λ (ys : List ℕ) (y : ℕ). set ys j y)
    (map-set f all i (get_or all j x) ∙ ap (λ (y : ℕ). set (map f all) i y) (sym (get_or-map f all j x)))
    (sym (get_or-map f all i x))

map_swaps : (f : ℕ → ℕ) (xs : List ℕ) (moves : List (ℕ × ℕ)) → map f (apply_swaps xs moves) ≡ apply_swaps (map f xs) moves
map_swaps f xs [] = refl
map_swaps f xs (move ∷ moves) = map_swap f (apply_swaps xs moves) move.0 move.1 ∙ ap (λ (ys : List ℕ). swap ys move.0 move.1) (map_swaps f xs moves)

-- what is in order by its values is so in an order of its own
pub ordered : (f : ℕ → ℕ) (xs ys : List ℕ) → IsPermutation (map f xs) ys → (order : List ℕ) × IsPermutation xs order × (map f order ≡ ys)
ordered f xs ys by = (
  apply_swaps xs by.moves,
  record { moves = by.moves; below = subst (λ (n : ℕ). SwapsInRange n by.moves) (length-map xs f) by.below; is = refl },
  map_swaps f xs by.moves ∙ sym by.is,
)

among_at : (unit : ℕ) (units : List ℕ) (k : ℕ) → k < length units → get_or units k unit ≡ unit → IsAmong unit units
among_at unit [] k within is = absurd (omega (arith, within))
among_at unit (other ∷ units) zero within is = inl is
among_at unit (other ∷ units) (suc k) within is = inr (among_at unit units k (omega (arith, within)) is)

contains_among : (unit : ℕ) (units : List ℕ) → IsAmong unit units → Contains units unit
contains_among unit [] among = absurd among
contains_among unit (other ∷ units) (inl same) = (0, omega arith, same)
contains_among unit (other ∷ units) (inr later) =
    let there = contains_among unit units later in
    (suc there.0, omega (arith, there.1), there.2)

pub among_ordered : (unit : ℕ) (xs ys : List ℕ) → IsPermutation xs ys → IsAmong unit xs → IsAmong unit ys
among_ordered unit xs ys by among =
    let there = Contains-permutation xs ys unit by (contains_among unit xs among) in
    among_at unit ys there.0 there.1 there.2

-- ---- the units of two versions or more
-- the numbers of the counts that are two or more, from a first number on
abbrev pub many_from : (first : ℕ) → (counts : List ℕ) → List ℕ
many_from first [] = []
many_from first (count ∷ counts) = cond (nat_le 2 count) (first ∷ many_from (suc first) counts) (many_from (suc first) counts)

pub many_counts : (versions : ℕ → ℕ) (first : ℕ) (counts : List ℕ) → ((unit j : ℕ) → unit ≡ first + j → j < length counts → versions unit ≡ get_or counts j 0)
    → map versions (many_from first counts) ≡ filter (nat_le 2) counts
many_counts versions first [] each = refl
many_counts versions first (count ∷ counts) each =
    by_test (nat_le 2 count) (each first 0 (omega arith) (omega arith))
    (many_counts versions (suc first) counts (λ unit j is within. each unit (suc j) (omega (arith, is)) (omega (arith, within))))
  where
    by_test : (is : Bool) → versions first ≡ count → map versions (many_from (suc first) counts) ≡ filter (nat_le 2) counts
        → map versions (cond is (first ∷ many_from (suc first) counts) (many_from (suc first) counts)) ≡ cond is (count ∷ filter (nat_le 2) counts) (filter (nat_le 2) counts)
    by_test true here_is later = ap₂ (λ (x : ℕ) (xs : List ℕ). x ∷ xs) here_is later
    by_test false here_is later = later

pub many_among : (unit j first : ℕ) (counts : List ℕ) → unit ≡ first + j → 2 ≤ get_or counts j 0 → IsAmong unit (many_from first counts)
many_among unit j first [] is many = absurd (omega (arith, many))
many_among unit zero first (count ∷ counts) is many =
    subst (λ (b : Bool). IsAmong unit (cond b (first ∷ many_from (suc first) counts) (many_from (suc first) counts))) (sym (le-leb 2 count many)) (inl (omega (arith, is)))
many_among unit (suc j) first (count ∷ counts) is many =
    by_test (nat_le 2 count) (many_among unit j (suc first) counts (omega (arith, is)) many)
  where
    by_test : (test : Bool) → IsAmong unit (many_from (suc first) counts) → IsAmong unit (cond test (first ∷ many_from (suc first) counts) (many_from (suc first) counts))
    by_test true there = inr there
    by_test false there = there
