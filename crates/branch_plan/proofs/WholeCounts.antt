-- Counts of versions that are sorted, the least first, are those of the whole tree from its leaves on.
use Rattle.std.proofs.Common.{◌≡◌, ℕ, suc, ◌+◌, ◌*◌, ◌<◌, ◌≤◌, inl, inr, true, false, cond, nat_le, nat_lt, List, [], ◌∷◌, ◌++◌, length, take, get_or, refl, sym, ap, ap₂, subst, ◌∙◌, arith}
use Rattle.std.specs.List.{filter, sum_by}
use Rattle.std.specs.List.Sorted.{IsPermutation, IsSorted, IsSortedBy}
use Rattle.std.specs.Ordering.{nat_cmp, is_lt}
use Rattle.std.proofs.lemmas.Bool.{cases_lt, lt-ltb}
use Rattle.std.proofs.lemmas.Bool.Decides.{nat_tests}
use Rattle.std.proofs.Math.Nat.{mul_comm}
use Rattle.std.proofs.Math.Seq.{take-suc}
use Rattle.std.proofs.lemmas.Nat.{mul-le}
use Rattle.std.proofs.lemmas.List.{length-map, map-id, take_all}
use Rattle.std.proofs.lemmas.List.Elements.{filter-append}
use Rattle.std.proofs.lemmas.List.Sorted.{sum_by-IsPermutation}
use Rattle.std.proofs.lemmas.List.Sums.{sum_by-cons}
use Rattle.version_table.specs.declared.table.Table.{Table}
use Rattle.version_table.specs.declared.table.Unit.{Unit as CodedUnit}
use Rattle.version_table.specs.Table.{units_of}
use Rattle.certificate_checker.proofs.Units.{no_unit}
use Rattle.branch_plan.specs.Tree.{AreEnough, nodes_of_whole_tree, version_counts}
use Rattle.branch_plan.specs.Private.Whole.{behind}
use Rattle.branch_plan.proofs.Enough.{count_at, counts_of}
use Rattle.branch_plan.proofs.WholeTrees.{Fall, falls}

-- ---- falling and rising numbers
abbrev own : ℕ → ℕ
own n = n

abbrev Rise : (least : ℕ) → List ℕ → Type 0
Rise least [] = Unit {0}
Rise least (x ∷ xs) = (least ≤ x) × Rise x xs

lower : (most more : ℕ) (xs : List ℕ) → most ≤ more → Fall own most xs → Fall own more xs
lower most more [] up fall = tt
lower most more (x ∷ xs) up fall = (omega (arith, fall.0, up), fall.1)

-- rising numbers, the last first, fall
behind_falls : (least : ℕ) (xs others : List ℕ) → Rise least xs → Fall own least others → (most : ℕ) × Fall own most (behind xs others)
behind_falls least [] others rise fall = (least, fall)
behind_falls least (x ∷ xs) others rise fall = behind_falls x xs (x ∷ others) rise.1 (omega arith, lower least x others rise.0 fall)

-- ---- how many are no less than a number
abbrev above : (t : ℕ) → List ℕ → ℕ
above t xs = sum_by (λ x. cond (nat_le t x) 1 0) xs

above_none : (t : ℕ) → above t [] ≡ 0
above_none t = refl

above-cons : (t x : ℕ) (xs : List ℕ) → above t (x ∷ xs) ≡ cond {A = ℕ} (nat_le t x) 1 0 + above t xs
above-cons t x xs = sum_by-cons (λ y. cond (nat_le t y) 1 0) x xs

counts_one : (t x : ℕ) → t ≤ x → ◌≡◌ {A = ℕ} (cond (nat_le t x) 1 0) 1
counts_one t x up = grind (arith, nat_tests)

counts_none : (t x : ℕ) → x < t → ◌≡◌ {A = ℕ} (cond (nat_le t x) 1 0) 0
counts_none t x low = grind (arith, nat_tests)

none_above : (t most : ℕ) (xs : List ℕ) → Fall own most xs → most < t → above t xs ≡ 0
none_above t most [] fall low = refl
none_above t most (x ∷ xs) fall low =
    omega (arith, above-cons t x xs, counts_none t x (omega (arith, fall.0, low)), none_above t x xs fall.1 (omega (arith, fall.0, low)))

above_behind : (t : ℕ) (xs others : List ℕ) → above t (behind xs others) ≡ above t xs + above t others
above_behind t [] others = omega (arith, above_none t)
above_behind t (x ∷ xs) others = omega (arith, above_behind t xs (x ∷ others), above-cons t x others, above-cons t x xs)

-- the greater of two first numbers is counted once at least where it stands, and not where it doesn't
no_greater : (x most : ℕ) (y : ℕ) (xs ys : List ℕ) → Fall own x xs → x < y → above y (x ∷ xs) ≡ above y (y ∷ ys) → ⊥
no_greater x most y xs ys fall low same =
    omega (
      arith,
      same,
      above-cons y x xs,
      above-cons y y ys,
      counts_none y x low,
      none_above y x xs fall low,
      counts_one y y (omega arith),
    )

-- two falling lists with as many numbers from each one on are the same
same_falling : (m n : ℕ) (xs ys : List ℕ) → Fall own m xs → Fall own n ys → ((t : ℕ) → above t xs ≡ above t ys) → xs ≡ ys
same_falling m n [] [] first second same = refl
same_falling m n [] (y ∷ ys) first second same = absurd (omega (arith, same 0, above_none 0, above-cons 0 y ys, counts_one 0 y (omega arith)))
same_falling m n (x ∷ xs) [] first second same = absurd (omega (arith, same 0, above_none 0, above-cons 0 x xs, counts_one 0 x (omega arith)))
same_falling m n (x ∷ xs) (y ∷ ys) first second same =
    let heads : x ≡ y = (elim (cases_lt x y) as (λ _. x ≡ y) [
      | inl low ↦ absurd (no_greater x x y xs ys first.1 low (same y))
      | inr high ↦ elim (cases_lt y x) as (λ _. x ≡ y) [
        | inl low ↦ absurd (no_greater y y x ys xs second.1 low (sym (same x)))
        | inr other ↦ omega (arith, high, other)
      ]
    ]) in
    ap₂ (λ (z : ℕ) (zs : List ℕ). z ∷ zs) heads
    (same_falling x y xs ys first.1 second.1
    (λ t. omega (arith, same t, above-cons t x xs, above-cons t y ys, ap (λ (z : ℕ). cond {A = ℕ} (nat_le t z) 1 0) heads)))

-- ---- what is sorted
falls_first : (xs : List ℕ) → IsSortedBy (λ a b. nat_le (suc b) a) xs → (most : ℕ) × Fall own most xs
falls_first [] sorted = (0, tt)
falls_first (x ∷ xs) sorted =
    (x, falls own x (x ∷ xs) (λ d some. omega arith) (subst (λ (ys : List ℕ). IsSortedBy (λ a b. nat_le (suc b) a) ys) (sym (map-id (x ∷ xs))) sorted))

rises : (least : ℕ) (xs : List ℕ) → ((d : ℕ) → 0 < length xs → least ≤ get_or xs 0 d) → ((k d : ℕ) → k + 1 < length xs → get_or xs k d ≤ get_or xs (k + 1) d) → Rise least xs
rises least [] first each = tt
rises least (x ∷ xs) first each = (
  first 0 (omega arith),
  rises x xs (λ d some. each 0 d (omega (arith, some)))
      (λ k d high. subst (λ (i : ℕ). get_or xs k d ≤ get_or (x ∷ xs) i d) (suc_add k) (each (suc k) d (omega (arith, high)))),
)
  where
    suc_add : (k : ℕ) → suc k + 1 ≡ suc (k + 1)
    suc_add k = omega arith

-- ---- the whole tree
one_more : (k : ℕ) → k + 1 ≡ suc k
one_more k = omega arith

not_less : (a b : ℕ) → is_lt (nat_cmp a b) ≡ false → b ≤ a
not_less a b not = elim (cases_lt a b) as (λ _. b ≤ a) [
  | inl less ↦ absurd (lower (lt-ltb a b less))
  | inr more ↦ more
]
  where
    lower : nat_lt a b ≡ true → ⊥
    lower is = grind (arith, is, not)

counts_more : (xs : List ℕ) (k d : ℕ) → k < length xs → filter (nat_le 2) (take (k + 1) xs) ≡ filter (nat_le 2) (take k xs) ++ filter (nat_le 2) (get_or xs k d ∷ [])
counts_more xs k d within =
    ap (λ (n : ℕ). filter (nat_le 2) (take n xs)) (one_more k) ∙ ap (λ (ys : List ℕ). filter (nat_le 2) ys) (take-suc xs k d within)
    ∙ filter-append (nat_le 2) (take k xs) (get_or xs k d ∷ [])

-- the counts of one unit more
pub count_added : (table : Table) (k : ℕ) (unit : CodedUnit) (before more : List ℕ) → k < length (units_of table) → unit ≡ get_or (units_of table) k no_unit
    → before ≡ filter (nat_le 2) (take k (counts_of table)) → more ≡ before ++ filter (nat_le 2) (length unit.versions.items ∷ [])
    → more ≡ filter (nat_le 2) (take (k + 1) (counts_of table))
count_added table k unit before more within unit_is before_is more_is =
    let count : ℕ = length unit.versions.items in
    let size : k < length (counts_of table) = omega (arith, within, length-map (units_of table) (λ (u : CodedUnit). length u.versions.items)) in
    let own : count ≡ get_or (counts_of table) k 0 = ap (λ (u : CodedUnit). length u.versions.items) unit_is ∙ sym (count_at table k) in
    more_is ∙ ap₂ (λ (xs ys : List ℕ). xs ++ ys) before_is (ap (λ (n : ℕ). filter (nat_le 2) (n ∷ [])) own) ∙ sym (counts_more (counts_of table) k 0 size)

pub counts_all : (table : Table) (k : ℕ) (counts : List ℕ) → k ≡ length (units_of table) → counts ≡ filter (nat_le 2) (take k (counts_of table)) → counts ≡ version_counts table
counts_all table k counts all is =
    is ∙ ap (λ (xs : List ℕ). filter (nat_le 2) xs)
    (ap (λ (n : ℕ). take n (counts_of table)) (all ∙ sym (length-map (units_of table) (λ (u : CodedUnit). length u.versions.items))) ∙ take_all (length (counts_of table)) (counts_of table) (omega arith))

pub nodes_behind : (xs others : List ℕ) (x : ℕ) → behind (xs ++ x ∷ []) others ≡ x ∷ behind xs others
nodes_behind [] others x = refl
nodes_behind (y ∷ xs) others x = nodes_behind xs (y ∷ others) x

-- one count more, which is branched on before those that were counted
pub nodes_more : (counts : List ℕ) (i count nodes more d : ℕ) → i < length counts → count ≡ get_or counts i d → nodes ≤ nodes_of_whole_tree (behind (take i counts) [])
    → more ≤ nodes * count + 1 → more ≤ nodes_of_whole_tree (behind (take (i + 1) counts) [])
nodes_more counts i count nodes more d within count_is fewer step =
    let before = nodes_of_whole_tree (behind (take i counts) []) in
    let list : behind (take (i + 1) counts) [] ≡ get_or counts i d ∷ behind (take i counts) [] =
    ap (λ (n : ℕ). behind (take n counts) []) (one_more i) ∙ ap (λ (xs : List ℕ). behind xs []) (take-suc counts i d within) ∙ nodes_behind (take i counts) [] (get_or counts i d) in
    let all : nodes_of_whole_tree (behind (take (i + 1) counts) []) ≡ 1 + count * before =
    ap (λ (xs : List ℕ). nodes_of_whole_tree xs) list ∙ ap (λ (n : ℕ). 1 + n * before) (sym count_is) in
    omega (arith, step, all, mul-le nodes count before count fewer (omega arith), mul_comm count before)

-- a number above some is above no more than the whole tree has where these have no room for it
pub never_enough : (table : Table) (counts : List ℕ) (nodes most : ℕ) → IsPermutation (version_counts table) counts → IsSorted nat_cmp counts
    → nodes ≤ nodes_of_whole_tree (behind counts []) → most < nodes → AreEnough table most → ⊥
never_enough table counts nodes most by sorted no_more past enough =
    let rise : Rise 0 counts = rises 0 counts (λ d some. omega arith) (λ k d high. in_order k d high) in
    let fall = behind_falls 0 counts [] rise tt in
    let other = falls_first enough.0 enough.2 in
    let same : behind counts [] ≡ enough.0 = same_falling fall.0 other.0 (behind counts []) enough.0 fall.1 other.1 (λ t. as_many t) in
    omega (arith, no_more, past, ap (λ (xs : List ℕ). nodes_of_whole_tree xs) same, enough.3)
  where
    in_order : (k d : ℕ) → k + 1 < length counts → get_or counts k d ≤ get_or counts (k + 1) d
    in_order k d high = not_less (get_or counts (k + 1) d) (get_or counts k d) (sorted k d (omega arith) high)

    as_many : (t : ℕ) → above t (behind counts []) ≡ above t enough.0
    as_many t =
        let f : ℕ → ℕ = λ x. cond (nat_le t x) 1 0 in
        omega (
          arith,
          above_behind t counts [],
          above_none t,
          sum_by-IsPermutation f (version_counts table) counts by,
          sum_by-IsPermutation f (version_counts table) enough.0 enough.1,
        )
