-- Sums over the nodes of a tree, and a number that is put at a place.
use Rattle.std.proofs.Common.{◌≡◌, ℕ, zero, suc, ◌+◌, ◌-◌, ◌*◌, ◌/◌, ◌%◌, ◌^◌, ◌<◌, ◌≤◌, List, length, get_or, set, refl, sym, ap, subst, ◌∙◌, inl, inr, arith}
use Rattle.std.proofs.lemmas.Bool.{cases_eq, eq-eqb, ne_eqb}
use Rattle.std.proofs.lemmas.List.{get_or-set_other, get_or-set_same, length-set}
use Rattle.certificate_checker.specs.declared.sums.PlaceSums.{PlaceSums}
use Rattle.certificate_checker.specs.Private.PlaceSums.{AreSums, IsPair, IsRising, number_at, odd_at, odd_before}
use Rattle.sum_tree.specs.Nodes.{sum_from}

-- ---- sums of numbers next to each other
pub sum_front : (f : ℕ → ℕ) (a n : ℕ) → sum_from f a (suc n) ≡ f a + sum_from f (a + 1) n
sum_front f a zero = let own : f (a + 0) ≡ f a = ap f (omega arith) in omega (arith, own)
sum_front f a (suc n) = let last : f (a + suc n) ≡ f ((a + 1) + n) = ap f (omega arith) in omega (arith, sum_front f a n, last)

pub sum_joined : (f : ℕ → ℕ) (a m n : ℕ) → sum_from f a (m + n) ≡ sum_from f a m + sum_from f (a + m) n
sum_joined f a m zero = let same : sum_from f a (m + 0) ≡ sum_from f a m = ap (sum_from f a) (omega arith) in omega (arith, same)
sum_joined f a m (suc n) =
    let size : m + suc n ≡ suc (m + n) = omega arith in
    let split : sum_from f a (m + suc n) ≡ sum_from f a (m + n) + f (a + (m + n)) = ap (sum_from f a) size in
    let last : f (a + (m + n)) ≡ f ((a + m) + n) = ap f (omega arith) in
    omega (arith, split, last, sum_joined f a m n)

pub sum_shifted : (f : ℕ → ℕ) (c a n : ℕ) → sum_from (λ k. f (c + k)) a n ≡ sum_from f (c + a) n
sum_shifted f c a zero = refl
sum_shifted f c a (suc n) = let last : f (c + (a + n)) ≡ f ((c + a) + n) = ap f (omega arith) in omega (arith, sum_shifted f c a n, last)

pub sum_same : (f g : ℕ → ℕ) (a n : ℕ) → ((k : ℕ) → a ≤ k → k < a + n → f k ≡ g k) → sum_from f a n ≡ sum_from g a n
sum_same f g a zero same = refl
sum_same f g a (suc n) same =
    let before = sum_same f g a n (λ k from below. same k from (omega (arith, below))) in
    let last : f (a + n) ≡ g (a + n) = same (a + n) (omega arith) (omega arith) in
    omega (arith, before, last)

-- numbers of 64 bits
sum_small : (f : ℕ → ℕ) (a n : ℕ) → ((k : ℕ) → a ≤ k → f k < 2 ^ 64) → sum_from f a n ≤ n * 2 ^ 64
sum_small f a zero small = omega arith
sum_small f a (suc n) small = omega (arith, sum_small f a n small, small (a + n) (omega arith))

-- ---- levels
-- the sum of the nodes below some next to each other is the sum of those
pairs_sum : (f : ℕ → ℕ) (a n double : ℕ) → double ≡ 2 * n → ((i : ℕ) → a ≤ i → i < a + n → f i ≡ f (2 * i) + f (2 * i + 1)) → sum_from f (2 * a) double ≡ sum_from f a n
pairs_sum f a zero double is pairs = let none : double ≡ 0 = omega (arith, is) in ap (sum_from f (2 * a)) none
pairs_sum f a (suc n) double is pairs =
    let next : double ≡ suc (suc (2 * n)) = omega (arith, is) in
    let before : sum_from f (2 * a) (2 * n) ≡ sum_from f a n = pairs_sum f a n (2 * n) refl (λ i from below. pairs i from (omega (arith, below))) in
    let here : f (a + n) ≡ f (2 * (a + n)) + f (2 * (a + n) + 1) = pairs (a + n) (omega arith) (omega arith) in
    let left : f (2 * a + 2 * n) ≡ f (2 * (a + n)) = ap f (omega arith) in
    let right : f (2 * a + suc (2 * n)) ≡ f (2 * (a + n) + 1) = ap f (omega arith) in
    let whole : sum_from f (2 * a) (suc (suc (2 * n))) ≡ sum_from f a n + f (a + n) = omega (arith, before, here, left, right) in
    ap (sum_from f (2 * a)) next ∙ whole

one_more : (f : ℕ → ℕ) (m : ℕ) → f (suc m) ≡ f (2 * suc m) + f (2 * suc m + 1) → sum_from f (suc m) (suc m) ≡ sum_from f (suc m + 1) (suc (suc m))
one_more f m pair =
    let left : f ((suc m + 1) + m) ≡ f (2 * suc m) = ap f (omega arith) in
    let right : f ((suc m + 1) + suc m) ≡ f (2 * suc m + 1) = ap f (omega arith) in
    omega (arith, sum_front f (suc m) m, left, right, pair)

-- from each node on so many nodes, without a node and what is below it twice, have the sum of all places
whole_sum : (f : ℕ → ℕ) (count gap j : ℕ) → 1 ≤ j → j + gap ≡ count → ((i : ℕ) → j ≤ i → i < count → f i ≡ f (2 * i) + f (2 * i + 1)) → sum_from f j j ≡ sum_from f count count
whole_sum f count zero j some is pairs = ap (λ (n : ℕ). sum_from f n n) (omega (arith, is))
whole_sum f count (suc gap) zero some is pairs = absurd (omega (arith, some))
whole_sum f count (suc gap) (suc m) some is pairs =
    let next : suc m + 1 ≡ suc (suc m) = omega arith in
    let up : sum_from f (suc m + 1) (suc (suc m)) ≡ sum_from f (suc (suc m)) (suc (suc m)) = ap (λ (n : ℕ). sum_from f n (suc (suc m))) next in
    one_more f m (pairs (suc m) (omega arith) (omega (arith, is))) ∙ up
    ∙ whole_sum f count gap (suc (suc m)) (omega arith) (omega (arith, is)) (λ i from below. pairs i (omega (arith, from)) below)

-- two nodes below one have a sum of 127 bits
pub two_fit : (f : ℕ → ℕ) (count h : ℕ) → count < 2 ^ 63 → 1 ≤ h → h < count → ((i : ℕ) → h < i → i < count → f i ≡ f (2 * i) + f (2 * i + 1))
    → ((i : ℕ) → count ≤ i → f i < 2 ^ 64) → f (2 * h) + f (2 * h + 1) < 2 ^ 128
two_fit f count zero few some within pairs small = absurd (omega (arith, some))
two_fit f count (suc m) few some within pairs small =
    let total = whole_sum f count (count - suc (suc m)) (suc (suc m)) (omega arith) (omega (arith, within)) (λ i from below. pairs i (omega (arith, from)) below) in
    let left : f (suc (suc m) + m) ≡ f (2 * suc m) = ap f (omega arith) in
    let right : f (suc (suc m) + suc m) ≡ f (2 * suc m + 1) = ap f (omega arith) in
    omega (arith, total, left, right, few, sum_small f count count small)

-- ---- the sum from one node up to another, one level up
odd_own : (nodes : List ℕ) (low : ℕ) → low % 2 ≡ 1 → odd_at nodes low ≡ get_or nodes low 0
odd_own nodes low odd = rw (eq-eqb (low % 2) 1 odd) refl

even_none : (nodes : List ℕ) (low : ℕ) → (low % 2 ≡ 1 → ⊥) → odd_at nodes low ≡ 0
even_none nodes low even = rw (ne_eqb (low % 2) 1 even) refl

odd_last : (nodes : List ℕ) (high : ℕ) → high % 2 ≡ 1 → odd_before nodes high ≡ get_or nodes (high - 1) 0
odd_last nodes high odd = rw (eq-eqb (high % 2) 1 odd) refl

even_last : (nodes : List ℕ) (high : ℕ) → (high % 2 ≡ 1 → ⊥) → odd_before nodes high ≡ 0
even_last nodes high even = rw (ne_eqb (high % 2) 1 even) refl

-- behind an even node
even_step : (nodes : List ℕ) (a high : ℕ) → 2 * a < high + 1 → ((i : ℕ) → a ≤ i → i < high / 2 → IsPair nodes i)
    → sum_from (λ j. get_or nodes j 0) (2 * a) (high - 2 * a) ≡ odd_before nodes high + sum_from (λ j. get_or nodes j 0) a (high / 2 - a)
even_step nodes a high low pairs = elim (cases_eq (high % 2) 1) as (λ _. sum_from number (2 * a) (high - 2 * a) ≡ odd_before nodes high + sum_from number a (high / 2 - a)) [
  | inl odd ↦
      (let size : high - 2 * a ≡ suc (2 * (high / 2 - a)) = omega (arith, odd, low) in
      let last : number (2 * a + 2 * (high / 2 - a)) ≡ number (high - 1) = ap number (omega (arith, odd, low)) in
      let split : sum_from number (2 * a) (high - 2 * a) ≡ sum_from number (2 * a) (2 * (high / 2 - a)) + number (2 * a + 2 * (high / 2 - a)) = ap (sum_from number (2 * a)) size in
      omega (arith, split, last, below, odd_last nodes high odd))
  | inr even ↦
      (let size : high - 2 * a ≡ 2 * (high / 2 - a) = omega (arith, even, low) in
      let same : sum_from number (2 * a) (high - 2 * a) ≡ sum_from number (2 * a) (2 * (high / 2 - a)) = ap (sum_from number (2 * a)) size in
      omega (arith, same, below, even_last nodes high even))
]
  where
    number : ℕ → ℕ
    number = λ j. get_or nodes j 0

    below : sum_from number (2 * a) (2 * (high / 2 - a)) ≡ sum_from number a (high / 2 - a)
    below = pairs_sum number a (high / 2 - a) (2 * (high / 2 - a)) refl (λ i from less. pairs i from (omega (arith, less)))

pub level_step : (nodes : List ℕ) (low high : ℕ) → low < high → ((i : ℕ) → (low + 1) / 2 ≤ i → i < high / 2 → IsPair nodes i)
    → sum_from (λ j. get_or nodes j 0) low (high - low)
    ≡ (odd_at nodes low + odd_before nodes high) + sum_from (λ j. get_or nodes j 0) ((low + 1) / 2) (high / 2 - (low + 1) / 2)
level_step nodes low high some pairs = elim (cases_eq (low % 2) 1) as (λ _. sum_from number low (high - low) ≡ (odd_at nodes low + odd_before nodes high) + sum_from number a (high / 2 - a)) [
  | inl odd ↦
      (let size : high - low ≡ suc (high - 2 * a) = omega (arith, odd, some) in
      let split : sum_from number low (high - low) ≡ sum_from number low (suc (high - 2 * a)) = ap (sum_from number low) size in
      let next : sum_from number (low + 1) (high - 2 * a) ≡ sum_from number (2 * a) (high - 2 * a) = ap (λ (n : ℕ). sum_from number n (high - 2 * a)) (omega (arith, odd)) in
      omega (arith, split, sum_front number low (high - 2 * a), next, even_step nodes a high (omega (arith, odd, some)) pairs, odd_own nodes low odd))
  | inr even ↦
      (let same : sum_from number low (high - low) ≡ sum_from number (2 * a) (high - 2 * a) =
      ap (λ (n : ℕ). sum_from number n (high - n)) (omega (arith, even)) in
      omega (arith, same, even_step nodes a high (omega (arith, even, some)) pairs, even_none nodes low even))
]
  where
    number : ℕ → ℕ
    number = λ j. get_or nodes j 0

    a : ℕ
    a = (low + 1) / 2

pub nothing_left : (f : ℕ → ℕ) (low high : ℕ) → high ≤ low → sum_from f low (high - low) ≡ 0
nothing_left f low high past = let none : high - low ≡ 0 = omega (arith, past) in ap (sum_from f low) none

-- what is summed is small
pub range_small : (sums : PlaceSums) (a n : ℕ) → AreSums sums → a + n ≤ 2 * sums.count → sums.count ≤ a → sum_from (λ j. get_or sums.nodes.items j 0) a n < 2 ^ 128
range_small sums a n are within from =
    omega (arith, sum_small (λ j. get_or sums.nodes.items j 0) a n (λ k least. are.numbers k (omega (arith, least, from))), within, from, are.few)

-- ---- a number put at a place
pub starts_rising : (sums : PlaceSums) (place number : ℕ) → AreSums sums → place < sums.count
    → IsRising sums.count place number sums.nodes.items (set sums.nodes.items (sums.count + place) number) (sums.count + place)
starts_rising sums place number are low =
    let at = sums.count + place in
    let before = sums.nodes.items in
    let other : (j : ℕ) → (j ≡ at → ⊥) → get_or (set before at number) j 0 ≡ get_or before j 0 = λ j apart. get_or-set_other before at j number 0 apart in
    record {
      size = length-set before at number ∙ are.size;
      some = omega (arith, low);
      within = omega (arith, low);
      pairs = λ j some less apart. omega (
        arith,
        other j (λ e. omega (arith, e, less)),
        other (2 * j) (λ e. apart (omega (arith, e))),
        other (2 * j + 1) (λ e. apart (omega (arith, e))),
        are.pairs j some less,
      );
      own = get_or-set_same before at number 0 (omega (arith, are.size, low));
      others = λ j from apart. other j apart;
    }

pub keeps_rising : (count place number sum : ℕ) (before nodes : List ℕ) (at : ℕ) → 1 < at → IsRising count place number before nodes at
    → sum ≡ get_or nodes (2 * (at / 2)) 0 + get_or nodes (2 * (at / 2) + 1) 0 → IsRising count place number before (set nodes (at / 2) sum) (at / 2)
keeps_rising count place number sum before nodes at more rising sum_is =
    let up = at / 2 in
    let most = rising.within in
    let within : up < length nodes = omega (arith, rising.size, most) in
    let new = set nodes up sum in
    let other : (j : ℕ) → (j ≡ up → ⊥) → get_or new j 0 ≡ get_or nodes j 0 = λ j apart. get_or-set_other nodes up j sum 0 apart in
    record {
      size = length-set nodes up sum ∙ rising.size;
      some = omega (arith, more);
      within = omega (arith, most);
      pairs = λ j some less apart. elim (cases_eq j up) as (λ _. IsPair new j) [
        | inl here ↦
            (let own : get_or new up 0 ≡ sum = get_or-set_same nodes up sum 0 within in
            let left = other (2 * up) (λ e. omega (arith, e, more)) in
            let right = other (2 * up + 1) (λ e. omega (arith, e, more)) in
            let pair : IsPair new up = omega (arith, own, left, right, sum_is) in
            subst (λ (n : ℕ). IsPair new n) (sym here) pair)
        | inr elsewhere ↦
            omega (arith, other j elsewhere, other (2 * j) (λ e. apart (omega (arith, e))), other (2 * j + 1) (λ e. apart (omega (arith, e))), rising.pairs j some less elsewhere)
      ];
      own = other (count + place) (λ e. omega (arith, e, most)) ∙ rising.own;
      others = λ j from apart. other j (λ e. omega (arith, e, most, from)) ∙ rising.others j from apart;
    }

-- the two nodes below the next one up fit together
pub two_risen_fit : (sums : PlaceSums) (place number : ℕ) (nodes : List ℕ) (at : ℕ) → AreSums sums → number < 2 ^ 64 → 1 < at → IsRising sums.count place number sums.nodes.items nodes at
    → get_or nodes (2 * (at / 2)) 0 + get_or nodes (2 * (at / 2) + 1) 0 < 2 ^ 128
two_risen_fit sums place number nodes at are small more rising =
    let most = rising.within in
    two_fit (λ j. get_or nodes j 0) sums.count (at / 2) are.few (omega (arith, more)) (omega (arith, most))
    (λ i above below. rising.pairs i (omega (arith, above)) below (λ e. omega (arith, e, above)))
    (λ i from. elim (cases_eq i (sums.count + place)) as (λ _. get_or nodes i 0 < 2 ^ 64) [
      | inl here ↦ omega (arith, subst (λ (n : ℕ). get_or nodes n 0 ≡ number) (sym here) rising.own, small)
      | inr apart ↦ omega (arith, rising.others i from apart, are.numbers i from)
    ])

pub has_risen : (old new : PlaceSums) (place number at : ℕ) → AreSums old → number < 2 ^ 64 → new.count ≡ old.count → at ≤ 1
    → IsRising old.count place number old.nodes.items new.nodes.items at → AreSums new
has_risen old new place number at are small same root rising = record {
  few = omega (arith, same, are.few);
  size = omega (arith, rising.size, same);
  pairs = λ j some less. rising.pairs j some (omega (arith, less, same)) (λ e. omega (arith, e, root, some));
  numbers = λ j from. elim (cases_eq j (old.count + place)) as (λ _. get_or new.nodes.items j 0 < 2 ^ 64) [
    | inl here ↦ omega (arith, subst (λ (n : ℕ). get_or new.nodes.items n 0 ≡ number) (sym here) rising.own, small)
    | inr apart ↦ omega (arith, rising.others j (omega (arith, from, same)) apart, are.numbers j (omega (arith, from, same)))
  ];
}

pub number_kept : (old new : PlaceSums) (place number at k : ℕ) → new.count ≡ old.count → (k ≡ place → ⊥) → IsRising old.count place number old.nodes.items new.nodes.items at
    → number_at new k ≡ number_at old k
number_kept old new place number at k same apart rising =
    ap (λ (n : ℕ). get_or new.nodes.items (n + k) 0) same ∙ rising.others (old.count + k) (omega arith) (λ e. apart (omega (arith, e)))
