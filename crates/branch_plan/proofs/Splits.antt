-- What becomes of trees where a leaf is branched.
use Rattle.std.proofs.Common.{◌≡◌, ◌≢◌, ℕ, zero, suc, ◌+◌, ◌<◌, ◌≤◌, ◌==◌, inl, inr, Bool, true, false, cond, List, [], ◌∷◌, length, Option, refl, sym, ap, subst, ◌∙◌, arith}
use Rattle.std.proofs.lemmas.Bool.{cases_lt, eqb-true, eqb-false}
use Rattle.version_table.specs.declared.table.Table.{Table}
use Rattle.bound_certificate.specs.declared.cert.Node.{Node}
use Rattle.bound_certificate.specs.declared.cert.Node.TheVariants.{Branch}
use Rattle.certificate_checker.specs.Shown.{fix, versions_of}
use Rattle.certificate_checker.specs.Faults.{IsRight}
use Rattle.certificate_checker.specs.Walk.{IsLeaf}
use Rattle.branch_plan.proofs.Forests.{branch_no_leaf}
use Rattle.branch_plan.specs.Private.Forest.{Follows, Forest, no_tree, leaf_at, branch_at, Stands, ids_then, leaf_occurs, leaves, occurs, size, split, width}

-- ---- counts
pub ids_count : (trees : Forest) (behind : List ℕ) → length (ids_then trees behind) ≡ size trees + length behind
ids_count no_tree behind = omega arith
ids_count (leaf_at id more) behind = omega (arith, ids_count more behind)
ids_count (branch_at id unit under more) behind =
    omega (arith, ids_count under (ids_then more behind), ids_count more behind)

pub leaves_size : (first count : ℕ) → size (leaves first count) ≡ count
leaves_size first zero = refl
leaves_size first (suc count) = ap suc (leaves_size (first + 1) count)

pub leaves_width : (first count : ℕ) → width (leaves first count) ≡ count
leaves_width first zero = refl
leaves_width first (suc count) = ap suc (leaves_width (first + 1) count)

same_number : (n : ℕ) → (n == n) ≡ true
same_number n = by_test (n == n) refl
  where
    by_test : (is : Bool) → (n == n) ≡ is → is ≡ true
    by_test true same = refl
    by_test false same = absurd (eqb-false n n same refl)

other_number : (n m : ℕ) → n ≢ m → (n == m) ≡ false
other_number n m differs = by_test (n == m) refl
  where
    by_test : (is : Bool) → (n == m) ≡ is → is ≡ false
    by_test true same = absurd (differs (eqb-true n m same))
    by_test false same = refl

-- a number below the first leaf, or behind the last, isn't among them; one between is, once
pub leaves_none : (j first count : ℕ) → j < first → occurs j (leaves first count) ≡ 0
leaves_none j first zero low = refl
leaves_none j first (suc count) low =
    let apart_is : cond (first == j) 1 0 ≡ 0 = ap (λ (is : Bool). cond {A = ℕ} is 1 0) (other_number first j (λ same. omega (arith, low, same))) in
    omega (arith, apart_is, leaves_none j (first + 1) count (omega (arith, low)))

apart : (n m : ℕ) → n ≤ m → n ≢ m → n + 1 ≤ m
apart n m low differs = elim (cases_lt n m) as (λ _. n + 1 ≤ m) [
  | inl less ↦ omega (arith, less)
  | inr more ↦ absurd (differs (omega (arith, low, more)))
]

add_zero : {n m : ℕ} → n ≡ m → 0 + n ≡ m
add_zero same = omega (arith, same)

pub leaves_one : (j first count : ℕ) → first ≤ j → j < first + count → occurs j (leaves first count) ≡ 1
leaves_one j first zero low high = absurd (omega (arith, low, high))
leaves_one j first (suc count) low high = by_test (first == j) refl (leaves_one j (first + 1) count)
  where
    by_test : (is : Bool) → (first == j) ≡ is → (first + 1 ≤ j → j < first + 1 + count → occurs j (leaves (first + 1) count) ≡ 1)
        → cond is 1 0 + occurs j (leaves (first + 1) count) ≡ 1
    by_test true same later = omega (arith, leaves_none j (first + 1) count (omega (arith, eqb-true first j same)))
    by_test false differs later = add_zero (later (apart first j low (eqb-false first j differs)) (omega (arith, high)))

-- ---- a branched leaf
-- a number so many times
abbrev times : ℕ → ℕ → ℕ
times zero m = 0
times (suc n) m = m + times n m

zero_add : (b : ℕ) → 0 + b ≡ b
zero_add b = omega arith

one_add : (b : ℕ) → 1 + b ≡ suc b
one_add b = omega arith

suc_add : (a b : ℕ) → suc a + b ≡ suc (a + b)
suc_add a b = omega arith

times-add : (a b m : ℕ) → times (a + b) m ≡ times a m + times b m
times-add zero b m =
    let same : times (0 + b) m ≡ times b m = ap (λ (n : ℕ). times n m) (zero_add b) in
    omega (arith, same)
times-add (suc a) b m =
    let same : times (suc a + b) m ≡ m + times (a + b) m = ap (λ (n : ℕ). times n m) (suc_add a b) in
    omega (arith, same, times-add a b m)

times-cond : (is : Bool) (b m : ℕ) → times (cond is 1 0 + b) m ≡ cond is m 0 + times b m
times-cond true b m = ap (λ (n : ℕ). times n m) (one_add b)
times-cond false b m =
    let same : times (0 + b) m ≡ times b m = ap (λ (n : ℕ). times n m) (zero_add b) in
    omega (arith, same)

split_leaf-occurs : (j id unit split_rest rest count had : ℕ) (made more : Forest) (is : Bool) → occurs j more ≡ split_rest → split_rest ≡ rest + count
    → occurs j (cond is (branch_at id unit made more) (leaf_at id more)) ≡ (cond (id == j) 1 0 + rest) + (cond is (occurs j made) 0 + count)
split_leaf-occurs j id unit split_rest rest count had made more true here_is same = omega (arith, here_is, same)
split_leaf-occurs j id unit split_rest rest count had made more false here_is same = omega (arith, here_is, same)

pub split-occurs : (j i unit : ℕ) (made trees : Forest) → occurs j (split i unit made trees) ≡ occurs j trees + times (leaf_occurs i trees) (occurs j made)
split-occurs j i unit made no_tree = refl
split-occurs j i unit made (leaf_at id more) =
    split_leaf-occurs j id unit (occurs j (split i unit made more)) (occurs j more) (times (leaf_occurs i more) (occurs j made)) 0 made (split i unit made more) (id == i) refl
    (split-occurs j i unit made more)
    ∙ ap (λ (n : ℕ). (cond (id == j) 1 0 + occurs j more) + n) (sym (times-cond (id == i) (leaf_occurs i more) (occurs j made)))
split-occurs j i unit made (branch_at id other under more) =
    omega (arith, split-occurs j i unit made under, split-occurs j i unit made more, times-add (leaf_occurs i under) (leaf_occurs i more) (occurs j made))

split_leaf-size : (id unit split_rest rest count : ℕ) (made more : Forest) (is : Bool) → size more ≡ split_rest → split_rest ≡ rest + count
    → size (cond is (branch_at id unit made more) (leaf_at id more)) ≡ suc rest + (cond is (size made) 0 + count)
split_leaf-size id unit split_rest rest count made more true here_is same = omega (arith, here_is, same)
split_leaf-size id unit split_rest rest count made more false here_is same = omega (arith, here_is, same)

pub split-size : (i unit : ℕ) (made trees : Forest) → size (split i unit made trees) ≡ size trees + times (leaf_occurs i trees) (size made)
split-size i unit made no_tree = refl
split-size i unit made (leaf_at id more) =
    split_leaf-size id unit (size (split i unit made more)) (size more) (times (leaf_occurs i more) (size made)) made (split i unit made more) (id == i) refl (split-size i unit made more)
    ∙ ap (λ (n : ℕ). suc (size more) + n) (sym (times-cond (id == i) (leaf_occurs i more) (size made)))
split-size i unit made (branch_at id other under more) =
    omega (arith, split-size i unit made under, split-size i unit made more, times-add (leaf_occurs i under) (leaf_occurs i more) (size made))

pub split-width : (i unit : ℕ) (made trees : Forest) → width (split i unit made trees) ≡ width trees
split-width i unit made no_tree = refl
split-width i unit made (leaf_at id more) = by_test (id == i) (split-width i unit made more)
  where
    by_test : (is : Bool) → width (split i unit made more) ≡ width more → width (cond is (branch_at id unit made (split i unit made more)) (leaf_at id (split i unit made more))) ≡ suc (width more)
    by_test true same = ap suc same
    by_test false same = ap suc same
split-width i unit made (branch_at id other under more) = ap suc (split-width i unit made more)

-- of a leaf that stands once
pub split_once : (j i unit : ℕ) (made trees : Forest) → leaf_occurs i trees ≡ 1 → occurs j (split i unit made trees) ≡ occurs j trees + occurs j made
split_once j i unit made trees one =
    let same : times (leaf_occurs i trees) (occurs j made) ≡ times 1 (occurs j made) = ap (λ (n : ℕ). times n (occurs j made)) one in
    omega (arith, split-occurs j i unit made trees, same)

pub split_once-size : (i unit : ℕ) (made trees : Forest) → leaf_occurs i trees ≡ 1 → size (split i unit made trees) ≡ size trees + size made
split_once-size i unit made trees one =
    let same : times (leaf_occurs i trees) (size made) ≡ times 1 (size made) = ap (λ (n : ℕ). times n (size made)) one in
    omega (arith, split-size i unit made trees, same)

-- a number that is a leaf's is one wherever it stands
pub leaf_as_often : (table : Table) (n : ℕ) (node : ℕ → Node) (path : ℕ → List (Option ℕ)) (i : ℕ) → IsLeaf (node i) → (own : ℕ → List (Option ℕ)) (k : ℕ) (trees : Forest)
    → Stands table n node path own k trees → leaf_occurs i trees ≡ occurs i trees
leaf_as_often table n node path i is own k no_tree stands = refl
leaf_as_often table n node path i is own k (leaf_at id more) stands = ap (λ (m : ℕ). cond (id == i) 1 0 + m) (leaf_as_often table n node path i is own (k + 1) more stands.4)
leaf_as_often table n node path i is own k (branch_at id unit under more) stands =
    let apart_is : cond (id == i) 1 0 ≡ 0 = ap (λ (b : Bool). cond {A = ℕ} b 1 0) (other_number id i (λ same.
    branch_no_leaf (node id) unit stands.1 (subst (λ (j : ℕ). IsLeaf (node j)) (sym same) is))) in
    omega (arith, apart_is, leaf_as_often table n node path i is (λ j. fix unit j (own k)) 0 under stands.5, leaf_as_often table n node path i is own (k + 1) more stands.6)

-- what stands has no number at or above its limit
pub none_above : (table : Table) (n : ℕ) (node : ℕ → Node) (path : ℕ → List (Option ℕ)) (j : ℕ) → n ≤ j → (own : ℕ → List (Option ℕ)) (k : ℕ) (trees : Forest)
    → Stands table n node path own k trees → occurs j trees ≡ 0
none_above table n node path j above own k no_tree stands = refl
none_above table n node path j above own k (leaf_at id more) stands =
    let apart_is : cond (id == j) 1 0 ≡ 0 = ap (λ (b : Bool). cond {A = ℕ} b 1 0) (other_number id j (λ same. omega (arith, same, above, stands.0))) in
    omega (arith, apart_is, none_above table n node path j above own (k + 1) more stands.4)
none_above table n node path j above own k (branch_at id unit under more) stands =
    let apart_is : cond (id == j) 1 0 ≡ 0 = ap (λ (b : Bool). cond {A = ℕ} b 1 0) (other_number id j (λ same. omega (arith, same, above, stands.0))) in
    omega (arith, apart_is, none_above table n node path j above (λ j. fix unit j (own k)) 0 under stands.5, none_above table n node path j above own (k + 1) more stands.6)

-- nodes and paths of the numbers below one are as they were, but for one leaf, which is a branch
pub record AreSplit (n i unit : ℕ) (node new_node : ℕ → Node) (path new_path : ℕ → List (Option ℕ)) : Type 0 where
  pub same : (j : ℕ) → j < n → j ≢ i → new_node j ≡ node j
  pub split_at : new_node i ≡ Branch unit
  pub paths : (j : ℕ) → j < n → new_path j ≡ path j

pub split_stands : (table : Table) (n m i unit : ℕ) (node new_node : ℕ → Node) (path new_path : ℕ → List (Option ℕ)) (made : Forest) → n ≤ m → IsLeaf (node i) → i < n
    → AreSplit n i unit node new_node path new_path → IsRight table (path i) (Branch unit) → 2 ≤ versions_of table unit → width made ≡ versions_of table unit
    → Stands table m new_node new_path (λ j. fix unit j (path i)) 0 made → (own : ℕ → List (Option ℕ)) (k : ℕ) (trees : Forest)
    → Stands table n node path own k trees → Stands table m new_node new_path own k (split i unit made trees)
split_stands table n m i unit node new_node path new_path made more_is is low changed right many all under_is own k no_tree stands = tt
split_stands table n m i unit node new_node path new_path made more_is is low changed right many all under_is own k (leaf_at id more) stands =
    by_test (id == i) refl (split_stands table n m i unit node new_node path new_path made more_is is low changed right many all under_is own (k + 1) more stands.4)
  where
    by_test : (same : Bool) → (id == i) ≡ same → Stands table m new_node new_path own (k + 1) (split i unit made more)
        → Stands table m new_node new_path own k (cond same (branch_at id unit made (split i unit made more)) (leaf_at id (split i unit made more)))
    by_test true same rest =
        let id_is : i ≡ id = sym (eqb-true id i same) in
        let path_is : path i ≡ own k = ap path id_is ∙ stands.1 in (
          omega (arith, stands.0, more_is),
          sym (ap new_node id_is) ∙ changed.split_at,
          subst (λ (f : List (Option ℕ)). IsRight table f (Branch unit)) path_is right,
          many,
          all,
          subst (λ (f : List (Option ℕ)). Stands table m new_node new_path (λ j. fix unit j f) 0 made) path_is under_is,
          rest,
        )
    by_test false differs rest =
        let node_is : new_node id ≡ node id = changed.same id stands.0 (eqb-false id i differs) in (
          omega (arith, stands.0, more_is),
          changed.paths id stands.0 ∙ stands.1,
          subst (λ (top : Node). IsLeaf top) (sym node_is) stands.2,
          subst (λ (top : Node). IsRight table (own k) top) (sym node_is) stands.3,
          rest,
        )
split_stands table n m i unit node new_node path new_path made more_is is low changed right many all under_is own k (branch_at id other under more) stands =
    let differs : id ≢ i = (λ same. branch_no_leaf (node id) other stands.1 (subst (λ (j : ℕ). IsLeaf (node j)) (sym same) is)) in (
      omega (arith, stands.0, more_is),
      changed.same id stands.0 differs ∙ stands.1,
      stands.2,
      stands.3,
      split-width i unit made under ∙ stands.4,
      split_stands table n m i unit node new_node path new_path made more_is is low changed right many all under_is (λ j. fix other j (own k)) 0 under stands.5,
      split_stands table n m i unit node new_node path new_path made more_is is low changed right many all under_is own (k + 1) more stands.6,
    )

-- ---- the order of the nodes
-- the same nodes behind each other, with new ones behind one of them
abbrev with_behind : (i : ℕ) → (made : Forest) → List ℕ → List ℕ
with_behind i made [] = []
with_behind i made (x ∷ xs) = x ∷ cond (x == i) (ids_then made (with_behind i made xs)) (with_behind i made xs)

ids_split : (table : Table) (n : ℕ) (node : ℕ → Node) (path : ℕ → List (Option ℕ)) (i unit : ℕ) (made : Forest) → IsLeaf (node i) → (own : ℕ → List (Option ℕ)) (k : ℕ) (trees : Forest)
    (behind : List ℕ) → Stands table n node path own k trees → ids_then (split i unit made trees) (with_behind i made behind) ≡ with_behind i made (ids_then trees behind)
ids_split table n node path i unit made is own k no_tree behind stands = refl
ids_split table n node path i unit made is own k (leaf_at id more) behind stands = by_test (id == i) (ids_split table n node path i unit made is own (k + 1) more behind stands.4)
  where
    by_test : (same : Bool) → ids_then (split i unit made more) (with_behind i made behind) ≡ with_behind i made (ids_then more behind)
        → ids_then (cond same (branch_at id unit made (split i unit made more)) (leaf_at id (split i unit made more))) (with_behind i made behind)
        ≡ id ∷ cond same (ids_then made (with_behind i made (ids_then more behind))) (with_behind i made (ids_then more behind))
    by_test true rest = ap (λ (xs : List ℕ). id ∷ ids_then made xs) rest
    by_test false rest = ap (λ (xs : List ℕ). id ∷ xs) rest
ids_split table n node path i unit made is own k (branch_at id other under more) behind stands =
    let differs = other_number id i (λ same. branch_no_leaf (node id) other stands.1 (subst (λ (j : ℕ). IsLeaf (node j)) (sym same) is)) in
    let rest = ids_split table n node path i unit made is own (k + 1) more behind stands.6 in
    let low = ids_split table n node path i unit made is (λ j. fix other j (own k)) 0 under (ids_then more behind) stands.5 in
    let all = with_behind i made (ids_then under (ids_then more behind)) in
    ap (λ (xs : List ℕ). id ∷ ids_then (split i unit made under) xs) rest ∙ ap (λ (xs : List ℕ). id ∷ xs) low
    ∙ sym (ap (λ (b : Bool). id ∷ cond b (ids_then made all) all) differs)

with_behind-follows : (n m i first : ℕ) (next new_next : ℕ → ℕ) (made : Forest) → n ≤ m → ((j : ℕ) → j < n → j ≢ i → new_next j ≡ next j) → new_next i ≡ first
    → ((xs : List ℕ) → Follows new_next m (next i) xs → Follows new_next m first (ids_then made xs)) → (at : ℕ) (xs : List ℕ) → Follows next n at xs
    → Follows new_next m at (with_behind i made xs)
with_behind-follows n m i first next new_next made more_is same first_is behind at [] follows = tt
with_behind-follows n m i first next new_next made more_is same first_is behind at (x ∷ xs) follows = (
  follows.0,
  omega (arith, follows.1, more_is),
  by_test (x == i) refl (with_behind-follows n m i first next new_next made more_is same first_is behind (next x) xs follows.2),
)
  where
    by_test : (is : Bool) → (x == i) ≡ is → Follows new_next m (next x) (with_behind i made xs)
        → Follows new_next m (new_next x) (cond is (ids_then made (with_behind i made xs)) (with_behind i made xs))
    by_test true is rest =
        let x_is : x ≡ i = eqb-true x i is in
        let begins : new_next x ≡ first = ap new_next x_is ∙ first_is in
        subst (λ (a : ℕ). Follows new_next m a (ids_then made (with_behind i made xs))) (sym begins)
        (behind (with_behind i made xs) (subst (λ (j : ℕ). Follows new_next m (next j) (with_behind i made xs)) x_is rest))
    by_test false is rest = subst (λ (a : ℕ). Follows new_next m a (with_behind i made xs)) (sym (same x follows.1 (eqb-false x i is))) rest

-- the order with the children behind their branch
pub split_follows : (table : Table) (n m i unit first : ℕ) (node : ℕ → Node) (path : ℕ → List (Option ℕ)) (next new_next : ℕ → ℕ) (made : Forest) → n ≤ m → IsLeaf (node i)
    → ((j : ℕ) → j < n → j ≢ i → new_next j ≡ next j) → new_next i ≡ first
    → ((xs : List ℕ) → Follows new_next m (next i) xs → Follows new_next m first (ids_then made xs)) → (own : ℕ → List (Option ℕ)) (k : ℕ) (tree : Forest)
    → Stands table n node path own k tree → (at : ℕ) → Follows next n at (ids_then tree []) → Follows new_next m at (ids_then (split i unit made tree) [])
split_follows table n m i unit first node path next new_next made more_is is same first_is behind own k tree stands at follows =
    subst (λ (xs : List ℕ). Follows new_next m at xs) (sym (ids_split table n node path i unit made is own k tree [] stands))
    (with_behind-follows n m i first next new_next made more_is same first_is behind at (ids_then tree []) follows)

-- children one after the other, the last before what was behind their branch
pub leaves_follow : (next : ℕ → ℕ) (m after first count last : ℕ) → last ≡ first + count → last ≤ m → 0 < count → ((j : ℕ) → first ≤ j → j + 1 < last → next j ≡ j + 1)
    → ((j : ℕ) → j + 1 ≡ last → next j ≡ after) → (xs : List ℕ) → Follows next m after xs → Follows next m first (ids_then (leaves first count) xs)
leaves_follow next m after first zero last last_is within some rise at_last xs follows = absurd (omega (arith, some))
leaves_follow next m after first (suc zero) last last_is within some rise at_last xs follows = (
  refl,
  omega (arith, last_is, within),
  subst (λ (a : ℕ). Follows next m a xs) (sym (at_last first (omega (arith, last_is)))) follows,
)
leaves_follow next m after first (suc (suc count)) last last_is within some rise at_last xs follows = (
  refl,
  omega (arith, last_is, within),
  subst (λ (a : ℕ). Follows next m a (ids_then (leaves (first + 1) (suc count)) xs)) (sym (rise first (omega arith) (omega (arith, last_is))))
      (leaves_follow next m after (first + 1) (suc count) last (omega (arith, last_is)) within (omega arith) (λ j low. rise j (omega (arith, low))) at_last xs follows),
)
