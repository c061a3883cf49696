-- Enough nodes: a leaf with a free unit can be branched, since no tree has more nodes than the whole one.
use Rattle.std.proofs.Common.{
  ◌≡◌,
  ℕ,
  suc,
  ◌+◌,
  ◌*◌,
  ◌<◌,
  ◌≤◌,
  inl,
  inr,
  Bool,
  true,
  nat_le,
  List,
  [],
  ◌∷◌,
  length,
  map,
  get_or,
  All,
  Option,
  Some,
  None,
  is_none,
  refl,
  sym,
  ap,
  subst,
  ◌∙◌,
  arith,
}
use Rattle.std.specs.List.{AllByRecursion}
use Rattle.std.specs.List.Sorted.{IsPermutation, IsSortedBy}
use Rattle.std.proofs.Math.ListN.{get_or-map}
use Rattle.std.proofs.Math.Nat.{mul-one, suc-mul}
use Rattle.std.proofs.lemmas.Bool.{cases_eq, cases_lt}
use Rattle.std.proofs.lemmas.List.{get_or_past, get_or-set_same, get_or-set_other, length-map, length-set}
use Rattle.std.proofs.lemmas.List.Elements.{recursion_from_All}
use Rattle.std.proofs.lemmas.Nat.{mul-le}
use Rattle.version_table.specs.declared.table.Unit.{Unit as CodedUnit}
use Rattle.version_table.specs.declared.table.Table.{Table}
use Rattle.version_table.specs.Table.{units_of}
use Rattle.bound_certificate.specs.declared.cert.Cert.{Cert}
use Rattle.bound_certificate.specs.declared.cert.Node.{Node}
use Rattle.bound_certificate.specs.declared.cert.Node.TheVariants.{Branch}
use Rattle.certificate_checker.specs.Shown.{fix, unfixed, versions_of}
use Rattle.certificate_checker.specs.Faults.{IsFree, IsRight}
use Rattle.certificate_checker.specs.Walk.{IsLeaf, Shows, Stops, Walked, Walks, WalksEach, beside, missing, wrong, leaf, branch, none, stop, next}
use Rattle.branch_plan.specs.declared.planner.Search.{Search}
use Rattle.branch_plan.specs.declared.planner.Search.TheVariants.{Budget, Optimal}
use Rattle.branch_plan.specs.Plan.{ShowsItsBound}
use Rattle.branch_plan.specs.Tree.{AreEnough, BranchesOnMany, HasLeaf, HasLeafBelow, IsPast, IsSpent, here, below, in_first, in_later, nodes_of_whole_tree, version_counts}
use Rattle.branch_plan.proofs.Behind.{EachFrom, ShowsFrom, each_from, moved, same_walk, shows_from}
use Rattle.branch_plan.proofs.WholeTrees.{
  Fall,
  IsAmong,
  IsLessFree,
  IsTakenOut,
  all_free,
  among_ordered,
  branch_fits,
  falls,
  fewer_free,
  many_among,
  many_counts,
  many_from,
  ordered,
  some_whole,
  whole,
}
use Rattle.certificate_checker.proofs.Units.{no_unit}

-- ---- units in order
abbrev free_in : List (Option ℕ) → ℕ → Bool
free_in fixed unit = is_none (get_or fixed unit None)

-- the nodes of the whole tree where these versions are fixed
abbrev nodes_at : Table → (order : List ℕ) → (fixed : List (Option ℕ)) → ℕ
nodes_at table order fixed = whole (versions_of table) (free_in fixed) order

-- each unit of two versions or more is there, those of most versions first
record AreInOrder (table : Table) (order : List ℕ) : Type 0 where
  pub most : ℕ
  pub fall : Fall (versions_of table) most order
  pub among : (unit : ℕ) → 2 ≤ versions_of table unit → IsAmong unit order

-- a unit of the table with two versions or more, of which none is fixed
record MayBranchOn (table : Table) (fixed : List (Option ℕ)) (unit : ℕ) : Type 0 where
  pub within : unit < length fixed
  pub free : IsFree fixed unit
  pub many : 2 ≤ versions_of table unit

taken_out : (table : Table) (fixed : List (Option ℕ)) (unit k : ℕ) → MayBranchOn table fixed unit → IsTakenOut (versions_of table) (free_in (fix unit k fixed)) (free_in fixed) unit
taken_out table fixed unit k may = record {
  off = ap (λ (entry : Option ℕ). is_none entry) (get_or-set_same fixed unit (Some k) None may.within);
  on = ap (λ (entry : Option ℕ). is_none entry) may.free;
  same = λ other differs. ap (λ (entry : Option ℕ). is_none entry) (get_or-set_other fixed unit other (Some k) None differs);
  some = omega (arith, may.many);
}

-- a branch and the whole trees of its children fit
children_fit : (table : Table) (order : List ℕ) (fixed : List (Option ℕ)) (unit k : ℕ) → AreInOrder table order → MayBranchOn table fixed unit
    → 1 + versions_of table unit * nodes_at table order (fix unit k fixed) ≤ nodes_at table order fixed
children_fit table order fixed unit k are may =
    branch_fits (versions_of table) (free_in (fix unit k fixed)) (free_in fixed) unit are.most order (taken_out table fixed unit k may) are.fall (are.among unit may.many)

-- and so do the leaves that it makes
leaves_fit : (table : Table) (order : List ℕ) (fixed : List (Option ℕ)) (unit : ℕ) → AreInOrder table order → MayBranchOn table fixed unit
    → 1 + versions_of table unit ≤ nodes_at table order fixed
leaves_fit table order fixed unit are may =
    let n = versions_of table unit in
    let some : n * 1 ≤ n * nodes_at table order (fix unit 0 fixed) =
    mul-le n 1 n (nodes_at table order (fix unit 0 fixed)) (omega arith) (some_whole (versions_of table) (free_in (fix unit 0 fixed)) order) in
    omega (arith, some, mul-one n, children_fit table order fixed unit 0 are may)

-- whichever version is fixed, as many units are free
alike : (table : Table) (order : List ℕ) (fixed : List (Option ℕ)) (unit : ℕ) → unit < length fixed → (k : ℕ) → nodes_at table order (fix unit k fixed) ≤ nodes_at table order (fix unit 0 fixed)
alike table order fixed unit within k = fewer_free (versions_of table) (free_in (fix unit k fixed)) (free_in (fix unit 0 fixed)) order each
  where
    each : (other : ℕ) → IsLessFree (versions_of table) (free_in (fix unit k fixed)) (free_in (fix unit 0 fixed)) other
    each other = elim (cases_eq other unit) as (λ _. IsLessFree (versions_of table) (free_in (fix unit k fixed)) (free_in (fix unit 0 fixed)) other) [
      | inl same ↦ inl (subst (λ (u : ℕ). free_in (fix unit k fixed) u ≡ free_in (fix unit 0 fixed) u) (sym same)
          (ap (λ (entry : Option ℕ). is_none entry) (get_or-set_same fixed unit (Some k) None within)
          ∙ sym (ap (λ (entry : Option ℕ). is_none entry) (get_or-set_same fixed unit (Some 0) None within))))
      | inr differs ↦ inl (ap (λ (entry : Option ℕ). is_none entry) (get_or-set_other fixed unit other (Some k) None differs)
          ∙ sym (ap (λ (entry : Option ℕ). is_none entry) (get_or-set_other fixed unit other (Some 0) None differs)))
    ]

-- ---- trees that are walked
abbrev AllMany : Table → List Node → Type 0
AllMany table nodes = AllByRecursion (BranchesOnMany table) nodes

-- the nodes of what shows a bound are no more than these
abbrev IsWithin : Table → (most : ℕ) → List Node → Walked → Type 0
IsWithin table most nodes (Shows bound behind) = (length nodes ≤ most + length behind) × AllMany table behind
IsWithin table most nodes (Stops why left) = Unit {0}

branch_within : (table : Table) (most children : ℕ) (node : Node) (nodes : List Node) (walked : Walked) → 1 + children ≤ most → IsWithin table children nodes walked
    → IsWithin table most (node ∷ nodes) walked
branch_within table most children node nodes (Shows bound behind) fits each = (omega (arith, fits, each.0), each.1)
branch_within table most children node nodes (Stops why left) fits each = tt

next_within : (table : Table) (first most more : ℕ) (nodes behind : List Node) (bound : Option ℕ) (walked : Walked) → first ≤ most → IsWithin table first nodes (Shows bound behind)
    → (AllMany table behind → IsWithin table (more * most) behind walked) → IsWithin table (suc more * most) nodes (beside bound walked)
next_within table first most more nodes behind bound (Shows other rest) fits one others =
    let later : IsWithin table (more * most) behind (Shows other rest) = others one.1 in
    (omega (arith, fits, one.0, later.0, suc-mul more most), later.1)
next_within table first most more nodes behind bound (Stops why left) fits one others = tt

may_branch : (table : Table) (fixed : List (Option ℕ)) (unit : ℕ) → length fixed ≡ length (units_of table) → IsRight table fixed (Branch unit) → 2 ≤ versions_of table unit
    → MayBranchOn table fixed unit
may_branch table fixed unit size right many = record { within = omega (arith, size, right.0); free = right.1; many = many }

mutual
  walk_within : (table : Table) (order : List ℕ) → AreInOrder table order → (fixed : List (Option ℕ)) (nodes : List Node) (walked : Walked) → Walks table fixed nodes walked
      → length fixed ≡ length (units_of table) → AllMany table nodes → IsWithin table (nodes_at table order fixed) nodes walked
  walk_within table order are fixed nodes walked (missing f) size all = tt
  walk_within table order are fixed nodes walked (wrong f node behind why first) size all = tt
  walk_within table order are fixed nodes walked (leaf f node behind is right) size all = (omega (arith, some_whole (versions_of table) (free_in f) order), all.1)
  walk_within table order are fixed nodes walked (branch f unit behind w right each) size all =
      branch_within table (nodes_at table order f) (versions_of table unit * nodes_at table order (fix unit 0 f)) (Branch unit) behind w
      (children_fit table order f unit 0 are (may_branch table f unit size right all.0))
      (each_within table order are f unit 0 (versions_of table unit) behind w each size (nodes_at table order (fix unit 0 f))
      (alike table order f unit (omega (arith, size, right.0))) all.1)

  each_within : (table : Table) (order : List ℕ) → AreInOrder table order → (fixed : List (Option ℕ)) (unit k children : ℕ) (nodes : List Node) (walked : Walked)
      → WalksEach table fixed unit k children nodes walked → length fixed ≡ length (units_of table) → (most : ℕ) → ((j : ℕ) → nodes_at table order (fix unit j fixed) ≤ most)
      → AllMany table nodes → IsWithin table (children * most) nodes walked
  each_within table order are fixed unit k children nodes walked (none f u i ns) size most fits all = (omega arith, all)
  each_within table order are fixed unit k children nodes walked (stop f u i more ns why left first) size most fits all = tt
  each_within table order are fixed unit k children nodes walked (next f u i more ns behind bound w first others) size most fits all =
      next_within table (nodes_at table order (fix u i f)) most more ns behind bound w (fits i)
      (walk_within table order are (fix u i f) ns (Shows bound behind) first (length-set f u (Some i) ∙ size) all)
      (λ rest. each_within table order are f u (i + 1) more behind w others size most fits rest)

-- ---- a tree with a leaf on whose path a unit is free
-- nodes and so many more are no more than these
abbrev HasRoom : (most versions : ℕ) → List Node → (behind : List Node) → Type 0
HasRoom most versions nodes behind = length nodes + versions ≤ most + length behind

room_here : (table : Table) (order : List ℕ) (path : List (Option ℕ)) (unit : ℕ) (node : Node) (nodes : List Node) (bound : Option ℕ) (behind : List Node) → AreInOrder table order
    → MayBranchOn table path unit → IsLeaf node → ShowsFrom table path (node ∷ nodes) (Shows bound behind) → HasRoom (nodes_at table order path) (versions_of table unit) (node ∷ nodes) behind
room_here table order path unit node nodes bound behind are may is (inl first) =
    let same : length behind ≡ length nodes = ap (λ (ns : List Node). length ns) first.1 in
    omega (arith, same, leaves_fit table order path unit are may)
room_here table order path unit node nodes bound behind are may is (inr (other, same, right, each)) = absurd (subst (λ (n : Node). IsLeaf n) same is)

room_below : (table : Table) (order : List ℕ) (fixed : List (Option ℕ)) (versions unit : ℕ) (nodes : List Node) (bound : Option ℕ) (behind : List Node) → AreInOrder table order
    → length fixed ≡ length (units_of table) → 2 ≤ versions_of table unit
    → ((most : ℕ) → ((j : ℕ) → nodes_at table order (fix unit j fixed) ≤ most) → WalksEach table fixed unit 0 (versions_of table unit) nodes (Shows bound behind)
    → HasRoom (versions_of table unit * most) versions nodes behind)
    → ShowsFrom table fixed (Branch unit ∷ nodes) (Shows bound behind) → HasRoom (nodes_at table order fixed) versions (Branch unit ∷ nodes) behind
room_below table order fixed versions unit nodes bound behind are size many under (inl first) = absurd first.0
room_below table order fixed versions unit nodes bound behind are size many under (inr (other, same, right, each)) =
    let most = nodes_at table order (fix unit 0 fixed) in
    let room : HasRoom (versions_of table unit * most) versions nodes behind =
    under most (alike table order fixed unit (omega (arith, size, right.0))) (moved table fixed unit other nodes (Shows bound behind) same each) in
    omega (arith, room, children_fit table order fixed unit 0 are (may_branch table fixed unit size right many))

room_first : (table : Table) (order : List ℕ) (fixed : List (Option ℕ)) (versions unit k more most : ℕ) (nodes : List Node) (bound : Option ℕ) (behind : List Node) → AreInOrder table order
    → length fixed ≡ length (units_of table) → ((j : ℕ) → nodes_at table order (fix unit j fixed) ≤ most) → AllMany table nodes
    → ((first : Option ℕ) (middle : List Node) → Walks table (fix unit k fixed) nodes (Shows first middle) → HasRoom (nodes_at table order (fix unit k fixed)) versions nodes middle)
    → EachFrom table fixed unit k (suc more) nodes (Shows bound behind) → HasRoom (suc more * most) versions nodes behind
room_first table order fixed versions unit k more most nodes bound behind are size fits all one (first, middle, last, walk, each) =
    let here_within : IsWithin table (nodes_at table order (fix unit k fixed)) nodes (Shows first middle) =
    walk_within table order are (fix unit k fixed) nodes (Shows first middle) walk (length-set fixed unit (Some k) ∙ size) all in
    let later : IsWithin table (more * most) middle (Shows last behind) =
    each_within table order are fixed unit (k + 1) more middle (Shows last behind) each size most fits here_within.1 in
    omega (arith, one first middle walk, fits k, later.0, suc-mul more most)

room_later : (table : Table) (order : List ℕ) (fixed : List (Option ℕ)) (versions unit k more most : ℕ) (nodes from : List Node) (shown bound : Option ℕ) (behind : List Node)
    → AreInOrder table order → length fixed ≡ length (units_of table) → ((j : ℕ) → nodes_at table order (fix unit j fixed) ≤ most) → AllMany table nodes
    → Walks table (fix unit k fixed) nodes (Shows shown from)
    → ((last : Option ℕ) → AllMany table from → WalksEach table fixed unit (k + 1) more from (Shows last behind) → HasRoom (more * most) versions from behind)
    → EachFrom table fixed unit k (suc more) nodes (Shows bound behind) → HasRoom (suc more * most) versions nodes behind
room_later table order fixed versions unit k more most nodes from shown bound behind are size fits all before others (first, middle, last, walk, each) =
    let here_within : IsWithin table (nodes_at table order (fix unit k fixed)) nodes (Shows shown from) =
    walk_within table order are (fix unit k fixed) nodes (Shows shown from) before (length-set fixed unit (Some k) ∙ size) all in
    let same : from ≡ middle = same_walk table (fix unit k fixed) nodes (Shows shown from) before (Shows first middle) walk in
    let room : HasRoom (more * most) versions from behind =
    others last here_within.1 (subst (λ (ns : List Node). WalksEach table fixed unit (k + 1) more ns (Shows last behind)) (sym same) each) in
    omega (arith, here_within.0, fits k, room, suc-mul more most)

mutual
  leaf_room : (table : Table) (order : List ℕ) (node : Node) (path : List (Option ℕ)) (unit : ℕ) → AreInOrder table order → unit < length (units_of table) → IsFree path unit
      → 2 ≤ versions_of table unit → (fixed : List (Option ℕ)) (nodes : List Node) → HasLeaf table node path fixed nodes → length fixed ≡ length (units_of table) → AllMany table nodes
      → (bound : Option ℕ) (behind : List Node) → Walks table fixed nodes (Shows bound behind) → HasRoom (nodes_at table order fixed) (versions_of table unit) nodes behind
  leaf_room table order node path unit are within free many fixed nodes (here ns is) size all bound behind walk =
      room_here table order path unit node ns bound behind are (record { within = omega (arith, within, size); free = free; many = many }) is
      (shows_from table path (node ∷ ns) (Shows bound behind) walk)
  leaf_room table order node path unit are within free many fixed nodes (below f u ns under) size all bound behind walk =
      room_below table order f (versions_of table unit) u ns bound behind are size all.0
      (λ most fits each. below_room table order node path unit are within free many f u 0 (versions_of table u) ns under size all.1 most fits bound behind each)
      (shows_from table f (Branch u ∷ ns) (Shows bound behind) walk)

  below_room : (table : Table) (order : List ℕ) (node : Node) (path : List (Option ℕ)) (unit : ℕ) → AreInOrder table order → unit < length (units_of table) → IsFree path unit
      → 2 ≤ versions_of table unit → (fixed : List (Option ℕ)) (on k children : ℕ) (nodes : List Node) → HasLeafBelow table node path fixed on k children nodes
      → length fixed ≡ length (units_of table) → AllMany table nodes → (most : ℕ) → ((j : ℕ) → nodes_at table order (fix on j fixed) ≤ most)
      → (bound : Option ℕ) (behind : List Node) → WalksEach table fixed on k children nodes (Shows bound behind) → HasRoom (children * most) (versions_of table unit) nodes behind
  below_room table order node path unit are within free many fixed on k children nodes (in_first f u i more ns has) size all most fits bound behind each =
      room_first table order f (versions_of table unit) u i more most ns bound behind are size fits all
      (λ first middle walk. leaf_room table order node path unit are within free many (fix u i f) ns has (length-set f u (Some i) ∙ size) all first middle walk)
      (each_from table f u i (suc more) ns (Shows bound behind) each)
  below_room table order node path unit are within free many fixed on k children nodes (in_later f u i more ns from shown before has) size all most fits bound behind each =
      room_later table order f (versions_of table unit) u i more most ns from shown bound behind are size fits all before
      (λ last rest later. below_room table order node path unit are within free many f u (i + 1) more from has size rest most fits last behind later)
      (each_from table f u i (suc more) ns (Shows bound behind) each)

-- ---- the units of a table in order

abbrev pub counts_of : Table → List ℕ
counts_of table = map (λ (unit : CodedUnit). length unit.versions.items) (units_of table)

pub count_at : (table : Table) (unit : ℕ) → get_or (counts_of table) unit 0 ≡ versions_of table unit
count_at table unit = get_or-map (λ (u : CodedUnit). length u.versions.items) (units_of table) unit no_unit

count_is : (table : Table) (unit j : ℕ) → unit ≡ 0 + j → versions_of table unit ≡ get_or (counts_of table) j 0
count_is table unit j is =
    let same : unit ≡ j = omega (arith, is) in
    subst (λ (i : ℕ). versions_of table unit ≡ get_or (counts_of table) i 0) same (sym (count_at table unit))

first_versions : (versions : ℕ → ℕ) → List ℕ → ℕ
first_versions versions [] = 0
first_versions versions (unit ∷ units) = versions unit

falls_from_first : (versions : ℕ → ℕ) (units : List ℕ) → IsSortedBy (λ a b. nat_le (suc b) a) (map versions units) → (most : ℕ) × Fall versions most units
falls_from_first versions [] sorted = (0, tt)
falls_from_first versions (unit ∷ units) sorted = (versions unit, falls versions (versions unit) (unit ∷ units) (λ d some. omega arith) sorted)

in_order : (table : Table) (counts : List ℕ) → IsPermutation (version_counts table) counts → IsSortedBy (λ a b. nat_le (suc b) a) counts
    → (order : List ℕ) × AreInOrder table order × (map (versions_of table) order ≡ counts)
in_order table counts by sorted =
    let many = many_from 0 (counts_of table) in
    let same : map (versions_of table) many ≡ version_counts table = many_counts (versions_of table) 0 (counts_of table) (λ unit j is within. count_is table unit j is) in
    let made = ordered (versions_of table) many counts (subst (λ (xs : List ℕ). IsPermutation xs counts) (sym same) by) in
    let fall = falls_from_first (versions_of table) made.0 (subst (λ (xs : List ℕ). IsSortedBy (λ a b. nat_le (suc b) a) xs) (sym made.2) sorted) in (
      made.0,
      record {
        most = fall.0;
        fall = fall.1;
        among = λ unit two. among_ordered unit many made.0 made.1
            (many_among unit unit 0 (counts_of table) (omega arith) (subst (λ (n : ℕ). 2 ≤ n) (sym (count_at table unit)) two));
      },
      made.2,
    )

-- where nothing is fixed each unit is free
free_unfixed : (table : Table) (unit : ℕ) → free_in (unfixed table) unit ≡ true
free_unfixed table unit =
    let nothing : CodedUnit → Option ℕ = λ u. None in
    ap (λ (entry : Option ℕ). is_none entry) (get_or-map nothing (units_of table) unit no_unit)

in_table : (table : Table) (unit : ℕ) → 2 ≤ versions_of table unit → unit < length (units_of table)
in_table table unit many = elim (cases_lt unit (length (units_of table))) as (λ _. unit < length (units_of table)) [
  | inl within ↦ within
  | inr past ↦ absurd (few (ap (λ (u : CodedUnit). length u.versions.items) (get_or_past (units_of table) unit no_unit past)))
]
  where
    few : versions_of table unit ≡ 0 → ⊥
    few is = omega (arith, is, many)

-- ---- enough nodes
-- where they are enough, no leaf with a free unit stands in the way
pub never_spent : (table : Table) (nodes_most : ℕ) (cert : Cert) → ShowsItsBound table cert → All (BranchesOnMany table) cert.nodes → AreEnough table nodes_most → IsSpent table nodes_most cert → ⊥
never_spent table nodes_most cert shows many enough spent =
    let made = in_order table enough.0 enough.1 enough.2 in
    let nothing : CodedUnit → Option ℕ = λ u. None in
    let room : HasRoom (nodes_at table made.0 (unfixed table)) (versions_of table spent.unit) cert.nodes [] =
    leaf_room table made.0 spent.leaf spent.path spent.unit made.1 (in_table table spent.unit spent.many) spent.free spent.many (unfixed table) cert.nodes spent.has_leaf
    (length-map (units_of table) nothing) (recursion_from_All (BranchesOnMany table) cert.nodes many) (Some cert.bound) [] shows in
    let all : nodes_at table made.0 (unfixed table) ≡ nodes_of_whole_tree enough.0 =
    all_free (versions_of table) (free_in (unfixed table)) nodes_of_whole_tree made.0 refl (λ count counts. refl) (free_unfixed table)
    ∙ ap (λ (counts : List ℕ). nodes_of_whole_tree counts) made.2 in
    not_past spent.past (omega (arith, room, all, enough.3))
  where
    not_past : IsPast table nodes_most (versions_of table spent.unit) cert → length cert.nodes + versions_of table spent.unit ≤ nodes_most → ⊥
    not_past (inl past) within = omega (arith, past, within)
    not_past (inr (few, full)) within = few enough

pub always_optimal : (table : Table) (nodes_most : ℕ) (cert : Cert) (search : Search) → ShowsItsBound table cert → All (BranchesOnMany table) cert.nodes
    → (search ≡ Budget → IsSpent table nodes_most cert) → AreEnough table nodes_most → search ≡ Optimal
always_optimal table nodes_most cert Optimal shows many spent enough = refl
always_optimal table nodes_most cert Budget shows many spent enough = absurd (never_spent table nodes_most cert shows many enough (spent refl))
