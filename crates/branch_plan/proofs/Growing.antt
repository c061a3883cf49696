-- Children one after the other, and the tree with them.
use Rattle.std.proofs.Common.{◌≡◌, ◌≢◌, ℕ, ◌+◌, ◌-◌, ◌<◌, ◌≤◌, ◌==◌, ◌⊎◌, inl, inr, Bool, true, false, cond, List, [], ◌∷◌, ◌++◌, length, set, Option, Some, None, refl, sym, ap, subst, ◌∙◌, arith}
use Rattle.std.specs.List.{Contains}
use Rattle.std.specs.List.Sorted.{IsPermutation}
use Rattle.std.specs.declared.cmp.Reverse.{Reverse}
use Rattle.std.proofs.lemmas.Bool.{cases_eq, cases_lt}
use Rattle.std.proofs.lemmas.List.{get_or_append_left, get_or_at, length-append}
use Rattle.std.proofs.lemmas.List.Sorted.{Contains-permutation, IsPermutation-sym}
use Rattle.version_table.specs.declared.table.Table.{Table}
use Rattle.bound_certificate.specs.declared.cert.Node.{Node}
use Rattle.bound_certificate.specs.declared.cert.Node.TheVariants.{Branch, Open}
use Rattle.certificate_checker.specs.Checked.{IsAtMost}
use Rattle.certificate_checker.specs.Faults.{IsRight}
use Rattle.certificate_checker.specs.Shown.{bound_of_leaf, fix, versions_of}
use Rattle.certificate_checker.specs.Walk.{IsLeaf}
use Rattle.branch_plan.specs.declared.arena.Link.{Link}
use Rattle.branch_plan.specs.declared.leaves.Leaf.{Leaf}
use Rattle.branch_plan.specs.Private.Branching.{AreChildren, AreLinkedBehind, IsGrown, IsOpenAt, IsSettledIn, IsWith, times_in}
use Rattle.branch_plan.specs.Private.Forest.{leaves, split}
use Rattle.branch_plan.specs.Private.Growth.{node_of}
use Rattle.branch_plan.specs.Private.Leaves.{IsFreeUnit, IsLeafOn, IsSettledBy, MayBranch, MayStand}
use Rattle.branch_plan.specs.Private.Found.{AreSearchedIn, IsNoLower}
use Rattle.branch_plan.proofs.Branched.{AreMade, branch_node, long_with, new_node, new_path, old_node, old_path, paths_with, tree_branched}
use Rattle.branch_plan.proofs.Forests.{branch_no_leaf}
use Rattle.branch_plan.proofs.Opens.{contains_first, contains_more, first_or_more, other_none, self_one, times-more, times_none, times_permuted, times_some}

abbrev Leaves : Type 0
Leaves = List (Reverse (ℕ × ℕ))

-- ---- no child yet
pub no_children : (table : Table) (most floor : ℕ) (fixed : List (Option ℕ)) (unit first : ℕ) (made : List Node) (leaves : Leaves) (distortion : ℕ) → made ≡ []
    → AreChildren table most floor fixed unit first 0 made leaves leaves distortion
no_children table most floor fixed unit first made leaves distortion none =
    record {
      count = ap length none;
      is = λ j low. absurd (omega (arith, low));
      right = λ j low. absurd (omega (arith, low));
      each = λ j low. absurd (omega (arith, low));
      settled = λ j low. absurd (omega (arith, low));
      kept = λ leaf there. there;
      only = λ leaf there. inl there;
      outside = λ j where_is. omega arith;
      inside = λ j. omega arith;
    }

-- ---- one child more
pub lower_bound : (low high : ℕ) (shown : Option ℕ) → low ≤ high → IsAtMost high shown → IsAtMost low shown
lower_bound low high None less most = tt
lower_bound low high (Some bound) less most = omega (arith, less, most)

node_kept : (made : List Node) (node : Node) (j : ℕ) → j < length made → node_of (made ++ node ∷ []) j ≡ node_of made j
node_kept made node j low = get_or_append_left made (node ∷ []) Open j low

node_new : (made : List Node) (node : Node) (j k : ℕ) → length made ≡ k → j ≡ k → node_of (made ++ node ∷ []) j ≡ node
node_new made node j k long same = get_or_at made node [] Open j (long ∙ sym same)

-- an old place or the new one
old_or_new : (j k : ℕ) → j < k + 1 → (j < k) ⊎ (j ≡ k)
old_or_new j k low = elim (cases_lt j k) as (λ _. (j < k) ⊎ (j ≡ k)) [
  | inl less ↦ inl less
  | inr more ↦ inr (omega (arith, low, more))
]

-- a fact of each node that is there holds of one more
each_more : (P : ℕ → Node → Type 0) (made : List Node) (node : Node) (k : ℕ) → length made ≡ k → ((j : ℕ) → j < k → P j (node_of made j)) → P k node → (j : ℕ) → j < k + 1
    → P j (node_of (made ++ node ∷ []) j)
each_more P made node k long each own j low = by_place (old_or_new j k low)
  where
    by_place : (j < k) ⊎ (j ≡ k) → P j (node_of (made ++ node ∷ []) j)
    by_place (inl less) = subst (λ (n : Node). P j n) (sym (node_kept made node j (omega (arith, less, long)))) (each j less)
    by_place (inr same) =
        subst (λ (n : Node). P j n) (sym (node_new made node j k long same)) (subst (λ (i : ℕ). P i node) (sym same) own)

-- how a child's bound stands to the distortion and the leaves
abbrev IsSettledChild : Table → (fixed : List (Option ℕ)) → (unit first : ℕ) → (leaves : Leaves) → (distortion : ℕ) → (j : ℕ) → Node → Type 0
IsSettledChild table fixed unit first leaves distortion j node =
    IsAtMost distortion (bound_of_leaf table (fix unit j fixed) node)
    ⊎ ((leaf : Reverse (ℕ × ℕ)) × Contains leaves leaf × (leaf.0.1 ≡ first + j) × (bound_of_leaf table (fix unit j fixed) node ≡ Some leaf.0.0))

settled_more : (table : Table) (fixed : List (Option ℕ)) (unit first : ℕ) (leaves more : Leaves) (old new j : ℕ) (node : Node) → new ≤ old
    → ((leaf : Reverse (ℕ × ℕ)) → Contains leaves leaf → Contains more leaf) → IsSettledChild table fixed unit first leaves old j node → IsSettledChild table fixed unit first more new j node
settled_more table fixed unit first leaves more old new j node less kept (inl most) = inl (lower_bound new old (bound_of_leaf table (fix unit j fixed) node) less most)
settled_more table fixed unit first leaves more old new j node less kept (inr (leaf, there, number, is)) = inr (leaf, kept leaf there, number, is)

settled_own : (table : Table) (fixed : List (Option ℕ)) (unit first k number : ℕ) (leaves more : Leaves) (distortion : ℕ) (node : Node) (bound : Option ℕ)
    → number ≡ first + k → IsWith bound number leaves more → IsSettledBy table (fix unit k fixed) distortion node bound → IsSettledChild table fixed unit first more distortion k node
settled_own table fixed unit first k number leaves more distortion node None number_is with_is settled = inl settled
settled_own table fixed unit first k number leaves more distortion node (Some bound) number_is with_is settled =
    let new = with_is.new bound refl in
    inr (new.0, new.1, new.3 ∙ number_is, settled.bound_is ∙ ap Some (sym new.2))

-- a leaf that may be branched is from before, or a child's
abbrev IsFromChild : Table → (floor : ℕ) → (fixed : List (Option ℕ)) → (unit first k : ℕ) → (made : List Node) → Reverse (ℕ × ℕ) → Type 0
IsFromChild table floor fixed unit first k made leaf =
    (j : ℕ) × (j < k) × (leaf.0.1 ≡ first + j) × MayBranch table (fix unit j fixed) (node_of made j) leaf.0.0 × (floor ≤ leaf.0.0) × AreSearchedIn table (node_of made j)

from_more : (table : Table) (floor : ℕ) (fixed : List (Option ℕ)) (unit first k : ℕ) (made : List Node) (node : Node) (leaf : Reverse (ℕ × ℕ)) → length made ≡ k
    → IsFromChild table floor fixed unit first k made leaf → IsFromChild table floor fixed unit first (k + 1) (made ++ node ∷ []) leaf
from_more table floor fixed unit first k made node leaf long (j, low, number, may, at_least, searched) =
    let same = sym (node_kept made node j (omega (arith, low, long))) in (
      j,
      omega (arith, low),
      number,
      subst (λ (n : Node). MayBranch table (fix unit j fixed) n leaf.0.0) same may,
      at_least,
      subst (λ (n : Node). AreSearchedIn table n) same searched,
    )

from_own : (table : Table) (floor : ℕ) (fixed : List (Option ℕ)) (unit first k number : ℕ) (made : List Node) (node : Node) (bound : Option ℕ) (distortion : ℕ)
    (leaf : Reverse (ℕ × ℕ)) → length made ≡ k → number ≡ first + k → IsSettledBy table (fix unit k fixed) distortion node bound → AreSearchedIn table node → IsNoLower floor bound
    → bound ≡ Some leaf.0.0 → leaf.0.1 ≡ number → IsFromChild table floor fixed unit first (k + 1) (made ++ node ∷ []) leaf
from_own table floor fixed unit first k number made node None distortion leaf long number_is settled searched least is place = absurd (grind (arith, is))
from_own table floor fixed unit first k number made node (Some bound) distortion leaf long number_is settled searched least is place =
    let same : node ≡ node_of (made ++ node ∷ []) k = sym (node_new made node k k long refl) in
    let bound_same : bound ≡ leaf.0.0 = some_same bound leaf.0.0 is in
    let may : MayBranch table (fix unit k fixed) node leaf.0.0 = subst (λ (b : ℕ). MayBranch table (fix unit k fixed) node b) bound_same settled in (
      k,
      omega arith,
      place ∙ number_is,
      subst (λ (n : Node). MayBranch table (fix unit k fixed) n leaf.0.0) same may,
      omega (arith, least, bound_same),
      subst (λ (n : Node). AreSearchedIn table n) same searched,
    )
  where
    some_same : (a b : ℕ) → Some a ≡ Some b → a ≡ b
    some_same a b e = grind (arith, e)

pub one_more_child : (table : Table) (most floor : ℕ) (fixed : List (Option ℕ)) (unit first k number old : ℕ) (made new_made : List Node) (before leaves more : Leaves)
    (leaf : Leaf) → AreChildren table most floor fixed unit first k made before leaves old → number ≡ first + k → IsLeafOn table most (fix unit k fixed) old leaf
    → new_made ≡ made ++ leaf.node ∷ [] → IsWith leaf.bound number leaves more → IsNoLower floor leaf.bound
    → AreChildren table most floor fixed unit first (k + 1) new_made before more leaf.known.distortion
one_more_child table most floor fixed unit first k number old made new_made before leaves more leaf are number_is is made_is with_is least =
    subst (λ (ns : List Node). AreChildren table most floor fixed unit first (k + 1) ns before more leaf.known.distortion) (sym made_is) (record {
      count = omega (arith, length-append made (leaf.node ∷ []), are.count);
      is = each_more (λ j n. IsLeaf n) made leaf.node k are.count are.is is.is;
      right = each_more (λ j n. IsRight table (fix unit j fixed) n) made leaf.node k are.count are.right is.right;
      each = each_more (λ j n. MayStand table most n) made leaf.node k are.count are.each is.stands;
      settled =
          each_more (λ j n. IsSettledChild table fixed unit first more leaf.known.distortion j n) made leaf.node k are.count
          (λ j low. settled_more table fixed unit first leaves more old leaf.known.distortion j (node_of made j) is.kept with_is.kept (are.settled j low))
          (settled_own table fixed unit first k number leaves more leaf.known.distortion leaf.node leaf.bound number_is with_is is.bound);
      kept = λ other there. with_is.kept other (are.kept other there);
      only = λ other there. only_in other (with_is.only other there);
      outside = λ j where_is. outside_in j where_is;
      inside = λ j. inside_in j (cases_eq number j);
    })
  where
    only_old : (other : Reverse (ℕ × ℕ)) → Contains before other ⊎ IsFromChild table floor fixed unit first k made other
        → Contains before other ⊎ IsFromChild table floor fixed unit first (k + 1) (made ++ leaf.node ∷ []) other
    only_old other (inl there) = inl there
    only_old other (inr from) = inr (from_more table floor fixed unit first k made leaf.node other are.count from)

    only_in : (other : Reverse (ℕ × ℕ)) → Contains leaves other ⊎ ((leaf.bound ≡ Some other.0.0) × (other.0.1 ≡ number))
        → Contains before other ⊎ IsFromChild table floor fixed unit first (k + 1) (made ++ leaf.node ∷ []) other
    only_in other (inl there) = only_old other (are.only other there)
    only_in other (inr new) =
        inr (from_own table floor fixed unit first k number made leaf.node leaf.bound leaf.known.distortion other are.count number_is is.bound is.searched least new.0 new.1)

    apart : (j : ℕ) → (j < first) ⊎ (first + (k + 1) ≤ j) → number ≢ j
    apart j (inl low) same = omega (arith, low, same, number_is)
    apart j (inr high) same = omega (arith, high, same, number_is)

    narrower : (j : ℕ) → (j < first) ⊎ (first + (k + 1) ≤ j) → (j < first) ⊎ (first + k ≤ j)
    narrower j (inl low) = inl low
    narrower j (inr high) = inr (omega (arith, high))

    outside_in : (j : ℕ) → (j < first) ⊎ (first + (k + 1) ≤ j) → times_in j more ≤ times_in j before
    outside_in j where_is = omega (arith, with_is.times j, other_none number j (apart j where_is), are.outside j (narrower j where_is))

    inside_in : (j : ℕ) → (number ≡ j) ⊎ (number ≡ j → ⊥) → times_in j more ≤ 1 + times_in j before
    inside_in j (inl same) = omega (arith, with_is.times j, at_most_one (number == j), are.outside j (inr (omega (arith, same, number_is))))
      where
        at_most_one : (b : Bool) → cond {A = ℕ} b 1 0 ≤ 1
        at_most_one true = omega arith
        at_most_one false = omega arith
    inside_in j (inr differs) = omega (arith, with_is.times j, other_none number j differs, are.inside j)

-- ---- the tree with the children
-- what was settled stays so where the node is as it was
settled_kept : (table : Table) (nodes new_nodes : List Node) (path new_path : ℕ → List (Option ℕ)) (leaves more : Leaves) (old new j : ℕ) → node_of new_nodes j ≡ node_of nodes j
    → new_path j ≡ path j → new ≤ old → ((leaf : Reverse (ℕ × ℕ)) → Contains leaves leaf → leaf.0.1 ≡ j → Contains more leaf)
    → IsSettledIn table nodes path leaves old j → IsSettledIn table new_nodes new_path more new j
settled_kept table nodes new_nodes path new_path leaves more old new j node_is path_is less kept (inl most) =
    inl (subst (λ (f : List (Option ℕ)). IsAtMost new (bound_of_leaf table f (node_of new_nodes j))) (sym path_is)
    (subst (λ (n : Node). IsAtMost new (bound_of_leaf table (path j) n)) (sym node_is) (lower_bound new old (bound_of_leaf table (path j) (node_of nodes j)) less most)))
settled_kept table nodes new_nodes path new_path leaves more old new j node_is path_is less kept (inr (leaf, there, number, is)) =
    inr (
      leaf,
      kept leaf there number,
      number,
      ap (λ (f : List (Option ℕ)). bound_of_leaf table f (node_of new_nodes j)) path_is ∙ ap (λ (n : Node). bound_of_leaf table (path j) n) node_is ∙ is,
    )

settled_child : (table : Table) (new_nodes made : List Node) (new_path : ℕ → List (Option ℕ)) (fixed : List (Option ℕ)) (unit first : ℕ) (more : Leaves) (distortion j k : ℕ)
    → j ≡ first + k → node_of new_nodes j ≡ node_of made k → new_path j ≡ fix unit k fixed → IsSettledChild table fixed unit first more distortion k (node_of made k)
    → IsSettledIn table new_nodes new_path more distortion j
settled_child table new_nodes made new_path fixed unit first more distortion j k place node_is path_is (inl most) =
    inl (subst (λ (f : List (Option ℕ)). IsAtMost distortion (bound_of_leaf table f (node_of new_nodes j))) (sym path_is)
    (subst (λ (n : Node). IsAtMost distortion (bound_of_leaf table (fix unit k fixed) n)) (sym node_is) most))
settled_child table new_nodes made new_path fixed unit first more distortion j k place node_is path_is (inr (leaf, there, number, is)) =
    inr (
      leaf,
      there,
      number ∙ sym place,
      ap (λ (f : List (Option ℕ)). bound_of_leaf table f (node_of new_nodes j)) path_is ∙ ap (λ (n : Node). bound_of_leaf table (fix unit k fixed) n) node_is ∙ is,
    )

open_at : (table : Table) (nodes : List Node) (path : ℕ → List (Option ℕ)) (root bound j : ℕ) (node : Node) (fixed : List (Option ℕ)) → j < length nodes → node_of nodes j ≡ node → path j ≡ fixed
    → IsLeaf node → MayBranch table fixed node bound → root ≤ bound → AreSearchedIn table node → IsOpenAt table nodes path root bound j
open_at table nodes path root bound j node fixed within node_is path_is leaf may at_least searched = record {
  within = within;
  leaf = subst (λ (n : Node). IsLeaf n) (sym node_is) leaf;
  may =
      subst (λ (f : List (Option ℕ)). MayBranch table f (node_of nodes j) bound) (sym path_is)
      (subst (λ (n : Node). MayBranch table fixed n bound) (sym node_is) may);
  at_least = at_least;
  searched = subst (λ (n : Node). AreSearchedIn table n) (sym node_is) searched;
}

-- leaves that keep to a bound keep to a lower one
pub open_lower : (table : Table) (nodes : List Node) (path : ℕ → List (Option ℕ)) (root floor bound j : ℕ) → floor ≤ root → IsOpenAt table nodes path root bound j
    → IsOpenAt table nodes path floor bound j
open_lower table nodes path root floor bound j less is =
    record { within = is.within; leaf = is.leaf; may = is.may; at_least = omega (arith, less, is.at_least); searched = is.searched }

unfoldable pub grown_lower : (table : Table) (most root floor : ℕ) (nodes : List Node) (links : List Link) (leaves : Leaves) (distortion : ℕ) → floor ≤ root
    → IsGrown table most root nodes links leaves distortion → IsGrown table most floor nodes links leaves distortion
grown_lower table most root floor nodes links leaves distortion less is = record {
  path = is.path;
  tree = is.tree;
  is = is.is;
  each = is.each;
  settled = is.settled;
  are_open = λ leaf there. open_lower table nodes is.path root floor leaf.0.0 leaf.0.1 less (is.are_open leaf there);
  single = is.single;
}

-- all that the tree with one more branch is made of
pub record AreGrowing (table : Table) (most root : ℕ) (nodes : List Node) (links new_links : List Link) (all before more : Leaves) (top : Reverse (ℕ × ℕ)) (old new i unit : ℕ)
    (made : List Node) (grown : IsGrown table most root nodes links all old) : Type 0 where
  pub taken : IsPermutation all (top ∷ before)
  pub top_is : top.0.1 ≡ i
  pub free : IsFreeUnit table (grown.path i) unit
  pub children : AreChildren table most root (grown.path i) unit (length nodes) (versions_of table unit) made before more new
  pub linked : AreLinkedBehind i unit (versions_of table unit) links new_links
  pub kept : new ≤ old

branch_may : (table : Table) (most unit : ℕ) → 2 ≤ versions_of table unit → MayStand table most (Branch unit)
branch_may table most unit many = record { many = many; version = tt; windows = omega arith; few = λ high. omega arith }

pub each_grown : (table : Table) (most : ℕ) (nodes made : List Node) (i unit j : ℕ) → ((j : ℕ) → j < length nodes → MayStand table most (node_of nodes j))
    → ((k : ℕ) → k < length made → MayStand table most (node_of made k)) → i < length nodes → 2 ≤ versions_of table unit → j < length nodes + length made
    → (j < length nodes) ⊎ (length nodes ≤ j) → MayStand table most (node_of (set nodes i (Branch unit) ++ made) j)
each_grown table most nodes made i unit j old kids within many low (inl old_is) =
    elim (cases_eq j i) as (λ _. MayStand table most (node_of (set nodes i (Branch unit) ++ made) j)) [
      | inl same ↦
          subst (λ (n : Node). MayStand table most n) (sym (ap (node_of (set nodes i (Branch unit) ++ made)) same ∙ branch_node nodes made i (Branch unit) within)) (branch_may table most unit many)
      | inr differs ↦ subst (λ (n : Node). MayStand table most n) (sym (old_node nodes made i j (Branch unit) old_is differs)) (old j old_is)
    ]
each_grown table most nodes made i unit j old kids within many low (inr new_is) =
    subst (λ (n : Node). MayStand table most n) (sym (new_node nodes made i j (j - length nodes) (Branch unit) (omega (arith, new_is)))) (kids (j - length nodes) (omega (arith, low, new_is)))

pub settled_grown : (table : Table) (most root : ℕ) (nodes : List Node) (links new_links : List Link) (all before more : Leaves) (top : Reverse (ℕ × ℕ)) (old new i unit : ℕ)
    (made : List Node) (grown : IsGrown table most root nodes links all old)
    → AreGrowing table most root nodes links new_links all before more top old new i unit made grown → i < length nodes → (j : ℕ) → j < length nodes + length made
    → IsLeaf (node_of (set nodes i (Branch unit) ++ made) j) → (j < length nodes) ⊎ (length nodes ≤ j)
    → IsSettledIn table (set nodes i (Branch unit) ++ made) (paths_with (length nodes) unit (grown.path i) grown.path) more new j
settled_grown table most root nodes links new_links all before more top old new i unit made grown are within j low leaf (inl old_is) =
    elim (cases_eq j i) as (λ _. IsSettledIn table (set nodes i (Branch unit) ++ made) (paths_with (length nodes) unit (grown.path i) grown.path) more new j) [
      | inl same ↦
          absurd (branch_no_leaf (node_of (set nodes i (Branch unit) ++ made) j) unit (ap (node_of (set nodes i (Branch unit) ++ made)) same ∙ branch_node nodes made i (Branch unit) within) leaf)
      | inr differs ↦
          let node_is = old_node nodes made i j (Branch unit) old_is differs in
          settled_kept table nodes (set nodes i (Branch unit) ++ made) grown.path (paths_with (length nodes) unit (grown.path i) grown.path) all more old new j node_is
          (old_path (length nodes) unit (grown.path i) grown.path j old_is) are.kept
          (λ other there number. kept_other other number differs (first_or_more top other before (Contains-permutation all (top ∷ before) other are.taken there)))
          (grown.settled j old_is (subst (λ (n : Node). IsLeaf n) node_is leaf))
    ]
  where
    kept_other : (other : Reverse (ℕ × ℕ)) → other.0.1 ≡ j → j ≢ i → (other ≡ top) ⊎ Contains before other → Contains more other
    kept_other other number differs (inl is) = absurd (differs (sym number ∙ ap (λ (l : Reverse (ℕ × ℕ)). l.0.1) is ∙ are.top_is))
    kept_other other number differs (inr there) = are.children.kept other there
settled_grown table most root nodes links new_links all before more top old new i unit made grown are within j low leaf (inr new_is) =
    let k = j - length nodes in
    let place : j ≡ length nodes + k = omega (arith, new_is) in
    settled_child table (set nodes i (Branch unit) ++ made) made (paths_with (length nodes) unit (grown.path i) grown.path) (grown.path i) unit (length nodes) more new j k place
    (new_node nodes made i j k (Branch unit) place) (new_path (length nodes) unit (grown.path i) grown.path j k place)
    (are.children.settled k (omega (arith, low, new_is, are.children.count)))

pub open_grown : (table : Table) (most root : ℕ) (nodes : List Node) (links new_links : List Link) (all before more : Leaves) (top : Reverse (ℕ × ℕ)) (old new i unit : ℕ)
    (made : List Node) (grown : IsGrown table most root nodes links all old)
    → AreGrowing table most root nodes links new_links all before more top old new i unit made grown → times_in i before ≡ 0 → (leaf : Reverse (ℕ × ℕ))
    → Contains before leaf ⊎ IsFromChild table root (grown.path i) unit (length nodes) (versions_of table unit) made leaf
    → IsOpenAt table (set nodes i (Branch unit) ++ made) (paths_with (length nodes) unit (grown.path i) grown.path) root leaf.0.0 leaf.0.1
open_grown table most root nodes links new_links all before more top old new i unit made grown are gone leaf (inl there) =
    let is = grown.are_open leaf (Contains-permutation (top ∷ before) all leaf (IsPermutation-sym all (top ∷ before) are.taken) (contains_more top leaf before there)) in
    let j = leaf.0.1 in
    let differs : j ≢ i = (λ same. omega (arith, gone, times_some i before leaf there same)) in
    open_at table (set nodes i (Branch unit) ++ made) (paths_with (length nodes) unit (grown.path i) grown.path) root leaf.0.0 j (node_of nodes j) (grown.path j)
    (omega (arith, is.within, long_with nodes made i (Branch unit))) (old_node nodes made i j (Branch unit) is.within differs) (old_path (length nodes) unit (grown.path i) grown.path j is.within)
    is.leaf is.may is.at_least is.searched
open_grown table most root nodes links new_links all before more top old new i unit made grown are gone leaf (inr (k, low, number, may, at_least, searched)) =
    let j = leaf.0.1 in
    open_at table (set nodes i (Branch unit) ++ made) (paths_with (length nodes) unit (grown.path i) grown.path) root leaf.0.0 j (node_of made k) (fix unit k (grown.path i))
    (omega (arith, low, number, are.children.count, long_with nodes made i (Branch unit))) (new_node nodes made i j k (Branch unit) number)
    (new_path (length nodes) unit (grown.path i) grown.path j k number) (are.children.is k low) may at_least searched

unfoldable pub grown_branched : (table : Table) (most root : ℕ) (nodes : List Node) (links new_links : List Link) (all before more : Leaves) (top : Reverse (ℕ × ℕ)) (old new i unit : ℕ)
    (made : List Node) (grown : IsGrown table most root nodes links all old)
    → AreGrowing table most root nodes links new_links all before more top old new i unit made grown
    → IsGrown table most root (set nodes i (Branch unit) ++ made) new_links more new
grown_branched table most root nodes links new_links all before more top old new i unit made grown are =
    let n = length nodes in
    let path = grown.path in
    let kids = are.children in
    let v_is : length made ≡ versions_of table unit = kids.count in
    let top_in : Contains all top = Contains-permutation (top ∷ before) all top (IsPermutation-sym all (top ∷ before) are.taken) (contains_first top before) in
    let top_open : IsOpenAt table nodes path root top.0.0 i = subst (λ (j : ℕ). IsOpenAt table nodes path root top.0.0 j) are.top_is (grown.are_open top top_in) in
    let times_all : (j : ℕ) → cond (top.0.1 == j) 1 0 + times_in j before ≤ 1 = (λ j. omega (arith, grown.single j, times_permuted j all (top ∷ before) are.taken, times-more j top before)) in
    let gone : times_in i before ≡ 0 = omega (arith, times_all i, self_one top.0.1 i are.top_is) in
    let high_none : (j : ℕ) → n ≤ j → times_in j before ≡ 0 = (λ j high. times_none j before (λ leaf there same.
    omega (arith, high, same, (grown.are_open leaf (Contains-permutation (top ∷ before) all leaf (IsPermutation-sym all (top ∷ before) are.taken) (contains_more top leaf before there))).within))) in
    let made_are : AreMade table nodes path i unit made = record {
      within = top_open.within;
      leaf = top_open.leaf;
      free = are.free;
      count = v_is;
      is = λ j low. kids.is j (omega (arith, low, v_is));
      right = λ j low. kids.right j (omega (arith, low, v_is));
    } in
    let linked : AreLinkedBehind i unit (length made) links new_links = subst (λ (v : ℕ). AreLinkedBehind i unit v links new_links) (sym v_is) are.linked in
    let long = long_with nodes made i (Branch unit) in
    record {
      path = paths_with n unit (path i) path;
      tree = split i unit (leaves n (length made)) grown.tree;
      is = tree_branched table nodes links new_links path grown.tree i unit made grown.is made_are linked;
      each = λ j low. each_grown table most nodes made i unit j grown.each (λ k below. kids.each k (omega (arith, below, v_is))) top_open.within are.free.2 (omega (arith, low, long)) (cases_lt j n);
      settled = λ j low leaf. settled_grown table most root nodes links new_links all before more top old new i unit made grown are top_open.within j (omega (arith, low, long)) leaf
          (cases_lt j n);
      are_open = λ leaf there. open_grown table most root nodes links new_links all before more top old new i unit made grown are gone leaf (kids.only leaf there);
      single = λ j. elim (cases_lt j n) as (λ _. times_in j more ≤ 1) [
        | inl low ↦ omega (arith, kids.outside j (inl low), times_all j)
        | inr high ↦ omega (arith, kids.inside j, high_none j high)
      ];
    }
