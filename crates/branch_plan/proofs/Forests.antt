-- Trees over numbered nodes: what they show, their leaves, and what becomes of them where a leaf is branched.
use Rattle.std.proofs.Common.{◌≡◌, ℕ, zero, suc, ◌+◌, ◌<◌, ◌==◌, Bool, true, false, cond, List, [], ◌∷◌, map, Option, Some, None, refl, sym, subst, arith}
use Rattle.std.proofs.lemmas.Bool.{eqb-true}
use Rattle.version_table.specs.declared.table.Table.{Table}
use Rattle.bound_certificate.specs.declared.cert.Node.{Node}
use Rattle.bound_certificate.specs.declared.cert.Node.TheVariants.{Branch}
use Rattle.certificate_checker.specs.Shown.{bound_of_leaf, fix, lesser, versions_of}
use Rattle.certificate_checker.specs.Faults.{IsRight}
use Rattle.certificate_checker.specs.Walk.{IsLeaf, Shows, Walks, WalksEach, leaf, branch, none, next}
use Rattle.certificate_checker.specs.Checked.{IsAtMost}
use Rattle.branch_plan.specs.Tree.{HasLeaf, HasLeafBelow, here, below, in_first, in_later}
use Rattle.branch_plan.specs.Private.Forest.{Forest, no_tree, leaf_at, branch_at, Stands, ids_then, least_shown, occurs, size, width}
use Rattle.certificate_checker.proofs.Soundness.{lesser-first, lesser-second}

-- ---- what the nodes of trees show
branch_walks : (table : Table) (node : ℕ → Node) (fixed : List (Option ℕ)) (id unit : ℕ) (under : Forest) (behind : List ℕ) (bound : Option ℕ) → node id ≡ Branch unit
    → IsRight table fixed (Branch unit) → width under ≡ versions_of table unit
    → WalksEach table fixed unit 0 (width under) (map node (ids_then under behind)) (Shows bound (map node behind))
    → Walks table fixed (map node (id ∷ ids_then under behind)) (Shows bound (map node behind))
branch_walks table node fixed id unit under behind bound is right size each =
    let all = subst (λ (n : ℕ). WalksEach table fixed unit 0 n (map node (ids_then under behind)) (Shows bound (map node behind))) size each in
    subst (λ (top : Node). Walks table fixed (top ∷ map node (ids_then under behind)) (Shows bound (map node behind))) (sym is)
    (branch fixed unit (map node (ids_then under behind)) (Shows bound (map node behind)) right all)

-- the children of a branch, each shown behind the ones before it
pub each_walks : (table : Table) (n : ℕ) (node : ℕ → Node) (path : ℕ → List (Option ℕ)) (fixed : List (Option ℕ)) (unit k : ℕ) (trees : Forest) (behind : List ℕ)
    → Stands table n node path (λ j. fix unit j fixed) k trees
    → WalksEach table fixed unit k (width trees) (map node (ids_then trees behind)) (Shows (least_shown table node (λ j. fix unit j fixed) k trees) (map node behind))
each_walks table n node path fixed unit k no_tree behind stands = none fixed unit k (map node behind)
each_walks table n node path fixed unit k (leaf_at id more) behind stands =
    let own = fix unit k fixed in
    next fixed unit k (width more) (map node (id ∷ ids_then more behind)) (map node (ids_then more behind)) (bound_of_leaf table own (node id))
    (Shows (least_shown table node (λ j. fix unit j fixed) (k + 1) more) (map node behind))
    (leaf own (node id) (map node (ids_then more behind)) stands.2 stands.3) (each_walks table n node path fixed unit (k + 1) more behind stands.4)
each_walks table n node path fixed unit k (branch_at id other under more) behind stands =
    let own = fix unit k fixed in
    next fixed unit k (width more) (map node (id ∷ ids_then under (ids_then more behind))) (map node (ids_then more behind)) (least_shown table node (λ j. fix other j own) 0 under)
    (Shows (least_shown table node (λ j. fix unit j fixed) (k + 1) more) (map node behind))
    (branch_walks table node own id other under (ids_then more behind) (least_shown table node (λ j. fix other j own) 0 under) stands.1 stands.2 stands.4
    (each_walks table n node path own other 0 under (ids_then more behind) stands.5))
    (each_walks table n node path fixed unit (k + 1) more behind stands.6)

-- the whole tree, which is one
pub tree_walks : (table : Table) (n : ℕ) (node : ℕ → Node) (path : ℕ → List (Option ℕ)) (fixed : List (Option ℕ)) (tree : Forest) → width tree ≡ 1 → Stands table n node path (λ j. fixed) 0 tree
    → Walks table fixed (map node (ids_then tree [])) (Shows (least_shown table node (λ j. fixed) 0 tree) [])
tree_walks table n node path fixed no_tree one stands = absurd (omega (arith, one))
tree_walks table n node path fixed (leaf_at id no_tree) one stands =
    subst (λ (b : Option ℕ). Walks table fixed (node id ∷ []) (Shows b [])) (lesser_none (bound_of_leaf table fixed (node id))) (leaf fixed (node id) [] stands.2 stands.3)
  where
    lesser_none : (b : Option ℕ) → b ≡ lesser b None
    lesser_none None = refl
    lesser_none (Some n) = refl
tree_walks table n node path fixed (branch_at id unit under no_tree) one stands =
    subst (λ (b : Option ℕ). Walks table fixed (map node (id ∷ ids_then under [])) (Shows b [])) (lesser_none (least_shown table node (λ j. fix unit j fixed) 0 under))
    (branch_walks table node fixed id unit under [] (least_shown table node (λ j. fix unit j fixed) 0 under) stands.1 stands.2 stands.4 (each_walks table n node path fixed unit 0 under [] stands.5))
  where
    lesser_none : (b : Option ℕ) → b ≡ lesser b None
    lesser_none None = refl
    lesser_none (Some n) = refl
tree_walks table n node path fixed (leaf_at id (leaf_at other more)) one stands = absurd (omega (arith, one))
tree_walks table n node path fixed (leaf_at id (branch_at other unit under more)) one stands = absurd (omega (arith, one))
tree_walks table n node path fixed (branch_at id unit under (leaf_at other more)) one stands = absurd (omega (arith, one))
tree_walks table n node path fixed (branch_at id unit under (branch_at other also low more)) one stands = absurd (omega (arith, one))

-- ---- the least bound is that of a leaf
at_most_both : (n : ℕ) (a b : Option ℕ) → IsAtMost n a → IsAtMost n b → IsAtMost n (lesser a b)
at_most_both n None b first second = second
at_most_both n (Some a) None first second = first
at_most_both n (Some a) (Some b) first second = omega (arith, first, second)

-- ---- by where a number stands
one_of : {P : Type 0} (test : Bool) (rest : ℕ) → 0 < cond test 1 0 + rest → (test ≡ true → P) → (0 < rest → P) → P
one_of true rest some here_is later_is = here_is refl
one_of false rest some here_is later_is = later_is (omega (arith, some))

pub in_leaf : {P : Type 0} (other id rest : ℕ) → 0 < cond (other == id) 1 0 + rest → (other ≡ id → P) → (0 < rest → P) → P
in_leaf other id rest some first later = one_of (other == id) rest some (λ same. first (eqb-true other id same)) later

one_of_two : {P : Type 0} (a b : ℕ) → 0 < a + b → (0 < a → P) → (0 < b → P) → P
one_of_two zero b some first second = second (omega (arith, some))
one_of_two (suc a) b some first second = first (omega arith)

pub in_branch : {P : Type 0} (other id a b : ℕ) → 0 < cond (other == id) 1 0 + (a + b) → (other ≡ id → P) → (0 < a → P) → (0 < b → P) → P
in_branch other id a b some first second third = one_of (other == id) (a + b) some (λ same. first (eqb-true other id same)) (λ rest. one_of_two a b rest second third)

-- what is at most the bound of each leaf is at most the least one
pub at_most_least : (table : Table) (most : ℕ) (node : ℕ → Node) (path : ℕ → List (Option ℕ)) (n : ℕ)
    → ((id : ℕ) → id < most → IsLeaf (node id) → IsAtMost n (bound_of_leaf table (path id) (node id)))
    → (own : ℕ → List (Option ℕ)) (k : ℕ) (trees : Forest) → Stands table most node path own k trees → IsAtMost n (least_shown table node own k trees)
at_most_least table most node path n each own k no_tree stands = tt
at_most_least table most node path n each own k (leaf_at id more) stands =
    at_most_both n (bound_of_leaf table (own k) (node id)) (least_shown table node own (k + 1) more)
    (subst (λ (f : List (Option ℕ)). IsAtMost n (bound_of_leaf table f (node id))) stands.1 (each id stands.0 stands.2))
    (at_most_least table most node path n each own (k + 1) more stands.4)
at_most_least table most node path n each own k (branch_at id unit under more) stands =
    at_most_both n (least_shown table node (λ j. fix unit j (own k)) 0 under) (least_shown table node own (k + 1) more)
    (at_most_least table most node path n each (λ j. fix unit j (own k)) 0 under stands.5) (at_most_least table most node path n each own (k + 1) more stands.6)

-- a branch is no leaf
pub branch_no_leaf : (node : Node) (unit : ℕ) → node ≡ Branch unit → IsLeaf node → ⊥
branch_no_leaf node unit is leaf_is = subst (λ (n : Node). IsLeaf n) is leaf_is

-- the least bound is at most that of a leaf that is in the trees
pub least_at_most : (table : Table) (most : ℕ) (node : ℕ → Node) (path : ℕ → List (Option ℕ)) (n id : ℕ) → IsLeaf (node id) → (own : ℕ → List (Option ℕ)) (k : ℕ) (trees : Forest)
    → 0 < occurs id trees → Stands table most node path own k trees → IsAtMost n (least_shown table node own k trees) → IsAtMost n (bound_of_leaf table (path id) (node id))
least_at_most table most node path n id is own k no_tree some stands shown = absurd (omega (arith, some))
least_at_most table most node path n id is own k (leaf_at other more) some stands shown =
    in_leaf {P = IsAtMost n (bound_of_leaf table (path id) (node id))} other id (occurs id more) some
    (λ same. subst (λ (j : ℕ). IsAtMost n (bound_of_leaf table (path j) (node j))) same
    (subst (λ (f : List (Option ℕ)). IsAtMost n (bound_of_leaf table f (node other))) (sym stands.1)
    (lesser-first n (bound_of_leaf table (own k) (node other)) (least_shown table node own (k + 1) more) shown)))
    (λ there. least_at_most table most node path n id is own (k + 1) more there stands.4
    (lesser-second n (bound_of_leaf table (own k) (node other)) (least_shown table node own (k + 1) more) shown))
least_at_most table most node path n id is own k (branch_at other unit under more) some stands shown =
    in_branch {P = IsAtMost n (bound_of_leaf table (path id) (node id))} other id (occurs id under) (occurs id more) some
    (λ same. absurd (branch_no_leaf (node other) unit stands.1 (subst (λ (j : ℕ). IsLeaf (node j)) (sym same) is)))
    (λ there. least_at_most table most node path n id is (λ j. fix unit j (own k)) 0 under there stands.5
    (lesser-first n (least_shown table node (λ j. fix unit j (own k)) 0 under) (least_shown table node own (k + 1) more) shown))
    (λ there. least_at_most table most node path n id is own (k + 1) more there stands.6
    (lesser-second n (least_shown table node (λ j. fix unit j (own k)) 0 under) (least_shown table node own (k + 1) more) shown))

-- a leaf of the trees is one of the certificate's
has_below : (table : Table) (most : ℕ) (node : ℕ → Node) (path : ℕ → List (Option ℕ)) (id : ℕ) → IsLeaf (node id) → (fixed : List (Option ℕ)) (unit k : ℕ) (trees : Forest) (behind : List ℕ)
    → 0 < occurs id trees → Stands table most node path (λ j. fix unit j fixed) k trees
    → HasLeafBelow table (node id) (path id) fixed unit k (width trees) (map node (ids_then trees behind))
has_below table most node path id is fixed unit k no_tree behind some stands = absurd (omega (arith, some))
has_below table most node path id is fixed unit k (leaf_at other more) behind some stands =
    let own = fix unit k fixed in
    let nodes = map node (ids_then more behind) in
    in_leaf {P = HasLeafBelow table (node id) (path id) fixed unit k (suc (width more)) (node other ∷ nodes)} other id (occurs id more) some
    (λ same. in_first fixed unit k (width more) (node other ∷ nodes)
    (subst (λ (j : ℕ). HasLeaf table (node j) (path j) own (node other ∷ nodes)) same
    (subst (λ (f : List (Option ℕ)). HasLeaf table (node other) f own (node other ∷ nodes)) (sym stands.1)
    (here nodes stands.2))))
    (λ there. in_later fixed unit k (width more) (node other ∷ nodes) nodes (bound_of_leaf table own (node other)) (leaf own (node other) nodes stands.2 stands.3)
    (has_below table most node path id is fixed unit (k + 1) more behind there stands.4))
has_below table most node path id is fixed unit k (branch_at other low under more) behind some stands =
    let own = fix unit k fixed in
    let nodes = map node (ids_then more behind) in
    let all = map node (ids_then under (ids_then more behind)) in
    in_branch {P = HasLeafBelow table (node id) (path id) fixed unit k (suc (width more)) (node other ∷ all)} other id (occurs id under) (occurs id more) some
    (λ same. absurd (branch_no_leaf (node other) low stands.1 (subst (λ (j : ℕ). IsLeaf (node j)) (sym same) is)))
    (λ there. in_first fixed unit k (width more) (node other ∷ all)
    (subst (λ (top : Node). HasLeaf table (node id) (path id) own (top ∷ all)) (sym stands.1)
    (below own low all
    (subst (λ (n : ℕ). HasLeafBelow table (node id) (path id) own low 0 n all) stands.4
    (has_below table most node path id is own low 0 under (ids_then more behind) there stands.5)))))
    (λ there. in_later fixed unit k (width more) (node other ∷ all) nodes (least_shown table node (λ j. fix low j own) 0 under)
    (branch_walks table node own other low under (ids_then more behind) (least_shown table node (λ j. fix low j own) 0 under) stands.1 stands.2 stands.4
    (each_walks table most node path own low 0 under (ids_then more behind) stands.5))
    (has_below table most node path id is fixed unit (k + 1) more behind there stands.6))

pub has_leaf : (table : Table) (most : ℕ) (node : ℕ → Node) (path : ℕ → List (Option ℕ)) (id : ℕ) → IsLeaf (node id) → (fixed : List (Option ℕ)) (tree : Forest) → width tree ≡ 1
    → 0 < occurs id tree → Stands table most node path (λ j. fixed) 0 tree → HasLeaf table (node id) (path id) fixed (map node (ids_then tree []))
has_leaf table most node path id is fixed no_tree one some stands = absurd (omega (arith, some))
has_leaf table most node path id is fixed (leaf_at other no_tree) one some stands =
    in_leaf {P = HasLeaf table (node id) (path id) fixed (node other ∷ [])} other id 0 some
    (λ same. subst (λ (j : ℕ). HasLeaf table (node j) (path j) fixed (node other ∷ [])) same
    (subst (λ (f : List (Option ℕ)). HasLeaf table (node other) f fixed (node other ∷ [])) (sym stands.1)
    (here [] stands.2)))
    (λ there. absurd (omega (arith, there)))
has_leaf table most node path id is fixed (branch_at other low under no_tree) one some stands =
    let all = map node (ids_then under []) in
    in_branch {P = HasLeaf table (node id) (path id) fixed (node other ∷ all)} other id (occurs id under) 0 some
    (λ same. absurd (branch_no_leaf (node other) low stands.1 (subst (λ (j : ℕ). IsLeaf (node j)) (sym same) is)))
    (λ there. subst (λ (top : Node). HasLeaf table (node id) (path id) fixed (top ∷ all)) (sym stands.1)
    (below fixed low all
    (subst (λ (n : ℕ). HasLeafBelow table (node id) (path id) fixed low 0 n all) stands.4
    (has_below table most node path id is fixed low 0 under [] there stands.5))))
    (λ there. absurd (omega (arith, there)))
has_leaf table most node path id is fixed (leaf_at other (leaf_at also more)) one some stands = absurd (omega (arith, one))
has_leaf table most node path id is fixed (leaf_at other (branch_at also unit under more)) one some stands = absurd (omega (arith, one))
has_leaf table most node path id is fixed (branch_at other unit under (leaf_at also more)) one some stands = absurd (omega (arith, one))
has_leaf table most node path id is fixed (branch_at other unit under (branch_at also low deep more)) one some stands = absurd (omega (arith, one))
