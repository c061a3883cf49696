-- The steps of a search: the root, one child, one branch, and the ends.
use Rattle.std.proofs.Common.{◌≡◌, ℕ, ◌+◌, ◌*◌, ◌<◌, ◌≤◌, ◌==◌, ◌⊎◌, inl, inr, Bool, true, false, cond, List, [], ◌∷◌, ◌++◌, length, get_or, set, Option, Some, None, refl, sym, ap, subst, ◌∙◌, arith}
use Rattle.std.specs.List.{AllByRecursion, Contains}
use Rattle.std.specs.List.Sorted.{IsPermutation}
use Rattle.std.specs.BinaryHeap.{heap_items}
use Rattle.std.specs.declared.cmp.Reverse.{Reverse}
use Rattle.std.proofs.lemmas.Bool.{cases_eq}
use Rattle.std.proofs.lemmas.List.{length-append}
use Rattle.std.proofs.lemmas.List.Sorted.{Contains-permutation, IsPermutation-sym}
use Rattle.version_table.specs.declared.table.Table.{Table}
use Rattle.version_table.specs.Table.{IsValidTable, units_of}
use Rattle.dual_bounds.specs.Bounds.{bound_of_value}
use Rattle.dual_bounds.specs.Fixed.{FixesVersions}
use Rattle.dual_bounds.specs.Values.{value_of_windows}
use Rattle.buffer_windows.specs.declared.windows.BufferWindow.{BufferWindow as SeeingWindow}
use Rattle.buffer_windows.specs.Bounds.{bound_of_buffer_windows}
use Rattle.bound_certificate.specs.declared.cert.Node.{Node}
use Rattle.bound_certificate.specs.Spelling.{bytes_of_node}
use Rattle.bound_certificate.specs.declared.cert.Node.TheVariants.{Branch, Dual, Run, Open, Window, BufferWindow}
use Rattle.certificate_checker.specs.Faults.{IsSettled, LeavesOne}
use Rattle.certificate_checker.specs.Shown.{fix, unfixed, versions_of}
use Rattle.certificate_checker.specs.Walk.{IsLeaf}
use Rattle.certificate_checker.proofs.Units.{all_zip_at, no_unit}
use Rattle.branch_plan.specs.declared.limits.TheConstants.{BRANCH_BYTES, NODE_BYTES_MOST}
use Rattle.branch_plan.specs.declared.arena.Link.{Link}
use Rattle.branch_plan.specs.declared.branching.Growth.{Growth}
use Rattle.branch_plan.specs.declared.children.Children.{Children}
use Rattle.branch_plan.specs.declared.children.Place.{Place}
use Rattle.branch_plan.specs.declared.found.Found.{Found}
use Rattle.branch_plan.specs.declared.known.Known.{Known}
use Rattle.branch_plan.specs.declared.leaves.Leaf.{Leaf}
use Rattle.branch_plan.specs.declared.values.Values.{Values}
use Rattle.branch_plan.specs.Bound.{BranchesOnFitting, unit_fits}
use Rattle.branch_plan.specs.Plan.{BoundsAll}
use Rattle.branch_plan.specs.Private.Found.{AreSearchedIn, EachBranchFits, IsNoLower, IsSound, ReachesBoth}
use Rattle.branch_plan.specs.Private.Branching.{AreChildren, AreLinkedBehind, Ends, IsBranched, IsGrown, IsGrowth, IsLeafMost, IsOpenAt, IsPlace, IsSettledIn, IsTaken, IsWith, IsWithChild, times_in, tree_bytes}
use Rattle.branch_plan.specs.Private.Forest.{leaf_at, no_tree, occurs}
use Rattle.branch_plan.specs.Private.Growth.{IsOrdered, node_of}
use Rattle.branch_plan.specs.Private.Known.{IsKnown}
use Rattle.branch_plan.specs.Private.Leaves.{IsFreeUnit, IsLeafOn, IsSettledBy, MayStand}
use Rattle.branch_plan.specs.Private.Valued.{AreValued, AreValuedBelow, IsValuedBy, values_of}
use Rattle.branch_plan.proofs.Growing.{AreGrowing, grown_branched, grown_lower, one_more_child}
use Rattle.branch_plan.proofs.Branched.{branch_node, long_with, old_node}
use Rattle.branch_plan.proofs.TreeBytes.{bytes_at_most, bytes_branched, node_within}
use Rattle.branch_plan.proofs.Ending.{ends_best}
use Rattle.branch_plan.proofs.Valued.{branched_valued, root_valued}
use Rattle.branch_plan.proofs.Opens.{all_contained, contains_first, first_or_more}

-- ---- the tree of one node
none_in : (leaf : Reverse (ℕ × ℕ)) → Contains [] leaf → ⊥
none_in leaf (k, within, is) = omega (arith, within)

settled_root : (table : Table) (nodes : List Node) (path : ℕ → List (Option ℕ)) (leaves : List (Reverse (ℕ × ℕ))) (distortion : ℕ) (bound : Option ℕ)
    → IsWith bound 0 [] leaves → IsSettledBy table (path 0) distortion (node_of nodes 0) bound → IsSettledIn table nodes path leaves distortion 0
settled_root table nodes path leaves distortion None with_is settled = inl settled
settled_root table nodes path leaves distortion (Some bound) with_is settled =
    let new = with_is.new bound refl in
    inr (new.0, new.1, new.3, settled.bound_is ∙ ap Some (sym new.2))

open_root : (table : Table) (nodes : List Node) (path : ℕ → List (Option ℕ)) (root distortion : ℕ) (bound : Option ℕ) (leaf : Reverse (ℕ × ℕ)) → 0 < length nodes
    → IsLeaf (node_of nodes 0) → AreSearchedIn table (node_of nodes 0) → IsSettledBy table (path 0) distortion (node_of nodes 0) bound → IsNoLower root bound → bound ≡ Some leaf.0.0
    → leaf.0.1 ≡ 0 → IsOpenAt table nodes path root leaf.0.0 leaf.0.1
open_root table nodes path root distortion None leaf some is searched settled least bound_is number = absurd (grind (arith, bound_is))
open_root table nodes path root distortion (Some bound) leaf some is searched settled least bound_is number =
    let same : bound ≡ leaf.0.0 = some_same bound leaf.0.0 bound_is in
    subst (λ (j : ℕ). IsOpenAt table nodes path root leaf.0.0 j) (sym number)
    (subst (λ (b : ℕ). IsOpenAt table nodes path root b 0) same (record {
      within = some;
      leaf = is;
      may = settled;
      at_least = least;
      searched = searched;
    }))
  where
    some_same : (a b : ℕ) → Some a ≡ Some b → a ≡ b
    some_same a b e = grind (arith, e)

none_times : (j : ℕ) → times_in j [] ≡ 0
unfolding times_in
none_times j = refl

unfoldable root_grown : (table : Table) (most root old : ℕ) (leaf : Leaf) (leaves : List (Reverse (ℕ × ℕ))) → FixesVersions table (unfixed table)
    → IsLeafOn table most (unfixed table) old leaf → IsNoLower root leaf.bound → IsWith leaf.bound 0 [] leaves
    → IsGrown table most root (leaf.node ∷ []) (record { parent = 0; unit = 0; version = 0; next = 0 } ∷ []) leaves leaf.known.distortion
root_grown table most root old leaf leaves fixes is least with_is =
    let nodes = leaf.node ∷ [] in
    record {
      path = λ j. unfixed table;
      tree = leaf_at 0 no_tree;
      is = record {
        one = refl;
        stands = (omega arith, refl, is.is, is.right, tt);
        once = λ j low. once_in j (omega (arith, low));
        count = refl;
        follows = (refl, omega arith, tt);
        as_many = refl;
        linked = record {
          some = omega arith;
          back = λ j some low. absurd (omega (arith, some, low));
          unit = λ j some low. absurd (omega (arith, some, low));
        };
        paths = record { root = refl; child = λ j some low. absurd (omega (arith, some, low)) };
        fixes = λ j low. fixes;
      };
      each = λ j low. each_in j (omega (arith, low));
      settled = λ j low leaf_is. settled_in j (omega (arith, low));
      are_open = λ other there. open_in other (with_is.only other there);
      single = λ j. omega (arith, with_is.times j, at_most_one (0 == j), none_times j);
    }
  where
    once_in : (j : ℕ) → j ≡ 0 → occurs j (leaf_at 0 no_tree) ≡ 1
    once_in j same = subst (λ (i : ℕ). occurs i (leaf_at 0 no_tree) ≡ 1) (sym same) refl

    each_in : (j : ℕ) → j ≡ 0 → MayStand table most (node_of (leaf.node ∷ []) j)
    each_in j same = subst (λ (i : ℕ). MayStand table most (node_of (leaf.node ∷ []) i)) (sym same) is.stands

    settled_in : (j : ℕ) → j ≡ 0 → IsSettledIn table (leaf.node ∷ []) (λ i. unfixed table) leaves leaf.known.distortion j
    settled_in j same = subst (λ (i : ℕ). IsSettledIn table (leaf.node ∷ []) (λ p. unfixed table) leaves leaf.known.distortion i) (sym same)
        (settled_root table (leaf.node ∷ []) (λ p. unfixed table) leaves leaf.known.distortion leaf.bound with_is is.bound)

    open_in : (other : Reverse (ℕ × ℕ)) → Contains [] other ⊎ ((leaf.bound ≡ Some other.0.0) × (other.0.1 ≡ 0))
        → IsOpenAt table (leaf.node ∷ []) (λ i. unfixed table) root other.0.0 other.0.1
    open_in other (inl there) = absurd (none_in other there)
    open_in other (inr new) =
        open_root table (leaf.node ∷ []) (λ i. unfixed table) root leaf.known.distortion leaf.bound other (omega arith) is.is is.searched is.bound least new.0 new.1

    at_most_one : (b : Bool) → cond {A = ℕ} b 1 0 ≤ 1
    at_most_one true = omega arith
    at_most_one false = omega arith

-- a tree that has grown, with what the windows of its nodes come to
abbrev GrownValued : Table → List SeeingWindow → (most root : ℕ) → List Node → List Link → List (Reverse (ℕ × ℕ)) → (distortion : ℕ) → List Values → Type 0
GrownValued table seeing most root nodes links leaves distortion values = (grown : IsGrown table most root nodes links leaves distortion) × AreValued table seeing nodes grown.path values

root_grown_valued : (table : Table) (seeing : List SeeingWindow) (most root old : ℕ) (leaf : Leaf) (leaves : List (Reverse (ℕ × ℕ))) → FixesVersions table (unfixed table)
    → IsLeafOn table most (unfixed table) old leaf → IsNoLower root leaf.bound → IsWith leaf.bound 0 [] leaves → IsValuedBy table seeing (unfixed table) leaf.node leaf.values
    → GrownValued table seeing most root (leaf.node ∷ []) (record { parent = 0; unit = 0; version = 0; next = 0 } ∷ []) leaves leaf.known.distortion (leaf.values ∷ [])
unfolding root_grown
root_grown_valued table seeing most root old leaf leaves fixes is least with_is valued =
    (root_grown table most root old leaf leaves fixes is least with_is, root_valued table seeing (unfixed table) leaf.node leaf.values valued)

-- the search at its root
leaf_fits : (table : Table) (node : Node) → IsLeaf node → BranchesOnFitting table node
leaf_fits table (Branch unit) is = absurd is
leaf_fits table (Dual priced) is = tt
leaf_fits table (Run scheduled) is = tt
leaf_fits table Open is = tt
leaf_fits table (Window priced) is = tt
leaf_fits table (BufferWindow priced) is = tt

pub rooted_growth : (table : Table) (most old : ℕ) (leaf : Leaf) (fixed : List (Option ℕ)) (before : List (Reverse (ℕ × ℕ))) (growth : Growth)
    → fixed ≡ unfixed table → FixesVersions table fixed → IsLeafOn table most fixed old leaf → IsNoLower growth.root leaf.bound → before ≡ []
    → IsWith leaf.bound 0 before (heap_items growth.leaves) → IsSound table most growth.found
    → growth.time ≡ bound_of_value (value_of_windows table (unfixed table) growth.found.time.items) → ReachesBoth table growth.found growth.time growth.root → 1 ≤ most
    → IsOrdered (heap_items growth.leaves) → growth.arena.nodes.items ≡ leaf.node ∷ [] → growth.arena.links.items ≡ record { parent = 0; unit = 0; version = 0; next = 0 } ∷ []
    → growth.arena.values.items ≡ leaf.values ∷ [] → IsValuedBy table growth.found.buffers fixed leaf.node leaf.values → growth.known ≡ leaf.known → growth.bytes ≡ length (bytes_of_node leaf.node) → growth.bytes ≤ NODE_BYTES_MOST → IsValidTable table → IsGrowth table most growth
rooted_growth table most old leaf fixed before growth fixed_is fixes is least none with_is sound time_is both some ordered nodes_is links_is values_is valued known_is bytes_is small valid =
    let with_none : IsWith leaf.bound 0 [] (heap_items growth.leaves) = subst (λ (xs : List (Reverse (ℕ × ℕ))). IsWith leaf.bound 0 xs (heap_items growth.leaves)) none with_is in
    let own : IsLeafOn table most (unfixed table) old leaf = subst (λ (f : List (Option ℕ)). IsLeafOn table most f old leaf) fixed_is is in
    let grown = root_grown_valued table growth.found.buffers most growth.root old leaf (heap_items growth.leaves)
    (subst (λ (f : List (Option ℕ)). FixesVersions table f) fixed_is fixes) own least with_none
    (subst (λ (f : List (Option ℕ)). IsValuedBy table growth.found.buffers f leaf.node leaf.values) fixed_is valued) in
    let at_nodes = subst (λ (ns : List Node). GrownValued table growth.found.buffers most growth.root ns (record { parent = 0; unit = 0; version = 0; next = 0 } ∷ []) (heap_items growth.leaves) leaf.known.distortion
    (leaf.values ∷ [])) (sym nodes_is) grown in
    let at_links = subst (λ (ls : List Link). GrownValued table growth.found.buffers most growth.root growth.arena.nodes.items ls (heap_items growth.leaves) leaf.known.distortion (leaf.values ∷ [])) (sym links_is) at_nodes in
    let at_values = subst (λ (vs : List Values). GrownValued table growth.found.buffers most growth.root growth.arena.nodes.items growth.arena.links.items (heap_items growth.leaves) leaf.known.distortion vs)
    (sym values_is) at_links in
    let all = subst (λ (k : Known). GrownValued table growth.found.buffers most growth.root growth.arena.nodes.items growth.arena.links.items (heap_items growth.leaves) k.distortion growth.arena.values.items)
    (sym known_is) at_values in
    record {
      grown = all.0;
      valued = all.1;
      ordered = ordered;
      known = subst (λ (k : Known). IsKnown table k) (sym known_is) is.known;
      root = both.bounds;
      founded = record { sound = sound; time_is = time_is; least = both.least; buffers = λ fit bound is_bound. both.buffers bound is_bound };
      nodes = omega (arith, ap length nodes_is, some);
      bytes = record {
        are = omega (arith, bytes_is, ap (λ (ns : List Node). tree_bytes ns) nodes_is, length-append (bytes_of_node leaf.node) []);
        within = omega (arith, small, valid.units);
      };
    }

-- ---- one child
pub child_step : (table : Table) (seeing : List SeeingWindow) (most floor : ℕ) (fixed now : List (Option ℕ)) (unit first k number : ℕ) (start : List (Reverse (ℕ × ℕ))) (children more : Children)
    → AreChildren table most floor fixed unit first k children.nodes.items start (heap_items children.leaves) children.known.distortion → number ≡ first + k
    → now ≡ fix unit k fixed → IsWithChild table seeing most floor now number children more
    → AreChildren table most floor fixed unit first (k + 1) more.nodes.items start (heap_items more.leaves) more.known.distortion
child_step table seeing most floor fixed now unit first k number start children more are number_is now_is child =
    let old = children.known.distortion in
    let leaf_is : IsLeafOn table most (fix unit k fixed) old child.leaf = subst (λ (f : List (Option ℕ)). IsLeafOn table most f old child.leaf) now_is child.is in
    let made = one_more_child table most floor fixed unit first k number old children.nodes.items more.nodes.items start (heap_items children.leaves) (heap_items more.leaves) child.leaf are
    number_is leaf_is child.nodes child.leaves child.no_lower in
    subst (λ (n : Known). AreChildren table most floor fixed unit first (k + 1) more.nodes.items start (heap_items more.leaves) n.distortion) (sym child.known) made

-- ---- one branch
pub place_open : (table : Table) (most bound number : ℕ) (growth : Growth) (taken : IsTaken table most growth bound number)
    → IsOpenAt table growth.arena.nodes.items taken.grown.path growth.root bound number
place_open table most bound number growth taken =
    let top_in = Contains-permutation (taken.top ∷ heap_items growth.leaves) taken.all taken.top (IsPermutation-sym taken.all (taken.top ∷ heap_items growth.leaves) taken.taken)
    (contains_first taken.top (heap_items growth.leaves)) in
    subst (λ (n : ℕ). IsOpenAt table growth.arena.nodes.items taken.grown.path growth.root n number) taken.bound_is
    (subst (λ (n : ℕ). IsOpenAt table growth.arena.nodes.items taken.grown.path growth.root taken.top.0.0 n) taken.number_is (taken.grown.are_open taken.top top_in))

-- where each branch fits, each did before the last one, whose unit's versions all fit
fitted : (table : Table) (nodes made : List Node) (i unit : ℕ) → i < length nodes → IsLeaf (node_of nodes i) → EachBranchFits table (set nodes i (Branch unit) ++ made)
    → (unit_fits table unit ≡ true) × EachBranchFits table nodes
fitted table nodes made i unit within leaf fit =
    let long = long_with nodes made i (Branch unit) in (
      subst (λ (n : Node). BranchesOnFitting table n) (branch_node nodes made i (Branch unit) within) (fit i (omega (arith, long, within))),
      λ j low. elim (cases_eq j i) as (λ _. BranchesOnFitting table (node_of nodes j)) [
        | inl same ↦ subst (λ (n : ℕ). BranchesOnFitting table (node_of nodes n)) (sym same) (leaf_fits table (node_of nodes i) leaf)
        | inr differs ↦ subst (λ (n : Node). BranchesOnFitting table n) (old_node nodes made i j (Branch unit) low differs) (fit j (omega (arith, long, low)))
      ],
    )

-- the children of a branch are within the bytes of as many leaves
pub made_within : (table : Table) (most versions leaf_most : ℕ) (seeing : List SeeingWindow) (fixed : List (Option ℕ)) (unit : ℕ) (made : List Node) (values : List Values)
    → IsLeafMost seeing leaf_most → length made ≡ versions → ((j : ℕ) → j < versions → MayStand table most (node_of made j))
    → AreValuedBelow table seeing fixed unit versions made values → tree_bytes made ≤ versions * leaf_most
made_within table most versions leaf_most seeing fixed unit made values is count each valued =
    subst (λ (n : ℕ). tree_bytes made ≤ n * leaf_most) count
    (bytes_at_most leaf_most made
    (λ j low. node_within table most leaf_most seeing (fix unit j fixed) (node_of made j) (values_of values j) is (each j (omega (arith, low, count))) (valued.each j (omega (arith, low, count)))))

pub branched_growth : (table : Table) (most : ℕ) (old growth : Growth) (place : Place) (made : List Node) (made_values : List Values) (links : List Link) (is : IsPlace table most old place)
    → AreChildren table most growth.root place.fixed place.unit (length old.arena.nodes.items) (versions_of table place.unit) made (heap_items old.leaves) (heap_items growth.leaves) growth.known.distortion
    → AreLinkedBehind place.number place.unit (versions_of table place.unit) old.arena.links.items growth.arena.links.items → IsKnown table growth.known
    → growth.known.distortion ≤ old.known.distortion → IsOrdered (heap_items growth.leaves) → growth.arena.nodes.items ≡ set old.arena.nodes.items place.number (Branch place.unit) ++ made
    → AreValuedBelow table old.found.buffers place.fixed place.unit (versions_of table place.unit) made made_values → growth.arena.values.items ≡ old.arena.values.items ++ made_values → growth.root ≤ old.root → old.time ≤ growth.root → (unit_fits table place.unit ≡ true → growth.root ≡ old.root) → growth.time ≡ old.time → growth.found ≡ old.found
    → growth.bytes + length (bytes_of_node (node_of old.arena.nodes.items place.number)) ≡ old.bytes + BRANCH_BYTES + tree_bytes made → IsBranched table most old growth
unfolding grown_lower grown_branched
branched_growth table most old growth place made made_values links is children linked known kept ordered nodes_is valued values_is lower least fits time_is found_is bytes_is =
    let nodes = old.arena.nodes.items in
    let taken = is.taken in
    let root = growth.root in
    let grown = grown_lower table most old.root root nodes old.arena.links.items taken.all old.known.distortion lower taken.grown in
    let i = place.number in
    let open_is = place_open table most is.bound i old taken in
    let free : IsFreeUnit table (grown.path i) place.unit = subst (λ (f : List (Option ℕ)). IsFreeUnit table f place.unit) is.fixed is.free in
    let kids = subst (λ (f : List (Option ℕ)). AreChildren table most root f place.unit (length nodes) (versions_of table place.unit) made (heap_items old.leaves) (heap_items growth.leaves)
    growth.known.distortion) is.fixed children in
    let growing : AreGrowing table most root nodes old.arena.links.items growth.arena.links.items taken.all (heap_items old.leaves) (heap_items growth.leaves) taken.top old.known.distortion
    growth.known.distortion i place.unit made grown = record {
      taken = taken.taken;
      top_is = taken.number_is;
      free = free;
      children = kids;
      linked = linked;
      kept = kept;
    } in
    let all = grown_branched table most root nodes old.arena.links.items growth.arena.links.items taken.all (heap_items old.leaves) (heap_items growth.leaves) taken.top old.known.distortion
    growth.known.distortion i place.unit made grown growing in
    let below = subst (λ (f : List (Option ℕ)). AreValuedBelow table old.found.buffers f place.unit (versions_of table place.unit) made made_values) is.fixed valued in
    let all_valued = branched_valued table old.found.buffers nodes made grown.path old.arena.values.items made_values i place.unit (versions_of table place.unit) open_is.within children.count taken.valued below in
    let at_nodes = subst (λ (ns : List Node). GrownValued table old.found.buffers most root ns growth.arena.links.items (heap_items growth.leaves) growth.known.distortion (old.arena.values.items ++ made_values))
    (sym nodes_is) (all, all_valued) in
    let at_values = subst (λ (vs : List Values). GrownValued table old.found.buffers most root growth.arena.nodes.items growth.arena.links.items (heap_items growth.leaves) growth.known.distortion vs)
    (sym values_is) at_nodes in
    let long = long_with nodes made i (Branch place.unit) in
    let size : length growth.arena.nodes.items ≡ length nodes + versions_of table place.unit = ap length nodes_is ∙ omega (arith, long, children.count) in
    record {
      is = record {
        grown = at_values.0;
        valued = subst (λ (f : Found). AreValued table f.buffers growth.arena.nodes.items at_values.0.path growth.arena.values.items) (sym found_is) at_values.1;
        ordered = ordered;
        known = known;
        root = λ choice fit scheduled. omega (arith, taken.root choice fit scheduled, lower);
        founded = record {
          sound = subst (λ (f : Found). IsSound table most f) (sym found_is) taken.founded.sound;
          time_is = time_is ∙ taken.founded.time_is ∙ ap (λ (f : Found). bound_of_value (value_of_windows table (unfixed table) f.time.items)) (sym found_is);
          least = omega (arith, time_is, least);
          buffers = λ fit bound is_bound.
              let before = fitted table nodes made i place.unit open_is.within open_is.leaf (subst (λ (ns : List Node). EachBranchFits table ns) nodes_is fit) in
              omega (
                arith,
                fits before.0,
                taken.founded.buffers before.1 bound (ap (λ (f : Found). bound_of_buffer_windows table (unfixed table) f.buffers) (sym found_is) ∙ is_bound),
              );
        };
        nodes = omega (arith, size, is.room);
        bytes = record {
          are = omega (arith, bytes_is, taken.bytes.are, ap (λ (ns : List Node). tree_bytes ns) nodes_is, bytes_branched nodes made i place.unit open_is.within);
          within = omega (
            arith,
            bytes_is,
            is.bytes.2,
            made_within table most (versions_of table place.unit) is.bytes.0 old.found.buffers place.fixed place.unit made made_values is.bytes.1
                children.count (λ j low. children.each j low) valued,
          );
        };
      };
      more = omega (arith, size, is.free.2);
      kept = kept;
      found = found_is;
    }

-- where a unit is free, more than one choice is left
pub not_one_left : (table : Table) (fixed : List (Option ℕ)) (unit : ℕ) → IsFreeUnit table fixed unit → LeavesOne table fixed → ⊥
not_one_left table fixed unit free one =
    let settled = all_zip_at IsSettled (units_of table) fixed unit no_unit None one free.0 in
    omega (arith, free.2, subst (λ (e : Option ℕ). IsSettled (get_or (units_of table) unit no_unit) e) free.1 settled)

-- a known choice is no better than the root's bound
pub root_under : (table : Table) (root : ℕ) (known : Known) → BoundsAll table root → IsKnown table known → root ≤ known.distortion
root_under table root known bounds is = omega (arith, bounds known.choice is.fits is.scheduled, is.distortion)

-- ---- the ends
pub best_of_empty : (table : Table) (most : ℕ) (growth : Growth) → IsValidTable table → IsGrowth table most growth → heap_items growth.leaves ≡ []
    → Ends table most (record { arena = growth.arena; bound = growth.known.distortion; known = growth.known; found = growth.found })
best_of_empty table most growth valid is none =
    ends_best table most growth.root growth.time growth.arena growth.known growth.found (heap_items growth.leaves) valid is.grown is.known
    (root_under table growth.root growth.known is.root is.known) is.founded is.nodes growth.bytes is.bytes
    (λ leaf there. absurd (none_in leaf (subst (λ (xs : List (Reverse (ℕ × ℕ))). Contains xs leaf) none there)))

pub best_of_least : (table : Table) (most : ℕ) (growth : Growth) (top : Reverse (ℕ × ℕ)) (left : List (Reverse (ℕ × ℕ))) → IsValidTable table → IsGrowth table most growth
    → IsPermutation (heap_items growth.leaves) (top ∷ left) → AllByRecursion (λ (other : Reverse (ℕ × ℕ)). top.0.0 ≤ other.0.0) left → growth.known.distortion ≤ top.0.0
    → Ends table most (record { arena = growth.arena; bound = growth.known.distortion; known = growth.known; found = growth.found })
best_of_least table most growth top left valid is taken least high =
    ends_best table most growth.root growth.time growth.arena growth.known growth.found (heap_items growth.leaves) valid is.grown is.known
    (root_under table growth.root growth.known is.root is.known) is.founded is.nodes growth.bytes is.bytes
    (λ leaf there. at_or_above leaf (first_or_more top leaf left (Contains-permutation (heap_items growth.leaves) (top ∷ left) leaf taken there)))
  where
    at_or_above : (leaf : Reverse (ℕ × ℕ)) → (leaf ≡ top) ⊎ Contains left leaf → growth.known.distortion ≤ leaf.0.0
    at_or_above leaf (inl same) = subst (λ (l : Reverse (ℕ × ℕ)). growth.known.distortion ≤ l.0.0) (sym same) high
    at_or_above leaf (inr rest) = omega (arith, high, all_contained top.0.0 left leaf least rest)
