-- A tree that isn't branched any more: its bound, and why it ends.
use Rattle.std.proofs.Common.{◌≡◌, ℕ, suc, ◌+◌, ◌<◌, ◌≤◌, ◌⊎◌, inl, inr, List, [], ◌∷◌, length, map, Option, Some, None, refl, sym, ap, subst, ◌∙◌, arith}
use Rattle.std.specs.List.{AllByRecursion, Contains}
use Rattle.std.specs.List.Sorted.{IsPermutation}
use Rattle.std.specs.BinaryHeap.{heap_items}
use Rattle.std.specs.declared.cmp.Reverse.{Reverse}
use Rattle.std.proofs.lemmas.List.{length-map}
use Rattle.std.proofs.lemmas.List.Sorted.{Contains-permutation, IsPermutation-sym}
use Rattle.version_table.specs.declared.table.Table.{Table}
use Rattle.version_table.specs.Table.{IsValidTable, units_of}
use Rattle.bound_certificate.specs.declared.cert.Cert.{Cert}
use Rattle.bound_certificate.specs.declared.cert.Node.{Node}
use Rattle.certificate_checker.specs.Checked.{IsAtMost, IsFaultless}
use Rattle.certificate_checker.specs.Faults.{IsHeadRight}
use Rattle.certificate_checker.specs.Shown.{bound_of_leaf, unfixed, versions_of}
use Rattle.certificate_checker.specs.Walk.{Shows, Walks}
use Rattle.certificate_checker.proofs.Soundness.{faultless_bound}
use Rattle.branch_plan.specs.declared.arena.Arena.{Arena}
use Rattle.branch_plan.specs.declared.arena.Link.{Link}
use Rattle.branch_plan.specs.declared.branching.Growth.{Growth}
use Rattle.branch_plan.specs.declared.found.Found.{Found}
use Rattle.branch_plan.specs.declared.known.Known.{Known}
use Rattle.branch_plan.specs.Tree.{AreEnough, HasLeaf, IsPast}
use Rattle.branch_plan.specs.Private.Branching.{Ends, HasBytes, IsFull, IsGrown, IsOpenAt, IsSettledIn, IsSpentAt, IsTaken, IsTree, tree_bytes}
use Rattle.branch_plan.specs.Private.Forest.{Forest, no_tree, leaf_at, branch_at, ids_then, least_shown, occurs, times_among}
use Rattle.branch_plan.specs.Private.Found.{IsFounded}
use Rattle.branch_plan.specs.Private.Growth.{IsOrder, StandOnce, next_of, node_of}
use Rattle.branch_plan.specs.Private.Known.{IsKnown}
use Rattle.branch_plan.specs.Private.Leaves.{IsFreeUnit}
use Rattle.branch_plan.proofs.TreeBytes.{full_cert, ordered_bytes}
use Rattle.branch_plan.proofs.Forests.{at_most_least, has_leaf, in_branch, in_leaf, least_at_most, tree_walks}
use Rattle.branch_plan.proofs.Opens.{all_contained, contains_first, first_or_more}
use Rattle.branch_plan.proofs.Splits.{ids_count}
use Rattle.branch_plan.proofs.Growing.{lower_bound}

-- ---- what is shown
-- a certificate of these nodes and this bound
abbrev cert_with : (bound : ℕ) → List Node → Known → Cert
cert_with bound nodes known = record { version = 2; bound = bound; distortion = known.distortion; choice = known.choice; nodes = nodes }

-- by weak duality no bound is above the distortion of a known choice
pub under_known : (table : Table) (bound : ℕ) (shown : Option ℕ) (nodes : List Node) (known : Known) → IsValidTable table → IsKnown table known
    → Walks table (unfixed table) nodes (Shows shown []) → IsAtMost bound shown → bound ≤ known.distortion
under_known table bound shown nodes known valid is walks most =
    let cert = cert_with bound nodes known in
    let head : IsHeadRight table cert = record { fits = is.fits; scheduled = is.scheduled; distortion = is.distortion } in
    let right : IsFaultless table cert = record { head = head; shown = shown; tree = walks; bound = most } in
    subst (λ (n : ℕ). bound ≤ n) (sym is.distortion) (faultless_bound table cert valid right known.choice is.fits is.scheduled)

pub shown_best : (table : Table) (shown : Option ℕ) (nodes : List Node) (known : Known) → IsValidTable table → IsKnown table known → Walks table (unfixed table) nodes (Shows shown [])
    → IsAtMost known.distortion shown → shown ≡ Some known.distortion
shown_best table None nodes known valid is walks most = absurd (omega (arith, under_known table (suc known.distortion) None nodes known valid is walks tt))
shown_best table (Some bound) nodes known valid is walks most =
    let least = under_known table bound (Some bound) nodes known valid is walks (omega arith) in
    ap Some (omega (arith, least, most))

shown_least : (bound : ℕ) (shown : Option ℕ) → IsAtMost bound shown → ((n : ℕ) → IsAtMost n shown → n ≤ bound) → shown ≡ Some bound
shown_least bound None most least = absurd (omega (arith, least (suc bound) tt))
shown_least bound (Some other) most least = ap Some (omega (arith, most, least other (omega arith)))

-- ---- the order of the nodes
pub tree_order : (table : Table) (nodes : List Node) (links : List Link) (path : ℕ → List (Option ℕ)) (tree : Forest) → IsTree table nodes links path tree → IsOrder nodes links (ids_then tree [])
tree_order table nodes links path tree is = (is.follows, omega (arith, ids_count tree [], is.count))

tree_shows : (table : Table) (nodes : List Node) (links : List Link) (path : ℕ → List (Option ℕ)) (tree : Forest) → IsTree table nodes links path tree
    → Walks table (unfixed table) (map (node_of nodes) (ids_then tree [])) (Shows (least_shown table (node_of nodes) (λ j. unfixed table) 0 tree) [])
tree_shows table nodes links path tree is = tree_walks table (length nodes) (node_of nodes) path (unfixed table) tree is.one is.stands

-- ---- each node stands in that order
contains_number : (id : ℕ) (ids : List ℕ) → Contains (id ∷ ids) id
contains_number id ids = (0, omega arith, refl)

contains_later : (id j : ℕ) (ids : List ℕ) → Contains ids j → Contains (id ∷ ids) j
contains_later id j ids (k, within, is) = (suc k, omega (arith, within), is)

contains_behind : (j id : ℕ) (ids : List ℕ) → (id ≡ j) ⊎ Contains ids j → Contains (id ∷ ids) j
contains_behind j id ids (inl same) = subst (λ (n : ℕ). Contains (id ∷ ids) n) same (contains_number id ids)
contains_behind j id ids (inr there) = contains_later id j ids there

there_behind : (j : ℕ) (trees : Forest) (behind : List ℕ) → Contains behind j → Contains (ids_then trees behind) j
there_behind j no_tree behind there = there
there_behind j (leaf_at id more) behind there = contains_behind j id (ids_then more behind) (inr (there_behind j more behind there))
there_behind j (branch_at id unit below more) behind there =
    contains_behind j id (ids_then below (ids_then more behind)) (inr (there_behind j below (ids_then more behind) (there_behind j more behind there)))

pub each_there : (j : ℕ) (trees : Forest) (behind : List ℕ) → 0 < occurs j trees → Contains (ids_then trees behind) j
each_there j no_tree behind some = absurd (omega (arith, some))
each_there j (leaf_at id more) behind some =
    in_leaf id j (occurs j more) some (λ same. contains_behind j id (ids_then more behind) (inl same))
    (λ later. contains_behind j id (ids_then more behind) (inr (each_there j more behind later)))
each_there j (branch_at id unit below more) behind some =
    let all = ids_then below (ids_then more behind) in
    in_branch id j (occurs j below) (occurs j more) some (λ same. contains_behind j id all (inl same))
    (λ under. contains_behind j id all (inr (each_there j below (ids_then more behind) under)))
    (λ later. contains_behind j id all (inr (there_behind j below (ids_then more behind) (each_there j more behind later))))

pub times_of : (j : ℕ) (trees : Forest) (behind : List ℕ) → times_among j (ids_then trees behind) ≡ occurs j trees + times_among j behind
times_of j no_tree behind = omega arith
times_of j (leaf_at id more) behind = omega (arith, times_of j more behind)
times_of j (branch_at id unit below more) behind = omega (arith, times_of j below (ids_then more behind), times_of j more behind)

tree_once : (table : Table) (nodes : List Node) (links : List Link) (path : ℕ → List (Option ℕ)) (tree : Forest) → IsTree table nodes links path tree
    → StandOnce (length nodes) (ids_then tree [])
tree_once table nodes links path tree is j low = omega (arith, times_of j tree [], is.once j low)

tree_order_bytes : (table : Table) (nodes : List Node) (links : List Link) (path : ℕ → List (Option ℕ)) (tree : Forest) → IsTree table nodes links path tree
    → tree_bytes (map (node_of nodes) (ids_then tree [])) ≡ tree_bytes nodes
tree_order_bytes table nodes links path tree is =
    ordered_bytes nodes (next_of links) 0 (ids_then tree []) is.follows (λ j low. omega (arith, times_of j tree [], is.once j low))

-- ---- the bound is the distortion
settled_best : (table : Table) (nodes : List Node) (path : ℕ → List (Option ℕ)) (leaves : List (Reverse (ℕ × ℕ))) (distortion j : ℕ)
    → ((leaf : Reverse (ℕ × ℕ)) → Contains leaves leaf → distortion ≤ leaf.0.0) → IsSettledIn table nodes path leaves distortion j
    → IsAtMost distortion (bound_of_leaf table (path j) (node_of nodes j))
settled_best table nodes path leaves distortion j each (inl most) = most
settled_best table nodes path leaves distortion j each (inr (leaf, there, number, is)) =
    subst (λ (b : Option ℕ). IsAtMost distortion b) (sym is) (each leaf there)

pub ends_best : (table : Table) (most root time : ℕ) (arena : Arena) (known : Known) (found : Found) (leaves : List (Reverse (ℕ × ℕ))) → IsValidTable table
    → IsGrown table most root arena.nodes.items arena.links.items leaves known.distortion → IsKnown table known → root ≤ known.distortion → IsFounded table most found time root arena.nodes.items → length arena.nodes.items ≤ most → (bytes : ℕ) → HasBytes table arena.nodes.items bytes
    → ((leaf : Reverse (ℕ × ℕ)) → Contains leaves leaf → known.distortion ≤ leaf.0.0)
    → Ends table most (record { arena = arena; bound = known.distortion; known = known; found = found })
ends_best table most root time arena known found leaves valid grown is root_is founded few bytes has each =
    let nodes = arena.nodes.items in
    let ids = ids_then grown.tree [] in
    let shown = least_shown table (node_of nodes) (λ j. unfixed table) 0 grown.tree in
    let walks = tree_shows table nodes arena.links.items grown.path grown.tree grown.is in
    let all : IsAtMost known.distortion shown = at_most_least table (length nodes) (node_of nodes) grown.path known.distortion
    (λ j low leaf. settled_best table nodes grown.path leaves known.distortion j each (grown.settled j low leaf)) (λ j. unfixed table) 0 grown.tree grown.is.stands in
    let best = shown_best table shown (map (node_of nodes) ids) known valid is walks all in
    record {
      ids = ids;
      there = λ j low. each_there j grown.tree [] (omega (arith, grown.is.once j low));
      order = tree_order table nodes arena.links.items grown.path grown.tree grown.is;
      once = tree_once table nodes arena.links.items grown.path grown.tree grown.is;
      as_many = grown.is.as_many;
      nodes = few;
      bytes = omega (arith, tree_order_bytes table nodes arena.links.items grown.path grown.tree grown.is, has.are, has.within);
      each = grown.each;
      known = is;
      shows = subst (λ (b : Option ℕ). Walks table (unfixed table) (map (node_of nodes) ids) (Shows b [])) best walks;
      time = omega (arith, founded.time_is, founded.least, root_is);
      buffers = λ fit bound is_bound. omega (arith, founded.buffers fit bound is_bound, root_is);
      at_most = omega arith;
      spent = λ less. absurd (omega (arith, less));
    }

-- ---- the nodes are spent
settled_least : (table : Table) (nodes : List Node) (path : ℕ → List (Option ℕ)) (all leaves : List (Reverse (ℕ × ℕ))) (top : Reverse (ℕ × ℕ)) (bound distortion j : ℕ) → top.0.0 ≡ bound
    → bound ≤ distortion → IsPermutation all (top ∷ leaves) → AllByRecursion (λ (other : Reverse (ℕ × ℕ)). bound ≤ other.0.0) leaves → IsSettledIn table nodes path all distortion j
    → IsAtMost bound (bound_of_leaf table (path j) (node_of nodes j))
settled_least table nodes path all leaves top bound distortion j is less taken least (inl most) = lower_bound bound distortion (bound_of_leaf table (path j) (node_of nodes j)) less most
settled_least table nodes path all leaves top bound distortion j is less taken least (inr (leaf, there, number, shown)) =
    subst (λ (b : Option ℕ). IsAtMost bound b) (sym shown) (at_or_above (first_or_more top leaf leaves (Contains-permutation all (top ∷ leaves) leaf taken there)))
  where
    at_or_above : (leaf ≡ top) ⊎ Contains leaves leaf → bound ≤ leaf.0.0
    at_or_above (inl same) = omega (arith, is, ap (λ (l : Reverse (ℕ × ℕ)). l.0.0) same)
    at_or_above (inr rest) = all_contained bound leaves leaf least rest

-- a branch more at a tree would take it past its nodes, or maybe past its bytes
abbrev pub IsPastAt : Table → (most versions : ℕ) → Growth → Type 0
IsPastAt table most versions growth =
    (most < length growth.arena.nodes.items + versions) ⊎ ((AreEnough table most → ⊥) × IsFull table growth versions)

past_cert : (table : Table) (most versions : ℕ) (growth : Growth) (cert : Cert) → length cert.nodes ≡ length growth.arena.nodes.items → tree_bytes cert.nodes ≡ growth.bytes
    → length cert.choice ≡ length (units_of table) → IsPastAt table most versions growth → IsPast table most versions cert
past_cert table most versions growth cert as_many bytes choice (inl nodes) = inl (omega (arith, as_many, nodes))
past_cert table most versions growth cert as_many bytes choice (inr (few, full)) = inr (few, full_cert table versions growth cert full choice bytes)

pub ends_spent : (table : Table) (most bound number unit : ℕ) (growth : Growth) → IsValidTable table → (taken : IsTaken table most growth bound number)
    → IsFreeUnit table (taken.grown.path number) unit → IsPastAt table most (versions_of table unit) growth
    → Ends table most (record { arena = growth.arena; bound = bound; known = growth.known; found = growth.found })
ends_spent table most bound number unit growth valid taken free past =
    let nodes = growth.arena.nodes.items in
    let links = growth.arena.links.items in
    let grown = taken.grown in
    let tree = grown.tree in
    let path = grown.path in
    let ids = ids_then tree [] in
    let shown = least_shown table (node_of nodes) (λ j. unfixed table) 0 tree in
    let walks = tree_shows table nodes links path tree grown.is in
    let top_in = Contains-permutation (taken.top ∷ heap_items growth.leaves) taken.all taken.top (IsPermutation-sym taken.all (taken.top ∷ heap_items growth.leaves) taken.taken)
    (contains_first taken.top (heap_items growth.leaves)) in
    let top_open : IsOpenAt table nodes path growth.root bound number =
    subst (λ (n : ℕ). IsOpenAt table nodes path growth.root n number) taken.bound_is
    (subst (λ (n : ℕ). IsOpenAt table nodes path growth.root taken.top.0.0 n) taken.number_is (grown.are_open taken.top top_in)) in
    let all : IsAtMost bound shown = at_most_least table (length nodes) (node_of nodes) path bound
    (λ j low leaf. settled_least table nodes path taken.all (heap_items growth.leaves) taken.top bound growth.known.distortion j taken.bound_is (omega (arith, taken.below)) taken.taken taken.least
    (grown.settled j low leaf)) (λ j. unfixed table) 0 tree grown.is.stands in
    let there : 0 < occurs number tree = omega (arith, grown.is.once number top_open.within) in
    let under : (n : ℕ) → IsAtMost n shown → n ≤ bound = (λ n at.
    subst (λ (b : Option ℕ). IsAtMost n b) top_open.may.bound_is
    (least_at_most table (length nodes) (node_of nodes) path n number top_open.leaf (λ j. unfixed table) 0 tree there grown.is.stands at)) in
    let is : shown ≡ Some bound = shown_least bound shown all under in
    let order = tree_order table nodes links path tree grown.is in
    let ordered = tree_order_bytes table nodes links path tree grown.is in
    let spent : IsSpentAt table most (map (node_of nodes) ids) bound = (λ cert nodes_is bound_is choice. record {
      leaf = node_of nodes number;
      path = path number;
      has_leaf =
          subst (λ (ns : List Node). HasLeaf table (node_of nodes number) (path number) (unfixed table) ns) (sym nodes_is)
          (has_leaf table (length nodes) (node_of nodes) path number top_open.leaf (unfixed table) tree grown.is.one there grown.is.stands);
      least = top_open.may.bound_is ∙ ap Some (sym bound_is);
      unit = unit;
      free = free.1;
      many = free.2;
      past = past_cert table most (versions_of table unit) growth cert (ap length nodes_is ∙ length-map ids (node_of nodes) ∙ order.1)
          (ap (λ (ns : List Node). tree_bytes ns) nodes_is ∙ ordered ∙ sym taken.bytes.are) choice past;
    }) in
    record {
      ids = ids;
      there = λ j low. each_there j tree [] (omega (arith, grown.is.once j low));
      order = order;
      once = tree_once table nodes links path tree grown.is;
      as_many = grown.is.as_many;
      nodes = taken.nodes;
      bytes = omega (arith, ordered, taken.bytes.are, taken.bytes.within);
      each = grown.each;
      known = taken.known;
      shows = subst (λ (b : Option ℕ). Walks table (unfixed table) (map (node_of nodes) ids) (Shows b [])) is walks;
      time = omega (arith, taken.founded.time_is, taken.founded.least, top_open.at_least);
      buffers = λ fit other is_bound. omega (arith, taken.founded.buffers fit other is_bound, top_open.at_least);
      at_most = omega (arith, taken.below);
      spent = λ less. spent;
    }
