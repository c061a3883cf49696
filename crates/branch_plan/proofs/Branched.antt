-- A tree with one more branch.
use Rattle.std.proofs.Common.{◌≡◌, ◌≢◌, ℕ, zero, suc, ◌+◌, ◌-◌, ◌<◌, ◌≤◌, ◌⊎◌, inl, inr, List, [], ◌++◌, length, set, Option, refl, sym, ap, subst, ◌∙◌, arith}
use Rattle.std.proofs.lemmas.Bool.{cases_lt}
use Rattle.std.proofs.lemmas.List.{get_or-append-add, get_or_append_left, get_or-set_same, get_or-set_other, length-append, length-set}
use Rattle.version_table.specs.declared.table.Table.{Table}
use Rattle.version_table.specs.Table.{units_of}
use Rattle.dual_bounds.specs.Fixed.{FixesVersions}
use Rattle.bound_certificate.specs.declared.cert.Node.{Node}
use Rattle.bound_certificate.specs.declared.cert.Node.TheVariants.{Branch, Open}
use Rattle.certificate_checker.specs.Shown.{fix, unfixed, versions_of}
use Rattle.certificate_checker.specs.Faults.{IsRight}
use Rattle.certificate_checker.specs.Walk.{IsLeaf}
use Rattle.certificate_checker.proofs.Units.{fixes_one}
use Rattle.branch_plan.specs.declared.arena.Link.{Link}
use Rattle.branch_plan.specs.Private.Forest.{Follows, Forest, Stands, ids_then, leaf_occurs, leaves, occurs, split}
use Rattle.branch_plan.specs.Private.Growth.{ArePaths, AreLinked, link_of, next_of, node_of}
use Rattle.branch_plan.specs.Private.Leaves.{IsFreeUnit}
use Rattle.branch_plan.specs.Private.Branching.{AreLinkedBehind, IsTree}
use Rattle.branch_plan.proofs.Splits.{AreSplit, leaf_as_often, leaves_follow, leaves_none, leaves_one, leaves_size, leaves_width, none_above, split_follows, split_once, split_once-size, split_stands, split-width}

-- ---- paths of old and new nodes
-- the first where there is a difference
abbrev pick : {A : Type 0} → (difference : ℕ) → A → A → A
pick zero a b = b
pick (suc d) a b = a

-- the paths of the first nodes as they were, those behind them with a version more
abbrev pub paths_with : (n unit : ℕ) → (fixed : List (Option ℕ)) → (path : ℕ → List (Option ℕ)) → ℕ → List (Option ℕ)
paths_with n unit fixed path j = pick (n - j) (path j) (fix unit (j - n) fixed)

pub old_path : (n unit : ℕ) (fixed : List (Option ℕ)) (path : ℕ → List (Option ℕ)) (j : ℕ) → j < n → paths_with n unit fixed path j ≡ path j
old_path n unit fixed path j low =
    let more : n - j ≡ suc (n - j - 1) = omega (arith, low) in
    ap (λ (d : ℕ). pick d (path j) (fix unit (j - n) fixed)) more

pub new_path : (n unit : ℕ) (fixed : List (Option ℕ)) (path : ℕ → List (Option ℕ)) (j k : ℕ) → j ≡ n + k → paths_with n unit fixed path j ≡ fix unit k fixed
new_path n unit fixed path j k is =
    let none : n - j ≡ 0 = omega (arith, is) in
    let behind : j - n ≡ k = omega (arith, is) in
    ap (λ (d : ℕ). pick d (path j) (fix unit (j - n) fixed)) none ∙ ap (λ (v : ℕ). fix unit v fixed) behind

-- ---- nodes
pub old_node : (nodes made : List Node) (i j : ℕ) (top : Node) → j < length nodes → j ≢ i → node_of (set nodes i top ++ made) j ≡ node_of nodes j
old_node nodes made i j top low differs =
    get_or_append_left (set nodes i top) made Open j (omega (arith, low, length-set nodes i top)) ∙ get_or-set_other nodes i j top Open differs

pub branch_node : (nodes made : List Node) (i : ℕ) (top : Node) → i < length nodes → node_of (set nodes i top ++ made) i ≡ top
branch_node nodes made i top low =
    get_or_append_left (set nodes i top) made Open i (omega (arith, low, length-set nodes i top)) ∙ get_or-set_same nodes i top Open low

pub new_node : (nodes made : List Node) (i j k : ℕ) (top : Node) → j ≡ length nodes + k → node_of (set nodes i top ++ made) j ≡ node_of made k
new_node nodes made i j k top is =
    let place : j ≡ length (set nodes i top) + k = omega (arith, is, length-set nodes i top) in
    ap (λ (p : ℕ). node_of (set nodes i top ++ made) p) place ∙ get_or-append-add (set nodes i top) made k Open

-- ---- leaves with numbers one after the other
leaves_stand : (table : Table) (m : ℕ) (node : ℕ → Node) (path own : ℕ → List (Option ℕ)) (last first count k : ℕ) → last ≡ first + count → last ≤ m
    → ((id at : ℕ) → first ≤ id → id < last → at + first ≡ id + k → (path id ≡ own at) × IsLeaf (node id) × IsRight table (own at) (node id))
    → Stands table m node path own k (leaves first count)
leaves_stand table m node path own last first zero k last_is within each = tt
leaves_stand table m node path own last first (suc count) k last_is within each =
    let here_is = each first k (omega arith) (omega (arith, last_is)) (omega arith) in (
      omega (arith, last_is, within),
      here_is.0,
      here_is.1,
      here_is.2,
      leaves_stand table m node path own last (first + 1) count (k + 1) (omega (arith, last_is)) within
          (λ id at low high same. each id at (omega (arith, low)) high (omega (arith, same))),
    )

-- ---- one more branch
-- a leaf and its children, each right where its version is fixed
pub record AreMade (table : Table) (nodes : List Node) (path : ℕ → List (Option ℕ)) (i unit : ℕ) (made : List Node) : Type 0 where
  pub within : i < length nodes
  pub leaf : IsLeaf (node_of nodes i)
  pub free : IsFreeUnit table (path i) unit
  pub count : length made ≡ versions_of table unit
  pub is : (j : ℕ) → j < length made → IsLeaf (node_of made j)
  pub right : (j : ℕ) → j < length made → IsRight table (fix unit j (path i)) (node_of made j)

made_stand : (table : Table) (nodes : List Node) (path : ℕ → List (Option ℕ)) (i unit : ℕ) (made : List Node) → AreMade table nodes path i unit made
    → Stands table (length nodes + length made) (node_of (set nodes i (Branch unit) ++ made)) (paths_with (length nodes) unit (path i) path) (λ j. fix unit j (path i)) 0
    (leaves (length nodes) (length made))
made_stand table nodes path i unit made are =
    leaves_stand table (length nodes + length made) (node_of (set nodes i (Branch unit) ++ made)) (paths_with (length nodes) unit (path i) path) (λ j. fix unit j (path i))
    (length nodes + length made) (length nodes) (length made) 0 refl (omega arith)
    (λ id at low high same.
    let at_is : id ≡ length nodes + at = omega (arith, same) in
    let below : at < length made = omega (arith, high, at_is) in
    let node_is = new_node nodes made i id at (Branch unit) at_is in (
      new_path (length nodes) unit (path i) path id at at_is,
      subst (λ (top : Node). IsLeaf top) (sym node_is) (are.is at below),
      subst (λ (top : Node). IsRight table (fix unit at (path i)) top) (sym node_is) (are.right at below),
    ))

-- the numbers of the new nodes
pub long_with : (nodes made : List Node) (i : ℕ) (top : Node) → length (set nodes i top ++ made) ≡ length nodes + length made
long_with nodes made i top = omega (arith, length-append (set nodes i top) made, length-set nodes i top)

once_in : (n v m i unit j : ℕ) (tree : Forest) → leaf_occurs i tree ≡ 1 → ((j : ℕ) → j < n → occurs j tree ≡ 1) → ((j : ℕ) → n ≤ j → occurs j tree ≡ 0) → m ≡ n + v → j < m
    → (j < n) ⊎ (n ≤ j) → occurs j (split i unit (leaves n v) tree) ≡ 1
once_in n v m i unit j tree single once above long low (inl old_is) =
    omega (arith, split_once j i unit (leaves n v) tree single, once j old_is, leaves_none j n v old_is)
once_in n v m i unit j tree single once above long low (inr new_is) =
    omega (arith, split_once j i unit (leaves n v) tree single, above j new_is, leaves_one j n v new_is (omega (arith, low, long)))

-- the number of a new node by its place among them
place_of : (n j : ℕ) → n ≤ j → j ≡ n + (j - n)
place_of n j low = omega (arith, low)

back_in : (table : Table) (links new_links : List Link) (i unit v j : ℕ) → AreLinked table links → AreLinkedBehind i unit v links new_links → i < length links → 0 < j
    → j < length links + v → (j < length links) ⊎ (length links ≤ j) → (link_of new_links j).parent < j
back_in table links new_links i unit v j linked behind within some low (inl old_is) = omega (arith, behind.parent j old_is, linked.back j some old_is)
back_in table links new_links i unit v j linked behind within some low (inr new_is) =
    let place = place_of (length links) j new_is in
    omega (arith, behind.new_parent j (j - length links) place (omega (arith, low, new_is)), within, new_is)

unit_in : (table : Table) (links new_links : List Link) (i unit v j : ℕ) → AreLinked table links → AreLinkedBehind i unit v links new_links → unit < length (units_of table) → 0 < j
    → j < length links + v → (j < length links) ⊎ (length links ≤ j) → (link_of new_links j).unit < length (units_of table)
unit_in table links new_links i unit v j linked behind within some low (inl old_is) = omega (arith, behind.unit_kept j old_is, linked.unit j some old_is)
unit_in table links new_links i unit v j linked behind within some low (inr new_is) =
    omega (arith, behind.new_unit j (j - length links) (place_of (length links) j new_is) (omega (arith, low, new_is)), within)

child_in : (table : Table) (links new_links : List Link) (i unit v j : ℕ) (path : ℕ → List (Option ℕ)) → AreLinked table links → ArePaths table links path
    → AreLinkedBehind i unit v links new_links → i < length links → 0 < j → j < length links + v → (j < length links) ⊎ (length links ≤ j)
    → paths_with (length links) unit (path i) path j
    ≡ fix (link_of new_links j).unit (link_of new_links j).version (paths_with (length links) unit (path i) path (link_of new_links j).parent)
child_in table links new_links i unit v j path linked are behind within some low (inl old_is) =
    let n = length links in
    let back = linked.back j some old_is in
    let low_parent : (link_of new_links j).parent < n = omega (arith, behind.parent j old_is, back, old_is) in
    let parent_is : paths_with n unit (path i) path (link_of new_links j).parent ≡ path (link_of links j).parent =
    old_path n unit (path i) path (link_of new_links j).parent low_parent ∙ ap path (behind.parent j old_is) in
    old_path n unit (path i) path j old_is ∙ are.child j some old_is
    ∙ sym (ap (λ (u : ℕ). fix u (link_of new_links j).version (paths_with n unit (path i) path (link_of new_links j).parent)) (behind.unit_kept j old_is)
    ∙ ap (λ (k : ℕ). fix (link_of links j).unit k (paths_with n unit (path i) path (link_of new_links j).parent)) (behind.version_kept j old_is)
    ∙ ap (λ (f : List (Option ℕ)). fix (link_of links j).unit (link_of links j).version f) parent_is)
child_in table links new_links i unit v j path linked are behind within some low (inr new_is) =
    let n = length links in
    let place = place_of n j new_is in
    let below : j - n < v = omega (arith, low, new_is) in
    let parent = behind.new_parent j (j - n) place below in
    let parent_is : paths_with n unit (path i) path (link_of new_links j).parent ≡ path i =
    ap (paths_with n unit (path i) path) parent ∙ old_path n unit (path i) path i within in
    new_path n unit (path i) path j (j - n) place
    ∙ sym (ap (λ (u : ℕ). fix u (link_of new_links j).version (paths_with n unit (path i) path (link_of new_links j).parent)) (behind.new_unit j (j - n) place below)
    ∙ ap (λ (k : ℕ). fix unit k (paths_with n unit (path i) path (link_of new_links j).parent)) (behind.new_version j (j - n) place below)
    ∙ ap (λ (f : List (Option ℕ)). fix unit (j - n) f) parent_is)

fixes_in : (table : Table) (n v unit j : ℕ) (fixed : List (Option ℕ)) (path : ℕ → List (Option ℕ)) → ((j : ℕ) → j < n → FixesVersions table (path j)) → FixesVersions table fixed
    → v ≡ versions_of table unit → j < n + v → (j < n) ⊎ (n ≤ j) → FixesVersions table (paths_with n unit fixed path j)
fixes_in table n v unit j fixed path fixes own all low (inl old_is) = subst (λ (f : List (Option ℕ)). FixesVersions table f) (sym (old_path n unit fixed path j old_is)) (fixes j old_is)
fixes_in table n v unit j fixed path fixes own all low (inr new_is) =
    subst (λ (f : List (Option ℕ)). FixesVersions table f) (sym (new_path n unit fixed path j (j - n) (place_of n j new_is)))
    (fixes_one table fixed unit (j - n) own (omega (arith, all, low, new_is)))

pub tree_branched : (table : Table) (nodes : List Node) (links new_links : List Link) (path : ℕ → List (Option ℕ)) (tree : Forest) (i unit : ℕ) (made : List Node)
    → IsTree table nodes links path tree → AreMade table nodes path i unit made → AreLinkedBehind i unit (length made) links new_links
    → IsTree table (set nodes i (Branch unit) ++ made) new_links (paths_with (length nodes) unit (path i) path) (split i unit (leaves (length nodes) (length made)) tree)
tree_branched table nodes links new_links path tree i unit made is are behind =
    let n = length nodes in
    let v = length made in
    let under = leaves n v in
    let new_nodes = set nodes i (Branch unit) ++ made in
    let new_tree = split i unit under tree in
    let paths = paths_with n unit (path i) path in
    let long : length new_nodes ≡ n + v = long_with nodes made i (Branch unit) in
    let single : leaf_occurs i tree ≡ 1 = leaf_as_often table n (node_of nodes) path i are.leaf (λ j. unfixed table) 0 tree is.stands ∙ is.once i are.within in
    let above : (j : ℕ) → n ≤ j → occurs j tree ≡ 0 = (λ j high. none_above table n (node_of nodes) path j high (λ k. unfixed table) 0 tree is.stands) in
    let changed : AreSplit n i unit (node_of nodes) (node_of new_nodes) path paths = record {
      same = λ j low differs. old_node nodes made i j (Branch unit) low differs;
      split_at = branch_node nodes made i (Branch unit) are.within;
      paths = λ j low. old_path n unit (path i) path j low;
    } in
    let right : IsRight table (path i) (Branch unit) = (are.free.0, are.free.1) in
    let stands : Stands table (n + v) (node_of new_nodes) paths (λ j. unfixed table) 0 new_tree =
    split_stands table n (n + v) i unit (node_of nodes) (node_of new_nodes) path paths under (omega arith) are.leaf are.within changed right are.free.2 (leaves_width n v ∙ are.count)
    (made_stand table nodes path i unit made are) (λ j. unfixed table) 0 tree is.stands in
    let follow : (xs : List ℕ) → Follows (next_of new_links) (n + v) (next_of links i) xs → Follows (next_of new_links) (n + v) n (ids_then under xs) =
    leaves_follow (next_of new_links) (n + v) (next_of links i) n v (n + v) refl (omega arith) (omega (arith, are.count, are.free.2))
    (λ j low high. behind.rise j (omega (arith, low, is.as_many)) (omega (arith, high, is.as_many))) (λ j last. behind.last j (omega (arith, last, is.as_many))) in
    let ordered : Follows (next_of new_links) (n + v) 0 (ids_then new_tree []) =
    split_follows table n (n + v) i unit n (node_of nodes) path (next_of links) (next_of new_links) under (omega arith) are.leaf
    (λ j low differs. behind.next_kept j (omega (arith, low, is.as_many)) differs) (behind.next_at ∙ is.as_many) follow (λ j. unfixed table) 0 tree is.stands 0 is.follows in
    let within : i < length links = omega (arith, are.within, is.as_many) in
    record {
      one = split-width i unit under tree ∙ is.one;
      stands = subst (λ (m : ℕ). Stands table m (node_of new_nodes) paths (λ j. unfixed table) 0 new_tree) (sym long) stands;
      once = λ j low. once_in n v (length new_nodes) i unit j tree single is.once above long low (cases_lt j n);
      count = omega (arith, split_once-size i unit under tree single, is.count, leaves_size n v, long);
      follows = subst (λ (m : ℕ). Follows (next_of new_links) m 0 (ids_then new_tree [])) (sym long) ordered;
      as_many = omega (arith, behind.long, is.as_many, long);
      linked = record {
        some = omega (arith, behind.long, is.linked.some);
        back = λ j some low. back_in table links new_links i unit v j is.linked behind within some (omega (arith, low, behind.long)) (cases_lt j (length links));
        unit = λ j some low. unit_in table links new_links i unit v j is.linked behind are.free.0 some (omega (arith, low, behind.long)) (cases_lt j (length links));
      };
      paths = subst (λ (m : ℕ). ArePaths table new_links (paths_with m unit (path i) path)) is.as_many (record {
        root = old_path (length links) unit (path i) path 0 (omega (arith, within)) ∙ is.paths.root;
        child = λ j some low. child_in table links new_links i unit v j path is.linked is.paths behind within some (omega (arith, low, behind.long)) (cases_lt j (length links));
      });
      fixes = λ j low. fixes_in table n v unit j (path i) path is.fixes (is.fixes i are.within) are.count (omega (arith, low, long)) (cases_lt j n);
    }
