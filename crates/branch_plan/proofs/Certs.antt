-- The certificate of a tree that isn't branched any more.
use Rattle.std.proofs.Common.{◌≡◌, ℕ, ◌+◌, ◌<◌, ◌≤◌, inr, List, [], ◌∷◌, length, map, All, Option, Some, sym, ap, subst, get_or, ◌∙◌, arith}
use Rattle.std.specs.List.{AllByRecursion, Contains}
use Rattle.std.proofs.lemmas.List.{get_or-map, length-map}
use Rattle.std.proofs.lemmas.List.Elements.{All-from_recursion}
use Rattle.std.proofs.lemmas.Slice.Zip.{AllZip-long}
use Rattle.version_table.specs.declared.limits.TheConstants.{NODES_MOST}
use Rattle.version_table.specs.declared.table.Table.{Table}
use Rattle.version_table.specs.Choice.{Fits, HasVersion}
use Rattle.version_table.specs.Table.{IsValidTable, units_of}
use Rattle.dual_bounds.specs.Bounds.{bound_of_value}
use Rattle.dual_bounds.specs.Values.{value_of_windows}
use Rattle.buffer_windows.specs.Bounds.{bound_of_buffer_windows}
use Rattle.bound_certificate.specs.declared.limits.TheConstants.{CERT_BYTES_MOST}
use Rattle.bound_certificate.specs.declared.cert.Cert.{Cert}
use Rattle.bound_certificate.specs.declared.cert.Node.{Node}
use Rattle.bound_certificate.specs.declared.cert.Node.TheVariants.{Open}
use Rattle.bound_certificate.specs.Cert.{IsOfVersion}
use Rattle.bound_certificate.specs.Reading.{IsWritable}
use Rattle.certificate_checker.specs.Shown.{unfixed}
use Rattle.certificate_checker.specs.Walk.{Shows, Walks, leaf, branch}
use Rattle.branch_plan.specs.declared.limits.TheConstants.{HEAD_BYTES}
use Rattle.branch_plan.specs.declared.found.Found.{Found}
use Rattle.branch_plan.specs.declared.branching.Ended.{Ended as EndedTree}
use Rattle.branch_plan.specs.Bound.{BranchesOnFitting, IsAtLeastEachPair, IsAtLeastEachTried}
use Rattle.branch_plan.specs.Tree.{BranchesOnMany}
use Rattle.branch_plan.specs.Private.Branching.{Ends, IsSpentAt, tree_bytes}
use Rattle.branch_plan.proofs.TreeBytes.{spelled_bytes}
use Rattle.branch_plan.specs.Private.Found.{EachBranchFits}
use Rattle.branch_plan.specs.Private.Leaves.{MayStand}
use Rattle.branch_plan.specs.Private.Forest.{Follows}
use Rattle.branch_plan.specs.Private.Growth.{next_of, node_of}

-- ---- each node
each_in_order : (P : Node → Type 0) (nodes : List Node) (next : ℕ → ℕ) (at : ℕ) (ids : List ℕ) → ((j : ℕ) → j < length nodes → P (node_of nodes j)) → Follows next (length nodes) at ids
    → AllByRecursion P (map (node_of nodes) ids)
each_in_order P nodes next at [] each follows = tt
each_in_order P nodes next at (x ∷ ids) each follows = (each x follows.1, each_in_order P nodes next (next x) ids each follows.2)

pub weaker : (P Q : Node → Type 0) (nodes : List Node) → ((node : Node) → P node → Q node) → AllByRecursion P nodes → AllByRecursion Q nodes
weaker P Q [] so all = tt
weaker P Q (node ∷ nodes) so all = (so node all.0, weaker P Q nodes so all.1)

-- ---- what the certificate's nodes are
pub record IsCertTree (table : Table) (most : ℕ) (found : Found) (nodes : List Node) (bound distortion : ℕ) : Type 0 where
  pub shows : Walks table (unfixed table) nodes (Shows (Some bound) [])
  pub some : 1 ≤ length nodes
  pub few : length nodes ≤ most
  pub bytes : HEAD_BYTES + length (units_of table) + tree_bytes nodes ≤ CERT_BYTES_MOST
  pub each : AllByRecursion (MayStand table most) nodes
  pub time : bound_of_value (value_of_windows table (unfixed table) found.time.items) ≤ bound
  pub buffers : All (BranchesOnFitting table) nodes → (other : ℕ) → bound_of_buffer_windows table (unfixed table) found.buffers ≡ Some other → other ≤ bound
  pub at_most : bound ≤ distortion
  pub spent : bound < distortion → IsSpentAt table most nodes bound

some_nodes : (table : Table) (fixed : List (Option ℕ)) (nodes : List Node) (shown : Option ℕ) → Walks table fixed nodes (Shows shown []) → 1 ≤ length nodes
some_nodes table fixed nodes shown (leaf f node behind is right) = omega arith
some_nodes table fixed nodes shown (branch f unit behind walked right each) = omega arith

-- where each branch of the nodes in order fits, so does each of them by its number
fit_by_number : (table : Table) (nodes : List Node) (ids : List ℕ) → ((j : ℕ) → j < length nodes → Contains ids j) → All (BranchesOnFitting table) (map (node_of nodes) ids)
    → EachBranchFits table nodes
fit_by_number table nodes ids there all j low =
    let at = there j low in
    let same : get_or (map (node_of nodes) ids) at.0 Open ≡ node_of nodes j = get_or-map (node_of nodes) ids at.0 j Open at.1 ∙ ap (node_of nodes) at.2 in
    subst (λ (n : Node). BranchesOnFitting table n) same (all at.0 Open (omega (arith, at.1, length-map ids (node_of nodes))))

pub cert_tree : (table : Table) (most : ℕ) (ended : EndedTree) (nodes : List Node) (is : Ends table most ended) → nodes ≡ map (node_of ended.arena.nodes.items) is.ids
    → IsCertTree table most ended.found nodes ended.bound ended.known.distortion
cert_tree table most ended nodes is same =
    let all = map (node_of ended.arena.nodes.items) is.ids in
    subst (λ (ns : List Node). IsCertTree table most ended.found ns ended.bound ended.known.distortion) (sym same) (record {
      shows = is.shows;
      some = some_nodes table (unfixed table) all (Some ended.bound) is.shows;
      few = omega (arith, length-map is.ids (node_of ended.arena.nodes.items), is.order.1, is.nodes);
      bytes = is.bytes;
      each = each_in_order (MayStand table most) ended.arena.nodes.items (next_of ended.arena.links.items) 0 is.ids is.each is.order.0;
      time = is.time;
      buffers = λ fit other is_bound. is.buffers (fit_by_number table ended.arena.nodes.items is.ids is.there fit) other is_bound;
      at_most = is.at_most;
      spent = is.spent;
    })

-- ---- its bytes
pub as_many_chosen : (table : Table) (choice : List ℕ) → Fits table choice → length choice ≡ length (units_of table)
as_many_chosen table choice fits = AllZip-long HasVersion (units_of table) choice fits

-- what can be written
pub writable : (table : Table) (most : ℕ) (found : Found) (cert : Cert) (distortion : ℕ) → IsValidTable table → 1 ≤ most → most ≤ NODES_MOST → cert.version ≡ 3
    → IsCertTree table most found cert.nodes cert.bound distortion → Fits table cert.choice → IsWritable cert
writable table most found cert distortion valid some limit three tree fits =
    record {
      version = inr (inr three);
      some_nodes = tree.some;
      few_nodes = omega (arith, tree.few, limit);
      nodes = subst (λ (v : ℕ). AllByRecursion (IsOfVersion v) cert.nodes) (sym three) (weaker (MayStand table most) (IsOfVersion 3) cert.nodes (λ node is. is.version) tree.each);
      bytes = omega (arith, spelled_bytes cert, as_many_chosen table cert.choice fits, tree.bytes);
    }

-- ---- its clauses
pub branches_in : (table : Table) (most : ℕ) (found : Found) (nodes : List Node) (bound distortion : ℕ) → IsCertTree table most found nodes bound distortion → All (BranchesOnMany table) nodes
branches_in table most found nodes bound distortion tree =
    All-from_recursion (BranchesOnMany table) nodes (weaker (MayStand table most) (BranchesOnMany table) nodes (λ node is. is.many) tree.each)

pub tried_in : (table : Table) (root bound : ℕ) → IsAtLeastEachTried table root → root ≤ bound → IsAtLeastEachTried table bound
tried_in table root bound least less tried is = omega (arith, least tried is, less)

pub pairs_in : (table : Table) (root bound : ℕ) → IsAtLeastEachPair table root → root ≤ bound → IsAtLeastEachPair table bound
pairs_in table root bound least less first other best is differs = omega (arith, least first other best is differs, less)
