-- Worked examples, by hand: three units of two versions in slots of 4,000 ticks, due at 27,200, 43,200 and 47,200, by which 2, 6 and 7
-- packets can be sent; and trees of few nodes.
use Rattle.std.proofs.Common.{◌≡◌, ℕ, zero, suc, ◌+◌, ◌*◌, nat_le, List, [], ◌∷◌, length, refl, inl, arith}
use Rattle.std.specs.List.Sorted.{IsSortedBy}
use Rattle.version_table.specs.declared.table.Unit.{Unit as CodedUnit}
use Rattle.version_table.specs.declared.table.Table.{Table}
use Rattle.dual_bounds.specs.Bounds.{bound_of_value}
use Rattle.dual_bounds.specs.Room.{serves, free_slots, audio_due, room}
use Rattle.dual_bounds.specs.Values.{price, least_cost, least_costs, worth, value_of_windows, value_of_multipliers}
use Rattle.buffer_windows.specs.declared.windows.BufferWindow.{BufferWindow as SeeingWindow}
use Rattle.bound_certificate.specs.declared.cert.Cert.{Cert}
use Rattle.bound_certificate.specs.declared.cert.Node.TheVariants.{Branch, BufferWindow, Open}
use Rattle.bound_certificate.specs.Spelling.{bytes_of_node}
use Rattle.certificate_checker.specs.Shown.{fix, unfixed}
use Rattle.branch_plan.specs.declared.limits.TheConstants.{BRANCH_BYTES, NODE_BYTES_MOST}
use Rattle.branch_plan.specs.Changes.{change_count}
use Rattle.branch_plan.specs.Tree.{AreEnough, HasLeaf, IsPast, here, below, in_first, nodes_of_whole_tree, version_counts}
use Rattle.branch_plan.proofs.TreeBytes.{branch_bytes, seeing_bytes}

abbrev coded : (due distortion : ℕ) → CodedUnit
coded due distortion = record {
  due = due;
  versions = record { items = record { bytes = 552; distortion = 0 } ∷ record { bytes = 368; distortion = distortion } ∷ [] };
}

abbrev three_units : Table
three_units = record {
  slot = 4000;
  nodes = 1;
  evaluations = 0;
  programs = record { vbv = 112; units = coded 27200 10 ∷ coded 43200 4 ∷ coded 47200 4 ∷ []; audios = [] } ∷ [];
}

-- the first best multiplier bounds by 10; with one more the bound is 14
pair_bound : bound_of_value (value_of_multipliers three_units (unfixed three_units) (record { due = 47200; lambda = 1024 } ∷ record { due = 27200; lambda = 2560 } ∷ [])) ≡ 14
unfolding serves free_slots audio_due room price least_cost least_costs worth value_of_windows value_of_multipliers
pair_bound = refl

-- one version is left out of each unit's changes
changes_of_three : change_count three_units ≡ 3
changes_of_three = refl

counts_of_three : version_counts three_units ≡ 2 ∷ 2 ∷ 2 ∷ []
counts_of_three = refl

-- 1 and 2 and 4 and 8 nodes; 1 and 3 and 6 nodes; without a unit of two versions the root alone
whole_tree_of_three : nodes_of_whole_tree (2 ∷ 2 ∷ 2 ∷ []) ≡ 15
whole_tree_of_three = refl

whole_tree_of_two : nodes_of_whole_tree (3 ∷ 2 ∷ []) ≡ 10
whole_tree_of_two = refl

whole_tree_of_none : nodes_of_whole_tree [] ≡ 1
whole_tree_of_none = refl

-- a unit of two versions and one of three: branched on the three first, the whole tree has 1 and 3 and 6 nodes, and 10 are enough
abbrev two_and_three : Table
two_and_three = record {
  slot = 4000;
  nodes = 10;
  evaluations = 0;
  programs = record {
    vbv = 112;
    units =
        coded 27200 10
        ∷ record {
          due = 43200;
          versions = record { items = record { bytes = 552; distortion = 0 } ∷ record { bytes = 368; distortion = 4 } ∷ record { bytes = 184; distortion = 8 } ∷ [] };
        }
        ∷ [];
    audios = [];
  } ∷ [];
}

falling : IsSortedBy (λ a b. nat_le (suc b) a) (3 ∷ 2 ∷ [])
falling zero d low high = refl
falling (suc k) d low high = absurd (omega (arith, high))

enough_for_two_and_three : AreEnough two_and_three 10
enough_for_two_and_three = (3 ∷ 2 ∷ [], record { moves = (0, 1) ∷ []; below = (omega arith, omega arith, tt); is = refl }, falling, omega arith)

-- in the first child of a branch on unit 0 its version 0 is fixed
first_leaf : HasLeaf three_units Open (fix 0 0 (unfixed three_units)) (unfixed three_units) (Branch 0 ∷ Open ∷ Open ∷ [])
first_leaf = below (unfixed three_units) 0 (Open ∷ Open ∷ []) (in_first (unfixed three_units) 0 0 1 (Open ∷ Open ∷ []) (here (Open ∷ []) tt))

-- a branch has 5 bytes, a node of 4,096 windows that see the buffers 102,403, and a branch on a unit of eight versions 819,229 at most
bytes_of_a_branch : length (bytes_of_node (Branch 7)) ≡ 5
bytes_of_a_branch = branch_bytes 7

bytes_of_most : (windows : List SeeingWindow) → length windows ≡ 4096 → length (bytes_of_node (BufferWindow windows)) ≡ NODE_BYTES_MOST
bytes_of_most windows all = omega (arith, seeing_bytes windows, all)

bytes_of_eight : BRANCH_BYTES + 8 * NODE_BYTES_MOST ≡ 819229
bytes_of_eight = refl

-- three nodes and two children more are past four
three_nodes : Cert
three_nodes = record { version = 3; bound = 0; distortion = 0; choice = []; nodes = Branch 0 ∷ Open ∷ Open ∷ [] }

past_four : IsPast three_units 4 2 three_nodes
unfolding three_nodes
past_four = inl (omega arith)
