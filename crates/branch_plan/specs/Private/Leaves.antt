-- The leaves that a search makes.
use Rattle.std.specs.Prelude.{◌≡◌, ℕ, ◌<◌, ◌≤◌, List, length, Option, Some, None}
use Rattle.version_table.specs.declared.table.Table.{Table}
use Rattle.version_table.specs.Table.{units_of}
use Rattle.dual_bounds.specs.declared.constants.TheConstants.{WINDOWS_MOST}
use Rattle.bound_certificate.specs.declared.cert.Node.{Node}
use Rattle.bound_certificate.specs.declared.cert.Node.TheVariants.{Branch, Dual, Run, Open, Window, BufferWindow}
use Rattle.bound_certificate.specs.Cert.{IsOfVersion}
use Rattle.certificate_checker.specs.Checked.{IsAtMost}
use Rattle.certificate_checker.specs.Faults.{IsFree, IsRight}
use Rattle.certificate_checker.specs.Shown.{bound_of_leaf, versions_of, windows_in}
use Rattle.certificate_checker.specs.Walk.{IsLeaf}
use Rattle.branch_plan.specs.declared.leaves.Leaf.{Leaf}
use Rattle.branch_plan.specs.Tree.{BranchesOnMany}
use Rattle.branch_plan.specs.Private.Found.{AreSearchedIn, AreShared}
use Rattle.branch_plan.specs.Private.Known.{IsKnown}

-- a unit has two or more versions, of which none is fixed
abbrev pub IsFreeUnit : Table → List (Option ℕ) → (unit : ℕ) → Type 0
IsFreeUnit table fixed unit = (unit < length (units_of table)) × IsFree fixed unit × (2 ≤ versions_of table unit)

-- a node has windows, of one kind or the other
abbrev pub HasWindows : Node → Type 0
HasWindows (Branch unit) = ⊥
HasWindows (Dual priced) = ⊥
HasWindows (Run scheduled) = ⊥
HasWindows Open = ⊥
HasWindows (Window priced) = Unit {0}
HasWindows (BufferWindow priced) = Unit {0}

-- a node that may stand in a certificate of a search of so many nodes
pub record MayStand (table : Table) (most : ℕ) (node : Node) : Type 0 where
  pub many : BranchesOnMany table node
  pub version : IsOfVersion 3 node
  pub windows : length (windows_in node) ≤ WINDOWS_MOST
  pub few : AreShared table most (length (windows_in node))

-- a leaf that may be branched, where these versions are fixed: it has this bound, and a unit is free
pub record MayBranch (table : Table) (fixed : List (Option ℕ)) (node : Node) (bound : ℕ) : Type 0 where
  pub bound_is : bound_of_leaf table fixed node ≡ Some bound
  pub has : HasWindows node
  pub unit : ℕ
  pub free : IsFreeUnit table fixed unit

-- a leaf may be branched and has a bound below a distortion; or it needn't be, since its bound is no less
abbrev pub IsSettledBy : Table → (fixed : List (Option ℕ)) → (distortion : ℕ) → Node → Option ℕ → Type 0
IsSettledBy table fixed distortion node None = IsAtMost distortion (bound_of_leaf table fixed node)
IsSettledBy table fixed distortion node (Some bound) = MayBranch table fixed node bound

-- a leaf where these versions are fixed, of a search of so many nodes and beside a known distortion
pub record IsLeafOn (table : Table) (most : ℕ) (fixed : List (Option ℕ)) (old : ℕ) (leaf : Leaf) : Type 0 where
  pub known : IsKnown table leaf.known
  pub kept : leaf.known.distortion ≤ old
  pub is : IsLeaf leaf.node
  pub right : IsRight table fixed leaf.node
  pub stands : MayStand table most leaf.node
  pub searched : AreSearchedIn table leaf.node
  pub bound : IsSettledBy table fixed leaf.known.distortion leaf.node leaf.bound
