-- The way to the next node of a tree: which versions are fixed on it, and what the branches on it wait for.
use Rattle.std.specs.Prelude.{◌≡◌, ℕ, ◌+◌, ◌-◌, ◌<◌, ◌≤◌, List, [], ◌∷◌, length, reverse, slice_index_or, slice_set, Option, Some, None, vec_capacity}
use Rattle.version_table.specs.declared.table.Table.{Table}
use Rattle.dual_bounds.specs.Fixed.{FixesVersions}
use Rattle.bound_certificate.specs.declared.cert.Node.{Node}
use Rattle.certificate_checker.specs.declared.path.OpenBranch.{OpenBranch}
use Rattle.certificate_checker.specs.declared.path.Next.{Next}
use Rattle.certificate_checker.specs.declared.path.Next.TheVariants.{Needed, Whole}
use Rattle.certificate_checker.specs.declared.path.Path.{Path}
use Rattle.certificate_checker.specs.declared.walk.Closing.{Closing}
use Rattle.certificate_checker.specs.declared.walk.Closing.TheVariants.{NextChild, Shown}
use Rattle.certificate_checker.specs.declared.why.CertFault.{CertFault}
use Rattle.certificate_checker.specs.Shown.{choice_left, unfixed, version_left, versions_of}
use Rattle.certificate_checker.specs.Walk.{Shows, Stops, Walked, Walks, WalksEach, beside}

-- the version that is fixed of a unit
abbrev pub version_in : List (Option ℕ) → (unit : ℕ) → ℕ
version_in fixed unit = version_left (slice_index_or fixed unit None)

-- no version of the unit is fixed any more
abbrev pub unfix : (unit : ℕ) → List (Option ℕ) → List (Option ℕ)
unfix unit fixed = slice_set fixed unit None

-- what comes of a branch's children from version k on, once this has come of the child of version k
abbrev pub FromChild : Table → List (Option ℕ) → (unit k : ℕ) → Walked → Walked → Type 0
FromChild table fixed unit k (Shows bound behind) each =
    (others : Walked) × WalksEach table fixed unit (k + 1) (versions_of table unit - (k + 1)) behind others × (each ≡ beside bound others)
FromChild table fixed unit k (Stops why left) each = each ≡ Stops why left

-- what comes of the whole tree, once this has come of the tree in hand, where these branches are open, the innermost first
abbrev pub Resumes : Table → List (Option ℕ) → List OpenBranch → Walked → Walked → Type 0
Resumes table fixed [] walked whole = walked ≡ whole
Resumes table fixed (branch ∷ branches) walked whole =
    (each : Walked) × FromChild table (unfix branch.unit fixed) branch.unit (version_in fixed branch.unit) walked each
    × Resumes table (unfix branch.unit fixed) branches (beside branch.least each) whole

-- each open branch has a version of its unit fixed, and before it none was
abbrev pub AreOpen : Table → List (Option ℕ) → List OpenBranch → Type 0
AreOpen table fixed [] = Unit {0}
AreOpen table fixed (branch ∷ branches) =
    (branch.unit < length fixed) × (slice_index_or fixed branch.unit None ≡ Some (version_in fixed branch.unit))
    × (version_in fixed branch.unit < versions_of table branch.unit) × AreOpen table (unfix branch.unit fixed) branches

-- what is fixed, the choice that it leaves, and the branches, for which there is room
pub record IsPath (table : Table) (path : Path) : Type 0 where
  pub fixes : FixesVersions table path.fixed.items
  pub choice : path.choice.items ≡ choice_left path.fixed.items
  pub are_open : AreOpen table path.fixed.items (reverse path.branches.items)
  pub room : length path.fixed.items ≤ vec_capacity path.branches

-- what comes of the whole tree, once this has come of the tree in hand
abbrev pub Completes : Table → Path → Walked → Walked → Type 0
Completes table path walked whole = Resumes table path.fixed.items (reverse path.branches.items) walked whole

-- what comes of the whole tree, where these nodes are to come
abbrev pub Ahead : Table → Path → List Node → Walked → Type 0
Ahead table path nodes whole = (walked : Walked) × Walks table path.fixed.items nodes walked × Completes table path walked whole

-- what is to come, once a tree in hand has shown a bound
abbrev pub IsClosed : Table → (old new : Path) → Option ℕ → Next → Type 0
IsClosed table old new bound Needed = (nodes : List Node) (whole : Walked) → Ahead table new nodes whole → Completes table old (Shows bound nodes) whole
IsClosed table old new bound (Whole shown) = (nodes : List Node) → Completes table old (Shows bound nodes) (Shows shown nodes)

-- what comes of a branch, once a child of it has shown a bound
abbrev pub IsClosing : Table → (old new : Path) → Option ℕ → Closing → Type 0
IsClosing table old new bound NextChild = (nodes : List Node) (whole : Walked) → Ahead table new nodes whole → Completes table old (Shows bound nodes) whole
IsClosing table old new bound (Shown least) =
    (length new.branches.items < length old.branches.items)
    × ((nodes : List Node) (whole : Walked) → Completes table new (Shows least nodes) whole → Completes table old (Shows bound nodes) whole)

-- the first fault of the tree that nodes begin with
abbrev pub IsFaultIn : Table → List Node → CertFault → Type 0
IsFaultIn table nodes fault = (left : ℕ) × Walks table (unfixed table) nodes (Stops fault.why left) × (fault.node + left ≡ length nodes)

-- what is to come, once one more node is taken
abbrev pub IsTaken : Table → (old new : Path) → Node → Next → Type 0
IsTaken table old new node Needed = (nodes : List Node) (whole : Walked) → Ahead table new nodes whole → Ahead table old (node ∷ nodes) whole
IsTaken table old new node (Whole shown) = (nodes : List Node) → Ahead table old (node ∷ nodes) (Shows shown nodes)

-- room for so many units, and for as many branches
abbrev pub HasRoomFor : (units : ℕ) → Path → Type 0
HasRoomFor units path = (units ≤ vec_capacity path.fixed) × (units ≤ vec_capacity path.choice) × (units ≤ vec_capacity path.branches)

-- no room is given away
abbrev pub KeepsRoom : (old new : Path) → Type 0
KeepsRoom old new =
    (vec_capacity old.fixed ≤ vec_capacity new.fixed) × (vec_capacity old.choice ≤ vec_capacity new.choice)
    × (vec_capacity old.branches ≤ vec_capacity new.branches)
