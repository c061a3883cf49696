-- The path after each step of the code: a branch entered, a child closed, a branch closed.
use Rattle.std.proofs.Common.{◌≡◌, ℕ, ◌+◌, ◌<◌, ◌≤◌, List, [], ◌∷◌, ◌++◌, length, reverse, Option, Some, None, vec_capacity, Result, Ok, Err, IfOk, OnOk, refl, sym, ap, subst, ◌∙◌, arith}
use Rattle.std.proofs.lemmas.List.{length-append, length-set}
use Rattle.version_table.specs.declared.table.Table.{Table}
use Rattle.version_table.specs.Table.{IsValidTable, units_of}
use Rattle.dual_bounds.specs.Fixed.{FixesVersions, NamesVersion}
use Rattle.arrayvec.specs.ArrayVec.{ArrayVec}
use Rattle.dual_bounds.specs.declared.windows.Multiplier.{Multiplier}
use Rattle.dual_bounds.specs.declared.windows.Window.{Window as PricedWindow}
use Rattle.buffer_windows.specs.declared.windows.BufferWindow.{BufferWindow as SeeingWindow}
use Rattle.buffer_windows.specs.Bounds.{bound_of_buffer_windows}
use Rattle.bound_certificate.specs.declared.cert.Node.{Node}
use Rattle.bound_certificate.specs.declared.cert.Node.TheVariants.{Branch, Dual, Open, Window, BufferWindow}
use Rattle.certificate_checker.specs.declared.path.Next.{Next}
use Rattle.certificate_checker.specs.declared.path.Next.TheVariants.{Needed, Whole}
use Rattle.certificate_checker.specs.declared.path.OpenBranch.{OpenBranch}
use Rattle.certificate_checker.specs.declared.path.Path.{Path}
use Rattle.certificate_checker.specs.declared.why.Why.{Why}
use Rattle.certificate_checker.specs.declared.walk.Closing.TheVariants.{NextChild, Shown}
use Rattle.certificate_checker.specs.Shown.{bound_of_leaf, bound_of_windows, choice_left, fix, lesser, versions_of, windows_in}
use Rattle.certificate_checker.specs.Faults.{AreRight, AreRightBufferWindows, IsRight}
use Rattle.certificate_checker.specs.Walk.{IsLeaf, Shows, Walks, leaf}
use Rattle.certificate_checker.specs.Private.Paths.{AreOpen, IsClosed, IsClosing, IsPath, IsTaken, KeepsRoom, Resumes, unfix, version_in}
use Rattle.certificate_checker.proofs.Paths.{first_child, last_child, next_child, opened, reverse-push, room_for_one, unfix-fix, unfix-free}
use Rattle.certificate_checker.proofs.Units.{all_zip_size, fixes_none, fixes_one, some_version}

-- room that is kept twice is kept
pub keeps_both : (old between new : Path) → KeepsRoom old between → KeepsRoom between new → KeepsRoom old new
keeps_both old between new first second = (omega (arith, first.0, second.0), omega (arith, first.1, second.1), omega (arith, first.2, second.2))

-- the innermost branch of a path and those outside of it
pub record Innermost (table : Table) (path : Path) (outer : List OpenBranch) (branch : OpenBranch) : Type 0 where
  pub branches_are : reverse path.branches.items ≡ branch ∷ reverse outer
  pub within : branch.unit < length path.fixed.items
  pub outer_open : AreOpen table (unfix branch.unit path.fixed.items) (reverse outer)
  pub some : version_in path.fixed.items branch.unit < versions_of table branch.unit

pub innermost : (table : Table) (path : Path) (outer : List OpenBranch) (branch : OpenBranch) → IsPath table path → path.branches.items ≡ outer ++ branch ∷ [] → Innermost table path outer branch
innermost table path outer branch is popped =
    let are : reverse path.branches.items ≡ branch ∷ reverse outer = ap reverse popped ∙ reverse-push outer branch in
    let opens = subst (λ (bs : List OpenBranch). AreOpen table path.fixed.items bs) are is.are_open in
    record { branches_are = are; within = opens.0; outer_open = opens.3; some = opens.2 }

-- ---- the next child
pub next_path : (table : Table) (old new : Path) (outer : List OpenBranch) (branch : OpenBranch) (least : Option ℕ) (k : ℕ) → IsPath table old → old.branches.items ≡ outer ++ branch ∷ []
    → k < versions_of table branch.unit → new.fixed.items ≡ fix branch.unit k old.fixed.items → new.choice.items ≡ choice_left new.fixed.items
    → new.branches.items ≡ outer ++ record { unit = branch.unit; least = least } ∷ [] → KeepsRoom old new → IsPath table new
next_path table old new outer branch least k is popped some fixed choice branches room =
    let inner = innermost table old outer branch is popped in
    let unit = branch.unit in
    record {
      fixes = subst (λ (f : List (Option ℕ)). FixesVersions table f) (sym fixed) (fixes_one table old.fixed.items unit k is.fixes some);
      choice = choice;
      are_open = rw (fixed, branches, reverse-push outer (record { unit = unit; least = least }))
          (opened table old.fixed.items (unfix unit old.fixed.items) unit k least (reverse outer) inner.within some (unfix-fix unit k old.fixed.items) inner.outer_open);
      room = omega (arith, is.room, room.2, ap length fixed, length-set old.fixed.items unit (Some k));
    }

pub next_closing : (table : Table) (old new : Path) (outer : List OpenBranch) (branch : OpenBranch) (bound : Option ℕ) (k : ℕ) → IsPath table old → old.branches.items ≡ outer ++ branch ∷ []
    → k ≡ version_in old.fixed.items branch.unit + 1 → k < versions_of table branch.unit → new.fixed.items ≡ fix branch.unit k old.fixed.items
    → new.branches.items ≡ outer ++ record { unit = branch.unit; least = lesser branch.least bound } ∷ [] → IsClosing table old new bound NextChild
next_closing table old new outer branch bound k is popped k_is some fixed branches nodes whole (walked, walks, completes) =
    let inner = innermost table old outer branch is popped in
    let unit = branch.unit in
    let least = lesser branch.least bound in
    let are : reverse new.branches.items ≡ record { unit = unit; least = least } ∷ reverse outer = ap reverse branches ∙ reverse-push outer (record { unit = unit; least = least }) in
    let here : Walks table (fix unit k old.fixed.items) nodes walked = subst (λ (f : List (Option ℕ)). Walks table f nodes walked) fixed walks in
    let by_fixed : Resumes table (fix unit k old.fixed.items) (reverse new.branches.items) walked whole = subst (λ (f : List (Option ℕ)). Resumes table f (reverse new.branches.items) walked whole)
    fixed completes in
    let by_branches = subst (λ (bs : List OpenBranch). Resumes table (fix unit k old.fixed.items) bs walked whole) are by_fixed in
    subst (λ (bs : List OpenBranch). Resumes table old.fixed.items bs (Shows bound nodes) whole) (sym inner.branches_are)
    (next_child table old.fixed.items branch (reverse outer) bound k k_is inner.within some nodes walked whole here by_branches)

-- ---- the last child
pub last_path : (table : Table) (old new : Path) (outer : List OpenBranch) (branch : OpenBranch) → IsPath table old → old.branches.items ≡ outer ++ branch ∷ []
    → new.fixed.items ≡ unfix branch.unit old.fixed.items → new.choice.items ≡ choice_left new.fixed.items → new.branches.items ≡ outer → KeepsRoom old new → IsPath table new
last_path table old new outer branch is popped fixed choice branches room =
    let inner = innermost table old outer branch is popped in
    let unit = branch.unit in
    record {
      fixes = subst (λ (f : List (Option ℕ)). FixesVersions table f) (sym fixed) (fixes_none table old.fixed.items unit is.fixes);
      choice = choice;
      are_open = rw (fixed, branches) inner.outer_open;
      room = omega (arith, is.room, room.2, ap length fixed, length-set old.fixed.items unit None);
    }

pub last_closing : (table : Table) (old new : Path) (outer : List OpenBranch) (branch : OpenBranch) (bound : Option ℕ) → IsPath table old → old.branches.items ≡ outer ++ branch ∷ []
    → versions_of table branch.unit ≤ version_in old.fixed.items branch.unit + 1 → new.fixed.items ≡ unfix branch.unit old.fixed.items → new.branches.items ≡ outer
    → IsClosing table old new bound (Shown (lesser branch.least bound))
last_closing table old new outer branch bound is popped all fixed branches =
    let inner = innermost table old outer branch is popped in
    let unit = branch.unit in
    let least = lesser branch.least bound in (
      omega (arith, ap length popped, length-append outer (branch ∷ []), ap length branches),
      λ nodes whole completes.
          let by_fixed : Resumes table (unfix unit old.fixed.items) (reverse new.branches.items) (Shows least nodes) whole =
          subst (λ (f : List (Option ℕ)). Resumes table f (reverse new.branches.items) (Shows least nodes) whole) fixed completes in
          let by_branches = subst (λ (bs : List OpenBranch). Resumes table (unfix unit old.fixed.items) (reverse bs) (Shows least nodes) whole) branches by_fixed in
          subst (λ (bs : List OpenBranch). Resumes table old.fixed.items bs (Shows bound nodes) whole) (sym inner.branches_are)
          (last_child table old.fixed.items branch (reverse outer) bound all nodes whole by_branches),
    )

-- ---- a branch entered
pub enter_path : (table : Table) (old new : Path) (unit : ℕ) → IsValidTable table → IsPath table old → IsRight table old.fixed.items (Branch unit) → new.fixed.items ≡ fix unit 0 old.fixed.items
    → new.choice.items ≡ choice_left new.fixed.items → new.branches.items ≡ old.branches.items ++ record { unit = unit; least = None } ∷ [] → KeepsRoom old new
    → IsPath table new
enter_path table old new unit valid is right fixed choice branches room =
    let size : length old.fixed.items ≡ length (units_of table) = all_zip_size NamesVersion (units_of table) old.fixed.items is.fixes in
    let within : unit < length old.fixed.items = omega (arith, right.0, size) in
    let some : 0 < versions_of table unit = some_version table unit valid right.0 in
    let same : unfix unit (fix unit 0 old.fixed.items) ≡ old.fixed.items = unfix-free unit 0 old.fixed.items right.1 in
    record {
      fixes = subst (λ (f : List (Option ℕ)). FixesVersions table f) (sym fixed) (fixes_one table old.fixed.items unit 0 is.fixes some);
      choice = choice;
      are_open = rw (fixed, branches, reverse-push old.branches.items (record { unit = unit; least = None }))
          (opened table old.fixed.items old.fixed.items unit 0 None (reverse old.branches.items) within some same is.are_open);
      room = omega (arith, is.room, room.2, ap length fixed, length-set old.fixed.items unit (Some 0));
    }

pub enter_taken : (table : Table) (old new : Path) (unit : ℕ) → IsValidTable table → IsPath table old → IsRight table old.fixed.items (Branch unit) → new.fixed.items ≡ fix unit 0 old.fixed.items
    → new.branches.items ≡ old.branches.items ++ record { unit = unit; least = None } ∷ [] → IsTaken table old new (Branch unit) Needed
enter_taken table old new unit valid is right fixed branches nodes whole (walked, walks, completes) =
    let size : length old.fixed.items ≡ length (units_of table) = all_zip_size NamesVersion (units_of table) old.fixed.items is.fixes in
    let outer = reverse old.branches.items in
    let are : reverse new.branches.items ≡ record { unit = unit; least = None } ∷ outer = ap reverse branches ∙ reverse-push old.branches.items (record { unit = unit; least = None }) in
    let here : Walks table (fix unit 0 old.fixed.items) nodes walked = subst (λ (f : List (Option ℕ)). Walks table f nodes walked) fixed walks in
    let by_fixed : Resumes table (fix unit 0 old.fixed.items) (reverse new.branches.items) walked whole = subst (λ (f : List (Option ℕ)). Resumes table f (reverse new.branches.items) walked whole)
    fixed completes in
    let by_branches = subst (λ (bs : List OpenBranch). Resumes table (fix unit 0 old.fixed.items) bs walked whole) are by_fixed in
    first_child table old.fixed.items unit outer right (omega (arith, right.0, size)) (some_version table unit valid right.0) nodes walked whole here by_branches

pub room_to_enter : (table : Table) (path : Path) (unit : ℕ) → IsPath table path → IsRight table path.fixed.items (Branch unit) → length path.branches.items < vec_capacity path.branches
room_to_enter table path unit is right =
    let size : length path.fixed.items ≡ length (units_of table) = all_zip_size NamesVersion (units_of table) path.fixed.items is.fixes in
    omega (arith, is.room, room_for_one table path.fixed.items path.branches.items unit is.are_open (omega (arith, right.0, size)) right.1)

-- ---- a node without children
pub leaf_taken : (table : Table) (old new : Path) (node : Node) (next : Next) → IsLeaf node → IsRight table old.fixed.items node → IsClosed table old new (bound_of_leaf table old.fixed.items node) next
    → IsTaken table old new node next
leaf_taken table old new node Needed is right closed =
    λ nodes whole ahead. (Shows (bound_of_leaf table old.fixed.items node) nodes, leaf old.fixed.items node nodes is right, closed nodes whole ahead)
leaf_taken table old new node (Whole shown) is right closed = λ nodes. (Shows (bound_of_leaf table old.fixed.items node) nodes, leaf old.fixed.items node nodes is right, closed nodes)

-- a node whose bound these windows show
pub record IsByWindows (table : Table) (fixed : List (Option ℕ)) (windows : List PricedWindow) (node : Node) : Type 0 where
  pub is_leaf : IsLeaf node
  pub right : AreRight windows → IsRight table fixed node
  pub bound : bound_of_leaf table fixed node ≡ bound_of_windows table fixed windows

pub dual_by : (table : Table) (fixed : List (Option ℕ)) (windows : List PricedWindow) (priced : ArrayVec Multiplier) → windows ≡ windows_in (Dual priced)
    → IsByWindows table fixed windows (Dual priced)
dual_by table fixed windows priced same =
    record { is_leaf = tt; right = λ are. subst AreRight same are; bound = ap (λ (ws : List PricedWindow). bound_of_windows table fixed ws) (sym same) }

pub window_by : (table : Table) (fixed : List (Option ℕ)) (windows : List PricedWindow) (priced : ArrayVec PricedWindow) → windows ≡ windows_in (Window priced)
    → IsByWindows table fixed windows (Window priced)
window_by table fixed windows priced same =
    record { is_leaf = tt; right = λ are. subst AreRight same are; bound = ap (λ (ws : List PricedWindow). bound_of_windows table fixed ws) (sym same) }

pub open_by : (table : Table) (fixed : List (Option ℕ)) → IsByWindows table fixed [] Open
open_by table fixed = record { is_leaf = tt; right = λ are. are; bound = refl }

-- what windows that see the buffers show their node shows
pub buffer_windows_taken : (table : Table) (old new : Path) (windows : List SeeingWindow) (result : Result Next Why) → OnOk result (AreRightBufferWindows table windows)
    → IfOk result (IsClosed table old new (bound_of_buffer_windows table old.fixed.items windows)) → IfOk result (IsTaken table old new (BufferWindow windows))
buffer_windows_taken table old new windows (Ok next) are closed = leaf_taken table old new (BufferWindow windows) next tt are closed
buffer_windows_taken table old new windows (Err why) are closed = tt

-- what a node's windows show it shows
pub windows_taken : (table : Table) (old new : Path) (node : Node) (windows : List PricedWindow) (result : Result Next Why) → IsByWindows table old.fixed.items windows node
    → OnOk result (AreRight windows) → IfOk result (IsClosed table old new (bound_of_windows table old.fixed.items windows)) → IfOk result (IsTaken table old new node)
windows_taken table old new node windows (Ok next) by are closed =
    leaf_taken table old new node next by.is_leaf (by.right are) (subst (λ (b : Option ℕ). IsClosed table old new b next) (sym by.bound) closed)
windows_taken table old new node windows (Err why) by are closed = tt
