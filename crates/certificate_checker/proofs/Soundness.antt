-- What a tree without fault shows is a bound: no scheduled choice that takes what is fixed has less distortion.
use Rattle.std.proofs.Common.{
  ◌≡◌,
  ℕ,
  zero,
  suc,
  ◌+◌,
  ◌-◌,
  ◌<◌,
  ◌≤◌,
  Bool,
  true,
  false,
  List,
  [],
  ◌∷◌,
  length,
  map,
  get_or,
  Option,
  Some,
  None,
  Result,
  Ok,
  Err,
  IfOk,
  OnOk,
  slice_get,
  refl,
  sym,
  ap₂,
  subst,
  ◌∙◌,
  arith,
}
use Rattle.std.specs.List.{AllZip}
use Rattle.std.proofs.lemmas.List.{length-map, length-set}
use Rattle.std.proofs.lemmas.Option.{slice_get-get_or}
use Rattle.version_table.specs.declared.table.Unit.{Unit as CodedUnit}
use Rattle.version_table.specs.declared.table.Table.{Table}
use Rattle.version_table.specs.Choice.{Fits, HasVersion, distortion_of_choice}
use Rattle.version_table.specs.Table.{IsValidTable, units_of}
use Rattle.slot_rule.specs.Schedule.{IsScheduled}
use Rattle.dual_bounds.specs.Bounds.{IsBound, bound_of_value}
use Rattle.dual_bounds.specs.Fixed.{TakesFixed}
use Rattle.dual_bounds.specs.Values.{value_of_windows}
use Rattle.dual_bounds.proofs.Duality.{windows_bound}
use Rattle.dual_bounds.proofs.ValueLaws.{branch_bounds}
use Rattle.buffer_windows.specs.Bounds.{IsBoundOrNone, bound_of_buffer_windows}
use Rattle.buffer_windows.proofs.Duality.{windows_bound as buffers_bound}
use Rattle.bound_certificate.specs.declared.cert.Cert.{Cert}
use Rattle.bound_certificate.specs.declared.cert.Node.{Node}
use Rattle.bound_certificate.specs.declared.cert.Node.TheVariants.{Branch, Dual, Run, Open, Window, BufferWindow}
use Rattle.certificate_checker.specs.declared.why.CertFault.{CertFault}
use Rattle.certificate_checker.specs.Shown.{bound_of_leaf, bound_of_run, choice_left, fix, lesser, unfixed, versions_of, windows_in}
use Rattle.certificate_checker.specs.Faults.{IsRight, IsSettled}
use Rattle.certificate_checker.specs.Walk.{IsLeaf, Shows, Stops, Walked, Walks, WalksEach, beside, missing, wrong, leaf, branch, none, stop, next}
use Rattle.certificate_checker.specs.Checked.{IsAtMost, IsFaultless}

-- ---- bounds
pub lesser-first : (n : ℕ) (a b : Option ℕ) → IsAtMost n (lesser a b) → IsAtMost n a
lesser-first n None b most = tt
lesser-first n (Some a) None most = most
lesser-first n (Some a) (Some b) most = omega (arith, most)

pub lesser-second : (n : ℕ) (a b : Option ℕ) → IsAtMost n (lesser a b) → IsAtMost n b
lesser-second n None b most = most
lesser-second n (Some a) None most = tt
lesser-second n (Some a) (Some b) most = omega (arith, most)

-- ---- the one choice left
one_left : (units : List CodedUnit) (fixed : List (Option ℕ)) (choice : List ℕ) → AllZip IsSettled units fixed → AllZip HasVersion units choice → TakesFixed fixed choice → choice ≡ choice_left fixed
one_left [] [] [] settled fits takes = refl
one_left [] [] (k ∷ choice) settled fits takes = absurd fits
one_left [] (entry ∷ fixed) choice settled fits takes = absurd settled
one_left (unit ∷ units) [] choice settled fits takes = absurd settled
one_left (unit ∷ units) (entry ∷ fixed) [] settled fits takes = absurd fits
one_left (unit ∷ units) (None ∷ fixed) (k ∷ choice) settled fits takes =
    let own : k ≡ 0 = omega (arith, settled.0, fits.0) in
    ap₂ (λ (x : ℕ) (xs : List ℕ). x ∷ xs) own (one_left units fixed choice settled.1 fits.1 takes.1)
one_left (unit ∷ units) (Some fixed_at ∷ fixed) (k ∷ choice) settled fits takes =
    ap₂ (λ (x : ℕ) (xs : List ℕ). x ∷ xs) (sym takes.0) (one_left units fixed choice settled.1 fits.1 takes.1)

-- ---- leaves
windows_bound_least : (table : Table) (n : ℕ) (fixed : List (Option ℕ)) (node : Node) → IsValidTable table
    → n ≤ bound_of_value (value_of_windows table fixed (windows_in node)) → IsBound table fixed n
windows_bound_least table n fixed node valid most choice fits takes scheduled =
    omega (arith, most, windows_bound table fixed (windows_in node) valid choice fits takes scheduled)

run_bounds : (table : Table) (n : ℕ) (fixed : List (Option ℕ)) (scheduled : Bool) → IsRight table fixed (Run scheduled) → IsAtMost n (bound_of_run table (choice_left fixed) scheduled)
    → IsBound table fixed n
run_bounds table n fixed true right most choice fits takes scheduled =
    let left : choice ≡ choice_left fixed = one_left (units_of table) fixed choice right.0 fits takes in
    subst (λ (c : List ℕ). n ≤ distortion_of_choice table c) (sym left) most
run_bounds table n fixed false right most choice fits takes scheduled =
    let left : choice ≡ choice_left fixed = one_left (units_of table) fixed choice right.0 fits takes in
    absurd (right.1 (subst (λ (c : List ℕ). IsScheduled table c) left scheduled))

-- what is at most a bound is one, and where there is none no choice is scheduled
bound_or_none : (table : Table) (n : ℕ) (fixed : List (Option ℕ)) (bound : Option ℕ) → IsBoundOrNone table fixed bound → IsAtMost n bound → IsBound table fixed n
bound_or_none table n fixed (Some bound) is most choice fits takes scheduled = omega (arith, most, is choice fits takes scheduled)
bound_or_none table n fixed None is most choice fits takes scheduled = absurd (is choice fits takes scheduled)

leaf_bounds : (table : Table) (n : ℕ) (fixed : List (Option ℕ)) (node : Node) → IsValidTable table → IsLeaf node → IsRight table fixed node → IsAtMost n (bound_of_leaf table fixed node)
    → IsBound table fixed n
leaf_bounds table n fixed (Branch unit) valid is right most = absurd is
leaf_bounds table n fixed (Dual priced) valid is right most = windows_bound_least table n fixed (Dual priced) valid most
leaf_bounds table n fixed (Run scheduled) valid is right most = run_bounds table n fixed scheduled right most
leaf_bounds table n fixed Open valid is right most = windows_bound_least table n fixed Open valid most
leaf_bounds table n fixed (Window priced) valid is right most = windows_bound_least table n fixed (Window priced) valid most
leaf_bounds table n fixed (BufferWindow priced) valid is right most =
    bound_or_none table n fixed (bound_of_buffer_windows table fixed priced) (buffers_bound table fixed priced valid) most

-- ---- trees
-- what is at most the bound shown is a bound
abbrev IsShownBound : Table → (n : ℕ) → List (Option ℕ) → Walked → Type 0
IsShownBound table n fixed (Shows bound behind) = IsAtMost n bound → IsBound table fixed n
IsShownBound table n fixed (Stops why left) = Unit {0}

-- what is at most the least bound shown is a bound where the unit has each of the versions from k on
abbrev AreShownBounds : Table → (n : ℕ) → List (Option ℕ) → (unit k children : ℕ) → Walked → Type 0
AreShownBounds table n fixed unit k children (Shows bound behind) = IsAtMost n bound → (j : ℕ) → k ≤ j → j < k + children → IsBound table (fix unit j fixed) n
AreShownBounds table n fixed unit k children (Stops why left) = Unit {0}

has_unit : (table : Table) (unit : ℕ) → unit < length (units_of table)
    → (coded : CodedUnit) × (slice_get (units_of table) unit ≡ Some coded) × (versions_of table unit ≡ length coded.versions.items)
has_unit table unit within =
    let none_of : CodedUnit = record { due = 0; versions = record { items = [] } } in
    (get_or (units_of table) unit none_of, slice_get-get_or (units_of table) unit none_of within, refl)

branch_shown : (table : Table) (n : ℕ) (fixed : List (Option ℕ)) (unit : ℕ) (walked : Walked) → length fixed ≡ length (units_of table) → unit < length (units_of table)
    → AreShownBounds table n fixed unit 0 (versions_of table unit) walked → IsShownBound table n fixed walked
branch_shown table n fixed unit (Shows bound behind) size within each =
    let coded = has_unit table unit within in
    λ most. branch_bounds table fixed unit coded.0 n coded.1 (omega (arith, size, within)) (λ k has. each most k (omega arith) (omega (arith, has, coded.2)))
branch_shown table n fixed unit (Stops why left) size within each = tt

next_shown : (table : Table) (n : ℕ) (fixed : List (Option ℕ)) (unit k more : ℕ) (bound : Option ℕ) (walked : Walked) → (IsAtMost n bound → IsBound table (fix unit k fixed) n)
    → AreShownBounds table n fixed unit (k + 1) more walked → AreShownBounds table n fixed unit k (suc more) (beside bound walked)
next_shown table n fixed unit k more bound (Stops why left) first others = tt
next_shown table n fixed unit k more bound (Shows other behind) first others =
    λ most j low high. next_at j (lesser-first n bound other most) (lesser-second n bound other most) low high
  where
    at_first : (j d : ℕ) → j ≡ k + d → IsAtMost n bound → IsAtMost n other → d < suc more → IsBound table (fix unit j fixed) n
    at_first j zero is most_first most_other high = subst (λ (i : ℕ). IsBound table (fix unit i fixed) n) (omega (arith, is)) (first most_first)
    at_first j (suc d) is most_first most_other high = others most_other j (omega (arith, is)) (omega (arith, is, high))

    next_at : (j : ℕ) → IsAtMost n bound → IsAtMost n other → k ≤ j → j < k + suc more → IsBound table (fix unit j fixed) n
    next_at j most_first most_other low high = at_first j (j - k) (omega (arith, low)) most_first most_other (omega (arith, low, high))

mutual
  tree_bounds : (table : Table) (n : ℕ) → IsValidTable table → (fixed : List (Option ℕ)) (nodes : List Node) (walked : Walked) → Walks table fixed nodes walked
      → length fixed ≡ length (units_of table) → IsShownBound table n fixed walked
  tree_bounds table n valid fixed nodes walked (missing f) size = tt
  tree_bounds table n valid fixed nodes walked (wrong f node behind why first) size = tt
  tree_bounds table n valid fixed nodes walked (leaf f node behind is right) size = λ most. leaf_bounds table n f node valid is right most
  tree_bounds table n valid fixed nodes walked (branch f unit behind w right each) size =
      branch_shown table n f unit w size right.0 (children_bounds table n valid f unit 0 (versions_of table unit) behind w each size)

  children_bounds : (table : Table) (n : ℕ) → IsValidTable table → (fixed : List (Option ℕ)) (unit k children : ℕ) (nodes : List Node) (walked : Walked)
      → WalksEach table fixed unit k children nodes walked → length fixed ≡ length (units_of table) → AreShownBounds table n fixed unit k children walked
  children_bounds table n valid fixed unit k children nodes walked (none f u i ns) size = λ most j low high. absurd (omega (arith, low, high))
  children_bounds table n valid fixed unit k children nodes walked (stop f u i more ns why left first) size = tt
  children_bounds table n valid fixed unit k children nodes walked (next f u i more ns behind bound w first others) size =
      next_shown table n f u i more bound w (tree_bounds table n valid (fix u i f) ns (Shows bound behind) first (length-set f u (Some i) ∙ size))
      (children_bounds table n valid f u (i + 1) more behind w others size)

-- ---- the whole certificate
takes_nothing : (units : List CodedUnit) (choice : List ℕ) → AllZip HasVersion units choice → TakesFixed (map (λ (unit : CodedUnit). None) units) choice
takes_nothing [] [] fits = tt
takes_nothing [] (k ∷ choice) fits = absurd fits
takes_nothing (unit ∷ units) [] fits = absurd fits
takes_nothing (unit ∷ units) (k ∷ choice) fits = (tt, takes_nothing units choice fits.1)

pub faultless_bound : (table : Table) (cert : Cert) → IsValidTable table → IsFaultless table cert → (choice : List ℕ) → Fits table choice → IsScheduled table choice
    → cert.bound ≤ distortion_of_choice table choice
faultless_bound table cert valid right choice fits scheduled =
    tree_bounds table cert.bound valid (unfixed table) cert.nodes (Shows right.shown []) right.tree (length-map (units_of table) (λ (unit : CodedUnit). None)) right.bound choice fits
    (takes_nothing (units_of table) choice fits) scheduled

pub answer_sound : (table : Table) (cert : Cert) (result : Result ℕ CertFault) → IsValidTable table → IfOk result (λ bound. bound ≡ cert.bound) → OnOk result (IsFaultless table cert)
    → IfOk result (λ bound. (choice : List ℕ) → Fits table choice → IsScheduled table choice → bound ≤ distortion_of_choice table choice)
answer_sound table cert (Ok bound) valid same faultless = λ choice fits scheduled.
    subst (λ (n : ℕ). n ≤ distortion_of_choice table choice) (sym same) (faultless_bound table cert valid faultless choice fits scheduled)
answer_sound table cert (Err fault) valid same faultless = tt
