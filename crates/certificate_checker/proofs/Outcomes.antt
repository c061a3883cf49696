-- From the same nodes one thing comes: a bound or one first fault.
use Rattle.std.proofs.Common.{◌≡◌, ◌≢◌, ℕ, zero, suc, ◌+◌, ◌<◌, Bool, List, [], ◌∷◌, length, Option, None, Result, Ok, Err, IfOk, IfErr, OnOk, ◌⊎◌, inl, inr, refl, sym, ap, ap₂, subst, ◌∙◌, arith}
use Rattle.std.specs.List.{AllZip}
use Rattle.version_table.specs.declared.table.Unit.{Unit as CodedUnit}
use Rattle.version_table.specs.declared.table.Table.{Table}
use Rattle.version_table.specs.Choice.{Fits, HasVersion, distortion_of_choice}
use Rattle.version_table.specs.Table.{units_of}
use Rattle.slot_rule.specs.Schedule.{IsScheduled}
use Rattle.dual_bounds.specs.declared.windows.Window.{Window as PricedWindow}
use Rattle.buffer_windows.specs.declared.windows.BufferWindow.{BufferWindow as SeeingWindow}
use Rattle.bound_certificate.specs.declared.cert.Cert.{Cert}
use Rattle.bound_certificate.specs.declared.cert.Node.{Node}
use Rattle.bound_certificate.specs.declared.cert.Node.TheVariants.{Branch, Dual, Run, Open, Window, BufferWindow}
use Rattle.certificate_checker.specs.declared.why.Why.{Why}
use Rattle.certificate_checker.specs.declared.why.Why.TheVariants as whys
use Rattle.certificate_checker.specs.declared.why.CertFault.{CertFault}
use Rattle.certificate_checker.specs.Shown.{bound_of_leaf, choice_left, fix, unfixed, versions_of, windows_in}
use Rattle.certificate_checker.specs.Faults.{
  AreBufferWindows,
  AreRightBufferWindows,
  BufferWindowsRise,
  CountPrograms,
  IsFirstOfBufferWindows,
  KeepBufferLimit,
  IsFirstOfBranch,
  IsFirstOfHead,
  IsFirstOfNode,
  IsFirstOfRun,
  IsFirstOfWindows,
  IsFlagOf,
  IsFree,
  IsHeadRight,
  IsRight,
  KeepLimit,
  LeavesOne,
  NoneEmpty,
  Rise,
}
use Rattle.certificate_checker.specs.Walk.{IsLeaf, Shows, Stops, Walked, Walks, WalksEach, beside, missing, wrong, leaf, branch, none, stop, next}
use Rattle.certificate_checker.specs.Checked.{IsAtMost, IsFaultless, IsFirstFault, in_head, in_tree, behind_tree, in_bound}

-- ---- tests in order: what is wrong first, and that it is one
abbrev OneOfTwo : (first second : Why) → (a b : Type 0) → Why → Type 0
OneOfTwo first second a b why = ((why ≡ first) × (a → ⊥)) ⊎ ((why ≡ second) × a × (b → ⊥))

abbrev OneOfThree : (first second third : Why) → (a b c : Type 0) → Why → Type 0
OneOfThree first second third a b c why = ((why ≡ first) × (a → ⊥)) ⊎ (((why ≡ second) × a × (b → ⊥)) ⊎ ((why ≡ third) × a × b × (c → ⊥)))

one_of_two : (first second : Why) (a b : Type 0) (why other : Why) → OneOfTwo first second a b why → OneOfTwo first second a b other → why ≡ other
one_of_two first second a b why other (inl x) (inl y) = x.0 ∙ sym y.0
one_of_two first second a b why other (inl x) (inr y) = absurd (x.1 y.1)
one_of_two first second a b why other (inr x) (inl y) = absurd (y.1 x.1)
one_of_two first second a b why other (inr x) (inr y) = x.0 ∙ sym y.0

one_of_three : (first second third : Why) (a b c : Type 0) (why other : Why) → OneOfThree first second third a b c why → OneOfThree first second third a b c other → why ≡ other
one_of_three first second third a b c why other (inl x) (inl y) = x.0 ∙ sym y.0
one_of_three first second third a b c why other (inl x) (inr (inl y)) = absurd (x.1 y.1)
one_of_three first second third a b c why other (inl x) (inr (inr y)) = absurd (x.1 y.1)
one_of_three first second third a b c why other (inr (inl x)) (inl y) = absurd (y.1 x.1)
one_of_three first second third a b c why other (inr (inl x)) (inr (inl y)) = x.0 ∙ sym y.0
one_of_three first second third a b c why other (inr (inl x)) (inr (inr y)) = absurd (x.2 y.2)
one_of_three first second third a b c why other (inr (inr x)) (inl y) = absurd (y.1 x.1)
one_of_three first second third a b c why other (inr (inr x)) (inr (inl y)) = absurd (y.2 x.2)
one_of_three first second third a b c why other (inr (inr x)) (inr (inr y)) = x.0 ∙ sym y.0

none_of_two : (first second : Why) (a b : Type 0) (why : Why) → OneOfTwo first second a b why → a → b → ⊥
none_of_two first second a b why (inl x) is_a is_b = x.1 is_a
none_of_two first second a b why (inr x) is_a is_b = x.2 is_b

none_of_three : (first second third : Why) (a b c : Type 0) (why : Why) → OneOfThree first second third a b c why → a → b → c → ⊥
none_of_three first second third a b c why (inl x) is_a is_b is_c = x.1 is_a
none_of_three first second third a b c why (inr (inl x)) is_a is_b is_c = x.2 is_b
none_of_three first second third a b c why (inr (inr x)) is_a is_b is_c = x.3 is_c

abbrev OneOfFour : (first second third fourth : Why) → (a b c d : Type 0) → Why → Type 0
OneOfFour first second third fourth a b c d why =
    ((why ≡ first) × (a → ⊥)) ⊎ (((why ≡ second) × a × (b → ⊥)) ⊎ (((why ≡ third) × a × b × (c → ⊥)) ⊎ ((why ≡ fourth) × a × b × c × (d → ⊥))))

one_of_four : (first second third fourth : Why) (a b c d : Type 0) (why other : Why) → OneOfFour first second third fourth a b c d why
    → OneOfFour first second third fourth a b c d other → why ≡ other
one_of_four first second third fourth a b c d why other (inl x) (inl y) = x.0 ∙ sym y.0
one_of_four first second third fourth a b c d why other (inl x) (inr (inl y)) = absurd (x.1 y.1)
one_of_four first second third fourth a b c d why other (inl x) (inr (inr (inl y))) = absurd (x.1 y.1)
one_of_four first second third fourth a b c d why other (inl x) (inr (inr (inr y))) = absurd (x.1 y.1)
one_of_four first second third fourth a b c d why other (inr (inl x)) (inl y) = absurd (y.1 x.1)
one_of_four first second third fourth a b c d why other (inr (inl x)) (inr (inl y)) = x.0 ∙ sym y.0
one_of_four first second third fourth a b c d why other (inr (inl x)) (inr (inr (inl y))) = absurd (x.2 y.2)
one_of_four first second third fourth a b c d why other (inr (inl x)) (inr (inr (inr y))) = absurd (x.2 y.2)
one_of_four first second third fourth a b c d why other (inr (inr (inl x))) (inl y) = absurd (y.1 x.1)
one_of_four first second third fourth a b c d why other (inr (inr (inl x))) (inr (inl y)) = absurd (y.2 x.2)
one_of_four first second third fourth a b c d why other (inr (inr (inl x))) (inr (inr (inl y))) = x.0 ∙ sym y.0
one_of_four first second third fourth a b c d why other (inr (inr (inl x))) (inr (inr (inr y))) = absurd (x.3 y.3)
one_of_four first second third fourth a b c d why other (inr (inr (inr x))) (inl y) = absurd (y.1 x.1)
one_of_four first second third fourth a b c d why other (inr (inr (inr x))) (inr (inl y)) = absurd (y.2 x.2)
one_of_four first second third fourth a b c d why other (inr (inr (inr x))) (inr (inr (inl y))) = absurd (y.3 x.3)
one_of_four first second third fourth a b c d why other (inr (inr (inr x))) (inr (inr (inr y))) = x.0 ∙ sym y.0

none_of_four : (first second third fourth : Why) (a b c d : Type 0) (why : Why) → OneOfFour first second third fourth a b c d why → a → b → c → d → ⊥
none_of_four first second third fourth a b c d why (inl x) is_a is_b is_c is_d = x.1 is_a
none_of_four first second third fourth a b c d why (inr (inl x)) is_a is_b is_c is_d = x.2 is_b
none_of_four first second third fourth a b c d why (inr (inr (inl x))) is_a is_b is_c is_d = x.3 is_c
none_of_four first second third fourth a b c d why (inr (inr (inr x))) is_a is_b is_c is_d = x.4 is_d

-- ---- a node's first fault is one, and a right node has none
branch_cases : (table : Table) (fixed : List (Option ℕ)) (unit : ℕ) (why : Why) → IsFirstOfBranch table fixed unit why
    → OneOfTwo whys.UnitRange whys.UnitFixed (unit < length (units_of table)) (IsFree fixed unit) why
branch_cases table fixed unit whys.UnitRange is = inl (refl, λ within. omega (arith, is, within))
branch_cases table fixed unit whys.UnitFixed is = inr (refl, is.0, is.1)
branch_cases table fixed unit why is = absurd is

run_cases : (table : Table) (fixed : List (Option ℕ)) (scheduled : Bool) (why : Why) → IsFirstOfRun table fixed scheduled why
    → OneOfTwo whys.RunOpen whys.RunWrong (LeavesOne table fixed) (IsFlagOf table (choice_left fixed) scheduled) why
run_cases table fixed scheduled whys.RunOpen is = inl (refl, is)
run_cases table fixed scheduled whys.RunWrong is = inr (refl, is.0, is.1)
run_cases table fixed scheduled why is = absurd is

windows_cases : (windows : List PricedWindow) (why : Why) → IsFirstOfWindows windows why
    → OneOfThree whys.DueOrder whys.WindowEmpty whys.LambdaLimit (Rise windows) (NoneEmpty windows) (KeepLimit windows) why
windows_cases windows whys.DueOrder is = inl (refl, is)
windows_cases windows whys.WindowEmpty is = inr (inl (refl, is.0, is.1))
windows_cases windows whys.LambdaLimit is = inr (inr (refl, is.0, is.1, is.2))
windows_cases windows why is = absurd is

one_of_windows : (windows : List PricedWindow) (a b : Why) → IsFirstOfWindows windows a → IsFirstOfWindows windows b → a ≡ b
one_of_windows windows a b first second =
    one_of_three whys.DueOrder whys.WindowEmpty whys.LambdaLimit (Rise windows) (NoneEmpty windows) (KeepLimit windows) a b (windows_cases windows a first) (windows_cases windows b second)

none_of_windows : (windows : List PricedWindow) (why : Why) → IsFirstOfWindows windows why → Rise windows → NoneEmpty windows → KeepLimit windows → ⊥
none_of_windows windows why first =
    none_of_three whys.DueOrder whys.WindowEmpty whys.LambdaLimit (Rise windows) (NoneEmpty windows) (KeepLimit windows) why (windows_cases windows why first)

buffers_cases : (table : Table) (windows : List SeeingWindow) (why : Why) → IsFirstOfBufferWindows table windows why
    → OneOfFour whys.DueOrder whys.WindowEmpty whys.ProgramRange whys.LambdaLimit (BufferWindowsRise windows) (AreBufferWindows table.slot windows)
    (CountPrograms (length table.programs) windows) (KeepBufferLimit windows) why
buffers_cases table windows whys.DueOrder is = inl (refl, is)
buffers_cases table windows whys.WindowEmpty is = inr (inl (refl, is.0, is.1))
buffers_cases table windows whys.ProgramRange is = inr (inr (inl (refl, is.0, is.1, is.2)))
buffers_cases table windows whys.LambdaLimit is = inr (inr (inr (refl, is.0, is.1, is.2, is.3)))
buffers_cases table windows why is = absurd is

one_of_buffers : (table : Table) (windows : List SeeingWindow) (a b : Why) → IsFirstOfBufferWindows table windows a → IsFirstOfBufferWindows table windows b → a ≡ b
one_of_buffers table windows a b first second =
    one_of_four whys.DueOrder whys.WindowEmpty whys.ProgramRange whys.LambdaLimit (BufferWindowsRise windows) (AreBufferWindows table.slot windows)
    (CountPrograms (length table.programs) windows) (KeepBufferLimit windows) a b (buffers_cases table windows a first) (buffers_cases table windows b second)

none_of_buffers : (table : Table) (windows : List SeeingWindow) (why : Why) → IsFirstOfBufferWindows table windows why → AreRightBufferWindows table windows → ⊥
none_of_buffers table windows why first right =
    none_of_four whys.DueOrder whys.WindowEmpty whys.ProgramRange whys.LambdaLimit (BufferWindowsRise windows) (AreBufferWindows table.slot windows)
    (CountPrograms (length table.programs) windows) (KeepBufferLimit windows) why (buffers_cases table windows why first) right.rise right.some right.programs right.limit

one_of_node : (table : Table) (fixed : List (Option ℕ)) (node : Node) (a b : Why) → IsFirstOfNode table fixed node a → IsFirstOfNode table fixed node b → a ≡ b
one_of_node table fixed (Branch unit) a b first second =
    one_of_two whys.UnitRange whys.UnitFixed (unit < length (units_of table)) (IsFree fixed unit) a b (branch_cases table fixed unit a first) (branch_cases table fixed unit b second)
one_of_node table fixed (Dual priced) a b first second = one_of_windows (windows_in (Dual priced)) a b first second
one_of_node table fixed (Run scheduled) a b first second =
    one_of_two whys.RunOpen whys.RunWrong (LeavesOne table fixed) (IsFlagOf table (choice_left fixed) scheduled) a b
    (run_cases table fixed scheduled a first) (run_cases table fixed scheduled b second)
one_of_node table fixed Open a b first second = one_of_windows [] a b first second
one_of_node table fixed (Window priced) a b first second = one_of_windows priced.items a b first second
one_of_node table fixed (BufferWindow priced) a b first second = one_of_buffers table priced a b first second

none_of_right : (table : Table) (fixed : List (Option ℕ)) (node : Node) (why : Why) → IsFirstOfNode table fixed node why → IsRight table fixed node → ⊥
none_of_right table fixed (Branch unit) why first right =
    none_of_two whys.UnitRange whys.UnitFixed (unit < length (units_of table)) (IsFree fixed unit) why (branch_cases table fixed unit why first) right.0 right.1
none_of_right table fixed (Dual priced) why first right = none_of_windows (windows_in (Dual priced)) why first right.0 right.1 right.2
none_of_right table fixed (Run scheduled) why first right =
    none_of_two whys.RunOpen whys.RunWrong (LeavesOne table fixed) (IsFlagOf table (choice_left fixed) scheduled) why (run_cases table fixed scheduled why first) right.0 right.1
none_of_right table fixed Open why first right = none_of_windows [] why first right.0 right.1 right.2
none_of_right table fixed (Window priced) why first right = none_of_windows priced.items why first right.0 right.1 right.2
none_of_right table fixed (BufferWindow priced) why first right = none_of_buffers table priced why first right

-- ---- the head
abbrev OneOfHead : Table → Cert → Why → Type 0
OneOfHead table cert why =
    ((why ≡ whys.ChoiceLength) × (length cert.choice ≢ length (units_of table)))
    ⊎ (((why ≡ whys.ChoiceVersion) × (length cert.choice ≡ length (units_of table)) × (Fits table cert.choice → ⊥))
    ⊎ (((why ≡ whys.ChoiceMissed) × Fits table cert.choice × (IsScheduled table cert.choice → ⊥))
    ⊎ ((why ≡ whys.WrongDistortion) × Fits table cert.choice × IsScheduled table cert.choice × (cert.distortion ≢ distortion_of_choice table cert.choice))))

head_cases : (table : Table) (cert : Cert) (why : Why) → IsFirstOfHead table cert why → OneOfHead table cert why
head_cases table cert whys.ChoiceLength is = inl (refl, is)
head_cases table cert whys.ChoiceVersion is = inr (inl (refl, is.0, is.1))
head_cases table cert whys.ChoiceMissed is = inr (inr (inl (refl, is.0, is.1)))
head_cases table cert whys.WrongDistortion is = inr (inr (inr (refl, is.0, is.1, is.2)))
head_cases table cert why is = absurd is

pub as_many : (units : List CodedUnit) (choice : List ℕ) → AllZip HasVersion units choice → length choice ≡ length units
as_many [] [] fits = refl
as_many [] (k ∷ choice) fits = absurd fits
as_many (unit ∷ units) [] fits = absurd fits
as_many (unit ∷ units) (k ∷ choice) fits = ap suc (as_many units choice fits.1)

one_of_heads : (table : Table) (cert : Cert) (a b : Why) → OneOfHead table cert a → OneOfHead table cert b → a ≡ b
one_of_heads table cert a b (inl x) (inl y) = x.0 ∙ sym y.0
one_of_heads table cert a b (inl x) (inr (inl y)) = absurd (x.1 y.1)
one_of_heads table cert a b (inl x) (inr (inr (inl y))) = absurd (x.1 (as_many (units_of table) cert.choice y.1))
one_of_heads table cert a b (inl x) (inr (inr (inr y))) = absurd (x.1 (as_many (units_of table) cert.choice y.1))
one_of_heads table cert a b (inr (inl x)) (inl y) = absurd (y.1 x.1)
one_of_heads table cert a b (inr (inl x)) (inr (inl y)) = x.0 ∙ sym y.0
one_of_heads table cert a b (inr (inl x)) (inr (inr (inl y))) = absurd (x.2 y.1)
one_of_heads table cert a b (inr (inl x)) (inr (inr (inr y))) = absurd (x.2 y.1)
one_of_heads table cert a b (inr (inr (inl x))) (inl y) = absurd (y.1 (as_many (units_of table) cert.choice x.1))
one_of_heads table cert a b (inr (inr (inl x))) (inr (inl y)) = absurd (y.2 x.1)
one_of_heads table cert a b (inr (inr (inl x))) (inr (inr (inl y))) = x.0 ∙ sym y.0
one_of_heads table cert a b (inr (inr (inl x))) (inr (inr (inr y))) = absurd (x.2 y.2)
one_of_heads table cert a b (inr (inr (inr x))) (inl y) = absurd (y.1 (as_many (units_of table) cert.choice x.1))
one_of_heads table cert a b (inr (inr (inr x))) (inr (inl y)) = absurd (y.2 x.1)
one_of_heads table cert a b (inr (inr (inr x))) (inr (inr (inl y))) = absurd (y.2 x.2)
one_of_heads table cert a b (inr (inr (inr x))) (inr (inr (inr y))) = x.0 ∙ sym y.0

none_of_heads : (table : Table) (cert : Cert) (why : Why) → OneOfHead table cert why → IsHeadRight table cert → ⊥
none_of_heads table cert why (inl x) right = x.1 (as_many (units_of table) cert.choice right.fits)
none_of_heads table cert why (inr (inl x)) right = x.2 right.fits
none_of_heads table cert why (inr (inr (inl x))) right = x.2 right.scheduled
none_of_heads table cert why (inr (inr (inr x))) right = x.3 right.distortion

none_of_head : (table : Table) (cert : Cert) (why : Why) → IsFirstOfHead table cert why → IsHeadRight table cert → ⊥
none_of_head table cert why first right = none_of_heads table cert why (head_cases table cert why first) right

-- ---- a tree taken apart at its first node
abbrev InTree : Table → List (Option ℕ) → List Node → Walked → Type 0
InTree table fixed [] walked = walked ≡ Stops whys.NoNode 0
InTree table fixed (node ∷ behind) walked =
    ((why : Why) × IsFirstOfNode table fixed node why × (walked ≡ Stops why (suc (length behind))))
    ⊎ ((IsLeaf node × IsRight table fixed node × (walked ≡ Shows (bound_of_leaf table fixed node) behind))
    ⊎ ((unit : ℕ) × (node ≡ Branch unit) × IsRight table fixed node × WalksEach table fixed unit 0 (versions_of table unit) behind walked))

in_tree_of : (table : Table) (fixed : List (Option ℕ)) (nodes : List Node) (walked : Walked) → Walks table fixed nodes walked → InTree table fixed nodes walked
in_tree_of table fixed nodes walked (missing f) = refl
in_tree_of table fixed nodes walked (wrong f node behind why first) = inl (why, first, refl)
in_tree_of table fixed nodes walked (leaf f node behind is right) = inr (inl (is, right, refl))
in_tree_of table fixed nodes walked (branch f unit behind w right each) = inr (inr (unit, refl, right, each))

abbrev InEach : Table → List (Option ℕ) → (unit k children : ℕ) → List Node → Walked → Type 0
InEach table fixed unit k zero nodes walked = walked ≡ Shows None nodes
InEach table fixed unit k (suc more) nodes walked =
    ((why : Why) × (left : ℕ) × Walks table (fix unit k fixed) nodes (Stops why left) × (walked ≡ Stops why left))
    ⊎ ((bound : Option ℕ) × (behind : List Node) × (others : Walked) × Walks table (fix unit k fixed) nodes (Shows bound behind)
    × WalksEach table fixed unit (k + 1) more behind others × (walked ≡ beside bound others))

in_each_of : (table : Table) (fixed : List (Option ℕ)) (unit k children : ℕ) (nodes : List Node) (walked : Walked) → WalksEach table fixed unit k children nodes walked
    → InEach table fixed unit k children nodes walked
in_each_of table fixed unit k children nodes walked (none f u i ns) = refl
in_each_of table fixed unit k children nodes walked (stop f u i more ns why left first) = inl (why, left, first, refl)
in_each_of table fixed unit k children nodes walked (next f u i more ns behind bound w first others) = inr (bound, behind, w, first, others, refl)

-- ---- one thing comes
abbrev IsStop : Walked → Type 0
IsStop (Shows bound behind) = ⊥
IsStop (Stops why left) = Unit {0}

abbrev IsShown : Walked → Type 0
IsShown (Shows bound behind) = Unit {0}
IsShown (Stops why left) = ⊥

abbrev shown_bound : Walked → Option ℕ
shown_bound (Shows bound behind) = bound
shown_bound (Stops why left) = None

abbrev shown_behind : Walked → List Node
shown_behind (Shows bound behind) = behind
shown_behind (Stops why left) = []

abbrev pub branch_unit : Node → ℕ
branch_unit (Branch unit) = unit
branch_unit (Dual priced) = 0
branch_unit (Run scheduled) = 0
branch_unit Open = 0
branch_unit (Window priced) = 0
branch_unit (BufferWindow priced) = 0

one_wrong : (table : Table) (fixed : List (Option ℕ)) (node : Node) (behind : List Node) (why : Why) (b : Walked) → IsFirstOfNode table fixed node why → InTree table fixed (node ∷ behind) b
    → Stops why (suc (length behind)) ≡ b
one_wrong table fixed node behind why b first (inl (other, second, is)) = ap (λ (w : Why). Stops w (suc (length behind))) (one_of_node table fixed node why other first second) ∙ sym is
one_wrong table fixed node behind why b first (inr (inl (is_leaf, right, is))) = absurd (none_of_right table fixed node why first right)
one_wrong table fixed node behind why b first (inr (inr (unit, is, right, each))) = absurd (none_of_right table fixed node why first right)

one_leaf : (table : Table) (fixed : List (Option ℕ)) (node : Node) (behind : List Node) (b : Walked) → IsLeaf node → IsRight table fixed node → InTree table fixed (node ∷ behind) b
    → Shows (bound_of_leaf table fixed node) behind ≡ b
one_leaf table fixed node behind b is_leaf right (inl (why, first, is)) = absurd (none_of_right table fixed node why first right)
one_leaf table fixed node behind b is_leaf right (inr (inl (also, too, is))) = sym is
one_leaf table fixed node behind b is_leaf right (inr (inr (unit, is, too, each))) = absurd (subst IsLeaf is is_leaf)

one_branch : (table : Table) (fixed : List (Option ℕ)) (unit : ℕ) (behind : List Node) (a b : Walked) → IsRight table fixed (Branch unit)
    → ((other : Walked) → WalksEach table fixed unit 0 (versions_of table unit) behind other → a ≡ other) → InTree table fixed (Branch unit ∷ behind) b → a ≡ b
one_branch table fixed unit behind a b right one (inl (why, first, is)) = absurd (none_of_right table fixed (Branch unit) why first right)
one_branch table fixed unit behind a b right one (inr (inl (is_leaf, too, is))) = absurd is_leaf
one_branch table fixed unit behind a b right one (inr (inr (other, is, too, each))) =
    one b (subst (λ (u : ℕ). WalksEach table fixed u 0 (versions_of table u) behind b) (sym (ap branch_unit is)) each)

one_stop : (table : Table) (fixed : List (Option ℕ)) (unit k more : ℕ) (nodes : List Node) (why : Why) (left : ℕ) (b : Walked)
    → ((other : Walked) → Walks table (fix unit k fixed) nodes other → Stops why left ≡ other) → InEach table fixed unit k (suc more) nodes b → Stops why left ≡ b
one_stop table fixed unit k more nodes why left b one (inl (other, from, first, is)) = one (Stops other from) first ∙ sym is
one_stop table fixed unit k more nodes why left b one (inr (bound, behind, others, first, each, is)) = absurd (subst IsStop (one (Shows bound behind) first) tt)

one_next : (table : Table) (fixed : List (Option ℕ)) (unit k more : ℕ) (nodes behind : List Node) (bound : Option ℕ) (walked b : Walked)
    → ((other : Walked) → Walks table (fix unit k fixed) nodes other → Shows bound behind ≡ other)
    → ((other : Walked) → WalksEach table fixed unit (k + 1) more behind other → walked ≡ other) → InEach table fixed unit k (suc more) nodes b → beside bound walked ≡ b
one_next table fixed unit k more nodes behind bound walked b one others (inl (why, left, first, is)) = absurd (subst IsShown (one (Stops why left) first) tt)
one_next table fixed unit k more nodes behind bound walked b one others (inr (other, rest, more_walked, first, each, is)) =
    let same = one (Shows other rest) first in
    let here : bound ≡ other = ap shown_bound same in
    let there : walked ≡ more_walked = others more_walked (subst (λ (ns : List Node). WalksEach table fixed unit (k + 1) more ns more_walked) (sym (ap shown_behind same)) each) in
    ap₂ beside here there ∙ sym is

mutual
  one_walk : (table : Table) (fixed : List (Option ℕ)) (nodes : List Node) (a : Walked) → Walks table fixed nodes a → (b : Walked) → Walks table fixed nodes b → a ≡ b
  one_walk table fixed nodes a (missing f) b second = sym (in_tree_of table f [] b second)
  one_walk table fixed nodes a (wrong f node behind why first) b second = one_wrong table f node behind why b first (in_tree_of table f (node ∷ behind) b second)
  one_walk table fixed nodes a (leaf f node behind is right) b second = one_leaf table f node behind b is right (in_tree_of table f (node ∷ behind) b second)
  one_walk table fixed nodes a (branch f unit behind w right each) b second =
      one_branch table f unit behind w b right (λ other also. one_each table f unit 0 (versions_of table unit) behind w each other also) (in_tree_of table f (Branch unit ∷ behind) b second)

  one_each : (table : Table) (fixed : List (Option ℕ)) (unit k children : ℕ) (nodes : List Node) (a : Walked) → WalksEach table fixed unit k children nodes a
      → (b : Walked) → WalksEach table fixed unit k children nodes b → a ≡ b
  one_each table fixed unit k children nodes a (none f u i ns) b second = sym (in_each_of table f u i zero ns b second)
  one_each table fixed unit k children nodes a (stop f u i more ns why left first) b second =
      one_stop table f u i more ns why left b (λ other also. one_walk table (fix u i f) ns (Stops why left) first other also) (in_each_of table f u i (suc more) ns b second)
  one_each table fixed unit k children nodes a (next f u i more ns behind bound w first others) b second =
      one_next table f u i more ns behind bound w b (λ other also. one_walk table (fix u i f) ns (Shows bound behind) first other also)
      (λ other also. one_each table f u (i + 1) more behind w others other also) (in_each_of table f u i (suc more) ns b second)

-- ---- one first fault
-- the fault is that of what came of the whole tree
abbrev IsFaultOf : Cert → CertFault → Walked → Type 0
IsFaultOf cert fault (Stops why left) = (fault.why ≡ why) × (fault.node + left ≡ length cert.nodes)
IsFaultOf cert fault (Shows shown []) = (fault.why ≡ whys.BoundHigh) × (fault.node ≡ 0) × (IsAtMost cert.bound shown → ⊥)
IsFaultOf cert fault (Shows shown (node ∷ behind)) = (fault.why ≡ whys.ExtraNode) × (fault.node + length (node ∷ behind) ≡ length cert.nodes)

abbrev InCert : Table → Cert → CertFault → Type 0
InCert table cert fault =
    (IsFirstOfHead table cert fault.why × (fault.node ≡ 0))
    ⊎ ((walked : Walked) × IsHeadRight table cert × Walks table (unfixed table) cert.nodes walked × IsFaultOf cert fault walked)

behind_of : (table : Table) (cert : Cert) (fault : CertFault) (shown : Option ℕ) (behind : List Node) → 0 < length behind → fault.node + length behind ≡ length cert.nodes → fault.why ≡ whys.ExtraNode
    → IsFaultOf cert fault (Shows shown behind)
behind_of table cert fault shown [] some place why = absurd (omega (arith, some))
behind_of table cert fault shown (node ∷ behind) some place why = (why, place)

in_cert_of : (table : Table) (cert : Cert) (fault : CertFault) → IsFirstFault table cert fault → InCert table cert fault
in_cert_of table cert fault (in_head first zero_is) = inl (first, zero_is)
in_cert_of table cert fault (in_tree left right walks place) = inr (Stops fault.why left, right, walks, (refl, place))
in_cert_of table cert fault (behind_tree shown behind right walks some place why) = inr (Shows shown behind, right, walks, behind_of table cert fault shown behind some place why)
in_cert_of table cert fault (in_bound shown right walks high zero_is why) = inr (Shows shown [], right, walks, (why, zero_is, high))

same_fault : (a b : CertFault) → a.why ≡ b.why → a.node ≡ b.node → a ≡ b
same_fault a b why node = ap₂ (λ (n : ℕ) (w : Why). record { node = n; why = w }) node why

one_of_walked : (cert : Cert) (a b : CertFault) (walked : Walked) → IsFaultOf cert a walked → IsFaultOf cert b walked → a ≡ b
one_of_walked cert a b (Stops why left) first second = same_fault a b (first.0 ∙ sym second.0) (omega (arith, first.1, second.1))
one_of_walked cert a b (Shows shown []) first second = same_fault a b (first.0 ∙ sym second.0) (first.1 ∙ sym second.1)
one_of_walked cert a b (Shows shown (node ∷ behind)) first second = same_fault a b (first.0 ∙ sym second.0) (omega (arith, first.1, second.1))

one_in_cert : (table : Table) (cert : Cert) (a b : CertFault) → InCert table cert a → InCert table cert b → a ≡ b
one_in_cert table cert a b (inl x) (inl y) =
    same_fault a b (one_of_heads table cert a.why b.why (head_cases table cert a.why x.0) (head_cases table cert b.why y.0)) (x.1 ∙ sym y.1)
one_in_cert table cert a b (inl x) (inr (walked, right, walks, is)) = absurd (none_of_head table cert a.why x.0 right)
one_in_cert table cert a b (inr (walked, right, walks, is)) (inl y) = absurd (none_of_head table cert b.why y.0 right)
one_in_cert table cert a b (inr (walked, right, walks, is)) (inr (other, also, too, so)) =
    let same : other ≡ walked = one_walk table (unfixed table) cert.nodes other too walked walks in
    one_of_walked cert a b walked is (subst (λ (w : Walked). IsFaultOf cert b w) same so)

pub one_fault : (table : Table) (cert : Cert) (a b : CertFault) → IsFirstFault table cert a → IsFirstFault table cert b → a ≡ b
one_fault table cert a b first second = one_in_cert table cert a b (in_cert_of table cert a first) (in_cert_of table cert b second)

none_in_cert : (table : Table) (cert : Cert) (fault : CertFault) → IsFaultless table cert → InCert table cert fault → ⊥
none_in_cert table cert fault faultless (inl x) = none_of_head table cert fault.why x.0 faultless.head
none_in_cert table cert fault faultless (inr (walked, right, walks, is)) =
    let same : walked ≡ Shows faultless.shown [] = one_walk table (unfixed table) cert.nodes walked walks (Shows faultless.shown []) faultless.tree in
    (subst (λ (w : Walked). IsFaultOf cert fault w) same is).2 faultless.bound

pub no_fault : (table : Table) (cert : Cert) (fault : CertFault) → IsFaultless table cert → IsFirstFault table cert fault → ⊥
no_fault table cert fault faultless first = none_in_cert table cert fault faultless (in_cert_of table cert fault first)

-- ---- what the answers of a checker say
pub answer_faultless : (table : Table) (cert : Cert) (result : Result ℕ CertFault) → IfOk result (λ bound. bound ≡ cert.bound) → IfErr result (IsFirstFault table cert) → IsFaultless table cert
    → result ≡ Ok cert.bound
answer_faultless table cert (Ok bound) same first faultless = ap (λ (n : ℕ). Ok n) same
answer_faultless table cert (Err fault) same first faultless = absurd (no_fault table cert fault faultless first)

pub answer_fault : (table : Table) (cert : Cert) (result : Result ℕ CertFault) → OnOk result (IsFaultless table cert) → IfErr result (IsFirstFault table cert)
    → (fault : CertFault) → IsFirstFault table cert fault → result ≡ Err fault
answer_fault table cert (Ok bound) faultless first fault is = absurd (no_fault table cert fault faultless is)
answer_fault table cert (Err other) faultless first fault is = ap (λ (f : CertFault). Err f) (one_fault table cert other fault first is)
