-- What can be wrong with the head of a certificate and with a node by itself.
use Rattle.std.specs.Prelude.{◌≡◌, ◌≢◌, ℕ, ◌+◌, ◌^◌, ◌<◌, ◌≤◌, ◌⊎◌, Bool, true, false, List, length, All, slice_index_or, Option, Some, None}
use Rattle.std.specs.List.{AllZip}
use Rattle.version_table.specs.declared.table.Unit.{Unit as CodedUnit}
use Rattle.version_table.specs.declared.table.Table.{Table}
use Rattle.version_table.specs.Choice.{Fits, distortion_of_choice}
use Rattle.version_table.specs.Table.{units_of}
use Rattle.slot_rule.specs.Schedule.{IsScheduled}
use Rattle.dual_bounds.specs.declared.constants.TheConstants.{LAMBDA_MOST}
use Rattle.dual_bounds.specs.declared.windows.Window.{Window as PricedWindow}
use Rattle.buffer_windows.specs.declared.windows.BufferWindow.{BufferWindow as SeeingWindow}
use Rattle.buffer_windows.specs.Windows.{IsBufferWindow}
use Rattle.bound_certificate.specs.declared.cert.Cert.{Cert}
use Rattle.bound_certificate.specs.declared.cert.Node.{Node}
use Rattle.bound_certificate.specs.declared.cert.Node.TheVariants.{Branch, Run, BufferWindow}
use Rattle.certificate_checker.specs.declared.why.Why.{Why}
use Rattle.certificate_checker.specs.declared.why.Why.TheVariants as whys
use Rattle.certificate_checker.specs.Shown.{choice_left, windows_in}

-- one window goes before another: it is due earlier, or at the same time and begins earlier
abbrev pub WindowGoesBefore : PricedWindow → PricedWindow → Type 0
WindowGoesBefore a b = (a.due < b.due) ⊎ ((a.due ≡ b.due) × (a.from < b.from))

-- each window goes before the next
abbrev pub Rise : List PricedWindow → Type 0
Rise windows = (k : ℕ) (d : PricedWindow) → k + 1 < length windows → WindowGoesBefore (slice_index_or windows k d) (slice_index_or windows (k + 1) d)

-- no window begins behind its due time
abbrev pub NoneEmpty : List PricedWindow → Type 0
NoneEmpty windows = All (λ window. window.from ≤ window.due) windows

-- no lambda passes its limit
abbrev pub KeepLimit : List PricedWindow → Type 0
KeepLimit windows = All (λ window. window.lambda ≤ LAMBDA_MOST) windows

-- nothing is wrong with windows
abbrev pub AreRight : List PricedWindow → Type 0
AreRight windows = Rise windows × NoneEmpty windows × KeepLimit windows

-- ---- windows that see the buffers
-- one goes before another: by its due time, then its first slot, then its tail, then its programs
abbrev pub BufferWindowGoesBefore : SeeingWindow → SeeingWindow → Type 0
BufferWindowGoesBefore a b =
    (a.due < b.due)
    ⊎ ((a.due ≡ b.due) × ((a.first < b.first) ⊎ ((a.first ≡ b.first) × ((a.tail < b.tail) ⊎ ((a.tail ≡ b.tail) × (a.programs < b.programs))))))

-- each goes before the next
abbrev pub BufferWindowsRise : List SeeingWindow → Type 0
BufferWindowsRise windows =
    (k : ℕ) (d : SeeingWindow) → k + 1 < length windows → BufferWindowGoesBefore (slice_index_or windows k d) (slice_index_or windows (k + 1) d)

-- each has its tail between its first slot and the last that ends in time, and due times behind its beginning
abbrev pub AreBufferWindows : (slot : ℕ) → List SeeingWindow → Type 0
AreBufferWindows slot windows = All (IsBufferWindow slot) windows

-- none counts the buffer of a program that there isn't: of so many programs
abbrev pub CountPrograms : (programs : ℕ) → List SeeingWindow → Type 0
CountPrograms programs windows = All (λ window. window.programs < 2 ^ programs) windows

-- no lambda passes its limit
abbrev pub KeepBufferLimit : List SeeingWindow → Type 0
KeepBufferLimit windows = All (λ window. window.lambda ≤ LAMBDA_MOST) windows

-- nothing is wrong with windows that see the buffers
pub record AreRightBufferWindows (table : Table) (windows : List SeeingWindow) : Type 0 where
  pub rise : BufferWindowsRise windows
  pub some : AreBufferWindows table.slot windows
  pub programs : CountPrograms (length table.programs) windows
  pub limit : KeepBufferLimit windows

-- what is wrong with them first, over all of them
abbrev pub IsFirstOfBufferWindows : Table → List SeeingWindow → Why → Type 0
IsFirstOfBufferWindows table windows whys.DueOrder = BufferWindowsRise windows → ⊥
IsFirstOfBufferWindows table windows whys.WindowEmpty = BufferWindowsRise windows × (AreBufferWindows table.slot windows → ⊥)
IsFirstOfBufferWindows table windows whys.ProgramRange =
    BufferWindowsRise windows × AreBufferWindows table.slot windows × (CountPrograms (length table.programs) windows → ⊥)
IsFirstOfBufferWindows table windows whys.LambdaLimit =
    BufferWindowsRise windows × AreBufferWindows table.slot windows × CountPrograms (length table.programs) windows × (KeepBufferLimit windows → ⊥)
IsFirstOfBufferWindows table windows why = ⊥

-- ---- choices
-- a unit is fixed or has one version
abbrev pub IsSettled : CodedUnit → Option ℕ → Type 0
IsSettled unit None = length unit.versions.items ≤ 1
IsSettled unit (Some k) = Unit {0}

-- one choice is left: each unit is settled
abbrev pub LeavesOne : Table → List (Option ℕ) → Type 0
LeavesOne table fixed = AllZip IsSettled (units_of table) fixed

-- whether a choice is scheduled is as stated
abbrev pub IsFlagOf : Table → List ℕ → Bool → Type 0
IsFlagOf table choice true = IsScheduled table choice
IsFlagOf table choice false = IsScheduled table choice → ⊥

-- no version of the unit is fixed
abbrev pub IsFree : List (Option ℕ) → (unit : ℕ) → Type 0
IsFree fixed unit = slice_index_or fixed unit None ≡ None

-- nothing is wrong with a node by itself, where these versions are fixed
abbrev pub IsRight : Table → List (Option ℕ) → Node → Type 0
IsRight table fixed (Branch unit) = (unit < length (units_of table)) × IsFree fixed unit
IsRight table fixed (Run scheduled) = LeavesOne table fixed × IsFlagOf table (choice_left fixed) scheduled
IsRight table fixed (BufferWindow priced) = AreRightBufferWindows table priced
IsRight table fixed node = AreRight (windows_in node)

-- what is wrong with a branch first
abbrev pub IsFirstOfBranch : Table → List (Option ℕ) → (unit : ℕ) → Why → Type 0
IsFirstOfBranch table fixed unit whys.UnitRange = length (units_of table) ≤ unit
IsFirstOfBranch table fixed unit whys.UnitFixed = (unit < length (units_of table)) × (IsFree fixed unit → ⊥)
IsFirstOfBranch table fixed unit why = ⊥

-- what is wrong with a choice that was tried first
abbrev pub IsFirstOfRun : Table → List (Option ℕ) → (scheduled : Bool) → Why → Type 0
IsFirstOfRun table fixed scheduled whys.RunOpen = LeavesOne table fixed → ⊥
IsFirstOfRun table fixed scheduled whys.RunWrong = LeavesOne table fixed × (IsFlagOf table (choice_left fixed) scheduled → ⊥)
IsFirstOfRun table fixed scheduled why = ⊥

-- what is wrong with windows first, over all of them
abbrev pub IsFirstOfWindows : List PricedWindow → Why → Type 0
IsFirstOfWindows windows whys.DueOrder = Rise windows → ⊥
IsFirstOfWindows windows whys.WindowEmpty = Rise windows × (NoneEmpty windows → ⊥)
IsFirstOfWindows windows whys.LambdaLimit = Rise windows × NoneEmpty windows × (KeepLimit windows → ⊥)
IsFirstOfWindows windows why = ⊥

-- what is wrong with a node by itself first, where these versions are fixed
abbrev pub IsFirstOfNode : Table → List (Option ℕ) → Node → Why → Type 0
IsFirstOfNode table fixed (Branch unit) why = IsFirstOfBranch table fixed unit why
IsFirstOfNode table fixed (Run scheduled) why = IsFirstOfRun table fixed scheduled why
IsFirstOfNode table fixed (BufferWindow priced) why = IsFirstOfBufferWindows table priced why
IsFirstOfNode table fixed node why = IsFirstOfWindows (windows_in node) why

-- nothing is wrong with the choice and its distortion
pub record IsHeadRight (table : Table) (cert : Cert) : Type 0 where
  pub fits : Fits table cert.choice
  pub scheduled : IsScheduled table cert.choice
  pub distortion : cert.distortion ≡ distortion_of_choice table cert.choice

-- what is wrong with the choice and its distortion first
abbrev pub IsFirstOfHead : Table → Cert → Why → Type 0
IsFirstOfHead table cert whys.ChoiceLength = length cert.choice ≢ length (units_of table)
IsFirstOfHead table cert whys.ChoiceVersion = (length cert.choice ≡ length (units_of table)) × (Fits table cert.choice → ⊥)
IsFirstOfHead table cert whys.ChoiceMissed = Fits table cert.choice × (IsScheduled table cert.choice → ⊥)
IsFirstOfHead table cert whys.WrongDistortion =
    Fits table cert.choice × IsScheduled table cert.choice × (cert.distortion ≢ distortion_of_choice table cert.choice)
IsFirstOfHead table cert why = ⊥
