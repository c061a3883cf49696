-- What a plan of a table is: a scheduled choice, and a certificate of the bound below it.
use Rattle.std.specs.Prelude.{◌≡◌, ℕ, ◌≤◌, ◌⊎◌, ◌↔◌, List, [], Some}
use Rattle.version_table.specs.declared.table.Table.{Table}
use Rattle.version_table.specs.Choice.{Fits, IsSmallestChoice, distortion_of_choice, level_choice}
use Rattle.slot_rule.specs.Schedule.{IsFirstMiss, IsScheduled}
use Rattle.bound_certificate.specs.declared.cert.Cert.{Cert}
use Rattle.certificate_checker.specs.Shown.{unfixed}
use Rattle.certificate_checker.specs.Walk.{Shows, Walks}
use Rattle.branch_plan.specs.declared.planner.PlanFault.{PlanFault}
use Rattle.branch_plan.specs.declared.planner.PlanFault.TheVariants.{Missed, OutOfMemory}
use Rattle.branch_plan.specs.declared.planner.Planned.{Planned}
use Rattle.branch_plan.specs.declared.planner.Search.TheVariants.{Optimal}

-- there is no plan: the smallest choice has this first miss; or memory was wanted
abbrev pub IsMissOfSmallest : Table → PlanFault → Type 0
IsMissOfSmallest table (Missed miss) = (choice : List ℕ) × IsSmallestChoice table choice × IsFirstMiss table choice miss
IsMissOfSmallest table OutOfMemory = Unit {0}

-- there is a plan: the smallest choice is scheduled
abbrev pub SmallestIsScheduled : Table → Type 0
SmallestIsScheduled table = (choice : List ℕ) → IsSmallestChoice table choice → IsScheduled table choice

-- the bound is that of the root: the nodes are one tree without fault, and it shows this bound
abbrev pub ShowsItsBound : Table → Cert → Type 0
ShowsItsBound table cert = Walks table (unfixed table) cert.nodes (Shows (Some cert.bound) [])

-- the search has found the best choice exactly where the bound is the distortion
abbrev pub SaysOptimal : Planned → Type 0
SaysOptimal planned = (planned.search ≡ Optimal) ↔ (planned.cert.bound ≡ planned.cert.distortion)

-- no scheduled choice has less distortion than this
abbrev pub BoundsAll : Table → (bound : ℕ) → Type 0
BoundsAll table bound = (choice : List ℕ) → Fits table choice → IsScheduled table choice → bound ≤ distortion_of_choice table choice

-- a choice that a plan is measured by: the smallest, or a level choice
abbrev pub IsPremise : Table → (choice : List ℕ) → Type 0
IsPremise table choice = IsSmallestChoice table choice ⊎ ((level : ℕ) × (choice ≡ level_choice table level))

-- a distortion is at most that of the smallest choice and of each level choice, where they are scheduled
abbrev pub IsNoWorseThanLevels : Table → (distortion : ℕ) → Type 0
IsNoWorseThanLevels table distortion = (premise : List ℕ) → IsPremise table premise → IsScheduled table premise → distortion ≤ distortion_of_choice table premise
