-- What single changes owe for the runs of a plan, while runs are spent on other choices too.
use Rattle.std.specs.Prelude.{◌≡◌, ◌≢◌, ℕ, ◌+◌, ◌*◌, ◌/◌, ◌<◌, ◌≤◌, cond, Bool, true, length}
use Rattle.version_table.specs.declared.table.Table.{Table}
use Rattle.version_table.specs.Table.{units_of}
use Rattle.branch_plan.specs.declared.debt.Debt.{Debt}
use Rattle.branch_plan.specs.declared.limits.TheConstants.{CHANGES_MOST}
use Rattle.branch_plan.specs.declared.owing.Owing.{Owing}
use Rattle.branch_plan.specs.Changes.{IsBestAlone, change_count}
use Rattle.branch_plan.specs.Private.Known.{IsKnown}

-- a debt counts the single changes of a table
pub record IsDebtOf (table : Table) (debt : Debt) : Type 0 where
  pub changes : debt.changes ≡ change_count table
  pub few : debt.changes ≤ CHANGES_MOST

-- runs enough for a whole round behind each of so many changes
abbrev pub runs_for_all : (changes : ℕ) → ℕ
runs_for_all changes = 1 + (changes + 1) * changes

-- with so many runs left single changes of a choice of this distortion can still bring what they owe over a start: runs for all changes where
-- all runs were as many; else each whole round that is left lowers the distortion by one. A round that has failed counts as one.
pub record CanPay (changes evaluations start distortion left : ℕ) (failed : Bool) : Type 0 where
  pub for_all : runs_for_all changes ≤ evaluations → runs_for_all changes ≤ left
  pub rounds : changes ≢ 0 → evaluations < runs_for_all changes → distortion + evaluations / changes ≤ start + (left / changes + cond failed 1 0)

-- a known choice, no worse than the start, of which single changes can still bring what they owe; where a round has failed, none of it helps
pub record IsOwing (table : Table) (debt : Debt) (owing : Owing) : Type 0 where
  pub known : IsKnown table owing.known
  pub kept : owing.known.distortion ≤ debt.start
  pub place : owing.place ≤ length (units_of table)
  pub alone : owing.alone ≡ true → IsBestAlone table owing.known.choice
  pub pays : CanPay debt.changes debt.evaluations debt.start owing.known.distortion owing.left owing.alone
