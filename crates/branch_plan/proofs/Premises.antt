-- What a choice is measured by: the smallest and the level choices.
use Rattle.std.proofs.Common.{◌≡◌, ℕ, ◌-◌, ◌<◌, ◌≤◌, List, sym, subst, inl, inr, arith}
use Rattle.std.proofs.lemmas.Bool.{cases_lt}
use Rattle.version_table.specs.declared.limits.TheConstants.{VERSIONS_MOST}
use Rattle.version_table.specs.declared.table.Table.{Table}
use Rattle.version_table.specs.Choice.{IsSmallestChoice, distortion_of_choice}
use Rattle.version_table.specs.Table.{IsValidTable}
use Rattle.version_table.proofs.Chosen.{levels_end, smallest_is_one}
use Rattle.slot_rule.specs.Schedule.{IsScheduled}
use Rattle.branch_plan.specs.Plan.{IsNoWorseThanLevels, SmallestIsScheduled}
use Rattle.branch_plan.specs.Private.Known.{IsNoWorseThanLevel}

-- what is no worse than the levels below the most versions is no worse than any
no_worse_than_any : (table : Table) (best : ℕ) → IsValidTable table → ((level : ℕ) → level < VERSIONS_MOST → IsNoWorseThanLevel table level best)
    → (level : ℕ) → IsNoWorseThanLevel table level best
no_worse_than_any table best valid levels level =
    elim (cases_lt level VERSIONS_MOST) as (λ _. IsNoWorseThanLevel table level best) [
      | inl below ↦ levels level below
      | inr above ↦
          subst (λ (choice : List ℕ). IsScheduled table choice → best ≤ distortion_of_choice table choice)
          (sym (levels_end table level valid (omega (arith, above)))) (levels (VERSIONS_MOST - 1) (omega arith))
    ]

pub no_worse : (table : Table) (smallest : List ℕ) (start best : ℕ) → IsValidTable table → IsSmallestChoice table smallest → start ≡ distortion_of_choice table smallest → best ≤ start
    → ((level : ℕ) → level < VERSIONS_MOST → IsNoWorseThanLevel table level best) → IsNoWorseThanLevels table best
no_worse table smallest start best valid is same most levels premise (inl other) scheduled =
    subst (λ (choice : List ℕ). best ≤ distortion_of_choice table choice) (smallest_is_one table smallest premise is other) (subst (λ (n : ℕ). best ≤ n) same most)
no_worse table smallest start best valid is same most levels premise (inr level) scheduled =
    subst (λ (choice : List ℕ). best ≤ distortion_of_choice table choice) (sym level.1)
    (no_worse_than_any table best valid levels level.0 (subst (λ (choice : List ℕ). IsScheduled table choice) level.1 scheduled))

pub smallest_scheduled : (table : Table) (smallest : List ℕ) → IsSmallestChoice table smallest → IsScheduled table smallest → SmallestIsScheduled table
smallest_scheduled table smallest is scheduled other also = subst (λ (choice : List ℕ). IsScheduled table choice) (smallest_is_one table smallest other is also) scheduled
