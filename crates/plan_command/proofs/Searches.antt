-- What ended a search.
use Rattle.std.proofs.Common.{◌≡◌, refl}
use Rattle.branch_plan.specs.declared.planner.Search.{Search}
use Rattle.branch_plan.specs.declared.planner.Search.TheVariants.{Budget, Optimal}

-- what isn't optimal was ended by a budget
pub budget_else : (search : Search) → (search ≡ Optimal → ⊥) → search ≡ Budget
budget_else Optimal other = absurd (other refl)
budget_else Budget other = refl
