use Rattle.std.proofs.Common.{◌≡◌, ◌≤◌, refl, sym, subst, arith}
use Rattle.std.specs.BinaryHeap.{heap_items}
use Rattle.branch_plan.specs.declared.branching.Ended.{Ended as EndedTree}
use Rattle.branch_plan.specs.Private.Branching.{Ends}
use Rattle.branch_plan.proofs.Stepping.{best_of_empty, best_of_least}
use Rattle.branch_plan.proofs.branching.branch_least.Goals as goal

pub returns-in-None-clause-step : goal.returns-in-None-clause-step
returns-in-None-clause-step c =
    let growth = c.args.growth in
    subst (λ (e : EndedTree). Ends c.args.table.now c.args.nodes e × (e.known.distortion ≤ growth.known.distortion) × (e.found ≡ growth.found)) (sym c.as_best-in-None.ensures)
    (best_of_empty c.args.table.now c.args.nodes growth c.requires.valid c.requires.grown c.in-None.ensures.none, omega arith, refl)

pub returns-else-bound-growth-clause-step : goal.returns-else-bound-growth-clause-step
returns-else-bound-growth-clause-step c =
    let growth = c.args.growth in
    subst (λ (e : EndedTree). Ends c.args.table.now c.args.nodes e × (e.known.distortion ≤ growth.known.distortion) × (e.found ≡ growth.found)) (sym c.as_best.ensures) (
      best_of_least c.args.table.now c.args.nodes growth c.in-Some.field-0 (heap_items c.take_least.new.leaves) c.requires.valid c.requires.grown c.in-Some.ensures.taken c.in-Some.ensures.least
          (omega (arith, c.if-bound-growth.false)),
      omega arith,
      refl,
    )
