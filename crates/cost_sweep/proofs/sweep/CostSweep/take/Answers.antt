use Rattle.std.proofs.Common.{◌+◌, ◌≤◌, refl, ap, subst, arith}
use Rattle.cost_sweep.specs.declared.step.CostStep.{CostStep}
use Rattle.cost_sweep.specs.Sweep.{counted}
use Rattle.cost_sweep.proofs.Swept.{Grows, rest-covers, takes, tree-room}
use Rattle.cost_sweep.proofs.sweep.CostSweep.take.Goals as goal

pub add-requires-clause-tree : goal.add-requires-clause-tree
add-requires-clause-tree c =
    let old = c.args.self.now in
    tree-room old (λ (s : CostStep). s.rise) old.rises c.step_at-step.result c.from.result c.requires.sweep.rises c.requires.sweep.sorted.small.rises c.requires.more c.step_at-step.ensures c.from.ensures

pub add-requires-2-clause-tree : goal.add-requires-2-clause-tree
add-requires-2-clause-tree c =
    let old = c.args.self.now in
    tree-room old (λ (s : CostStep). s.fewer) old.fewer c.step_at-step.result c.from-2.result c.requires.sweep.fewer (omega (arith, c.requires.sweep.sorted.small.fewer)) c.requires.more c.step_at-step.ensures c.from-2.ensures

pub overflow_sub-self : goal.overflow_sub-self
overflow_sub-self c =
    omega (arith, rest-covers c.args.self.now c.step_at-step.result c.requires.sweep c.requires.more c.step_at-step.ensures, c.from-4.ensures, c.own_at_0.ensures)

pub returns-clause-sweep : goal.returns-clause-sweep
returns-clause-sweep c =
    let old = c.args.self.now in
    let step = c.step_at-step.result in
    let place = c.place_before-place.result in
    let rises : Grows old.rises place c.from.result c.add.new.self = record { height = c.add.ensures.height; tree = c.add.ensures.tree } in
    let fewer : Grows old.fewer place c.from-2.result c.add-2.new.self = record { height = c.add-2.ensures.height; tree = c.add-2.ensures.tree } in
    let rest : counted (λ s. s.rise) 0 step ≤ old.rest = rest-covers old step c.requires.sweep c.requires.more c.step_at-step.ensures in
    takes old _ step place c.requires.sweep c.requires.more c.step_at-step.ensures c.place_before-place.ensures refl refl refl
    (subst (λ n. Grows old.rises place n c.add.new.self) c.from.ensures rises) (subst (λ n. Grows old.fewer place n c.add-2.new.self) c.from-2.ensures fewer)
    (ap (λ n. old.packets + n) c.from-3.ensures) (omega (arith, c.from-4.ensures, c.own_at_0.ensures))
